-- `Text::hex` calls itself with one place less.
use Rattle.text.proofs.Text.+hex.Given as goal

abbrev pub decreases-hex : goal.decreases-hex
decreases-hex l = l.places
