-- `Text::decimal` calls itself with one place less.
use Rattle.text.proofs.Text.+decimal.Given as goal

abbrev pub decreases-decimal : goal.decreases-decimal
decreases-decimal l = l.places
