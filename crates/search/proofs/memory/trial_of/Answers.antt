-- `search::memory::trial_of`: an entry in use that has the key holds the trial, and a new one is put into its entry.
use mathlib.Core.Path.{sym, subst}
use lib.Dec.{T}
use Rattle.search.proofs.Memos.{kept}
use Rattle.search.proofs.memory.trial_of.Goals as goal

pub returns-clause-still_remembered : goal.returns-clause-still_remembered
returns-clause-still_remembered c =
    kept _ _ _ (subst T (sym c.well_formed.1.0.1) tt) _ _ (rw c.setup-u.ensures.setup at c.bandwidth_at-b.ensures) c.key_of-key.ensures c.requires.remembered _ _ c.evaluate_aicc-trial.ensures c.slot_of-j.ensures.within
