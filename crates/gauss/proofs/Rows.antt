-- Rows of a matrix that stay as they are.
use Prim.Native.Nat.{ℕ, ◌+◌, ◌<◌}
use mathlib.Core.Path.{◌≡◌, refl, sym, ap, ◌∙◌}
use mathlib.Core.Bool.{Bool, true, false, cond}
use mathlib.Core.List.{[], ◌++◌}
use native.Mathlib.Omega.{arith}
use lib.ListN.{length, take, drop, get_or, set, take-append-drop}
use Rattle.std.proofs.lemmas.List.{get_or_append_left, set-append_left}
use lib.Seq.{set-get_or, get_or-set_other}
use lib.Dec.{eqb}
use borrow.Author.Tests.{eqb-false}
use Rattle.real.proofs.Fold.{Range, none, more}
use Rattle.real.specs.Matrix.{Matrix, Row}
use Rattle.gauss.specs.Gauss.{clear_step, clear_row}

-- row i, where row k is left as it is or is another
other : (a : Matrix) (i k : ℕ) (x : Row) (t : Bool) → eqb k i ≡ t → get_or (set a k (cond t (get_or a k []) x)) i [] ≡ get_or a i []
other a i k x true e = rw (set-get_or a k [])
other a i k x false e = get_or-set_other a k i x [] (λ q. eqb-false k i e (sym q))

-- the rows up to k - 1 cleared by `by`, which row i is still
pub record Clearing (a₀ : Matrix) (i n m : ℕ) (by : Row) (k : ℕ) (a : Matrix) : Type 0 where
  pub turned : Range (clear_step i m) a₀ 0 n k a
  pub stays : get_or a i [] ≡ by

next : {a₀ a : Matrix} {i n m k : ℕ} {by x : Row} → Clearing a₀ i n m by k a → k < n → x ≡ clear_row k i by m (get_or a k []) → Clearing a₀ i n m by (k + 1) (set a k x)
unfolding clear_step clear_row
next {a₀} {a} {i} {n} {m} {k} {by} {x} c l h =
    let s : set a k x ≡ clear_step i m k a = ap (set a k) (h ∙ ap (λ (b : Row). clear_row k i b m (get_or a k [])) (sym c.stays)) in
    record {
      turned = more c.turned l s;
      stays = ap (λ (z : Matrix). get_or z i []) s ∙ other a i k _ (eqb k i) refl ∙ c.stays;
    }

-- the same of the first n rows, with the others behind them
pub uncleared : (i n m : ℕ) (a : Matrix) → Clearing a i n m (get_or a i []) 0 (take n a ++ drop n a)
uncleared i n m a = rw (take-append-drop n a) (record { turned = none (omega arith); stays = refl })

pub clearing : {a₀ : Matrix} (rows rest : Matrix) {i n m k : ℕ} {by x : Row} → Clearing a₀ i n m by k (rows ++ rest) → k < length rows → k < n → x ≡ clear_row k i by m (get_or rows k []) → Clearing a₀ i n m by (k + 1) (set rows k x ++ rest)
clearing {a₀} rows rest {i} {n} {m} {k} {by} {x} c within l h =
    rw (← set-append_left rows rest k x within) (next c l (h ∙ ap (clear_row k i by m) (sym (get_or_append_left rows rest [] k within))))
