-- The fit call's parts, one law for each arm of the code.
use Rattle.std.specs.Prelude.{Result, Ok, Err, IfOk}
use mathlib.Core.Path.{◌≡◌, refl, sym, ap, subst, ◌∙◌}
use mathlib.Core.Bool.{Bool, true, false, cond}
use mathlib.Core.List.{List}
use Prim.Native.Nat.{ℕ, ◌+◌, ◌*◌, ◌/◌, ◌≤◌}
use native.Mathlib.Nat.{mul-le-mul}
use native.Mathlib.Omega.{arith}
use borrow.Author.Tests.{ltb-false}
use lib.Dec.{ltb}
use lib.ListN.{length, take, replicate}
use lib.Ieee.{Float}
use Rattle.real.specs.Reals.{zero64, one64}
use Rattle.wire.specs.Wire.{reals, real_bytes, placed}
use Rattle.wire.proofs.Decoding.{length_reals}
use Rattle.refusal.specs.declared.Refusal.{Refusal}
use Rattle.refusal.specs.Numbers.{refusal_number}
use Rattle.setup.specs.declared.GwrOptions.{GwrOptions}
use Rattle.setup.specs.Data.{Data, trusted_data}
use Rattle.sweep.specs.Finish.{finish_number}
use Rattle.gwr.specs.declared.Fit.{Fit}
use Rattle.gwr.specs.Fit.{gwr_fit, rows_written}
use Rattle.calls.specs.Calls.{AfterCall, numbers_of, placed_rows, answer_bytes, fitted_bytes, fit_parts, room_of, summary_bytes, Offered}
use Rattle.gwr.proofs.Bounds.{Made, Fits, fits}

pub triple : {n m : ℕ} {a b c d : List ℕ} → n ≡ m → a ≡ b → c ≡ d → ◌≡◌ {A = AfterCall} (n, (a, c)) (m, (b, d))
triple p q r = cc

-- ---- an answer's bytes where the input was refused

module _ (a : Result Fit Refusal) (rows : List Float) (out summary : List ℕ) where
  pub answer_rejected : (r : Refusal) (n : ℕ) → a ≡ Err r → n ≡ refusal_number r → ◌≡◌ {A = AfterCall} (n, (out, summary)) (answer_bytes a rows out summary)
  answer_rejected r n e i = triple i refl refl ∙ sym (ap (λ (z : Result Fit Refusal). answer_bytes z rows out summary) e)

-- ---- the room of a fit: at most what the output's bytes allow, and none without the summary's

pub room_bytes : (n p out summary : ℕ) → 8 * room_of n p out summary ≤ out
unfolding room_of
room_bytes n p out summary = go (ltb summary 24) (ltb out (8 * (n * (p + 4)))) refl
  where
    go : (a b : Bool) → ltb out (8 * (n * (p + 4))) ≡ b → 8 * cond a 0 (cond b 0 (n * (p + 4))) ≤ out
    go true b e = omega arith
    go false true e = omega arith
    go false false e = ltb-false _ _ e

pub room_summary : (n p out summary : ℕ) → 1 ≤ room_of n p out summary → 24 ≤ summary
unfolding room_of
room_summary n p out summary h = go (ltb summary 24) refl h
  where
    go : (a : Bool) → ltb summary 24 ≡ a → 1 ≤ cond a 0 (cond (ltb out (8 * (n * (p + 4)))) 0 (n * (p + 4))) → 24 ≤ summary
    go true e h = absurd (omega (arith, h))
    go false e h = ltb-false _ _ e

pub room_few : (n p out summary : ℕ) → n ≤ 512 → p ≤ 7 → room_of n p out summary ≤ 5632
unfolding room_of
room_few n p out summary h k = go (ltb summary 24) (ltb out (8 * (n * (p + 4))))
  where
    go : (a b : Bool) → cond a 0 (cond b 0 (n * (p + 4))) ≤ 5632
    go true b = omega arith
    go false true = omega arith
    go false false = let m : p + 4 ≤ 11 = omega (arith, k) in omega (arith, mul-le-mul h m)

module _ (n p out summary room : ℕ) (e : room ≡ room_of n p out summary) where
  pub room_small : n ≤ 512 → p ≤ 7 → room ≤ 5632
  room_small h k = omega (arith, room_few n p out summary h k, e)

  pub offered : (rows : ℕ) → room ≡ rows → Offered rows out summary
  offered rows i =
      record { bytes = omega (arith, room_bytes n p out summary, e, i); whole = λ h. room_summary n p out summary (omega (arith, h, e, i)) }

-- ---- the bytes after a fit

module _ (d : Data) (p : ℕ) (o : GwrOptions) (out : List Float) (z : Result Fit Refusal) (after : List Float) (e : ◌≡◌ {A = Result Fit Refusal × List Float} (z, after) (gwr_fit d p o out)) (bytes summary : List ℕ) where
  abbrev call : Result Fit Refusal × List Float → AfterCall
  call g = fitted_bytes p g bytes summary

  sound : Fits (length d.coords / 2) p (length out) (z, after)
  sound = subst (λ (g : Result Fit Refusal × List Float). Fits (length d.coords / 2) p (length out) g) (sym e) (fits d p o out)

  -- a fit that was made: its rows are within the output, whose bytes have room, and so has its summary
  module _ (f : Fit) (made : z ≡ Ok f) where
    pub rows_fit : f.rows * (p + 4) ≤ length out
    rows_fit = subst (λ (y : Result Fit Refusal). rows_written y * (p + 4) ≤ length out) made sound.rows

    pub rows_within : f.rows * (p + 4) ≤ length after
    rows_within = omega (arith, rows_fit, sound.long)

    pub fit_some : 1 ≤ length out
    fit_some = (subst (λ (y : Result Fit Refusal). IfOk y (λ g. Made (length d.coords / 2) (length out) g)) made sound.sound).some

    pub fitted_is : (bytes' summary' : List ℕ) (number : ℕ) → bytes' ≡ placed bytes 0 (real_bytes (take (f.rows * (p + 4)) after)) → summary' ≡ placed summary 0 (summary_bytes f.finish.summary)
        → number ≡ finish_number f.finish → ◌≡◌ {A = AfterCall} (number, (bytes', summary')) (call (gwr_fit d p o out))
    unfolding placed_rows
    fitted_is bytes' summary' number b s n = triple n b s ∙ sym (ap (λ (y : Result Fit Refusal). call (y, after)) made) ∙ ap call e

module _ (coords x y : List ℕ) (p : ℕ) (o : GwrOptions) (out summary : List ℕ) where
  abbrev n : ℕ
  n = length coords / 16

  abbrev at : Data → List Float → AfterCall
  at d z = fitted_bytes p (gwr_fit d p o z) out summary

  -- numbers decoded, every trust set to 1
  numbers_are : (c' x' y' t : List Float) → c' ≡ reals coords (2 * n) → x' ≡ reals x (n * p) → y' ≡ reals y n → t ≡ replicate n one64 → trusted_data c' x' y' t ≡ numbers_of coords x y p
  numbers_are c' x' y' t ec ex ey et = let one : t ≡ replicate (length (reals y n)) one64 = et ∙ sym (ap (λ (k : ℕ). replicate k one64) (length_reals y n)) in cc

  pub parts_is : (c' x' y' t z : List Float) (room : ℕ) (a : AfterCall) → c' ≡ reals coords (2 * n) → x' ≡ reals x (n * p) → y' ≡ reals y n → t ≡ replicate n one64 → z ≡ replicate room zero64
      → room ≡ room_of n p (length out) (length summary) → a ≡ at (trusted_data c' x' y' t) z → a ≡ fit_parts coords x y p o out summary
  unfolding fit_parts
  parts_is c' x' y' t z room a ec ex ey et ez er h =
      h ∙ ap (λ (d : Data). at d z) (numbers_are c' x' y' t ec ex ey et) ∙ ap (at (numbers_of coords x y p)) (ez ∙ ap (λ (k : ℕ). replicate k zero64) er)
