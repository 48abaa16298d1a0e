-- What the tests of demand 1's lists mean, one law for each kind of test. Definitions only.
use Rattle.refusal.specs.declared.Refusal.{Refusal}
use Rattle.std.specs.Prelude.{ℕ, ◌*◌, ◌≤◌, ◌<◌, ◌≡◌, Bool, true, not, ◌&&◌, ◌||◌, List, ◌⊎◌, T, eqb, leb, ltb, length, get_or, Float, Result}
use Rattle.std.specs.Float.{nan}
use Rattle.std.specs.Float.Ieee.{lt, le, is_nan}
use Rattle.std.specs.Float.Ieee.Scale.{finite}
use Rattle.claims.specs.Words.{zero64, all_finite, Row, Matrix, Means, GwrBandwidth, GwrOptions, Setup, Trusts, Data, trust_count, inverse_cell, inverse_finite, coefficients_finite, greatest_distance, trusts_fit, lengths_fit, unusable_given, nothing_between, SomeNotFinite, BadTrust, UnusableGiven, NothingBetween, Stage, Ended, is_ended, OfKind, kinds_fit, is_unknown, options_of}

-- P of some number below m
abbrev pub Some : ℕ → (ℕ → Type 0) → Type 0
Some m P = (q : ℕ) × (q < m) × P q

pub record Meanings : Type 0 where
  -- lengths, sizes, room, and a fit record's numbers: whole numbers that are equal, one below the other, or at most the other
  pub equal : (a b : ℕ) → Means (eqb a b) (a ≡ b)
  pub below : (a b : ℕ) → Means (ltb a b) (a < b)
  pub at_most : (a b : ℕ) → Means (leb a b) (a ≤ b)
  -- the contrary of a test, both of two, and either of two
  pub contrary : (b : Bool) → Means (not b) (b ≡ true → ⊥)
  pub both : (a b : Bool) → Means (a && b) ((a ≡ true) × (b ≡ true))
  pub either : (a b : Bool) → Means (a || b) ((a ≡ true) ⊎ (b ≡ true))
  -- 8, 9, 10: some number is NaN or infinite; 9 of a distance: NaN or negative
  pub not_finite : (l : List Float) → Means (not (all_finite l)) (SomeNotFinite l)
  pub negative : (d : Float) → Means (not (le zero64 d)) (T (is_nan d) ⊎ T (lt d zero64))
  -- 26: some trust that is asked for is NaN, below 0 or above 1
  pub trusts : (t : Trusts) → Means (not (trusts_fit t)) (BadTrust t)
  -- 11, 12
  pub unusable : (o : GwrOptions) → Means (unusable_given o.optimize_bandwidth o.bandwidth) (UnusableGiven o.optimize_bandwidth o.bandwidth)
  pub nothing : (u : Setup) (d : Data) →
      let o = u.options in
      let hi = greatest_distance d.coords u.n in
      Means (nothing_between o.optimize_bandwidth o.bandwidth hi) (NothingBetween o.optimize_bandwidth o.bandwidth hi)
  -- 27
  pub weightless : (sum : Float) → Means (not (lt zero64 sum)) (T (is_nan sum) ⊎ T (le sum zero64))
  -- 15, 16: some cell of the inverse, or some coefficient, is NaN or infinite
  pub inverse : (a : Matrix) (m : ℕ) → Means (not (inverse_finite a m)) (Some m (λ (r : ℕ). Some m (λ (c : ℕ). T (not (finite (inverse_cell a m r c))))))
  pub coefficients : (beta : Row) (m : ℕ) → Means (not (coefficients_finite beta m)) (Some m (λ (c : ℕ). T (not (finite (get_or beta c nan)))))
  -- 18: kernels are 0 to 2, kinds 0 to 3
  pub unknown : (kernel kind bandwidth : ℕ) → Means (is_unknown (options_of kernel kind bandwidth)) ((2 < kernel) ⊎ (3 < kind))
  -- 19: its bandwidth is of the options' kind, a count from 1 to 512; the rest of a fit record is made of the laws above
  pub kinds : (kind b : GwrBandwidth) → Means (kinds_fit kind b) (OfKind kind b)
  -- 20
  pub ended : (x : Stage) → Means (is_ended x) ((c : Result Float Refusal) × (x ≡ Ended c))
  -- 21
  pub lengths : (u : Setup) (d : Data) → Means (lengths_fit u d) ((length d.coords ≡ 2 * u.n) × ((length d.predictors ≡ u.n * u.p) × ((length d.responses ≡ u.n) × (trust_count d ≡ u.n))))
