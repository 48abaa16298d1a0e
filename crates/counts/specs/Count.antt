-- The count of neighbours where no search is asked for. Definitions, and examples.
use Rattle.std.specs.Prelude.{◌≡◌, cond, ℕ, zero, suc, ◌+◌, ◌-◌, ◌*◌, ◌≤◌, ◌<◌, min, max, eqb, ltb}
use Rattle.std.proofs.Math.Path.{refl}

-- r raised by one as long as its square is below n, at most m times
unfoldable pub root_from : ℕ → ℕ → ℕ → ℕ
root_from n zero r = r
root_from n (suc m) r = cond (ltb (r * r) n) (root_from n m (suc r)) r

-- the least whole number whose square is at least n; it is at most n
unfoldable pub ceil_root : ℕ → ℕ
unfolding root_from
ceil_root n = root_from n n 0

-- 01's words for it: r is the least whole number whose square is at least n
pub record LeastRoot (n r : ℕ) : Type 0 where
  pub reaches : n ≤ r * r
  pub least : (s : ℕ) → s < r → s * s < n

-- 02, wish 2: 0 becomes the larger of p + 3 and that root
unfoldable pub chosen_count : ℕ → ℕ → ℕ → ℕ
unfolding ceil_root
chosen_count k n p = cond (eqb k 0) (max (p + 3) (ceil_root n)) k

-- any count is then capped at n - 1 and raised to at least 1
unfoldable pub resolve_count : ℕ → ℕ → ℕ → ℕ
unfolding chosen_count
resolve_count k n p = max (min (chosen_count k n p) (n - 1)) 1

-- ---- examples

module _ where
  -- 01's values are those for p = 0
  one : resolve_count 0 1 0 ≡ 1
  unfolding resolve_count
  one = refl

  two : resolve_count 0 2 0 ≡ 1
  unfolding resolve_count
  two = refl

  ten : resolve_count 0 10 0 ≡ 4
  unfolding resolve_count
  ten = refl

  most : resolve_count 0 512 0 ≡ 23
  unfolding resolve_count
  most = refl

  capped : resolve_count 100 10 0 ≡ 9
  unfolding resolve_count
  capped = refl

  -- 000 takes 2 here, and 4 where there are two predictors
  four : resolve_count 0 4 0 ≡ 3
  unfolding resolve_count
  four = refl

  predicted : resolve_count 0 10 2 ≡ 5
  unfolding resolve_count
  predicted = refl
