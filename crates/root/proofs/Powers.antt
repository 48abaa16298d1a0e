-- Powers of two in the parts of a number: its length, and half of it.
use mathlib.Core.Path.{◌≡◌, refl, sym, ap, ◌∙◌, subst}
use Prim.Native.Nat.{ℕ, zero, suc, ◌+◌, ◌-◌, ◌*◌, ◌/◌, ◌%◌, ◌^◌, ◌≤◌, ◌<◌}
use native.Mathlib.Nat.{mul_assoc, mul-one, pow-suc, lt_irrefl, lt_of_lt_of_le, le_trans, lt_of_not-le, add-suc, suc-add, le_antisymm, le_of_eq, mul-le-mul_right, mod-eq_of_lt}
use native.Mathlib.Decide.{dec_le}
use native.Mathlib.Omega.{arith}
use lib.Pow.{pow-add, pow_mono, shl_lt}
use lib.Dec.{lit≤}
use lib.Count.{count_leading_zeros, leading_top}
use lib.Ieee.{size}
use lib.Ieee.Digits.{size-lt, size-le}
use Rattle.root.specs.Parts.{Parted}

pub four_pow : (h : ℕ) → 4 ^ h ≡ 2 ^ (h + h)
four_pow zero = refl
four_pow (suc h) = rw (suc-add, add-suc, pow-suc 2 (suc (h + h)), pow-suc 2 (h + h), pow-suc 4 h, four_pow h) (omega arith)

-- a number from 2 ^ j up and below 2 ^ (j + 1) has j + 1 digits
pub size_is : (n j : ℕ) → 2 ^ j ≤ n → n < 2 ^ suc j → size n ≡ suc j
size_is n j a b = le_antisymm (size-le n (suc j) b) (go (dec_le (suc j) (size n)))
  where
    up : size n < suc j → size n ≤ j
    up h = omega arith

    go : Dec (suc j ≤ size n) → suc j ≤ size n
    go (yes h) = h
    go (no f) = absurd (lt_irrefl n (lt_of_lt_of_le (size-lt n) (le_trans (pow_mono (up (lt_of_not-le f))) a)))

-- with an odd length, 2h is one more
odd_length : (sig len : ℕ) → len % 2 ≡ 1 → sig * 2 ^ (len + 53) ≡ sig * 2 ^ 52 * 4 ^ ((len + 1) / 2)
odd_length sig len o =
    let h = (len + 1) / 2 in
    let e : len + 53 ≡ 52 + (h + h) = omega arith in
    rw (e, four_pow, pow-add 2 52 (h + h)) (sym (mul_assoc sig (2 ^ 52) (2 ^ (h + h))))

even_length : (sig len : ℕ) → (len % 2 ≡ 1 → ⊥) → sig * 2 ^ (len + 53) ≡ sig * 2 * 2 ^ 52 * 4 ^ ((len + 1) / 2)
even_length sig len o =
    let h = (len + 1) / 2 in
    let e : len + 53 ≡ 53 + (h + h) = omega arith in
    rw (e, four_pow, pow-add 2 53 (h + h)) (sym (mul_assoc sig (2 ^ 53) (2 ^ (h + h))) ∙ ap (λ (x : ℕ). x * 2 ^ (h + h)) (sym (mul_assoc sig 2 (2 ^ 52))))

-- the parts of n, and those of a number of len digits, the first 53 of which are sig
abbrev pub PartedUnits : ℕ → ℕ → ℕ → Type 0
PartedUnits n a h = Parted (n * 2 ^ 106) (size n) a h

abbrev pub PartedDigits : ℕ → ℕ → ℕ → ℕ → Type 0
PartedDigits sig len a h = Parted (sig * 2 ^ (len + 53)) len a h

when_odd : (sig len : ℕ) → len < 2099 → len % 2 ≡ 1 → 2 ^ 52 ≤ sig → sig < 2 ^ 53 → PartedDigits sig len sig ((len + 1) / 2)
when_odd sig len s o a b = record { half = refl; value = odd_length sig len o; low = a; high = omega arith; short = omega arith }

when_even : (sig len : ℕ) → len < 2099 → (len % 2 ≡ 1 → ⊥) → 2 ^ 52 ≤ sig → sig < 2 ^ 53 → PartedDigits sig len (sig * 2) ((len + 1) / 2)
when_even sig len s o a b = record { half = refl; value = even_length sig len o; low = omega arith; high = omega arith; short = omega arith }

-- one or two times the digits, by the length
pub by_length : (sig len : ℕ) → len < 2099 → 2 ^ 52 ≤ sig → sig < 2 ^ 53 → PartedDigits sig len (sig * (2 - len % 2)) ((len + 1) / 2)
by_length sig len s a b = go (dec_le 1 (len % 2))
  where
    go : Dec (1 ≤ len % 2) → PartedDigits sig len (sig * (2 - len % 2)) ((len + 1) / 2)
    go (yes y) =
        let o : len % 2 ≡ 1 = omega arith in
        let e : sig * (2 - len % 2) ≡ sig = ap (λ (k : ℕ). sig * (2 - k)) o ∙ mul-one sig in
        rw e (when_odd sig len s o a b)
    go (no f) =
        let o : len % 2 ≡ 0 = omega arith in
        let e : sig * (2 - len % 2) ≡ sig * 2 = ap (λ (k : ℕ). sig * (2 - k)) o in
        rw e (when_even sig len s (λ w. f (omega arith)) a b)

-- what is split, by its length and its first 53 digits
pub parted : {v len a h : ℕ} (n : ℕ) → size n ≡ len → n * 2 ^ 106 ≡ v → Parted v len a h → PartedUnits n a h
parted n e v d = record { half = rw e d.half; value = v ∙ d.value; low = d.low; high = d.high; short = d.short }

-- ---- a subnormal: its leading zeros say how far it is shifted
pub record Shifted (b z : ℕ) : Type 0 where
  pub least : 11 ≤ z
  pub most : z ≤ 63
  pub low : 2 ^ 52 ≤ (b * 2 ^ (z - 11)) % 2 ^ 64
  pub high : (b * 2 ^ (z - 11)) % 2 ^ 64 < 2 ^ 53
  pub long : size b ≡ 64 - z
  pub value : b * 2 ^ 106 ≡ (b * 2 ^ (z - 11)) % 2 ^ 64 * 2 ^ (64 - z + 53)

module _ (b z j : ℕ) (e : z + suc j ≡ 64) (lo : 2 ^ j ≤ b) (hi : b < 2 ^ suc j) (s : b < 2 ^ 52) where
  j_small : j < 52
  j_small = go (dec_le 52 j)
    where
      go : Dec (52 ≤ j) → j < 52
      go (yes h) = absurd (lt_irrefl b (lt_of_lt_of_le s (le_trans (pow_mono h) lo)))
      go (no f) = lt_of_not-le f

  bound_low : 2 ^ 52 ≤ b * 2 ^ (z - 11)
  bound_low =
      let f : j + (z - 11) ≡ 52 = omega (arith, j_small) in
      le_trans (le_of_eq (ap (λ (x : ℕ). 2 ^ x) (sym f) ∙ pow-add 2 j (z - 11))) (mul-le-mul_right (2 ^ (z - 11)) lo)

  bound_high : b * 2 ^ (z - 11) < 2 ^ 53
  bound_high =
      let f : suc j + (z - 11) ≡ 53 = omega (arith, j_small) in
      subst (λ (x : ℕ). b * 2 ^ (z - 11) < 2 ^ x) f (shl_lt (suc j) (z - 11) hi)

  kept : (b * 2 ^ (z - 11)) % 2 ^ 64 ≡ b * 2 ^ (z - 11)
  kept = mod-eq_of_lt (lt_of_lt_of_le bound_high (lit≤ tt))

  pub shifted : Shifted b z
  shifted =
      let f : z - 11 + (64 - z + 53) ≡ 106 = omega (arith, j_small) in
      record {
        least = omega (arith, j_small);
        most = omega arith;
        low = rw kept bound_low;
        high = rw kept bound_high;
        long = size_is b j lo hi ∙ omega arith;
        value = rw kept (ap (λ (x : ℕ). b * 2 ^ x) (sym f) ∙ ap (λ (x : ℕ). b * x) (pow-add 2 (z - 11) (64 - z + 53)) ∙ sym (mul_assoc b (2 ^ (z - 11)) (2 ^ (64 - z + 53))));
      }

pub subnormal : (b : ℕ) → 0 < b → b < 2 ^ 52 → Shifted b (count_leading_zeros 64 b)
subnormal b p s =
    let t = leading_top 64 b p (lt_of_lt_of_le s (lit≤ tt)) in
    shifted b (count_leading_zeros 64 b) t.0 t.1 t.2 t.3 s

-- ---- a normal number: sig * 2 ^ (x - 1)
pub normal_size : (sig x : ℕ) → 0 < x → 2 ^ 52 ≤ sig → sig < 2 ^ 53 → size (sig * 2 ^ (x - 1)) ≡ x + 52
normal_size sig x p a b =
    let k = x - 1 in
    let f : suc (52 + k) ≡ x + 52 = omega arith in
    size_is (sig * 2 ^ k) (52 + k)
    (le_trans (le_of_eq (pow-add 2 52 k)) (mul-le-mul_right (2 ^ k) a))
    (subst (λ (y : ℕ). sig * 2 ^ k < 2 ^ y) (omega arith) (shl_lt 53 k b))
    ∙ f

pub normal_value : (sig x : ℕ) → 0 < x → sig * 2 ^ (x - 1) * 2 ^ 106 ≡ sig * 2 ^ (x + 52 + 53)
normal_value sig x p =
    let f : x - 1 + 106 ≡ x + 52 + 53 = omega arith in
    mul_assoc sig (2 ^ (x - 1)) (2 ^ 106) ∙ ap (λ (y : ℕ). sig * y) (sym (pow-add 2 (x - 1) 106) ∙ ap (λ (y : ℕ). 2 ^ y) f)
