-- Numbers and their bytes: one gives the other back.
use mathlib.Core.Path.{◌≡◌, refl, sym, ap, ◌∙◌}
use mathlib.Core.List.{List, [], ◌∷◌, ◌++◌}
use Prim.Native.Nat.{ℕ, zero, suc, ◌+◌, ◌*◌, ◌/◌, ◌%◌, ◌^◌, ◌≤◌, ◌<◌}
use native.Mathlib.Nat.{pow-succ'}
use native.Mathlib.Omega.{arith}
use lib.ListN.{length, take, drop, get_or, length-drop}
use lib.Seq.{length-take-le, take_at, drop_at, get_or-drop}
use Rattle.wire.specs.Wire.{low_bytes, bytes_of, number_of, load_of}

pub length_low_bytes : (n v : ℕ) → length (low_bytes n v) ≡ n
unfolding low_bytes
length_low_bytes zero v = refl
length_low_bytes (suc n) v = ap suc (length_low_bytes n (v / 256))

pub length_bytes_of : (v : ℕ) → length (bytes_of v) ≡ 8
unfolding bytes_of
length_bytes_of v = length_low_bytes 8 v

-- the number of a number's bytes
pub number_of_low_bytes : (n v : ℕ) → v < 256 ^ n → number_of (low_bytes n v) ≡ v
unfolding number_of low_bytes
number_of_low_bytes zero v h = omega arith
number_of_low_bytes (suc n) v h =
    let less : v / 256 < 256 ^ n = omega (arith, pow-succ' 256 n) in
    omega (arith, number_of_low_bytes n (v / 256) less)

-- each element is a byte
abbrev pub Bytes : List ℕ → Type 0
Bytes l = (k : ℕ) → get_or l k 0 < 256

-- the bytes of their number
pub low_bytes_number_of : (l : List ℕ) → Bytes l → low_bytes (length l) (number_of l) ≡ l
unfolding number_of low_bytes
low_bytes_number_of [] h = refl
low_bytes_number_of (b ∷ bs) h =
    let low : (b + 256 * number_of bs) % 256 ≡ b = omega (arith, h 0) in
    let high : (b + 256 * number_of bs) / 256 ≡ number_of bs = omega (arith, h 0) in
    rw (low, high) (ap (λ (x : List ℕ). b ∷ x) (low_bytes_number_of bs (λ k. h (suc k))))

pub number_of_lt : (l : List ℕ) → Bytes l → number_of l < 256 ^ length l
unfolding number_of
number_of_lt [] h = omega arith
number_of_lt (b ∷ bs) h = omega (arith, h 0, pow-succ' 256 (length bs), number_of_lt bs (λ k. h (suc k)))

-- what was stored is loaded
pub load_stored : (s : List ℕ) (at v : ℕ) (rest : List ℕ) → at ≤ length s → v < 2 ^ 64 → load_of (take at s ++ (bytes_of v ++ rest)) at ≡ v
unfolding load_of bytes_of
load_stored s at v rest h small =
    ap (λ (x : List ℕ). number_of (take 8 x)) (drop_at (take at s) (low_bytes 8 v ++ rest) at (length-take-le at s h))
    ∙ ap number_of (take_at (low_bytes 8 v) rest 8 (length_low_bytes 8 v))
    ∙ number_of_low_bytes 8 v small

bytes_take : (m : ℕ) (l : List ℕ) → Bytes l → Bytes (take m l)
bytes_take zero l h k = omega arith
bytes_take (suc m) [] h k = omega arith
bytes_take (suc m) (b ∷ l) h zero = h 0
bytes_take (suc m) (b ∷ l) h (suc k) = bytes_take m l (λ j. h (suc j)) k

-- what was loaded has the bytes it was loaded from
pub bytes_loaded : (s : List ℕ) (at : ℕ) → at + 8 ≤ length s → Bytes s → bytes_of (load_of s at) ≡ take 8 (drop at s)
unfolding load_of bytes_of
bytes_loaded s at h b =
    let l : List ℕ = take 8 (drop at s) in
    let n : length l ≡ 8 = length-take-le 8 (drop at s) (omega (arith, length-drop at s)) in
    let part : Bytes l = bytes_take 8 (drop at s) (λ k. rw get_or-drop (b (at + k))) in
    ap (λ (k : ℕ). low_bytes k (number_of l)) (sym n) ∙ low_bytes_number_of l part
