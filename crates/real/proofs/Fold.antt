-- A loop `for i in a..b` that folds f: its invariant as a record, and the laws that the loop's needs ask.
use Rattle.std.proofs.Common.{◌≡◌, ℕ, zero, suc, ◌+◌, ◌-◌, ◌<◌, ◌≤◌, sym, ap, ◌∙◌, le_antisymm, arith}
use native.Mathlib.Nat.{sub_self}
use Rattle.real.specs.Fold.{turns, range}

-- s is the fold of the turns a to i - 1, of those up to b - 1, from s₀
pub record Range {S : Type 0} (f : ℕ → S → S) (s₀ : S) (a b i : ℕ) (s : S) : Type 0 where
  pub low : a ≤ i
  pub high : i ≤ b
  pub is : s ≡ range f a i s₀

module _ {S : Type 0} {f : ℕ → S → S} {s₀ : S} {a b : ℕ} where
  pub none : a ≤ b → Range f s₀ a b a s₀
  unfolding range turns
  none h = record { low = omega arith; high = h; is = sym (rw sub_self) }

  pub more : {i : ℕ} {s t : S} → Range f s₀ a b i s → i < b → t ≡ f i s → Range f s₀ a b (i + 1) t
  unfolding range turns
  more {i} r h step =
      let k : i + 1 - a ≡ suc (i - a) = omega arith in
      let at : a + (i - a) ≡ i = omega arith in
      record { low = omega arith; high = omega arith; is = rw (k, at) (step ∙ ap (f i) r.is) }

  pub done : {i : ℕ} {s : S} → Range f s₀ a b i s → b ≤ i → s ≡ range f a b s₀
  done r h = r.is ∙ ap (λ (k : ℕ). range f a k s₀) (le_antisymm r.high h)

-- what holds at the start and is kept by each turn holds of the fold
module _ {S : Type 0} (f : ℕ → S → S) (a b : ℕ) (P : S → Type 0) (keep : (k : ℕ) (s : S) → k < b → P s → P (f k s)) where
  kept_turns : (n : ℕ) (s : S) → a + n ≤ b → P s → P (turns f a n s)
  unfolding turns
  kept_turns zero s h p = p
  kept_turns (suc n) s h p = keep (a + n) _ (omega arith) (kept_turns n s (omega arith) p)

  pub kept : (s : S) → a ≤ b → P s → P (range f a b s)
  unfolding range
  kept s h p = kept_turns (b - a) s (omega arith) p

-- the fold begun with its first turn apart
module _ {S : Type 0} (f : ℕ → S → S) (a : ℕ) (s : S) where
  turns_front : (n : ℕ) → turns f a (suc n) s ≡ turns f (a + 1) n (f a s)
  unfolding turns
  turns_front zero = let k : a + 0 ≡ a = omega arith in rw k
  turns_front (suc n) = let k : a + suc n ≡ a + 1 + n = omega arith in rw k (ap (f (a + 1 + n)) (turns_front n))

  pub front : (b : ℕ) → a < b → range f a b s ≡ range f (a + 1) b (f a s)
  unfolding range
  front b h = let k : b - a ≡ suc (b - (a + 1)) = omega arith in rw k (turns_front (b - (a + 1)))

-- what holds between two starts and is kept by each pair of turns holds between the two folds
module _ {S T : Type 0} (f : ℕ → S → S) (g : ℕ → T → T) (a b : ℕ) (R : S → T → Type 0) (keep : (k : ℕ) (s : S) (t : T) → k < b → R s t → R (f k s) (g k t)) where
  related_turns : (n : ℕ) (s : S) (t : T) → a + n ≤ b → R s t → R (turns f a n s) (turns g a n t)
  unfolding turns
  related_turns zero s t h r = r
  related_turns (suc n) s t h r = keep (a + n) _ _ (omega arith) (related_turns n s t (omega arith) r)

  pub related : (s : S) (t : T) → a ≤ b → R s t → R (range f a b s) (range g a b t)
  unfolding range
  related s t h r = related_turns (b - a) s t (omega arith) r

-- the fold stopped at b and taken up again from there is the unbroken fold
module _ {S : Type 0} (f : ℕ → S → S) (s : S) where
  turns_split : (a m n : ℕ) → turns f (a + m) n (turns f a m s) ≡ turns f a (m + n) s
  unfolding turns
  turns_split a m zero = let k : m + 0 ≡ m = omega arith in rw k
  turns_split a m (suc n) =
      let k : m + suc n ≡ suc (m + n) = omega arith in
      let at : a + m + n ≡ a + (m + n) = omega arith in
      rw (k, at) (ap (f (a + (m + n))) (turns_split a m n))

  pub split : (a b c : ℕ) → a ≤ b → b ≤ c → range f b c (range f a b s) ≡ range f a c s
  unfolding range
  split a b c h k =
      let at : b ≡ a + (b - a) = omega arith in
      let all : b - a + (c - b) ≡ c - a = omega arith in
      ap (λ (i : ℕ). turns f i (c - b) (turns f a (b - a) s)) at ∙ turns_split a (b - a) (c - b) ∙ ap (λ (i : ℕ). turns f a i s) all
