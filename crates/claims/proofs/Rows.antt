-- A row put into an output: what is before it and behind it stays.
use mathlib.Core.Path.{◌≡◌, sym, ap, ◌∙◌}
use mathlib.Core.List.{List, ◌++◌, append_assoc}
use Prim.Native.Nat.{ℕ, ◌+◌, ◌*◌, ◌≤◌}
use native.Mathlib.Nat.{suc-mul}
use native.Mathlib.Numerals.{add-one}
use native.Mathlib.Omega.{arith}
use lib.ListN.{length, take, drop, length-append}
use lib.Seq.{take_at, drop_at, drop-drop, length-take-le}
use lib.Ieee.{Float}
use Rattle.claims.specs.Words.{Values, row_of, put_row}
use Rattle.claims.proofs.Laws.{row_long}

pub next_row : (i k : ℕ) → (i + 1) * k ≡ i * k + k
next_row i k = rw (add-one, suc-mul)

module _ (l : List Float) (m i : ℕ) (beta : List Float) (v : Values) where
  -- where row i begins
  abbrev at : ℕ
  at = i * (m + 3)

  abbrev row : List Float
  row = row_of beta m v

  pub put_behind : (i + 1) * (m + 3) ≤ length l → m ≤ length beta → drop ((i + 1) * (m + 3)) (put_row l m i beta v) ≡ drop ((i + 1) * (m + 3)) l
  unfolding put_row
  put_behind h few =
      let e = next_row i (m + 3) in
      let long : length (take at l ++ row) ≡ at + (m + 3) = length-append (take at l) row ∙ omega (arith, length-take-le at l (omega arith), row_long beta m v few) in
      rw (e, ← append_assoc (take at l) row (drop (at + (m + 3)) l)) (drop_at (take at l ++ row) (drop (at + (m + 3)) l) (at + (m + 3)) long)

  pub put_front : i * (m + 3) ≤ length l → take (i * (m + 3)) (put_row l m i beta v) ≡ take (i * (m + 3)) l
  unfolding put_row
  put_front h = take_at (take at l) (row ++ drop (at + (m + 3)) l) at (length-take-le at l h)

module _ (q : ℕ) (out₀ : List Float) where
  -- the numbers from row k on are those of out₀
  abbrev Behind : ℕ → List Float → Type 0
  Behind k out = drop (k * q) out ≡ drop (k * q) out₀

  pub farther : (i : ℕ) (out : List Float) → Behind i out → Behind (i + 1) out
  farther i out h = rw (next_row i q, ← drop-drop q (i * q) out, ← drop-drop q (i * q) out₀, h)

-- the first k of a, then b from its k-th on
abbrev pub joined : ℕ → List Float → List Float → List Float
joined k a b = take k a ++ drop k b

pub put_joined : (o l : List Float) (m i : ℕ) (beta : List Float) (v : Values) → i * (m + 3) + (m + 3) ≤ length o → m ≤ length beta
    → put_row (joined (i * (m + 3)) o l) m i beta v ≡ joined (i * (m + 3) + (m + 3)) (put_row o m i beta v) l
unfolding put_row
put_joined o l m i beta v h few =
    let at = i * (m + 3) in
    let row = row_of beta m v in
    let front : length (take at o) ≡ at = length-take-le at o (omega arith) in
    let before : take at (take at o ++ drop at l) ≡ take at o = take_at (take at o) (drop at l) at front in
    let behind : drop (at + (m + 3)) (take at o ++ drop at l) ≡ drop (at + (m + 3)) l =
    sym (drop-drop (m + 3) at (take at o ++ drop at l)) ∙ ap (drop (m + 3)) (drop_at (take at o) (drop at l) at front) ∙ drop-drop (m + 3) at l in
    let long : length (take at o ++ row) ≡ at + (m + 3) = length-append (take at o) row ∙ omega (arith, front, row_long beta m v few) in
    let rows : take (at + (m + 3)) (take at o ++ (row ++ drop (at + (m + 3)) o)) ≡ take at o ++ row =
    ap (take (at + (m + 3))) (sym (append_assoc (take at o) row (drop (at + (m + 3)) o))) ∙ take_at (take at o ++ row) (drop (at + (m + 3)) o) (at + (m + 3)) long in
    ap (λ (a : List Float). a ++ (row ++ drop (at + (m + 3)) (take at o ++ drop at l))) before
    ∙ ap (λ (a : List Float). take at o ++ (row ++ a)) behind
    ∙ sym (append_assoc (take at o) row (drop (at + (m + 3)) l))
    ∙ ap (λ (a : List Float). a ++ drop (at + (m + 3)) l) (sym rows)
