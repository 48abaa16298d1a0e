-- AICc of Fotheringham, Brunsdon and Charlton 2002 as a formula over any arithmetic, with any number for π and any functions for the root and ln, which an arithmetic need not have. Definitions only.
use Rattle.real.specs.Arithmetic.{Arithmetic}

-- σ̂: the root of the mean of the squared residuals, whose sum is rss; 000's `sigma`
unfoldable pub deviation : {R : Type 0} → Arithmetic R → (R → R) → R → R → R
deviation A root n rss = root (A.over rss n)

-- n - 2 - tr S: 000's `denom`, 01's D
unfoldable pub freedom : {R : Type 0} → Arithmetic R → R → R → R
freedom A n trace = A.minus (A.minus n A.two) trace

-- 2n ln σ̂ + n ln 2π + n ((n + tr S) / (n - 2 - tr S)), as published
unfoldable pub aicc_published : {R : Type 0} → Arithmetic R → R → (R → R) → R → R → R → R
aicc_published A pi ln n sigma trace =
    A.plus (A.plus (A.times (A.times A.two n) (ln sigma)) (A.times n (ln (A.times A.two pi))))
    (A.times n (A.over (A.plus n trace) (freedom A n trace)))

-- the same with 000's order in its last term: (n (n + tr S)) / (n - 2 - tr S)
unfoldable pub aicc_formula : {R : Type 0} → Arithmetic R → R → (R → R) → R → R → R → R
aicc_formula A pi ln n sigma trace =
    A.plus (A.plus (A.times (A.times A.two n) (ln sigma)) (A.times n (ln (A.times A.two pi))))
    (A.over (A.times n (A.plus n trace)) (freedom A n trace))
