-- The numbers of kernels. Definitions only.
use Rattle.std.specs.Prelude.{ℕ, cond, eqb, Result, Ok, Err}
use Rattle.refusal.specs.declared.Refusal.{Refusal}
use Rattle.refusal.specs.declared.Refusal.TheVariants.{UnknownNumber}
use Rattle.kernel.specs.declared.GwrKernel.{GwrKernel}
use Rattle.kernel.specs.declared.GwrKernel.TheVariants.{Gaussian, Bisquare, Exponential}

-- 01: 0 Gaussian, 1 Bisquare, 2 Exponential; 18 refuses any other
unfoldable pub kernel_of : ℕ → Result GwrKernel Refusal
kernel_of number =
    cond (eqb number 0) (Ok Gaussian)
    (cond (eqb number 1) (Ok Bisquare)
    (cond (eqb number 2) (Ok Exponential) (Err UnknownNumber)))
