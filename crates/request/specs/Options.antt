-- Options from the numbers that bytes carry. Definitions only.
use Rattle.std.specs.Prelude.{ℕ, Bool, true, false, cond, eqb, Result, Ok, Err}
use Rattle.wire.specs.Wire.{real_of}
use Rattle.kernel.specs.declared.GwrKernel.{GwrKernel}
use Rattle.refusal.specs.declared.Refusal.{Refusal}
use Rattle.refusal.specs.declared.Refusal.TheVariants.{UnknownNumber}
use Rattle.setup.specs.declared.GwrBandwidth.{GwrBandwidth}
use Rattle.setup.specs.declared.GwrBandwidth.TheVariants.{Fixed, AdaptiveKnn}
use Rattle.setup.specs.declared.GwrOptions.{GwrOptions}
use Rattle.setup.specs.Options.{unguarded, default_options}
-- ---- kernels

unfoldable pub use Rattle.kernel.specs.Numbers.{kernel_of}

-- whether 18 is owed
abbrev pub is_unknown_kernel : Result GwrKernel Refusal → Bool
is_unknown_kernel (Ok k) = false
is_unknown_kernel (Err r) = true

-- the kernel that a number names; where 18 is owed, any
abbrev pub named_kernel : Result GwrKernel Refusal → GwrKernel
named_kernel (Ok k) = k
named_kernel (Err r) = default_options.kernel

-- ---- options

-- 02: byte calls and `gwrprint` know no other criterion
abbrev pub chosen_of : GwrKernel → GwrBandwidth → Bool → Result GwrOptions Refusal
chosen_of k b search = Ok (unguarded k b search)

-- 01: kind 0 distance, 1 count, 2 and 3 the same searched; a distance comes by its bits
unfoldable pub kind_of : GwrKernel → ℕ → ℕ → Result GwrOptions Refusal
kind_of k kind bandwidth =
    cond (eqb kind 0) (chosen_of k (Fixed (real_of bandwidth)) false)
    (cond (eqb kind 1) (chosen_of k (AdaptiveKnn bandwidth) false)
    (cond (eqb kind 2) (chosen_of k (Fixed (real_of bandwidth)) true)
    (cond (eqb kind 3) (chosen_of k (AdaptiveKnn bandwidth) true) (Err UnknownNumber))))

-- the options of a kernel's number, a kind's number and a bandwidth's bits or count; an unknown kernel leaves them unknown
unfoldable pub options_of : ℕ → ℕ → ℕ → Result GwrOptions Refusal
options_of number kind bandwidth = let k = kernel_of number in cond (is_unknown_kernel k) (Err UnknownNumber) (kind_of (named_kernel k) kind bandwidth)

-- whether 18 is owed
abbrev pub is_unknown : Result GwrOptions Refusal → Bool
is_unknown (Ok o) = false
is_unknown (Err r) = true

-- the options that numbers name; where 18 is owed, any
abbrev pub named : Result GwrOptions Refusal → GwrOptions
named (Ok o) = o
named (Err r) = default_options
