-- What a fit says of the location that it was made for: prediction, residual, local R² and leverage. Definitions only.
use Rattle.std.specs.Prelude.{ℕ, ◌+◌, cond, get_or, Float}
use Rattle.std.specs.Float.{nan, binary64}
use Rattle.std.specs.Float.Ieee.{add, sub, mul, div, le, eq}
use Rattle.real.specs.Matrix.{Row, Matrix}
use Rattle.real.specs.Fold.{range}
use Rattle.real.specs.Reals.{zero64, one64, clamp_unit, eps64}
use Rattle.setup.specs.declared.Setup.{Setup}
use Rattle.setup.specs.Data.{Data}
use Rattle.normal.specs.Design.{design_row}
use Rattle.estimate.specs.Inverse.{inverse_times}
use Rattle.evaluate.specs.declared.Squares.{Squares}
use Rattle.evaluate.specs.declared.Values.{Values}

-- `acc += u[q] * v[q]`
unfoldable pub inner_step : Row → Row → ℕ → Float → Float
inner_step u v q acc = add binary64 acc (mul binary64 (get_or u q nan) (get_or v q nan))

-- the same `for q in 0..m`, from 0.0
unfoldable pub inner_product : Row → Row → ℕ → Float
inner_product u v m = range (inner_step u v) 0 m zero64

-- `quad += design[[i, p]] * t_p`, with t_p row p of the inverse times the design row
unfoldable pub quad_step : Matrix → Row → ℕ → ℕ → Float → Float
quad_step a row m p quad = add binary64 quad (mul binary64 (get_or row p nan) (inverse_times a m p row))

-- `hat_diagonal`: `w_ii * quad`
unfoldable pub hat_diagonal : Matrix → Row → Float → ℕ → Float
hat_diagonal a row own m = mul binary64 own (range (quad_step a row m) 0 m zero64)

-- `ss_tot += w * dy * dy; ss_res += w * dr * dr;`
abbrev pub add_squares : Squares → Float → Float → Float → Float → Squares
add_squares s w y mean fitted =
    let dy = sub binary64 y mean in
    let dr = sub binary64 y fitted in
    record {
      total = add binary64 s.total (mul binary64 (mul binary64 w dy) dy);
      residual = add binary64 s.residual (mul binary64 (mul binary64 w dr) dr);
    }

-- one turn of `for j in 0..n` of `local_r_squared`: observation j is left out where `w == 0.0`
unfoldable pub squares_step : Setup → Data → Row → Row → Float → ℕ → Squares → Squares
squares_step u d w beta mean j s =
    cond (eq (get_or w j nan) zero64)
    s
    (add_squares s (get_or w j nan) (get_or d.responses j nan) mean (inner_product beta (design_row d.predictors u.p j) (u.p + 1)))

-- `ss_tot` and `ss_res` after the loop
unfoldable pub sum_squares : Setup → Data → Row → Row → Float → Squares
sum_squares u d w beta mean = range (squares_step u d w beta mean) 0 u.n (record { total = zero64; residual = zero64 })

-- 1 if `ss_tot <= f64::EPSILON`, else `(1.0 - ss_res / ss_tot).clamp(0.0, 1.0)`
unfoldable pub explained_share : Squares → Float
explained_share s =
    cond (le s.total eps64) one64 (clamp_unit (sub binary64 one64 (div binary64 s.residual s.total)))

-- `local_r_squared`, with `mean_y = weighted_y / weight_sum`
unfoldable pub local_r_squared : Setup → Data → Row → Row → Float → Float
local_r_squared u d w beta sum =
    explained_share (sum_squares u d w beta (div binary64 (inner_product w d.responses u.n) sum))

-- `predicted`, `residual`, `local_r2` and `leverage` of location i, by its own design row and weight
unfoldable pub values_at : Setup → Data → Row → ℕ → Matrix → Row → Float → Values
values_at u d w i a beta sum =
    let row = design_row d.predictors u.p i in
    let predicted = inner_product beta row (u.p + 1) in
    record {
      predicted = predicted;
      residual = sub binary64 (get_or d.responses i nan) predicted;
      local_r2 = local_r_squared u d w beta sum;
      leverage = hat_diagonal a row (get_or w i nan) (u.p + 1);
    }
