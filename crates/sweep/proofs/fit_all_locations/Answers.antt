-- `sweep::fit_all_locations`: sweep and output are the fold up to i, and a solve that is refused ends it.
use borrow.Author.Rules.{rules}
use mathlib.Core.Path.{refl, sym, ap, ◌∙◌}
use native.Mathlib.Omega.{arith}
use Rattle.std.specs.Prelude.{None}
use Rattle.real.specs.Fold.{range}
use Rattle.real.proofs.Fold.{more}
use Rattle.setup.specs.declared.Setup.{Setup}
use Rattle.sweep.specs.declared.Sweep.{Sweep}
use Rattle.sweep.specs.Sweep.{after_solve, visit, fit_all_locations}
use Rattle.sweep.proofs.Sweeps.{after_found, visit_going, stopped_rest}
use Rattle.sweep.proofs.fit_all_locations.Goals as goal

pub loop-i-preserved : goal.loop-i-preserved
loop-i-preserved c =
    let n = ap (λ (u : Setup). u.n) c.setup-u.ensures.setup in
    let wrote = rw c.setup-u.ensures.setup at c.write_row.ensures in
    let v = visit_going _ _ _ _ _ _ _ _ _ _ refl c.solve_location-outcome.ensures wrote (after_found _ _ _ _ _ c.in-Ok.is c.add.ensures c.next-sweep.ensures) in
    let added = ap (λ (s : Sweep). s.location) c.add.ensures in
    let next = ap (λ (s : Sweep). s.location) c.next-sweep.ensures in
    (more c.loop-i.invariant.0 (omega (arith, n)) v, omega (arith, added, next, c.loop-i.invariant.1), search rules)

pub returns-in-Err : goal.returns-in-Err
unfolding fit_all_locations
returns-in-Err c =
    let a = c.args in
    let q = a.problem.now in
    let n = ap (λ (u : Setup). u.n) c.setup-u.ensures.setup in
    let wrote = rw c.setup-u.ensures.setup at c.write_row.ensures in
    let v = visit_going _ _ _ _ _ _ _ _ _ _ refl c.solve_location-outcome.ensures wrote (sym (ap (after_solve c.loop-i.sweep) c.in-Err.is)) in
    let r = more c.loop-i.invariant.0 (omega (arith, n)) v in
    stopped_rest _ _ _ _ _ _ _ _ _ r.high refl r.is
    ∙ ap (λ (s : Sweep). range (visit a.rows q.setup q.columns a.b) 0 q.setup.n (record { stopped = None; sweep = s }, a.out.now)) c.new-sweep.ensures
