-- The answers for `Summand::panel`.
use Rattle.std.proofs.Common.{sym, rules}
use Rattle.panel.proofs.Covered.{left_fits, panel_covered}
use Rattle.panel.proofs.Summand.panel.Goals as goal

pub overflow_add-meter : goal.overflow_add-meter
overflow_add-meter c = left_fits c.args.meter.now (sym c.if-sixteen_left.ensures) (search rules)

pub returns-then-sixteen_left : goal.returns-then-sixteen_left
returns-then-sixteen_left c = panel_covered _ _ _ _ _ _ _ c.args.meter.now (sym c.if-sixteen_left.ensures) c.sixteen.ensures
