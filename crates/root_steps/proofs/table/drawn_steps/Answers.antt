-- The answers for `drawn_steps`: the first row, what `step` asks of each, and the last.
use Rattle.root.specs.Steps.{pencil_from}
use Rattle.root.specs.Pencil.{ready, next_row, last_row}
use Rattle.root_steps.proofs.table.drawn_steps.Goals as goal

pub loop-k-init : goal.loop-k-init
unfolding pencil_from
loop-k-init c = c.start-row.ensures

pub step-next-requires : goal.step-next-requires
step-next-requires c =
    let r = ready _ _ _ c.requires c.loop-k-test.true c.loop-k.invariant in
    record { coming_fits = r.0; rest_small = r.1; root_fits = r.2 }

pub loop-k-preserved : goal.loop-k-preserved
loop-k-preserved c = next_row _ _ _ _ c.loop-k.invariant c.step-next.ensures

pub returns : goal.returns
returns c = last_row _ _ _ c.loop-k.invariant c.loop-k.auto.k-end c.loop-k-test.false
