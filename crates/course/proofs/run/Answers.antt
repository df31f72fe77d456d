-- `run` meets its contract, by its loop's invariant and the objective's laws.
use Rattle.std.proofs.Common.{zero-le, ◌∙◌}
use Rattle.stepper.specs.Stands.{tell_less}
use Rattle.course.specs.Drives.{starts, run_ends, run_stops, run_turn}
use Rattle.course.proofs.Laws.{not_over, fits, kept}
use Rattle.course.proofs.run.Goals as goal

pub loop-s-init : goal.loop-s-init
loop-s-init g c = record { within = zero-le; known = rw c.begin-s.ensures c.requires; left = starts _ _ _ _ _ _ c.begin-s.ensures }

pub returns-in-Over : goal.returns-in-Over
returns-in-Over g c = c.stopped.ensures ∙ run_ends _ _ _ _ _ _ _ c.loop-s.invariant.left _ c.in-Over.is

pub returns-in-Err : goal.returns-in-Err
returns-in-Err g c =
    let t = not_over c.loop-s.s.phase c.in_default.not-Over in
    c.refused.ensures ∙ run_stops _ _ _ _ _ _ _ c.loop-s.invariant.left t _ c.evaluate-a.ensures _ c.in-Err.is

pub loop-s-smaller : goal.loop-s-smaller
loop-s-smaller g c = rw c.tell-s.ensures (tell_less _ _ _ (not_over c.loop-s.s.phase c.in_default.not-Over))

pub loop-s-preserved : goal.loop-s-preserved
loop-s-preserved g c =
    let i = c.loop-s.invariant in
    let laws = g.met.O.Objective.laws in
    let t = not_over c.loop-s.s.phase c.in_default.not-Over in
    let e = c.evaluate-a.ensures in
    record {
      within = fits laws _ _ _ _ _ i.known t _ e i.within;
      known = kept laws _ _ _ _ _ i.known t _ e _ c.in-Ok.is _ c.tell-s.ensures;
      left = run_turn _ _ _ _ _ _ _ i.left t _ e _ c.in-Ok.is _ c.tell-s.ensures;
    }
