-- `Plan::propose` meets its contract, by its loop's invariant and what its callees ensure.
use Rattle.stepper.specs.Machine.{propose_of}
use Rattle.stepper.proofs.Laws.{propose_done, propose_cut, propose_asks, propose_turn}
use Rattle.stepper.proofs.Plan.propose.Goals as goal

pub returns-then-self-s : goal.returns-then-self-s
unfolding propose_of
returns-then-self-s c = propose_cut _ _ _ _ c.loop-n.invariant c.loop-n-test.true _ _ _ c.if-self-s.true c.failed.ensures c.noted.ensures c.over.ensures

pub returns-in-Ok : goal.returns-in-Ok
unfolding propose_of
returns-in-Ok c = propose_asks _ _ _ _ c.loop-n.invariant c.loop-n-test.true c.if-self-s.false _ c.offered.ensures _ _ c.in-Ok.is c.awaiting.ensures

pub loop-n-preserved : goal.loop-n-preserved
loop-n-preserved c = propose_turn _ _ _ _ c.loop-n.invariant c.loop-n-test.true c.if-self-s.false _ c.offered.ensures _ _ c.in-Err.is c.halved-s.ensures

pub returns : goal.returns
unfolding propose_of
returns c = propose_done _ _ _ _ c.loop-n.invariant c.loop-n-test.false _ _ c.failed-2.ensures c.over-2.ensures
