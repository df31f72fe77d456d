-- The answers for `read_run`.
use Rattle.std.proofs.Common.{arith}
use Rattle.template.proofs.TokenLaws.{digit_small}
use Rattle.template.proofs.ValueLaws.{run_stops, run_turns, run_ends, run_small, run_fits}
use Rattle.template.proofs.value.read_run.Goals as goal

pub returns-in_default-clause-run : goal.returns-in_default-clause-run
returns-in_default-clause-run c = run_stops _ _ _ _ _ c.loop-count.invariant.makes (omega arith) c.in_default.ensures

pub overflow_mul-value : goal.overflow_mul-value
overflow_mul-value c = omega (arith, run_fits _ _ _ _ _ c.loop-count.invariant.small c.requires.room c.requires.at_most_17 (omega arith) (digit_small _ _ _ c.in-Some.ensures))

pub overflow_add-value : goal.overflow_add-value
overflow_add-value c = omega (arith, run_fits _ _ _ _ _ c.loop-count.invariant.small c.requires.room c.requires.at_most_17 (omega arith) (digit_small _ _ _ c.in-Some.ensures))

pub loop-count-preserved : goal.loop-count-preserved
loop-count-preserved c =
    let i = c.loop-count.invariant in
    record {
      makes = run_turns _ _ _ _ _ i.makes _ _ (omega arith) c.in-Some.ensures;
      small = run_small _ _ _ _ i.small (digit_small _ _ _ c.in-Some.ensures);
    }

pub returns-clause-run : goal.returns-clause-run
returns-clause-run c = run_ends _ _ _ _ _ c.loop-count.invariant.makes (omega arith)
