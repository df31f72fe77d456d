-- The answers for `all_positive`.
use native.Mathlib.Nat.{sub-zero}
use lib.ListN.{length}
use Rattle.num.specs.Every.{every_stops, every_turns, every_ends}
use Rattle.exposure.specs.Rows.{all_positive_of}
use Rattle.num.specs.Choose.{choose}
use Rattle.exposure.proofs.rows.all_positive.Goals as goal

pub loop-exposure-init : goal.loop-exposure-init
unfolding all_positive_of
loop-exposure-init c = rw (sub-zero (length c.args.exposures.now))

pub returns-then-not-is_positive : goal.returns-then-not-is_positive
returns-then-not-is_positive c = search (every_stops, choose)

pub loop-exposure-preserved : goal.loop-exposure-preserved
loop-exposure-preserved c = search (every_turns, choose)

pub returns : goal.returns
returns c = search every_ends
