-- `run` meets its contract: what the loop answers is the descent of the bowl's definition.
use Rattle.std.specs.Prelude.{None}
use Rattle.std.proofs.Common.{◌∙◌}
use Rattle.course.specs.Drives.{no_parts, course_is}
use Rattle.second.specs.Second.{at, bowl_at, bowl_answer, bowl_is}
use Rattle.second.proofs.run.Goals as goal

pub returns : goal.returns
returns c = c.run.ensures ∙ course_is at bowl_at _ _ (λ l x. None) (λ u w. None) (no_parts at bowl_at _ _) bowl_answer bowl_is _ _
