-- `run` meets its contract: what the loop answers is the descent of the objective's definition.
use Rattle.std.proofs.Common.{◌∙◌}
use Rattle.drive.specs.Drive.{course_at}
use Rattle.drive.proofs.run.Goals as goal

pub returns : goal.returns
returns c = c.run.ensures ∙ course_at _ _ _ _ _ _
