-- `run` meets its contract: what the loop answers is the descent of the objective's definition.
use Rattle.std.specs.Prelude.{None}
use Rattle.std.proofs.Common.{◌∙◌, refl}
use Rattle.elementary.specs.Log.{log_of}
use Rattle.course.specs.Drives.{no_parts, course_is}
use Rattle.counts_fit.specs.Among.{value_among, answer_at, run_of}
use Rattle.counts_fit.proofs.drive.run.Goals as goal

pub returns : goal.returns
unfolding run_of
returns c =
    let cs = c.args.counts.now in
    let es = c.args.exposures.now in
    c.run.ensures ∙ course_is log_of (value_among cs es) _ _ (λ l x. None) (λ u w. None) (no_parts log_of (value_among cs es) _ _) (answer_at cs es) (λ l x. refl) _ _
