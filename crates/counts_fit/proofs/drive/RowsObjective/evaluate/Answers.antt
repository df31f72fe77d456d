-- `evaluate` meets its contract: the passes of one evaluation fit below the limit.
use Rattle.std.proofs.Common.{◌∙◌, ap}
use Rattle.counts_fit.specs.Among.{answered_of}
use Rattle.counts_fit.specs.Valued.{answered_is}
use Rattle.counts_fit.proofs.drive.RowsObjective.evaluate.Goals as goal

pub returns : goal.returns
returns c = c.answered.ensures ∙ (ap (λ o. answered_of o) c.evaluated.ensures ∙ answered_is c.args.self.now.counts.now c.args.self.now.exposures.now c.args.limit c.args.x c.requires.fits)
