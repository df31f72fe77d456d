-- `summarize` meets its contract: what is answered of the numbers that are handed on.
use Rattle.std.proofs.Common.{ap, ◌∙◌}
use Rattle.summary.specs.Summary.{summary_of}
use Rattle.records.specs.Kept.{summary_kept}
use Rattle.records.proofs.summarize.Goals as goal

pub returns : goal.returns
returns c =
    let h = c.with_numbers.ensures in
    h.1 ∙ ap summary_of h.2 ∙ summary_kept c.args.litters.now
