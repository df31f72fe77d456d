-- `GroupCounts::with` meets its contract: one litter more fits, and raises the bound by one.
use Rattle.std.proofs.Common.{◌∙◌, ap, arith}
use Rattle.summary.specs.Summary.{plus_of}
use Rattle.summary.specs.Most.{adds, more, capacity}
use Rattle.summary.proofs.GroupCounts.with.Goals as goal

pub plus-requires : goal.plus-requires
plus-requires c = adds _ _ _ _ _ _ c.of.ensures (omega arith) (omega arith) capacity c.requires (omega arith)

pub returns : goal.returns
returns c = record {
  counts = c.plus.ensures ∙ ap (plus_of c.args.self) c.of.ensures;
  grown = λ k w. more _ _ _ _ _ _ c.of.ensures (omega arith) (omega arith) k w _ c.plus.ensures;
}
