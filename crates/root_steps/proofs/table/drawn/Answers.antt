-- `drawn` meets its contract as `root::root_bits` does, by the same bounds.
use Rattle.root.specs.Digits.{bounds}
use Rattle.root_steps.proofs.table.drawn.Goals as goal

pub radicand-m-requires : goal.radicand-m-requires
radicand-m-requires c = rw c.of-x.ensures (bounds c.args.b c.requires.b_nonzero c.requires.b_bound).few

pub drawn_steps-found-requires : goal.drawn_steps-found-requires
drawn_steps-found-requires c = rw (c.radicand-m.ensures, c.of-x.ensures) (bounds c.args.b c.requires.b_nonzero c.requires.b_bound).given
