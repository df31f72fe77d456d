-- `root::root_bits` meets its contract: the digits and the power are in their bounds, and so is what the pencil is given.
use Rattle.root.specs.Digits.{bounds}
use Rattle.root.proofs.root_bits.Goals as goal

pub radicand-requires : goal.radicand-requires
radicand-requires c = rw c.of-x.ensures (bounds c.args.b c.requires.b_nonzero c.requires.b_bound).few

pub root_of-root-requires : goal.root_of-root-requires
root_of-root-requires c = rw (c.radicand.ensures, c.of-x.ensures) (bounds c.args.b c.requires.b_nonzero c.requires.b_bound).given
