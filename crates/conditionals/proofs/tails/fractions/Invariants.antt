-- `tails::fractions` meets its contract: the fractions are what the terms still to come make of the values so far.
use mathlib.Core.Path.{◌≡◌}
use lib.ListN.{length}
use Rattle.conditionals.specs.Tails.{fractions_of}
use Rattle.conditionals.proofs.TailsLaws.{still}
use Rattle.conditionals.proofs.tails.fractions.Given as goal

abbrev pub invariant-loop-k : goal.invariant-loop-k
invariant-loop-k l = (length l.f ≡ 16) × (still l.t l.f l.k ≡ fractions_of l.t)

abbrev pub decreases-loop-k : goal.decreases-loop-k
decreases-loop-k l = l.k
