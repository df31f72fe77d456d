-- `mills::fraction` meets its contract: the whole fraction is what the terms still to come make of the value so far.
use mathlib.Core.Path.{◌≡◌}
use Prim.Native.Nat.{◌-◌}
use Rattle.normal.specs.Normal.{fraction_from, fraction_of}
use Rattle.normal.proofs.mills.fraction.Given as goal

abbrev pub invariant-loop-before : goal.invariant-loop-before
invariant-loop-before l = fraction_of l.t ≡ fraction_from l.t (64 - l.before) l.f
