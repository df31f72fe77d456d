-- `root::parts::Parts::of` meets its contract, by its test: a number below 2^52 is brought up with no bit lost.
use mathlib.Core.Path.{◌≡◌}
use Prim.Native.Nat.{ℕ, ◌-◌, ◌*◌, ◌/◌, ◌^◌}
use native.Mathlib.Nat.{mod-eq_of_lt}
use native.Mathlib.Omega.{arith}
use lib.Count.{count_leading_zeros}
use borrow.Author.Tests.{eq-eqb}
use Rattle.root.specs.Steps.{digits, power}
use Rattle.root.specs.Digits.{brought}
use Rattle.root.specs.declared.parts.Parts.{Parts}
use Rattle.root.proofs.parts.Parts.of.Goals as goal

abbrev parts : ℕ → Parts
parts b = record { digits = digits b; power = power b }

short : (b d : ℕ) → b / 2 ^ 52 ≡ 0 → d ≡ b * 2 ^ (count_leading_zeros 64 b - 11) → record { digits = d; power = 1024 - (count_leading_zeros 64 b - 11) } ≡ parts b
short b d z e = rw (eq-eqb (b / 2 ^ 52) 0 z, e)

pub overflow_sub-up : goal.overflow_sub-up
overflow_sub-up c = omega (arith, brought c.args.b c.requires (omega arith))

pub returns-then-field-eq0 : goal.returns-then-field-eq0
returns-then-field-eq0 c = rw c.from.ensures (short _ _ c.if-field-eq0.true (mod-eq_of_lt (omega (arith, (brought c.args.b c.requires (omega arith)).high))))
