-- `decimal::nearest` meets its contract.
use Prim.Native.Nat.{◌^◌, ◌≤◌}
use native.Mathlib.Omega.{arith}
use Rattle.num.specs.Numbers.{number_bits}
use Rattle.decimal.specs.Division.{near, near_zero, rounded_few}
use Rattle.decimal.proofs.nearest.Goals as goal

few : (c : goal.After-rounded-c) → c.rounded-c.result ≤ 2 ^ 53
few c = rw c.rounded-c.ensures (rounded_few _ _ c.divided-d.ensures.last.few)

pub returns-then-num-eq0 : goal.returns-then-num-eq0
returns-then-num-eq0 c = rw c.if-num-eq0.true (near_zero _ c.requires.divides)

pub overflow_add-result : goal.overflow_add-result
overflow_add-result c = omega (arith, few c, c.divided-d.ensures.last)

pub float_from_bits-result : goal.float_from_bits-result
float_from_bits-result c = number_bits _ (omega (arith, few c, c.divided-d.ensures.last))

pub returns : goal.returns
returns c =
    let d = c.divided-d.result in
    rw c.rounded-c.ensures (near _ _ d.digits d.rest d.places c.requires.divides c.divided-d.ensures)
