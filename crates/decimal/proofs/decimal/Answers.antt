-- `decimal::decimal` meets its contract.
use mathlib.Core.Path.{◌≡◌, refl}
use Prim.Native.Nat.{ℕ, ◌*◌, ◌^◌, ◌≤◌, ◌<◌}
use mathlib.Core.Bool.{Bool, cond}
use lib.Ieee.{Float, binary64, neg, round}
use native.Mathlib.Nat.{pow-le-pow_right}
use Rattle.decimal.specs.Nearest.{Nearest, Decimal}
use Rattle.decimal.specs.Round.{decimal_round}
use native.Mathlib.Omega.{arith}
use Rattle.decimal.proofs.decimal.Goals as goal

fitting : (digits places den : ℕ) → den ≡ 10 ^ places → digits < 10 ^ 17 → 1 ≤ places → places ≤ 16 → (0 < den) × (den < 2 ^ 54) × (digits < 2 ^ 54 * den)
fitting digits places den e h l k =
    let a : 10 ^ 1 ≤ 10 ^ places = pow-le-pow_right {n = 10} (omega arith) l in
    let b : 10 ^ places ≤ 10 ^ 16 = pow-le-pow_right {n = 10} (omega arith) k in
    (omega arith, omega arith, omega arith)

both : (minus : Bool) (digits places den : ℕ) (size r : Float) → den ≡ 10 ^ places → digits < 10 ^ 17 → 1 ≤ places → places ≤ 16 → Nearest digits den size → r ≡ cond minus (neg size) size → (r ≡ round binary64 minus digits (10 ^ places)) × Decimal minus digits places r
both minus digits places den size r e h l k n i =
    let f = fitting digits places (10 ^ places) refl h l k in
    let d : Decimal minus digits places r = record { size = size; nearest = rw (← e) n; is = i } in
    (decimal_round minus digits places r f.2 d, d)

pub nearest-r-requires : goal.nearest-r-requires
nearest-r-requires c = let p = c.requires in let f = fitting _ _ _ c.pow-den.ensures p.0 p.1 p.2 in record { divides = f.0; den_fits = f.1; num_fits = f.2 }

pub returns-then-minus : goal.returns-then-minus
returns-then-minus c =
    let p = c.requires in
    let b = both _ _ _ _ c.nearest-r.result _ c.pow-den.ensures p.0 p.1 p.2 c.nearest-r.ensures (rw c.if-minus.true refl) in
    record { value = b.0; nearest = b.1 }

pub returns-else-minus : goal.returns-else-minus
returns-else-minus c =
    let p = c.requires in
    let b = both _ _ _ _ c.nearest-r.result _ c.pow-den.ensures p.0 p.1 p.2 c.nearest-r.ensures (rw c.if-minus.false refl) in
    record { value = b.0; nearest = b.1 }
