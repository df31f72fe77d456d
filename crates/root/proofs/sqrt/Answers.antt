-- `root::sqrt` meets its contract, by its tests.
use mathlib.Core.Path.{◌≡◌, refl, sym, subst}
use mathlib.Core.Bool.{true}
use lib.Dec.{T}
use lib.Ieee.{Float, nan, binary64, fits, lt, odd, div, of_fields, of_bits}
use Rattle.num.specs.F64.{◌⊘◌, bits, bits_of, zero·, infinity·}
use Rattle.num.specs.Choose.{choose}
use Rattle.root.specs.Root.{units, IsRoot}
use Rattle.root.specs.Steps.{digits, power, sqrt_of}
use Rattle.root.specs.Units.{Read, bits_read}
use Rattle.root.specs.Digits.{scaled, root_finite}
use Rattle.root.specs.Tests.{between, no_nan, no_nan_bits}
use Rattle.root.proofs.Rounded.{sqrt_is_root}
use Rattle.root.proofs.sqrt.Goals as goal

-- an f64 above zero and below infinity is read as its units
above : (x : Float) → T (fits binary64 x) → lt zero· x ≡ true → lt x infinity· ≡ true → Read (bits_of x) (units x)
above x f h k = bits_read x f (between x h k)

both : (x r : Float) → T (fits binary64 x) → r ≡ sqrt_of x → (r ≡ sqrt_of x) × IsRoot x r
both x r f e = (e, subst (λ (y : Float). IsRoot x y) (sym e) (sqrt_is_root x f))

no_root : div binary64 zero· zero· ≡ nan
unfolding div of_bits of_fields odd
no_root = refl

pub float_to_bits-b : goal.float_to_bits-b
float_to_bits-b c = no_nan _ (between _ c.if-x.true c.if-x-2.true)

pub root_bits-requires : goal.root_bits-requires
root_bits-requires c =
    let r = above c.args.x (subst T (sym c.well_formed.0.1) tt) c.if-x.true c.if-x-2.true in
    record { b_nonzero = r.some; b_bound = r.finite }

pub float_from_bits-result : goal.float_from_bits-result
float_from_bits-result c =
    let b = bits_of c.args.x in
    let r = above c.args.x (subst T (sym c.well_formed.0.1) tt) c.if-x.true c.if-x-2.true in
    rw c.root_bits.ensures (no_nan_bits _ (root_finite (digits b) (power b) (scaled b r.some r.finite)))

pub returns-then-x-2 : goal.returns-then-x-2
unfolding sqrt_of
returns-then-x-2 c = let b = both c.args.x (bits c.root_bits.result) (subst T (sym c.well_formed.0.1) tt) (rw c.root_bits.ensures (search choose)) in record { value = b.0; nearest = b.1 }

pub returns-then-x : goal.returns-then-x
unfolding sqrt_of
returns-then-x c = let b = both c.args.x c.args.x (subst T (sym c.well_formed.0.1) tt) (search choose) in record { value = b.0; nearest = b.1 }

pub returns-then-x-3 : goal.returns-then-x-3
unfolding sqrt_of
returns-then-x-3 c = let b = both c.args.x (zero· ⊘ zero·) (subst T (sym c.well_formed.0.1) tt) (search (no_root, choose)) in record { value = b.0; nearest = b.1 }

pub returns-else-x-3 : goal.returns-else-x-3
unfolding sqrt_of
returns-else-x-3 c = let b = both c.args.x c.args.x (subst T (sym c.well_formed.0.1) tt) (search choose) in record { value = b.0; nearest = b.1 }
