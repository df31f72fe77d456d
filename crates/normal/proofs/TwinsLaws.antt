-- The laws by which one erfc serves x and -x.
use mathlib.Core.Path.{◌≡◌, refl, sym}
use mathlib.Core.Bool.{Bool, true, false, cond}
use lib.Ieee.{Float, binary64, neg, lt}
use Rattle.num.specs.F64.{◌⊖◌, ◌⊗◌, ◌⊘◌, zero·, half·, two·, six·, eight·}
use Rattle.order.specs.Negation.{neg_neg}
use Rattle.order.specs.Products.{mul_swap, mul_neg}
use Rattle.order.specs.Quotients.{neg_div}
use Rattle.elementary.specs.Erfc.{erfc_of, erfc_pos_of}
use Rattle.normal.specs.declared.mills.LogMills.{LogMills}
use Rattle.normal.specs.declared.twins.Twins.{Twins}
use Rattle.normal.specs.Normal.{log_phi_of, sqrt_two, normal_centre, normal_of}
use Rattle.normal.specs.Twins.{size_of, serves_of, by_cdf_of, centres_of}

even_square : (h x : Float) → h ⊗ neg x ⊗ neg x ≡ h ⊗ x ⊗ x
even_square h x = rw (mul_neg h x, mul_neg (neg (h ⊗ x)) x, mul_swap (neg (h ⊗ x)) x, mul_neg x (h ⊗ x), neg_neg (x ⊗ (h ⊗ x)), mul_swap x (h ⊗ x))

even_phi : (x : Float) → log_phi_of (neg x) ≡ log_phi_of x
even_phi x = rw (even_square (neg half·) x)

-- what two tests that fail leave to a third
first : (a b c : Bool) → cond a false (cond b false c) ≡ true → a ≡ false
first true b c h = sym h
first false b c h = refl

second : (a b c : Bool) → cond a false (cond b false c) ≡ true → b ≡ false
second true b c h = cc
second false true c h = sym h
second false false c h = refl

-- erfc at an x that erfc across zero serves, and across
module _ (x : Float) (s : serves_of x ≡ true) where
  beyond : lt (neg x) (neg six·) ≡ false
  unfolding serves_of
  beyond = first (lt (neg x) (neg six·)) (lt (neg x) zero·) (lt x zero·) s

  across : lt (neg x) zero· ≡ false
  unfolding serves_of
  across = second (lt (neg x) (neg six·)) (lt (neg x) zero·) (lt x zero·) s

  under : lt x zero· ≡ true
  unfolding serves_of
  under = rw (beyond, across) at s

  pub far_served : lt x (neg six·) ≡ true → two· ≡ erfc_of x
  unfolding erfc_of
  far_served h = rw h

  module _ (p : Float) (e : p ≡ erfc_pos_of (neg x)) where
    pub near_served : lt x (neg six·) ≡ false → two· ⊖ p ≡ erfc_of x
    unfolding erfc_of
    near_served h = rw (h, under, e)

    pub across_served : p ≡ erfc_of (neg x)
    unfolding erfc_of
    across_served = rw (beyond, across) e

-- what erfc of a number's size is, below zero and above
pub size_below : (x p : Float) → lt x zero· ≡ true → p ≡ erfc_pos_of (size_of x) → p ≡ erfc_pos_of (neg x)
size_below x p h e = rw h at e

pub size_above : (x p : Float) → lt x zero· ≡ false → p ≡ erfc_pos_of (size_of x) → p ≡ erfc_pos_of (neg (neg x))
size_above x p h e = rw (neg_neg x) (rw h at e)

pub back : (x r : Float) → r ≡ erfc_of (neg (neg x)) → r ≡ erfc_of x
back x r e = rw (neg_neg x) at e

pub centres_are : (x phi a b : Float) (l h : LogMills) → a ≡ erfc_of (neg x ⊘ sqrt_two) → b ≡ erfc_of (neg (neg x ⊘ sqrt_two)) → phi ≡ log_phi_of x
    → l ≡ by_cdf_of phi (half· ⊗ a) → h ≡ by_cdf_of phi (half· ⊗ b) → ◌≡◌ {A = Twins} (record { low = l; high = h }) (centres_of x)
unfolding centres_of normal_centre
centres_are x phi a b l h ea eb ep el eh = rw (el, eh, ea, eb, ep, neg_div binary64 (neg x) sqrt_two, even_square (neg half·) x)

pub low_centre : (x : Float) (r : Twins) → lt x (neg eight·) ≡ false → r ≡ centres_of x → r.low ≡ normal_of x
unfolding centres_of normal_of
low_centre x r h e = rw (h, e)

pub high_centre : (x : Float) (r : Twins) → lt (neg x) (neg eight·) ≡ false → r ≡ centres_of x → r.high ≡ normal_of (neg x)
unfolding centres_of normal_of
high_centre x r h e = rw (h, e)
