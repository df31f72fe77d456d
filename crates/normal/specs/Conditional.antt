-- `mills_derivatives` and `conditional` of the source, in its order of operations.
use Rattle.std.specs.Prelude.{List, [], ◌∷◌, ℕ, ◌-◌, get_or, Float}
use Rattle.std.specs.Float.{nan}
use Rattle.std.specs.Float.Ieee.{neg}
use Rattle.num.specs.F64.{◌⊕◌, ◌⊖◌, ◌⊗◌, whole, quarter·, half·, one·, two·, three·, four·, six·}
use Rattle.num.specs.Helpers.{powi_of}
use Rattle.normal.specs.declared.moments.ConditionalLog.{ConditionalLog}
use Rattle.normal.specs.Normal.{normal_of}

-- the first four derivatives of the logarithm, from the ratio r at x
abbrev pub mills_derivatives_of : Float → Float → List Float
mills_derivatives_of x r =
    let first = neg r ⊗ (x ⊕ r) in
    let a = (x ⊕ r) ⊗ (x ⊕ two· ⊗ r) ⊖ one· in
    let second = r ⊗ a in
    let third = first ⊗ a ⊕ r ⊗ ((one· ⊕ first) ⊗ (x ⊕ two· ⊗ r) ⊕ (x ⊕ r) ⊗ (one· ⊕ two· ⊗ first)) in
    r ∷ first ∷ second ∷ third ∷ []

-- y successes and f failures, with the logarithms lp and lm and the derivatives p and q of each
unfoldable pub combined_of : Float → Float → Float → Float → List Float → List Float → ConditionalLog
combined_of y f lp lm p q =
    let s = y ⊗ get_or p 0 nan ⊖ f ⊗ get_or q 0 nan in
    let h = y ⊗ get_or p 1 nan ⊕ f ⊗ get_or q 1 nan in
    let t = y ⊗ get_or p 2 nan ⊖ f ⊗ get_or q 2 nan in
    let u = y ⊗ get_or p 3 nan ⊕ f ⊗ get_or q 3 nan in
    let a = s ⊗ s ⊕ h in
    let b = s ⊗ s ⊗ s ⊕ three· ⊗ s ⊗ h ⊕ t in
    let c = powi_of s 4 ⊕ six· ⊗ s ⊗ s ⊗ h ⊕ three· ⊗ h ⊗ h ⊕ four· ⊗ s ⊗ t ⊕ u in
    record { log = y ⊗ lp ⊕ f ⊗ lm; score = s; curvature = h; moments = one· ∷ s ∷ half· ⊗ a ∷ a ∷ half· ⊗ b ∷ quarter· ⊗ c ∷ [] }

unfoldable pub conditional_of : Float → ℕ → ℕ → ConditionalLog
conditional_of eta successes total =
    let low = normal_of eta in
    let high = normal_of (neg eta) in
    combined_of (whole successes) (whole (total - successes)) low.log high.log (mills_derivatives_of eta low.mills) (mills_derivatives_of (neg eta) high.mills)
