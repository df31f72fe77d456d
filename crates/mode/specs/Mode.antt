-- The posterior's mode: Newton's steps kept inside the bracket, at most a hundred, then one evaluation that has to confirm it.
use Rattle.std.specs.Prelude.{cond, ◌&&◌, ℕ, zero, suc, Float}
use Rattle.std.specs.Float.Ieee.{lt, le}
use Rattle.num.specs.F64.{◌⊕◌, ◌⊗◌, ◌⊘◌, bits, zero·, half·, one·}
use Rattle.num.specs.Helpers.{abs_of, clamp_of}
use Rattle.work.specs.Ended.{domain}
use Rattle.work.specs.Work.{Work, ret, stop, eval, ◌>>=◌}
use Rattle.posterior.specs.declared.integrand.Point.{Point}
use Rattle.mode.specs.declared.Guess.{Guess}
use Rattle.mode.specs.declared.Mode.{Mode}
use Rattle.posterior.specs.Integrand.{Eval}

-- a slope at z counts as zero up to c times 1 + |z|
abbrev pub allowed_of : Float → Float → Float
allowed_of c z = c ⊗ (one· ⊕ abs_of z)

-- 1e-12 ends the steps, 1e-9 is asked of the mode
abbrev pub steps_tolerance : Float
steps_tolerance = bits 0x3d71_9799_812d_ea11

abbrev pub mode_tolerance : Float
mode_tolerance = bits 0x3e11_2e0b_e826_d695

-- the bracket closes on the side that the slope shows, and Newton's step is taken where it stays inside
abbrev pub narrowed_of : Guess → Float → Float → Guess
narrowed_of g d k =
    let rising = lt zero· d in
    let lo = cond rising g.at g.lo in
    let hi = cond rising g.hi g.at in
    let next = g.at ⊕ d ⊘ k in
    record { lo = lo; hi = hi; at = cond (lt lo next && lt next hi) next (half· ⊗ (lo ⊕ hi)) }

-- at most n steps more
unfoldable pub passes : (Float → Eval) → ℕ → Guess → Work Eval Point Float
passes here zero g = ret g.at
passes here (suc n) g = do
  v ← eval (here g.at)
  cond (le (abs_of v.slope) (allowed_of steps_tolerance g.at)) (ret g.at) (passes here n (narrowed_of g v.slope v.curvature))

-- reason 2, mode not converged: the slope there is not small, or the curvature not above zero
unfoldable pub confirmed : (Float → Eval) → Float → Work Eval Point Mode
confirmed here z = do
  v ← eval (here z)
  cond (lt (allowed_of mode_tolerance z) (abs_of v.slope)) (stop (domain 2))
      (cond (le v.curvature zero·) (stop (domain 2)) (ret (record { at = z; log = v.log; curvature = v.curvature })))

abbrev pub start_of : Float → Float → Guess
start_of lo hi = record { lo = lo; hi = hi; at = clamp_of zero· lo hi }

unfoldable pub peak : (Float → Eval) → Float → Float → Work Eval Point Mode
peak here lo hi = do
  z ← passes here 100 (start_of lo hi)
  confirmed here z
