-- `row_objective` of the source: one litter's negative log-likelihood with its gradient and Hessian in mean and variance.
use Rattle.std.specs.Prelude.{false, cond, List, [], ◌∷◌, ℕ, get_or, Result, Float}
use Rattle.std.specs.Float.{nan}
use Rattle.std.specs.Float.Ieee.{neg, eq}
use Rattle.num.specs.F64.{◌⊖◌, ◌⊗◌, ◌⊘◌, zero·}
use Rattle.root.specs.Steps.{sqrt_of}
use Rattle.elementary.specs.Log.{log_of}
use Rattle.work.specs.declared.Refusal.{Refusal}
use Rattle.work.specs.declared.QuadratureEvaluations.{QuadratureEvaluations}
use Rattle.work.specs.Work.{Work, ret, eval, ◌>>=◌}
use Rattle.work.specs.Answer.{by}
use Rattle.work.specs.Meter.{meter_of}
use Rattle.coefficient.specs.Coefficient.{coefficient_of}
use Rattle.legendre.specs.declared.Pair.{Pair}
use Rattle.posterior.specs.declared.integrand.Posterior.{Posterior}
use Rattle.posterior.specs.declared.integrand.Point.{Point}
use Rattle.posterior.specs.Integrand.{Eval, alone, at, here}
use Rattle.row.specs.declared.share.Share.{Share}
use Rattle.row.specs.Peak.{peaked, spanned, scale_of}
use Rattle.panel.specs.Panel.{no_sums}
use Rattle.quadrature.specs.Quadrature.{rules}

-- from the moments by their total: first mean, then variance
abbrev pub gradient_of : List Float → List Float
gradient_of m = neg (get_or m 1 nan) ∷ neg (get_or m 2 nan) ∷ []

abbrev pub hessian_of : List Float → List Float
hessian_of m =
    let a = get_or m 1 nan in
    let b = get_or m 2 nan in
    let mixed = get_or m 4 nan ⊖ a ⊗ b in
    neg (get_or m 3 nan ⊖ a ⊗ a) ∷ neg mixed ∷ neg mixed ∷ neg (get_or m 5 nan ⊖ b ⊗ b) ∷ []

-- at variance 0, from the conditional at the mean
abbrev pub alone_share : Float → Point → Share
alone_share choose v = record { nll = neg choose ⊖ v.log; gradient = gradient_of v.moments; hessian = hessian_of v.moments; refinement = zero· }

abbrev part_of : List Float → ℕ → Float
part_of s i = get_or s i nan ⊘ get_or s 0 nan

abbrev pub by_total_of : List Float → List Float
by_total_of s = part_of s 0 ∷ part_of s 1 ∷ part_of s 2 ∷ part_of s 3 ∷ part_of s 4 ∷ part_of s 5 ∷ []

-- from the integral's sums; log is the logarithm at the mode, by which they were scaled
abbrev pub spread_share : Float → Float → List Float → Float → Share
spread_share choose log s refinement =
    record { nll = neg choose ⊖ log ⊖ log_of (get_or s 0 nan); gradient = gradient_of (by_total_of s); hessian = hessian_of (by_total_of s); refinement = refinement }

unfoldable pub spread : (Float → Eval) → List Pair → Posterior → Float → Work Eval Point Share
spread here rule p choose = do
  m ← peaked here
  s ← spanned here p m.at m.log (scale_of m.curvature)
  i ← rules here rule (record { left = s.left; mode = m.at; right = s.right; log = m.log }) 10 0 false no_sums
  ret (spread_share choose m.log i.sum i.refinement)

-- at variance 0
abbrev pub alone_work : ℕ → ℕ → ℕ → Float → Float → Work Eval Point Share
alone_work litter successes total mean choose = do
  v ← eval (alone litter successes total mean)
  ret (alone_share choose v)

-- the litter at this position, with its numbers
unfoldable pub share : ℕ → ℕ → ℕ → List Pair → Float → Float → Work Eval Point Share
share litter successes total rule mean variance =
    let choose = coefficient_of successes total in
    cond (eq variance zero·) (alone_work litter successes total mean choose)
    (let p : Posterior = record { litter = litter; successes = successes; total = total; mean = mean; sd = sqrt_of variance } in spread (here p) rule p choose)

-- ---- as code counts, from no evaluation on

-- the share or its refusal, and the evaluations made
abbrev pub row_of : ℕ → ℕ → ℕ → List Pair → Float → Float → QuadratureEvaluations → Result Share Refusal
row_of litter successes total rule mean variance limit = (by at (meter_of limit) (share litter successes total rule mean variance)).answer

abbrev pub row_used : ℕ → ℕ → ℕ → List Pair → Float → Float → QuadratureEvaluations → ℕ
row_used litter successes total rule mean variance limit = (by at (meter_of limit) (share litter successes total rule mean variance)).meter.used.0
