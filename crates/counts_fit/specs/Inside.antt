-- The reported shape and rate lie within their bounds: they are clamped to them. That a start inside its bounds is inside in the logarithms too is not asked.
-- And the objective, called alone at an admitted request's start, passes its own checks.
use Rattle.std.specs.Prelude.{◌≡◌, true, false, ◌&&◌, List, ℕ, Float, Result, Ok, Err}
use Rattle.std.proofs.Common.{refl, sym, subst}
use Rattle.std.specs.Float.Ieee.{lt, le, is_nan}
use Rattle.num.specs.Both.{and_left, and_right}
use Rattle.order.specs.Order.{lt_le}
use Rattle.order.specs.Choices.{clamp_not_below, clamp_not_above}
use Rattle.elementary.specs.Exp.{exp_of}
use Rattle.work.specs.Given.{Always, holds, refuses, tested, passed}
use Rattle.descent.specs.Stopping.{reports_evaluated}
use Rattle.exposure.specs.declared.request.Bounds.{Bounds}
use Rattle.exposure.specs.declared.request.Request.{Request}
use Rattle.exposure.specs.Rows.{is_positive_of, valid_rows_of}
use Rattle.exposure.specs.Request.{valid_shape_of, is_boxed_of, valid_shapes_of, valid_rates_of, valid_controls_of, valid_request_of, admitted_of}
use Rattle.exposure.specs.Passed.{admitted_passed}
use Rattle.counts.specs.Known.{evaluate_shaped}
use Rattle.elementary.specs.Log.{log_of}
use Rattle.num.specs.F64.{zero·}
use Rattle.planar.specs.declared.Planar.{Planar}
use Rattle.planar.specs.Planar.{no_planar}
use Rattle.work.specs.Answer.{outcome}
use Rattle.work.specs.Ended.{Ended, done, stopped, short, value_or}
use Rattle.work.specs.Work.{run}
use Rattle.counts.specs.declared.sum.Objective.{Objective}
use Rattle.counts.specs.declared.sum.Refused.{Refused}
use Rattle.counts.specs.Objective.{answered as answered_in, objective, in_full, objective_of}
use Rattle.plane.specs.Plane.{plane_of}
use Rattle.counts_fit.specs.declared.report.Fit.{Fit}
use Rattle.counts_fit.specs.Fit.{Report, start_of, plane_for, value_at, natural_of, fit, fit_of}
use Rattle.counts_fit.specs.Answers.{answered}
use Rattle.counts_fit.specs.Claims.{starting_of, ends}

-- a likelihood, 0 where there is none
abbrev pub nll_in : Result Objective Refused → Float
nll_in (Ok o) = o.nll
nll_in (Err e) = zero·

nll_told : (e : Ended Planar) (n : ℕ) → nll_in (answered_in n (outcome e)) ≡ (value_or no_planar e).nll
nll_told (done v) n = refl
nll_told (stopped r) n = refl
nll_told short n = refl

pub record Within (x : Float) (r : Bounds) : Type 0 where
  pub above : le r.low x ≡ true
  pub below : le x r.high ≡ true

-- an exponential that is a number, clamped
clamped : (x : Float) (r : Bounds) → is_boxed_of r ≡ true → is_nan (exp_of x) ≡ false → Within (natural_of x r) r
unfolding natural_of is_boxed_of
clamped x r b n =
    let h = lt_le r.low r.high (and_left (lt r.low r.high) _ b) in
    record { above = clamp_not_below (exp_of x) r.low r.high n h; below = clamp_not_above (exp_of x) r.low r.high n h }

module _ (r : Request) (cs : List ℕ) (es : List Float) where
  asked : admitted_of r cs es ≡ true → (valid_shapes_of r.shape && (valid_rates_of r.rate && valid_controls_of r)) ≡ true
  unfolding admitted_of valid_request_of
  asked t = and_left (valid_request_of r) _ (and_left (valid_request_of r && valid_rows_of cs es) _ t)

  shape_boxed : admitted_of r cs es ≡ true → is_boxed_of r.shape ≡ true
  unfolding valid_shapes_of
  shape_boxed t =
      let s = r.shape in
      and_left (is_boxed_of s) _ (and_right (valid_shape_of s.start) _ (and_right (valid_shape_of s.high) _ (and_right (valid_shape_of s.low) _ (and_left (valid_shapes_of s) _ (asked t)))))

  rate_boxed : admitted_of r cs es ≡ true → is_boxed_of r.rate ≡ true
  unfolding valid_rates_of
  rate_boxed t =
      let s = r.rate in
      and_left (is_boxed_of s) _ (and_right (is_positive_of s.start) _ (and_right (is_positive_of s.high) _ (and_right (is_positive_of s.low) _ (and_left (valid_rates_of s) _ (and_right (valid_shapes_of r.shape) _ (asked t))))))

  -- the starting likelihood of crates/counts_fit/specs/Claims.antt is the objective's, at the start as the request has it
  pub starting_objective : admitted_of r cs es ≡ true → nll_in (objective_of r.shape.start r.rate.start cs es) ≡ starting_of r cs es
  unfolding admitted_of valid_request_of valid_shapes_of valid_rates_of objective_of objective in_full
  starting_objective t =
      let s = r.shape in
      let q = r.rate in
      let a = and_left (valid_shape_of s.start) _ (and_right (valid_shape_of s.high) _ (and_right (valid_shape_of s.low) _ (and_left (valid_shapes_of s) _ (asked t)))) in
      let b = and_left (is_positive_of q.start) _ (and_right (is_positive_of q.high) _ (and_right (is_positive_of q.low) _ (and_left (valid_rates_of q) _ (and_right (valid_shapes_of s) _ (asked t))))) in
      let c = and_right (valid_request_of r) (valid_rows_of cs es) (and_left (valid_request_of r && valid_rows_of cs es) _ t) in
      rw (a, b, c) (nll_told (run log_of (value_at cs es (start_of r))) _)

  reports_within : Always (λ (p : Report). Within p.shape r.shape) (fit r cs es)
  unfolding fit
  reports_within =
      tested (admitted_of r cs es)
      (λ t. passed (reports_evaluated (plane_of (plane_for r)) (λ q. value_at cs es q.at) (λ s v. is_nan (exp_of s.x) ≡ false) (λ q. evaluate_shaped q.at.x q.at.y cs es (admitted_passed r cs es t).rows.some) (start_of r)) (λ d n. holds (clamped d.x.x r.shape (shape_boxed t) n)))
      (λ t. refuses)

  -- the shape, in every answered fit
  pub shape_within : (f : Fit) → fit_of r cs es ≡ Ok f → Within f.shape r.shape
  shape_within f h = let a = answered r cs es (λ t. tt) reports_within f h in subst (λ g. Within g.shape r.shape) (sym a.is) a.has

  -- the rate, where the exponential of the reported coordinate is a number
  pub rate_within : admitted_of r cs es ≡ true → (f : Fit) (h : fit_of r cs es ≡ Ok f) → is_nan (exp_of (ends r cs es f h).d.x.y) ≡ false → Within f.rate r.rate
  rate_within t f h n = subst (λ g. Within g.rate r.rate) (sym (ends r cs es f h).is) (clamped (ends r cs es f h).d.x.y r.rate (rate_boxed t) n)
