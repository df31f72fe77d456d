-- An answered fit is finite in every number: likelihood, norm, means, SDs, variances, gradient and Hessian.
use Rattle.std.specs.Prelude.{◌≡◌, refl, true, false, List, ℕ, zero, suc, ◌<◌, T, get_or, Float, Ok}
use Rattle.std.proofs.Common.{sym, subst, arith, mul-pos, zero-lt-suc, lit<}
use Rattle.std.specs.Float.{nan, inf, fin, binary64}
use Rattle.std.specs.Float.Ieee.{le, is_nan, fits, of_bits}
use Rattle.std.specs.Float.Ieee.Fits.{up_pos}
use Rattle.num.specs.F64.{zero·}
use Rattle.num.specs.Helpers.{clamp_of, is_finite_of}
use Rattle.root.specs.Root.{plus}
use Rattle.root.specs.Steps.{sqrt_of}
use Rattle.root.proofs.Rounded.{sqrt_is_root}
use Rattle.order.specs.Places.{not_below_zero}
use Rattle.order.specs.Order.{le_then_le}
use Rattle.order.specs.Choices.{clamp_finite}
use Rattle.order.specs.Boxes.{inside_finite}
use Rattle.work.specs.Given.{Always, holds, refuses, tested, passed}
use Rattle.work.specs.Asks.{answered}
use Rattle.legendre.specs.Legendre.{legendre_of}
use Rattle.value.specs.declared.Totals.{Totals}
use Rattle.litters.specs.Litters.{count_of}
use Rattle.objective.specs.Finite.{Known, objective_known}
use Rattle.descent.specs.declared.Status.{Status}
use Rattle.request.specs.declared.Request.{Request}
use Rattle.request.specs.Request.{admitted_of, low_of, high_of}
use Rattle.request.specs.Box.{Bounded, the_box, first_variance, second_variance, first_sd, second_sd}
use Rattle.step.specs.Inside.{norm_finite}
use Rattle.drive.specs.Drive.{value_at}
use Rattle.fit.specs.declared.report.Fit.{Fit}
use Rattle.fit.specs.Fit.{Report, sds_of, report_of, fit, fit_of}
use Rattle.fit.specs.Answers as answers
use Rattle.fit.specs.Inside.{Boxed, fit_asks}

-- said of a report's or a fit's numbers
pub record Finite (nll size : Float) (means sds variances gradient hessian : List Float) : Type 0 where
  pub likelihood : is_finite_of nll ≡ true
  pub norm : is_finite_of size ≡ true
  pub mean_0 : is_finite_of (get_or means 0 nan) ≡ true
  pub mean_1 : is_finite_of (get_or means 1 nan) ≡ true
  pub sd_0 : is_finite_of (get_or sds 0 nan) ≡ true
  pub sd_1 : is_finite_of (get_or sds 1 nan) ≡ true
  pub variance_0 : is_finite_of (get_or variances 0 nan) ≡ true
  pub variance_1 : is_finite_of (get_or variances 1 nan) ≡ true
  pub slopes : (i : ℕ) → i < 4 → is_finite_of (get_or gradient i nan) ≡ true
  pub curvatures : (i : ℕ) → i < 16 → is_finite_of (get_or hessian i nan) ≡ true

abbrev FiniteReport : Report → Type 0
FiniteReport p = Finite p.nll p.norm p.means p.sds p.variances p.gradient p.hessian

-- ---- the root of a number that is not below zero
plus_number : (r : Float) → T (plus r) → is_nan r ≡ false
unfolding is_nan
plus_number nan h = absurd h
plus_number (inf s) h = refl
plus_number (fin s m e) h = refl

root_number : (x : Float) → T (fits binary64 x) → le zero· x ≡ true → is_nan (sqrt_of x) ≡ false
unfolding is_nan is_finite_of le of_bits
root_number nan f h = cc
root_number (inf true) f h = cc
root_number (inf false) f h = rw (sqrt_is_root (inf false) f)
root_number (fin s zero e) f h = rw (sqrt_is_root (fin s zero e) f)
root_number (fin true (suc m) e) f h = absurd (omega (arith, not_below_zero (fin true (suc m) e) refl h, mul-pos (zero-lt-suc m) (up_pos e)))
root_number (fin false (suc m) e) f h = plus_number (sqrt_of (fin false (suc m) e)) (sqrt_is_root (fin false (suc m) e) f).not_minus

sd_finite : (x lo low high : Float) → T (fits binary64 x) → le zero· lo ≡ true → le lo x ≡ true → Bounded low high → is_finite_of (clamp_of (sqrt_of x) low high) ≡ true
sd_finite x lo low high f g h b = clamp_finite _ _ _ (root_number x f (le_then_le _ _ _ g h)) b.low_finite b.high_finite b.ordered

module _ (r : Request) (ls : List ℕ) where
  -- what the descent reached, as it is reported
  reported : admitted_of r ls ≡ true → (x : List Float) (v : Totals) → Boxed r x → Known v → (n e k : ℕ) (s : Status) → FiniteReport (report_of r n s x v e k)
  unfolding sds_of
  reported h x v b q n e k s =
      let lo = low_of r in
      let hi = high_of r in
      let inside = inside_finite lo hi x (the_box r ls h) b.inside in
      record {
        likelihood = q.finite.likelihood;
        norm = norm_finite x v.gradient lo hi q.finite.slopes q.written;
        mean_0 = inside 0 (lit< tt);
        mean_1 = inside 1 (lit< tt);
        sd_0 = sd_finite _ _ _ _ b.third (first_variance r ls h) (b.inside.above 2 (lit< tt)) (first_sd r ls h);
        sd_1 = sd_finite _ _ _ _ b.fourth (second_variance r ls h) (b.inside.above 3 (lit< tt)) (second_sd r ls h);
        variance_0 = inside 2 (lit< tt);
        variance_1 = inside 3 (lit< tt);
        slopes = q.finite.slopes;
        curvatures = q.finite.curvatures;
      }

  reports_finite : Always FiniteReport (fit legendre_of r ls)
  unfolding fit
  reports_finite =
      tested (admitted_of r ls)
      (λ t. passed (answered (λ q. value_at legendre_of ls q.at) (λ q b. objective_known legendre_of q.at ls) (fit_asks r ls t)) (λ d a. holds (reported t d.x d.v a.inside a.evaluated (count_of ls) d.evaluations d.iterations d.status)))
      (λ t. refuses)

  pub fit_finite : (f : Fit) → fit_of r ls ≡ Ok f → Finite f.nll f.norm f.means f.sds f.variances f.gradient f.hessian
  fit_finite f h =
      let a = answers.answered r ls (λ e. tt) reports_finite f h in
      subst (λ g. Finite g.nll g.norm g.means g.sds g.variances g.gradient g.hessian) (sym a.is) a.has
