-- Example A (docs/FORMAT.md): its whole answer, as antt computes it from the fit's definition; and its refusals.
use Rattle.std.specs.Prelude.{◌≡◌, refl, true, false, List, [], ◌∷◌, ◌++◌, ℕ, replicate, Float, Ok, Err}
use Rattle.std.specs.Int.Count.{count_leading_zeros}
use Rattle.std.specs.Float.Ieee.{add, sub, mul, div, neg, lt, le, eq, ne, of_bits, of_int, to_bits}
use Rattle.num.specs.Every.{every_from}
use Rattle.num.specs.Sum.{sum_from}
use Rattle.num.specs.F64.{bits}
use Rattle.num.specs.Helpers.{abs_of, is_finite_of, max_of, min_of, clamp_of, powi_from, powi_of}
use Rattle.finite.specs.Finite.{all_finite_of}
use Rattle.root.specs.Steps.{sqrt_of}
use Rattle.tables.specs.Exp.{exp_row_of, exp_rows}
use Rattle.tables.specs.Log.{log_row_of, log_rows}
use Rattle.tables.specs.Erfc.{erfc_row_of, erfc_rows}
use Rattle.elementary.specs.Exp.{exp_of, exp_low, exp_below, exp_above, exp_finish, exp_far}
use Rattle.elementary.specs.Log.{log_of, log_small, log_parts}
use Rattle.elementary.specs.Erfc.{erfc_of, erfc_pos_of, erfc_tail}
use Rattle.elementary.specs.Lgamma.{lgamma_of, lgamma_below_one, lgamma_by_product, product_of, product_from}
use Rattle.factorial.specs.Factorial.{log_factorial_of}
use Rattle.work.specs.declared.Refusal.TheVariants.{InvalidInput, WorkBudget}
use Rattle.work.specs.Work.{◌>>=◌, metered}
use Rattle.normal.specs.Normal.{normal_centre, normal_of}
use Rattle.normal.specs.Conditional.{combined_of, conditional_of}
use Rattle.posterior.specs.Integrand as integrand
use Rattle.coefficient.specs.Coefficient.{coefficient_of}
use Rattle.row.specs.Share.{share}
use Rattle.litters.specs.Valid.{valid_litter_of, each_valid_of, valid_litters_of}
use Rattle.litters.specs.Groups.{of_group_of}
use Rattle.objective.specs.Point as point
use Rattle.objective.specs.Totals.{finite_totals}
use Rattle.objective.specs.Objective.{rows, objective}
use Rattle.descent.specs.declared.Status.TheVariants.{Converged}
use Rattle.work.specs.Through.{through}
use Rattle.descent.specs.Descent.{descend}
use Rattle.request.specs.declared.Request.{Request}
use Rattle.fit.specs.declared.report.Fit.{Fit}
use Rattle.request.specs.Request.{valid_mean_of, valid_sd_of, valid_means_of, valid_sds_of, valid_controls_of, two_each_of, admitted_of}
use Rattle.step.specs.Step.{project_of, norm_of}
use Rattle.fit.specs.Fit.{active_of, sds_of, fit, limited_fit, fit_of, refused_of}

abbrev pub both : Float → List Float
both x = x ∷ x ∷ []

-- a Hessian by rows that is nothing off its diagonal, the same for both groups: of a mean, of a variance
abbrev diagonal : Float → Float → List Float
diagonal m v = (m ∷ replicate 4 (bits 0)) ++ ((m ∷ replicate 4 (bits 0)) ++ ((v ∷ replicate 4 (bits 0)) ++ (v ∷ [])))

-- means within [-1, 1] and SDs within [0, 1], all from 0; 10 evaluations, tolerance 2^-20
abbrev pub example_a : ℕ → ℕ → Request
example_a iterations quadrature =
    record {
      mean = record { low = both (bits 0xbff0_0000_0000_0000); high = both (bits 0x3ff0_0000_0000_0000); start = both (bits 0) };
      sd = record { low = both (bits 0); high = both (bits 0x3ff0_0000_0000_0000); start = both (bits 0) };
      evaluations = record { 0 = 10 };
      iterations = record { 0 = iterations };
      quadrature = record { 0 = quadrature };
      tolerance = bits 0x3eb0_0000_0000_0000;
    }

-- one of two pups in each of two litters of each group
abbrev pub four_litters : List ℕ
four_litters = 1 ∷ 2 ∷ 0 ∷ 1 ∷ 2 ∷ 0 ∷ 1 ∷ 2 ∷ 1 ∷ 1 ∷ 2 ∷ 1 ∷ []

abbrev pub answer_a : Fit
answer_a =
    record {
      status = Converged;
      means = both (bits 0);
      sds = both (bits 0);
      variances = both (bits 0);
      nll = bits 0x4006_2e42_fefa_39ef;
      norm = bits 0;
      gradient = both (bits 0) ++ both (bits 0x3ff4_5f30_6dc9_c883);
      hessian = diagonal (bits 0x4004_5f30_6dc9_c883) (bits 0xbffb_c649_2a82_2d76);
      evaluations = record { 0 = 1 };
      iterations = record { 0 = 0 };
      quadrature = record { 0 = 4 };
      litters = 4;
      active = false ∷ false ∷ true ∷ true ∷ [];
    }

-- four evaluations are enough; three give WorkBudget with count 3; no iterations are InvalidInput
pub example_a_is :
    (fit_of (example_a 10 4) four_litters ≡ Ok answer_a) × (fit_of (example_a 10 3) four_litters ≡ Err (refused_of WorkBudget 3)) × (fit_of (example_a 0 4) four_litters ≡ Err (refused_of InvalidInput 0))
unfolding fit_of limited_fit fit sds_of active_of project_of norm_of admitted_of two_each_of of_group_of sum_from valid_controls_of valid_sds_of valid_means_of valid_sd_of valid_mean_of through descend objective rows finite_totals all_finite_of every_from point.valid_point_of point.valid_variance_of point.valid_mean_of valid_litters_of each_valid_of valid_litter_of share coefficient_of log_factorial_of integrand.alone_of integrand.integrand_of conditional_of combined_of normal_of normal_centre ◌>>=◌ metered lgamma_of lgamma_by_product lgamma_below_one product_of product_from erfc_of erfc_pos_of erfc_tail erfc_row_of erfc_rows log_of log_parts log_small log_row_of log_rows exp_of exp_low exp_below exp_above exp_finish exp_far exp_row_of exp_rows sqrt_of abs_of is_finite_of max_of min_of clamp_of powi_of powi_from count_leading_zeros to_bits add sub mul div neg lt le eq ne of_bits of_int
example_a_is = (refl, refl, refl)
