-- No second answer meets a contract of the form `r ≡ definition`, and none meets `Did`, by which code answers on a lent meter: a lemma for each, and what
-- they say of each public function.
use Rattle.std.specs.Prelude.{◌≡◌, Bool, false, ◌&&◌, ◌||◌, List, [], ℕ, ◌-◌, ◌^◌, ◌<◌, length, get_or, Float, Result}
use Rattle.std.proofs.Common.{sym, ap, ◌∙◌}
use Rattle.std.proofs.lemmas.List.{ext_get_or}
use Rattle.std.specs.Float.{nan, binary64}
use Rattle.std.specs.Float.Ieee.{round}
use Rattle.num.specs.F64.{infinity·}
use Rattle.num.specs.Helpers.{abs_of, is_finite_of, max_of, min_of, clamp_of, powi_of, sum_of}
use Rattle.finite.specs.Finite.{all_finite_of}
use Rattle.root.specs.Steps.{sqrt_of}
use Rattle.tables.specs.Exp.{exp_row_of}
use Rattle.tables.specs.Log.{log_row_of}
use Rattle.tables.specs.Erfc.{erfc_row_of}
use Rattle.elementary.specs.Exp.{exp_of, exp_low}
use Rattle.elementary.specs.Log.{log_of, log_parts}
use Rattle.elementary.specs.Log1p.{log1p_of}
use Rattle.elementary.specs.Erfc.{erfc_of, erfc_pos_of}
use Rattle.elementary.specs.Lgamma.{lgamma_of}
use Rattle.elementary.specs.Cos.{cos_of}
use Rattle.elementary.specs.Hypot.{hypot_of}
use Rattle.factorial.specs.Factorial.{log_factorial_of}
use Rattle.work.specs.declared.Meter.{Meter}
use Rattle.work.specs.declared.Refusal.{Refusal}
use Rattle.work.specs.Work.{Work, eval}
use Rattle.work.specs.Answer.{Spent, leaves, by, Did}
use Rattle.work.specs.Meter.{counts, meter_of}
use Rattle.work.specs.Refusal.{number_of, reason_of}
use Rattle.normal.specs.declared.mills.LogMills.{LogMills}
use Rattle.normal.specs.declared.twins.Twins.{Twins}
use Rattle.normal.specs.Normal.{log_phi_of, normal_of}
use Rattle.normal.specs.Conditional.{mills_derivatives_of, conditional_of}
use Rattle.legendre.specs.declared.Pair.{Pair}
use Rattle.legendre.specs.Legendre.{legendre_of}
use Rattle.posterior.specs.Side.{first_of, rises_of, steep_of, outward_of, flat_of}
use Rattle.posterior.specs.declared.integrand.Posterior.{Posterior}
use Rattle.posterior.specs.declared.side.Ends.{Ends}
use Rattle.posterior.specs.Integrand.{integrand_of, at, here}
use Rattle.mode.specs.declared.Mode.{Mode}
use Rattle.mode.specs.Bracket.{ends, check_ends}
use Rattle.mode.specs.Mode.{peak}
use Rattle.tail.specs.declared.Hill.{Hill}
use Rattle.tail.specs.Tail.{tail_bound_of, span, goal}
use Rattle.coefficient.specs.Coefficient.{coefficient_of}
use Rattle.panel.specs.declared.Hump.{Hump}
use Rattle.panel.specs.Panel.{no_sums, sides}
use Rattle.quadrature.specs.Quadrature.{rules}
use Rattle.row.specs.Peak.{peaked, scale_of, spanned}
use Rattle.row.specs.Share.{share}
use Rattle.objective.specs.Point.{valid_point_of}
use Rattle.objective.specs.Totals.{index_of, with_share, finite_totals}
use Rattle.objective.specs.Objective.{ended_of, limited_objective_of, objective_of}
use Rattle.objective.specs.Named.{named_objective_of}
use Rattle.descent.specs.Status as status
use Rattle.archive.specs.Layout.{number_of as Archive·number_of, word_at, record_in, valid_of, size_of, count_in, shaped_of}
use Rattle.archive_range.specs.Reads.{running_of}
use Rattle.archive_range.specs.Range.{difference_of, between_of as Archive·between_of}
use Rattle.archive_check.specs.Check.{check_of}
use Rattle.archive_write.specs.Archive.{write_of}
use Rattle.planar.specs.Planar.{among_four_of, widened_of}
use Rattle.exposure.specs.Rows.{is_positive_of, events_of, valid_rows_of}
use Rattle.exposure.specs.Request.{valid_shape_of, product_of, admitted_of as Exposure·admitted_of}
use Rattle.counts.specs.Share.{with_row_of}
use Rattle.counts.specs.Objective.{evaluated_of as Counts·evaluated_of, objective_of as Counts·objective_of}
use Rattle.counts_fit.specs.Fit.{fit_of as Counts·fit_of}
use Rattle.counts_fit.specs.Among.{run_of as Counts·run_of}
use Rattle.summary.specs.Summary.{extreme_of, no_counts, plus_of, litter_counts_of, counts_of, listed_of, summary_of}
use Rattle.summary.specs.Both.{both_of, one_of}
use Rattle.request.specs.declared.Request.{Request}
use Rattle.request.specs.Request.{request_of, up_to_of, admitted_of, start_of, low_of, high_of}
use Rattle.step.specs.Step.{project_of, norm_of, direction_of, candidate_of, slope_of, still_of}
use Rattle.trial.specs.Judged.{norm_at_of}
use Rattle.stepper.specs.Machine.{begin_of, tell_of}
use Rattle.course.specs.Drives.{course_by}
use Rattle.course.specs.Course.{stopped_of, refused_of}
use Rattle.drive.specs.Drive.{run_of}
use Rattle.why.specs.Why.{why_in, stop_in, kind_of, test_number}
use Rattle.fit.specs.Fit.{watched_of, fit_of}
use Rattle.claim.specs.Claim.{number_of as Claim·number_of, reason_of as Claim·reason_of, by_objective, point_in, in_box_of, judged_of as Claim·judged_of}
use Rattle.claim.specs.Give.{vet_room_of}
use Rattle.vet.specs.Vet.{vet_of}
use Rattle.litters.specs.declared.Litter.{Litter}
use Rattle.litters.specs.Litters.{count_of, row_at, row_litter, numbers_of}
use Rattle.litters.specs.Valid.{valid_litter_of, each_valid_of, valid_litters_of}
use Rattle.litters.specs.Groups.{of_group_of}
use Rattle.litters.specs.Table.{no_rows, with_rows, numbers_for_of, lent_of, handed_on_of}

pub one_answer : {A : Type 0} (definition r s : A) → r ≡ definition → s ≡ definition → r ≡ s
one_answer definition r s e f = e ∙ sym f

-- the lemma for a definition of no argument, of one, of two and so on, at every choice of them
pub record One0 {R : Type 0} (d : R) : Type 0 where
  pub one : (r s : R) → r ≡ d → s ≡ d → r ≡ s

pub record One1 {A R : Type 0} (f : A → R) : Type 0 where
  pub one : (a : A) → One0 (f a)

pub record One2 {A B R : Type 0} (f : A → B → R) : Type 0 where
  pub one : (a : A) → One1 (f a)

pub record One3 {A B C R : Type 0} (f : A → B → C → R) : Type 0 where
  pub one : (a : A) → One2 (f a)

pub record One4 {A B C D R : Type 0} (f : A → B → C → D → R) : Type 0 where
  pub one : (a : A) → One3 (f a)

pub record One5 {A B C D E R : Type 0} (f : A → B → C → D → E → R) : Type 0 where
  pub one : (a : A) → One4 (f a)

pub record One6 {A B C D E F R : Type 0} (f : A → B → C → D → E → F → R) : Type 0 where
  pub one : (a : A) → One5 (f a)

pub one0 : {R : Type 0} (d : R) → One0 d
one0 d = record { one = one_answer d }

pub one1 : {A R : Type 0} (f : A → R) → One1 f
one1 f = record { one = λ a. one0 (f a) }

pub one2 : {A B R : Type 0} (f : A → B → R) → One2 f
one2 f = record { one = λ a. one1 (f a) }

pub one3 : {A B C R : Type 0} (f : A → B → C → R) → One3 f
one3 f = record { one = λ a. one2 (f a) }

pub one4 : {A B C D R : Type 0} (f : A → B → C → D → R) → One4 f
one4 f = record { one = λ a. one3 (f a) }

pub one5 : {A B C D E R : Type 0} (f : A → B → C → D → E → R) → One5 f
one5 f = record { one = λ a. one4 (f a) }

pub one6 : {A B C D E F R : Type 0} (f : A → B → C → D → E → F → R) → One6 f
one6 f = record { one = λ a. one5 (f a) }

-- of code that does what w says on a lent meter: neither a second answer nor a second meter
pub record OneDid {E X A : Type 0} (at : E → X) (w : Work E X A) : Type 0 where
  pub one : (m : Meter) (r s : Result A Refusal) (n k : Meter) → Did at w m r n → Did at w m s k → (r ≡ s) × (n ≡ k)

-- two pairs that are one spending
one_spent : {A : Type 0} (d : Spent A) (r s : Result A Refusal) (n k : Meter) → leaves r n ≡ d → leaves s k ≡ d → (r ≡ s) × (n ≡ k)
one_spent d r s n k p q = let e = one_answer d (leaves r n) (leaves s k) p q in (ap (λ (x : Spent _). x.answer) e, ap (λ (x : Spent _). x.meter) e)

pub one_did : {E X A : Type 0} (at : E → X) (w : Work E X A) → OneDid at w
one_did at w = record { one = λ m r s n k p q. one_spent (by at m w) r s n k p q }

pub of_num : One1 abs_of × One1 is_finite_of × One1 all_finite_of × One2 max_of × One2 min_of × One3 clamp_of × One2 powi_of × One1 sum_of × One2 ◌&&◌ × One0 infinity· × One0 nan
of_num = (one1 _, one1 _, one1 _, one2 _, one2 _, one3 _, one2 _, one1 _, one2 _, one0 _, one0 _)

-- the root's statement by squares has a theorem of its own, `one_root`
pub of_elementary : One1 sqrt_of × One1 exp_row_of × One1 log_row_of × One1 erfc_row_of × One1 exp_of × One2 exp_low × One1 log_of × One2 log_parts × One1 log1p_of × One1 erfc_of × One1 erfc_pos_of × One1 lgamma_of × One1 cos_of × One2 hypot_of × One1 log_factorial_of
of_elementary = (one1 _, one1 _, one1 _, one1 _, one1 _, one2 _, one1 _, one2 _, one1 _, one1 _, one1 _, one1 _, one1 _, one2 _, one1 _)

-- the decimal's statement by whole numbers has `one_decimal`
pub of_decimal : One3 (λ (minus : Bool) (digits places : ℕ). round binary64 minus digits (10 ^ places))
of_decimal = one3 _

pub of_work : One1 number_of × One1 reason_of × One1 status.number_of
of_work = (one1 _, one1 _, one1 _)

-- an evaluation that is counted, or refused where the limit leaves none
pub of_meter : (m : Meter) (r s : Result (Unit {0}) Refusal) (n k : Meter) → counts m r n → counts m s k → (r ≡ s) × (n ≡ k)
of_meter m r s n k p q = one_spent _ r s n k p q

pub of_meter_of : One1 meter_of
of_meter_of = one1 _

pub of_normal : One1 log_phi_of × One1 normal_of × One2 mills_derivatives_of × One3 conditional_of × One2 ◌-◌ × One0 legendre_of
of_normal = (one1 _, one1 _, one2 _, one3 _, one2 _, one0 _)

-- `at_both` gives a field at a time
pub of_twins : (a b : LogMills) (r s : Twins) → (r.low ≡ a) × (r.high ≡ b) → (s.low ≡ a) × (s.high ≡ b) → r ≡ s
of_twins a b r s e f = rw (e.0, e.1, f.0, f.1)

-- the integrand, the sides of the mode, and the bound of a tail
pub of_posterior : One5 integrand_of × One1 first_of × One2 rises_of × One2 steep_of × One3 outward_of × One2 flat_of × One5 tail_bound_of
of_posterior = (one5 _, one1 _, one2 _, one2 _, one3 _, one2 _, one5 _)

-- what is evaluated on a lent meter: one evaluation; the mode's bracket, its check and the mode; how far out the integral is taken, and by what goal
pub of_lent :
    ((p : Posterior) (z : Float) → OneDid at (eval (here p z))) ×
    ((p : Posterior) → OneDid at (ends (here p))) × ((p : Posterior) (e : Ends) → OneDid at (check_ends (here p) e)) × ((p : Posterior) (within : Ends) → OneDid at (peak (here p) within.left within.right)) ×
    ((p : Posterior) (h : Hill) → OneDid at (span (here p) h)) × ((p : Posterior) (mode log delta : Float) → OneDid at (goal (here p) mode log delta))
of_lent = (λ p z. one_did _ _, λ p. one_did _ _, λ p e. one_did _ _, λ p within. one_did _ _, λ p h. one_did _ _, λ p mode log delta. one_did _ _)

-- a litter's share: the mode, how far out, the sums of both sides, the integral by its rules, and the whole
pub of_row :
    One2 coefficient_of ×
    ((p : Posterior) → OneDid at (peaked (here p))) × ((p : Posterior) (m : Mode) → OneDid at (spanned (here p) p m.at m.log (scale_of m.curvature))) ×
    ((p : Posterior) (rule : List Pair) (h : Hump) (panels : ℕ) → OneDid at (sides (here p) rule h panels)) ×
    ((p : Posterior) (rule : List Pair) (h : Hump) → OneDid at (rules (here p) rule h 10 0 false no_sums)) ×
    ((litter successes total : ℕ) (rule : List Pair) (mean variance : Float) → OneDid at (share litter successes total rule mean variance))
of_row =
    (one2 _, λ p. one_did _ _, λ p m. one_did _ _, λ p rule h panels. one_did _ _, λ p rule h. one_did _ _, λ litter successes total rule mean variance. one_did _ _)

pub of_objective : One1 valid_point_of × One1 index_of × One3 with_share × One1 finite_totals × One2 ended_of × One4 named_objective_of × One4 limited_objective_of × One2 objective_of
of_objective = (one1 _, one1 _, one3 _, one1 _, one2 _, one4 _, one4 _, one2 _)

pub of_summary : One2 extreme_of × One0 no_counts × One2 plus_of × One4 litter_counts_of × One2 counts_of × One2 both_of × One3 one_of × One2 listed_of × One1 summary_of
of_summary = (one2 _, one0 _, one2 _, one4 _, one2 _, one2 _, one3 _, one2 _, one1 _)

pub of_request : One5 request_of × One2 up_to_of × One2 admitted_of × One1 start_of × One1 low_of × One1 high_of
of_request = (one5 _, one2 _, one2 _, one1 _, one1 _, one1 _)

pub of_step : One4 project_of × One1 norm_of × One2 ◌||◌ × One5 direction_of × One5 candidate_of × One3 slope_of × One2 still_of
of_step = (one4 _, one1 _, one2 _, one5 _, one5 _, one3 _, one2 _)

pub of_stepper : One4 norm_at_of × One2 begin_of × One3 tell_of
of_stepper = (one4 _, one2 _, one3 _)

-- a descent of any objective, of this one, and the fit, with a trial watched and without
pub of_fit : One5 course_by × One3 stopped_of × One3 refused_of × One6 run_of × One3 watched_of × One2 fit_of
of_fit = (one5 _, one3 _, one3 _, one6 _, one3 _, one2 _)

-- what a descent says of the trial that was watched and of what stopped it
pub of_why : One1 why_in × One1 stop_in × One1 kind_of × One1 test_number
of_why = (one1 _, one1 _, one1 _, one1 _)

pub of_litters : One3 valid_litter_of × One1 each_valid_of × One1 valid_litters_of × One2 of_group_of × One1 row_litter × One1 (λ (ls : List Litter). with_rows ls 0 no_rows) × One1 numbers_for_of × One1 lent_of × One1 handed_on_of
of_litters = (one3 _, one1 _, one1 _, one2 _, one1 _, one1 _, one1 _, one1 _, one1 _)

-- the rows of a lent run: as many, and the same
abbrev pub Rows : List ℕ → List (List ℕ) → Type 0
Rows ls rows = (length rows ≡ count_of ls) × ((i : ℕ) (none : List ℕ) → i < count_of ls → get_or rows i none ≡ row_at ls i)

pub of_rows : (ls : List ℕ) (r s : List (List ℕ)) → Rows ls r → Rows ls s → r ≡ s
of_rows ls r s a b = ext_get_or [] r s (one_answer _ _ _ a.0 b.0) (λ i lt. let k : i < count_of ls = rw a.0 at lt in one_answer _ _ _ (a.1 i [] k) (b.1 i [] k))

pub of_archive :
    One1 Archive·number_of × One2 word_at × One2 record_in × One2 valid_of × One1 size_of × One1 count_in × One1 shaped_of × One2 running_of × One2 difference_of × One3 Archive·between_of × One1 check_of ×
    One2 write_of
of_archive = (one1 _, one2 _, one2 _, one2 _, one1 _, one1 _, one1 _, one2 _, one2 _, one3 _, one1 _, one2 _)

pub of_claim : One1 Claim·number_of × One1 Claim·reason_of × One1 by_objective × One1 point_in × One3 in_box_of × One6 Claim·judged_of × One4 vet_room_of × One3 vet_of
of_claim = (one1 _, one1 _, one1 _, one1 _, one3 _, one6 _, one4 _, one3 _)

-- of counts per exposure: the rows and their checks, the objective, the fit
pub of_exposure : One2 among_four_of × One1 widened_of × One1 is_positive_of × One1 events_of × One2 valid_rows_of × One1 valid_shape_of × One3 product_of × One3 Exposure·admitted_of
of_exposure = (one2 _, one1 _, one1 _, one1 _, one2 _, one1 _, one3 _, one3 _)

pub of_counts : One5 with_row_of × One4 Counts·evaluated_of × One4 Counts·objective_of × One4 Counts·run_of × One3 Counts·fit_of
of_counts = (one5 _, one4 _, one4 _, one4 _, one3 _)

-- of lent litters
pub of_records : One2 (λ (r : Request) (ls : List Litter). fit_of r (numbers_of ls)) × One2 (λ (x : List Float) (ls : List Litter). objective_of x (numbers_of ls)) × One1 (λ (ls : List Litter). summary_of (numbers_of ls))
of_records = (one2 _, one2 _, one1 _)
