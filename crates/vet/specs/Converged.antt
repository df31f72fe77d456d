-- A fit of ours that converged is accepted, with its own norm: what it reports lies in its box, and the objective there gives what is reported.
-- And past the box a refusal of the objective is a Domain, with its reason.
use Rattle.std.specs.Prelude.{◌≡◌, refl, true, ◌&&◌, List, [], ◌∷◌, ℕ, ◌≤◌, length, get_or, Float, Result, Ok, Err}
use Rattle.std.proofs.Math.Path.{ap}
use Rattle.std.proofs.Common.{sym, subst, ◌∙◌, arith, eq-eqb, lit<}
use Rattle.std.specs.Float.{nan}
use Rattle.std.specs.Float.Ieee.{le}
use Rattle.num.specs.Both.{and_left, and_right}
use Rattle.num.specs.F64.{bits_of}
use Rattle.order.specs.Boxes.{four, Inside}
use Rattle.work.specs.declared.Refusal as refusal
use Rattle.work.specs.declared.Refusal.TheVariants as work
use Rattle.work.specs.Refusal as reason
use Rattle.work.specs.Answer.{outcome}
use Rattle.work.specs.Ended.{Ended, done, stopped, short, invalid, domain}
use Rattle.work.specs.Work.{listed, metered}
use Rattle.work.specs.Metered.{split}
use Rattle.work.specs.Given.{Always, holds, refuses, tested, passed}
use Rattle.work.specs.Stops.{of_metered}
use Rattle.work.specs.Asks.{answered}
use Rattle.legendre.specs.Legendre.{legendre_of}
use Rattle.posterior.specs.Integrand.{at}
use Rattle.objective.specs.declared.sum.Objective.{Objective}
use Rattle.objective.specs.declared.sum.Refused as objective
use Rattle.litters.specs.Valid.{valid_litters_of}
use Rattle.value.specs.declared.Totals.{Totals}
use Rattle.objective.specs.Point.{valid_point_of}
use Rattle.objective.specs.Objective.{objective, refused_of, told_result, limited_objective_of, objective_of}
use Rattle.objective.specs.Reasons.{admitted_reasons, objective_domain, objective_never_short}
use Rattle.objective.specs.Finite.{objective_known}
use Rattle.objective.specs.Coordinates.{point_of}
use Rattle.descent.specs.declared.Status.TheVariants.{Converged}
use Rattle.request.specs.declared.Request.{Request}
use Rattle.request.specs.Request.{admitted_of, valid_limit, low_of, high_of}
use Rattle.request.specs.Box.{admitted_litters}
use Rattle.fit.specs.Valid.{inside_valid}
use Rattle.drive.specs.Drive.{value_at}
use Rattle.fit.specs.declared.report.Fit.{Fit}
use Rattle.fit.specs.Fit.{Report, fit, fit_of}
use Rattle.fit.specs.Answers as answers
use Rattle.fit.specs.Stops.{answered_stops}
use Rattle.fit.specs.Restart.{reported_point, Gives, fit_restarts}
use Rattle.fit.specs.Inside.{fit_asks}
use Rattle.claim.specs.declared.Claim.{Claim}
use Rattle.claim.specs.declared.Refusal.{Refusal}
use Rattle.claim.specs.declared.Refusal.TheVariants.{Domain}
use Rattle.claim.specs.declared.Refused.{Refused}
use Rattle.claim.specs.Claim.{number_of, reason_of, point_in, in_box_of, same_bits_of, by_objective, accepted_of, judged_of}
use Rattle.vet.specs.Vet.{placed_of, vet_of}
use Rattle.vet.specs.Accepted.{checked, there, size_of, no_answer, facts_accept}

-- ---- the box's test is what is known of a point in the box
inside_boxed : (lo hi x : List Float) → Inside lo hi x → in_box_of (point_of x) lo hi ≡ true
unfolding in_box_of
inside_boxed lo hi x s =
    rw (s.above 0 (lit< tt), s.below 0 (lit< tt), s.above 1 (lit< tt), s.below 1 (lit< tt), s.above 2 (lit< tt), s.below 2 (lit< tt), s.above 3 (lit< tt), s.below 3 (lit< tt))

boxed_inside : (lo hi x : List Float) → in_box_of x lo hi ≡ true → Inside lo hi x
unfolding in_box_of
boxed_inside lo hi x h =
    let first = and_left (le (get_or lo 0 nan) (get_or x 0 nan) && le (get_or x 0 nan) (get_or hi 0 nan)) _ h in
    let h1 = and_right (le (get_or lo 0 nan) (get_or x 0 nan) && le (get_or x 0 nan) (get_or hi 0 nan)) _ h in
    let second = and_left (le (get_or lo 1 nan) (get_or x 1 nan) && le (get_or x 1 nan) (get_or hi 1 nan)) _ h1 in
    let h2 = and_right (le (get_or lo 1 nan) (get_or x 1 nan) && le (get_or x 1 nan) (get_or hi 1 nan)) _ h1 in
    let third = and_left (le (get_or lo 2 nan) (get_or x 2 nan) && le (get_or x 2 nan) (get_or hi 2 nan)) _ h2 in
    let fourth = and_right (le (get_or lo 2 nan) (get_or x 2 nan) && le (get_or x 2 nan) (get_or hi 2 nan)) _ h2 in
    record {
      above = four (λ i. le (get_or lo i nan) (get_or x i nan) ≡ true) (and_left _ _ first) (and_left _ _ second) (and_left _ _ third) (and_left _ _ fourth);
      below = four (λ i. le (get_or x i nan) (get_or hi i nan) ≡ true)
          (and_right (le (get_or lo 0 nan) (get_or x 0 nan)) _ first) (and_right (le (get_or lo 1 nan) (get_or x 1 nan)) _ second)
          (and_right (le (get_or lo 2 nan) (get_or x 2 nan)) _ third) (and_right (le (get_or lo 3 nan) (get_or x 3 nan)) _ fourth);
    }

same_self : (x : Float) → same_bits_of x x ≡ true
unfolding same_bits_of
same_self x = eq-eqb (bits_of x) (bits_of x) refl

-- what a fit reports, as a claim
abbrev pub claim_in : Fit → Claim
claim_in f = record { means = f.means; variances = f.variances; nll = f.nll }

module _ (r : Request) (ls : List ℕ) where
  -- ---- what a fit reports lies in its box
  abbrev ReportBoxed : Report → Type 0
  ReportBoxed p = in_box_of (get_or p.means 0 nan ∷ get_or p.means 1 nan ∷ get_or p.variances 0 nan ∷ get_or p.variances 1 nan ∷ []) (low_of r) (high_of r) ≡ true

  reports_boxed : Always ReportBoxed (fit legendre_of r ls)
  unfolding fit
  reports_boxed =
      tested (admitted_of r ls)
      (λ t. passed (answered (λ q. value_at legendre_of ls q.at) (λ q b. objective_known legendre_of q.at ls) (fit_asks r ls t)) (λ d a. holds (inside_boxed (low_of r) (high_of r) d.x a.inside.inside)))
      (λ t. refuses)

  pub fit_boxed : (f : Fit) → fit_of r ls ≡ Ok f → in_box_of (reported_point f) (low_of r) (high_of r) ≡ true
  fit_boxed f h =
      let a = answers.answered r ls (λ e. tt) reports_boxed f h in
      let P : Fit → Type 0 = λ g. in_box_of (reported_point g) (low_of r) (high_of r) ≡ true in
      subst P (sym a.is) a.has

  passes : (f : Fit) → fit_of r ls ≡ Ok f → checked r ls ≡ true
  passes f h = split (checked r ls) (λ t. t) (λ t. no_answer (sym (answers.unfit_refused r ls t) ∙ h))

  by_report :
      (f : Fit) → checked r ls ≡ true → in_box_of (reported_point f) (low_of r) (high_of r) ≡ true → Gives r ls f (objective_of (reported_point f) ls) → le f.norm r.tolerance ≡ true →
      vet_of r ls (claim_in f) ≡ accepted_of (length (listed at (objective legendre_of (reported_point f) ls))) f.nll f.norm
  by_report f p i g n =
      let a = facts_accept r ls (claim_in f) g.o (record { passes = p; inside = i; answers = g.answered; likelihood = rw g.nll (same_self f.nll); norm = rw g.norm n }) in
      rw (g.count, g.nll, g.norm) at a

  -- A Converged fit of ours is accepted, with its own likelihood and norm; the count is the objective's own there.
  pub converged_accepted : (f : Fit) → fit_of r ls ≡ Ok f → f.status ≡ Converged → vet_of r ls (claim_in f) ≡ accepted_of (length (listed at (objective legendre_of (reported_point f) ls))) f.nll f.norm
  converged_accepted f a h = by_report f (passes f a) (fit_boxed f a) (fit_restarts r ls f a) ((answered_stops r ls f a).converged.0 h)

err_inj : {T E : Type 0} {a b : E} → ◌≡◌ {A = Result T E} (Err a) (Err b) → a ≡ b
err_inj h = cc

-- which computation is refused as InvalidInput
is_invalid : (e : Ended Totals) (n m : ℕ) → told_result (outcome e) n ≡ Err (refused_of work.InvalidInput m) → e ≡ stopped invalid
is_invalid (done t) n m h = no_answer (sym h)
is_invalid (stopped invalid) n m h = refl
is_invalid (stopped (domain r)) n m h = let z : ◌≡◌ {A = ℕ} 2 1 = ap (λ (r : objective.Refused). reason.number_of r.refusal) (err_inj h) in absurd (omega arith)
is_invalid short n m h = let z : ◌≡◌ {A = ℕ} 3 1 = ap (λ (r : objective.Refused). reason.number_of r.refusal) (err_inj h) in absurd (omega arith)

module _ (r : Request) (ls : List ℕ) (c : Claim) where
  -- ---- the objective's checks pass wherever the box's test does
  admitted : checked r ls ≡ true → in_box_of (point_in c) (low_of r) (high_of r) ≡ true → (valid_point_of (point_in c) && valid_litters_of ls) ≡ true
  admitted p i =
      let h = and_right (valid_limit r.quadrature.0) (admitted_of r ls) p in
      rw (inside_valid r ls h (point_in c) (boxed_inside (low_of r) (high_of r) (point_in c) i), admitted_litters r ls h)

  never_invalid : (valid_point_of (point_in c) && valid_litters_of ls) ≡ true → (n : ℕ) → there r ls c ≡ Err (refused_of work.InvalidInput n) → ⊥
  unfolding objective_of limited_objective_of
  never_invalid a n e = of_metered at 8388608 0 invalid (admitted_reasons legendre_of (point_in c) ls a) (is_invalid (metered at 8388608 0 (objective legendre_of (point_in c) ls)).ended _ n e)

  different : {A : Type 0} (v w : Refusal) → v ≡ w → (number_of v ≡ number_of w → ⊥) → A
  different v w e h = absurd (h (ap number_of e))

  -- a Domain of the objective's part is the objective's own refusal
  judged_domain :
      (lo hi : List Float) (tolerance : Float) (x : List Float) (claimed : Float) (p : Result Objective objective.Refused) (e : Refused) (n : ℕ) → judged_of lo hi tolerance x claimed p ≡ Err e → e.refusal ≡ Domain n →
      (d : objective.Refused) × (p ≡ Err d) × (by_objective d ≡ e)
  unfolding judged_of
  judged_domain lo hi tolerance x claimed (Err d) e n h k = (d, refl, err_inj h)
  judged_domain lo hi tolerance x claimed (Ok o) e n h k =
      split (same_bits_of o.v.nll claimed)
      (λ s. split (le (size_of lo hi tolerance x claimed o) tolerance)
      (λ l. no_answer (sym (rw (s, l) at h)))
      (λ l. different _ _ (ap (λ (r : Refused). r.refusal) (err_inj (rw (s, l) at h)) ∙ k) (λ e. omega arith)))
      (λ s. different _ _ (ap (λ (r : Refused). r.refusal) (err_inj (rw s at h)) ∙ k) (λ e. omega arith))

  -- the reason of a refusal that is neither of the other two
  a_domain : (e : refusal.Refusal) (m n : ℕ) → (e ≡ work.InvalidInput → ⊥) → (e ≡ work.WorkBudget → ⊥) → reason.reason_of e ≡ n → e ≡ work.Domain n
  a_domain work.InvalidInput m n h k i = absurd (h refl)
  a_domain (work.Domain r) m n h k i = ap work.Domain i
  a_domain work.WorkBudget m n h k i = absurd (k refl)

  by_refusal :
      (n : ℕ) (e : Refused) → (valid_point_of (point_in c) && valid_litters_of ls) ≡ true → e.refusal ≡ Domain n → (d : objective.Refused) → there r ls c ≡ Err d → by_objective d ≡ e →
      (there r ls c ≡ Err (refused_of (work.Domain n) e.used.0)) × (1 ≤ n) × (n ≤ 6)
  by_refusal n e a k d p q =
      let i : reason.reason_of d.refusal ≡ n = ap reason_of (ap (λ (r : Refused). r.refusal) q ∙ k) in
      let s = a_domain d.refusal d.used.0 n (λ t. never_invalid a d.used.0 (p ∙ ap (λ v. Err (refused_of v d.used.0)) t)) (λ t. objective_never_short (point_in c) ls d.used.0 (p ∙ ap (λ v. Err (refused_of v d.used.0)) t)) i in
      let u : d.used.0 ≡ e.used.0 = ap (λ (r : Refused). r.used.0) q in
      let t : there r ls c ≡ Err (refused_of (work.Domain n) e.used.0) = rw u at (p ∙ ap (λ v. Err (refused_of v d.used.0)) s) in
      let w = objective_domain (point_in c) ls n e.used.0 t in
      (t, w.0, w.1)

  -- A Domain is the objective's own, with its reason, 1 to 6, and its count: the objective in the box fails no check of its own, and meets no limit.
  pub vet_domain : (n : ℕ) (e : Refused) → vet_of r ls c ≡ Err e → e.refusal ≡ Domain n → (there r ls c ≡ Err (refused_of (work.Domain n) e.used.0)) × (1 ≤ n) × (n ≤ 6)
  unfolding vet_of placed_of
  vet_domain n e h k =
      split (checked r ls)
      (λ p. split (in_box_of (point_in c) (low_of r) (high_of r))
      (λ i.
      let j = judged_domain (low_of r) (high_of r) r.tolerance (point_in c) c.nll (there r ls c) e n (rw (p, i) at h) k in
      by_refusal n e (admitted p i) k j.0 j.1 j.2)
      (λ i. different _ _ (ap (λ (r : Refused). r.refusal) (err_inj (rw (p, i) at h)) ∙ k) (λ e. omega arith)))
      (λ p. different _ _ (ap (λ (r : Refused). r.refusal) (err_inj (rw p at h)) ∙ k) (λ e. omega arith))
