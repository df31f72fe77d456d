-- What the code's evaluation among four coordinates gives, and that it is the plane's, across.
use Rattle.std.specs.Prelude.{◌≡◌, refl, true, List, ℕ, ◌+◌, ◌-◌, ◌*◌, ◌≤◌, length, get_or, Float}
use Rattle.std.proofs.Common.{ap, ◌∙◌, zero-add, zero-le, arith}
use Rattle.std.specs.Float.{nan}
use Rattle.elementary.specs.Log.{log_of}
use Rattle.work.specs.Ended.{Ended, done, stopped, short}
use Rattle.work.specs.Work.{Work, ret, ◌>>=◌, metered}
use Rattle.work.specs.Metered.{split, after, within, metered_bind}
use Rattle.work.specs.Given.{Always, weaker}
use Rattle.planar.specs.declared.Planar.{Planar}
use Rattle.planar.specs.Planar.{widened_of}
use Rattle.descent.specs.Descent.{Asked}
use Rattle.exposure.specs.Rows.{events_of}
use Rattle.counts.specs.Rows.{finite_of, evaluate, totals_of}
use Rattle.counts.specs.Objective.{evaluated_of}
use Rattle.counts.specs.Counted.{tested_of, evaluates}
use Rattle.counts.specs.Known.{x_finite, y_finite, evaluate_known}
use Rattle.plane.specs.Plane.{Spot}
use Rattle.plane.specs.Among.{placed, Good}
use Rattle.plane.specs.Mirror.{asking, end_across, metered_across}
use Rattle.stepper.specs.declared.Plan.{Plan}
use Rattle.stepper.specs.declared.Stepper.{Stepper}
use Rattle.stepper.specs.Machine.{awaits_of, begin_of, tell_of}
use Rattle.value.specs.declared.Totals.{Totals}
use Rattle.course.specs.Drives.{Lawful}
use Rattle.counts_fit.specs.Fit.{value_at}
use Rattle.counts_fit.specs.Among.{value_among, answer_at, answered_of}
use Rattle.counts_fit.specs.Spent.{Within, within_begun, within_room, within_told}

widened : (l n : ℕ) (e : Ended Planar) → after e n (λ v n. metered log_of l n (ret (widened_of v))) ≡ record { ended = end_across widened_of e; used = n }
unfolding metered
widened l n (done v) = refl
widened l n (stopped r) = refl
widened l n short = refl

widens : (l u : ℕ) (w : Work Float Float Planar) → metered log_of l u (w >>= λ v. ret (widened_of v)) ≡ metered_across widened_of (metered log_of l u w)
widens l u w = metered_bind log_of l u w (λ v. ret (widened_of v)) ∙ widened l (metered log_of l u w).used (metered log_of l u w).ended

module _ (cs : List ℕ) (es : List Float) where
  pub same_across : (l : ℕ) (q : Asked Spot) (u : ℕ) → metered log_of l u (value_among cs es (asking placed q).at) ≡ metered_across widened_of (metered log_of l u (value_at cs es q.at))
  same_across l q u = widens l u (value_at cs es q.at)

  pub good_values : (q : Asked Spot) → Always Good (value_at cs es q.at)
  good_values q = weaker (λ v k. record { x = x_finite v k.finite; y = y_finite v k.finite; x_fits = k.x_fits; y_fits = k.y_fits }) (evaluate_known q.at.x q.at.y cs es)

  -- an evaluation whose passes fit below the limit
  counted : (l : ℕ) (x : List Float) → events_of cs ≤ l → metered log_of l 0 (value_among cs es x) ≡ record { ended = end_across widened_of (tested_of (totals_of (get_or x 1 nan) (get_or x 3 nan) cs es)); used = events_of cs }
  counted l x h =
      let a = get_or x 1 nan in
      let b = get_or x 3 nan in
      widens l 0 (evaluate a b cs es)
      ∙ (ap (metered_across widened_of) (evaluates l a b cs es 0 (omega arith)) ∙ ap (λ n. record { ended = end_across widened_of (tested_of (totals_of a b cs es)); used = n }) (zero-add (events_of cs)))

  -- what the code's evaluation gives, where its passes fit below the limit
  pub answered_is : (l : ℕ) (x : List Float) → events_of cs ≤ l → answered_of (evaluated_of (get_or x 1 nan) (get_or x 3 nan) cs es) ≡ answer_at cs es l x
  unfolding evaluated_of tested_of
  answered_is l x h =
      let c = counted l x h in
      split (finite_of (totals_of (get_or x 1 nan) (get_or x 3 nan) cs es)) (λ t. rw (c, t)) (λ t. rw (c, t))

  -- it counts every event
  used_is : (l : ℕ) (x : List Float) → events_of cs ≤ l → (answer_at cs es l x).used ≡ events_of cs
  used_is l x h = ap (λ m. m.used) (counted l x h)

  -- what an evaluation asks for, and what is known between two of them
  pub record Ready (l : ℕ) : Type 0 where
    pub few : length cs ≤ 4096
    pub paired : length cs ≤ length es
    pub fits : events_of cs ≤ l

  pub record Known (p : Plan) (l : ℕ) (s : Stepper) (u : ℕ) : Type 0 where
    pub few : length cs ≤ 4096
    pub paired : length cs ≤ length es
    pub within : p.most.0 * events_of cs ≤ l
    pub spent : Within p.most.0 (events_of cs) s u

  pub known_begun : (p : Plan) (l : ℕ) (x : List Float) → length cs ≤ 4096 → length cs ≤ length es → 1 ≤ p.most.0 → p.most.0 * events_of cs ≤ l → Known p l (begin_of x 0) 0
  known_begun p l x few paired some within = record { few = few; paired = paired; within = within; spent = within_begun p.most.0 (events_of cs) x (begin_of x 0) refl some }

  room : (p : Plan) (l : ℕ) (s : Stepper) (u : ℕ) → Known p l s u → awaits_of s.phase ≡ true → events_of cs ≤ l - u
  room p l s u k t = let h = within_room p.most.0 l (events_of cs) s u k.spent t k.within in omega arith

  allowed : (p : Plan) (l : ℕ) (s : Stepper) (u : ℕ) → Known p l s u → awaits_of s.phase ≡ true → Ready (l - u)
  allowed p l s u k t = record { few = k.few; paired = k.paired; fits = room p l s u k t }

  kept : (p : Plan) (l : ℕ) (s : Stepper) (u : ℕ) (c : Totals) → Known p l s u → awaits_of s.phase ≡ true → Known p l (tell_of p s c) (u + (answer_at cs es (l - u) s.next).used)
  kept p l s u c k t = rw (used_is (l - u) s.next (room p l s u k t)) (record { few = k.few; paired = k.paired; within = k.within; spent = within_told p (events_of cs) s (tell_of p s c) c u k.spent t refl })

pub counts_laws : {O : Type 0} (cs : O → List ℕ) (es : O → List Float) → Lawful {O = O} (λ o l x. answer_at (cs o) (es o) l x) (λ o l. Ready (cs o) (es o) l) (λ o p l s u. Known (cs o) (es o) p l s u)
counts_laws cs es =
    record {
      within = λ o l x r. within log_of l 0 (value_among (cs o) (es o) x) zero-le;
      allows = λ o p l s u k t. allowed (cs o) (es o) p l s u k t;
      keeps = λ o p l s u c k t y. kept (cs o) (es o) p l s u c k t;
    }
