-- At which part of the objective a descent was refused, where the objective is a computation `inner` that asks for its parts. The part is read off the descent as
-- one computation of those questions; a loop that drives the descent has it from the value that was refused.
use Rattle.std.specs.Prelude.{◌≡◌, false, List, ℕ, ◌+◌, ◌-◌, Float, Option, None}
use Rattle.std.proofs.Math.Path.{ap, sym}
use Rattle.std.proofs.Common.{◌∙◌}
use Rattle.work.specs.Ended.{done, is_done}
use Rattle.work.specs.Work.{Work, ask, metered}
use Rattle.work.specs.Share.{share}
use Rattle.work.specs.Through.{through, Open, none, Driven, driven, driven_is}
use Rattle.descent.specs.Descent.{Asked, descent}
use Rattle.value.specs.declared.Totals.{Totals}
use Rattle.stepper.specs.declared.Plan.{Plan}
use Rattle.stepper.specs.Machine.{problem_of}
use Rattle.stepper.specs.Stands.{Rest}
use Rattle.course.specs.Drives.{Parts}
use Rattle.course.specs.Nested.{nested, past_of, past_refused, driven_bind, open_share}

module _ {E Y L S : Type 0} (at : E → Y) (ev : L → Work E Y S) (inner : List Float → Work L S Totals) (l : ℕ) (name : Open L → Option ℕ) where
  abbrev pub asking : {A : Type 0} → Work (Asked (List Float)) Totals A → Work L S A
  asking w = through (λ q. inner q.at) w

  -- the part at which the rest is refused, with `used` behind it
  abbrev pub part_after : ℕ → Rest → Option ℕ
  part_after used w = name (driven at ev l used (asking w)).asked

  -- of the whole descent
  abbrev pub part_of : Plan → List Float → Option ℕ
  part_of p x = part_after 0 (descent (problem_of p) x)

  -- of one value, under what is left of the limit
  abbrev pub part_at : ℕ → List Float → Option ℕ
  part_at limit x = name (driven at ev limit 0 (inner x)).asked

  module _ (value : List Float → Work E Y Totals) (is : (x : List Float) → value x ≡ through ev (inner x)) where
    -- the whole descent is the same computation either way
    pub asking_is : {A : Type 0} (w : Work (Asked (List Float)) Totals A) → through ev (asking w) ≡ through (λ q. through ev (inner q.at)) w
    asking_is w = nested ev (λ (q : Asked (List Float)). inner q.at) w

    value_ended : (x : List Float) (used : ℕ) → (driven at ev l used (inner x)).ended ≡ (metered at (l - used) 0 (value x)).ended
    value_ended x used = sym (ap (λ m. m.ended) (driven_is at ev l used (inner x))) ∙ (ap (λ w. (metered at l used w).ended) (sym (is x)) ∙ ap (λ m. m.ended) (share at (value x) l used))

    value_used : (x : List Float) (used : ℕ) → (driven at ev l used (inner x)).used ≡ used + (metered at (l - used) 0 (value x)).used
    value_used x used = sym (ap (λ m. m.used) (driven_is at ev l used (inner x))) ∙ (ap (λ w. (metered at l used w).used) (sym (is x)) ∙ ap (λ m. m.used) (share at (value x) l used))

    module _ (u : ℕ) (q : Asked (List Float)) (k : Totals → Rest) where
      abbrev first : Driven L Totals
      first = driven at ev l u (inner q.at)

      part_is : part_after u (ask q k) ≡ name (past_of first.ended first.used first.asked (λ c n. driven at ev l n (asking (k c)))).asked
      unfolding through
      part_is = ap (λ d. name d.asked) (driven_bind at ev l u (inner q.at) (λ c. asking (k c)))

      refused_at : is_done (metered at (l - u) 0 (value q.at)).ended ≡ false → part_after u (ask q k) ≡ part_at (l - u) q.at
      refused_at y =
          let h : is_done first.ended ≡ false = ap (λ e. is_done e) (value_ended q.at u) ∙ y in
          part_is ∙ (ap name (past_refused first.ended first.used first.asked (λ c n. driven at ev l n (asking (k c))) h) ∙ ap name (open_share at ev l u (inner q.at)))

      answered_at : (c : Totals) → (metered at (l - u) 0 (value q.at)).ended ≡ done c → part_after u (ask q k) ≡ part_after (u + (metered at (l - u) 0 (value q.at)).used) (k c)
      answered_at c y =
          let e : first.ended ≡ done c = value_ended q.at u ∙ y in
          let n : first.used ≡ u + (metered at (l - u) 0 (value q.at)).used = value_used q.at u in
          part_is ∙ (ap (λ o. name (past_of o first.used first.asked (λ c n. driven at ev l n (asking (k c)))).asked) e ∙ ap (λ n. part_after n (k c)) n)

    -- what a loop that drives the descent goes by
    pub parts_are : name none ≡ None → (n : ℕ) → Parts at value l n part_at part_after
    unfolding through driven
    parts_are z n =
        record {
          at_stop = λ u r. z;
          at_value = λ u q k c h. answered_at u q k c h;
          at_stopped = λ u q k r h. refused_at u q k (ap (λ e. is_done e) h);
          at_short = λ u q k h. refused_at u q k (ap (λ e. is_done e) h);
        }
