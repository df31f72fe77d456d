-- The litter at which an objective is refused: the objective as a computation that asks for each litter's share by the litter's number. The question that was
-- refused names the litter, by its own refusal or by the limit's.
use Rattle.std.specs.Prelude.{◌≡◌, Bool, cond, List, Option, None, Some, Result, Ok, Err, Float}
use Rattle.std.proofs.Math.Path.{refl, ap, fun_ext}
use Rattle.std.proofs.Math.Bool.{true, false}
use Prim.Native.Nat.{ℕ, zero, suc, ◌+◌}
use Rattle.work.specs.declared.QuadratureEvaluations.{QuadratureEvaluations}
use Rattle.work.specs.declared.Meter.{Meter}
use Rattle.work.specs.declared.Refusal.{Refusal}
use Rattle.work.specs.declared.Refusal.TheVariants.{InvalidInput}
use Rattle.work.specs.Impossible.{impossible}
use Rattle.work.specs.Ended.{Why, invalid, domain, Ended, done, stopped, short}
use Rattle.work.specs.Work.{Work, ret, stop, ask, ◌>>=◌, metered}
use Rattle.work.specs.Answer.{outcome}
use Rattle.work.specs.Through.{through, Open, none, refused, Driven, heard, driven, driven_is}
use Rattle.legendre.specs.declared.Pair.{Pair}
use Rattle.posterior.specs.declared.integrand.Point.{Point}
use Rattle.posterior.specs.Integrand.{Eval, at}
use Rattle.row.specs.declared.share.Share.{Share}
use Rattle.value.specs.declared.Totals.{Totals}
use Rattle.value.specs.Totals.{no_totals}
use Rattle.objective.specs.declared.sum.Objective.{Objective}
use Rattle.objective.specs.declared.sum.Refused.{Refused}
use Rattle.objective.specs.declared.sum.Named.{Named}
use Rattle.litters.specs.Litters.{count_of, group_at}
use Rattle.objective.specs.Totals.{index_of, finite_totals, with_share}
use Rattle.objective.specs.Objective.{share_at, rows, admits, objective, answered_of, refused_of, told_result, told_objective, limited_objective_of}

-- what is asked for: the share of the litter of this number, from 0, at this point
pub record Litter : Type 0 where
  pub at : List Float
  pub number : ℕ

abbrev pub share_for : List Pair → List ℕ → Litter → Work Eval Point Share
share_for rule ls q = share_at rule q.at ls q.number

-- n litters from the i-th on, in their order
unfoldable pub asked_rows : List Float → List ℕ → ℕ → ℕ → Totals → Work Litter Share Totals
asked_rows x ls zero i t = cond (finite_totals t) (ret t) (stop (domain 6))
asked_rows x ls (suc n) i t = ask (record { at = x; number = i }) (λ s. asked_rows x ls n (i + 1) (with_share t (index_of (group_at ls i)) s))

unfoldable pub asked : List Float → List ℕ → Work Litter Share Totals
asked x ls = cond (admits x ls) (asked_rows x ls (count_of ls) 0 no_totals) (stop invalid)

-- counted from 1, where a litter was refused
abbrev pub numbered : Open Litter → Option ℕ
numbered none = None
numbered (refused q) = Some (q.number + 1)

-- ---- the objective is the asked form, with each question answered by that litter's share
module _ (rule : List Pair) (x : List Float) (ls : List ℕ) where
  ends_asked : (b : Bool) (t : Totals) (r : Why) → ◌≡◌ {A = Work Eval Point Totals} (cond b (ret t) (stop r)) (through (share_for rule ls) (cond b (ret t) (stop r)))
  unfolding through
  ends_asked true t r = refl
  ends_asked false t r = refl

  rows_asked : (n i : ℕ) (t : Totals) → rows rule x ls n i t ≡ through (share_for rule ls) (asked_rows x ls n i t)
  unfolding rows asked_rows through
  rows_asked zero i t = ends_asked (finite_totals t) t (domain 6)
  rows_asked (suc n) i t = ap (λ f. share_at rule x ls i >>= f) (fun_ext (λ s. rows_asked n (i + 1) (with_share t (index_of (group_at ls i)) s)))

  admitted_asked : (b : Bool) → cond b (rows rule x ls (count_of ls) 0 no_totals) (stop invalid) ≡ through (share_for rule ls) (cond b (asked_rows x ls (count_of ls) 0 no_totals) (stop invalid))
  unfolding through
  admitted_asked true = rows_asked (count_of ls) 0 no_totals
  admitted_asked false = refl

  pub asked_is : objective rule x ls ≡ through (share_for rule ls) (asked x ls)
  unfolding objective asked
  asked_is = admitted_asked (admits x ls)

-- ---- the code's answers

abbrev pub named_of : Refusal → ℕ → Option ℕ → Named
named_of e n litter = record { refused = refused_of e n; litter = litter }

-- a check that fails
abbrev pub invalid_of : Named
invalid_of = named_of InvalidInput 0 None

-- a refusal by the litter at which it came
unfoldable pub at_litter : Option ℕ → Result Objective Refused → Result Objective Named
at_litter litter (Ok o) = Ok o
at_litter litter (Err r) = Err (record { refused = r; litter = litter })

abbrev pub at_no_litter : Result Objective Refused → Result Objective Named
at_no_litter o = at_litter None o

-- with n evaluations made
abbrev pub told_open : Result Totals Refusal → ℕ → Open Litter → Result Objective Named
told_open (Ok t) n q = Ok (answered_of n t)
told_open (Err e) n q = Err (named_of e n (numbered q))

abbrev pub told_named : Driven Litter Totals → Result Objective Named
told_named d = told_open (outcome d.ended) d.used d.asked

-- n litters from the i-th on, with the meter's count behind them
unfoldable pub named_from : List Pair → List Float → List ℕ → Meter → ℕ → ℕ → Totals → Result Objective Named
named_from rule x ls m n i t = told_named (driven at (share_for rule ls) m.limit.0 m.used.0 (asked_rows x ls n i t))

unfoldable pub summed_of : List Pair → List Float → List ℕ → QuadratureEvaluations → Result Objective Named
summed_of rule x ls limit = named_from rule x ls (record { used = record { 0 = 0 }; limit = limit }) (count_of ls) 0 no_totals

unfoldable pub named_objective_of : List Pair → List Float → List ℕ → QuadratureEvaluations → Result Objective Named
named_objective_of rule x ls limit = told_named (driven at (share_for rule ls) limit.0 0 (asked x ls))

-- under a limit of its own
unfoldable pub litter_of : List Pair → List Float → List ℕ → ℕ → Option ℕ
litter_of rule x ls limit = numbered (driven at (share_for rule ls) limit 0 (asked x ls)).asked

-- ---- what such an answer says: the objective, and the litter at which it was refused

abbrev pub unnamed : Result Objective Named → Result Objective Refused
unnamed (Ok o) = Ok o
unnamed (Err n) = Err n.refused

abbrev pub litter_in : Result Objective Named → Option ℕ
litter_in (Ok o) = None
litter_in (Err n) = n.litter

without_litter : (r : Result Totals Refusal) (n : ℕ) (q : Open Litter) → unnamed (told_open r n q) ≡ told_result r n
without_litter (Ok t) n q = refl
without_litter (Err e) n q = refl

module _ (rule : List Pair) (x : List Float) (ls : List ℕ) where
  none_heard : (l : ℕ) (q : Litter) (e : Ended Share) (n : ℕ) (go : Share → ℕ → Driven Litter Totals) (t : Totals) → ((s : Share) (n : ℕ) → (go s n).ended ≡ done t → (go s n).asked ≡ none) → (heard q e n go).ended ≡ done t → (heard q e n go).asked ≡ none
  none_heard l q (done s) n go t f h = f s n h
  none_heard l q (stopped r) n go t f h = impossible (cc)
  none_heard l q short n go t f h = impossible (cc)

  -- an answer leaves no litter refused
  none_asked : (l u : ℕ) (w : Work Litter Share Totals) (t : Totals) → (driven at (share_for rule ls) l u w).ended ≡ done t → (driven at (share_for rule ls) l u w).asked ≡ none
  unfolding driven
  none_asked l u (ret a) t h = refl
  none_asked l u (stop r) t h = refl
  none_asked l u (ask q k) t h = let m = metered at l u (share_for rule ls q) in none_heard l q m.ended m.used (λ s n. driven at (share_for rule ls) l n (k s)) t (λ s n. none_asked l n (k s) t) h

  litter_told : (e : Ended Totals) (n : ℕ) (q : Open Litter) → ((t : Totals) → e ≡ done t → q ≡ none) → litter_in (told_open (outcome e) n q) ≡ numbered q
  litter_told (done t) n q f = rw (f t refl)
  litter_told (stopped r) n q f = refl
  litter_told short n q f = refl

  module _ (limit : QuadratureEvaluations) (r : Result Objective Named) (e : r ≡ named_objective_of rule x ls limit) where
    pub the_objective : unnamed r ≡ limited_objective_of rule x ls limit
    unfolding named_objective_of limited_objective_of
    the_objective =
        let d = driven at (share_for rule ls) limit.0 0 (asked x ls) in
        let f : unnamed (told_named d) ≡ told_objective (metered at limit.0 0 (objective rule x ls)) = rw (asked_is rule x ls, driven_is at (share_for rule ls) limit.0 0 (asked x ls)) (without_litter (outcome d.ended) d.used d.asked) in
        rw e f

    pub the_litter : litter_in r ≡ litter_of rule x ls limit.0
    unfolding named_objective_of litter_of
    the_litter =
        let d = driven at (share_for rule ls) limit.0 0 (asked x ls) in
        rw e (litter_told d.ended d.used d.asked (none_asked limit.0 0 (asked x ls)))
