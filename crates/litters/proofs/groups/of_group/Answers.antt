-- The answers for `of_group`.
use Rattle.std.proofs.Common.{◌≡◌, refl, Bool, true, false, cond, ℕ, ◌+◌, ◌<◌, ◌≤◌, [], eqb, zero-le, ap, ◌∙◌, zero-add, add-zero, add_assoc, arith}
use Rattle.std.specs.Int.{from_bool}
use Rattle.litters.specs.Litters.{count_of, group_at}
use Rattle.num.specs.Sum.{sum_begins, sum_turns, sum_ends}
use Rattle.litters.specs.Groups.{in_group, of_group_of}
use Rattle.litters.proofs.groups.of_group.Goals as goal

as_number : (b : Bool) → from_bool b ≡ cond {A = ℕ} b 1 0
as_number true = refl
as_number false = refl

at_most_one : (b : Bool) → cond {A = ℕ} b 1 0 ≤ 1
at_most_one true = omega arith
at_most_one false = omega arith

pub loop-row-init : goal.loop-row-init
unfolding of_group_of
loop-row-init c = record { few = zero-le; sum = sum_begins ◌+◌ 0 (in_group c.args.litters.now c.args.g) zero-add _ }

pub loop-row-preserved : goal.loop-row-preserved
loop-row-preserved c =
    let l = c.loop-row in
    let here : l.row-index < count_of c.args.litters.now = omega (arith, c.rows-row-items.ensures.count) in
    let row = c.rows-row-items.ensures.each l.row-index [] here in
    let one : c.from-count.result ≡ in_group c.args.litters.now c.args.g l.row-index = c.from-count.ensures ∙ (rw (c.from.ensures, row) (as_number (eqb (group_at c.args.litters.now l.row-index) c.args.g))) in
    record {
      few = omega (arith, one, at_most_one (eqb (group_at c.args.litters.now l.row-index) c.args.g));
      sum = sum_turns ◌+◌ 0 _ _ _ _ _ l.invariant.sum add_assoc _ here (ap (λ m. l.count + m) one);
    }

pub returns : goal.returns
returns c = sum_ends ◌+◌ 0 _ _ _ _ _ c.loop-row.invariant.sum add-zero (omega (arith, c.rows-row-items.ensures.count))
