-- The digits still to come decide the whole.
use Rattle.std.proofs.Common.{◌≡◌, ℕ, ◌+◌, ◌-◌, ◌^◌, ◌<◌}
use Rattle.template.specs.Decimal as Decimal
use Rattle.template.proofs.value.read_run.Given as goal

abbrev pub invariant-loop-count : goal.invariant-loop-count
invariant-loop-count l = record {
  makes : Decimal.read_run (l.most - l.count) l.value l.count l.rest ≡ Decimal.read_run l.most l.first 0 l.text;
  small : (n : ℕ) → l.first < 10 ^ n → l.value < 10 ^ (n + l.count);
}
