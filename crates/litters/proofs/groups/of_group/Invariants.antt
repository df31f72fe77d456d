-- `groups::of_group` meets its contract, as the litters still to come add to the count the whole.
use Rattle.std.proofs.Common.{◌≡◌, ◌+◌, ◌-◌, ◌≤◌}
use Rattle.num.specs.Sum.{sum_from}
use Rattle.litters.specs.Litters.{count_of}
use Rattle.litters.specs.Groups.{in_group, of_group_of}
use Rattle.litters.proofs.groups.of_group.Given as goal

abbrev pub invariant-loop-row : goal.invariant-loop-row
invariant-loop-row l =
    record {
      few : l.count ≤ l.row-index;
      sum : l.count + sum_from ◌+◌ 0 (in_group l.litters l.g) (count_of l.litters - l.row-index) l.row-index ≡ of_group_of l.litters l.g;
    }
