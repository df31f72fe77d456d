-- What an archive's shape is, in words of its own, and that the test says exactly that.
use Rattle.std.specs.Prelude.{◌≡◌, true, ◌&&◌, List, ℕ, ◌+◌, ◌*◌, ◌/◌, ◌≤◌, leb, length}
use Rattle.std.proofs.Common.{arith}
use borrow.Author.Tests.{leb-true, le-leb, eqb-true, eq-eqb}
use Rattle.std.proofs.Math.Dec.{eqb}
use Rattle.num.specs.Both.{and_left, and_right}
use Rattle.archive.specs.Layout.{size_of, count_in, totals_byte_in, litter_byte_in, trailer_holds_of, shaped_of}

pub record Shaped (b : List ℕ) : Type 0 where
  pub few : count_in b ≤ 4096
  pub long : length b ≡ 12 * count_in b + 32 * (count_in b / 64) + 12
  pub totals : totals_byte_in b ≡ 12 * count_in b
  pub litters : litter_byte_in b ≡ 0

module _ (b : List ℕ) where
  pub shape_holds : shaped_of b ≡ true → Shaped b
  unfolding shaped_of size_of
  shape_holds h =
      let one = and_right (leb 12 (length b)) (trailer_holds_of b) h in
      let bytes = eqb (totals_byte_in b) (12 * count_in b) && eqb (litter_byte_in b) 0 in
      let long = eqb (length b) (12 * count_in b + 32 * (count_in b / 64) + 12) in
      let two = and_right (leb (count_in b) 4096) (long && bytes) one in
      let three = and_right long bytes two in
      record {
        few = leb-true (count_in b) 4096 (and_left (leb (count_in b) 4096) (long && bytes) one);
        long = eqb-true (length b) (12 * count_in b + 32 * (count_in b / 64) + 12) (and_left long bytes two);
        totals = eqb-true (totals_byte_in b) (12 * count_in b) (and_left (eqb (totals_byte_in b) (12 * count_in b)) (eqb (litter_byte_in b) 0) three);
        litters = eqb-true (litter_byte_in b) 0 (and_right (eqb (totals_byte_in b) (12 * count_in b)) (eqb (litter_byte_in b) 0) three);
      }

  pub shape_is : Shaped b → shaped_of b ≡ true
  unfolding shaped_of size_of
  shape_is s =
      rw (le-leb 12 (length b) (omega (arith, s.long)), le-leb (count_in b) 4096 s.few, eq-eqb (length b) (12 * count_in b + 32 * (count_in b / 64) + 12) s.long, eq-eqb (totals_byte_in b) (12 * count_in b) s.totals, eq-eqb (litter_byte_in b) 0 s.litters)
