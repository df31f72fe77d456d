-- What refuses litters that are not valid cannot tell those that are handed on from all that are lent: more than 128 are refused as none are.
use Rattle.std.specs.Prelude.{◌≡◌, false, List, [], ℕ, ◌<◌, leb, length, take}
use Rattle.std.proofs.Common.{sym, ◌∙◌, arith, leb-true, leb-false}
use borrow.Table.Steps.{cases}
use Rattle.std.proofs.Math.Seq.{take-length}
use Rattle.litters.specs.declared.Litter.{Litter}
use Rattle.litters.specs.Litters.{count_of, numbers_of}
use Rattle.litters.specs.Valid.{valid_litters_of}
use Rattle.litters.specs.Checks.{many_invalid, none_invalid}
use Rattle.litters.specs.Table.{no_rows, with_rows, kept_of, lent_of, handed_on_of}
use Rattle.litters.specs.Kept.{numbers_long, few}

-- what stands for a run of records in their table is what is handed on for them
pub kept_is : (ls : List Litter) → kept_of (with_rows ls 0 no_rows) (length ls) ≡ lent_of ls
kept_is ls = cases (leb (length ls) 128) (λ b. rw b (few ls (leb-true (length ls) 128 b))) (λ b. rw b)

module _ {A : Type 0} (f : List ℕ → A) (refusal : A) (refused : (ns : List ℕ) → valid_litters_of ns ≡ false → f ns ≡ refusal) where
  as_none : (ns : List ℕ) → 128 < count_of ns → f [] ≡ f ns
  as_none ns h = refused [] none_invalid ∙ sym (refused ns (many_invalid ns h))

  -- of lent numbers
  pub handed_on : (ns : List ℕ) (k : ℕ) → k ≡ handed_on_of (length ns) → f (take k ns) ≡ f ns
  handed_on ns k e =
      cases
      (leb (count_of ns) 128)
      (λ b. rw (e, b, take-length ns))
      (λ b. rw (e, b) (as_none ns (leb-false (count_of ns) 128 b)))

  -- of lent records
  pub as_lent : (ls : List Litter) → f (lent_of ls) ≡ f (numbers_of ls)
  as_lent ls =
      cases
      (leb (length ls) 128)
      (λ b. rw b)
      (λ b. rw b (as_none (numbers_of ls) (omega (arith, numbers_long ls, leb-false (length ls) 128 b))))
