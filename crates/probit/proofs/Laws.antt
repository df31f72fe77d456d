-- The laws of the exported functions.
use mathlib.Core.Path.{◌≡◌, refl, ◌∙◌}
use mathlib.Core.Bool.{false}
use mathlib.Core.List.{List}
use Prim.Native.Nat.{ℕ}
use lib.ListN.{length, take}
use Rattle.std.specs.Prelude.{Result, Err}
use Rattle.work.specs.declared.Refusal.TheVariants.{InvalidInput}
use Rattle.work.specs.Metered.{split}
use Rattle.litters.specs.Valid.{valid_litters_of}
use Rattle.litters.specs.Table.{handed_on_of}
use Rattle.litters.specs.HandedOn as litters
use Rattle.request.specs.declared.Request.{Request}
use Rattle.request.specs.Request.{valid_limit}
use Rattle.request.specs.Checks.{not_admitted}
use Rattle.fit.specs.declared.report.Fit.{Fit}
use Rattle.fit.specs.declared.report.Refused.{Refused}
use Rattle.fit.specs.declared.report.Seen.{Seen}
use Rattle.fit.specs.Fit.{fit_of, refused_of, why_for, stop_for, unfit_of, watched_of}
use Rattle.fit.specs.Refused.{invalid_refused}

-- ---- what is handed on of the litters, ks of ls, is fitted as all of them, by the request that is meant, q
handed_on : (r : Request) (ls : List ℕ) → fit_of r (take (handed_on_of (length ls)) ls) ≡ fit_of r ls
handed_on r ls = litters.handed_on (fit_of r) (Err (refused_of InvalidInput 0)) (invalid_refused r) ls _ refl

pub fitted : (f : Result Fit Refused) (r q : Request) (ls ks : List ℕ) → f ≡ fit_of r ks → ks ≡ take (handed_on_of (length ls)) ls → r ≡ q → f ≡ fit_of q ls
fitted f r q ls ks e h i = rw (h, i) at e ∙ handed_on q ls

-- the same with a trial watched
module _ (r : Request) (ls : List ℕ) (n : ℕ) (h : valid_litters_of ls ≡ false) where
  invalid_watched : watched_of r ls n ≡ unfit_of
  unfolding watched_of why_for stop_for
  invalid_watched = split (valid_limit r.quadrature.0) (λ t. rw (t, not_admitted r ls h, invalid_refused r ls h)) (λ t. rw (t, invalid_refused r ls h))

watched_on : (r : Request) (ls : List ℕ) (n : ℕ) → watched_of r (take (handed_on_of (length ls)) ls) n ≡ watched_of r ls n
watched_on r ls n = litters.handed_on (λ ns. watched_of r ns n) unfit_of (λ ns h. invalid_watched r ns n h) ls _ refl

pub seen : (s : Seen) (r q : Request) (ls ks : List ℕ) (n : ℕ) → s ≡ watched_of r ks n → ks ≡ take (handed_on_of (length ls)) ls → r ≡ q → s ≡ watched_of q ls n
seen s r q ls ks n e h i = rw (h, i) at e ∙ watched_on q ls n
