-- What is put is the definition's: r is the value, m and d the buffers after.
use mathlib.Core.Path.{◌≡◌, refl}
use mathlib.Core.Bool.{Bool, true, false, not}
use mathlib.Core.List.{List}
use Prim.Native.Nat.{ℕ, ◌≤◌}
use borrow.Author.Tests.{eqb-true, leb-true}
use lib.Dec.{eqb, leb}
use lib.ListN.{length}
use lib.Ieee.{Float}
use Rattle.std.specs.Prelude.{Result}
use Rattle.num.specs.Both.{and_left, and_right}
use Rattle.num.specs.Choose.{then, else, by_not_false, by_not_true}
use Rattle.exposure.specs.declared.request.Request.{Request}
use Rattle.counts.specs.declared.sum.Objective.{Objective}
use Rattle.counts.specs.declared.sum.Refused.{Refused}
use Rattle.counts_fit.specs.declared.report.Fit.{Fit}
use Rattle.counts_fit.specs.Fit.{fit_of}
use Rattle.counts_host.specs.Host.{objective_room_of, put_objective_of, objective_given, fit_room_of, put_fit_of, fit_given}
use Rattle.store.specs.Given.{Given, given}

-- ---- a test of lengths that passed
module _ (p q : ℕ) (t : Bool) (e : t ≡ objective_room_of p q) (h : not t ≡ false) where
  pub objective_numbers : 7 ≤ p
  unfolding objective_room_of
  objective_numbers = leb-true 7 p (and_left (leb 7 p) _ (by_not_true t _ e h))

  pub objective_counts : 2 ≤ q
  unfolding objective_room_of
  objective_counts = leb-true 2 q (and_right (leb 7 p) _ (by_not_true t _ e h))

module _ (b p q : ℕ) (t : Bool) (e : t ≡ fit_room_of b p q) (h : not t ≡ false) where
  pub fit_bounds : b ≡ 6
  unfolding fit_room_of
  fit_bounds = eqb-true b 6 (and_left (eqb b 6) _ (by_not_true t _ e h))

  pub fit_numbers : 4 ≤ p
  unfolding fit_room_of
  fit_numbers = leb-true 4 p (and_left (leb 4 p) _ (and_right (eqb b 6) _ (by_not_true t _ e h)))

  pub fit_counts : 8 ≤ q
  unfolding fit_room_of
  fit_counts = leb-true 8 q (and_right (leb 4 p) _ (and_right (eqb b 6) _ (by_not_true t _ e h)))

-- ---- the calls
module _ (o : Result Objective Refused) (l : List Float) (c : List ℕ) (t : Bool) (e : t ≡ objective_room_of (length l) (length c)) where
  pub objective_short : not t ≡ true → given 1 l c ≡ objective_given o l c
  unfolding objective_given
  objective_short h = else _ _ _ _ (by_not_false t _ e h) refl

  pub objective_is : (g : Given) (u : Result Objective Refused) → not t ≡ false → u ≡ o → g ≡ put_objective_of u l c → g ≡ objective_given o l c
  unfolding objective_given
  objective_is g u h i p = then _ _ _ _ (by_not_true t _ e h) (rw i at p)

module _ (f : Result Fit Refused) (b l : List Float) (c : List ℕ) (t : Bool) (e : t ≡ fit_room_of (length b) (length l) (length c)) where
  pub fit_short : not t ≡ true → given 1 l c ≡ fit_given f b l c
  unfolding fit_given
  fit_short h = else _ _ _ _ (by_not_false t _ e h) refl

  pub fit_is : (g : Given) (u : Result Fit Refused) → not t ≡ false → u ≡ f → g ≡ put_fit_of u l c → g ≡ fit_given f b l c
  unfolding fit_given
  fit_is g u h i p = then _ _ _ _ (by_not_true t _ e h) (rw i at p)

pub fit_of_lem : (u : Result Fit Refused) (r q : Request) (cs : List ℕ) (es : List Float) → u ≡ fit_of r cs es → r ≡ q → u ≡ fit_of q cs es
fit_of_lem u r q cs es e h = rw (← h) e
