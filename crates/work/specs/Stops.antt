-- Why a computation may stop by itself, whatever the values of its evaluations are; and the reasons that a Domain may have.
use Rattle.std.specs.Prelude.{◌≡◌, refl, Bool, true, false, cond, Err}
use Prim.Native.Nat.{ℕ, zero, suc, ◌-◌, ◌≤◌}
use Rattle.std.proofs.Common.{arith}
use Rattle.work.specs.Impossible.{impossible}
use Rattle.work.specs.declared.Refusal.TheVariants.{InvalidInput, Domain, WorkBudget}
use Rattle.work.specs.Ended.{Why, invalid, domain, Ended, done, stopped, short}
use Rattle.work.specs.Work.{Work, ret, stop, ask, ◌>>=◌, run, run_l, metered}
use Rattle.work.specs.Metered.{metered_is}
use Rattle.work.specs.Answer.{outcome}

pub data Stops {E X A : Type 0} (P : Why → Type 0) : Work E X A → Type 0 where
  answers : {a : A} → Stops P (ret a)
  refuses : {r : Why} → P r → Stops P (stop r)
  hears : {e : E} {k : X → Work E X A} → ((v : X) → Stops P (k v)) → Stops P (ask e k)

module _ {E X A : Type 0} {P : Why → Type 0} where
  pub others : {Q : Why → Type 0} {w : Work E X A} → ((r : Why) → P r → Q r) → Stops P w → Stops Q w
  others g answers = answers
  others g (refuses h) = refuses (g _ h)
  others g (hears b) = hears (λ v. others g (b v))

  -- a choice, and a sequence
  pub chosen : {x y : Work E X A} (t : Bool) → Stops P x → Stops P y → Stops P (cond t x y)
  chosen true p q = p
  chosen false p q = q

  pub passed : {B : Type 0} {w : Work E X A} {f : A → Work E X B} → Stops P w → ((a : A) → Stops P (f a)) → Stops P (w >>= f)
  unfolding ◌>>=◌
  passed answers g = g _
  passed (refuses h) g = refuses h
  passed (hears b) g = hears (λ v. passed (b v) g)

  -- What it says of an ending: without a limit, under a limit, and as code counts.
  pub of_run : (at : E → X) {w : Work E X A} (r : Why) → Stops P w → run at w ≡ stopped r → P r
  unfolding run
  of_run at r answers e = impossible (cc)
  of_run at r (refuses {r = s} h) e = let q : s ≡ r = cc in rw q at h
  of_run at r (hears {e = q} b) e = of_run at r (b (at q)) e

  pub of_run_l : (at : E → X) (l : ℕ) {w : Work E X A} (r : Why) → Stops P w → run_l at l w ≡ stopped r → P r
  unfolding run_l
  of_run_l at l r answers e = impossible (cc)
  of_run_l at l r (refuses {r = s} h) e = let q : s ≡ r = cc in rw q at h
  of_run_l at zero r (hears {e = q} b) e = impossible (cc)
  of_run_l at (suc l) r (hears {e = q} b) e = of_run_l at l r (b (at q)) e

  pub of_metered : (at : E → X) (l u : ℕ) {w : Work E X A} (r : Why) → Stops P w → (metered at l u w).ended ≡ stopped r → P r
  of_metered at l u {w} r h e = of_run_l at (l - u) r h (rw (metered_is at l u w) at e)

-- ---- which refusals there may be

-- a Domain with a reason from 1 to n, and nothing else
abbrev pub Reasoned : ℕ → Why → Type 0
Reasoned n invalid = ⊥
Reasoned n (domain r) = (1 ≤ r) × (r ≤ n)

-- or a check that fails
abbrev pub OrInvalid : (Why → Type 0) → Why → Type 0
OrInvalid P invalid = Unit
OrInvalid P (domain r) = P (domain r)

pub or_invalid : (P : Why → Type 0) (r : Why) → P r → OrInvalid P r
or_invalid P invalid h = tt
or_invalid P (domain r) h = h

pub more_reasons : (n m : ℕ) → n ≤ m → (r : Why) → Reasoned n r → Reasoned m r
more_reasons n m l invalid h = h
more_reasons n m l (domain r) h = (h.0, omega (arith, h.1, l))

is_domain : {A : Type 0} (e : Ended A) (r : ℕ) → outcome e ≡ Err (Domain r) → e ≡ stopped (domain r)
is_domain (done a) r h = impossible (cc)
is_domain (stopped invalid) r h = impossible (cc)
is_domain (stopped (domain s)) r h = let q : s ≡ r = cc in rw q
is_domain short r h = impossible (cc)

is_invalid : {A : Type 0} (e : Ended A) → outcome e ≡ Err InvalidInput → e ≡ stopped invalid
is_invalid (done a) h = impossible (cc)
is_invalid (stopped invalid) h = refl
is_invalid (stopped (domain s)) h = impossible (cc)
is_invalid short h = impossible (cc)

module _ {E X A : Type 0} (at : E → X) (l u : ℕ) {w : Work E X A} where
  pub metered_domain : {P : Why → Type 0} (r : ℕ) → Stops P w → outcome (metered at l u w).ended ≡ Err (Domain r) → P (domain r)
  metered_domain r h e = of_metered at l u (domain r) h (is_domain (metered at l u w).ended r e)

  pub metered_invalid : {P : Why → Type 0} → Stops P w → outcome (metered at l u w).ended ≡ Err InvalidInput → P invalid
  metered_invalid h e = of_metered at l u invalid h (is_invalid (metered at l u w).ended e)

-- ---- WorkBudget is the limit's refusal alone

pub run_not_short : {E X A : Type 0} (at : E → X) (w : Work E X A) → outcome (run at w) ≡ Err WorkBudget → ⊥
unfolding run
run_not_short at (ret a) e = impossible (cc)
run_not_short at (stop invalid) e = impossible (cc)
run_not_short at (stop (domain r)) e = impossible (cc)
run_not_short at (ask q k) e = run_not_short at (k (at q)) e
