-- What may be claimed of any descent: how its trials led from the start to the point reported, and how far the likelihood may have come up on the way.
use Rattle.std.specs.Prelude.{◌≡◌, Bool, true, false, List, [], ◌∷◌, T, leb, length, Float}
use Rattle.std.proofs.Math.Path.{refl}
use Rattle.std.proofs.Common.{ap, ◌∙◌, arith}
use Prim.Native.Nat.{ℕ, zero, suc, ◌+◌}
use Rattle.std.specs.Float.{binary64}
use Rattle.std.specs.Float.Ieee.{lt, le, is_nan, fits, of_bits, mul}
use Rattle.std.specs.Float.Ieee.Bits.{of_bits-fits}
use Rattle.num.specs.Both.{and_left, and_right, or_left, or_other}
use Rattle.num.specs.F64.{◌⊕◌, ◌⊗◌, zero·, half·, one·}
use Rattle.num.specs.Helpers.{abs_of, is_finite_of}
use Rattle.order.specs.Numbers.{finite_number, zero_finite, le_left, le_right, one_finite}
use Rattle.order.specs.Order.{le_self, le_then_le, lt_le, not_le}
use Rattle.order.specs.Sums.{add_not_below, sum_not_above, add_left_above, add_number_right}
use Rattle.order.specs.Products.{mul_number_above, mul_number_right, mul_not_above, mul_not_below}
use Rattle.order.specs.Choices.{abs_not_below}
use Rattle.work.specs.Work.{Work}
use Rattle.work.specs.Asks.{Asks, gives, asks, weaker, tested, passed}
use Rattle.work.specs.Metered.{split}
use Rattle.descent.specs.declared.Trial.{Trial}
use Rattle.descent.specs.declared.Trial.TheVariants.{NotDownhill, NotMoved, TooLittle, ByDecrease, ByRounding, CutOff}
use Rattle.descent.specs.Status.{taken_of}
use Rattle.descent.specs.Descent.{Problem, Asked, Step, to, nowhere, Descended, rounding_unit, decrease_share, allowance_of, bound_of, decreases, rounds, idle, idle_trial, accepts, accepted_trial, try, or_else, search, descend, descent}

-- the steps that were taken by the rounding rule, of the trials, the newest first
unfoldable pub roundings_of : List Trial → ℕ
roundings_of [] = 0
roundings_of (NotDownhill s ∷ ts) = roundings_of ts
roundings_of (NotMoved ∷ ts) = roundings_of ts
roundings_of (TooLittle m ∷ ts) = roundings_of ts
roundings_of (ByDecrease s ∷ ts) = roundings_of ts
roundings_of (ByRounding a ∷ ts) = suc (roundings_of ts)
roundings_of (CutOff ∷ ts) = roundings_of ts

-- a likelihood raised by the allowance of each such step, in their order
unfoldable pub raised_by : List Trial → Float → Float
raised_by [] nll = nll
raised_by (NotDownhill s ∷ ts) nll = raised_by ts nll
raised_by (NotMoved ∷ ts) nll = raised_by ts nll
raised_by (TooLittle m ∷ ts) nll = raised_by ts nll
raised_by (ByDecrease s ∷ ts) nll = raised_by ts nll
raised_by (ByRounding a ∷ ts) nll = raised_by ts nll ⊕ a
raised_by (CutOff ∷ ts) nll = raised_by ts nll

-- a trial of a list
pub data Among {A : Type 0} (a : A) : List A → Type 0 where
  newest : {b : A} {bs : List A} → a ≡ b → Among a (b ∷ bs)
  older : {b : A} {bs : List A} → Among a bs → Among a (b ∷ bs)

-- Q is what is known of the value at each point that was evaluated.
module _ {X O D : Type 0} (p : Problem X O D) (Q : X → O → Type 0) where
  -- a step from x with its value v to `next` with c, taken by its decrease or by the rounding rule
  pub record Falls (x : X) (v : O) (next : X) (c : O) (t : Trial) : Type 0 where
    pub trial : t ≡ ByDecrease (p.slope x v next)
    pub downhill : le zero· (p.slope x v next) ≡ false
    pub bound : le (p.nll c) (bound_of (p.nll v) (p.slope x v next)) ≡ true
    pub evaluated : Q next c

  pub record Rounds (x : X) (v : O) (next : X) (c : O) (t : Trial) : Type 0 where
    pub trial : t ≡ ByRounding (allowance_of (p.nll v))
    pub bound : le (p.nll c) (p.nll v ⊕ allowance_of (p.nll v)) ≡ true
    pub nearer : lt (p.norm next c) (p.norm x v) ≡ true
    pub evaluated : Q next c

  -- the trials, the newest first, that led from the start x₀ to x
  pub data Led (x₀ : X) (v₀ : O) : X → O → List Trial → Type 0 where
    starts : Led x₀ v₀ x₀ v₀ []
    stays : {x : X} {v : O} {t : Trial} {ts : List Trial} → taken_of t ≡ false → Led x₀ v₀ x v ts → Led x₀ v₀ x v (t ∷ ts)
    falls : {x next : X} {v c : O} {t : Trial} {ts : List Trial} → Falls x v next c t → Led x₀ v₀ x v ts → Led x₀ v₀ next c (t ∷ ts)
    rounds_on : {x next : X} {v c : O} {t : Trial} {ts : List Trial} → Rounds x v next c t → Led x₀ v₀ x v ts → Led x₀ v₀ next c (t ∷ ts)

  -- an answer, and the trials that led to it from a value that the start has
  pub record Descends (x₀ : X) (r : Descended X O) : Type 0 where
    pub start : O
    pub evaluated : Q x₀ start
    pub led : Led x₀ start r.x r.v r.trials

  -- a step by the rounding rule, with the allowance a: both its points were evaluated
  pub record Rounded (a : Float) : Type 0 where
    pub x : X
    pub v : O
    pub next : X
    pub c : O
    pub from : Q x v
    pub arrived : Q next c
    pub allowance : a ≡ allowance_of (p.nll v)
    pub bound : le (p.nll c) (p.nll v ⊕ a) ≡ true

  -- every step by the rounding rule among these trials
  abbrev pub AllRounded : List Trial → Type 0
  AllRounded ts = (a : Float) → Among (ByRounding a) ts → Rounded a

-- ---- the bounds of one step
share_above : lt zero· decrease_share ≡ true
unfolding lt of_bits
share_above = refl

unit_above : lt zero· rounding_unit ≡ true
unfolding lt mul of_bits
unit_above = refl

unit_finite : is_finite_of rounding_unit ≡ true
unfolding is_finite_of mul of_bits
unit_finite = refl

one_above : le zero· one· ≡ true
unfolding le of_bits
one_above = refl

-- A step that is taken by its decrease does not raise the likelihood. Where there is such a bound it is no NaN, so neither is the slope.
pub decrease_not_above : (nll slope next : Float) → T (fits binary64 nll) → le zero· slope ≡ false → le next (bound_of nll slope) ≡ true → le next nll ≡ true
decrease_not_above nll slope next f h k =
    let n = le_right next (bound_of nll slope) k in
    let m = add_number_right nll (decrease_share ⊗ slope) n in
    let s = lt_le slope zero· (not_le zero· slope (finite_number zero· zero_finite) (mul_number_right decrease_share slope m) h) in
    le_then_le _ _ _ k (sum_not_above nll (decrease_share ⊗ slope) n f (mul_not_above decrease_share slope m (lt_le zero· decrease_share share_above) s))

pub allowance_not_below : (nll : Float) → is_nan nll ≡ false → le zero· (allowance_of nll) ≡ true
allowance_not_below nll n =
    let a = add_not_below one· (abs_of nll) one_finite (of_bits-fits binary64 0x3ff0_0000_0000_0000) (abs_not_below nll n) in
    let b = le_then_le zero· one· (one· ⊕ abs_of nll) one_above a in
    mul_not_below rounding_unit (one· ⊕ abs_of nll) (mul_number_above rounding_unit (one· ⊕ abs_of nll) unit_finite unit_above (le_right one· (one· ⊕ abs_of nll) a)) (lt_le zero· rounding_unit unit_above) b

-- ---- what trials that took no step leave as it is
untaken_raises : (t : Trial) (ts : List Trial) (nll : Float) → taken_of t ≡ false → raised_by (t ∷ ts) nll ≡ raised_by ts nll
unfolding raised_by
untaken_raises (NotDownhill s) ts nll u = refl
untaken_raises NotMoved ts nll u = refl
untaken_raises (TooLittle m) ts nll u = refl
untaken_raises (ByDecrease s) ts nll u = cc
untaken_raises (ByRounding a) ts nll u = cc
untaken_raises CutOff ts nll u = refl

-- no step by the rounding rule, no raise
pub unraised : (ts : List Trial) (nll : Float) → roundings_of ts ≡ 0 → raised_by ts nll ≡ nll
unfolding raised_by roundings_of
unraised [] nll h = refl
unraised (NotDownhill s ∷ ts) nll h = unraised ts nll h
unraised (NotMoved ∷ ts) nll h = unraised ts nll h
unraised (TooLittle m ∷ ts) nll h = unraised ts nll h
unraised (ByDecrease s ∷ ts) nll h = unraised ts nll h
unraised (ByRounding a ∷ ts) nll h = absurd (omega arith)
unraised (CutOff ∷ ts) nll h = unraised ts nll h

-- the bound of equal numbers and equal trials
pub carried : {a b c d : Float} {ts us : List Trial} → a ≡ b → ts ≡ us → c ≡ d → le b (raised_by us d) ≡ true → le a (raised_by ts c) ≡ true
carried {b = b} {c = c} {ts = ts} {us = us} e f g k = ap (λ y. le y (raised_by ts c)) e ∙ (ap (λ ws. le b (raised_by ws c)) f ∙ (ap (λ y. le b (raised_by us y)) g ∙ k))

-- what the rounding rule's test says
rounds_bound : (nll slope next norm norm' : Float) → rounds nll slope next norm norm' ≡ true → le next (nll ⊕ allowance_of nll) ≡ true
unfolding rounds
rounds_bound nll slope next norm norm' h = and_left _ (lt norm' norm) (and_right (le (abs_of slope) (allowance_of nll)) _ h)

rounds_nearer : (nll slope next norm norm' : Float) → rounds nll slope next norm norm' ≡ true → lt norm' norm ≡ true
unfolding rounds
rounds_nearer nll slope next norm norm' h = and_right (le next (nll ⊕ allowance_of nll)) _ (and_right (le (abs_of slope) (allowance_of nll)) _ h)

decreases-bound : (nll slope next : Float) → decreases nll slope next ≡ true → le next (bound_of nll slope) ≡ true
unfolding decreases
decreases-bound nll slope next h = h

true_not_false : ◌≡◌ {A = Bool} true false → ⊥
true_not_false e = let z : ◌≡◌ {A = ℕ} 0 1 = cc in absurd (omega arith)

other_kind : (a s : Float) → ByRounding a ≡ ByDecrease s → ◌≡◌ {A = Bool} true false
other_kind a s e = cc

same_allowance : (a b : Float) → ByRounding a ≡ ByRounding b → a ≡ b
same_allowance a b e = cc

-- ---- every answer of a descent was led to by its trials, and so was every question that it asks
module _ {X O D : Type 0} (p : Problem X O D) (Q : X → O → Type 0) (x₀ : X) (v₀ : O) (start : Q x₀ v₀) where
  abbrev Here : X → O → List Trial → Type 0
  Here x v ts = Led p Q x₀ v₀ x v ts

  pub led_evaluated : {x : X} {v : O} {ts : List Trial} → Here x v ts → Q x v
  led_evaluated starts = start
  led_evaluated (stays u l) = led_evaluated l
  led_evaluated (falls g l) = g.evaluated
  led_evaluated (rounds_on g l) = g.evaluated

  -- Every step by the rounding rule ends at no more than the f64 sum of the likelihood before it and its own allowance.
  pub rounding_step : {x : X} {v : O} {ts : List Trial} (a : Float) → Here x v ts → Among (ByRounding a) ts → Rounded p Q a
  rounding_step a starts m = elim m [ ]
  rounding_step a (stays {t = t} u l) (newest e) = absurd (true_not_false (ap (λ s. taken_of s) e ∙ u))
  rounding_step a (stays u l) (older m) = rounding_step a l m
  rounding_step a (falls g l) (newest e) = absurd (true_not_false (other_kind a _ (e ∙ g.trial)))
  rounding_step a (falls g l) (older m) = rounding_step a l m
  rounding_step a (rounds_on {x = x} {next = next} {v = v} {c = c} g l) (newest e) =
      let h : a ≡ allowance_of (p.nll v) = same_allowance a _ (e ∙ g.trial) in
      record { x = x; v = v; next = next; c = c; from = led_evaluated l; arrived = g.evaluated; allowance = h; bound = rw h g.bound }
  rounding_step a (rounds_on g l) (older m) = rounding_step a l m

  abbrev Every : {A : Type 0} → (A → Type 0) → Work (Asked X) O A → Type 0
  Every P w = Asks (λ (q : Asked X) (v : O). Q q.at v) (λ (q : Asked X). AllRounded p Q q.trials) P w

  -- what a trial or a search from x came to, and the trials with it
  data Came (x : X) (v : O) : Step X O → List Trial → Type 0 where
    there : {next : X} {c : O} {ts : List Trial} → Here next c ts → Came x v (to next c) ts
    none : {ts : List Trial} → Here x v ts → Came x v nowhere ts

  idle_untaken : (x : X) (v : O) (next : X) → taken_of (idle_trial p x v next) ≡ false
  idle_untaken x v next = split (le zero· (p.slope x v next)) (λ b. rw b) (λ b. rw b)

  accepted : (x : X) (v : O) (next : X) (c : O) (ts : List Trial) → idle p x v next ≡ false → accepts p x v next c ≡ true → Q next c → Here x v ts → Here next c (accepted_trial p x v next c ∷ ts)
  accepted x v next c ts i a q l =
      let slope = p.slope x v next in
      split (decreases (p.nll v) slope (p.nll c))
      (λ b. falls (record { trial = rw b; downhill = or_left (le zero· slope) (p.still next x) i; bound = decreases-bound _ _ _ b; evaluated = q }) l)
      (λ b.
      let r = or_other (decreases (p.nll v) slope (p.nll c)) _ a b in
      rounds_on (record { trial = rw b; bound = rounds_bound _ _ _ _ _ r; nearer = rounds_nearer _ _ _ _ _ r; evaluated = q }) l)

  tried : (x : X) (v : O) (d : D) (alpha : Float) (e : ℕ) (ts : List Trial) → Here x v ts → Every (λ t. Came x v t.step (t.trial ∷ ts)) (try p x v d alpha e ts)
  unfolding try
  tried x v d alpha e ts l =
      let next = p.candidate x d alpha in
      tested (idle p x v next) (λ i. gives (none (stays (idle_untaken x v next) l)))
      (λ i.
      asks (λ a m. rounding_step a l m)
      (λ c q. tested (accepts p x v next c) (λ a. gives (there (accepted x v next c ts i a q l))) (λ a. gives (none (stays refl l)))))

  by_step : {B : Type 0} {R : B → Type 0} {x : X} {v : O} {s : Step X O} {ts : List Trial} {go : X → O → Work (Asked X) O B} {halt : Work (Asked X) O B} → Came x v s ts → ((next : X) (c : O) → Here next c ts → Every R (go next c)) → (Here x v ts → Every R halt) → Every R (or_else p go halt s)
  by_step (there l) g h = g _ _ l
  by_step (none l) g h = h l

  sought : (x : X) (v : O) (d : D) (n : ℕ) (alpha : Float) (e : ℕ) (ts : List Trial) → Here x v ts → Every (λ s. Came x v s.step s.trials) (search p x v d n alpha e ts)
  unfolding search
  sought x v d zero alpha e ts l = gives (none l)
  sought x v d (suc n) alpha e ts l =
      tested (leb p.most e) (λ t. gives (none (stays refl l)))
      (λ t.
      passed (tried x v d alpha e ts l) (λ r g.
      by_step g (λ next c k. gives g) (λ k. sought x v d n (alpha ⊗ half·) r.evaluations (r.trial ∷ ts) k)))

  descends : (n : ℕ) (x : X) (v : O) (e k : ℕ) (ts : List Trial) → Here x v ts → Every (λ r. Here r.x r.v r.trials) (descend p n x v e k ts)
  unfolding descend
  descends zero x v e k ts l =
      tested (le (p.norm x v) p.tolerance) (λ t. gives l)
      (λ t. tested (leb p.most e) (λ t. gives l) (λ t. gives l))
  descends (suc n) x v e k ts l =
      tested (le (p.norm x v) p.tolerance) (λ t. gives l)
      (λ t.
      tested (leb p.most e) (λ t. gives l)
      (λ t.
      passed (sought x v (p.direction x v) 48 one· e ts l) (λ s g.
      by_step g (λ next c k'. descends n next c s.evaluations (k + 1) s.trials k') (λ k'. gives k'))))

  -- The likelihood reported is at most the start's, raised by the allowance of each step by the rounding rule.
  pub at_most_raised : ((x : X) (v : O) → Q x v → T (fits binary64 (p.nll v))) → is_nan (p.nll v₀) ≡ false → {x : X} {v : O} {ts : List Trial} → Here x v ts → le (p.nll v) (raised_by ts (p.nll v₀)) ≡ true
  unfolding raised_by
  at_most_raised f n starts = le_self (p.nll v₀) n
  at_most_raised f n {v = v} (stays {t = t} {ts = ts} u l) = rw (untaken_raises t ts (p.nll v₀) u) (at_most_raised f n l)
  at_most_raised f n (falls g l) =
      rw g.trial (le_then_le _ _ _ (decrease_not_above _ _ _ (f _ _ (led_evaluated l)) g.downhill g.bound) (at_most_raised f n l))
  at_most_raised f n (rounds_on {v = v} g l) =
      let k = at_most_raised f n l in
      rw g.trial (le_then_le _ _ _ g.bound (add_left_above (p.nll v) (allowance_of (p.nll v)) _ (allowance_not_below (p.nll v) (le_left _ _ k)) (le_right _ _ g.bound) k))

-- before the first trial there is none
pub none_among : {A Z : Type 0} (a : A) (bs : List A) → bs ≡ [] → Among a bs → Z
none_among {A = A} {Z = Z} a [] e m = elim m [ ]
none_among a (b ∷ bs) e m = let z = ap length e in absurd (omega arith)

-- ---- the theorem: whatever Q is known of the values, the trials led to the answer from one that the start has, and the trials before each question were as they say
pub descends_by_trials : {X O D : Type 0} (p : Problem X O D) (Q : X → O → Type 0) (x₀ : X) → Asks (λ (q : Asked X) (v : O). Q q.at v) (λ (q : Asked X). AllRounded p Q q.trials) (Descends p Q x₀) (descent p x₀)
descends_by_trials p Q x₀ =
    asks (λ a m. none_among (ByRounding a) [] refl m) (λ v q. weaker (λ r l. record { start = v; evaluated = q; led = l }) (descends p Q x₀ v q p.turns x₀ v 1 0 [] starts))
