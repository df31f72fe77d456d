-- Reading and spelling an f64 are inverse: what spells it is read as its bits, and what is read spells the bits that are read.
use Rattle.std.specs.Prelude.{◌≡◌, refl, Bool, true, false, cond, List, ◌∷◌, ◌++◌, ℕ, zero, suc, ◌+◌, ◌-◌, ◌*◌, ◌/◌, ◌%◌, ◌^◌, ◌≤◌, ◌<◌, eqb, ltb, length, Float}
use Rattle.std.proofs.Common.{sym, ap, ◌∙◌, append_assoc, add-zero, zero-add, add_comm, div-one, mul-le-mul_right, div-lt_iff_lt-mul, lt_of_lt_of_le, arith, ne_eqb, eqb-true, length-append, pow-add}
use Rattle.std.proofs.Math.Nat.{div-eq_of_lt, div-div-eq-div-mul, one-le-pow, pow-le-pow_right}
use Rattle.std.proofs.lemmas.Bool.{eqb-false}
use borrow.Table.Steps.{cases}
use Rattle.std.specs.Float.{binary64}
use Rattle.std.specs.Float.Ieee.{round}
use Rattle.std.specs.Float.Ieee.Bits.{to_bits-lt}
use Rattle.std.specs.Float.Ieee.Fits.{round-fits}
use Rattle.num.specs.F64.{bits_of}
use Rattle.decimal.specs.Nearest.{Decimal}
use Rattle.decimal.specs.Round.{round_decimal, decimal_round}
use Rattle.template.specs.Digits.{glyph, digits, hex}
use Rattle.template.specs.Template.{first, after}
use Rattle.template.specs.Field.{is_digit_of, Field, found, departs, read_hex}
use Rattle.template.specs.Decimal.{Run, run, read_run, decimal_bits, read_places, read_point, read_unsigned, read_decimal, or_else, read_value}
use Rattle.template.specs.DigitLaws.{glyph_digit, digit_glyph, digit_range, has_first, not_found, next_digit, digit_in_front, digits_many, hex_read_back, hex_read_is}
use Rattle.template.specs.Spells.{Places, sign, Spelling, in_hex, in_decimal}

-- ---- a run of digits, both ways

run_back : (k j n c : ℕ) (t : List ℕ) → k ≤ j → is_digit_of (first t) ≡ false → read_run j (n / 10 ^ k) c (digits 10 k n ++ t) ≡ run n (c + k) t
unfolding read_run digits
run_back zero zero n c t h e = rw (div-one n, add-zero c) refl
run_back zero (suc j) n c t h e = rw (e, div-one n, add-zero c) refl
run_back (suc k) zero n c t h e = absurd (omega arith)
run_back (suc k) (suc j) n c t h e =
    let g = glyph_digit (n / 10 ^ k % 10) (omega arith) in
    let m : c + 1 + k ≡ c + suc k = omega arith in
    rw (g.0, g.1, next_digit 10 k n, ← m) (run_back k j n (c + 1) t (omega arith) e)

-- k digits were read
record Ran (j v c : ℕ) (s : List ℕ) (w n : ℕ) (t : List ℕ) : Type 0 where
  k : ℕ
  count : n ≡ c + k
  within : k ≤ j
  text : s ≡ digits 10 k w ++ t
  rest : w / 10 ^ k ≡ v

none_read : (j v c : ℕ) (s : List ℕ) (w n : ℕ) (t : List ℕ) → run v c s ≡ run w n t → Ran j v c s w n t
unfolding digits
none_read j v c s w n t e =
    let a : v ≡ w = cc in
    let b : c ≡ n = cc in
    let d : s ≡ t = cc in
    record { k = 0; count = omega arith; within = omega arith; text = d; rest = div-one w ∙ sym a }

run_is : (j v c : ℕ) (s : List ℕ) (w n : ℕ) (t : List ℕ) → read_run j v c s ≡ run w n t → Ran j v c s w n t
unfolding read_run
run_is zero v c s w n t e = none_read 0 v c s w n t e
run_is (suc j) v c s w n t e =
    cases (is_digit_of (first s))
    (λ b.
    let r = run_is j (10 * v + (first s - 48)) (c + 1) (after s) w n t (rw b at e) in
    let g = digit_glyph (first s) b in
    let m = digit_in_front 10 r.k w v (first s - 48) (first s) (after s) t g.1 g.0 r.rest r.text in
    record {
      k = suc r.k;
      count = omega (arith, r.count);
      within = omega (arith, r.within);
      text = has_first s (omega (arith, digit_range (first s) b)) ∙ m.0;
      rest = m.1;
    })
    (λ b. none_read (suc j) v c s w n t (rw b at e))

-- ---- a decimal is read back

ten : (k : ℕ) → 0 < 10 ^ k
ten k = one-le-pow k 10 (omega arith)

nothing_before : (d a k : ℕ) → d < 10 ^ (a + k) → d / 10 ^ k / 10 ^ a ≡ 0
nothing_before d a k h = rw (div-div-eq-div-mul d (10 ^ k) (10 ^ a), ← pow-add 10 k a, add_comm k a) (div-eq_of_lt h)

some : (n : ℕ) → 1 ≤ n → eqb n 0 ≡ false
some n h = ne_eqb n 0 (λ e. omega (arith, e))

-- both sides of the point, and what follows
abbrev parts : ℕ → ℕ → ℕ → List ℕ → List ℕ
parts d a k t = digits 10 a (d / 10 ^ k) ++ (46 ∷ (digits 10 k d ++ t))

unsigned_back : (minus : Bool) (d a k : ℕ) (t : List ℕ) → Places d a k → is_digit_of (first t) ≡ false → read_unsigned minus (parts d a k t) ≡ found (decimal_bits minus d k) t
unfolding read_unsigned
unsigned_back minus d a k t p e =
    let w = d / 10 ^ k in
    let rest : List ℕ = 46 ∷ (digits 10 k d ++ t) in
    let whole : read_run 16 0 0 (digits 10 a w ++ rest) ≡ run w (0 + a) rest = ap (λ (v : ℕ). read_run 16 v 0 (digits 10 a w ++ rest)) (sym (nothing_before d a k p.below)) ∙ run_back a 16 w 0 rest (omega (arith, p.few, p.behind)) refl in
    let places : read_run (17 - a) w 0 (digits 10 k d ++ t) ≡ run d (0 + k) t = run_back k (17 - a) d 0 t (omega (arith, p.few)) e in
    rw (whole, zero-add a, some a p.before, places, zero-add k, some k p.behind) refl

-- no digit is a minus sign
no_minus : (n : ℕ) → n < 10 → eqb (glyph n) 45 ≡ false
no_minus n h = let g = glyph_digit n h in let r = digit_range (glyph n) g.0 in ne_eqb (glyph n) 45 (λ e. omega (arith, e))

first_digit : (a n : ℕ) (t : List ℕ) → 1 ≤ a → eqb (first (digits 10 a n ++ t)) 45 ≡ false
unfolding digits
first_digit zero n t h = absurd (omega arith)
first_digit (suc a) n t h = no_minus (n / 10 ^ a % 10) (omega arith)

decimal_back : (minus : Bool) (d a k : ℕ) (t : List ℕ) → Places d a k → is_digit_of (first t) ≡ false → read_decimal (sign minus (parts d a k t)) ≡ found (decimal_bits minus d k) t
unfolding read_decimal
decimal_back true d a k t p e = unsigned_back true d a k t p e
decimal_back false d a k t p e = rw (first_digit a (d / 10 ^ k) (46 ∷ (digits 10 k d ++ t)) p.before) (unsigned_back false d a k t p e)

-- the spelling and what follows it
decimal_then : (minus : Bool) (d a k : ℕ) (t : List ℕ) → sign minus (digits 10 a (d / 10 ^ k) ++ (46 ∷ digits 10 k d)) ++ t ≡ sign minus (parts d a k t)
decimal_then true d a k t = ap (λ (s : List ℕ). 45 ∷ s) (append_assoc (digits 10 a (d / 10 ^ k)) (46 ∷ digits 10 k d) t)
decimal_then false d a k t = append_assoc (digits 10 a (d / 10 ^ k)) (46 ∷ digits 10 k d) t

-- ---- sixteen hexadecimal digits are no decimal, where no point follows

record Stops (j v c : ℕ) (s : List ℕ) : Type 0 where
  w : ℕ
  n : ℕ
  t : List ℕ
  is : read_run j v c s ≡ run w n t
  no_point_lem : eqb (first t) 46 ≡ false

glyph_above : (n : ℕ) → 48 ≤ glyph n
glyph_above n = cases (ltb n 10) (λ b. rw b (omega arith)) (λ b. rw b (omega arith))

hex_stops : (k v c n : ℕ) (t : List ℕ) → eqb (first t) 46 ≡ false → Stops k v c (digits 16 k n ++ t)
unfolding read_run digits
hex_stops zero v c n t e = record { w = v; n = c; t = t; is = refl; no_point_lem = e }
hex_stops (suc k) v c n t e =
    let g = glyph (n / 16 ^ k % 16) in
    cases (is_digit_of g)
    (λ b. let r = hex_stops k (10 * v + (g - 48)) (c + 1) n t e in record { w = r.w; n = r.n; t = r.t; is = rw b r.is; no_point_lem = r.no_point_lem })
    (λ b. record { w = v; n = c; t = g ∷ (digits 16 k n ++ t); is = rw b refl; no_point_lem = ne_eqb g 46 (λ i. omega (arith, i, glyph_above (n / 16 ^ k % 16))) })

either_way : (b : Bool) → cond b departs departs ≡ departs
either_way true = refl
either_way false = refl

hex_unsigned : (n : ℕ) (t : List ℕ) → eqb (first t) 46 ≡ false → read_unsigned false (hex n ++ t) ≡ departs
unfolding read_unsigned
hex_unsigned n t e = let r = hex_stops 16 0 0 n t e in rw (r.is, r.no_point_lem) (either_way (eqb r.n 0))

hex_first : (n : ℕ) (t : List ℕ) → eqb (first (hex n ++ t)) 45 ≡ false
unfolding digits
hex_first n t = ne_eqb (glyph (n / 16 ^ 15 % 16)) 45 (λ i. omega (arith, i, glyph_above (n / 16 ^ 15 % 16)))

hex_back : (n : ℕ) (t : List ℕ) → n < 2 ^ 64 → eqb (first t) 46 ≡ false → read_value (hex n ++ t) ≡ found n t
unfolding read_value read_decimal
hex_back n t h p =
    let z : n / 16 ^ 16 ≡ 0 = div-eq_of_lt h in
    rw (hex_first n t, hex_unsigned n t p) (ap (λ (x : ℕ). read_hex 16 x (hex n ++ t)) (sym z) ∙ hex_read_back 16 n t)

-- ---- the bits of a decimal's f64

below_2^54 : (d a k : ℕ) → Places d a k → d < 2 ^ 54 * 10 ^ k
below_2^54 d a k p =
    let few : a ≤ 16 = omega (arith, p.few, p.behind) in
    let b : 10 ^ a ≤ 10 ^ 16 = pow-le-pow_right {n = 10} (omega arith) few in
    let c : 10 ^ a ≤ 2 ^ 54 = omega arith in
    lt_of_lt_of_le p.below (rw (pow-add 10 a k) (mul-le-mul_right (10 ^ k) c))

bits_are : (minus : Bool) (d a k : ℕ) (x : Float) → Places d a k → Decimal minus d k x → bits_of x ≡ decimal_bits minus d k
unfolding decimal_bits
bits_are minus d a k x p n = ap bits_of (decimal_round minus d k x (below_2^54 d a k p) n)

bits_small : (minus : Bool) (d k : ℕ) → decimal_bits minus d k < 2 ^ 64
unfolding decimal_bits
bits_small minus d k = to_bits-lt binary64 (round binary64 minus d (10 ^ k)) (round-fits binary64 minus d (10 ^ k))

-- What spells an f64 is read as its bits, where neither a digit nor a point follows.
pub number_read_back : (v : ℕ) (p t : List ℕ) → Spelling v p → is_digit_of (first t) ≡ false → eqb (first t) 46 ≡ false → read_value (p ++ t) ≡ found v t
unfolding read_value
number_read_back v p t (in_hex h e) d o = rw e (hex_back v t h o)
number_read_back v p t (in_decimal minus d a k x q n i e) o _ =
    let r = decimal_back minus d a k t q o in
    let f : read_decimal (p ++ t) ≡ found v t = ap (λ (s : List ℕ). read_decimal (s ++ t)) e ∙ ap read_decimal (decimal_then minus d a k t) ∙ r ∙ ap (λ (n : ℕ). found n t) (sym (i ∙ bits_are minus d a k x q n)) in
    rw f refl

-- ---- what is read

record Unsigned (minus : Bool) (s : List ℕ) (v : ℕ) (t : List ℕ) : Type 0 where
  d : ℕ
  a : ℕ
  k : ℕ
  places : Places d a k
  text : s ≡ parts d a k t
  is : v ≡ decimal_bits minus d k

small_of : (n m : ℕ) → 0 < m → n / m ≡ 0 → n < m
small_of n m h e = let l : n < 1 * m = (div-lt_iff_lt-mul h).0 (omega arith) in omega arith

below_of : (d a k : ℕ) → d / 10 ^ k / 10 ^ a ≡ 0 → d < 10 ^ (a + k)
below_of d a k e = small_of d (10 ^ (a + k)) (ten (a + k)) (rw (add_comm a k, pow-add 10 k a, ← div-div-eq-div-mul d (10 ^ k) (10 ^ a)) e)

joined : (s rest : List ℕ) (w a d k : ℕ) (t : List ℕ) → Ran 16 0 0 s w a rest → first rest ≡ 46 → (a ≡ 0 → ⊥) → Ran (17 - a) w 0 (after rest) d k t → (k ≡ 0 → ⊥) → (s ≡ parts d a k t) × Places d a k
joined s rest w a d k t r f x q y =
    let i : r.k ≡ a = omega (arith, r.count) in
    let j : q.k ≡ k = omega (arith, q.count) in
    let h : w / 10 ^ a ≡ 0 = rw i at r.rest in
    let m : d / 10 ^ k ≡ w = rw j at q.rest in
    let point : rest ≡ 46 ∷ after rest = has_first rest (omega arith) ∙ ap (λ (c : ℕ). c ∷ after rest) f in
    let behind : after rest ≡ digits 10 k d ++ t = rw j at q.text in
    let front : s ≡ digits 10 a w ++ rest = rw i at r.text in (
      front
          ∙ ap (λ (l : List ℕ). digits 10 a w ++ l) (point ∙ ap (λ (l : List ℕ). 46 ∷ l) behind)
          ∙ ap (λ (n : ℕ). digits 10 a n ++ (46 ∷ (digits 10 k d ++ t))) (sym m),
      record { before = omega arith; behind = omega arith; few = omega (arith, r.within, q.within); below = below_of d a k (rw m h) },
    )

unsigned_is : (minus : Bool) (s : List ℕ) (v : ℕ) (t : List ℕ) → read_unsigned minus s ≡ found v t → Unsigned minus s v t
unfolding read_unsigned
unsigned_is minus s v t e = by_run (read_run 16 0 0 s) refl e
  where
    by_places : (w a : ℕ) (rest : List ℕ) → read_run 16 0 0 s ≡ run w a rest → eqb a 0 ≡ false → eqb (first rest) 46 ≡ true → (r : Run) → read_run (17 - a) w 0 (after rest) ≡ r → read_places minus r ≡ found v t → Unsigned minus s v t
    by_places w a rest e₁ b c (run d k u) e₂ e₃ =
        cases (eqb k 0)
        (λ z. absurd (not_found v t (rw z at e₃)))
        (λ z.
        let h = rw z at e₃ in
        let same : u ≡ t = cc in
        let val : decimal_bits minus d k ≡ v = cc in
        let j = joined s rest w a d k t (run_is 16 0 0 s w a rest e₁) (eqb-true (first rest) 46 c) (eqb-false a 0 b) (run_is (17 - a) w 0 (after rest) d k t (rw same at e₂)) (eqb-false k 0 z) in
        record { d = d; a = a; k = k; places = j.1; text = j.0; is = sym val })

    by_run : (r : Run) → read_run 16 0 0 s ≡ r → read_point minus r ≡ found v t → Unsigned minus s v t
    by_run (run w a rest) e₁ e₂ =
        cases (eqb a 0)
        (λ b. absurd (not_found v t (rw b at e₂)))
        (λ b.
        cases (eqb (first rest) 46)
        (λ c. by_places w a rest e₁ b c (read_run (17 - a) w 0 (after rest)) refl (rw (b, c) at e₂))
        (λ c. absurd (not_found v t (rw (b, c) at e₂))))

-- s is a spelling of v, and then t
pub record NumberIs (s : List ℕ) (v : ℕ) (t : List ℕ) : Type 0 where
  pub spelled : List ℕ
  pub spelling : Spelling v spelled
  pub text : s ≡ spelled ++ t

number_of : (minus : Bool) (s u : List ℕ) (v : ℕ) (t : List ℕ) → s ≡ sign minus u → Unsigned minus u v t → NumberIs s v t
unfolding decimal_bits
number_of minus s u v t e r =
    let l = sign minus (digits 10 r.a (r.d / 10 ^ r.k) ++ (46 ∷ digits 10 r.k r.d)) in
    record {
      spelled = l;
      spelling = in_decimal minus r.d r.a r.k (round binary64 minus r.d (10 ^ r.k)) r.places (round_decimal minus r.d r.k (below_2^54 r.d r.a r.k r.places)) r.is refl;
      text = e ∙ ap (sign minus) r.text ∙ sym (decimal_then minus r.d r.a r.k t);
    }

decimal_is : (s : List ℕ) (v : ℕ) (t : List ℕ) → read_decimal s ≡ found v t → NumberIs s v t
unfolding read_decimal
decimal_is s v t e =
    cases (eqb (first s) 45)
    (λ b.
    let m : first s ≡ 45 = eqb-true (first s) 45 b in
    number_of true s (after s) v t (has_first s (omega arith) ∙ ap (λ (c : ℕ). c ∷ after s) m) (unsigned_is true (after s) v t (rw b at e)))
    (λ b. number_of false s s v t refl (unsigned_is false s v t (rw b at e)))

-- What is read is a spelling of the bits that are read.
pub number_read_is : (s : List ℕ) (v : ℕ) (t : List ℕ) → read_value s ≡ found v t → NumberIs s v t
unfolding read_value
number_read_is s v t e = by_field (read_decimal s) refl e
  where
    by_field : (f : Field) → read_decimal s ≡ f → or_else f (read_hex 16 0 s) ≡ found v t → NumberIs s v t
    by_field (found w u) e₁ e₂ = decimal_is s v t (e₁ ∙ e₂)
    by_field departs e₁ e₂ =
        let r = hex_read_is 16 0 s v t e₂ in
        record { spelled = hex v; spelling = in_hex (small_of v (16 ^ 16) (omega arith) r.1) refl; text = r.0 }

-- ---- the bits are 64, and a spelling has at most a minus, seventeen digits and a point

pub number_below : (v : ℕ) (p : List ℕ) → Spelling v p → v < 2 ^ 64
number_below v p (in_hex h e) = h
number_below v p (in_decimal minus d a k x q n i e) = rw (i, bits_are minus d a k x q n) (bits_small minus d k)

unsigned_many : (d a k : ℕ) → length (digits 10 a (d / 10 ^ k) ++ (46 ∷ digits 10 k d)) ≡ a + suc k
unsigned_many d a k = rw (length-append (digits 10 a (d / 10 ^ k)) (46 ∷ digits 10 k d), digits_many 10 a (d / 10 ^ k), digits_many 10 k d) refl

signed_many : (minus : Bool) (d a k : ℕ) → Places d a k → (1 ≤ length (sign minus (digits 10 a (d / 10 ^ k) ++ (46 ∷ digits 10 k d)))) × (length (sign minus (digits 10 a (d / 10 ^ k) ++ (46 ∷ digits 10 k d))) ≤ 19)
signed_many true d a k p = rw (unsigned_many d a k) (omega arith, omega (arith, p.few))
signed_many false d a k p = rw (unsigned_many d a k) (omega arith, omega (arith, p.few))

pub number_many : (v : ℕ) (p : List ℕ) → Spelling v p → (1 ≤ length p) × (length p ≤ 19)
number_many v p (in_hex h e) = rw (e, digits_many 16 16 v) (omega arith, omega arith)
number_many v p (in_decimal minus d a k x q n i e) = rw e (signed_many minus d a k q)
