-- A number's digits read back, both ways: sixteen hexadecimal ones by `read_hex`, a count's by `read_count`.
use Rattle.std.specs.Prelude.{◌≡◌, refl, ◌≢◌, true, false, List, [], ◌∷◌, ◌++◌, ℕ, zero, suc, ◌+◌, ◌-◌, ◌*◌, ◌/◌, ◌%◌, ◌^◌, ◌≤◌, ◌<◌, leb, ltb, eqb, length}
use Rattle.std.proofs.Common.{ap, ◌∙◌, add-zero, mod-eq_of_lt, pow-suc, div-one, le-div_iff_mul-le, lt_of_not-le, div-le_self, add-one, arith, ltb-true, ltb-false, leb-true, leb-false, eqb-true, lt-ltb, le-ltb, le-leb, ne_eqb, lit≤}
use Rattle.std.proofs.Math.Bool.{and-eq-true_iff}
use Rattle.std.proofs.lemmas.Bool.{false≢true, eqb-false, lt-leb}
use Rattle.std.proofs.Math.Nat.{mul-add-mod_self_left, mul-add-div, div-add-mod, div-eq_of_lt, pow-zero, pow-succ', div-div-eq-div-mul, one-le-pow, pow-le-pow_right, pos_of_div-pos}
use borrow.Table.Steps.{cases}
use Rattle.template.specs.Digits.{glyph, digits, places_from, decimal}
use Rattle.template.specs.Template.{first, after}
use Rattle.template.specs.Field.{is_digit_of, is_hex_of, hex_value_of, found, departs, read_hex, read_more, read_count}

-- ---- one digit

pub digit_range : (c : ℕ) → is_digit_of c ≡ true → (48 ≤ c) × (c ≤ 57)
digit_range c h = let b = (and-eq-true_iff (leb 48 c) (leb c 57)).0 h in (leb-true 48 c b.0, leb-true c 57 b.1)

glyph_low : (d : ℕ) → d < 10 → glyph d ≡ 48 + d
glyph_low d h = rw (lt-ltb d 10 h)

glyph_high : (d : ℕ) → 10 ≤ d → glyph d ≡ 87 + d
glyph_high d h = rw (le-ltb d 10 h)

pub glyph_digit : (d : ℕ) → d < 10 → (is_digit_of (glyph d) ≡ true) × (glyph d - 48 ≡ d)
glyph_digit d h = rw (glyph_low d h) (rw (le-leb 48 (48 + d) (omega arith), le-leb (48 + d) 57 (omega arith)), omega arith)

pub digit_glyph : (c : ℕ) → is_digit_of c ≡ true → (glyph (c - 48) ≡ c) × (c - 48 < 10)
digit_glyph c h = let r = digit_range c h in (glyph_low (c - 48) (omega arith) ∙ omega arith, omega arith)

pub glyph_hex : (d : ℕ) → d < 16 → (is_hex_of (glyph d) ≡ true) × (hex_value_of (glyph d) ≡ d)
glyph_hex d h =
    cases (ltb d 10)
    (λ b.
    let l = ltb-true d 10 b in
    rw (glyph_low d l) (rw (le-leb 48 (48 + d) (omega arith), le-leb (48 + d) 57 (omega arith)), rw (lt-leb 97 (48 + d) (omega arith)) (omega arith)))
    (λ b.
    let l = ltb-false d 10 b in
    rw (glyph_high d l) (rw (lt-leb (87 + d) 57 (omega arith), le-leb 48 (87 + d) (omega arith), le-leb 97 (87 + d) (omega arith), le-leb (87 + d) 102 (omega arith)), rw (le-leb 97 (87 + d) (omega arith)) (omega arith)))

pub hex_glyph : (c : ℕ) → is_hex_of c ≡ true → (glyph (hex_value_of c) ≡ c) × (hex_value_of c < 16)
hex_glyph c h =
    cases (is_digit_of c)
    (λ b. let r = digit_range c b in rw (lt-leb 97 c (omega arith)) ((digit_glyph c b).0, omega arith))
    (λ b.
    let r = (and-eq-true_iff (leb 97 c) (leb c 102)).0 (rw b at h) in
    let low = leb-true 97 c r.0 in
    let high = leb-true c 102 r.1 in
    rw r.0 (glyph_high (c - 87) (omega arith) ∙ omega arith, omega arith))

-- `first []` is 0, so a text whose first byte is above 0 has one
pub has_first : (s : List ℕ) → 0 < first s → s ≡ first s ∷ after s
has_first [] h = absurd (omega arith)
has_first (c ∷ s) h = refl

pub hex_above : (c : ℕ) → is_hex_of c ≡ true → 0 < c
hex_above c h = cases (leb 1 c) (λ b. leb-true 1 c b) (λ b. let z : c ≡ 0 = omega (arith, leb-false 1 c b) in absurd (false≢true (rw z at h)))

pub not_found : (n : ℕ) (t : List ℕ) → departs ≡ found n t → ⊥
not_found n t e = let z : ◌≡◌ {A = ℕ} 0 1 = cc in omega arith

-- ---- digits in a base: one more digit, and how many there are

-- `n / b ^ k` is what n's digits before its last k make
one_more : (b k n : ℕ) → n / b ^ suc k ≡ n / b ^ k / b
one_more b k n = rw (pow-suc b k, div-div-eq-div-mul n (b ^ k) b)

pub next_digit : (b k n : ℕ) → b * (n / b ^ suc k) + n / b ^ k % b ≡ n / b ^ k
next_digit b k n = rw (one_more b k n) (div-add-mod (n / b ^ k) b)

-- the same from the other end: n without its last digit
drop_last : (b k n : ℕ) → n / b ^ suc k ≡ n / b / b ^ k
drop_last b k n = rw (pow-succ' b k, div-div-eq-div-mul n b (b ^ k))

pub digit_in_front :
    (b k n v d c : ℕ) (s t : List ℕ) → d < b → glyph d ≡ c → n / b ^ k ≡ b * v + d → s ≡ digits b k n ++ t → (c ∷ s ≡ digits b (suc k) n ++ t) × (n / b ^ suc k ≡ v)
unfolding digits
digit_in_front b k n v d c s t h g e q =
    let p : 0 < b = omega arith in
    (rw (e, mul-add-mod_self_left b v d, mod-eq_of_lt h, g) (ap (λ l. c ∷ l) q), rw (one_more b k n, e, mul-add-div p v d, div-eq_of_lt h, add-zero v))

pub digit_behind : (b k n : ℕ) → digits b (suc k) n ≡ digits b k (n / b) ++ (glyph (n % b) ∷ [])
unfolding digits
digit_behind b zero n = rw (pow-zero b, div-one n)
digit_behind b (suc k) n = rw (drop_last b k n) (ap (λ l. glyph (n / b / b ^ k % b) ∷ l) (digit_behind b k n))

pub digits_many : (b k n : ℕ) → length (digits b k n) ≡ k
unfolding digits
digits_many b zero n = refl
digits_many b (suc k) n = ap suc (digits_many b k n)

-- ---- hexadecimal

pub hex_read_back : (k n : ℕ) (t : List ℕ) → read_hex k (n / 16 ^ k) (digits 16 k n ++ t) ≡ found n t
unfolding digits read_hex
hex_read_back zero n t = rw (div-one n)
hex_read_back (suc k) n t = let g = glyph_hex (n / 16 ^ k % 16) (omega arith) in rw (g.0, g.1, next_digit 16 k n) (hex_read_back k n t)

pub hex_read_is : (k v : ℕ) (s : List ℕ) (n : ℕ) (t : List ℕ) → read_hex k v s ≡ found n t → (s ≡ digits 16 k n ++ t) × (n / 16 ^ k ≡ v)
unfolding digits read_hex
hex_read_is zero v s n t e = (cc, rw (div-one n) (cc))
hex_read_is (suc k) v s n t e =
    cases (is_hex_of (first s))
    (λ b.
    let r = hex_read_is k (16 * v + hex_value_of (first s)) (after s) n t (rw b at e) in
    let g = hex_glyph (first s) b in
    let m = digit_in_front 16 k n v (hex_value_of (first s)) (first s) (after s) t g.1 g.0 r.1 r.0 in
    (has_first s (hex_above (first s) b) ∙ m.0, m.1))
    (λ b. absurd (not_found n t (rw b at e)))

-- ---- decimal

-- n's first digit has k digits after it
pub record Leads (n k : ℕ) : Type 0 where
  pub some : 0 < n / 10 ^ k
  pub one : n / 10 ^ k < 10

leads_on : (n k : ℕ) → Leads (n / 10) k → Leads n (suc k)
leads_on n k l = let e = drop_last 10 k n in record { some = rw e l.some; one = rw e l.one }

leads_off : (n k : ℕ) → Leads n (suc k) → Leads (n / 10) k
leads_off n k l = let e = drop_last 10 k n in record { some = rw e at l.some; one = rw e at l.one }

-- fewer digits after the first than any power above n
pub few : (n k m : ℕ) → Leads n k → n < 10 ^ m → k < m
few n k m l h =
    lt_of_not-le (λ (g : m ≤ k).
    let p : 10 ^ m ≤ 10 ^ k = pow-le-pow_right (omega arith) g in
    let q : 1 * 10 ^ k ≤ n = (le-div_iff_mul-le (one-le-pow k 10 (omega arith))).0 l.some in
    omega arith)

pub has_lead : (f n : ℕ) → 0 < n → n < 10 ^ suc f → (k : ℕ) × Leads n k
has_lead zero n p h = (0, record { some = rw (div-one n) p; one = rw (div-one n) h })
has_lead (suc f) n p h =
    cases (ltb n 10)
    (λ b. (0, record { some = rw (div-one n) p; one = rw (div-one n) (ltb-true n 10 b) }))
    (λ b. let r = has_lead f (n / 10) (omega (arith, ltb-false n 10 b)) (omega arith) in (suc r.0, leads_on n r.0 r.1))

pub places_are : (f n k : ℕ) → Leads n k → k ≤ f → places_from f n ≡ suc k
unfolding places_from
places_are zero n zero l h = refl
places_are zero n (suc k) l h = absurd (omega arith)
places_are (suc f) n zero l h = rw (lt-ltb n 10 (rw div-one at l.one))
places_are (suc f) n (suc k) l h =
    let r = leads_off n k l in
    let g : 10 ≤ n = omega (arith, pos_of_div-pos {n = n / 10} (10 ^ k) r.some) in
    rw (le-ltb n 10 g, places_are f (n / 10) k r (omega arith), add-one (suc k))

pub places_least : (f n : ℕ) → 1 ≤ places_from f n
unfolding places_from
places_least zero n = lit≤ tt
places_least (suc f) n = cases (ltb n 10) (λ b. rw b (lit≤ tt)) (λ b. rw b (omega (arith, places_least f (n / 10))))

decimal_zero : decimal 0 ≡ 48 ∷ []
unfolding digits places_from
decimal_zero = refl

decimal_is : (n k : ℕ) → n < 2 ^ 32 → Leads n k → decimal n ≡ glyph (n / 10 ^ k) ∷ digits 10 k n
unfolding digits
decimal_is n k h l =
    let e : n / 10 ^ k % 10 ≡ n / 10 ^ k = omega (arith, l.one) in
    rw (places_are 19 n k l (omega (arith, few n k 10 l (omega arith))), e)

behind_from : (n k : ℕ) → n < 2 ^ 32 → Leads (n / 10) k → decimal n ≡ decimal (n / 10) ++ (glyph (n % 10) ∷ [])
behind_from n k h l =
    let f = few (n / 10) k 10 l (omega arith) in
    rw (places_are 19 n (suc k) (leads_on n k l) (omega arith), places_are 19 (n / 10) k l (omega arith)) (digit_behind 10 (suc k) n)

pub decimal_behind : (n : ℕ) → 10 ≤ n → n < 2 ^ 32 → decimal n ≡ decimal (n / 10) ++ (glyph (n % 10) ∷ [])
decimal_behind n p h = let r = has_lead 9 (n / 10) (omega arith) (omega arith) in behind_from n r.0 h r.1

pub decimal_most : (n : ℕ) → n < 2 ^ 32 → length (decimal n) ≤ 10
decimal_most zero h = rw decimal_zero (lit≤ tt)
decimal_most (suc m) h =
    let r = has_lead 9 (suc m) (omega arith) (omega arith) in
    rw (decimal_is (suc m) r.0 h r.1, digits_many 10 r.0 (suc m)) (few (suc m) r.0 10 r.1 (omega arith))

-- a count ends where no digit follows
ended : (v : ℕ) (t : List ℕ) → is_digit_of (first t) ≡ false → read_more v t ≡ found v t
unfolding read_more
ended v [] h = refl
ended v (c ∷ t) h = rw h

more_read_back : (k n : ℕ) (t : List ℕ) → n < 2 ^ 32 → is_digit_of (first t) ≡ false → read_more (n / 10 ^ k) (digits 10 k n ++ t) ≡ found n t
unfolding digits read_more
more_read_back zero n t h q = rw (div-one n) (ended n t q)
more_read_back (suc k) n t h q =
    let g = glyph_digit (n / 10 ^ k % 10) (omega arith) in
    rw (g.0, g.1, next_digit 10 k n, lt-ltb (n / 10 ^ k) (2 ^ 32) (omega (arith, div-le_self n (10 ^ k)))) (more_read_back k n t h q)

more_read_is : (v : ℕ) (s : List ℕ) (n : ℕ) (t : List ℕ) → v < 2 ^ 32 → read_more v s ≡ found n t → (k : ℕ) × (s ≡ digits 10 k n ++ t) × (n / 10 ^ k ≡ v) × (n < 2 ^ 32)
unfolding digits read_more
more_read_is v [] n t h e = let z : v ≡ n = cc in (0, cc, rw (div-one n) (cc), omega arith)
more_read_is v (c ∷ s) n t h e =
    cases (is_digit_of c)
    (λ b. cases (ltb (10 * v + (c - 48)) (2 ^ 32))
    (λ l.
    let r = more_read_is (10 * v + (c - 48)) s n t (ltb-true _ _ l) (rw (b, l) at e) in
    let g = digit_glyph c b in
    let m = digit_in_front 10 r.0 n v (c - 48) c s t g.1 g.0 r.2 r.1 in
    (suc r.0, m.0, m.1, r.3))
    (λ l. absurd (not_found n t (rw (b, l) at e))))
    (λ b. let e' = rw b at e in let z : v ≡ n = cc in (0, cc, rw (div-one n) (cc), omega arith))

count_from : (n k : ℕ) (t : List ℕ) → n < 2 ^ 32 → Leads n k → is_digit_of (first t) ≡ false → read_count (decimal n ++ t) ≡ found n t
unfolding read_count
count_from n k t h l q =
    let g = glyph_digit (n / 10 ^ k) l.one in
    let f : eqb (glyph (n / 10 ^ k)) 48 ≡ false = ne_eqb _ _ (λ (z : glyph (n / 10 ^ k) ≡ 48). omega (arith, l.some, g.1)) in
    rw (decimal_is n k h l, f, g.0, g.1) (more_read_back k n t h q)

pub count_read_back : (n : ℕ) (t : List ℕ) → n < 2 ^ 32 → is_digit_of (first t) ≡ false → read_count (decimal n ++ t) ≡ found n t
unfolding read_count
count_read_back zero t h q = rw decimal_zero
count_read_back (suc m) t h q = let r = has_lead 9 (suc m) (omega arith) (omega arith) in count_from (suc m) r.0 t h r.1 q

-- a digit that is no zero, and k more
decimal_of : (c k n : ℕ) (s t : List ℕ) → is_digit_of c ≡ true → c ≢ 48 → n < 2 ^ 32 → n / 10 ^ k ≡ c - 48 → s ≡ digits 10 k n ++ t → c ∷ s ≡ decimal n ++ t
decimal_of c k n s t d z h e q =
    let g = digit_glyph c d in
    let r = digit_range c d in
    let l : Leads n k = record { some = omega arith; one = omega arith } in
    rw (decimal_is n k h l, e, g.0) (ap (λ x. c ∷ x) q)

pub count_read_is : (s : List ℕ) (n : ℕ) (t : List ℕ) → read_count s ≡ found n t → (s ≡ decimal n ++ t) × (n < 2 ^ 32)
unfolding read_count
count_read_is s n t e =
    cases (eqb (first s) 48)
    (λ b.
    let c = eqb-true (first s) 48 b in
    let e' = rw b at e in
    let z : 0 ≡ n = cc in
    (has_first s (omega arith) ∙ rw (c, ← z, decimal_zero) (cc), omega arith))
    (λ b. cases (is_digit_of (first s))
    (λ d.
    let p = digit_range (first s) d in
    let r = more_read_is (first s - 48) (after s) n t (omega arith) (rw (b, d) at e) in
    (has_first s (omega arith) ∙ decimal_of (first s) r.0 n (after s) t d (eqb-false (first s) 48 b) r.3 r.2 r.1, r.3))
    (λ d. absurd (not_found n t (rw (b, d) at e))))
