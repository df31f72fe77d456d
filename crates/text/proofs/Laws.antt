-- From what was read to what is printed: numbers of bits, and each way an answer is found.
use mathlib.Core.Path.{◌≡◌, refl, sym, subst, ◌∙◌}
use mathlib.Core.Bool.{true, not}
use mathlib.Core.List.{List, [], ◌∷◌}
use Prim.Native.Nat.{ℕ, zero, suc, ◌+◌, ◌*◌, ◌%◌, ◌^◌, ◌≤◌, ◌<◌}
use native.Mathlib.Omega.{arith}
use lib.Dec.{T}
use lib.ListN.{get_or, length, take}
use lib.Ieee.{Float, nan, inf, fin, binary64, is_nan, nan_bits}
use lib.Ieee.Bits.{nan_bits_is, nan_bits_above}
use borrow.Author.Tests.{lt-ltb, le-ltb}
use Rattle.num.specs.F64.{bits}
use Rattle.read.specs.Long.{length_fill}
use Rattle.request.specs.declared.Request.{Request}
use Rattle.request.specs.Request.{request_of}
use Rattle.fit.specs.Fit.{fit_of}
use Rattle.std.specs.Prelude.{Ok, Err}
use Rattle.template.specs.declared.read.Form.{Form}
use Rattle.read.specs.declared.Asking.{Asking}
use Rattle.read.specs.Request.{Asked, asked, form, read_request}
use Rattle.read.specs.Rows.{put_litters, fill_request, asking_of}
use Rattle.read.specs.Filled.{request_filled}
use Rattle.print.specs.Answer.{refusal_text, fit_text}
use Rattle.text.specs.Answer.{number, numbers, request_in, answer_to, answer_text}
use Rattle.text.specs.Answered.{many_answer}
use Rattle.text.specs.Kept.{kept_litters}

-- ---- a number of its bits

is_nan_lem : (x : Float) → is_nan x ≡ true → x ≡ nan
unfolding is_nan
is_nan_lem nan h = refl
is_nan_lem (inf s) h = absurd (subst T (sym h) tt)
is_nan_lem (fin s m e) h = absurd (subst T (sym h) tt)

module _ (n : ℕ) where
  pub nan_bits_lem : 0x7ff0_0000_0000_0000 < n % 2 ^ 63 → nan ≡ bits n
  nan_bits_lem h = sym (is_nan_lem (bits n) (sym (nan_bits_is binary64 n) ∙ rw (nan_bits_above binary64 n) (lt-ltb (0x7ff0_0000_0000_0000) (n % 2 ^ 63) h)))

  pub some_bits : n % 2 ^ 63 ≤ 0x7ff0_0000_0000_0000 → T (not (nan_bits binary64 n))
  some_bits h = rw (nan_bits_above binary64 n, le-ltb (0x7ff0_0000_0000_0000) (n % 2 ^ 63) h) tt

-- ---- the request, of its numbers

pub next : {x y : Float} {xs ys : List Float} → x ≡ y → xs ≡ ys → (x ∷ xs) ≡ (y ∷ ys)
next e f = rw (e, f)

pub request_is : (vs : List ℕ) (r : Request) (b : List Float) (t : Float) → r ≡ request_of b t (get_or vs 12 0) (get_or vs 13 0) (get_or vs 14 0) → b ≡ numbers vs → t ≡ number vs 15 → r ≡ request_in vs
unfolding request_in
request_is vs r b t e f g = rw (f, g) at e

-- f of each number from i on, k of them
abbrev counted : (ℕ → Float) → ℕ → ℕ → List Float
counted f i zero = []
counted f i (suc k) = f i ∷ counted f (i + 1) k

take_counted : (f : ℕ → Float) (e : Float) (k i : ℕ) (ys : List Float) → k ≤ length ys → ((j : ℕ) → j < length ys → get_or ys j e ≡ f (i + j)) → take k ys ≡ counted f i k
take_counted f e zero i ys l h = refl
take_counted f e (suc k) i [] l h = absurd (omega arith)
take_counted f e (suc k) i (y ∷ ys) l h =
    let z : i + 0 ≡ i = omega arith in
    let first : y ≡ f i = (rw z at (h 0 (omega arith))) in
    rw (first, take_counted f e k (i + 1) ys (omega arith) (λ j b. let n : i + suc j ≡ i + 1 + j = omega arith in (rw n at (h (suc j) (omega arith)))))

pub first_twelve : (vs : List ℕ) (e : Float) (ys : List Float) → length ys ≡ 16 → ((j : ℕ) → j < length ys → get_or ys j e ≡ number vs j) → take 12 ys ≡ numbers vs
first_twelve vs e ys l h = take_counted (number vs) e 12 0 ys (omega arith) (λ j b. let z : 0 + j ≡ j = omega arith in rw z (h j b))

-- ---- the three ways

-- beside what was asked, q, the answer a and the buffer that the code has
module _ (b buf : List ℕ) where
  form_of : (e : Form) (q : Asked) → Err e ≡ asking_of 0 q → answer_to q ≡ refusal_text 4 0 e.line
  form_of e (form k) s = let i : e ≡ record { line = k } = cc in rw i
  form_of e (asked vs ls) s = cc

  many_of : (a : Asking) (q : Asked) → Ok a ≡ asking_of 0 q → 128 < a.count → answer_to q ≡ refusal_text 1 0 0
  many_of a (form k) s h = cc
  many_of a (asked vs ls) s h = let i : a ≡ record { count = 0 + length ls; values = vs } = cc in let e : a.count ≡ 0 + length ls = rw i in many_answer vs ls (omega arith)

  fit_of_lem : (a : Asking) (text : List ℕ) (q : Asked) → read_request text ≡ q → Ok a ≡ asking_of 0 q → buf ≡ fill_request b text → length b ≡ 384 → a.count ≤ 128 → answer_to q ≡ fit_text (fit_of (request_in a.values) (take (3 * a.count) buf))
  fit_of_lem a text (form k) t s u l h = cc
  fit_of_lem a text (asked vs ls) t s u l h =
      let i : a ≡ record { count = 0 + length ls; values = vs } = cc in
      let e : a.count ≡ 0 + length ls = rw i in
      let v : a.values ≡ vs = rw i in
      let w : buf ≡ put_litters b 0 ls = u ∙ request_filled b text vs ls t in
      rw (v, w, e, kept_litters b 0 ls l (omega arith))

  module _ (text : List ℕ) where
    pub buffer_length : buf ≡ fill_request b text → length buf ≡ length b
    buffer_length u = rw u (length_fill b text)

    pub answer_form : (e : Form) → Err e ≡ asking_of 0 (read_request text) → refusal_text 4 0 e.line ≡ answer_text text
    unfolding answer_text
    answer_form e s = sym (form_of e (read_request text) s)

    pub answer_many : (a : Asking) → Ok a ≡ asking_of 0 (read_request text) → 128 < a.count → refusal_text 1 0 0 ≡ answer_text text
    unfolding answer_text
    answer_many a s h = sym (many_of a (read_request text) s h)

    pub answer_fit : (a : Asking) → Ok a ≡ asking_of 0 (read_request text) → buf ≡ fill_request b text → length b ≡ 384 → a.count ≤ 128 → fit_text (fit_of (request_in a.values) (take (3 * a.count) buf)) ≡ answer_text text
    unfolding answer_text
    answer_fit a s u l h = sym (fit_of_lem a text (read_request text) refl s u l h)
