-- The laws that the proofs of an answer's text go by: l is the buffer before, l' after.
use mathlib.Core.Path.{◌≡◌, refl, sym, subst, ◌∙◌}
use mathlib.Core.Bool.{Bool, true, false, beq}
use mathlib.Core.List.{List, ◌++◌}
use Prim.Native.Nat.{ℕ, ◌+◌, ◌*◌, ◌≤◌}
use native.Mathlib.Nat.{add-zero, zero-add}
use native.Mathlib.Omega.{arith}
use borrow.Author.Tests.{eq-eqb}
use lib.Dec.{T}
use lib.ListN.{length, length-append}
use lib.Ieee.{Float, nan, inf, fin, eq, to_bits, level, up, down}
use Rattle.num.specs.F64.{bits_of}
use Rattle.fit.specs.declared.report.Fit.{Fit}
use Rattle.template.specs.Template.{ascii, render}
use Rattle.render.specs.Width.{length_render}
use Rattle.render.specs.Written.{written}
use Rattle.render.specs.WrittenLaws.{written_append}
use Rattle.print.specs.Answer.{status_text, report, report_values, mark, active_text, any_of, marks_of, active_of, report_text}
use Rattle.print.specs.Room.{report_width}

-- ---- a number equals itself, so what does not is a NaN
same_sign : (s : Bool) → beq s s ≡ true
same_sign true = refl
same_sign false = refl

same_level : (s : Bool) (a : ℕ) → level s a s a ≡ true
same_level s a = rw (eq-eqb a a refl, same_sign s)

pub nan_bits : (x : Float) → eq x x ≡ false → 0x7ff8_0000_0000_0000 ≡ bits_of x
unfolding eq to_bits
nan_bits nan h = refl
nan_bits (inf s) h = absurd (subst T (sym (same_sign s) ∙ h) tt)
nan_bits (fin s m e) h = absurd (subst T (sym (same_level s (m * up e * down e)) ∙ h) tt)

pub by_length : (bs ds : List ℕ) (at r : ℕ) → r ≡ at + length ds → ds ≡ bs → r ≡ at + length bs
by_length bs ds at r p e = rw (← e) p

-- ---- a mark that is not set
module _ (on : Bool) (s : List ℕ) (h : on ≡ false) where
  pub unset_length : (at : ℕ) → at ≡ at + length (mark on s)
  unset_length at = rw (h, add-zero)

  pub unset_text : (l : List ℕ) (at : ℕ) → l ≡ written l at (mark on s)
  unfolding written
  unset_text l at = rw h

-- ---- one text after another
pub then_length : (a b : List ℕ) (at r₁ r₂ : ℕ) → r₁ ≡ at + length a → r₂ ≡ r₁ + length b → r₂ ≡ at + length (a ++ b)
then_length a b at r₁ r₂ p q = rw length-append (omega arith)

pub then_text : (a b l l₁ l₂ : List ℕ) (at r₁ : ℕ) → l₁ ≡ written l at a → r₁ ≡ at + length a → l₂ ≡ written l₁ r₁ b → l₂ ≡ written l at (a ++ b)
then_text a b l l₁ l₂ at r₁ e p q = rw (written_append, ← e, ← p) q

-- ---- the room that the numbers take
pub numbers_most : (vs : List ℕ) (at r : ℕ) → r ≡ at + length (render report vs) → r ≤ at + 308
numbers_most vs at r p = let h = length_render report vs in omega (arith, h, report_width)

-- ---- the marks' line: t is the test that one is set
module _ (on : List Bool) (t : Bool) (e : t ≡ any_of on) where
  some : t ≡ true → active_of on ≡ marks_of on ++ ascii "\n"
  unfolding active_text
  some h = rw (← e, h)

  pub none : t ≡ false → ascii " none\n" ≡ active_of on
  unfolding active_text
  none h = rw (← e, h)

  pub some_length : (at r₁ r₂ : ℕ) → t ≡ true → r₁ ≡ at + length (marks_of on) → r₂ ≡ r₁ + 1 → r₂ ≡ at + length (active_of on)
  some_length at r₁ r₂ h p q = rw (some h) (then_length (marks_of on) (ascii "\n") at r₁ r₂ p q)

  pub some_text : (l l₁ l₂ : List ℕ) (at r₁ : ℕ) → t ≡ true → l₁ ≡ written l at (marks_of on) → r₁ ≡ at + length (marks_of on) → l₂ ≡ written l₁ r₁ (ascii "\n") → l₂ ≡ written l at (active_of on)
  some_text l l₁ l₂ at r₁ h p q i = rw (some h) (then_text (marks_of on) (ascii "\n") l l₁ l₂ at r₁ p q i)

-- ---- the report
module _ (f : Fit) (ws vs : List ℕ) (r₁ r₂ : ℕ) (u : ws ≡ status_text f.status) (v : vs ≡ report_values f) (p : r₁ ≡ 0 + length ws) (q : r₂ ≡ r₁ + length (render report vs)) where
  whole : report_text f ≡ ws ++ (render report vs ++ active_of f.active)
  unfolding report_text
  whole = rw (u, v)

  pub report_length : (r₃ : ℕ) → r₃ ≡ r₂ + length (active_of f.active) → r₃ ≡ length (report_text f)
  report_length r₃ i = rw (whole, ← zero-add (length _)) (search (then_length, p, q, i))

  pub report_text_lem : (l l₁ l₂ l₃ : List ℕ) → l₁ ≡ written l 0 ws → l₂ ≡ written l₁ r₁ (render report vs) → l₃ ≡ written l₂ r₂ (active_of f.active) → l₃ ≡ written l 0 (report_text f)
  report_text_lem l l₁ l₂ l₃ i j k = rw whole (search (then_text, p, q, i, j, k))
