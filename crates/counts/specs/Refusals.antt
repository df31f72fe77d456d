-- Why an evaluation may stop: reason 6, total not finite, and nothing else.
use Rattle.std.specs.Prelude.{◌≡◌, refl, List, length, Float}
use Prim.Native.Nat.{ℕ, zero, suc, ◌+◌}
use Rattle.elementary.specs.Exp.{exp_of}
use Rattle.work.specs.Ended.{Why, invalid, domain}
use Rattle.work.specs.Stops.{Stops, answers, refuses, hears, chosen, passed}
use Rattle.planar.specs.declared.Planar.{Planar}
use Rattle.planar.specs.Planar.{no_planar}
use Rattle.exposure.specs.Rows.{count_at, exposure_at}
use Rattle.counts.specs.declared.share.Rising.{Rising}
use Rattle.counts.specs.Share.{no_rising, term_at, raised, rise, row_of}
use Rattle.counts.specs.Rows.{finite_of, rows, evaluate}

abbrev pub NotFinite : Why → Type 0
NotFinite invalid = ⊥
NotFinite (domain i) = i ≡ 6

rise_stops : (shape : Float) (n k : ℕ) (s : Rising) → Stops NotFinite (rise shape n k s)
unfolding rise
rise_stops shape zero k s = answers
rise_stops shape (suc n) k s = hears (λ l. rise_stops shape n (k + 1) (raised s (term_at shape k) l))

module _ (shape log-rate : Float) (cs : List ℕ) (es : List Float) where
  rows_stop : (n i : ℕ) (v : Planar) → Stops NotFinite (rows shape log-rate cs es n i v)
  unfolding rows
  rows_stop zero i v = chosen (finite_of v) answers (refuses refl)
  rows_stop (suc n) i v = passed (rise_stops shape (count_at cs i) 0 no_rising) (λ s. rows_stop n (i + 1) (row_of v shape log-rate (count_at cs i) (exposure_at es i) s))

pub evaluate_stops : (x y : Float) (cs : List ℕ) (es : List Float) → Stops NotFinite (evaluate x y cs es)
unfolding evaluate
evaluate_stops x y cs es = rows_stop (exp_of x) y cs es (length cs) 0 no_planar
