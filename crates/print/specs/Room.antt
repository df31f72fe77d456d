-- The room that every answer fits: so one test of a buffer's length is enough.
use Rattle.std.specs.Prelude.{◌≡◌, refl, Bool, true, false, List, [], ◌∷◌, ℕ, ◌≤◌, ◌<◌, length, get_or, Result, Ok, Err}
use Rattle.std.proofs.Common.{arith, lit≤, length-append}
use Rattle.work.specs.Refusal.{number_of, reason_of}
use Rattle.descent.specs.declared.Status.{Status}
use Rattle.descent.specs.declared.Status.TheVariants.{Converged, EvaluationLimit, IterationLimit, LineSearchFailed}
use Rattle.fit.specs.declared.report.Fit.{Fit}
use Rattle.fit.specs.declared.report.Refused.{Refused}
use Rattle.template.specs.Template.{ascii}
use Rattle.render.specs.Written.{written}
use Rattle.render.specs.Width.{width, length_render}
use Rattle.print.specs.Answer.{refusal_text, status_text, report, report_values, active_text, report_text, fit_text}

-- 26 for a status, 308 for the report and 9 for the marks, at twenty digits a count
abbrev pub longest : ℕ
longest = 343

-- what is asked of a buffer: the rest is for lines to come, so that hosts keep theirs
abbrev pub room : ℕ
room = 512

-- what a text's answer is by its contract, where there is room: t of n bytes, put from the start
module _ (out after u t : List ℕ) (n : ℕ) where
  pub whole_answer : room ≤ length out → u ≡ t → (n ≡ length u) × (after ≡ written out 0 u) → length u ≤ room → (length out < room → (n ≡ 0) × (after ≡ out)) × ((room ≤ length out → (n ≡ length t) × (after ≡ written out 0 t)) × (n ≤ room))
  whole_answer h e p l = ((λ k. absurd (omega arith)), ((λ k. rw (← e) p), rw p.0 l))

pub refusal_fits : (number count reason : ℕ) → length (refusal_text number count reason) ≤ 71
unfolding refusal_text width
refusal_fits n c r = length_render (ascii "refused # # #\n") (n ∷ c ∷ r ∷ [])

pub status_fits : (s : Status) → length (status_text s) ≤ 26
unfolding status_text
status_fits Converged = lit≤ tt
status_fits EvaluationLimit = lit≤ tt
status_fits IterationLimit = lit≤ tt
status_fits LineSearchFailed = lit≤ tt

pub report_width : width report ≡ 308
unfolding width
report_width = refl

pub active_fits : (a b c d : Bool) → length (active_text a b c d) ≤ 9
unfolding active_text
active_fits true true true true = lit≤ tt
active_fits true true true false = lit≤ tt
active_fits true true false true = lit≤ tt
active_fits true true false false = lit≤ tt
active_fits true false true true = lit≤ tt
active_fits true false true false = lit≤ tt
active_fits true false false true = lit≤ tt
active_fits true false false false = lit≤ tt
active_fits false true true true = lit≤ tt
active_fits false true true false = lit≤ tt
active_fits false true false true = lit≤ tt
active_fits false true false false = lit≤ tt
active_fits false false true true = lit≤ tt
active_fits false false true false = lit≤ tt
active_fits false false false true = lit≤ tt
active_fits false false false false = lit≤ tt

pub report_fits : (f : Fit) → length (report_text f) ≤ longest
unfolding report_text
report_fits f =
    let h = length_render report (report_values f) in
    simp length-append (omega (arith, status_fits f.status, report_width, h, active_fits (get_or f.active 0 false) (get_or f.active 1 false) (get_or f.active 2 false) (get_or f.active 3 false)))

pub longest_fits : (f : Result Fit Refused) → length (fit_text f) ≤ longest
unfolding fit_text
longest_fits (Ok f) = report_fits f
longest_fits (Err e) = omega (arith, refusal_fits (number_of e.refusal) e.quadrature.0 (reason_of e.refusal))

pub answer_fits : (f : Result Fit Refused) → length (fit_text f) ≤ room
answer_fits f = let h = longest_fits f in omega arith
