-- An answer's text.
use Rattle.std.specs.Prelude.{Bool, false, cond, ◌||◌, List, [], ◌∷◌, ◌++◌, ℕ, get_or, Result, Ok, Err}
use Rattle.std.specs.Float.{nan}
use Rattle.num.specs.F64.{bits_of}
use Rattle.work.specs.Refusal.{number_of, reason_of}
use Rattle.descent.specs.declared.Status.{Status}
use Rattle.descent.specs.declared.Status.TheVariants.{Converged, EvaluationLimit, IterationLimit, LineSearchFailed}
use Rattle.fit.specs.declared.report.Fit.{Fit}
use Rattle.fit.specs.declared.report.Refused.{Refused}
use Rattle.template.specs.Template.{ascii, render}

-- number, count, and the reason or the line
unfoldable pub refusal_text : ℕ → ℕ → ℕ → List ℕ
refusal_text number count reason = render (ascii "refused # # #\n") (number ∷ count ∷ reason ∷ [])

unfoldable pub status_text : Status → List ℕ
status_text Converged = ascii "status converged\n"
status_text EvaluationLimit = ascii "status evaluation-limit\n"
status_text IterationLimit = ascii "status iteration-limit\n"
status_text LineSearchFailed = ascii "status line-search-failed\n"

-- the SDs' line stands twice (docs/FORMAT.md)
abbrev pub report : List ℕ
report = ascii "mean % %\nsd % %\nsd % %\nvariance % %\nnll %\ngradient %\ncounts # # #\nlitters #\nactive"

-- any NaN has the bits 7ff8000000000000
abbrev pub report_values : Fit → List ℕ
report_values f =
    bits_of (get_or f.means 0 nan) ∷ bits_of (get_or f.means 1 nan) ∷ bits_of (get_or f.sds 0 nan) ∷ bits_of (get_or f.sds 1 nan) ∷
    bits_of (get_or f.sds 0 nan) ∷ bits_of (get_or f.sds 1 nan) ∷ bits_of (get_or f.variances 0 nan) ∷ bits_of (get_or f.variances 1 nan) ∷ bits_of f.nll ∷
    bits_of f.norm ∷ f.evaluations.0 ∷ f.iterations.0 ∷ f.quadrature.0 ∷ f.litters ∷ []

abbrev pub mark : Bool → List ℕ → List ℕ
mark on text = cond on text []

-- the marked coordinates in a row, counted from 0
abbrev pub marks_text : Bool → Bool → Bool → Bool → List ℕ
marks_text a b c d = mark a (ascii " 0") ++ (mark b (ascii " 1") ++ (mark c (ascii " 2") ++ mark d (ascii " 3")))

unfoldable pub active_text : Bool → Bool → Bool → Bool → List ℕ
active_text a b c d = cond (a || (b || (c || d))) (marks_text a b c d) (ascii " none") ++ ascii "\n"

-- of the four coordinates
abbrev pub any_of : List Bool → Bool
any_of on = get_or on 0 false || (get_or on 1 false || (get_or on 2 false || get_or on 3 false))

abbrev pub marks_of : List Bool → List ℕ
marks_of on = marks_text (get_or on 0 false) (get_or on 1 false) (get_or on 2 false) (get_or on 3 false)

abbrev pub active_of : List Bool → List ℕ
active_of on = active_text (get_or on 0 false) (get_or on 1 false) (get_or on 2 false) (get_or on 3 false)

unfoldable pub report_text : Fit → List ℕ
report_text f = status_text f.status ++ (render report (report_values f) ++ active_of f.active)

-- the report, or the refusal with its count
unfoldable pub fit_text : Result Fit Refused → List ℕ
fit_text (Ok f) = report_text f
fit_text (Err e) = refusal_text (number_of e.refusal) e.quadrature.0 (reason_of e.refusal)
