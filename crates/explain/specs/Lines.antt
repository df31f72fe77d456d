-- A trial and an ending in words, a line each; and the same as counts.
use Rattle.std.specs.Prelude.{List, [], ◌∷◌, ℕ, Float, Option, Some, None, Result, Ok, Err}
use Rattle.num.specs.F64.{bits_of}
use Rattle.work.specs.declared.Refusal.{Refusal}
use Rattle.work.specs.Refusal.{number_of, reason_of}
use Rattle.descent.specs.declared.Trial.{Trial}
use Rattle.descent.specs.declared.Trial.TheVariants.{NotDownhill, NotMoved, TooLittle, ByDecrease, ByRounding, CutOff}
use Rattle.why.specs.declared.Test.{Test}
use Rattle.why.specs.declared.Test.TheVariants.{Norm, Evaluations, Iterations, Halvings, Spent}
use Rattle.why.specs.declared.Refused as why
use Rattle.template.specs.Template.{ascii, render}

-- the room that every line fits
abbrev pub line : ℕ
line = 128

-- ---- a trial

-- the number that decided it
abbrev pub number_in : Trial → Option Float
number_in (NotDownhill slope) = Some slope
number_in NotMoved = None
number_in (TooLittle missed) = Some missed
number_in (ByDecrease slope) = Some slope
number_in (ByRounding allowance) = Some allowance
number_in CutOff = None

abbrev pub bits_or_0 : Option Float → ℕ
bits_or_0 (Some x) = bits_of x
bits_or_0 None = 0

abbrev pub bits_in : Trial → ℕ
bits_in t = bits_or_0 (number_in t)

abbrev pub trial_form : Trial → List ℕ
trial_form (NotDownhill slope) = ascii "trial # not-downhill %\n"
trial_form NotMoved = ascii "trial # not-moved\n"
trial_form (TooLittle missed) = ascii "trial # too-little %\n"
trial_form (ByDecrease slope) = ascii "trial # by-decrease %\n"
trial_form (ByRounding allowance) = ascii "trial # by-rounding %\n"
trial_form CutOff = ascii "trial # cut-off\n"

unfoldable pub made_text : ℕ → Trial → List ℕ
made_text n t = render (trial_form t) (n ∷ bits_in t ∷ [])

-- the trial's number, then a refusal's number, count and reason
unfoldable pub refused_text : ℕ → ℕ → ℕ → ℕ → List ℕ
refused_text n number count reason = render (ascii "trial # refused # # #\n") (n ∷ number ∷ count ∷ reason ∷ [])

-- a number that no trial has is InvalidInput, with count 0
abbrev pub trial_text : ℕ → Option (Result Trial Refusal) → ℕ → List ℕ
trial_text n (Some (Ok t)) used = made_text n t
trial_text n (Some (Err e)) used = refused_text n (number_of e) used (reason_of e)
trial_text n None used = refused_text n 1 0 0

-- ---- an ending

abbrev pub test_text : Test → List ℕ
test_text Norm = ascii "ending norm\n"
test_text Evaluations = ascii "ending evaluations\n"
test_text Iterations = ascii "ending iterations\n"
test_text Halvings = ascii "ending halvings\n"
test_text Spent = ascii "ending cut-off\n"

unfoldable pub stopped_text : ℕ → ℕ → ℕ → ℕ → List ℕ
stopped_text number count reason litter = render (ascii "ending refused # # # litter #\n") (number ∷ count ∷ reason ∷ litter ∷ [])

-- counted from 1; 0 where there is none
abbrev pub litter_in : Option ℕ → ℕ
litter_in (Some i) = i
litter_in None = 0

unfoldable pub ending_text : Result Test why.Refused → ℕ → List ℕ
ending_text (Ok t) used = test_text t
ending_text (Err e) used = stopped_text (number_of e.refusal) used (reason_of e.refusal) (litter_in e.litter)
