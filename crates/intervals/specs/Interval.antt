-- One estimate's interval in the log coordinate, or its refusal.
use Rattle.std.specs.Prelude.{Bool, ◌&&◌, cond, ℕ, Float, Result, Ok, Err}
use Rattle.std.specs.Float.Ieee.{lt, le}
use Rattle.num.specs.F64.{bits, zero·, ◌⊕◌, ◌⊖◌, ◌⊗◌, ◌⊘◌}
use Rattle.num.specs.Helpers.{is_finite_of}
use Rattle.elementary.specs.Exp.{exp_of}
use Rattle.elementary.specs.Log.{log_of}
use Rattle.intervals.specs.declared.interval.Interval.{Interval}
use Rattle.intervals.specs.declared.interval.Refusal.{Refusal}
use Rattle.intervals.specs.declared.interval.Refusal.TheVariants.{InvalidInput, Unsupported}

-- a refusal's number
abbrev pub number_of : Refusal → ℕ
number_of InvalidInput = 1
number_of Unsupported = 8

-- 1.959963984540054
abbrev pub z95· : Float
z95· = bits 0x3fff_5c03_31ee_ff84

-- of an estimate that is not marked
abbrev pub none : Interval
none = record { error = zero·; lower = zero·; upper = zero· }

-- lower above 0, lower below upper, upper finite: what is not a number fails
unfoldable pub proper_of : Float → Float → Float → Bool
proper_of error lower upper = is_finite_of error && ((lt zero· lower && lt lower upper) && is_finite_of upper)

unfoldable pub judged_of : Float → Float → Float → Result Interval Refusal
judged_of error lower upper = cond (proper_of error lower upper) (Ok (record { error = error; lower = lower; upper = upper })) (Err Unsupported)

abbrev pub transformed_of : Float → Float → Result Interval Refusal
transformed_of estimate log = judged_of log (exp_of (log_of estimate ⊖ z95· ⊗ log)) (exp_of (log_of estimate ⊕ z95· ⊗ log))

unfoldable pub log_interval_of : Float → Float → Result Interval Refusal
log_interval_of estimate error =
    cond (is_finite_of estimate) (cond (le estimate zero·) (Err InvalidInput) (transformed_of estimate (error ⊘ estimate))) (Err InvalidInput)

-- an estimate that is not marked is not looked at
unfoldable pub asked_of : Bool → Float → Float → Result Interval Refusal
asked_of marked estimate error = cond marked (log_interval_of estimate error) (Ok none)
