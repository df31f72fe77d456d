-- The coefficient is the same for successes and failures exchanged.
use Rattle.std.specs.Prelude.{◌≡◌, ℕ, ◌-◌, ◌≤◌}
use Rattle.std.proofs.Common.{ap, ◌∙◌, arith}
use Rattle.num.specs.F64.{◌⊖◌}
use Rattle.num.specs.Helpers.{max_of, min_of}
use Rattle.factorial.specs.Factorial.{log_factorial_of}
use Rattle.factorial.specs.Fits.{log_factorial_fits}
use Rattle.coefficient.specs.Coefficient.{coefficient_of}
use Rattle.coefficient.specs.Tied.{max_swap, min_swap}

pub exchanged : (successes total : ℕ) → successes ≤ total → coefficient_of successes total ≡ coefficient_of (total - successes) total
unfolding coefficient_of
exchanged successes total h =
    let a = log_factorial_of successes in
    let b = log_factorial_of (total - successes) in
    let u = log_factorial_fits successes in
    let v = log_factorial_fits (total - successes) in
    let back : total - (total - successes) ≡ successes = omega arith in
    rw back
    (ap (λ x. log_factorial_of total ⊖ x ⊖ min_of a b) (max_swap a b u v) ∙ ap (λ x. log_factorial_of total ⊖ max_of b a ⊖ x) (min_swap a b u v))
