-- The value that stands where there is none: zeros.
use Rattle.std.specs.Prelude.{replicate}
use Rattle.num.specs.F64.{zero·}
use Rattle.value.specs.declared.Totals.{Totals}

abbrev pub no_totals : Totals
no_totals = record { nll = zero·; gradient = replicate 4 zero·; hessian = replicate 16 zero·; refinement = zero· }
