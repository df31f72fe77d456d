-- A fit's request of counts per exposure, and the source's checks of it.
use Rattle.std.specs.Prelude.{Bool, ◌&&◌, not, List, ℕ, ◌+◌, ◌*◌, leb, length, Float}
use Rattle.std.specs.Float.Ieee.{lt, le}
use Rattle.num.specs.F64.{bits}
use Rattle.num.specs.Helpers.{is_finite_of}
use Rattle.elementary.specs.Log.{log_of}
use Rattle.exposure.specs.declared.request.Bounds.{Bounds}
use Rattle.exposure.specs.declared.request.Request.{Request}
use Rattle.exposure.specs.Rows.{is_positive_of, events_of, valid_rows_of}

-- 1e-8 and 1e6
abbrev pub least_shape : Float
least_shape = bits 0x3e45_798e_e230_8c3a

abbrev pub most_shape : Float
most_shape = bits 0x412e_8480_0000_0000

unfoldable pub valid_shape_of : Float → Bool
valid_shape_of x = is_finite_of x && (le least_shape x && le x most_shape)

-- bounds that increase, the start inside
unfoldable pub is_boxed_of : Bounds → Bool
is_boxed_of r = lt r.low r.high && (le r.low r.start && le r.start r.high)

-- the bounds' logarithms still increase; as the source has it, the upper is not at most the lower
unfoldable pub is_apart_of : Bounds → Bool
is_apart_of r = not (le (log_of r.high) (log_of r.low))

unfoldable pub valid_shapes_of : Bounds → Bool
valid_shapes_of r = valid_shape_of r.low && (valid_shape_of r.high && (valid_shape_of r.start && (is_boxed_of r && is_apart_of r)))

unfoldable pub valid_rates_of : Bounds → Bool
valid_rates_of r = is_positive_of r.low && (is_positive_of r.high && (is_positive_of r.start && (is_boxed_of r && is_apart_of r)))

-- 1 to 10,000
unfoldable pub up_to_of : ℕ → Bool
up_to_of n = leb 1 n && leb n 10000

unfoldable pub valid_controls_of : Request → Bool
valid_controls_of r = up_to_of r.evaluations.0 && (up_to_of r.iterations.0 && is_positive_of r.tolerance)

-- the sum of each row's count and one, times the evaluations, is at most twenty million
unfoldable pub product_of : ℕ → ℕ → ℕ → ℕ
product_of events rows most = (events + rows) * most

unfoldable pub valid_work_of : ℕ → List ℕ → Bool
valid_work_of most cs = leb 2 (length cs) && leb (product_of (events_of cs) (length cs) most) 20000000

unfoldable pub valid_request_of : Request → Bool
valid_request_of r = valid_shapes_of r.shape && (valid_rates_of r.rate && valid_controls_of r)

unfoldable pub admitted_of : Request → List ℕ → List Float → Bool
admitted_of r cs es = (valid_request_of r && valid_rows_of cs es) && valid_work_of r.evaluations.0 cs
