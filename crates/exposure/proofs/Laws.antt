-- What `admitted` goes by: what passed the tests before bounds the product.
use mathlib.Core.Path.{◌≡◌}
use mathlib.Core.Bool.{true}
use mathlib.Core.List.{List}
use Prim.Native.Nat.{ℕ, ◌≤◌}
use lib.ListN.{length}
use lib.Ieee.{Float}
use Rattle.exposure.specs.declared.request.Request.{Request}
use Rattle.exposure.specs.Rows.{events_of, valid_rows_of}
use Rattle.exposure.specs.Request.{valid_request_of}
use Rattle.exposure.specs.Passed.{rows_passed, request_passed}

pub bounds : (r : Request) (cs : List ℕ) (es : List Float) → valid_request_of r ≡ true → valid_rows_of cs es ≡ true → (length cs ≤ 4096) × (events_of cs ≤ 1000000) × (r.evaluations.0 ≤ 10000)
bounds r cs es h g = let k = rows_passed cs es g in (k.few, k.million, (request_passed r h).few)
