-- What a request and rows that passed their checks have.
use Rattle.std.specs.Prelude.{◌≡◌, true, ◌&&◌, List, ℕ, ◌≤◌, leb, eqb, length, Float}
use Rattle.std.proofs.Common.{arith, leb-true, eqb-true}
use Rattle.num.specs.Both.{and_left, and_right}
use Rattle.exposure.specs.declared.request.Request.{Request}
use Rattle.exposure.specs.Rows.{events_of, valid_rows_of}
use Rattle.exposure.specs.Request.{valid_shapes_of, valid_rates_of, up_to_of, valid_controls_of, product_of, valid_work_of, valid_request_of, admitted_of}

pub record Rows (cs : List ℕ) (es : List Float) : Type 0 where
  pub some : 1 ≤ length cs
  pub few : length cs ≤ 4096
  pub paired : length es ≡ length cs
  pub million : events_of cs ≤ 1000000

pub rows_passed : (cs : List ℕ) (es : List Float) → valid_rows_of cs es ≡ true → Rows cs es
unfolding valid_rows_of
rows_passed cs es h =
    let a = and_right (leb 1 (length cs)) _ h in
    let b = and_right (leb (length cs) 4096) _ a in
    let c = and_right (eqb (length es) (length cs)) _ b in
    record {
      some = leb-true _ _ (and_left (leb 1 (length cs)) _ h);
      few = leb-true _ _ (and_left (leb (length cs) 4096) _ a);
      paired = eqb-true _ _ (and_left (eqb (length es) (length cs)) _ b);
      million = leb-true _ _ (and_left (leb (events_of cs) 1000000) _ c);
    }

module _ (cs : List ℕ) (es : List Float) (h : valid_rows_of cs es ≡ true) where
  pub rows_few : length cs ≤ 4096
  rows_few = (rows_passed cs es h).few

  pub rows_paired : length cs ≤ length es
  rows_paired = omega (arith, (rows_passed cs es h).paired)

  pub rows_million : events_of cs ≤ 1000000
  rows_million = (rows_passed cs es h).million

pub record Controls (r : Request) : Type 0 where
  pub some : 1 ≤ r.evaluations.0
  pub few : r.evaluations.0 ≤ 10000

pub controls_passed : (r : Request) → valid_controls_of r ≡ true → Controls r
unfolding valid_controls_of up_to_of
controls_passed r h =
    let a = and_left (leb 1 r.evaluations.0 && leb r.evaluations.0 10000) _ h in
    record { some = leb-true _ _ (and_left (leb 1 r.evaluations.0) _ a); few = leb-true _ _ (and_right (leb 1 r.evaluations.0) _ a) }

pub request_passed : (r : Request) → valid_request_of r ≡ true → Controls r
unfolding valid_request_of
request_passed r h = controls_passed r (and_right (valid_rates_of r.rate) _ (and_right (valid_shapes_of r.shape) _ h))

pub record Admitted (r : Request) (cs : List ℕ) (es : List Float) : Type 0 where
  pub rows : Rows cs es
  pub controls : Controls r
  pub work : product_of (events_of cs) (length cs) r.evaluations.0 ≤ 20000000

pub admitted_passed : (r : Request) (cs : List ℕ) (es : List Float) → admitted_of r cs es ≡ true → Admitted r cs es
unfolding admitted_of valid_work_of
admitted_passed r cs es h =
    let a = and_left (valid_request_of r && valid_rows_of cs es) _ h in
    record {
      rows = rows_passed cs es (and_right (valid_request_of r) _ a);
      controls = request_passed r (and_left (valid_request_of r) _ a);
      work = leb-true _ _ (and_right (leb 2 (length cs)) _ (and_right (valid_request_of r && valid_rows_of cs es) _ h));
    }

-- the same of a count that was found
module _ (r : Request) (cs : List ℕ) (es : List Float) (h : admitted_of r cs es ≡ true) where
  pub admitted_few : length cs ≤ 4096
  admitted_few = (admitted_passed r cs es h).rows.few

  pub admitted_paired : length cs ≤ length es
  admitted_paired = omega (arith, (admitted_passed r cs es h).rows.paired)

  pub admitted_million : (events : ℕ) → events ≡ events_of cs → events ≤ 1000000
  admitted_million events e = rw e (admitted_passed r cs es h).rows.million

  pub admitted_most : r.evaluations.0 ≤ 10000
  admitted_most = (admitted_passed r cs es h).controls.few
