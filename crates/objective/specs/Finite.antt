-- An answered objective is finite in every entry: the likelihood, the gradient and the Hessian.
use Rattle.std.specs.Prelude.{◌≡◌, refl, true, List, [], ◌∷◌, T, length, get_or, set, Ok, Float}
use Rattle.std.proofs.Common.{◌∙◌, length-set}
use Prim.Native.Nat.{ℕ, zero, suc, ◌+◌, ◌*◌, ◌<◌}
use Rattle.std.specs.Float.{nan}
use Rattle.std.specs.Float.Ieee.{binary64, fits}
use Rattle.std.specs.Float.Ieee.Bits.{of_bits-fits}
use Rattle.std.specs.Float.Ieee.Fits.{nan-fits, add-fits}
use Rattle.num.specs.Both.{and_left, and_right}
use Rattle.num.specs.Helpers.{is_finite_of}
use Rattle.finite.specs.Finite.{all_finite_of, each_finite}
use Rattle.work.specs.declared.QuadratureEvaluations.{QuadratureEvaluations}
use Rattle.work.specs.Given.{Always, holds, refuses, tested, passed, anything, of_metered}
use Rattle.row.specs.declared.share.Share.{Share}
use Rattle.legendre.specs.declared.Pair.{Pair}
use Rattle.legendre.specs.Legendre.{legendre_of}
use Rattle.work.specs.Work.{metered}
use Rattle.posterior.specs.Integrand.{at}
use Rattle.objective.specs.declared.sum.Objective.{Objective}
use Rattle.value.specs.declared.Totals.{Totals}
use Rattle.value.specs.Totals.{no_totals}
use Rattle.litters.specs.Litters.{count_of, group_at}
use Rattle.objective.specs.Totals.{raised, index_of, with_share, finite_totals}
use Rattle.objective.specs.Objective.{share_at, rows, admits, objective, told_value, limited_objective_of, objective_of}

-- said of a likelihood, a gradient of four entries and a Hessian of sixteen
pub record Finite (nll : Float) (gradient hessian : List Float) : Type 0 where
  pub likelihood : is_finite_of nll ≡ true
  pub slopes : (i : ℕ) → i < 4 → is_finite_of (get_or gradient i nan) ≡ true
  pub curvatures : (i : ℕ) → i < 16 → is_finite_of (get_or hessian i nan) ≡ true

-- ---- the entries are as many as these, and the likelihood and each of the gradient's is an f64

abbrev Written : List Float → Type 0
Written v = (i : ℕ) → T (fits binary64 (get_or v i nan))

record Sized (t : Totals) : Type 0 where
  gradient : length t.gradient ≡ 4
  hessian : length t.hessian ≡ 16
  value : T (fits binary64 t.nll)
  written : Written t.gradient

set_written : (v : List Float) (k : ℕ) (y : Float) → T (fits binary64 y) → Written v → Written (set v k y)
set_written [] k y f g i = g i
set_written (x ∷ xs) zero y f g zero = f
set_written (x ∷ xs) zero y f g (suc i) = g (suc i)
set_written (x ∷ xs) (suc k) y f g zero = g 0
set_written (x ∷ xs) (suc k) y f g (suc i) = set_written xs k y f (λ j. g (suc j)) i

raised_written : (v : List Float) (k : ℕ) (y : Float) → Written v → Written (raised v k y)
raised_written v k y g = set_written v k _ (add-fits binary64 (get_or v k nan) y) g

raised_length : (v : List Float) (k : ℕ) (y : Float) → length (raised v k y) ≡ length v
raised_length v k y = length-set v k _

share_sized : (t : Totals) (g : ℕ) (a : Share) → Sized t → Sized (with_share t g a)
share_sized t g a s =
    let slope : ℕ → Float = λ i. get_or a.gradient i nan in
    let curvature : ℕ → Float = λ i. get_or a.hessian i nan in
    let v = raised t.gradient g (slope 0) in
    let first = raised t.hessian (5 * g) (curvature 0) in
    let second = raised first (5 * g + 2) (curvature 1) in
    let third = raised second (5 * g + 8) (curvature 2) in
    record {
      gradient = raised_length v (g + 2) (slope 1) ∙ raised_length t.gradient g (slope 0) ∙ s.gradient;
      hessian = raised_length third (5 * g + 10) (curvature 3) ∙ raised_length second (5 * g + 8) (curvature 2) ∙ raised_length first (5 * g + 2) (curvature 1) ∙ raised_length t.hessian (5 * g) (curvature 0) ∙ s.hessian;
      value = add-fits binary64 t.nll a.nll;
      written = raised_written v (g + 2) (slope 1) (raised_written t.gradient g (slope 0) s.written);
    }

nothing_written : Written no_totals.gradient
nothing_written zero = of_bits-fits binary64 0
nothing_written (suc zero) = of_bits-fits binary64 0
nothing_written (suc (suc zero)) = of_bits-fits binary64 0
nothing_written (suc (suc (suc zero))) = of_bits-fits binary64 0
nothing_written (suc (suc (suc (suc i)))) = nan-fits binary64

-- what is known of a value that the objective gives
pub record Known (t : Totals) : Type 0 where
  pub finite : Finite t.nll t.gradient t.hessian
  pub value : T (fits binary64 t.nll)
  pub written : Written t.gradient

known : (t : Totals) → Sized t → finite_totals t ≡ true → Known t
unfolding finite_totals
known t s h =
    let rest = and_right (is_finite_of t.nll) _ h in
    record {
      finite = record {
        likelihood = and_left (is_finite_of t.nll) _ h;
        slopes = λ i l. each_finite t.gradient i (rw s.gradient l) (and_left (all_finite_of t.gradient) _ rest);
        curvatures = λ i l. each_finite t.hessian i (rw s.hessian l) (and_right (all_finite_of t.gradient) _ rest);
      };
      value = s.value;
      written = s.written;
    }

module _ (rule : List Pair) (x : List Float) (ls : List ℕ) where
  rows_known : (n i : ℕ) (t : Totals) → Sized t → Always Known (rows rule x ls n i t)
  unfolding rows
  rows_known zero i t s = tested (finite_totals t) (λ h. holds (known t s h)) (λ h. refuses)
  rows_known (suc n) i t s =
      let g = index_of (group_at ls i) in
      passed (anything {P = λ a. Unit {0}} (λ a. tt) (share_at rule x ls i)) (λ a u. rows_known n (i + 1) (with_share t g a) (share_sized t g a s))

  pub objective_known : Always Known (objective rule x ls)
  unfolding objective
  objective_known = tested (admits x ls) (λ t. rows_known (count_of ls) 0 no_totals (record { gradient = refl; hessian = refl; value = of_bits-fits binary64 0; written = nothing_written })) (λ t. refuses)

  -- under a limit, and called alone
  pub limited_finite : (limit : QuadratureEvaluations) (o : Objective) → limited_objective_of rule x ls limit ≡ Ok o → Finite o.v.nll o.v.gradient o.v.hessian
  unfolding limited_objective_of
  limited_finite limit o h = (of_metered at (λ e. tt) limit.0 0 o.v objective_known (told_value (metered at limit.0 0 (objective rule x ls)).ended _ o h)).finite

pub objective_finite : (x : List Float) (ls : List ℕ) (o : Objective) → objective_of x ls ≡ Ok o → Finite o.v.nll o.v.gradient o.v.hessian
unfolding objective_of
objective_finite x ls o h = limited_finite legendre_of x ls (record { 0 = 8388608 }) o h
