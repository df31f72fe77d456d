-- The laws of the normal distribution at sixteen places.
use mathlib.Core.Path.{◌≡◌, refl, ◌∙◌}
use mathlib.Core.Bool.{false}
use mathlib.Core.List.{List}
use Prim.Native.Nat.{ℕ, ◌<◌}
use lib.ListN.{get_or}
use lib.Ieee.{Float, nan, binary64, neg}
use Rattle.num.specs.F64.{◌⊖◌, ◌⊗◌, ◌⊘◌, half·}
use Rattle.num.specs.Values.{values}
use Rattle.num.specs.Filled.{at_place, same_values, own_values}
use Rattle.order.specs.Quotients.{neg_div}
use Rattle.elementary.specs.Exp.{exp_of}
use Rattle.elementary.specs.Log.{log_of}
use Rattle.elementary.specs.Erfc.{erfc_of, erfc_pos_of}
use Rattle.lanes.specs.Lanes.{nth, erfcs_of, exps_of, logs_of}
use Rattle.normal.specs.declared.mills.LogMills.{LogMills}
use Rattle.normal.specs.Normal.{log_phi_of, sqrt_two, fraction_of, normal_tail}
use Rattle.normal.specs.Twins.{size_of, by_cdf_of}
use Rattle.conditionals.specs.declared.normals.Ratios.{Ratios}
use Rattle.conditionals.specs.declared.normals.Pairs.{Pairs}
use Rattle.conditionals.specs.Normals.{across_of, turned_of, sizes_of, halves_of, cdf_of, cdfs_of, gaps_of, normal_at, ratios_of, normals_of}
use Rattle.conditionals.specs.Tails.{fractions_of, beyond_of, tails_at, tails_of}
use Rattle.conditionals.proofs.TailsLaws.{none_beyond}

-- ---- the distribution, by erfc of each size
pub size_at : (t p : List Float) (j : ℕ) → p ≡ erfcs_of (sizes_of t) → j < 16 → get_or p j nan ≡ erfc_pos_of (size_of (get_or t j nan))
unfolding erfcs_of sizes_of
size_at t p j e l = rw (e, at_place (nth erfc_pos_of (sizes_of t)) j nan l, at_place (nth size_of t) j nan l)

pub half : (a x : Float) → a ≡ erfc_of x → half· ⊗ a ≡ half· ⊗ erfc_of x
half a x e = rw e

pub both_arrays : (t a b : List Float) → a ≡ values (λ i. half· ⊗ erfc_of (get_or t i nan)) 16 0 → b ≡ values (λ i. half· ⊗ erfc_of (neg (get_or t i nan))) 16 0 → ◌≡◌ {A = Pairs} (record { at = a; across = b }) (halves_of t)
unfolding halves_of
both_arrays t a b e f = rw (e, f)

pub sized : (t s p : List Float) → s ≡ sizes_of t → p ≡ erfcs_of s → p ≡ erfcs_of (sizes_of t)
sized t s p e f = rw (← e) f

module _ (x : List Float) where
  turned_at : (j : ℕ) → j < 16 → get_or (turned_of x) j nan ≡ neg (get_or x j nan) ⊘ sqrt_two
  unfolding turned_of
  turned_at j l = at_place (λ i. neg (get_or x i nan) ⊘ sqrt_two) j nan l

  pub by_halves : (t : List Float) (r : Pairs) → t ≡ turned_of x → r ≡ halves_of t → r ≡ cdfs_of x
  unfolding halves_of cdfs_of
  by_halves t r e f =
      rw (
        f,
        e,
        same_values (λ i. half· ⊗ erfc_of (get_or (turned_of x) i nan)) (nth cdf_of x) (λ j l. rw (turned_at j l)),
        same_values (λ i. half· ⊗ erfc_of (neg (get_or (turned_of x) i nan))) (nth (λ y. cdf_of (neg y)) x) (λ j l. rw (turned_at j l, neg_div binary64 (neg (get_or x j nan)) sqrt_two)),
      )

same_ratios : (f g : ℕ → LogMills) → ((j : ℕ) → j < 16 → f j ≡ g j) → ratios_of f ≡ ratios_of g
same_ratios f g h = rw (same_values (λ i. (f i).log) (λ i. (g i).log) (λ j l. rw (h j l)), same_values (λ i. (f i).mills) (λ i. (g i).mills) (λ j l. rw (h j l)))

-- ---- by the stages
module _ (x cdf : List Float) where
  abbrev logs : List Float
  logs = logs_of cdf

  abbrev ratios : List Float
  ratios = exps_of (gaps_of x logs)

  log_at_lem : (j : ℕ) → j < 16 → get_or logs j nan ≡ log_of (get_or cdf j nan)
  unfolding logs_of
  log_at_lem j l = at_place (nth log_of cdf) j nan l

  gap_at : (j : ℕ) → j < 16 → get_or (gaps_of x logs) j nan ≡ log_phi_of (get_or x j nan) ⊖ get_or logs j nan
  unfolding gaps_of
  gap_at j l = at_place (λ i. log_phi_of (get_or x i nan) ⊖ get_or logs i nan) j nan l

  ratio_at : (j : ℕ) → j < 16 → get_or ratios j nan ≡ exp_of (log_phi_of (get_or x j nan) ⊖ log_of (get_or cdf j nan))
  unfolding exps_of
  ratio_at j l = rw (at_place (nth exp_of (gaps_of x logs)) j nan l, gap_at j l, log_at_lem j l)

  -- where the fraction serves, and where it does not
  near_at : (j : ℕ) → j < 16 → ◌≡◌ {A = LogMills} (record { log = get_or logs j nan; mills = get_or ratios j nan }) (by_cdf_of (log_phi_of (get_or x j nan)) (get_or cdf j nan))
  near_at j l = rw (log_at_lem j l, ratio_at j l)

  tail_at : (j : ℕ) → j < 16 → tails_at x (fractions_of (across_of x)) (record { log = logs; mills = ratios }) j ≡ normal_at (get_or x j nan) (get_or cdf j nan)
  unfolding fractions_of across_of normal_tail
  tail_at j l = rw (at_place (nth fraction_of (across_of x)) j nan l, at_place (nth neg x) j nan l, log_at_lem j l, ratio_at j l)

  pub by_tails : (log mills g : List Float) (r : Ratios) → log ≡ logs_of cdf → g ≡ gaps_of x log → mills ≡ exps_of g → r ≡ tails_of x (record { log = log; mills = mills }) → r ≡ normals_of x cdf
  unfolding tails_of normals_of
  by_tails log mills g r a b c d = rw (d, c, b, a) (same_ratios (tails_at x (fractions_of (across_of x)) (record { log = logs; mills = ratios })) (λ i. normal_at (get_or x i nan) (get_or cdf i nan)) tail_at)

  nearby : beyond_of x ≡ false → (j : ℕ) → j < 16 → ◌≡◌ {A = LogMills} (record { log = get_or logs j nan; mills = get_or ratios j nan }) (normal_at (get_or x j nan) (get_or cdf j nan))
  nearby h j l = rw (none_beyond x h j l) (near_at j l)

  own_ratios : ◌≡◌ {A = Ratios} (record { log = logs; mills = ratios }) (ratios_of (λ i. record { log = get_or logs i nan; mills = get_or ratios i nan }))
  unfolding logs_of exps_of values
  own_ratios = rw (own_values logs nan refl, own_values ratios nan refl)

  pub by_centres : (log mills g : List Float) → log ≡ logs_of cdf → g ≡ gaps_of x log → mills ≡ exps_of g → beyond_of x ≡ false → ◌≡◌ {A = Ratios} (record { log = log; mills = mills }) (normals_of x cdf)
  unfolding normals_of
  by_centres log mills g a b c h = rw (c, b, a) (own_ratios ∙ same_ratios (λ i. record { log = get_or logs i nan; mills = get_or ratios i nan }) (λ i. normal_at (get_or x i nan) (get_or cdf i nan)) (nearby h))
