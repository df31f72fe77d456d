-- The laws by which the stages give the conditional at each of sixteen places.
use mathlib.Core.Path.{◌≡◌}
use mathlib.Core.List.{List}
use Prim.Native.Nat.{ℕ, ◌-◌, ◌<◌}
use lib.ListN.{get_or}
use lib.Ieee.{Float, nan, neg}
use Rattle.num.specs.F64.{whole}
use Rattle.num.specs.Values.{values}
use Rattle.num.specs.Filled.{at_place, same_values}
use Rattle.lanes.specs.Lanes.{nth}
use Rattle.normal.specs.declared.moments.ConditionalLog.{ConditionalLog}
use Rattle.normal.specs.Normal.{normal_centre, normal_of}
use Rattle.normal.specs.Conditional.{conditional_of}
use Rattle.conditionals.specs.declared.normals.Ratios.{Ratios}
use Rattle.conditionals.specs.declared.normals.Pairs.{Pairs}
use Rattle.conditionals.specs.declared.Moments.{Moments}
use Rattle.conditionals.specs.Normals.{across_of, cdf_of, cdfs_of, normal_at, normals_of}
use Rattle.conditionals.specs.Conditionals.{share_at, moments_of, shares_of, conditionals_of}

-- ---- five arrays filled in one loop
pub share_log : (r s : ConditionalLog) → r ≡ s → r.log ≡ s.log
share_log r s e = rw e

pub share_moment : (r s : ConditionalLog) (k : ℕ) → r ≡ s → get_or r.moments k nan ≡ get_or s.moments k nan
share_moment r s k e = rw e

pub all_five : (x log first second third fourth : List Float) (y f : Float) (low high : Ratios)
    → log ≡ values (λ i. (share_at x y f low high i).log) 16 0
    → first ≡ values (λ i. get_or (share_at x y f low high i).moments 1 nan) 16 0
    → second ≡ values (λ i. get_or (share_at x y f low high i).moments 3 nan) 16 0
    → third ≡ values (λ i. get_or (share_at x y f low high i).moments 4 nan) 16 0
    → fourth ≡ values (λ i. get_or (share_at x y f low high i).moments 5 nan) 16 0
    → ◌≡◌ {A = Moments} (record { log = log; first = first; second = second; third = third; fourth = fourth }) (shares_of x y f low high)
unfolding shares_of
all_five x log first second third fourth y f low high a b c d e = rw (a, b, c, d, e)

-- ---- the stages
same_moments : (f g : ℕ → ConditionalLog) → ((j : ℕ) → j < 16 → f j ≡ g j) → moments_of f ≡ moments_of g
same_moments f g h =
    let moment : (k : ℕ) → values (λ i. get_or (f i).moments k nan) 16 0 ≡ values (λ i. get_or (g i).moments k nan) 16 0 = λ k. same_values (λ i. get_or (f i).moments k nan) (λ i. get_or (g i).moments k nan) (λ j l. rw (h j l)) in
    rw (same_values (λ i. (f i).log) (λ i. (g i).log) (λ j l. rw (h j l)), moment 1, moment 3, moment 4, moment 5)

module _ (x : List Float) where
  low_log : (j : ℕ) → j < 16 → get_or (normals_of x (cdfs_of x).at).log j nan ≡ (normal_of (get_or x j nan)).log
  unfolding normals_of cdfs_of normal_of normal_centre
  low_log j l = rw (at_place (λ i. (normal_at (get_or x i nan) (get_or (cdfs_of x).at i nan)).log) j nan l, at_place (nth cdf_of x) j nan l)

  low_mills : (j : ℕ) → j < 16 → get_or (normals_of x (cdfs_of x).at).mills j nan ≡ (normal_of (get_or x j nan)).mills
  unfolding normals_of cdfs_of normal_of normal_centre
  low_mills j l = rw (at_place (λ i. (normal_at (get_or x i nan) (get_or (cdfs_of x).at i nan)).mills) j nan l, at_place (nth cdf_of x) j nan l)

  high_log : (j : ℕ) → j < 16 → get_or (normals_of (across_of x) (cdfs_of x).across).log j nan ≡ (normal_of (neg (get_or x j nan))).log
  unfolding normals_of cdfs_of across_of normal_of normal_centre
  high_log j l = rw (at_place (λ i. (normal_at (get_or (across_of x) i nan) (get_or (cdfs_of x).across i nan)).log) j nan l, at_place (nth neg x) j nan l, at_place (nth (λ y. cdf_of (neg y)) x) j nan l)

  high_mills : (j : ℕ) → j < 16 → get_or (normals_of (across_of x) (cdfs_of x).across).mills j nan ≡ (normal_of (neg (get_or x j nan))).mills
  unfolding normals_of cdfs_of across_of normal_of normal_centre
  high_mills j l = rw (at_place (λ i. (normal_at (get_or (across_of x) i nan) (get_or (cdfs_of x).across i nan)).mills) j nan l, at_place (nth neg x) j nan l, at_place (nth (λ y. cdf_of (neg y)) x) j nan l)

  share_is : (successes total j : ℕ) → j < 16 → share_at x (whole successes) (whole (total - successes)) (normals_of x (cdfs_of x).at) (normals_of (across_of x) (cdfs_of x).across) j ≡ conditional_of (get_or x j nan) successes total
  unfolding conditional_of
  share_is successes total j l = rw (low_log j l, low_mills j l, high_log j l, high_mills j l)

  pub by_stages : (successes total fail : ℕ) (e : Pairs) (a : List Float) (low high : Ratios) (r : Moments) → e ≡ cdfs_of x → low ≡ normals_of x e.at → a ≡ across_of x → high ≡ normals_of a e.across → fail ≡ total - successes → r ≡ shares_of x (whole successes) (whole fail) low high → r ≡ conditionals_of x successes total
  unfolding shares_of conditionals_of
  by_stages successes total fail e a low high r ee el ea eh ef er = rw (er, ef, eh, ea, el, ee) (same_moments (share_at x (whole successes) (whole (total - successes)) (normals_of x (cdfs_of x).at) (normals_of (across_of x) (cdfs_of x).across)) (λ i. conditional_of (get_or x i nan) successes total) (share_is successes total))
