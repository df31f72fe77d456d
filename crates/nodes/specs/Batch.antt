-- A batch equals one after the other: the stages at all sixteen nodes, added in order, are the nodes in order.
use Rattle.std.specs.Prelude.{◌≡◌, List, Float}
use Rattle.std.proofs.Math.Path.{refl, ap}
use Rattle.std.proofs.Common.{◌∙◌}
use Prim.Native.Nat.{ℕ, zero, suc, ◌+◌, ◌≤◌, ◌<◌}
use native.Mathlib.Omega.{arith}
use Rattle.std.proofs.Math.ListN.{get_or}
use Rattle.std.specs.Float.Ieee.{nan}
use Rattle.num.specs.F64.{◌⊕◌, ◌⊗◌, half·}
use Rattle.num.specs.Fold.{fold_from}
use Rattle.num.specs.Filled.{at_place}
use Rattle.elementary.specs.Exp.{exp_of}
use Rattle.lanes.specs.Lanes.{nth, exps_of}
use Rattle.normal.specs.Conditional.{conditional_of}
use Rattle.conditionals.specs.declared.Moments.{Moments}
use Rattle.conditionals.specs.Conditionals.{moment_at, conditionals_of, six_are}
use Rattle.legendre.specs.declared.Pair.{Pair}
use Rattle.posterior.specs.declared.integrand.Posterior.{Posterior}
use Rattle.posterior.specs.Integrand.{integrand_of}
use Rattle.nodes.specs.Node.{added_of, no_pair, node_of, weight_of}
use Rattle.nodes.specs.Nodes.{nodes_from, sixteen_of}
use Rattle.nodes.specs.Stages.{places_of, etas_of, height_of, heights_of, moments_at, with_node_of, summed_of}

-- ---- what each stage has at place j
module _ (j : ℕ) (h : j < 16) where
  place_is : (center width : Float) (rule : List Pair) → get_or (places_of center width rule) j nan ≡ node_of center width (get_or rule j no_pair)
  unfolding places_of
  place_is center width rule = at_place (λ i. node_of center width (get_or rule i no_pair)) j nan h

  eta_is : (mean sd : Float) (z : List Float) → get_or (etas_of mean sd z) j nan ≡ mean ⊕ sd ⊗ get_or z j nan
  unfolding etas_of
  eta_is mean sd z = at_place (λ i. mean ⊕ sd ⊗ get_or z i nan) j nan h

  height_is : (log z : List Float) (top : Float) → get_or (heights_of log z top) j nan ≡ height_of (get_or log j nan) (get_or z j nan) top
  unfolding heights_of
  height_is log z top = at_place (λ i. height_of (get_or log i nan) (get_or z i nan) top) j nan h

  exp_is : (x : List Float) → get_or (exps_of x) j nan ≡ exp_of (get_or x j nan)
  unfolding exps_of
  exp_is x = at_place (nth exp_of x) j nan h

  module _ (x : List Float) (y t : ℕ) where
    log_is : get_or (conditionals_of x y t).log j nan ≡ (conditional_of (get_or x j nan) y t).log
    unfolding conditionals_of
    log_is = at_place (λ i. (conditional_of (get_or x i nan) y t).log) j nan h

    moments_are : moments_at (conditionals_of x y t) j ≡ (conditional_of (get_or x j nan) y t).moments
    unfolding conditionals_of
    moments_are =
        let a = at_place (λ i. moment_at 1 y t (get_or x i nan)) j nan h in
        let b = at_place (λ i. moment_at 3 y t (get_or x i nan)) j nan h in
        let c = at_place (λ i. moment_at 4 y t (get_or x i nan)) j nan h in
        let d = at_place (λ i. moment_at 5 y t (get_or x i nan)) j nan h in
        rw (a, b, c, d) (six_are (get_or x j nan) y t)

-- ---- the additions
added_same : (s : List Float) (v w : Float) (l m : List Float) → v ≡ w → l ≡ m → added_of s v l ≡ added_of s w m
added_same s v w l m e f = rw (e, f)

module _ (y t : ℕ) (mean sd top center width : Float) (rule : List Pair) where
  abbrev z : List Float
  z = places_of center width rule

  abbrev m : Moments
  m = conditionals_of (etas_of mean sd z) y t

  abbrev e : List Float
  e = exps_of (heights_of m.log z top)

  module _ (j : ℕ) (h : j < 16) where
    eta_at : get_or (etas_of mean sd z) j nan ≡ mean ⊕ sd ⊗ node_of center width (get_or rule j no_pair)
    eta_at = rw (eta_is j h, place_is j h)

    weight_at : half· ⊗ width ⊗ (get_or rule j no_pair).w ⊗ get_or e j nan ≡ weight_of width (get_or rule j no_pair) (integrand_of y t mean sd (node_of center width (get_or rule j no_pair))).log top
    unfolding integrand_of
    weight_at = rw (exp_is j h, height_is j h, log_is j h, eta_at, place_is j h)

    moments_at_lem : moments_at m j ≡ (integrand_of y t mean sd (node_of center width (get_or rule j no_pair))).moments
    unfolding integrand_of
    moments_at_lem = rw (← eta_at) (moments_are j h (etas_of mean sd z) y t)

  in_order : (n i : ℕ) (s : List Float) → i + n ≤ 16 → fold_from (with_node_of width rule e m) n i s ≡ nodes_from (integrand_of y t mean sd) rule top center width n i s
  unfolding fold_from nodes_from
  in_order zero i s h = refl
  in_order (suc n) i s h =
      let l : i < 16 = omega arith in
      ap (λ s. fold_from (with_node_of width rule e m) n (i + 1) s) (added_same s _ _ (moments_at m i) _ (weight_at i l) (moments_at_lem i l)) ∙ in_order n (i + 1) _ (omega arith)

-- ---- at what the code calls, each by its equation
pub batch : (p : Posterior) (rule : List Pair) (top center width : Float) (s z x h e r : List Float) (m : Moments) → z ≡ places_of center width rule → x ≡ etas_of p.mean p.sd z → m ≡ conditionals_of x p.successes p.total → h ≡ heights_of m.log z top → e ≡ exps_of h → r ≡ summed_of width rule e m s → r ≡ sixteen_of p rule top center width s
unfolding sixteen_of summed_of
batch p rule top center width s z x h e r m ez ex em eh ee er = er ∙ (rw (ee, eh, em, ex, ez) (in_order p.successes p.total p.mean p.sd top center width rule 16 0 s (omega arith)))
