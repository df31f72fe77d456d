-- The laws that the proof of `fit_watched` goes by: s is what the code answers.
use Rattle.std.proofs.Common.{◌≡◌, sym, ◌∙◌, Bool, true, false, List, ℕ}
use Rattle.request.specs.declared.Request.{Request}
use Rattle.fit.specs.declared.report.Seen.{Seen}
use Rattle.request.specs.Request.{admitted_of, valid_limit}
use Rattle.fit.specs.Fit.{fit_admitted_of, unfit_of, why_for, stop_for, watched_of, fit_of}
use Rattle.fit.specs.Driven.{admitted_is, not_admitted_is}

module _ (r : Request) (ls : List ℕ) (n : ℕ) where
  module _ (l : Bool) (e : l ≡ valid_limit r.quadrature.0) where
    pub fit_limit : (s : Seen) → l ≡ false → s ≡ unfit_of → s ≡ watched_of r ls n
    unfolding watched_of fit_of why_for stop_for
    fit_limit s t u = rw (← e, t) u

    module _ (t : l ≡ true) (a : Bool) (k : a ≡ admitted_of r ls) where
      pub fit_refused : (s : Seen) → a ≡ false → s ≡ unfit_of → s ≡ watched_of r ls n
      unfolding watched_of fit_of why_for stop_for
      fit_refused s h u = rw (← e, t, not_admitted_is r ls (sym k ∙ h), ← k, h) u

      pub fit_goes : (s : Seen) → a ≡ true → s ≡ fit_admitted_of r ls n → s ≡ watched_of r ls n
      unfolding watched_of fit_of why_for stop_for fit_admitted_of
      fit_goes s h u = rw (← e, t, admitted_is r ls n (sym k ∙ h), ← k, h) u
