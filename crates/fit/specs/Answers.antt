-- What is known of a fit that is answered, and of one that is refused: said of what the code returns.
use Rattle.std.proofs.Math.Path.{◌≡◌, refl}
use Rattle.std.specs.Prelude.{true, false, ◌&&◌, List, ℕ, get_or, Ok, Err}
use Rattle.work.specs.Impossible.{impossible}
use Rattle.work.specs.declared.Refusal.TheVariants.{InvalidInput}
use Rattle.work.specs.Ended.{Ended, done, stopped, short}
use Rattle.work.specs.Work.{Metered, metered}
use Rattle.work.specs.Given.{Given, of_metered}
use Rattle.work.specs.Metered.{split}
use Rattle.legendre.specs.Legendre.{legendre_of}
use Rattle.posterior.specs.declared.integrand.Point.{Point}
use Rattle.posterior.specs.Integrand.{Eval, at}
use Rattle.request.specs.declared.Request.{Request}
use Rattle.request.specs.Request.{admitted_of, valid_limit}
use Rattle.request.specs.Checks.{request_checks}
use Rattle.request.specs.Checks as checks
use Rattle.fit.specs.declared.report.Fit.{Fit}
use Rattle.fit.specs.declared.report.Refused.{Refused}
use Rattle.fit.specs.Fit.{Report, fit, to_fit, refused_of, fit_at, limited_fit, fit_of}

-- a fit that is answered with a report that has P
pub record Answers (P : Report → Type 0) (f : Fit) : Type 0 where
  pub count : ℕ
  pub report : Report
  pub has : P report
  pub is : f ≡ to_fit count report

by_end : {P : Report → Type 0} (e : Ended Report) (n : ℕ) (f : Fit) → fit_at e n ≡ Ok f → ((p : Report) → e ≡ done p → P p) → Answers P f
by_end (done p) n f h g = record { count = n; report = p; has = g p refl; is = cc }
by_end (stopped r) n f h g = impossible (cc)
by_end short n f h g = impossible (cc)

module _ (r : Request) (ls : List ℕ) where
  abbrev pub counted : Metered Report
  counted = metered at r.quadrature.0 0 (fit legendre_of r ls)

  -- what every answer of the definition has, an answered fit has
  pub answered : {G : Eval → Point → Type 0} {P : Report → Type 0} → ((e : Eval) → G e (at e)) → Given G P (fit legendre_of r ls) → (f : Fit) → fit_of r ls ≡ Ok f → Answers P f
  unfolding fit_of limited_fit
  answered known g f h =
      split (valid_limit r.quadrature.0) (λ t. by_end counted.ended counted.used f (rw t at h) (λ p e. of_metered at known r.quadrature.0 0 p g e))
      (λ t. let e = rw t at h in impossible (cc))

  -- A refused fit is its refusal and its count.
  pub refused_is : (e : Refused) → fit_of r ls ≡ Err e → fit_of r ls ≡ Err (refused_of e.refusal e.quadrature.0)
  refused_is e h = h

  -- A request that fails any check is InvalidInput, with count 0.
  pub unfit_refused : (valid_limit r.quadrature.0 && admitted_of r ls) ≡ false → fit_of r ls ≡ Err (refused_of InvalidInput 0)
  unfolding fit_of limited_fit fit metered
  unfit_refused h =
      split (valid_limit r.quadrature.0)
      (λ t. let e = rw t at h in rw (t, e))
      (λ t. rw t)

  -- whichever check it is
  pub any_fails : (i : ℕ) → get_or (request_checks r ls) i true ≡ false → fit_of r ls ≡ Err (refused_of InvalidInput 0)
  any_fails i h = unfit_refused (checks.any_fails r ls i h)
