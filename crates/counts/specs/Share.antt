-- A row's share of the Gamma-Poisson likelihood, as the source has it.
use Rattle.std.specs.Prelude.{cond, ℕ, zero, suc, ◌+◌, Float}
use Rattle.std.specs.Float.Ieee.{neg, lt}
use Rattle.num.specs.Fold.{fold_from}
use Rattle.num.specs.F64.{◌⊕◌, ◌⊖◌, ◌⊗◌, ◌⊘◌, whole, zero·, one·}
use Rattle.elementary.specs.Log.{log_of}
use Rattle.elementary.specs.Exp.{exp_of}
use Rattle.elementary.specs.Log1p.{log1p_of}
use Rattle.factorial.specs.Factorial.{log_factorial_of}
use Rattle.work.specs.Work.{Work, ret, ask}
use Rattle.planar.specs.declared.Planar.{Planar}
use Rattle.counts.specs.declared.share.Rising.{Rising}
use Rattle.counts.specs.declared.share.Odds.{Odds}

-- ---- the inner loop, over k below the count

abbrev pub no_rising : Rising
no_rising = record { log = zero·; inverse = zero·; squared = zero· }

abbrev pub term_at : Float → ℕ → Float
term_at shape k = shape ⊕ whole k

-- a pass, with its term and the term's logarithm
abbrev pub raised : Rising → Float → Float → Rising
raised s term l = let r = one· ⊘ term in record { log = s.log ⊕ l; inverse = s.inverse ⊕ r; squared = s.squared ⊕ r ⊗ r }

-- n passes from the k-th on. Each asks for the logarithm of its term, so that passes are counted as evaluations are.
unfoldable pub rise : Float → ℕ → ℕ → Rising → Work Float Float Rising
rise shape zero k s = ret s
rise shape (suc n) k s = ask (term_at shape k) (λ l. rise shape n (k + 1) (raised s (term_at shape k) l))

-- ---- a row

unfoldable pub softplus_of : Float → Float
softplus_of x = cond (lt zero· x) (x ⊕ log1p_of (exp_of (neg x))) (log1p_of (exp_of x))

unfoldable pub odds_at_of : Float → Odds
odds_at_of difference =
    let log-q = softplus_of difference in
    let log-p = softplus_of (neg difference) in
    record { logq = log-q; logp = log-p; p = exp_of (neg log-q); q = exp_of (neg log-p) }

abbrev pub added_of : Planar → Float → Float → Float → Rising → Odds → Planar
added_of v shape count factorial s o =
    let a = shape ⊗ (o.logq ⊖ s.inverse) in
    record {
      nll = v.nll ⊕ (factorial ⊖ s.log ⊕ shape ⊗ o.logq ⊕ count ⊗ o.logp);
      x = v.x ⊕ a;
      y = v.y ⊕ (count ⊗ o.p ⊖ shape ⊗ o.q);
      xx = v.xx ⊕ (a ⊕ shape ⊗ shape ⊗ s.squared);
      xy = v.xy ⊖ shape ⊗ o.q;
      yy = v.yy ⊕ (shape ⊕ count) ⊗ o.p ⊗ o.q;
    }

-- the row's terms added, its inner loop behind it
unfoldable pub row_of : Planar → Float → Float → ℕ → Float → Rising → Planar
row_of v shape log-rate count exposure s = added_of v shape (whole count) (log_factorial_of count) s (odds_at_of (log_of exposure ⊖ log-rate))

-- ---- as code has it

abbrev pub odds_with_of : Float → Float → Odds
odds_with_of log-q log-p = record { logq = log-q; logp = log-p; p = exp_of (neg log-q); q = exp_of (neg log-p) }

abbrev pub passed_of : Rising → Float → Rising
passed_of s term = raised s term (log_of term)

abbrev pub pass_of : Float → ℕ → Rising → Rising
pass_of shape k s = passed_of s (term_at shape k)

abbrev pub rising_from : Float → ℕ → ℕ → Rising → Rising
rising_from shape n k s = fold_from (pass_of shape) n k s

unfoldable pub risen_of : Float → ℕ → Rising
risen_of shape count = rising_from shape count 0 no_rising

unfoldable pub with_row_of : Planar → Float → Float → ℕ → Float → Planar
with_row_of v shape log-rate count exposure = row_of v shape log-rate count exposure (risen_of shape count)
