-- Where the limit covers a panel's nodes, each is answered: the sums are those of the nodes in order, and the count is raised by all.
use Rattle.std.specs.Prelude.{◌≡◌, true, List, ℕ, zero, suc, ◌+◌, ◌-◌, ◌≤◌, ltb, leb, Ok, Float}
use Rattle.std.proofs.Common.{arith, add-zero, lt-ltb, leb-true, w64, Fits}
use mir.Facts.{Fits-le}
use Rattle.work.specs.declared.Meter.{Meter}
use Rattle.work.specs.Ended.{done}
use Rattle.work.specs.Work.{◌>>=◌, metered}
use Rattle.work.specs.Answer.{counted, by, Did}
use Rattle.legendre.specs.declared.Pair.{Pair}
use Rattle.posterior.specs.declared.integrand.Posterior.{Posterior}
use Rattle.posterior.specs.Integrand.{Eval, at, here}
use Rattle.nodes.specs.Nodes.{nodes_from, sixteen_of}
use Rattle.panel.specs.Panel.{nodes}

-- a count raised by no more than what is left does not wrap
pub left_fits : (m : Meter) → leb 16 (m.limit.0 - m.used.0) ≡ true → Fits w64 m.limit.0 → Fits w64 (m.used.0 + 16)
left_fits m h f = Fits-le (omega (arith, leb-true 16 (m.limit.0 - m.used.0) h)) f

covered : (here : Float → Eval) (rule : List Pair) (top center width : Float) (l n i u : ℕ) (s : List Float) → u + n ≤ l → metered at l u (nodes here rule top center width n i s) ≡ record { ended = done (nodes_from (λ z. at (here z)) rule top center width n i s); used = u + n }
unfolding metered nodes nodes_from ◌>>=◌
covered here rule top center width l zero i u s h = rw (add-zero u)
covered here rule top center width l (suc n) i u s h =
    let b : ltb u l ≡ true = lt-ltb u l (omega arith) in
    let e : u + suc n ≡ u + 1 + n = omega arith in
    rw (b, e) (covered here rule top center width l n (i + 1) (u + 1) _ (omega arith))

pub panel_covered : (p : Posterior) (rule : List Pair) (top center width : Float) (s t : List Float) (m : Meter) → leb 16 (m.limit.0 - m.used.0) ≡ true → t ≡ sixteen_of p rule top center width s → Did at (nodes (here p) rule top center width 16 0 s) m (Ok t) (counted m (m.used.0 + 16))
unfolding by sixteen_of
panel_covered p rule top center width s t m h e =
    let l : m.used.0 + 16 ≤ m.limit.0 = omega (arith, leb-true 16 (m.limit.0 - m.used.0) h) in
    rw (covered (here p) rule top center width m.limit.0 16 0 m.used.0 s l, e)
