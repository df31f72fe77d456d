-- The answers for `put_litters`.
use Rattle.std.proofs.Common.{◌≡◌, ◌<◌, [], arith}
use Rattle.litters.specs.Litters.{count_of}
use Rattle.archive_write.proofs.Laws.{litters_begin, litters_turn}
use Rattle.archive_write.proofs.put_litters.Goals as goal

pub loop-i-init : goal.loop-i-init
loop-i-init c = litters_begin _ _

pub loop-i-preserved : goal.loop-i-preserved
loop-i-preserved c =
    let l = c.loop-i in
    let ls = c.args.litters.now in
    let here : l.i < count_of ls = omega (arith, c.rows-row-items.ensures.count) in
    let row = c.rows-row-items.ensures.each l.i [] here in
    litters_turn ls _ _ _ l.i l.invariant (rw (c.from.ensures, row) at c.put_litter.ensures)

pub returns : goal.returns
returns c =
    let e : c.loop-i.i ≡ count_of c.args.litters.now = omega (arith, c.rows-row-items.ensures.count) in
    rw e at c.loop-i.invariant
