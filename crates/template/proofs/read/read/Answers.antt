-- The answers for `read`.
use Rattle.std.proofs.Common.{◌≡◌, ◌+◌, true, cond, set, get_or, arith, rules}
use Rattle.template.specs.Template.{is_hole_of}
use Rattle.template.specs.Field.{found, departs}
use Rattle.template.specs.Read.{read_field, line_after_of}
use Rattle.template.proofs.ReadLaws.{left_departs, left_ends, left_room, left_turns, hole_count, hole_bits, no_hole, next_line, same_line}
use Rattle.template.proofs.read.read.Goals.{then-c-eq35, then-c-eq35-via-then-c-eq35, then-c-eq35-via-else-c-eq35+then-c-eq37, else-c-eq35+else-c-eq37, then-c-eq10, else-c-eq10}
use Rattle.template.proofs.read.read.Goals as goal

pub returns-in_default-clause-departs : goal.returns-in_default-clause-departs
returns-in_default-clause-departs c =
    let none : departs ≡ read_field (get_or c.args.template.now c.loop-c.c-index 0) c.loop-c.rest.now = search rules in
    let d = left_departs c.loop-c.invariant (omega arith) none in
    search (rules, d)

pub bounds-values-n : goal.bounds-values-n
bounds-values-n c =
    let hole : is_hole_of (get_or c.args.template.now c.loop-c.c-index 0) ≡ true = elim c.then-c-eq35.branch [
      | then-c-eq35-via-then-c-eq35 w ↦ hole_count _ w.if-c-eq35.true
      | then-c-eq35-via-else-c-eq35+then-c-eq37 w ↦ hole_bits _ w.if-c-eq35.false w.if-c-eq37.true
    ] in
    left_room c.loop-c.invariant (omega arith) c.requires.places hole

pub loop-c-preserved : goal.loop-c-preserved
loop-c-preserved c =
    let l = c.loop-c in
    let byte = get_or c.args.template.now l.c-index 0 in
    let hole = is_hole_of byte in
    let kept : (c.if-c-eq35.n ≡ l.n + cond hole 1 0) × (c.if-c-eq35.values ≡ cond hole (set l.values l.n c.in-Some.value) l.values) = elim c.if-c-eq35.branch [
      | then-c-eq35 w ↦
          let h : hole ≡ true = elim w.then-c-eq35.branch [
            | then-c-eq35-via-then-c-eq35 w' ↦ hole_count _ w'.if-c-eq35.true
            | then-c-eq35-via-else-c-eq35+then-c-eq37 w' ↦ hole_bits _ w'.if-c-eq35.false w'.if-c-eq37.true
          ] in
          rw h (w.n-is, w.values-is)
      | else-c-eq35+else-c-eq37 w ↦ rw (no_hole _ w.if-c-eq35.false w.if-c-eq37.false) (omega (arith, w.n-is), w.values-is)
    ] in
    let line : c.if-c-eq10.line ≡ line_after_of byte l.line = elim c.if-c-eq10.branch [
      | then-c-eq10 w ↦ rw (next_line byte l.line w.if-c-eq10.true) w.line-is
      | else-c-eq10 w ↦ rw (same_line byte l.line w.if-c-eq10.false) w.line-is
    ] in
    let some : found c.in-Some.value c.in-Some.after.now ≡ read_field byte l.rest.now = search rules in
    let left : c.if-c-eq10.rest.now ≡ c.in-Some.after.now = elim c.if-c-eq10.branch [ then-c-eq10 w ↦ cc (w.rest-is) | else-c-eq10 w ↦ cc (w.rest-is) ] in
    rw left (left_turns l.invariant _ _ _ _ _ (omega arith) c.requires.places some kept.0 kept.1 line)

pub returns-clause-values : goal.returns-clause-values
returns-clause-values c =
    let e = left_ends c.loop-c.invariant (omega arith) c.requires.places in
    rw (← e.0) e.2

pub returns-clause-places : goal.returns-clause-places
returns-clause-places c =
    let e = left_ends c.loop-c.invariant (omega arith) c.requires.places in
    rw (← e.0) e.3

pub returns-clause-line : goal.returns-clause-line
returns-clause-line c =
    (left_ends c.loop-c.invariant (omega arith) c.requires.places).1
