use Rattle.std.proofs.Common.{rules, ◌≡◌, ◌+◌, ◌∙◌, length, sym, subst, arith}
use Rattle.std.specs.Prelude.{Err}
use Rattle.psg_grammar.specs.Steps.{steps_at}
use Rattle.psg_eval.specs.Climbing.{IsReached}
use Rattle.psg_eval.proofs.CellClimb.{all_front, first_fault, next_fault, next_takes, rise_all, rise_first, rise_next}
use Rattle.psg_eval.proofs.climbing.raised_in_list.Goals as goal

pub returns-in_err-first-clause-answer : goal.returns-in_err-first-clause-answer
returns-in_err-first-clause-answer g c = λ u t path element of.
    let def = c.args.definition.now in
    let before = c.args.before.now in
    let fault = c.in_err-first.field-0.0 in
    let d : c.from_residual.result ≡ Err fault = search rules in
    subst (IsReached def (steps_at def path (length before) u) u) (sym d)
    (first_fault def c.args.list before c.args.rest.now c.args.own.now fault c.in_err-first.ensures.answer u t path element of)

pub loop-last-init : goal.loop-last-init
loop-last-init g c =
    record {
      rises = rise_first c.args.definition.now c.args.list c.args.before.now c.args.rest.now c.args.own.now c.in_ok-first.first c.in_ok-first.ensures.answer;
      usual = c.in_ok-first.ensures.summary;
      kind = c.in_ok-first.ensures.kind;
      seen = omega (arith, c.in_ok-first.ensures.seen, c.requires.silent);
      takes = c.requires.before;
      counted = omega (arith, c.cell_from.ensures.ticks);
    }

pub cell_from-requires-in-Some-clause-takes : goal.cell_from-requires-in-Some-clause-takes
cell_from-requires-in-Some-clause-takes g c =
    let def = c.args.definition.now in
    next_takes def c.args.list c.args.own.now c.args.rest.now c.loop-last.whole c.in-Some.last.now c.requires.takes
    (all_front def c.args.list c.args.own.now.kind c.loop-last.left.now c.in-Some.front.now c.in-Some.last.now c.in-Some.ensures.cases.0 c.loop-last.invariant.takes).1
    c.loop-last.invariant.kind c.loop-last.invariant.usual

pub returns-in_err-next-clause-answer : goal.returns-in_err-next-clause-answer
returns-in_err-next-clause-answer g c = λ u t path element of.
    let def = c.args.definition.now in
    let before = c.args.before.now in
    let fault = c.in_err-next.field-0.0 in
    let d : c.from_residual-in_err-next.result ≡ Err fault = search rules in
    subst (IsReached def (steps_at def path (length before) u) u) (sym d)
    (next_fault def c.args.list before c.args.rest.now c.args.own.now c.loop-last.whole c.in-Some.last.now fault c.loop-last.left.now c.in-Some.front.now c.in-Some.ensures.cases.0
    c.loop-last.invariant.rises c.in_err-next.ensures.answer u t path element of)

pub loop-last-preserved : goal.loop-last-preserved
loop-last-preserved g c =
    let def = c.args.definition.now in
    let inv = c.loop-last.invariant in
    let each = all_front def c.args.list c.args.own.now.kind c.loop-last.left.now c.in-Some.front.now c.in-Some.last.now c.in-Some.ensures.cases.0 inv.takes in
    let fewer = c.in-Some.ensures.cases.1 in
    record {
      rises =
          rise_next def c.args.list c.args.before.now c.args.rest.now c.args.own.now c.loop-last.whole c.in_ok-next.next c.in-Some.last.now c.loop-last.left.now c.in-Some.front.now
          c.in-Some.ensures.cases.0 inv.rises c.in_ok-next.ensures.answer;
      usual = c.in_ok-next.ensures.summary;
      kind = c.in_ok-next.ensures.kind;
      seen = omega (arith, c.in_ok-next.ensures.seen, each.1.silent, inv.seen);
      takes = each.0;
      counted = omega (arith, fewer, c.cell_from-in-Some.ensures.ticks, inv.counted);
    }

pub returns-clause-answer : goal.returns-clause-answer
returns-clause-answer g c =
    let none : length c.loop-last.left.now ≡ 0 = search rules in
    rise_all c.args.definition.now c.args.list c.args.before.now c.args.rest.now c.args.own.now c.loop-last.whole c.loop-last.left.now none c.loop-last.invariant.rises

pub returns-clause-ticks : goal.returns-clause-ticks
returns-clause-ticks g c =
    let none : length c.loop-last.left.now ≡ 0 = search rules in
    omega (arith, none, c.loop-last.invariant.counted)

pub returns-clause-most : goal.returns-clause-most
returns-clause-most g c = omega (arith, c.loop-last.invariant.counted)

pub returns-in_err-next-clause-most : goal.returns-in_err-next-clause-most
returns-in_err-next-clause-most g c =
    let fewer = c.in-Some.ensures.cases.1 in
    omega (arith, fewer, c.cell_from-in-Some.ensures.ticks, c.loop-last.invariant.counted)
