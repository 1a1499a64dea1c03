use Rattle.std.proofs.Common.{Some, sym, ◌∙◌}
use Rattle.psg_layout.proofs.WordLaws.{left-all, left-item, left-part-ink, left-part-rest, left-part-count, left-end-ink, left-end-rest, left-end-count}
use Rattle.psg_layout.proofs.writing.write_words.Goals as goal

pub loop-item-init : goal.loop-item-init
loop-item-init c = left-all c.args.rules.now c.args.mode.spaces (Some c.args.mode.op) c.args.number c.args.items.now c.args.sheet.now

pub loop-item-preserved : goal.loop-item-preserved
loop-item-preserved c =
    left-item c.args.rules.now c.args.mode.spaces (Some c.args.mode.op) c.args.number c.args.items.now c.loop-item.rest.now c.in-Some.item.now c.in-Some.behind.now
    c.loop-item.next c.in_ok-next.next c.args.sheet.now c.loop-item.sheet c.write_item.new.sheet
    c.loop-item.invariant c.in-Some.ensures.cases.0 (sym c.is_part.ensures ∙ c.if-is_part.false) c.in_ok-next.ensures.ink c.in_ok-next.ensures.number

pub returns-then-is_part-clause-ink : goal.returns-then-is_part-clause-ink
returns-then-is_part-clause-ink c =
    left-part-ink c.args.rules.now c.args.mode.spaces (Some c.args.mode.op) c.args.number c.args.items.now c.loop-item.rest.now c.in-Some.item.now c.in-Some.behind.now
    c.loop-item.next c.args.sheet.now c.loop-item.sheet c.loop-item.invariant c.in-Some.ensures.cases.0 (sym c.is_part.ensures ∙ c.if-is_part.true)

pub returns-then-is_part-clause-rest : goal.returns-then-is_part-clause-rest
returns-then-is_part-clause-rest c =
    left-part-rest c.args.rules.now c.args.mode.spaces (Some c.args.mode.op) c.args.number c.args.items.now c.loop-item.rest.now c.in-Some.item.now c.in-Some.behind.now
    c.loop-item.next c.args.sheet.now c.loop-item.sheet c.loop-item.invariant c.in-Some.ensures.cases.0 (sym c.is_part.ensures ∙ c.if-is_part.true)

pub returns-then-is_part-clause-number : goal.returns-then-is_part-clause-number
returns-then-is_part-clause-number c =
    left-part-count c.args.rules.now c.args.mode.spaces (Some c.args.mode.op) c.args.number c.args.items.now c.loop-item.rest.now c.in-Some.item.now c.in-Some.behind.now
    c.loop-item.next c.args.sheet.now c.loop-item.sheet c.loop-item.invariant c.in-Some.ensures.cases.0 (sym c.is_part.ensures ∙ c.if-is_part.true)

pub returns-clause-ink : goal.returns-clause-ink
returns-clause-ink c =
    left-end-ink c.args.rules.now c.args.mode.spaces (Some c.args.mode.op) c.args.number c.args.items.now c.loop-item.rest.now c.loop-item.next c.args.sheet.now c.loop-item.sheet
    c.loop-item.invariant c.in_default.ensures.cases

pub returns-clause-rest : goal.returns-clause-rest
returns-clause-rest c =
    left-end-rest c.args.rules.now c.args.mode.spaces (Some c.args.mode.op) c.args.number c.args.items.now c.loop-item.rest.now c.loop-item.next c.args.sheet.now c.loop-item.sheet
    c.loop-item.invariant c.in_default.ensures.cases

pub returns-clause-number : goal.returns-clause-number
returns-clause-number c =
    left-end-count c.args.rules.now c.args.mode.spaces (Some c.args.mode.op) c.args.number c.args.items.now c.loop-item.rest.now c.loop-item.next c.args.sheet.now c.loop-item.sheet
    c.loop-item.invariant c.in_default.ensures.cases
