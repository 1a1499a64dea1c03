use Rattle.std.proofs.Common.{◌⊎◌, get_or, sym, subst, arith}
use Rattle.psg_terms.specs.Relations.{IsIn}
use Rattle.psg_covering.specs.Fronts.{AreRowsOf, IsNone}
use Rattle.psg_covering.proofs.Adding.{choices_begin, choices_end, choices_more}
use Rattle.psg_covering.proofs.choosing.add_choices.Goals as goal

pub loop-i-init : goal.loop-i-init
loop-i-init c ks fits = choices_begin c.args.definition.now c.args.kind c.args.slot ks c.args.row.now c.args.next.now.rows.items

pub row_at-hole-requires-clause-rows : goal.row_at-hole-requires-clause-rows
row_at-hole-requires-clause-rows c = subst (AreRowsOf c.args.definition.now c.args.slot) (sym c.as_slice-numbers.ensures.value) c.in_ok-numbers.ensures.rows

pub add_choice-requires-clause-hole : goal.add_choice-requires-clause-hole
add_choice-requires-clause-hole c = (get_or c.as_slice-numbers.result.now c.loop-i.i 0, c.row_at-hole.ensures)

pub loop-i-preserved : goal.loop-i-preserved
loop-i-preserved c ks fits =
    choices_more c.args.definition.now c.args.kind c.args.slot ks c.args.row.now c.args.next.now.rows.items c.loop-i.next.rows.items c.add_choice.new.next.rows.items c.as_slice-numbers.result.now c.loop-i.i c.row_at-hole.result.now
    c.loop-i-test.true c.row_at-hole.ensures (c.loop-i.invariant ks fits) (c.in_ok-add_choice.ensures ks fits)

pub returns : goal.returns
returns c ks fits =
    choices_end c.args.definition.now c.args.kind c.args.slot ks c.args.row.now c.args.next.now.rows.items c.loop-i.next.rows.items c.as_slice-numbers.result.now c.in_ok-numbers.numbers.items c.loop-i.i
    c.as_slice-numbers.ensures.value (omega (arith, c.loop-i-test.false))
    (λ r h of. subst (λ x. IsIn r c.in_ok-numbers.numbers.items ⊎ IsNone c.args.definition.now x h) c.terms.ensures (c.in_ok-numbers.ensures.among r h of)) (c.loop-i.invariant ks fits)
