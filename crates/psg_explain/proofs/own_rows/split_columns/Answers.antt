use Rattle.std.proofs.Common.{drop, ap, arith}
use Rattle.psg_eval.specs.OwnRows.{name_terms, slot_terms}
use Rattle.psg_explain.proofs.CasingLaws.{all_dropped}
use Rattle.psg_explain.proofs.GivenLaws.{all_there}
use Rattle.psg_explain.proofs.SplitLaws.{names_next, slots_next}
use Rattle.psg_explain.proofs.own_rows.split_columns.Goals as goal

pub loop-item-preserved : goal.loop-item-preserved
loop-item-preserved c =
    let is = c.args.items.now in
    let ts = c.args.terms.now in (
      slots_next is c.loop-item.item-index c.item-item.result c.loop-item-test.true c.item-item.is ts c.loop-item.next c.in_ok-n.n c.loop-item.columns.slots.items c.add_column.new.columns.slots.items
          (slot_terms is ts) c.in_ok-n.ensures.slots c.in_ok-n.ensures.left c.loop-item.invariant.0,
      names_next is c.loop-item.item-index c.item-item.result c.loop-item-test.true c.item-item.is ts c.loop-item.next c.in_ok-n.n c.loop-item.columns.names.items c.add_column.new.columns.names.items
          (name_terms is ts) c.in_ok-n.ensures.names c.in_ok-n.ensures.left c.loop-item.invariant.1,
    )

pub returns-clause-slots : goal.returns-clause-slots
returns-clause-slots c =
    all_there c.loop-item.columns.slots.items (slot_terms (drop c.loop-item.item-index c.args.items.now) (drop c.loop-item.next c.args.terms.now)) (slot_terms c.args.items.now c.args.terms.now) c.loop-item.invariant.0
    (ap (λ l. slot_terms l (drop c.loop-item.next c.args.terms.now)) (all_dropped c.args.items.now c.loop-item.item-index (omega arith)))

pub returns-clause-names : goal.returns-clause-names
returns-clause-names c =
    all_there c.loop-item.columns.names.items (name_terms (drop c.loop-item.item-index c.args.items.now) (drop c.loop-item.next c.args.terms.now)) (name_terms c.args.items.now c.args.terms.now) c.loop-item.invariant.1
    (ap (λ l. name_terms l (drop c.loop-item.next c.args.terms.now)) (all_dropped c.args.items.now c.loop-item.item-index (omega arith)))
