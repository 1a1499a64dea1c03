use Rattle.std.proofs.Common.{◌+◌, drop, map, sym, ap, ◌∙◌}
use Rattle.std.proofs.lemmas.List.{drop_all}
use Rattle.psg_terms.proofs.Lists.{drop_item}
use Rattle.psg_grammar.specs.Fragments.{operator}
use Rattle.psg_grammar.specs.Lookups.{part_items, items_of}
use Rattle.psg_grammar.specs.Insertion.{filled}
use Rattle.psg_tree.specs.Shapes.{with_parts}
use Rattle.psg_session.specs.Views.{plain_leaf}
use Rattle.psg_session.proofs.Filling.{slot_there}
use Rattle.psg_session.proofs.Shapes.{read_at}
use Rattle.psg_session.proofs.insertion.fresh_operator.Goals as goal

pub push_part-requires : goal.push_part-requires
push_part-requires c =
    slot_there c.args.definition.now c.requires.sound c.args.op c.index-as_slice-op.result
    c.as_slice-item-items.result.now
    (read_at c.as_slice.result.now c.args.definition.now.operators c.args.op c.index-as_slice-op.result
    c.as_slice.ensures c.requires.found c.index-as_slice-op.is)
    c.as_slice-item-items.ensures c.loop-item.item-index c.item-item.result c.loop-item-test.true c.item-item.is

pub loop-item-preserved : goal.loop-item-preserved
loop-item-preserved c =
    c.in_ok-at.ensures (operator c.args.op) (drop (c.loop-item.item-index + 1) c.as_slice-item-items.result.now)
    ∙ ap (λ xs. filled c.args.definition.now (with_parts (operator c.args.op) c.loop-item.parts.items) (part_items xs)
    (map plain_leaf (drop c.loop-item.at c.args.leaves.now)))
    (sym (drop_item c.as_slice-item-items.result.now c.loop-item.item-index c.item-item.result c.loop-item-test.true
    c.item-item.is))
    ∙ c.loop-item.invariant

pub returns : goal.returns
returns c =
    let def = c.args.definition.now in
    let found = read_at c.as_slice.result.now def.operators c.args.op c.index-as_slice-op.result c.as_slice.ensures
    c.requires.found c.index-as_slice-op.is in
    c.in_ok-tree.ensures
    ∙ ap (with_parts (operator c.args.op)) c.of-parts.ensures
    ∙ sym (ap
    (λ rest. filled def (with_parts (operator c.args.op) c.loop-item.parts.items) (part_items rest)
    (map plain_leaf (drop c.loop-item.at c.args.leaves.now)))
    (drop_all c.loop-item.item-index c.as_slice-item-items.result.now c.loop-item-test.false))
    ∙ c.loop-item.invariant
    ∙ ap (λ items. filled def (operator c.args.op) items (map plain_leaf c.args.leaves.now))
    (ap part_items c.as_slice-item-items.ensures ∙ sym (ap items_of found))
