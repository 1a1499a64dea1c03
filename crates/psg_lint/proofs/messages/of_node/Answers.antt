use Rattle.std.proofs.Common.{sym, subst, take, ◌∙◌}
use Rattle.psg_places.specs.declared.place.Place.TheVariants.{Node}
use Rattle.psg_lint.specs.Blamed.{IsMessage, of_node}
use Rattle.psg_lint.specs.Judged.{fresh_of}
use Rattle.psg_lint.proofs.MessageLaws.{node_before, node_is, same_sorted, told_both}
use Rattle.psg_lint.proofs.messages.of_node.Goals as goal

pub wanted_at-requires-clause-there : goal.wanted_at-requires-clause-there
wanted_at-requires-clause-there g c =
    node_before c.args.wrong c.requires.wrong c.args.number c.requires.number c.requires.blamed c.args.path.now c.in_ok-own.own c.requires.place c.in_ok-own.ensures

pub found_at-requires-clause-there : goal.found_at-requires-clause-there
found_at-requires-clause-there g c = node_is c.args.wrong c.requires.wrong c.args.number c.requires.number c.requires.blamed c.args.path.now c.requires.place

pub node_message-requires-clause-wanted : goal.node_message-requires-clause-wanted
node_message-requires-clause-wanted g c =
    same_sorted c.args.wrong.judged.definition.now.signature c.in_ok-wanted.wanted.items c.as_slice.result.now c.as_slice.ensures.value c.in_ok-wanted.ensures.sorted

pub node_message-requires-clause-found : goal.node_message-requires-clause-found
node_message-requires-clause-found g c =
    same_sorted c.args.wrong.judged.definition.now.signature c.in_ok-found.found.items c.as_slice-2.result.now c.as_slice-2.ensures.value c.in_ok-found.ensures.sorted

pub returns : goal.returns
returns g c = λ r spots.
    let w = c.args.wrong in
    let def = w.judged.definition.now in
    let (node, at) = node_is w c.requires.wrong c.args.number c.requires.number c.requires.blamed c.args.path.now c.requires.place in
    subst (IsMessage def w.judged.text.now w.judged.tree.now r (fresh_of w) (take c.args.number w.kept.now) c.args.number (Node c.args.path.now))
    (sym (c.in_ok-message.ensures
    ∙ told_both def.signature c.as_slice.result.now c.in_ok-wanted.wanted.items c.as_slice-2.result.now c.in_ok-found.found.items c.as_slice.ensures.value c.as_slice-2.ensures.value))
    (of_node c.args.path.now c.in_ok-own.own node c.in_ok-wanted.wanted.items c.in_ok-found.found.items at c.in_ok-own.ensures c.in_ok-wanted.ensures.values (c.in_ok-found.ensures.values node at))
