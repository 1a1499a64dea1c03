use Rattle.std.proofs.Common.{◌≡◌, ap, ◌∙◌}
use Rattle.psg_grammar.specs.Fragments.{Fragment}
use Rattle.psg_lint.specs.Blamed.{element_message}
use Rattle.psg_lint.proofs.MessageLaws.{hole_element, list_element, no_node, operator_element, same_found}
use Rattle.psg_lint.proofs.messages.of_element.Goals as goal

pub unreachable-requires : goal.unreachable-requires
unreachable-requires c = no_node c.args.judged.tree.now c.args.path.now c.at-place.result c.at-place.ensures c.in_default.is c.requires.there

pub returns-in_ok-message-in-Op : goal.returns-in_ok-message-in-Op
returns-in_ok-message-in-Op c = λ e at.
    let def = c.args.judged.definition.now in
    let own : c.in-Some.node.now ≡ e = same_found c.args.judged.tree.now c.args.path.now c.at-place.result c.in-Some.node e c.at-place.ensures c.in-Some.is at in
    c.in_ok-message-in-Op.ensures ∙ operator_element def c.in-Some.node.now c.shape.result.now c.in-Op.op c.in-Op.parts c.shape.ensures c.in-Op.is
    ∙ ap (λ (g : Fragment). element_message def g) own

pub returns-in_ok-message-in-List : goal.returns-in_ok-message-in-List
returns-in_ok-message-in-List c = λ e at.
    let def = c.args.judged.definition.now in
    let own : c.in-Some.node.now ≡ e = same_found c.args.judged.tree.now c.args.path.now c.at-place.result c.in-Some.node e c.at-place.ensures c.in-Some.is at in
    c.in_ok-message-in-List.ensures.ok ∙ list_element def c.in-Some.node.now c.shape.result.now c.in-List.list c.in-List.elements c.in-List.unfinished c.shape.ensures c.in-List.is
    ∙ ap (λ (g : Fragment). element_message def g) own

pub returns-in_ok-message-in-Hole : goal.returns-in_ok-message-in-Hole
returns-in_ok-message-in-Hole c = λ e at.
    let def = c.args.judged.definition.now in
    let own : c.in-Some.node.now ≡ e = same_found c.args.judged.tree.now c.args.path.now c.at-place.result c.in-Some.node e c.at-place.ensures c.in-Some.is at in
    c.in_ok-message-in-Hole.ensures.ok ∙ hole_element def c.in-Some.node.now c.shape.result.now c.in-Hole.phylum c.shape.ensures c.in-Hole.is
    ∙ ap (λ (g : Fragment). element_message def g) own
