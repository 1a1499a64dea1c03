use Rattle.std.proofs.Common.{◌∙◌, List, ap, map, sym, subst}
use Rattle.psg_grammar.specs.Fragments.{children_of, operator}
use Rattle.psg_tree.specs.Shapes.{with_parts}
use Rattle.psg_eval.specs.declared.summary.SummaryParts.{SummaryParts}
use Rattle.psg_eval.specs.Summaries.{AllSummaries, TakesAt}
use Rattle.psg_explain.specs.Relations.{rel_of}
use Rattle.psg_explain.proofs.RelatingLaws.{children_many, known_rows, node_is, node_takes, not_wide_steps}
use Rattle.psg_explain.proofs.relating.node_rows.Goals as goal

pub summaries-requires : goal.summaries-requires
summaries-requires g c =
    (c.args.language.now.definition, c.requires.note, with_parts (operator c.args.op) c.args.parts.now, c.requires.there, children_many c.args.op c.args.parts.now ∙ sym c.count_trees-count.ensures)

pub op_steps-answer-requires-clause-takes : goal.op_steps-answer-requires-clause-takes
op_steps-answer-requires-clause-takes g c =
    let def = c.args.language.now.definition in
    let (are, usual) = c.in_ok-children.ensures def (with_parts (operator c.args.op) c.args.parts.now) c.requires.note c.requires.there (children_many c.args.op c.args.parts.now ∙ sym c.count_trees-count.ensures) in
    subst (λ (l : List SummaryParts). TakesAt def c.args.op c.as_slice.result.now l) (sym c.as_slice-2.ensures.value)
    (node_takes def c.args.op c.args.parts.now c.requires.formed c.as_slice.result.now (c.as_slice.ensures.value ∙ c.in_ok-names.ensures) c.in_ok-children.children.items are usual)

pub known_steps-requires : goal.known_steps-requires
known_steps-requires g c =
    let def = c.args.language.now.definition in
    let node = with_parts (operator c.args.op) c.args.parts.now in
    let (are, usual) = c.in_ok-children.ensures def node c.requires.note c.requires.there (children_many c.args.op c.args.parts.now ∙ sym c.count_trees-count.ensures) in
    not_wide_steps def node c.requires.light c.op_steps-answer.result
    (c.op_steps-answer.ensures.answer node (node_is def c.args.op c.args.parts.now c.requires.formed c.as_slice.result.now (c.as_slice.ensures.value ∙ c.in_ok-names.ensures))
    (subst (AllSummaries def (children_of node)) (sym c.as_slice-2.ensures.value) are))

pub returns-clause-rows : goal.returns-clause-rows
returns-clause-rows g c =
    let def = c.args.language.now.definition in
    let node = with_parts (operator c.args.op) c.args.parts.now in
    let (are, usual) = c.in_ok-children.ensures def node c.requires.note c.requires.there (children_many c.args.op c.args.parts.now ∙ sym c.count_trees-count.ensures) in
    known_rows def node c.op_steps-answer.result c.in_ok-all.all c.in_ok-rows.rows.items
    (c.op_steps-answer.ensures.answer node (node_is def c.args.op c.args.parts.now c.requires.formed c.as_slice.result.now (c.as_slice.ensures.value ∙ c.in_ok-names.ensures))
    (subst (AllSummaries def (children_of node)) (sym c.as_slice-2.ensures.value) are)) c.in_ok-all.ensures
    (c.in_ok-rows.ensures ∙ ap (map rel_of) c.as_slice-3.ensures.value)
