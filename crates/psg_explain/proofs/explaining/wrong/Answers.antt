use Rattle.std.proofs.Common.{ap, subst, ◌∙◌, arith}
use Rattle.psg_cache.specs.Annotated.{tree_in}
use Rattle.psg_grammar.specs.Paths.{node_at}
use Rattle.psg_explain.specs.Explanations.{IsFirstCulprit}
use Rattle.psg_explain.proofs.ExplainLaws.{work_at}
use Rattle.psg_explain.proofs.LastCases.{copied_none, copied_some, no_node, same_node}
use Rattle.psg_explain.proofs.explaining.wrong.Goals as goal

pub node_explained-requires-clause-culprit : goal.node_explained-requires-clause-culprit
node_explained-requires-clause-culprit g c =
    let (node, culprit) = c.requires.culprit in
    let tree = tree_in c.args.note.now in
    let path = c.args.path.now in
    let got = copied_some c.at.result c.in-Some.node (node_at tree path) (c.at.ensures ∙ ap (λ t. node_at t path) c.tree.ensures) c.in-Some.is in
    subst (IsFirstCulprit c.args.lang.now tree path) (same_node (node_at tree path) node c.in-Some.node.now culprit.there got) culprit

pub returns-clause-ticks : goal.returns-clause-ticks
returns-clause-ticks g c =
    let tree = tree_in c.args.note.now in
    let path = c.args.path.now in
    let got = copied_some c.at.result c.in-Some.node (node_at tree path) (c.at.ensures ∙ ap (λ t. node_at t path) c.tree.ensures) c.in-Some.is in
    let t = c.node_explained.ensures.ticks in
    let w = work_at path tree c.in-Some.node.now got in
    omega (arith, t, w)

pub returns-in_err-told-in-Some-clause-ticks : goal.returns-in_err-told-in-Some-clause-ticks
returns-in_err-told-in-Some-clause-ticks g c =
    let tree = tree_in c.args.note.now in
    let path = c.args.path.now in
    let got = copied_some c.at.result c.in-Some.node (node_at tree path) (c.at.ensures ∙ ap (λ t. node_at t path) c.tree.ensures) c.in-Some.is in
    let t = c.node_explained.ensures.ticks in
    let w = work_at path tree c.in-Some.node.now got in
    omega (arith, t, w)

pub unreachable-requires : goal.unreachable-requires
unreachable-requires g c =
    let (node, culprit) = c.requires.culprit in
    let tree = tree_in c.args.note.now in
    let path = c.args.path.now in
    no_node (node_at tree path) (copied_none c.at.result (node_at tree path) (c.at.ensures ∙ ap (λ t. node_at t path) c.tree.ensures) c.in-None.is) node culprit.there
