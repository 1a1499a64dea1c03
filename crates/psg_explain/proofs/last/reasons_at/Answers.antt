use Rattle.psg_grammar.specs.Paths.{node_at}
use Rattle.psg_explain.proofs.LastCases.{copied_none, copied_some, formed_node, moved_ready, no_node, ready}
use Rattle.psg_explain.proofs.last.reasons_at.Goals as goal

pub unreachable-requires : goal.unreachable-requires
unreachable-requires c = no_node (node_at c.args.tree.now c.args.path.now) (copied_none c.at-found.result _ c.at-found.ensures c.in_default.is) c.requires.right.0 c.requires.right.1

pub stages_of-requires : goal.stages_of-requires
stages_of-requires c =
    formed_node c.args.lang.now c.args.tree.now c.args.path.now c.in-Some.node.now c.requires.formed (copied_some c.at-found.result c.in-Some.node _ c.at-found.ensures c.in-Some.is)

pub reasons_after-requires : goal.reasons_after-requires
reasons_after-requires c =
    let at = copied_some c.at-found.result c.in-Some.node _ c.at-found.ensures c.in-Some.is in
    let (kind, formed) = formed_node c.args.lang.now c.args.tree.now c.args.path.now c.in-Some.node.now c.requires.formed at in
    let right = c.requires.right in
    let ready_last = moved_ready c.args.lang.now c.definition-known.result.now c.args.claims.now c.as_slice-inner.result.now c.in_ok-stages.stages.items c.as_slice.result.now right.2
    c.definition-known.ensures.same c.as_slice-inner.ensures c.as_slice.ensures.value
    (ready c.args.lang.now c.args.tree.now c.args.path.now c.in-Some.node.now c.args.claims.now c.in_ok-stages.stages.items c.definition-known.ensures.sound kind formed at right c.in_ok-stages.ensures) in
    (right.2, ready_last)

pub returns : goal.returns
returns c =
    let at = copied_some c.at-found.result c.in-Some.node _ c.at-found.ensures c.in-Some.is in
    let (kind, formed) = formed_node c.args.lang.now c.args.tree.now c.args.path.now c.in-Some.node.now c.requires.formed at in
    let right = c.requires.right in
    let ready_last = moved_ready c.args.lang.now c.definition-known.result.now c.args.claims.now c.as_slice-inner.result.now c.in_ok-stages.stages.items c.as_slice.result.now right.2
    c.definition-known.ensures.same c.as_slice-inner.ensures c.as_slice.ensures.value
    (ready c.args.lang.now c.args.tree.now c.args.path.now c.in-Some.node.now c.args.claims.now c.in_ok-stages.stages.items c.definition-known.ensures.sound kind formed at right c.in_ok-stages.ensures) in
    (right.0, right.1, right.2, right.3, c.in_ok-told.ensures right.2 ready_last)
