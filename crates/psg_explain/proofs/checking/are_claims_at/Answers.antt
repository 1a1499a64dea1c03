use Rattle.psg_explain.specs.Plans.{planned}
use Rattle.psg_explain.proofs.LastCases.{claims_iff, copied_none, copied_some, formed_node, moved_stages, moved_told, no_refuted}
use Rattle.psg_explain.proofs.checking.are_claims_at.Goals as goal

pub returns-in_default : goal.returns-in_default
returns-in_default c =
    no_refuted c.args.lang.now c.args.tree.now c.args.path.now c.args.claims.now (copied_none c.at-found.result _ c.at-found.ensures c.in_default.is)

pub stages_of-requires : goal.stages_of-requires
stages_of-requires c =
    formed_node c.args.lang.now c.args.tree.now c.args.path.now c.in-Some.node.now c.requires (copied_some c.at-found.result c.in-Some.node _ c.at-found.ensures c.in-Some.is)

pub are_claims-requires : goal.are_claims-requires
are_claims-requires c = (
  planned c.args.lang.now 0 c.args.path.now c.in-Some.node.now,
  moved_stages c.args.lang.now c.definition.result.now c.in_ok-stages.stages.items c.as_slice.result.now (planned c.args.lang.now 0 c.args.path.now c.in-Some.node.now) c.definition.ensures.same c.as_slice.ensures.value c.in_ok-stages.ensures,
)

pub returns : goal.returns
returns c =
    let at = copied_some c.at-found.result c.in-Some.node _ c.at-found.ensures c.in-Some.is in
    let (kind, formed) = formed_node c.args.lang.now c.args.tree.now c.args.path.now c.in-Some.node.now c.requires at in
    claims_iff c.args.lang.now c.args.tree.now c.args.path.now c.in-Some.node.now c.args.claims.now c.in_ok-stages.stages.items kind formed at c.in_ok-stages.ensures c.in_ok-met.met
    (moved_told c.args.lang.now c.definition.result.now c.in_ok-stages.stages.items c.as_slice.result.now c.args.claims.now c.as_slice-inner.result.now c.in_ok-met.met c.definition.ensures.same c.as_slice.ensures.value c.as_slice-inner.ensures c.in_ok-met.ensures)
