use Rattle.std.proofs.Common.{sym, ◌∙◌}
use Rattle.psg_deflines.specs.Parts.{texts}
use Rattle.psg_deflines.proofs.TermStepLaws.{texts-first}
use Rattle.psg_deflines.proofs.PieceLaws.{leaf-begun, frame-begun}
use Rattle.psg_deflines.proofs.tree_pieces.begin_operator.Goals as goal

pub returns-in_default-behind : goal.returns-in_default-behind
returns-in_default-behind c =
    leaf-begun (texts c.args.parts.now) (texts c.in-Some.rest.now) c.in-Some.name.now.now (texts-first c.args.parts.now c.in-Some.rest.now c.in-Some.name.now c.in-Some.ensures.cases.0) c.requires
    c.in_ok-leaf.field-0 c.in_default-behind.ensures c.in_ok-leaf.ensures

pub returns : goal.returns
returns c =
    frame-begun (texts c.args.parts.now) (texts c.in-Some.rest.now) c.in-Some.name.now.now (texts-first c.args.parts.now c.in-Some.rest.now c.in-Some.name.now c.in-Some.ensures.cases.0) c.requires
    (texts c.in-Some-behind.inside.now) c.in_ok-open_operator.field-0 c.in-Some-behind.ensures (sym c.starts_with_kind.ensures ∙ c.if-starts_with_kind.false) c.in_ok-open_operator.ensures
