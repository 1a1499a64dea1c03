use Rattle.std.proofs.Common.{Some, sym, subst}
use Rattle.serde_json.specs.View.{view}
use Rattle.psg_server.specs.Hovering.{IsToldIn}
use Rattle.psg_server.proofs.hovering.document_hover.Goals as goal

pub returns-in_ok-value-in-Some : goal.returns-in_ok-value-in-Some
returns-in_ok-value-in-Some g c =
    subst
    (λ o. IsToldIn c.args.defined.now c.args.kind c.args.encoding o c.args.position (view c.in_ok-value-in-Some.value))
    (sym c.in-Some.is)
    (subst (λ t. IsToldIn c.args.defined.now c.args.kind c.args.encoding (Some t) c.args.position
    (view c.in_ok-value-in-Some.value))
    c.as_str-own.ensures c.in_ok-value-in-Some.ensures)
