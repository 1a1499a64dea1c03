use Rattle.std.proofs.Common.{sym, subst}
use Rattle.serde_json.specs.View.{view}
use Rattle.psg_server.specs.Completing.{IsCompletedIn, IsCompletedOf}
use Rattle.psg_server.proofs.completing.document_completion.Goals as goal

pub returns-in_ok-value-in-Some : goal.returns-in_ok-value-in-Some
returns-in_ok-value-in-Some g c =
    subst
    (λ o. IsCompletedIn c.args.defined.now c.args.kind c.args.encoding o c.args.position (view c.in_ok-value-in-Some.value))
    (sym c.in-Some.is)
    (subst (λ t. IsCompletedOf c.args.defined.now c.args.kind c.args.encoding t c.args.position
    (view c.in_ok-value-in-Some.value))
    c.as_str-own.ensures c.in_ok-value-in-Some.ensures)
