use Rattle.serde_json.specs.View.{view}
use Rattle.psg_server.proofs.HoverLaws.{told_none, told_some}
use Rattle.psg_server.proofs.hovering.told_value.Goals as goal

pub returns-in_ok-value-in-Some : goal.returns-in_ok-value-in-Some
returns-in_ok-value-in-Some c =
    told_some c.args.page.now.encoding c.args.page.now.text.now c.args.hover.now c.in-Some.hover
    (view c.in_ok-value-in-Some.value) c.in-Some.is c.in_ok-value-in-Some.ensures

pub returns-in-None : goal.returns-in-None
returns-in-None c =
    told_none c.args.page.now.encoding c.args.page.now.text.now c.args.hover.now _ c.in-None.is c.null_value.ensures
