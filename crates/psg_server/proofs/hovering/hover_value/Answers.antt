use Rattle.std.proofs.Common.{ap, ◌∙◌}
use Rattle.std.specs.Prelude.{map, string_bytes}
use Rattle.serde_json.specs.View.{view}
use Rattle.psg_server.specs.Hovering.{joined}
use Rattle.psg_server.proofs.HoverLaws.{value_is}
use Rattle.psg_server.proofs.hovering.hover_value.Goals as goal

pub returns : goal.returns
returns c =
    value_is c.args.page.now.encoding c.args.page.now.text.now c.args.hover.now (view c.in_ok-range.range)
    (view c.in_ok-value.value) (view c.in_ok-told.told) _ c.in_ok-range.ensures
    (c.as_str-own.ensures.value ∙ c.in_ok-text.ensures
    ∙ ap (λ l. joined (map string_bytes l)) c.as_slice-lines.ensures.value)
    c.in_ok-value.ensures c.in_ok-told.ensures
