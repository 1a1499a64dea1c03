use Rattle.std.proofs.Common.{ap, ◌∙◌}
use Rattle.std.specs.Prelude.{map, string_bytes}
use Rattle.std.proofs.lemmas.List.{map-append}
use Rattle.psg_tui.proofs.telling.relation_page.Goals as goal

pub returns : goal.returns
returns c = (
  map string_bytes c.in_ok-page.page.items,
  ap (map string_bytes) c.in_ok-append.ensures.items ∙ map-append string_bytes c.in_ok-page.page.items c.args.lines.items,
)
