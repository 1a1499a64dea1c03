use Rattle.std.specs.Prelude.{string_bytes}
use Rattle.std.proofs.Common.{◌++◌, ap, ◌∙◌}
use Rattle.psg_lint.proofs.lines.push_line.Goals as goal

pub returns : goal.returns
returns c = (
  c.place_of-place.result.line,
  c.place_of-place.result.column,
  c.place_of-place.ensures,
  c.in_ok-push_str.ensures.bytes
      ∙ ap (λ t. string_bytes c.args.lines.now ++ t) (c.as_str.ensures.value ∙ c.in_ok-line.ensures),
)
