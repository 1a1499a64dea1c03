use Rattle.std.proofs.Common.{sym, ◌∙◌, map}
use Rattle.std.specs.Prelude.{string_bytes}
use Rattle.psg_asking.proofs.WordLaws.{is_nothing, is_something, pushed}
use Rattle.psg_asking.proofs.words.push_part.Goals as goal

pub returns-then-empty : goal.returns-then-empty
returns-then-empty c =
    is_nothing c.args.part.now (map string_bytes c.args.parts.now.items) (sym c.is_empty-empty.ensures ∙ c.if-empty.true)

pub returns : goal.returns
returns c =
    is_something c.args.part.now (map string_bytes c.args.parts.now.items) _
    (sym c.is_empty-empty.ensures ∙ c.if-empty.false)
    (pushed string_bytes c.args.parts.now.items _ c.in_ok-copy.copy c.args.part.now c.in_ok-push.ensures.items
    c.in_ok-copy.ensures.ok)
