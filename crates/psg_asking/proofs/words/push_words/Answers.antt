use Rattle.std.proofs.Common.{sym, ◌∙◌}
use Rattle.std.specs.Prelude.{map, string_bytes}
use Rattle.psg_asking.proofs.WordLaws.{none_there, some_there}
use Rattle.psg_asking.proofs.words.push_words.Goals as goal

pub returns-then-none : goal.returns-then-none
returns-then-none c =
    none_there c.args.line.now (map string_bytes c.args.words.now.items) (sym c.is_none-none.ensures ∙ c.if-none.true)

pub returns : goal.returns
returns c =
    some_there c.args.line.now (map string_bytes c.args.words.now.items) _ (sym c.is_none-none.ensures ∙ c.if-none.false)
    c.in_ok-push_parts.ensures
