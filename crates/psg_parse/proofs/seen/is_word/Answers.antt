-- The first character comes off the text.
use Rattle.std.proofs.Common.{◌++◌, sym, ap, ◌∙◌}
use Rattle.std.specs.Prelude.{encode_utf8}
use Rattle.psg_lexis.proofs.Runs.{first_off}
use Rattle.psg_parse.proofs.Terminals.{word_by}
use Rattle.psg_parse.proofs.seen.is_word.Goals as goal

pub returns-then-starts_word : goal.returns-then-starts_word
returns-then-starts_word c =
    let first = first_off _ _ _ c.utf8.text (sym c.chars-characters.ensures.rest ∙ c.in-Some.ensures.steps.0 ∙ ap (λ r. encode_utf8 c.in-Some.first ++ r) (sym c.as_str.ensures)) in
    c.all_go_on.ensures ∙ word_by c.args.text.now c.in-Some.first c.as_str.result.now c.utf8.text first.characters (sym c.starts_word.ensures ∙ c.if-starts_word.true)
