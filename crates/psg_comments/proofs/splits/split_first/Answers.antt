-- The first character comes off the text, by what `next` says of the characters that are left.
use Rattle.std.proofs.Common.{◌++◌, length, sym, ap, ◌∙◌}
use Rattle.std.specs.Prelude.{encode_utf8}
use Rattle.psg_lexis.proofs.Runs.{first_off, no_chars}
use Rattle.psg_comments.proofs.splits.split_first.Goals as goal

pub returns-in-Some-clause-first : goal.returns-in-Some-clause-first
returns-in-Some-clause-first c =
    first_off _ _ _ c.utf8.text (sym c.chars-characters.ensures.rest ∙ c.in-Some.ensures.steps.0
    ∙ ap (λ r. encode_utf8 c.in-Some.first ++ r) (sym c.as_str.ensures))

pub returns-in-None-clause-none : goal.returns-in-None-clause-none
returns-in-None-clause-none c =
    no_chars _ (ap length (sym c.chars-characters.ensures.rest) ∙ c.in-None.ensures.steps.0.0)
