-- The last character comes off the text, by what `next_back` says of the characters that are left.
use Rattle.std.proofs.Common.{◌++◌, length, sym, ap, ◌∙◌}
use Rattle.std.specs.Prelude.{encode_utf8}
use Rattle.psg_lexis.proofs.Runs.{no_chars}
use Rattle.psg_unparse.proofs.Tokens.{last_off}
use Rattle.psg_layout.proofs.sheet.split_last.Goals as goal

pub returns-in-Some-clause-last : goal.returns-in-Some-clause-last
returns-in-Some-clause-last c =
    last_off _ _ _ c.utf8.text c.as_str.utf8 (sym c.chars-characters.ensures.rest ∙ c.in-Some.ensures.steps
    ∙ ap (λ r. r ++ encode_utf8 c.in-Some.last) (sym c.as_str.ensures))

pub returns-in-None-clause-none : goal.returns-in-None-clause-none
returns-in-None-clause-none c =
    no_chars _ (ap length (sym c.chars-characters.ensures.rest) ∙ c.in-None.ensures.steps.0)
