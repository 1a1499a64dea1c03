use Rattle.std.proofs.Common.{ap, sym, length, ◌∙◌}
use Rattle.std.specs.Prelude.{slice_get}
use Rattle.std.proofs.lemmas.Str.{chars_past_char}
use Rattle.psg_keys.proofs.NameLaws.{no_chars}
use Rattle.psg_keys.proofs.naming.first_char.Goals as goal

pub returns-in-Some : goal.returns-in-Some
returns-in-Some c =
    ap (λ xs. slice_get xs 0)
    (sym (chars_past_char c.args.text.now _ c.in-Some.first c.utf8.text (sym c.chars-characters.ensures.rest ∙ c.in-Some.ensures.steps.0)))

pub returns-in-None : goal.returns-in-None
returns-in-None c =
    ap (λ xs. slice_get xs 0) (sym (no_chars c.args.text.now (ap length (sym c.chars-characters.ensures.rest) ∙ c.in-None.ensures.steps.0.0)))
