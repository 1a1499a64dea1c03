use Rattle.std.proofs.Common.{ap, sym, ◌∙◌}
use Rattle.std.specs.Prelude.{slice_get, chars}
use Rattle.psg_keys.proofs.NameLaws.{char_is, char_none}
use Rattle.psg_keys.proofs.naming.character_of.Goals as goal

pub returns-in-Ok : goal.returns-in-Ok
returns-in-Ok c =
    c.first_char.ensures ∙ ap (λ t. slice_get (chars t) 0) c.in-Ok.ensures.cases.0
    ∙ sym (char_is c.args.bytes.now c.in-Ok.ensures.cases.1)

pub returns-in-Err : goal.returns-in-Err
returns-in-Err c = char_none c.args.bytes.now c.in-Err.ensures.cases.0
