use Rattle.std.proofs.Common.{◌++◌, ap, ap₂, ◌∙◌}
use Rattle.std.specs.Prelude.{codes}
use Rattle.psg_recover.specs.Findings.{note_at}
use Rattle.psg_recover.specs.TextPlaces.{name_byte}
use Rattle.psg_lint.proofs.ReadLaws.{byte_is}
use Rattle.psg_lint.proofs.suspects.told.Goals as goal

pub returns : goal.returns
returns c = λ r is.
    let w = c.args.name.now in
    c.in_ok-found.ensures
    ∙ ap₂ note_at
    (byte_is (λ def q. name_byte def q w.path w.number) c.args.wrong.judged c.requires.wrong.judged r is c.in_ok-byte.byte c.in_ok-byte.ensures)
    (c.in_ok-message.ensures.ok ∙ ap (λ n. codes "with another declaration of " ++ (n ++ codes " all the rest would fit")) c.as_str.ensures)
