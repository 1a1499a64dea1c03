use Rattle.std.proofs.Common.{ap, ◌∙◌}
use Rattle.psg_recover.specs.Findings.{error_at}
use Rattle.psg_recover.specs.TextPlaces.{node_byte}
use Rattle.psg_lint.specs.Wrongs.{member_message}
use Rattle.psg_lint.proofs.ReadLaws.{byte_is}
use Rattle.psg_lint.proofs.blaming.tell_member.Goals as goal

pub returns : goal.returns
returns c = λ r is.
    c.in_ok-told.ensures
    ∙ ap (λ b. error_at b member_message)
    (byte_is (λ def q. node_byte def q c.args.own.now) c.args.wrong.judged c.requires.wrong.judged r is c.in_ok-byte.byte c.in_ok-byte.ensures)
