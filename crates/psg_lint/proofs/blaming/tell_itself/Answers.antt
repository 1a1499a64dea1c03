use Rattle.std.proofs.Common.{ap, ◌∙◌}
use Rattle.psg_recover.specs.Findings.{error_at}
use Rattle.psg_recover.specs.TextPlaces.{place_byte}
use Rattle.std.specs.Prelude.{string_bytes}
use Rattle.psg_lint.proofs.ReadLaws.{byte_is}
use Rattle.psg_lint.proofs.blaming.tell_itself.Goals as goal

pub returns : goal.returns
returns g c = λ r is. (
  string_bytes c.in_ok-message.message,
  c.in_ok-message.ensures r is,
  c.in_ok-told.ensures
      ∙ ap (λ b. error_at b (string_bytes c.in_ok-message.message))
      (byte_is (λ def q. place_byte def q c.args.place.now) c.args.wrong.judged c.requires.wrong.judged r is c.in_ok-byte.byte c.in_ok-byte.ensures),
)
