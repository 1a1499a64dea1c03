use Rattle.std.proofs.Common.{subst}
use Rattle.psg_program.specs.Places.{IsAt}
use Rattle.psg_lint.proofs.MessageLaws.{byte_is}
use Rattle.psg_lint.proofs.messages.name_place.Goals as goal

pub returns : goal.returns
returns c = λ r spots.
    let j = c.args.judged in (
      c.place_of-place.result.line,
      c.place_of-place.result.column,
      subst (λ b. IsAt j.text.now b c.place_of-place.result.line c.place_of-place.result.column)
          (byte_is j c.requires.judged r spots c.args.name.now.path c.args.name.now.number c.in_ok-byte.byte c.in_ok-byte.ensures) c.place_of-place.ensures,
      c.in_ok-own.ensures.ok,
    )
