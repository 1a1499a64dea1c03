use Rattle.std.proofs.Common.{ap, subst, sym, ◌∙◌}
use Rattle.psg_places.specs.Answers.{IsOfTree}
use Rattle.psg_recover.specs.Findings.{error_at}
use Rattle.psg_recover.specs.TextPlaces.{node_byte}
use Rattle.psg_lint.specs.Wrongs.{limit_told, wide_message, wide_path}
use Rattle.psg_lint.proofs.ReadLaws.{byte_is}
use Rattle.psg_lint.proofs.blaming.told_limit.Goals as goal

pub returns-in_ok-told-in-Wide : goal.returns-in_ok-told-in-Wide
returns-in_ok-told-in-Wide c = λ r is.
    let j = c.args.judged in
    let path = c.in-Wide.path in (
      subst IsOfTree (sym c.in-Wide.is) tt,
      c.in_ok-told-in-Wide.ensures
          ∙ ap (λ b. error_at b wide_message)
          (byte_is (λ d q. node_byte d q path) j c.requires.judged r is c.in_ok-byte-in-Wide.byte c.in_ok-byte-in-Wide.ensures)
          ∙ sym (ap (λ x. limit_told j.definition.now r x (wide_path x)) c.in-Wide.is),
    )
