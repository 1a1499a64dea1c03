use Rattle.std.proofs.Common.{ap, subst, ◌∙◌, List}
use Rattle.std.specs.Prelude.{Bool, string_bytes}
use Rattle.psg_recover.specs.Findings.{error_at}
use Rattle.psg_recover.specs.TextPlaces.{name_byte}
use Rattle.psg_lint.specs.Blamed.{IsUseMessage}
use Rattle.psg_lint.specs.Judged.{def_of, fresh_of, tree_in}
use Rattle.psg_lint.proofs.ReadLaws.{byte_is}
use Rattle.psg_lint.proofs.blaming.tell_other.Goals as goal

pub returns : goal.returns
returns g c = λ r is.
    let w = c.args.other.now.name in (
      string_bytes c.in_ok-message.message,
      subst (λ (ks : List Bool). IsUseMessage (def_of c.args.wrong) c.args.wrong.judged.text.now (tree_in c.args.wrong) r (fresh_of c.args.wrong) ks
          c.args.other.now.number w (string_bytes c.in_ok-message.message)) c.as_slice-answers.ensures.value (c.in_ok-message.ensures r is),
      c.in_ok-told.ensures
          ∙ ap (λ b. error_at b (string_bytes c.in_ok-message.message))
          (byte_is (λ def q. name_byte def q w.path w.number) c.args.wrong.judged c.requires.wrong.judged r is c.in_ok-byte.byte c.in_ok-byte.ensures),
    )
