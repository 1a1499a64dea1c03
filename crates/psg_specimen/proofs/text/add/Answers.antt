use Rattle.std.proofs.Common.{[], ◌∷◌, ◌++◌, ap, ◌∙◌, append_assoc}
use Rattle.std.specs.Prelude.{string_bytes}
use Rattle.psg_specimen.proofs.WordLaws.{line-more}
use Rattle.psg_specimen.proofs.text.add.Goals as goal

pub returns : goal.returns
returns c =
    line-more (string_bytes c.args.text.now) _ c.args.word.now (c.in_ok-push_str-2.ensures.bytes ∙ ap (λ x. x ++ c.args.word.now) c.in_ok-push_str.ensures.bytes
    ∙ append_assoc (string_bytes c.args.text.now) (32 ∷ []) c.args.word.now)
