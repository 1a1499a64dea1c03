use Rattle.std.proofs.Common.{◌++◌, ◌∷◌, [], ap, ap₂, ◌∙◌}
use Rattle.std.specs.Prelude.{codes}
use Rattle.psg_recover.specs.Findings.{warning_at}
use Rattle.psg_lint.proofs.warnings.warning_of.Goals as goal

pub returns : goal.returns
returns c = λ nodes are.
    ap (λ x. x ∷ []) (c.in_ok-told.ensures
    ∙ ap₂ warning_at (c.in_ok-byte.ensures nodes are)
    (c.in_ok-message.ensures.ok ∙ ap (λ n. n ++ codes " is not declared") c.as_str.ensures))
