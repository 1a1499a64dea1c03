use Rattle.std.proofs.Common.{◌∷◌, [], ◌++◌, ap, ◌∙◌}
use Rattle.psg_completing.proofs.offering.alone.Goals as goal

pub returns : goal.returns
returns c =
    c.in_ok-push.ensures.items ∙ ap (λ l. l ++ c.in_ok-copy.copy ∷ []) c.new-names.ensures.items
    ∙ ap (λ n. n ∷ []) c.in_ok-copy.ensures
