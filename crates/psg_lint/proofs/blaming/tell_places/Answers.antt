use Rattle.std.proofs.Common.{◌++◌, append_assoc, ap, ◌∙◌}
use Rattle.psg_lint.proofs.blaming.tell_places.Goals as goal

pub returns : goal.returns
returns g c = λ r is.
    let (told, e, h) = c.in_ok-tell_all.ensures r is in
    let (suspects, q, k) = c.in_ok-more.ensures r is in
    (told, suspects, q ∙ ap (λ xs. xs ++ suspects) e ∙ append_assoc c.args.found.now.items told suspects, h, k)
