use Rattle.std.proofs.Common.{◌∷◌, [], ◌++◌, ap, append_assoc, ◌∙◌}
use Rattle.psg_completing.specs.Fillings.{filling, lists_from}
use Rattle.psg_completing.specs.declared.fillings.Side.TheVariants.{Alone}
use Rattle.psg_completing.proofs.fillings.push_phylum.Goals as goal

pub returns : goal.returns
returns c =
    c.in_ok-push_lists.ensures
    ∙ ap (λ l. l ++ lists_from c.args.phylum 0 c.args.definition.now.lists) c.in_ok-push.ensures.items
    ∙ append_assoc c.args.found.now.items (filling c.args.phylum Alone ∷ [])
    (lists_from c.args.phylum 0 c.args.definition.now.lists)
