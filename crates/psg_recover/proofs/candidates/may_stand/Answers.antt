use Rattle.std.proofs.Common.{◌∙◌, ◌||◌, ap, ap₂, not}
use Rattle.psg_recover.specs.Recovery.{all_go_on}
use Rattle.psg_recover.proofs.candidates.may_stand.Goals as goal

pub returns : goal.returns
returns c =
    c.either.ensures
    ∙ ap₂ (λ a b. not a || b) c.declares-quiet.ensures (c.all_go_on-free.ensures ∙ ap (all_go_on c.args.phylum) c.as_slice.ensures)
