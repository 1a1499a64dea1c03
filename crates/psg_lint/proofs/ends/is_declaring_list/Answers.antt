use Rattle.std.proofs.Common.{ap, ◌∙◌}
use Rattle.psg_places.specs.Places.{declares}
use Rattle.psg_lint.proofs.EndLaws.{phylum_there}
use Rattle.psg_lint.proofs.MessageLaws.{known_declares}
use Rattle.psg_lint.proofs.ends.is_declaring_list.Goals as goal

pub returns : goal.returns
returns c =
    let j = c.args.wrong.judged in
    known_declares j c.requires.wrong.judged c.declares.result c.list_at-list.result.phylum c.declares.ensures
    ∙ ap (declares j.definition.now) (phylum_there j.definition.now j.tree.now c.args.path.now c.list_at-list.result c.list_at-list.ensures)
