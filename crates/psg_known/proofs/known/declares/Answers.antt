use Rattle.std.proofs.Common.{◌∙◌}
use Rattle.psg_known.proofs.KnownLaws.{known_declares}
use Rattle.psg_known.proofs.known.declares.Goals as goal

pub returns : goal.returns
returns c =
    let k = c.args.known in
    c.has_spaces.ensures
    ∙ known_declares k.definition.now c.requires.known.sound k.spaces.now c.requires.known.spaces c.args.phylum
