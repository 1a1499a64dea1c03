use Rattle.psg_unparse.proofs.SpacedBack.{spaced_reads_back}
use Rattle.psg_layout.proofs.GrowLaws.{arranged_is_spaced}
use Rattle.psg_layout.proofs.laws.arranged_reads_back.Goals as goal

pub returns : goal.returns
returns c = λ cols f printable kind formed.
    spaced_reads_back c.args._definition.now c.requires.sound c.requires.words c.requires.class f printable kind formed
    _ (arranged_is_spaced c.args._definition.now c.args._layout.now cols f)
