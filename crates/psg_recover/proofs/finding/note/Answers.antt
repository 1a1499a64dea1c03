use Rattle.std.proofs.Common.{ap}
use Rattle.psg_recover.specs.Findings.{note_at}
use Rattle.psg_recover.proofs.finding.note.Goals as goal

pub returns : goal.returns
returns c = ap (note_at c.args.byte) c.in_ok-message.ensures
