use Rattle.psg_session.proofs.Verdicts.{noted_by}
use Rattle.psg_session.proofs.noting.note_of.Goals as goal

pub build-requires-clause-sound : goal.build-requires-clause-sound
build-requires-clause-sound g c = c.requires.language.sound

pub build-requires-clause-tables : goal.build-requires-clause-tables
build-requires-clause-tables g c = c.requires.language.tables

pub returns-clause-noted : goal.returns-clause-noted
returns-clause-noted g c =
    noted_by c.args.language.now.definition c.args.tree.now c.build.result c.build.ensures.note c.build.ensures.fault

pub returns-clause-ticks : goal.returns-clause-ticks
returns-clause-ticks g c = c.build.ensures.bounded
