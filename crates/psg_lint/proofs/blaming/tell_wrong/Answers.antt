use Rattle.std.proofs.Common.{true, false}
use Rattle.psg_lint.proofs.WrongLaws.{is_sound}
use Rattle.psg_lint.proofs.blaming.tell_wrong.Goals as goal

pub blame_noted-requires-clause-sound : goal.blame_noted-requires-clause-sound
blame_noted-requires-clause-sound g c = is_sound c.args.judged c.requires.judged

pub blame_noted-requires-clause-tables : goal.blame_noted-requires-clause-tables
blame_noted-requires-clause-tables g c = c.requires.judged.tables

pub tell_answer-requires-clause-answer : goal.tell_answer-requires-clause-answer
tell_answer-requires-clause-answer g c = c.in-Ok.ensures.open c.requires.rows

pub tell_fault-requires-clause-fault : goal.tell_fault-requires-clause-fault
tell_fault-requires-clause-fault g c = c.in-Err.ensures.fault

pub returns-in_ok-more-in-Ok : goal.returns-in_ok-more-in-Ok
returns-in_ok-more-in-Ok g c = λ r is. let (told, e, h) = c.in_ok-more-in-Ok.ensures r is in (told, e, (false, h))

pub returns-in_ok-tell_fault-in-Err : goal.returns-in_ok-tell_fault-in-Err
returns-in_ok-tell_fault-in-Err g c = λ r is. let (told, e, h) = c.in_ok-tell_fault-in-Err.ensures r is in (told, e, (true, h))
