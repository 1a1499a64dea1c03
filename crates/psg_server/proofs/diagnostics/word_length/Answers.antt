use Rattle.std.proofs.Common.{sym, ◌∙◌}
use Rattle.psg_server.proofs.WordLaws.{word_none, word_some, word_within}
use Rattle.psg_server.proofs.diagnostics.word_length.Goals as goal

pub returns-in-Some-clause-is : goal.returns-in-Some-clause-is
returns-in-Some-clause-is c = word_some c.args.bytes.now c.in-Some.count (sym c.in-Some.is ∙ c.word_end.ensures)

pub returns-in-Some-clause-within : goal.returns-in-Some-clause-within
returns-in-Some-clause-within c = word_within c.args.bytes.now c.in-Some.count (sym c.in-Some.is ∙ c.word_end.ensures)

pub returns-in-None-clause-is : goal.returns-in-None-clause-is
returns-in-None-clause-is c = word_none c.args.bytes.now (sym c.in-None.is ∙ c.word_end.ensures)
