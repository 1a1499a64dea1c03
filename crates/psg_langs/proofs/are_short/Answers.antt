use Rattle.std.proofs.Common.{refl, lit<}
use Rattle.psg_langs.proofs.AsciiTest.{ascii_by_test}
use Rattle.psg_langs.specs.declared.plain.TheConstants.{CONSTS, LEVELS}
use Rattle.psg_langs.specs.declared.named.TheConstants.{MINI, SELF, TINY}
use Rattle.psg_langs.proofs.are_short.Goals as goal

pub returns-clause-consts : goal.returns-clause-consts
returns-clause-consts c = (ascii_by_test CONSTS.now refl, lit< tt)

pub returns-clause-levels : goal.returns-clause-levels
returns-clause-levels c = (ascii_by_test LEVELS.now refl, lit< tt)

pub returns-clause-mini : goal.returns-clause-mini
returns-clause-mini c = (ascii_by_test MINI.now refl, lit< tt)

pub returns-clause-itself : goal.returns-clause-itself
returns-clause-itself c = (ascii_by_test SELF.now refl, lit< tt)

pub returns-clause-tiny : goal.returns-clause-tiny
returns-clause-tiny c = (ascii_by_test TINY.now refl, lit< tt)
