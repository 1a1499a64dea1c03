use Rattle.psg_self.proofs.OwnNames.{digits-run}
use Rattle.psg_self.proofs.OwnLines.{tree-lines}
use Rattle.psg_self.proofs.There.{there}
use Rattle.psg_self.proofs.laws.says_is_read.Goals as goal

pub returns : goal.returns
returns c = λ def f self formed complete read says bytes is.
    there c.one_line.ensures digits-run f (tree-lines def self f (record { fits = formed.0; plain = formed.1; complete = complete }))
    read says bytes is
