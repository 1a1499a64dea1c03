use Rattle.psg_self.proofs.LineOnce.{numbers-told}
use Rattle.psg_self.proofs.OwnNames.{digits-run}
use Rattle.psg_self.proofs.OwnLines.{tree-lines}
use Rattle.psg_self.proofs.OnlySays.{only-says}
use Rattle.psg_self.proofs.laws.only_says.Goals as goal

pub returns : goal.returns
returns c = λ def f self formed complete read is.
    only-says c.one_line.ensures numbers-told digits-run f
    (tree-lines def self f (record { fits = formed.0; plain = formed.1; complete = complete })) read is
