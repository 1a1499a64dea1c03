use Rattle.std.proofs.Common.{ap, ◌∙◌}
use Rattle.psg_terms.specs.Names.{is_among}
use Rattle.psg_defcheck.proofs.NameLaws.{texts, listed-insert, listed-last}
use Rattle.psg_defcheck.proofs.names.Names.insert.Goals as goal

pub returns-clause-has : goal.returns-clause-has
returns-clause-has c = λ n. ap (λ ks. is_among (texts ks) n) c.in_ok-insert.ensures.keys ∙ listed-insert c.args.self.now.set.keys c.args.name n

pub returns-clause-last : goal.returns-clause-last
returns-clause-last c = λ new. ap texts c.in_ok-insert.ensures.keys ∙ listed-last c.args.self.now.set.keys c.args.name new
