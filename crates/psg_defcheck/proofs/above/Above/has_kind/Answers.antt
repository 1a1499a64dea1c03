use Rattle.psg_defcheck.proofs.AboveLaws.{phylum-told, list-told}
use Rattle.psg_defcheck.proofs.above.Above.has_kind.Goals as goal

pub returns-then-contains : goal.returns-then-contains
returns-then-contains c = λ above h. phylum-told above c.args.self.now c.args.name.now c.contains.result h c.if-contains.true c.contains.ensures

pub returns : goal.returns
returns c = λ above h. list-told above c.args.self.now c.args.name.now c.contains.result c.contains-2.result h c.if-contains.false c.contains.ensures c.contains-2.ensures
