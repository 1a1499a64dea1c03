use Rattle.psg_unify.proofs.Climbs.{next_some, next_none}
use Rattle.psg_unify.proofs.classes.next_of.Goals as goal

pub returns-clause-some : goal.returns-clause-some
returns-clause-some c = next_some c.args.classes.now c.args.id c.as_slice-next.result.now c.as_slice-next.ensures.value c.requires.from c.requires.within

pub returns-clause-none : goal.returns-clause-none
returns-clause-none c = next_none c.args.classes.now c.args.id c.as_slice-next.result.now c.as_slice-next.ensures.value c.requires.from c.requires.within
