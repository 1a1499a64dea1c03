use Rattle.std.proofs.Common.{subst}
use Rattle.psg_pool.specs.Bindings.{Holds}
use Rattle.psg_unify.proofs.Climbs.{end_by}
use Rattle.psg_unify.proofs.classes.step.Goals as goal

pub returns-in-Free-clause-none : goal.returns-in-Free-clause-none
returns-in-Free-clause-none c =
    end_by c.args.pool.now c.args.classes.now c.args.id c.next_of.result c.requires.from c.requires.there (subst (Holds c.args.pool.now c.args.id) c.in-Free.is c.cell-cell.ensures.holds).1 c.next_of.ensures.none

pub returns-in-Con-clause-none : goal.returns-in-Con-clause-none
returns-in-Con-clause-none c =
    end_by c.args.pool.now c.args.classes.now c.args.id c.next_of-in-Con.result c.requires.from c.requires.there (subst (Holds c.args.pool.now c.args.id) c.in-Con.is c.cell-cell.ensures.holds).2 c.next_of-in-Con.ensures.none
