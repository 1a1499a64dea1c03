use Rattle.std.proofs.Common.{reverse, subst}
use Rattle.psg_unify.specs.declared.walking.Item.TheVariants.{Visit}
use Rattle.psg_unify.specs.Circles.{IsAt}
use Rattle.psg_unify.proofs.Rounds.{meets_open, top_within}
use Rattle.psg_unify.proofs.circles.visit.Goals as goal

pub progress_of-progress-requires : goal.progress_of-progress-requires
progress_of-progress-requires c =
    let own = top_within c.args.pool.now c.args.base c.args.marks.now.items (Visit c.args.id) (reverse c.args.stack.now.items) c.requires.walking in
    record { from = own.0; within = own.1 }

pub unreachable-requires : goal.unreachable-requires
unreachable-requires c = c.requires.other (subst (IsAt c.args.base c.args.marks.now.items c.args.id) c.in-Left.is c.progress_of-progress.ensures)

pub returns-in-Open-clause-no : goal.returns-in-Open-clause-no
returns-in-Open-clause-no c = λ _.
    meets_open c.args.pool.now c.args.base c.args.marks.now.items c.args.id (reverse c.args.stack.now.items)
    (subst (IsAt c.args.base c.args.marks.now.items c.args.id) c.in-Open.is c.progress_of-progress.ensures) c.requires.walking

pub open_cell-requires-clause-unseen : goal.open_cell-requires-clause-unseen
open_cell-requires-clause-unseen c = subst (IsAt c.args.base c.args.marks.now.items c.args.id) c.in-New.is c.progress_of-progress.ensures
