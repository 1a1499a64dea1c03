use Rattle.std.proofs.Common.{refl, subst}
use Rattle.psg_unify.specs.declared.circles.Progress.TheVariants.{Left}
use Rattle.psg_unify.specs.Circles.{IsAt}
use Rattle.psg_unify.proofs.Rounds.{at_once}
use Rattle.psg_unify.proofs.circles.was_left.Goals as goal

pub returns-in-Left : goal.returns-in-Left
returns-in-Left c = (λ _. subst (IsAt c.args.base c.args.marks.now.items c.args.id) c.in-Left.is c.progress_of-progress.ensures, λ _. refl)

pub returns-in-New : goal.returns-in-New
returns-in-New c = (λ e. absurd (cc), λ l. absurd (let same = at_once c.args.base c.args.marks.now.items c.args.id c.args.id Left c.progress_of-progress.result l c.progress_of-progress.ensures refl in cc))

pub returns-in-Open : goal.returns-in-Open
returns-in-Open c = (λ e. absurd (cc), λ l. absurd (let same = at_once c.args.base c.args.marks.now.items c.args.id c.args.id Left c.progress_of-progress.result l c.progress_of-progress.ensures refl in cc))
