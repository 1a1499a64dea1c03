use Rattle.psg_class.proofs.Law.{only_trees}
use Rattle.psg_class.proofs.check.class_check.Goals as goal

pub returns-clause-only : goal.returns-clause-only
returns-clause-only c = only_trees c.args.definition.now c.in_ok-check_all.ensures.class
