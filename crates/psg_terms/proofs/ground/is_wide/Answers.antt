use Rattle.psg_terms.specs.Marks.{con_numbers}
use Rattle.psg_terms.proofs.Soundness.{wide-one, wide-none}
use Rattle.psg_terms.proofs.ground.is_wide.Goals as goal

pub returns-in-Some : goal.returns-in-Some
returns-in-Some c = wide-one (con_numbers c.args.ids.now) c.args.declared.now c.in-Some.one.0 c.has_arguments.result c.in-Some.ensures c.has_arguments.ensures

pub returns-in-None : goal.returns-in-None
returns-in-None c = wide-none (con_numbers c.args.ids.now) c.args.declared.now c.in-None.ensures
