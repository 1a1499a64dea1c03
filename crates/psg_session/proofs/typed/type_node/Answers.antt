use Rattle.psg_script.specs.declared.command.Command.TheVariants.{Over}
use Rattle.psg_session.proofs.typed.type_node.Goals as goal

pub carry_out-requires-clause-plan : goal.carry_out-requires-clause-plan
carry_out-requires-clause-plan g c = (Over c.args.place.now c.args.text.now, c.over-plan.ensures.plan)

pub returns-clause-outcome : goal.returns-clause-outcome
returns-clause-outcome g c =
    c.carry_out.ensures.outcome (Over c.args.place.now c.args.text.now) c.over-plan.ensures.plan

pub returns-clause-ticks : goal.returns-clause-ticks
returns-clause-ticks g c = c.over-plan.ensures.spends _ c.carry_out.ensures.spends
