use Rattle.std.proofs.Common.{subst}
use Rattle.psg_grammar.specs.declared.types.Definition.{Definition}
use Rattle.psg_layout.specs.Layouts.{IsLayoutFault}
use Rattle.psg_run.specs.Arranging.{IsReadLayout}
use Rattle.psg_run.proofs.arranging.layout_of.Goals as goal

pub returns-in-Err-clause-err : goal.returns-in-Err-clause-err
returns-in-Err-clause-err g c = λ files input ticks.
    c.end_fault.ensures c.args.language.now c.args.bytes.now files input ticks
    (subst (λ (d : Definition). IsLayoutFault d c.args.bytes.now c.in-Err.fault) c.definition.ensures.same c.in-Err.ensures.err)

pub returns-in-Ok-clause-ok : goal.returns-in-Ok-clause-ok
returns-in-Ok-clause-ok g c =
    subst (λ (d : Definition). IsReadLayout d c.args.bytes.now c.in-Ok.layout) c.definition.ensures.same
    (record { spelled = c.in-Ok.ensures.ok; only = c.in-Ok.ensures.only; faultless = c.in-Ok.ensures.faultless })
