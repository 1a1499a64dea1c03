use Rattle.psg_class.proofs.Closing.{set_step}
use Rattle.psg_class.proofs.grid.copy.Goals as goal
use Rattle.std.proofs.Common.{sym, ◌∙◌}

pub returns-clause-step : goal.returns-clause-step
returns-clause-step c = λ links among.
    set_step links c.args.link among c.args.grid.now c.set.new.self c.args.column c.set.result c.requires.grid c.requires.to c.requires.from c.requires.column (sym c.has.ensures ∙ c.if-not-has.false)
    c.set.ensures.size c.set.ensures.this c.set.ensures.others c.set.ensures.fewer c.set.ensures.same
