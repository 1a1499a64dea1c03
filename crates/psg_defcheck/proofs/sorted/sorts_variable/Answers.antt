use Rattle.std.proofs.Common.{sym, ◌∙◌}
use Rattle.psg_defcheck.proofs.NarrowLaws.{variable_found, variable_new}
use Rattle.psg_defcheck.proofs.sorted.sorts_variable.Goals as goal

pub returns-in-Some-copied : goal.returns-in-Some-copied
returns-in-Some-copied c =
    variable_found c.args.sorts.now c.args.name.now c.in-Some-copied.sort c.in-Some.wanted c.args.place c.eq.result c.in-Some.is (sym c.get.ensures.value ∙ sym c.in-Some-copied.ensures) c.eq.ensures

pub returns : goal.returns
returns c =
    variable_new c.args.sorts.now c.insert.new.self c.args.name.now c.in-Some.wanted c.args.place c.in-Some.is (sym c.get.ensures.value ∙ sym c.in_default-copied.ensures) c.in_ok-insert.ensures.updates
