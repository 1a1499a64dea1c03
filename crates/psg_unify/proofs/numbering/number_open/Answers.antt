use Rattle.std.proofs.Common.{sym}
use Rattle.psg_unify.proofs.FormLaws.{one_more}
use Rattle.psg_unify.proofs.NumberSteps.{numbers_constant, numbers_open}
use Rattle.psg_unify.proofs.numbering.number_open.Goals as goal

pub returns-in_ok-number-in-Some-clause-numbered : goal.returns-in_ok-number-in-Some-clause-numbered
returns-in_ok-number-in-Some-clause-numbered c =
    numbers_constant c.args.sig.now c.args.pool.now c.args.numbers.now (record { forms = c.find.new.forms; cells = c.set_number.new.cells }) c.args.id c.args.sort c.in-Some.con.0
    c.in_ok-number-in-Some.number c.of_symbol.result c.requires.holds (sym c.in-Some.ensures) c.of_symbol.ensures c.in_ok-number-in-Some.ensures
    (one_more c.args.numbers.now.cells.items c.set_number.new.cells.items c.args.id c.in_ok-number-in-Some.number c.set_number.ensures)

pub returns-in_ok-number-in-None-clause-numbered : goal.returns-in_ok-number-in-None-clause-numbered
returns-in_ok-number-in-None-clause-numbered c =
    numbers_open c.args.sig.now c.args.pool.now c.args.numbers.now (record { forms = c.find-in-None.new.forms; cells = c.set_number-in-None.new.cells }) c.args.id c.args.sort
    c.in_ok-number-in-None.number c.of_open.result c.requires.holds (sym c.in-None.ensures) c.of_open.ensures c.in_ok-number-in-None.ensures
    (one_more c.args.numbers.now.cells.items c.set_number-in-None.new.cells.items c.args.id c.in_ok-number-in-None.number c.set_number-in-None.ensures)
