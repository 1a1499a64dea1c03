use Rattle.std.proofs.Common.{refl, sym}
use Rattle.psg_unify.proofs.CoverSteps.{meets_first, meets_again, meets_other, can_compare, can_note}
use Rattle.psg_unify.proofs.covering.meet_variable.Goals as goal

pub returns-in_ok-alike-in-Some-clause-yes : goal.returns-in_ok-alike-in-Some-clause-yes
returns-in_ok-alike-in-Some-clause-yes c = λ t.
    meets_again c.args.sig.now c.args.pool.now c.args.state.now (record { numbers = c.read_alike.new.numbers; first = c.args.state.now.first; left = c.args.state.now.left }) c.args.sort.0 c.args.number
    c.in-Some.other.now c.args.cell c.in_ok-alike-in-Some.alike (sym c.in-Some.ensures) c.in_ok-alike-in-Some.ensures.numbered c.in_ok-alike-in-Some.ensures.alike refl refl t

pub returns-in_ok-alike-in-Some-clause-no : goal.returns-in_ok-alike-in-Some-clause-no
returns-in_ok-alike-in-Some-clause-no c = λ t.
    meets_other c.args.sig.now c.args.pool.now c.args.state.now c.args.sort.0 c.args.number c.in-Some.other.now c.args.cell c.in_ok-alike-in-Some.alike (sym c.in-Some.ensures)
    c.in_ok-alike-in-Some.ensures.alike t

pub returns-in_ok-note_first-in-None-clause-yes : goal.returns-in_ok-note_first-in-None-clause-yes
returns-in_ok-note_first-in-None-clause-yes c = λ t.
    meets_first c.args.sig.now c.args.pool.now c.args.state.now (record { numbers = c.args.state.now.numbers; first = c.note_first.new.first; left = c.args.state.now.left }) c.args.sort.0 c.args.number
    c.args.cell (sym c.in-None.ensures) c.in_ok-note_first-in-None.ensures refl refl

pub read_alike-requires-clause-a : goal.read_alike-requires-clause-a
read_alike-requires-clause-a c = c.requires.can.first c.args.sort.0 c.args.number c.in-Some.other.now (sym c.in-Some.ensures)

pub returns-in_ok-alike-in-Some-clause-can : goal.returns-in_ok-alike-in-Some-clause-can
returns-in_ok-alike-in-Some-clause-can c =
    can_compare c.args.pool.now c.args.state.now (record { numbers = c.read_alike.new.numbers; first = c.args.state.now.first; left = c.args.state.now.left }) c.in_ok-alike-in-Some.ensures.count refl refl c.requires.can

pub returns-in_ok-note_first-in-None-clause-can : goal.returns-in_ok-note_first-in-None-clause-can
returns-in_ok-note_first-in-None-clause-can c =
    can_note c.args.pool.now c.args.state.now (record { numbers = c.args.state.now.numbers; first = c.note_first.new.first; left = c.args.state.now.left }) c.args.sort.0 c.args.number
    c.args.cell c.requires.there refl refl c.in_ok-note_first-in-None.ensures c.requires.can
