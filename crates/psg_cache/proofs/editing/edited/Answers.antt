use Rattle.std.proofs.Common.{arith, ap, subst, sym}
use Rattle.psg_cache.specs.Changes.{ticks_of}
use Rattle.psg_cache.specs.Noted.{IsNotedAs}
use Rattle.psg_cache.proofs.ChangeLaws.{edit_add, edit_put, edit_take}
use Rattle.psg_cache.proofs.editing.edited.Goals as goal

pub returns-in_ok-all-in-Put-clause-ok : goal.returns-in_ok-all-in-Put-clause-ok
returns-in_ok-all-in-Put-clause-ok g c =
    let def = c.args.language.definition.now in
    let put = edit_put def c.args.note.now c.args.edit.now c.in-Put.new c.args.made.now c.in-Put.is c.requires.place in
    subst (IsNotedAs def c.args.made.now) (sym c.in_ok-all-in-Put.ensures) put

pub added-requires-clause-place : goal.added-requires-clause-place
added-requires-clause-place g c =
    edit_add c.args.language.definition.now c.args.note.now c.args.edit.now c.in-Add.place c.in-Add.new c.args.made.now
    c.in-Add.is c.requires.place

pub returns-in-Add-clause-bounded : goal.returns-in-Add-clause-bounded
returns-in-Add-clause-bounded g c =
    let ticks = ap ticks_of c.in-Add.is in
    omega (arith, ticks, c.added.ensures.bounded)

pub taken-requires-clause-place : goal.taken-requires-clause-place
taken-requires-clause-place g c =
    edit_take c.args.language.definition.now c.args.note.now c.args.edit.now c.in-Take.place c.args.made.now
    c.in-Take.is c.requires.place

pub returns-in-Take-clause-bounded : goal.returns-in-Take-clause-bounded
returns-in-Take-clause-bounded g c =
    let ticks = ap ticks_of c.in-Take.is in
    omega (arith, ticks, c.taken.ensures.bounded)
