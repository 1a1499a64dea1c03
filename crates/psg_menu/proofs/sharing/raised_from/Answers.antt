use Rattle.std.proofs.Common.{rules, ◌≡◌, sym, subst}
use Rattle.std.specs.Prelude.{Ok, Err}
use Rattle.psg_menu.specs.declared.entries.Entry.{Entry}
use Rattle.psg_menu.specs.Sharing.{IsRaisedFrom, IsUsual, rise_of}
use Rattle.psg_menu.proofs.Moving.{entry_at, entry_got, key_free, move_at, moves_grow, moves_more, new_move, part_at, renamed_usual, straight_at}
use Rattle.psg_menu.proofs.sharing.raised_from.Goals as goal

pub raised_entry-requires-clause-usual : goal.raised_entry-requires-clause-usual
raised_entry-requires-clause-usual g c =
    let def = c.args.way.definition.now in
    let e : Entry = c.index-below-place.result in
    let (kind, up, can, usual) = c.requires.usual in
    let u = entry_at (λ (x : Entry). IsUsual def kind x.own) c.args.below.now c.args.place e usual c.requires.place c.index-below-place.is in
    (kind, up, can, renamed_usual def kind c.args.way.star.now c.args.name.now e.own c.in_ok-own.own u c.in_ok-own.ensures.renamed c.in_ok-own.ensures.summary)

pub returns-in_err-apart-clause-raised : goal.returns-in_err-apart-clause-raised
returns-in_err-apart-clause-raised g c = λ old here.
    let def = c.args.way.definition.now in
    let rise = rise_of c.args.way.rung in
    let star = c.args.way.star.now in
    let n = c.args.name.now in
    let below = c.args.below.now in
    let e : Entry = c.index-below-place.result in
    let above = c.raised_entry.new.above.all.items in
    let fault = c.in_err-apart.field-0.0 in
    let d : c.from_residual-in_err-apart.result ≡ Err fault = search rules in
    subst (IsRaisedFrom def rise star n old above) (sym d)
    (part_at def rise star n below c.args.place e c.index-below-place.is c.in_ok-own.own above (Err fault) (c.parts.ensures.parts c.if-parts.true)
    (key_free c.header.result.now e.own n c.has_key.result c.header.ensures c.has_key.ensures c.if-has_key.false) c.in_ok-own.ensures.renamed c.in_err-apart.ensures.raised old here)

pub returns-then-parts-clause-raised : goal.returns-then-parts-clause-raised
returns-then-parts-clause-raised g c =
    let def = c.args.way.definition.now in
    let rise = rise_of c.args.way.rung in
    let star = c.args.way.star.now in
    let n = c.args.name.now in
    let below = c.args.below.now in
    let e : Entry = c.index-below-place.result in
    part_at def rise star n below c.args.place e c.index-below-place.is c.in_ok-own.own c.raised_entry.new.above.all.items (Ok c.in_ok-apart.apart) (c.parts.ensures.parts c.if-parts.true)
    (key_free c.header.result.now e.own n c.has_key.result c.header.ensures c.has_key.ensures c.if-has_key.false) c.in_ok-own.ensures.renamed c.in_ok-apart.ensures.raised

pub returns-then-parts-clause-usual : goal.returns-then-parts-clause-usual
returns-then-parts-clause-usual g c = λ kind up can usual all.
    let def = c.args.way.definition.now in
    let e : Entry = c.index-below-place.result in
    let u = entry_at (λ (x : Entry). IsUsual def kind x.own) c.args.below.now c.args.place e usual c.requires.place c.index-below-place.is in
    c.in_ok-apart.ensures.usual kind up can
    (renamed_usual def kind c.args.way.star.now c.args.name.now e.own c.in_ok-own.own u c.in_ok-own.ensures.renamed c.in_ok-own.ensures.summary) all

pub returns-then-parts-clause-moves : goal.returns-then-parts-clause-moves
returns-then-parts-clause-moves g c =
    moves_grow c.args.way.definition.now (rise_of c.args.way.rung) c.args.below.now c.args.above.now.all.items c.raised_entry.new.above.all.items c.args.moves.now.all.items c.in_ok-apart.ensures.others
    c.requires.moves

pub returns-in-Some-clause-raised : goal.returns-in-Some-clause-raised
returns-in-Some-clause-raised g c =
    let def = c.args.way.definition.now in
    let rise = rise_of c.args.way.rung in
    let star = c.args.way.star.now in
    let n = c.args.name.now in
    let below = c.args.below.now in
    let e : Entry = c.index-below-place.result in
    let above = c.args.above.now.all.items in
    move_at def rise star n below c.args.place e c.index-below-place.is above c.args.moves.now.all.items c.in-Some.before c.requires.place
    c.requires.moves c.in-Some.ensures (c.parts.ensures.shares c.if-parts.false)

pub raised_entry-requires-2-clause-usual : goal.raised_entry-requires-2-clause-usual
raised_entry-requires-2-clause-usual g c =
    let def = c.args.way.definition.now in
    let (kind, up, can, usual) = c.requires.usual in
    (kind, up, can, entry_at (λ (x : Entry). IsUsual def kind x.own) c.args.below.now c.args.place c.index-below-place.result usual c.requires.place c.index-below-place.is)

pub returns-in_err-to-clause-raised : goal.returns-in_err-to-clause-raised
returns-in_err-to-clause-raised g c = λ old here.
    let def = c.args.way.definition.now in
    let rise = rise_of c.args.way.rung in
    let star = c.args.way.star.now in
    let n = c.args.name.now in
    let below = c.args.below.now in
    let e : Entry = c.index-below-place.result in
    let above = c.raised_entry-2.new.above.all.items in
    let fault = c.in_err-to.field-0.0 in
    let d : c.from_residual-in_err-to.result ≡ Err fault = search rules in
    subst (IsRaisedFrom def rise star n old above) (sym d)
    (straight_at def rise star n below c.args.place e c.index-below-place.is above (Err fault) (c.parts.ensures.shares c.if-parts.false) c.in_err-to.ensures.raised old here)

pub returns-clause-raised : goal.returns-clause-raised
returns-clause-raised g c =
    let def = c.args.way.definition.now in
    let rise = rise_of c.args.way.rung in
    let star = c.args.way.star.now in
    let n = c.args.name.now in
    let below = c.args.below.now in
    let e : Entry = c.index-below-place.result in
    straight_at def rise star n below c.args.place e c.index-below-place.is c.raised_entry-2.new.above.all.items (Ok c.in_ok-to.to) (c.parts.ensures.shares c.if-parts.false) c.in_ok-to.ensures.raised

pub returns-clause-usual : goal.returns-clause-usual
returns-clause-usual g c = λ kind up can usual all.
    let def = c.args.way.definition.now in
    c.in_ok-to.ensures.usual kind up can
    (entry_at (λ (x : Entry). IsUsual def kind x.own) c.args.below.now c.args.place c.index-below-place.result usual c.requires.place c.index-below-place.is) all

pub returns-clause-moves : goal.returns-clause-moves
returns-clause-moves g c =
    let def = c.args.way.definition.now in
    let rise = rise_of c.args.way.rung in
    let below = c.args.below.now in
    let above = c.raised_entry-2.new.above.all.items in
    let e : Entry = c.index-below-place.result in
    moves_more def rise below above c.args.moves.now.all.items c.add.new.self.all.items (record { from = c.args.place; to = c.in_ok-to.to })
    (moves_grow def rise below c.args.above.now.all.items above c.args.moves.now.all.items c.in_ok-to.ensures.others c.requires.moves) c.in_ok-add.ensures
    (new_move def rise below above c.args.place c.in_ok-to.to e (entry_got below c.args.place e c.requires.place c.index-below-place.is) c.in_ok-to.ensures.raised)
