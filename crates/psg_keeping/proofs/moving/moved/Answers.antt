use Rattle.std.proofs.Common.{◌≡◌, ◌∷◌, [], ◌++◌, length, rules, sym, ap, ◌∙◌, subst, arith}
use Rattle.std.specs.Prelude.{reverse}
use Rattle.psg_keeping.specs.Moving.{AreAfters}
use Rattle.psg_keeping.proofs.MoveLaws.{moved_next, words_end}
use Rattle.psg_keeping.proofs.moving.moved.Goals as goal

pub loop-note-preserved : goal.loop-note-preserved
loop-note-preserved c =
    let own = c.args.steps.now in
    moved_next own c.args.lines.now c.args.notes.now c.loop-note.note-index c.note-item.result c.loop-note.new.items
    c.push.new.self.items c.loop-note.low c.goes-place.result c.later-low.result c.loop-note.invariant c.loop-note-test.true c.note-item.is
    (c.goes-place.ensures own
    (subst (λ l. AreAfters own l) (sym c.as_slice-in-loop-note.ensures) c.in_ok-after.ensures.places)
    (subst (λ l. AreAfters (reverse own) l) (sym c.as_slice-in-loop-note-2.ensures)
    (subst (λ s. AreAfters s c.in_ok-before.before.places) (c.as_slice.ensures.value ∙ c.in_ok-turned.ensures) c.in_ok-before.ensures.places))
    c.in_ok-after.ensures.all) c.later-low.ensures
    (c.in_ok-push.ensures.items ∙ ap (λ z. c.loop-note.new.items ++ z ∷ []) c.in_ok-placed.ensures)

pub returns-clause-words : goal.returns-clause-words
returns-clause-words c =
    let end : c.loop-note.note-index ≡ length c.args.notes.now = search rules in
    words_end c.args.steps.now c.args.lines.now c.args.notes.now c.loop-note.note-index c.loop-note.new.items c.loop-note.low
    c.loop-note.invariant (omega (arith, end))
