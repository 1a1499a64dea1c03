use Rattle.std.proofs.Common.{◌≡◌, ◌∙◌, ap₂, arith, sym, false}
use Rattle.psg_cache.specs.Alike.{hole_number}
use Rattle.psg_cache.specs.Diff.{same_some}
use Rattle.psg_cache.proofs.PairLaws.{other_differs, other_whole, same_hole}
use Rattle.psg_cache.proofs.RealTrees.{real}
use Rattle.psg_cache.proofs.renoting.unpaired.Goals as goal

pub returns-then-same-clause-ok : goal.returns-then-same-clause-ok
returns-then-same-clause-ok g c =
    same_hole c.args.old.now c.args.new.now
    (sym (c.same_number-same.ensures ∙ ap₂ (λ x y. same_some x y) c.hole_in-before.ensures c.hole_in-after.ensures)
    ∙ c.if-same.true)

pub returns-in_err-note-clause-bounded : goal.returns-in_err-note-clause-bounded
returns-in_err-note-clause-bounded g c =
    let def = c.args.language.definition.now in
    let other : same_some (hole_number c.args.old.now) (hole_number c.args.new.now) ≡ false =
    sym (c.same_number-same.ensures ∙ ap₂ (λ x y. same_some x y) c.hole_in-before.ensures c.hole_in-after.ensures)
    ∙ c.if-same.false in
    let whole = other_whole c.args.old.now c.args.new.now c.requires.apart
    (other_differs c.args.old.now c.args.new.now (real def c.args.old.now c.requires.formed_old) c.requires.apart other) in
    omega (arith, whole, c.walk.ensures.bounded)

pub returns-clause-ok : goal.returns-clause-ok
returns-clause-ok g c =
    let def = c.args.language.definition.now in
    let other : same_some (hole_number c.args.old.now) (hole_number c.args.new.now) ≡ false =
    sym (c.same_number-same.ensures ∙ ap₂ (λ x y. same_some x y) c.hole_in-before.ensures c.hole_in-after.ensures)
    ∙ c.if-same.false in (
      other_differs c.args.old.now c.args.new.now (real def c.args.old.now c.requires.formed_old) c.requires.apart other,
      c.in_ok-note.ensures.ok,
    )

pub returns-clause-bounded : goal.returns-clause-bounded
returns-clause-bounded g c =
    let def = c.args.language.definition.now in
    let other : same_some (hole_number c.args.old.now) (hole_number c.args.new.now) ≡ false =
    sym (c.same_number-same.ensures ∙ ap₂ (λ x y. same_some x y) c.hole_in-before.ensures c.hole_in-after.ensures)
    ∙ c.if-same.false in
    let whole = other_whole c.args.old.now c.args.new.now c.requires.apart
    (other_differs c.args.old.now c.args.new.now (real def c.args.old.now c.requires.formed_old) c.requires.apart other) in
    omega (arith, whole, c.walk.ensures.bounded)
