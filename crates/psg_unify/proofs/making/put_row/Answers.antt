use Rattle.std.proofs.Common.{◌≡◌, [], List, refl, sym, ap, ◌∙◌, subst, arith}
use Rattle.psg_terms.specs.Canonical.{Variable, noted_all, variables_of}
use Rattle.psg_terms.specs.Renaming.{keys, opens}
use Rattle.psg_pool.specs.Bindings.{Kept}
use Rattle.psg_unify.specs.Putting.{PutsKnown}
use Rattle.psg_unify.specs.Making.{IsPutting}
use Rattle.psg_unify.proofs.VariablesPut.{longer_both}
use Rattle.psg_unify.proofs.PuttingEnds.{put_begins, put_ends, before_is}
use Rattle.psg_unify.proofs.PuttingTasks.{may_begin, room_for}
use Rattle.psg_unify.proofs.making.put_row.Goals as goal

pub put_terms-requires-clause-may : goal.put_terms-requires-clause-may
put_terms-requires-clause-may c =
    let none : keys c.new-known.result.keys ≡ [] = ap keys c.new-known.ensures.empty in
    may_begin c.args.sig.now (keys c.put_variables.new.known.keys) c.args.row.now
    (c.in_ok-put_variables.ensures.known ∙ ap (λ l. noted_all l (opens c.args.sig.now (variables_of c.args.row.now))) none)

pub put_terms-requires-clause-room : goal.put_terms-requires-clause-room
put_terms-requires-clause-room c =
    let none : keys c.new-known.result.keys ≡ [] = ap keys c.new-known.ensures.empty in
    let e = room_for c.args.pool.now.cells c.put_variables.new.pool.cells (keys c.new-known.result.keys) (keys c.put_variables.new.known.keys) c.count-base.result c.count-end.result
    c.count-base.ensures c.count-end.ensures none c.in_ok-put_variables.ensures.cells in
    omega (arith, e)

pub put_terms-requires-clause-putting : goal.put_terms-requires-clause-putting
put_terms-requires-clause-putting c =
    let none : keys c.new-known.result.keys ≡ [] = ap keys c.new-known.ensures.empty in (
      c.args.pool.now,
      c.mark-mark.ensures.sound,
      c.count-base.ensures,
      put_begins c.args.sig.now c.args.pool.now (keys c.put_variables.new.known.keys) c.args.row.now c.put_variables.new.pool _ [] c.requires.terms.0 c.sound.ensures c.requires.terms.1
          c.mark-mark.ensures.sound c.requires.fits
          (subst (λ (l : List Variable). PutsKnown c.args.pool.now.cells c.put_variables.new.pool.cells l (keys c.put_variables.new.known.keys)) none c.in_ok-put_variables.ensures.cells)
          c.put_variables.ensures.longer.bindings_are
          (c.in_ok-put_variables.ensures.known ∙ ap (λ l. noted_all l (opens c.args.sig.now (variables_of c.args.row.now))) none)
          refl refl,
    )

pub returns-clause-put : goal.returns-clause-put
returns-clause-put c =
    let none : keys c.new-known.result.keys ≡ [] = ap keys c.new-known.ensures.empty in
    let h = c.in_ok-cells.ensures.put in
    let whole = longer_both c.args.pool.now c.put_variables.new.pool c.put_terms.new.pool c.put_variables.ensures.longer c.in_ok-cells.ensures.longer in
    let same : h.0 ≡ c.args.pool.now = before_is h.0 c.args.pool.now c.put_terms.new.pool h.2.longer whole (sym h.1 ∙ c.count-base.ensures) in
    put_ends c.args.sig.now c.args.pool.now (keys c.put_variables.new.known.keys) c.args.row.now c.put_terms.new.pool [] c.in_ok-cells.cells.items
    (c.in_ok-put_variables.ensures.known ∙ ap (λ l. noted_all l (opens c.args.sig.now (variables_of c.args.row.now))) none) refl
    (subst (λ (k : Kept). IsPutting c.args.sig.now k (keys c.put_variables.new.known.keys) c.args.row.now c.put_terms.new.pool [] c.in_ok-cells.cells.items) same h.2)
