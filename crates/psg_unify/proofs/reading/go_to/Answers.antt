use Rattle.std.proofs.Common.{◌<◌, List, ◌∷◌, [], ◌++◌, map, reverse, sym, ap, ◌∙◌, subst}
use Rattle.psg_terms.specs.Renaming.{keys}
use Rattle.psg_pool.specs.declared.cells.CellId.{CellId}
use Rattle.psg_pool.specs.Cells.{arguments_of}
use Rattle.psg_pool.specs.Bindings.{Holds}
use Rattle.psg_unify.specs.declared.walking.Item.{Item}
use Rattle.psg_unify.specs.declared.walking.Item.TheVariants.{Visit, Leave}
use Rattle.psg_unify.specs.ReadOut.{ReadsOn}
use Rattle.psg_unify.specs.Filling.{fresh}
use Rattle.psg_unify.proofs.Rounds.{on_top, next_bound, next_con, not_free_bound, not_free_con}
use Rattle.psg_unify.proofs.ReadSteps.{reads_bound, reads_con}
use Rattle.psg_unify.proofs.ReadWalk.{filling_top, filling_open, filling_next, falls_round, not_opened, fresh_open, fresh_next}
use Rattle.psg_unify.proofs.reading.go_to.Goals as goal

pub cell-cell-requires : goal.cell-cell-requires
cell-cell-requires c = (filling_top c.args.pool.now c.requires.readable.0 c.args.written.now.items (Visit c.args.id) (reverse c.args.stack.now.items) c.requires.readable.1).0

pub write_open-requires : goal.write_open-requires
write_open-requires c = record {
  holds = subst (Holds c.args.pool.now c.args.id) c.in-Free.is c.cell-cell.ensures.holds;
  within = (filling_top c.args.pool.now c.requires.readable.0 c.args.written.now.items (Visit c.args.id) (reverse c.args.stack.now.items) c.requires.readable.1).1;
}

pub returns-in_ok-write_open-in-Free-clause-reads : goal.returns-in_ok-write_open-in-Free-clause-reads
returns-in_ok-write_open-in-Free-clause-reads c = c.in_ok-write_open-in-Free.ensures.reads (reverse c.args.stack.now.items)

pub returns-in_ok-write_open-in-Free-clause-stays : goal.returns-in_ok-write_open-in-Free-clause-stays
returns-in_ok-write_open-in-Free-clause-stays c = λ cells r.
    filling_open c.args.pool.now cells c.args.written.now.items c.write_open.new.written.items c.args.id (reverse c.args.stack.now.items) c.in_ok-write_open-in-Free.ensures.kept r

pub returns-in_ok-write_open-in-Free-clause-fewer : goal.returns-in_ok-write_open-in-Free-clause-fewer
returns-in_ok-write_open-in-Free-clause-fewer c =
    fresh_open c.args.written.now.items c.write_open.new.written.items c.args.id (reverse c.args.stack.now.items) c.in_ok-write_open-in-Free.ensures.kept
    (filling_top c.args.pool.now c.requires.readable.0 c.args.written.now.items (Visit c.args.id) (reverse c.args.stack.now.items) c.requires.readable.1).1
    c.requires.other (not_opened c.args.pool.now (falls_round c.args.pool.now c.requires.falls.0 c.requires.falls.1) c.args.id (reverse c.args.stack.now.items) c.requires.readable.1.path)

pub returns-in_ok-push-in-Bound-2-clause-reads : goal.returns-in_ok-push-in-Bound-2-clause-reads
returns-in_ok-push-in-Bound-2-clause-reads c =
    subst (ReadsOn c.args.sig.now c.args.pool.now (keys c.args.known.now.keys) (keys c.args.known.now.keys) c.args.written.now.items c.args.written.now.items (Visit c.args.id ∷ reverse c.args.stack.now.items))
    (sym (on_top c.push.new.self.items c.push-in-Bound.new.self.items (Visit c.in-Bound.to) c.in_ok-push-in-Bound-2.ensures.items ∙ ap (λ l. Visit c.in-Bound.to ∷ l) (on_top c.args.stack.now.items c.push.new.self.items (Leave c.args.id) c.in_ok-push-in-Bound.ensures.items)))
    (reads_bound c.args.sig.now c.args.pool.now (keys c.args.known.now.keys) c.args.written.now.items c.args.id c.in-Bound.to (reverse c.args.stack.now.items)
    (subst (Holds c.args.pool.now c.args.id) c.in-Bound.is c.cell-cell.ensures.holds))

pub returns-in_ok-push-in-Bound-2-clause-stays : goal.returns-in_ok-push-in-Bound-2-clause-stays
returns-in_ok-push-in-Bound-2-clause-stays c = λ cells r.
    filling_next c.args.pool.now cells c.mark-mark.ensures.sound c.args.written.now.items c.args.id (reverse c.args.stack.now.items) (reverse c.push-in-Bound.new.self.items)
    (not_free_bound c.args.pool.now c.args.id c.in-Bound.to (subst (Holds c.args.pool.now c.args.id) c.in-Bound.is c.cell-cell.ensures.holds))
    (next_bound c.args.pool.now c.args.id c.in-Bound.to (Leave c.args.id ∷ reverse c.args.stack.now.items) (reverse c.push-in-Bound.new.self.items)
    (subst (Holds c.args.pool.now c.args.id) c.in-Bound.is c.cell-cell.ensures.holds)
    (on_top c.push.new.self.items c.push-in-Bound.new.self.items (Visit c.in-Bound.to) c.in_ok-push-in-Bound-2.ensures.items ∙ ap (λ l. Visit c.in-Bound.to ∷ l) (on_top c.args.stack.now.items c.push.new.self.items (Leave c.args.id) c.in_ok-push-in-Bound.ensures.items))) r

pub returns-in_ok-push-in-Bound-2-clause-fewer : goal.returns-in_ok-push-in-Bound-2-clause-fewer
returns-in_ok-push-in-Bound-2-clause-fewer c =
    subst (λ (l : List Item). fresh c.args.written.now.items l < fresh c.args.written.now.items (Visit c.args.id ∷ reverse c.args.stack.now.items))
    (sym (on_top c.push.new.self.items c.push-in-Bound.new.self.items (Visit c.in-Bound.to) c.in_ok-push-in-Bound-2.ensures.items ∙ ap (λ l. Visit c.in-Bound.to ∷ l) (on_top c.args.stack.now.items c.push.new.self.items (Leave c.args.id) c.in_ok-push-in-Bound.ensures.items)))
    (fresh_next c.args.written.now.items c.args.id (c.in-Bound.to ∷ []) (reverse c.args.stack.now.items)
    (filling_top c.args.pool.now c.requires.readable.0 c.args.written.now.items (Visit c.args.id) (reverse c.args.stack.now.items) c.requires.readable.1).1
    c.requires.other (not_opened c.args.pool.now (falls_round c.args.pool.now c.requires.falls.0 c.requires.falls.1) c.args.id (reverse c.args.stack.now.items) c.requires.readable.1.path))

pub returns-in_ok-push_arguments-in-Con-clause-reads : goal.returns-in_ok-push_arguments-in-Con-clause-reads
returns-in_ok-push_arguments-in-Con-clause-reads c =
    subst (ReadsOn c.args.sig.now c.args.pool.now (keys c.args.known.now.keys) (keys c.args.known.now.keys) c.args.written.now.items c.args.written.now.items (Visit c.args.id ∷ reverse c.args.stack.now.items))
    (sym (c.in_ok-push_arguments-in-Con.ensures
    ∙ ap (λ l. map (λ (a : CellId). Visit a) (arguments_of c.args.pool.now.cells c.args.id) ++ l) (on_top c.args.stack.now.items c.push-in-Con.new.self.items (Leave c.args.id) c.in_ok-push-in-Con.ensures.items)))
    (reads_con c.args.sig.now c.args.pool.now (keys c.args.known.now.keys) c.args.written.now.items c.args.id c.in-Con.con c.in-Con.count (reverse c.args.stack.now.items)
    (subst (Holds c.args.pool.now c.args.id) c.in-Con.is c.cell-cell.ensures.holds))

pub returns-in_ok-push_arguments-in-Con-clause-stays : goal.returns-in_ok-push_arguments-in-Con-clause-stays
returns-in_ok-push_arguments-in-Con-clause-stays c = λ cells r.
    filling_next c.args.pool.now cells c.mark-mark.ensures.sound c.args.written.now.items c.args.id (reverse c.args.stack.now.items) (reverse c.push_arguments.new.stack.items)
    (not_free_con c.args.pool.now c.args.id c.in-Con.con c.in-Con.count (subst (Holds c.args.pool.now c.args.id) c.in-Con.is c.cell-cell.ensures.holds))
    (next_con c.args.pool.now c.args.id c.in-Con.con c.in-Con.count (Leave c.args.id ∷ reverse c.args.stack.now.items) (reverse c.push_arguments.new.stack.items)
    (subst (Holds c.args.pool.now c.args.id) c.in-Con.is c.cell-cell.ensures.holds)
    (c.in_ok-push_arguments-in-Con.ensures
    ∙ ap (λ l. map (λ (a : CellId). Visit a) (arguments_of c.args.pool.now.cells c.args.id) ++ l) (on_top c.args.stack.now.items c.push-in-Con.new.self.items (Leave c.args.id) c.in_ok-push-in-Con.ensures.items))) r

pub returns-in_ok-push_arguments-in-Con-clause-fewer : goal.returns-in_ok-push_arguments-in-Con-clause-fewer
returns-in_ok-push_arguments-in-Con-clause-fewer c =
    subst (λ (l : List Item). fresh c.args.written.now.items l < fresh c.args.written.now.items (Visit c.args.id ∷ reverse c.args.stack.now.items))
    (sym (c.in_ok-push_arguments-in-Con.ensures
    ∙ ap (λ l. map (λ (a : CellId). Visit a) (arguments_of c.args.pool.now.cells c.args.id) ++ l) (on_top c.args.stack.now.items c.push-in-Con.new.self.items (Leave c.args.id) c.in_ok-push-in-Con.ensures.items)))
    (fresh_next c.args.written.now.items c.args.id (arguments_of c.args.pool.now.cells c.args.id) (reverse c.args.stack.now.items)
    (filling_top c.args.pool.now c.requires.readable.0 c.args.written.now.items (Visit c.args.id) (reverse c.args.stack.now.items) c.requires.readable.1).1
    c.requires.other (not_opened c.args.pool.now (falls_round c.args.pool.now c.requires.falls.0 c.requires.falls.1) c.args.id (reverse c.args.stack.now.items) c.requires.readable.1.path))
