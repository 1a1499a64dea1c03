use Rattle.std.proofs.Common.{◌<◌, List, ◌∷◌, [], ◌++◌, map, reverse, sym, ap, ◌∙◌, subst}
use Rattle.psg_pool.specs.declared.cells.CellId.{CellId}
use Rattle.psg_pool.specs.Cells.{arguments_of}
use Rattle.psg_pool.specs.Bindings.{Holds}
use Rattle.psg_unify.specs.declared.walking.Item.{Item}
use Rattle.psg_unify.specs.declared.walking.Item.TheVariants.{Visit, Leave}
use Rattle.psg_unify.specs.Filling.{fresh}
use Rattle.psg_unify.proofs.Rounds.{on_top, next_bound, next_con, not_free_bound, not_free_con}
use Rattle.psg_unify.proofs.NumberSteps.{stays_none}
use Rattle.psg_unify.proofs.ReadWalk.{filling_top, filling_open, filling_next, not_opened, fresh_open, fresh_next}
use Rattle.psg_unify.proofs.numbering.go_to.Goals as goal

pub cell-cell-requires : goal.cell-cell-requires
cell-cell-requires c = (filling_top c.args.pool.now c.requires.filling.0 c.args.numbers.now.cells.items (Visit c.args.id) (reverse c.args.stack.now.items) c.requires.filling.1).0

pub number_open-requires : goal.number_open-requires
number_open-requires c = record {
  holds = subst (Holds c.args.pool.now c.args.id) c.in-Free.is c.cell-cell.ensures.holds;
  within = (filling_top c.args.pool.now c.requires.filling.0 c.args.numbers.now.cells.items (Visit c.args.id) (reverse c.args.stack.now.items) c.requires.filling.1).1;
}

pub returns-in_ok-number_open-in-Free-clause-stays : goal.returns-in_ok-number_open-in-Free-clause-stays
returns-in_ok-number_open-in-Free-clause-stays c = λ cells r.
    filling_open c.args.pool.now cells c.args.numbers.now.cells.items c.number_open.new.numbers.cells.items c.args.id (reverse c.args.stack.now.items) c.in_ok-number_open-in-Free.ensures.kept r

pub returns-in_ok-number_open-in-Free-clause-fewer : goal.returns-in_ok-number_open-in-Free-clause-fewer
returns-in_ok-number_open-in-Free-clause-fewer c =
    fresh_open c.args.numbers.now.cells.items c.number_open.new.numbers.cells.items c.args.id (reverse c.args.stack.now.items) c.in_ok-number_open-in-Free.ensures.kept
    (filling_top c.args.pool.now c.requires.filling.0 c.args.numbers.now.cells.items (Visit c.args.id) (reverse c.args.stack.now.items) c.requires.filling.1).1
    c.requires.other (not_opened c.args.pool.now c.requires.circles c.args.id (reverse c.args.stack.now.items) c.requires.filling.1.path)

pub returns-in_ok-push-in-Bound-2-clause-stays : goal.returns-in_ok-push-in-Bound-2-clause-stays
returns-in_ok-push-in-Bound-2-clause-stays c = λ cells r.
    filling_next c.args.pool.now cells c.mark-mark.ensures.sound c.args.numbers.now.cells.items c.args.id (reverse c.args.stack.now.items) (reverse c.push-in-Bound.new.self.items)
    (not_free_bound c.args.pool.now c.args.id c.in-Bound.to (subst (Holds c.args.pool.now c.args.id) c.in-Bound.is c.cell-cell.ensures.holds))
    (next_bound c.args.pool.now c.args.id c.in-Bound.to (Leave c.args.id ∷ reverse c.args.stack.now.items) (reverse c.push-in-Bound.new.self.items)
    (subst (Holds c.args.pool.now c.args.id) c.in-Bound.is c.cell-cell.ensures.holds)
    (on_top c.push.new.self.items c.push-in-Bound.new.self.items (Visit c.in-Bound.to) c.in_ok-push-in-Bound-2.ensures.items ∙ ap (λ l. Visit c.in-Bound.to ∷ l) (on_top c.args.stack.now.items c.push.new.self.items (Leave c.args.id) c.in_ok-push-in-Bound.ensures.items))) r

pub returns-in_ok-push-in-Bound-2-clause-fewer : goal.returns-in_ok-push-in-Bound-2-clause-fewer
returns-in_ok-push-in-Bound-2-clause-fewer c =
    subst (λ (l : List Item). fresh c.args.numbers.now.cells.items l < fresh c.args.numbers.now.cells.items (Visit c.args.id ∷ reverse c.args.stack.now.items))
    (sym (on_top c.push.new.self.items c.push-in-Bound.new.self.items (Visit c.in-Bound.to) c.in_ok-push-in-Bound-2.ensures.items ∙ ap (λ l. Visit c.in-Bound.to ∷ l) (on_top c.args.stack.now.items c.push.new.self.items (Leave c.args.id) c.in_ok-push-in-Bound.ensures.items)))
    (fresh_next c.args.numbers.now.cells.items c.args.id (c.in-Bound.to ∷ []) (reverse c.args.stack.now.items)
    (filling_top c.args.pool.now c.requires.filling.0 c.args.numbers.now.cells.items (Visit c.args.id) (reverse c.args.stack.now.items) c.requires.filling.1).1
    c.requires.other (not_opened c.args.pool.now c.requires.circles c.args.id (reverse c.args.stack.now.items) c.requires.filling.1.path))

pub returns-in_ok-push_arguments-in-Con-clause-stays : goal.returns-in_ok-push_arguments-in-Con-clause-stays
returns-in_ok-push_arguments-in-Con-clause-stays c = λ cells r.
    filling_next c.args.pool.now cells c.mark-mark.ensures.sound c.args.numbers.now.cells.items c.args.id (reverse c.args.stack.now.items) (reverse c.push_arguments.new.stack.items)
    (not_free_con c.args.pool.now c.args.id c.in-Con.con c.in-Con.count (subst (Holds c.args.pool.now c.args.id) c.in-Con.is c.cell-cell.ensures.holds))
    (next_con c.args.pool.now c.args.id c.in-Con.con c.in-Con.count (Leave c.args.id ∷ reverse c.args.stack.now.items) (reverse c.push_arguments.new.stack.items)
    (subst (Holds c.args.pool.now c.args.id) c.in-Con.is c.cell-cell.ensures.holds)
    (c.in_ok-push_arguments-in-Con.ensures
    ∙ ap (λ l. map (λ (a : CellId). Visit a) (arguments_of c.args.pool.now.cells c.args.id) ++ l) (on_top c.args.stack.now.items c.push-in-Con.new.self.items (Leave c.args.id) c.in_ok-push-in-Con.ensures.items))) r

pub returns-in_ok-push_arguments-in-Con-clause-fewer : goal.returns-in_ok-push_arguments-in-Con-clause-fewer
returns-in_ok-push_arguments-in-Con-clause-fewer c =
    subst (λ (l : List Item). fresh c.args.numbers.now.cells.items l < fresh c.args.numbers.now.cells.items (Visit c.args.id ∷ reverse c.args.stack.now.items))
    (sym (c.in_ok-push_arguments-in-Con.ensures
    ∙ ap (λ l. map (λ (a : CellId). Visit a) (arguments_of c.args.pool.now.cells c.args.id) ++ l) (on_top c.args.stack.now.items c.push-in-Con.new.self.items (Leave c.args.id) c.in_ok-push-in-Con.ensures.items)))
    (fresh_next c.args.numbers.now.cells.items c.args.id (arguments_of c.args.pool.now.cells c.args.id) (reverse c.args.stack.now.items)
    (filling_top c.args.pool.now c.requires.filling.0 c.args.numbers.now.cells.items (Visit c.args.id) (reverse c.args.stack.now.items) c.requires.filling.1).1
    c.requires.other (not_opened c.args.pool.now c.requires.circles c.args.id (reverse c.args.stack.now.items) c.requires.filling.1.path))

pub returns-in_ok-push-in-Bound-2-clause-numbered : goal.returns-in_ok-push-in-Bound-2-clause-numbered
returns-in_ok-push-in-Bound-2-clause-numbered c = stays_none c.args.sig.now c.args.pool.now c.args.numbers.now

pub returns-in_ok-push_arguments-in-Con-clause-numbered : goal.returns-in_ok-push_arguments-in-Con-clause-numbered
returns-in_ok-push_arguments-in-Con-clause-numbered c = stays_none c.args.sig.now c.args.pool.now c.args.numbers.now
