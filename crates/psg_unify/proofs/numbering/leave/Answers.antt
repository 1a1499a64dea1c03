use Rattle.std.proofs.Common.{◌≡◌, ◌∷◌, Some, slice_get, set, inl, refl, sym, subst}
use Rattle.psg_terms.specs.Relations.{first}
use Rattle.psg_pool.specs.Bindings.{Holds}
use Rattle.psg_unify.specs.declared.walking.Item.TheVariants.{Leave}
use Rattle.psg_unify.specs.Filling.{IsFilled, IsFilling}
use Rattle.psg_unify.proofs.FormLaws.{one_more}
use Rattle.psg_unify.proofs.NumberSteps.{numbers_bound, numbers_made}
use Rattle.psg_unify.proofs.ReadWalk.{filling_top, arguments_have}
use Rattle.psg_unify.proofs.numbering.leave.Goals as goal

pub cell-cell-requires : goal.cell-cell-requires
cell-cell-requires c = (filling_top c.args.pool.now c.requires.0 c.args.numbers.now.cells.items (Leave c.args.id) c.requires.1 c.requires.2).0

pub unreachable-requires : goal.unreachable-requires
unreachable-requires c = c.requires.2.leads c.args.id c.in-Free.field-0 first (subst (Holds c.args.pool.now c.args.id) c.in-Free.is c.cell-cell.ensures.holds)

pub number_of-number-requires : goal.number_of-number-requires
number_of-number-requires c =
    subst (λ w. IsFilled w c.in-Bound.to) (sym c.as_slice.ensures.value)
    (c.requires.2.due.0 c.in-Bound.to (inl (subst (Holds c.args.pool.now c.args.id) c.in-Bound.is c.cell-cell.ensures.holds).1))

pub set_number-requires : goal.set_number-requires
set_number-requires c = (filling_top c.args.pool.now c.requires.0 c.args.numbers.now.cells.items (Leave c.args.id) c.requires.1 c.requires.2).1

pub returns-in-Bound-clause-numbered : goal.returns-in-Bound-clause-numbered
returns-in-Bound-clause-numbered c =
    numbers_bound c.args.sig.now c.args.pool.now c.args.numbers.now (record { forms = c.args.numbers.now.forms; cells = c.set_number.new.cells }) c.args.id c.in-Bound.to c.number_of-number.result
    (subst (Holds c.args.pool.now c.args.id) c.in-Bound.is c.cell-cell.ensures.holds) refl
    (subst (λ w. slice_get w c.in-Bound.to.0 ≡ Some (Some c.number_of-number.result)) c.as_slice.ensures.value c.number_of-number.ensures)
    (one_more c.args.numbers.now.cells.items c.set_number.new.cells.items c.args.id c.number_of-number.result c.set_number.ensures)

pub returns-in-Bound-clause-kept : goal.returns-in-Bound-clause-kept
returns-in-Bound-clause-kept c = (c.number_of-number.result, c.set_number.ensures)

pub number_made-requires : goal.number_made-requires
number_made-requires c = record {
  holds = subst (Holds c.args.pool.now c.args.id) c.in-Con.is c.cell-cell.ensures.holds;
  there = arguments_have c.args.pool.now c.requires.0 c.args.numbers.now.cells.items c.args.id c.requires.1 c.requires.2;
}

pub set_number-requires-in-Con : goal.set_number-requires-in-Con
set_number-requires-in-Con c =
    (filling_top c.args.pool.now c.requires.0 c.number_made.new.numbers.cells.items (Leave c.args.id) c.requires.1 (subst (λ v. IsFilling c.args.pool.now c.requires.0 v.items (Leave c.args.id ∷ c.requires.1)) (sym c.in_ok-made-in-Con.ensures.cells) c.requires.2)).1

pub returns-in_ok-made-in-Con-clause-numbered : goal.returns-in_ok-made-in-Con-clause-numbered
returns-in_ok-made-in-Con-clause-numbered c =
    numbers_made c.args.sig.now c.args.pool.now c.args.numbers.now c.number_made.new.numbers (record { forms = c.number_made.new.numbers.forms; cells = c.set_number-in-Con.new.cells }) c.args.id
    c.in_ok-made-in-Con.made c.in_ok-made-in-Con.ensures.numbered c.in_ok-made-in-Con.ensures.number refl
    (one_more c.number_made.new.numbers.cells.items c.set_number-in-Con.new.cells.items c.args.id c.in_ok-made-in-Con.made c.set_number-in-Con.ensures)

pub returns-in_ok-made-in-Con-clause-kept : goal.returns-in_ok-made-in-Con-clause-kept
returns-in_ok-made-in-Con-clause-kept c = (c.in_ok-made-in-Con.made, subst (λ v. c.set_number-in-Con.new.cells.items ≡ set v.items c.args.id.0 (Some c.in_ok-made-in-Con.made)) c.in_ok-made-in-Con.ensures.cells c.set_number-in-Con.ensures)
