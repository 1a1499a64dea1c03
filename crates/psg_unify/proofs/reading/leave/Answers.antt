use Rattle.std.proofs.Common.{◌≡◌, Some, slice_get, sym, subst}
use Rattle.psg_pool.specs.Cells.{arguments_of}
use Rattle.psg_pool.specs.Bindings.{Holds}
use Rattle.psg_unify.specs.declared.walking.Item.TheVariants.{Leave}
use Rattle.psg_terms.specs.Relations.{first}
use Rattle.std.proofs.Common.{inl, All}
use Rattle.psg_unify.specs.ReadOut.{AreWritten}
use Rattle.psg_unify.specs.Filling.{IsFilled}
use Rattle.psg_unify.proofs.ReadSteps.{leaves_bound, leaves_con, new_at}
use Rattle.psg_unify.proofs.ReadWalk.{filling_top, arguments_have}
use Rattle.psg_unify.proofs.reading.leave.Goals as goal

pub cell-cell-requires : goal.cell-cell-requires
cell-cell-requires c = (filling_top c.args.pool.now c.requires.0 c.args.written.now.items (Leave c.args.id) c.requires.1 c.requires.2).0

pub unreachable-requires : goal.unreachable-requires
unreachable-requires c = c.requires.2.leads c.args.id c.in-Free.field-0 first (subst (Holds c.args.pool.now c.args.id) c.in-Free.is c.cell-cell.ensures.holds)

pub written_of-requires : goal.written_of-requires
written_of-requires c =
    subst (λ w. IsFilled w c.in-Bound.to) (sym c.as_slice.ensures.value)
    (c.requires.2.due.0 c.in-Bound.to (inl (subst (Holds c.args.pool.now c.args.id) c.in-Bound.is c.cell-cell.ensures.holds).1))

pub keep-requires : goal.keep-requires
keep-requires c = (filling_top c.args.pool.now c.requires.0 c.args.written.now.items (Leave c.args.id) c.requires.1 c.requires.2).1

pub returns-in_ok-term-in-Bound-clause-reads : goal.returns-in_ok-term-in-Bound-clause-reads
returns-in_ok-term-in-Bound-clause-reads c = λ s known rest.
    leaves_bound s c.args.pool.now known c.args.written.now.items c.keep.new.written.items c.args.id c.in-Bound.to c.in_ok-term-in-Bound.term rest
    (subst (Holds c.args.pool.now c.args.id) c.in-Bound.is c.cell-cell.ensures.holds)
    (subst (λ w. slice_get w c.in-Bound.to.0 ≡ Some (Some c.in_ok-term-in-Bound.term)) c.as_slice.ensures.value c.in_ok-term-in-Bound.ensures)
    (new_at c.args.written.now.items c.keep.new.written.items c.args.id c.in_ok-term-in-Bound.term c.keep.ensures)

pub returns-in_ok-term-in-Bound-clause-kept : goal.returns-in_ok-term-in-Bound-clause-kept
returns-in_ok-term-in-Bound-clause-kept c = (c.in_ok-term-in-Bound.term, c.keep.ensures)

pub written_arguments-requires : goal.written_arguments-requires
written_arguments-requires c = record {
  count = (subst (Holds c.args.pool.now c.args.id) c.in-Con.is c.cell-cell.ensures.holds).1;
  there = subst (λ w. All (IsFilled w) (arguments_of c.args.pool.now.cells c.args.id)) (sym c.as_slice-in-Con.ensures.value)
      (arguments_have c.args.pool.now c.requires.0 c.args.written.now.items c.args.id c.requires.1 c.requires.2);
}

pub keep-requires-in-Con : goal.keep-requires-in-Con
keep-requires-in-Con c = (filling_top c.args.pool.now c.requires.0 c.args.written.now.items (Leave c.args.id) c.requires.1 c.requires.2).1

pub returns-in_ok-term-in-Con-clause-reads : goal.returns-in_ok-term-in-Con-clause-reads
returns-in_ok-term-in-Con-clause-reads c = λ s known rest.
    leaves_con s c.args.pool.now known c.args.written.now.items c.keep-in-Con.new.written.items c.args.id c.in-Con.con c.in-Con.count c.in_ok-parts-in-Con.parts.items c.in_ok-term-in-Con.term rest
    (subst (Holds c.args.pool.now c.args.id) c.in-Con.is c.cell-cell.ensures.holds)
    (subst (λ w. AreWritten w (arguments_of c.args.pool.now.cells c.args.id) c.in_ok-parts-in-Con.parts.items) c.as_slice-in-Con.ensures.value c.in_ok-parts-in-Con.ensures) c.in_ok-term-in-Con.ensures
    (new_at c.args.written.now.items c.keep-in-Con.new.written.items c.args.id c.in_ok-term-in-Con.term c.keep-in-Con.ensures)

pub returns-in_ok-term-in-Con-clause-kept : goal.returns-in_ok-term-in-Con-clause-kept
returns-in_ok-term-in-Con-clause-kept c = (c.in_ok-term-in-Con.term, c.keep-in-Con.ensures)
