use Rattle.std.proofs.Common.{◌++◌, map, reverse, All, ap, sym, ◌∙◌, subst}
use Rattle.psg_terms.specs.Renaming.{keys}
use Rattle.psg_pool.specs.declared.cells.CellId.{CellId}
use Rattle.psg_unify.specs.declared.walking.Item.TheVariants.{Visit}
use Rattle.psg_unify.specs.ReadOut.{AreWritten}
use Rattle.psg_unify.specs.Filling.{IsFilled}
use Rattle.psg_unify.proofs.ReadSteps.{read_canonical, read_same, read_sorted}
use Rattle.psg_unify.proofs.ReadWalk.{filling_begins, filling_ends}
use Rattle.psg_unify.proofs.reading.read_row.Goals as goal

pub read_all-requires : goal.read_all-requires
read_all-requires c = record {
  readable = (
    c.args.cells.now,
    filling_begins c.args.pool.now c.args.cells.now c.in_ok-written.written.items c.push_cells.new.stack.items
        (c.in_ok-push_cells.ensures ∙ ap (λ l. l ++ reverse (map (λ (a : CellId). Visit a) c.args.cells.now)) c.new-stack.ensures.items)
        (c.in_ok-written.ensures.count ∙ c.count.ensures) c.requires.among,
  );
  falls = (c.requires.fits.height, c.requires.fits.falls);
}

pub written_row-requires : goal.written_row-requires
written_row-requires c =
    subst (λ w. All (IsFilled w) c.args.cells.now) (sym c.as_slice.ensures.value)
    (filling_ends c.args.pool.now c.args.cells.now c.read_all.new.written.items (c.in_ok-read_all.ensures.stays c.args.cells.now
    (filling_begins c.args.pool.now c.args.cells.now c.in_ok-written.written.items c.push_cells.new.stack.items
    (c.in_ok-push_cells.ensures ∙ ap (λ l. l ++ reverse (map (λ (a : CellId). Visit a) c.args.cells.now)) c.new-stack.ensures.items)
    (c.in_ok-written.ensures.count ∙ c.count.ensures) c.requires.among)))

pub returns-clause-canonical : goal.returns-clause-canonical
returns-clause-canonical c =
    read_canonical c.args.sig.now c.args.pool.now c.sound.ensures c.mark-mark.ensures.sound c.requires.fits c.args.cells.now (keys c.new-known.result.keys) (keys c.read_all.new.known.keys) c.in_ok-written.written.items
    c.read_all.new.written.items c.push_cells.new.stack.items c.in_ok-row.row.items (ap keys c.new-known.ensures.empty) c.in_ok-written.ensures.empty
    (c.in_ok-push_cells.ensures ∙ ap (λ l. l ++ reverse (map (λ (a : CellId). Visit a) c.args.cells.now)) c.new-stack.ensures.items) c.in_ok-read_all.ensures.reads
    (subst (λ w. AreWritten w c.args.cells.now c.in_ok-row.row.items) c.as_slice.ensures.value c.in_ok-row.ensures)

pub returns-clause-same : goal.returns-clause-same
returns-clause-same c = λ read r.
    read_same c.args.sig.now c.args.pool.now c.sound.ensures c.mark-mark.ensures.sound c.requires.fits c.args.cells.now (keys c.new-known.result.keys) (keys c.read_all.new.known.keys) c.in_ok-written.written.items
    c.read_all.new.written.items c.push_cells.new.stack.items c.in_ok-row.row.items (ap keys c.new-known.ensures.empty) c.in_ok-written.ensures.empty
    (c.in_ok-push_cells.ensures ∙ ap (λ l. l ++ reverse (map (λ (a : CellId). Visit a) c.args.cells.now)) c.new-stack.ensures.items) c.in_ok-read_all.ensures.reads
    (subst (λ w. AreWritten w c.args.cells.now c.in_ok-row.row.items) c.as_slice.ensures.value c.in_ok-row.ensures) read c.requires.among r

pub returns-clause-sorted : goal.returns-clause-sorted
returns-clause-sorted c = λ read r.
    read_sorted c.args.sig.now c.args.pool.now c.sound.ensures c.mark-mark.ensures.sound c.requires.fits c.args.cells.now (keys c.new-known.result.keys) (keys c.read_all.new.known.keys) c.in_ok-written.written.items
    c.read_all.new.written.items c.push_cells.new.stack.items c.in_ok-row.row.items (ap keys c.new-known.ensures.empty) c.in_ok-written.ensures.empty
    (c.in_ok-push_cells.ensures ∙ ap (λ l. l ++ reverse (map (λ (a : CellId). Visit a) c.args.cells.now)) c.new-stack.ensures.items) c.in_ok-read_all.ensures.reads
    (subst (λ w. AreWritten w c.args.cells.now c.in_ok-row.row.items) c.as_slice.ensures.value c.in_ok-row.ensures) read r
