use Rattle.std.proofs.Common.{◌≡◌, ◌<◌, length, Some, true, subst, sym, ap, ◌∙◌}
use Rattle.std.proofs.lemmas.Option.{slice_get-get_or}
use Rattle.psg_terms.proofs.Lists.{iff_then}
use Rattle.std.specs.Prelude.{◌↔◌}
use Rattle.psg_class.specs.Grids.{AreLinks, Derives, IsCell, IsSameSize, is_set}
use Rattle.psg_class.specs.declared.sources.Draft.{Draft}
use Rattle.psg_class.specs.Sources.{Adds, AtShape, Below, parts_with, ShapeFact, ShapeLink}
use Rattle.psg_class.proofs.Closing.{cell_in, same_size}
use Rattle.psg_class.proofs.Drafts.{adds_more}
use Rattle.psg_class.proofs.WholeDraft.{all_shapes, shape_at, grown}
use Rattle.psg_class.proofs.sources.sets.Goals as goal

pub loop-shape-preserved : goal.loop-shape-preserved
loop-shape-preserved c =
    let rows = c.args.rows.now in
    let n = c.loop-shape.shape-index in
    adds_more (AtShape (ShapeFact rows) c.args.shapes.now) (AtShape (ShapeLink rows) c.args.shapes.now) n _ c.loop-shape.draft c.note_shape.new.draft c.loop-shape.invariant
    (shape_at rows c.args.shapes.now n c.shape-item.result c.loop-shape.draft c.note_shape.new.draft (slice_get-get_or c.args.shapes.now n c.shape-item.result c.loop-shape-test.true ∙ ap Some (sym c.shape-item.is)) c.in_ok-note_shape.ensures)

pub saturate-requires-clause-links : goal.saturate-requires-clause-links
saturate-requires-clause-links c = subst (AreLinks c.note_lists.new.draft.grid) (sym c.as_slice.ensures.value) c.in_ok-note_lists.ensures.inside

pub returns-clause-exact : goal.returns-clause-exact
returns-clause-exact c = λ r k h w.
    let rows = c.args.rows.now in
    let a = parts_with rows c.args.shapes.now c.args.phyla.now c.args.lists.now c.args.numbers.holes.now c.args.numbers.separators.now c.args.numbers.opening c.args.numbers.closing in
    let none : Draft = record { grid = c.in_ok-new.field-0; links = c.new-2.result } in
    let cell : IsCell none.grid r k = (subst (λ z. r < z) (sym c.in_ok-new.ensures.height) h, subst (λ z. k < z) (sym c.in_ok-new.ensures.width) w) in
    let size : IsSameSize none.grid c.note_lists.new.draft.grid = same_size none.grid c.note_phyla.new.draft.grid c.note_lists.new.draft.grid
    (same_size none.grid c.loop-shape.draft.grid c.note_phyla.new.draft.grid c.loop-shape.invariant.size c.note_phyla.ensures.size) c.in_ok-note_lists.ensures.size in
    let shapes : Adds (Below (AtShape (ShapeFact rows) c.args.shapes.now) (length c.args.shapes.now)) (Below (AtShape (ShapeLink rows) c.args.shapes.now) (length c.args.shapes.now)) none c.loop-shape.draft = all_shapes (ShapeFact rows) (ShapeLink rows) c.args.shapes.now c.loop-shape.shape-index none c.loop-shape.draft c.loop-shape-test.false c.loop-shape.invariant in
    iff_then (subst (λ l. (is_set c.saturate.new.grid r k ≡ true) ↔ Derives c.note_lists.new.draft.grid l r k) c.as_slice.ensures.value (c.in_ok-saturate.ensures.exact r k (cell_in none.grid c.note_lists.new.draft.grid r k size cell)))
    (grown a none c.loop-shape.draft c.note_phyla.new.draft c.note_lists.new.draft c.in_ok-new.ensures.empty c.new-2.ensures.items shapes c.note_phyla.ensures c.in_ok-note_lists.ensures r k cell)
