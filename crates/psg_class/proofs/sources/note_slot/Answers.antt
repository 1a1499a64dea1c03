use Rattle.std.proofs.Common.{◌≡◌, ◌<◌, ◌+◌, ◌&&◌, ℕ, Some, ap, sym, ◌∙◌, subst, arith, true≢false}
use Rattle.std.specs.Prelude.{slice_get}
use Rattle.psg_grammar.specs.declared.types.Kind.TheVariants as kinds
use Rattle.psg_class.specs.Forms.{is_own}
use Rattle.psg_class.specs.declared.shape.Part.TheVariants as parts
use Rattle.psg_class.specs.declared.shape.Shape.{Shape}
use Rattle.psg_class.specs.declared.sources.Rows.{Rows}
use Rattle.psg_class.specs.Sources.{IsRows, IsPartOf, IsKind, IsShapeOf, kind_index, follow_row, led_row, can_end, is_end, none_behind}
use Rattle.psg_class.proofs.BeginLaws.{kind_small}
use Rattle.psg_class.proofs.SlotLaws.{inner, outer, rest_of, rest_parts, slot_at, ends_with, place_later, moved, moved_link}
use Rattle.psg_class.proofs.sources.note_slot.Goals as goal

-- the row of the slot's kind is one of those of what stands behind
row_inside : (rows : Rows) (width : ℕ) (s : Shape) (place : ℕ) (k : _) (row : ℕ) → IsRows rows → IsShapeOf rows width s → slice_get s.parts place ≡ Some (parts.Slot k) → row ≡ kind_index rows.phyla k → rows.kinds + row < rows.height
row_inside rows width s place k row is shape at e =
    let own : IsKind rows k = shape.each place (parts.Slot k) at in
    let small : kind_index rows.phyla k < rows.kinds = kind_small rows k is own in
    let h = is.height_is in omega (arith, small, e, h)

pub kind-requires : goal.kind-requires
kind-requires c = c.requires.shape.each c.args.place (parts.Slot c.in-Slot.kind) (slot_at c.as_slice-parts.result.now c.args.shape.now.parts c.args.place _ (parts.Slot c.in-Slot.kind) c.as_slice-parts.ensures c.requires.place c.in-Slot.is)

pub overflow_add-to : goal.overflow_add-to
overflow_add-to c =
    let at = slot_at c.as_slice-parts.result.now c.args.shape.now.parts c.args.place _ (parts.Slot c.in-Slot.kind) c.as_slice-parts.ensures c.requires.place c.in-Slot.is in
    let h = row_inside c.args.rows.now c.args.draft.now.grid.width c.args.shape.now c.args.place c.in-Slot.kind c.kind.result c.requires.rows c.requires.shape at c.kind.ensures in
    let f = c.requires.rows.fits in omega arith

pub note_begin-requires-clause-to : goal.note_begin-requires-clause-to
note_begin-requires-clause-to c =
    row_inside c.args.rows.now c.args.draft.now.grid.width c.args.shape.now c.args.place c.in-Slot.kind c.kind.result c.requires.rows c.requires.shape
    (slot_at c.as_slice-parts.result.now c.args.shape.now.parts c.args.place _ (parts.Slot c.in-Slot.kind) c.as_slice-parts.ensures c.requires.place c.in-Slot.is) c.kind.ensures

pub note_begin-requires-clause-parts : goal.note_begin-requires-clause-parts
note_begin-requires-clause-parts c = λ n p e.
    rest_parts (IsPartOf c.args.rows.now c.args.draft.now.grid.width) c.args.shape.now.parts (c.args.place + 1) c.requires.shape.each n p
    (subst (λ l. slice_get l n ≡ Some p) (rest_of c.as_slice-parts.result.now c.args.shape.now.parts c.args.place c.as_slice-parts.ensures c.requires.place) e)

pub returns-then-not-branch : goal.returns-then-not-branch
returns-then-not-branch c =
    let at = slot_at c.as_slice-parts.result.now c.args.shape.now.parts c.args.place _ (parts.Slot c.in-Slot.kind) c.as_slice-parts.ensures c.requires.place c.in-Slot.is in
    let rest = rest_of c.as_slice-parts.result.now c.args.shape.now.parts c.args.place c.as_slice-parts.ensures c.requires.place in
    inner c.args.rows.now c.args.shape.now c.args.place c.in-Slot.kind (place_later c.args.place c.if-place-eq0.false) at c.args.draft.now c.note_begin.new.draft
    (λ e. absurd (true≢false (sym e ∙ sym (c.in_ok-note_begin.ensures.ends ∙ ap can_end rest) ∙ c.if-not-branch.true)))
    (moved c.args.rows.now c.args.shape.now c.args.place c.in-Slot.kind c.kind.result _ c.args.draft.now c.note_begin.new.draft c.kind.ensures rest c.in_ok-note_begin.ensures.adds)

pub returns-then-is_end : goal.returns-then-is_end
returns-then-is_end c =
    let at = slot_at c.as_slice-parts.result.now c.args.shape.now.parts c.args.place _ (parts.Slot c.in-Slot.kind) c.as_slice-parts.ensures c.requires.place c.in-Slot.is in
    let rest = rest_of c.as_slice-parts.result.now c.args.shape.now.parts c.args.place c.as_slice-parts.ensures c.requires.place in
    let tells : c.is_end.result ≡ is_end c.args.shape.now c.args.place = ends_with c.args.shape.now c.args.place c.in-Slot.kind c.is_end.result at (c.is_end.ensures ∙ ap (λ l. is_own c.args.shape.now.phylum (Some (parts.Slot c.in-Slot.kind)) && none_behind l) rest) in
    inner c.args.rows.now c.args.shape.now c.args.place c.in-Slot.kind (place_later c.args.place c.if-place-eq0.false) at c.args.draft.now c.note_begin.new.draft (λ e. sym tells ∙ c.if-is_end.true)
    (moved c.args.rows.now c.args.shape.now c.args.place c.in-Slot.kind c.kind.result _ c.args.draft.now c.note_begin.new.draft c.kind.ensures rest c.in_ok-note_begin.ensures.adds)

pub link-requires-clause-to : goal.link-requires-clause-to
link-requires-clause-to c =
    let at = slot_at c.as_slice-parts.result.now c.args.shape.now.parts c.args.place _ (parts.Slot c.in-Slot.kind) c.as_slice-parts.ensures c.requires.place c.in-Slot.is in
    let h = row_inside c.args.rows.now c.args.draft.now.grid.width c.args.shape.now c.args.place c.in-Slot.kind c.kind.result c.requires.rows c.requires.shape at c.kind.ensures in
    let e = c.in_ok-note_begin.ensures.adds.size.height in let f = c.requires.draft.table.height_is in omega arith

pub link-requires-2-clause-to : goal.link-requires-2-clause-to
link-requires-2-clause-to c =
    let at = slot_at c.as_slice-parts.result.now c.args.shape.now.parts c.args.place _ (parts.Slot c.in-Slot.kind) c.as_slice-parts.ensures c.requires.place c.in-Slot.is in
    let h = row_inside c.args.rows.now c.args.draft.now.grid.width c.args.shape.now c.args.place c.in-Slot.kind c.kind.result c.requires.rows c.requires.shape at c.kind.ensures in
    let e = c.in_ok-note_begin.ensures.adds.size.height in let f = c.requires.draft.table.height_is in let g = c.in_ok-link.ensures.size.height in omega arith

pub returns : goal.returns
returns c =
    let at = slot_at c.as_slice-parts.result.now c.args.shape.now.parts c.args.place _ (parts.Slot c.in-Slot.kind) c.as_slice-parts.ensures c.requires.place c.in-Slot.is in
    let rest = rest_of c.as_slice-parts.result.now c.args.shape.now.parts c.args.place c.as_slice-parts.ensures c.requires.place in
    let tells : c.is_end.result ≡ is_end c.args.shape.now c.args.place = ends_with c.args.shape.now c.args.place c.in-Slot.kind c.is_end.result at (c.is_end.ensures ∙ ap (λ l. is_own c.args.shape.now.phylum (Some (parts.Slot c.in-Slot.kind)) && none_behind l) rest) in
    outer c.args.rows.now c.args.shape.now c.args.place c.in-Slot.kind (place_later c.args.place c.if-place-eq0.false) at c.args.draft.now c.note_begin.new.draft c.link.new.self c.link-2.new.self
    (sym (c.in_ok-note_begin.ensures.ends ∙ ap can_end rest) ∙ c.if-not-branch.false) (sym tells ∙ c.if-is_end.false)
    (moved c.args.rows.now c.args.shape.now c.args.place c.in-Slot.kind c.kind.result _ c.args.draft.now c.note_begin.new.draft c.kind.ensures rest c.in_ok-note_begin.ensures.adds)
    (moved_link c.args.rows.now c.in-Slot.kind c.kind.result (follow_row c.args.rows.now (kinds.Phylum c.args.shape.now.phylum)) c.note_begin.new.draft c.link.new.self c.kind.ensures c.in_ok-link.ensures)
    (moved_link c.args.rows.now c.in-Slot.kind c.kind.result (led_row c.args.rows.now c.args.shape.now.phylum) c.link.new.self c.link-2.new.self c.kind.ensures c.in_ok-link-2.ensures)
