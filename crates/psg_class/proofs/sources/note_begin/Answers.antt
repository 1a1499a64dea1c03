use Rattle.std.proofs.Common.{◌<◌, Some, ap, sym, ◌∙◌, subst, arith}
use Rattle.std.proofs.lemmas.List.{take_more, take_all}
use Rattle.std.proofs.lemmas.Option.{slice_get-get_or}
use Rattle.psg_class.specs.declared.shape.Part.TheVariants as parts
use Rattle.psg_class.specs.Sources.{Adds, NoLink, OneCell, IsPartOf, IsKind, kind_index}
use Rattle.psg_class.proofs.BeginLaws.{at_token, ends_token, at_phylum, ends_phylum, at_list, at_end, phylum_of, list_of, kind_small}
use Rattle.psg_class.proofs.sources.note_begin.Goals as goal

pub put-requires-clause-cell : goal.put-requires-clause-cell
put-requires-clause-cell c =
    let s = c.loop-place.invariant.adds.size in
    let part : IsPartOf c.args.rows.now c.args.draft.now.grid.width (parts.Token c.in-Token.number) = c.requires.parts c.loop-place.place (parts.Token c.in-Token.number) (slice_get-get_or c.args.parts.now c.loop-place.place _ c.loop-place-test.true ∙ ap Some c.in-Token.is) in
    let e = s.height in let f = s.width in let h = c.requires.draft.table.height_is in
    (omega arith, omega (arith, part))

pub returns-in-Token-clause-adds : goal.returns-in-Token-clause-adds
returns-in-Token-clause-adds c =
    at_token c.args.rows.now c.args.to c.args.parts.now c.loop-place.place _ c.loop-place-test.true c.args.draft.now c.loop-place.draft c.put.new.self c.loop-place.invariant c.in-Token.number c.in-Token.is c.put.ensures

pub returns-in-Token-clause-ends : goal.returns-in-Token-clause-ends
returns-in-Token-clause-ends c =
    ends_token c.args.rows.now c.args.to c.args.parts.now c.loop-place.place _ c.loop-place-test.true c.args.draft.now c.loop-place.draft c.put.new.self c.loop-place.invariant c.in-Token.number c.in-Token.is

pub kind-requires : goal.kind-requires
kind-requires c = c.requires.parts c.loop-place.place (parts.Slot c.in-Slot.kind) (slice_get-get_or c.args.parts.now c.loop-place.place _ c.loop-place-test.true ∙ ap Some c.in-Slot.is)

kind-inside : (c : goal.After-kind) → IsKind c.args.rows.now c.in-Slot.kind
kind-inside c = c.requires.parts c.loop-place.place (parts.Slot c.in-Slot.kind) (slice_get-get_or c.args.parts.now c.loop-place.place _ c.loop-place-test.true ∙ ap Some c.in-Slot.is)

pub link-requires-clause-from : goal.link-requires-clause-from
link-requires-clause-from c =
    let small : kind_index c.args.rows.now.phyla c.in-Slot.kind < c.args.rows.now.kinds = kind_small c.args.rows.now c.in-Slot.kind c.requires.rows (kind-inside c) in
    let e = c.kind.ensures in let f = c.requires.rows.height_is in let g = c.requires.draft.table.height_is in let h = c.loop-place.invariant.adds.size.height in omega arith

pub returns-then-is_phylum-clause-adds : goal.returns-then-is_phylum-clause-adds
returns-then-is_phylum-clause-adds c =
    let (p, e) = phylum_of c.in-Slot.kind (sym c.is_phylum.ensures ∙ c.if-is_phylum.true) in
    at_phylum c.args.rows.now c.args.to c.args.parts.now c.loop-place.place _ c.loop-place-test.true c.args.draft.now c.loop-place.draft c.link.new.self c.loop-place.invariant p (c.in-Slot.is ∙ ap parts.Slot e)
    (subst (λ x. Adds NoLink (OneCell c.args.to x) c.loop-place.draft c.link.new.self) (c.kind.ensures ∙ ap (kind_index c.args.rows.now.phyla) e) c.in_ok-link-in-Slot.ensures)

pub returns-then-is_phylum-clause-ends : goal.returns-then-is_phylum-clause-ends
returns-then-is_phylum-clause-ends c =
    let (p, e) = phylum_of c.in-Slot.kind (sym c.is_phylum.ensures ∙ c.if-is_phylum.true) in
    ends_phylum c.args.rows.now c.args.to c.args.parts.now c.loop-place.place _ c.loop-place-test.true c.args.draft.now c.loop-place.draft c.link.new.self c.loop-place.invariant p (c.in-Slot.is ∙ ap parts.Slot e)

pub loop-place-preserved : goal.loop-place-preserved
loop-place-preserved c =
    let (l, e) = list_of c.in-Slot.kind (sym c.is_phylum.ensures ∙ c.if-is_phylum.false) in
    at_list c.args.rows.now c.args.to c.args.parts.now c.loop-place.place _ c.loop-place-test.true c.args.draft.now c.loop-place.draft c.link.new.self c.loop-place.invariant l (c.in-Slot.is ∙ ap parts.Slot e)
    (take_more c.args.parts.now c.loop-place.place _ c.loop-place-test.true)
    (subst (λ x. Adds NoLink (OneCell c.args.to x) c.loop-place.draft c.link.new.self) (c.kind.ensures ∙ ap (kind_index c.args.rows.now.phyla) e) c.in_ok-link-in-Slot.ensures)

pub returns-clause-adds : goal.returns-clause-adds
returns-clause-adds c = at_end c.args.rows.now c.args.to c.args.parts.now c.loop-place.place c.args.draft.now c.loop-place.draft c.loop-place.invariant (take_all c.loop-place.place c.args.parts.now c.loop-place-test.false)
