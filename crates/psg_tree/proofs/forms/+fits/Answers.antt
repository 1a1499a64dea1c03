use Rattle.std.proofs.Common.{false, drop, slice_get, ap, sym, ◌∙◌, subst, arith, true≢false}
use Rattle.std.proofs.lemmas.List.{drop_all}
use Rattle.psg_terms.proofs.Lists.{got_some, got_none}
use Rattle.psg_grammar.specs.Fragments.{operator}
use Rattle.psg_grammar.specs.Lookups.{part_items}
use Rattle.psg_tree.specs.Shapes.{height, with_parts, list_of}
use Rattle.psg_tree.specs.Forms.{PartsFit}
use Rattle.psg_tree.proofs.Heights.{part_in, element_in, op_height, list_height, height-list_of}
use Rattle.psg_tree.proofs.FormLaws.{operator_parts, operator_of_parts, no_operator, list_parts, list_of_parts, no_list, parts_end, part_at}
use Rattle.psg_tree.proofs.forms.+fits.Goals as goal

pub elements_fit-well_formed-requires : goal.elements_fit-well_formed-requires
elements_fit-well_formed-requires t c =
    let e = element_in 0 c.args.elements.now false c.loop-element.element-index c.element-item.result c.loop-element-test.true c.element-item.is in
    (omega arith, c.requires)

pub list_fits-returns-then-not-is_list : goal.list_fits-returns-then-not-is_list
list_fits-returns-then-not-is_list t c =
    let e = ap (λ xs. slice_get xs c.args.list) (sym c.as_slice.ensures) ∙ got_some c.as_slice.result.now c.args.list c.get.result c.in-Some.own c.get.ensures.lookup c.in-Some.is in (
      λ h. absurd (true≢false (sym h)),
      λ w. absurd (true≢false (sym (c.is_list.ensures.1 (list_parts c.args.definition.now c.args.list c.in-Some.own.now c.args.elements.now c.args.unfinished c.args.kind e w).0) ∙ c.if-not-is_list.true)),
    )

pub list_fits-returns-then-not-may_end : goal.list_fits-returns-then-not-may_end
list_fits-returns-then-not-may_end t c =
    let e = ap (λ xs. slice_get xs c.args.list) (sym c.as_slice.ensures) ∙ got_some c.as_slice.result.now c.args.list c.get.result c.in-Some.own c.get.ensures.lookup c.in-Some.is in (
      λ h. absurd (true≢false (sym h)),
      λ w. absurd (true≢false (sym (c.may_end.ensures.1 (list_parts c.args.definition.now c.args.list c.in-Some.own.now c.args.elements.now c.args.unfinished c.args.kind e w).1) ∙ c.if-not-may_end.true)),
    )

pub list_fits-returns-in-None : goal.list_fits-returns-in-None
list_fits-returns-in-None t c =
    let e = got_none c.as_slice.result.now c.args.list c.get.result c.get.ensures.lookup c.in-None.is in
    (λ h. absurd (true≢false (sym h)), λ w. absurd (no_list c.args.definition.now c.args.list c.args.elements.now c.args.unfinished c.args.kind (ap (λ xs. slice_get xs c.args.list) (sym c.as_slice.ensures) ∙ e) w))

pub list_fits-returns-else-not-may_end : goal.list_fits-returns-else-not-may_end
list_fits-returns-else-not-may_end t c =
    let e = ap (λ xs. slice_get xs c.args.list) (sym c.as_slice.ensures) ∙ got_some c.as_slice.result.now c.args.list c.get.result c.in-Some.own c.get.ensures.lookup c.in-Some.is in (
      λ h. list_of_parts c.args.definition.now c.args.list c.in-Some.own.now c.args.elements.now c.args.unfinished c.args.kind e (c.is_list.ensures.0 c.if-not-is_list.false) (c.may_end.ensures.0 c.if-not-may_end.false) (c.elements_fit.ensures.0 h),
      λ w. c.elements_fit.ensures.1 (list_parts c.args.definition.now c.args.list c.in-Some.own.now c.args.elements.now c.args.unfinished c.args.kind e w).2,
    )

pub next_part-part_fits-requires : goal.next_part-part_fits-requires
next_part-part_fits-requires t c =
    let p = part_at c.args.parts.now c.args.at c.get.result c.in-Some.part c.get.ensures.lookup c.in-Some.is in
    let e = part_in (operator 0) c.args.parts.now c.args.at c.in-Some.part.now p.0 p.1 in
    (omega arith, c.requires.sound)

pub operator_fits-returns-then-not-is_phylum : goal.operator_fits-returns-then-not-is_phylum
operator_fits-returns-then-not-is_phylum t c =
    let e = got_some c.as_slice.result.now c.args.op c.get.result c.in-Some.operator c.get.ensures.lookup c.in-Some.is in (
      λ h. absurd (true≢false (sym h)),
      λ w. absurd (true≢false (sym (c.is_phylum.ensures.1 (operator_parts c.args.definition.now c.args.op c.in-Some.operator.now c.args.parts.now c.args.kind (ap (λ xs. slice_get xs c.args.op) (sym c.as_slice.ensures) ∙ e) w).0) ∙ c.if-not-is_phylum.true)),
    )

pub operator_fits-returns-in-None : goal.operator_fits-returns-in-None
operator_fits-returns-in-None t c =
    let e = got_none c.as_slice.result.now c.args.op c.get.result c.get.ensures.lookup c.in-None.is in
    (λ h. absurd (true≢false (sym h)), λ w. absurd (no_operator c.args.definition.now c.args.op c.args.parts.now c.args.kind (ap (λ xs. slice_get xs c.args.op) (sym c.as_slice.ensures) ∙ e) w))

pub operator_fits-returns-else-not-is_phylum : goal.operator_fits-returns-else-not-is_phylum
operator_fits-returns-else-not-is_phylum t c =
    let e = ap (λ xs. slice_get xs c.args.op) (sym c.as_slice.ensures) ∙ got_some c.as_slice.result.now c.args.op c.get.result c.in-Some.operator c.get.ensures.lookup c.in-Some.is in
    let s = ap part_items c.as_slice-in-Some.ensures in (
      λ h. operator_of_parts c.args.definition.now c.args.op c.in-Some.operator.now c.args.parts.now c.args.kind e (c.is_phylum.ensures.0 c.if-not-is_phylum.false) (subst (PartsFit c.args.definition.now c.args.parts.now) s (c.parts_fit.ensures.0 h)),
      λ w. c.parts_fit.ensures.1 (subst (PartsFit c.args.definition.now c.args.parts.now) (sym s) (operator_parts c.args.definition.now c.args.op c.in-Some.operator.now c.args.parts.now c.args.kind e w).1),
    )

pub parts_fit-returns : goal.parts_fit-returns
parts_fit-returns t c =
    let i = c.loop-item.invariant in
    let d = drop_all c.loop-item.item-index c.args.items.now c.loop-item-test.false in
    let e = parts_end c.args.definition.now c.args.parts.now c.loop-item.at i.0 in (
      λ h. i.1.1 (subst (λ xs. PartsFit c.args.definition.now (drop c.loop-item.at c.args.parts.now) (part_items xs)) (sym d) (e.0 h)),
      λ f. e.1 (subst (λ xs. PartsFit c.args.definition.now (drop c.loop-item.at c.args.parts.now) (part_items xs)) d (i.1.0 f)),
    )

pub well_formed-operator_fits-requires : goal.well_formed-operator_fits-requires
well_formed-operator_fits-requires t c =
    let e = op_height _ _ _ _ c.in-Op.is c.shape.ensures in
    let p = ap (λ ps. height (with_parts (operator 0) ps)) c.as_slice.ensures in
    (omega arith, c.requires)

pub well_formed-list_fits-requires : goal.well_formed-list_fits-requires
well_formed-list_fits-requires t c =
    let e = list_height _ _ _ _ _ c.in-List.is c.shape.ensures in
    let p = ap (λ es. height (list_of 0 es false)) c.as_slice-in-List.ensures in
    let f = height-list_of 0 c.in-List.elements c.in-List.unfinished false in
    (omega arith, c.requires)
