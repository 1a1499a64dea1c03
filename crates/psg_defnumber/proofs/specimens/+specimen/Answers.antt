use Rattle.std.proofs.Common.{ap, arith, refl, subst, sym, ◌∙◌}
use Rattle.psg_deflines.specs.WrittenTrees.{operator, is_digits}
use Rattle.psg_deflines.specs.TreeShapes.{with_parts, ending, list_of, tree_of}
use Rattle.psg_defcheck.proofs.TreeLaws.{operator-parts, list-elements, part_below, part_tree, element_below}
use Rattle.psg_defcheck.proofs.SortLaws.{all-at}
use Rattle.psg_defcheck.proofs.TreeSortLaws.{known_parts, known_end, known_elements}
use Rattle.psg_defnumber.proofs.MadeLaws.{keeps-self}
use Rattle.psg_defnumber.proofs.NamedLaws.{operator-known, place-known}
use Rattle.psg_defnumber.proofs.FitLaws.{slot-made, parts-next, parts-all, elements-next, operator-made, list-made, hole-made, items_now, items-named}
use Rattle.psg_grammar.specs.Lookups.{part_items}
use Rattle.psg_defnumber.specs.Fitting.{IsMade, part_terms, element_terms, PartsFit, ElementsFit}
use Rattle.std.proofs.Common.{ℕ, ◌<◌, ◌^◌}
use Rattle.psg_lexis.specs.Tokens.{value_of}
use Rattle.std.specs.Borrow.{Bor}
use Rattle.std.proofs.lemmas.Option.{slice_get_within}
use Rattle.psg_terms.proofs.Lists.{each_at}
use Rattle.psg_grammar.specs.declared.types.Item.{Item}
use Rattle.psg_grammar.specs.Sound.{HasKindSort, IsItem}
use Rattle.psg_defcheck.specs.Parts.{KnowsPart}
use Rattle.psg_defnumber.specs.Declaring.{HasElements, HasItems}
use Rattle.psg_grammar.specs.declared.types.Kind.TheVariants as kinds
use Rattle.psg_defnumber.proofs.PlacingLaws.{place-term, element-at, tree-at, part-at, parts-count, operator-parts-fit, list-fits, list-parts-fit, place-fits, made-kind}
use Rattle.psg_defnumber.specs.Placing.{HasPartForm, ArePartsAt}
use Rattle.psg_defnumber.proofs.specimens.+specimen.Goals as goal

pub elements-specimen-requires : goal.elements-specimen-requires
elements-specimen-requires t c =
    let lt = element_below c.args.written.now c.loop-tree.tree-index c.tree-item.result c.loop-tree-test.true c.tree-item.is in (
      omega arith,
      (
        all-at _ c.args.written.now c.loop-tree.tree-index c.tree-item.result c.requires.declared c.loop-tree-test.true c.tree-item.is,
        (
          c.requires.names,
          (c.requires.there, (c.requires.fits.0, c.loop-tree.invariant.1 c.requires.fits.0 c.requires.fits.1 c.requires.fits.2, element-at c.args.checked.now c.requires.fits.0 (kinds.Phylum c.args.phylum) c.args.written.now c.loop-tree.tree-index c.tree-item.result c.requires.fits.2 c.loop-tree-test.true c.tree-item.is)),
        ),
      ),
    )

pub elements-loop-tree-preserved : goal.elements-loop-tree-preserved
elements-loop-tree-preserved t c = (
  elements-next c.args.definition.now c.args.known.now.entries c.loop-tree.known.entries c.specimen.new.known.entries c.args.phylum c.args.written.now c.loop-tree.made.items c.push.new.self.items c.loop-tree.tree-index c.tree-item.result c.in_ok-one.one
      c.loop-tree-test.true c.tree-item.is c.in_ok-push.ensures.items c.loop-tree.invariant.0 c.in_ok-one.ensures.made,
  λ sorts agree h.
      c.in_ok-one.ensures.agrees sorts (c.loop-tree.invariant.1 sorts agree h)
      (element-at c.args.checked.now sorts (kinds.Phylum c.args.phylum) c.args.written.now c.loop-tree.tree-index c.tree-item.result h c.loop-tree-test.true c.tree-item.is),
)

pub elements-returns-clause-agrees : goal.elements-returns-clause-agrees
elements-returns-clause-agrees t c = c.loop-tree.invariant.1

pub part-returns-in_ok-made-in-Slot-clause-made : goal.part-returns-in_ok-made-in-Slot-clause-made
part-returns-in_ok-made-in-Slot-clause-made t c =
    slot-made c.args.definition.now c.args.known.now.entries c.specimen.new.known.entries c.args.item.now c.args.written.now c.in-Slot.kind c.in-Tree.tree c.in_ok-made-in-Slot.made c.in-Slot.is c.in-Tree.is c.in_ok-made-in-Slot.ensures.made

pub part-returns-in_ok-made-in-Slot-clause-agrees : goal.part-returns-in_ok-made-in-Slot-clause-agrees
part-returns-in_ok-made-in-Slot-clause-agrees t c = λ sorts agree h.
    c.in_ok-made-in-Slot.ensures.agrees sorts agree (tree-at c.args.checked.now sorts c.args.item.now c.args.written.now c.in-Slot.kind c.in-Tree.tree c.in-Slot.is c.in-Tree.is h)

pub part-specimen-requires : goal.part-specimen-requires
part-specimen-requires t c =
    let lt = part_tree c.args.written.now c.in-Tree.tree c.in-Tree.is in
    let known = subst (KnowsPart c.args.checked.now) c.in-Tree.is c.requires.declared in
    let sorts = c.requires.fits.0 in
    let fits = tree-at c.args.checked.now c.requires.fits.0 c.args.item.now c.args.written.now c.in-Slot.kind c.in-Tree.tree c.in-Slot.is c.in-Tree.is c.requires.fits.2 in
    (omega arith, (known, (c.requires.names, (subst (IsItem c.args.definition.now) c.in-Slot.is c.requires.there, (sorts, c.requires.fits.1, fits)))))

pub part-decimal-requires-clause-digits : goal.part-decimal-requires-clause-digits
part-decimal-requires-clause-digits t c =
    let form = subst HasPartForm c.in-Number-written.is c.requires.fits.2.form in ap is_digits c.as_str.ensures ∙ form.0

pub part-decimal-requires-clause-small : goal.part-decimal-requires-clause-small
part-decimal-requires-clause-small t c =
    let form = subst HasPartForm c.in-Number-written.is c.requires.fits.2.form in subst (λ v. v < 2 ^ 128) (sym (ap value_of c.as_str.ensures)) form.1

pub parts-part-requires : goal.parts-part-requires
parts-part-requires t c =
    let lt = part_below c.args.written.now c.loop-i.i c.index-written-i.result c.loop-i-test.true c.index-written-i.is in (
      omega arith,
      (
        all-at _ c.args.written.now c.loop-i.i c.index-written-i.result c.requires.declared c.loop-i-test.true c.index-written-i.is,
        (
          c.requires.names,
          (
            all-at (λ (b : Bor Item). IsItem c.args.definition.now b.now) c.args.items.now c.loop-i.i c.index-items-i.result c.requires.there
                (subst (λ n. c.loop-i.i < n) (sym (parts-count c.args.checked.now c.requires.fits.0 c.args.items.now c.args.written.now c.requires.fits.2)) c.loop-i-test.true) c.index-items-i.is,
            (c.requires.fits.0, c.loop-i.invariant.1 c.requires.fits.0 c.requires.fits.1 c.requires.fits.2, part-at c.args.checked.now c.requires.fits.0 c.args.items.now c.args.written.now c.loop-i.i c.index-items-i.result c.index-written-i.result c.requires.fits.2 c.loop-i-test.true c.index-items-i.is c.index-written-i.is),
          ),
        ),
      ),
    )

pub parts-loop-i-preserved : goal.parts-loop-i-preserved
parts-loop-i-preserved t c = (
  parts-next c.args.definition.now c.args.known.now.entries c.loop-i.known.entries c.part.new.known.entries c.args.items.now c.args.written.now c.loop-i.made.items c.push.new.self.items c.loop-i.i c.index-items-i.result c.index-written-i.result c.in_ok-one.one
      (parts-count c.args.checked.now c.requires.fits.0 c.args.items.now c.args.written.now c.requires.fits.2) c.index-items-i.is c.loop-i-test.true c.index-written-i.is c.in_ok-push.ensures.items c.loop-i.invariant.0 c.in_ok-one.ensures.made,
  λ sorts agree h.
      c.in_ok-one.ensures.agrees sorts (c.loop-i.invariant.1 sorts agree h)
      (part-at c.args.checked.now sorts c.args.items.now c.args.written.now c.loop-i.i c.index-items-i.result c.index-written-i.result h c.loop-i-test.true c.index-items-i.is c.index-written-i.is),
)

pub parts-bounds-items-i : goal.parts-bounds-items-i
parts-bounds-items-i t c = subst (λ n. c.loop-i.i < n) (sym (parts-count c.args.checked.now c.requires.fits.0 c.args.items.now c.args.written.now c.requires.fits.2)) c.loop-i-test.true

pub parts-returns-clause-made : goal.parts-returns-clause-made
parts-returns-clause-made t c =
    parts-all c.args.definition.now c.args.known.now.entries c.loop-i.known.entries c.args.items.now c.args.written.now c.loop-i.made.items c.loop-i.i (parts-count c.args.checked.now c.requires.fits.0 c.args.items.now c.args.written.now c.requires.fits.2) c.loop-i-test.false
    c.loop-i.invariant.0

pub parts-returns-clause-agrees : goal.parts-returns-clause-agrees
parts-returns-clause-agrees t c = c.loop-i.invariant.1

pub specimen-unreachable-requires : goal.specimen-unreachable-requires
specimen-unreachable-requires t c =
    let e = sym (ap tree_of c.in-List.is) ∙ c.written.view_is in
    let known = known_end c.args.checked.now c.args.written.now c.in-List.rest c.in-List.written e c.requires.declared in
    let list = list-fits c.args.checked.now c.requires.names.kinds.once c.requires.fits.0 c.args.kind c.in-List.rest c.in-List.written c.args.written.now e known c.requires.fits.2 in
    c.in_default.not-List list.0 list.2

pub specimen-parts-requires : goal.specimen-parts-requires
specimen-parts-requires t c =
    let ps = c.as_slice-in-Operator-2.result.now in
    let e = ap (with_parts (operator c.in-Operator.name)) c.as_slice-in-Operator-2.ensures ∙ sym (ap tree_of c.in-Operator.is) ∙ c.written.view_is in
    let lt = operator-parts c.args.written.now c.in-Operator.name ps ps e refl in
    let own = c.operator_named-op.result in
    let at = c.operator_named-op.ensures c.args.definition.now (keeps-self c.args.definition.now) in (
      omega arith,
      (
        known_parts c.args.checked.now c.args.written.now c.in-Operator.name ps e c.requires.declared,
        (
          c.requires.names,
          (
            items-named c.args.definition.now c.as_slice-in-Operator.result.now own.1.now.items (ap items_now c.as_slice-in-Operator.ensures.value ∙ c.in_ok-items-in-Operator.ensures ∙ ap part_items c.as_slice.ensures)
                (each_at (HasItems c.args.definition.now) c.args.definition.now.operators c.requires.names.items own.0 own.1.now at.0),
            (
              c.requires.fits.0,
              c.requires.fits.1,
              subst (λ is. ArePartsAt c.args.checked.now c.requires.fits.0 is ps) (sym (ap items_now c.as_slice-in-Operator.ensures.value ∙ c.in_ok-items-in-Operator.ensures ∙ ap part_items c.as_slice.ensures))
                  (operator-parts-fit c.args.checked.now c.args.definition.now c.requires.names c.requires.fits.0 c.args.kind c.in-Operator.name ps c.args.written.now e c.requires.declared own.0 own.1.now at.0 at.1 c.requires.fits.2).1,
            ),
          ),
        ),
      ),
    )

pub specimen-elements-requires : goal.specimen-elements-requires
specimen-elements-requires t c =
    let es = c.as_slice-in-List.result.now in
    let e = ap (list_of (ending c.in-List.rest)) c.as_slice-in-List.ensures ∙ sym (ap tree_of c.in-List.is) ∙ c.written.view_is in
    let lt = list-elements c.args.written.now c.in-List.rest es es e refl in (
      omega arith,
      (
        known_elements c.args.checked.now c.args.written.now c.in-List.rest es e c.requires.declared,
        (
          c.requires.names,
          (
            each_at (HasElements c.args.definition.now) c.args.definition.now.lists c.requires.names.kinds.elements c.in-List-kind.list c.list_at-own.result.now c.list_at-own.ensures,
            (c.requires.fits.0, c.requires.fits.1, (list-parts-fit c.args.checked.now c.args.definition.now c.requires.names c.requires.fits.0 c.args.kind c.in-List.rest es c.args.written.now e c.requires.declared c.in-List-kind.list c.list_at-own.result.now c.in-List-kind.is c.list_at-own.ensures c.requires.fits.2).0),
          ),
        ),
      ),
    )

pub specimen-list_rest-requires-clause-fits : goal.specimen-list_rest-requires-clause-fits
specimen-list_rest-requires-clause-fits t c =
    let es = c.as_slice-in-List.result.now in
    let e = ap (list_of (ending c.in-List.rest)) c.as_slice-in-List.ensures ∙ sym (ap tree_of c.in-List.is) ∙ c.written.view_is in
    let fits = c.requires.fits in
    let both = list-parts-fit c.args.checked.now c.args.definition.now c.requires.names fits.0 c.args.kind c.in-List.rest es c.args.written.now e c.requires.declared c.in-List-kind.list c.list_at-own.result.now c.in-List-kind.is c.list_at-own.ensures fits.2 in
    (fits.0, c.in_ok-made-in-List.ensures.agrees fits.0 fits.1 both.0, both.1)

pub specimen-returns-in_ok-rest-in-List-clause-agrees : goal.specimen-returns-in_ok-rest-in-List-clause-agrees
specimen-returns-in_ok-rest-in-List-clause-agrees t c = λ sorts agree h.
    let es = c.as_slice-in-List.result.now in
    let e = ap (list_of (ending c.in-List.rest)) c.as_slice-in-List.ensures ∙ sym (ap tree_of c.in-List.is) ∙ c.written.view_is in
    let both = list-parts-fit c.args.checked.now c.args.definition.now c.requires.names sorts c.args.kind c.in-List.rest es c.args.written.now e c.requires.declared c.in-List-kind.list c.list_at-own.result.now c.in-List-kind.is c.list_at-own.ensures h in
    c.in_ok-rest-in-List.ensures.agrees sorts (c.in_ok-made-in-List.ensures.agrees sorts agree both.0) both.1

pub specimen-returns-in_ok-made-in-Operator-clause-agrees : goal.specimen-returns-in_ok-made-in-Operator-clause-agrees
specimen-returns-in_ok-made-in-Operator-clause-agrees t c = λ sorts agree h.
    let ps = c.as_slice-in-Operator-2.result.now in
    let e = ap (with_parts (operator c.in-Operator.name)) c.as_slice-in-Operator-2.ensures ∙ sym (ap tree_of c.in-Operator.is) ∙ c.written.view_is in
    let own = c.operator_named-op.result in
    let at = c.operator_named-op.ensures c.args.definition.now (keeps-self c.args.definition.now) in
    let fit = (operator-parts-fit c.args.checked.now c.args.definition.now c.requires.names sorts c.args.kind c.in-Operator.name ps c.args.written.now e c.requires.declared own.0 own.1.now at.0 at.1 h).1 in
    c.in_ok-made-in-Operator.ensures.agrees sorts agree
    (subst (λ is. ArePartsAt c.args.checked.now sorts is ps) (sym (ap items_now c.as_slice-in-Operator.ensures.value ∙ c.in_ok-items-in-Operator.ensures ∙ ap part_items c.as_slice.ensures)) fit)

pub specimen-place-requires-clause-fits : goal.specimen-place-requires-clause-fits
specimen-place-requires-clause-fits t c =
    let fits = c.requires.fits in
    (fits.0, fits.1, place-term c.args.checked.now c.requires.names.kinds.once fits.0 c.args.kind c.in-Place.own c.args.written.now (sym (ap tree_of c.in-Place.is) ∙ c.written.view_is) fits.2)

pub specimen-returns-in_ok-made-in-Place-clause-agrees : goal.specimen-returns-in_ok-made-in-Place-clause-agrees
specimen-returns-in_ok-made-in-Place-clause-agrees t c = λ sorts agree h.
    c.in_ok-made-in-Place.ensures.agrees sorts agree (place-term c.args.checked.now c.requires.names.kinds.once sorts c.args.kind c.in-Place.own c.args.written.now (sym (ap tree_of c.in-Place.is) ∙ c.written.view_is) h)

pub specimen-list_at-own-requires : goal.specimen-list_at-own-requires
specimen-list_at-own-requires t c =
    let there = subst (λ k. (s : ℕ) × HasKindSort c.args.definition.now k s) c.in-List-kind.is c.requires.there in slice_get_within c.args.definition.now.lists c.in-List-kind.list there.1.0 there.1.1

pub specimen-list_rest-requires-clause-declared : goal.specimen-list_rest-requires-clause-declared
specimen-list_rest-requires-clause-declared t c = known_end c.args.checked.now c.args.written.now c.in-List.rest c.in-List.written (sym (ap tree_of c.in-List.is) ∙ c.written.view_is) c.requires.declared

pub specimen-place-requires-clause-declared : goal.specimen-place-requires-clause-declared
specimen-place-requires-clause-declared t c = place-known c.args.checked.now c.args.written.now c.in-Place.own (sym (ap tree_of c.in-Place.is) ∙ c.written.view_is) c.requires.declared

pub specimen-operator_named-op-requires-clause-there : goal.specimen-operator_named-op-requires-clause-there
specimen-operator_named-op-requires-clause-there t c =
    operator-known c.args.checked.now c.args.written.now c.in-Operator.name c.in-Operator.written (sym (ap tree_of c.in-Operator.is) ∙ c.written.view_is) c.requires.declared

pub specimen-returns-in_ok-made-in-Operator-clause-made : goal.specimen-returns-in_ok-made-in-Operator-clause-made
specimen-returns-in_ok-made-in-Operator-clause-made t c =
    operator-made c.args.definition.now c.args.known.now.entries c.parts.new.known.entries c.args.kind c.in-Operator.name c.operator_named-op.result.0 c.operator_named-op.result.1.now (items_now c.as_slice-in-Operator.result.now) c.of.result
    c.as_slice-in-Operator-2.result.now c.args.written.now
    (ap (with_parts (operator c.in-Operator.name)) c.as_slice-in-Operator-2.ensures ∙ sym (ap tree_of c.in-Operator.is) ∙ c.written.view_is)
    (operator-parts-fit c.args.checked.now c.args.definition.now c.requires.names c.requires.fits.0 c.args.kind c.in-Operator.name c.as_slice-in-Operator-2.result.now c.args.written.now
    (ap (with_parts (operator c.in-Operator.name)) c.as_slice-in-Operator-2.ensures ∙ sym (ap tree_of c.in-Operator.is) ∙ c.written.view_is)
    c.requires.declared c.operator_named-op.result.0 c.operator_named-op.result.1.now (c.operator_named-op.ensures c.args.definition.now (keeps-self c.args.definition.now)).0 (c.operator_named-op.ensures c.args.definition.now (keeps-self c.args.definition.now)).1 c.requires.fits.2).0
    (ap items_now c.as_slice-in-Operator.ensures.value ∙ c.in_ok-items-in-Operator.ensures ∙ ap part_items c.as_slice.ensures)
    c.operator_named-op.ensures
    (subst (λ ps. IsMade c.args.definition.now c.args.known.now.entries c.parts.new.known.entries (part_terms ps) (λ full names. PartsFit full names (items_now c.as_slice-in-Operator.result.now) ps c.as_slice-in-Operator-2.result.now))
    (sym c.of.ensures) c.in_ok-made-in-Operator.ensures.made)

pub specimen-returns-in_ok-rest-in-List-clause-made : goal.specimen-returns-in_ok-rest-in-List-clause-made
specimen-returns-in_ok-rest-in-List-clause-made t c =
    list-made c.args.definition.now c.args.known.now.entries c.elements.new.known.entries c.list_rest.new.known.entries c.args.kind c.in-List-kind.list c.list_at-own.result.now c.of-in-List.result c.in_ok-rest-in-List.rest
    c.as_slice-in-List.result.now c.in-List.rest c.args.written.now
    (ap (list_of (ending c.in-List.rest)) c.as_slice-in-List.ensures ∙ sym (ap tree_of c.in-List.is) ∙ c.written.view_is)
    c.in-List-kind.is
    c.list_at-own.ensures
    (subst (λ ss. IsMade c.args.definition.now c.args.known.now.entries c.elements.new.known.entries (element_terms ss) (λ full names. ElementsFit full names c.list_at-own.result.now.element ss c.as_slice-in-List.result.now))
    (sym c.of-in-List.ensures) c.in_ok-made-in-List.ensures.made)
    c.in_ok-rest-in-List.ensures.made

pub specimen-returns-in_ok-made-in-Place-clause-made : goal.specimen-returns-in_ok-made-in-Place-clause-made
specimen-returns-in_ok-made-in-Place-clause-made t c =
    hole-made c.args.definition.now c.args.known.now.entries c.place.new.known.entries c.args.kind c.in_ok-made-in-Place.made c.in-Place.own.kind c.in-Place.own.term c.args.written.now
    (sym (ap tree_of c.in-Place.is) ∙ c.written.view_is) (place-fits c.args.checked.now c.requires.names.kinds.once c.requires.fits.0 c.args.kind c.in_ok-made-in-Place.made.kind c.in-Place.own c.args.written.now (sym (ap tree_of c.in-Place.is) ∙ c.written.view_is)
    (made-kind c.args.checked.now c.args.definition.now c.requires.names c.args.known.now.entries c.place.new.known.entries c.in-Place.own.kind c.in-Place.own.term c.in_ok-made-in-Place.made c.in_ok-made-in-Place.ensures.made) c.requires.fits.2)
    c.in_ok-made-in-Place.ensures.made
