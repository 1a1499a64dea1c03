use Rattle.std.proofs.Common.{rules, Err, ◌≡◌, ◌∙◌, refl, ap, sym, subst, arith}
use Rattle.std.specs.List.{AllByRecursion}
use Rattle.psg_grammar.specs.Fragments.{operator}
use Rattle.psg_grammar.specs.Specimens.{end_tree, tree_of}
use Rattle.psg_specimen.specs.Patterns.{part_names, IsPatternFor, IsSomeTree, IsTreePart}
use Rattle.psg_specimen.proofs.Firsts.{each}
use Rattle.psg_specimen.proofs.PatternLaws.{IsGrown, element_fault, end_fault, end_there, grown_all, grown_next, grown_none, list_done, list_fault, op_done, op_fault, part_fault, patterns_all, patterns_next, suit_elements, takes}
use Rattle.psg_specimen.proofs.SpecimenSizes.{element_below, part_below, sub_below}
use Rattle.psg_specimen.proofs.TreeLaws.{parts_fit, elements_fit}
use Rattle.psg_specimen.proofs.patterns.+patterns.Goals as goal

pub add_part-pattern_of-requires : goal.add_part-pattern_of-requires
add_part-pattern_of-requires t c =
    let lt = sub_below c.args.part.now c.in-Sub.specimen c.in-Sub.is in
    (omega arith, (c.requires.sound, subst (IsTreePart c.args.definition.now) c.in-Sub.is c.requires.tree))

pub pattern_of-loop-part-init : goal.pattern_of-loop-part-init
pattern_of-loop-part-init t c = subst (IsGrown c.args.definition.now (operator c.in-Op.op)) (sym c.new-children.ensures.items) (grown_none c.args.definition.now c.in-Op.op)

pub pattern_of-add_part-requires : goal.pattern_of-add_part-requires
pattern_of-add_part-requires t c =
    let def = c.args.definition.now in
    let tree = subst (λ s. IsSomeTree def (tree_of s)) c.in-Op.is c.requires.tree in
    let all = subst (AllByRecursion (IsTreePart def)) (sym c.as_slice-part-items.ensures) (parts_fit def c.in-Op.op c.in-Op.parts tree) in
    let lt = part_below c.in-Op.op c.in-Op.parts c.as_slice-part-items.result.now c.args.specimen.now c.loop-part.part-index c.part-item.result c.in-Op.is c.as_slice-part-items.ensures c.loop-part-test.true c.part-item.is in
    (omega arith, (c.requires.sound, each (IsTreePart def) c.as_slice-part-items.result.now all c.loop-part.part-index c.part-item.result c.loop-part-test.true c.part-item.is))

pub pattern_of-loop-part-preserved : goal.pattern_of-loop-part-preserved
pattern_of-loop-part-preserved t c =
    grown_next c.args.definition.now (operator c.in-Op.op) c.as_slice-part-items.result.now c.loop-part.part-index c.part-item.result c.loop-part.children.items c.add_part.new.children.items
    c.loop-part-test.true c.part-item.is c.in_ok-add_part-in-Op.ensures.added c.loop-part.invariant

pub pattern_of-returns-in_err-add_part-in-Op : goal.pattern_of-returns-in_err-add_part-in-Op
pattern_of-returns-in_err-add_part-in-Op t c =
    let def = c.args.definition.now in
    let fault = c.in_err-add_part-in-Op.field-0.0 in
    let d : c.from_residual.result ≡ Err fault = search rules in
    subst (IsPatternFor def (tree_of c.args.specimen.now)) (sym d) (subst (λ s. IsPatternFor def (tree_of s) (Err fault)) (sym c.in-Op.is)
    (part_fault def c.in-Op.op c.in-Op.parts c.as_slice-part-items.result.now c.loop-part.part-index c.part-item.result fault c.as_slice-part-items.ensures c.loop-part-test.true c.part-item.is c.in_err-add_part-in-Op.ensures.wide))

pub pattern_of-pattern_op-requires-clause-takes : goal.pattern_of-pattern_op-requires-clause-takes
pattern_of-pattern_op-requires-clause-takes t c =
    let def = c.args.definition.now in
    let stop = c.loop-part-test.false in
    takes def c.requires.sound c.in-Op.op c.in-Op.parts c.as_slice-in-Op.result.now c.as_slice-in-Op-2.result.now (subst (λ s. IsSomeTree def (tree_of s)) c.in-Op.is c.requires.tree)
    (c.as_slice-in-Op.ensures.value ∙ c.in_ok-names-in-Op.ensures ∙ ap part_names c.as_slice.ensures)
    (grown_all def c.in-Op.op c.in-Op.parts c.as_slice-part-items.result.now c.loop-part.part-index c.loop-part.children.items c.as_slice-in-Op-2.result.now c.as_slice-part-items.ensures (omega (arith, stop)) c.as_slice-in-Op-2.ensures.value c.loop-part.invariant)

pub pattern_of-returns-in_err-made-in-Op : goal.pattern_of-returns-in_err-made-in-Op
pattern_of-returns-in_err-made-in-Op t c =
    let def = c.args.definition.now in
    let stop = c.loop-part-test.false in
    let fault = c.in_err-made-in-Op.field-0.0 in
    let d : c.from_residual-in_err-made-in-Op.result ≡ Err fault = search rules in
    subst (IsPatternFor def (tree_of c.args.specimen.now)) (sym d)
    (op_fault def c.in-Op.op c.in-Op.parts c.in-Op.parts c.args.specimen.now c.as_slice-in-Op.result.now c.as_slice-in-Op-2.result.now fault c.in-Op.is refl c.requires.tree
    (c.as_slice-in-Op.ensures.value ∙ c.in_ok-names-in-Op.ensures ∙ ap part_names c.as_slice.ensures)
    (grown_all def c.in-Op.op c.in-Op.parts c.as_slice-part-items.result.now c.loop-part.part-index c.loop-part.children.items c.as_slice-in-Op-2.result.now c.as_slice-part-items.ensures (omega (arith, stop)) c.as_slice-in-Op-2.ensures.value c.loop-part.invariant)
    c.in_err-made-in-Op.ensures.answer)

pub pattern_of-returns-in_ok-made-in-Op : goal.pattern_of-returns-in_ok-made-in-Op
pattern_of-returns-in_ok-made-in-Op t c =
    let def = c.args.definition.now in
    let stop = c.loop-part-test.false in
    op_done def c.in-Op.op c.in-Op.parts c.in-Op.parts c.args.specimen.now c.as_slice-in-Op.result.now c.as_slice-in-Op-2.result.now c.in_ok-made-in-Op.made c.in-Op.is refl c.requires.tree
    (c.as_slice-in-Op.ensures.value ∙ c.in_ok-names-in-Op.ensures ∙ ap part_names c.as_slice.ensures)
    (grown_all def c.in-Op.op c.in-Op.parts c.as_slice-part-items.result.now c.loop-part.part-index c.loop-part.children.items c.as_slice-in-Op-2.result.now c.as_slice-part-items.ensures (omega (arith, stop)) c.as_slice-in-Op-2.ensures.value c.loop-part.invariant)
    c.in_ok-made-in-Op.ensures.answer c.in_ok-made-in-Op.ensures.pattern

pub pattern_of-pattern_of-requires : goal.pattern_of-pattern_of-requires
pattern_of-pattern_of-requires t c =
    let def = c.args.definition.now in
    let tree = subst (λ s. IsSomeTree def (tree_of s)) c.in-List.is c.requires.tree in
    let all = subst (AllByRecursion (λ s. IsSomeTree def (tree_of s))) (sym c.as_slice-element-items.ensures) (elements_fit def c.in-List.list c.in-List.elements c.in-List.rest tree) in
    let lt = element_below c.in-List.list c.in-List.elements c.as_slice-element-items.result.now c.in-List.rest c.args.specimen.now c.loop-element.element-index c.element-item.result c.in-List.is c.as_slice-element-items.ensures c.loop-element-test.true c.element-item.is in
    (omega arith, (c.requires.sound, each (λ s. IsSomeTree def (tree_of s)) c.as_slice-element-items.result.now all c.loop-element.element-index c.element-item.result c.loop-element-test.true c.element-item.is))

pub pattern_of-returns-in_err-pattern-in-List : goal.pattern_of-returns-in_err-pattern-in-List
pattern_of-returns-in_err-pattern-in-List t c =
    let def = c.args.definition.now in
    let fault = c.in_err-pattern-in-List.field-0.0 in
    let d : c.from_residual-in_err-pattern-in-List.result ≡ Err fault = search rules in
    subst (IsPatternFor def (tree_of c.args.specimen.now)) (sym d)
    (element_fault def c.in-List.list c.in-List.elements c.as_slice-element-items.result.now c.in-List.rest c.args.specimen.now c.loop-element.element-index c.element-item.result fault
    c.in-List.is c.as_slice-element-items.ensures c.loop-element-test.true c.element-item.is c.in_err-pattern-in-List.ensures)

pub pattern_of-loop-element-preserved : goal.pattern_of-loop-element-preserved
pattern_of-loop-element-preserved t c =
    patterns_next c.args.definition.now c.as_slice-element-items.result.now c.loop-element.element-index c.element-item.result c.loop-element.own.items c.push.new.self.items c.in_ok-pattern-in-List.pattern
    c.loop-element-test.true c.element-item.is c.in_ok-pattern-in-List.ensures c.in_ok-push-in-List.ensures.items c.loop-element.invariant

pub pattern_of-end_pattern-requires-clause-there : goal.pattern_of-end_pattern-requires-clause-there
pattern_of-end_pattern-requires-clause-there t c = end_there c.args.definition.now c.in-List.list c.in-List.elements c.in-List.rest c.args.specimen.now c.in-List.is c.requires.tree

pub pattern_of-returns-in_err-end-in-List : goal.pattern_of-returns-in_err-end-in-List
pattern_of-returns-in_err-end-in-List t c =
    let def = c.args.definition.now in
    let fault = c.in_err-end-in-List.field-0.0 in
    let d : c.from_residual-in_err-end-in-List.result ≡ Err fault = search rules in
    subst (IsPatternFor def (tree_of c.args.specimen.now)) (sym d)
    (end_fault def c.in-List.list c.in-List.elements c.in-List.rest c.args.specimen.now fault c.in-List.is c.in_err-end-in-List.ensures.end)

pub pattern_of-list_pattern-requires-clause-elements : goal.pattern_of-list_pattern-requires-clause-elements
pattern_of-list_pattern-requires-clause-elements t c =
    let def = c.args.definition.now in
    let stop = c.loop-element-test.false in
    suit_elements def c.requires.sound c.in-List.list c.in-List.elements c.in-List.elements c.in-List.rest c.args.specimen.now c.as_slice-in-List.result.now c.in-List.is refl c.requires.tree
    (patterns_all def c.in-List.elements c.as_slice-element-items.result.now c.loop-element.element-index c.loop-element.own.items c.as_slice-in-List.result.now c.as_slice-element-items.ensures (omega (arith, stop)) c.as_slice-in-List.ensures.value c.loop-element.invariant)

pub pattern_of-returns-in_err-whole-in-List : goal.pattern_of-returns-in_err-whole-in-List
pattern_of-returns-in_err-whole-in-List t c =
    let def = c.args.definition.now in
    let stop = c.loop-element-test.false in
    let fault = c.in_err-whole-in-List.field-0.0 in
    let d : c.from_residual-in_err-whole-in-List.result ≡ Err fault = search rules in
    let are = patterns_all def c.in-List.elements c.as_slice-element-items.result.now c.loop-element.element-index c.loop-element.own.items c.as_slice-in-List.result.now c.as_slice-element-items.ensures (omega (arith, stop)) c.as_slice-in-List.ensures.value c.loop-element.invariant in
    subst (IsPatternFor def (tree_of c.args.specimen.now)) (sym d)
    (list_fault def c.in-List.list c.in-List.elements c.in-List.elements c.in-List.rest c.args.specimen.now fault c.in-List.is refl
    (c.in_err-whole-in-List.ensures.whole c.in-List.elements (end_tree c.in-List.list c.in-List.rest) are c.in_ok-end-in-List.ensures.end))

pub pattern_of-returns-in_ok-whole-in-List : goal.pattern_of-returns-in_ok-whole-in-List
pattern_of-returns-in_ok-whole-in-List t c =
    let def = c.args.definition.now in
    let stop = c.loop-element-test.false in
    let are = patterns_all def c.in-List.elements c.as_slice-element-items.result.now c.loop-element.element-index c.loop-element.own.items c.as_slice-in-List.result.now c.as_slice-element-items.ensures (omega (arith, stop)) c.as_slice-in-List.ensures.value c.loop-element.invariant in
    list_done def c.in-List.list c.in-List.elements c.in-List.elements c.in-List.rest c.args.specimen.now c.in_ok-whole-in-List.whole c.in-List.is refl
    (c.in_ok-whole-in-List.ensures.whole c.in-List.elements (end_tree c.in-List.list c.in-List.rest) are c.in_ok-end-in-List.ensures.end) c.in_ok-whole-in-List.ensures.suits
