use Rattle.std.proofs.Common.{◌≡◌, ◌+◌, ◌*◌, ◌++◌, ◌∷◌, [], List, Some, false, append-nil, append_assoc, ap, arith, refl, sym, subst, ◌∙◌}
use Rattle.psg_grammar.specs.Fragments.{hole, operator}
use Rattle.psg_grammar.specs.Marks.{nodes_from}
use Rattle.psg_grammar.specs.Paths.{IsList, Path, node_at}
use Rattle.psg_tree.specs.declared.tree.Part.{Part}
use Rattle.psg_tree.specs.Shapes.{height, list_of, tree_of, with_part, with_parts}
use Rattle.psg_tree.proofs.Heights.{element_in, height-list_of, list_height, op_height, part_in}
use Rattle.psg_recover.specs.declared.finding.Finding.{Finding}
use Rattle.psg_lint.specs.OpenPlaces.{AreNoted, IsNoted, none_noted}
use Rattle.psg_lint.specs.Opens.{IsPartThere, part_nodes}
use Rattle.psg_lint.proofs.EndLaws.{is_a_list}
use Rattle.psg_lint.proofs.OpenLaws.{count_more, element_there, elements_all, elements_more, elements_none, part_there, parts_all}
use Rattle.psg_lint.proofs.OpenLaws.{hole_alone, list_whole, operator_whole, parts_more, parts_none, sub_lower}
use Rattle.psg_lint.proofs.open_places.+opens.Goals as goal

pub tell_part-tell_node-requires : goal.tell_part-tell_node-requires
tell_part-tell_node-requires g t c κs within =
    let d : 3 * height (with_part (operator 0) c.args.part.now) ≡ t = c.decreases in
    let e = sub_lower c.args.part.now c.in-Sub.tree c.in-Sub.is in
    let root = c.args.own.judged.tree.now in (
      omega (arith, d, e),
      (
        within,
        (
          c.requires.program,
          ap (node_at root) (c.as_slice.ensures.value ∙ c.in_ok-inner-in-Sub.ensures)
              ∙ subst (IsPartThere root c.args.path.now c.args.child) c.in-Sub.is c.requires.there,
        ),
      ),
    )

pub tell_part-returns-in_ok-tell_node-in-Sub : goal.tell_part-returns-in_ok-tell_node-in-Sub
tell_part-returns-in_ok-tell_node-in-Sub g t c = λ r is.
    let j = c.args.own.judged in
    let (told, e, h) = c.in_ok-tell_node-in-Sub.ensures r is in (
      told,
      e,
      subst (λ (p : Part). AreNoted j.definition.now j.tree.now r (part_nodes c.args.path.now c.args.child p) told) (sym c.in-Sub.is)
          (subst (λ (q : Path). AreNoted j.definition.now j.tree.now r (nodes_from q c.in-Sub.tree) told) (c.as_slice.ensures.value ∙ c.in_ok-inner-in-Sub.ensures) h),
    )

pub tell_part-returns-in-Name : goal.tell_part-returns-in-Name
tell_part-returns-in-Name g t c = λ r is.
    let j = c.args.own.judged in (
      [],
      sym (append-nil c.args.found.now.items),
      subst (λ (p : Part). AreNoted j.definition.now j.tree.now r (part_nodes c.args.path.now c.args.child p) []) (sym c.in-Name.is) none_noted,
    )

pub tell_part-returns-in-Number : goal.tell_part-returns-in-Number
tell_part-returns-in-Number g t c = λ r is.
    let j = c.args.own.judged in (
      [],
      sym (append-nil c.args.found.now.items),
      subst (λ (p : Part). AreNoted j.definition.now j.tree.now r (part_nodes c.args.path.now c.args.child p) []) (sym c.in-Number.is) none_noted,
    )

pub tell_part-returns-in-Text : goal.tell_part-returns-in-Text
tell_part-returns-in-Text g t c = λ r is.
    let j = c.args.own.judged in (
      [],
      sym (append-nil c.args.found.now.items),
      subst (λ (p : Part). AreNoted j.definition.now j.tree.now r (part_nodes c.args.path.now c.args.child p) []) (sym c.in-Text.is) none_noted,
    )

pub tell_parts-loop-part-init : goal.tell_parts-loop-part-init
tell_parts-loop-part-init g t c = (
  refl,
  λ r is. (
    [],
    sym (append-nil c.args.found.now.items),
    parts_none c.args.own.judged.definition.now c.args.own.judged.tree.now r c.args.path.now c.args.parts.now,
  ),
)

pub tell_parts-tell_part-requires : goal.tell_parts-tell_part-requires
tell_parts-tell_part-requires g t c κs within =
    let d : 3 * height (with_parts (operator 0) c.args.parts.now) + 1 ≡ t = c.decreases in
    let e = part_in (operator 0) c.args.parts.now c.loop-part.part-index c.part-item.result c.loop-part-test.true c.part-item.is in
    let (op, at) = c.requires.there in (
      omega (arith, d, e),
      (
        within,
        (
          c.requires.program,
          part_there c.args.own.judged.tree.now c.args.path.now op c.args.parts.now c.loop-part.part-index c.loop-part.children c.part-item.result
              c.loop-part-test.true c.part-item.is at c.loop-part.invariant.0,
        ),
      ),
    )

pub tell_parts-loop-part-preserved : goal.tell_parts-loop-part-preserved
tell_parts-loop-part-preserved g t c =
    let more = c.in_ok-more.ensures.sum ∙ ap (λ n. c.loop-part.children + n) c.children_in-mine.ensures in (
      count_more c.args.parts.now c.loop-part.part-index c.loop-part.children c.in_ok-more.more c.part-item.result c.loop-part-test.true
          c.part-item.is more c.loop-part.invariant.0,
      λ r is.
          let (told, e, h) = c.loop-part.invariant.1 r is in
          let (own, q, k) = c.in_ok-tell_part.ensures r is in (
            told ++ own,
            q ∙ ap (λ (xs : List Finding). xs ++ own) e ∙ append_assoc c.args.found.now.items told own,
            parts_more c.args.own.judged.definition.now c.args.own.judged.tree.now r c.args.path.now c.args.parts.now c.loop-part.part-index
                c.loop-part.children c.in_ok-more.more c.part-item.result told own c.loop-part-test.true c.part-item.is more k h,
          ),
    )

pub tell_parts-returns : goal.tell_parts-returns
tell_parts-returns g t c = λ r is.
    let (told, e, h) = c.loop-part.invariant.1 r is in (
      told,
      e,
      parts_all c.args.own.judged.definition.now c.args.own.judged.tree.now r c.args.path.now c.args.parts.now c.loop-part.part-index
          c.loop-part.children told c.loop-part-test.false h,
    )

pub tell_elements-loop-place-init : goal.tell_elements-loop-place-init
tell_elements-loop-place-init g t c = λ r is. (
  [],
  sym (append-nil c.args.found.now.items),
  elements_none c.args.own.judged.definition.now c.args.own.judged.tree.now r c.args.path.now c.args.elements.now,
)

pub tell_elements-tell_node-requires : goal.tell_elements-tell_node-requires
tell_elements-tell_node-requires g t c κs within =
    let d : 3 * height (list_of 0 c.args.elements.now false) + 1 ≡ t = c.decreases in
    let e = element_in 0 c.args.elements.now false c.loop-place.place c.index-elements-place.result c.loop-place-test.true c.index-elements-place.is in
    let (l, u, at) = c.requires.there in (
      omega (arith, d, e),
      (
        within,
        (
          c.requires.program,
          ap (node_at c.args.own.judged.tree.now) (c.as_slice.ensures.value ∙ c.in_ok-inner.ensures)
              ∙ element_there c.args.own.judged.tree.now c.args.path.now l c.args.elements.now u c.loop-place.place c.index-elements-place.result
              c.loop-place-test.true c.index-elements-place.is at,
        ),
      ),
    )

pub tell_elements-loop-place-preserved : goal.tell_elements-loop-place-preserved
tell_elements-loop-place-preserved g t c = λ r is.
    let j = c.args.own.judged in
    let (told, e, h) = c.loop-place.invariant r is in
    let (own, q, k) = c.in_ok-tell_node.ensures r is in (
      told ++ own,
      q ∙ ap (λ (xs : List Finding). xs ++ own) e ∙ append_assoc c.args.found.now.items told own,
      elements_more j.definition.now j.tree.now r c.args.path.now c.args.elements.now c.loop-place.place c.index-elements-place.result told own
          c.loop-place-test.true c.index-elements-place.is
          (subst (λ (p : Path). AreNoted j.definition.now j.tree.now r (nodes_from p c.index-elements-place.result) own)
          (c.as_slice.ensures.value ∙ c.in_ok-inner.ensures) k) h,
    )

pub tell_elements-returns : goal.tell_elements-returns
tell_elements-returns g t c = λ r is.
    let (told, e, h) = c.loop-place.invariant r is in (
      told,
      e,
      elements_all c.args.own.judged.definition.now c.args.own.judged.tree.now r c.args.path.now c.args.elements.now c.loop-place.place told
          c.loop-place-test.false h,
    )

pub tell_node-told_hole-requires-clause-there : goal.tell_node-told_hole-requires-clause-there
tell_node-told_hole-requires-clause-there g t c =
    let root = c.args.own.judged.tree.now in
    ap (node_at root) c.in_ok-place-in-Hole.ensures ∙ c.requires.there ∙ ap Some (sym c.shape.ensures ∙ ap tree_of c.in-Hole.is)

pub tell_node-returns-in_ok-push-in-Hole : goal.tell_node-returns-in_ok-push-in-Hole
tell_node-returns-in_ok-push-in-Hole g t c = λ r is.
    let j = c.args.own.judged in
    let same : hole c.in-Hole.phylum ≡ c.args.tree.now = sym (ap tree_of c.in-Hole.is) ∙ c.shape.ensures in (
      c.in_ok-told-in-Hole.told ∷ [],
      c.in_ok-push-in-Hole.ensures.items,
      hole_alone j.definition.now j.tree.now r c.args.path.now c.args.tree.now c.in-Hole.phylum c.in_ok-told-in-Hole.told same
          (subst (λ (p : Path). IsNoted j.definition.now j.tree.now r p (hole c.in-Hole.phylum) (c.in_ok-told-in-Hole.told ∷ [])) c.in_ok-place-in-Hole.ensures
          (c.in_ok-told-in-Hole.ensures r is)),
    )

pub tell_node-tell_parts-requires : goal.tell_node-tell_parts-requires
tell_node-tell_parts-requires g t c κs within =
    let d : 3 * height c.args.tree.now + 2 ≡ t = c.decreases in
    let e = op_height _ _ _ _ c.in-Op.is c.shape.ensures in
    let p = ap (λ ps. height (with_parts (operator 0) ps)) c.as_slice.ensures in
    let same : c.args.tree.now ≡ with_parts (operator c.in-Op.op) c.as_slice.result.now =
    sym c.shape.ensures ∙ ap tree_of c.in-Op.is ∙ ap (with_parts (operator c.in-Op.op)) (sym c.as_slice.ensures) in
    (omega (arith, d, e, p), (within, (c.requires.program, (c.in-Op.op, c.requires.there ∙ ap Some same))))

pub tell_node-returns-in_ok-tell_parts-in-Op : goal.tell_node-returns-in_ok-tell_parts-in-Op
tell_node-returns-in_ok-tell_parts-in-Op g t c = λ r is.
    let j = c.args.own.judged in
    let (told, e, h) = c.in_ok-tell_parts-in-Op.ensures r is in (
      told,
      e,
      operator_whole j.definition.now j.tree.now r c.args.path.now c.args.tree.now c.in-Op.op c.as_slice.result.now told
          (sym (sym c.shape.ensures ∙ ap tree_of c.in-Op.is ∙ ap (with_parts (operator c.in-Op.op)) (sym c.as_slice.ensures))) h,
    )

pub tell_node-tell_list-requires-clause-list : goal.tell_node-tell_list-requires-clause-list
tell_node-tell_list-requires-clause-list g t c =
    subst IsList (sym (sym c.shape.ensures ∙ ap tree_of c.in-List.is)) (is_a_list c.in-List.list c.in-List.elements c.in-List.unfinished)

pub tell_node-tell_elements-requires : goal.tell_node-tell_elements-requires
tell_node-tell_elements-requires g t c κs within =
    let d : 3 * height c.args.tree.now + 2 ≡ t = c.decreases in
    let e = list_height _ _ _ _ _ c.in-List.is c.shape.ensures in
    let p = ap (λ es. height (list_of 0 es false)) c.as_slice-in-List.ensures in
    let f = height-list_of 0 c.in-List.elements c.in-List.unfinished false in
    let same : c.args.tree.now ≡ list_of c.in-List.list c.as_slice-in-List.result.now c.in-List.unfinished =
    sym c.shape.ensures ∙ ap tree_of c.in-List.is ∙ ap (λ es. list_of c.in-List.list es c.in-List.unfinished) (sym c.as_slice-in-List.ensures) in
    (omega (arith, d, e, p, f), (within, (c.requires.program, (c.in-List.list, c.in-List.unfinished, c.requires.there ∙ ap Some same))))

pub tell_node-returns-in_ok-tell_elements-in-List : goal.tell_node-returns-in_ok-tell_elements-in-List
tell_node-returns-in_ok-tell_elements-in-List g t c = λ r is.
    let j = c.args.own.judged in
    let (own, q, one) = c.in_ok-tell_list-in-List.ensures r is in
    let (told, e, h) = c.in_ok-tell_elements-in-List.ensures r is in (
      own ++ told,
      e ∙ ap (λ (xs : List Finding). xs ++ told) q ∙ append_assoc c.args.found.now.items own told,
      list_whole j.definition.now j.tree.now r c.args.path.now c.args.tree.now c.in-List.list c.as_slice-in-List.result.now c.in-List.unfinished own told
          (sym (sym c.shape.ensures ∙ ap tree_of c.in-List.is ∙ ap (λ es. list_of c.in-List.list es c.in-List.unfinished) (sym c.as_slice-in-List.ensures)))
          (subst (λ (p : Path). IsNoted j.definition.now j.tree.now r p c.args.tree.now own) c.in_ok-place-in-List.ensures one) h,
    )
