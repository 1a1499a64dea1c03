use Rattle.std.proofs.Common.{◌≡◌, ◌-◌, ◌≤◌, ◌∷◌, [], ◌++◌, None, false, length, sym, ap, subst, ◌∙◌, arith}
use Rattle.psg_terms.proofs.Lists.{each_at, slice_get_item}
use Rattle.psg_grammar.specs.Fragments.{children_of}
use Rattle.std.specs.List.{AllByRecursion}
use Rattle.psg_tree.specs.Shapes.{height, list_of, subtrees}
use Rattle.psg_tree.proofs.Heights.{element_in}
use Rattle.psg_cache.specs.Notes.{IsFormed}
use Rattle.psg_explain.specs.Added.{ends_of}
use Rattle.psg_explain.specs.Plans.{listing, making}
use Rattle.psg_explain.specs.Sources.{AddsStages, AreEnds, IsEnd, IsStepNode}
use Rattle.psg_explain.proofs.StepLaws.{end_there, stage_within}
use Rattle.psg_explain.proofs.StagingLaws.{BelowTo, below_end, below_next, below_start, children_ends, elements_formed, hole_comes, list_whole, op_top, operator_whole, parts_formed, shape_hole, shape_list, shape_op}
use Rattle.psg_explain.proofs.staging.+stages.Goals as goal

pub add_below-loop-i-init : goal.add_below-loop-i-init
add_below-loop-i-init t c =
    subst (λ l. BelowTo c.args.known.definition.now c.args.path.now c.args.trees.now c.args.stages.now.items c.args.stages.now.items 0 l) (sym c.in_ok-places.ensures.items)
    (below_start c.args.known.definition.now c.args.path.now c.args.trees.now c.args.stages.now.items)

pub add_below-add_stages-requires : goal.add_below-add_stages-requires
add_below-add_stages-requires t c =
    let trees = c.args.trees.now in
    let e = element_in 0 trees false c.loop-i.i c.index-trees-i.result c.loop-i-test.true c.index-trees-i.is in (
      omega arith,
      (
        c.requires.sound,
        (
          c.requires.tables,
          each_at (IsFormed c.args.known.definition.now) trees c.requires.formed c.loop-i.i c.index-trees-i.result (slice_get_item trees c.loop-i.i c.index-trees-i.result c.loop-i-test.true c.index-trees-i.is),
        ),
      ),
    )

pub add_below-overflow_sub-last : goal.add_below-overflow_sub-last
add_below-overflow_sub-last t c =
    let some = stage_within c.add_stages.new.stages.items (length c.add_stages.new.stages.items - 1) (end_there c.args.known.definition.now c.add_stages.new.stages.items _ c.in_ok-add_stages.ensures.last) in
    let same = ap length c.as_slice-all.ensures.value in
    omega (arith, some, same)

pub add_below-loop-i-preserved : goal.add_below-loop-i-preserved
add_below-loop-i-preserved t c =
    let places = c.loop-i.places.items in
    let new = c.add_stages.new.stages.items in
    below_next c.args.known.definition.now c.args.path.now c.args.trees.now c.args.stages.now.items c.loop-i.stages.items new c.loop-i.i places c.push.new.self.items c.index-trees-i.result
    c.as_slice.result.now c.loop-i-test.true c.index-trees-i.is (c.as_slice.ensures.value ∙ c.in_ok-below.ensures) c.loop-i.invariant c.in_ok-add_stages.ensures.steps c.in_ok-add_stages.ensures.last
    (c.in_ok-push.ensures.items ∙ ap (λ n. places ++ (n - 1) ∷ []) (ap length c.as_slice-all.ensures.value))

pub add_below-returns : goal.add_below-returns
add_below-returns t c =
    below_end c.args.known.definition.now c.args.path.now c.args.trees.now c.args.stages.now.items c.loop-i.stages.items c.loop-i.i c.loop-i.places.items (omega arith) c.loop-i.invariant

pub add_stages-returns-in_ok-add-in-Hole : goal.add_stages-returns-in_ok-add-in-Hole
add_stages-returns-in_ok-add-in-Hole t c =
    let f = c.args.tree.now in
    let made =
    hole_comes c.args.known.definition.now c.in-Hole.phylum f c.args.path.now c.in_ok-header-in-Hole.header c.in_ok-site-in-Hole.site c.args.stages.now.items c.add.new.stages.items
    (shape_hole c.shape.result.now c.in-Hole.phylum f c.in-Hole.is c.shape.ensures) c.in_ok-header-in-Hole.ensures c.in_ok-site-in-Hole.ensures c.requires.formed c.in_ok-add-in-Hole.ensures in
    record { steps = made.0; last = made.1 }

pub add_stages-add_below-requires : goal.add_stages-add_below-requires
add_stages-add_below-requires t c =
    let f = c.args.tree.now in
    let (all, low) =
    parts_formed c.args.known.definition.now c.in-Op.op c.in-Op.parts f c.as_slice-in-Op.result.now (shape_op c.shape.result.now c.in-Op.op c.in-Op.parts f c.in-Op.is c.shape.ensures)
    (c.as_slice-in-Op.ensures.value ∙ c.in_ok-trees-in-Op.ensures ∙ ap subtrees c.as_slice.ensures) c.requires.formed in
    (omega (arith, low), (c.requires.sound, (c.requires.tables, all)))

pub add_stages-add_operator-requires : goal.add_stages-add_operator-requires
add_stages-add_operator-requires t c =
    let def = c.args.known.definition.now in
    let f = c.args.tree.now in
    let e = shape_op c.shape.result.now c.in-Op.op c.in-Op.parts f c.in-Op.is c.shape.ensures in
    let places : c.as_slice-in-Op-2.result.now ≡ c.in_ok-last-in-Op.last.items = c.as_slice-in-Op-2.ensures.value in
    let (ends, count) =
    children_ends def c.in-Op.op c.in-Op.parts f c.as_slice-in-Op.result.now c.args.path.now c.args.stages.now.items c.add_below.new.stages.items c.in_ok-last-in-Op.last.items e
    (c.as_slice-in-Op.ensures.value ∙ c.in_ok-trees-in-Op.ensures ∙ ap subtrees c.as_slice.ensures) c.in_ok-last-in-Op.ensures in
    record {
      formed = c.requires.formed;
      top = op_top def c.in-Op.op c.in-Op.parts f e;
      ends = subst (λ l. AreEnds def c.add_below.new.stages.items (ends_of (children_of f) l)) (sym places) ends;
      count = ap length places ∙ count;
    }

pub add_stages-returns-in_ok-add_operator-in-Op : goal.add_stages-returns-in_ok-add_operator-in-Op
add_stages-returns-in_ok-add_operator-in-Op t c =
    let def = c.args.known.definition.now in
    let f = c.args.tree.now in
    let between = c.add_below.new.stages.items in
    let e = shape_op c.shape.result.now c.in-Op.op c.in-Op.parts f c.in-Op.is c.shape.ensures in
    record {
      steps = operator_whole def c.in-Op.op c.in-Op.parts f c.as_slice-in-Op.result.now c.args.path.now c.args.stages.now.items between c.add_operator.new.stages.items c.in_ok-last-in-Op.last.items e
          (c.as_slice-in-Op.ensures.value ∙ c.in_ok-trees-in-Op.ensures ∙ ap subtrees c.as_slice.ensures) c.in_ok-last-in-Op.ensures
          (subst (λ l. AddsStages def between c.add_operator.new.stages.items (making def (length between) c.args.path.now None f (ends_of (children_of f) l))) c.as_slice-in-Op-2.ensures.value c.in_ok-add_operator-in-Op.ensures.steps);
      last = c.in_ok-add_operator-in-Op.ensures.last;
    }

pub add_stages-add_below-requires-in-List : goal.add_stages-add_below-requires-in-List
add_stages-add_below-requires-in-List t c =
    let f = c.args.tree.now in
    let e = shape_list c.shape.result.now c.in-List.list c.in-List.elements c.in-List.unfinished f c.in-List.is c.shape.ensures in
    let same : c.as_slice-in-List.result.now ≡ c.in-List.elements = c.as_slice-in-List.ensures in
    let (all, low) = elements_formed c.args.known.definition.now c.in-List.list c.in-List.elements c.in-List.unfinished f e c.requires.formed in
    let less = subst (λ l. height (list_of 0 l false) ≤ height f) (sym same) low in
    (omega (arith, less), (c.requires.sound, (c.requires.tables, subst (AllByRecursion (IsFormed c.args.known.definition.now)) (sym same) all)))

pub add_stages-add_list-requires : goal.add_stages-add_list-requires
add_stages-add_list-requires t c =
    let def = c.args.known.definition.now in
    let f = c.args.tree.now in
    let e = shape_list c.shape.result.now c.in-List.list c.in-List.elements c.in-List.unfinished f c.in-List.is c.shape.ensures in
    let same : c.as_slice-in-List.result.now ≡ c.in-List.elements = c.as_slice-in-List.ensures in
    let below = c.in_ok-last-in-List.ensures in
    let places = c.as_slice-in-List-2.ensures.value in
    record {
      sound = c.requires.sound;
      tables = c.requires.tables;
      formed = subst (λ l. IsStepNode def (list_of c.in-List.list l c.in-List.unfinished)) (sym same) (subst (IsStepNode def) (sym e) c.requires.formed);
      ends = subst (λ l. AreEnds def c.add_below-in-List.new.stages.items (ends_of c.as_slice-in-List.result.now l)) (sym places) below.ends;
      count = ap length places ∙ below.count;
    }

pub add_stages-returns-in_ok-add_list-in-List : goal.add_stages-returns-in_ok-add_list-in-List
add_stages-returns-in_ok-add_list-in-List t c =
    let def = c.args.known.definition.now in
    let f = c.args.tree.now in
    let between = c.add_below-in-List.new.stages.items in
    let new = c.add_list.new.stages.items in
    let l = c.in-List.list in
    let u = c.in-List.unfinished in
    let es = c.as_slice-in-List.result.now in
    let e = shape_list c.shape.result.now l c.in-List.elements u f c.in-List.is c.shape.ensures in
    let here : list_of l es u ≡ f = ap (λ x. list_of l x u) c.as_slice-in-List.ensures ∙ e in
    record {
      steps = list_whole def l es u f c.args.path.now c.args.stages.now.items between new c.in_ok-last-in-List.last.items here c.in_ok-last-in-List.ensures
          (subst (λ x. AddsStages def between new (listing def (length between) c.args.path.now 0 (list_of l es u) (ends_of es x))) c.as_slice-in-List-2.ensures.value c.in_ok-add_list-in-List.ensures.steps);
      last = subst (λ g. IsEnd def new (record { tree = g; place = length new - 1 })) here c.in_ok-add_list-in-List.ensures.last;
    }
