use Rattle.std.proofs.Common.{◌≡◌, subst, ◌∙◌, arith}
use Rattle.psg_grammar.specs.Fragments.{children_of}
use Rattle.psg_grammar.specs.Steps.{steps_of}
use Rattle.psg_tree.specs.Shapes.{height}
use Rattle.psg_cache.specs.Walks.{IsStepFault}
use Rattle.psg_cache.proofs.ChildLaws.{child_formed}
use Rattle.psg_cache.proofs.Counting.{counted_more, counted_tree, within_child, within_children, within_top}
use Rattle.psg_cache.proofs.Passing.{passed}
use Rattle.psg_cache.proofs.WalkLaws.{notes-none, notes_all, notes_more, top_fault, walked_fault}
use Rattle.psg_cache.proofs.walking.+walk.Goals as goal

pub loop-i-init : goal.loop-i-init
loop-i-init g t c = record {
  walked = notes-none c.args.language.definition.now c.new-below.result.items c.new-below.ensures.items;
  counted = omega arith;
}

pub walk-requires : goal.walk-requires
walk-requires g t c κs within =
    let tree = c.args.tree.now in
    let are : c.as_slice-inner.result.now ≡ children_of tree = c.as_slice-inner.ensures.value ∙ c.in_ok-all.ensures in
    let h = child_formed c.args.language.definition.now tree c.requires.formed c.as_slice-inner.result.now are
    c.loop-i.i c.index-inner-i.result c.loop-i-test.true c.index-inner-i.is in
    let d : height tree ≡ t = c.decreases in
    (omega (arith, h.1, d), (within, (c.requires.language, h.0)))

pub loop-i-preserved : goal.loop-i-preserved
loop-i-preserved g t c =
    record {
      walked =
          notes_more c.args.language.definition.now c.as_slice-inner.result.now c.loop-i.i c.index-inner-i.result
          c.loop-i.below.items c.push.new.self.items c.in_ok-note.note c.loop-i-test.true c.index-inner-i.is
          c.in_ok-push.ensures.items c.loop-i.invariant.walked c.in_ok-note.ensures.ok;
      counted =
          counted_more c.as_slice-inner.result.now c.loop-i.i c.index-inner-i.result c.args.steps.now c.loop-i.steps
          c.walk.new.steps
          c.loop-i-test.true c.index-inner-i.is c.loop-i.invariant.counted c.in_ok-note.ensures.ticks;
    }

pub returns-in_err-note-clause-err : goal.returns-in_err-note-clause-err
returns-in_err-note-clause-err g t c =
    let def = c.args.language.definition.now in
    let path = c.args.path.now in
    let tree = c.args.tree.now in
    let are : c.as_slice-inner.result.now ≡ children_of tree = c.as_slice-inner.ensures.value ∙ c.in_ok-all.ensures in
    passed (IsStepFault def (steps_of def path tree)) _ c.in_err-note.field-0.0 c.from_residual-in_err-note.ensures.1
    (walked_fault def path c.in_ok-place.place.items tree c.requires.formed c.as_slice-inner.result.now
    c.loop-i.i c.in_ok-step.step c.index-inner-i.result c.loop-i.below.items c.in_err-note.field-0.0 are
    c.loop-i-test.true c.index-inner-i.is c.in_ok-step.ensures.step c.in_ok-place.ensures c.loop-i.invariant.walked
    (subst (λ q. IsStepFault def (steps_of def q c.index-inner-i.result) c.in_err-note.field-0.0)
    c.as_slice.ensures.value c.in_err-note.ensures.err))

pub topped-requires-clause-below : goal.topped-requires-clause-below
topped-requires-clause-below g t c =
    let are : c.as_slice-inner.result.now ≡ children_of c.args.tree.now =
    c.as_slice-inner.ensures.value ∙ c.in_ok-all.ensures in
    notes_all c.args.language.definition.now c.args.tree.now c.as_slice-inner.result.now c.loop-i.i
    c.loop-i.below.items are c.loop-i-test.false c.loop-i.invariant.walked

pub returns-in_err-whole-clause-err : goal.returns-in_err-whole-clause-err
returns-in_err-whole-clause-err g t c =
    let def = c.args.language.definition.now in
    let path = c.args.path.now in
    let tree = c.args.tree.now in
    let are : c.as_slice-inner.result.now ≡ children_of tree = c.as_slice-inner.ensures.value ∙ c.in_ok-all.ensures in
    passed (IsStepFault def (steps_of def path tree)) _ c.in_err-whole.field-0.0 c.from_residual-in_err-whole.ensures.1
    (top_fault def path tree c.requires.formed c.loop-i.below.items c.in_err-whole.field-0.0
    (notes_all def tree c.as_slice-inner.result.now c.loop-i.i c.loop-i.below.items are c.loop-i-test.false
    c.loop-i.invariant.walked) c.in_err-whole.ensures.err)

pub returns-clause-ticks : goal.returns-clause-ticks
returns-clause-ticks g t c =
    let are : c.as_slice-inner.result.now ≡ children_of c.args.tree.now =
    c.as_slice-inner.ensures.value ∙ c.in_ok-all.ensures in
    counted_tree c.args.tree.now c.as_slice-inner.result.now c.loop-i.i c.args.steps.now c.loop-i.steps
    c.topped.new.steps are c.loop-i-test.false
    c.loop-i.invariant.counted c.in_ok-whole.ensures.ticks

pub returns-in_err-step-clause-bounded : goal.returns-in_err-step-clause-bounded
returns-in_err-step-clause-bounded g t c =
    let are : c.as_slice-inner.result.now ≡ children_of c.args.tree.now =
    c.as_slice-inner.ensures.value ∙ c.in_ok-all.ensures in
    within_children c.args.tree.now c.as_slice-inner.result.now c.loop-i.i c.args.steps.now c.loop-i.steps are c.loop-i.invariant.counted

pub returns-in_err-place-clause-bounded : goal.returns-in_err-place-clause-bounded
returns-in_err-place-clause-bounded g t c =
    let are : c.as_slice-inner.result.now ≡ children_of c.args.tree.now =
    c.as_slice-inner.ensures.value ∙ c.in_ok-all.ensures in
    within_children c.args.tree.now c.as_slice-inner.result.now c.loop-i.i c.args.steps.now c.loop-i.steps are c.loop-i.invariant.counted

pub returns-in_err-note-clause-bounded : goal.returns-in_err-note-clause-bounded
returns-in_err-note-clause-bounded g t c =
    let are : c.as_slice-inner.result.now ≡ children_of c.args.tree.now =
    c.as_slice-inner.ensures.value ∙ c.in_ok-all.ensures in
    within_child c.args.tree.now c.as_slice-inner.result.now c.loop-i.i c.index-inner-i.result c.args.steps.now c.loop-i.steps c.walk.new.steps are c.loop-i-test.true
    c.index-inner-i.is c.loop-i.invariant.counted c.walk.ensures.bounded

pub returns-in_err-push-clause-bounded : goal.returns-in_err-push-clause-bounded
returns-in_err-push-clause-bounded g t c =
    let are : c.as_slice-inner.result.now ≡ children_of c.args.tree.now =
    c.as_slice-inner.ensures.value ∙ c.in_ok-all.ensures in
    within_child c.args.tree.now c.as_slice-inner.result.now c.loop-i.i c.index-inner-i.result c.args.steps.now c.loop-i.steps c.walk.new.steps are c.loop-i-test.true
    c.index-inner-i.is c.loop-i.invariant.counted c.walk.ensures.bounded

pub returns-in_err-whole-clause-bounded : goal.returns-in_err-whole-clause-bounded
returns-in_err-whole-clause-bounded g t c =
    let are : c.as_slice-inner.result.now ≡ children_of c.args.tree.now =
    c.as_slice-inner.ensures.value ∙ c.in_ok-all.ensures in
    within_top c.args.tree.now c.as_slice-inner.result.now c.loop-i.i c.args.steps.now c.loop-i.steps c.topped.new.steps are c.loop-i.invariant.counted
    c.topped.ensures.bounded

pub returns-clause-bounded : goal.returns-clause-bounded
returns-clause-bounded g t c =
    let are : c.as_slice-inner.result.now ≡ children_of c.args.tree.now =
    c.as_slice-inner.ensures.value ∙ c.in_ok-all.ensures in
    within_top c.args.tree.now c.as_slice-inner.result.now c.loop-i.i c.args.steps.now c.loop-i.steps c.topped.new.steps are c.loop-i.invariant.counted
    c.topped.ensures.bounded
