use Rattle.std.proofs.Common.{◌≡◌, inl, inr, ◌+◌, ◌-◌, ◌≤◌, ◌<◌, ap, sym, subst, ◌∙◌, get_or, length, map, drop, refl, take, true, arith}
use Rattle.std.proofs.lemmas.List.{length-map, length-take-le}
use Rattle.psg_grammar.specs.Fragments.{children_of}
use Rattle.psg_grammar.specs.Steps.{steps_of}
use Rattle.psg_tree.specs.Shapes.{height}
use Rattle.psg_cache.specs.Alike.{DifferBefore, is_paired}
use Rattle.psg_cache.specs.Annotated.{below_in, tree_in}
use Rattle.psg_cache.specs.Walks.{AreNotesOf, IsStepFault}
use Rattle.psg_cache.proofs.ChangeLaws.{below_formed, below_noted, own_trees}
use Rattle.psg_cache.proofs.ChildLaws.{child_formed}
use Rattle.psg_cache.proofs.Counting.{together}
use Rattle.psg_cache.proofs.PairLaws.{pairs}
use Rattle.psg_cache.proofs.Passing.{passed}
use Rattle.psg_cache.proofs.RenoteLaws.{apart_next, behind_next, first_many, front_least, pair_next, put_noted}
use Rattle.psg_cache.proofs.SpreadLaws.{led_next, notes_back, pushed_rest, spread_all, spread_least}
use Rattle.psg_cache.proofs.WalkLaws.{notes-none, notes_more, top_fault, walked_fault}
use Rattle.psg_cache.proofs.renoting.+renoted.Goals as goal

pub loop-i-init : goal.loop-i-init
loop-i-init g t c = record {
  walked = notes-none c.args.language.definition.now c.new-below.result.items c.new-below.ensures.items;
  counted = omega arith;
  small = omega arith;
  led = (omega arith, refl);
  within = omega arith;
  behind = c.new-below.ensures.items;
  apart = tt;
}

pub renoted-requires : goal.renoted-requires
renoted-requires g t c κs within =
    let def = c.args.language.definition.now in
    let tree = c.args.new.now in
    let old = c.args.old.now in
    let i = c.loop-i.i in
    let are : c.as_slice-inner.result.now ≡ children_of tree = c.as_slice-inner.ensures.value ∙ c.in_ok-all.ensures in
    let less = c.lesser-shorter.ensures.within in
    let there : i < length c.as_slice-inner.result.now = omega (arith, less.1, c.loop-i-test.true) in
    let h = child_formed def tree c.requires.formed c.as_slice-inner.result.now are i c.index-inner-i.result there
    c.index-inner-i.is in
    let notes = c.below-notes.ensures in
    let many = ap length notes in
    let mine : i < length (below_in old) = omega (arith, less.0, many, c.loop-i-test.true) in
    let at = c.index-notes-i.is ∙ ap (λ ns. get_or ns i c.index-notes-i.result) notes in
    let d : height tree ≡ t = c.decreases in (
      omega (arith, h.1, d),
      (
        within,
        (
          c.requires.language,
          (
            below_noted def old i c.index-notes-i.result c.requires.noted mine at,
            (below_formed def old i c.index-notes-i.result c.requires.noted c.requires.formed_old mine at, h.0),
          ),
        ),
      ),
    )

pub loop-i-preserved : goal.loop-i-preserved
loop-i-preserved g t c =
    let def = c.args.language.definition.now in
    let inner = c.as_slice-inner.result.now in
    let notes = c.below-notes.result.now in
    let i = c.loop-i.i in
    let child = c.index-inner-i.result in
    let before = c.index-notes-i.result in
    let less = c.lesser-shorter.ensures.within in
    let are = c.as_slice-inner.ensures.value ∙ c.in_ok-all.ensures in
    let there : i < length inner = omega (arith, less.1, c.loop-i-test.true) in
    let mine : i < length notes = omega (arith, less.0, c.loop-i-test.true) in
    let old = below_noted def c.args.old.now i before c.requires.noted
    (subst (λ ns. i < length ns) c.below-notes.ensures mine)
    (c.index-notes-i.is ∙ ap (λ ns. get_or ns i before) c.below-notes.ensures) in
    let made = c.in_ok-made.made in
    let note = put_noted def before child made c.in_ok-child.child.note c.in_ok-child.child.equal old
    c.in_ok-made.ensures.ok c.in_ok-child.ensures in
    let more = pair_next notes inner i before child mine there c.index-notes-i.is c.index-inner-i.is in
    let many = first_many def inner i i c.loop-i.below.items c.loop-i.invariant.walked (omega arith) (omega arith)
    (omega (arith, there)) in
    let next = behind_next notes c.loop-i.below.items c.push.new.self.items i c.loop-i.last c.reached-last.result before
    c.in_ok-child.child.note made c.in_ok-child.child.equal mine c.index-notes-i.is c.in_ok-push.ensures.items many
    c.loop-i.invariant.within c.reached-last.ensures c.in_ok-child.ensures c.loop-i.invariant.behind in
    let trees : map tree_in notes ≡ children_of (tree_in c.args.old.now) =
    ap (map tree_in) c.below-notes.ensures ∙ own_trees def c.args.old.now c.requires.noted in
    let lead = led_next notes c.loop-i.below.items c.push.new.self.items i c.loop-i.first c.led-first.result before
    c.in_ok-child.child.note made c.in_ok-child.child.equal mine c.index-notes-i.is c.in_ok-push.ensures.items many
    c.loop-i.invariant.led.0 c.led-first.ensures c.in_ok-child.ensures c.loop-i.invariant.led.1 in
    record {
      led = lead;
      walked =
          notes_more def inner i child c.loop-i.below.items c.push.new.self.items c.in_ok-child.child.note there
          c.index-inner-i.is c.in_ok-push.ensures.items c.loop-i.invariant.walked note;
      counted = omega (arith, c.loop-i.invariant.counted, c.renoted.ensures.bounded, more);
      small = omega (arith, c.loop-i-test.true);
      within = next.0;
      behind = next.1;
      apart =
          apart_next def notes (children_of (tree_in c.args.old.now)) inner i c.loop-i.last c.reached-last.result before
          c.in_ok-child.child.note child made c.in_ok-child.child.equal mine there c.index-notes-i.is c.index-inner-i.is
          trees c.reached-last.ensures c.in_ok-child.ensures c.in_ok-made.ensures.ok c.loop-i.invariant.apart;
    }

pub returns-in_err-made-clause-err : goal.returns-in_err-made-clause-err
returns-in_err-made-clause-err g t c =
    let def = c.args.language.definition.now in
    let path = c.args.path.now in
    let tree = c.args.new.now in
    let i = c.loop-i.i in
    let less = c.lesser-shorter.ensures.within in
    let there : i < length c.as_slice-inner.result.now = omega (arith, less.1, c.loop-i-test.true) in
    let are : c.as_slice-inner.result.now ≡ children_of tree = c.as_slice-inner.ensures.value ∙ c.in_ok-all.ensures in
    passed (IsStepFault def (steps_of def path tree)) _ c.in_err-made.field-0.0 c.from_residual-in_err-made.ensures.1
    (walked_fault def path c.in_ok-place.place.items tree c.requires.formed c.as_slice-inner.result.now i
    c.in_ok-step.step c.index-inner-i.result c.loop-i.below.items c.in_err-made.field-0.0 are there
    c.index-inner-i.is c.in_ok-step.ensures.step c.in_ok-place.ensures c.loop-i.invariant.walked
    (subst (λ q. IsStepFault def (steps_of def q c.index-inner-i.result) c.in_err-made.field-0.0)
    c.as_slice.ensures.value c.in_err-made.ensures.err))

pub returns-in_err-step-clause-bounded : goal.returns-in_err-step-clause-bounded
returns-in_err-step-clause-bounded g t c =
    let def = c.args.language.definition.now in
    let are = c.as_slice-inner.ensures.value ∙ c.in_ok-all.ensures in
    let inner = c.as_slice-inner.result.now in
    let notes = c.below-notes.result.now in
    let less = c.lesser-shorter.ensures.within in
    let paired = (subst (λ t. is_paired t c.args.new.now ≡ true) c.tree.ensures (sym c.are_paired.ensures ∙ c.if-not-are_paired.false)) in
    let small : c.loop-i.i ≤ length notes = omega (arith, less.0, c.loop-i-test.true) in
    let most = front_least def c.args.old.now c.args.new.now notes inner c.requires.noted c.requires.formed_old c.requires.formed
    paired c.below-notes.ensures are c.loop-i.i small in
    omega (arith, most, c.loop-i.invariant.counted)

pub returns-in_err-place-clause-bounded : goal.returns-in_err-place-clause-bounded
returns-in_err-place-clause-bounded g t c =
    let def = c.args.language.definition.now in
    let are = c.as_slice-inner.ensures.value ∙ c.in_ok-all.ensures in
    let inner = c.as_slice-inner.result.now in
    let notes = c.below-notes.result.now in
    let less = c.lesser-shorter.ensures.within in
    let paired = (subst (λ t. is_paired t c.args.new.now ≡ true) c.tree.ensures (sym c.are_paired.ensures ∙ c.if-not-are_paired.false)) in
    let small : c.loop-i.i ≤ length notes = omega (arith, less.0, c.loop-i-test.true) in
    let most = front_least def c.args.old.now c.args.new.now notes inner c.requires.noted c.requires.formed_old c.requires.formed
    paired c.below-notes.ensures are c.loop-i.i small in
    omega (arith, most, c.loop-i.invariant.counted)

pub returns-in_err-made-clause-bounded : goal.returns-in_err-made-clause-bounded
returns-in_err-made-clause-bounded g t c =
    let def = c.args.language.definition.now in
    let are = c.as_slice-inner.ensures.value ∙ c.in_ok-all.ensures in
    let inner = c.as_slice-inner.result.now in
    let notes = c.below-notes.result.now in
    let less = c.lesser-shorter.ensures.within in
    let paired = (subst (λ t. is_paired t c.args.new.now ≡ true) c.tree.ensures (sym c.are_paired.ensures ∙ c.if-not-are_paired.false)) in
    let there : c.loop-i.i < length inner = omega (arith, less.1, c.loop-i-test.true) in
    let mine : c.loop-i.i < length notes = omega (arith, less.0, c.loop-i-test.true) in
    let small : c.loop-i.i + 1 ≤ length notes = omega (arith, mine) in
    let more = pair_next notes inner c.loop-i.i c.index-notes-i.result c.index-inner-i.result mine there
    c.index-notes-i.is c.index-inner-i.is in
    let most = front_least def c.args.old.now c.args.new.now notes inner c.requires.noted c.requires.formed_old c.requires.formed
    paired c.below-notes.ensures are (c.loop-i.i + 1) small in
    omega (arith, most, more, c.loop-i.invariant.counted, c.renoted.ensures.bounded)

pub returns-in_err-child-clause-bounded : goal.returns-in_err-child-clause-bounded
returns-in_err-child-clause-bounded g t c =
    let def = c.args.language.definition.now in
    let are = c.as_slice-inner.ensures.value ∙ c.in_ok-all.ensures in
    let inner = c.as_slice-inner.result.now in
    let notes = c.below-notes.result.now in
    let less = c.lesser-shorter.ensures.within in
    let paired = (subst (λ t. is_paired t c.args.new.now ≡ true) c.tree.ensures (sym c.are_paired.ensures ∙ c.if-not-are_paired.false)) in
    let there : c.loop-i.i < length inner = omega (arith, less.1, c.loop-i-test.true) in
    let mine : c.loop-i.i < length notes = omega (arith, less.0, c.loop-i-test.true) in
    let small : c.loop-i.i + 1 ≤ length notes = omega (arith, mine) in
    let more = pair_next notes inner c.loop-i.i c.index-notes-i.result c.index-inner-i.result mine there
    c.index-notes-i.is c.index-inner-i.is in
    let most = front_least def c.args.old.now c.args.new.now notes inner c.requires.noted c.requires.formed_old c.requires.formed
    paired c.below-notes.ensures are (c.loop-i.i + 1) small in
    omega (arith, most, more, c.loop-i.invariant.counted, c.renoted.ensures.bounded)

pub returns-in_err-push-clause-bounded : goal.returns-in_err-push-clause-bounded
returns-in_err-push-clause-bounded g t c =
    let def = c.args.language.definition.now in
    let are = c.as_slice-inner.ensures.value ∙ c.in_ok-all.ensures in
    let inner = c.as_slice-inner.result.now in
    let notes = c.below-notes.result.now in
    let less = c.lesser-shorter.ensures.within in
    let paired = (subst (λ t. is_paired t c.args.new.now ≡ true) c.tree.ensures (sym c.are_paired.ensures ∙ c.if-not-are_paired.false)) in
    let there : c.loop-i.i < length inner = omega (arith, less.1, c.loop-i-test.true) in
    let mine : c.loop-i.i < length notes = omega (arith, less.0, c.loop-i-test.true) in
    let small : c.loop-i.i + 1 ≤ length notes = omega (arith, mine) in
    let more = pair_next notes inner c.loop-i.i c.index-notes-i.result c.index-inner-i.result mine there
    c.index-notes-i.is c.index-inner-i.is in
    let most = front_least def c.args.old.now c.args.new.now notes inner c.requires.noted c.requires.formed_old c.requires.formed
    paired c.below-notes.ensures are (c.loop-i.i + 1) small in
    omega (arith, most, more, c.loop-i.invariant.counted, c.renoted.ensures.bounded)

pub common_back-requires-clause-inner : goal.common_back-requires-clause-inner
common_back-requires-clause-inner g t c = c.as_slice-inner.ensures.value ∙ c.in_ok-all.ensures

pub walk_others-requires-clause-inner : goal.walk_others-requires-clause-inner
walk_others-requires-clause-inner g t c = c.as_slice-inner.ensures.value ∙ c.in_ok-all.ensures

pub walk_others-requires-clause-within : goal.walk_others-requires-clause-within
walk_others-requires-clause-within g t c =
    let less = c.lesser-shorter.ensures.within in (omega (arith, less.1), omega arith)

pub walk_others-requires-clause-first : goal.walk_others-requires-clause-first
walk_others-requires-clause-first g t c =
    let small = c.loop-i.invariant.small in
    let reached : c.loop-i.i ≡ c.lesser-shorter.result - c.in_ok-back.back = omega (arith, small, c.loop-i-test.false) in
    subst (λ k. AreNotesOf c.args.language.definition.now (take k c.as_slice-inner.result.now) c.loop-i.below.items) reached
    c.loop-i.invariant.walked

pub returns-in_err-walk_others-clause-bounded : goal.returns-in_err-walk_others-clause-bounded
returns-in_err-walk_others-clause-bounded g t c =
    let def = c.args.language.definition.now in
    let are = c.as_slice-inner.ensures.value ∙ c.in_ok-all.ensures in
    let inner = c.as_slice-inner.result.now in
    let notes = c.below-notes.result.now in
    let less = c.lesser-shorter.ensures.within in
    let shorter = c.lesser-shorter.result in
    let back = c.in_ok-back.back in
    let paired = (subst (λ t. is_paired t c.args.new.now ≡ true) c.tree.ensures (sym c.are_paired.ensures ∙ c.if-not-are_paired.false)) in
    let small = c.loop-i.invariant.small in
    let reached : c.loop-i.i ≡ shorter - back = omega (arith, small, c.loop-i-test.false) in
    let done = ap (λ k. together (take k inner)) reached in
    let pairs_end = ap (λ k. pairs (take k (map tree_in notes)) (take k inner)) reached in
    let most = spread_least def c.args.old.now c.args.new.now notes inner c.requires.noted c.below-notes.ensures are
    c.requires.formed_old c.requires.formed paired shorter back less.0 less.1 c.lesser-shorter.ensures.one_of_both
    c.in_ok-back.ensures in
    omega (arith, most, done, pairs_end, c.loop-i.invariant.counted, c.walk_others.ensures.bounded)

pub returns-in_err-push_notes-clause-bounded : goal.returns-in_err-push_notes-clause-bounded
returns-in_err-push_notes-clause-bounded g t c =
    let def = c.args.language.definition.now in
    let are = c.as_slice-inner.ensures.value ∙ c.in_ok-all.ensures in
    let inner = c.as_slice-inner.result.now in
    let notes = c.below-notes.result.now in
    let less = c.lesser-shorter.ensures.within in
    let shorter = c.lesser-shorter.result in
    let back = c.in_ok-back.back in
    let paired = (subst (λ t. is_paired t c.args.new.now ≡ true) c.tree.ensures (sym c.are_paired.ensures ∙ c.if-not-are_paired.false)) in
    let small = c.loop-i.invariant.small in
    let reached : c.loop-i.i ≡ shorter - back = omega (arith, small, c.loop-i-test.false) in
    let done = ap (λ k. together (take k inner)) reached in
    let pairs_end = ap (λ k. pairs (take k (map tree_in notes)) (take k inner)) reached in
    let most = spread_least def c.args.old.now c.args.new.now notes inner c.requires.noted c.below-notes.ensures are
    c.requires.formed_old c.requires.formed paired shorter back less.0 less.1 c.lesser-shorter.ensures.one_of_both
    c.in_ok-back.ensures in
    omega (arith, most, done, pairs_end, c.loop-i.invariant.counted, c.walk_others.ensures.bounded)

pub returns-in_err-note-clause-bounded : goal.returns-in_err-note-clause-bounded
returns-in_err-note-clause-bounded g t c =
    let def = c.args.language.definition.now in
    let are = c.as_slice-inner.ensures.value ∙ c.in_ok-all.ensures in
    let inner = c.as_slice-inner.result.now in
    let notes = c.below-notes.result.now in
    let less = c.lesser-shorter.ensures.within in
    let shorter = c.lesser-shorter.result in
    let back = c.in_ok-back.back in
    let paired = (subst (λ t. is_paired t c.args.new.now ≡ true) c.tree.ensures (sym c.are_paired.ensures ∙ c.if-not-are_paired.false)) in
    let small = c.loop-i.invariant.small in
    let reached : c.loop-i.i ≡ shorter - back = omega (arith, small, c.loop-i-test.false) in
    let done = ap (λ k. together (take k inner)) reached in
    let pairs_end = ap (λ k. pairs (take k (map tree_in notes)) (take k inner)) reached in
    let most = spread_least def c.args.old.now c.args.new.now notes inner c.requires.noted c.below-notes.ensures are
    c.requires.formed_old c.requires.formed paired shorter back less.0 less.1 c.lesser-shorter.ensures.one_of_both
    c.in_ok-back.ensures in
    omega (arith, most, done, pairs_end, c.loop-i.invariant.counted, c.walk_others.ensures.bounded, c.rejoined.ensures.bounded)

pub returns-clause-bounded : goal.returns-clause-bounded
returns-clause-bounded g t c =
    let def = c.args.language.definition.now in
    let are = c.as_slice-inner.ensures.value ∙ c.in_ok-all.ensures in
    let inner = c.as_slice-inner.result.now in
    let notes = c.below-notes.result.now in
    let less = c.lesser-shorter.ensures.within in
    let shorter = c.lesser-shorter.result in
    let back = c.in_ok-back.back in
    let paired = (subst (λ t. is_paired t c.args.new.now ≡ true) c.tree.ensures (sym c.are_paired.ensures ∙ c.if-not-are_paired.false)) in
    let small = c.loop-i.invariant.small in
    let reached : c.loop-i.i ≡ shorter - back = omega (arith, small, c.loop-i-test.false) in
    let done = ap (λ k. together (take k inner)) reached in
    let pairs_end = ap (λ k. pairs (take k (map tree_in notes)) (take k inner)) reached in
    let most = spread_least def c.args.old.now c.args.new.now notes inner c.requires.noted c.below-notes.ensures are
    c.requires.formed_old c.requires.formed paired shorter back less.0 less.1 c.lesser-shorter.ensures.one_of_both
    c.in_ok-back.ensures in
    omega (arith, most, done, pairs_end, c.loop-i.invariant.counted, c.walk_others.ensures.bounded, c.rejoined.ensures.bounded)

pub rejoined-requires-clause-paired : goal.rejoined-requires-clause-paired
rejoined-requires-clause-paired g t c = (subst (λ t. is_paired t c.args.new.now ≡ true) c.tree.ensures (sym c.are_paired.ensures ∙ c.if-not-are_paired.false))

pub rejoined-requires-clause-below : goal.rejoined-requires-clause-below
rejoined-requires-clause-below g t c =
    let def = c.args.language.definition.now in
    let are = c.as_slice-inner.ensures.value ∙ c.in_ok-all.ensures in
    let inner = c.as_slice-inner.result.now in
    let notes = c.below-notes.result.now in
    let less = c.lesser-shorter.ensures.within in
    let shorter = c.lesser-shorter.result in
    let back = c.in_ok-back.back in
    notes_back def c.args.old.now c.args.new.now notes inner c.requires.noted c.below-notes.ensures are
    c.walk_others.new.below.items c.push_notes.new.made.items back c.in_ok-back.ensures c.in_ok-walk_others.ensures.ok
    (pushed_rest (length notes - back) notes c.walk_others.new.below.items c.push_notes.new.made.items c.in_ok-push_notes.ensures)

pub rejoined-requires-clause-spread : goal.rejoined-requires-clause-spread
rejoined-requires-clause-spread g t c =
    let def = c.args.language.definition.now in
    let are = c.as_slice-inner.ensures.value ∙ c.in_ok-all.ensures in
    let inner = c.as_slice-inner.result.now in
    let notes = c.below-notes.result.now in
    let less = c.lesser-shorter.ensures.within in
    let shorter = c.lesser-shorter.result in
    let back = c.in_ok-back.back in
    let small = c.loop-i.invariant.small in
    let reached : c.loop-i.i ≡ shorter - back = omega (arith, small, c.loop-i-test.false) in
    let count : length c.loop-i.below.items ≡ shorter - back =
    first_many def inner c.loop-i.i (shorter - back) c.loop-i.below.items c.loop-i.invariant.walked small
    (omega (arith, c.loop-i-test.false)) (omega (arith, less.1)) in
    let walked = c.walk_others.new.below.items in
    let long : length walked ≡ length inner - back =
    sym (length-map walked tree_in) ∙ ap length c.in_ok-walk_others.ensures.ok.0
    ∙ length-take-le (length inner - back) inner (omega arith) in
    let lead = c.loop-i.invariant.led in
    let far = c.loop-i.invariant.within in
    spread_all c.args.old.now c.args.new.now notes c.loop-i.below.items walked c.push_notes.new.made.items inner shorter
    c.loop-i.first c.loop-i.last back c.below-notes.ensures are less.0 less.1 c.lesser-shorter.ensures.one_of_both
    c.in_ok-back.ensures count long c.in_ok-walk_others.ensures.more (pushed_rest (length notes - back) notes c.walk_others.new.below.items c.push_notes.new.made.items c.in_ok-push_notes.ensures)
    (omega (arith, lead.0, reached)) lead.1 (omega (arith, far, reached))
    (c.loop-i.invariant.behind ∙ ap (λ k. drop c.loop-i.last (take k notes)) reached)
    (subst (DifferBefore c.loop-i.last (children_of (tree_in c.args.old.now))) are c.loop-i.invariant.apart)

pub returns-in_err-note-clause-err : goal.returns-in_err-note-clause-err
returns-in_err-note-clause-err g t c =
    let path = c.args.path.now in
    let tree = c.args.new.now in
    let def = c.args.language.definition.now in
    let are = c.as_slice-inner.ensures.value ∙ c.in_ok-all.ensures in
    let inner = c.as_slice-inner.result.now in
    let notes = c.below-notes.result.now in
    let less = c.lesser-shorter.ensures.within in
    let shorter = c.lesser-shorter.result in
    let back = c.in_ok-back.back in
    let whole = notes_back def c.args.old.now c.args.new.now notes inner c.requires.noted c.below-notes.ensures are
    c.walk_others.new.below.items c.push_notes.new.made.items back c.in_ok-back.ensures c.in_ok-walk_others.ensures.ok
    (pushed_rest (length notes - back) notes c.walk_others.new.below.items c.push_notes.new.made.items c.in_ok-push_notes.ensures) in
    passed (IsStepFault def (steps_of def path tree)) _ c.in_err-note.field-0.0 c.from_residual-in_err-note.ensures.1
    (top_fault def path tree c.requires.formed c.push_notes.new.made.items c.in_err-note.field-0.0 whole
    c.in_err-note.ensures.err)

pub overflow_sub-many : goal.overflow_sub-many
overflow_sub-many g t c =
    let old_within = c.in_ok-back.ensures.old_within in
    let new_within = c.in_ok-back.ensures.new_within in
    let many = ap length c.below-notes.ensures in
    let count = ap length (c.as_slice-inner.ensures.value ∙ c.in_ok-all.ensures) in
    elim c.lesser-shorter.ensures.one_of_both [
      | inl e ↦ (omega (arith, e, old_within, many))
      | inr e ↦ (omega (arith, e, new_within, count))
    ]

pub overflow_sub-end : goal.overflow_sub-end
overflow_sub-end g t c =
    let new_within = c.in_ok-back.ensures.new_within in
    let count = ap length (c.as_slice-inner.ensures.value ∙ c.in_ok-all.ensures) in
    omega (arith, new_within, count)

pub overflow_sub-kept : goal.overflow_sub-kept
overflow_sub-kept g t c =
    let old_within = c.in_ok-back.ensures.old_within in
    let many = ap length c.below-notes.ensures in
    omega (arith, old_within, many)
