use Rattle.std.proofs.Common.{◌≡◌, ◌<◌, ◌+◌, ◌++◌, ◌∷◌, [], ap, length, refl, subst, sym, take, ◌∙◌, append_assoc, append-nil, arith}
use Rattle.psg_grammar.specs.Steps.{steps_of}
use Rattle.psg_cache.specs.Walks.{AreNotesOf, IsStepFault}
use Rattle.psg_cache.proofs.RenoteLaws.{next_most}
use Rattle.psg_cache.proofs.ChildLaws.{child_formed}
use Rattle.psg_cache.proofs.Counting.{together_upto}
use Rattle.psg_cache.proofs.Passing.{passed}
use Rattle.psg_cache.proofs.WalkLaws.{notes_more, walked_fault}
use Rattle.psg_cache.proofs.renoting.walk_others.Goals as goal

pub loop-i-init : goal.loop-i-init
loop-i-init g c = record {
  small = c.requires.within.0;
  walked = c.requires.first;
  counted = refl;
  more = ([], sym (append-nil _));
}

pub walk-requires-clause-formed : goal.walk-requires-clause-formed
walk-requires-clause-formed g c =
    let h = child_formed c.args.language.definition.now c.args.tree.now c.requires.formed c.args.inner.now
    c.requires.inner c.loop-i.i c.index-inner-i.result (omega (arith, c.loop-i-test.true, c.requires.within.1))
    c.index-inner-i.is in
    h.0

pub loop-i-preserved : goal.loop-i-preserved
loop-i-preserved g c =
    let inner = c.args.inner.now in
    let i = c.loop-i.i in
    let there : i < length inner = omega (arith, c.loop-i-test.true, c.requires.within.1) in
    let more = next_most inner i c.index-inner-i.result there c.index-inner-i.is in
    record {
      small = omega (arith, c.loop-i-test.true);
      walked =
          notes_more c.args.language.definition.now inner i c.index-inner-i.result c.loop-i.below.items
          c.push.new.self.items c.in_ok-note.note there c.index-inner-i.is c.in_ok-push.ensures.items
          c.loop-i.invariant.walked c.in_ok-note.ensures.ok;
      counted = omega (arith, more, c.loop-i.invariant.counted, c.in_ok-note.ensures.ticks);
      more =
          let old = c.loop-i.invariant.more in (
            old.0 ++ c.in_ok-note.note ∷ [],
            c.in_ok-push.ensures.items ∙ ap (λ xs. xs ++ c.in_ok-note.note ∷ []) old.1
                ∙ append_assoc c.args.below.now.items old.0 (c.in_ok-note.note ∷ []),
          );
    }

pub returns-in_err-note-clause-err : goal.returns-in_err-note-clause-err
returns-in_err-note-clause-err g c =
    let def = c.args.language.definition.now in
    let path = c.args.path.now in
    let tree = c.args.tree.now in
    passed (IsStepFault def (steps_of def path tree)) _ c.in_err-note.field-0.0 c.from_residual-in_err-note.ensures.1
    (walked_fault def path c.in_ok-place.place.items tree c.requires.formed c.args.inner.now c.loop-i.i
    c.in_ok-step.step c.index-inner-i.result c.loop-i.below.items c.in_err-note.field-0.0 c.requires.inner
    (omega (arith, c.loop-i-test.true, c.requires.within.1)) c.index-inner-i.is c.in_ok-step.ensures.step c.in_ok-place.ensures c.loop-i.invariant.walked
    (subst (λ q. IsStepFault def (steps_of def q c.index-inner-i.result) c.in_err-note.field-0.0)
    c.as_slice.ensures.value c.in_err-note.ensures.err))

pub returns-in_err-step-clause-bounded : goal.returns-in_err-step-clause-bounded
returns-in_err-step-clause-bounded g c =
    let most = together_upto c.args.inner.now c.loop-i.i c.args.end c.loop-i.invariant.small in
    omega (arith, most, c.loop-i.invariant.counted)

pub returns-in_err-place-clause-bounded : goal.returns-in_err-place-clause-bounded
returns-in_err-place-clause-bounded g c =
    let most = together_upto c.args.inner.now c.loop-i.i c.args.end c.loop-i.invariant.small in
    omega (arith, most, c.loop-i.invariant.counted)

pub returns-in_err-note-clause-bounded : goal.returns-in_err-note-clause-bounded
returns-in_err-note-clause-bounded g c =
    let inner = c.args.inner.now in
    let there : c.loop-i.i < length inner = omega (arith, c.loop-i-test.true, c.requires.within.1) in
    let more = next_most inner c.loop-i.i c.index-inner-i.result there c.index-inner-i.is in
    let most = together_upto inner (c.loop-i.i + 1) c.args.end (omega (arith, c.loop-i-test.true)) in
    omega (arith, most, more, c.loop-i.invariant.counted, c.walk.ensures.bounded)

pub returns-in_err-push-clause-bounded : goal.returns-in_err-push-clause-bounded
returns-in_err-push-clause-bounded g c =
    let inner = c.args.inner.now in
    let there : c.loop-i.i < length inner = omega (arith, c.loop-i-test.true, c.requires.within.1) in
    let more = next_most inner c.loop-i.i c.index-inner-i.result there c.index-inner-i.is in
    let most = together_upto inner (c.loop-i.i + 1) c.args.end (omega (arith, c.loop-i-test.true)) in
    omega (arith, most, more, c.loop-i.invariant.counted, c.walk.ensures.bounded)

pub returns-clause-ok : goal.returns-clause-ok
returns-clause-ok g c =
    let small = c.loop-i.invariant.small in
    let all : c.loop-i.i ≡ c.args.end = omega (arith, small, c.loop-i-test.false) in
    subst (λ k. AreNotesOf c.args.language.definition.now (take k c.args.inner.now) c.loop-i.below.items) all
    c.loop-i.invariant.walked

pub returns-clause-bounded : goal.returns-clause-bounded
returns-clause-bounded g c =
    let most = together_upto c.args.inner.now c.loop-i.i c.args.end c.loop-i.invariant.small in
    omega (arith, most, c.loop-i.invariant.counted)
