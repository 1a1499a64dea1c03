use Rattle.std.proofs.Common.{[], ap, sym, subst, ◌∙◌, refl, length, arith}
use Rattle.std.proofs.lemmas.List.{length_push, length-take-le, length-set}
use Rattle.psg_terms.specs.Marks.{AreMade}
use Rattle.psg_terms.specs.declared.sorts.Declared.{Declared}
use Rattle.psg_terms.proofs.Marking.{all_below-at, made-push, made-step}
use Rattle.psg_terms.proofs.ground.made_by.Goals as goal

pub loop-preserved : goal.loop-preserved
loop-preserved c = (
  (let l = ap length c.in_ok-push.ensures.items ∙ length_push c.loop.made.items c.of.result in let i = c.loop.invariant.0 in omega arith),
  subst (λ xs. AreMade 0 xs []) (sym c.in_ok-push.ensures.items) (made-push 0 c.loop.made.items c.of.result (c.of.ensures ∙ c.new.ensures.items) c.loop.invariant.1),
)

pub loop-i-init : goal.loop-i-init
loop-i-init c = ((let i = c.loop.invariant.0 in omega arith), c.loop.invariant.1)

pub index_mut-ids-requires : goal.index_mut-ids-requires
index_mut-ids-requires c =
    let h = (all_below-at c.args.sorts c.args.declared.now c.loop-i.i c.index-declared-i.result c.requires.below c.loop-i-test.true c.index-declared-i.is).1 in
    let i = c.loop-i.invariant.0 in
    let v = c.loop-i.made.ok in
    let e = ap (λ (d : Declared). d.sort.0) c.index-declared-i.is in
    omega arith

pub loop-i-preserved : goal.loop-i-preserved
loop-i-preserved c =
    let h = (all_below-at c.args.sorts c.args.declared.now c.loop-i.i c.index-declared-i.result c.requires.below c.loop-i-test.true c.index-declared-i.is).1 in
    let i = c.loop-i.invariant.0 in
    let e = ap (λ (d : Declared). d.sort.0) c.index-declared-i.is in (
      length-set c.loop-i.made.items _ _ ∙ i,
      made-step c.loop-i.made.items _ c.index_mut-ids.result.now c.push-in-loop-i.new.self c.index_mut-ids.result.now (record { 0 = c.loop-i.i }) c.args.declared.now c.loop-i.i c.index-declared-i.result
          c.loop-i.invariant.1 (omega arith) e c.index_mut-ids.ensures.value c.in_ok-push-2.ensures.ok refl (length-take-le c.loop-i.i c.args.declared.now (omega arith)) c.loop-i-test.true c.index-declared-i.is,
    )
