use Rattle.std.proofs.Common.{◌≡◌, ◌+◌, ◌<◌, ◌∙◌, ℕ, List, All, length, map, ap, sym, subst, arith}
use Rattle.std.proofs.lemmas.List.{length-map}
use Rattle.psg_terms.specs.Terms.{Term}
use Rattle.psg_terms.specs.Instances.{substitute}
use Rattle.psg_unify.specs.Pairs.{AreJoinable}
use Rattle.psg_relation.specs.Forcing.{by_forced}
use Rattle.psg_relation.specs.Joining.{IsJoint}
use Rattle.psg_relation.proofs.Filling.{filled_joinable, filled_joint}
use Rattle.psg_relation.proofs.Pairing.{pairs_within}
use Rattle.psg_relation.proofs.joining.forced_row.Goals as goal

pub forced_pairs-requires : goal.forced_pairs-requires
forced_pairs-requires c =
    let j = c.requires.joinable in
    pairs_within c.args.sig.now c.args.left.now c.args.right.now j.left_sorts j.right_sorts c.args.pairs.now j.left_sorted j.right_sorted j.equal

pub solved_row-requires-clause-joinable : goal.solved_row-requires-clause-joinable
solved_row-requires-clause-joinable c =
    let sig = c.args.sig.now in
    let left = c.args.left.now in
    let right = c.args.right.now in
    let pairs = c.args.pairs.now in
    let forced = c.in_ok-forced.forced in
    let e : c.as_slice-first.result.now ≡ map (substitute (by_forced forced.left.items)) left = c.as_slice-first.ensures.value ∙ c.in_ok-one.ensures ∙ ap (λ fs. map (substitute (by_forced fs)) left) c.as_slice-lefts.ensures.value in
    let d : c.as_slice-second.result.now ≡ map (substitute (by_forced forced.right.items)) right = c.as_slice-second.ensures.value ∙ c.in_ok-other.ensures ∙ ap (λ fs. map (substitute (by_forced fs)) right) c.as_slice-rights.ensures.value in
    subst (λ r. AreJoinable sig c.as_slice-first.result.now r pairs) (sym d)
    (subst (λ l. AreJoinable sig l (map (substitute (by_forced forced.right.items)) right) pairs) (sym e)
    (filled_joinable sig left right pairs forced.left.items forced.right.items c.in_ok-forced.ensures.left.0 c.in_ok-forced.ensures.right.0 c.in_ok-forced.ensures.left.1 c.in_ok-forced.ensures.right.1 c.requires.joinable))

pub solved_row-requires-clause-keep : goal.solved_row-requires-clause-keep
solved_row-requires-clause-keep c =
    let left = c.args.left.now in
    let right = c.args.right.now in
    let forced = c.in_ok-forced.forced in
    let e : c.as_slice-first.result.now ≡ map (substitute (by_forced forced.left.items)) left = c.as_slice-first.ensures.value ∙ c.in_ok-one.ensures ∙ ap (λ fs. map (substitute (by_forced fs)) left) c.as_slice-lefts.ensures.value in
    let d : c.as_slice-second.result.now ≡ map (substitute (by_forced forced.right.items)) right = c.as_slice-second.ensures.value ∙ c.in_ok-other.ensures ∙ ap (λ fs. map (substitute (by_forced fs)) right) c.as_slice-rights.ensures.value in
    let a : length c.as_slice-first.result.now ≡ length left = ap (λ (r : List Term). length r) e ∙ length-map left (substitute (by_forced forced.left.items)) in
    let b : length c.as_slice-second.result.now ≡ length right = ap (λ (r : List Term). length r) d ∙ length-map right (substitute (by_forced forced.right.items)) in
    let n : length left + length right ≡ length c.as_slice-first.result.now + length c.as_slice-second.result.now = omega (arith, a, b) in
    subst (λ m. All (λ (k : ℕ). k < m) c.args.keep.now) n c.requires.keep

pub returns : goal.returns
returns c =
    let sig = c.args.sig.now in
    let left = c.args.left.now in
    let right = c.args.right.now in
    let pairs = c.args.pairs.now in
    let keep = c.args.keep.now in
    let forced = c.in_ok-forced.forced in
    let e : c.as_slice-first.result.now ≡ map (substitute (by_forced forced.left.items)) left = c.as_slice-first.ensures.value ∙ c.in_ok-one.ensures ∙ ap (λ fs. map (substitute (by_forced fs)) left) c.as_slice-lefts.ensures.value in
    let d : c.as_slice-second.result.now ≡ map (substitute (by_forced forced.right.items)) right = c.as_slice-second.ensures.value ∙ c.in_ok-other.ensures ∙ ap (λ fs. map (substitute (by_forced fs)) right) c.as_slice-rights.ensures.value in
    filled_joint sig left right pairs forced.left.items forced.right.items c.in_ok-forced.ensures.left.0 c.in_ok-forced.ensures.right.0 c.in_ok-forced.ensures.left.1 c.in_ok-forced.ensures.right.1 keep c.in_ok-row.row
    (subst (λ r. IsJoint sig pairs keep (map (substitute (by_forced forced.left.items)) left) r c.in_ok-row.row) d
    (subst (λ l. IsJoint sig pairs keep l c.as_slice-second.result.now c.in_ok-row.row) e c.in_ok-row.ensures))
