use Rattle.std.proofs.Common.{◌≡◌, ◌<◌, ◌≤◌, ◌+◌, ◌++◌, ◌∙◌, ℕ, All, ap, length, sym, subst, arith}
use Rattle.std.proofs.lemmas.List.{length-map}
use Rattle.psg_terms.specs.Signature.{HaveSorts}
use Rattle.psg_terms.specs.Instances.{HasSameInstances}
use Rattle.psg_unify.specs.Columns.{picked}
use Rattle.psg_relation.specs.Heavy.{highest_in}
use Rattle.psg_relation.proofs.Columns.{picked-sorts}
use Rattle.psg_relation.proofs.Parted.{right_parted, right_parted-sorts}
use Rattle.psg_relation.proofs.Unsolved.{kept_join}
use Rattle.psg_relation.proofs.beside.right_raised.Goals as goal

pub columns_of-requires : goal.columns_of-requires
columns_of-requires c =
    let wide = ap length c.as_slice.ensures.value ∙ ap length c.in_ok-moved.ensures ∙ length-map c.args.right.now _ in
    subst (λ n. All (λ (k : ℕ). k < length c.args.left.now + n) c.args.keep.now) (sym wide) c.requires.keep

pub finished-requires : goal.finished-requires
finished-requires c =
    let sig = c.args.sig.now in
    let left = c.args.left.now in
    let right = c.args.right.now in
    let keep = c.args.keep.now in
    let j = c.requires.joinable in
    let moved = c.in_ok-moved.moved.items in
    let fits : highest_in left ≤ c.row_above-above.result = omega (arith, c.row_above-above.ensures) in
    let e : c.in_ok-columns.columns.items ≡ picked (left ++ moved) keep = c.in_ok-columns.ensures ∙ ap (λ x. picked (left ++ x) keep) c.as_slice.ensures.value in (
      picked (j.left_sorts ++ j.right_sorts) keep,
      subst (λ r. HaveSorts sig r (picked (j.left_sorts ++ j.right_sorts) keep)) (sym e)
          (picked-sorts sig (left ++ moved) (j.left_sorts ++ j.right_sorts) keep
          (right_parted-sorts sig left right c.args.pairs.now c.requires.settled c.row_above-above.result moved fits c.in_ok-moved.ensures j.left_sorts j.right_sorts j.left_sorted j.right_sorted)),
    )

pub returns : goal.returns
returns c =
    let sig = c.args.sig.now in
    let left = c.args.left.now in
    let right = c.args.right.now in
    let pairs = c.args.pairs.now in
    let keep = c.args.keep.now in
    let moved = c.in_ok-moved.moved.items in
    let fits : highest_in left ≤ c.row_above-above.result = omega (arith, c.row_above-above.ensures) in
    let e : c.in_ok-columns.columns.items ≡ picked (left ++ moved) keep = c.in_ok-columns.ensures ∙ ap (λ x. picked (left ++ x) keep) c.as_slice.ensures.value in
    kept_join sig pairs keep left right (left ++ moved) c.in_ok-row.row c.in_ok-row.ensures.canonical
    (subst (HasSameInstances sig c.in_ok-row.row) e c.in_ok-row.ensures.same)
    (λ ss h. c.in_ok-row.ensures.sorted ss (subst (λ r. HaveSorts sig r ss) (sym e) h))
    (right_parted sig left right pairs c.requires.settled c.row_above-above.result moved fits c.in_ok-moved.ensures)
    (right_parted-sorts sig left right pairs c.requires.settled c.row_above-above.result moved fits c.in_ok-moved.ensures)
