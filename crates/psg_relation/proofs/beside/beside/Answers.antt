use Rattle.std.proofs.Common.{◌++◌, sym, subst}
use Rattle.psg_terms.specs.Signature.{HaveSorts}
use Rattle.psg_terms.specs.Instances.{HasSameInstances}
use Rattle.psg_unify.specs.Columns.{picked}
use Rattle.psg_unify.proofs.Theorem.{sorts-append}
use Rattle.psg_relation.proofs.Columns.{picked-sorts}
use Rattle.psg_relation.proofs.Unsolved.{beside_exact, kept_join}
use Rattle.psg_relation.proofs.beside.beside.Goals as goal

pub finished-requires : goal.finished-requires
finished-requires c =
    let sig = c.args.sig.now in
    let j = c.requires.joinable in
    let ss = j.left_sorts ++ j.right_sorts in (
      picked ss c.args.keep.now,
      subst (λ r. HaveSorts sig r (picked ss c.args.keep.now)) (sym c.in_ok-columns.ensures)
          (picked-sorts sig (c.args.left.now ++ c.args.right.now) ss c.args.keep.now (sorts-append sig c.args.left.now c.args.right.now j.left_sorts j.right_sorts j.left_sorted j.right_sorted)),
    )

pub returns : goal.returns
returns c =
    let sig = c.args.sig.now in
    let left = c.args.left.now in
    let right = c.args.right.now in
    kept_join sig c.args.pairs.now c.args.keep.now left right (left ++ right) c.in_ok-finish.finish c.in_ok-finish.ensures.canonical
    (subst (HasSameInstances sig c.in_ok-finish.finish) c.in_ok-columns.ensures c.in_ok-finish.ensures.same)
    (λ ss h. c.in_ok-finish.ensures.sorted ss (subst (λ r. HaveSorts sig r ss) (sym c.in_ok-columns.ensures) h))
    (beside_exact sig left right c.args.pairs.now c.requires.settled (c.are_both_open.ensures c.if-are_both_open.false))
    (λ ls rs hl hr. sorts-append sig left right ls rs hl hr)
