use Rattle.std.proofs.Common.{◌++◌, sym, subst}
use Rattle.psg_terms.specs.Signature.{HaveSorts}
use Rattle.psg_terms.specs.Instances.{HasSameInstances}
use Rattle.psg_unify.specs.Columns.{picked}
use Rattle.psg_unify.proofs.Theorem.{sorts-append}
use Rattle.psg_relation.proofs.Columns.{picked-sorts}
use Rattle.psg_relation.proofs.Unsolved.{any_join}
use Rattle.psg_relation.proofs.beside.any_value.Goals as goal

pub finished-requires : goal.finished-requires
finished-requires c =
    let sig = c.args.sig.now in
    let j = c.requires.joinable in
    let ss = j.left_sorts ++ j.right_sorts in (
      picked ss c.args.keep.now,
      subst (λ r. HaveSorts sig r (picked ss c.args.keep.now)) (sym c.in_ok-columns.ensures)
          (picked-sorts sig (c.args.left.now ++ c.args.right.now) ss c.args.keep.now (sorts-append sig c.args.left.now c.args.right.now j.left_sorts j.right_sorts j.left_sorted j.right_sorted)),
    )

pub returns : goal.returns
returns c =
    let sig = c.args.sig.now in
    let any = c.requires.any in
    any_join sig c.sound.ensures c.args.pairs.now c.args.keep.now c.args.left.now c.args.right.now c.in_ok-row.row c.requires.joinable any.0 any.1 any.2 any.3 any.4 any.5 c.in_ok-row.ensures.canonical
    (subst (HasSameInstances sig c.in_ok-row.row) c.in_ok-columns.ensures c.in_ok-row.ensures.same)
    (λ ss h. c.in_ok-row.ensures.sorted ss (subst (λ r. HaveSorts sig r ss) (sym c.in_ok-columns.ensures) h))
