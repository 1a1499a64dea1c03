use Rattle.std.proofs.Common.{◌≡◌, ap, sym, subst, ◌∙◌, map}
use Rattle.std.specs.List.{All}
use Rattle.psg_terms.specs.Signature.{HaveSorts}
use Rattle.psg_terms.specs.Instances.{HasSameInstances}
use Rattle.psg_pool.specs.Cells.{IsAmong}
use Rattle.psg_unify.specs.Columns.{picked}
use Rattle.psg_unify.proofs.Picking.{picked-sorts}
use Rattle.psg_unify.proofs.Kept.{picked-map, picked-all}
use Rattle.psg_unify.proofs.join.read_picked.Goals as goal

pub read_row-requires-clause-among : goal.read_row-requires-clause-among
read_row-requires-clause-among c =
    let e : c.as_slice.result.now ≡ picked c.args.cells.now c.args.keep.now = c.as_slice.ensures.value ∙ c.in_ok-some.ensures in
    subst (All (IsAmong c.args.pool.now.cells)) (sym e) (picked-all (IsAmong c.args.pool.now.cells) c.args.cells.now c.args.keep.now c.requires.among)

pub returns-clause-same : goal.returns-clause-same
returns-clause-same c = λ read r.
    let e : c.as_slice.result.now ≡ picked c.args.cells.now c.args.keep.now = c.as_slice.ensures.value ∙ c.in_ok-some.ensures in
    subst (HasSameInstances c.args.sig.now c.in_ok-row.row.items) (ap (map read) e ∙ picked-map read c.args.cells.now c.args.keep.now) (c.in_ok-row.ensures.same read r)

pub returns-clause-sorted : goal.returns-clause-sorted
returns-clause-sorted c = λ read r ss h.
    let e : c.as_slice.result.now ≡ picked c.args.cells.now c.args.keep.now = c.as_slice.ensures.value ∙ c.in_ok-some.ensures in
    c.in_ok-row.ensures.sorted read r (picked ss c.args.keep.now)
    (subst (λ z. HaveSorts c.args.sig.now z (picked ss c.args.keep.now)) (sym (ap (map read) e ∙ picked-map read c.args.cells.now c.args.keep.now))
    (picked-sorts c.args.sig.now (map read c.args.cells.now) ss c.args.keep.now h))
