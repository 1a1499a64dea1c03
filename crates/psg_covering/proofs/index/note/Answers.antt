use Rattle.std.proofs.Common.{get_or, refl, sym, subst, arith}
use Rattle.std.proofs.lemmas.List.{get_or_default}
use Rattle.psg_relation.specs.Heads.{places_at}
use Rattle.psg_covering.specs.Index.{Begins, kind_key, Puts}
use Rattle.psg_covering.proofs.IndexLaws.{key_more, put_more, put_none, put_whole}
use Rattle.psg_covering.proofs.index.note.Goals as goal

pub loop-i-init : goal.loop-i-init
loop-i-init c = (
  c.kind_key-key.ensures,
  put_none (kind_key c.args.row.now.kind) c.as_slice-front.result.now c.args.number (places_at c.args.index.now.passing),
  refl,
)

pub loop-i-preserved : goal.loop-i-preserved
loop-i-preserved c =
    let front = c.as_slice-front.result.now in
    let con = get_or front c.loop-i.i 0 in
    let (key, put, same) = c.loop-i.invariant in (
      key_more (kind_key c.args.row.now.kind) c.loop-i.key c.next_key-key.result front c.loop-i.i con c.loop-i-test.true (get_or_default front c.loop-i.i 0 con c.loop-i-test.true)
          c.next_key-key.ensures key,
      put_more (kind_key c.args.row.now.kind) c.loop-i.key front c.loop-i.i c.args.number (places_at c.args.index.now.passing) (places_at c.loop-i.index.passing) (places_at c.put.new.places)
          key c.in_ok-put.ensures put,
      same,
    )

pub returns : goal.returns
returns c =
    let (key, put, same) = c.loop-i.invariant in
    put_whole c.args.row.now c.as_slice-front.result.now c.loop-i.i c.loop-i.key c.args.number (places_at c.args.index.now.passing) (places_at c.loop-i.index.passing) (places_at c.put-2.new.places)
    (places_at c.args.index.now.ending) (places_at c.put-3.new.places) (subst (Begins c.args.row.now.term) (sym c.as_slice-front.ensures.value) c.in_ok-front.ensures)
    (omega (arith, c.loop-i-test.false)) key put c.in_ok-put-2.ensures
    (subst (λ t. Puts c.loop-i.key c.args.number (places_at t) (places_at c.put-3.new.places)) same c.in_ok-put-3.ensures)
