use Rattle.std.proofs.Common.{get_or, sym, subst, arith}
use Rattle.std.proofs.lemmas.List.{get_or_default}
use Rattle.psg_relation.specs.Heads.{places_at}
use Rattle.psg_covering.specs.Index.{Begins, kind_key}
use Rattle.psg_covering.proofs.IndexLaws.{collected_all, collected_more, key_more}
use Rattle.psg_covering.proofs.index.rows_meeting.Goals as goal

pub loop-i-preserved : goal.loop-i-preserved
loop-i-preserved c =
    let front = c.as_slice-front.result.now in
    let con = get_or front c.loop-i.i 0 in
    let (key, all) = c.loop-i.invariant in (
      key_more (kind_key c.args.kind) c.loop-i.key c.next_key-key.result front c.loop-i.i con c.loop-i-test.true (get_or_default front c.loop-i.i 0 con c.loop-i-test.true)
          c.next_key-key.ensures key,
      collected_more c.args.definition.now c.args.kind (places_at c.args.index.now.ending) front c.loop-i.i c.loop-i.key c.places_of-places.result.now c.loop-i.numbers.items
          c.collect.new.numbers.items key c.places_of-places.ensures c.in_ok-collect.ensures all,
    )

pub returns-clause-met : goal.returns-clause-met
returns-clause-met c =
    let (key, all) = c.loop-i.invariant in
    collected_all c.args.definition.now c.args.kind (places_at c.args.index.now.passing) (places_at c.args.index.now.ending) c.args.term.now c.as_slice-front.result.now c.loop-i.i c.loop-i.key
    c.places_of-places-2.result.now c.loop-i.numbers.items c.collect-2.new.numbers.items c.requires (subst (Begins c.args.term.now) (sym c.as_slice-front.ensures.value) c.in_ok-front.ensures)
    (omega (arith, c.loop-i-test.false)) key c.places_of-places-2.ensures c.in_ok-collect-2.ensures all
