use Rattle.std.proofs.Common.{subst}
use Rattle.psg_relation.specs.Heads.{places_at, IsNoted}
use Rattle.psg_relation.proofs.Indexing.{indexed_begin, indexed_next}
use Rattle.psg_relation.proofs.heads.heads_of.Goals as goal

pub loop-i-init : goal.loop-i-init
loop-i-init c =
    indexed_begin c.args.rows.now c.args.column c.new-heads.result.free.items (places_at c.new-heads.result.places) c.new-heads.ensures.free c.new-heads.ensures.places

pub loop-i-preserved : goal.loop-i-preserved
loop-i-preserved c =
    indexed_next c.args.rows.now c.args.column c.loop-i.i c.index-rows-i.result c.loop-i-test.true c.index-rows-i.is c.loop-i.heads.free.items c.note_row.new.heads.free.items (places_at c.loop-i.heads.places) (places_at c.note_row.new.heads.places) c.loop-i.invariant
    (subst (λ r. IsNoted r c.args.column c.loop-i.i c.loop-i.heads.free.items (places_at c.loop-i.heads.places) c.note_row.new.heads.free.items (places_at c.note_row.new.heads.places)) c.terms.ensures c.in_ok-note_row.ensures)
