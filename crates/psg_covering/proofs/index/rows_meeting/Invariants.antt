use Rattle.std.proofs.Common.{◌≡◌, take}
use Rattle.psg_relation.specs.Heads.{places_at}
use Rattle.psg_covering.specs.Index.{key_of, kind_key}
use Rattle.psg_covering.proofs.IndexLaws.{AreCollected}
use Rattle.psg_covering.proofs.index.rows_meeting.Given as goal

abbrev pub invariant-loop-i : goal.invariant-loop-i
invariant-loop-i l = (l.key ≡ key_of (kind_key l.fn.kind) (take l.i l.front))
    × AreCollected l.definition l.fn.kind (places_at l.index.ending) l.front l.i l.numbers.items
