use Rattle.std.proofs.Common.{◌≡◌, take}
use Rattle.psg_relation.specs.Heads.{places_at}
use Rattle.psg_covering.specs.Index.{key_of, kind_key}
use Rattle.psg_covering.proofs.IndexLaws.{PutUpTo}
use Rattle.psg_covering.proofs.index.note.Given as goal

abbrev pub invariant-loop-i : goal.invariant-loop-i
invariant-loop-i l = (l.key ≡ key_of (kind_key l.row.kind) (take l.i l.front))
    × PutUpTo (kind_key l.row.kind) l.front l.i l.number (places_at l.fn.index.passing) (places_at l.index.passing)
    × (l.index.ending ≡ l.fn.index.ending)
