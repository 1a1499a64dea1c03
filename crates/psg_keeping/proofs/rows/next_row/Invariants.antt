use Rattle.std.proofs.Common.{◌≡◌, ◌+◌, ◌∷◌, List, length}
use Rattle.psg_lexis.specs.declared.token.Token.{Token}
use Rattle.psg_keeping.specs.Rows.{IsRow}
use Rattle.psg_keeping.proofs.RowLaws.{IsFrontRow}
use Rattle.psg_keeping.proofs.rows.next_row.Given as goal

abbrev pub invariant-loop-count : goal.invariant-loop-count
invariant-loop-count l =
    (length l.next.items ≡ l.count + 1)
    × ((old : List Token) → IsRow old l.new l.row → IsFrontRow (l.token ∷ old) l.new l.next.items l.count)
