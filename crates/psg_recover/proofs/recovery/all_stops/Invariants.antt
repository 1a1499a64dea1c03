use Rattle.std.proofs.Common.{◌-◌, ◌++◌, ℕ, List, Option, length}
use Rattle.psg_lexis.specs.declared.token.Spanned.{Spanned}
use Rattle.psg_recover.specs.declared.finding.Finding.{Finding}
use Rattle.psg_recover.specs.Recovery.{AreStops, most_stops}
use Rattle.psg_recover.specs.Rows.{IsRow}
use Rattle.psg_recover.proofs.recovery.all_stops.Given as goal

-- whatever completes the rest completes the whole
abbrev pub invariant-loop-row : goal.invariant-loop-row
invariant-loop-row l =
    IsRow l.reader.known.definition.now l.reader.kind l.text l.row.items
    × ((found : List Finding) (last : Option (List Spanned)) → AreStops l.reader.known.definition.now l.reader.kind l.text (length l.told.items) l.row.items found last
    → AreStops l.reader.known.definition.now l.reader.kind l.text 0 l.fn.tokens.items (l.told.items ++ found) last)

abbrev pub decreases-loop-row : goal.decreases-loop-row
decreases-loop-row l = most_stops - length l.told.items
