use Rattle.std.proofs.Common.{drop}
use Rattle.psg_terms.specs.Kept.{numbers_of}
use Rattle.psg_deflines.specs.Entries.{written}
use Rattle.psg_defnumber.specs.Sorts.{RowsStand}
use Rattle.psg_defnumber.specs.Putting.{ReadsRows}
use Rattle.psg_defnumber.proofs.PutLaws.{ReadsTo}
use Rattle.psg_defnumber.proofs.operators.rows.Given as goal

abbrev pub invariant-loop-entry : goal.invariant-loop-entry
invariant-loop-entry l =
    ReadsTo l.definition (ReadsRows l.sort.0 (numbers_of l.sorts)) l.behind l.made.items (drop l.entry-index l.behind)
    × RowsStand l.checked l.sort.0 (numbers_of l.sorts) (written (drop l.entry-index l.behind))
