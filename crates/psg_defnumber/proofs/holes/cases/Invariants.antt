use Rattle.std.proofs.Common.{drop}
use Rattle.psg_deflines.specs.Entries.{written}
use Rattle.psg_defnumber.specs.Placing.{CasesFit}
use Rattle.psg_defnumber.specs.Putting.{ReadsCases}
use Rattle.psg_defnumber.proofs.PutLaws.{ReadsTo}
use Rattle.psg_defnumber.proofs.holes.cases.Given as goal

abbrev pub invariant-loop-entry : goal.invariant-loop-entry
invariant-loop-entry l =
    ReadsTo l.definition (ReadsCases l.kind l.sort.0) l.behind l.made.items (drop l.entry-index l.behind)
    × CasesFit l.checked l.kind l.sort.0 (written (drop l.entry-index l.behind))
