use Rattle.std.proofs.Common.{[], take}
use Rattle.psg_deflines.specs.Entries.{written}
use Rattle.psg_defnumber.specs.Filling.{Fills}
use Rattle.psg_defnumber.proofs.list_rows.fill_lists.Given as goal

abbrev pub invariant-loop-entry : goal.invariant-loop-entry
invariant-loop-entry l = Fills l.definition [] (written (take l.entry-index l.entries)) l.initial.lists.items l.lists.items
