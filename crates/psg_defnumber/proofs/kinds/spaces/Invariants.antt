use Rattle.std.proofs.Common.{drop}
use Rattle.psg_grammar.specs.declared.types.Definition.{Definition}
use Rattle.psg_defnumber.specs.Declaring.{HasSorts}
use Rattle.psg_defnumber.specs.Putting.{ReadsSpaces}
use Rattle.psg_defnumber.proofs.PutLaws.{ReadsTo}
use Rattle.psg_defnumber.proofs.kinds.spaces.Given as goal

abbrev pub invariant-loop-entry : goal.invariant-loop-entry
invariant-loop-entry l = (def : Definition) → HasSorts l.checked def → ReadsTo def ReadsSpaces l.entries l.made.items (drop l.entry-index l.entries)
