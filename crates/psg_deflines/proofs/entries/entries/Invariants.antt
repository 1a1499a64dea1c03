use Rattle.psg_deflines.specs.Parts.{texts}
use Rattle.psg_deflines.proofs.ReadLaws.{IsReadUpTo}
use Rattle.psg_deflines.proofs.entries.entries.Given as goal

abbrev pub invariant-loop-text : goal.invariant-loop-text
invariant-loop-text l = IsReadUpTo l.version (texts l.written) l.text-index l.entries.items l.rows l.cases
