use Rattle.psg_class.specs.Sources.{Adds, Below, NoLink, PhylumFactAt}
use Rattle.psg_class.proofs.sources.note_phyla.Given as goal

abbrev pub invariant-loop-number : goal.invariant-loop-number
invariant-loop-number l = Adds (Below (PhylumFactAt l.rows l.numbers.opening l.numbers.closing l.phyla l.numbers.holes.now) l.number) NoLink l.initial.draft l.draft
