use Rattle.psg_class.specs.Sources.{Adds, Below, ListFactAt, ListLinkAt}
use Rattle.psg_class.proofs.sources.note_lists.Given as goal

abbrev pub invariant-loop-number : goal.invariant-loop-number
invariant-loop-number l = Adds (Below (ListFactAt l.rows l.lists l.separators) l.number) (Below (ListLinkAt l.rows l.lists) l.number) l.initial.draft l.draft
