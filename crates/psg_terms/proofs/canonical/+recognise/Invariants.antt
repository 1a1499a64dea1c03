use Rattle.std.proofs.Common.{◌≡◌, true, take}
use Rattle.psg_terms.specs.Sizes.{size, sizes}
use Rattle.psg_terms.specs.Renaming.{GoesOn}
use Rattle.psg_terms.proofs.canonical.+recognise.Given as goal

abbrev pub decreases-is_numbered : goal.decreases-is_numbered
decreases-is_numbered l = size l.term.now

abbrev pub decreases-are_numbered : goal.decreases-are_numbered
decreases-are_numbered l = sizes l.row.now

abbrev pub invariant-are_numbered-loop-i : goal.invariant-are_numbered-loop-i
invariant-are_numbered-loop-i l = GoesOn l.sig l.fn.known.items l.known.items (take l.i l.row)
