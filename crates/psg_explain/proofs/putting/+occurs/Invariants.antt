use Rattle.std.proofs.Common.{◌≡◌, false, take}
use Rattle.psg_terms.specs.Sizes.{size, sizes}
use Rattle.psg_terms.specs.Canonical.{is_noted, variables_of}
use Rattle.psg_explain.proofs.putting.+occurs.Given as goal

abbrev pub decreases-occurs : goal.decreases-occurs
decreases-occurs l = size l.term.now

abbrev pub decreases-occurs_among : goal.decreases-occurs_among
decreases-occurs_among l = sizes l.row.now

abbrev pub invariant-occurs_among-loop-i : goal.invariant-occurs_among-loop-i
invariant-occurs_among-loop-i l = is_noted (l.variable.sort.0, l.variable.number) (variables_of (take l.i l.row)) ≡ false
