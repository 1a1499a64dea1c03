use Rattle.std.proofs.Common.{◌≡◌, length, take}
use Rattle.psg_terms.specs.Sizes.{size, sizes}
use Rattle.psg_terms.specs.Signature.{HaveSorts}
use Rattle.psg_terms.specs.Kept.{numbers_of}
use Rattle.psg_terms.proofs.sorting.+sorting.Given as goal

abbrev pub decreases-has_sort : goal.decreases-has_sort
decreases-has_sort l = size l.term.now

abbrev pub decreases-have_sorts : goal.decreases-have_sorts
decreases-have_sorts l = sizes l.row.now

abbrev pub invariant-have_sorts-loop-i : goal.invariant-have_sorts-loop-i
invariant-have_sorts-loop-i l = (length l.row ≡ length l.sorts) × HaveSorts l.sig (take l.i l.row) (numbers_of (take l.i l.sorts))
