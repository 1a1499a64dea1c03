use Rattle.std.proofs.Common.{◌≡◌, take, map}
use Rattle.psg_class.specs.Checks.{separator_number}
use Rattle.psg_class.proofs.behind.separator_numbers.Given as goal

abbrev pub invariant-loop-list : goal.invariant-loop-list
invariant-loop-list l = l.numbers.items ≡ map (separator_number l.vocabulary.base l.vocabulary.words.items) (take l.list-index l.lists)
