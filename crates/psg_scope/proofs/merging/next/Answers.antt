use Rattle.psg_scope.proofs.MergeLaws.{alone, tied}
use Rattle.std.proofs.lemmas.List.{nil_from_length}
use Rattle.psg_scope.proofs.merging.next.Goals as goal

pub returns-in_default-split_first : goal.returns-in_default-split_first
returns-in_default-split_first c = alone _ _ _ _ c.in-Some.ensures.cases.0 (nil_from_length _ c.in_default-split_first.ensures.cases)

pub returns-in-Equal : goal.returns-in-Equal
returns-in-Equal c = tied _ _ _ _ _ _ c.in-Some.ensures.cases.0 c.in-Some-split_first-2.ensures.cases.0 c.in-Equal.ensures
