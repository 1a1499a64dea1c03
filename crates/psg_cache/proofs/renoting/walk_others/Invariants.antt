use Rattle.std.proofs.Common.{◌≡◌, ◌≤◌, ◌+◌, ◌++◌, List, take}
use Rattle.psg_cache.specs.Annotated.{Annotated}
use Rattle.psg_cache.specs.Walks.{AreNotesOf}
use Rattle.psg_cache.proofs.Counting.{together}
use Rattle.psg_cache.proofs.renoting.walk_others.Given as goal

-- the children so far were walked
abbrev pub invariant-loop-i : goal.invariant-loop-i
invariant-loop-i g l = record {
  small : l.i ≤ l.end;
  walked : AreNotesOf l.language.definition.now (take l.i l.inner) l.below.items;
  counted : l.steps + together (take l.first l.inner) ≡ l.fn.steps + together (take l.i l.inner);
  more : (rest : List Annotated) × (l.below.items ≡ l.fn.below.items ++ rest);
}
