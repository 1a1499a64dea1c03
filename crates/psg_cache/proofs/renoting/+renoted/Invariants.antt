use Rattle.std.proofs.Common.{◌≡◌, ◌+◌, ◌≤◌, drop, map, take}
use Rattle.psg_grammar.specs.Fragments.{children_of}
use Rattle.psg_tree.specs.Shapes.{height}
use Rattle.psg_cache.specs.Alike.{DifferBefore}
use Rattle.psg_cache.specs.Annotated.{tree_in}
use Rattle.psg_cache.specs.Walks.{AreNotesOf}
use Rattle.psg_cache.proofs.PairLaws.{pairs}
use Rattle.psg_cache.proofs.renoting.+renoted.Given as goal

-- the children so far have their notes, and differ from the old ones up to the last one that differs
abbrev pub invariant-loop-i : goal.invariant-loop-i
invariant-loop-i g l =
    record {
      walked : AreNotesOf l.language.definition.now (take l.i l.inner) l.below.items;
      counted : l.steps ≤ l.fn.steps + pairs (take l.i (map tree_in l.notes)) (take l.i l.inner);
      small : l.i ≤ l.many;
      led : (l.first ≤ l.i) × (take l.first l.below.items ≡ take l.first l.notes);
      within : l.last ≤ l.i;
      behind : drop l.last l.below.items ≡ drop l.last (take l.i l.notes);
      apart : DifferBefore l.last (children_of (tree_in l.old)) l.inner;
    }

abbrev pub decreases-renoted : goal.decreases-renoted
decreases-renoted g l = height l.new.now
