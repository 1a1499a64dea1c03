use Rattle.std.proofs.Common.{◌≡◌, ◌+◌, ◌≤◌, length, drop}
use Rattle.std.specs.Prelude.{reverse}
use Rattle.std.specs.List.{AllByRecursion}
use Rattle.psg_cache.specs.Renoting.{AreOfCells}
use Rattle.psg_cache.proofs.CellLaws.{IsSuffix}
use Rattle.psg_cache.proofs.listing.cells.Given as goal

-- the cells from the number on are made
abbrev pub invariant-turn : goal.invariant-turn
invariant-turn g l =
    record {
      within : l.left ≤ length l.elements;
      counted : l.steps + l.left ≡ l.fn.steps + length l.elements;
      made : AreOfCells l.language.definition.now l.list (drop l.left l.elements) l.behind (reverse l.made.items);
      suffixes : AllByRecursion (IsSuffix l.language.definition.now l.list) (reverse l.made.items);
    }

abbrev pub decreases-turn : goal.decreases-turn
decreases-turn g l = l.left
