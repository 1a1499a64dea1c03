use Rattle.std.proofs.Common.{ℕ, ◌-◌, ◌<◌, ◌≤◌, ◌^◌}
use Rattle.psg_grammar.specs.Open.{IsOpen}
use Rattle.psg_grammar.specs.Work.{work_of}
use Rattle.psg_cache.specs.Annotated.{tree_in}
use Rattle.psg_places.specs.Answers.{IsNextTree, next_tree}
use Rattle.psg_places.proofs.SearchLaws.{IsHalved}
use Rattle.psg_places.proofs.halving.most_kept.Given as goal

abbrev pub invariant-halves : goal.invariant-halves
invariant-halves g l =
    record {
      between : l.low < l.high;
      inside : l.high ≤ l.fn.left;
      good : IsOpen l.definition (next_tree l.definition l.front l.kept l.low l.tree);
      bad : IsOpen l.definition (next_tree l.definition l.front l.kept l.high l.tree) → ⊥;
      halved : (h : ℕ) → l.fn.left ≤ 2 ^ h → IsHalved (IsNextTree l.definition l.front l.tree l.kept) (tree_in l.old) h l.low l.high l.fn.steps l.steps (work_of l.tree);
    }

abbrev pub decreases-halves : goal.decreases-halves
decreases-halves g l = l.high - l.low
