use Rattle.std.proofs.Common.{◌-◌, length}
use Rattle.psg_grammar.specs.Fragments.{Fragment}
use Rattle.psg_grammar.specs.Paths.{Path}
use Rattle.psg_cache.specs.Annotated.{tree_in}
use Rattle.psg_explain.specs.Relations.{IsRelated}
use Rattle.psg_explain.proofs.Turns.{IsWay}
use Rattle.psg_explain.proofs.claiming.rows_along.Given as goal

abbrev pub invariant-nodes : goal.invariant-nodes
invariant-nodes g l = (path : Path) (node : Fragment) → IsRelated l.language.definition (tree_in l.note) path node l.stages
    → IsWay l.language.definition (tree_in l.note) path node l.made.items l.rest l.fn.steps l.steps

abbrev pub decreases-nodes : goal.decreases-nodes
decreases-nodes g l = length l.stages - length l.made.items
