use Rattle.std.proofs.Common.{◌≡◌, Some, take, length}
use Rattle.std.specs.List.{AllByRecursion}
use Rattle.psg_grammar.specs.declared.types.Definition.{Definition}
use Rattle.psg_grammar.specs.Fragments.{Fragment, children_of}
use Rattle.psg_grammar.specs.Paths.{node_at}
use Rattle.psg_cache.specs.Annotated.{tree_in}
use Rattle.psg_cache.specs.Notes.{IsNoteOf}
use Rattle.psg_eval.specs.Summaries.{AllSummaries, IsSummary}
use Rattle.psg_explain.proofs.relating.summaries.Given as goal

abbrev pub invariant-loop-i : goal.invariant-loop-i
invariant-loop-i l = (definition : Definition) (node : Fragment)
    → IsNoteOf definition (tree_in l.note) l.note → node_at (tree_in l.note) l.path ≡ Some node
    → length (children_of node) ≡ l.count
    → AllSummaries definition (take l.i (children_of node)) l.found.items × AllByRecursion (IsSummary definition) l.found.items
