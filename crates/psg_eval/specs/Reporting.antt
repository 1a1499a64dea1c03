-- The rows of a tree with one more column, which has the value again.
use Rattle.std.specs.Prelude.{◌≡◌, List, ◌∷◌, Ok}
use Rattle.psg_terms.specs.Terms.{Term}
use Rattle.psg_grammar.specs.declared.types.Definition.{Definition}
use Rattle.psg_grammar.specs.Fragments.{Fragment}
use Rattle.psg_grammar.specs.Paths.{Path}
use Rattle.psg_grammar.specs.Relations.{IsReportedRelation}
use Rattle.psg_eval.specs.declared.frame.Frame.{Frame}
use Rattle.psg_eval.specs.declared.summary.SummaryParts.{SummaryParts}
use Rattle.psg_eval.specs.Climbing.{IsClimbed, IsObserved}
use Rattle.psg_eval.specs.Frames.{StandFor}
use Rattle.psg_eval.specs.Summaries.{IsSummaryOf}

-- the row x is the row p with its first term twice
pub record Twice (p x : List Term) : Type 0 where
  pub value : Term
  pub others : List Term
  pub row_is : p ≡ value ∷ others
  pub made_is : x ≡ value ∷ value ∷ others

-- Where the frames are those of a node of the fragment, `seen` is what is answered for the node with its value
-- observed, and `whole` is what a climb from there answers for each tree with that summary at the place, the rows of
-- `whole` are those that report the node's value.
abbrev pub IsReportMade : Definition → Type 0
IsReportMade def = (frames : List Frame) (path : Path) (f node : Fragment) (seen whole : SummaryParts)
    → StandFor def frames path f node
    → IsObserved def node (Ok seen)
    → ((g t : Fragment) → StandFor def frames path g t → IsSummaryOf def t seen → IsClimbed def path g (Ok whole))
    → IsReportedRelation def f path whole.rel
