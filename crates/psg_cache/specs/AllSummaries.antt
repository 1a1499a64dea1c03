-- A note has the summary of each node and of each list suffix.
use Rattle.std.specs.Prelude.{ℕ, zero, suc, ◌≡◌, ◌∷◌, slice_get, Option, Some, None}
use Rattle.psg_grammar.specs.declared.types.Definition.{Definition}
use Rattle.psg_grammar.specs.Fragments.{Fragment, ending, cell}
use Rattle.psg_grammar.specs.Paths.{Path, node_at}
use Rattle.psg_eval.specs.declared.summary.SummaryParts.{SummaryParts}
use Rattle.psg_eval.specs.Summaries.{IsSummaryOf}
use Rattle.psg_cache.specs.Annotated.{Annotated, tree_in, whole_in, rests_in, note_at}

-- the list after the first k elements; the first suffix is the list itself
abbrev pub suffix_of : Fragment → ℕ → Option Fragment
suffix_of (cell l e r) zero = Some (cell l e r)
suffix_of (cell l e r) (suc k) = suffix_of r k
suffix_of (ending l u) zero = Some (ending l u)
suffix_of f k = None

-- each node has a note with its summary, and each suffix of a list that is a node has a summary
pub record HasAllSummaries (def : Definition) (f : Fragment) (n : Annotated) : Type 0 where
  pub nodes : (path : Path) (node : Fragment) → node_at f path ≡ Some node
      → (m : Annotated) × (note_at n path ≡ Some m) × (tree_in m ≡ node) × IsSummaryOf def node (whole_in m)
  pub suffixes : (path : Path) (m : Annotated) (k : ℕ) (suffix : Fragment) → note_at n path ≡ Some m
      → suffix_of (tree_in m) k ≡ Some suffix
      → (s : SummaryParts) × (slice_get (whole_in m ∷ rests_in m) k ≡ Some s) × IsSummaryOf def suffix s
