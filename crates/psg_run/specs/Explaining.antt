-- What `explain` says: that the opened fragment has a completion, or why it has none.
use Rattle.std.specs.Prelude.{ℕ, ◌≡◌, ◌≤◌, ◌+◌, ◌*◌, List, [], ◌∷◌, ◌++◌, map, slice_get, Option, Some, None}
use Rattle.std.specs.Prelude.{codes, decimal}
use Rattle.psg_terms.specs.Signature.{Signature}
use Rattle.psg_terms.specs.Terms.{Term}
use Rattle.psg_terms.specs.Text.{term_text}
use Rattle.psg_grammar.specs.declared.types.Definition.{Definition}
use Rattle.psg_grammar.specs.Fragments.{Fragment, children_of}
use Rattle.psg_grammar.specs.Paths.{Path, node_at}
use Rattle.psg_grammar.specs.Work.{work_of}
use Rattle.psg_explain.specs.declared.explaining.Explained.{Explained}
use Rattle.psg_explain.specs.declared.explaining.Explained.TheVariants as explained
use Rattle.psg_explain.specs.declared.refutation.CaseReason.{CaseReason}
use Rattle.psg_explain.specs.declared.refutation.Claim.{Claim}
use Rattle.psg_explain.specs.declared.refutation.Label.{Label}
use Rattle.psg_explain.specs.declared.refutation.Label.TheVariants as labels
use Rattle.psg_explain.specs.declared.refutation.Reason.{Reason}
use Rattle.psg_explain.specs.declared.refutation.Reason.TheVariants as reasons
use Rattle.psg_explain.specs.declared.refutation.Refutation.{Refutation}
use Rattle.psg_explain.specs.declared.refutation.Refutation.TheVariants as refutations
use Rattle.psg_explain.specs.Explanations.{IsExplained}
use Rattle.psg_explain.specs.LastReasons.{AreLastReasons}
use Rattle.psg_session.specs.Answers.{key_text}
use Rattle.psg_session.specs.Marked.{path_text}
use Rattle.psg_session.specs.PlainState.{Opened}
use Rattle.psg_session.specs.Replies.{feed, feed_all}
use Rattle.psg_run.specs.declared.status.Status.{Status}
use Rattle.psg_run.specs.declared.status.Status.TheVariants as ends_with
use Rattle.psg_run.specs.Chain.{IsPlayed, Point}
use Rattle.psg_run.specs.Editing.{BreaksOff, Editor, IsSilent, new_editor}
use Rattle.psg_run.specs.Worlds.{Act}

-- ---- lines

-- a row of the node's own, or a row of the step before and a row of the added child, by their numbers
abbrev pub label_text : Label → List ℕ
label_text (labels.Row i) = codes "row " ++ decimal i
label_text (labels.Pair i j) = codes "pair " ++ decimal i ++ (32 ∷ decimal j)

abbrev pub equation_text : Signature → Term → Term → List ℕ
equation_text sig left right = term_text sig left ++ codes " = " ++ term_text sig right

-- the equation that cannot be solved, after why
abbrev pub reason_text : Signature → Reason → List ℕ
reason_text sig (reasons.Clash left right) = codes "clash " ++ equation_text sig left right
reason_text sig (reasons.Circle left right) = codes "circle " ++ equation_text sig left right

-- why these make no row of the step
abbrev pub case_line : Signature → CaseReason → List ℕ
case_line sig told = label_text told.label ++ (32 ∷ reason_text sig told.reason)

-- a step of the cell of this element; the end of a list has the number of a cell, but no element
abbrev pub cell_text : Option Fragment → ℕ → ℕ → List ℕ
cell_text None cell step = codes "end"
cell_text (Some element) cell step = codes "cell " ++ decimal cell ++ codes " step " ++ decimal step

-- a step of the node, or of a cell of it
abbrev pub step_text : Fragment → Option ℕ → ℕ → List ℕ
step_text node None step = codes "step " ++ decimal step
step_text node (Some cell) step = cell_text (slice_get (children_of node) cell) cell step

-- the culprit at the path, and its first step without rows, of which the claim is
abbrev pub culprit_line : Path → Fragment → Claim → List ℕ
culprit_line path node claim = codes "culprit " ++ path_text path ++ (32 ∷ step_text node claim.cell claim.step)

-- ---- what is said

-- the most evaluations that this takes: each node and each cell of what is opened twice
abbrev pub most_said : Option Opened → ℕ
most_said None = 0
most_said (Some old) = 2 * work_of old.tree

-- the point with another count of evaluations
abbrev pub with_ticks : Point Editor → ℕ → Point Editor
with_ticks s ticks = record { state = s.state; files = s.files; input = s.input; ticks = ticks }

module _ (def : Definition) where
  -- the key that the node at the path declares twice
  abbrev pub twice_line : Path → ℕ → List ℕ → List ℕ
  twice_line path space name = codes "twice " ++ path_text path ++ (32 ∷ key_text def (space ∷ name))

  module _ (tree : Fragment) where
    -- Where claims end at a step without rows, which is one of the node at the path: its line, and one for each case of
    -- it. That the refutation was checked is the last line.
    abbrev pub AreCulpritLines : Path → List Claim → List CaseReason → List (List ℕ) → Type 0
    AreCulpritLines path claims told lines =
        (node : Fragment) × (node_at tree path ≡ Some node)
        × (front : List Claim) × (last : Claim) × (claims ≡ front ++ last ∷ []) × (last.path ≡ path)
        × (lines ≡ culprit_line path node last ∷ map (case_line def.signature) told ++ codes "checked" ∷ [])

    abbrev pub AreRefutationLines : Refutation → List (List ℕ) → Type 0
    AreRefutationLines (refutations.Twice path space name) lines =
        lines ≡ twice_line path space name ∷ codes "checked" ∷ []
    AreRefutationLines (refutations.Empty path claims) lines =
        (told : List CaseReason) × AreLastReasons def tree (refutations.Empty path claims) told
        × AreCulpritLines path claims told lines

    abbrev pub AreLines : Explained → List (List ℕ) → Type 0
    AreLines explained.Fine lines = lines ≡ codes "ok" ∷ []
    AreLines explained.Long lines = lines ≡ codes "long" ∷ []
    AreLines (explained.Wrong refutation) lines = AreRefutationLines refutation lines

    -- the lines are those of what is rightly said of the tree
    pub record AreSaid (lines : List (List ℕ)) : Type 0 where
      pub what : Explained
      pub right : IsExplained def tree what
      pub are : AreLines what lines

  -- what is said of what is opened
  pub data IsSaid : Option Opened → List ℕ → Type 0 where
    of_nothing : IsSaid None (feed (codes "none"))
    of_opened : {old : Opened} (lines : List (List ℕ)) → AreSaid old.tree lines → IsSaid (Some old) (feed_all lines)

  -- That is put. Or there is no memory for it.
  pub data TellsWhy (s : Point Editor) : List ℕ → Status → Point Editor → Type 0 where
    tells_why : (text : List ℕ) (ticks : ℕ) → IsSaid s.state.state.opened text
        → ticks ≤ s.ticks + most_said s.state.state.opened → TellsWhy s text ends_with.Done (with_ticks s ticks)
    no_room_to_explain : (ticks : ℕ) → ticks ≤ s.ticks + most_said s.state.state.opened
        → TellsWhy s [] ends_with.Memory (with_ticks s ticks)

  -- the lines are played in silence, and then it is put what is said of what is opened
  abbrev pub Explains : List (List ℕ) → Act
  Explains lines = IsPlayed Editor (IsSilent def) (BreaksOff def) TellsWhy new_editor lines
