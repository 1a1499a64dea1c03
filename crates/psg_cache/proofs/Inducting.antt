-- Induction over noted trees.
use Rattle.std.proofs.Common.{◌≡◌, ℕ, List, [], ◌∷◌, ◌++◌, refl, sym, ◌∙◌, append_assoc, append-nil}
use Rattle.std.specs.List.{AllByRecursion}
use Rattle.psg_grammar.specs.declared.types.Definition.{Definition}
use Rattle.psg_grammar.specs.Fragments.{Fragment}
use Rattle.psg_eval.specs.declared.summary.SummaryParts.{SummaryParts}
use Rattle.psg_cache.specs.Annotated.{Annotated, topped, above, tree_in, whole_in, rests_in, weight_in, below_in, with_below}
use Rattle.psg_cache.specs.Noting.{annotated_of}
use Rattle.psg_cache.specs.declared.note.NoteNode.{NoteNode}
use Rattle.psg_cache.specs.Noted.{IsTopped, IsNotedWith, IsNoted}

pub tree-with : (n : Annotated) (cs : List Annotated) → tree_in (with_below n cs) ≡ tree_in n
tree-with n [] = refl
tree-with n (c ∷ cs) = tree-with (above n c) cs

pub whole-with : (n : Annotated) (cs : List Annotated) → whole_in (with_below n cs) ≡ whole_in n
whole-with n [] = refl
whole-with n (c ∷ cs) = whole-with (above n c) cs

pub below-with : (n : Annotated) (cs : List Annotated) → below_in (with_below n cs) ≡ below_in n ++ cs
below-with n [] = sym (append-nil (below_in n))
below-with n (c ∷ cs) = below-with (above n c) cs ∙ append_assoc (below_in n) (c ∷ []) cs

pub rests-with : (n : Annotated) (cs : List Annotated) → rests_in (with_below n cs) ≡ rests_in n
rests-with n [] = refl
rests-with n (c ∷ cs) = rests-with (above n c) cs

pub weight-with : (n : Annotated) (cs : List Annotated) → weight_in (with_below n cs) ≡ weight_in n
weight-with n [] = refl
weight-with n (c ∷ cs) = weight-with (above n c) cs

-- of the program's notes
pub noted_tree : (n : NoteNode) → tree_in (annotated_of n) ≡ n.tree
noted_tree n = tree-with (topped n.tree n.whole n.rests n.weight) n.below

pub noted_whole : (n : NoteNode) → whole_in (annotated_of n) ≡ n.whole
noted_whole n = whole-with (topped n.tree n.whole n.rests n.weight) n.below

pub noted_rests : (n : NoteNode) → rests_in (annotated_of n) ≡ n.rests
noted_rests n = rests-with (topped n.tree n.whole n.rests n.weight) n.below

pub noted_weight : (n : NoteNode) → weight_in (annotated_of n) ≡ n.weight
noted_weight n = weight-with (topped n.tree n.whole n.rests n.weight) n.below

pub noted_below : (n : NoteNode) → below_in (annotated_of n) ≡ n.below
noted_below n = below-with (topped n.tree n.whole n.rests n.weight) n.below

module _ (def : Definition) where
  -- a note is noted where its top is, and its children are
  pub noted_with : (n : Annotated) (cs more : List Annotated) → IsNotedWith def n (cs ++ more) → AllByRecursion (IsNoted def) cs
      → IsNotedWith def (with_below n cs) more
  noted_with n [] more h k = h
  noted_with n (c ∷ cs) more h k = noted_with (above n c) cs more (h, k.0) k.1

  module _ (P : Annotated → Type 0)
      (step : (tree : Fragment) (whole : SummaryParts) (rests : List SummaryParts) (weight : ℕ) (below : List Annotated)
      → IsTopped def tree whole rests weight below → AllByRecursion (IsNoted def) below → AllByRecursion P below
      → P (with_below (topped tree whole rests weight) below)) where
    noted_along : (n : Annotated) (more : List Annotated) → IsNotedWith def n more → AllByRecursion (IsNoted def) more
        → AllByRecursion P more → P (with_below n more)
    noted_along (topped tree whole rests weight) more h j k = step tree whole rests weight more h j k
    noted_along (above n c) more h j k = noted_along n (c ∷ more) h.0 (h.1, j) (noted_along c [] h.1 tt tt, k)

    -- what holds of each note whose children have it holds of each note
    pub noted_by : (n : Annotated) → IsNoted def n → P n
    noted_by n h = noted_along n [] h tt tt
