-- How large the tree of a note is, and its mark by completions.
use Rattle.std.proofs.Common.{◌≡◌, inl, inr, ℕ, ◌≤◌, length, Some, sym, ap, subst}
use Rattle.std.proofs.lemmas.Bool.Decides.{leb_tells}
use Rattle.psg_grammar.specs.declared.types.Definition.{Definition}
use Rattle.psg_grammar.specs.Fragments.{Fragment}
use Rattle.psg_grammar.specs.Legal.{IsCompletable}
use Rattle.psg_grammar.specs.Marks.{Mark, IsMarkBy}
use Rattle.psg_grammar.specs.Sizes.{nodes_of}
use Rattle.psg_grammar.specs.Steps.{HasWeights}
use Rattle.psg_unparse.specs.Layout.{text_of}
use Rattle.psg_cache.specs.Annotated.{Annotated, tree_in, weight_in}
use Rattle.psg_cache.specs.Blames.{culprits_in}
use Rattle.psg_cache.specs.Notes.{IsNoteOf, mark_by}
use Rattle.psg_cache.proofs.Completed.{noted_completable}
use Rattle.psg_cache.proofs.NoteWeights.{noted_weighs}
use Rattle.psg_specimen.specs.declared.language.LanguageParts.{LanguageParts}
use Rattle.psg_specimen.specs.Languages.{IsLanguage}
use Rattle.psg_specimen.proofs.TrueRows.{true_rows}
use Rattle.psg_session.specs.declared.editor.OpenedTree.{OpenedTree}
use Rattle.psg_session.specs.declared.measuring.Extent.{Extent}
use Rattle.psg_session.specs.declared.session.Parts.{Parts}
use Rattle.psg_session.specs.Extents.{HasExtent, IsExtentOf}
use Rattle.psg_session.specs.PlainState.{Opened}
use Rattle.psg_session.specs.Sessions.{IsSession, opened_of, plain, state_of}
use Rattle.psg_session.proofs.EditLaws.{opened_version}

-- a tree with a note has few nodes
pub few_nodes : (def : Definition) (f : Fragment) (n : Annotated) → IsNoteOf def f n → nodes_of f ≤ 20000
few_nodes def f n noted = elim (leb_tells (nodes_of f) 20000) as (λ _. nodes_of f ≤ 20000) [
  | inl few ↦ few.1
  | inr many ↦ absurd (noted.within.small (inl many.1))
]

module _ (language : LanguageParts) (is : IsLanguage language) (n : Annotated)
    (noted : IsNoteOf language.definition (tree_in n) n) where
  marked_so : IsMarkBy (IsCompletable language.definition) (tree_in n) (mark_by (culprits_in n))
  marked_so =
      (noted_completable language.definition is.sound (tree_in n) n noted (true_rows language.definition is.accepted.met)).culprits

  pub extent_is : (nodes bytes weight : ℕ) (mark : Mark) → nodes ≡ nodes_of (tree_in n)
      → bytes ≡ length (text_of language.definition (tree_in n)) → weight ≡ weight_in n → mark ≡ mark_by (culprits_in n)
      → HasExtent language.definition (IsCompletable language.definition) (tree_in n) nodes bytes weight mark
  extent_is nodes bytes weight mark count long heavy told = record {
    nodes_are = count;
    bytes_are = long;
    weight_is = subst (HasWeights language.definition (tree_in n)) (sym heavy)
        (noted_weighs language.definition n noted.noted noted.formed);
    mark_is = subst (IsMarkBy (IsCompletable language.definition) (tree_in n)) (sym told) marked_so;
  }

-- ---- the opened fragment of a session

module _ (p : Parts) (session : IsSession p) (held : OpenedTree) (opened : p.editor.opened ≡ Some held) where
  pub held_noted : IsNoteOf p.language (tree_in held.note) held.note
  held_noted = (opened_version p.language p.editor held session.editor opened).noted

pub extent_in : (p q : Parts) → p ≡ q → (held : OpenedTree) → p.editor.opened ≡ Some held → (e : Extent)
    → IsExtentOf p.language (IsCompletable p.language) (tree_in held.note) e
    → (old : Opened) × ((state_of q.editor).opened ≡ Some old)
    × IsExtentOf q.language (IsCompletable q.language) old.tree e
extent_in p q same held opened e is =
    subst (λ (x : Parts). (old : Opened) × ((state_of x.editor).opened ≡ Some old)
    × IsExtentOf x.language (IsCompletable x.language) old.tree e) same
    (plain held, ap opened_of opened, is)
