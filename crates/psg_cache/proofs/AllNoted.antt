-- A note has the summary of each node and of each list suffix.
use Rattle.std.proofs.Common.{◌≡◌, ℕ, zero, suc, Bor, length, List, [], ◌∷◌, map, slice_get, Option, Some, None, refl, sym, ◌∙◌, ap, subst}
use Rattle.std.specs.Prelude.{option_map}
use Rattle.std.specs.Option.{option_copied}
use Rattle.std.specs.Slice.{IsGetResult}
use Rattle.std.proofs.lemmas.Option.{none-some, slice_get_past, slice_get_read}
use Rattle.psg_grammar.specs.declared.types.Definition.{Definition}
use Rattle.psg_grammar.specs.Fragments.{Fragment, hole, ending, cell, operator, with_child, with_name, with_number, with_text, anything, observed, children_of}
use Rattle.psg_grammar.specs.Paths.{Path, IsList, node_at}
use Rattle.psg_eval.specs.declared.summary.SummaryParts.{SummaryParts}
use Rattle.psg_eval.specs.Summaries.{AllSummaries, IsSummary, IsSummaryOf}
use Rattle.psg_cache.specs.Notes.{IsFormed, IsNoteOf}
use Rattle.psg_cache.proofs.RealTrees.{IsReal, real}
use Rattle.psg_cache.specs.Edits.{IsNoSummaryAt, IsSummaryAt}
use Rattle.psg_cache.specs.AllSummaries.{HasAllSummaries, suffix_of}
use Rattle.psg_cache.specs.Annotated.{Annotated, tree_in, whole_in, rests_in, below_in, note_at}
use Rattle.psg_cache.specs.Noted.{AreOfSuffixes, IsAnswered}
use Rattle.psg_cache.proofs.NoteLaws.{below_known, list_known, noted_known}
use Rattle.psg_cache.proofs.NoteParts.{noted_at, noted_parts}

some_tree : (o : Option Annotated) (node : Fragment) → option_map tree_in o ≡ Some node → (m : Annotated) × (o ≡ Some m) × (tree_in m ≡ node)
some_tree None node e = absurd (none-some node e)
some_tree (Some m) node e = (m, refl, (let same : tree_in m ≡ node = cc in same))

suffix_list : (f : Fragment) (k : ℕ) (r : Fragment) → suffix_of f k ≡ Some r → IsList f
suffix_list (cell l e s) k r h = tt
suffix_list (ending l u) k r h = tt
suffix_list (hole p) k r h = absurd (none-some r h)
suffix_list (operator o) k r h = absurd (none-some r h)
suffix_list (with_child f t) k r h = absurd (none-some r h)
suffix_list (with_name f n) k r h = absurd (none-some r h)
suffix_list (with_number f n) k r h = absurd (none-some r h)
suffix_list (with_text f t) k r h = absurd (none-some r h)
suffix_list anything k r h = absurd (none-some r h)
suffix_list (observed f) k r h = absurd (none-some r h)

module _ (def : Definition) where
  answered_list : (f : Fragment) → IsList f → (below : List SummaryParts) (s : SummaryParts) (rests : List SummaryParts)
      → IsAnswered def f below s rests → AreOfSuffixes def f below s rests
  answered_list (cell l e r) list below s rests h = h
  answered_list (ending l u) list below s rests h = h
  answered_list (hole p) list below s rests h = absurd list
  answered_list (operator o) list below s rests h = absurd list
  answered_list (with_child f t) list below s rests h = absurd list
  answered_list (with_name f n) list below s rests h = absurd list
  answered_list (with_number f n) list below s rests h = absurd list
  answered_list (with_text f t) list below s rests h = absurd list
  answered_list anything list below s rests h = absurd list
  answered_list (observed f) list below s rests h = absurd list

  suffix_known : (f : Fragment) → IsReal f → IsList f → (below : List SummaryParts) (s : SummaryParts) (rests : List SummaryParts)
      → AllSummaries def (children_of f) below → AreOfSuffixes def f below s rests
      → (k : ℕ) (r : Fragment) → suffix_of f k ≡ Some r
      → (t : SummaryParts) × (slice_get (s ∷ rests) k ≡ Some t) × IsSummaryOf def r t
  suffix_known (ending l u) real list below s rests are h zero r suffix =
      let one : ending l u ≡ r = cc in
      (s, refl, subst (λ x. IsSummaryOf def x s) one (list_known def (ending l u) real list below s rests are h).0)
  suffix_known (ending l u) real list below s rests are h (suc k) r suffix = absurd (none-some r suffix)
  suffix_known (cell l e f) real list below s rests are h zero r suffix =
      let one : cell l e f ≡ r = cc in
      (s, refl, subst (λ x. IsSummaryOf def x s) one (list_known def (cell l e f) real list below s rests are h).0)
  suffix_known (cell l e f) real list [] s rests are h (suc k) r suffix = absurd are
  suffix_known (cell l e f) real list (b ∷ bs) s [] are h (suc k) r suffix = absurd h
  suffix_known (cell l e f) real list (b ∷ bs) s (x ∷ xs) are h (suc k) r suffix =
      suffix_known f real.1 real.2 bs x xs are.1 h.1 k r suffix
  suffix_known (hole p) real list below s rests are h k r suffix = absurd list
  suffix_known (operator o) real list below s rests are h k r suffix = absurd list
  suffix_known (with_child f c) real list below s rests are h k r suffix = absurd list
  suffix_known (with_name f n) real list below s rests are h k r suffix = absurd list
  suffix_known (with_number f n) real list below s rests are h k r suffix = absurd list
  suffix_known (with_text f n) real list below s rests are h k r suffix = absurd list
  suffix_known anything real list below s rests are h k r suffix = absurd list
  suffix_known (observed f) real list below s rests are h k r suffix = absurd list

  pub all_noted : (f : Fragment) (n : Annotated) → IsNoteOf def f n → HasAllSummaries def f n
  all_noted f n note =
      let formed : IsFormed def (tree_in n) = subst (IsFormed def) (sym note.tree) note.formed in
      record {
        nodes = λ path node at.
            let both = noted_at def path n note.noted formed in
            let there : option_map tree_in (note_at n path) ≡ Some node =
            sym both.0 ∙ ap (λ x. node_at x path) note.tree ∙ at in
            let (m, is, tree) = some_tree (note_at n path) node there in
            let h = both.1 m is in
            (m, is, tree, subst (λ x. IsSummaryOf def x (whole_in m)) tree (noted_known def m h.0 h.1).0);
        suffixes = λ path m k suffix is at.
            let h = (noted_at def path n note.noted formed).1 m is in
            let parts = noted_parts def m h.0 in
            let below = below_known def (tree_in m) (below_in m) h.1 parts.0.children parts.1 in
            let list = suffix_list (tree_in m) k suffix at in
            suffix_known (tree_in m) (real def (tree_in m) h.1) list (map whole_in (below_in m)) (whole_in m) (rests_in m) below.1
            (answered_list (tree_in m) list (map whole_in (below_in m)) (whole_in m) (rests_in m) parts.0.answered) k suffix at;
      }

-- ---- the summary at a path

pub got_note : (xs : List Annotated) (i : ℕ) (r : Option (Bor Annotated)) → IsGetResult xs i i r
    → option_copied r ≡ slice_get xs i
got_note xs i None h = sym (slice_get_past xs i h.3)
got_note xs i (Some x) h = sym (slice_get_read xs (length xs) i x.now refl h.3.0 h.1)

pub summary_at : (n : Annotated) (path : Path) (m : Annotated) (s : SummaryParts) → note_at n path ≡ Some m → s ≡ whole_in m
    → IsSummaryAt n path s
summary_at n path m s is same def f note =
    let formed : IsFormed def (tree_in n) = subst (IsFormed def) (sym note.tree) note.formed in
    let both = noted_at def path n note.noted formed in
    let h = both.1 m is in
    let there : node_at f path ≡ Some (tree_in m) =
    ap (λ x. node_at x path) (sym note.tree) ∙ both.0 ∙ ap (option_map tree_in) is in (
      tree_in m,
      there,
      subst (IsSummaryOf def (tree_in m)) (sym same) (noted_known def m h.0 h.1).0,
      subst (IsSummary def) (sym same) (noted_parts def m h.0).0.usual.0,
    )

pub no_summary_at : (n : Annotated) (path : Path) → note_at n path ≡ None → IsNoSummaryAt n path
no_summary_at n path is def f note =
    let formed : IsFormed def (tree_in n) = subst (IsFormed def) (sym note.tree) note.formed in
    let both = noted_at def path n note.noted formed in
    ap (λ x. node_at x path) (sym note.tree) ∙ both.0 ∙ ap (option_map tree_in) is
