-- What is known of a program that was printed.
use Rattle.std.proofs.Common.{◌≡◌, ℕ, Bool, true, false, List, [], ◌∷◌, not, length, refl, sym, ap, ◌∙◌, subst}
use Rattle.std.proofs.lemmas.Bool.{false≢true, true≢false}
use Rattle.std.specs.Prelude.{Option, ◌==◌, ◌&&◌}
use Rattle.psg_terms.proofs.Lists.{suc_is_not_zero}
use Rattle.psg_asking.specs.Asked.{IsKnown}
use Rattle.psg_asking.specs.Programs.{IsProgram}
use Rattle.psg_cache.specs.Annotated.{Annotated, tree_in}
use Rattle.psg_cache.specs.Blames.{culprits_in}
use Rattle.psg_cache.specs.Notes.{IsNoteOf, mark_by}
use Rattle.psg_cache.proofs.Completed.{noted_completable}
use Rattle.psg_grammar.specs.declared.types.Definition.{Definition}
use Rattle.psg_grammar.specs.declared.types.Kind.{Kind}
use Rattle.psg_grammar.specs.Fragments.{Fragment}
use Rattle.psg_grammar.specs.Legal.{IsCompletable}
use Rattle.psg_grammar.specs.Marks.{IsMarkBy}
use Rattle.psg_grammar.specs.Paths.{Path}
use Rattle.psg_grammar.specs.Sound.{IsSound}
use Rattle.psg_keymap.specs.declared.repair.Repair.{Repair}
use Rattle.psg_keymap.specs.Repairs.{IsAnswer}
use Rattle.psg_specimen.specs.Refusal.{IsAccepted}
use Rattle.psg_specimen.proofs.TrueRows.{true_rows}
use Rattle.psg_unparse.specs.Spans.{printed_of}
use Rattle.psg_unparse.specs.declared.spans.Printed.{Printed}
use Rattle.psg_tui.specs.declared.shown.Shown.{Shown}
use Rattle.psg_tui.specs.Editing.{IsShown, IsTried, is_wrong}

pub right_by : (def : Definition) (tree : Fragment) (ps : List Path) → IsMarkBy (IsCompletable def) tree (mark_by ps)
    → is_wrong ps ≡ false → IsCompletable def tree
right_by def tree [] m w = m
right_by def tree (p ∷ ps) m w = absurd (true≢false (sym (ap not (suc_is_not_zero (length ps))) ∙ w))

pub wrong_by : (def : Definition) (tree : Fragment) (ps : List Path) → IsMarkBy (IsCompletable def) tree (mark_by ps)
    → is_wrong ps ≡ true → IsCompletable def tree → ⊥
wrong_by def tree [] m w = absurd (false≢true w)
wrong_by def tree (p ∷ ps) m w = m.0

module _ (def : Definition) (note : Annotated) (sound : IsSound def) (accepted : IsAccepted def)
    (noted : IsNoteOf def (tree_in note) note) where
  pub marked_so : (ps : List Path) → ps ≡ culprits_in note
      → IsMarkBy (IsCompletable def) (tree_in note) (mark_by ps)
  marked_so ps e =
      subst (λ (qs : List Path). IsMarkBy (IsCompletable def) (tree_in note) (mark_by qs)) (sym e)
      (noted_completable def sound (tree_in note) note noted (true_rows def accepted.met)).culprits

  pub shown_so : (s : Shown) (tree : Fragment) → tree ≡ tree_in note → s.printed ≡ printed_of def tree
      → s.culprits.items ≡ culprits_in note → s.tried ≡ false → IsShown def (tree_in note) s
  shown_so s tree t p c tried = record {
    printed = p ∙ ap (printed_of def) t;
    marked = marked_so s.culprits.items c;
    found = λ h w. absurd (false≢true (sym tried ∙ h));
  }

-- the blamed places were looked for
pub found_so : (def : Definition) (tree : Fragment) (s : Shown) → IsShown def tree s → (found : Option Repair)
    → IsAnswer def tree found → IsShown def tree (record s { repair = found; tried = true })
found_so def tree s k found is = record { printed = k.printed; marked = k.marked; found = λ h w. is }

-- what is known, as a question takes it
pub known_so : (def : Definition) (kind : Kind) (note : Annotated) → IsProgram def kind note → (s : Shown)
    → IsShown def (tree_in note) s → IsTried s → IsKnown def kind note (is_wrong s.culprits.items) s.repair
known_so def kind note program s k tried = record {
  program = program;
  right = right_by def (tree_in note) s.culprits.items k.marked;
  not_right = wrong_by def (tree_in note) s.culprits.items k.marked;
  repair_is = λ w. k.found (tried w) w;
}

pub tried_by : (t w : Bool) → (not t && w) ≡ false → w ≡ true → t ≡ true
tried_by true w e h = refl
tried_by false w e h = absurd (false≢true (sym e ∙ h))

pub shown_by : (def d : Definition) → d ≡ def → (note : Annotated) → IsSound def → IsAccepted def
    → IsNoteOf def (tree_in note) note → (s : Shown) (tree : Fragment) → tree ≡ tree_in note
    → s.printed ≡ printed_of d tree → s.culprits.items ≡ culprits_in note → s.tried ≡ false
    → IsShown def (tree_in note) s
shown_by def d same note sound accepted noted s tree t p c tried =
    shown_so def note sound accepted noted s tree t (p ∙ ap (λ (x : Definition). printed_of x tree) same) c tried

pub known_all : (def d : Definition) (kind : Kind) (note : Annotated) (b c : Bool) (o p : Option Repair) → d ≡ def
    → b ≡ c → o ≡ p → IsKnown def kind note c p → IsKnown d kind note b o
known_all def d kind note b c o p same wrong repair k =
    subst (λ (x : Definition). IsKnown x kind note b o) (sym same)
    (subst (λ (x : Bool). IsKnown def kind note x o) (sym wrong)
    (subst (λ (x : Option Repair). IsKnown def kind note c x) (sym repair) k))
