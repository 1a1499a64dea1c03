-- What is known of a program that was read and noted.
use Rattle.std.proofs.Common.{◌≡◌, Bool, true, false, [], Option, IsTrue, not, refl, sym, subst, ◌∙◌}
use Rattle.std.specs.Prelude.{◌↔◌}
use Rattle.std.proofs.lemmas.Bool.{false≢true, true≢false}
use Rattle.psg_cache.specs.Annotated.{Annotated, tree_in, whole_in}
use Rattle.psg_cache.specs.Completed.{IsByCompletions}
use Rattle.psg_cache.specs.Notes.{IsNoteOf}
use Rattle.psg_grammar.specs.declared.types.Definition.{Definition}
use Rattle.psg_grammar.specs.declared.types.Kind.{Kind}
use Rattle.psg_grammar.specs.Fragments.{Fragment}
use Rattle.psg_grammar.specs.Legal.{IsCompletable}
use Rattle.psg_grammar.specs.Printable.{IsPrintable}
use Rattle.psg_grammar.specs.WellFormed.{WellFormed}
use Rattle.psg_keymap.specs.declared.repair.Repair.{Repair}
use Rattle.psg_keymap.specs.Repairs.{IsAnswer}
use Rattle.psg_asking.specs.Asked.{IsKnown}

-- a program of the kind with its note
pub record IsNoted (def : Definition) (kind : Kind) (tree : Fragment) (note : Annotated) : Type 0 where
  pub formed : WellFormed def tree kind
  pub printable : IsPrintable tree
  pub noted : IsNoteOf def tree note
  pub good : IsByCompletions def tree note

not_both : (b : Bool) → not b ≡ true → IsTrue b → ⊥
not_both true e t = false≢true e
not_both false e t = false≢true t

one_is : (b : Bool) → not b ≡ false → IsTrue b
one_is true e = refl
one_is false e = absurd (true≢false e)

-- of the tree itself
known_by : (def : Definition) (kind : Kind) (tree : Fragment) (note : Annotated) → tree ≡ tree_in note
    → IsNoted def kind tree note → (good : Bool) → (IsTrue good ↔ ((whole_in note).rel ≡ [] → ⊥))
    → (repair : Option Repair) → (not good ≡ true → IsAnswer def tree repair) → IsKnown def kind note (not good) repair
known_by def kind tree note same is good rows repair answer = record {
  program = record {
    formed = subst (λ (f : Fragment). WellFormed def f kind) same is.formed;
    noted = subst (λ (f : Fragment). IsNoteOf def f note) same is.noted;
    printable = subst IsPrintable same is.printable;
  };
  right = λ e. subst (IsCompletable def) same (is.good.relation.1 (rows.0 (one_is good e)));
  not_right = λ e h. not_both good e (rows.1 (is.good.relation.0 (subst (IsCompletable def) (sym same) h)));
  repair_is = λ e. subst (λ (f : Fragment). IsAnswer def f repair) same (answer e);
}

pub known_is : (def : Definition) (kind : Kind) (tree : Fragment) (note : Annotated) → IsNoted def kind tree note
    → (good wrong : Bool) → (IsTrue good ↔ ((whole_in note).rel ≡ [] → ⊥)) → wrong ≡ not good
    → (repair other : Option Repair) → (wrong ≡ true → IsAnswer def tree repair) → other ≡ repair
    → IsKnown def kind note wrong other
known_is def kind tree note is good wrong rows w repair other answer o =
    subst (λ (r : Option Repair). IsKnown def kind note wrong r) (sym o)
    (subst (λ (b : Bool). IsKnown def kind note b repair) (sym w)
    (known_by def kind tree note (sym is.noted.tree) is good rows repair (λ e. answer (w ∙ e))))
