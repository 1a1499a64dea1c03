-- Which program is asked about a place.
use Rattle.std.proofs.Common.{◌≡◌, Bool, true, Option, Some, None, ap, refl, sym, ◌∙◌, subst, Bor}
use Rattle.std.specs.Prelude.{IfSome, MatchOption, length, option_copied, option_map}
use Rattle.psg_cache.specs.Annotated.{Annotated, tree_in}
use Rattle.psg_cache.specs.Notes.{IsNoteOf}
use Rattle.psg_grammar.specs.declared.types.Definition.{Definition}
use Rattle.psg_grammar.specs.declared.types.Kind.{Kind}
use Rattle.psg_grammar.specs.Fragments.{Fragment}
use Rattle.psg_grammar.specs.Legal.{IsCompletable}
use Rattle.psg_grammar.specs.Printable.{IsPrintable}
use Rattle.psg_grammar.specs.WellFormed.{WellFormed}
use Rattle.psg_keymap.specs.declared.repair.Repair.{Repair}
use Rattle.psg_keymap.specs.declared.spots.Spot.{Spot}
use Rattle.psg_keymap.specs.Repairs.{IsNoteIn, IsRepairOf}
use Rattle.psg_script.specs.declared.command.Command.{Command}
use Rattle.psg_session.specs.Replies.{Reply}
use Rattle.psg_asking.specs.declared.asked.Asked.{Asked}
use Rattle.psg_asking.specs.Asked.{IsAskedAt, IsKnown, IsReadOf, IsToldOf, Read, There, itself, repaired, spot_there}
use Rattle.psg_asking.specs.Asked.{there, there_by}
use Rattle.psg_asking.specs.Programs.{IsProgram}
use Rattle.psg_asking.specs.Told.{among, names_told, words_told}
use Rattle.psg_renaming.specs.Occurring.{occurring}

noted_program : (def : Definition) (f : Fragment) (kind : Kind) (note : Annotated) → IsNoteOf def f note
    → WellFormed def f kind → IsPrintable f → IsProgram def kind note
noted_program def f kind note n w p = record {
  formed = subst (λ (t : Fragment). WellFormed def t kind) (sym n.tree) w;
  noted = subst (λ (t : Fragment). IsNoteOf def t note) (sym n.tree) n;
  printable = subst IsPrintable (sym n.tree) p;
}

-- the note of a repaired program is that of a program of the kind
pub repaired_program : (def : Definition) (tree : Fragment) (kind : Kind) (r : Repair) (note : Annotated)
    → IsRepairOf def tree r → r.note ≡ Some note → WellFormed def tree kind → IsPrintable tree → IsProgram def kind note
repaired_program def tree kind r note is at w p =
    noted_program def is.found.repaired kind note
    (subst (IsNoteIn def (length r.places.items) is.found.repaired) at is.repaired.note).1
    (is.blamed.formed kind w) (is.blamed.printable p)

module _ (note : Bor Annotated) where
  abbrev pub IsAskedBy : Option Spot → Option Asked → Type 0
  IsAskedBy o asked = MatchOption o (asked ≡ None) (λ spot. asked ≡ Some (record { note = note; spot = spot }))

  pub there_is : (o : Option Spot) (asked : Option Asked) → IsAskedBy o asked
      → there_by asked ≡ option_map (there (tree_in note.now)) o
  there_is None asked e = ap there_by e
  there_is (Some spot) asked e = ap there_by e

  pub program_is : (def : Definition) (kind : Kind) (o : Option Spot) (asked : Option Asked) → IsAskedBy o asked
      → IsProgram def kind note.now → IfSome asked (λ a. IsProgram def kind a.note.now)
  program_is def kind None asked e p = subst (λ (x : Option Asked). IfSome x (λ a. IsProgram def kind a.note.now)) (sym e) tt
  program_is def kind (Some spot) asked e p =
      subst (λ (x : Option Asked). IfSome x (λ a. IsProgram def kind a.note.now)) (sym e) p

-- what is asked of the repaired program
pub asked_repair : (def : Definition) (tree : Fragment) (spot : Spot) (r : Repair) (note : Annotated) (o : Option There)
    (there_spot : Option Spot) → (IsCompletable def tree → ⊥) → IsRepairOf def tree r → r.note ≡ Some note
    → there_spot ≡ spot_there r.places.items spot → o ≡ option_map (there (tree_in note)) there_spot
    → IsAskedAt def tree spot o
asked_repair def tree spot r note o there_spot wrong is at s e =
    subst (λ (x : Option There). IsAskedAt def tree spot x)
    (sym (e ∙ ap (λ (y : Option Spot). option_map (there (tree_in note)) y) s)) (repaired wrong r is note at)

-- what is known of a program that is wrong
pub known_by : (def : Definition) (kind : Kind) (note : Annotated) (b c : Bool) (repair : Option Repair) → b ≡ c
    → IsKnown def kind note b repair → IsKnown def kind note c repair
known_by def kind note b c repair e k = subst (λ (x : Bool). IsKnown def kind note x repair) e k

pub known_with : (def : Definition) (kind : Kind) (note : Annotated) (o p : Option (Bor Repair)) → o ≡ p
    → IsKnown def kind note true (option_copied o) → IsKnown def kind note true (option_copied p)
known_with def kind note o p e k = subst (λ (x : Option (Bor Repair)). IsKnown def kind note true (option_copied x)) e k

pub asked_itself : (def : Definition) (tree : Fragment) (spot same : Spot) → same ≡ spot → IsCompletable def tree
    → IsAskedAt def tree spot (Some (there tree same))
asked_itself def tree spot same e right =
    subst (λ (s : Spot). IsAskedAt def tree spot (Some (there tree s))) (sym e) (itself right)

-- ---- what is told

module _ (def : Definition) (kind : Kind) (tree : Fragment) (spot : Spot) (ask : Spot → Command) (read : Reply → Read) (found : Option Asked) (at : IsAskedAt def tree spot (there_by found)) where
  pub told_in : (asked : Asked) → found ≡ Some asked → (texts : Read)
      → IsReadOf def kind ask read (there (tree_in asked.note.now) asked.spot) texts
      → IsToldOf def kind tree spot ask read (Some texts)
  told_in asked e texts is = record {
    there = Some (there (tree_in asked.note.now) asked.spot);
    asked = subst (λ (o : Option Asked). IsAskedAt def tree spot (there_by o)) e at;
    is = (texts, is, refl);
  }

  pub told_none : found ≡ None → IsToldOf def kind tree spot ask read None
  told_none e = record {
    there = None;
    asked = subst (λ (o : Option Asked). IsAskedAt def tree spot (there_by o)) e at;
    is = refl;
  }

-- of the names those of the program
pub names_read : (def : Definition) (kind : Kind) (ask : Spot → Command) (tree seen : Fragment) (t : There)
    (texts own : Read) → IsReadOf def kind ask words_told t texts → seen ≡ tree → own ≡ among (occurring seen) texts
    → IsReadOf def kind ask (names_told tree) t own
names_read def kind ask tree seen t texts own is same e = record {
  reply = is.reply;
  replies = is.replies;
  is_read = e ∙ ap (λ (f : Fragment). among (occurring f) texts) same ∙ ap (among (occurring tree)) is.is_read;
}

pub program_of : (def : Definition) (kind : Kind) (found : Option Asked) (asked : Asked) → found ≡ Some asked
    → IfSome found (λ a. IsProgram def kind a.note.now) → IsProgram def kind asked.note.now
program_of def kind found asked e p = subst (λ (o : Option Asked). IfSome o (λ a. IsProgram def kind a.note.now)) e p
