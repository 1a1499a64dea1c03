-- Which program is asked about a place, and what is reported about it.
use Rattle.std.specs.Prelude.{ℕ, ◌≡◌, Bool, true, false, List, Option, Some, None, option_map, Result}
use Rattle.psg_terms.specs.Names.{Name}
use Rattle.psg_cache.specs.Annotated.{Annotated, tree_in}
use Rattle.psg_grammar.specs.declared.types.Definition.{Definition}
use Rattle.psg_grammar.specs.declared.types.Kind.{Kind}
use Rattle.psg_grammar.specs.Fragments.{Fragment}
use Rattle.psg_grammar.specs.Legal.{IsCompletable}
use Rattle.psg_script.specs.declared.command.Command.{Command}
use Rattle.psg_script.specs.declared.command.Command.TheVariants as commands
use Rattle.psg_script.specs.declared.command.Where.TheVariants.{At}
use Rattle.psg_places.specs.declared.place.Place.{Place}
use Rattle.psg_places.specs.Ways.{there_of}
use Rattle.psg_keymap.specs.declared.repair.Repair.{Repair}
use Rattle.psg_keymap.specs.declared.spots.Spot.{Spot}
use Rattle.psg_keymap.specs.Repairs.{IsAnswer, IsRepairOf, IsUnknown, place_in}
use Rattle.psg_session.specs.declared.refusal.Refusal.{Refusal}
use Rattle.psg_session.specs.Replies.{Reply}
use Rattle.psg_asking.specs.declared.asked.Asked.{Asked}
use Rattle.psg_asking.specs.Programs.{IsProgram, IsReply}

-- a program, and what is known of its wrong places: whether it is wrong, and its blamed places
pub record IsKnown (def : Definition) (kind : Kind) (note : Annotated) (wrong : Bool) (repair : Option Repair)
    : Type 0 where
  pub program : IsProgram def kind note
  pub right : wrong ≡ false → IsCompletable def (tree_in note)
  pub not_right : wrong ≡ true → IsCompletable def (tree_in note) → ⊥
  pub repair_is : wrong ≡ true → IsAnswer def (tree_in note) repair

-- a program, and a spot of it
pub record There : Type 0 where
  pub tree : Fragment
  pub spot : Spot

abbrev pub there : Fragment → Spot → There
there tree spot = record { tree = tree; spot = spot }

abbrev pub there_by : Option Asked → Option There
there_by o = option_map (λ asked. there (tree_in asked.note.now) asked.spot) o

-- the spot in the repaired program, where that has the path
abbrev pub spot_there : List Place → Spot → Option Spot
spot_there blamed spot =
    option_map (λ target. record { target = target; place = option_map (place_in blamed spot.target) spot.place })
    (there_of blamed spot.target)

-- Which program is asked about a spot, and the spot there: the program itself where it has a completion, else its
-- repaired program. It is none where that has no such place, and where it is not known: where the blamed places are not
-- known, and where they are a hundred or the repaired program passes a limit.
pub data IsAskedAt (def : Definition) (tree : Fragment) (spot : Spot) : Option There → Type 0 where
  itself : IsCompletable def tree → IsAskedAt def tree spot (Some (there tree spot))
  repaired : (IsCompletable def tree → ⊥) → (r : Repair) → IsRepairOf def tree r → (note : Annotated)
      → r.note ≡ Some note
      → IsAskedAt def tree spot (option_map (there (tree_in note)) (spot_there r.places.items spot))
  without_note : (IsCompletable def tree → ⊥) → (r : Repair) → IsRepairOf def tree r → r.note ≡ None
      → IsAskedAt def tree spot None
  unknown : (IsCompletable def tree → ⊥) → IsUnknown def tree → IsAskedAt def tree spot None

-- ---- what is reported

abbrev pub menu_of : Spot → Command
menu_of spot = commands.Menu (At spot.target) spot.place

abbrev pub names_of : Name → Spot → Command
names_of op spot = commands.Names (At spot.target) spot.place op

abbrev pub relation_of : Spot → Command
relation_of spot = commands.Relation (At spot.target)

abbrev pub Read : Type 0
Read = Result (List (List ℕ)) Refusal

-- the plain editor's reply to the question about the program, as it is read
pub record IsReadOf (def : Definition) (kind : Kind) (ask : Spot → Command) (read : Reply → Read) (t : There)
    (told : Read) : Type 0 where
  pub reply : Reply
  pub replies : IsReply def kind t.tree (ask t.spot) reply
  pub is_read : told ≡ read reply

-- what is reported about it; where no program is asked, that none is
abbrev pub IsReplyAt : Definition → Kind → (Spot → Command) → (Reply → Read) → Option There → Option Read → Type 0
IsReplyAt def kind ask read None told = told ≡ None
IsReplyAt def kind ask read (Some t) told = (texts : Read) × IsReadOf def kind ask read t texts × (told ≡ Some texts)

pub record IsToldOf (def : Definition) (kind : Kind) (tree : Fragment) (spot : Spot) (ask : Spot → Command)
    (read : Reply → Read) (told : Option Read) : Type 0 where
  pub there : Option There
  pub asked : IsAskedAt def tree spot there
  pub is : IsReplyAt def kind ask read there told
