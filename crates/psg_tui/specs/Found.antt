-- What is found for a key that leads to a place.
use Rattle.std.specs.Prelude.{ℕ, ◌≡◌, ◌==◌, Bool, true, false, List, [], Option, Some, None, map}
use Rattle.psg_terms.specs.Relations.{IsIn}
use Rattle.psg_grammar.specs.declared.types.Definition.{Definition}
use Rattle.psg_grammar.specs.Fragments.{Fragment}
use Rattle.psg_grammar.specs.Legal.{IsCompletable}
use Rattle.psg_grammar.specs.Marks.{IsMarkBy}
use Rattle.psg_grammar.specs.Marks as marks
use Rattle.psg_grammar.specs.Paths.{Path}
use Rattle.psg_keys.specs.declared.key.Key.{Key}
use Rattle.psg_keys.specs.declared.key.Key.TheVariants as keys
use Rattle.psg_keymap.specs.declared.face.Why.{Why as KeptWhy}
use Rattle.psg_keymap.specs.declared.repair.Repair.{Repair}
use Rattle.psg_keymap.specs.Faces.{Face, Why, nothing_wrong, of_parts, wrong}
use Rattle.psg_keymap.specs.Repairs.{IsRepairOf, IsUnknown, place_path}
use Rattle.psg_keymap.specs.Views.{why_of}
use Rattle.psg_modes.specs.Turning.{choosing, is_page_key, led, page_path, saying}
use Rattle.psg_modes.specs.Wrong.{next_of, why_at}
use Rattle.psg_places.specs.declared.place.Place.{Place}
use Rattle.psg_unparse.specs.Spans.{printed_of}
use Rattle.psg_tui.specs.Pressing.{Desk, is_down, with_face}

-- the key is this letter
abbrev pub is_letter : ℕ → Key → Bool
is_letter letter (keys.Char c) = c == letter
is_letter letter _ = false

-- where a key leads: a key of pages by the lines of the text
abbrev pub IsLedBy : Definition → Fragment → Face → Key → Bool → Option Path → Type 0
IsLedBy def tree f key true found = found ≡ Some (page_path (printed_of def tree) f (is_down key))
IsLedBy def tree f key false found = found ≡ led tree f.chosen key

abbrev pub IsLed : Definition → Fragment → Face → Key → Option Path → Type 0
IsLed def tree f key found = IsLedBy def tree f key (is_page_key key) found

-- a path, and what is wrong there
abbrev pub seen_of : Path × KeptWhy → Path × Why
seen_of found = (found.0, why_of found.1)

-- the next blamed place; there is none where no place is blamed
pub data IsBlamedFound (tree : Fragment) (places : List Place) (chosen : Path) (forward : Bool)
    : Option (Path × Why) → Type 0 where
  next : (place : Place) → IsIn place places
      → next_of (map place_path places) chosen forward ≡ Some (place_path place)
      → IsBlamedFound tree places chosen forward (Some (place_path place, why_at tree place))
  nothing : places ≡ [] → IsBlamedFound tree places chosen forward None

-- the next wrong place of a wrong program
pub data IsWrongFound (def : Definition) (tree : Fragment) (chosen : Path) (forward : Bool)
    : Option (Path × Why) → Type 0 where
  blamed : {found : Option (Path × Why)} (r : Repair) → IsRepairOf def tree r
      → IsBlamedFound tree r.places.items chosen forward found → IsWrongFound def tree chosen forward found
  culprit : (paths : List Path) (path : Path) → IsMarkBy (IsCompletable def) tree (marks.wrong paths)
      → IsUnknown def tree
      → next_of paths chosen forward ≡ Some path → IsWrongFound def tree chosen forward (Some (path, of_parts))

-- what there is beside the program where it was found
abbrev pub went : Desk → Option (Path × Why) → Desk
went d None = d
went d (Some w) = with_face d (saying (wrong w.1) (choosing w.0 d.face))

-- the next wrong place is chosen, or it is said that nothing is wrong
pub data GoesWrong (def : Definition) (tree : Fragment) (forward : Bool) (d : Desk) : Desk → Type 0 where
  right : IsCompletable def tree → GoesWrong def tree forward d (with_face d (saying nothing_wrong d.face))
  goes : (found : Option (Path × Why)) → (IsCompletable def tree → ⊥)
      → IsWrongFound def tree d.face.chosen forward found → GoesWrong def tree forward d (went d found)
