-- What a text of a file is, from the text.
use Rattle.std.specs.Prelude.{◌≡◌, ◌||◌, ◌⊎◌, Bool, true, false, Some, None, List, [], ℕ}
use Rattle.std.specs.List.{AllByRecursion}
use Rattle.psg_deflines.specs.Entries.{IsEntry, Entry, written, AreEntries, IsPlain, HasHead, behind_head}
use Rattle.psg_deflines.specs.declared.fault.DefCode.TheVariants as codes_of
use Rattle.psg_deflines.specs.declared.fault.DefFault.{DefFault}
use Rattle.psg_deflines.specs.declared.fault.ReadFault.{ReadFault}
use Rattle.psg_deflines.specs.declared.fault.ReadFault.TheVariants.{Def, Memory}
use Rattle.psg_deflines.specs.Refusals.{IsFirstOf, PassesForm, form_codes, HasFormFault}
use Rattle.psg_deflines.specs.Only.{IsOnly}
use Rattle.psg_deflines.specs.declared.lines.Line.{Line}
use Rattle.psg_deflines.specs.declared.lines.Line.TheVariants as lines
use Rattle.psg_deflines.specs.declared.entries.EntryRead.{EntryRead}
use Rattle.psg_deflines.specs.declared.entries.EntryRead.TheVariants as reads

-- the line is an operator's
abbrev pub is_operator : Line → Bool
is_operator (lines.Operator name phylum scope level items) = true
is_operator _ = false

-- whether a case may follow, where it is known for the lines before
abbrev pub cases_behind : Bool → Line → Bool
cases_behind so_far (lines.Hole kind term None) = true
cases_behind so_far (lines.Hole kind term (Some specimen)) = false
cases_behind so_far _ = so_far

-- the entry is skipped, or its line has no fault of form
abbrev pub IsPlainEntry : ℕ → Entry → Type 0
IsPlainEntry version None = Unit {0}
IsPlainEntry version (Some line) = IsPlain version line

-- after these lines the text is this entry and no other one, or this fault is its first one
abbrev pub IsEntryRead : ℕ → List Line → List ℕ → EntryRead → Type 0
IsEntryRead version above text (reads.Found entry) = IsOnly (IsEntry above text) entry × IsPlainEntry version entry
IsEntryRead version above text (reads.Fault code) = IsFirstOf (PassesForm version above text) form_codes code

-- whether a row may follow the entry, where it is known for those before
abbrev pub rows_after : Bool → Entry → Bool
rows_after rows None = rows
rows_after rows (Some line) = rows || is_operator line

-- whether a case may follow the entry, where it is known for those before
abbrev pub cases_after : Bool → Entry → Bool
cases_after cases None = cases
cases_after cases (Some line) = cases_behind cases line

-- the texts are these entries and no others, and none of them has a fault of form
pub record AreEntriesRead (version : ℕ) (ts : List (List ℕ)) (entries : List Entry) : Type 0 where
  pub only : IsOnly (AreEntries [] ts) entries
  pub plain : AllByRecursion (IsPlain version) (written entries)
  pub clean : (fault : DefFault) → HasFormFault version ts fault → ⊥

-- a fault is the first one of the texts; memory may run out at any time
abbrev pub IsEntryFault : ℕ → List (List ℕ) → ReadFault → Type 0
IsEntryFault version ts (Def fault) = HasFormFault version ts fault
IsEntryFault version ts Memory = Unit {0}

-- there is no head of a version
abbrev pub HasNoHead : List (List ℕ) → Type 0
HasNoHead ts = (version : ℕ) → HasHead version ts → ⊥

-- the fault is that of the head, or of a text after it
abbrev pub IsTextFault : List (List ℕ) → ReadFault → Type 0
IsTextFault ts (Def fault) =
    (HasNoHead ts × (fault.line ≡ 1) × (fault.code ≡ codes_of.Version))
    ⊎ ((version : ℕ) × HasHead version ts × HasFormFault version (behind_head ts) fault)
IsTextFault ts Memory = Unit {0}
