-- What the lines of a file are.
use Rattle.std.specs.Prelude.{ℕ, List, IsUtf8}
use Rattle.std.specs.List.{AllByRecursion}
use Rattle.std.specs.Str.Lines.{lines}
use Rattle.psg_deflines.specs.Entries.{Entry, written, AreSpelled, IsPlain}
use Rattle.psg_deflines.specs.Refusals.{FormRefusal}
use Rattle.psg_deflines.specs.declared.fault.DefFault.{DefFault}

-- The bytes are UTF-8; their lines, each less one carriage return in front of its line feed, are the head of the
-- version and then spell these entries, which are of that version.
pub record HasEntries (bytes : List ℕ) (version : ℕ) (entries : List Entry) : Type 0 where
  pub utf8 : IsUtf8 bytes
  pub spelled : AreSpelled version (lines bytes) entries

-- They are spelled, each quoted word in them is one token, and no term and no specimen in them is nested too deep.
pub record AreLinesOf (bytes : List ℕ) (version : ℕ) (entries : List Entry) : Type 0 where
  pub spelled : HasEntries bytes version entries
  pub plain : AllByRecursion (IsPlain version) (written entries)

-- no fault of form is the first one
abbrev pub HasNoFormFault : List ℕ → Type 0
HasNoFormFault bytes = (fault : DefFault) → FormRefusal bytes fault → ⊥
