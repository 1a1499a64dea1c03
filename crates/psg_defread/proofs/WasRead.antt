-- What is known of a definition that was read.
use Rattle.std.specs.Prelude.{ℕ, ◌≡◌, true, List, []}
use Rattle.std.specs.List.{AllByRecursion}
use Rattle.psg_grammar.specs.declared.types.Definition.{Definition}
use Rattle.psg_grammar.specs.Sound.{IsSound}
use Rattle.psg_deflines.specs.Versions.{IsVersion, is_of}
use Rattle.psg_deflines.specs.Entries.{Entry, written, AreEntries, IsPlain}
use Rattle.psg_defnumber.specs.Numbers.{IsNumbered}

pub record WasRead (def : Definition) : Type 0 where
  pub version : ℕ
  pub is_version : IsVersion version
  pub texts : List (List ℕ)
  pub entries : List Entry
  pub each : AreEntries [] texts entries
  pub of_version : AllByRecursion (λ line. is_of version line ≡ true) (written entries)
  pub numbered : IsNumbered version (written entries) def
  pub sound : IsSound def
  -- that no fault is there says no more than this
  pub plain : (AllByRecursion (IsPlain version) (written entries) → ⊥) → ⊥
