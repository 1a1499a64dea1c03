-- Saved fragments in files: what a keep writes, what a fetch got, and what is counted while that is read.
use Rattle.std.specs.Prelude.{ℕ, ◌≡◌, ◌<◌, ◌≤◌, ◌⊎◌, List, length, Some}
use Rattle.psg_terms.specs.Names.{Name}
use Rattle.psg_grammar.specs.declared.types.Definition.{Definition}
use Rattle.psg_library.specs.declared.fragment.SavedFragment.{SavedFragment as Saved}
use Rattle.psg_library.specs.Keeping.{bytes_of, IsKept, MayCount}
use Rattle.psg_script.specs.declared.command.Command.{Command}
use Rattle.psg_script.specs.declared.command.Command.TheVariants.{Keep, Fetch}
use Rattle.psg_session.specs.Exchanges.{Asked, keeping, fetching, most_kept_bytes}
use Rattle.psg_session.specs.PlainState.{Answer, State, got, lost, not_asked, stored}
use Rattle.psg_session.specs.Shelf.{saved_at}

module _ (def : Definition) (s : State) where
  -- the bytes of the saved fragment of the name have the property
  abbrev pub OfBytes : Name → (List ℕ → Type 0) → Type 0
  OfBytes name P = (x : Saved) × (saved_at s.saved name ≡ Some x) × P (bytes_of def x)

  -- What a command asks of the files, if no test before that refuses it: that these bytes are written to the file, or
  -- that the file is read. No other command asks.
  abbrev pub Asks : Command → Asked → Type 0
  Asks (Keep name file) asked = OfBytes name (λ bytes. (length bytes ≤ most_kept_bytes) × (asked ≡ keeping file bytes))
  Asks (Fetch file) asked = asked ≡ fetching file
  Asks _ asked = ⊥

module _ (def : Definition) (answer : Answer) where
  -- what was got is too long, or it keeps no fragment of the language
  abbrev pub IsUnreadable : Type 0
  IsUnreadable =
      (bytes : List ℕ) × (answer ≡ got bytes)
      × ((most_kept_bytes < length bytes) ⊎ ((x : Saved) → IsKept def bytes x → ⊥))

  -- what was got keeps a fragment that has the property
  abbrev pub OfFetched : (Saved → Type 0) → Type 0
  OfFetched P = (bytes : List ℕ) × (x : Saved) × (answer ≡ got bytes) × IsKept def bytes x × P x

-- What is counted while the answer is read: the tokens of the text of what was got.
abbrev pub MayRead : Definition → Answer → ℕ → Type 0
MayRead def not_asked n = n ≡ 0
MayRead def stored n = n ≡ 0
MayRead def (got bytes) n = MayCount def bytes 0 n
MayRead def lost n = n ≡ 0
