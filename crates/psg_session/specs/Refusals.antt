-- The refusals with their numbers, and what a list of tests says.
use Rattle.std.specs.Prelude.{ℕ, ◌≡◌, ◌⊎◌, Option, Some, None}
use Rattle.psg_session.specs.declared.refusal.Refusal.{Refusal}
use Rattle.psg_session.specs.declared.refusal.Refusal.TheVariants.{NoCommand, NoNode, NotHole, Unknown, OtherPhylum}
use Rattle.psg_session.specs.declared.refusal.Refusal.TheVariants.{BadArguments, NoPlace, TooBig, TooDeep, TooWide}
use Rattle.psg_session.specs.declared.refusal.Refusal.TheVariants.{TooHeavy, Inadmissible, NoTokens, NoTree}
use Rattle.psg_session.specs.declared.refusal.Refusal.TheVariants.{NothingEarlier, NothingLater, NoFragment, ShelfFault}
use Rattle.psg_session.specs.declared.refusal.Refusal.TheVariants.{KeptUnreadable, NoRange, NoPlaceholder}
use Rattle.psg_session.specs.declared.refusal.Refusal.TheVariants.{NothingOpened, ShelfFull}

-- the number that a reply says
abbrev pub number_of : Refusal → ℕ
number_of NoCommand = 1
number_of NoNode = 2
number_of NotHole = 3
number_of Unknown = 4
number_of OtherPhylum = 5
number_of BadArguments = 6
number_of NoPlace = 7
number_of TooBig = 8
number_of TooDeep = 9
number_of TooWide = 10
number_of TooHeavy = 11
number_of Inadmissible = 12
number_of NoTokens = 13
number_of NoTree = 14
number_of NothingEarlier = 15
number_of NothingLater = 16
number_of NoFragment = 17
number_of ShelfFault = 18
number_of KeptUnreadable = 19
number_of NoRange = 20
number_of NoPlaceholder = 21
number_of NothingOpened = 22
number_of ShelfFull = 23

-- where a placeholder is wanted, or a place in a list
abbrev pub place_test : Option ℕ → Refusal
place_test None = NotHole
place_test (Some k) = NoPlace

-- Tests in their order: each with its refusal, and with what must hold for it to refuse.
pub data Tests : Type 1 where
  done : Tests
  test : (refusal : Refusal) (holds : Type 0) (rest : Tests) → Tests

-- the first test that holds has this refusal
abbrev pub Refuses : Tests → Refusal → Type 0
Refuses done r = ⊥
Refuses (test refusal holds rest) r = (holds × (refusal ≡ r)) ⊎ ((holds → ⊥) × Refuses rest r)

-- no test holds
abbrev pub Passes : Tests → Type 0
Passes done = Unit {0}
Passes (test refusal holds rest) = (holds → ⊥) × Passes rest
