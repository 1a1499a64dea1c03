-- The tokens that are read on, and one stop of them.
use Rattle.std.specs.Prelude.{ℕ, suc, ◌≡◌, ◌≤◌, ◌<◌, ◌⊎◌, List, take, Option, Some, None, slice_get}
use Rattle.psg_grammar.specs.declared.types.Kind.{Kind}
use Rattle.psg_grammar.specs.declared.types.Phylum.{Phylum}
use Rattle.psg_grammar.specs.declared.types.Definition.{Definition}
use Rattle.psg_lexis.specs.declared.token.Spanned.{Spanned}
use Rattle.psg_class.specs.Texts.{tokens_of}
use Rattle.psg_parse.specs.Stops.{Begins}
use Rattle.psg_program.specs.Messages.{HasSpan}
use Rattle.psg_recover.specs.declared.finding.Finding.{Finding}
use Rattle.psg_recover.specs.Grammars.{quiet}
use Rattle.psg_recover.specs.Recovery.{HasNone, IsBest, IsStopTold, most_stops, resumed_row}

module _ (def : Definition) (kind : Kind) (text : List ℕ) where
  -- From some token on all are tokens of the text, and those before it begin a tree. So each stop is one of the text.
  pub record IsRow (ts : List Spanned) : Type 0 where
    pub from : ℕ
    pub spans : (m : ℕ) → from ≤ m → HasSpan text (slice_get ts m)
    pub begins : Begins (quiet def) kind 0 (tokens_of (take from ts))

  -- What is reported about a stop, where that many were reported before, and the tokens that are read on, if there are
  -- some.
  pub data IsPassed (n : ℕ) (ts : List Spanned) (told : Finding) : Option (List Spanned) → Type 0 where
    ends_there : (k : ℕ) → IsStopTold def kind text ts k told → (most_stops ≤ suc n) ⊎ HasNone def kind (tokens_of ts) k
        → IsPassed n ts told None
    goes_on : (k j i p : ℕ) (phylum : Phylum) → IsStopTold def kind text ts k told → suc n < most_stops
        → IsBest def kind (tokens_of ts) k j i p phylum → IsRow (resumed_row ts i j phylum)
        → IsPassed n ts told (Some (resumed_row ts i j phylum))
