-- How a text that is no program is read on after a stop.
--
-- A part of the tokens is passed over, and the placeholder of a phylum takes its place. A phylum that declares has none
-- in the language, but has one in the grammar in which nothing declares, which reads these tokens. At the end such
-- placeholders are left out, and their lists are unfinished.
use Rattle.std.specs.Prelude.{ℕ, suc, ◌≡◌, ◌<◌, ◌≤◌, ◌⊎◌, ◌==◌, ◌&&◌, ◌||◌, not, nat_lt, Bool, true, false, cond, List}
use Rattle.std.specs.Prelude.{[], ◌∷◌, ◌++◌, length, map, take, drop, bytes_eq, Option, Some, None, slice_get}
use Rattle.psg_terms.specs.Names.{Name}
use Rattle.psg_grammar.specs.declared.types.Kind.{Kind}
use Rattle.psg_grammar.specs.declared.types.Kind.TheVariants as kinds
use Rattle.psg_grammar.specs.declared.types.ListKind.{ListKind}
use Rattle.psg_grammar.specs.declared.types.Phylum.{Phylum}
use Rattle.psg_grammar.specs.declared.types.Definition.{Definition}
use Rattle.psg_lexis.specs.declared.token.Spanned.{Spanned}
use Rattle.psg_class.specs.Terminals.{Terminal, Token, a_hole, placeholder}
use Rattle.psg_class.specs.Texts.{TextTokens, tokens_of}
use Rattle.psg_parse.specs.Stops.{Begins, IsStop, MayEnd}
use Rattle.psg_places.specs.Places.{declares}
use Rattle.psg_program.specs.Expected.{AreTold, IsEndTold, terminals_in_order}
use Rattle.psg_program.specs.Messages.{stop_byte, stop_message}
use Rattle.psg_stop.specs.Wanted.{GoesWith}
use Rattle.psg_recover.specs.declared.finding.Finding.{Finding}
use Rattle.psg_recover.specs.Findings.{error_at}
use Rattle.psg_recover.specs.Grammars.{quiet}
use Rattle.psg_recover.specs.Reads.{is_declaring_name, own_spanned, stand_in}

-- that many stops are reported at most
abbrev pub most_stops : ℕ
most_stops = 20

-- ---- where reading goes on

-- no list of the phylum is fixed
abbrev pub all_go_on : ℕ → List ListKind → Bool
all_go_on p [] = true
all_go_on p (l ∷ ls) = (not (l.element == p) || l.unfinished) && all_go_on p ls

-- a placeholder of the phylum may take the place of tokens: each that does not declare, and an element where its lists
-- may be unfinished
abbrev pub may_stand : Definition → ℕ → Bool
may_stand def p = not (declares def p) || all_go_on p def.lists

-- the placeholder in place of the tokens from i on up to j
abbrev pub resumed_row : List Spanned → ℕ → ℕ → Phylum → List Spanned
resumed_row ts i j phylum = take i ts ++ stand_in ts i j phylum.name ∷ drop j ts

module _ (def : Definition) (kind : Kind) where
  -- The tokens go on with the one of the number j, or, where that is none, end.
  abbrev pub GoesOnAt : List Token → Option Token → Type 0
  GoesOnAt ts None = MayEnd (quiet def) kind 0 ts
  GoesOnAt ts (Some t) = Begins (quiet def) kind 0 (ts ++ t ∷ [])

  -- Reading stops at the token k. The placeholder of the phylum takes the place of the tokens from i on up to j.
  pub record IsResumption (ts : List Token) (k j i p : ℕ) (phylum : Phylum) : Type 0 where
    pub there : slice_get def.phyla p ≡ Some phylum
    pub stands : may_stand def p ≡ true
    pub behind : k ≤ j
    pub inside : j ≤ length ts
    pub back : i ≤ k
    pub part : Begins (quiet def) (kinds.Phylum p) 0 (drop i (take k ts))
    pub goes_on : GoesOnAt (take i ts ++ placeholder phylum.name ∷ []) (slice_get ts j)

  -- fewer tokens after the stop are passed over, then fewer before it, then the phylum is first
  abbrev pub ComesFirst : ℕ → ℕ → ℕ → ℕ → ℕ → ℕ → Type 0
  ComesFirst j i p j' i' p' = (j < j') ⊎ ((j ≡ j') × ((i' < i) ⊎ ((i ≡ i') × (p < p'))))

  pub record IsBest (ts : List Token) (k j i p : ℕ) (phylum : Phylum) : Type 0 where
    pub resumes : IsResumption ts k j i p phylum
    pub first : (j' i' p' : ℕ) (other : Phylum) → IsResumption ts k j' i' p' other → ComesFirst j' i' p' j i p → ⊥

  abbrev pub HasNone : List Token → ℕ → Type 0
  HasNone ts k = (j i p : ℕ) (phylum : Phylum) → IsResumption ts k j i p phylum → ⊥

  -- The terminal goes on with the tokens, and is no placeholder that the language does not have.
  pub record IsExpected (ts : List Token) (terminal : Terminal) : Type 0 where
    pub goes : GoesWith (quiet def) kind 0 ts terminal
    pub own : (name : Name) → terminal ≡ a_hole name → is_declaring_name def 0 def.phyla name ≡ false

  -- what is reported about a stop
  pub record IsStopTold (text : List ℕ) (ts : List Spanned) (k : ℕ) (told : Finding) : Type 0 where
    pub none : MayEnd (quiet def) kind 0 (tokens_of ts) → ⊥
    pub stop : IsStop (quiet def) kind 0 (tokens_of ts) k
    pub words : List (List ℕ)
    pub ends : List (List ℕ)
    pub are_told : AreTold (IsExpected (take k (tokens_of ts))) (terminals_in_order def) words
    pub is_end_told : IsEndTold (MayEnd (quiet def) kind 0 (take k (tokens_of ts))) ends
    pub told_is : told ≡ error_at (stop_byte ts k) (stop_message text ts k (words ++ ends))

  -- What is reported about the stops, of which there were some before, and the tokens that are read at last; none where
  -- nothing goes on, or after the last stop that is reported.
  pub data AreStops (text : List ℕ) : ℕ → List Spanned → List Finding → Option (List Spanned) → Type 0 where
    all_read : (n : ℕ) (ts : List Spanned) → MayEnd (quiet def) kind 0 (tokens_of ts)
        → AreStops text n ts [] (Some ts)
    last_stop : (n k : ℕ) (ts : List Spanned) (told : Finding) → IsStopTold text ts k told
        → (most_stops ≤ suc n) ⊎ HasNone (tokens_of ts) k → AreStops text n ts (told ∷ []) None
    read_on : {found : List Finding} {last : Option (List Spanned)} (n k j i p : ℕ) (ts : List Spanned)
        (phylum : Phylum) (told : Finding) → IsStopTold text ts k told → suc n < most_stops
        → IsBest (tokens_of ts) k j i p phylum → AreStops text (suc n) (resumed_row ts i j phylum) found last
        → AreStops text n ts (told ∷ found) last

  -- the text has tokens, and these are its stops
  pub record HasStops (text : List ℕ) (found : List Finding) (last : Option (List Spanned)) : Type 0 where
    pub tokens : List Spanned
    pub are : TextTokens def text tokens
    pub stops : AreStops text 0 (map (own_spanned def) tokens) found last
