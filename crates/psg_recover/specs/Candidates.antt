-- What may take the place of tokens in front of a stop, in the order in which it is tried.
use Rattle.std.specs.Prelude.{ℕ, ◌≡◌, ◌<◌, ◌≤◌, ◌⊎◌, Bool, true, false, cond, List, [], ◌∷◌, ◌++◌, take, drop, Some}
use Rattle.std.specs.Prelude.{slice_get}
use Rattle.std.specs.List.{AllByRecursion}
use Rattle.psg_terms.specs.Relations.{IsIn}
use Rattle.psg_grammar.specs.declared.types.Kind.{Kind}
use Rattle.psg_grammar.specs.declared.types.Kind.TheVariants as kinds
use Rattle.psg_grammar.specs.declared.types.Phylum.{Phylum}
use Rattle.psg_grammar.specs.declared.types.Definition.{Definition}
use Rattle.psg_class.specs.Terminals.{Token, placeholder}
use Rattle.psg_parse.specs.Stops.{Begins}
use Rattle.psg_stop.specs.declared.wanted.Wanted.{Wanted}
use Rattle.psg_stop.specs.declared.wanted.Wanted.TheVariants as wants
use Rattle.psg_recover.specs.declared.candidates.Candidate.{Candidate}
use Rattle.psg_recover.specs.Grammars.{quiet}
use Rattle.psg_recover.specs.Reads.{is_declaring_name}
use Rattle.psg_recover.specs.Recovery.{GoesOnAt, may_stand}

module _ (def : Definition) (kind : Kind) where
  -- The part in front of the stop k that begins with the token of the number begins a tree of the phylum, and the
  -- phylum's placeholder may follow the tokens before it.
  pub record IsCandidate (ts : List Token) (k : ℕ) (c : Candidate) : Type 0 where
    pub phylum : Phylum
    pub there : slice_get def.phyla c.phylum ≡ Some phylum
    pub stands : may_stand def c.phylum ≡ true
    pub back : c.from ≤ k
    pub part : Begins (quiet def) (kinds.Phylum c.phylum) 0 (drop c.from (take k ts))
    pub follows : Begins (quiet def) kind 0 (take c.from ts ++ placeholder phylum.name ∷ [])

  -- with its placeholder in front of it, reading goes on at the token of the number, or ends there
  pub record GoesOnWith (ts : List Token) (j : ℕ) (c : Candidate) : Type 0 where
    pub phylum : Phylum
    pub there : slice_get def.phyla c.phylum ≡ Some phylum
    pub goes_on : GoesOnAt def kind (take c.from ts ++ placeholder phylum.name ∷ []) (slice_get ts j)

  -- it is tried before those that begin with this token and are of this phylum or a later one
  abbrev pub IsTriedBefore : ℕ → ℕ → Candidate → Type 0
  IsTriedBefore from p c = (from < c.from) ⊎ ((from ≡ c.from) × (c.phylum < p))

  -- each is tried before all that follow it
  abbrev pub AreInTurn : List Candidate → Type 0
  AreInTurn [] = Unit {0}
  AreInTurn (c ∷ cs) = AllByRecursion (λ (d : Candidate). IsTriedBefore d.from d.phylum c) cs × AreInTurn cs

  -- all candidates that are tried before those of this place and phylum, in turn
  pub record AreCandidatesTo (ts : List Token) (k from p : ℕ) (found : List Candidate) : Type 0 where
    pub each : AllByRecursion (IsCandidate ts k) found
    pub before : AllByRecursion (IsTriedBefore from p) found
    pub all : (c : Candidate) → IsCandidate ts k c → IsTriedBefore from p c → IsIn c found
    pub in_turn : AreInTurn found

  -- all candidates in turn
  pub record AreCandidates (ts : List Token) (k : ℕ) (found : List Candidate) : Type 0 where
    pub each : AllByRecursion (IsCandidate ts k) found
    pub all : (c : Candidate) → IsCandidate ts k c → IsIn c found
    pub in_turn : AreInTurn found

-- the first of the members with the property
pub record IsFirst {X : Type 0} (P : X → Type 0) (xs : List X) (x : X) : Type 0 where
  pub front : List X
  pub behind : List X
  pub split : xs ≡ front ++ x ∷ behind
  pub holds : P x
  pub none : (y : X) → IsIn y front → P y → ⊥

-- ---- what may follow a stop

-- it is a placeholder that the language does not have
abbrev pub is_lost_wanted : Definition → Wanted → Bool
is_lost_wanted def (wants.Hole name) = is_declaring_name def 0 def.phyla name
is_lost_wanted def _ = false

-- those that the language has
abbrev pub own_wanted : Definition → List Wanted → List Wanted
own_wanted def [] = []
own_wanted def (w ∷ ws) = cond (is_lost_wanted def w) (own_wanted def ws) (w ∷ own_wanted def ws)
