-- What the search for blamed places answers.
use Rattle.std.specs.Prelude.{ℕ, zero, suc, ◌+◌, ◌≡◌, ◌<◌, ◌≤◌, ◌^◌, ◌⊎◌, ◌↔◌, Bool, true, false, cond, List, [], ◌∷◌}
use Rattle.std.specs.Prelude.{◌++◌}
use Rattle.std.specs.Prelude.{length, replicate, Option, Some, None}
use Rattle.psg_terms.specs.Names.{Name}
use Rattle.psg_grammar.specs.declared.types.Definition.{Definition}
use Rattle.psg_grammar.specs.Fragments.{Fragment}
use Rattle.psg_grammar.specs.Legal.{IsCompletable}
use Rattle.psg_grammar.specs.Open.{IsOpen}
use Rattle.psg_grammar.specs.Printable.{IsPrintable}
use Rattle.psg_completions.specs.Conditions.{HasTrueRows}
use Rattle.std.specs.List.{AllByRecursion}
use Rattle.psg_cache.specs.Annotated.{Annotated, tree_in}
use Rattle.psg_cache.specs.Diff.{diff_of}
use Rattle.psg_cache.specs.Notes.{IsNoteFault, IsNoteOf}
use Rattle.psg_cache.specs.declared.note.NoteFault.{NoteFault}
use Rattle.psg_cache.specs.declared.note.NoteFault.TheVariants as faults
use Rattle.psg_grammar.specs.declared.types.Kind.{Kind}
use Rattle.psg_grammar.specs.WellFormed.{WellFormed}
use Rattle.psg_places.specs.declared.blaming.Blamed.{Blamed}
use Rattle.psg_places.specs.declared.halving.Found.{Found}
use Rattle.psg_places.specs.declared.fault.BlameFault.{BlameFault}
use Rattle.psg_places.specs.declared.fault.BlameFault.TheVariants.{Limit, Memory}
use Rattle.psg_places.specs.declared.trial.Trial.{Trial}
use Rattle.psg_places.specs.Blame.{AreAllAnswers, AreAnswers, blamed_in, kept_in, most_blamed, none_kept}
use Rattle.psg_places.specs.NewNames.{AreNew, IsFront, new_name}
use Rattle.psg_places.specs.Opened.{opened}
use Rattle.psg_places.specs.Places.{place_count}

-- The answer: which places are kept, for all choices of new names, and the tree of the kept places for one choice,
-- where a new name is some letters, an a and the number of its place. That tree can take the place of the whole tree,
-- its names can be written if those of the whole tree can, and if nothing is blamed it is the whole tree.
pub record IsFound (IsGood : Fragment → Type 0) (def : Definition) (f : Fragment) (b : Blamed) : Type 0 where
  pub answers : (fresh : ℕ → Name) → AreNew def f fresh → AreAllAnswers IsGood def fresh f b.kept
  pub names : IsFront def f b.names
  pub new : AreNew def f (new_name b.names)
  pub repaired : b.repaired ≡ opened def (kept_in b.kept) (new_name b.names) f
  pub good : IsGood b.repaired
  pub formed : (kind : Kind) → WellFormed def f kind → WellFormed def b.repaired kind
  pub printable : IsPrintable f → IsPrintable b.repaired
  pub whole : blamed_in b.kept ≡ 0 → b.repaired ≡ f

-- There is no answer exactly if the tree is not good even with nothing kept, for all choices of new names, of which
-- there are some.
abbrev pub IsBlame : (Fragment → Type 0) → Definition → Fragment → Option Blamed → Type 0
IsBlame IsGood def f None = ((fresh : ℕ → Name) × AreNew def f fresh)
    × ((fresh : ℕ → Name) → AreNew def f fresh → IsGood (opened def none_kept fresh f) → ⊥)
IsBlame IsGood def f (Some b) = IsFound IsGood def f b

-- ---- faults

-- That many of the next places may be tried after those with these answers.
pub record HasMore (def : Definition) (fresh : ℕ → Name) (f : Fragment) (kept : List Bool) (more : ℕ) : Type 0 where
  pub some : 0 < more
  pub inside : length kept + more ≤ place_count def f
  pub few : blamed_in kept < most_blamed
  pub answers : HasTrueRows def → AreAnswers (IsOpen def) def fresh f kept

-- the answers so far, and some of the next places as if they were kept
pub record IsNext (def : Definition) (fresh : ℕ → Name) (f : Fragment) (kept : List Bool) : Type 0 where
  pub before : List Bool
  pub more : ℕ
  pub next : kept ≡ before ++ replicate more true
  pub due : HasMore def fresh f before more

-- a fault of a tree, and not of memory
abbrev pub IsOfTree : NoteFault → Type 0
IsOfTree faults.Memory = ⊥
IsOfTree _ = Unit {0}

-- A tree that is tried keeps nothing, or the kept places so far and some of the next ones. The fault is what is said of
-- it.
pub record IsLimit (def : Definition) (f : Fragment) (kept : List Bool) (own : NoteFault) : Type 0 where
  pub fresh : ℕ → Name
  pub new : AreNew def f fresh
  pub tried : (kept ≡ []) ⊎ IsNext def fresh f kept
  pub fault : IsNoteFault def (opened def (kept_in kept) fresh f) own
  pub real : IsOfTree own

abbrev pub IsBlameFault : Definition → Fragment → BlameFault → Type 0
IsBlameFault def f (Limit kept fault) = IsLimit def f kept.items fault
IsBlameFault def f Memory = Unit {0}

-- ---- one trial

-- the evaluations of that many trials, each of that many
abbrev pub trials_work : ℕ → ℕ → ℕ
trials_work zero work = 0
trials_work (suc n) work = work + trials_work n work

-- both trees are of one kind
abbrev pub IsBeside : Definition → Fragment → Fragment → Type 0
IsBeside def old new = (kind : Kind) × WellFormed def old kind × WellFormed def new kind

-- the note is right, and its tree may take the place of the whole tree
pub record IsNear (def : Definition) (f : Fragment) (n : Annotated) : Type 0 where
  pub noted : IsNoteOf def (tree_in n) n
  pub kinds : (kind : Kind) → WellFormed def f kind → WellFormed def (tree_in n) kind

-- the note of the tree of the kept places, and whether it is good
pub record IsTrial (def : Definition) (front : Name) (kept : List Bool) (f : Fragment) (t : Trial) : Type 0 where
  pub note : IsNoteOf def (opened def (kept_in kept) (new_name front) f) t.note
  pub count : t.places ≡ place_count def f
  pub small : place_count def f < 2 ^ 64
  pub opens : (t.good ≡ true) ↔ IsOpen def (opened def (kept_in kept) (new_name front) f)
  pub completable : HasTrueRows def
      → (t.good ≡ true) ↔ IsCompletable def (opened def (kept_in kept) (new_name front) f)

-- the fault of the tree of the kept places
abbrev pub IsTrialFault : Definition → Name → List Bool → Fragment → BlameFault → Type 0
IsTrialFault def front keep f (Limit kept fault) = (kept.items ≡ keep) × ((place_count def f < 2 ^ 64)
    × (IsNoteFault def (opened def (kept_in keep) (new_name front) f) fault × IsOfTree fault))
IsTrialFault def front keep f Memory = Unit {0}

-- the fault of the tree with these places kept, or that memory ran out
abbrev pub IsLimitOf : List Bool → NoteFault → BlameFault → Type 0
IsLimitOf keep fault (Limit kept own) = (kept.items ≡ keep) × ((own ≡ fault) × IsOfTree own)
IsLimitOf keep fault Memory = Unit {0}

-- ---- the search

-- the tree of the kept places and of that many of the next ones
abbrev pub next_tree : Definition → Name → List Bool → ℕ → Fragment → Fragment
next_tree def front kept more f = opened def (kept_in (kept ++ replicate more true)) (new_name front) f

-- That many of the next places can be kept, but not one more. `left` can't.
pub record IsMost (def : Definition) (front : Name) (f : Fragment) (kept : List Bool) (left most : ℕ) : Type 0 where
  pub below : most < left
  pub good : IsOpen def (next_tree def front kept most f)
  pub bad : IsOpen def (next_tree def front kept (most + 1) f) → ⊥

-- the answers with those that were found
abbrev pub with_found : List Bool → Found → List Bool
with_found kept found = (kept ++ replicate found.more true) ++ cond found.blamed (false ∷ []) []

-- The next places that are kept are all that are left, or the place after them can't be kept with them.
pub record IsNextFound (def : Definition) (front : Name) (f : Fragment) (kept : List Bool)
    (found : Found) : Type 0 where
  pub inside : length kept + found.more ≤ place_count def f
  pub good : IsOpen def (next_tree def front kept found.more f)
  pub none : found.blamed ≡ false → length kept + found.more ≡ place_count def f
  pub one : found.blamed ≡ true → (length kept + found.more < place_count def f)
      × (IsOpen def (next_tree def front kept (found.more + 1) f) → ⊥)

-- how many places are blamed
abbrev pub blamed_by : Option Blamed → ℕ
blamed_by None = 0
blamed_by (Some b) = blamed_in b.kept

-- the answers of a search, none where it has no answer
abbrev pub answers_by : Option Blamed → List Bool
answers_by None = []
answers_by (Some b) = b.kept

-- ---- what the trials take

-- the evaluations of trials, each of which is made beside the one tree
abbrev pub beside_work : Fragment → List Fragment → ℕ
beside_work old [] = 0
beside_work old (t ∷ ts) = diff_of old t + beside_work old ts

-- the tree that keeps all places after some first answers, and the trees that keep fewer of these
pub record Round : Type 0 where
  pub all : Fragment
  pub fewer : List Fragment

-- the tree of the last round, where the last one is first in the list
abbrev pub latest : Fragment → List Round → Fragment
latest old [] = old
latest old (r ∷ rs) = r.all

-- The evaluations of rounds: the tree that keeps all is made beside that of the round before, and those that keep fewer
-- are made beside it.
abbrev pub rounds_work : Fragment → List Round → ℕ
rounds_work old [] = 0
rounds_work old (r ∷ rs) = rounds_work old rs + (diff_of (latest old rs) r.all + beside_work r.all r.fewer)

-- the tree of the answers and of some of the next places
abbrev pub IsNextTree : Definition → Name → Fragment → List Bool → Fragment → Type 0
IsNextTree def front f kept t = (more : ℕ) × (t ≡ next_tree def front kept more f)

-- A round is made after the first ones of the answers. Its tree keeps the places that these keep and all later ones. At
-- most so many trees keep fewer of the later ones.
pub record IsRound (def : Definition) (front : Name) (f : Fragment) (answers : List Bool) (most : ℕ) (r : Round)
    : Type 0 where
  pub kept : List Bool
  pub later : List Bool
  pub first : answers ≡ kept ++ later
  pub left : ℕ
  pub whole : length kept + left ≡ place_count def f
  pub all : r.all ≡ next_tree def front kept left f
  pub fewer : AllByRecursion (IsNextTree def front f kept) r.fewer
  pub few : length r.fewer ≤ most

-- The evaluations of the rounds that lead to the answers, of which the first is made beside the old tree. There is one
-- more than blamed places at most.
pub record AreRounds (def : Definition) (front : Name) (f old : Fragment) (answers : List Bool) (most from to : ℕ)
    : Type 0 where
  pub rounds : List Round
  pub count : length rounds ≤ 1 + blamed_in answers
  pub each : AllByRecursion (IsRound def front f answers most) rounds
  pub taken : to ≤ from + rounds_work old rounds

-- The evaluations of a search with these answers: first those of the tree that keeps nothing, then those of the rounds.
-- `first` counts those of the tree that keeps nothing, and `base` is the tree that the first round is made beside.
pub record IsSearch (def : Definition) (f : Fragment) (first : Fragment → ℕ) (base : Fragment → Fragment)
    (answers : List Bool) (most from to : ℕ) : Type 0 where
  pub names : Name
  pub middle : ℕ
  pub nothing : middle ≤ from + first (opened def (kept_in []) (new_name names) f)
  pub rounds : AreRounds def names f (base (opened def (kept_in []) (new_name names) f)) answers most middle to
