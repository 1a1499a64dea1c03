-- A term that is read from left to right, part by part.
use Rattle.std.specs.Prelude.{ℕ, ◌≡◌, ◌≤◌, ◌||◌, nat_le, Bool, true, false, Option, None, MatchOption, List, [], ◌∷◌}
use Rattle.std.specs.Prelude.{◌++◌, length, drop, codes}
use Rattle.psg_grammar.specs.Sound.{IsOwnName}
use Rattle.psg_deflines.specs.WrittenTerms.{WrittenTerm, variable, named, apply, applied, term_parts, is_variable_name}
use Rattle.psg_deflines.specs.WrittenTerms.{HasTermForm, IsShallowTerm, most_nested}
use Rattle.psg_deflines.specs.declared.term_reading.Frame.{Frame}
use Rattle.psg_deflines.specs.declared.term_reading.Brackets.{Brackets}
use Rattle.psg_deflines.specs.declared.term_reading.Walk.{Walk}
use Rattle.psg_deflines.specs.declared.term_reading.Walk.TheVariants as walks
use Rattle.psg_deflines.specs.declared.term_reading.TermRead.{TermRead}

-- the parts of a line
abbrev pub Parts : Type 0
Parts = List (List ℕ)

-- no bracket is opened
abbrev pub IsNotOpened : Parts → Type 0
IsNotOpened parts = (rest : Parts) → parts ≡ codes "(" ∷ rest → ⊥

-- the parts begin with an opening bracket
abbrev pub IsOpened : Parts → Type 0
IsOpened parts = (rest : Parts) × (parts ≡ codes "(" ∷ rest)

-- The parts are the term and then the rest. A bracket after a term belongs to it, so no other term can be read where
-- none follows.
pub record IsTermRead (parts : Parts) (t : WrittenTerm) (rest : Parts) : Type 0 where
  pub form : HasTermForm t
  pub written : parts ≡ term_parts t ++ rest
  pub only : (other : WrittenTerm) (behind : Parts) → HasTermForm other → parts ≡ term_parts other ++ behind
      → IsNotOpened behind → (other ≡ t) × (behind ≡ rest)

-- the parts begin with no term
abbrev pub HasNoTerm : Parts → Type 0
HasNoTerm parts = (t : WrittenTerm) (rest : Parts) → HasTermForm t → parts ≡ term_parts t ++ rest → IsNotOpened rest → ⊥

-- the term as it is kept: not where it is nested too deep
abbrev pub IsKept : Option WrittenTerm → WrittenTerm → Type 0
IsKept kept t = MatchOption kept (IsShallowTerm t → ⊥) (λ x. (x ≡ t) × IsShallowTerm t)

-- the term with which the parts begin, as it is kept
pub record IsTermFound (parts : Parts) (found : TermRead) : Type 0 where
  pub term : WrittenTerm
  pub fits : found.taken ≤ length parts
  pub read : IsTermRead parts term (drop found.taken parts)
  pub kept : IsKept found.term term

-- The state of a walk: the constructors whose brackets are open, from the innermost on, each with its arguments so far;
-- and the term that was read last, or that one is to begin.
pub data Stage : Type 0 where
  expects : (fs : List WrittenTerm) → Stage
  has : (fs : List WrittenTerm) (term : WrittenTerm) → Stage

-- One step of the walk, and the parts after it.
pub data IsStep (s : Stage) (ps : Parts) (next : Stage) (rest : Parts) : Type 0 where
  variable_step : (fs : List WrittenTerm) (n : List ℕ) → s ≡ expects fs → ps ≡ (63 ∷ n) ∷ rest
      → is_variable_name n ≡ true → next ≡ has fs (variable n) → IsStep s ps next rest
  constant_step : (fs : List WrittenTerm) (n : List ℕ) → s ≡ expects fs → ps ≡ n ∷ rest → IsOwnName n → IsNotOpened rest
      → next ≡ has fs (named n) → IsStep s ps next rest
  opened_step : (fs : List WrittenTerm) (n : List ℕ) → s ≡ expects fs → ps ≡ n ∷ codes "(" ∷ rest → IsOwnName n
      → next ≡ expects (named n ∷ fs) → IsStep s ps next rest
  comma_step : (f a : WrittenTerm) (fs : List WrittenTerm) → s ≡ has (f ∷ fs) a → ps ≡ codes "," ∷ rest
      → next ≡ expects (apply f a ∷ fs) → IsStep s ps next rest
  closed_step : (f a : WrittenTerm) (fs : List WrittenTerm) → s ≡ has (f ∷ fs) a → ps ≡ codes ")" ∷ rest
      → next ≡ has fs (apply f a) → IsStep s ps next rest

-- no step is possible
abbrev pub HasNoStep : Stage → Parts → Type 0
HasNoStep s ps = (next : Stage) (rest : Parts) → IsStep s ps next rest → ⊥

-- what a frame holds, and frames from the innermost on
abbrev pub frame_term : Frame → WrittenTerm
frame_term f = applied (named f.name) f.args.items

-- the frames from the outermost on, after those that are given
abbrev pub framed_behind : List WrittenTerm → List Frame → List WrittenTerm
framed_behind outer [] = outer
framed_behind outer (f ∷ fs) = framed_behind (frame_term f ∷ outer) fs

-- the frames are these, or only as many where a term is nested too deep
pub record AreOpen (brackets : Brackets) (fs : List WrittenTerm) : Type 0 where
  pub count : length brackets.frames.items ≡ length fs
  pub kept : brackets.deep ≡ false → framed_behind [] brackets.frames.items ≡ fs

-- the program's walk is in this state
abbrev pub IsWalk : Walk → Stage → Type 0
IsWalk (walks.Expects brackets) (expects fs) = AreOpen brackets fs
IsWalk (walks.Expects brackets) (has fs t) = ⊥
IsWalk (walks.Has brackets term) (expects fs) = ⊥
IsWalk (walks.Has brackets term) (has fs t) = AreOpen brackets fs × (brackets.deep ≡ false → term ≡ t)

-- the walk met a term that is nested too deep
abbrev pub is_deep : Walk → Bool
is_deep (walks.Expects brackets) = brackets.deep
is_deep (walks.Has brackets term) = brackets.deep

-- how many brackets are open where a term is to begin; 0 where one has ended
abbrev pub height : Stage → ℕ
height (expects fs) = length fs
height (has fs t) = 0

-- one step was made, and it is noted where it begins a term that is nested too deep
pub record IsStepMade (s : Stage) (deep : Bool) (ps : Parts) (walk : Walk) (taken : ℕ) : Type 0 where
  pub next : Stage
  pub fits : taken ≤ length ps
  pub step : IsStep s ps next (drop taken ps)
  pub shown : IsWalk walk next
  pub noted : is_deep walk ≡ (deep || nat_le most_nested (height s))

-- the walk is at its end: a term has ended, and no bracket is open
abbrev pub IsDone : Walk → Type 0
IsDone (walks.Expects brackets) = ⊥
IsDone (walks.Has brackets term) = length brackets.frames.items ≡ 0

-- what a walk that is at its end has found
abbrev pub IsFinished : Walk → Option WrittenTerm → Type 0
IsFinished (walks.Expects brackets) kept = kept ≡ None
IsFinished (walks.Has brackets term) kept =
    MatchOption kept (brackets.deep ≡ true) (λ x. (brackets.deep ≡ false) × (x ≡ term))

-- the next step of the walk
abbrev pub IsAdvanced : Stage → Bool → Parts → Option (Walk × ℕ) → Type 0
IsAdvanced s deep ps made = MatchOption made (HasNoStep s ps) (λ r. IsStepMade s deep ps r.0 r.1)
