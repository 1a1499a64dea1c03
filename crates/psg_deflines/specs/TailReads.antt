-- What follows the keyword and the name of a line of terms.
use Rattle.std.specs.Prelude.{ℕ, Bool, true, false, ◌≡◌, ◌≤◌, ◌⊎◌, Option, Some, None, MatchOption, List, [], ◌∷◌, ◌++◌}
use Rattle.std.specs.Prelude.{length, drop, codes}
use Rattle.std.specs.List.{AllByRecursion}
use Rattle.psg_grammar.specs.Sound.{IsKindName}
use Rattle.psg_deflines.specs.WrittenTerms.{WrittenTerm, term_parts, HasTermForm, IsShallowTerm}
use Rattle.psg_deflines.specs.WrittenTrees.{WrittenTree, IsShallowTree}
use Rattle.psg_deflines.specs.Forms.{terms_parts, columns_parts, by_parts, HasFormBehindBy}
use Rattle.psg_deflines.specs.TermWalks.{Parts, IsNotOpened, IsKept}
use Rattle.psg_deflines.specs.declared.tails.TermsRead.{TermsRead}
use Rattle.psg_deflines.specs.declared.tails.Behind.{Behind}
use Rattle.psg_deflines.specs.declared.tails.Behind.TheVariants as behinds
use Rattle.psg_deflines.specs.declared.tails.Tail.{Tail}

-- As many terms as are wanted, or fewer where nothing is left.
pub record AreTerms (most : ℕ) (rest ps : Parts) (ts : List WrittenTerm) : Type 0 where
  pub forms : AllByRecursion HasTermForm ts
  pub written : ps ≡ terms_parts ts ++ rest
  pub few : length ts ≤ most
  pub full : (length ts ≡ most) ⊎ (rest ≡ [])

-- the terms as they are kept: not where one is nested too deep
abbrev pub AreKept : Option (List WrittenTerm) → List WrittenTerm → Type 0
AreKept kept ts =
    MatchOption kept (AllByRecursion IsShallowTerm ts → ⊥) (λ xs. (xs ≡ ts) × AllByRecursion IsShallowTerm ts)

-- the terms with which the parts begin, and no others, as they are kept
pub record AreTermsFound (most : ℕ) (ps : Parts) (found : TermsRead) : Type 0 where
  pub terms : List WrittenTerm
  pub fits : found.taken ≤ length ps
  pub count : found.count ≡ length terms
  pub read : AreTerms most (drop found.taken ps) ps terms
  pub only : (others : List WrittenTerm) (rest : Parts) → AreTerms most rest ps others → IsNotOpened rest
      → (others ≡ terms) × (rest ≡ drop found.taken ps)
  pub kept : AreKept found.terms terms

-- the parts begin with no such terms
abbrev pub HaveNoTerms : ℕ → Parts → Type 0
HaveNoTerms most ps = (ts : List WrittenTerm) (rest : Parts) → AreTerms most rest ps ts → IsNotOpened rest → ⊥

-- the parts begin with no colon
abbrev pub IsNotColon : Parts → Type 0
IsNotColon parts = (rest : Parts) → parts ≡ codes ":" ∷ rest → ⊥

-- these terms after a colon, or no terms at all
pub record AreColumns (most : ℕ) (rest ps : Parts) (ts : List WrittenTerm) : Type 0 where
  pub forms : AllByRecursion HasTermForm ts
  pub written : ps ≡ columns_parts ts ++ rest
  pub few : length ts ≤ most
  pub full : (ts ≡ []) ⊎ ((length ts ≡ most) ⊎ (rest ≡ []))

-- the columns with which the parts begin, and no others, as they are kept
pub record AreColumnsFound (most : ℕ) (ps : Parts) (found : TermsRead) : Type 0 where
  pub terms : List WrittenTerm
  pub fits : found.taken ≤ length ps
  pub count : found.count ≡ length terms
  pub read : AreColumns most (drop found.taken ps) ps terms
  pub only : (others : List WrittenTerm) (rest : Parts) → AreColumns most rest ps others → IsNotOpened rest
      → IsNotColon rest → (others ≡ terms) × (rest ≡ drop found.taken ps)
  pub kept : AreKept found.terms terms

-- the parts begin with no such columns
abbrev pub HaveNoColumns : ℕ → Parts → Type 0
HaveNoColumns most ps =
    (ts : List WrittenTerm) (rest : Parts) → AreColumns most rest ps ts → IsNotOpened rest → IsNotColon rest → ⊥

-- what follows the columns
abbrev pub IsBehind : Behind → Option WrittenTree → Type 0
IsBehind behinds.Nothing w = w ≡ None
IsBehind behinds.TooDeep w = (x : WrittenTree) × (w ≡ Some x) × (IsShallowTree x → ⊥)
IsBehind (behinds.Tree y) w = (w ≡ Some y) × IsShallowTree y

-- the parts are the specimen, or nothing, and nothing else
pub record IsBehindFound (ps : Parts) (behind : Behind) : Type 0 where
  pub specimen : Option WrittenTree
  pub form : HasFormBehindBy specimen
  pub written : ps ≡ by_parts specimen
  pub only : (other : Option WrittenTree) → HasFormBehindBy other → ps ≡ by_parts other → other ≡ specimen
  pub is : IsBehind behind specimen

-- the parts are neither nothing nor a specimen after `by`
abbrev pub HasNothingBehind : Parts → Type 0
HasNothingBehind ps = (w : Option WrittenTree) → HasFormBehindBy w → ps ≡ by_parts w → ⊥

-- all of it
pub record IsTail (most : ℕ) (ps : Parts) (t : WrittenTerm) (ts : List WrittenTerm)
    (w : Option WrittenTree) : Type 0 where
  pub head : HasTermForm t
  pub columns : AllByRecursion HasTermForm ts
  pub specimen : HasFormBehindBy w
  pub written : ps ≡ term_parts t ++ (columns_parts ts ++ by_parts w)
  pub few : length ts ≤ most
  pub full : (ts ≡ []) ⊎ ((length ts ≡ most) ⊎ (w ≡ None))

-- the parts are this tail, and no other one
pub record IsTailFound (most : ℕ) (ps : Parts) (tail : Tail) : Type 0 where
  pub head : WrittenTerm
  pub columns : List WrittenTerm
  pub specimen : Option WrittenTree
  pub is : IsTail most ps head columns specimen
  pub only : (t : WrittenTerm) (ts : List WrittenTerm) (w : Option WrittenTree) → IsTail most ps t ts w → (t ≡ head)
      × (ts ≡ columns) × (w ≡ specimen)
  pub count : tail.count ≡ length columns
  pub head_kept : IsKept tail.head head
  pub columns_kept : AreKept tail.columns columns
  pub specimen_kept : IsBehind tail.behind specimen

-- the parts are no such tail
abbrev pub HasNoTail : ℕ → Parts → Type 0
HasNoTail most ps = (t : WrittenTerm) (ts : List WrittenTerm) (w : Option WrittenTree) → IsTail most ps t ts w → ⊥

-- a name of a kind, and then all of it
pub record IsNamedTail (most : ℕ) (ps : Parts) (n : List ℕ) (t : WrittenTerm) (ts : List WrittenTerm)
    (w : Option WrittenTree) : Type 0 where
  pub kind : IsKindName n
  pub split : ps ≡ n ∷ drop 1 ps
  pub tail : IsTail most (drop 1 ps) t ts w

-- the parts are no name with such a tail
abbrev pub HasNoNamedTail : ℕ → Parts → Type 0
HasNoNamedTail most ps =
    (n : List ℕ) (t : WrittenTerm) (ts : List WrittenTerm) (w : Option WrittenTree) → IsNamedTail most ps n t ts w → ⊥

-- the parts are the name with this tail, and no other ones
pub record IsNamedTailFound (most : ℕ) (ps : Parts) (n : List ℕ) (tail : Tail) : Type 0 where
  pub kind : IsKindName n
  pub split : ps ≡ n ∷ drop 1 ps
  pub found : IsTailFound most (drop 1 ps) tail

-- there is no specimen
abbrev pub is_nothing : Behind → Bool
is_nothing behinds.Nothing = true
is_nothing behinds.TooDeep = false
is_nothing (behinds.Tree y) = false

-- the specimen, if there is one; no answer where it is nested too deep
abbrev pub specimen_of : Behind → Option (Option WrittenTree)
specimen_of behinds.Nothing = Some None
specimen_of behinds.TooDeep = None
specimen_of (behinds.Tree y) = Some (Some y)

-- the specimen, if there is one that is kept
abbrev pub tree_behind : Behind → Option WrittenTree
tree_behind behinds.Nothing = None
tree_behind behinds.TooDeep = None
tree_behind (behinds.Tree y) = Some y
