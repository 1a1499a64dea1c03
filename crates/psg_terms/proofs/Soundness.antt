-- A signature whose sorts have terms enough is sound.
use Rattle.std.proofs.Common.{◌≡◌, ℕ, ◌+◌, ◌<◌, ◌≤◌, ◌==◌, ◌↔◌, not, IsTrue, Bool, true, false, cond, zero, suc, List, [], ◌∷◌, get_or, length, map, refl, ap, sym, ◌∙◌, subst, Option, Some, None, slice_get, arith}
use Rattle.std.proofs.lemmas.Bool.Decides.{nat_tests}
use Rattle.std.proofs.lemmas.Bool.{false≢true}
use Rattle.std.proofs.lemmas.Option.{slice_get_within}
use Rattle.psg_terms.specs.Names.{has_twice}
use Rattle.psg_terms.specs.Signature.{Signature, Symbol, AreSorts, AreClosed, constructors_from, constructors_of, sole}
use Rattle.psg_terms.specs.Sound.{IsSound}
use Rattle.psg_terms.specs.Declarations.{IsInhabited, IsWideAmong, IsWide, IsFirstEmpty}
use Rattle.psg_terms.specs.Kept.{numbers_of, symbols_of, symbol_of}
use Rattle.psg_terms.specs.Marks.{AreBelow, AllBelow, AreRight, AllKeep, con_numbers, AreMade}
use Rattle.psg_terms.specs.declared.sorts.SortId.{SortId}
use Rattle.psg_terms.specs.declared.sorts.ConId.{ConId}
use Rattle.psg_terms.specs.declared.sorts.Declared.{Declared}
use Rattle.psg_terms.proofs.SoundChoices.{IsListed, AreListed, listed}
use Rattle.psg_terms.proofs.Marking.{symbols-at, ground-marked}

-- several constructors are no only one
pub sole-many : (ids : List ConId) → 2 ≤ length ids → sole (con_numbers ids) ≡ None
sole-many [] h = absurd (omega arith)
sole-many (c ∷ []) h = absurd (omega arith)
sole-many (c ∷ d ∷ rest) h = refl

pub numbers_of-length : (xs : List SortId) → length (numbers_of xs) ≡ length xs
numbers_of-length [] = refl
numbers_of-length (x ∷ xs) = omega (arith, numbers_of-length xs)

pub symbols_of-length : (xs : List Declared) → length (symbols_of xs) ≡ length xs
symbols_of-length [] = refl
symbols_of-length (x ∷ xs) = omega (arith, symbols_of-length xs)

-- a constructor that is there and has arguments
abbrev pub HasArguments : List Declared → ℕ → Type 0
HasArguments declared k = (x : Symbol) × (slice_get (symbols_of declared) k ≡ Some x) × (0 < length x.arguments)

pub arguments-there : (declared : List Declared) (k : ℕ) (d : Declared) (args : List SortId) (b : Bool) → k < length declared → d ≡ get_or declared k d → b ≡ (length args == 0) → args ≡ d.constructor.args → IsTrue (not b) ↔ HasArguments declared k
arguments-there declared k d args b lt at e a = (
  λ t. (symbol_of d, symbols-at declared k d lt at, some (length args) b t e (numbers_of-length args ∙ refl) a),
  λ (x, there, some). none x there some,
) where
  some : (n : ℕ) (c : Bool) → IsTrue (not c) → c ≡ (n == 0) → length (numbers_of args) ≡ n → args ≡ d.constructor.args → 0 < length (numbers_of d.constructor.args)
  some n c t q l same = subst (λ xs. 0 < length (numbers_of xs)) same (grind (arith, nat_tests))

  none : (x : Symbol) → slice_get (symbols_of declared) k ≡ Some x → 0 < length x.arguments → IsTrue (not b)
  none x there pos =
      let same : x ≡ symbol_of d = (let q : ◌≡◌ {A = Option Symbol} (Some x) (Some (symbol_of d)) = sym there ∙ symbols-at declared k d lt at in cc) in
      let l : 0 < length (numbers_of args) = subst (λ xs. 0 < length (numbers_of xs)) (sym a) (subst (λ (y : Symbol). 0 < length y.arguments) same pos) in
      let n = numbers_of-length args in
      let test : (length args == 0) ≡ false = grind (arith, nat_tests) in
      ap not (e ∙ test)

pub arguments-past : (declared : List Declared) (k : ℕ) → length declared ≤ k → IsTrue false ↔ HasArguments declared k
arguments-past declared k h = (
  λ t. absurd (false≢true t),
  λ (x, there, _). let lt = slice_get_within (symbols_of declared) k x there in let l = symbols_of-length declared in absurd (omega arith),
)

pub wide-one : (ids : List ℕ) (declared : List Declared) (c : ℕ) (b : Bool) → Some c ≡ sole ids → IsTrue b ↔ HasArguments declared c → IsTrue b ↔ IsWideAmong ids (symbols_of declared)
wide-one ids declared c b one h = (
  λ t. let w = h.0 t in record { constructor = c; only = sym one; found = w.0; at = w.1; wide = w.2 },
  λ w. let q : ◌≡◌ {A = Option ℕ} (Some c) (Some w.constructor) = one ∙ w.only in
      let same : w.constructor ≡ c = cc in
      h.1 (w.found, ap (slice_get (symbols_of declared)) (sym same) ∙ w.at, w.wide),
)

pub wide-none : (ids : List ℕ) (declared : List Declared) → None ≡ sole ids → IsTrue false ↔ IsWideAmong ids (symbols_of declared)
wide-none ids declared none = (λ t. absurd (false≢true t), λ w. let q : ◌≡◌ {A = Option ℕ} None (Some w.constructor) = none ∙ w.only in absurd (cc))

-- the constructors of a sort by its place
pub made-at : (n : ℕ) (made : List (List ConId)) (i : ℕ) (ids d : List ConId) (xs : List Symbol) → AreMade n made xs → i < length made → ids ≡ get_or made i d → con_numbers ids ≡ constructors_from 0 (n + i) xs
made-at n [] i ids d xs h lt e = absurd (omega arith)
made-at n (own ∷ made) zero ids d xs (p, h) lt e = ap con_numbers e ∙ p ∙ ap (λ k. constructors_from 0 k xs) (omega arith)
made-at n (own ∷ made) (suc i) ids d xs (p, h) lt e = made-at (n + 1) made i ids d xs h (omega arith) e ∙ ap (λ k. constructors_from 0 k xs) (omega arith)

pub made-first : (made : List (List ConId)) (i : ℕ) (ids d : List ConId) (xs : List Symbol) → AreMade 0 made xs → i < length made → ids ≡ get_or made i d → con_numbers ids ≡ constructors_from 0 i xs
made-first made i ids d xs h lt e = made-at 0 made i ids d xs h lt e ∙ ap (λ k. constructors_from 0 k xs) (omega arith)

-- there are none past the sorts
pub none-past : (n s : ℕ) (sig : Signature) (xs : List Symbol) → AreClosed sig xs → length sig.sorts ≤ s → constructors_from n s xs ≡ []
none-past n s sig [] h le = refl
none-past n s sig (x ∷ xs) (_, lt, h) le =
    let test : (x.sort == s) ≡ false = grind (arith, nat_tests) in
    ap (λ b. cond b (n ∷ constructors_from (n + 1) s xs) (constructors_from (n + 1) s xs)) test ∙ none-past (n + 1) s sig xs h le

sorts-below : (sig : Signature) (ss : List ℕ) → AreSorts sig ss → AreBelow (length sig.sorts) ss
sorts-below sig [] h = tt
sorts-below sig (s ∷ ss) (p, h) = (p, sorts-below sig ss h)

pub closed-below : (sig : Signature) (xs : List Symbol) → AreClosed sig xs → AllBelow (length sig.sorts) xs
closed-below sig [] h = tt
closed-below sig (x ∷ xs) (p, q, h) = (sorts-below sig x.arguments p, q, closed-below sig xs h)

-- the faults
pub first_empty : (sig : Signature) (marks : List Bool) (s : ℕ) → AreRight sig marks → AllKeep marks sig.symbols → length marks ≡ length sig.sorts → slice_get marks s ≡ Some false → ((r : ℕ) → r < s → slice_get marks r ≡ Some true) → IsFirstEmpty sig s
first_empty sig marks s right keep l off before = record {
  inside = subst (λ n. s < n) l (slice_get_within marks s false off);
  empty = λ t g h. let on = ground-marked sig marks keep t [] s g h tt in let q : ◌≡◌ {A = Option Bool} (Some false) (Some true) = sym off ∙ on in absurd (cc);
  before = λ r lt. right r (before r lt);
}

only_listed : (s c : ℕ) (ids : List ℕ) (xs : List Symbol) → sole ids ≡ Some c → AreListed s 0 ids xs → IsListed s 0 c xs
only_listed s c [] xs e h = absurd (cc)
only_listed s c (d ∷ []) xs e (h, _) = let same : d ≡ c = cc in subst (λ k. IsListed s 0 k xs) same h
only_listed s c (d ∷ d' ∷ rest) xs e h = absurd (cc)

no_arguments : (xs : List ℕ) → (0 < length xs → ⊥) → xs ≡ []
no_arguments [] h = refl
no_arguments (x ∷ xs) h = absurd (h (omega arith))

pub is_sound : (sig : Signature) → has_twice sig.sorts ≡ false → has_twice (map (λ (x : Symbol). x.name) sig.symbols) ≡ false → AreClosed sig sig.symbols → ((s : ℕ) → s < length sig.sorts → IsInhabited sig s) → ((s : ℕ) → s < length sig.sorts → IsWide sig s → ⊥) → IsSound sig
is_sound sig names symbols closed inhabited narrow = record {
  sort_names = names;
  constructor_names = symbols;
  closed = closed;
  inhabited = λ s lt. let t = inhabited s lt in (t.term, t.variable_free, t.sorted);
  constant = λ s c lt e.
      let l = only_listed s c (constructors_of sig s) sig.symbols e (listed 0 s sig.symbols) in
      let n = l.number in
      let there : slice_get sig.symbols c ≡ Some l.found = ap (slice_get sig.symbols) (omega arith) ∙ l.at in
      let none = no_arguments l.found.arguments (λ w. narrow s lt (record { constructor = c; only = e; found = l.found; at = there; wide = w })) in
      (l.found, there, none, l.makes);
}
