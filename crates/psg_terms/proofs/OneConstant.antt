-- The ground terms of a one-constant sort.
use Rattle.std.proofs.Common.{◌≡◌, ℕ, ◌<◌, ◌≤◌, ◌+◌, ◌==◌, ◌⊎◌, true, false, cond, zero, suc, List, [], ◌∷◌, ap, sym, ◌∙◌, length, subst, inl, inr, Option, Some, slice_get, arith}
use Rattle.std.proofs.lemmas.Bool.Decides.{nat_tests}
use Rattle.psg_terms.specs.Terms.{Term, variable, symbol, apply}
use Rattle.psg_terms.specs.Signature.{Signature, Symbol, HasSort, HasSymbol, Takes, constructors_from, constructors_of, sole, only_constructor}
use Rattle.psg_terms.specs.Instances.{IsGround}
use Rattle.psg_terms.specs.Sound.{IsSound}
use Rattle.psg_terms.proofs.Separate.{head}

abbrev IsIn : ℕ → List ℕ → Type 0
IsIn d [] = ⊥
IsIn d (c ∷ cs) = (d ≡ c) ⊎ IsIn d cs

in_constructors : (n sort : ℕ) (syms : List Symbol) (i : ℕ) (s : Symbol) → slice_get syms i ≡ Some s → s.sort ≡ sort → IsIn (n + i) (constructors_from n sort syms)
in_constructors n sort [] i s e d = absurd (cc)
in_constructors n sort (x ∷ syms) zero s e d =
    let same : x ≡ s = cc in
    let made : x.sort ≡ sort = ap (λ (y : Symbol). y.sort) same ∙ d in
    let test : (x.sort == sort) ≡ true = grind (arith, nat_tests) in
    subst (λ b. IsIn (n + 0) (cond b (n ∷ constructors_from (n + 1) sort syms) (constructors_from (n + 1) sort syms))) (sym test) (inl (omega arith))
in_constructors n sort (x ∷ syms) (suc i) s e d =
    let later : IsIn (n + suc i) (constructors_from (n + 1) sort syms) = subst (λ k. IsIn k (constructors_from (n + 1) sort syms)) (omega arith) (in_constructors (n + 1) sort syms i s e d) in
    elim (x.sort == sort) as (λ b. IsIn (n + suc i) (cond b (n ∷ constructors_from (n + 1) sort syms) (constructors_from (n + 1) sort syms))) [ true ↦ inr later | false ↦ later ]

-- the constructor that a ground term is made by
head_symbol : (sig : Signature) (t : Term) (w : List ℕ) (s : ℕ) → IsGround t → Takes sig t w s → (args : List ℕ) × HasSymbol sig (head t) args s × (length w ≤ length args)
head_symbol sig (variable p n) w s g _ = absurd g
head_symbol sig (symbol c) w s _ h = (w, h, omega arith)
head_symbol sig (apply f a) w s (g, _) (x, h, _) = let rest = head_symbol sig f (x ∷ w) s g h in let l = rest.2 in (rest.0, rest.1, omega arith)

only_one : (cs : List ℕ) (c d : ℕ) → sole cs ≡ Some c → IsIn d cs → d ≡ c
only_one [] c d e i = absurd i
only_one (x ∷ []) c d e (inl h) = h ∙ (cc)
only_one (x ∷ []) c d e (inr h) = absurd h
only_one (x ∷ y ∷ rest) c d e i = absurd (cc)

-- it is the constant
pub one_constant : (sig : Signature) → IsSound sig → (s c : ℕ) (t : Term) → s < length sig.sorts → only_constructor sig s ≡ Some c → IsGround t → HasSort sig t s → t ≡ symbol c
one_constant sig sound s c (variable p n) lt o g h = absurd g
one_constant sig sound s c (symbol d) lt o g (x, at, _, made) = ap symbol (only_one (constructors_of sig s) c d o (subst (λ k. IsIn k (constructors_of sig s)) (omega arith) (in_constructors 0 s sig.symbols d x at made)))
one_constant sig sound s c (apply f a) lt o (g, _) (x, h, _) =
    let top = head_symbol sig f (x ∷ []) s g h in
    let symbol_there = top.1 in
    let same : head f ≡ c = only_one (constructors_of sig s) c (head f) o (subst (λ k. IsIn k (constructors_of sig s)) (omega arith) (in_constructors 0 s sig.symbols (head f) symbol_there.0 symbol_there.1 symbol_there.3)) in
    let constant = sound.constant s c lt o in
    let found : ◌≡◌ {A = Option Symbol} (Some symbol_there.0) (Some constant.0) = sym symbol_there.1 ∙ ap (slice_get sig.symbols) same ∙ constant.1 in
    let both : symbol_there.0 ≡ constant.0 = cc in
    let args : top.0 ≡ [] = sym symbol_there.2 ∙ ap (λ (y : Symbol). y.arguments) both ∙ constant.2 in
    let l = top.2 in
    let none = ap length args in
    absurd (omega arith)
