-- Marks of sorts that have terms without variables.
use Rattle.std.proofs.Common.{◌≡◌, ◌≢◌, ℕ, ◌+◌, ◌<◌, ◌==◌, Bool, true, false, cond, zero, suc, List, [], ◌∷◌, ◌++◌, take, get_or, set, length, refl, ap, ap₂, sym, ◌∙◌, subst, inl, inr, Some, slice_get, MatchBool, append-nil, arith}
use Rattle.std.proofs.lemmas.Bool.Decides.{nat_tests}
use Rattle.std.proofs.lemmas.List.{take_more}
use Rattle.std.proofs.lemmas.Bool.{cases_eq}
use Rattle.psg_terms.proofs.Lists.{take_item}
use Rattle.psg_terms.specs.Terms.{Term, variable, symbol, apply, applied}
use Rattle.psg_terms.specs.Signature.{Signature, Symbol, HaveSorts, Takes, constructors_from}
use Rattle.psg_terms.specs.Instances.{IsGround}
use Rattle.psg_terms.specs.Declarations.{IsInhabited}
use Rattle.psg_terms.specs.Kept.{numbers_of, symbols_of, symbol_of}
use Rattle.psg_terms.specs.Marks.{AreMarked, AreBelow, AllBelow, AreRight, Keeps, AllKeep, unmarked, con_numbers, AreMade}
use Rattle.psg_terms.specs.declared.sorts.SortId.{SortId}
use Rattle.psg_terms.specs.declared.sorts.ConId.{ConId}
use Rattle.psg_terms.specs.declared.sorts.Declared.{Declared}
use Rattle.psg_terms.proofs.Applied.{AllGround, applied-takes, applied-ground}
use Rattle.psg_terms.proofs.DeclareLaws.{numbers_of-append, symbols_of-append}

pub below-at : (n : ℕ) (sorts : List SortId) (i : ℕ) (d : SortId) → AreBelow n (numbers_of sorts) → i < length sorts → (get_or sorts i d).0 < n
below-at n [] i d h lt = absurd (omega arith)
below-at n (s ∷ sorts) zero d (p, h) lt = p
below-at n (s ∷ sorts) (suc i) d (p, h) lt = below-at n sorts i d h (omega arith)

pub marked-at : (marks : List Bool) (sorts : List SortId) (i : ℕ) (d : SortId) → AreMarked marks (numbers_of sorts) → i < length sorts → slice_get marks (get_or sorts i d).0 ≡ Some true
marked-at marks [] i d h lt = absurd (omega arith)
marked-at marks (s ∷ sorts) zero d (p, h) lt = p
marked-at marks (s ∷ sorts) (suc i) d (p, h) lt = marked-at marks sorts i d h (omega arith)

marked-append : (marks : List Bool) (xs ys : List ℕ) → AreMarked marks xs → AreMarked marks ys → AreMarked marks (xs ++ ys)
marked-append marks [] ys h k = k
marked-append marks (x ∷ xs) ys (p, h) k = (p, marked-append marks xs ys h k)

pub read-at : (marks : List Bool) (k : ℕ) (d b : Bool) → k < length marks → get_or marks k d ≡ b → slice_get marks k ≡ Some b
read-at [] k d b lt e = absurd (omega arith)
read-at (m ∷ marks) zero d b lt e = ap Some e
read-at (m ∷ marks) (suc k) d b lt e = read-at marks k d b (omega arith) e

pub marked-step : (marks : List Bool) (sorts : List SortId) (i : ℕ) (d : SortId) → AreMarked marks (numbers_of (take i sorts)) → i < length sorts → slice_get marks (get_or sorts i d).0 ≡ Some true → AreMarked marks (numbers_of (take (i + 1) sorts))
marked-step marks sorts i d h lt m =
    subst (AreMarked marks) (sym (ap numbers_of (take_more sorts i d lt) ∙ numbers_of-append (take i sorts) (get_or sorts i d ∷ []))) (marked-append marks (numbers_of (take i sorts)) ((get_or sorts i d).0 ∷ []) h (m, tt))

pub not_marked : (marks : List Bool) (k : ℕ) (d : Bool) → get_or marks k d ≡ false → slice_get marks k ≡ Some true → ⊥
not_marked [] k d e h = cc
not_marked (m ∷ marks) zero d e h = cc
not_marked (m ∷ marks) (suc k) d e h = not_marked marks k d e h

-- one more mark
get-set_same : (marks : List Bool) (k : ℕ) (b c : Bool) → slice_get (set marks k b) k ≡ Some c → b ≡ c
get-set_same [] k b c e = absurd (cc)
get-set_same (m ∷ marks) zero b c e = cc
get-set_same (m ∷ marks) (suc k) b c e = get-set_same marks k b c e

get-set_other : (marks : List Bool) (k j : ℕ) (b : Bool) → j ≢ k → slice_get (set marks k b) j ≡ slice_get marks j
get-set_other [] k j b ne = refl
get-set_other (m ∷ marks) zero zero b ne = absurd (ne refl)
get-set_other (m ∷ marks) zero (suc j) b ne = refl
get-set_other (m ∷ marks) (suc k) zero b ne = refl
get-set_other (m ∷ marks) (suc k) (suc j) b ne = get-set_other marks k j b (λ e. ne (ap suc e))

pub unmarked-set : (marks : List Bool) (k : ℕ) (d : Bool) → k < length marks → get_or marks k d ≡ false → unmarked (set marks k true) + 1 ≡ unmarked marks
unmarked-set [] k d lt e = absurd (omega arith)
unmarked-set (m ∷ marks) zero d lt e = let n = unmarked marks in let h : ◌≡◌ {A = ℕ} (cond m 0 1) 1 = ap (λ b. cond b 0 1) e in omega arith
unmarked-set (m ∷ marks) (suc k) d lt e = omega (arith, unmarked-set marks k d (omega arith) e)

-- terms of marked sorts
ground_row : (sig : Signature) (marks : List Bool) → AreRight sig marks → (ss : List ℕ) → AreMarked marks ss → (row : List Term) × AllGround row × HaveSorts sig row ss
ground_row sig marks right [] h = ([], tt, tt)
ground_row sig marks right (s ∷ ss) (m, h) =
    let t = right s m in
    let rest = ground_row sig marks right ss h in
    (t.term ∷ rest.0, (t.variable_free, rest.1), (t.sorted, rest.2))

pub right-set : (sig : Signature) (c : ℕ) (x : Symbol) (marks : List Bool) → slice_get sig.symbols c ≡ Some x → AreMarked marks x.arguments → AreRight sig marks → AreRight sig (set marks x.sort true)
right-set sig c x marks at h right s m =
    elim (cases_eq s x.sort) [
      | inl e ↦ (let row = ground_row sig marks right x.arguments h in
          subst (IsInhabited sig) (sym e) (record {
            term = applied (symbol c) row.0;
            variable_free = applied-ground (symbol c) row.0 tt row.1;
            sorted = applied-takes sig (symbol c) row.0 x.arguments x.sort (x, at, refl, refl) row.2;
          }))
      | inr ne ↦ right s (sym (get-set_other marks x.sort s true ne) ∙ m)
    ]

-- constructors one by one
pub all_below-at : (n : ℕ) (declared : List Declared) (i : ℕ) (d : Declared) → AllBelow n (symbols_of declared) → i < length declared → d ≡ get_or declared i d → AreBelow n (numbers_of d.constructor.args) × (d.sort.0 < n)
all_below-at n [] i d h lt at = absurd (omega arith)
all_below-at n (x ∷ xs) zero d (p, q, _) lt at = (subst (λ (y : Declared). AreBelow n (numbers_of y.constructor.args)) (sym at) p, subst (λ (y : Declared). y.sort.0 < n) (sym at) q)
all_below-at n (x ∷ xs) (suc i) d (_, _, h) lt at = all_below-at n xs i d h (omega arith) at

pub symbols-at : (declared : List Declared) (i : ℕ) (d : Declared) → i < length declared → d ≡ get_or declared i d → slice_get (symbols_of declared) i ≡ Some (symbol_of d)
symbols-at [] i d lt at = absurd (omega arith)
symbols-at (x ∷ xs) zero d lt at = ap (λ (y : Declared). Some (symbol_of y)) (sym at)
symbols-at (x ∷ xs) (suc i) d lt at = symbols-at xs i d (omega arith) at

all_keep-append : (marks : List Bool) (xs ys : List Symbol) → AllKeep marks xs → AllKeep marks ys → AllKeep marks (xs ++ ys)
all_keep-append marks [] ys h k = k
all_keep-append marks (x ∷ xs) ys (p, h) k = (p, all_keep-append marks xs ys h k)

-- what a round has done so far
abbrev pub IsRound : Bool → List Bool → List Bool → List Symbol → Type 0
IsRound more first now front = MatchBool more (unmarked now < unmarked first) ((now ≡ first) × AllKeep now front)

pub round-marked : (more : Bool) (first now after : List Bool) (front : List Symbol) → IsRound more first now front → unmarked after + 1 ≡ unmarked now → unmarked after < unmarked first
round-marked true first now after front h e = omega arith
round-marked false first now after front (same, _) e = let k = ap unmarked same in omega arith

pub round-kept : (more : Bool) (first now after : List Bool) (declared : List Declared) (i : ℕ) (d : Declared) → IsRound more first now (symbols_of (take i declared)) → after ≡ now → Keeps after (symbol_of d) → i < length declared → d ≡ get_or declared i d → IsRound more first after (symbols_of (take (i + 1) declared))
round-kept true first now after declared i d h e k lt at = subst (λ m. unmarked m < unmarked first) (sym e) h
round-kept false first now after declared i d (same, h) e k lt at = (
  e ∙ same,
  subst (AllKeep after) (sym (ap symbols_of (take_item declared i d lt at) ∙ symbols_of-append (take i declared) (d ∷ [])))
      (all_keep-append after (symbols_of (take i declared)) (symbol_of d ∷ []) (subst (λ m. AllKeep m (symbols_of (take i declared))) (sym e) h) (k, tt)),
)

-- at the end, sorts that are not marked have no terms without variables
all_keep-at : (marks : List Bool) (xs : List Symbol) (c : ℕ) (x : Symbol) → AllKeep marks xs → slice_get xs c ≡ Some x → Keeps marks x
all_keep-at marks [] c x h e = absurd (cc)
all_keep-at marks (y ∷ xs) zero x (p, h) e = let same : y ≡ x = cc in subst (Keeps marks) same p
all_keep-at marks (y ∷ xs) (suc c) x (p, h) e = all_keep-at marks xs c x h e

marked-arguments : (marks : List Bool) (xs ys : List ℕ) → xs ≡ ys → AreMarked marks ys → AreMarked marks xs
marked-arguments marks xs ys e h = subst (AreMarked marks) (sym e) h

pub ground-marked : (sig : Signature) (marks : List Bool) → AllKeep marks sig.symbols → (t : Term) (wanted : List ℕ) (s : ℕ) → IsGround t → Takes sig t wanted s → AreMarked marks wanted → slice_get marks s ≡ Some true
ground-marked sig marks keep (variable p n) wanted s g h m = absurd g
ground-marked sig marks keep (symbol c) wanted s g (x, at, takes, makes) m = ap (slice_get marks) (sym makes) ∙ all_keep-at marks sig.symbols c x keep at (marked-arguments marks x.arguments wanted takes m)
ground-marked sig marks keep (apply f a) wanted s (g, k) (x, hf, ha) m =
    ground-marked sig marks keep f (x ∷ wanted) s g hf (ground-marked sig marks keep a [] x k ha tt, m)

-- the lists of constructors
pub made-push : (n : ℕ) (made : List (List ConId)) (ids : List ConId) → ids ≡ [] → AreMade n made [] → AreMade n (made ++ ids ∷ []) []
made-push n [] ids e h = (ap con_numbers e, tt)
made-push n (x ∷ made) ids e (p, h) = (p, made-push (n + 1) made ids e h)

con_numbers-append : (xs ys : List ConId) → con_numbers (xs ++ ys) ≡ con_numbers xs ++ con_numbers ys
con_numbers-append [] ys = refl
con_numbers-append (x ∷ xs) ys = ap (λ l. x.0 ∷ l) (con_numbers-append xs ys)

pub constructors_from-push : (m s : ℕ) (xs : List Symbol) (x : Symbol) → constructors_from m s (xs ++ x ∷ []) ≡ constructors_from m s xs ++ cond (x.sort == s) ((m + length xs) ∷ []) []
constructors_from-push m s [] x = ap (λ k. cond (x.sort == s) (k ∷ []) []) (omega arith)
constructors_from-push m s (y ∷ xs) x =
    let step : m + 1 + length xs ≡ m + length (y ∷ xs) = omega arith in
    let rest = constructors_from-push (m + 1) s xs x ∙ ap (λ k. constructors_from (m + 1) s xs ++ cond (x.sort == s) (k ∷ []) []) step in
    elim (y.sort == s) as (λ b. cond b (m ∷ constructors_from (m + 1) s (xs ++ x ∷ [])) (constructors_from (m + 1) s (xs ++ x ∷ [])) ≡ cond b (m ∷ constructors_from (m + 1) s xs) (constructors_from (m + 1) s xs) ++ cond (x.sort == s) ((m + length (y ∷ xs)) ∷ []) []) [
      | true ↦ ap (λ l. m ∷ l) rest
      | false ↦ rest
    ]

pub constructors_from-other : (s : ℕ) (xs : List Symbol) (x : Symbol) → x.sort ≢ s → constructors_from 0 s (xs ++ x ∷ []) ≡ constructors_from 0 s xs
constructors_from-other s xs x ne =
    let test : (x.sort == s) ≡ false = grind (arith, nat_tests) in
    constructors_from-push 0 s xs x ∙ ap (λ b. constructors_from 0 s xs ++ cond b ((0 + length xs) ∷ []) []) test ∙ append-nil (constructors_from 0 s xs)

constructors_from-own : (s : ℕ) (xs : List Symbol) (x : Symbol) → x.sort ≡ s → constructors_from 0 s (xs ++ x ∷ []) ≡ constructors_from 0 s xs ++ length xs ∷ []
constructors_from-own s xs x e =
    let test : (x.sort == s) ≡ true = grind (arith, nat_tests) in
    constructors_from-push 0 s xs x ∙ ap (λ b. constructors_from 0 s xs ++ cond b ((0 + length xs) ∷ []) []) test ∙ ap (λ k. constructors_from 0 s xs ++ k ∷ []) (omega arith)

made-other : (n : ℕ) (made : List (List ConId)) (xs : List Symbol) (x : Symbol) → x.sort < n → AreMade n made xs → AreMade n made (xs ++ x ∷ [])
made-other n [] xs x lt h = tt
made-other n (ids ∷ made) xs x lt (p, h) = (p ∙ sym (constructors_from-other n xs x (λ e. absurd (omega arith))), made-other (n + 1) made xs x (omega arith) h)

made-set : (n : ℕ) (made : List (List ConId)) (k : ℕ) (ids new d : List ConId) (c : ConId) (xs : List Symbol) (x : Symbol) → AreMade n made xs → k < length made → x.sort ≡ n + k → ids ≡ get_or made k d → new ≡ ids ++ c ∷ [] → c.0 ≡ length xs → AreMade n (set made k new) (xs ++ x ∷ [])
made-set n [] k ids new d c xs x h lt e g w j = absurd (omega arith)
made-set n (own ∷ made) zero ids new d c xs x (p, h) lt e g w j = (
  ap con_numbers (w ∙ ap (λ l. l ++ c ∷ []) g) ∙ con_numbers-append own (c ∷ []) ∙ ap₂ (λ l k. l ++ k ∷ []) p j ∙ sym (constructors_from-own n xs x (omega arith)),
  made-other (n + 1) made xs x (omega arith) h,
)
made-set n (own ∷ made) (suc k) ids new d c xs x (p, h) lt e g w j = (
  p ∙ sym (constructors_from-other n xs x (λ q. absurd (omega arith))),
  made-set (n + 1) made k ids new d c xs x h (omega arith) (omega arith) g w j,
)

symbols_of-length : (xs : List Declared) → length (symbols_of xs) ≡ length xs
symbols_of-length [] = refl
symbols_of-length (x ∷ xs) = omega (arith, symbols_of-length xs)

pub made-step : (made : List (List ConId)) (k : ℕ) (ids new d : List ConId) (c : ConId) (declared : List Declared) (i : ℕ) (x : Declared) → AreMade 0 made (symbols_of (take i declared)) → k < length made → x.sort.0 ≡ k → ids ≡ get_or made k d → new ≡ ids ++ c ∷ [] → c.0 ≡ i → length (take i declared) ≡ i → i < length declared → x ≡ get_or declared i x → AreMade 0 (set made k new) (symbols_of (take (i + 1) declared))
made-step made k ids new d c declared i x h lt e g w j l il at =
    let front = symbols_of (take i declared) in
    let n : c.0 ≡ length front = j ∙ sym l ∙ sym (symbols_of-length (take i declared)) in
    subst (AreMade 0 (set made k new)) (sym (ap symbols_of (take_item declared i x il at) ∙ symbols_of-append (take i declared) (x ∷ [])))
    (made-set 0 made k ids new d c front (symbol_of x) h lt (e ∙ omega arith) g w n)
