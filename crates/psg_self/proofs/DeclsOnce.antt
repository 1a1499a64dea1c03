-- A signature is spelled by one list of sorts.
use Rattle.std.proofs.Common.{arith, ◌≡◌, ℕ, ◌+◌, ◌<◌, Some, List, [], ◌∷◌, ◌++◌, drop, length, refl, ap, ap₂, sym, ◌∙◌, subst}
use Rattle.std.specs.List.{AllByRecursion}
use Rattle.psg_terms.specs.Names.{Name}
use Rattle.psg_terms.specs.Signature.{Signature, Symbol}
use Rattle.psg_terms.specs.declared.declare.ConDecl.{ConDecl}
use Rattle.psg_terms.specs.declared.declare.SortDecl.{SortDecl}
use Rattle.psg_terms.specs.Declarations.{sort_names, Numbered, with_sort, in_order, AreNamed, IsSymbol, AreSpelled, IsSpelled}

some-is : (a b : Name) → Some a ≡ Some b → a ≡ b
some-is a b e = cc

named-once : (sorts ns ms : List Name) (ss : List ℕ) → AreNamed sorts ns ss → AreNamed sorts ms ss → ns ≡ ms
named-once sorts [] [] [] h k = refl
named-once sorts [] (m ∷ ms) [] h k = absurd k
named-once sorts (n ∷ ns) ms [] h k = absurd h
named-once sorts [] ms (s ∷ ss) h k = absurd h
named-once sorts (n ∷ ns) [] (s ∷ ss) h k = absurd k
named-once sorts (n ∷ ns) (m ∷ ms) (s ∷ ss) h k =
    ap₂ (λ x xs. x ∷ xs) (some-is n m (sym h.0 ∙ k.0)) (named-once sorts ns ms ss h.1 k.1)

abbrev constructor : Name → List Name → ConDecl
constructor n args = record { name = n; args = args }

abbrev sort : Name → List ConDecl → SortDecl
sort n cs = record { name = n; constructors = cs }

symbol-once : (sorts : List Name) (c d : Numbered) (x : Symbol) → IsSymbol sorts c x → IsSymbol sorts d x → c ≡ d
symbol-once sorts c d x h k =
    ap₂ (λ (s : ℕ) (e : ConDecl). (s, e)) (sym h.sort ∙ k.sort)
    (ap₂ constructor (sym h.name ∙ k.name)
    (named-once sorts c.1.args d.1.args x.arguments h.arguments k.arguments))

spelled-once : (sorts : List Name) (cs ds : List Numbered) (xs : List Symbol) → AreSpelled sorts cs xs → AreSpelled sorts ds xs → cs ≡ ds
spelled-once sorts [] [] [] h k = refl
spelled-once sorts [] (d ∷ ds) [] h k = absurd k
spelled-once sorts (c ∷ cs) ds [] h k = absurd h
spelled-once sorts [] ds (x ∷ xs) h k = absurd h
spelled-once sorts (c ∷ cs) [] (x ∷ xs) h k = absurd k
spelled-once sorts (c ∷ cs) (d ∷ ds) (x ∷ xs) h k =
    ap₂ (λ y ys. y ∷ ys) (symbol-once sorts c d x h.0 k.0) (spelled-once sorts cs ds xs h.1 k.1)

abbrev IsAbove : ℕ → Numbered → Type 0
IsAbove n c = n < c.0

with-above : (n m : ℕ) (cs : List ConDecl) (r : List Numbered) → n < m → AllByRecursion (IsAbove n) r → AllByRecursion (IsAbove n) (with_sort m cs ++ r)
with-above n m [] r h k = k
with-above n m (c ∷ cs) r h k = (h, with-above n m cs r h k)

order-above : (n m : ℕ) (ds : List SortDecl) → n < m → AllByRecursion (IsAbove n) (in_order m ds)
order-above n m [] h = tt
order-above n m (d ∷ ds) h = with-above n m d.constructors (in_order (m + 1) ds) h (order-above n (m + 1) ds (omega (arith, h)))

abbrev first_number : List Numbered → ℕ
first_number [] = 0
first_number (c ∷ cs) = c.0

abbrev first_con : ConDecl → List Numbered → ConDecl
first_con d [] = d
first_con d (c ∷ cs) = c.1

not-above : (n : ℕ) (k : ConDecl) (ks r : List Numbered) → AllByRecursion (IsAbove n) r → r ≡ (n, k) ∷ ks → ⊥
not-above n k ks r h e = omega (arith, (subst (AllByRecursion (IsAbove n)) e h).0)

split-once : (n : ℕ) (cs ks : List ConDecl) (r q : List Numbered) → AllByRecursion (IsAbove n) r → AllByRecursion (IsAbove n) q
    → with_sort n cs ++ r ≡ with_sort n ks ++ q → (cs ≡ ks) × (r ≡ q)
split-once n [] [] r q h k e = (refl, e)
split-once n [] (d ∷ ks) r q h k e = absurd (not-above n d (with_sort n ks ++ q) r h e)
split-once n (c ∷ cs) [] r q h k e = absurd (not-above n c (with_sort n cs ++ r) q k (sym e))
split-once n (c ∷ cs) (d ∷ ks) r q h k e =
    let rest = split-once n cs ks r q h k (ap (drop 1) e) in
    (ap₂ (λ x xs. x ∷ xs) (ap (first_con c) e) rest.0, rest.1)

abbrev first_name : List Name → Name
first_name [] = []
first_name (n ∷ ns) = n

order-once : (n : ℕ) (ds es : List SortDecl) → sort_names ds ≡ sort_names es → in_order n ds ≡ in_order n es → ds ≡ es
order-once n [] [] h e = refl
order-once n [] (x ∷ es) h e = absurd (omega (arith, ap length h))
order-once n (d ∷ ds) [] h e = absurd (omega (arith, ap length h))
order-once n (d ∷ ds) (x ∷ es) h e =
    let next : n < n + 1 = omega arith in
    let both = split-once n d.constructors x.constructors (in_order (n + 1) ds) (in_order (n + 1) es)
    (order-above n (n + 1) ds next) (order-above n (n + 1) es next) e in
    ap₂ (λ y ys. y ∷ ys) (ap₂ sort (ap first_name h) both.0)
    (order-once (n + 1) ds es (ap (drop 1) h) both.1)

pub decls-once : (ds es : List SortDecl) (sig : Signature) → IsSpelled ds sig → IsSpelled es sig → ds ≡ es
decls-once ds es sig h k =
    let names : sort_names ds ≡ sort_names es = sym h.sorts ∙ k.sorts in
    order-once 0 ds es names
    (spelled-once (sort_names ds) (in_order 0 ds) (in_order 0 es) sig.symbols h.symbols
    (subst (λ ns. AreSpelled ns (in_order 0 es) sig.symbols) (sym names) k.symbols))
