-- The signature that is spelled is one alone, and a sound one leaves nothing to refuse.
use Rattle.std.proofs.Common.{◌≡◌, ℕ, ◌+◌, ◌<◌, ◌≤◌, ◌||◌, true, false, zero, suc, List, [], ◌∷◌, ◌++◌, take, get_or, length, map, refl, ap, ap₂, sym, ◌∙◌, subst, inl, inr, Option, Some, slice_get, arith}
use Rattle.std.proofs.lemmas.Bool.{or_parts, or_left, or_right, false≢true, cases_Bool}
use Rattle.std.proofs.lemmas.List.{take_all}
use Rattle.std.proofs.lemmas.Option.{slice_get_within}
use Rattle.std.specs.Str.{bytes_eq}
use Rattle.psg_terms.specs.Names.{Name, is_among, has_twice}
use Rattle.psg_terms.specs.Signature.{Signature, Symbol, AreSorts, AreClosed}
use Rattle.psg_terms.specs.Sound.{IsSound}
use Rattle.psg_terms.specs.Declarations.{sort_names, Numbered, with_sort, in_order, names_in, AreNamed, AreSpelled, IsSymbol, IsSpelled, IsFirstRepeat, AreDistinct, AllAmong, IsFirstEmpty, IsFirstWide}
use Rattle.psg_terms.specs.Refusals.{IsRefused, MayRefuse}
use Rattle.psg_terms.specs.Lacks.{MayLack}
use Rattle.psg_terms.specs.Numbered.{MayMisspell}
use Rattle.psg_terms.specs.Kept.{symbols_of, symbol_of}
use Rattle.psg_terms.specs.Marks.{AllBelow}
use Rattle.psg_terms.specs.Keeping.{IsKept}
use Rattle.psg_terms.specs.declared.declare.ConDecl.{ConDecl}
use Rattle.psg_terms.specs.declared.declare.SortDecl.{SortDecl}
use Rattle.psg_terms.specs.declared.declare.SigFault.{SigFault}
use Rattle.psg_terms.specs.declared.declare.SigFault.TheVariants.{Repeated, UnknownSort, NoGround, OneWide, Memory}
use Rattle.psg_terms.specs.declared.sorts.ConId.{ConId}
use Rattle.psg_terms.specs.declared.sorts.Declared.{Declared}
use Rattle.psg_terms.proofs.DeclareLaws.{is_among-append, is_among-at, bytes_eq-same, bytes_eq-refl, spelled-among, sort_names-length}
use Rattle.psg_terms.proofs.DeclareSteps.{take-at}
use Rattle.psg_terms.proofs.DeclareFaults.{has_twice-take, symbol_names}
use Rattle.psg_terms.proofs.Soundness.{symbols_of-length}

-- an accepted signature
symbols-get : (declared : List Declared) (i : ℕ) (d : Declared) → i < length declared → slice_get (symbols_of declared) i ≡ Some (symbol_of (get_or declared i d))
symbols-get [] i d lt = absurd (omega arith)
symbols-get (x ∷ xs) zero d lt = refl
symbols-get (x ∷ xs) (suc i) d lt = symbols-get xs i d (omega arith)

pub kept-below : (sig : Signature) (declared slice : List Declared) (k : ℕ) → symbols_of declared ≡ sig.symbols → slice ≡ declared → k < length sig.symbols → k < length slice
kept-below sig declared slice k e s lt = let a = ap length e in let b = symbols_of-length declared in let l = ap length s in omega arith

pub kept-at : (sig : Signature) (declared slice : List Declared) (k : ℕ) (d : Declared) → symbols_of declared ≡ sig.symbols → slice ≡ declared → k < length sig.symbols → slice_get sig.symbols k ≡ Some (symbol_of (get_or slice k d))
kept-at sig declared slice k d e s lt = ap (λ xs. slice_get xs k) (sym e ∙ ap symbols_of (sym s)) ∙ symbols-get slice k d (kept-below sig declared slice k e s lt)

pub below_as : (n m : ℕ) (xs ys : List Declared) → m ≡ n → ys ≡ xs → AllBelow n (symbols_of xs) → AllBelow m (symbols_of ys)
below_as n m xs ys e d h = subst (λ k. AllBelow k (symbols_of ys)) (sym e) (subst (λ zs. AllBelow n (symbols_of zs)) (sym d) h)

pub kept_as : (names n : List Name) (declared d : List Declared) (made m : List (List ConId)) → n ≡ names → d ≡ declared → m ≡ made → IsKept names declared made → IsKept n d m
kept_as names n declared d made m e f g h = subst (λ x. IsKept x d m) (sym e) (subst (λ x. IsKept names x m) (sym f) (subst (IsKept names declared) (sym g) h))

-- names that stand once
pub has_twice-again : (xs : List Name) (n : Name) → is_among xs n ≡ true → has_twice (xs ++ n ∷ []) ≡ true
has_twice-again [] n h = absurd (false≢true h)
has_twice-again (x ∷ xs) n h =
    elim (cases_Bool (bytes_eq x n)) [
      | inl e ↦ or_left (is_among (xs ++ n ∷ []) x) (has_twice (xs ++ n ∷ []))
          (is_among-append xs (n ∷ []) x ∙ or_right (is_among xs x) (bytes_eq n x || false) (or_left (bytes_eq n x) false (ap (bytes_eq n) (bytes_eq-same x n e) ∙ bytes_eq-refl n)))
      | inr e ↦ or_right (is_among (xs ++ n ∷ []) x) (has_twice (xs ++ n ∷ [])) (has_twice-again xs n (ap (λ b. b || is_among xs n) (sym e) ∙ h))
    ]

pub repeat-twice : (names : List Name) (i : ℕ) (n : Name) → IsFirstRepeat names i n → has_twice names ≡ false → ⊥
repeat-twice names i n r h =
    let lt = slice_get_within names i n r.at in
    let short = has_twice-take (i + 1) (length names) names (omega arith) (ap has_twice (take_all (length names) names (omega arith)) ∙ h) in
    false≢true (sym short ∙ ap has_twice (take-at names i n r.at) ∙ has_twice-again (take i names) n r.again)

-- a name that is once among the names has one place
pub one_place : (names : List Name) (i j : ℕ) (n : Name) → has_twice names ≡ false → slice_get names i ≡ Some n → slice_get names j ≡ Some n → i ≡ j
one_place [] i j n h a b = absurd (cc)
one_place (x ∷ xs) zero zero n h a b = refl
one_place (x ∷ xs) zero (suc j) n h a b =
    let both = or_parts (is_among xs x) (has_twice xs) h in
    let same : x ≡ n = cc in
    absurd (false≢true (sym both.0 ∙ ap (is_among xs) same ∙ is_among-at xs j n b))
one_place (x ∷ xs) (suc i) zero n h a b =
    let both = or_parts (is_among xs x) (has_twice xs) h in
    let same : x ≡ n = cc in
    absurd (false≢true (sym both.0 ∙ ap (is_among xs) same ∙ is_among-at xs i n a))
one_place (x ∷ xs) (suc i) (suc j) n h a b = ap suc (one_place xs i j n (or_parts (is_among xs x) (has_twice xs) h).1 a b)

one_named : (sorts names : List Name) (xs ys : List ℕ) → has_twice sorts ≡ false → AreNamed sorts names xs → AreNamed sorts names ys → xs ≡ ys
one_named sorts [] [] [] h a b = refl
one_named sorts [] [] (y ∷ ys) h a b = absurd b
one_named sorts [] (x ∷ xs) ys h a b = absurd a
one_named sorts (n ∷ names) [] ys h a b = absurd a
one_named sorts (n ∷ names) (x ∷ xs) [] h a b = absurd b
one_named sorts (n ∷ names) (x ∷ xs) (y ∷ ys) h (p, a) (q, b) = ap₂ (λ z zs. z ∷ zs) (one_place sorts x y n h p q) (one_named sorts names xs ys h a b)

one_symbol : (sorts : List Name) (c : Numbered) (x y : Symbol) → has_twice sorts ≡ false → IsSymbol sorts c x → IsSymbol sorts c y → x ≡ y
one_symbol sorts c x y h a b =
    let args = one_named sorts c.1.args x.arguments y.arguments h a.arguments b.arguments in
    made x.name x.arguments x.sort y.name y.arguments y.sort (a.name ∙ sym b.name) args (a.sort ∙ sym b.sort)
  where
    made : (n : Name) (ss : List ℕ) (s : ℕ) (n' : Name) (ss' : List ℕ) (s' : ℕ) → n ≡ n' → ss ≡ ss' → s ≡ s' → ◌≡◌ {A = Symbol} (record { name = n; arguments = ss; sort = s }) (record { name = n'; arguments = ss'; sort = s' })
    made n ss s n' ss' s' e f g = ap (λ k. record { name = k; arguments = ss; sort = s }) e ∙ ap (λ k. record { name = n'; arguments = k; sort = s }) f ∙ ap (λ k. record { name = n'; arguments = ss'; sort = k }) g

one_spelling : (sorts : List Name) (cs : List Numbered) (xs ys : List Symbol) → has_twice sorts ≡ false → AreSpelled sorts cs xs → AreSpelled sorts cs ys → xs ≡ ys
one_spelling sorts [] [] [] h a b = refl
one_spelling sorts [] [] (y ∷ ys) h a b = absurd b
one_spelling sorts [] (x ∷ xs) ys h a b = absurd a
one_spelling sorts (c ∷ cs) [] ys h a b = absurd a
one_spelling sorts (c ∷ cs) (x ∷ xs) [] h a b = absurd b
one_spelling sorts (c ∷ cs) (x ∷ xs) (y ∷ ys) h (p, a) (q, b) = ap₂ (λ z zs. z ∷ zs) (one_symbol sorts c x y h p q) (one_spelling sorts cs xs ys h a b)

pub one_signature : (written : List SortDecl) (a b : Signature) → AreDistinct written → IsSpelled written a → IsSpelled written b → a ≡ b
one_signature written a b d ha hb =
    made a.sorts a.symbols b.sorts b.symbols (ha.sorts ∙ sym hb.sorts) (one_spelling (sort_names written) (in_order 0 written) a.symbols b.symbols d.sorts ha.symbols hb.symbols)
  where
    made : (n : List Name) (xs : List Symbol) (n' : List Name) (xs' : List Symbol) → n ≡ n' → xs ≡ xs' → ◌≡◌ {A = Signature} (record { sorts = n; symbols = xs }) (record { sorts = n'; symbols = xs' })
    made n xs n' xs' e f = ap (λ k. record { sorts = k; symbols = xs }) e ∙ ap (λ k. record { sorts = n'; symbols = k }) f

pub all_among-middle : (names front behind : List Name) (n : Name) → AllAmong names (front ++ n ∷ behind) → is_among names n ≡ true
all_among-middle names [] behind n (p, _) = p
all_among-middle names (x ∷ front) behind n (_, h) = all_among-middle names front behind n h

-- a sound signature has no sort without a term and no wide one
not_empty : (sig : Signature) (s : ℕ) → IsSound sig → IsFirstEmpty sig s → ⊥
not_empty sig s sound e = let t = sound.inhabited s e.inside in e.empty t.0 t.1 t.2

not_wide : (sig : Signature) (s : ℕ) → IsSound sig → IsFirstWide sig s → ⊥
not_wide sig s sound w =
    let h = sound.constant s w.wide.constructor w.inside w.wide.only in
    let q : ◌≡◌ {A = Option Symbol} (Some h.0) (Some w.wide.found) = sym h.1 ∙ w.wide.at in
    let same : h.0 ≡ w.wide.found = cc in
    let none = ap length (ap (λ (x : Symbol). x.arguments) (sym same) ∙ h.2) in
    let some = w.wide.wide in
    absurd (omega arith)

pub not_refused : (written : List SortDecl) (sig : Signature) → AreDistinct written → IsSpelled written sig → IsSound sig → (fault : SigFault) → IsRefused written fault → ⊥
not_refused written sig d h sound (Repeated n) (inl r) = repeat-twice (sort_names written) r.sort n r.repeat d.sorts
not_refused written sig d h sound (Repeated n) (inr r) = repeat-twice (names_in (in_order 0 written)) r.place n r.repeat d.constructors
not_refused written sig d h sound (UnknownSort n) r =
    let f = r.first in
    let all = spelled-among (sort_names written) (in_order 0 written) sig.symbols h.symbols in
    false≢true (sym f.missing ∙ all_among-middle (sort_names written) f.front f.behind n (subst (AllAmong (sort_names written)) f.split all))
not_refused written sig d h sound (NoGround s) r = not_empty sig s.0 sound (subst (λ x. IsFirstEmpty x s.0) (one_signature written r.sig sig d r.spelled h) r.fault)
not_refused written sig d h sound (OneWide s) r = not_wide sig s.0 sound (subst (λ x. IsFirstWide x s.0) (one_signature written r.sig sig d r.spelled h) r.fault)
not_refused written sig d h sound Memory r = r

-- a spelled signature is closed
sorts_named : (sig : Signature) (names : List Name) (ss : List ℕ) → AreNamed sig.sorts names ss → AreSorts sig ss
sorts_named sig [] [] h = tt
sorts_named sig [] (s ∷ ss) h = absurd h
sorts_named sig (n ∷ names) [] h = absurd h
sorts_named sig (n ∷ names) (s ∷ ss) (p, h) = (slice_get_within sig.sorts s n p, sorts_named sig names ss h)

abbrev SortsBelow : ℕ → List Numbered → Type 0
SortsBelow n [] = Unit {0}
SortsBelow n (c ∷ cs) = (c.0 < n) × SortsBelow n cs

below-append : (n : ℕ) (xs ys : List Numbered) → SortsBelow n xs → SortsBelow n ys → SortsBelow n (xs ++ ys)
below-append n [] ys h k = k
below-append n (x ∷ xs) ys (p, h) k = (p, below-append n xs ys h k)

with_sort-below : (n s : ℕ) (own : List ConDecl) → s < n → SortsBelow n (with_sort s own)
with_sort-below n s [] lt = tt
with_sort-below n s (o ∷ own) lt = (lt, with_sort-below n s own lt)

in_order-below : (n s : ℕ) (ds : List SortDecl) → s + length ds ≤ n → SortsBelow n (in_order s ds)
in_order-below n s [] le = tt
in_order-below n s (d ∷ ds) le = below-append n (with_sort s d.constructors) (in_order (s + 1) ds) (with_sort-below n s d.constructors (omega arith)) (in_order-below n (s + 1) ds (omega arith))

spelled-closed : (sig : Signature) (sorts : List Name) (cs : List Numbered) (xs : List Symbol) → sig.sorts ≡ sorts → SortsBelow (length sig.sorts) cs → AreSpelled sorts cs xs → AreClosed sig xs
spelled-closed sig sorts [] [] e b h = tt
spelled-closed sig sorts [] (x ∷ xs) e b h = absurd h
spelled-closed sig sorts (c ∷ cs) [] e b h = absurd h
spelled-closed sig sorts (c ∷ cs) (x ∷ xs) e (p, b) (q, h) = (
  sorts_named sig c.1.args x.arguments (subst (λ l. AreNamed l c.1.args x.arguments) (sym e) q.arguments),
  subst (λ k. k < length sig.sorts) (sym q.sort) p,
  spelled-closed sig sorts cs xs e b h,
)

pub is_closed : (written : List SortDecl) (sig : Signature) → IsSpelled written sig → AreClosed sig sig.symbols
is_closed written sig h =
    let l = ap length h.sorts ∙ sort_names-length written in
    spelled-closed sig (sort_names written) (in_order 0 written) sig.symbols h.sorts (in_order-below (length sig.sorts) 0 written (omega arith)) h.symbols

pub few_sorts : (written : List SortDecl) (sig : Signature) → IsSpelled written sig → length sig.sorts ≡ length written
few_sorts written sig h = ap length h.sorts ∙ sort_names-length written

map-length : (xs : List Symbol) → length (map (λ (x : Symbol). x.name) xs) ≡ length xs
map-length [] = refl
map-length (x ∷ xs) = omega (arith, map-length xs)

pub few_constructors : (written : List SortDecl) (sig : Signature) → IsSpelled written sig → length sig.symbols ≡ length (names_in (in_order 0 written))
few_constructors written sig h = sym (map-length sig.symbols) ∙ ap length (symbol_names written sig h)

-- faults of names and of terms are faults
pub misspelled : (written : List SortDecl) (e : SigFault) → MayMisspell written e → MayRefuse written e
misspelled written (Repeated n) h = h
misspelled written (UnknownSort n) h = h
misspelled written (NoGround s) h = absurd h
misspelled written (OneWide s) h = absurd h
misspelled written Memory h = tt

pub lacking : (written : List SortDecl) (sig : Signature) (e : SigFault) → AreDistinct written → IsSpelled written sig → MayLack sig e → MayRefuse written e
lacking written sig (Repeated n) d h f = absurd f
lacking written sig (UnknownSort n) d h f = absurd f
lacking written sig (NoGround s) d h f = record { distinct = d; sig = sig; spelled = h; fault = f }
lacking written sig (OneWide s) d h f = record { distinct = d; sig = sig; spelled = h; fault = f }
lacking written sig Memory d h f = tt
