-- Laws of sorts and constructors as they are written.
use Rattle.std.proofs.Common.{◌≡◌, ℕ, ◌+◌, ◌<◌, ◌||◌, true, false, cond, zero, suc, List, [], ◌∷◌, ◌++◌, take, drop, get_or, length, refl, ap, sym, ◌∙◌, subst, inl, inr, Option, Some, None, is_some, slice_get, MatchOption, append_assoc, append-nil, arith}
use Rattle.std.proofs.lemmas.Bool.{or_parts, or_from, or_left, or_right, false≢true, cases_Bool}
use Rattle.std.proofs.lemmas.Slice.Eq.{bytes_eq-Decides}
use Rattle.std.proofs.lemmas.Map.Text.{hash_map_updates_str}
use Rattle.psg_terms.proofs.Lists.{slice_get-end, slice_get-front}
use Rattle.std.specs.Str.{bytes_eq}
use Rattle.std.specs.HashMap.{get_by, UpdatesBy}
use Rattle.std.specs.Map.{lookup}
use Rattle.psg_terms.specs.Names.{Name, is_among, has_twice}
use Rattle.psg_terms.specs.Signature.{Symbol}
use Rattle.psg_terms.specs.Declarations.{sort_names, Numbered, with_sort, in_order, names_in, arguments_in, AreNamed, AreSpelled, IsSymbol, AllAmong}
use Rattle.psg_terms.specs.Numbered.{places, Numbers, Knows}
use Rattle.psg_terms.specs.Kept.{numbers_of, symbols_of, symbol_of}
use Rattle.psg_terms.specs.declared.declare.ConDecl.{ConDecl}
use Rattle.psg_terms.specs.declared.declare.SortDecl.{SortDecl}
use Rattle.psg_terms.specs.declared.declare.Placed.{Placed}
use Rattle.psg_terms.specs.declared.sorts.SortId.{SortId}
use Rattle.psg_terms.specs.declared.sorts.Declared.{Declared}

-- an element, what stands before it and what stands behind it
pub around : {X : Type 0} (xs : List X) (i : ℕ) (x : X) → i < length xs → x ≡ get_or xs i x → xs ≡ take i xs ++ x ∷ drop (suc i) xs
around [] i x h e = absurd (omega arith)
around (y ∷ ys) zero x h e = ap (λ z. z ∷ ys) (sym e)
around (y ∷ ys) (suc i) x h e = ap (λ zs. y ∷ zs) (around ys i x (omega arith) e)

pub with_sort-append : (s : ℕ) (xs ys : List ConDecl) → with_sort s (xs ++ ys) ≡ with_sort s xs ++ with_sort s ys
with_sort-append s [] ys = refl
with_sort-append s (x ∷ xs) ys = ap (λ l. (s, x) ∷ l) (with_sort-append s xs ys)

pub in_order-push : (n : ℕ) (ds : List SortDecl) (d : SortDecl) → in_order n (ds ++ d ∷ []) ≡ in_order n ds ++ with_sort (n + length ds) d.constructors
in_order-push n [] d = append-nil (with_sort n d.constructors) ∙ ap (λ k. with_sort k d.constructors) (omega arith)
in_order-push n (x ∷ ds) d =
    ap (λ l. with_sort n x.constructors ++ l) (in_order-push (n + 1) ds d ∙ ap (λ k. in_order (n + 1) ds ++ with_sort k d.constructors) (omega arith))
    ∙ sym (append_assoc (with_sort n x.constructors) (in_order (n + 1) ds) (with_sort (n + length (x ∷ ds)) d.constructors))

pub places-append : (xs ys : List Placed) → places (xs ++ ys) ≡ places xs ++ places ys
places-append [] ys = refl
places-append (x ∷ xs) ys = ap (λ l. (x.sort.0, x.decl.now) ∷ l) (places-append xs ys)

pub names_in-append : (xs ys : List Numbered) → names_in (xs ++ ys) ≡ names_in xs ++ names_in ys
names_in-append [] ys = refl
names_in-append (x ∷ xs) ys = ap (λ l. x.1.name ∷ l) (names_in-append xs ys)

pub arguments_in-append : (xs ys : List Numbered) → arguments_in (xs ++ ys) ≡ arguments_in xs ++ arguments_in ys
arguments_in-append [] ys = refl
arguments_in-append (x ∷ xs) ys = ap (λ l. x.1.args ++ l) (arguments_in-append xs ys) ∙ sym (append_assoc x.1.args (arguments_in xs) (arguments_in ys))

pub sort_names-append : (xs ys : List SortDecl) → sort_names (xs ++ ys) ≡ sort_names xs ++ sort_names ys
sort_names-append [] ys = refl
sort_names-append (x ∷ xs) ys = ap (λ l. x.name ∷ l) (sort_names-append xs ys)

pub sort_names-length : (xs : List SortDecl) → length (sort_names xs) ≡ length xs
sort_names-length [] = refl
sort_names-length (x ∷ xs) = omega (arith, sort_names-length xs)

pub sort_names-take : (i : ℕ) (xs : List SortDecl) → sort_names (take i xs) ≡ take i (sort_names xs)
sort_names-take zero xs = refl
sort_names-take (suc i) [] = refl
sort_names-take (suc i) (x ∷ xs) = ap (λ l. x.name ∷ l) (sort_names-take i xs)

pub sort_names-at : (xs : List SortDecl) (i : ℕ) (x : SortDecl) → i < length xs → x ≡ get_or xs i x → slice_get (sort_names xs) i ≡ Some x.name
sort_names-at [] i x h e = absurd (omega arith)
sort_names-at (y ∷ ys) zero x h e = ap (λ (z : SortDecl). Some z.name) (sym e)
sort_names-at (y ∷ ys) (suc i) x h e = sort_names-at ys i x (omega arith) e

pub names_in-take : (i : ℕ) (xs : List Placed) → names_in (places (take i xs)) ≡ take i (names_in (places xs))
names_in-take zero xs = refl
names_in-take (suc i) [] = refl
names_in-take (suc i) (x ∷ xs) = ap (λ l. x.decl.now.name ∷ l) (names_in-take i xs)

pub names_in-at : (xs : List Placed) (i : ℕ) (x : Placed) → i < length xs → x ≡ get_or xs i x → slice_get (names_in (places xs)) i ≡ Some x.decl.now.name
names_in-at [] i x h e = absurd (omega arith)
names_in-at (y ∷ ys) zero x h e = ap (λ (z : Placed). Some z.decl.now.name) (sym e)
names_in-at (y ∷ ys) (suc i) x h e = names_in-at ys i x (omega arith) e

-- tests of names
pub bytes_eq-same : (m n : Name) → bytes_eq m n ≡ true → m ≡ n
bytes_eq-same m n h = (bytes_eq-Decides m n).0 h

pub bytes_eq-refl : (n : Name) → bytes_eq n n ≡ true
bytes_eq-refl n = (bytes_eq-Decides n n).1 refl

pub bytes_eq-sym : (m n : Name) → bytes_eq m n ≡ false → bytes_eq n m ≡ false
bytes_eq-sym m n h = elim (cases_Bool (bytes_eq n m)) [
  | inl e ↦ absurd (false≢true (sym h ∙ ap (bytes_eq m) (bytes_eq-same n m e) ∙ bytes_eq-refl m))
  | inr e ↦ e
]

pub is_among-append : (xs ys : List Name) (n : Name) → is_among (xs ++ ys) n ≡ (is_among xs n || is_among ys n)
is_among-append [] ys n = refl
is_among-append (x ∷ xs) ys n = elim (bytes_eq x n) as (λ b. (b || is_among (xs ++ ys) n) ≡ ((b || is_among xs n) || is_among ys n)) [ true ↦ refl | false ↦ is_among-append xs ys n ]

pub is_among-at : (xs : List Name) (i : ℕ) (n : Name) → slice_get xs i ≡ Some n → is_among xs n ≡ true
is_among-at [] i n e = absurd (cc)
is_among-at (x ∷ xs) zero n e = or_left (bytes_eq x n) (is_among xs n) (let same : x ≡ n = cc in ap (bytes_eq x) (sym same) ∙ bytes_eq-refl x)
is_among-at (x ∷ xs) (suc i) n e = or_right (bytes_eq x n) (is_among xs n) (is_among-at xs i n e)

pub has_twice-push : (xs : List Name) (n : Name) → has_twice xs ≡ false → is_among xs n ≡ false → has_twice (xs ++ n ∷ []) ≡ false
has_twice-push [] n h k = refl
has_twice-push (x ∷ xs) n h k =
    let both = or_parts (is_among xs x) (has_twice xs) h in
    let other = or_parts (bytes_eq x n) (is_among xs n) k in
    or_from (is_among (xs ++ n ∷ []) x) (has_twice (xs ++ n ∷ []))
    (is_among-append xs (n ∷ []) x ∙ or_from (is_among xs x) (bytes_eq n x || false) both.0 (or_from (bytes_eq n x) false (bytes_eq-sym x n other.0) refl))
    (has_twice-push xs n both.1 other.1)

pub has_twice-front : (xs ys : List Name) → has_twice (xs ++ ys) ≡ false → has_twice xs ≡ false
has_twice-front [] ys h = refl
has_twice-front (x ∷ xs) ys h =
    let both = or_parts (is_among (xs ++ ys) x) (has_twice (xs ++ ys)) h in
    let other = or_parts (is_among xs x) (is_among ys x) (sym (is_among-append xs ys x) ∙ both.0) in
    or_from (is_among xs x) (has_twice xs) other.0 (has_twice-front xs ys both.1)

-- what a map knows of names
abbrev pub Known : List Name → Name → Option ℕ → Type 0
Known names n o = MatchOption o (is_among names n ≡ false) (λ s. slice_get names s ≡ Some n)

known-more : (names : List Name) (n m : Name) (o : Option ℕ) → bytes_eq n m ≡ false → Known names m o → Known (names ++ n ∷ []) m o
known-more names n m None h k = is_among-append names (n ∷ []) m ∙ or_from (is_among names m) (bytes_eq n m || false) k (or_from (bytes_eq n m) false h refl)
known-more names n m (Some s) h k = slice_get-front names (n ∷ []) s m k

pub knows-push : (names : List Name) (n : Name) (i : ℕ) (old new : Numbers) → Knows names old → UpdatesBy (λ x y. bytes_eq x.now y.now) (λ k. bytes_eq n k.now) old new (Some i) → i ≡ length names → Knows (names ++ n ∷ []) new
knows-push names n i old new h u e m =
    let found = hash_map_updates_str n old new (Some i) u m in
    elim (cases_Bool (bytes_eq n m)) [
      | inl t ↦ subst (Known (names ++ n ∷ []) m) (sym (found ∙ ap (λ b. cond b (Some i) (get_by (λ k. bytes_eq m k.now) old)) t))
          (ap (slice_get (names ++ n ∷ [])) e ∙ slice_get-end names n ∙ ap Some (bytes_eq-same n m t))
      | inr t ↦ subst (Known (names ++ n ∷ []) m) (sym (found ∙ ap (λ b. cond b (Some i) (get_by (λ k. bytes_eq m k.now) old)) t))
          (known-more names n m (get_by (λ k. bytes_eq m k.now) old) t (h m))
    ]

pub knows-empty : (m : Numbers) → m.entries ≡ [] → Knows [] m
knows-empty m e n = subst (λ es. Known [] n (lookup (λ k. bytes_eq n k.now) es)) (sym e) refl

known-among : (names : List Name) (n : Name) (o : Option ℕ) → Known names n o → is_some o ≡ is_among names n
known-among names n None h = sym h
known-among names n (Some s) h = sym (is_among-at names s n h)

pub knows-among : (names : List Name) (m : Numbers) (n : Name) → Knows names m → is_some (get_by (λ k. bytes_eq n k.now) m) ≡ is_among names n
knows-among names m n h = known-among names n (get_by (λ k. bytes_eq n k.now) m) (h n)

-- the names of arguments
pub numbers_of-append : (xs ys : List SortId) → numbers_of (xs ++ ys) ≡ numbers_of xs ++ numbers_of ys
numbers_of-append [] ys = refl
numbers_of-append (x ∷ xs) ys = ap (λ l. x.0 ∷ l) (numbers_of-append xs ys)

pub named-push : (sorts names : List Name) (ss : List ℕ) (n : Name) (s : ℕ) → AreNamed sorts names ss → slice_get sorts s ≡ Some n → AreNamed sorts (names ++ n ∷ []) (ss ++ s ∷ [])
named-push sorts [] [] n s h e = (e, tt)
named-push sorts [] (x ∷ ss) n s h e = absurd h
named-push sorts (m ∷ names) [] n s h e = absurd h
named-push sorts (m ∷ names) (x ∷ ss) n s (p, h) e = (p, named-push sorts names ss n s h e)

pub named-among : (sorts names : List Name) (ss : List ℕ) → AreNamed sorts names ss → AllAmong sorts names
named-among sorts [] ss h = tt
named-among sorts (n ∷ names) [] h = absurd h
named-among sorts (n ∷ names) (s ∷ ss) (p, h) = (is_among-at sorts s n p, named-among sorts names ss h)

pub all_among-append : (names xs ys : List Name) → AllAmong names xs → AllAmong names ys → AllAmong names (xs ++ ys)
all_among-append names [] ys h k = k
all_among-append names (x ∷ xs) ys (p, h) k = (p, all_among-append names xs ys h k)

-- constructors with their sorts
pub symbols_of-append : (xs ys : List Declared) → symbols_of (xs ++ ys) ≡ symbols_of xs ++ symbols_of ys
symbols_of-append [] ys = refl
symbols_of-append (x ∷ xs) ys = ap (λ l. symbol_of x ∷ l) (symbols_of-append xs ys)

pub spelled-push : (sorts : List Name) (cs : List Numbered) (xs : List Symbol) (c : Numbered) (x : Symbol) → AreSpelled sorts cs xs → IsSymbol sorts c x → AreSpelled sorts (cs ++ c ∷ []) (xs ++ x ∷ [])
spelled-push sorts [] [] c x h k = (k, tt)
spelled-push sorts [] (y ∷ xs) c x h k = absurd h
spelled-push sorts (d ∷ cs) [] c x h k = absurd h
spelled-push sorts (d ∷ cs) (y ∷ xs) c x (p, h) k = (p, spelled-push sorts cs xs c x h k)

pub spelled-among : (sorts : List Name) (cs : List Numbered) (xs : List Symbol) → AreSpelled sorts cs xs → AllAmong sorts (arguments_in cs)
spelled-among sorts [] xs h = tt
spelled-among sorts (c ∷ cs) [] h = absurd h
spelled-among sorts (c ∷ cs) (x ∷ xs) (p, h) = all_among-append sorts c.1.args (arguments_in cs) (named-among sorts c.1.args x.arguments p.arguments) (spelled-among sorts cs xs h)

pub names_in-length : (xs : List Placed) → length (names_in (places xs)) ≡ length xs
names_in-length [] = refl
names_in-length (x ∷ xs) = omega (arith, names_in-length xs)
