-- What is wrong with the names of written sorts.
use Rattle.std.proofs.Common.{◌≡◌, ◌≢◌, ℕ, ◌+◌, ◌<◌, ◌≤◌, false, zero, suc, List, [], ◌∷◌, ◌++◌, take, drop, get_or, length, length-append, map, refl, ap, ap₂, sym, ◌∙◌, subst, Option, Some, None, IfSome, IfNone, slice_get, append_assoc, arith}
use Rattle.std.proofs.lemmas.List.{take-append-drop, take-take, take_all}
use Rattle.psg_terms.proofs.Lists.{take_item}
use Rattle.psg_terms.specs.Names.{Name, has_twice}
use Rattle.psg_terms.specs.Signature.{Signature, Symbol}
use Rattle.psg_terms.specs.Declarations.{sort_names, Numbered, with_sort, in_order, names_in, constructor_names, AreSpelled, IsFirstRepeat, RepeatsSort, RepeatsConstructor, AreDistinct, IsSpelled}
use Rattle.psg_terms.specs.Numbered.{places}
use Rattle.psg_terms.specs.declared.declare.ConDecl.{ConDecl}
use Rattle.psg_terms.specs.declared.declare.SortDecl.{SortDecl}
use Rattle.psg_terms.specs.declared.declare.Placed.{Placed}
use Rattle.psg_terms.proofs.DeclareLaws.{in_order-push, names_in-append, names_in-at, sort_names-at, sort_names-length, has_twice-front}

pub places-at : (xs : List Placed) (i : ℕ) (x : Placed) → i < length xs → x ≡ get_or xs i x → slice_get (places xs) i ≡ Some (x.sort.0, x.decl.now)
places-at [] i x h e = absurd (omega arith)
places-at (y ∷ ys) zero x h e = ap (λ (z : Placed). Some (z.sort.0, z.decl.now)) (sym e)
places-at (y ∷ ys) (suc i) x h e = places-at ys i x (omega arith) e

pub names_in-take : (i : ℕ) (xs : List Numbered) → names_in (take i xs) ≡ take i (names_in xs)
names_in-take zero xs = refl
names_in-take (suc i) [] = refl
names_in-take (suc i) (x ∷ xs) = ap (λ l. x.1.name ∷ l) (names_in-take i xs)

pub has_twice-take : (m n : ℕ) (xs : List Name) → m ≤ n → has_twice (take n xs) ≡ false → has_twice (take m xs) ≡ false
has_twice-take m n xs le h =
    has_twice-front (take m xs) (drop m (take n xs))
    (ap has_twice (ap (λ l. l ++ drop m (take n xs)) (sym (take-take m n xs le)) ∙ take-append-drop m (take n xs)) ∙ h)

-- behind the constructors of one sort
pub record IsBehind (front : ℕ) (xs : List Numbered) (k : ℕ) (c : Numbered) : Type 0 where
  pub place : ℕ
  pub number : k ≡ front + place
  pub at : slice_get xs place ≡ Some c

behind : (s : ℕ) (own : List ConDecl) (xs : List Numbered) (k : ℕ) (c : Numbered) → slice_get (with_sort s own ++ xs) k ≡ Some c → s ≢ c.0 → IsBehind (length (with_sort s own)) xs k c
behind s [] xs k c e ne = record { place = k; number = omega arith; at = e }
behind s (o ∷ own) xs zero c e ne = let same : (s, o) ≡ c = cc in absurd (ne (ap (λ (x : Numbered). x.0) same))
behind s (o ∷ own) xs (suc k) c e ne = let rest = behind s own xs k c e ne in let n = rest.number in record { place = rest.place; number = omega arith; at = rest.at }

take-behind : (front xs : List Numbered) (n : ℕ) → take (length front + n) (front ++ xs) ≡ front ++ take n xs
take-behind [] xs n = ap (λ k. take k xs) (omega arith)
take-behind (x ∷ front) xs n = ap (λ k. take k (x ∷ (front ++ xs))) step ∙ ap (λ l. x ∷ l) (take-behind front xs n) where
  step : length (x ∷ front) + n ≡ suc (length front + n)
  step = omega arith

-- what stands before a constructor begins with the constructors of the sorts below a limit that its sort is not below
in_order-before : (n : ℕ) (written : List SortDecl) (k : ℕ) (c : Numbered) (limit : ℕ) → slice_get (in_order n written) k ≡ Some c → n + limit ≤ c.0 → (rest : List Numbered) × (take k (in_order n written) ≡ in_order n (take limit written) ++ rest)
in_order-before n [] k c limit e le = absurd (cc)
in_order-before n (d ∷ ds) k c zero e le = (take k (in_order n (d ∷ ds)), refl)
in_order-before n (d ∷ ds) k c (suc limit) e le =
    let own = with_sort n d.constructors in
    let b = behind n d.constructors (in_order (n + 1) ds) k c e (λ q. absurd (omega arith)) in
    let rest = in_order-before (n + 1) ds b.place c limit b.at (omega arith) in (
      rest.0,
      ap (λ j. take j (own ++ in_order (n + 1) ds)) b.number ∙ take-behind own (in_order (n + 1) ds) b.place ∙ ap (λ l. own ++ l) rest.1
          ∙ sym (append_assoc own (in_order (n + 1) (take limit ds)) rest.0),
    )

in_order-front : (n : ℕ) (written : List SortDecl) (limit : ℕ) → (rest : List Numbered) × (in_order n written ≡ in_order n (take limit written) ++ rest)
in_order-front n [] zero = ([], refl)
in_order-front n [] (suc limit) = ([], refl)
in_order-front n (d ∷ ds) zero = (in_order n (d ∷ ds), refl)
in_order-front n (d ∷ ds) (suc limit) =
    let rest = in_order-front (n + 1) ds limit in
    let own = with_sort n d.constructors in
    (rest.0, ap (λ l. own ++ l) rest.1 ∙ sym (append_assoc own (in_order (n + 1) (take limit ds)) rest.0))

front_distinct : (written : List SortDecl) (limit : ℕ) (xs rest : List Numbered) → xs ≡ in_order 0 (take limit written) ++ rest → has_twice (names_in xs) ≡ false → has_twice (constructor_names (take limit written)) ≡ false
front_distinct written limit xs rest e h =
    has_twice-front (constructor_names (take limit written)) (names_in rest) (ap has_twice (sym (names_in-append (in_order 0 (take limit written)) rest) ∙ ap names_in (sym e)) ∙ h)

pub limit-distinct : (written : List SortDecl) (cs : List Numbered) (k : ℕ) (c : Numbered) (limit : ℕ) → cs ≡ in_order 0 written → slice_get cs k ≡ Some c → limit ≤ c.0 → has_twice (take k (names_in cs)) ≡ false → has_twice (constructor_names (take limit written)) ≡ false
limit-distinct written cs k c limit e at le h =
    let b = in_order-before 0 written k c limit (ap (λ l. slice_get l k) (sym e) ∙ at) (omega arith) in
    front_distinct written limit (take k (in_order 0 written)) b.0 b.1
    (ap has_twice (names_in-take k (in_order 0 written) ∙ ap (λ l. take k (names_in l)) (sym e)) ∙ h)

pub whole-distinct : (written : List SortDecl) (cs : List Numbered) (limit : ℕ) → cs ≡ in_order 0 written → has_twice (names_in cs) ≡ false → has_twice (constructor_names (take limit written)) ≡ false
whole-distinct written cs limit e h = let b = in_order-front 0 written limit in front_distinct written limit (in_order 0 written) b.0 b.1 (ap (λ l. has_twice (names_in l)) (sym e) ∙ h)

take-whole : (xs : List SortDecl) → take (length xs) xs ≡ xs
take-whole [] = refl
take-whole (x ∷ xs) = ap (λ l. x ∷ l) (take-whole xs)

pub all_distinct : (written : List SortDecl) (limit : ℕ) → limit ≡ length written → has_twice (constructor_names (take limit written)) ≡ false → has_twice (constructor_names written) ≡ false
all_distinct written limit e h = ap (λ l. has_twice (constructor_names l)) (sym (take-whole written) ∙ ap (λ k. take k written) (sym e)) ∙ h

-- the two kinds of repetition
pub repeats_constructor : (written : List SortDecl) (cs : List Numbered) (k limit : ℕ) (n m : Name) (c : Numbered) → cs ≡ in_order 0 written → slice_get cs k ≡ Some c → c.0 < limit → has_twice (take limit (sort_names written)) ≡ false → IsFirstRepeat (names_in cs) k n → m ≡ n → RepeatsConstructor written m
repeats_constructor written cs k limit n m c e at lt h r same = record {
  place = k;
  found = c;
  at = ap (λ l. slice_get l k) (sym e) ∙ at;
  repeat = subst (λ l. IsFirstRepeat (names_in l) k m) e (subst (IsFirstRepeat (names_in cs) k) (sym same) r);
  before = has_twice-take (c.0 + 1) limit (sort_names written) (omega arith) h;
}

pub repeats_sort : (written : List SortDecl) (s : ℕ) (n m : Name) → IsFirstRepeat (sort_names written) s n → has_twice (constructor_names (take s written)) ≡ false → m ≡ n → RepeatsSort written m
repeats_sort written s n m r h same = record { sort = s; repeat = subst (IsFirstRepeat (sort_names written) s) (sym same) r; before = h }

-- a spelled signature has the written names, and is closed
spelled-names : (sorts : List Name) (cs : List Numbered) (xs : List Symbol) → AreSpelled sorts cs xs → map (λ (s : Symbol). s.name) xs ≡ names_in cs
spelled-names sorts [] [] h = refl
spelled-names sorts [] (x ∷ xs) h = absurd h
spelled-names sorts (c ∷ cs) [] h = absurd h
spelled-names sorts (c ∷ cs) (x ∷ xs) (p, h) = ap₂ (λ a as_rest. a ∷ as_rest) p.name (spelled-names sorts cs xs h)

pub symbol_names : (written : List SortDecl) (sig : Signature) → IsSpelled written sig → map (λ (s : Symbol). s.name) sig.symbols ≡ constructor_names written
symbol_names written sig h = spelled-names (sort_names written) (in_order 0 written) sig.symbols h.symbols

-- what is said of a repeated constructor's place
abbrev pub IsRepeatedBelow : List Placed → ℕ → ℕ → Type 0
IsRepeatedBelow placed limit k =
    (found : Numbered) × (slice_get (places placed) k ≡ Some found) × (found.0 < limit) × ((n : Name) × IsFirstRepeat (names_in (places placed)) k n)

pub constructor_fault : (written : List SortDecl) (placed : List Placed) (o : Option ℕ) (k limit : ℕ) (p : Placed) (m : Name) → o ≡ Some k → IfSome o (IsRepeatedBelow placed limit) → IfSome o (λ i. i < length placed) → places placed ≡ in_order 0 written → has_twice (take limit (sort_names written)) ≡ false → p ≡ get_or placed k p → m ≡ (get_or placed k p).decl.now.name → RepeatsConstructor written m
constructor_fault written placed o k limit p m e h w order front at name =
    let (found, there, lt, (n, r)) = subst (λ x. IfSome x (IsRepeatedBelow placed limit)) e h in
    let here = names_in-at placed k p (subst (λ x. IfSome x (λ i. i < length placed)) e w) at in
    let same : n ≡ p.decl.now.name = (let q : ◌≡◌ {A = Option Name} (Some n) (Some p.decl.now.name) = sym r.at ∙ here in cc) in
    repeats_constructor written (places placed) k limit n m found order there lt front r (name ∙ ap (λ (x : Placed). x.decl.now.name) (sym at) ∙ sym same)

pub sort_fault : (written : List SortDecl) (o : Option ℕ) (s : ℕ) (placed : List Placed) (d : SortDecl) (m : Name) → o ≡ None → IfNone o ((ds : List SortDecl) → places placed ≡ in_order 0 ds → has_twice (constructor_names (take s ds)) ≡ false) → places placed ≡ in_order 0 written → s < length written → ((n : Name) × IsFirstRepeat (sort_names written) s n) → d ≡ get_or written s d → m ≡ (get_or written s d).name → RepeatsSort written m
sort_fault written o s placed d m e h order lt (n, r) at name =
    let none = subst (λ x. IfNone x ((ds : List SortDecl) → places placed ≡ in_order 0 ds → has_twice (constructor_names (take s ds)) ≡ false)) e h in
    let here = sort_names-at written s d lt at in
    let same : n ≡ d.name = (let q : ◌≡◌ {A = Option Name} (Some n) (Some d.name) = sym r.at ∙ here in cc) in
    repeats_sort written s n m r (none written order) (name ∙ ap (λ (x : SortDecl). x.name) (sym at) ∙ sym same)

pub no_fault : (written : List SortDecl) (o : Option ℕ) (s : ℕ) (placed : List Placed) → o ≡ None → IfNone o ((ds : List SortDecl) → places placed ≡ in_order 0 ds → has_twice (constructor_names (take s ds)) ≡ false) → places placed ≡ in_order 0 written → s ≡ length written → has_twice (take s (sort_names written)) ≡ false → AreDistinct written
no_fault written o s placed e h order l front =
    let none = subst (λ x. IfNone x ((ds : List SortDecl) → places placed ≡ in_order 0 ds → has_twice (constructor_names (take s ds)) ≡ false)) e h in
    record {
      sorts = ap has_twice (sym (take_all s (sort_names written) (let n = sort_names-length written in omega arith))) ∙ front;
      constructors = all_distinct written s l (none written order);
    }

-- how many constructors there are
own-length : (n : ℕ) (own : List ConDecl) → length (names_in (with_sort n own)) ≡ length own
own-length n [] = refl
own-length n (c ∷ own) = omega (arith, own-length n own)

pub constructors-step : (sorts : List SortDecl) (i : ℕ) (d : SortDecl) (own : List ConDecl) → own ≡ d.constructors → i < length sorts → d ≡ get_or sorts i d → length (constructor_names (take i sorts)) + length own ≡ length (constructor_names (take (i + 1) sorts))
constructors-step sorts i d own e lt at =
    let n : ℕ = 0 + length (take i sorts) in
    let parts = ap (λ ds. length (constructor_names ds)) (take_item sorts i d lt at) ∙ ap (λ cs. length (names_in cs)) (in_order-push 0 (take i sorts) d)
    ∙ ap length (names_in-append (in_order 0 (take i sorts)) (with_sort n d.constructors)) in
    let l = length-append (constructor_names (take i sorts)) (names_in (with_sort n d.constructors)) in
    let o = own-length n d.constructors in
    let k = ap length e in
    omega arith
