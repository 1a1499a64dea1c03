-- Steps of reading sorts and constructors.
use Rattle.std.proofs.Common.{◌≡◌, ℕ, ◌+◌, ◌<◌, ◌||◌, Bool, true, false, cond, zero, suc, List, [], ◌∷◌, ◌++◌, take, drop, get_or, length, refl, ap, ap₂, sym, ◌∙◌, subst, inl, inr, Some, None, is_some, slice_get, append_assoc, arith}
use Rattle.std.proofs.lemmas.Bool.{or_right, cases_Bool}
use Rattle.std.proofs.lemmas.List.{length-take-le}
use Rattle.std.proofs.lemmas.Map.Text.{hash_map_updates_str}
use Rattle.std.proofs.lemmas.Option.{slice_get_within}
use Rattle.psg_terms.proofs.Lists.{take_item}
use Rattle.std.specs.Str.{bytes_eq}
use Rattle.std.specs.HashMap.{get_by, UpdatesBy}
use Rattle.psg_terms.specs.Names.{Name, is_among, has_twice}
use Rattle.psg_terms.specs.Declarations.{sort_names, with_sort, in_order, arguments_in, AreNamed, AreSpelled, IsSymbol, IsFirstMissing, IsFirstRepeat}
use Rattle.psg_terms.specs.Numbered.{places, Numbers, Knows, MayMiss}
use Rattle.psg_terms.specs.declared.declare.SigFault.{SigFault}
use Rattle.psg_terms.specs.declared.declare.SigFault.TheVariants.{Repeated, UnknownSort, NoGround, OneWide, Memory}
use Rattle.psg_terms.specs.Kept.{numbers_of, symbols_of, symbol_of}
use Rattle.psg_terms.specs.declared.declare.ConDecl.{ConDecl}
use Rattle.psg_terms.specs.declared.declare.SortDecl.{SortDecl}
use Rattle.psg_terms.specs.declared.declare.Placed.{Placed}
use Rattle.psg_terms.specs.declared.sorts.SortId.{SortId}
use Rattle.psg_terms.specs.declared.sorts.Declared.{Declared}
use Rattle.psg_terms.proofs.DeclareLaws.{around, with_sort-append, in_order-push, places-append, sort_names-append, is_among-append, has_twice-push, knows-push, knows-among, Known, named-push, named-among, numbers_of-append, symbols_of-append, spelled-push, spelled-among, all_among-append, arguments_in-append}

pub placed-step : (before now after : List Placed) (p : Placed) (decls : List ConDecl) (i : ℕ) (d : ConDecl) → after ≡ now ++ p ∷ [] → places now ≡ places before ++ with_sort p.sort.0 (take i decls) → p.decl.now ≡ d → i < length decls → d ≡ get_or decls i d → places after ≡ places before ++ with_sort p.sort.0 (take (i + 1) decls)
placed-step before now after p decls i d a h e lt at =
    ap places a ∙ places-append now (p ∷ []) ∙ ap₂ (λ xs (c : ConDecl). xs ++ (p.sort.0, c) ∷ []) h e
    ∙ append_assoc (places before) (with_sort p.sort.0 (take i decls)) ((p.sort.0, d) ∷ [])
    ∙ ap (λ l. places before ++ l) (sym (with_sort-append p.sort.0 (take i decls) (d ∷ [])) ∙ ap (with_sort p.sort.0) (sym (take_item decls i d lt at)))

pub ordered-step : (sorts : List SortDecl) (i : ℕ) (d : SortDecl) (now after : List Placed) (decls : List ConDecl) → decls ≡ d.constructors → places after ≡ places now ++ with_sort i decls → places now ≡ in_order 0 (take i sorts) → i < length sorts → d ≡ get_or sorts i d → places after ≡ in_order 0 (take (i + 1) sorts)
ordered-step sorts i d now after decls e a h lt at =
    let k : i ≡ 0 + length (take i sorts) = (let l = length-take-le i sorts (omega arith) in omega arith) in
    a ∙ ap₂ (λ xs ys. xs ++ ys) h (ap₂ with_sort k e) ∙ sym (in_order-push 0 (take i sorts) d) ∙ ap (in_order 0) (sym (take_item sorts i d lt at))

pub named-step : (sorts : List SortDecl) (i : ℕ) (d : SortDecl) (now after : List Name) (n : Name) → after ≡ now ++ n ∷ [] → now ≡ sort_names (take i sorts) → n ≡ d.name → i < length sorts → d ≡ get_or sorts i d → after ≡ sort_names (take (i + 1) sorts)
named-step sorts i d now after n a h e lt at =
    a ∙ ap₂ (λ xs x. xs ++ x ∷ []) h e ∙ sym (sort_names-append (take i sorts) (d ∷ [])) ∙ ap sort_names (sym (take_item sorts i d lt at))

-- the names that a map has
abbrev pub Seen : List Name → Numbers → Type 0
Seen names m = (n : Name) → is_some (get_by (λ k. bytes_eq n k.now) m) ≡ is_among names n

pub seen-empty : (m : Numbers) → Knows [] m → Seen [] m
seen-empty m h n = knows-among [] m n h

pub take-at : (names : List Name) (i : ℕ) (n : Name) → slice_get names i ≡ Some n → take (i + 1) names ≡ take i names ++ n ∷ []
take-at names i n h = ap (λ k. take k names) step ∙ go names i n h where
  step : i + 1 ≡ suc i
  step = omega arith

  go : (xs : List Name) (j : ℕ) (m : Name) → slice_get xs j ≡ Some m → take (suc j) xs ≡ take j xs ++ m ∷ []
  go [] j m e = absurd (cc)
  go (x ∷ xs) zero m e = let same : x ≡ m = cc in ap (λ y. y ∷ []) same
  go (x ∷ xs) (suc j) m e = ap (λ ys. x ∷ ys) (go xs j m e)

pub repeat-found : (names : List Name) (i : ℕ) (n m : Name) (seen : Numbers) (b : Bool) → slice_get names i ≡ Some n → has_twice (take i names) ≡ false → Seen (take i names) seen → m ≡ n → b ≡ is_some (get_by (λ k. bytes_eq m k.now) seen) → b ≡ true → IsFirstRepeat names i n
repeat-found names i n m seen b at h s e t is = record { at = at; again = ap (is_among (take i names)) (sym e) ∙ sym (s m) ∙ sym t ∙ is; before = h }

pub distinct-step : (names : List Name) (i : ℕ) (n m : Name) (seen : Numbers) (b : Bool) → slice_get names i ≡ Some n → has_twice (take i names) ≡ false → Seen (take i names) seen → m ≡ n → b ≡ is_some (get_by (λ k. bytes_eq m k.now) seen) → b ≡ false → has_twice (take (i + 1) names) ≡ false
distinct-step names i n m seen b at h s e t is =
    ap has_twice (take-at names i n at) ∙ has_twice-push (take i names) n h (ap (is_among (take i names)) (sym e) ∙ sym (s m) ∙ sym t ∙ is)

pub knows-step : (names : List Name) (i : ℕ) (n m : Name) (old new : Numbers) → slice_get names i ≡ Some n → Knows (take i names) old → m ≡ n → UpdatesBy (λ x y. bytes_eq x.now y.now) (λ k. bytes_eq m k.now) old new (Some i) → Knows (take (i + 1) names) new
knows-step names i n m old new at h e u =
    let lt = slice_get_within names i n at in
    let k : i ≡ length (take i names) = (let l = length-take-le i names (omega arith) in omega arith) in
    subst (λ xs. Knows xs new) (sym (take-at names i n at ∙ ap (λ x. take i names ++ x ∷ []) (sym e))) (knows-push (take i names) m i old new h u k)

pub seen-step : (names : List Name) (i : ℕ) (n m : Name) (old new : Numbers) (v : ℕ) → slice_get names i ≡ Some n → Seen (take i names) old → m ≡ n → UpdatesBy (λ x y. bytes_eq x.now y.now) (λ k. bytes_eq m k.now) old new (Some v) → Seen (take (i + 1) names) new
seen-step names i n m old new v at h e u q =
    let found = hash_map_updates_str m old new (Some v) u q in
    ap is_some found ∙ elim (cases_Bool (bytes_eq m q)) [
      | inl t ↦ ap (λ b. is_some (cond b (Some v) (get_by (λ k. bytes_eq q k.now) old))) t ∙ sym (or_right (is_among (take i names) q) (bytes_eq m q || false) (ap (λ b. b || false) t))
      | inr t ↦ ap (λ b. is_some (cond b (Some v) (get_by (λ k. bytes_eq q k.now) old))) t ∙ h q ∙ last (is_among (take i names) q) ∙ ap (λ b. is_among (take i names) q || (b || false)) (sym t)
    ] ∙ sym (is_among-append (take i names) (m ∷ []) q) ∙ ap (λ xs. is_among xs q) (ap (λ x. take i names ++ x ∷ []) e ∙ sym (take-at names i n at)) where
      last : (b : Bool) → b ≡ (b || (false || false))
      last true = refl
      last false = refl

-- an argument that names no sort
pub missing-found : (sorts args : List Name) (i : ℕ) (n m q : Name) (numbers : Numbers) (ss : List ℕ) → Knows sorts numbers → AreNamed sorts (take i args) ss → i < length args → n ≡ get_or args i n → m ≡ n → get_by (λ k. bytes_eq m k.now) numbers ≡ None → q ≡ n → IsFirstMissing sorts args q
missing-found sorts args i n m q numbers ss k h lt at e none d = record {
  front = take i args;
  behind = drop (suc i) args;
  split = around args i n lt at ∙ ap (λ x. take i args ++ x ∷ drop (suc i) args) (sym d);
  known = named-among sorts (take i args) ss h;
  missing = ap (is_among sorts) (d ∙ sym e) ∙ sym (knows-among sorts numbers m k) ∙ ap is_some none;
}

pub argument-step : (sorts args : List Name) (i : ℕ) (n m : Name) (s : SortId) (numbers : Numbers) (now after : List SortId) → Knows sorts numbers → AreNamed sorts (take i args) (numbers_of now) → i < length args → n ≡ get_or args i n → m ≡ n → Some s.0 ≡ get_by (λ k. bytes_eq m k.now) numbers → after ≡ now ++ s ∷ [] → AreNamed sorts (take (i + 1) args) (numbers_of after)
argument-step sorts args i n m s numbers now after k h lt at e found a =
    let there : slice_get sorts s.0 ≡ Some m = subst (Known sorts m) (sym found) (k m) in
    subst (λ xs. AreNamed sorts xs (numbers_of after)) (sym (take_item args i n lt at))
    (subst (AreNamed sorts (take i args ++ n ∷ [])) (sym (ap numbers_of a ∙ numbers_of-append now (s ∷ [])))
    (named-push sorts (take i args) (numbers_of now) n s.0 h (there ∙ ap Some e)))

pub spelled-step : (sorts : List Name) (placed : List Placed) (i : ℕ) (p : Placed) (now after : List Declared) (d : Declared) → AreSpelled sorts (places (take i placed)) (symbols_of now) → IsSymbol sorts (p.sort.0, p.decl.now) (symbol_of d) → i < length placed → p ≡ get_or placed i p → after ≡ now ++ d ∷ [] → AreSpelled sorts (places (take (i + 1) placed)) (symbols_of after)
spelled-step sorts placed i p now after d h k lt at a =
    subst (λ xs. AreSpelled sorts xs (symbols_of after)) (sym (ap places (take_item placed i p lt at) ∙ places-append (take i placed) (p ∷ [])))
    (subst (AreSpelled sorts (places (take i placed) ++ (p.sort.0, p.decl.now) ∷ [])) (sym (ap symbols_of a ∙ symbols_of-append now (d ∷ [])))
    (spelled-push sorts (places (take i placed)) (symbols_of now) (p.sort.0, p.decl.now) (symbol_of d) h k))

-- a constructor's argument that names no sort
pub missing-in : (sorts : List Name) (placed : List Placed) (i : ℕ) (p : Placed) (args : List Name) (now : List Declared) (q : Name) → AreSpelled sorts (places (take i placed)) (symbols_of now) → i < length placed → p ≡ get_or placed i p → args ≡ p.decl.now.args → IsFirstMissing sorts args q → IsFirstMissing sorts (arguments_in (places placed)) q
missing-in sorts placed i p args now q h lt at e m =
    let before = arguments_in (places (take i placed)) in
    let rest = arguments_in (places (drop (suc i) placed)) in
    record {
      front = before ++ m.front;
      behind = m.behind ++ rest;
      split = ap (λ xs. arguments_in (places xs)) (around placed i p lt at) ∙ ap arguments_in (places-append (take i placed) (p ∷ drop (suc i) placed))
          ∙ arguments_in-append (places (take i placed)) ((p.sort.0, p.decl.now) ∷ places (drop (suc i) placed))
          ∙ ap (λ xs. before ++ (xs ++ rest)) (sym e ∙ m.split) ∙ ap (λ xs. before ++ xs) (append_assoc m.front (q ∷ m.behind) rest)
          ∙ sym (append_assoc before m.front (q ∷ m.behind ++ rest));
      known = all_among-append sorts before m.front (spelled-among sorts (places (take i placed)) (symbols_of now) h) m.known;
      missing = m.missing;
    }

pub may_miss-in : (sorts : List Name) (placed : List Placed) (i : ℕ) (p : Placed) (args : List Name) (now : List Declared) (e : SigFault) → AreSpelled sorts (places (take i placed)) (symbols_of now) → i < length placed → p ≡ get_or placed i p → args ≡ p.decl.now.args → MayMiss sorts args e → MayMiss sorts (arguments_in (places placed)) e
may_miss-in sorts placed i p args now (Repeated n) h lt at e m = m
may_miss-in sorts placed i p args now (UnknownSort n) h lt at e m = missing-in sorts placed i p args now n h lt at e m
may_miss-in sorts placed i p args now (NoGround s) h lt at e m = m
may_miss-in sorts placed i p args now (OneWide s) h lt at e m = m
may_miss-in sorts placed i p args now Memory h lt at e m = m
