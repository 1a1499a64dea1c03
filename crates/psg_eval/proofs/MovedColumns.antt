-- The columns of keys that are made of two parts: their sorts, and that each is kept once.
use Rattle.std.proofs.Common.{◌≡◌, ℕ, zero, suc, ◌+◌, Bool, true, false, cond, not, List, [], ◌∷◌, ◌++◌, length, bytes_eq, slice_get, Option, Some, refl, ap, sym, ◌∙◌, subst, true≢false, arith}
use Rattle.std.proofs.lemmas.Bool.{or_right, or_left, not-true}
use Rattle.std.proofs.lemmas.List.{nil_from_length}
use Rattle.std.specs.List.{AllByRecursion}
use Rattle.std.specs.Prelude.{IfErr, Result, Err}
use Rattle.psg_terms.specs.Names.{Name, is_among}
use Rattle.psg_terms.specs.Terms.{Term}
use Rattle.psg_terms.specs.Relations.{IsRelation}
use Rattle.psg_terms.specs.Weight.{PassesLimit}
use Rattle.psg_terms.proofs.OneRelation.{sorts_length}
use Rattle.psg_grammar.specs.declared.types.Definition.{Definition}
use Rattle.psg_grammar.specs.Keys.{Key}
use Rattle.psg_grammar.specs.Sound.{HasKindSort}
use Rattle.psg_relation.specs.Fewer.{FewerColumns, KeptOnce}
use Rattle.psg_relation.specs.Choices.{AllHaveSorts, AllWithin, HasWide, IsProjected, MayBeWide, picked}
use Rattle.psg_relation.specs.declared.relation.RelFault.{RelFault}
use Rattle.psg_relation.specs.declared.relation.RelFault.TheVariants.{Wide}
use Rattle.psg_scope.specs.declared.header.NameCol.{NameCol}
use Rattle.psg_scope.specs.declared.header.Header.{Header}
use Rattle.psg_scope.specs.Headers.{ArePlaces, AreRising, IsKey, IsOrdered, IsUnion, keep_if, key_of, keys}
use Rattle.psg_scope.proofs.HeaderLaws.{keys-whole}
use Rattle.psg_scope.proofs.KeyLists.{below-absent, key_refl}
use Rattle.psg_unify.specs.Pairs.{Pair as Columns}
use Rattle.psg_eval.specs.declared.summary.SummaryParts.{SummaryParts}
use Rattle.psg_eval.specs.Renamed.{IsRenamed, moved_header, moved_names, moved_places, other_header, other_names, other_places}
use Rattle.psg_eval.specs.Summaries.{AreKeySorts, IsSummary}
use Rattle.psg_eval.specs.Walks.{IsWalk}
use Rattle.psg_eval.proofs.MovedKeys.{moved_many, other_many}
use Rattle.psg_eval.proofs.PartialSorts.{IsKeySort, sorts_along}
use Rattle.psg_eval.proofs.WalkSteps.{places_many}
use Rattle.psg_eval.proofs.Walking.{Along, Picks, picks_picked, picks_within, walk_to}

-- ---- what is along the keys is along those of both parts

module _ {X : Type 0} (R : Key → X → Type 0) (row : List X) (from to : Name) where
  -- each key with what is at its place, which is also right for its new name
  abbrev pub Stand : List NameCol → List X → Type 0
  Stand [] [] = Unit {0}
  Stand [] (x ∷ xs) = ⊥
  Stand (c ∷ cs) [] = ⊥
  Stand (c ∷ cs) (x ∷ xs) = (bytes_eq c.name from ≡ true → R (c.space ∷ to) x) × (bytes_eq c.name from ≡ false → R (key_of c) x) × Stand cs xs

  kept : (b : Bool) (i : ℕ) (is : List ℕ) (c : NameCol) (cs : List NameCol) (x : X) (xs : List X) → slice_get row i ≡ Some x → (b ≡ true → R (key_of c) x)
      → Picks row is xs → Along R (keys cs) xs → (E : List X) × Picks row (keep_if b i is) E × Along R (keys (keep_if b c cs)) E
  kept true i is c cs x xs at r h a = (x ∷ xs, (at, h), (r refl, a))
  kept false i is c cs x xs at r h a = (xs, h, a)

  abbrev AreAt : ℕ → List X → Type 0
  AreAt i xs = (j : ℕ) (x : X) → slice_get xs j ≡ Some x → slice_get row (i + j) ≡ Some x

  first_at : (i : ℕ) (x : X) (xs : List X) → AreAt i (x ∷ xs) → slice_get row i ≡ Some x
  first_at i x xs at =
      let e : i + 0 ≡ i = omega arith in
      subst (λ n. slice_get row n ≡ Some x) e (at 0 x refl)

  rest_at : (i : ℕ) (x : X) (xs : List X) → AreAt i (x ∷ xs) → AreAt (suc i) xs
  rest_at i x xs at j y h =
      let e : i + suc j ≡ suc i + j = omega arith in
      subst (λ n. slice_get row n ≡ Some y) e (at (suc j) y h)

  moved_picks : (i : ℕ) (cols : List NameCol) (xs : List X) → Stand cols xs → AreAt i xs
      → (E : List X) × Picks row (moved_places from i cols) E × Along R (keys (moved_names from to cols)) E
  moved_picks i [] [] s at = ([], tt, tt)
  moved_picks i [] (x ∷ xs) s at = absurd s
  moved_picks i (c ∷ cols) [] s at = absurd s
  moved_picks i (c ∷ cols) (x ∷ xs) (m, o, s) at =
      let (E, h, a) = moved_picks (suc i) cols xs s (rest_at i x xs at) in
      kept (bytes_eq c.name from) i (moved_places from (suc i) cols) (record c { name = to }) (moved_names from to cols) x E (first_at i x xs at) m h a

  other_picks : (i : ℕ) (cols : List NameCol) (xs : List X) → Stand cols xs → AreAt i xs
      → (E : List X) × Picks row (other_places from i cols) E × Along R (keys (other_names from cols)) E
  other_picks i [] [] s at = ([], tt, tt)
  other_picks i [] (x ∷ xs) s at = absurd s
  other_picks i (c ∷ cols) [] s at = absurd s
  other_picks i (c ∷ cols) (x ∷ xs) (m, o, s) at =
      let (E, h, a) = other_picks (suc i) cols xs s (rest_at i x xs at) in
      kept (not (bytes_eq c.name from)) i (other_places from (suc i) cols) c (other_names from cols) x E (first_at i x xs at) (λ e. o (not-true (bytes_eq c.name from) e)) h a

  in_row : (b : ℕ) (x : X) → slice_get row b ≡ Some x → slice_get row (0 + b) ≡ Some x
  in_row b x h =
      let e : b ≡ 0 + b = omega arith in
      subst (λ n. slice_get row n ≡ Some x) e h

  pub joined_picks : (cols : List NameCol) (xs : List X) (M : List Key) (pairs : List Columns) (columns : List ℕ) → Stand cols xs → AreAt 1 xs
      → IsWalk 0 (moved_places from 1 cols) (other_places from 1 cols) (keys (moved_names from to cols)) (keys (other_names from cols)) M pairs columns
      → (E : List X) × Picks row columns E × Along R M E
  joined_picks cols xs M pairs columns s at w =
      let (P, p, k) = moved_picks 1 cols xs s at in
      let (Q, q, l) = other_picks 1 cols xs s at in
      walk_to R 0 row row row (λ a x e. e) in_row P Q w p k q l

behind_first : {X : Type 0} (v : X) (xs : List X) (j : ℕ) (x : X) → slice_get xs j ≡ Some x → slice_get (v ∷ xs) (1 + j) ≡ Some x
behind_first v xs j x h =
    let e : suc j ≡ 1 + j = omega arith in
    subst (λ n. slice_get (v ∷ xs) n ≡ Some x) e h

-- ---- each column is kept once

-- the keys under the new name
abbrev new_keys : Name → Name → List NameCol → List Key
new_keys from to [] = []
new_keys from to (c ∷ cols) = cond (bytes_eq c.name from) (c.space ∷ to) (key_of c) ∷ new_keys from to cols

abbrev IsSame : Key → Key → Type 0
IsSame k x = x ≡ k

same_along : (M E : List Key) → Along IsSame M E → E ≡ M
same_along [] [] h = refl
same_along [] (x ∷ E) h = absurd h
same_along (k ∷ M) [] h = absurd h
same_along (k ∷ M) (x ∷ E) (e, h) =
    let rest = same_along M E h in
    cc

stand_keys : (row : List Key) (from to : Name) (cols : List NameCol) → Stand IsSame row from to cols (new_keys from to cols)
stand_keys row from to [] = tt
stand_keys row from to (c ∷ cols) = (
  (λ e. ap (λ b. cond b (c.space ∷ to) (key_of c)) e),
  (λ e. ap (λ b. cond b (c.space ∷ to) (key_of c)) e),
  stand_keys row from to cols,
)

picked_at : {X : Type 0} (row : List X) (keep : List ℕ) (xs : List X) → Picks row keep xs → (i k : ℕ) → slice_get keep i ≡ Some k
    → (x : X) × (slice_get xs i ≡ Some x) × (slice_get row k ≡ Some x)
picked_at row [] xs h i k e = absurd (cc)
picked_at row (n ∷ keep) [] h i k e = absurd h
picked_at row (n ∷ keep) (x ∷ xs) (at, h) zero k e =
    let d : n ≡ k = cc in
    (x, refl, subst (λ m. slice_get row m ≡ Some x) d at)
picked_at row (n ∷ keep) (x ∷ xs) (at, h) (suc i) k e = picked_at row keep xs h i k e

there : (ms : List Key) (j : ℕ) (x : Key) → slice_get ms j ≡ Some x → is_among ms x ≡ true
there [] j x e = absurd (cc)
there (m ∷ ms) zero x e =
    let d : m ≡ x = cc in
    or_left (bytes_eq m x) (is_among ms x) (subst (λ z. bytes_eq m z ≡ true) d (key_refl m))
there (m ∷ ms) (suc j) x e = or_right (bytes_eq m x) (is_among ms x) (there ms j x e)

first_once : (m : Key) (ms : List Key) (j : ℕ) (x : Key) → AreRising (m ∷ ms) → m ≡ x → slice_get ms j ≡ Some x → ⊥
first_once m ms j x (b, s) d e = true≢false (sym (there ms j x e) ∙ subst (λ z. is_among ms z ≡ false) d (below-absent m ms b))

rising_once : (ms : List Key) (i j : ℕ) (x : Key) → AreRising ms → slice_get ms i ≡ Some x → slice_get ms j ≡ Some x → i ≡ j
rising_once [] i j x s e f = absurd (cc)
rising_once (m ∷ ms) zero zero x s e f = refl
rising_once (m ∷ ms) zero (suc j) x s e f =
    let d : m ≡ x = cc in
    absurd (first_once m ms j x s d f)
rising_once (m ∷ ms) (suc i) zero x s e f =
    let d : m ≡ x = cc in
    absurd (first_once m ms i x s d e)
rising_once (m ∷ ms) (suc i) (suc j) x (b, s) e f = ap suc (rising_once ms i j x s e f)

not_empty : (ms : List Key) (j : ℕ) → AllByRecursion IsKey ms → slice_get ms j ≡ Some [] → ⊥
not_empty [] j w e = absurd (cc)
not_empty (m ∷ ms) zero (k, w) e =
    let d : m ≡ [] = cc in
    subst IsKey d k
not_empty (m ∷ ms) (suc j) (k, w) e = not_empty ms j w e

empty_first : (ms : List Key) (i j : ℕ) (x : Key) → AreRising ms → AllByRecursion IsKey ms → slice_get ([] ∷ ms) i ≡ Some x → slice_get ([] ∷ ms) j ≡ Some x → i ≡ j
empty_first ms zero zero x s w e f = refl
empty_first ms zero (suc j) x s w e f =
    let d : x ≡ [] = cc in
    absurd (not_empty ms j w (subst (λ z. slice_get ms j ≡ Some z) d f))
empty_first ms (suc i) zero x s w e f =
    let d : x ≡ [] = cc in
    absurd (not_empty ms i w (subst (λ z. slice_get ms i ≡ Some z) d e))
empty_first ms (suc i) (suc j) x s w e f = ap suc (rising_once ms i j x s e f)

-- the columns lead to keys that rise
kept_once : (row : List Key) (keep : List ℕ) (ms : List Key) → AreRising ms → AllByRecursion IsKey ms → Picks row keep ([] ∷ ms) → KeptOnce keep
kept_once row keep ms s w h i j k e f =
    let (x, ix, rx) = picked_at row keep ([] ∷ ms) h i k e in
    let (y, jy, ry) = picked_at row keep ([] ∷ ms) h j k f in
    let q : ◌≡◌ {A = Option Key} (Some y) (Some x) = sym ry ∙ rx in
    let d : y ≡ x = cc in
    empty_first ms i j x s w ix (subst (λ z. slice_get ([] ∷ ms) j ≡ Some z) d jy)

-- ---- the summary

stand_sorts : (def : Definition) (row : List ℕ) (from to : Name) (cols : List NameCol) (ss : List ℕ) → AreKeySorts def cols ss → Stand (IsKeySort def) row from to cols ss
stand_sorts def row from to [] [] h = tt
stand_sorts def row from to [] (s ∷ ss) h = absurd (cc)
stand_sorts def row from to (c ∷ cols) ss (s, rest, e, h, more) =
    subst (Stand (IsKeySort def) row from to (c ∷ cols)) (sym e) ((λ _. h), (λ _. h), stand_sorts def row from to cols rest more)

module _ (def : Definition) (old : SummaryParts) (from to : Name) (sum : IsSummary def old) (silent : old.seen ≡ 0) (h : Header) (pairs : List Columns) (columns : List ℕ)
    (w : IsWalk 0 (moved_places from 1 old.header.names) (other_places from 1 old.header.names) (keys (moved_names from to old.header.names)) (keys (other_names from old.header.names)) (keys h.names) pairs columns) where
  abbrev pub old_sorts : List ℕ
  old_sorts = (sum.sort ∷ sum.seen) ++ sum.key_sorts

  abbrev sorts : List ℕ
  sorts = sum.sort ∷ sum.key_sorts

  sorts_are : old_sorts ≡ sorts
  sorts_are = ap (λ l. (sum.sort ∷ l) ++ sum.key_sorts) (nil_from_length sum.seen (sum.reported ∙ silent))

  sorted : AllHaveSorts def.signature old.rel sorts
  sorted = subst (AllHaveSorts def.signature old.rel) sorts_are sum.sorted

  picks : (E : List ℕ) × Picks sorts columns E × Along (IsKeySort def) (keys h.names) E
  picks = joined_picks (IsKeySort def) sorts from to old.header.names sum.key_sorts (keys h.names) pairs columns
      (stand_sorts def sorts from to old.header.names sum.key_sorts sum.keys_sorted) (behind_first sum.sort sum.key_sorts) w

  pub columns_within : AllWithin old.rel (0 ∷ columns)
  columns_within row i = λ k d l.
      let m = picks_within sorts (0 ∷ columns) (sum.sort ∷ picks.0) (refl, picks.1) k d l in
      omega (arith, m, sorts_length def.signature row sorts (sorted row i))

  pub columns_once : IsOrdered h → KeptOnce (0 ∷ columns)
  columns_once ordered =
      let names = old.header.names in
      let row : List Key = [] ∷ new_keys from to names in
      let (E, p, a) = joined_picks IsSame row from to names (new_keys from to names) (keys h.names) pairs columns (stand_keys row from to names) (behind_first [] (new_keys from to names)) w in
      kept_once row (0 ∷ columns) (keys h.names) ordered.keys_rise (keys-whole h.names)
      (refl, subst (Picks row columns) (same_along (keys h.names) E a) p)

  pub renamed_usual : IsOrdered h → (rows : List (List Term)) → ((ss : List ℕ) → AllHaveSorts def.signature old.rel ss
      → IsRelation def.signature (picked ss (0 ∷ columns)) (IsProjected def.signature old.rel (0 ∷ columns)) rows)
      → (new : SummaryParts) → new.kind ≡ old.kind → new.header ≡ h → new.seen ≡ old.seen → new.rel ≡ rows → IsSummary def new
  renamed_usual ordered rows made new ek eh es er =
      let known = made sorts sorted in
      let is : picked sorts (0 ∷ columns) ≡ sum.sort ∷ picks.0 = picks_picked sorts (0 ∷ columns) (sum.sort ∷ picks.0) (refl, picks.1) in
      record {
        header = subst IsOrdered (sym eh) ordered;
        sort = sum.sort;
        kind_sort = subst (λ k. HasKindSort def k sum.sort) (sym ek) sum.kind_sort;
        seen = [];
        reported = sym (es ∙ silent);
        key_sorts = picks.0;
        keys_sorted = subst (λ (k : Header). AreKeySorts def k.names picks.0) (sym eh) (sorts_along def h.names picks.0 picks.2);
        sorted = subst (λ (l : List (List Term)). AllHaveSorts def.signature l (sum.sort ∷ picks.0)) (sym er)
            (subst (AllHaveSorts def.signature rows) is (λ row i. (known.shapes row i).sorted));
      }

  pub is_renamed : IsUnion (moved_header from to old.header) (other_header from old.header) h → IsOrdered h → (rows : List (List Term)) → ((ss : List ℕ) → AllHaveSorts def.signature old.rel ss
      → IsRelation def.signature (picked ss (0 ∷ columns)) (IsProjected def.signature old.rel (0 ∷ columns)) rows)
      → (new : SummaryParts) → new.kind ≡ old.kind → new.header ≡ h → new.seen ≡ old.seen → new.rel ≡ rows → IsRenamed def from to old new
  is_renamed union ordered rows made new ek eh es er = record {
    kind = ek;
    seen = es;
    union = subst (IsUnion (moved_header from to old.header) (other_header from old.header)) (sym eh) union;
    ordered = subst IsOrdered (sym eh) ordered;
    pairs = pairs;
    columns = columns;
    walk = subst (λ (x : Header). IsWalk 0 (moved_places from 1 old.header.names) (other_places from 1 old.header.names) (keys (moved_names from to old.header.names)) (keys (other_names from old.header.names)) (keys x.names) pairs columns) (sym eh) w;
    rows = λ ss s. subst (λ (l : List (List Term)). IsRelation def.signature (picked ss (0 ∷ columns)) (IsProjected def.signature old.rel (0 ∷ columns)) l) (sym er) (made ss s);
  }

-- ---- the parts as they are made

module _ (from to : Name) (k : SummaryParts) (lefts rights : List ℕ) (moved others : Header) (a : lefts ≡ moved_places from 1 k.header.names) (b : rights ≡ other_places from 1 k.header.names)
    (m : moved ≡ moved_header from to k.header) (o : others ≡ other_header from k.header) where
  pub walk_of : (M : List Key) (pairs : List Columns) (columns : List ℕ) → IsWalk 0 lefts rights (keys moved.names) (keys others.names) M pairs columns
      → IsWalk 0 (moved_places from 1 k.header.names) (other_places from 1 k.header.names) (keys (moved_names from to k.header.names)) (keys (other_names from k.header.names)) M pairs columns
  walk_of M pairs columns w =
      subst (λ x. IsWalk 0 x (other_places from 1 k.header.names) (keys (moved_names from to k.header.names)) (keys (other_names from k.header.names)) M pairs columns) a
      (subst (λ x. IsWalk 0 lefts x (keys (moved_names from to k.header.names)) (keys (other_names from k.header.names)) M pairs columns) b
      (subst (λ (x : Header). IsWalk 0 lefts rights (keys x.names) (keys (other_names from k.header.names)) M pairs columns) m
      (subst (λ (x : Header). IsWalk 0 lefts rights (keys moved.names) (keys x.names) M pairs columns) o w)))

  pub union_of : (h : Header) → IsUnion moved others h → IsUnion (moved_header from to k.header) (other_header from k.header) h
  union_of h u = subst (λ (x : Header). IsUnion x (other_header from k.header) h) m (subst (λ (x : Header). IsUnion moved x h) o u)

  pub lefts_many : (all : List NameCol) (places : List ℕ) → ArePlaces all places (keys moved.names) → length lefts ≡ length places
  lefts_many all places h =
      ap length a ∙ moved_many from to 1 k.header.names ∙ ap (λ (x : Header). length (keys x.names)) (sym m) ∙ sym (places_many (keys all) places (keys moved.names) h)

  pub rights_many : (all : List NameCol) (places : List ℕ) → ArePlaces all places (keys others.names) → length rights ≡ length places
  rights_many all places h =
      ap length b ∙ other_many from to 1 k.header.names ∙ ap (λ (x : Header). length (keys x.names)) (sym o) ∙ sym (places_many (keys all) places (keys others.names) h)

-- ---- the relation of the columns is within the limit

pub never_wide : {X : Type 0} (def : Definition) (result : Result X RelFault) (rows : List (List Term)) (keep : List ℕ) → (sorts : List ℕ) × AllHaveSorts def.signature rows sorts
    → AllWithin rows keep → KeptOnce keep → FewerColumns def.signature → (PassesLimit rows → ⊥)
    → IfErr result (MayBeWide ((sorts : List ℕ) → AllHaveSorts def.signature rows sorts → HasWide def.signature (picked sorts keep) (IsProjected def.signature rows keep)))
    → result ≡ Err Wide → ⊥
never_wide def result rows keep (sorts, sorted) within once fewer light may is =
    let some = subst (λ z. IfErr z (MayBeWide ((ss : List ℕ) → AllHaveSorts def.signature rows ss → HasWide def.signature (picked ss keep) (IsProjected def.signature rows keep)))) is may in
    let (made, rel, passes) = some sorts sorted in
    fewer sorts rows keep sorted within once light made rel passes
