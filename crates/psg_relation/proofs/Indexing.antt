-- Rows found by the heads of a column.
use Rattle.std.proofs.Common.{◌≡◌, ℕ, ◌+◌, ◌<◌, ◌==◌, ◌⊎◌, inl, inr, true, false, cond, zero, suc, Option, Some, None, IfSome, IfNone, List, [], ◌∷◌, ◌++◌, All, map, length, get_or, slice_get, append_assoc, refl, ap, sym, ◌∙◌, subst, arith}
use Rattle.std.specs.Prelude.{Vec}
use Rattle.std.specs.HashMap.{HashMap}
use Rattle.std.specs.Map.{lookup}
use Rattle.std.specs.declared.hash.FoldHasher.{FoldHasher}
use Rattle.std.specs.declared.hash.BuildHasherDefault.{BuildHasherDefault}
use Rattle.std.proofs.lemmas.List.Elements.{All-nil, All-push, All-same, All-weaker}
use Rattle.std.proofs.lemmas.List.{length_push}
use Rattle.std.proofs.lemmas.Bool.{cases_eq}
use Rattle.psg_terms.proofs.Lists.{in_cases, in_at, eqb-refl, in_either, in_right, in_left}
use Rattle.psg_terms.specs.Terms.{Term, variable, symbol, apply, applied}
use Rattle.psg_terms.specs.Signature.{Signature}
use Rattle.psg_terms.specs.Instances.{Substitution, substitute, IsInstance}
use Rattle.psg_terms.specs.Relations.{IsIn, first, later}
use Rattle.psg_unify.specs.Pairs.{Pair as Columns}
use Rattle.psg_relation.specs.Choices.{pick, picked}
use Rattle.psg_relation.specs.Heads.{head_of, HeadAt, items_of, places_at, IsNoted, IsIndexed}
use Rattle.psg_relation.specs.Sifted.{HoldsNone, IsCovered}
use Rattle.psg_relation.specs.Joining.{Joins, AreJoined, IsCrossed, IsMore, Two, with_each}
use Rattle.psg_relation.proofs.Members.{in-last, in-split}
use Rattle.psg_relation.proofs.Meeting.{joined_one, each-push, each-in, in-each}

head-applied : (t : Term) (row : List Term) → head_of (applied t row) ≡ head_of t
head-applied t [] = refl
head-applied t (a ∷ row) = head-applied (apply t a) row

pub head-con : (t : Term) (c : ℕ) (row : List Term) → t ≡ applied (symbol c) row → Some c ≡ head_of t
head-con t c row e = sym (ap head_of e ∙ head-applied (symbol c) row)

pub head-variable : (t : Term) (s n : ℕ) → t ≡ variable s n → None ≡ head_of t
head-variable t s n e = sym (ap head_of e)

-- a substitution keeps the constructor at the head
pub head-substitute : (f : Substitution) (t : Term) (c : ℕ) → head_of t ≡ Some c → head_of (substitute f t) ≡ Some c
head-substitute f (variable s n) c e = absurd (cc)
head-substitute f (symbol d) c e = e
head-substitute f (apply g a) c e = head-substitute f g c e

slice_get-map : (f : Term → Term) (xs : List Term) (i : ℕ) (x : Term) → slice_get xs i ≡ Some x → slice_get (map f xs) i ≡ Some (f x)
slice_get-map f [] i x e = absurd (cc)
slice_get-map f (y ∷ xs) zero x e = let h : y ≡ x = cc in ap (λ z. Some (f z)) h
slice_get-map f (y ∷ xs) (suc i) x e = slice_get-map f xs i x e

-- rows with different constructors at the heads of the first paired columns have no join
pub no_meeting : (sig : Signature) (pairs : List Columns) (keep : List ℕ) (left right x : List Term) (p : Columns) (c d : ℕ) → slice_get pairs 0 ≡ Some p → HeadAt left p.0 c → HeadAt right p.1 d → (c ≡ d → ⊥) → Joins sig pairs keep left right x → ⊥
no_meeting sig [] keep left right x p c d e h k ne j = absurd (cc)
no_meeting sig (q ∷ pairs) keep left right x p c d e (t, at, h) (u, bt, k) ne (full, (l, r, (f, gf, ef), (g, gg, eg), agree, whole), kept) =
    let same : q ≡ p = cc in
    let al : slice_get l p.0 ≡ Some (substitute f t) = ap (λ row. slice_get row p.0) ef ∙ slice_get-map (substitute f) left p.0 t at in
    let br : slice_get r p.1 ≡ Some (substitute g u) = ap (λ row. slice_get row p.1) eg ∙ slice_get-map (substitute g) right p.1 u bt in
    let equal : slice_get l p.0 ≡ slice_get r p.1 = subst (λ (z : Columns). slice_get l z.0 ≡ slice_get r z.1) same agree.0 in
    let both : ◌≡◌ {A = Option Term} (Some (substitute f t)) (Some (substitute g u)) = sym al ∙ equal ∙ br in
    let one : substitute f t ≡ substitute g u = cc in
    let heads : ◌≡◌ {A = Option ℕ} (Some c) (Some d) = sym (head-substitute f t c h) ∙ ap head_of one ∙ head-substitute g u d k in
    ne (cc)

pub picked-in : {X : Type 0} (xs : List X) (ks : List ℕ) (y : X) → IsIn y (picked xs ks) → IsIn y xs
picked-in xs [] y h = elim h [ ]
picked-in xs (k ∷ ks) y h =
    elim (slice_get xs k) as (λ o. slice_get xs k ≡ o → IsIn y (pick o (picked xs ks)) → IsIn y xs) [
      | None ↦ λ e i. picked-in xs ks y i
      | Some x ↦ λ e i. elim (in_cases y x (picked xs ks) i) [ inl d ↦ subst (λ z. IsIn z xs) (sym d) (in_at xs k x e) | inr j ↦ picked-in xs ks y j ]
    ] refl h

pub in-picked : {X : Type 0} (xs : List X) (ks : List ℕ) (j : ℕ) (y : X) → slice_get xs j ≡ Some y → IsIn j ks → IsIn y (picked xs ks)
in-picked xs [] j y e h = elim h [ ]
in-picked xs (k ∷ ks) j y e h =
    elim (in_cases j k ks h) [
      | inl d ↦ subst (λ o. IsIn y (pick o (picked xs ks))) (sym (ap (slice_get xs) (sym d) ∙ e)) first
      | inr i ↦ elim (slice_get xs k) as (λ o. IsIn y (pick o (picked xs ks))) [ None ↦ in-picked xs ks j y e i | Some x ↦ later (in-picked xs ks j y e i) ]
    ]

-- the place of a member
pub in-place : (xs : List (List Term)) (y : List Term) → IsIn y xs → (i : ℕ) × (i < length xs) × (slice_get xs i ≡ Some y) × (get_or xs i [] ≡ y)
in-place [] y h = elim h [ ]
in-place (x ∷ xs) y first = (0, omega arith, refl, refl)
in-place (x ∷ xs) y (later h) = let (i, l, g, e) = in-place xs y h in (suc i, omega arith, g, e)

pub at-get : (xs : List (List Term)) (i : ℕ) (x : List Term) → i < length xs → x ≡ get_or xs i x → get_or xs i [] ≡ x
at-get [] i x l e = absurd (omega arith)
at-get (y ∷ xs) zero x l e = sym e
at-get (y ∷ xs) (suc i) x l e = at-get xs i x (omega arith) e

pub places_none : {Z : Type 0} (table : HashMap ℕ (Vec ℕ Z) (BuildHasherDefault FoldHasher)) → table.entries ≡ [] → (c : ℕ) → places_at table c ≡ []
places_none table e c = ap (λ es. items_of (lookup (λ (b : ℕ). c == b) es)) e

pub place-in : (places : List ℕ) (i : ℕ) → i < length places → IsIn (get_or places i 0) places
place-in [] i l = absurd (omega arith)
place-in (p ∷ places) zero l = first
place-in (p ∷ places) (suc i) l = later (place-in places i (omega arith))

-- no row is noted yet
pub indexed_begin : (rows : List (List Term)) (column : ℕ) (free : List ℕ) (at : ℕ → List ℕ) → free ≡ [] → ((c : ℕ) → at c ≡ []) → IsIndexed rows column 0 free at
indexed_begin rows column free at e d = record {
  free_within = All-same (λ i. i < 0) free [] e (All-nil (λ i. i < 0));
  heads_within = λ c. All-same (λ i. i < 0) (at c) [] (d c) (All-nil (λ i. i < 0));
  found = λ i l. absurd (omega arith);
}

module _ (rows : List (List Term)) (column n : ℕ) (row : List Term) (l : n < length rows) (e : row ≡ get_or rows n row) (free more : List ℕ) (at after : ℕ → List ℕ) (ix : IsIndexed rows column n free at) where
  abbrev Below : ℕ → Type 0
  Below i = i < n + 1

  wider : (xs : List ℕ) → All (λ i. i < n) xs → All Below xs
  wider xs h = All-weaker (λ i. i < n) Below (λ i k. omega arith) xs h

  longer : (xs : List ℕ) → All (λ i. i < n) xs → All Below (xs ++ n ∷ [])
  longer xs h = All-push Below xs n (wider xs h) (omega arith)

  -- among the first rows, or the next one
  earlier : (i : ℕ) → i < n + 1 → (i ≡ n → ⊥) → i < n
  earlier i h ne = grind arith

  noted_free : more ≡ free ++ n ∷ [] → ((c : ℕ) → after c ≡ at c) → IsIndexed rows column (n + 1) more after
  noted_free m a = record {
    free_within = All-same Below more (free ++ n ∷ []) m (longer free ix.free_within);
    heads_within = λ c. All-same Below (after c) (at c) (a c) (wider (at c) (ix.heads_within c));
    found = λ i h. elim (cases_eq i n) [
      | inl d ↦ inl (subst (IsIn i) (sym m) (subst (λ z. IsIn z (free ++ n ∷ [])) (sym d) (in-last n free)))
      | inr ne ↦ elim (ix.found i (earlier i h ne)) [
        | inl f ↦ inl (subst (IsIn i) (sym m) (in_left i free (n ∷ []) f))
        | inr (c, k, j) ↦ inr (c, k, subst (IsIn i) (sym (a c)) j)
      ]
    ];
  }

  noted_head : (head : ℕ) → HeadAt row column head → more ≡ free → ((c : ℕ) → after c ≡ cond (head == c) (at c ++ n ∷ []) (at c)) → IsIndexed rows column (n + 1) more after
  noted_head head k m a = record {
    free_within = All-same Below more free m (wider free ix.free_within);
    heads_within = λ c. All-same Below (after c) (cond (head == c) (at c ++ n ∷ []) (at c)) (a c)
        (elim (head == c) as (λ b. All Below (cond b (at c ++ n ∷ []) (at c))) [ true ↦ longer (at c) (ix.heads_within c) | false ↦ wider (at c) (ix.heads_within c) ]);
    found = λ i h. elim (cases_eq i n) [
      | inl d ↦ inr (
        head,
        subst (λ z. HeadAt (get_or rows z []) column head) (sym d) (subst (λ r. HeadAt r column head) (sym (at-get rows n row l e)) k),
        subst (IsIn i) (sym (a head)) (subst (λ b. IsIn i (cond b (at head ++ n ∷ []) (at head))) (sym (eqb-refl head)) (subst (λ z. IsIn z (at head ++ n ∷ [])) (sym d) (in-last n (at head)))),
      )
      | inr ne ↦ elim (ix.found i (earlier i h ne)) [
        | inl f ↦ inl (subst (IsIn i) (sym m) f)
        | inr (c, g, j) ↦ inr (c, g, subst (IsIn i) (sym (a c)) (elim (head == c) as (λ b. IsIn i (cond b (at c ++ n ∷ []) (at c))) [ true ↦ in_left i (at c) (n ∷ []) j | false ↦ j ]))
      ]
    ];
  }

  pub indexed_next : IsNoted row column n free at more after → IsIndexed rows column (n + 1) more after
  indexed_next (inl (m, a)) = noted_free m a
  indexed_next (inr (head, k, m, a)) = noted_head head k m a

module _ (sig : Signature) (pairs : List Columns) (keep : List ℕ) where
  -- one row more is tried
  pub one_crossed : (done : List Two) (one : List Term) (tried next now more : List (List Term)) (other : List Term) → next ≡ tried ++ other ∷ []
      → AreJoined sig pairs keep (done ++ with_each one tried) now → IsMore sig pairs keep one other now more → AreJoined sig pairs keep (done ++ with_each one next) more
  one_crossed done one tried next now more other e a m =
      subst (λ ps. AreJoined sig pairs keep ps more)
      (append_assoc done (with_each one tried) ((one, other) ∷ []) ∙ ap (λ ps. done ++ ps) (sym (each-push one other tried)) ∙ ap (λ z. done ++ with_each one z) (sym e))
      (joined_one sig pairs keep (done ++ with_each one tried) now one other more a m)

  -- pairs of rows that have no join may be left out
  joined_fewer : (done all : List Two) (made : List (List Term)) → AreJoined sig pairs keep done made → ((p : Two) → IsIn p done → IsIn p all)
      → ((p : Two) → IsIn p all → IsIn p done ⊎ ((x : List Term) → Joins sig pairs keep p.0 p.1 x → ⊥)) → AreJoined sig pairs keep all made
  joined_fewer done all made a into cover = record {
    from = λ m h. let (p, i, j) = a.from m h in (p, into p i, j);
    to = λ p h x j. elim (cover p h) [ inl i ↦ a.to p i x j | inr none ↦ absurd (none x j) ];
  }

  pub each-both : (p : Two) (one : List Term) (right : List (List Term)) → p.0 ≡ one → IsIn p.1 right → IsIn p (with_each one right)
  each-both p one right e i = subst (λ (z : List Term). IsIn (z, p.1) (with_each one right)) (sym e) (in-each one p.1 right i)

  -- a row that is joined with those of two lists that it can meet is joined with all
  pub crossed_by : (one : List Term) (right free own made mid more : List (List Term)) → ((other : List Term) → IsIn other free → IsIn other right) → ((other : List Term) → IsIn other own → IsIn other right)
      → ((other : List Term) → IsIn other right → IsIn other free ⊎ (IsIn other own ⊎ ((x : List Term) → Joins sig pairs keep one other x → ⊥)))
      → IsCrossed sig pairs keep one free made mid → IsCrossed sig pairs keep one own mid more → IsCrossed sig pairs keep one right made more
  crossed_by one right free own made mid more f o cover c d done a =
      let front = done ++ with_each one free in
      joined_fewer (front ++ with_each one own) (done ++ with_each one right) more (d front (c done a))
      (λ p h. elim (in_either p front (with_each one own) h) [
        | inl i ↦ elim (in_either p done (with_each one free) i) [
          | inl j ↦ in_left p done (with_each one right) j
          | inr j ↦ let (e, k) = each-in p one free j in in_right p done (with_each one right) (each-both p one right e (f p.1 k))
        ]
        | inr i ↦ let (e, k) = each-in p one own i in in_right p done (with_each one right) (each-both p one right e (o p.1 k))
      ])
      (λ p h. elim (in_either p done (with_each one right) h) [
        | inl i ↦ inl (in_left p front (with_each one own) (in_left p done (with_each one free) i))
        | inr i ↦ let (e, k) = each-in p one right i in elim (cover p.1 k) [
          | inl j ↦ inl (in_left p front (with_each one own) (in_right p done (with_each one free) (each-both p one free e j)))
          | inr rest ↦ elim rest [
            | inl j ↦ inl (in_right p front (with_each one own) (each-both p one own e j))
            | inr none ↦ inr (λ x j. none x (subst (λ (z : List Term). Joins sig pairs keep z p.1 x) e j))
          ]
        ]
      ])

  -- what an index leaves out has no join
  pub met : (one : List Term) (right : List (List Term)) (p : Columns) (head : ℕ) (free : List ℕ) (at : ℕ → List ℕ) → slice_get pairs 0 ≡ Some p → HeadAt one p.0 head → IsIndexed right p.1 (length right) free at
      → (other : List Term) → IsIn other right → IsIn other (picked right free) ⊎ (IsIn other (picked right (at head)) ⊎ ((x : List Term) → Joins sig pairs keep one other x → ⊥))
  met one right p head free at e h ix other i =
      let (k, l, g, is) = in-place right other i in
      elim (ix.found k l) [
        | inl f ↦ inl (in-picked right free k other g f)
        | inr (d, own, j) ↦ elim (cases_eq head d) [
          | inl same ↦ inr (inl (in-picked right (at head) k other g (subst (λ z. IsIn k (at z)) (sym same) j)))
          | inr ne ↦ inr (inr (λ x. no_meeting sig pairs keep one other x p head d e h (subst (λ r. HeadAt r p.1 d) is own) ne))
        ]
      ]

-- an instance of a row with a constructor at the head has it too
held_head : (k row : List Term) (column c d : ℕ) → HeadAt k column c → IsInstance row k → HeadAt row column d → c ≡ d
held_head k row column c d (t, at, h) (f, e) (u, bt, g) =
    let there : slice_get row column ≡ Some (substitute f t) = ap (λ r. slice_get r column) e ∙ slice_get-map (substitute f) k column t at in
    let both : ◌≡◌ {A = Option Term} (Some (substitute f t)) (Some u) = sym there ∙ bt in
    let one : substitute f t ≡ u = cc in
    let heads : ◌≡◌ {A = Option ℕ} (Some c) (Some d) = sym (head-substitute f t c h) ∙ ap head_of one ∙ g in
    cc

instance_head : (k row : List Term) (column c : ℕ) → HeadAt k column c → IsInstance row k → HeadAt row column c
instance_head k row column c (t, at, h) (f, e) = (substitute f t, ap (λ r. slice_get r column) e ∙ slice_get-map (substitute f) k column t at, head-substitute f t c h)

pub covered_by : (kept : List (List Term)) (row : List Term) (column head : ℕ) (free : List ℕ) (at : ℕ → List ℕ) → IsIndexed kept column (length kept) free at → HeadAt row column head → IsCovered kept row
    → IsCovered (picked kept free) row ⊎ IsCovered (picked kept (at head)) row
covered_by kept row column head free at ix h (k, i, j) =
    let (p, l, g, is) = in-place kept k i in
    elim (ix.found p l) [
      | inl f ↦ inl (k, in-picked kept free p k g f, j)
      | inr (d, own, m) ↦ inr (k, in-picked kept (at head) p k g (subst (λ c. IsIn p (at c)) (held_head k row column d head (subst (λ r. HeadAt r column d) is own) j h) m), j)
    ]

-- a row without a constructor at the head is no instance of one that has one there
pub covered_free : (kept : List (List Term)) (row : List Term) (column : ℕ) (free : List ℕ) (at : ℕ → List ℕ) → IsIndexed kept column (length kept) free at → ((c : ℕ) → HeadAt row column c → ⊥) → IsCovered kept row
    → IsCovered (picked kept free) row
covered_free kept row column free at ix none (k, i, j) =
    let (p, l, g, is) = in-place kept k i in
    elim (ix.found p l) [
      | inl f ↦ (k, in-picked kept free p k g f, j)
      | inr (d, own, m) ↦ absurd (none d (instance_head k row column d (subst (λ r. HeadAt r column d) is own) j))
    ]

-- an instance of a row with a constructor at the head is among the free ones or those with this constructor
pub held_by : (kept : List (List Term)) (row : List Term) (column head : ℕ) (free : List ℕ) (at : ℕ → List ℕ) → IsIndexed kept column (length kept) free at → HeadAt row column head
    → HoldsNone row (picked kept free) → HoldsNone row (picked kept (at head)) → HoldsNone row kept
held_by kept row column head free at ix h no_free no_own = λ k i j.
    let (p, l, g, is) = in-place kept k i in
    elim (ix.found p l) [
      | inl f ↦ no_free k (in-picked kept free p k g f) j
      | inr (d, own, m) ↦ no_own k (in-picked kept (at head) p k g (subst (λ c. IsIn p (at c)) (sym (held_head row k column head d h j (subst (λ r. HeadAt r column d) is own))) m)) j
    ]

-- one row more is no instance
pub none_next : (row other : List Term) (tried next : List (List Term)) → next ≡ tried ++ other ∷ [] → HoldsNone row tried → (IsInstance other row → ⊥) → HoldsNone row next
none_next row other tried next e nope here = λ k i j. elim (in-split k other tried (subst (IsIn k) e i)) [ inl a ↦ nope k a j | inr d ↦ here (subst (λ z. IsInstance z row) d j) ]

-- ---- the head of a column

pub some_head : (row : List Term) (column : ℕ) (t : Term) (o : Option ℕ) → slice_get row column ≡ Some t → o ≡ head_of t → IfSome o (HeadAt row column)
some_head row column t None at e = tt
some_head row column t (Some c) at e = (t, at, sym e)

pub no_head : (row : List Term) (column : ℕ) (t : Term) (o : Option ℕ) → slice_get row column ≡ Some t → o ≡ head_of t → IfNone o ((c : ℕ) → HeadAt row column c → ⊥)
no_head row column t None at e = λ c (u, bt, h).
    let both : ◌≡◌ {A = Option Term} (Some t) (Some u) = sym at ∙ bt in
    let one : t ≡ u = cc in
    let heads : ◌≡◌ {A = Option ℕ} None (Some c) = e ∙ ap head_of one ∙ h in
    absurd (cc)
no_head row column t (Some c) at e = tt

pub head_within : (row : List Term) (column c : ℕ) → HeadAt row column c → column < length row
head_within row column c (t, at, h) = get-within row column t at
  where
    get-within : (row : List Term) (i : ℕ) (t : Term) → slice_get row i ≡ Some t → i < length row
    get-within [] i t e = absurd (cc)
    get-within (x ∷ row) zero t e = omega arith
    get-within (x ∷ row) (suc i) t e = let k = get-within row i t e in omega (arith, k)

pub covered_among : (kept : List (List Term)) (row : List Term) (places : List ℕ) → IsCovered (picked kept places) row → IsCovered kept row
covered_among kept row places (k, i, j) = (k, picked-in kept places k i, j)

-- one row more is compared
pub uncovered_next : (row other : List Term) (tried next : List (List Term)) → next ≡ tried ++ other ∷ [] → (IsCovered tried row → ⊥) → (IsInstance row other → ⊥) → IsCovered next row → ⊥
uncovered_next row other tried next e nope here (k, i, j) = elim (in-split k other tried (subst (IsIn k) e i)) [ inl a ↦ nope (k, a, j) | inr d ↦ here (subst (IsInstance row) d j) ]

-- one row more is indexed
front-same : (rows : List (List Term)) (row : List Term) (i : ℕ) → i < length rows → get_or (rows ++ row ∷ []) i [] ≡ get_or rows i []
front-same [] row i l = absurd (omega arith)
front-same (x ∷ rows) row zero l = refl
front-same (x ∷ rows) row (suc i) l = front-same rows row i (omega arith)

last-at : (rows : List (List Term)) (row : List Term) → row ≡ get_or (rows ++ row ∷ []) (length rows) row
last-at [] row = refl
last-at (x ∷ rows) row = last-at rows row

indexed_grow : (rows : List (List Term)) (row : List Term) (column : ℕ) (free : List ℕ) (at : ℕ → List ℕ) → IsIndexed rows column (length rows) free at → IsIndexed (rows ++ row ∷ []) column (length rows) free at
indexed_grow rows row column free at ix = record {
  free_within = ix.free_within;
  heads_within = ix.heads_within;
  found = λ i l. elim (ix.found i l) [ inl f ↦ inl f | inr (c, h, j) ↦ inr (c, subst (λ r. HeadAt r column c) (sym (front-same rows row i l)) h, j) ];
}

pub indexed_push : (rows : List (List Term)) (row : List Term) (all : List (List Term)) (column : ℕ) (free more : List ℕ) (at after : ℕ → List ℕ) → IsIndexed rows column (length rows) free at → IsNoted row column (length rows) free at more after → all ≡ rows ++ row ∷ []
    → IsIndexed all column (length all) more after
indexed_push rows row all column free more at after ix noted e =
    let longer = rows ++ row ∷ [] in
    let next = indexed_next longer column (length rows) row (let l = length_push rows row in omega arith) (last-at rows row) free more at after (indexed_grow rows row column free at ix) noted in
    subst (λ xs. IsIndexed xs column (length xs) more after) (sym e) (subst (λ n. IsIndexed longer column n more after) (sym (length_push rows row)) next)
