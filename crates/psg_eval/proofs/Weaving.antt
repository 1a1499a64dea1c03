-- The columns of an operator's row: the values of the children and the entities of the keys, in the order of the parts.
use Rattle.std.proofs.Common.{◌≡◌, inl, inr, ℕ, true, List, [], ◌∷◌, ◌++◌, map, Some, refl, ap, ap₂, sym, ◌∙◌, subst, append_assoc, append-nil, true≢false, bytes_eq}
use Rattle.std.specs.List.{slice_get, AllByRecursion}
use Rattle.std.proofs.lemmas.List.{map-append}
use Rattle.std.proofs.lemmas.Bool.{or_cases}
use Rattle.psg_terms.specs.Names.{Name, is_among}
use Rattle.psg_terms.specs.Terms.{Term}
use Rattle.psg_terms.specs.Signature.{HasSort, HaveSorts}
use Rattle.psg_terms.specs.Instances.{IsGround}
use Rattle.psg_grammar.specs.declared.types.Kind.{Kind}
use Rattle.psg_grammar.specs.declared.types.Item.{Item}
use Rattle.psg_grammar.specs.declared.types.Item.TheVariants as items
use Rattle.psg_grammar.specs.declared.types.Operator.{Operator}
use Rattle.psg_grammar.specs.declared.types.Space.{Space}
use Rattle.psg_grammar.specs.declared.types.Definition.{Definition}
use Rattle.psg_grammar.specs.Fragments.{Fragment, hole, ending, cell, operator, with_child, with_name, with_number, with_text, anything, observed, top_operator}
use Rattle.psg_grammar.specs.Keys.{Key, space_of}
use Rattle.psg_grammar.specs.Legal.{Entities, AreEntities}
use Rattle.psg_grammar.specs.Lookups.{part_items, key_at}
use Rattle.psg_grammar.specs.Open.{Choice, Holds, IsOfOperatorRow}
use Rattle.psg_grammar.specs.Regions.{names_inside}
use Rattle.psg_grammar.specs.Sound.{AreColumns, HasSpaceSort}
use Rattle.psg_scope.proofs.KeyLists.{key_is}
use Rattle.psg_eval.specs.Trees.{HasParts}
use Rattle.psg_eval.specs.OwnRows.{slot_terms, name_terms}
use Rattle.psg_eval.proofs.Columns.{end_same}
use Rattle.psg_eval.proofs.Spines.{bare, choice_of, row_of, done_of, key_is as own_key}

-- The own columns are put together of the values of the children and the terms of the name positions, both from left to right.
abbrev pub Weaves : Fragment → List Term → List Term → List Term → Type 0
Weaves (operator o) own values terms = (own ≡ []) × (values ≡ []) × (terms ≡ [])
Weaves (with_child f t) own values terms = (front : List Term) × (seen : List Term) × (u : Term) × (own ≡ front ++ u ∷ []) × (values ≡ seen ++ u ∷ []) × Weaves f front seen terms
Weaves (with_name f n) own values terms = (front : List Term) × (kept : List Term) × (u : Term) × (own ≡ front ++ u ∷ []) × (terms ≡ kept ++ u ∷ []) × Weaves f front values kept
Weaves (with_number f n) own values terms = Weaves f own values terms
Weaves (with_text f n) own values terms = Weaves f own values terms
Weaves (hole p) own values terms = ⊥
Weaves (ending l u) own values terms = ⊥
Weaves (cell l e r) own values terms = ⊥
Weaves anything own values terms = ⊥
Weaves (observed f) own values terms = ⊥

-- one more at the end of the front, and the rest behind it
moved_over : (xs : List Term) (front : List Term) (u : Term) (rest : List Term) → xs ≡ front ++ u ∷ [] → xs ++ rest ≡ front ++ u ∷ rest
moved_over xs front u rest e = ap (λ l. l ++ rest) e ∙ append_assoc front (u ∷ []) rest

module _ (def : Definition) (o : ℕ) (op : Operator) (found : slice_get def.operators o ≡ Some op) where
  -- ---- what holds is put together so

  pub record Woven (g : Entities) (f : Fragment) (c : Choice (bare f)) (columns : List Term) (v : Term) (before after : List Term) : Type 0 where
    pub own : List Term
    pub values : List Term
    pub weaves : Weaves f own values (map g (names_inside def (bare f)))
    pub before_is : before ≡ values ++ after
    pub row : IsOfOperatorRow def o (row_of f c) v (own ++ columns)

  pub holds_weave : (f : Fragment) (more : List Item) → top_operator f ≡ Some o → HasParts def f more → (g : Entities) (c : Choice (bare f)) (columns : List Term) (v : Term) (before after : List Term)
      → Holds def g (bare f) c columns v before after → Woven g f c columns v before after
  holds_weave (operator p) more top h g c columns v before after (e, row) =
      let same : p ≡ o = cc in
      record { own = []; values = []; weaves = (refl, refl, refl); before_is = e; row = subst (λ q. IsOfOperatorRow def q c v columns) same row }
  holds_weave (with_child f t) more top (k, h) g c columns v before after (u, mid, inner, hf, ei, agr, (none, mid_is)) =
      let w = holds_weave f (items.Slot k ∷ more) top h g c.0 (u ∷ columns) v before mid hf in
      record {
        own = w.own ++ u ∷ [];
        values = w.values ++ u ∷ [];
        weaves = (w.own, w.values, u, refl, refl, subst (Weaves f w.own w.values) (ap (map g) (sym (append-nil (names_inside def (bare f))))) w.weaves);
        before_is = w.before_is ∙ ap (λ l. w.values ++ l) mid_is ∙ sym (append_assoc w.values (u ∷ []) after);
        row = subst (IsOfOperatorRow def o (row_of f c.0) v) (sym (append_assoc w.own (u ∷ []) columns)) w.row;
      }
  holds_weave (with_name f n) more top h g c columns v before after it =
      let u : Term = g (key_at def (bare f) n) in
      let w : Woven g f c (u ∷ columns) v before after = elim h [
        | inl x ↦ holds_weave f (items.Refers x.0 ∷ more) top x.1 g c (u ∷ columns) v before after it
        | inr x ↦ holds_weave f (items.Declares x.0 ∷ more) top x.1 g c (u ∷ columns) v before after it
      ] in
      record {
        own = w.own ++ u ∷ [];
        values = w.values;
        weaves = (w.own, map g (names_inside def (bare f)), u, refl, map-append g (names_inside def (bare f)) (key_at def (bare f) n ∷ []), w.weaves);
        before_is = w.before_is;
        row = subst (IsOfOperatorRow def o (row_of f c) v) (sym (append_assoc w.own (u ∷ []) columns)) w.row;
      }
  holds_weave (with_number f n) more top h g c columns v before after it =
      let w = holds_weave f (items.Number ∷ more) top h g c columns v before after it in
      record { own = w.own; values = w.values; weaves = w.weaves; before_is = w.before_is; row = w.row }
  holds_weave (with_text f n) more top h g c columns v before after it =
      let w = holds_weave f (items.Text ∷ more) top h g c columns v before after it in
      record { own = w.own; values = w.values; weaves = w.weaves; before_is = w.before_is; row = w.row }
  holds_weave (hole p) more top h g c columns v before after it = absurd h
  holds_weave (ending l u) more top h g c columns v before after it = absurd h
  holds_weave (cell l e r) more top h g c columns v before after it = absurd h
  holds_weave anything more top h g c columns v before after it = absurd h
  holds_weave (observed f) more top h g c columns v before after it = absurd h

  -- ---- and what is put together so holds

  pub weave_holds : (f : Fragment) → top_operator f ≡ Some o → (own values terms : List Term) → Weaves f own values terms → (g : Entities) → AreEntities def g → terms ≡ map g (names_inside def (bare f))
      → (r : ℕ) (columns : List Term) (v : Term) (after : List Term) → IsOfOperatorRow def o r v (own ++ columns) → Holds def g (bare f) (choice_of f r) columns v (values ++ after) after
  weave_holds (operator p) top own values terms (e, d, _) g eg kept r columns v after row =
      let same : o ≡ p = cc in
      (ap (λ l. l ++ after) d, subst (λ q. IsOfOperatorRow def q r v columns) same (subst (λ l. IsOfOperatorRow def o r v (l ++ columns)) e row))
  weave_holds (with_child f t) top own values terms (front, seen, u, e, d, w) g eg kept r columns v after row = (
    u,
    u ∷ after,
    g,
    subst (λ l. Holds def g (bare f) (choice_of f r) (u ∷ columns) v l (u ∷ after)) (sym (moved_over values seen u after d))
        (weave_holds f top front seen terms w g eg (kept ∙ ap (map g) (append-nil (names_inside def (bare f)))) r (u ∷ columns) v (u ∷ after)
        (subst (IsOfOperatorRow def o r v) (moved_over own front u columns e) row)),
    eg,
    refl,
    (refl, refl),
  )
  weave_holds (with_name f n) top own values terms (front, before, u, e, d, w) g eg kept r columns v after row =
      let key = key_at def (bare f) n in
      let both : (before ≡ map g (names_inside def (bare f))) × (u ∷ [] ≡ g key ∷ []) =
      end_same before (u ∷ []) (map g (names_inside def (bare f))) (g key ∷ []) refl (sym d ∙ kept ∙ map-append g (names_inside def (bare f)) (key ∷ [])) in
      let u_is : u ≡ g key = let x = both.1 in cc in
      subst (λ x. Holds def g (bare f) (choice_of f r) (x ∷ columns) v (values ++ after) after) u_is
      (weave_holds f top front values before w g eg both.0 r (u ∷ columns) v after (subst (IsOfOperatorRow def o r v) (moved_over own front u columns e) row))
  weave_holds (with_number f n) top own values terms w g eg kept r columns v after row = weave_holds f top own values terms w g eg kept r columns v after row
  weave_holds (with_text f n) top own values terms w g eg kept r columns v after row = weave_holds f top own values terms w g eg kept r columns v after row
  weave_holds (hole p) top own values terms w g eg kept r columns v after row = absurd w
  weave_holds (ending l u) top own values terms w g eg kept r columns v after row = absurd w
  weave_holds (cell l x y) top own values terms w g eg kept r columns v after row = absurd w
  weave_holds anything top own values terms w g eg kept r columns v after row = absurd w
  weave_holds (observed f) top own values terms w g eg kept r columns v after row = absurd w

  -- ---- slots and name positions of the columns

  abbrev parts : List Item
  parts = part_items op.items

  pub record Told (more : List Item) (own values terms columns : List Term) : Type 0 where
    pub slots : slot_terms parts (own ++ columns) ≡ values ++ slot_terms more columns
    pub names : name_terms parts (own ++ columns) ≡ terms ++ name_terms more columns

  slot_told : (k : Kind) (more : List Item) (own values terms columns front seen : List Term) (u : Term) → own ≡ front ++ u ∷ [] → values ≡ seen ++ u ∷ []
      → Told (items.Slot k ∷ more) front seen terms (u ∷ columns) → Told more own values terms columns
  slot_told k more own values terms columns front seen u e d told = record {
    slots = ap (slot_terms parts) (moved_over own front u columns e) ∙ told.slots ∙ sym (moved_over values seen u (slot_terms more columns) d);
    names = ap (name_terms parts) (moved_over own front u columns e) ∙ told.names;
  }

  name_told : (i : Item) (more : List Item) (own values terms columns front kept : List Term) (u : Term) → own ≡ front ++ u ∷ [] → terms ≡ kept ++ u ∷ []
      → slot_terms (i ∷ more) (u ∷ columns) ≡ slot_terms more columns → name_terms (i ∷ more) (u ∷ columns) ≡ u ∷ name_terms more columns
      → Told (i ∷ more) front values kept (u ∷ columns) → Told more own values terms columns
  name_told i more own values terms columns front kept u e d slots names told = record {
    slots = ap (slot_terms parts) (moved_over own front u columns e) ∙ told.slots ∙ ap (λ l. values ++ l) slots;
    names = ap (name_terms parts) (moved_over own front u columns e) ∙ told.names ∙ ap (λ l. kept ++ l) names ∙ sym (moved_over terms kept u (name_terms more columns) d);
  }

  pub weave_told : (f : Fragment) (more : List Item) → top_operator f ≡ Some o → HasParts def f more → (own values terms : List Term) → Weaves f own values terms → (columns : List Term)
      → Told more own values terms columns
  weave_told (operator p) more top (other, at, e) own values terms (a, b, c) columns =
      let same : p ≡ o = cc in
      let one : other ≡ op = let d : Some other ≡ Some op = sym at ∙ ap (slice_get def.operators) same ∙ found in cc in
      let all : parts ≡ more = sym (e ∙ ap (λ (x : Operator). part_items x.items) one) in
      record {
        slots = ap₂ (λ l k. slot_terms l (k ++ columns)) all a ∙ ap (λ l. l ++ slot_terms more columns) (sym b);
        names = ap₂ (λ l k. name_terms l (k ++ columns)) all a ∙ ap (λ l. l ++ name_terms more columns) (sym c);
      }
  weave_told (with_child f t) more top (k, h) own values terms (front, seen, u, e, d, w) columns =
      slot_told k more own values terms columns front seen u e d (weave_told f (items.Slot k ∷ more) top h front seen terms w (u ∷ columns))
  weave_told (with_name f n) more top (inl (s, h)) own values terms (front, kept, u, e, d, w) columns =
      name_told (items.Refers s) more own values terms columns front kept u e d refl refl (weave_told f (items.Refers s ∷ more) top h front values kept w (u ∷ columns))
  weave_told (with_name f n) more top (inr (s, h)) own values terms (front, kept, u, e, d, w) columns =
      name_told (items.Declares s) more own values terms columns front kept u e d refl refl (weave_told f (items.Declares s ∷ more) top h front values kept w (u ∷ columns))
  weave_told (with_number f n) more top h own values terms w columns =
      let t = weave_told f (items.Number ∷ more) top h own values terms w columns in record { slots = t.slots; names = t.names }
  weave_told (with_text f n) more top h own values terms w columns =
      let t = weave_told f (items.Text ∷ more) top h own values terms w columns in record { slots = t.slots; names = t.names }
  weave_told (hole p) more top h own values terms w columns = absurd h
  weave_told (ending l u) more top h own values terms w columns = absurd h
  weave_told (cell l x y) more top h own values terms w columns = absurd h
  weave_told anything more top h own values terms w columns = absurd h
  weave_told (observed f) more top h own values terms w columns = absurd h

  -- ---- columns of the right sorts are put together so

  -- a term without variables of the sort of the key's space
  pub record IsEntity (k : Key) (x : Term) : Type 0 where
    pub ground : IsGround x
    pub sorted : (e : Space) → slice_get def.spaces (space_of k) ≡ Some e → HasSort def.signature x e.sort.0

  abbrev pub AllEntities : List Key → List Term → Type 0
  AllEntities [] [] = Unit {0}
  AllEntities [] (x ∷ xs) = ⊥
  AllEntities (k ∷ ks) [] = ⊥
  AllEntities (k ∷ ks) (x ∷ xs) = IsEntity k x × AllEntities ks xs

  entities_push : (ks : List Key) (xs : List Term) (k : Key) (x : Term) → AllEntities ks xs → IsEntity k x → AllEntities (ks ++ k ∷ []) (xs ++ x ∷ [])
  entities_push [] [] k x all h = (h, tt)
  entities_push [] (y ∷ xs) k x all h = absurd all
  entities_push (j ∷ ks) [] k x all h = absurd all
  entities_push (j ∷ ks) (y ∷ xs) k x (i, all) h = (i, entities_push ks xs k x all h)

  pub entity_among : (ks : List Key) (xs : List Term) (g : Entities) → AllEntities ks xs → map g ks ≡ xs → (n : Key) → is_among ks n ≡ true → IsEntity n (g n)
  entity_among [] xs g all e n i = absurd (true≢false (sym i))
  entity_among (k ∷ ks) [] g all e n i = absurd all
  entity_among (k ∷ ks) (x ∷ xs) g (h, all) e n i =
      let one : g k ≡ x = cc in
      let later : map g ks ≡ xs = cc in
      elim (or_cases (bytes_eq k n) (is_among ks n) i) [
        | inl same ↦ subst (λ m. IsEntity m (g m)) (key_is k n same) (subst (IsEntity k) (sym one) h)
        | inr j ↦ entity_among ks xs g all later n j
      ]

  pub record Split (f : Fragment) (more : List Item) (full : List Term) : Type 0 where
    pub own : List Term
    pub values : List Term
    pub terms : List Term
    pub columns : List Term
    pub sorts : List ℕ
    pub full_is : full ≡ own ++ columns
    pub are_columns : AreColumns def more sorts
    pub sorted : HaveSorts def.signature columns sorts
    pub ground : AllByRecursion IsGround columns
    pub weaves : Weaves f own values terms
    pub entities : AllEntities (names_inside def (bare f)) terms

  -- a list of terms of one sort and more has a first term
  first_of : (columns : List Term) (s : ℕ) (sorts : List ℕ) → HaveSorts def.signature columns (s ∷ sorts) → AllByRecursion IsGround columns
      → (u : Term) × (rest : List Term) × (columns ≡ u ∷ rest) × HasSort def.signature u s × IsGround u × HaveSorts def.signature rest sorts × AllByRecursion IsGround rest
  first_of [] s sorts h g = absurd h
  first_of (u ∷ rest) s sorts (h, hs) (g, gs) = (u, rest, refl, h, g, hs, gs)

  name_split : (f : Fragment) (n : Name) (more : List Item) (full : List Term) (s : ℕ) (i : Item) → key_at def (bare f) n ≡ s ∷ n
      → ((sorts : List ℕ) → AreColumns def (i ∷ more) sorts → (r : ℕ) × (rest : List ℕ) × (sorts ≡ r ∷ rest) × HasSpaceSort def s r × AreColumns def more rest)
      → Split f (i ∷ more) full → Split (with_name f n) more full
  name_split f n more full s i key first_sort w =
      let (r, rest_sorts, sorts_are, (e, at, of_space), are) = first_sort w.sorts w.are_columns in
      let (u, rest, e2, hu, gu, hs, gs) = first_of w.columns r rest_sorts (subst (HaveSorts def.signature w.columns) sorts_are w.sorted) w.ground in
      let entity : IsEntity (key_at def (bare f) n) u = subst (λ k. IsEntity k u) (sym key) (record {
        ground = gu;
        sorted = λ d there.
            let same : e ≡ d = let x : Some e ≡ Some d = sym at ∙ there in cc in
            subst (HasSort def.signature u) (sym of_space ∙ ap (λ (x : Space). x.sort.0) same) hu;
      }) in
      record {
        own = w.own ++ u ∷ [];
        values = w.values;
        terms = w.terms ++ u ∷ [];
        columns = rest;
        sorts = rest_sorts;
        full_is = w.full_is ∙ ap (λ l. w.own ++ l) e2 ∙ sym (append_assoc w.own (u ∷ []) rest);
        are_columns = are;
        sorted = hs;
        ground = gs;
        weaves = (w.own, w.terms, u, refl, refl, w.weaves);
        entities = entities_push (names_inside def (bare f)) w.terms (key_at def (bare f) n) u w.entities entity;
      }

  pub split_of : (f : Fragment) (more : List Item) → top_operator f ≡ Some o → HasParts def f more → (full : List Term) (sorts : List ℕ) → AreColumns def parts sorts → HaveSorts def.signature full sorts
      → AllByRecursion IsGround full → Split f more full
  split_of (operator p) more top (other, at, e) full sorts are sorted ground =
      let same : p ≡ o = cc in
      let one : other ≡ op = let d : Some other ≡ Some op = sym at ∙ ap (slice_get def.operators) same ∙ found in cc in
      let all : parts ≡ more = sym (e ∙ ap (λ (x : Operator). part_items x.items) one) in
      record {
        own = [];
        values = [];
        terms = [];
        columns = full;
        sorts = sorts;
        full_is = refl;
        are_columns = subst (λ l. AreColumns def l sorts) all are;
        sorted = sorted;
        ground = ground;
        weaves = (refl, refl, refl);
        entities = tt;
      }
  split_of (with_child f t) more top (k, h) full sorts are sorted ground =
      let w = split_of f (items.Slot k ∷ more) top h full sorts are sorted ground in
      let (r, rest_sorts, sorts_are, _, rest_are) = w.are_columns in
      let (u, rest, e2, hu, gu, hs, gs) = first_of w.columns r rest_sorts (subst (HaveSorts def.signature w.columns) sorts_are w.sorted) w.ground in
      record {
        own = w.own ++ u ∷ [];
        values = w.values ++ u ∷ [];
        terms = w.terms;
        columns = rest;
        sorts = rest_sorts;
        full_is = w.full_is ∙ ap (λ l. w.own ++ l) e2 ∙ sym (append_assoc w.own (u ∷ []) rest);
        are_columns = rest_are;
        sorted = hs;
        ground = gs;
        weaves = (w.own, w.values, u, refl, refl, w.weaves);
        entities = subst (λ l. AllEntities l w.terms) (sym (append-nil (names_inside def (bare f)))) w.entities;
      }
  split_of (with_name f n) more top (inl (s, h)) full sorts are sorted ground =
      name_split f n more full s (items.Refers s) (own_key def o op found f (items.Refers s) more (done_of def o op found f (items.Refers s ∷ more) top h) n) (λ sorts are. are)
      (split_of f (items.Refers s ∷ more) top h full sorts are sorted ground)
  split_of (with_name f n) more top (inr (s, h)) full sorts are sorted ground =
      name_split f n more full s (items.Declares s) (own_key def o op found f (items.Declares s) more (done_of def o op found f (items.Declares s ∷ more) top h) n) (λ sorts are. are)
      (split_of f (items.Declares s ∷ more) top h full sorts are sorted ground)
  split_of (with_number f n) more top h full sorts are sorted ground =
      let w = split_of f (items.Number ∷ more) top h full sorts are sorted ground in
      record { own = w.own; values = w.values; terms = w.terms; columns = w.columns; sorts = w.sorts; full_is = w.full_is; are_columns = w.are_columns; sorted = w.sorted; ground = w.ground; weaves = w.weaves; entities = w.entities }
  split_of (with_text f n) more top h full sorts are sorted ground =
      let w = split_of f (items.Text ∷ more) top h full sorts are sorted ground in
      record { own = w.own; values = w.values; terms = w.terms; columns = w.columns; sorts = w.sorts; full_is = w.full_is; are_columns = w.are_columns; sorted = w.sorted; ground = w.ground; weaves = w.weaves; entities = w.entities }
  split_of (hole p) more top h full sorts are sorted ground = absurd h
  split_of (ending l u) more top h full sorts are sorted ground = absurd h
  split_of (cell l x y) more top h full sorts are sorted ground = absurd h
  split_of anything more top h full sorts are sorted ground = absurd h
  split_of (observed f) more top h full sorts are sorted ground = absurd h
