-- The values at the hole places of a tree: how many there are, and of which sorts.
use Rattle.std.proofs.Common.{◌≡◌, inl, inr, ℕ, suc, ◌+◌, true, false, List, [], ◌∷◌, ◌++◌, length, Some, slice_get, refl, ap, sym, ◌∙◌, subst, append_assoc, arith}
use Rattle.psg_terms.proofs.Lists.{each_at}
use Rattle.psg_terms.specs.Terms.{Term}
use Rattle.psg_terms.specs.Signature.{HasSort, HaveSorts}
use Rattle.psg_terms.proofs.OneRelation.{takes_once}
use Rattle.psg_terms.proofs.Renumbering.{HaveSorts-substitute}
use Rattle.psg_grammar.specs.declared.types.Kind.{Kind}
use Rattle.psg_grammar.specs.declared.types.Kind.TheVariants as kinds
use Rattle.psg_grammar.specs.declared.types.Item.{Item}
use Rattle.psg_grammar.specs.declared.types.Item.TheVariants as items
use Rattle.psg_grammar.specs.declared.types.ListKind.{ListKind}
use Rattle.psg_grammar.specs.declared.types.Operator.{Operator}
use Rattle.psg_grammar.specs.declared.types.Definition.{Definition}
use Rattle.psg_grammar.specs.Fragments.{Fragment, hole, ending, cell, operator, with_child, with_name, with_number, with_text, anything, observed}
use Rattle.psg_grammar.specs.Lookups.{part_items, key_at}
use Rattle.psg_grammar.specs.Legal.{Entities}
use Rattle.psg_grammar.specs.Open.{Choice, Holds, IsOfOperatorRow, IsOfCellRow}
use Rattle.psg_grammar.specs.Placed.{FitsPlaces}
use Rattle.psg_grammar.specs.Sound.{IsSound, IsRow, HasKindSort, AreColumns}
use Rattle.psg_grammar.proofs.SoundParts.{operator_sound, list_sound}
use Rattle.psg_completions.proofs.RowValues.{one_sort}
use Rattle.psg_eval.specs.Trees.{seen_in}

module _ (def : Definition) (sound : IsSound def) where
  abbrev Fits : Fragment → List Item → Kind → List Kind → List Kind → Type 0
  Fits f more kind places left = FitsPlaces def ⊥ f more kind places left

  -- terms of the sorts of these kinds
  abbrev pub AreOfKinds : List Kind → List Term → Type 0
  AreOfKinds [] [] = Unit {0}
  AreOfKinds [] (u ∷ us) = ⊥
  AreOfKinds (k ∷ ks) [] = ⊥
  AreOfKinds (k ∷ ks) (u ∷ us) = (s : ℕ) × HasKindSort def k s × HasSort def.signature u s × AreOfKinds ks us

  of_kinds_append : (ks ls : List Kind) (us vs : List Term) → AreOfKinds ks us → AreOfKinds ls vs → AreOfKinds (ks ++ ls) (us ++ vs)
  of_kinds_append [] ls [] vs h k = k
  of_kinds_append [] ls (u ∷ us) vs h k = absurd h
  of_kinds_append (k ∷ ks) ls [] vs h l = absurd h
  of_kinds_append (k ∷ ks) ls (u ∷ us) vs (s, has, sorted, h) l = (s, has, sorted, of_kinds_append ks ls us vs h l)

  -- the sorts of the columns of parts that still follow
  record HasColumns (more : List Item) (columns : List Term) : Type 0 where
    sorts : List ℕ
    are : AreColumns def more sorts
    sorted : HaveSorts def.signature columns sorts

  tail_columns : (sorts rest : List ℕ) (s : ℕ) (u : Term) (us : List Term) → sorts ≡ s ∷ rest → HaveSorts def.signature (u ∷ us) sorts → HasSort def.signature u s × HaveSorts def.signature us rest
  tail_columns sorts rest s u us e h = subst (HaveSorts def.signature (u ∷ us)) e h

  no_columns : (more : List Item) (columns : List Term) → more ≡ [] → columns ≡ [] → HasColumns more columns
  no_columns more columns e d = record {
    sorts = [];
    are = subst (λ m. AreColumns def m []) (sym e) refl;
    sorted = subst (λ x. HaveSorts def.signature x []) (sym d) tt;
  }

  own_columns : (o r : ℕ) (v : Term) (columns : List Term) (more : List Item) (op : Operator) → IsOfOperatorRow def o r v columns → slice_get def.operators o ≡ Some op → more ≡ part_items op.items → HasColumns more columns
  own_columns o r v columns more op row found items =
      let same : row.op ≡ op = let e : Some row.op ≡ Some op = sym row.found ∙ found in cc in
      let whole = operator_sound def sound o row.op row.found in
      let of_row = each_at (IsRow def whole.sort whole.columns) row.op.rows whole.each_row r row.row row.chosen in
      record {
        sorts = whole.columns;
        are = subst (λ m. AreColumns def m whole.columns) (sym (items ∙ ap (λ (x : Operator). part_items x.items) (sym same))) whole.are_columns;
        sorted = subst (λ x. HaveSorts def.signature x whole.columns) (sym row.value.rest) (HaveSorts-substitute def.signature row.value.terms row.value.grounding.sorted row.row.columns whole.columns of_row.of_columns);
      }

  -- the element and the rest of a cell have the sorts of their kinds
  cell_values : (l r : ℕ) (v first others : Term) (list : ListKind) → IsOfCellRow def l r v first others → slice_get def.lists l ≡ Some list
      → ((s : ℕ) × HasKindSort def (kinds.Phylum list.element) s × HasSort def.signature first s) × ((s : ℕ) × HasKindSort def (kinds.List l) s × HasSort def.signature others s)
  cell_values l r v first others list row at =
      let same : row.kind ≡ list = let e : Some row.kind ≡ Some list = sym row.list ∙ at in cc in
      let whole = list_sound def sound l row.kind row.list in
      let of_row = each_at (IsRow def row.kind.sort.0 (whole.element ∷ row.kind.sort.0 ∷ [])) row.kind.cell_rows whole.cells r row.row row.chosen in
      let sorted = subst (λ x. HaveSorts def.signature x (whole.element ∷ row.kind.sort.0 ∷ [])) (sym row.value.rest)
      (HaveSorts-substitute def.signature row.value.terms row.value.grounding.sorted row.row.columns (whole.element ∷ row.kind.sort.0 ∷ []) of_row.of_columns) in (
        (whole.element, subst (λ (x : ListKind). HasKindSort def (kinds.Phylum x.element) whole.element) same whole.element_sort, sorted.0),
        (row.kind.sort.0, (row.kind, row.list, refl), sorted.1.0),
      )

  no_place : (f : Fragment) (i : Item) (more : List Item) (kind : Kind) (places left : List Kind) → Fits f (i ∷ more) kind places left → f ≡ anything → ⊥
  no_place f i more kind places left h e = by (subst (λ x. Fits x (i ∷ more) kind places left) e h) where
    by : Fits anything (i ∷ more) kind places left → ⊥
    by (solid, nomore, are) = absurd (cc)

  -- The columns of the parts that still follow have the sorts of their kinds and spaces.
  columns_of : (f : Fragment) (c : Choice f) (g : Entities) (columns : List Term) (v : Term) (before after : List Term) (more : List Item) (kind : Kind) (places left : List Kind)
      → Fits f more kind places left → Holds def g f c columns v before after → HasColumns more columns
  columns_of (hole p) c g columns v before after more kind places left h hold = absurd h.0
  columns_of (ending l true) c g columns v before after more kind places left h hold = absurd h.0
  columns_of (ending l false) c g columns v before after more kind places left h hold = no_columns more columns h.0 hold.0
  columns_of (cell l e r) c g columns v before after more kind places left h hold = no_columns more columns h.0 hold.0
  columns_of (operator o) c g columns v before after more kind places left (none, op, found, items, of) (same, row) =
      own_columns o c v columns more op row found items
  columns_of (with_child f t) c g columns v before after more kind places left (k, mid, hf, ht) (u, m, inner, hold, ei, agr, hold_t) =
      let h = columns_of f c.0 g (u ∷ columns) v before m (items.Slot k ∷ more) kind places mid hf hold in
      let (s, rest, e, of, are) = h.are in
      record { sorts = rest; are = are; sorted = (tail_columns h.sorts rest s u columns e h.sorted).1 }
  columns_of (with_name f n) c g columns v before after more kind places left (inl (s, hf)) hold =
      let h = columns_of f c g (g (key_at def f n) ∷ columns) v before after (items.Refers s ∷ more) kind places left hf hold in
      let (r, rest, e, of, are) = h.are in
      record { sorts = rest; are = are; sorted = (tail_columns h.sorts rest r (g (key_at def f n)) columns e h.sorted).1 }
  columns_of (with_name f n) c g columns v before after more kind places left (inr (s, hf)) hold =
      let h = columns_of f c g (g (key_at def f n) ∷ columns) v before after (items.Declares s ∷ more) kind places left hf hold in
      let (r, rest, e, of, are) = h.are in
      record { sorts = rest; are = are; sorted = (tail_columns h.sorts rest r (g (key_at def f n)) columns e h.sorted).1 }
  columns_of (with_number f n) c g columns v before after more kind places left (hf, small) hold =
      let h = columns_of f c g columns v before after (items.Number ∷ more) kind places left hf hold in record { sorts = h.sorts; are = h.are; sorted = h.sorted }
  columns_of (with_text f n) c g columns v before after more kind places left (hf, text) hold =
      let h = columns_of f c g columns v before after (items.Text ∷ more) kind places left hf hold in record { sorts = h.sorts; are = h.are; sorted = h.sorted }
  columns_of anything c g columns v before after more kind places left h hold = no_columns more columns h.1 hold.0
  columns_of (observed f) c g columns v before after more kind places left h hold = absurd h.0

  -- The values in front of those that follow are of the kinds in front of those that follow.
  pub record AreSeen (places left : List Kind) (before after : List Term) : Type 0 where
    pub kinds : List Kind
    pub places_are : places ≡ kinds ++ left
    pub own : List Term
    pub before_is : before ≡ own ++ after
    pub of_kinds : AreOfKinds kinds own

  seen_none : (places left : List Kind) (before after : List Term) → places ≡ left → before ≡ after → AreSeen places left before after
  seen_none places left before after e d = record { kinds = []; places_are = e; own = []; before_is = d; of_kinds = tt }

  seen_two : (places mid left : List Kind) (before m after : List Term) → AreSeen places mid before m → AreSeen mid left m after → AreSeen places left before after
  seen_two places mid left before m after a b = record {
    kinds = a.kinds ++ b.kinds;
    places_are = a.places_are ∙ ap (λ l. a.kinds ++ l) b.places_are ∙ sym (append_assoc a.kinds b.kinds left);
    own = a.own ++ b.own;
    before_is = a.before_is ∙ ap (λ l. a.own ++ l) b.before_is ∙ sym (append_assoc a.own b.own after);
    of_kinds = of_kinds_append a.kinds b.kinds a.own b.own a.of_kinds b.of_kinds;
  }

  -- the value is of the kind's sort
  abbrev HasValue : Kind → Term → Type 0
  HasValue k u = (s : ℕ) × HasKindSort def k s × HasSort def.signature u s

  child_value : (f : Fragment) (c : Choice f) (g : Entities) (columns : List Term) (u v : Term) (before after : List Term) (more : List Item) (k kind : Kind) (places left : List Kind)
      → Fits f (items.Slot k ∷ more) kind places left → Holds def g f c (u ∷ columns) v before after → HasValue k u
  child_value f c g columns u v before after more k kind places left h hold =
      let w = columns_of f c g (u ∷ columns) v before after (items.Slot k ∷ more) kind places left h hold in
      let (s, rest, e, of, are) = w.are in
      (s, of, (tail_columns w.sorts rest s u columns e w.sorted).0)

  pub seen_of : (f : Fragment) (c : Choice f) (g : Entities) (columns : List Term) (v : Term) (before after : List Term) (more : List Item) (kind : Kind) (places left : List Kind)
      → Fits f more kind places left → Holds def g f c columns v before after → (f ≡ anything → HasValue kind v) → AreSeen places left before after
  seen_of (hole p) c g columns v before after more kind places left h hold has = absurd h.0
  seen_of (ending l true) c g columns v before after more kind places left h hold has = absurd h.0
  seen_of (ending l false) c g columns v before after more kind places left h hold has = seen_none places left before after h.2 hold.1
  seen_of (cell l e r) c g columns v before after more kind places left (none, is, mid, k, at, he, hr) (none', first, others, m, inner, row, ei, agr, hold_e, hold_r) has =
      let two = cell_values l c.0 v first others k row at in
      seen_two places mid left before m after
      (seen_of e c.1 inner [] first before m [] (kinds.Phylum k.element) places mid he hold_e (λ _. two.0))
      (seen_of r c.2 g [] others m after [] (kinds.List l) mid left hr hold_r (λ _. two.1))
  seen_of (operator o) c g columns v before after more kind places left h hold has = seen_none places left before after h.0 hold.0
  seen_of (with_child f t) c g columns v before after more kind places left (k, mid, hf, ht) (u, m, inner, hold, ei, agr, hold_t) has =
      seen_two places mid left before m after
      (seen_of f c.0 g (u ∷ columns) v before m (items.Slot k ∷ more) kind places mid hf hold (λ e. absurd (no_place f (items.Slot k) more kind places mid hf e)))
      (seen_of t c.1 inner [] u m after [] k mid left ht hold_t (λ _. child_value f c.0 g columns u v before m more k kind places mid hf hold))
  seen_of (with_name f n) c g columns v before after more kind places left (inl (s, hf)) hold has =
      seen_of f c g (g (key_at def f n) ∷ columns) v before after (items.Refers s ∷ more) kind places left hf hold (λ e. absurd (no_place f (items.Refers s) more kind places left hf e))
  seen_of (with_name f n) c g columns v before after more kind places left (inr (s, hf)) hold has =
      seen_of f c g (g (key_at def f n) ∷ columns) v before after (items.Declares s ∷ more) kind places left hf hold (λ e. absurd (no_place f (items.Declares s) more kind places left hf e))
  seen_of (with_number f n) c g columns v before after more kind places left (hf, small) hold has =
      seen_of f c g columns v before after (items.Number ∷ more) kind places left hf hold (λ e. absurd (no_place f items.Number more kind places left hf e))
  seen_of (with_text f n) c g columns v before after more kind places left (hf, text) hold has =
      seen_of f c g columns v before after (items.Text ∷ more) kind places left hf hold (λ e. absurd (no_place f items.Text more kind places left hf e))
  seen_of anything c g columns v before after more kind places left (solid, nomore, are) (none, is) has = record {
    kinds = kind ∷ [];
    places_are = are;
    own = v ∷ [];
    before_is = is;
    of_kinds = let (s, of, sorted) = has refl in (s, of, sorted, tt);
  }
  seen_of (observed f) c g columns v before after more kind places left h hold has = absurd h.0

  -- ---- the sorts of the terms of hole places

  pub kinds_many : (ks : List Kind) (us : List Term) → AreOfKinds ks us → length us ≡ length ks
  kinds_many [] [] h = refl
  kinds_many [] (u ∷ us) h = absurd h
  kinds_many (k ∷ ks) [] h = absurd h
  kinds_many (k ∷ ks) (u ∷ us) (s, has, sorted, h) = ap suc (kinds_many ks us h)

  -- terms of the same kinds have the same sorts
  pub same_kinds : (ks : List Kind) (us vs : List Term) (ss : List ℕ) → AreOfKinds ks us → AreOfKinds ks vs → HaveSorts def.signature us ss → HaveSorts def.signature vs ss
  same_kinds [] [] [] ss h k sorted = sorted
  same_kinds [] (u ∷ us) vs ss h k sorted = absurd h
  same_kinds [] [] (v ∷ vs) ss h k sorted = absurd k
  same_kinds (k ∷ ks) [] vs ss h l sorted = absurd h
  same_kinds (k ∷ ks) (u ∷ us) [] ss h l sorted = absurd l
  same_kinds (k ∷ ks) (u ∷ us) (v ∷ vs) [] h l sorted = absurd sorted
  same_kinds (k ∷ ks) (u ∷ us) (v ∷ vs) (r ∷ ss) (s, has, own, h) (t, has', own', h') (sorted, rest) =
      let one : t ≡ s = one_sort def k t s has' has in
      let two : s ≡ r = (takes_once def.signature u [] [] s r own sorted).1 in
      (subst (HasSort def.signature v) (one ∙ two) own', same_kinds ks us vs ss h h' rest)

-- The places of a tree that fits are as many as its observed values.
module _ (def : Definition) where
  pub places_many : (f : Fragment) (more : List Item) (kind : Kind) (places left : List Kind) → FitsPlaces def ⊥ f more kind places left → length places ≡ seen_in f + length left
  places_many (hole p) more kind places left h = absurd h.0
  places_many (ending l true) more kind places left h = absurd h.0
  places_many (ending l false) more kind places left h = let e = ap length h.2 in omega (arith, e)
  places_many (cell l e r) more kind places left (none, is, mid, k, at, he, hr) =
      let a = places_many e [] (kinds.Phylum k.element) places mid he in
      let b = places_many r [] (kinds.List l) mid left hr in
      omega (arith, a, b)
  places_many (operator o) more kind places left h = let e = ap length h.0 in omega (arith, e)
  places_many (with_child f t) more kind places left (k, mid, hf, ht) =
      let a = places_many f (items.Slot k ∷ more) kind places mid hf in
      let b = places_many t [] k mid left ht in
      omega (arith, a, b)
  places_many (with_name f n) more kind places left (inl (s, hf)) = places_many f (items.Refers s ∷ more) kind places left hf
  places_many (with_name f n) more kind places left (inr (s, hf)) = places_many f (items.Declares s ∷ more) kind places left hf
  places_many (with_number f n) more kind places left (hf, small) = places_many f (items.Number ∷ more) kind places left hf
  places_many (with_text f n) more kind places left (hf, text) = places_many f (items.Text ∷ more) kind places left hf
  places_many anything more kind places left h = let e = ap length h.2 in omega (arith, e)
  places_many (observed f) more kind places left h = absurd h.0
