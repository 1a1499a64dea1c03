-- Rows of operators and lists, and the rows of a head and the columns of slots.
use Rattle.std.proofs.Common.{◌≡◌, ◌↔◌, ℕ, Bool, IsTrue, List, [], ◌∷◌, map, Some, slice_get, refl, ap, sym, ◌∙◌, subst}
use Rattle.psg_terms.specs.Terms.{Term}
use Rattle.psg_terms.specs.Signature.{HaveSorts}
use Rattle.psg_terms.specs.Instances.{Substitution, substitute, IsGrounding}
use Rattle.psg_terms.specs.Canonical.{AreWrittenOut}
use Rattle.psg_terms.proofs.Renumbering.{HaveSorts-substitute}
use Rattle.psg_grammar.specs.declared.types.Kind.{Kind}
use Rattle.psg_grammar.specs.declared.types.Kind.TheVariants as kinds
use Rattle.psg_grammar.specs.declared.types.Item.{Item}
use Rattle.psg_grammar.specs.declared.types.Item.TheVariants as items
use Rattle.psg_grammar.specs.declared.types.Operator.{Operator}
use Rattle.psg_grammar.specs.declared.types.ListKind.{ListKind}
use Rattle.psg_grammar.specs.declared.types.Row.{Row}
use Rattle.psg_grammar.specs.declared.types.Definition.{Definition}
use Rattle.psg_grammar.specs.Lookups.{part_items}
use Rattle.psg_grammar.specs.Open.{IsOfHoleRow}
use Rattle.psg_grammar.specs.Sound.{AreColumns}
use Rattle.psg_completions.specs.Covered.{SlotsHold}
use Rattle.psg_covering.specs.Choices.{Fits, HaveKindSorts, IsCovered, KindsHold}
use Rattle.psg_covering.specs.Rows.{IsCellCovered, IsCellOfList, IsRowCovered, IsRowOfOperator}
use Rattle.psg_covering.specs.Slots.{slot_kinds, slot_terms}

slots_map : (f : Substitution) (is : List Item) (us : List Term) → map (substitute f) (slot_terms is us) ≡ slot_terms is (map (substitute f) us)
slots_map f [] us = refl
slots_map f (items.Slot k ∷ rest) [] = refl
slots_map f (items.Slot k ∷ rest) (u ∷ us) = ap (λ l. substitute f u ∷ l) (slots_map f rest us)
slots_map f (items.Refers s ∷ rest) [] = refl
slots_map f (items.Refers s ∷ rest) (u ∷ us) = slots_map f rest us
slots_map f (items.Declares s ∷ rest) [] = refl
slots_map f (items.Declares s ∷ rest) (u ∷ us) = slots_map f rest us
slots_map f (items.Word w ∷ rest) us = slots_map f rest us
slots_map f (items.Number ∷ rest) us = slots_map f rest us
slots_map f (items.Text ∷ rest) us = slots_map f rest us
slots_map f (items.Space ∷ rest) us = slots_map f rest us
slots_map f (items.Tight ∷ rest) us = slots_map f rest us
slots_map f (items.Line ∷ rest) us = slots_map f rest us
slots_map f (items.In ∷ rest) us = slots_map f rest us
slots_map f (items.Out ∷ rest) us = slots_map f rest us

first_same : (u v : Term) (us vs : List Term) → u ∷ us ≡ v ∷ vs → u ≡ v
first_same u v us vs e = let d : ◌≡◌ {A = List Term} (u ∷ us) (v ∷ vs) = e in cc

rest_same : (u v : Term) (us vs : List Term) → u ∷ us ≡ v ∷ vs → us ≡ vs
rest_same u v us vs e = let d : ◌≡◌ {A = List Term} (u ∷ us) (v ∷ vs) = e in cc

module _ (def : Definition) where
  to_kinds : (is : List Item) (us : List Term) (rs : List ℕ) → SlotsHold def (part_items is) us rs → KindsHold def (slot_kinds is) (slot_terms is us) rs
  to_kinds [] [] [] h = tt
  to_kinds [] [] (r ∷ rs) h = absurd h
  to_kinds [] (u ∷ us) rs h = absurd h
  to_kinds (items.Slot k ∷ rest) [] rs h = absurd h
  to_kinds (items.Slot k ∷ rest) (u ∷ us) [] h = absurd h
  to_kinds (items.Slot k ∷ rest) (u ∷ us) (r ∷ rs) (is, h) = (is, to_kinds rest us rs h)
  to_kinds (items.Refers s ∷ rest) [] rs h = absurd h
  to_kinds (items.Refers s ∷ rest) (u ∷ us) rs h = to_kinds rest us rs h
  to_kinds (items.Declares s ∷ rest) [] rs h = absurd h
  to_kinds (items.Declares s ∷ rest) (u ∷ us) rs h = to_kinds rest us rs h
  to_kinds (items.Word w ∷ rest) us rs h = to_kinds rest us rs h
  to_kinds (items.Number ∷ rest) us rs h = to_kinds rest us rs h
  to_kinds (items.Text ∷ rest) us rs h = to_kinds rest us rs h
  to_kinds (items.Space ∷ rest) us rs h = to_kinds rest us rs h
  to_kinds (items.Tight ∷ rest) us rs h = to_kinds rest us rs h
  to_kinds (items.Line ∷ rest) us rs h = to_kinds rest us rs h
  to_kinds (items.In ∷ rest) us rs h = to_kinds rest us rs h
  to_kinds (items.Out ∷ rest) us rs h = to_kinds rest us rs h

  to_slots : (is : List Item) (us : List Term) (rs ss : List ℕ) → AreColumns def (part_items is) ss → HaveSorts def.signature us ss → KindsHold def (slot_kinds is) (slot_terms is us) rs → SlotsHold def (part_items is) us rs
  to_slots [] [] [] ss e hs h = tt
  to_slots [] [] (r ∷ rs) ss e hs h = absurd h
  to_slots [] (u ∷ us) rs ss e hs h = absurd (subst (HaveSorts def.signature (u ∷ us)) e hs)
  to_slots (items.Slot k ∷ rest) [] rs ss (s, more, e, _, c) hs h = absurd (subst (HaveSorts def.signature []) e hs)
  to_slots (items.Slot k ∷ rest) (u ∷ us) [] ss c hs h = absurd h
  to_slots (items.Slot k ∷ rest) (u ∷ us) (r ∷ rs) ss (s, more, e, _, c) hs (is, h) = (is, to_slots rest us rs more c (subst (HaveSorts def.signature (u ∷ us)) e hs).1 h)
  to_slots (items.Refers n ∷ rest) [] rs ss (s, more, e, _, c) hs h = absurd (subst (HaveSorts def.signature []) e hs)
  to_slots (items.Refers n ∷ rest) (u ∷ us) rs ss (s, more, e, _, c) hs h = to_slots rest us rs more c (subst (HaveSorts def.signature (u ∷ us)) e hs).1 h
  to_slots (items.Declares n ∷ rest) [] rs ss (s, more, e, _, c) hs h = absurd (subst (HaveSorts def.signature []) e hs)
  to_slots (items.Declares n ∷ rest) (u ∷ us) rs ss (s, more, e, _, c) hs h = to_slots rest us rs more c (subst (HaveSorts def.signature (u ∷ us)) e hs).1 h
  to_slots (items.Word w ∷ rest) us rs ss c hs h = to_slots rest us rs ss c hs h
  to_slots (items.Number ∷ rest) us rs ss c hs h = to_slots rest us rs ss c hs h
  to_slots (items.Text ∷ rest) us rs ss c hs h = to_slots rest us rs ss c hs h
  to_slots (items.Space ∷ rest) us rs ss c hs h = to_slots rest us rs ss c hs h
  to_slots (items.Tight ∷ rest) us rs ss c hs h = to_slots rest us rs ss c hs h
  to_slots (items.Line ∷ rest) us rs ss c hs h = to_slots rest us rs ss c hs h
  to_slots (items.In ∷ rest) us rs ss c hs h = to_slots rest us rs ss c hs h
  to_slots (items.Out ∷ rest) us rs ss c hs h = to_slots rest us rs ss c hs h

  pub row_covered : (kind : Kind) (is : List Item) (head : Term) (columns : List Term) (ss : List ℕ) → AreColumns def (part_items is) ss → HaveSorts def.signature columns ss
      → IsCovered def kind (slot_kinds is) (head ∷ slot_terms is columns)
      ↔ ((rs : List ℕ) → (r : ℕ) × ((f : Substitution) → IsGrounding def.signature f → SlotsHold def (part_items is) (map (substitute f) columns) rs → IsOfHoleRow def kind r (substitute f head)))
  row_covered kind is head columns ss are hs = (
    (λ c rs. let (r, all) = c rs in (
      r,
      λ f ground hold.
          all (substitute f head) (slot_terms is (map (substitute f) columns)) (f, ground, ap (λ l. substitute f head ∷ l) (sym (slots_map f is columns))) (to_kinds is (map (substitute f) columns) rs hold),
    )),
    (λ c rs. let (r, all) = c rs in (
      r,
      λ v us (f, ground, e) hold.
          let e' : v ∷ us ≡ substitute f head ∷ map (substitute f) (slot_terms is columns) = e in
          let a = first_same v (substitute f head) us (map (substitute f) (slot_terms is columns)) e' in
          let b = rest_same v (substitute f head) us (map (substitute f) (slot_terms is columns)) e' in
          subst (IsOfHoleRow def kind r) (sym a)
          (all f ground (to_slots is (map (substitute f) columns) rs ss are (HaveSorts-substitute def.signature f ground.sorted columns ss hs)
          (subst (λ l. KindsHold def (slot_kinds is) l rs) (b ∙ slots_map f is columns) hold))),
    )),
  )

  -- the columns of the slots have the sorts of their kinds
  abbrev SlotsFit : List Item → List Term → Type 0
  SlotsFit is us = (ts : List ℕ) × HaveKindSorts def (slot_kinds is) ts × HaveSorts def.signature (slot_terms is us) ts × AreWrittenOut def.signature (slot_terms is us)

  slots_fit : (is : List Item) (us : List Term) (ss : List ℕ) → AreColumns def (part_items is) ss → HaveSorts def.signature us ss → AreWrittenOut def.signature us → SlotsFit is us
  slots_fit [] us ss c hs w = ([], tt, tt, tt)
  slots_fit (items.Slot k ∷ rest) [] ss (s, more, e, _, c) hs w = absurd (subst (HaveSorts def.signature []) e hs)
  slots_fit (items.Slot k ∷ rest) (u ∷ us) ss (s, more, e, ks, c) hs (wu, w) =
      let both = subst (HaveSorts def.signature (u ∷ us)) e hs in
      let (ts, a, b, d) = slots_fit rest us more c both.1 w in
      (s ∷ ts, (ks, a), (both.0, b), (wu, d))
  slots_fit (items.Refers n ∷ rest) [] ss (s, more, e, _, c) hs w = absurd (subst (HaveSorts def.signature []) e hs)
  slots_fit (items.Refers n ∷ rest) (u ∷ us) ss (s, more, e, _, c) hs (wu, w) = slots_fit rest us more c (subst (HaveSorts def.signature (u ∷ us)) e hs).1 w
  slots_fit (items.Declares n ∷ rest) [] ss (s, more, e, _, c) hs w = absurd (subst (HaveSorts def.signature []) e hs)
  slots_fit (items.Declares n ∷ rest) (u ∷ us) ss (s, more, e, _, c) hs (wu, w) = slots_fit rest us more c (subst (HaveSorts def.signature (u ∷ us)) e hs).1 w
  slots_fit (items.Word w ∷ rest) us ss c hs wo = slots_fit rest us ss c hs wo
  slots_fit (items.Number ∷ rest) us ss c hs wo = slots_fit rest us ss c hs wo
  slots_fit (items.Text ∷ rest) us ss c hs wo = slots_fit rest us ss c hs wo
  slots_fit (items.Space ∷ rest) us ss c hs wo = slots_fit rest us ss c hs wo
  slots_fit (items.Tight ∷ rest) us ss c hs wo = slots_fit rest us ss c hs wo
  slots_fit (items.Line ∷ rest) us ss c hs wo = slots_fit rest us ss c hs wo
  slots_fit (items.In ∷ rest) us ss c hs wo = slots_fit rest us ss c hs wo
  slots_fit (items.Out ∷ rest) us ss c hs wo = slots_fit rest us ss c hs wo

  -- ---- rows of operators

  pub row_fits : (op : Operator) (row : Row) (slots : List Kind) (made : List Term) → IsRowOfOperator def op row → slots ≡ slot_kinds op.items
      → made ≡ row.head ∷ slot_terms op.items row.columns → Fits def (kinds.Phylum op.phylum) slots made
  row_fits op row slots made (o, r) e d =
      let (ts, a, b, w) = slots_fit op.items row.columns o.columns o.are_columns r.of_columns r.written in
      subst (λ ks. Fits def (kinds.Phylum op.phylum) ks made) (sym e)
      (subst (Fits def (kinds.Phylum op.phylum) (slot_kinds op.items)) (sym d) (record {
        head = o.sort;
        of_head = o.phylum_sort;
        sorts = ts;
        of_slots = a;
        sorted = (r.of_head.0, b);
        written = (r.of_head.1, w);
      }))

  pub row_test : (op : Operator) (row : Row) (slots : List Kind) (made : List Term) (b : Bool) → IsRowOfOperator def op row → slots ≡ slot_kinds op.items
      → made ≡ row.head ∷ slot_terms op.items row.columns → (IsTrue b ↔ IsCovered def (kinds.Phylum op.phylum) slots made) → IsTrue b ↔ IsRowCovered def op row
  row_test op row slots made b (o, r) e d t =
      let u = subst (λ ks. IsTrue b ↔ IsCovered def (kinds.Phylum op.phylum) ks (row.head ∷ slot_terms op.items row.columns)) e
      (subst (λ l. IsTrue b ↔ IsCovered def (kinds.Phylum op.phylum) slots l) d t) in
      let both = row_covered (kinds.Phylum op.phylum) op.items row.head row.columns o.columns o.are_columns r.of_columns in
      (λ h. both.0 (u.0 h), λ h. u.1 (both.1 h))

  -- ---- cell rows of lists

  pub cell_fits : (l : ℕ) (list : ListKind) (row : Row) (made : List Term) → slice_get def.lists l ≡ Some list → IsCellOfList def list row
      → made ≡ row.head ∷ row.columns → Fits def (kinds.List l) (kinds.Phylum list.element ∷ kinds.List l ∷ []) made
  cell_fits l list row made at (k, r) d = subst (Fits def (kinds.List l) (kinds.Phylum list.element ∷ kinds.List l ∷ [])) (sym d) (record {
    head = list.sort.0;
    of_head = (list, at, refl);
    sorts = k.element ∷ list.sort.0 ∷ [];
    of_slots = (k.element_sort, ((list, at, refl), tt));
    sorted = (r.of_head.0, r.of_columns);
    written = (r.of_head.1, r.written);
  })

  to_cell : (k j kind : Kind) (head : Term) (columns : List Term) → IsCovered def kind (k ∷ j ∷ []) (head ∷ columns)
      → (a b : ℕ) → (r : ℕ) × ((f : Substitution) → IsGrounding def.signature f → (first others : Term) → map (substitute f) columns ≡ first ∷ others ∷ []
      → IsOfHoleRow def k a first → IsOfHoleRow def j b others → IsOfHoleRow def kind r (substitute f head))
  to_cell k j kind head columns c a b =
      let (r, all) = c (a ∷ b ∷ []) in
      (r, λ f ground first others e ha hb. all (substitute f head) (first ∷ others ∷ []) (f, ground, ap (λ l. substitute f head ∷ l) (sym e)) (ha, (hb, tt)))

  of_cell : (k j kind : Kind) (head : Term) (columns : List Term)
      → ((a b : ℕ) → (r : ℕ) × ((f : Substitution) → IsGrounding def.signature f → (first others : Term) → map (substitute f) columns ≡ first ∷ others ∷ []
      → IsOfHoleRow def k a first → IsOfHoleRow def j b others → IsOfHoleRow def kind r (substitute f head))) → IsCovered def kind (k ∷ j ∷ []) (head ∷ columns)
  of_cell k j kind head columns c [] = (0, λ v us g hold. absurd (no us hold)) where
    no : (us : List Term) → KindsHold def (k ∷ j ∷ []) us [] → ⊥
    no [] hold = hold
    no (u ∷ us) hold = hold
  of_cell k j kind head columns c (a ∷ []) = (0, λ v us g hold. absurd (no us hold)) where
    no : (us : List Term) → KindsHold def (k ∷ j ∷ []) us (a ∷ []) → ⊥
    no [] hold = hold
    no (u ∷ []) hold = hold.1
    no (u ∷ w ∷ us) hold = hold.1
  of_cell k j kind head columns c (a ∷ b ∷ d ∷ rs) = (0, λ v us g hold. absurd (no us hold)) where
    no : (us : List Term) → KindsHold def (k ∷ j ∷ []) us (a ∷ b ∷ d ∷ rs) → ⊥
    no [] hold = hold
    no (u ∷ []) hold = hold.1
    no (u ∷ w ∷ []) hold = hold.1.1
    no (u ∷ w ∷ x ∷ us) hold = hold.1.1
  of_cell k j kind head columns c (a ∷ b ∷ []) = let (r, all) = c a b in (r, λ v us (f, ground, e) hold. of r all v us f ground e hold) where
    of : (r : ℕ) → ((f : Substitution) → IsGrounding def.signature f → (first others : Term) → map (substitute f) columns ≡ first ∷ others ∷ []
        → IsOfHoleRow def k a first → IsOfHoleRow def j b others → IsOfHoleRow def kind r (substitute f head))
        → (v : Term) (us : List Term) (f : Substitution) → IsGrounding def.signature f → v ∷ us ≡ substitute f head ∷ map (substitute f) columns
        → KindsHold def (k ∷ j ∷ []) us (a ∷ b ∷ []) → IsOfHoleRow def kind r v
    of r all v [] f ground e hold = absurd hold
    of r all v (u ∷ []) f ground e hold = absurd hold.1
    of r all v (u ∷ w ∷ []) f ground e (hu, (hw, _)) =
        subst (IsOfHoleRow def kind r) (sym (first_same v (substitute f head) (u ∷ w ∷ []) (map (substitute f) columns) e))
        (all f ground u w (sym (rest_same v (substitute f head) (u ∷ w ∷ []) (map (substitute f) columns) e)) hu hw)
    of r all v (u ∷ w ∷ x ∷ us) f ground e hold = absurd hold.1.1

  pub cell_test : (l : ℕ) (list : ListKind) (row : Row) (made : List Term) (b : Bool) → made ≡ row.head ∷ row.columns
      → (IsTrue b ↔ IsCovered def (kinds.List l) (kinds.Phylum list.element ∷ kinds.List l ∷ []) made) → IsTrue b ↔ IsCellCovered def l list row
  cell_test l list row made b d t =
      let u = subst (λ m. IsTrue b ↔ IsCovered def (kinds.List l) (kinds.Phylum list.element ∷ kinds.List l ∷ []) m) d t in (
        λ h. to_cell (kinds.Phylum list.element) (kinds.List l) (kinds.List l) row.head row.columns (u.0 h),
        λ h. u.1 (of_cell (kinds.Phylum list.element) (kinds.List l) (kinds.List l) row.head row.columns h),
      )
