-- What stands in the columns of an operator's slots and name positions.
use Rattle.std.proofs.Common.{◌≡◌, ℕ, suc, List, [], ◌∷◌, ◌++◌, length, refl, ap, sym, subst, Some, slice_get, append_assoc, length-append, arith}
use Rattle.psg_terms.proofs.Lists.{slice_get-middle}
use Rattle.psg_terms.specs.Names.{Name}
use Rattle.psg_terms.specs.Terms.{Term}
use Rattle.psg_grammar.specs.Lookups.{part_items}
use Rattle.psg_grammar.specs.Sound.{AreColumns}
use Rattle.psg_grammar.specs.declared.types.Definition.{Definition}
use Rattle.psg_grammar.specs.declared.types.Item.{Item}
use Rattle.psg_grammar.specs.declared.types.Item.TheVariants as items
use Rattle.psg_scope.specs.Headers.{keys}
use Rattle.psg_eval.specs.Own.{name_columns, slot_columns}
use Rattle.psg_eval.specs.OwnRows.{name_terms, positions, slot_terms}
use Rattle.psg_eval.specs.Partials.{AreKindSorts}
use Rattle.psg_eval.specs.Summaries.{are_names, slot_kinds}
use Rattle.psg_eval.proofs.PartialSorts.{IsKeySort}
use Rattle.psg_eval.proofs.Walking.{Along, Picks}

next_place : {X : Type 0} (front : List X) (x : X) (n : ℕ) → n ≡ length front → suc n ≡ length (front ++ x ∷ [])
next_place front x n e = omega (arith, length-append front (x ∷ []))

at_place : {X : Type 0} (front : List X) (x : X) (back : List X) (n : ℕ) → n ≡ length front → slice_get (front ++ x ∷ back) n ≡ Some x
at_place front x back n e = subst (λ k. slice_get (front ++ x ∷ back) k ≡ Some x) (sym e) (slice_get-middle front x back)

module _ (def : Definition) where
  -- the words among the items have no columns
  pub items_columns : (xs : List Item) (sorts : List ℕ) → AreColumns def (part_items xs) sorts → AreColumns def xs sorts
  items_columns [] sorts h = h
  items_columns (items.Slot k ∷ xs) sorts (s, more, d, h, a) = (s, more, d, h, items_columns xs more a)
  items_columns (items.Refers n ∷ xs) sorts (s, more, d, h, a) = (s, more, d, h, items_columns xs more a)
  items_columns (items.Declares n ∷ xs) sorts (s, more, d, h, a) = (s, more, d, h, items_columns xs more a)
  items_columns (items.Number ∷ xs) sorts h = items_columns xs sorts h
  items_columns (items.Text ∷ xs) sorts h = items_columns xs sorts h
  items_columns (_ ∷ xs) sorts h = items_columns xs sorts h

  abbrev pub ArePlaced : List Item → List Term → List Term → ℕ → Type 0
  ArePlaced xs row cols n = Picks row (slot_columns n xs) (slot_terms xs cols) × Picks row (name_columns n xs) (name_terms xs cols)

  -- a row has the terms of its slots and name positions at their columns
  pub terms_placed : (xs : List Item) (sorts : List ℕ) (front cols : List Term) (n : ℕ) → n ≡ length front → length cols ≡ length sorts → AreColumns def xs sorts → ArePlaced xs (front ++ cols) cols n
  terms_placed [] sorts front cols n e l a = (tt, tt)
  terms_placed (items.Slot k ∷ xs) sorts front [] n e l (s, more, d, h, a) = absurd (omega (arith, ap length d))
  terms_placed (items.Slot k ∷ xs) sorts front (t ∷ cols) n e l (s, more, d, h, a) =
      let r = subst (λ row. ArePlaced xs row cols (suc n)) (append_assoc front (t ∷ []) cols)
      (terms_placed xs more (front ++ t ∷ []) cols (suc n) (next_place front t n e) (omega (arith, ap length d)) a) in
      ((at_place front t cols n e, r.0), r.1)
  terms_placed (items.Refers k ∷ xs) sorts front [] n e l (s, more, d, h, a) = absurd (omega (arith, ap length d))
  terms_placed (items.Refers k ∷ xs) sorts front (t ∷ cols) n e l (s, more, d, h, a) =
      let r = subst (λ row. ArePlaced xs row cols (suc n)) (append_assoc front (t ∷ []) cols)
      (terms_placed xs more (front ++ t ∷ []) cols (suc n) (next_place front t n e) (omega (arith, ap length d)) a) in
      (r.0, (at_place front t cols n e, r.1))
  terms_placed (items.Declares k ∷ xs) sorts front [] n e l (s, more, d, h, a) = absurd (omega (arith, ap length d))
  terms_placed (items.Declares k ∷ xs) sorts front (t ∷ cols) n e l (s, more, d, h, a) =
      let r = subst (λ row. ArePlaced xs row cols (suc n)) (append_assoc front (t ∷ []) cols)
      (terms_placed xs more (front ++ t ∷ []) cols (suc n) (next_place front t n e) (omega (arith, ap length d)) a) in
      (r.0, (at_place front t cols n e, r.1))
  terms_placed (_ ∷ xs) sorts front cols n e l a = terms_placed xs sorts front cols n e l a

  -- the sorts of the slots are those of their kinds, and the sorts of the name positions those of their keys
  pub record SortsPlaced (xs : List Item) (names : List Name) (row : List ℕ) (n : ℕ) : Type 0 where
    pub wanted : List ℕ
    pub wanted_sorts : AreKindSorts def (slot_kinds def xs) wanted
    pub slots : Picks row (slot_columns n xs) wanted
    pub own : List ℕ
    pub own_sorts : Along (IsKeySort def) (keys (positions xs names)) own
    pub named : Picks row (name_columns n xs) own

  moved : (xs : List Item) (names : List Name) (front : List ℕ) (s : ℕ) (more : List ℕ) (n : ℕ) → SortsPlaced xs names ((front ++ s ∷ []) ++ more) n → SortsPlaced xs names (front ++ s ∷ more) n
  moved xs names front s more n h = subst (λ row. SortsPlaced xs names row n) (append_assoc front (s ∷ []) more) h

  pub sorts_placed : (xs : List Item) (names : List Name) (sorts front : List ℕ) (n : ℕ) → n ≡ length front → length (are_names def xs) ≡ length names → AreColumns def xs sorts → SortsPlaced xs names (front ++ sorts) n
  sorts_placed [] names sorts front n e l a = record { wanted = []; wanted_sorts = refl; slots = tt; own = []; own_sorts = tt; named = tt }
  sorts_placed (items.Slot k ∷ xs) names sorts front n e l (s, more, d, h, a) =
      let r = moved xs names front s more (suc n) (sorts_placed xs names more (front ++ s ∷ []) (suc n) (next_place front s n e) l a) in
      subst (λ z. SortsPlaced (items.Slot k ∷ xs) names (front ++ z) n) (sym d)
      (record { wanted = s ∷ r.wanted; wanted_sorts = (s, r.wanted, refl, h, r.wanted_sorts); slots = (at_place front s more n e, r.slots); own = r.own; own_sorts = r.own_sorts; named = r.named })
  sorts_placed (items.Refers k ∷ xs) [] sorts front n e l a = absurd (omega arith)
  sorts_placed (items.Refers k ∷ xs) (name ∷ names) sorts front n e l (s, more, d, h, a) =
      let r = moved xs names front s more (suc n) (sorts_placed xs names more (front ++ s ∷ []) (suc n) (next_place front s n e) (omega arith) a) in
      subst (λ z. SortsPlaced (items.Refers k ∷ xs) (name ∷ names) (front ++ z) n) (sym d)
      (record { wanted = r.wanted; wanted_sorts = r.wanted_sorts; slots = r.slots; own = s ∷ r.own; own_sorts = (h, r.own_sorts); named = (at_place front s more n e, r.named) })
  sorts_placed (items.Declares k ∷ xs) [] sorts front n e l a = absurd (omega arith)
  sorts_placed (items.Declares k ∷ xs) (name ∷ names) sorts front n e l (s, more, d, h, a) =
      let r = moved xs names front s more (suc n) (sorts_placed xs names more (front ++ s ∷ []) (suc n) (next_place front s n e) (omega arith) a) in
      subst (λ z. SortsPlaced (items.Declares k ∷ xs) (name ∷ names) (front ++ z) n) (sym d)
      (record { wanted = r.wanted; wanted_sorts = r.wanted_sorts; slots = r.slots; own = s ∷ r.own; own_sorts = (h, r.own_sorts); named = (at_place front s more n e, r.named) })
  sorts_placed (_ ∷ xs) names sorts front n e l a =
      let r = sorts_placed xs names sorts front n e l a in
      record { wanted = r.wanted; wanted_sorts = r.wanted_sorts; slots = r.slots; own = r.own; own_sorts = r.own_sorts; named = r.named }
