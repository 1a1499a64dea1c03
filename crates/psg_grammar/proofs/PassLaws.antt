-- Passes over the operators: what was found stays right, and a table that no pass changes has everything.
use Rattle.std.proofs.Common.{◌≡◌, inl, inr, ℕ, zero, suc, ◌+◌, ◌*◌, ◌<◌, ◌≤◌, Bool, false, List, [], ◌∷◌, length, get_or, take, Option, Some, None, IfSome, option_map, slice_get, Contains, All, Vec, refl, sym, ◌∙◌, subst, arith, not-suc-le-zero}
use Rattle.std.specs.declared.alloc.Global.{Global}
use Rattle.std.specs.List.{AllByRecursion}
use Rattle.std.specs.List.Sorted.{IsStrictlyIncreasing}
use Rattle.std.proofs.lemmas.List.{take_all}
use Rattle.std.proofs.lemmas.List.Elements.{All-more, All-head, All-tail, All-get_or, All-from_recursion}
use Rattle.std.proofs.lemmas.Option.{slice_get_within, slice_get_read, get_or_from_slice_get}
use Rattle.psg_grammar.specs.declared.types.Kind.{Kind}
use Rattle.psg_grammar.specs.declared.types.Kind.TheVariants as kinds
use Rattle.psg_grammar.specs.declared.types.Item.{Item}
use Rattle.psg_grammar.specs.declared.types.Item.TheVariants as items
use Rattle.psg_grammar.specs.declared.types.ListKind.{ListKind}
use Rattle.psg_grammar.specs.declared.types.Operator.{Operator}
use Rattle.psg_grammar.specs.declared.types.Definition.{Definition}
use Rattle.psg_grammar.specs.Kinds.{HasSlotKind}
use Rattle.psg_grammar.specs.Sound.{IsSound, IsItem}
use Rattle.psg_grammar.specs.Declaring.{Declares, by_list, by_operator, AnyDeclares, here, slot, later}
use Rattle.psg_grammar.specs.DeclaringTables.{Table, spaces_at, spaces_count, phylum_spaces, kind_spaces, HasSpace, IsTable, Adds, AreSpacesOf, IsClosedFor, IsClosedOperator}
use Rattle.psg_grammar.proofs.TableLaws.{spaces_at_get, count_most}
use Rattle.psg_grammar.proofs.SoundParts.{operator_sound, items_in, phylum_in}

nothing : {X : Type 0} (x : X) → Contains [] x → ⊥
nothing x (k, lt, e) = not-suc-le-zero lt

-- ---- one item

-- what the table has for an item is declared there
item_declares : (def : Definition) (t : Table) → IsTable def t → (item : Item) (s : ℕ) → HasSpace def t item s → AnyDeclares def s (item ∷ [])
item_declares def t h (items.Declares r) s e = subst (λ k. AnyDeclares def s (items.Declares k ∷ [])) e here
item_declares def t h (items.Slot (kinds.Phylum p)) s c = slot (h.sound p s c)
item_declares def t h (items.Slot (kinds.List l)) s c = slot (of_list (slice_get def.lists l) refl c) where
  of_list : (k : Option ListKind) → slice_get def.lists l ≡ k → Contains (phylum_spaces t (option_map (λ (j : ListKind). j.element) k)) s → Declares def s (kinds.List l)
  of_list None at d = absurd (nothing s d)
  of_list (Some kind) at d = by_list kind at (h.sound kind.element s d)
item_declares def t h (items.Word w) s e = absurd e
item_declares def t h (items.Refers r) s e = absurd e
item_declares def t h items.Number s e = absurd e
item_declares def t h items.Text s e = absurd e
item_declares def t h items.Space s e = absurd e
item_declares def t h items.Tight s e = absurd e
item_declares def t h items.Line s e = absurd e
item_declares def t h items.In s e = absurd e
item_declares def t h items.Out s e = absurd e

any_first : (def : Definition) (s : ℕ) (x : Item) (xs : List Item) → AnyDeclares def s (x ∷ []) → AnyDeclares def s (x ∷ xs)
any_first def s x xs here = here
any_first def s x xs (slot d) = slot d
any_first def s x xs (later h) = elim h [ ]

any_at : (def : Definition) (s : ℕ) (xs : List Item) (i : ℕ) (x : Item) → i < length xs → x ≡ get_or xs i x → AnyDeclares def s (x ∷ []) → AnyDeclares def s xs
any_at def s [] i x lt e d = absurd (not-suc-le-zero lt)
any_at def s (y ∷ xs) zero x lt e d = any_first def s y xs (subst (λ z. AnyDeclares def s (z ∷ [])) e d)
any_at def s (y ∷ xs) (suc i) x lt e d = later (any_at def s xs i x (omega arith) e d)

-- the operator at a place among those of the definition
pub operator_at : (def : Definition) (op : Operator) → Contains def.operators op → (o : ℕ) × (slice_get def.operators o ≡ Some op)
operator_at def op (o, lt, e) = (o, slice_get_read def.operators (length def.operators) o op refl lt (sym e))

module _ (def : Definition) (sound : IsSound def) (op : Operator) (part : Contains def.operators op) where
  pub phylum_inside : op.phylum < length def.phyla
  phylum_inside = let (o, at) = operator_at def op part in phylum_in def sound o op at

  pub kind_inside : (i : ℕ) (item : Item) → i < length op.items → item ≡ get_or op.items i item → HasSlotKind def item
  kind_inside i item lt e =
      let (o, at) = operator_at def op part in
      subst (HasSlotKind def) (sym e) (All-get_or (HasSlotKind def) op.items i item lt (All-from_recursion (HasSlotKind def) op.items (items_in def sound o op at)))

  -- what an item adds to a right table is right
  pub table_after : (t u : Table) (i : ℕ) (item : Item) (changed : Bool) → op.scope ≡ false → i < length op.items → item ≡ get_or op.items i item → IsTable def t → Adds t op.phylum (HasSpace def t item) u changed → IsTable def u
  table_after t u i item changed plain lt e h f = record { one_each = f.one_each ∙ h.one_each; increasing = f.increasing; sound = right } where
    right : (p s : ℕ) → Contains (spaces_at u p) s → Declares def s (kinds.Phylum p)
    right p s c = elim (f.only p s c) [
      | inl old ↦ h.sound p s old
      | inr new ↦
          let (o, at) = operator_at def op part in
          by_operator o op at (sym new.0) plain (any_at def s op.items i item lt e (item_declares def t h item s new.1))
    ]

-- an item that changes nothing has its spaces there already, and the items before it keep theirs
pub closed_more : (def : Definition) (t u : Table) (p i : ℕ) (xs : List Item) (item : Item) → i < length xs → item ≡ get_or xs i item → Adds t p (HasSpace def t item) u false
    → All (IsClosedFor def t p) (take i xs) → All (IsClosedFor def u p) (take (i + 1) xs)
closed_more def t u p i xs item lt e f all =
    let same : u ≡ t = f.grows.same refl in
    let now : IsClosedFor def u p item = λ s h. f.all s (subst (λ x. HasSpace def x item s) same h) in
    let before : All (IsClosedFor def u p) (take i xs) = subst (λ x. All (IsClosedFor def x p) (take i xs)) (sym same) all in
    All-more (IsClosedFor def u p) xs i item lt before (subst (IsClosedFor def u p) e now)

pub closed_all : {X : Type 0} (P : X → Type 0) (xs : List X) (n : ℕ) → length xs ≤ n → All P (take n xs) → All P xs
closed_all P xs n le h = subst (All P) (take_all n xs le) h

-- the same for operators
pub operators_more : (def : Definition) (t u : Table) (i : ℕ) (ops : List Operator) (op : Operator) → i < length ops → op ≡ get_or ops i op → u ≡ t → IsClosedOperator def u op
    → All (IsClosedOperator def t) (take i ops) → All (IsClosedOperator def u) (take (i + 1) ops)
operators_more def t u i ops op lt e same now all =
    let before : All (IsClosedOperator def u) (take i ops) = subst (λ x. All (IsClosedOperator def x) (take i ops)) (sym same) all in
    All-more (IsClosedOperator def u) ops i op lt before (subst (IsClosedOperator def u) e now)

-- ---- a table that is closed

module _ (def : Definition) (t : Table) (closed : All (IsClosedOperator def t) def.operators) where
  mutual
    pub complete : (s : ℕ) (kind : Kind) → Declares def s kind → Contains (kind_spaces def t kind) s
    complete s kind (by_list {list} k at d) = subst (λ o. Contains (phylum_spaces t (option_map (λ (j : ListKind). j.element) o)) s) (sym at) (complete s (kinds.Phylum k.element) d)
    complete s kind (by_operator {phylum} o op at same plain d) =
        let one : IsClosedOperator def t op = subst (IsClosedOperator def t) (get_or_from_slice_get def.operators o op op at) (All-get_or (IsClosedOperator def t) def.operators o op (slice_get_within def.operators o op at) closed) in
        subst (λ p. Contains (spaces_at t p) s) same (among s op.phylum op.items (one plain) d)

    among : (s p : ℕ) (xs : List Item) → All (IsClosedFor def t p) xs → AnyDeclares def s xs → Contains (spaces_at t p) s
    among s p xs all (here {rest}) = All-head (IsClosedFor def t p) (items.Declares s) rest all s refl
    among s p xs all (slot {kind} {rest} d) = All-head (IsClosedFor def t p) (items.Slot kind) rest all s (complete s kind d)
    among s p xs all (later {item} {rest} d) = among s p rest (All-tail (IsClosedFor def t p) item rest all) d

-- it has the spaces of each phylum
pub spaces_of : (def : Definition) (t : Table) → IsTable def t → All (IsClosedOperator def t) def.operators → (p : ℕ) → IfSome (slice_get t p) (λ (v : Vec ℕ Global). AreSpacesOf def p v.items)
spaces_of def t h closed p = at (slice_get t p) refl where
  at : (o : Option (Vec ℕ Global)) → slice_get t p ≡ o → IfSome o (λ (v : Vec ℕ Global). AreSpacesOf def p v.items)
  at None e = tt
  at (Some v) e =
      let same : spaces_at t p ≡ v.items = spaces_at_get t p v (slice_get_within t p v e) (sym (get_or_from_slice_get t p v v e)) in
      record {
        increasing = subst IsStrictlyIncreasing same (h.increasing p);
        exact = λ s. ((λ c. h.sound p s (subst (λ xs. Contains xs s) (sym same) c)), (λ d. subst (λ xs. Contains xs s) same (complete def t closed s (kinds.Phylum p) d)));
      }

-- ---- an end of the passes

module _ (def : Definition) (sound : IsSound def) where
  mutual
    pub space_inside : (s : ℕ) (kind : Kind) → Declares def s kind → s < length def.spaces
    space_inside s kind (by_list {list} k at d) = space_inside s (kinds.Phylum k.element) d
    space_inside s kind (by_operator {phylum} o op at same plain d) = item_inside s op.items (operator_sound def sound o op at).each_item d

    item_inside : (s : ℕ) (xs : List Item) → AllByRecursion (IsItem def) xs → AnyDeclares def s xs → s < length def.spaces
    item_inside s xs all (here {rest}) = let (sort, (space, at, has)) = all.0 in slice_get_within def.spaces s space at
    item_inside s xs all (slot {kind} {rest} d) = space_inside s kind d
    item_inside s xs all (later {item} {rest} d) = item_inside s rest all.1 d

  -- a right table holds no more than each space for each phylum
  pub count_inside : (t : Table) → IsTable def t → spaces_count t ≤ length def.phyla * length def.spaces
  count_inside t h =
      let a : spaces_count t ≤ length t * length def.spaces = count_most t (length def.spaces) h.increasing (λ p s c. space_inside s (kinds.Phylum p) (h.sound p s c)) in
      subst (λ n. spaces_count t ≤ n * length def.spaces) h.one_each a

-- a table without spaces is right
pub table_empty : (def : Definition) (t : Table) → length t ≡ length def.phyla → ((p : ℕ) → spaces_at t p ≡ []) → IsTable def t
table_empty def t e none = record {
  one_each = e;
  increasing = λ p. subst IsStrictlyIncreasing (sym (none p)) (λ k lt. absurd (omega arith));
  sound = λ p s c. absurd (nothing s (subst (λ xs. Contains xs s) (none p) c));
}
