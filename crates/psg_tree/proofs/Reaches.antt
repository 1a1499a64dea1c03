-- What a step of the search for a declaring position tells.
use Rattle.std.proofs.Common.{◌≡◌, inl, inr, ℕ, zero, suc, ◌+◌, ◌<◌, ◌==◌, true, false, List, [], ◌∷◌, ◌++◌, length, take, get_or, Option, Some, None, slice_get, refl, ap, sym, ◌∙◌, subst, arith, true≢false}
use Rattle.std.proofs.lemmas.Bool.{or_cases, or_left, or_right}
use Rattle.std.specs.List.{AllByRecursion}
use Rattle.std.proofs.lemmas.List.{take_more}
use Rattle.std.proofs.lemmas.Option.{slice_get_read, none-some}
use Rattle.psg_terms.proofs.Lists.{each_push, each_at}
use Rattle.psg_grammar.specs.declared.types.Kind.{Kind}
use Rattle.psg_grammar.specs.declared.types.Kind.TheVariants as kinds
use Rattle.psg_grammar.specs.declared.types.Item.{Item}
use Rattle.psg_grammar.specs.declared.types.Item.TheVariants as items
use Rattle.psg_grammar.specs.declared.types.ListKind.{ListKind}
use Rattle.psg_grammar.specs.declared.types.Operator.{Operator}
use Rattle.psg_grammar.specs.declared.types.Definition.{Definition}
use Rattle.psg_grammar.specs.Declaring.{Declares, by_list, by_operator, AnyDeclares, here, slot, later}
use Rattle.psg_grammar.proofs.DeclaringLaws.{eqb_true, eqb_same}
use Rattle.psg_tree.specs.declared.reach.Step.{Step}
use Rattle.psg_tree.specs.declared.reach.Step.TheVariants as next
use Rattle.psg_tree.specs.Reaching.{is_in, element_of, phylum_of, AnyDeclare, PhylumDeclares, IsFoundAt, IsClosedItem, IsClosedOperator, IsItemStep, IsItemsStep, IsOperatorsStep}

-- one more that is so
pub all_more : {X : Type 0} (P : X → Type 0) (xs : List X) (i : ℕ) (y : X) → i < length xs → y ≡ get_or xs i y → AllByRecursion P (take i xs) → P y → AllByRecursion P (take (i + 1) xs)
all_more P xs i y h e a p = subst (AllByRecursion P) (sym (take_more xs i y h ∙ ap (λ x. take i xs ++ x ∷ []) (sym e))) (each_push P (take i xs) y a p)

-- what is declared at a place of the kind
pub kind_declares : (def : Definition) (k : Kind) (p s : ℕ) → phylum_of def k ≡ Some p → Declares def s (kinds.Phylum p) → Declares def s k
kind_declares def (kinds.Phylum q) p s e d = let same : q ≡ p = some_same q p e in subst (λ r. Declares def s (kinds.Phylum r)) (sym same) d where
  some_same : (a b : ℕ) → Some a ≡ Some b → a ≡ b
  some_same a b e = cc
kind_declares def (kinds.List l) p s e d = of_list (slice_get def.lists l) refl e where
  of_list : (o : Option ListKind) → slice_get def.lists l ≡ o → element_of o ≡ Some p → Declares def s (kinds.List l)
  of_list None at e = absurd (none-some p e)
  of_list (Some kind) at e = by_list kind at (let same : kind.element ≡ p = some_same kind.element p e in subst (λ r. Declares def s (kinds.Phylum r)) (sym same) d) where
    some_same : (a b : ℕ) → Some a ≡ Some b → a ≡ b
    some_same a b e = cc

-- an item of the list declares, or is for a kind that does
pub item_at_declares : (def : Definition) (s : ℕ) (xs : List Item) (i : ℕ) (x : Item) → i < length xs → x ≡ get_or xs i x → x ≡ items.Declares s → AnyDeclares def s xs
item_at_declares def s [] i x h e d = absurd (omega (arith, h))
item_at_declares def s (y ∷ xs) zero x h e d = subst (λ z. AnyDeclares def s (z ∷ xs)) (sym d ∙ e) here
item_at_declares def s (y ∷ xs) (suc i) x h e d = later (item_at_declares def s xs i x (omega (arith, h)) e d)

pub item_at_slot : (def : Definition) (s : ℕ) (xs : List Item) (i : ℕ) (x : Item) (k : Kind) → i < length xs → x ≡ get_or xs i x → x ≡ items.Slot k → Declares def s k → AnyDeclares def s xs
item_at_slot def s [] i x k h e d r = absurd (omega (arith, h))
item_at_slot def s (y ∷ xs) zero x k h e d r = subst (λ z. AnyDeclares def s (z ∷ xs)) (sym d ∙ e) (slot r)
item_at_slot def s (y ∷ xs) (suc i) x k h e d r = later (item_at_slot def s xs i x k (omega (arith, h)) e d r)

-- the step of an item is that of its list, where it is one
pub step_of_item : (def : Definition) (found : List ℕ) (xs : List Item) (i : ℕ) (x : Item) (step : Step) → i < length xs → x ≡ get_or xs i x → (step ≡ next.Closed → ⊥)
    → IsItemStep def found x step → IsItemsStep def found xs step
step_of_item def found xs i x next.Declares h e n p = (p.0, item_at_declares def p.0 xs i x h e p.1)
step_of_item def found xs i x (next.To q) h e n p = (p.3, λ s d. item_at_slot def s xs i x p.0 h e p.1 (kind_declares def p.0 q s p.2 d))
step_of_item def found xs i x next.Closed h e n p = absurd (n refl)

-- the step of an operator's items is that of the operators, where it is one
pub step_of_operator : (def : Definition) (found : List ℕ) (ops : List Operator) (i : ℕ) (op : Operator) (step : Step) → i < length ops → op ≡ get_or ops i op
    → op.scope ≡ false → is_in op.phylum found ≡ true → (step ≡ next.Closed → ⊥) → IsItemsStep def found op.items step → IsOperatorsStep def found ops step
step_of_operator def found ops i op next.Declares h e plain there n p = (i, op, slice_get_read ops (length ops) i op refl h e, plain, there, p.0, p.1)
step_of_operator def found ops i op (next.To q) h e plain there n p = (p.0, i, op, slice_get_read ops (length ops) i op refl h e, plain, there, p.1)
step_of_operator def found ops i op next.Closed h e plain there n p = absurd (n refl)

-- nothing declares where no step is left
module _ (def : Definition) (found : List ℕ) (closed : AllByRecursion (IsClosedOperator def found) def.operators) (s : ℕ) where
  mutual
    pub none_declares : (kind : Kind) → IsFoundAt def found (phylum_of def kind) → Declares def s kind → ⊥
    none_declares kind there (by_list {list} k at d) = none_declares (kinds.Phylum k.element) (subst (λ o. IsFoundAt def found (element_of o)) at there) d
    none_declares kind there (by_operator {phylum} o op at same plain d) =
        none_of_items op.items (each_at (IsClosedOperator def found) def.operators closed o op at plain (subst (λ p. is_in p found ≡ true) (sym same) there)) d

    none_of_items : (xs : List Item) → AllByRecursion (IsClosedItem def found) xs → AnyDeclares def s xs → ⊥
    none_of_items xs h (here {rest}) = h.0
    none_of_items xs h (slot {kind} {rest} d) = none_declares kind h.0 d
    none_of_items xs h (later {item} {rest} d) = none_of_items rest h.1 d

-- the answer for the phyla found, by the step
pub found_one : (def : Definition) (found : List ℕ) → IsOperatorsStep def found def.operators next.Declares → AnyDeclare def found
found_one def found (o, op, at, plain, there, s, d) = (s, op.phylum, there, by_operator o op at refl plain d)

pub found_none : (def : Definition) (found : List ℕ) → IsOperatorsStep def found def.operators next.Closed → AnyDeclare def found → ⊥
found_none def found closed (s, q, there, d) = none_declares def found closed s (kinds.Phylum q) there d

pub found_more : (def : Definition) (found : List ℕ) (p : ℕ) → IsOperatorsStep def found def.operators (next.To p) → AnyDeclare def (p ∷ found) → AnyDeclare def found
found_more def found p (new, o, op, at, plain, there, f) (s, q, is, d) = elim (or_cases (p == q) (is_in q found) is) [
  | inl h ↦ (s, op.phylum, there, by_operator o op at refl plain (f s (subst (λ r. Declares def s (kinds.Phylum r)) (sym (eqb_true p q h)) d)))
  | inr h ↦ (s, q, h, d)
]

pub found_still : (def : Definition) (found : List ℕ) (p : ℕ) → AnyDeclare def found → AnyDeclare def (p ∷ found)
found_still def found p (s, q, is, d) = (s, q, or_right (p == q) (is_in q found) is, d)

pub found_first : (def : Definition) (p : ℕ) → AnyDeclare def (p ∷ []) → PhylumDeclares def p
found_first def p (s, q, is, d) = elim (or_cases (p == q) false is) [
  | inl h ↦ (s, subst (λ r. Declares def s (kinds.Phylum r)) (sym (eqb_true p q h)) d)
  | inr h ↦ absurd (true≢false (sym h))
]

pub first_found : (def : Definition) (p : ℕ) → PhylumDeclares def p → AnyDeclare def (p ∷ [])
first_found def p (s, d) = (s, p, or_left (p == p) false (eqb_same p p refl), d)
