-- The search for declaring kinds finds exactly those that declare.
use Rattle.std.proofs.Common.{◌≡◌, ◌↔◌, ◌⊎◌, inl, inr, ℕ, zero, suc, ◌+◌, ◌<◌, ◌==◌, Bool, true, false, ◌||◌, ◌&&◌, not, List, [], ◌∷◌, length, Option, Some, None, slice_get, refl, sym, ◌∙◌, subst, true≢false}
use Rattle.std.proofs.lemmas.Bool.{cases_Bool, or_cases, or_left, or_right}
use Rattle.std.proofs.lemmas.Bool.Decides.{eqb_tells}
use Rattle.std.proofs.lemmas.Option.{none-some, slice_get_within}
use Rattle.psg_grammar.specs.declared.types.Kind.{Kind}
use Rattle.psg_grammar.specs.declared.types.Kind.TheVariants as kinds
use Rattle.psg_grammar.specs.declared.types.Item.{Item}
use Rattle.psg_grammar.specs.declared.types.Item.TheVariants as items
use Rattle.psg_grammar.specs.declared.types.Operator.{Operator}
use Rattle.psg_grammar.specs.declared.types.ListKind.{ListKind}
use Rattle.psg_grammar.specs.declared.types.Definition.{Definition}
use Rattle.psg_grammar.specs.Kinds.{HasKind}
use Rattle.psg_grammar.specs.Declaring.{Declares, by_list, by_operator, AnyDeclares, here, slot, later, any_item, any_operator, element_declares, declares_by, declares_within, is_declaring}
use Rattle.psg_grammar.specs.Sound.{IsSound}
use Rattle.psg_grammar.proofs.Closed.{closed}
use Rattle.psg_grammar.proofs.SoundParts.{items_in, elements_in, phylum_in}

pub eqb_true : (a b : ℕ) → a == b ≡ true → a ≡ b
eqb_true a b e = elim (eqb_tells a b) [ inl h ↦ h.1 | inr h ↦ absurd (true≢false (sym e ∙ h.0)) ]

pub eqb_same : (a b : ℕ) → a ≡ b → a == b ≡ true
eqb_same a b e = elim (eqb_tells a b) [ inl h ↦ h.0 | inr h ↦ absurd (h.1 e) ]

-- ---- a found kind declares

module _ (def : Definition) (space : ℕ) (test : Kind → Bool) (true_test : (k : Kind) → test k ≡ true → Declares def space k) where
  pub items_declare : (xs : List Item) → any_item space test xs ≡ true → AnyDeclares def space xs
  items_declare [] e = absurd (true≢false (sym e))
  items_declare (items.Declares s ∷ xs) e = elim (or_cases (s == space) (any_item space test xs) e) [
    | inl h ↦ subst (λ r. AnyDeclares def space (items.Declares r ∷ xs)) (sym (eqb_true s space h)) here
    | inr h ↦ later (items_declare xs h)
  ]
  items_declare (items.Slot k ∷ xs) e = elim (or_cases (test k) (any_item space test xs) e) [
    | inl h ↦ slot (true_test k h)
    | inr h ↦ later (items_declare xs h)
  ]
  items_declare (items.Word w ∷ xs) e = later (items_declare xs e)
  items_declare (items.Refers s ∷ xs) e = later (items_declare xs e)
  items_declare (items.Number ∷ xs) e = later (items_declare xs e)
  items_declare (items.Text ∷ xs) e = later (items_declare xs e)
  items_declare (items.Space ∷ xs) e = later (items_declare xs e)
  items_declare (items.Tight ∷ xs) e = later (items_declare xs e)
  items_declare (items.Line ∷ xs) e = later (items_declare xs e)
  items_declare (items.In ∷ xs) e = later (items_declare xs e)
  items_declare (items.Out ∷ xs) e = later (items_declare xs e)

-- the operator that makes the test of the phylum come out
any_operator_at : (space : ℕ) (test : Kind → Bool) (p : ℕ) (ops : List Operator) → any_operator space test p ops ≡ true
    → (o : ℕ) × (op : Operator) × (slice_get ops o ≡ Some op) × (op.phylum ≡ p) × (op.scope ≡ false) × (any_item space test op.items ≡ true)
any_operator_at space test p [] e = absurd (true≢false (sym e))
any_operator_at space test p (op ∷ ops) e = elim (or_cases ((op.phylum == p) && (not op.scope) && any_item space test op.items) (any_operator space test p ops) e) [
  | inl h ↦ let (same, plain, found) = three (op.phylum == p) op.scope (any_item space test op.items) h in (0, op, refl, eqb_true op.phylum p same, plain, found)
  | inr h ↦ let (o, other, at, same, plain, found) = any_operator_at space test p ops h in (suc o, other, at, same, plain, found)
] where
  three : (a s b : Bool) → (a && (not s) && b) ≡ true → (a ≡ true) × (s ≡ false) × (b ≡ true)
  three true false b e = (refl, refl, e)
  three true true b e = absurd (true≢false (sym e))
  three false true b e = absurd (true≢false (sym e))
  three false false b e = absurd (true≢false (sym e))

pub by_declares : (def : Definition) (space : ℕ) (test : Kind → Bool) → ((k : Kind) → test k ≡ true → Declares def space k) → (kind : Kind) → declares_by def space test kind ≡ true → Declares def space kind
by_declares def space test h (kinds.Phylum p) e =
    let (o, op, at, same, plain, found) = any_operator_at space test p def.operators e in
    by_operator o op at same plain (items_declare def space test h op.items found)
by_declares def space test h (kinds.List l) e = of_list (slice_get def.lists l) refl e where
  of_list : (k : Option ListKind) → slice_get def.lists l ≡ k → element_declares test k ≡ true → Declares def space (kinds.List l)
  of_list None at e = absurd (true≢false (sym e))
  of_list (Some kind) at e = by_list kind at (h (kinds.Phylum kind.element) e)

within_declares : (def : Definition) (space n : ℕ) (kind : Kind) → declares_within def space n kind ≡ true → Declares def space kind
within_declares def space zero kind e = absurd (true≢false (sym e))
within_declares def space (suc n) kind e = by_declares def space (declares_within def space n) (within_declares def space n) kind e

pub found_declares : (def : Definition) (space : ℕ) (kind : Kind) → is_declaring def space kind ≡ true → Declares def space kind
found_declares def space kind e = within_declares def space (length def.phyla + length def.lists) kind e

-- ---- a declaring kind is found

pub operator_makes : (space : ℕ) (test : Kind → Bool) (p : ℕ) (ops : List Operator) (o : ℕ) (op : Operator) → slice_get ops o ≡ Some op → op.phylum ≡ p → op.scope ≡ false → any_item space test op.items ≡ true → any_operator space test p ops ≡ true
operator_makes space test p [] o op at same plain found = absurd (none-some op at)
operator_makes space test p (x ∷ ops) zero op at same plain found =
    let is : x ≡ op = let f : Some x ≡ Some op = at in cc in
    or_left ((x.phylum == p) && (not x.scope) && any_item space test x.items) (any_operator space test p ops)
    (subst (λ (y : Operator). ((y.phylum == p) && (not y.scope) && any_item space test y.items) ≡ true) (sym is) (three (op.phylum == p) op.scope (any_item space test op.items) (eqb_same op.phylum p same) plain found)) where
      three : (a s b : Bool) → a ≡ true → s ≡ false → b ≡ true → (a && (not s) && b) ≡ true
      three true false b e f g = g
      three true true b e f g = absurd (true≢false f)
      three false s b e f g = absurd (true≢false (sym e))
operator_makes space test p (x ∷ ops) (suc o) op at same plain found =
    or_right ((x.phylum == p) && (not x.scope) && any_item space test x.items) (any_operator space test p ops) (operator_makes space test p ops o op at same plain found)

-- a test that is true of a kind whenever one round makes it so is true of each declaring kind
pub later_item : (space : ℕ) (test : Kind → Bool) (x : Item) (xs : List Item) → any_item space test xs ≡ true → any_item space test (x ∷ xs) ≡ true
later_item space test (items.Declares s) xs e = or_right (s == space) (any_item space test xs) e
later_item space test (items.Slot k) xs e = or_right (test k) (any_item space test xs) e
later_item space test (items.Word w) xs e = e
later_item space test (items.Refers s) xs e = e
later_item space test items.Number xs e = e
later_item space test items.Text xs e = e
later_item space test items.Space xs e = e
later_item space test items.Tight xs e = e
later_item space test items.Line xs e = e
later_item space test items.In xs e = e
later_item space test items.Out xs e = e

module _ (def : Definition) (sound : IsSound def) (space : ℕ) (test : Kind → Bool) (step : (k : Kind) → HasKind def k → declares_by def space test k ≡ true → test k ≡ true) where
  mutual
    pub passes : (kind : Kind) → Declares def space kind → test kind ≡ true
    passes kind (by_list {list} k at d) = step (kinds.List list) (slice_get_within def.lists list k at) (subst (λ o. element_declares test o ≡ true) (sym at) (passes (kinds.Phylum k.element) d))
    passes kind (by_operator {phylum} o op at same plain d) =
        step (kinds.Phylum phylum) (subst (λ p. p < length def.phyla) same (phylum_in def sound o op at)) (operator_makes space test phylum def.operators o op at same plain (items_pass op.items d))

    items_pass : (xs : List Item) → AnyDeclares def space xs → any_item space test xs ≡ true
    items_pass xs (here {rest}) = or_left (space == space) (any_item space test rest) (eqb_same space space refl)
    items_pass xs (slot {kind} {rest} d) = or_left (test kind) (any_item space test rest) (passes kind d)
    items_pass xs (later {item} {rest} d) = later_item space test item rest (items_pass rest d)

pub declares_found : (def : Definition) → IsSound def → (space : ℕ) (kind : Kind) → Declares def space kind → is_declaring def space kind ≡ true
declares_found def sound space kind d = passes def sound space (is_declaring def space) step kind d where
  step : (k : Kind) → HasKind def k → declares_by def space (is_declaring def space) k ≡ true → is_declaring def space k ≡ true
  step k there e = elim (cases_Bool (is_declaring def space k)) [
    | inl h ↦ h
    | inr h ↦ absurd (true≢false (sym e ∙ closed def space (items_in def sound) (elements_in def sound) k there h))
  ]

-- the search finds exactly the kinds that declare
pub search_exact : (def : Definition) → IsSound def → (space : ℕ) (kind : Kind) → (is_declaring def space kind ≡ true) ↔ Declares def space kind
search_exact def sound space kind = (found_declares def space kind, declares_found def sound space kind)
