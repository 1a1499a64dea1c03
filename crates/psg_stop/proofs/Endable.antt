-- What waits for a tree can always be ended.
use Rattle.std.proofs.Common.{◌≡◌, ◌⊎◌, inl, inr, ℕ, zero, suc, ◌+◌, ◌&&◌, ◌||◌, not, Bool, true, false, List, [], ◌∷◌, ◌++◌, length, Some, slice_get, refl, sym, ◌∙◌, subst, arith, append_assoc}
use Rattle.std.specs.List.{AllByRecursion}
use Rattle.std.proofs.lemmas.Bool.Decides.{eqb_tells}
use Rattle.psg_terms.proofs.Lists.{each_at}
use Rattle.psg_grammar.specs.declared.types.Kind.{Kind}
use Rattle.psg_grammar.specs.declared.types.Kind.TheVariants as kinds
use Rattle.psg_grammar.specs.declared.types.Item.{Item}
use Rattle.psg_grammar.specs.declared.types.Item.TheVariants as items
use Rattle.psg_grammar.specs.declared.types.Operator.{Operator}
use Rattle.psg_grammar.specs.declared.types.Phylum.{Phylum}
use Rattle.psg_grammar.specs.declared.types.ListKind.{ListKind}
use Rattle.psg_grammar.specs.declared.types.Definition.{Definition}
use Rattle.psg_grammar.specs.Declaring.{any_item, any_operator, declares_within}
use Rattle.psg_grammar.specs.Fragments.{ending, hole, operator}
use Rattle.psg_grammar.specs.Sound.{IsItem}
use Rattle.psg_grammar.specs.WellFormed.{words_in}
use Rattle.psg_completions.proofs.LongNames.{fresh}
use Rattle.psg_class.specs.Places.{solid}
use Rattle.psg_class.specs.Terminals.{a_name, placeholder, word}
use Rattle.psg_class.specs.Yields.{of_hole, of_operator, no_elements}
use Rattle.psg_unparse.proofs.FixedTokens.{has_tokens}
use Rattle.psg_unparse.proofs.WordTokens.{FixedToken, name_terminal}
use Rattle.psg_parse.specs.Onward.{CanEndItems, HasToken, HasTree, IsEndable}
use Rattle.psg_parse.proofs.Endings.{items_end}
use Rattle.psg_stop.specs.Accepted.{CanEnd, HasTrees}

module _ (def : Definition) where
  a_free_name : HasToken def a_name
  a_free_name =
      let (n, (cs, are, is, free), other) = fresh def [] in
      record { token = word n; is = name_terminal def n cs are is free }

  -- ---- phyla that no operator is of declare nothing

  holder : (os : List Operator) (p : ℕ) → ((k : ℕ) × (o : Operator) × (slice_get os k ≡ Some o) × (o.phylum ≡ p)) ⊎ ((space : ℕ) (test : Kind → Bool) → any_operator space test p os ≡ false)
  holder [] p = inr (λ s t. refl)
  holder (o ∷ os) p = elim (eqb_tells o.phylum p) [
    | inl e ↦ inl (zero, o, refl, e.1)
    | inr e ↦ elim (holder os p) [
      | inl h ↦ inl (suc h.0, h.1, h.2, h.3)
      | inr h ↦ inr (λ s t. subst (λ b. ((b && (not o.scope) && any_item s t o.items) || any_operator s t p os) ≡ false) (sym e.0) (h s t))
    ]
  ]

  never : (p : ℕ) → ((space : ℕ) (test : Kind → Bool) → any_operator space test p def.operators ≡ false) → (n s : ℕ) → declares_within def s n (kinds.Phylum p) ≡ false
  never p h zero s = refl
  never p h (suc n) s = h s (declares_within def s n)

-- one item further
on : {o : List Item} (front : List Item) (i : Item) (rest : List Item) → o ≡ front ++ i ∷ rest → o ≡ (front ++ i ∷ []) ++ rest
on front i rest e = e ∙ sym (append_assoc front (i ∷ []) rest)

module _ (def : Definition) (can : CanEnd def) where
  module _ (n : ℕ) (o : Operator) (found : slice_get def.operators n ≡ Some o) where
    items_can : (front rest : List Item) → o.items ≡ front ++ rest → AllByRecursion (IsItem def) rest → AllByRecursion (FixedToken def) (words_in rest) → CanEndItems def (solid rest)
    items_can front [] e i w = tt
    items_can front (items.Word x ∷ rest) e i w = (record { token = w.0.token; is = w.0.terminal }, items_can (front ++ items.Word x ∷ []) rest (on front (items.Word x) rest e) i.1 w.1)
    items_can front (items.Slot (kinds.Phylum p) ∷ rest) e i w =
        let (s, (k, there, sort)) = i.0 in
        (record { phylum = k; found = there; holes = can.quiet n o front p rest found e }, items_can (front ++ items.Slot (kinds.Phylum p) ∷ []) rest (on front (items.Slot (kinds.Phylum p)) rest e) i.1 w)
    items_can front (items.Slot (kinds.List l) ∷ rest) e i w =
        let (s, (k, there, sort)) = i.0 in
        (record { kind = k; found = there }, items_can (front ++ items.Slot (kinds.List l) ∷ []) rest (on front (items.Slot (kinds.List l)) rest e) i.1 w)
    items_can front (items.Refers s ∷ rest) e i w = items_can (front ++ items.Refers s ∷ []) rest (on front (items.Refers s) rest e) i.1 w
    items_can front (items.Declares s ∷ rest) e i w = items_can (front ++ items.Declares s ∷ []) rest (on front (items.Declares s) rest e) i.1 w
    items_can front (items.Number ∷ rest) e i w = items_can (front ++ items.Number ∷ []) rest (on front items.Number rest e) i.1 w
    items_can front (items.Text ∷ rest) e i w = items_can (front ++ items.Text ∷ []) rest (on front items.Text rest e) i.1 w
    items_can front (items.Space ∷ rest) e i w = items_can (front ++ items.Space ∷ []) rest (on front items.Space rest e) i.1 w
    items_can front (items.Tight ∷ rest) e i w = items_can (front ++ items.Tight ∷ []) rest (on front items.Tight rest e) i.1 w
    items_can front (items.Line ∷ rest) e i w = items_can (front ++ items.Line ∷ []) rest (on front items.Line rest e) i.1 w
    items_can front (items.In ∷ rest) e i w = items_can (front ++ items.In ∷ []) rest (on front items.In rest e) i.1 w
    items_can front (items.Out ∷ rest) e i w = items_can (front ++ items.Out ∷ []) rest (on front items.Out rest e) i.1 w

    own_items : CanEndItems def (solid o.items)
    own_items = items_can [] o.items refl (each_at _ def.operators can.sound.operators n o found).each_item ((has_tokens def can.words).operators n o found)

  has_tree : (p : ℕ) (phylum : Phylum) → slice_get def.phyla p ≡ Some phylum → HasTree def p 0
  has_tree p phylum found = elim (holder def def.operators p) [
    | inl h ↦ (let r = items_end def (a_free_name def) h.1 true (operator h.0) 0 (solid h.1.items) (own_items h.0 h.1 h.2) in
        record { tree = r.tree; nesting = r.nesting; own = r.own; yields = of_operator h.0 h.1 h.2 h.3 (omega arith) r.yields })
    | inr h ↦ record { tree = hole p; nesting = 0; own = placeholder phylum.name ∷ []; yields = of_hole phylum found (λ s. never def p h (length def.phyla + length def.lists) s) }
  ]

  has_elements : (l : ℕ) (kind : ListKind) → slice_get def.lists l ≡ Some kind → HasTree def kind.element 0
  has_elements l kind found = let (k, there, sort) = (each_at _ def.lists can.sound.lists l kind found).element_sort in has_tree kind.element k there

  pub endable_by : IsEndable def
  endable_by = record { items = own_items; trees = has_tree; elements = has_elements; name = a_free_name def }

  pub trees_by : HasTrees def
  trees_by = record {
    phyla = λ p phylum found. (let h = has_tree p phylum found in record { more = h.own; tree = h.tree; nesting = h.nesting; yields = h.yields });
    holes = λ p phylum found holes level. record { more = placeholder phylum.name ∷ []; tree = hole p; nesting = 0; yields = of_hole phylum found holes };
    lists = λ l list found level. record { more = []; tree = ending l false; nesting = 0; yields = no_elements list found };
  }
