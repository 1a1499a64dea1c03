-- The spaces in which a list may still declare names.
use Rattle.std.proofs.Common.{◌≡◌, ◌⊎◌, inl, inr, ℕ, zero, suc, ◌==◌, ◌||◌, ◌&&◌, Bool, true, false, List, [], ◌∷◌, ◌++◌, Some, slice_get, refl, sym, ◌∙◌, subst, true≢false}
use Rattle.std.proofs.lemmas.Bool.{or_right, or_left}
use Rattle.psg_grammar.specs.Declaring.{AnyDeclares, by_list, by_operator, Declares, here, is_declaring, later, slot}
use Rattle.psg_grammar.specs.declared.types.Item.{Item}
use Rattle.psg_grammar.specs.declared.types.Item.TheVariants as items
use Rattle.psg_grammar.specs.declared.types.Kind.{Kind}
use Rattle.psg_grammar.specs.declared.types.Kind.TheVariants as kinds
use Rattle.psg_grammar.specs.declared.types.Operator.{Operator}
use Rattle.psg_grammar.specs.declared.types.Definition.{Definition}
use Rattle.psg_grammar.specs.Sound.{IsSound}
use Rattle.psg_grammar.proofs.DeclaringLaws.{eqb_same, found_declares}
use Rattle.psg_scope.specs.Headers.{has_space}
use Rattle.psg_eval.specs.Summaries.{AreSpacesOfList}
use Rattle.psg_session.proofs.Heads.{some_filtered}

-- the spaces in which the items, and the items of operators, declare
abbrev item_spaces : List Item → List ℕ
item_spaces [] = []
item_spaces (items.Declares s ∷ rest) = s ∷ item_spaces rest
item_spaces (_ ∷ rest) = item_spaces rest

abbrev all_spaces : List Operator → List ℕ
all_spaces [] = []
all_spaces (o ∷ rest) = item_spaces o.items ++ all_spaces rest

in_left : (xs ys : List ℕ) (s : ℕ) → has_space xs s ≡ true → has_space (xs ++ ys) s ≡ true
in_left [] ys s e = absurd (true≢false (sym e))
in_left (x ∷ xs) ys s e = by (in_left xs ys s) (x == s) (has_space xs s) refl refl e where
  by : (has_space xs s ≡ true → has_space (xs ++ ys) s ≡ true) → (a b : Bool) → (x == s) ≡ a → has_space xs s ≡ b
      → (a || b) ≡ true → ((x == s) || has_space (xs ++ ys) s) ≡ true
  by more true b p q h = or_left (x == s) (has_space (xs ++ ys) s) p
  by more false true p q h = or_right (x == s) (has_space (xs ++ ys) s) (more q)
  by more false false p q h = absurd (true≢false (sym h))

in_right : (xs ys : List ℕ) (s : ℕ) → has_space ys s ≡ true → has_space (xs ++ ys) s ≡ true
in_right [] ys s e = e
in_right (x ∷ xs) ys s e = or_right (x == s) (has_space (xs ++ ys) s) (in_right xs ys s e)

of_operator : (ops : List Operator) (o : ℕ) (op : Operator) (s : ℕ) → slice_get ops o ≡ Some op
    → has_space (item_spaces op.items) s ≡ true → has_space (all_spaces ops) s ≡ true
of_operator [] o op s at e = absurd (cc)
of_operator (x ∷ ops) zero op s at e =
    let same : x ≡ op = cc in
    in_left (item_spaces x.items) (all_spaces ops) s (subst (λ (z : Operator). has_space (item_spaces z.items) s ≡ true)
    (sym same) e)
of_operator (x ∷ ops) (suc o) op s at e = in_right (item_spaces x.items)
    (all_spaces ops) s (of_operator ops o op s at e)

later_item : (i : Item) (rest : List Item) (s : ℕ) → has_space (item_spaces rest) s ≡ true
    → has_space (item_spaces (i ∷ rest)) s ≡ true
later_item (items.Declares t) rest s e = or_right (t == s) (has_space (item_spaces rest) s) e
later_item _ rest s e = e

module _ (def : Definition) (s : ℕ) where
  mutual
    declares_there : {kind : Kind} → Declares def s kind → has_space (all_spaces def.operators) s ≡ true
    declares_there (by_list list at d) = declares_there d
    declares_there (by_operator o op at phylum scope any) = elim (any_there any) [
      | inl own ↦ of_operator def.operators o op s at own
      | inr all ↦ all
    ]

    any_there : {xs : List Item} → AnyDeclares def s xs
        → (has_space (item_spaces xs) s ≡ true) ⊎ (has_space (all_spaces def.operators) s ≡ true)
    any_there (here {rest = rest}) = inl (or_left (s == s) (has_space (item_spaces rest) s) (eqb_same s s refl))
    any_there (slot d) = inr (declares_there d)
    any_there (later {item = item} {rest = rest} any) = elim (any_there any) [
      | inl own ↦ inl (later_item item rest s own)
      | inr all ↦ inr all
    ]

absorb : (a b : Bool) → (b ≡ true → a ≡ true) → (a && b) ≡ b
absorb true b h = refl
absorb false true h = h refl
absorb false false h = refl

pub some_spaces : (def : Definition) → IsSound def → (l : ℕ) → (spaces : List ℕ) × AreSpacesOfList def l spaces
some_spaces def sound l =
    let (spaces, up, has) = some_filtered (λ s. is_declaring def s (kinds.List l)) (all_spaces def.operators) in (
      spaces,
      record {
        ascending = up;
        exact = λ s. has s ∙ absorb (has_space (all_spaces def.operators) s) (is_declaring def s (kinds.List l))
            (λ t. declares_there def s (found_declares def s (kinds.List l) t));
      },
    )
