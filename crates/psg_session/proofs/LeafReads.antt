-- Which leaves the text of a command's arguments gives, from its tokens.
use Rattle.std.proofs.Common.{◌≡◌, ◌↔◌, ℕ, List, map, Some, slice_get, chars, sym, ◌∙◌, ap, subst}
use Rattle.psg_grammar.specs.declared.types.Item.{Item}
use Rattle.psg_grammar.specs.declared.types.Operator.{Operator}
use Rattle.psg_grammar.specs.declared.types.Definition.{Definition}
use Rattle.psg_grammar.specs.Insertion.{Leaf as PlainLeaf, AreLeaves}
use Rattle.psg_grammar.specs.Lookups.{operator_at, items_of, part_items}
use Rattle.psg_grammar.specs.WellFormed.{fixed_words}
use Rattle.psg_lexis.specs.Tokens.{HasTokens}
use Rattle.psg_lexis.specs.declared.token.Spanned.{Spanned}
use Rattle.psg_lexis.proofs.Laws.{only_tokens}
use Rattle.psg_specimen.specs.declared.language.LanguageParts.{LanguageParts}
use Rattle.psg_session.specs.declared.leaves.Leaf.{Leaf}
use Rattle.psg_session.specs.Leaves.{given, GivesLeaves}
use Rattle.psg_session.specs.Views.{plain_leaf, IsLanguage}
use Rattle.psg_session.proofs.LeafWords.{same_leaves}

-- the leaves are those of the operator
pub own_leaves : (def : Definition) (o : ℕ) (op : Operator) (its : List Item) (xs ys : List Leaf)
    → slice_get def.operators o ≡ Some op → its ≡ op.items → xs ≡ ys
    → AreLeaves def (part_items its) (map plain_leaf xs)
    ↔ AreLeaves def (items_of (operator_at def o)) (map plain_leaf ys)
own_leaves def o op its xs ys found same equal =
    let parts : part_items its ≡ items_of (operator_at def o) = ap part_items same ∙ sym (ap items_of found) in (
      λ h. subst (λ is. AreLeaves def is (map plain_leaf ys)) parts
          (subst (λ zs. AreLeaves def (part_items its) (map plain_leaf zs)) equal h),
      λ h. subst (λ zs. AreLeaves def (part_items its) (map plain_leaf zs)) (sym equal)
          (subst (λ is. AreLeaves def is (map plain_leaf ys)) (sym parts) h),
    )

-- a text gives one list of leaves
pub one_list : (def : Definition) (o p : ℕ) (args : List ℕ) (xs ys : List PlainLeaf) → GivesLeaves def o args xs
    → GivesLeaves def p args ys → xs ≡ ys
one_list def o p args xs ys (ts, has, e, are) (us, other, f, also) =
    same_leaves xs ys (sym e ∙ ap (map given) (only_tokens (fixed_words def) (chars args) 0 ts us has other) ∙ f)

module _ (l : LanguageParts) (is : IsLanguage l) (o : ℕ) (args : List ℕ) where
  -- the text has no tokens
  pub without_tokens : ((ts : List Spanned) → HasTokens l.lexis (chars args) 0 ts → ⊥) → (xs : List PlainLeaf)
      → GivesLeaves l.definition o args xs → ⊥
  without_tokens never xs (ts, has, e, are) =
      never ts (subst (λ ws. HasTokens ws (chars args) 0 ts) (sym is.words) has)

  module _ (ts : List Spanned) (has : HasTokens l.lexis (chars args) 0 ts) where
    same_tokens : (us : List Spanned) → HasTokens (fixed_words l.definition) (chars args) 0 us → ts ≡ us
    same_tokens us other =
        only_tokens l.lexis (chars args) 0 ts us has
        (subst (λ ws. HasTokens ws (chars args) 0 us) (sym is.words) other)

    -- not each token is a leaf
    pub without_leaves : ((xs : List PlainLeaf) → map given ts ≡ map Some xs → ⊥) → (xs : List PlainLeaf)
        → GivesLeaves l.definition o args xs → ⊥
    without_leaves never xs (us, other, e, are) = never xs (ap (map given) (same_tokens us other) ∙ e)

    module _ (leaves : List PlainLeaf) (e : map given ts ≡ map Some leaves) where
      pub gives : AreLeaves l.definition (items_of (operator_at l.definition o)) leaves
          → GivesLeaves l.definition o args leaves
      gives are = (ts, subst (λ ws. HasTokens ws (chars args) 0 ts) is.words has, e, are)

      -- the leaves are not those of the operator
      pub gives_no_other : (AreLeaves l.definition (items_of (operator_at l.definition o)) leaves → ⊥)
          → (xs : List PlainLeaf) → GivesLeaves l.definition o args xs → ⊥
      gives_no_other never xs (us, other, f, are) =
          never (subst (AreLeaves l.definition (items_of (operator_at l.definition o)))
          (same_leaves xs leaves (sym f ∙ ap (map given) (sym (same_tokens us other)) ∙ e)) are)
