-- An operator with one more part that is a leaf.
use Rattle.std.proofs.Common.{◌≡◌, ℕ, ◌<◌, ◌≤◌, ◌^◌, Bool, true, false, List, [], ◌∷◌, ◌++◌, length, Some, slice_get, refl, ap, sym, ◌∙◌, subst, append_assoc, arith}
use Rattle.std.specs.Prelude.{decimal}
use Rattle.std.specs.Str.{chars, IsUtf8}
use Rattle.std.specs.List.{AllByRecursion}
use Rattle.psg_grammar.specs.declared.types.Kind.{Kind}
use Rattle.psg_grammar.specs.declared.types.Kind.TheVariants as kinds
use Rattle.psg_grammar.specs.declared.types.Item.{Item}
use Rattle.psg_grammar.specs.declared.types.Item.TheVariants as items
use Rattle.psg_grammar.specs.declared.types.Operator.{Operator}
use Rattle.psg_grammar.specs.declared.types.Definition.{Definition}
use Rattle.psg_grammar.specs.Fragments.{Fragment, operator, with_name, with_number, with_text}
use Rattle.psg_grammar.specs.Lookups.{part_items}
use Rattle.psg_grammar.specs.Printable.{IsShown}
use Rattle.psg_grammar.specs.Sizes.{depth_of}
use Rattle.psg_grammar.specs.WellFormed.{words_in, fixed_words, IsName}
use Rattle.psg_tree.specs.AbstractText.{quoted as quoted_bytes}
use Rattle.psg_class.specs.Terminals.{Token, word, numeral, quoted}
use Rattle.psg_unparse.specs.Rows.{Piece, token, words, row, left, operator_of, from_part, behind_first, items_in, words_behind}
use Rattle.psg_unparse.proofs.Lexing.{IsTextOf, RowTokens, no_pieces, a_token}
use Rattle.psg_unparse.proofs.WordTokens.{FixedToken, name_text, name_terminal}
use Rattle.psg_unparse.proofs.NumberTokens.{number_text}
use Rattle.psg_unparse.proofs.QuoteTokens.{quote_text}
use Rattle.psg_unparse.proofs.FixedTokens.{HasTokens, all_in_rest}
use Rattle.psg_unparse.proofs.Building.{Front, at_first, past_refers, past_declares, past_number, past_text}
use Rattle.psg_unparse.proofs.Passing.{tokens-append, parts_left, Begins, one_left, Passed, pass}
use Rattle.psg_unparse.proofs.Claims.{PartBack}

module _ (def : Definition) (known : HasTokens def) where
  -- the operator's tree with the part just read, and the words after it
  pub added : (g : Fragment) (more : List Item) (kind : Kind) (n : ℕ) (o : Operator)
      → slice_get def.operators n ≡ Some o → operator_of def g ≡ Some o → kind ≡ kinds.Phylum o.phylum
      → (xs : List Item) → left def g ≡ from_part xs → more ≡ part_items xs
      → AllByRecursion (FixedToken def) (words_in xs)
      → (r : List Piece) → row def g ≡ r ++ words xs → (ts : List Token) → RowTokens (fixed_words def) r ts
      → (first : Bool) (d : ℕ) → d < depth_of g → Front def n o g first xs d ts → PartBack def g more kind
  added g more kind n o found top phylum xs at parts have r is ts has first d shallow a =
      let b : Passed def n o g d xs ts = pass def n o g d first xs ts have a in
      record {
        n = n;
        o = o;
        found = found;
        top = top;
        of_phylum = phylum;
        behind = xs;
        at_part = at;
        parts = parts ∙ sym (parts_left xs) ∙ ap part_items (sym at);
        first = b.first;
        tokens = ts ++ b.tokens;
        nesting = d;
        has = subst (λ x. RowTokens (fixed_words def) x (ts ++ b.tokens)) (sym is)
            (tokens-append (fixed_words def) r (words xs) ts b.tokens has b.has);
        shallow = shallow;
        front = subst (λ zs. Front def n o g b.first zs d (ts ++ b.tokens)) (sym at) b.there;
      }

  -- an operator without its parts
  pub part_operator : (n : ℕ) (o : Operator) (more : List Item) (kind : Kind) → slice_get def.operators n ≡ Some o
      → more ≡ part_items o.items → kind ≡ kinds.Phylum o.phylum
      → PartBack def (operator n) more kind
  part_operator n o more kind found parts phylum =
      let one : 0 < 1 = omega arith in
      added (operator n) more kind n o found found phylum o.items (ap (λ x. from_part (items_in x)) found) parts
      (known.operators n o found)
      [] (ap (λ x. words (items_in x)) found) [] no_pieces true 0 one (at_first def n o)

  module _ (f : Fragment) (i : Item) (more : List Item) (kind : Kind) (a : PartBack def f (i ∷ more) kind) where
    -- the next part's item is the first of those left
    pub next_left : Begins (left def f) i more
    next_left = subst (λ zs. Begins zs i more) (sym a.at_part)
        (one_left a.behind i more (a.parts ∙ ap part_items a.at_part))

    pub front_at : Front def a.n a.o f a.first (i ∷ behind_first (left def f)) a.nesting a.tokens
    front_at = subst (λ zs. Front def a.n a.o f a.first zs a.nesting a.tokens) next_left.is a.front

    pub words_next : AllByRecursion (FixedToken def) (words_in (i ∷ behind_first (left def f)))
    words_next = all_in_rest (FixedToken def) front_at.front (i ∷ behind_first (left def f))
        (subst (λ xs. AllByRecursion (FixedToken def) (words_in xs)) front_at.whole (known.operators a.n a.o a.found))

  -- one more leaf
  leaf : (f g : Fragment) (i : Item) (more : List Item) (kind : Kind) (a : PartBack def f (i ∷ more) kind) (w : List ℕ)
      (t : Token)
      → operator_of def g ≡ operator_of def f → left def g ≡ from_part (behind_first (left def f))
      → row def g ≡ row def f ++ token w ∷ words_behind def f → depth_of g ≡ depth_of f
      → (words_in (i ∷ behind_first (left def f)) ≡ words_in (behind_first (left def f)))
      → IsTextOf (fixed_words def) w t
      → Front def a.n a.o g false (behind_first (left def f)) a.nesting (a.tokens ++ t ∷ []) → PartBack def g more kind
  leaf f g i more kind a w t top at is deep same x b =
      added g more kind a.n a.o a.found (top ∙ a.top) a.of_phylum (behind_first (left def f)) at
      (next_left f i more kind a).behind
      (subst (AllByRecursion (FixedToken def)) same (words_next f i more kind a))
      (row def f ++ token w ∷ []) (is ∙ sym (append_assoc (row def f) (token w ∷ []) (words_behind def f)))
      (a.tokens ++ t ∷ []) (tokens-append (fixed_words def) (row def f) (token w ∷ []) a.tokens (t ∷ [])
      a.has (a_token x no_pieces))
      false a.nesting (omega (arith, a.shallow, deep)) b

  pub part_refers : (f : Fragment) (s : ℕ) (x : List ℕ) (more : List Item) (kind : Kind)
      → PartBack def f (items.Refers s ∷ more) kind → IsName def x → length x ≤ 255
      → PartBack def (with_name f x) more kind
  part_refers f s x more kind a (cs, e, is, free) short =
      leaf f (with_name f x) (items.Refers s) more kind a x (word x)
      refl refl refl refl refl (name_text (fixed_words def) x cs e is short)
      (past_refers def a.n a.o x (name_terminal def x cs e is free) (front_at f (items.Refers s) more kind a))

  pub part_declares : (f : Fragment) (s : ℕ) (x : List ℕ) (more : List Item) (kind : Kind)
      → PartBack def f (items.Declares s ∷ more) kind → IsName def x → length x ≤ 255
      → PartBack def (with_name f x) more kind
  part_declares f s x more kind a (cs, e, is, free) short =
      leaf f (with_name f x) (items.Declares s) more kind a x (word x)
      refl refl refl refl refl (name_text (fixed_words def) x cs e is short)
      (past_declares def a.n a.o x (name_terminal def x cs e is free) (front_at f (items.Declares s) more kind a))

  pub part_number : (f : Fragment) (x : ℕ) (more : List Item) (kind : Kind) → PartBack def f (items.Number ∷ more) kind
      → x < 2 ^ 128 → PartBack def (with_number f x) more kind
  part_number f x more kind a small =
      leaf f (with_number f x) items.Number more kind a (decimal x) (numeral x)
      refl refl refl refl refl (number_text (fixed_words def) x small)
      (past_number def a.n a.o x (front_at f items.Number more kind a))

  pub part_text : (f : Fragment) (x : List ℕ) (more : List Item) (kind : Kind) → PartBack def f (items.Text ∷ more) kind
      → IsUtf8 x → length x ≤ 4096 → AllByRecursion IsShown (chars x)
      → PartBack def (with_text f x) more kind
  part_text f x more kind a utf8 short shown =
      leaf f (with_text f x) items.Text more kind a (quoted_bytes x) (quoted x)
      refl refl refl refl refl (quote_text (fixed_words def) x utf8 short shown)
      (past_text def a.n a.o x (front_at f items.Text more kind a))
