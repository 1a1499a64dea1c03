-- Placeholders, ends of lists, and lists with one more element in front.
use Rattle.std.proofs.Common.{◌≡◌, ℕ, ◌<◌, max, Bool, true, false, List, [], ◌∷◌, ◌++◌, length, Some, slice_get, refl, ap, sym, ◌∙◌, subst, append-nil, arith}
use Rattle.std.specs.Prelude.{codes}
use Rattle.std.proofs.lemmas.Option.{none-some}
use Rattle.psg_terms.proofs.Lists.{each_at, slice_get_some}
use Rattle.psg_grammar.specs.declared.types.Kind.{Kind}
use Rattle.psg_grammar.specs.declared.types.Kind.TheVariants as kinds
use Rattle.psg_grammar.specs.declared.types.ListKind.{ListKind}
use Rattle.psg_grammar.specs.declared.types.Definition.{Definition}
use Rattle.psg_grammar.specs.Declaring.{is_declaring, HasHoles}
use Rattle.psg_grammar.specs.Fragments.{Fragment, hole, ending, cell, operator, with_child, with_name, with_number, with_text, anything, observed}
use Rattle.psg_grammar.specs.Sizes.{depth_of}
use Rattle.psg_grammar.specs.Sound.{IsSound, IsPhylum}
use Rattle.psg_grammar.specs.WellFormed.{fixed_words, IsListEnd}
use Rattle.psg_tree.specs.AbstractText.{name_of_phylum}
use Rattle.psg_class.specs.Terminals.{Token, placeholder, dots}
use Rattle.psg_class.specs.Yields.{TreeYields, of_hole, no_elements, only_more, elements, SomeYield, last_element, and_more, and_elements}
use Rattle.psg_unparse.specs.Rows.{Piece, token, row, operator_of, separating}
use Rattle.psg_unparse.proofs.Lexing.{RowTokens, no_pieces, a_mark, a_token}
use Rattle.psg_unparse.proofs.WordTokens.{FixedToken, dots_text}
use Rattle.psg_unparse.proofs.HoleTokens.{kind_hole}
use Rattle.psg_unparse.proofs.FixedTokens.{HasTokens}
use Rattle.psg_unparse.proofs.Passing.{tokens-append}
use Rattle.psg_unparse.proofs.Claims.{TreeBack, ListBack, WholeBack}
use Rattle.psg_unparse.proofs.SlotSteps.{below_zero}

same_kind : (l m : ℕ) → kinds.List l ≡ kinds.List m → m ≡ l
same_kind l m e = cc

module _ (def : Definition) where
  -- ---- a placeholder

  hole_tree : (sound : IsSound def) (p : ℕ) → p < length def.phyla → HasHoles def (kinds.Phylum p) → TreeBack def (hole p) p
  hole_tree sound p h closed =
      let (phylum, found) = slice_get_some def.phyla p h in
      let is : IsPhylum def phylum = each_at (IsPhylum def) def.phyla sound.phyla p phylum found in
      record {
        tokens = placeholder phylum.name ∷ [];
        nesting = 0;
        has = subst (λ x. RowTokens (fixed_words def) (token (63 ∷ name_of_phylum x) ∷ [])
            (placeholder phylum.name ∷ [])) (sym found)
            (a_token (kind_hole (fixed_words def) phylum.name is.name) no_pieces);
        shallow = omega arith;
        yields = λ m e. of_hole phylum found closed;
        top = λ o e. absurd (none-some o e);
      }

  pub hole_whole : (sound : IsSound def) (p : ℕ) (kind : Kind) → kind ≡ kinds.Phylum p → p < length def.phyla
      → ((s : ℕ) → is_declaring def s kind ≡ false) → WholeBack def (hole p) kind
  hole_whole sound p kind e h closed =
      subst (WholeBack def (hole p)) (sym e)
      (hole_tree sound p h (λ s. subst (λ k. is_declaring def s k ≡ false) e (closed s)))

  -- ---- the end of a list

  same_list : (l : ℕ) (k other : ListKind) → slice_get def.lists l ≡ Some k → slice_get def.lists l ≡ Some other
      → k ≡ other
  same_list l k other e f = let both : Some k ≡ Some other = sym e ∙ f in cc

  allowed : (l : ℕ) (u : Bool) → IsListEnd def l u → (k : ListKind) → slice_get def.lists l ≡ Some k → u ≡ true
      → k.unfinished ≡ true
  allowed l u (k, found, h) other there e = ap (λ (x : ListKind). x.unfinished) (same_list l other k there found) ∙ h e

  end_list : (l : ℕ) (u : Bool) → IsListEnd def l u → ListBack def (ending l u) l
  end_list l false (k, found, h) = record {
    tokens = [];
    nesting = 0;
    has = no_pieces;
    shallow = omega arith;
    yields = no_elements k found;
    some = λ none. absurd none;
    shape = (refl, allowed l false (k, found, h));
  }
  end_list l true (k, found, h) = record {
    tokens = dots ∷ [];
    nesting = 0;
    has = a_token (dots_text (fixed_words def)) no_pieces;
    shallow = omega arith;
    yields = only_more k found (h refl);
    some = λ none. absurd none;
    shape = (refl, allowed l true (k, found, h));
  }

  pub end_whole : (l : ℕ) (u : Bool) (kind : Kind) → kind ≡ kinds.List l → IsListEnd def l u
      → WholeBack def (ending l u) kind
  end_whole l u kind e h = subst (WholeBack def (ending l u)) (sym e) (end_list l u h)

  -- ---- one more element

  module _ (known : HasTokens def) (l : ℕ) (k : ListKind) (found : slice_get def.lists l ≡ Some k) (e : Fragment) (a : TreeBack def e k.element) where
    level_zero : TreeYields def e k.element 0 a.nesting a.tokens
    level_zero = a.yields 0 (below_zero (operator_of def e))

    separator : FixedToken def k.separator
    separator = known.lists l k found

    -- the element, the separator and the rest of the list
    element_row : (r : List Piece) (ts : List Token) → RowTokens (fixed_words def) r ts
        → RowTokens (fixed_words def) (row def e ++ (separating (slice_get def.lists l) ++ r))
        (a.tokens ++ separator.token ∷ ts)
    element_row r ts h =
        tokens-append (fixed_words def) (row def e) (separating (slice_get def.lists l) ++ r) a.tokens
        (separator.token ∷ ts) a.has
        (subst (λ x. RowTokens (fixed_words def) (separating x ++ r) (separator.token ∷ ts)) (sym found)
        (a_mark (a_token separator.text (a_mark h))))

    made : (r : Fragment) (d : ℕ) (ts : List Token) → RowTokens (fixed_words def) (row def (cell l e r)) ts
        → d < depth_of (cell l e r) → SomeYield def (cell l e r) l d ts → ListBack def (cell l e r) l
    made r d ts has shallow y =
        record {
          tokens = ts;
          nesting = d;
          has = has;
          shallow = shallow;
          yields = elements y;
          some = λ is. y;
          shape = refl;
        }

    last : (m : ℕ) → m ≡ l → ListBack def (cell l e (ending m false)) l
    last m same = made (ending m false) a.nesting a.tokens
        (subst (λ x. RowTokens (fixed_words def) x a.tokens) (sym (append-nil (row def e))) a.has)
        (omega (arith, a.shallow))
        (subst (λ x. SomeYield def (cell l e (ending x false)) l a.nesting a.tokens) (sym same)
        (last_element k found level_zero))

    unfinished : (m : ℕ) → m ≡ l → k.unfinished ≡ true → ListBack def (cell l e (ending m true)) l
    unfinished m same allows = made (ending m true) a.nesting (a.tokens ++ separator.token ∷ dots ∷ [])
        (element_row (token (codes "...") ∷ []) (dots ∷ []) (a_token (dots_text (fixed_words def)) no_pieces))
        (omega (arith, a.shallow))
        (subst (λ x. SomeYield def (cell l e (ending x true)) l a.nesting (a.tokens ++ separator.token ∷ dots ∷ []))
        (sym same)
        (and_more a.tokens k separator.token found allows separator.terminal level_zero))

    longer : (m : ℕ) (d r : Fragment) → ListBack def (cell m d r) l → ListBack def (cell l e (cell m d r)) l
    longer m d r b = made (cell m d r) (max a.nesting b.nesting) (a.tokens ++ separator.token ∷ b.tokens)
        (element_row (row def (cell m d r)) b.tokens b.has)
        (omega (arith, a.shallow, b.shallow))
        (and_elements k a.nesting b.nesting a.tokens b.tokens separator.token found separator.terminal level_zero
        (b.some tt))

    one_more : (r : Fragment) → ListBack def r l → ListBack def (cell l e r) l
    one_more (ending m false) b = last m b.shape.0
    one_more (ending m true) b = unfinished m b.shape.0 (b.shape.1 k found refl)
    one_more (cell m d r) b = longer m d r b
    one_more (hole p) b = absurd b.shape
    one_more (operator o) b = absurd b.shape
    one_more (with_child f t) b = absurd b.shape
    one_more (with_name f n) b = absurd b.shape
    one_more (with_number f n) b = absurd b.shape
    one_more (with_text f t) b = absurd b.shape
    one_more anything b = absurd b.shape
    one_more (observed f) b = absurd b.shape

    pub cell_whole : (r : Fragment) (kind : Kind) → kind ≡ kinds.List l → ListBack def r l
        → WholeBack def (cell l e r) kind
    cell_whole r kind same b = subst (WholeBack def (cell l e r)) (sym same) (one_more r b)
