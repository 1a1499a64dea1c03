-- An operator with one more child, in brackets where its level is below the slot's.
use Rattle.std.proofs.Common.{◌≡◌, inl, inr, ℕ, suc, ◌+◌, ◌-◌, ◌<◌, ◌≤◌, max, Bool, true, false, List, [], ◌∷◌, ◌++◌, length, length-append, Option, Some, None, slice_get, refl, ap, sym, ◌∙◌, subst, append_assoc, append-nil, arith, ltb-true, le-ltb}
use Rattle.std.proofs.lemmas.Bool.{cases_Bool, false≢true}
use Rattle.psg_grammar.specs.declared.types.Kind.{Kind}
use Rattle.psg_grammar.specs.declared.types.Kind.TheVariants as kinds
use Rattle.psg_grammar.specs.declared.types.Item.{Item}
use Rattle.psg_grammar.specs.declared.types.Item.TheVariants as items
use Rattle.psg_grammar.specs.declared.types.Operator.{Operator}
use Rattle.psg_grammar.specs.declared.types.Phylum.{Phylum}
use Rattle.psg_grammar.specs.declared.types.Definition.{Definition}
use Rattle.psg_grammar.specs.Fragments.{Fragment, with_child}
use Rattle.psg_grammar.specs.Levels.{level_number, least_level_of}
use Rattle.psg_grammar.specs.Sizes.{depth_of}
use Rattle.psg_grammar.specs.Sound.{IsSound}
use Rattle.psg_grammar.specs.WellFormed.{fixed_words}
use Rattle.psg_grammar.proofs.SoundParts.{operator_sound}
use Rattle.psg_class.specs.Terminals.{Token, solo}
use Rattle.psg_class.specs.Places.{solid, is_empty, slot_level}
use Rattle.psg_class.specs.Yields.{TreeYields, in_brackets}
use Rattle.psg_class.proofs.ClassFacts.{ClassFacts}
use Rattle.psg_unparse.specs.Rows.{Piece, row, left, wanted, wanted_of, operator_of, is_below_level, opening, closing, behind_first, words_behind}
use Rattle.psg_unparse.proofs.Lexing.{RowTokens, no_pieces, a_mark, a_token}
use Rattle.psg_unparse.proofs.WordTokens.{open_text, close_text}
use Rattle.psg_unparse.proofs.FixedTokens.{HasTokens}
use Rattle.psg_class.proofs.LeastLevels.{none_solid, level_there}
use Rattle.psg_unparse.proofs.Building.{past_slot, past_list}
use Rattle.psg_unparse.proofs.Passing.{tokens-append}
use Rattle.psg_unparse.proofs.Claims.{TreeBack, ListBack, WholeBack, PartBack, list_top}
use Rattle.psg_unparse.proofs.PartSteps.{added, next_left, front_at, words_next}

pub below_zero : (x : Option Operator) → is_below_level x 0 ≡ false
below_zero None = refl
below_zero (Some o) = le-ltb (level_number o.level) 0 (zero_least (level_number o.level)) where
  zero_least : (n : ℕ) → 0 ≤ n
  zero_least n = omega arith

solid_both : (xs ys : List Item) → solid (xs ++ ys) ≡ solid xs ++ solid ys
solid_both [] ys = refl
solid_both (items.Word w ∷ xs) ys = ap (λ zs. items.Word w ∷ zs) (solid_both xs ys)
solid_both (items.Slot k ∷ xs) ys = ap (λ zs. items.Slot k ∷ zs) (solid_both xs ys)
solid_both (items.Refers s ∷ xs) ys = ap (λ zs. items.Refers s ∷ zs) (solid_both xs ys)
solid_both (items.Declares s ∷ xs) ys = ap (λ zs. items.Declares s ∷ zs) (solid_both xs ys)
solid_both (items.Number ∷ xs) ys = ap (λ zs. items.Number ∷ zs) (solid_both xs ys)
solid_both (items.Text ∷ xs) ys = ap (λ zs. items.Text ∷ zs) (solid_both xs ys)
solid_both (items.Space ∷ xs) ys = solid_both xs ys
solid_both (items.Tight ∷ xs) ys = solid_both xs ys
solid_both (items.Line ∷ xs) ys = solid_both xs ys
solid_both (items.In ∷ xs) ys = solid_both xs ys
solid_both (items.Out ∷ xs) ys = solid_both xs ys

-- the phylum has brackets
pub record HasBrackets (def : Definition) (p : ℕ) : Type 0 where
  pub phylum : Phylum
  pub found : slice_get def.phyla p ≡ Some phylum
  pub bracketed : phylum.bracketed ≡ true

module _ (def : Definition) (sound : IsSound def) (c : ClassFacts def) where
  -- a level below that of a slot is of a phylum with brackets
  below_slot : (n : ℕ) (o : Operator) → slice_get def.operators n ≡ Some o
      → (front : List Item) (p : ℕ) (behind : List Item) → o.items ≡ front ++ items.Slot (kinds.Phylum p) ∷ behind
      → (m : ℕ) (other : Operator) → slice_get def.operators m ≡ Some other → other.phylum ≡ p
      → level_number other.level < least_level_of o (length front) → HasBrackets def p
  below_slot n o found front p behind whole m other there of_p low =
      let (k, at, sort) = (operator_sound def sound m other there).phylum_sort in
      let here : slice_get def.phyla p ≡ Some k = subst (λ x. slice_get def.phyla x ≡ Some k) of_p at in
      elim (cases_Bool k.bracketed) [
        | inl b ↦ record { phylum = k; found = here; bracketed = b }
        | inr b ↦ absurd (
            let least : slot_level o (kinds.Phylum p) (is_empty (solid front)) (solid behind) ≤ level_number
            other.level =
            c.brackets p k here b n o found (solid front) (solid behind)
            (ap solid whole ∙ solid_both front (items.Slot (kinds.Phylum p) ∷ behind)) m other there of_p in
            let same : least_level_of o (length front)
            ≡ slot_level o (kinds.Phylum p) (is_empty (solid front)) (solid behind) =
            level_there o front (kinds.Phylum p) behind whole
            ∙ ap (λ x. slot_level o (kinds.Phylum p) x (solid behind)) (sym (none_solid front)) in
            omega (arith, low, least, same))
      ]

  by_operator : (n : ℕ) (o : Operator) → slice_get def.operators n ≡ Some o
      → (front : List Item) (p : ℕ) (behind : List Item) → o.items ≡ front ++ items.Slot (kinds.Phylum p) ∷ behind
      → (t : Fragment) → TreeBack def t p → (x : Option Operator) → operator_of def t ≡ x
      → is_below_level x (least_level_of o (length front)) ≡ true → HasBrackets def p
  by_operator n o found front p behind whole t b None e h = absurd (false≢true h)
  by_operator n o found front p behind whole t b (Some other) e h =
      let (m, there, of_p) = b.top other e in
      below_slot n o found front p behind whole m other there of_p
      (ltb-true (level_number other.level) (least_level_of o (length front)) h)

  -- the child with its brackets, if there are any
  pub record SlotBack (t : Fragment) (p least : ℕ) (brackets : Bool) : Type 0 where
    pub tokens : List Token
    pub nesting : ℕ
    pub has : RowTokens (fixed_words def) (opening brackets ++ (row def t ++ closing brackets)) tokens
    pub shallow : nesting < depth_of t + 1
    pub yields : TreeYields def t p least nesting tokens

  in_slot : (t : Fragment) (p least : ℕ) → TreeBack def t p → (brackets : Bool)
      → is_below_level (operator_of def t) least ≡ brackets → (brackets ≡ true → HasBrackets def p)
      → SlotBack t p least brackets
  in_slot t p least b false e h = record {
    tokens = b.tokens;
    nesting = b.nesting;
    has = subst (λ r. RowTokens (fixed_words def) r b.tokens) (sym (append-nil (row def t))) b.has;
    shallow = omega (arith, b.shallow);
    yields = b.yields least e;
  }
  in_slot t p least b true e h =
      let k : HasBrackets def p = h refl in
      record {
        tokens = solo 40 ∷ (b.tokens ++ solo 41 ∷ []);
        nesting = suc b.nesting;
        has = a_token (open_text (fixed_words def))
            (a_mark (tokens-append (fixed_words def) (row def t) (closing true) b.tokens (solo 41 ∷ [])
            b.has (a_mark (a_token (close_text (fixed_words def)) no_pieces))));
        shallow = omega (arith, b.shallow);
        yields = in_brackets k.phylum (solo 40) (solo 41) k.found k.bracketed
            refl refl (b.yields 0 (below_zero (operator_of def t)));
      }

  child_row : (f o t c w : List Piece) → f ++ (o ++ (t ++ (c ++ w))) ≡ (f ++ (o ++ (t ++ c))) ++ w
  child_row f o t c w =
      ap (λ x. f ++ x) (ap (λ x. o ++ x) (sym (append_assoc t c w)) ∙ sym (append_assoc o (t ++ c) w))
      ∙ sym (append_assoc f (o ++ (t ++ c)) w)

  module _ (known : HasTokens def) (f t : Fragment) (more : List Item) (kind : Kind) where
    least_there : (p : ℕ) (a : PartBack def f (items.Slot (kinds.Phylum p) ∷ more) kind)
        → wanted def f ≡ least_level_of a.o
        (length (front_at def known f (items.Slot (kinds.Phylum p)) more kind a).front)
    least_there p a =
        let i : Item = items.Slot (kinds.Phylum p) in
        let q = front_at def known f i more kind a in
        let size : length (left def f) ≡ length (i ∷ behind_first (left def f)) =
        ap length (next_left def known f i more kind a).is in
        let all : length a.o.items ≡ length q.front + length (i ∷ behind_first (left def f)) = ap length q.whole
        ∙ length-append q.front (i ∷ behind_first (left def f)) in
        ap (λ x. wanted_of x (left def f)) a.top
        ∙ ap (least_level_of a.o)
        (place (length a.o.items) (length (left def f)) (length (i ∷ behind_first (left def f))) (length q.front)
        size all)
      where
        place : (whole rest same front : ℕ) → rest ≡ same → whole ≡ front + same → whole - rest ≡ front
        place whole rest same front e h = omega arith

    -- a tree that stands in brackets is of a phylum with brackets
    pub brackets_there : (p : ℕ) (a : PartBack def f (items.Slot (kinds.Phylum p) ∷ more) kind) → TreeBack def t p
        → is_below_level (operator_of def t) (wanted def f) ≡ true → HasBrackets def p
    brackets_there p a b h =
        let q = front_at def known f (items.Slot (kinds.Phylum p)) more kind a in
        by_operator a.n a.o a.found q.front p (behind_first (left def f)) q.whole t b (operator_of def t) refl
        (subst (λ l. is_below_level (operator_of def t) l ≡ true) (least_there p a) h)

    slot_there : (p : ℕ) (a : PartBack def f (items.Slot (kinds.Phylum p) ∷ more) kind) → TreeBack def t p
        → SlotBack t p (wanted def f) (is_below_level (operator_of def t) (wanted def f))
    slot_there p a b =
        in_slot t p (wanted def f) b (is_below_level (operator_of def t) (wanted def f)) refl (brackets_there p a b)

    pub part_tree : (p : ℕ) → PartBack def f (items.Slot (kinds.Phylum p) ∷ more) kind → TreeBack def t p
        → PartBack def (with_child f t) more kind
    part_tree p a b =
        let i : Item = items.Slot (kinds.Phylum p) in
        let brackets : Bool = is_below_level (operator_of def t) (wanted def f) in
        let s : SlotBack t p (wanted def f) brackets = slot_there p a b in
        added def known (with_child f t) more kind a.n a.o a.found a.top a.of_phylum (behind_first (left def f))
        refl (next_left def known f i more kind a).behind (words_next def known f i more kind a)
        (row def f ++ (opening brackets ++ (row def t ++ closing brackets)))
        (child_row (row def f) (opening brackets) (row def t) (closing brackets) (words_behind def f))
        (a.tokens ++ s.tokens) (tokens-append (fixed_words def) (row def f)
        (opening brackets ++ (row def t ++ closing brackets)) a.tokens s.tokens a.has s.has)
        false (max a.nesting s.nesting) (omega (arith, a.shallow, s.shallow))
        (past_slot def a.n a.o t s.nesting s.tokens (front_at def known f i more kind a)
        (subst (λ l. TreeYields def t p l s.nesting s.tokens) (least_there p a) s.yields))

    -- a list is never in brackets
    list_row : (l : ℕ) → ListBack def t l
        → row def f ++ (opening (is_below_level (operator_of def t) (wanted def f))
        ++ (row def t ++ (closing (is_below_level (operator_of def t) (wanted def f)) ++ words_behind def f)))
        ≡ (row def f ++ row def t) ++ words_behind def f
    list_row l b =
        ap (λ x. row def f ++ (opening (is_below_level x (wanted def f))
        ++ (row def t ++ (closing (is_below_level x (wanted def f)) ++ words_behind def f))))
        (list_top def l t b.shape)
        ∙ sym (append_assoc (row def f) (row def t) (words_behind def f))

    pub part_list : (l : ℕ) → PartBack def f (items.Slot (kinds.List l) ∷ more) kind → ListBack def t l
        → PartBack def (with_child f t) more kind
    part_list l a b =
        let i : Item = items.Slot (kinds.List l) in
        added def known (with_child f t) more kind a.n a.o a.found a.top a.of_phylum (behind_first (left def f))
        refl (next_left def known f i more kind a).behind (words_next def known f i more kind a)
        (row def f ++ row def t) (list_row l b)
        (a.tokens ++ b.tokens) (tokens-append (fixed_words def) (row def f) (row def t) a.tokens b.tokens a.has b.has)
        false (max a.nesting b.nesting) (omega (arith, a.shallow, b.shallow))
        (past_list def a.n a.o t b.nesting b.tokens (front_at def known f i more kind a) b.yields)

    pub part_child : (k : Kind) → PartBack def f (items.Slot k ∷ more) kind → WholeBack def t k
        → PartBack def (with_child f t) more kind
    part_child (kinds.Phylum p) a b = part_tree p a b
    part_child (kinds.List l) a b = part_list l a b
