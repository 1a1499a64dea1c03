-- An operator with another child or part in place of one of its own.
use Rattle.std.proofs.Common.{◌≡◌, ℕ, suc, ◌+◌, ◌-◌, ◌<◌, ◌≤◌, max, Bool, true, false, cond, List, [], ◌∷◌, ◌++◌, length, length-append, Option, Some, slice_get, refl, ap, sym, ◌∙◌, subst, append-nil, arith, ltb-false}
use Rattle.std.proofs.lemmas.Bool.{false≢true}
use Rattle.std.specs.List.{AllByRecursion}
use Rattle.psg_grammar.specs.declared.types.Kind.{Kind}
use Rattle.psg_grammar.specs.declared.types.Kind.TheVariants as kinds
use Rattle.psg_grammar.specs.declared.types.Item.{Item}
use Rattle.psg_grammar.specs.declared.types.Item.TheVariants as items
use Rattle.psg_grammar.specs.declared.types.Operator.{Operator}
use Rattle.psg_grammar.specs.declared.types.Definition.{Definition}
use Rattle.psg_grammar.specs.Fragments.{Fragment, operator, with_child}
use Rattle.psg_grammar.specs.Levels.{level_number, least_level_of}
use Rattle.psg_grammar.specs.Lookups.{part_items}
use Rattle.psg_grammar.specs.Sizes.{depth_of}
use Rattle.psg_grammar.specs.Sound.{IsSound}
use Rattle.psg_grammar.specs.WellFormed.{words_in, fixed_words}
use Rattle.psg_class.specs.Terminals.{Token, solo}
use Rattle.psg_class.specs.Places.{solid}
use Rattle.psg_class.specs.Yields.{Yields, TreeYields, of_operator, in_brackets, PartsYield, no_items}
use Rattle.psg_class.proofs.ClassFacts.{ClassFacts}
use Rattle.psg_unparse.specs.Rows.{row, words, left, wanted, wanted_of, operator_of, is_below_level, is_bracketed, opening, closing, from_part, behind_first}
use Rattle.psg_unparse.proofs.Lexing.{RowTokens, no_pieces, a_mark, a_token}
use Rattle.psg_unparse.proofs.WordTokens.{FixedToken, open_text, close_text}
use Rattle.psg_unparse.proofs.FixedTokens.{HasTokens}
use Rattle.psg_unparse.proofs.Building.{Front, past_slot, past_list}
use Rattle.psg_unparse.proofs.Passing.{none_left, Passed, pass}
use Rattle.psg_unparse.proofs.Claims.{WholeBack, PartBack, list_top}
use Rattle.psg_unparse.proofs.PartSteps.{next_left, words_next}
use Rattle.psg_unparse.proofs.SlotSteps.{HasBrackets, brackets_there}
use Rattle.psg_textedit.proofs.RowsOnce.{once}

module _ (def : Definition) where
  -- what the words of the items are read as
  pub record WordTokens (xs : List Item) : Type 0 where
    pub tokens : List Token
    pub has : RowTokens (fixed_words def) (words xs) tokens

  no_words : (xs : List Item) → words xs ≡ [] → WordTokens xs
  no_words xs e = record { tokens = []; has = subst (λ r. RowTokens (fixed_words def) r []) (sym e) no_pieces }

  pub word_tokens : (xs : List Item) → AllByRecursion (FixedToken def) (words_in xs) → WordTokens xs
  word_tokens [] h = no_words [] refl
  word_tokens (items.Word w ∷ xs) h =
      let b = word_tokens xs h.1 in record { tokens = h.0.token ∷ b.tokens; has = a_token h.0.text b.has }
  word_tokens (items.Slot k ∷ xs) h = no_words (items.Slot k ∷ xs) refl
  word_tokens (items.Refers s ∷ xs) h = no_words (items.Refers s ∷ xs) refl
  word_tokens (items.Declares s ∷ xs) h = no_words (items.Declares s ∷ xs) refl
  word_tokens (items.Number ∷ xs) h = no_words (items.Number ∷ xs) refl
  word_tokens (items.Text ∷ xs) h = no_words (items.Text ∷ xs) refl
  word_tokens (items.Space ∷ xs) h = let b = word_tokens xs h in record { tokens = b.tokens; has = a_mark b.has }
  word_tokens (items.Tight ∷ xs) h = let b = word_tokens xs h in record { tokens = b.tokens; has = a_mark b.has }
  word_tokens (items.Line ∷ xs) h = let b = word_tokens xs h in record { tokens = b.tokens; has = a_mark b.has }
  word_tokens (items.In ∷ xs) h = let b = word_tokens xs h in record { tokens = b.tokens; has = a_mark b.has }
  word_tokens (items.Out ∷ xs) h = let b = word_tokens xs h in record { tokens = b.tokens; has = a_mark b.has }

  -- The tree g is in place of f, an operator with its first parts: the items up to the next part are read.
  pub record FrontAt (f : Fragment) (kind : Kind) (g : Fragment) (d : ℕ) (us : List Token) : Type 0 where
    pub n : ℕ
    pub o : Operator
    pub found : slice_get def.operators n ≡ Some o
    pub top : operator_of def f ≡ Some o
    pub of_phylum : kind ≡ kinds.Phylum o.phylum
    pub first : Bool
    pub front : Front def n o g first (left def f) d us

  reaches : (x : Option Operator) (o : Operator) (m : ℕ) → x ≡ Some o → is_below_level x m ≡ false → m ≤ level_number o.level
  reaches x o m e h = ltb-false (level_number o.level) m (subst (λ y. is_below_level y m ≡ false) e h)

  -- what is in place of a whole operator's tree is such a tree
  pub whole_front : (f : Fragment) (kind : Kind) (level : ℕ) → left def f ≡ []
      → is_below_level (operator_of def f) level ≡ false
      → (g : Fragment) (d : ℕ) (us : List Token) → FrontAt f kind g d us → Yields def g kind level d us
  whole_front f kind level none low g d us a =
      let q : Front def a.n a.o g a.first [] d us = subst (λ zs. Front def a.n a.o g a.first zs d us) none a.front in
      let parts : PartsYield def a.o true (operator a.n) 0 (solid a.o.items) g d us =
      subst (PartsYield def a.o true (operator a.n) 0 (solid a.o.items) g d) (append-nil us) (q.goes g d [] no_items) in
      subst (λ k. Yields def g k level d us) (sym a.of_phylum)
      (of_operator a.n a.o a.found refl (reaches (operator_of def f) a.o level a.top low) parts)

  pub no_more : (f : Fragment) (kind : Kind) → PartBack def f [] kind → left def f ≡ []
  no_more f kind a = a.at_part ∙ none_left a.behind (a.parts ∙ ap part_items a.at_part)

  -- the words after a part
  pub record Reached (n : ℕ) (o : Operator) (g : Fragment) (rest : List Item) (d : ℕ) (ts : List Token) : Type 0 where
    pub first : Bool
    pub front : Front def n o g first rest d ts

  pub past_words : (n : ℕ) (o : Operator) (g : Fragment) (first : Bool) (xs : List Item) (d : ℕ) (ts : List Token)
      → AllByRecursion (FixedToken def) (words_in xs) → (w : WordTokens xs) → Front def n o g first xs d ts
      → Reached n o g (from_part xs) d (ts ++ w.tokens)
  past_words n o g first xs d ts h w a =
      let b : Passed def n o g d xs ts = pass def n o g d first xs ts h a in
      let same : b.tokens ≡ w.tokens = once (fixed_words def) (words xs) b.tokens w.tokens b.has w.has in
      record {
        first = b.first;
        front = subst (λ us. Front def n o g b.first (from_part xs) d (ts ++ us)) same b.there;
      }

-- ---- brackets

abbrev pub opens : Bool → List Token
opens b = cond b (solo 40 ∷ []) []

abbrev pub closes : Bool → List Token
closes b = cond b (solo 41 ∷ []) []

pub has_opening : (def : Definition) (b : Bool) → RowTokens (fixed_words def) (opening b) (opens b)
has_opening def true = a_token (open_text (fixed_words def)) (a_mark no_pieces)
has_opening def false = no_pieces

pub has_closing : (def : Definition) (b : Bool) → RowTokens (fixed_words def) (closing b) (closes b)
has_closing def true = a_mark (a_token (close_text (fixed_words def)) no_pieces)
has_closing def false = no_pieces

module _ (def : Definition) (sound : IsSound def) (c : ClassFacts def) (known : HasTokens def) where
  module _ (f t : Fragment) (more : List Item) (kind k : Kind) (a : PartBack def f (items.Slot k ∷ more) kind) (b : WholeBack def t k) where
    pub words_at : WordTokens def (behind_first (left def f))
    words_at = word_tokens def (behind_first (left def f)) (words_next def known f (items.Slot k) more kind a)

    -- the slot's level is that of the item after those that were read
    least_at : (p n : ℕ) (o : Operator) (g : Fragment) (first : Bool) (d : ℕ) (us : List Token) → operator_of def f ≡ Some o
        → (q : Front def n o g first (items.Slot (kinds.Phylum p) ∷ behind_first (left def f)) d us)
        → left def f ≡ items.Slot (kinds.Phylum p) ∷ behind_first (left def f)
        → wanted def f ≡ least_level_of o (length q.front)
    least_at p n o g first d us top q is =
        let i : Item = items.Slot (kinds.Phylum p) in
        let size : length (left def f) ≡ length (i ∷ behind_first (left def f)) = ap length is in
        let all : length o.items ≡ length q.front + length (i ∷ behind_first (left def f)) = ap length q.whole
        ∙ length-append q.front (i ∷ behind_first (left def f)) in
        ap (λ x. wanted_of x (left def f)) top
        ∙ ap (least_level_of o)
        (place (length o.items) (length (left def f)) (length (i ∷ behind_first (left def f))) (length q.front) size all)
      where
        place : (whole rest same front : ℕ) → rest ≡ same → whole ≡ front + same → whole - rest ≡ front
        place whole rest same front e h = omega arith

    -- a tree in the slot
    past_any : (j : Kind) (g u : Fragment) (d m : ℕ) (us own : List Token) (n : ℕ) (o : Operator) (first : Bool)
        → operator_of def f ≡ Some o → left def f ≡ items.Slot j ∷ behind_first (left def f)
        → Front def n o g first (items.Slot j ∷ behind_first (left def f)) d us
        → Yields def u j (wanted def f) m own
        → Front def n o (with_child g u) false (behind_first (left def f)) (max d m) (us ++ own)
    past_any (kinds.Phylum p) g u d m us own n o first top is q y =
        past_slot def n o u m own q (subst (λ l. TreeYields def u p l m own) (least_at p n o g first d us top q is) y)
    past_any (kinds.List l) g u d m us own n o first top is q y = past_list def n o u m own q y

    pub past_child : (g u : Fragment) (d m : ℕ) (us own : List Token) → FrontAt def f kind g d us
        → Yields def u k (wanted def f) m own
        → FrontAt def (with_child f t) kind (with_child g u) (max d m) ((us ++ own) ++ words_at.tokens)
    past_child g u d m us own x y =
        let is : left def f ≡ items.Slot k ∷ behind_first (left def f) =
        (next_left def known f (items.Slot k) more kind a).is in
        let q : Front def x.n x.o g x.first (items.Slot k ∷ behind_first (left def f)) d us =
        subst (λ zs. Front def x.n x.o g x.first zs d us) is x.front in
        let there : Front def x.n x.o (with_child g u) false (behind_first (left def f)) (max d m) (us ++ own) =
        past_any k g u d m us own x.n x.o x.first x.top is q y in
        let r = past_words def x.n x.o (with_child g u) false (behind_first (left def f)) (max d m) (us ++ own)
        (words_next def known f (items.Slot k) more kind a) words_at there in
        record { n = x.n; o = x.o; found = x.found; top = x.top; of_phylum = x.of_phylum; first = r.first; front = r.front }

    -- a tree in the place of t, in brackets where t is
    in_place : (j : Kind) (w : Bool) → is_below_level (operator_of def t) (wanted def f) ≡ w
        → PartBack def f (items.Slot j ∷ more) kind → WholeBack def t j
        → (u : Fragment) (m : ℕ) (us : List Token) → Yields def u j (cond w 0 (wanted def f)) m us
        → Yields def u j (wanted def f) (cond w 1 0 + m) (opens w ++ (us ++ closes w))
    in_place j false e a' b' u m us y =
        let same : m ≡ 0 + m = omega arith in
        subst (λ d. Yields def u j (wanted def f) d (us ++ [])) same
        (subst (Yields def u j (wanted def f) m) (sym (append-nil us)) y)
    in_place (kinds.Phylum p) true e a' b' u m us y =
        let h : HasBrackets def p = brackets_there def sound c known f t more kind p a' b' e in
        let same : suc m ≡ 1 + m = omega arith in
        subst (λ d. Yields def u (kinds.Phylum p) (wanted def f) d (solo 40 ∷ (us ++ solo 41 ∷ []))) same
        (in_brackets h.phylum (solo 40) (solo 41) h.found h.bracketed refl refl y)
    in_place (kinds.List l) true e a' b' u m us y =
        absurd (false≢true (sym (ap (λ x. is_below_level x (wanted def f)) (list_top def l t b'.shape)) ∙ e))

    pub placed : (u : Fragment) (m : ℕ) (us : List Token)
        → Yields def u k (cond (is_bracketed def f t) 0 (wanted def f)) m us
        → Yields def u k (wanted def f) (cond (is_bracketed def f t) 1 0 + m)
        (opens (is_bracketed def f t) ++ (us ++ closes (is_bracketed def f t)))
    placed = in_place k (is_bracketed def f t) refl a b

-- ---- the old tree in its slot

module _ (def : Definition) where
  pub record OldIn (t : Fragment) (k : Kind) (level : ℕ) : Type 0 where
    pub tokens : List Token
    pub nesting : ℕ
    pub has : RowTokens (fixed_words def) (row def t) tokens
    pub shallow : nesting < depth_of t
    pub yields : Yields def t k level nesting tokens

  pub old_in : (t : Fragment) (k : Kind) (level : ℕ) → is_below_level (operator_of def t) level ≡ false → WholeBack def t k
      → OldIn t k level
  old_in t (kinds.Phylum p) level low b =
      record { tokens = b.tokens; nesting = b.nesting; has = b.has; shallow = b.shallow; yields = b.yields level low }
  old_in t (kinds.List l) level low b =
      record { tokens = b.tokens; nesting = b.nesting; has = b.has; shallow = b.shallow; yields = b.yields }
