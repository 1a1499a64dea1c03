-- Places inside a tree at a place: in front of a part, in a child, in an element and in the rest of a list.
use Rattle.std.proofs.Common.{◌≡◌, ℕ, ◌+◌, ◌<◌, ◌≤◌, max, Bool, true, false, cond, List, [], ◌∷◌, ◌++◌, Some, slice_get, refl, ap, sym, ◌∙◌, subst, append_assoc, append-nil, arith}
use Rattle.std.specs.Prelude.{codes}
use Rattle.std.specs.List.{AllByRecursion}
use Rattle.psg_grammar.specs.declared.types.Kind.{Kind}
use Rattle.psg_grammar.specs.declared.types.Kind.TheVariants as kinds
use Rattle.psg_grammar.specs.declared.types.Item.{Item}
use Rattle.psg_grammar.specs.declared.types.Item.TheVariants as items
use Rattle.psg_grammar.specs.declared.types.Operator.{Operator}
use Rattle.psg_grammar.specs.declared.types.ListKind.{ListKind}
use Rattle.psg_grammar.specs.declared.types.Definition.{Definition}
use Rattle.psg_grammar.specs.Fragments.{Fragment, hole, ending, cell, operator, with_child, with_name, with_number, with_text, anything, observed}
use Rattle.psg_grammar.specs.Sizes.{depth_of}
use Rattle.psg_grammar.specs.Sound.{IsSound}
use Rattle.psg_grammar.specs.WellFormed.{words_in, fixed_words}
use Rattle.psg_class.specs.Terminals.{Token, dots}
use Rattle.psg_class.specs.Yields.{Yields, TreeYields, SomeYield, last_element, and_more, and_elements}
use Rattle.psg_class.proofs.ClassFacts.{ClassFacts}
use Rattle.psg_unparse.specs.Rows.{Piece, token, row, left, wanted, operator_of, is_bracketed, opening, closing, from_part, behind_first, words_behind, between, separating}
use Rattle.psg_unparse.specs.Spots.{Spot, child_spot, front_spot, leaf_spot, element_spot, rest_spot}
use Rattle.psg_unparse.proofs.Lexing.{RowTokens, no_pieces, a_mark, a_token, IsTextOf}
use Rattle.psg_unparse.proofs.WordTokens.{FixedToken, dots_text}
use Rattle.psg_unparse.proofs.FixedTokens.{HasTokens}
use Rattle.psg_unparse.proofs.Building.{Front}
use Rattle.psg_unparse.proofs.Passing.{tokens-append}
use Rattle.psg_unparse.proofs.Claims.{ListBack, WholeBack, PartBack}
use Rattle.psg_unparse.proofs.PartSteps.{next_left, words_next}
use Rattle.psg_unparse.proofs.NodesBack.{bracket_level}
use Rattle.psg_textedit.proofs.Holes.{Hole, inside, depth_some}
use Rattle.psg_textedit.proofs.Parts.{WordTokens, word_tokens, FrontAt, past_words, past_child, placed, words_at, opens, closes, has_opening, has_closing, OldIn, old_in}

pub one_or_none : (b : Bool) → cond b 1 0 ≤ 1
one_or_none true = omega arith
one_or_none false = omega arith

abbrev Pieces : Type 0
Pieces = List Piece

abbrev Tokens : Type 0
Tokens = List Token

four : (o t c w h : Pieces) → (o ++ (t ++ (c ++ w))) ++ h ≡ o ++ (t ++ (c ++ (w ++ h)))
four o t c w h =
    append_assoc o (t ++ (c ++ w)) h
    ∙ ap (λ x. o ++ x) (append_assoc t (c ++ w) h ∙ ap (λ x. t ++ x) (append_assoc c w h))

behind_front : (u o t c w : Tokens) → (u ++ (o ++ (t ++ c))) ++ w ≡ u ++ (o ++ (t ++ (c ++ w)))
behind_front u o t c w =
    append_assoc u (o ++ (t ++ c)) w
    ∙ ap (λ x. u ++ x) (append_assoc o (t ++ c) w ∙ ap (λ x. o ++ x) (append_assoc t c w))

round_child : (a o u c w : Tokens) → (a ++ (o ++ (u ++ c))) ++ w ≡ (a ++ o) ++ (u ++ (c ++ w))
round_child a o u c w = behind_front a o u c w ∙ sym (append_assoc a o (u ++ (c ++ w)))

module _ (def : Definition) (sound : IsSound def) (c : ClassFacts def) (known : HasTokens def) (whole : Fragment) (kind0 : Kind) where
  -- ---- an operator's parts

  module _ (s : Spot) (f t : Fragment) (more : List Item) (kind k : Kind) (a : PartBack def f (items.Slot k ∷ more) kind) (b : WholeBack def t k) (put : Fragment → Fragment) (deep : s.around + depth_of (with_child f t) ≤ depth_of whole) where
    brackets : Bool
    brackets = is_bracketed def f t

    old : OldIn def t k (cond (is_bracketed def f t) 0 (wanted def f))
    old = old_in def t k (cond (is_bracketed def f t) 0 (wanted def f)) (bracket_level (operator_of def t) (wanted def f)) b

    after : WordTokens def (behind_first (left def f))
    after = words_at def sound c known f t more kind k a b

    slot_tokens : List Token
    slot_tokens = opens (is_bracketed def f t) ++ (old.tokens ++ (closes (is_bracketed def f t) ++ after.tokens))

    has_slot : RowTokens (fixed_words def)
        (opening (is_bracketed def f t) ++ (row def t ++ (closing (is_bracketed def f t) ++ words_behind def f))) slot_tokens
    unfolding slot_tokens
    has_slot =
        tokens-append (fixed_words def) (opening (is_bracketed def f t))
        (row def t ++ (closing (is_bracketed def f t) ++ words_behind def f)) (opens (is_bracketed def f t))
        (old.tokens ++ (closes (is_bracketed def f t) ++ after.tokens)) (has_opening def (is_bracketed def f t))
        (tokens-append (fixed_words def) (row def t) (closing (is_bracketed def f t) ++ words_behind def f) old.tokens
        (closes (is_bracketed def f t) ++ after.tokens) old.has
        (tokens-append (fixed_words def) (closing (is_bracketed def f t)) (words_behind def f)
        (closes (is_bracketed def f t)) after.tokens (has_closing def (is_bracketed def f t)) after.has))

    front_step : (g : Fragment) (d : ℕ) (us : List Token) → FrontAt def f kind g d us
        → FrontAt def (with_child f t) kind (with_child g t) (max (cond (is_bracketed def f t) 1 0 + old.nesting) (0 + d))
        ([] ++ (us ++ slot_tokens))
    unfolding slot_tokens after
    front_step g d us x =
        let m : ℕ = cond (is_bracketed def f t) 1 0 + old.nesting in
        let same : max d m ≡ max m (0 + d) = omega arith in
        let own : List Token = opens (is_bracketed def f t) ++ (old.tokens ++ closes (is_bracketed def f t)) in
        let y : FrontAt def (with_child f t) kind (with_child g t) (max d m) ((us ++ own) ++ after.tokens) =
        past_child def sound c known f t more kind k a b g t d m us own x
        (placed def sound c known f t more kind k a b t old.nesting old.tokens old.yields) in
        subst (λ n. FrontAt def (with_child f t) kind (with_child g t) n
        (us ++ (opens (is_bracketed def f t) ++ (old.tokens ++ (closes (is_bracketed def f t) ++ after.tokens))))) same
        (subst (FrontAt def (with_child f t) kind (with_child g t) (max d m))
        (behind_front us (opens (is_bracketed def f t)) old.tokens (closes (is_bracketed def f t)) after.tokens) y)

    pub front_hole : Hole def whole kind0 s (FrontAt def (with_child f t) kind) put
        → Hole def whole kind0 (front_spot def s f t) (FrontAt def f kind) (λ g. put (with_child g t))
    front_hole h =
        inside def whole kind0 (front_spot def s f t) (FrontAt def f kind) (λ g. with_child g t) []
        (opening (is_bracketed def f t) ++ (row def t ++ (closing (is_bracketed def f t) ++ words_behind def f)))
        (cond (is_bracketed def f t) 1 0 + old.nesting) 0 [] slot_tokens h (append-nil s.before)
        (four (opening (is_bracketed def f t)) (row def t) (closing (is_bracketed def f t)) (words_behind def f) s.behind)
        (let same : s.around ≡ s.around + 0 = omega arith in same) no_pieces has_slot
        (omega (arith, deep, old.shallow, one_or_none (is_bracketed def f t))) front_step

    own_front : FrontAt def f kind f a.nesting a.tokens
    own_front = record { n = a.n; o = a.o; found = a.found; top = a.top; of_phylum = a.of_phylum; first = a.first; front = a.front }

    child_step : (u : Fragment) (m : ℕ) (us : List Token)
        → Yields def u k (cond (is_bracketed def f t) 0 (wanted def f)) m us
        → FrontAt def (with_child f t) kind (with_child f u) (max a.nesting (cond (is_bracketed def f t) 1 0 + m))
        ((a.tokens ++ opens (is_bracketed def f t)) ++ (us ++ (closes (is_bracketed def f t) ++ after.tokens)))
    unfolding after
    child_step u m us y =
        subst (FrontAt def (with_child f t) kind (with_child f u) (max a.nesting (cond (is_bracketed def f t) 1 0 + m)))
        (round_child a.tokens (opens (is_bracketed def f t)) us (closes (is_bracketed def f t)) after.tokens)
        (past_child def sound c known f t more kind k a b f u a.nesting (cond (is_bracketed def f t) 1 0 + m) a.tokens
        (opens (is_bracketed def f t) ++ (us ++ closes (is_bracketed def f t))) own_front
        (placed def sound c known f t more kind k a b u m us y))

    pub child_hole : Hole def whole kind0 s (FrontAt def (with_child f t) kind) put
        → Hole def whole kind0 (child_spot def s f t)
        (λ u m us. Yields def u k (cond (is_bracketed def f t) 0 (wanted def f)) m us) (λ u. put (with_child f u))
    child_hole h =
        inside def whole kind0 (child_spot def s f t)
        (λ u m us. Yields def u k (cond (is_bracketed def f t) 0 (wanted def f)) m us) (λ u. with_child f u)
        (row def f ++ opening (is_bracketed def f t)) (closing (is_bracketed def f t) ++ words_behind def f)
        a.nesting (cond (is_bracketed def f t) 1 0) (a.tokens ++ opens (is_bracketed def f t))
        (closes (is_bracketed def f t) ++ after.tokens) h refl
        (append_assoc (closing (is_bracketed def f t)) (words_behind def f) s.behind) refl
        (tokens-append (fixed_words def) (row def f) (opening (is_bracketed def f t)) a.tokens
        (opens (is_bracketed def f t)) a.has (has_opening def (is_bracketed def f t)))
        (tokens-append (fixed_words def) (closing (is_bracketed def f t)) (words_behind def f)
        (closes (is_bracketed def f t)) after.tokens (has_closing def (is_bracketed def f t)) after.has)
        (omega (arith, deep, a.shallow)) child_step

  -- ---- a leaf's front

  module _ (s : Spot) (f g0 : Fragment) (i : Item) (more : List Item) (kind : Kind) (a : PartBack def f (i ∷ more) kind) (text : List ℕ) (t : Token) (wrap put : Fragment → Fragment) (deep : s.around + depth_of f ≤ depth_of whole) where
    pub leaf_hole : IsTextOf (fixed_words def) text t → operator_of def g0 ≡ operator_of def f
        → left def g0 ≡ from_part (behind_first (left def f))
        → words_in (i ∷ behind_first (left def f)) ≡ words_in (behind_first (left def f))
        → ((n : ℕ) (o : Operator) (g : Fragment) (first : Bool) (d : ℕ) (ts : List Token)
        → Front def n o g first (i ∷ behind_first (left def f)) d ts
        → Front def n o (wrap g) false (behind_first (left def f)) d (ts ++ t ∷ []))
        → Hole def whole kind0 s (FrontAt def g0 kind) put
        → Hole def whole kind0 (leaf_spot def s f text) (FrontAt def f kind) (λ g. put (wrap g))
    leaf_hole is same_top same_left same_words past h =
        let fixed : AllByRecursion (FixedToken def) (words_in (behind_first (left def f))) =
        subst (AllByRecursion (FixedToken def)) same_words (words_next def known f i more kind a) in
        let w : WordTokens def (behind_first (left def f)) = word_tokens def (behind_first (left def f)) fixed in
        inside def whole kind0 (leaf_spot def s f text) (FrontAt def f kind) wrap [] (token text ∷ words_behind def f)
        0 0 [] (t ∷ w.tokens) h (append-nil s.before) refl (let same : s.around ≡ s.around + 0 = omega arith in same)
        no_pieces (a_token is w.has) (omega (arith, deep, depth_some f))
        (λ g d us x.
        let zs : left def f ≡ i ∷ behind_first (left def f) = (next_left def known f i more kind a).is in
        let q : Front def x.n x.o g x.first (i ∷ behind_first (left def f)) d us =
        subst (λ ys. Front def x.n x.o g x.first ys d us) zs x.front in
        let r = past_words def x.n x.o (wrap g) false (behind_first (left def f)) d (us ++ t ∷ []) fixed w
        (past x.n x.o g x.first d us q) in
        let same : d ≡ max 0 (0 + d) = omega arith in
        let y : FrontAt def g0 kind (wrap g) d ((us ++ t ∷ []) ++ w.tokens) =
        record {
          n = x.n;
          o = x.o;
          found = x.found;
          top = same_top ∙ x.top;
          of_phylum = x.of_phylum;
          first = r.first;
          front = subst (λ ys. Front def x.n x.o (wrap g) r.first ys d ((us ++ t ∷ []) ++ w.tokens)) (sym same_left) r.front;
        } in
        subst (λ n. FrontAt def g0 kind (wrap g) n (us ++ t ∷ w.tokens)) same
        (subst (FrontAt def g0 kind (wrap g) d) (append_assoc us (t ∷ []) w.tokens) y))

  -- ---- lists

  -- what is after an element
  record Tail (l : ℕ) (k : ListKind) (r : Fragment) : Type 0 where
    tokens : List Token
    nesting : ℕ
    has : RowTokens (fixed_words def) (between def l r ++ row def r) tokens
    shallow : nesting < depth_of r
    yields : (u : Fragment) (m : ℕ) (us : List Token) → TreeYields def u k.element 0 m us
        → SomeYield def (cell l u r) l (max nesting m) (us ++ tokens)

  module _ (l : ℕ) (k : ListKind) (found : slice_get def.lists l ≡ Some k) where
    separator : FixedToken def k.separator
    separator = known.lists l k found

    separated : (r : List Piece) (ts : List Token) → RowTokens (fixed_words def) r ts
        → RowTokens (fixed_words def) (separating (slice_get def.lists l) ++ r) (separator.token ∷ ts)
    separated r ts h =
        subst (λ x. RowTokens (fixed_words def) (separating x ++ r) (separator.token ∷ ts)) (sym found)
        (a_mark (a_token separator.text (a_mark h)))

    tail : (r : Fragment) → ListBack def r l → Tail l k r
    tail (ending m false) b = record {
      tokens = [];
      nesting = 0;
      has = no_pieces;
      shallow = omega arith;
      yields = λ u n us y.
          let same : n ≡ max 0 n = omega arith in
          subst (λ d. SomeYield def (cell l u (ending m false)) l d (us ++ [])) same
          (subst (SomeYield def (cell l u (ending m false)) l n) (sym (append-nil us))
          (subst (λ x. SomeYield def (cell l u (ending x false)) l n us) (sym b.shape.0) (last_element k found y)));
    }
    tail (ending m true) b = record {
      tokens = separator.token ∷ dots ∷ [];
      nesting = 0;
      has = separated (token (codes "...") ∷ []) (dots ∷ []) (a_token (dots_text (fixed_words def)) no_pieces);
      shallow = omega arith;
      yields = λ u n us y.
          let same : n ≡ max 0 n = omega arith in
          subst (λ d. SomeYield def (cell l u (ending m true)) l d (us ++ separator.token ∷ dots ∷ [])) same
          (subst (λ x. SomeYield def (cell l u (ending x true)) l n (us ++ separator.token ∷ dots ∷ [])) (sym b.shape.0)
          (and_more us k separator.token found (b.shape.1 k found refl) separator.terminal y));
    }
    tail (cell m e r) b = record {
      tokens = separator.token ∷ b.tokens;
      nesting = b.nesting;
      has = separated (row def (cell m e r)) b.tokens b.has;
      shallow = b.shallow;
      yields = λ u n us y.
          let same : max n b.nesting ≡ max b.nesting n = omega arith in
          subst (λ d. SomeYield def (cell l u (cell m e r)) l d (us ++ separator.token ∷ b.tokens)) same
          (and_elements k n b.nesting us b.tokens separator.token found separator.terminal y (b.some tt));
    }
    tail (hole p) b = absurd b.shape
    tail (operator o) b = absurd b.shape
    tail (with_child f t) b = absurd b.shape
    tail (with_name f n) b = absurd b.shape
    tail (with_number f n) b = absurd b.shape
    tail (with_text f t) b = absurd b.shape
    tail anything b = absurd b.shape
    tail (observed f) b = absurd b.shape

    module _ (s : Spot) (e r : Fragment) (put : Fragment → Fragment) (deep : s.around + depth_of (cell l e r) ≤ depth_of whole) where
      pub element_hole : (n : ℕ) → ListBack def r l → Hole def whole kind0 s (λ u m us. SomeYield def u l m us) put
          → Hole def whole kind0 (element_spot def s n l r) (λ u m us. TreeYields def u k.element 0 m us)
          (λ u. put (cell l u r))
      element_hole n b h =
          let z : Tail l k r = tail r b in
          inside def whole kind0 (element_spot def s n l r) (λ u m us. TreeYields def u k.element 0 m us)
          (λ u. cell l u r) [] (between def l r ++ row def r) z.nesting 0 [] z.tokens h (append-nil s.before)
          (append_assoc (between def l r) (row def r) s.behind)
          (let same : s.around ≡ s.around + 0 = omega arith in same) no_pieces z.has (omega (arith, deep, z.shallow))
          (λ u m us y.
          let same : m ≡ 0 + m = omega arith in
          subst (λ j. SomeYield def (cell l u r) l (max z.nesting j) (us ++ z.tokens)) same (z.yields u m us y))

      pub rest_hole : OldIn def e (kinds.Phylum k.element) 0 → between def l r ≡ separating (slice_get def.lists l)
          → Hole def whole kind0 s (λ u m us. SomeYield def u l m us) put
          → Hole def whole kind0 (rest_spot def s l e r) (λ u m us. SomeYield def u l m us) (λ u. put (cell l e u))
      rest_hole a is h =
          let sep : RowTokens (fixed_words def) (between def l r) (separator.token ∷ []) =
          subst (λ x. RowTokens (fixed_words def) x (separator.token ∷ [])) (append-nil (separating (slice_get def.lists l)) ∙ sym is)
          (separated [] [] no_pieces) in
          inside def whole kind0 (rest_spot def s l e r) (λ u m us. SomeYield def u l m us) (λ u. cell l e u)
          (row def e ++ between def l r) [] a.nesting 0 (a.tokens ++ separator.token ∷ []) [] h refl refl
          (let same : s.around ≡ s.around + 0 = omega arith in same)
          (tokens-append (fixed_words def) (row def e) (between def l r) a.tokens (separator.token ∷ []) a.has sep)
          no_pieces (omega (arith, deep, a.shallow))
          (λ u m us y.
          let same : m ≡ 0 + m = omega arith in
          let tokens : a.tokens ++ separator.token ∷ us ≡ (a.tokens ++ separator.token ∷ []) ++ (us ++ []) =
          sym (append_assoc a.tokens (separator.token ∷ []) us)
          ∙ ap (λ x. (a.tokens ++ separator.token ∷ []) ++ x) (sym (append-nil us)) in
          subst (λ j. SomeYield def (cell l e u) l (max a.nesting j) ((a.tokens ++ separator.token ∷ []) ++ (us ++ []))) same
          (subst (SomeYield def (cell l e u) l (max a.nesting m)) tokens
          (and_elements k a.nesting m a.tokens us separator.token found separator.terminal a.yields y)))
