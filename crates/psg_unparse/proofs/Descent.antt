-- A tree with another node at a path: what is in front of the node, the node's own, and what is after it.
use Rattle.std.proofs.Common.{◌≡◌, inl, inr, ℕ, zero, suc, ◌+◌, ◌<◌, ◌&&◌, true, false, cond, List, [], ◌∷◌, ◌++◌, length, map, Option, Some, None, slice_get, refl, ap, ap₂, sym, subst, ◌∙◌, append_assoc, append-nil, length-append, arith}
use Rattle.std.specs.Prelude.{decimal}
use Rattle.std.proofs.lemmas.Bool.Decides.{eqb_tells}
use Rattle.std.proofs.lemmas.List.{map-append}
use Rattle.std.proofs.lemmas.Option.{slice_get_within}
use Rattle.psg_grammar.specs.declared.types.Operator.{Operator}
use Rattle.psg_grammar.specs.declared.types.Definition.{Definition}
use Rattle.psg_grammar.specs.Fragments.{Fragment, hole, ending, cell, operator, with_child, with_name, with_number, with_text, anything, observed, children_of}
use Rattle.psg_grammar.specs.Paths.{Path, node_at, change_child, change_at, replaced}
use Rattle.psg_tree.specs.AbstractText.{quoted}
use Rattle.psg_unparse.specs.Rows.{token, row, left, wanted, wanted_of, operator_of, is_bracketed, is_below_level, opening, closing, from_part, behind_first, words, words_behind, between}
use Rattle.psg_unparse.specs.Layout.{laid, lead}
use Rattle.psg_unparse.specs.declared.spans.Span.{Span}
use Rattle.psg_unparse.specs.Plain.{level_in, level_of}
use Rattle.psg_unparse.specs.Splicing.{FitsInPlace, leads_along, moved, stretched, shifted}
use Rattle.psg_unparse.specs.Walking.{span_at, spans_below, spans_from}
use Rattle.psg_unparse.proofs.Listed.{IsSpine, IsProper, Counts, no-spine, get-split, into}
use Rattle.psg_unparse.proofs.States.{Pieces, state_of, lead_is}
use Rattle.psg_unparse.proofs.Swaps.{same_span, Later, later_more, shifted_below, shifted_from, size_u, size_v, front_swap, later_node}

-- ---- steps along a path

along : (q r : Path) → leads_along q (q ++ r) ≡ true
along [] r = refl
along (k ∷ q) r = elim (eqb_tells k k) [ inl e ↦ ap₂ (λ x y. x && y) e.0 (along q r) | inr e ↦ absurd (e.1 refl) ]

apart : (q : Path) (j k : ℕ) (r rest : Path) → (j ≡ k → ⊥) → leads_along (q ++ j ∷ r) (q ++ k ∷ rest) ≡ false
apart [] j k r rest h = elim (eqb_tells j k) [ inl e ↦ absurd (h e.1) | inr e ↦ ap (λ x. x && leads_along r rest) e.0 ]
apart (m ∷ q) j k r rest h = elim (eqb_tells m m) [ inl e ↦ ap₂ (λ x y. x && y) e.0 (apart q j k r rest h) | inr e ↦ absurd (e.1 refl) ]

abbrev pub IsAside : Path → Path → Type 0
IsAside p q = (r : Path) → leads_along (q ++ r) p ≡ false

aside_below : (p q : Path) (k : ℕ) → IsAside p q → IsAside p (q ++ k ∷ [])
aside_below p q k h r = ap (λ z. leads_along z p) (append_assoc q (k ∷ []) r) ∙ h (k ∷ r)

aside_of : (p q : Path) (j k : ℕ) (rest : Path) → p ≡ q ++ k ∷ rest → (j ≡ k → ⊥) → IsAside p (q ++ j ∷ [])
aside_of p q j k rest e h r =
    ap₂ leads_along (append_assoc q (j ∷ []) r) e ∙ apart q j k r rest h

-- ---- rows cut at the node

put_child_row : (f o x m y z : Pieces) → f ++ (o ++ ((x ++ (m ++ y)) ++ z)) ≡ (f ++ (o ++ x)) ++ (m ++ (y ++ z))
put_child_row f o x m y z =
    ap (λ w. f ++ (o ++ w)) (append_assoc x (m ++ y) z ∙ ap (λ w. x ++ w) (append_assoc m y z))
    ∙ ap (λ w. f ++ w) (sym (append_assoc o x (m ++ (y ++ z)))) ∙ sym (append_assoc f (o ++ x) (m ++ (y ++ z)))

put_front_row : (x m y z : Pieces) → (x ++ (m ++ y)) ++ z ≡ x ++ (m ++ (y ++ z))
put_front_row x m y z = append_assoc x (m ++ y) z ∙ ap (λ w. x ++ w) (append_assoc m y z)

put_rest_row : (e b x m y : Pieces) → e ++ (b ++ (x ++ (m ++ y))) ≡ (e ++ (b ++ x)) ++ (m ++ y)
put_rest_row e b x m y =
    ap (λ w. e ++ w) (sym (append_assoc b x (m ++ y))) ∙ sym (append_assoc e (b ++ x) (m ++ y))

at_row : (B x m y z : Pieces) → ((B ++ x) ++ m) ++ (y ++ z) ≡ B ++ ((x ++ (m ++ y)) ++ z)
at_row B x m y z =
    append_assoc (B ++ x) m (y ++ z) ∙ append_assoc B x (m ++ (y ++ z)) ∙ ap (λ w. B ++ w) (sym (put_front_row x m y z))

deeper : (B f o x : Pieces) → (B ++ (f ++ o)) ++ x ≡ B ++ (f ++ (o ++ x))
deeper B f o x = append_assoc B (f ++ o) x ∙ ap (λ w. B ++ w) (append_assoc f o x)

same_below : (o o' : Option Operator) (least : ℕ) → level_in o ≡ level_in o' → is_below_level o least ≡ is_below_level o' least
same_below None None least e = refl
same_below (Some o) (Some o') least e = cc
same_below None (Some o') least e = absurd (cc)
same_below (Some o) None least e = absurd (cc)

module _ (def : Definition) (u v : Fragment) (fit : FitsInPlace def u v) (p : Path) where
  abbrev a : ℕ
  a = size_u def u v fit

  abbrev b : ℕ
  b = size_v def u v fit

  abbrev longer : Span → Span
  longer s = stretched p a b s

  -- ---- spans of nodes that are not above

  still_span : (q : Path) (x : Pieces) (t : Fragment) → IsAside p q → longer (span_at def q x t) ≡ span_at def q x t
  still_span q x t h =
      same_span refl refl (ap (λ z. cond {A = ℕ} z (moved a b (length (laid [] (x ++ row def t)))) (length (laid [] (x ++ row def t))))
      (ap (λ z. leads_along z p) (sym (append-nil q)) ∙ h []))

  still_below : (q : Path) (x : Pieces) (n : ℕ) (t : Fragment) → IsAside p q → map longer (spans_below def q x n t) ≡ spans_below def q x n t
  still_below q x n (hole y) h = refl
  still_below q x n (ending l y) h = refl
  still_below q x n (cell l e r) h =
      map-append longer (span_at def (q ++ n ∷ []) x e ∷ spans_below def (q ++ n ∷ []) x 0 e) (spans_below def q (x ++ (row def e ++ between def l r)) (n + 1) r)
      ∙ ap₂ (λ s t. s ++ t) (ap₂ (λ s t. s ∷ t) (still_span (q ++ n ∷ []) x e (aside_below p q n h)) (still_below (q ++ n ∷ []) x 0 e (aside_below p q n h)))
      (still_below q (x ++ (row def e ++ between def l r)) (n + 1) r h)
  still_below q x n (operator o) h = refl
  still_below q x n (with_child f t) h =
      let k : ℕ = length (children_of f) in
      let w : Pieces = x ++ (row def f ++ opening (is_bracketed def f t)) in
      map-append longer (spans_below def q x n f) (span_at def (q ++ k ∷ []) w t ∷ spans_below def (q ++ k ∷ []) w 0 t)
      ∙ ap₂ (λ s t. s ++ t) (still_below q x n f h)
      (ap₂ (λ s t. s ∷ t) (still_span (q ++ k ∷ []) w t (aside_below p q k h)) (still_below (q ++ k ∷ []) w 0 t (aside_below p q k h)))
  still_below q x n (with_name f y) h = still_below q x n f h
  still_below q x n (with_number f y) h = still_below q x n f h
  still_below q x n (with_text f y) h = still_below q x n f h
  still_below q x n anything h = refl
  still_below q x n (observed f) h = still_below q x n f h

  still_from : (q : Path) (x : Pieces) (t : Fragment) → IsAside p q → map longer (spans_from def q t x) ≡ spans_from def q t x
  still_from q x t h = ap₂ (λ s t. s ∷ t) (still_span q x t h) (still_below q x 0 t h)

  -- the parts in front of a child
  still_front : (q : Path) (x : Pieces) (n : ℕ) (f : Fragment) → IsProper f → IsSpine f → ((j : ℕ) → j < length (children_of f) → IsAside p (q ++ j ∷ []))
      → map longer (spans_below def q x n f) ≡ spans_below def q x n f
  still_front q x n (operator o) h s g = refl
  still_front q x n (with_child f t) h s g =
      let k : ℕ = length (children_of f) in
      let w : Pieces = x ++ (row def f ++ opening (is_bracketed def f t)) in
      let long : length (children_of f ++ t ∷ []) ≡ length (children_of f) + 1 = length-append (children_of f) (t ∷ []) in
      map-append longer (spans_below def q x n f) (span_at def (q ++ k ∷ []) w t ∷ spans_below def (q ++ k ∷ []) w 0 t)
      ∙ ap₂ (λ s t. s ++ t) (still_front q x n f h.0 h.1.1 (λ j l. g j (omega (arith, l, long))))
      (still_from (q ++ k ∷ []) w t (g k (omega (arith, long))))
  still_front q x n (with_name f y) h s g = still_front q x n f h.0 h.1 g
  still_front q x n (with_number f y) h s g = still_front q x n f h.0 h.1 g
  still_front q x n (with_text f y) h s g = still_front q x n f h.0 h.1 g
  still_front q x n (hole y) h s g = absurd s
  still_front q x n (ending l y) h s g = absurd s
  still_front q x n (cell l e r) h s g = absurd s
  still_front q x n anything h s g = absurd s
  still_front q x n (observed f) h s g = absurd s

  -- ---- the cut

  pub record Cut (B : Pieces) (f f' : Fragment) (old new : List Span) : Type 0 where
    pub pre : Pieces
    pub post : Pieces
    pub ahead : List Span
    pub rear : List Span
    pub row_old : row def f ≡ pre ++ (row def u ++ post)
    pub row_new : row def f' ≡ pre ++ (row def v ++ post)
    pub spans_old : old ≡ ahead ++ (spans_from def p u (B ++ pre) ++ rear)
    pub spans_new : new ≡ map longer ahead ++ (spans_from def p v (B ++ pre) ++ map (shifted a b) rear)

  -- the node at the path q, from which p goes on
  pub record NodeCut (q : Path) (B : Pieces) (f f' : Fragment) : Type 0 where
    pub level : level_of def f' ≡ level_of def f
    pub cut : Cut B f f' (spans_from def q f B) (spans_from def q f' B)

  record ChildCut (q : Path) (B : Pieces) (n : ℕ) (f f' : Fragment) : Type 0 where
    top : operator_of def f' ≡ operator_of def f
    items : left def f' ≡ left def f
    count : length (children_of f') ≡ length (children_of f)
    separated : (l : ℕ) → between def l f' ≡ between def l f
    cut : Cut B f f' (spans_below def q B n f) (spans_below def q B n f')

  later_cut : (B : Pieces) (f f' : Fragment) (old new : List Span) → Cut B f f' old new → (x : Pieces) → Later a b (B ++ (row def f ++ x)) (B ++ (row def f' ++ x))
  later_cut B f f' old new c x =
      let h : Later a b (((B ++ c.pre) ++ row def u) ++ (c.post ++ x)) (((B ++ c.pre) ++ row def v) ++ (c.post ++ x)) =
      later_more a b ((B ++ c.pre) ++ row def u) ((B ++ c.pre) ++ row def v) (c.post ++ x) (later_node def u v fit (B ++ c.pre)) in
      let e : ((B ++ c.pre) ++ row def u) ++ (c.post ++ x) ≡ B ++ (row def f ++ x) =
      at_row B c.pre (row def u) c.post x ∙ ap (λ w. B ++ (w ++ x)) (sym c.row_old) in
      let e' : ((B ++ c.pre) ++ row def v) ++ (c.post ++ x) ≡ B ++ (row def f' ++ x) =
      at_row B c.pre (row def v) c.post x ∙ ap (λ w. B ++ (w ++ x)) (sym c.row_new) in
      subst (λ z. Later a b z (B ++ (row def f' ++ x))) e (subst (λ z. Later a b (((B ++ c.pre) ++ row def u) ++ (c.post ++ x)) z) e' h)

  -- a node above gets longer
  above_span : (q : Path) (B : Pieces) (f f' : Fragment) (old new : List Span) (r : Path) → p ≡ q ++ r → Cut B f f' old new
      → span_at def q B f' ≡ longer (span_at def q B f)
  above_span q B f f' old new r e c =
      let h : Later a b (B ++ (row def f ++ [])) (B ++ (row def f' ++ [])) = later_cut B f f' old new c [] in
      let k : Later a b (B ++ row def f) (B ++ row def f') =
      subst (λ z. Later a b (B ++ z) (B ++ row def f')) (append-nil (row def f)) (subst (λ z. Later a b (B ++ (row def f ++ [])) (B ++ z)) (append-nil (row def f')) h) in
      let first : lead B (row def f') ≡ lead B (row def f) =
      ap (lead B) c.row_new ∙ lead_is B (c.pre ++ (row def v ++ c.post)) ∙ sym (front_swap def u v fit (state_of B) c.pre c.post)
      ∙ sym (lead_is B (c.pre ++ (row def u ++ c.post))) ∙ ap (lead B) (sym c.row_old) in
      let end : length (laid [] (B ++ row def f')) ≡ moved a b (length (laid [] (B ++ row def f))) = omega (arith, k.long) in
      same_span refl (ap (λ z. length (laid [] B) + length z) first)
      (end ∙ ap (λ z. cond {A = ℕ} z (moved a b (length (laid [] (B ++ row def f)))) (length (laid [] (B ++ row def f)))) (sym (ap (leads_along q) e ∙ along q r)))

  node_of : (q : Path) (B : Pieces) (f f' : Fragment) (r : Path) → p ≡ q ++ r → ChildCut q B 0 f f' → NodeCut q B f f'
  node_of q B f f' r e c = record {
    level = ap level_in c.top;
    cut = record {
      pre = c.cut.pre;
      post = c.cut.post;
      ahead = span_at def q B f ∷ c.cut.ahead;
      rear = c.cut.rear;
      row_old = c.cut.row_old;
      row_new = c.cut.row_new;
      spans_old = ap (λ z. span_at def q B f ∷ z) c.cut.spans_old;
      spans_new =
          ap₂ (λ y z. y ∷ z) (above_span q B f f' (spans_below def q B 0 f) (spans_below def q B 0 f') r e c.cut) c.cut.spans_new;
    };
  }

  -- ---- one step

  -- in the last child
  own_child : (q : Path) (B : Pieces) (n : ℕ) (f t t' : Fragment) (rest : Path) → IsProper f → IsSpine f → p ≡ q ++ length (children_of f) ∷ rest
      → NodeCut (q ++ length (children_of f) ∷ []) (B ++ (row def f ++ opening (is_bracketed def f t))) t t' → ChildCut q B n (with_child f t) (with_child f t')
  own_child q B n f t t' rest h s e c =
      let k : Path = q ++ length (children_of f) ∷ [] in
      let o : Pieces = opening (is_bracketed def f t) in
      let w : Pieces = closing (is_bracketed def f t) ++ words_behind def f in
      let br : is_bracketed def f t' ≡ is_bracketed def f t = same_below (operator_of def t') (operator_of def t) (wanted def f) c.level in
      let aside : (j : ℕ) → j < length (children_of f) → IsAside p (q ++ j ∷ []) =
      λ j l. aside_of p q j (length (children_of f)) rest e (λ z. omega (arith, l, z)) in
      let place : (B ++ (row def f ++ opening (is_bracketed def f t))) ++ c.cut.pre ≡ B ++ (row def f ++ (opening (is_bracketed def f t) ++ c.cut.pre)) =
      deeper B (row def f) o c.cut.pre in
      record {
        top = refl;
        items = refl;
        count = length-append (children_of f) (t' ∷ []) ∙ sym (length-append (children_of f) (t ∷ []));
        separated = λ l. refl;
        cut = record {
          pre = row def f ++ (opening (is_bracketed def f t) ++ c.cut.pre);
          post = c.cut.post ++ (closing (is_bracketed def f t) ++ words_behind def f);
          ahead = spans_below def q B n f ++ c.cut.ahead;
          rear = c.cut.rear;
          row_old = ap (λ z. row def f ++ (o ++ (z ++ w))) c.cut.row_old ∙ put_child_row (row def f) o c.cut.pre (row def u) c.cut.post w;
          row_new =
              ap₂ (λ x z. row def f ++ (opening x ++ (z ++ (closing x ++ words_behind def f)))) br c.cut.row_new
              ∙ put_child_row (row def f) o c.cut.pre (row def v) c.cut.post w;
          spans_old =
              ap (λ z. spans_below def q B n f ++ z) (c.cut.spans_old ∙ ap (λ z. c.cut.ahead ++ (spans_from def p u z ++ c.cut.rear)) place)
              ∙ sym (append_assoc (spans_below def q B n f) c.cut.ahead (spans_from def p u (B ++ (row def f ++ (opening (is_bracketed def f t) ++ c.cut.pre))) ++ c.cut.rear));
          spans_new =
              ap₂ (λ y z. y ++ z) (sym (still_front q B n f h s aside))
              (ap (λ x. spans_from def k t' (B ++ (row def f ++ opening x))) br ∙ c.cut.spans_new
              ∙ ap (λ z. map longer c.cut.ahead ++ (spans_from def p v z ++ map (shifted a b) c.cut.rear)) place)
              ∙ sym (append_assoc (map longer (spans_below def q B n f)) (map longer c.cut.ahead) (spans_from def p v (B ++ (row def f ++ (opening (is_bracketed def f t) ++ c.cut.pre))) ++ map (shifted a b) c.cut.rear))
              ∙ ap (λ z. z ++ (spans_from def p v (B ++ (row def f ++ (opening (is_bracketed def f t) ++ c.cut.pre))) ++ map (shifted a b) c.cut.rear))
              (sym (map-append longer (spans_below def q B n f) c.cut.ahead));
        };
      }

  -- in a part before the last child
  child_front : (q : Path) (B : Pieces) (n : ℕ) (f f' t : Fragment) → ChildCut q B n f f' → ChildCut q B n (with_child f t) (with_child f' t)
  child_front q B n f f' t c =
      let want : wanted def f' ≡ wanted def f = ap₂ wanted_of c.top c.items in
      let br : is_bracketed def f' t ≡ is_bracketed def f t = ap (is_below_level (operator_of def t)) want in
      let after : words_behind def f' ≡ words_behind def f = ap (λ x. words (behind_first x)) c.items in
      let w : Pieces = opening (is_bracketed def f t) ++ (row def t ++ (closing (is_bracketed def f t) ++ words_behind def f)) in
      let k : Path = q ++ length (children_of f) ∷ [] in
      let own : List Span = spans_from def (q ++ length (children_of f) ∷ []) t (B ++ (row def f ++ opening (is_bracketed def f t))) in
      let mid_u : List Span = spans_from def p u (B ++ c.cut.pre) in
      let mid_v : List Span = spans_from def p v (B ++ c.cut.pre) in
      let later : Later a b (B ++ (row def f ++ opening (is_bracketed def f t))) (B ++ (row def f' ++ opening (is_bracketed def f t))) =
      later_cut B f f' (spans_below def q B n f) (spans_below def q B n f') c.cut (opening (is_bracketed def f t)) in
      record {
        top = c.top;
        items = ap (λ x. from_part (behind_first x)) c.items;
        count = length-append (children_of f') (t ∷ []) ∙ ap (λ x. x + 1) c.count ∙ sym (length-append (children_of f) (t ∷ []));
        separated = λ l. refl;
        cut = record {
          pre = c.cut.pre;
          post = c.cut.post ++ (opening (is_bracketed def f t) ++ (row def t ++ (closing (is_bracketed def f t) ++ words_behind def f)));
          ahead = c.cut.ahead;
          rear = c.cut.rear ++ spans_from def (q ++ length (children_of f) ∷ []) t (B ++ (row def f ++ opening (is_bracketed def f t)));
          row_old = ap (λ z. z ++ w) c.cut.row_old ∙ put_front_row c.cut.pre (row def u) c.cut.post w;
          row_new =
              ap₂ (λ x y. row def f' ++ (opening x ++ (row def t ++ (closing x ++ y)))) br after
              ∙ ap (λ z. z ++ w) c.cut.row_new ∙ put_front_row c.cut.pre (row def v) c.cut.post w;
          spans_old = ap (λ z. z ++ own) c.cut.spans_old ∙ append_assoc c.cut.ahead (mid_u ++ c.cut.rear) own ∙ ap (λ z. c.cut.ahead ++ z) (append_assoc mid_u c.cut.rear own);
          spans_new =
              ap₂ (λ x y. spans_below def q B n f' ++ spans_from def (q ++ x ∷ []) t (B ++ (row def f' ++ opening y))) c.count br
              ∙ ap₂ (λ x y. x ++ y) c.cut.spans_new
              (shifted_from a b def (B ++ (row def f ++ opening (is_bracketed def f t))) (B ++ (row def f' ++ opening (is_bracketed def f t))) later k t)
              ∙ append_assoc (map longer c.cut.ahead) (mid_v ++ map (shifted a b) c.cut.rear) (map (shifted a b) own)
              ∙ ap (λ z. map longer c.cut.ahead ++ z) (append_assoc mid_v (map (shifted a b) c.cut.rear) (map (shifted a b) own) ∙ ap (λ z. mid_v ++ z) (sym (map-append (shifted a b) c.cut.rear own)));
        };
      }

  -- in front of a leaf
  leaf_front : (q : Path) (B : Pieces) (n : ℕ) (f f' g g' : Fragment) (x : List ℕ) → operator_of def g ≡ operator_of def f → operator_of def g' ≡ operator_of def f'
      → left def g ≡ from_part (behind_first (left def f)) → left def g' ≡ from_part (behind_first (left def f')) → length (children_of g) ≡ length (children_of f)
      → length (children_of g') ≡ length (children_of f') → ((l : ℕ) → between def l g' ≡ between def l g) → row def g ≡ row def f ++ token x ∷ words_behind def f
      → row def g' ≡ row def f' ++ token x ∷ words_behind def f' → spans_below def q B n g ≡ spans_below def q B n f → spans_below def q B n g' ≡ spans_below def q B n f'
      → ChildCut q B n f f' → ChildCut q B n g g'
  leaf_front q B n f f' g g' x t t' i i' k k' s r r' z z' c =
      let after : words_behind def f' ≡ words_behind def f = ap (λ x. words (behind_first x)) c.items in
      let w : Pieces = token x ∷ words_behind def f in
      record {
        top = t' ∙ c.top ∙ sym t;
        items = i' ∙ ap (λ x. from_part (behind_first x)) c.items ∙ sym i;
        count = k' ∙ c.count ∙ sym k;
        separated = s;
        cut = record {
          pre = c.cut.pre;
          post = c.cut.post ++ token x ∷ words_behind def f;
          ahead = c.cut.ahead;
          rear = c.cut.rear;
          row_old = r ∙ ap (λ y. y ++ w) c.cut.row_old ∙ put_front_row c.cut.pre (row def u) c.cut.post w;
          row_new =
              r' ∙ ap (λ y. row def f' ++ token x ∷ y) after ∙ ap (λ y. y ++ w) c.cut.row_new ∙ put_front_row c.cut.pre (row def v) c.cut.post w;
          spans_old = z ∙ c.cut.spans_old;
          spans_new = z' ∙ c.cut.spans_new;
        };
      }

  -- in the element of a cell
  own_element : (q : Path) (B : Pieces) (n l : ℕ) (e e' r : Fragment) → NodeCut (q ++ n ∷ []) B e e' → ChildCut q B n (cell l e r) (cell l e' r)
  own_element q B n l e e' r c =
      let w : Pieces = between def l r ++ row def r in
      let o : Pieces = between def l r in
      let mid_u : List Span = spans_from def p u (B ++ c.cut.pre) in
      let mid_v : List Span = spans_from def p v (B ++ c.cut.pre) in
      let own : List Span = spans_below def q (B ++ (row def e ++ between def l r)) (n + 1) r in
      let later : Later a b (B ++ (row def e ++ between def l r)) (B ++ (row def e' ++ between def l r)) =
      later_cut B e e' (spans_from def (q ++ n ∷ []) e B) (spans_from def (q ++ n ∷ []) e' B) c.cut o in
      record {
        top = refl;
        items = refl;
        count = refl;
        separated = λ m. refl;
        cut = record {
          pre = c.cut.pre;
          post = c.cut.post ++ (between def l r ++ row def r);
          ahead = c.cut.ahead;
          rear = c.cut.rear ++ spans_below def q (B ++ (row def e ++ between def l r)) (n + 1) r;
          row_old = ap (λ z. z ++ w) c.cut.row_old ∙ put_front_row c.cut.pre (row def u) c.cut.post w;
          row_new = ap (λ z. z ++ w) c.cut.row_new ∙ put_front_row c.cut.pre (row def v) c.cut.post w;
          spans_old = ap (λ z. z ++ own) c.cut.spans_old ∙ append_assoc c.cut.ahead (mid_u ++ c.cut.rear) own ∙ ap (λ z. c.cut.ahead ++ z) (append_assoc mid_u c.cut.rear own);
          spans_new =
              ap₂ (λ x y. x ++ y) c.cut.spans_new
              (shifted_below a b def (B ++ (row def e ++ between def l r)) (B ++ (row def e' ++ between def l r)) later q (n + 1) r)
              ∙ append_assoc (map longer c.cut.ahead) (mid_v ++ map (shifted a b) c.cut.rear) (map (shifted a b) own)
              ∙ ap (λ z. map longer c.cut.ahead ++ z) (append_assoc mid_v (map (shifted a b) c.cut.rear) (map (shifted a b) own) ∙ ap (λ z. mid_v ++ z) (sym (map-append (shifted a b) c.cut.rear own)));
        };
      }

  -- in an element after the first
  element_rest : (q : Path) (B : Pieces) (n l m : ℕ) (e r r' : Fragment) (rest : Path) → p ≡ q ++ m ∷ rest → (n ≡ m → ⊥)
      → ChildCut q (B ++ (row def e ++ between def l r)) (n + 1) r r' → ChildCut q B n (cell l e r) (cell l e r')
  element_rest q B n l m e r r' rest is other c =
      let first : List Span = spans_from def (q ++ n ∷ []) e B in
      let o : Pieces = between def l r in
      let place : (B ++ (row def e ++ between def l r)) ++ c.cut.pre ≡ B ++ (row def e ++ (between def l r ++ c.cut.pre)) = deeper B (row def e) o c.cut.pre in
      record {
        top = refl;
        items = refl;
        count = ap suc c.count;
        separated = λ m. refl;
        cut = record {
          pre = row def e ++ (between def l r ++ c.cut.pre);
          post = c.cut.post;
          ahead = spans_from def (q ++ n ∷ []) e B ++ c.cut.ahead;
          rear = c.cut.rear;
          row_old = ap (λ z. row def e ++ (o ++ z)) c.cut.row_old ∙ put_rest_row (row def e) o c.cut.pre (row def u) c.cut.post;
          row_new =
              ap₂ (λ y z. row def e ++ (y ++ z)) (c.separated l) c.cut.row_new ∙ put_rest_row (row def e) o c.cut.pre (row def v) c.cut.post;
          spans_old =
              ap (λ z. first ++ z) (c.cut.spans_old ∙ ap (λ z. c.cut.ahead ++ (spans_from def p u z ++ c.cut.rear)) place)
              ∙ sym (append_assoc first c.cut.ahead (spans_from def p u (B ++ (row def e ++ (between def l r ++ c.cut.pre))) ++ c.cut.rear));
          spans_new =
              ap₂ (λ y z. y ++ z) (sym (still_from (q ++ n ∷ []) B e (aside_of p q n m rest is other)))
              (ap (λ x. spans_below def q (B ++ (row def e ++ x)) (n + 1) r') (c.separated l) ∙ c.cut.spans_new
              ∙ ap (λ z. map longer c.cut.ahead ++ (spans_from def p v z ++ map (shifted a b) c.cut.rear)) place)
              ∙ sym (append_assoc (map longer first) (map longer c.cut.ahead) (spans_from def p v (B ++ (row def e ++ (between def l r ++ c.cut.pre))) ++ map (shifted a b) c.cut.rear))
              ∙ ap (λ z. z ++ (spans_from def p v (B ++ (row def e ++ (between def l r ++ c.cut.pre))) ++ map (shifted a b) c.cut.rear))
              (sym (map-append longer first c.cut.ahead));
        };
      }

  -- ---- down the path

  abbrev Below : Path → Type 0
  Below rest =
      (t : Fragment) (q : Path) (B : Pieces) → IsProper t → node_at t rest ≡ Some u → p ≡ q ++ rest → NodeCut q B t (replaced rest v t)

  through : (rest : Path) → Below rest → (f : Fragment) (k : ℕ) (t : Fragment) (q : Path) (B : Pieces) (n m : ℕ) → IsProper f → Counts def n f
      → slice_get (children_of f) k ≡ Some t → node_at t rest ≡ Some u → m ≡ n + k → p ≡ q ++ m ∷ rest
      → ChildCut q B n f (change_child (change_at (λ old. v) rest) k f)
  through rest ih (hole y) k t q B n m h c got at e is = absurd (cc)
  through rest ih (ending l y) k t q B n m h c got at e is = absurd (cc)
  through rest ih (cell l x r) zero t q B n m h c got at e is =
      let same : x ≡ t = cc in
      let own : p ≡ (q ++ n ∷ []) ++ rest =
      is ∙ ap (λ z. q ++ z ∷ rest) (let z : m ≡ n = omega (arith, e) in z) ∙ sym (append_assoc q (n ∷ []) rest) in
      own_element q B n l x (change_at (λ old. v) rest x) r (ih x (q ++ n ∷ []) B h.0 (ap (λ z. node_at z rest) same ∙ at) own)
  through rest ih (cell l x r) (suc k) t q B n m h c got at e is =
      element_rest q B n l m x r (change_child (change_at (λ old. v) rest) k r) rest is (λ z. omega (arith, z, e))
      (through rest ih r k t q (B ++ (row def x ++ between def l r)) (n + 1) m h.1.0 (no-spine def r (n + 1) h.1.1) got at (omega (arith, e)) is)
  through rest ih (operator o) k t q B n m h c got at e is = absurd (cc)
  through rest ih (with_child f x) k t q B n m h c got at e is =
      elim (eqb_tells (length (children_of f)) k) [
        | inl z ↦
            let same : x ≡ t = elim (get-split (children_of f) x k t got) [
              | inl i ↦ absurd (omega (arith, slice_get_within (children_of f) k t i, z.1))
              | inr i ↦ i.1
            ] in
            let step : p ≡ q ++ length (children_of f) ∷ rest = is ∙ ap (λ y. q ++ y ∷ rest) (let y : m ≡ length (children_of f) = omega (arith, e, c tt, z.1) in y) in
            let own : p ≡ (q ++ length (children_of f) ∷ []) ++ rest = step ∙ sym (append_assoc q (length (children_of f) ∷ []) rest) in
            subst (ChildCut q B n (with_child f x))
            (ap (λ y. cond {A = Fragment} y (with_child f (change_at (λ old. v) rest x)) (with_child (change_child (change_at (λ old. v) rest) k f) x)) (sym z.0))
            (own_child q B n f x (change_at (λ old. v) rest x) rest h.0 h.1.1 step
            (ih x (q ++ length (children_of f) ∷ []) (B ++ (row def f ++ opening (is_bracketed def f x))) h.1.0 (ap (λ y. node_at y rest) same ∙ at) own))
        | inr z ↦
            let inner : slice_get (children_of f) k ≡ Some t = elim (get-split (children_of f) x k t got) [
              | inl i ↦ i
              | inr i ↦ absurd (z.1 (sym i.0))
            ] in
            subst (ChildCut q B n (with_child f x))
            (ap (λ y. cond {A = Fragment} y (with_child f (change_at (λ old. v) rest x)) (with_child (change_child (change_at (λ old. v) rest) k f) x)) (sym z.0))
            (child_front q B n f (change_child (change_at (λ old. v) rest) k f) x (through rest ih f k t q B n m h.0 (λ _. c tt) inner at e is))
      ]
  through rest ih (with_name f x) k t q B n m h c got at e is =
      let f' : Fragment = change_child (change_at (λ old. v) rest) k f in
      leaf_front q B n f f' (with_name f x) (with_name f' x) x refl refl refl refl refl refl (λ l. refl) refl refl refl refl
      (through rest ih f k t q B n m h.0 (λ _. c tt) got at e is)
  through rest ih (with_number f x) k t q B n m h c got at e is =
      let f' : Fragment = change_child (change_at (λ old. v) rest) k f in
      leaf_front q B n f f' (with_number f x) (with_number f' x) (decimal x) refl refl refl refl refl refl (λ l. refl) refl refl refl refl
      (through rest ih f k t q B n m h.0 (λ _. c tt) got at e is)
  through rest ih (with_text f x) k t q B n m h c got at e is =
      let f' : Fragment = change_child (change_at (λ old. v) rest) k f in
      leaf_front q B n f f' (with_text f x) (with_text f' x) (quoted x) refl refl refl refl refl refl (λ l. refl) refl refl refl refl
      (through rest ih f k t q B n m h.0 (λ _. c tt) got at e is)
  through rest ih anything k t q B n m h c got at e is = absurd h
  through rest ih (observed f) k t q B n m h c got at e is = absurd h

  here : (q : Path) (B : Pieces) → p ≡ q → NodeCut q B u v
  here q B e = record {
    level = sym fit.levels;
    cut = record {
      pre = [];
      post = [];
      ahead = [];
      rear = [];
      row_old = sym (append-nil (row def u));
      row_new = sym (append-nil (row def v));
      spans_old =
          ap₂ (λ x y. spans_from def x u y) (sym e) (sym (append-nil B)) ∙ sym (append-nil (spans_from def p u (B ++ [])));
      spans_new =
          ap₂ (λ x y. spans_from def x v y) (sym e) (sym (append-nil B)) ∙ sym (append-nil (spans_from def p v (B ++ [])));
    };
  }

  pub down : (rest : Path) → Below rest
  down [] t q B h at e =
      let same : u ≡ t = (let z : Some t ≡ Some u = at in cc) in
      subst (λ z. NodeCut q B z v) same (here q B (e ∙ append-nil q))
  down (k ∷ rest) t q B h at e =
      let (x, (got, inner)) = into (slice_get (children_of t) k) rest u at in
      node_of q B t (replaced (k ∷ rest) v t) (k ∷ rest) e
      (through rest (down rest) t k x q B 0 k h (λ _. refl) got inner (let z : k ≡ 0 + k = omega arith in z) e)
