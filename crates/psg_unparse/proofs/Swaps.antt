-- What is written after two rows that fit in each other's place, and the spans there.
use Rattle.std.proofs.Common.{◌≡◌, ℕ, suc, ◌+◌, ◌<◌, ◌≤◌, Bool, true, List, [], ◌∷◌, ◌++◌, length, map, Option, Some, None, refl, ap, ap₂, sym, subst, ◌∙◌, append_assoc, append-nil, length-append, arith}
use Rattle.std.specs.List.{AllByRecursion}
use Rattle.std.proofs.lemmas.Bool.{and_parts}
use Rattle.std.proofs.lemmas.List.{map-append}
use Rattle.psg_grammar.specs.declared.types.Definition.{Definition}
use Rattle.psg_grammar.specs.Fragments.{Fragment, hole, ending, cell, operator, with_child, with_name, with_number, with_text, anything, observed, children_of}
use Rattle.psg_grammar.specs.Paths.{Path}
use Rattle.psg_tree.specs.AbstractText.{quoted}
use Rattle.std.specs.Prelude.{decimal}
use Rattle.psg_unparse.specs.Rows.{token, mark, row, is_bracketed, opening, closing, words_behind, between}
use Rattle.psg_unparse.specs.Layout.{laid, lead, last_in}
use Rattle.psg_unparse.proofs.Rows.{laid-append}
use Rattle.psg_unparse.specs.declared.spans.Span.{Span}
use Rattle.psg_unparse.specs.Plain.{plain_in}
use Rattle.psg_unparse.specs.Splicing.{FitsInPlace, moved, shifted, set_in}
use Rattle.psg_unparse.specs.Walking.{span_at, spans_below, spans_from}
use Rattle.psg_unparse.proofs.Adding.{plain_in-append}
use Rattle.psg_unparse.proofs.States.{Pieces, State, state_of, start, after, run, lay, front, runs, laid_is, lead_is, IsLike, Like, like_run, like_lay, like_front, plain_lay, offset, front_more, no_text, heads_alike, lasts_like, IsAfter, after_plain}

pub same_span : {p q : Path} {s t e d : ℕ} → p ≡ q → s ≡ t → e ≡ d
    → ◌≡◌ {A = Span} (record { path = p; start = s; end = e }) (record { path = q; start = t; end = d })
same_span f g h = cc

-- the text of a row after another one
pub whole_length : (pre r : Pieces) → length (laid [] (pre ++ r)) ≡ length (laid [] pre) + length (lay (state_of pre) r)
whole_length pre r =
    ap length (laid-append [] pre r ∙ ap (λ y. laid [] pre ++ y) (laid_is pre r)) ∙ length-append (laid [] pre) (lay (state_of pre) r)

alone_length : (s : State) (r : Pieces) → plain_in None r ≡ true → length (lay s r) ≡ length (front s r) + length (laid [] r)
alone_length s r p =
    ap length (plain_lay s r p) ∙ length-append (front s r) (lay start r) ∙ ap (λ y. length (front s r) + length y) (sym (laid_is [] r))

-- how many spans a tree has does not depend on where it is
pub count_below : (def : Definition) (q q' : Path) (x x' : Pieces) (n n' : ℕ) (t : Fragment) → length (spans_below def q x n t) ≡ length (spans_below def q' x' n' t)
count_below def q q' x x' n n' (hole p) = refl
count_below def q q' x x' n n' (ending l u) = refl
count_below def q q' x x' n n' (cell l e r) =
    length-append (span_at def (q ++ n ∷ []) x e ∷ spans_below def (q ++ n ∷ []) x 0 e) (spans_below def q (x ++ (row def e ++ between def l r)) (n + 1) r)
    ∙ ap₂ (λ a b. suc a + b) (count_below def (q ++ n ∷ []) (q' ++ n' ∷ []) x x' 0 0 e)
    (count_below def q q' (x ++ (row def e ++ between def l r)) (x' ++ (row def e ++ between def l r)) (n + 1) (n' + 1) r)
    ∙ sym (length-append (span_at def (q' ++ n' ∷ []) x' e ∷ spans_below def (q' ++ n' ∷ []) x' 0 e) (spans_below def q' (x' ++ (row def e ++ between def l r)) (n' + 1) r))
count_below def q q' x x' n n' (operator o) = refl
count_below def q q' x x' n n' (with_child f t) =
    let k : ℕ = length (children_of f) in
    let o : Pieces = row def f ++ opening (is_bracketed def f t) in
    length-append (spans_below def q x n f) (span_at def (q ++ k ∷ []) (x ++ o) t ∷ spans_below def (q ++ k ∷ []) (x ++ o) 0 t)
    ∙ ap₂ (λ a b. a + suc b) (count_below def q q' x x' n n' f) (count_below def (q ++ k ∷ []) (q' ++ k ∷ []) (x ++ o) (x' ++ o) 0 0 t)
    ∙ sym (length-append (spans_below def q' x' n' f) (span_at def (q' ++ k ∷ []) (x' ++ o) t ∷ spans_below def (q' ++ k ∷ []) (x' ++ o) 0 t))
count_below def q q' x x' n n' (with_name f y) = count_below def q q' x x' n n' f
count_below def q q' x x' n n' (with_number f y) = count_below def q q' x x' n n' f
count_below def q q' x x' n n' (with_text f y) = count_below def q q' x x' n n' f
count_below def q q' x x' n n' anything = refl
count_below def q q' x x' n n' (observed f) = count_below def q q' x x' n n' f

module _ (a b : ℕ) where
  -- the same is written after both rows, but `b` bytes are in the one for `a` in the other
  pub record Later (x y : Pieces) : Type 0 where
    pub like : Like (state_of x) (state_of y)
    pub long : length (laid [] y) + a ≡ length (laid [] x) + b
    pub enough : a ≤ length (laid [] x)

  pub later_more : (x y z : Pieces) → Later x y → Later (x ++ z) (y ++ z)
  later_more x y z h =
      let e : length (lay (state_of x) z) ≡ length (lay (state_of y) z) = ap length (like_lay (state_of x) (state_of y) z h.like) in
      record {
        like =
            subst (λ w. Like w (state_of (y ++ z))) (sym (runs x z))
            (subst (λ w. Like (run (state_of x) z) w) (sym (runs y z)) (like_run (state_of x) (state_of y) z h.like));
        long = omega (arith, whole_length x z, whole_length y z, e, h.long);
        enough = omega (arith, whole_length x z, h.enough);
      }

  moved_by : (m n : ℕ) → n + a ≡ m + b → n ≡ moved a b m
  moved_by m n e = omega (arith, e)

  module _ (def : Definition) where
    pub shifted_span : (x y : Pieces) → Later x y → (q : Path) (t : Fragment) → span_at def q y t ≡ shifted a b (span_at def q x t)
    shifted_span x y h q t =
        let e : length (lead y (row def t)) ≡ length (lead x (row def t)) =
        ap length (lead_is y (row def t) ∙ sym (like_front (state_of x) (state_of y) (row def t) h.like) ∙ sym (lead_is x (row def t))) in
        let k : Later (x ++ row def t) (y ++ row def t) = later_more x y (row def t) h in
        same_span refl (moved_by (length (laid [] x) + length (lead x (row def t))) (length (laid [] y) + length (lead y (row def t))) (omega (arith, h.long, e)))
        (moved_by (length (laid [] (x ++ row def t))) (length (laid [] (y ++ row def t))) k.long)

    pub shifted_below : (x y : Pieces) → Later x y → (q : Path) (n : ℕ) (t : Fragment) → spans_below def q y n t ≡ map (shifted a b) (spans_below def q x n t)
    shifted_below x y h q n (hole p) = refl
    shifted_below x y h q n (ending l u) = refl
    shifted_below x y h q n (cell l e r) =
        let w : Pieces = row def e ++ between def l r in
        ap₂ (λ s t. s ++ t) (ap₂ (λ s t. s ∷ t) (shifted_span x y h (q ++ n ∷ []) e) (shifted_below x y h (q ++ n ∷ []) 0 e))
        (shifted_below (x ++ w) (y ++ w) (later_more x y w h) q (n + 1) r)
        ∙ sym (map-append (shifted a b) (span_at def (q ++ n ∷ []) x e ∷ spans_below def (q ++ n ∷ []) x 0 e) (spans_below def q (x ++ w) (n + 1) r))
    shifted_below x y h q n (operator o) = refl
    shifted_below x y h q n (with_child f t) =
        let k : Path = q ++ length (children_of f) ∷ [] in
        let w : Pieces = row def f ++ opening (is_bracketed def f t) in
        ap₂ (λ s t. s ++ t) (shifted_below x y h q n f)
        (ap₂ (λ s t. s ∷ t) (shifted_span (x ++ w) (y ++ w) (later_more x y w h) k t) (shifted_below (x ++ w) (y ++ w) (later_more x y w h) k 0 t))
        ∙ sym (map-append (shifted a b) (spans_below def q x n f) (span_at def k (x ++ w) t ∷ spans_below def k (x ++ w) 0 t))
    shifted_below x y h q n (with_name f z) = shifted_below x y h q n f
    shifted_below x y h q n (with_number f z) = shifted_below x y h q n f
    shifted_below x y h q n (with_text f z) = shifted_below x y h q n f
    shifted_below x y h q n anything = refl
    shifted_below x y h q n (observed f) = shifted_below x y h q n f

    pub shifted_from : (x y : Pieces) → Later x y → (q : Path) (t : Fragment) → spans_from def q t y ≡ map (shifted a b) (spans_from def q t x)
    shifted_from x y h q t = ap₂ (λ s t. s ∷ t) (shifted_span x y h q t) (shifted_below x y h q 0 t)

-- ---- two nodes

module _ (def : Definition) (u v : Fragment) (fit : FitsInPlace def u v) where
  abbrev pub ru : Pieces
  ru = row def u

  abbrev pub rv : Pieces
  rv = row def v

  abbrev pub size_u : ℕ
  size_u = length (laid [] (row def u))

  abbrev pub size_v : ℕ
  size_v = length (laid [] (row def v))

  pub same_front : (s : State) → front s (row def u) ≡ front s (row def v)
  same_front s = heads_alike s (row def u) (row def v) fit.old_plain.last fit.new_plain.last fit.old_plain.marks fit.old_plain.last_is
      fit.new_plain.marks fit.new_plain.last_is fit.heads

  -- the gap in front of a row with the node in it
  pub front_swap : (s : State) (pre post : Pieces) → front s (pre ++ (row def u ++ post)) ≡ front s (pre ++ (row def v ++ post))
  front_swap s [] post =
      front_more s (row def u) post fit.old_plain.last fit.old_plain.last_is ∙ same_front s
      ∙ sym (front_more s (row def v) post fit.new_plain.last fit.new_plain.last_is)
  front_swap s (token t ∷ pre) post = refl
  front_swap s (mark i ∷ pre) post = front_swap (after s (mark i)) pre post

  pub size_of_u : (s : State) → length (lay s (row def u)) ≡ length (front s (row def u)) + size_u
  size_of_u s = alone_length s (row def u) fit.old_plain.marks

  pub size_of_v : (s : State) → length (lay s (row def v)) ≡ length (front s (row def v)) + size_v
  size_of_v s = alone_length s (row def v) fit.new_plain.marks

  same_after : (s : State) → Like (run s (row def u)) (run s (row def v))
  same_after s =
      let x : IsAfter s (row def u) = after_plain s (row def u) fit.old_plain.last fit.old_plain.marks fit.old_plain.last_is in
      let y : IsAfter s (row def v) = after_plain s (row def v) fit.new_plain.last fit.new_plain.marks fit.new_plain.last_is in
      record {
        last =
            subst (λ l. IsLike l (run s (row def v)).last) (sym x.last)
            (subst (λ l. IsLike (last_in None (row def u)) l) (sym y.last) (lasts_like (last_in None (row def u)) (last_in None (row def v)) fit.lasts));
        levels = x.levels ∙ sym y.levels;
        line = x.line ∙ fit.old_plain.line ∙ sym (y.line ∙ fit.new_plain.line);
        tight = x.tight ∙ fit.old_plain.tight ∙ sym (y.tight ∙ fit.new_plain.tight);
        space = x.space ∙ fit.old_plain.space ∙ sym (y.space ∙ fit.new_plain.space);
      }

  pub later_node : (pre : Pieces) → Later size_u size_v (pre ++ row def u) (pre ++ row def v)
  later_node pre =
      let s : State = state_of pre in
      let g : length (front s (row def u)) ≡ length (front s (row def v)) = ap length (same_front s) in
      record {
        like =
            subst (λ w. Like w (state_of (pre ++ row def v))) (sym (runs pre (row def u)))
            (subst (λ w. Like (run s (row def u)) w) (sym (runs pre (row def v))) (same_after s));
        long = omega (arith, whole_length pre (row def u), whole_length pre (row def v), size_of_u s, size_of_v s, g);
        enough = omega (arith, whole_length pre (row def u), size_of_u s);
      }

  -- ---- the spans of the new node, in the whole text and by itself

  module _ (p : Path) (B : Pieces) where
    abbrev pub node : Span
    node = span_at def p B u

    abbrev Starts : Pieces → Type 0
    Starts z = (y : Pieces) × (z ++ y ≡ row def v)

    starts_front : (x r w : Pieces) → Starts (x ++ (r ++ w)) → Starts (x ++ r)
    starts_front x r w h = (w ++ h.0, sym (append_assoc (x ++ r) w h.0) ∙ ap (λ z. z ++ h.0) (append_assoc x r w) ∙ h.1)

    starts_past : (x r w : Pieces) → Starts (x ++ (r ++ w)) → Starts ((x ++ r) ++ w)
    starts_past x r w h = (h.0, ap (λ z. z ++ h.0) (append_assoc x r w) ∙ h.1)

    set_known : (x : Pieces) (q : Path) (t : Fragment) (l : Option ℕ) → last_in None (x ++ row def t) ≡ l → Starts (x ++ row def t)
        → 0 < length (laid [] (x ++ row def t)) → span_at def (p ++ q) (B ++ x) t ≡ set_in node (span_at def q x t)
    set_known x q t None e h some =
        let z : length (laid [] (x ++ row def t)) ≡ 0 = ap length (laid_is [] (x ++ row def t) ∙ no_text start (x ++ row def t) e) in
        absurd (omega (arith, z, some))
    set_known x q t (Some c) e h some =
        let z : Pieces = x ++ row def t in
        let s : State = state_of B in
        let plain : plain_in None (x ++ row def t) ≡ true =
        (and_parts (plain_in None (x ++ row def t)) (plain_in (last_in None (x ++ row def t)) h.0) (sym (plain_in-append None (x ++ row def t) h.0) ∙ ap (plain_in None) h.1 ∙ fit.new_plain.marks)).0 in
        let lead_u : length (lead B (row def u)) ≡ length (front s (x ++ row def t)) =
        ap length (lead_is B (row def u) ∙ same_front s ∙ ap (front s) (sym h.1) ∙ front_more s (x ++ row def t) h.0 c e) in
        let at : length (lay s x) + length (front (run s x) (row def t)) ≡ length (front s (x ++ row def t)) + (length (lay start x) + length (front (run start x) (row def t))) =
        offset s x (row def t) plain in
        let whole : length (laid [] (B ++ x)) ≡ length (laid [] B) + length (lay s x) = whole_length B x in
        let lead_whole : length (lead (B ++ x) (row def t)) ≡ length (front (run s x) (row def t)) =
        ap length (lead_is (B ++ x) (row def t) ∙ ap (λ w. front w (row def t)) (runs B x)) in
        let own : length (laid [] x) ≡ length (lay start x) = ap length (laid_is [] x) in
        let lead_own : length (lead x (row def t)) ≡ length (front (run start x) (row def t)) =
        ap length (lead_is x (row def t) ∙ ap (λ w. front w (row def t)) (runs [] x)) in
        let all : length (laid [] ((B ++ x) ++ row def t)) ≡ length (laid [] B) + length (lay s (x ++ row def t)) =
        ap (λ w. length (laid [] w)) (append_assoc B x (row def t)) ∙ whole_length B (x ++ row def t) in
        let alone : length (lay s (x ++ row def t)) ≡ length (front s (x ++ row def t)) + length (laid [] (x ++ row def t)) = alone_length s (x ++ row def t) plain in
        same_span refl (omega (arith, lead_u, at, whole, lead_whole, own, lead_own)) (omega (arith, lead_u, all, alone))

    abbrev Begun : List Span → Type 0
    Begun spans = AllByRecursion (λ (s : Span). 0 < s.end) spans

    begun_left : (xs ys : List Span) → Begun (xs ++ ys) → Begun xs
    begun_left [] ys h = tt
    begun_left (x ∷ xs) ys h = (h.0, begun_left xs ys h.1)

    begun_right : (xs ys : List Span) → Begun (xs ++ ys) → Begun ys
    begun_right [] ys h = h
    begun_right (x ∷ xs) ys h = begun_right xs ys h.1

    set_span : (x : Pieces) (q : Path) (t : Fragment) → Starts (x ++ row def t) → 0 < (span_at def q x t).end
        → span_at def (p ++ q) (B ++ x) t ≡ set_in node (span_at def q x t)
    set_span x q t h some = set_known x q t (last_in None (x ++ row def t)) refl h some

    set_below : (x : Pieces) (q : Path) (n : ℕ) (t : Fragment) → Starts (x ++ row def t) → Begun (spans_below def q x n t)
        → spans_below def (p ++ q) (B ++ x) n t ≡ map (set_in node) (spans_below def q x n t)
    set_below x q n (hole y) h g = refl
    set_below x q n (ending l y) h g = refl
    set_below x q n (cell l e r) h g =
        let w : Pieces = row def e ++ between def l r in
        let first : List Span = span_at def (q ++ n ∷ []) x e ∷ spans_below def (q ++ n ∷ []) x 0 e in
        let rest : List Span = spans_below def q (x ++ (row def e ++ between def l r)) (n + 1) r in
        let gf : Begun first = begun_left first rest g in
        let here : Starts (x ++ row def e) = starts_front x (row def e) (between def l r ++ row def r) h in
        let past : Starts (((x ++ row def e) ++ between def l r) ++ row def r) =
        starts_past (x ++ row def e) (between def l r) (row def r) (starts_past x (row def e) (between def l r ++ row def r) h) in
        let there : Starts ((x ++ (row def e ++ between def l r)) ++ row def r) =
        subst (λ z. Starts (z ++ row def r)) (append_assoc x (row def e) (between def l r)) past in
        ap₂ (λ s t. s ++ t)
        (ap (λ k. span_at def k (B ++ x) e ∷ spans_below def k (B ++ x) 0 e) (append_assoc p q (n ∷ []))
        ∙ ap₂ (λ s t. s ∷ t) (set_span x (q ++ n ∷ []) e here gf.0) (set_below x (q ++ n ∷ []) 0 e here gf.1))
        (ap (λ z. spans_below def (p ++ q) z (n + 1) r) (append_assoc B x w) ∙ set_below (x ++ w) q (n + 1) r there (begun_right first rest g))
        ∙ sym (map-append (set_in node) first rest)
    set_below x q n (operator o) h g = refl
    set_below x q n (with_child f t) h g =
        let br : Bool = is_bracketed def f t in
        let w : Pieces = row def f ++ opening (is_bracketed def f t) in
        let k : ℕ = length (children_of f) in
        let first : List Span = spans_below def q x n f in
        let rest : List Span = span_at def (q ++ length (children_of f) ∷ []) (x ++ (row def f ++ opening (is_bracketed def f t))) t
        ∷ spans_below def (q ++ length (children_of f) ∷ []) (x ++ (row def f ++ opening (is_bracketed def f t))) 0 t in
        let gr : Begun rest = begun_right first rest g in
        let tail : Pieces = closing (is_bracketed def f t) ++ words_behind def f in
        let here : Starts (x ++ row def f) = starts_front x (row def f) (opening br ++ (row def t ++ tail)) h in
        let past : Starts ((x ++ row def f) ++ (opening br ++ (row def t ++ tail))) = starts_past x (row def f) (opening br ++ (row def t ++ tail)) h in
        let past2 : Starts (((x ++ row def f) ++ opening br) ++ (row def t ++ tail)) = starts_past (x ++ row def f) (opening br) (row def t ++ tail) past in
        let past3 : Starts (((x ++ row def f) ++ opening br) ++ row def t) = starts_front ((x ++ row def f) ++ opening br) (row def t) tail past2 in
        let there : Starts ((x ++ (row def f ++ opening (is_bracketed def f t))) ++ row def t) =
        subst (λ z. Starts (z ++ row def t)) (append_assoc x (row def f) (opening br)) past3 in
        ap₂ (λ s t. s ++ t) (set_below x q n f here (begun_left first rest g))
        (ap₂ (λ c z. span_at def c z t ∷ spans_below def c z 0 t) (append_assoc p q (k ∷ [])) (append_assoc B x w)
        ∙ ap₂ (λ s t. s ∷ t) (set_span (x ++ w) (q ++ k ∷ []) t there gr.0) (set_below (x ++ w) (q ++ k ∷ []) 0 t there gr.1))
        ∙ sym (map-append (set_in node) first rest)
    set_below x q n (with_name f y) h g = set_below x q n f (starts_front x (row def f) (token y ∷ words_behind def f) h) g
    set_below x q n (with_number f y) h g = set_below x q n f (starts_front x (row def f) (token (decimal y) ∷ words_behind def f) h) g
    set_below x q n (with_text f y) h g = set_below x q n f (starts_front x (row def f) (token (quoted y) ∷ words_behind def f) h) g
    set_below x q n anything h g = refl
    set_below x q n (observed f) h g = set_below x q n f h g

    pub set_from : Begun (spans_from def [] v []) → spans_from def p v B ≡ map (set_in node) (spans_from def [] v [])
    set_from g =
        let h : Starts ([] ++ row def v) = ([], append-nil (row def v)) in
        ap₂ (λ q z. spans_from def q v z) (sym (append-nil p)) (sym (append-nil B))
        ∙ ap₂ (λ s t. s ∷ t) (set_span [] [] v h g.0) (set_below [] [] 0 v h g.1)
