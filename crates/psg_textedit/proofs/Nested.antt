-- The span of a node is in that of its parent.
use Rattle.std.proofs.Common.{◌≡◌, ◌⊎◌, inl, inr, ℕ, zero, suc, ◌+◌, ◌≤◌, true, List, [], ◌∷◌, ◌++◌, length, Some, slice_get, refl, ap, sym, ◌∙◌, subst, append_assoc, append-nil}
use Rattle.std.specs.Prelude.{decimal}
use Rattle.std.specs.List.{AllByRecursion}
use Rattle.psg_grammar.specs.declared.types.Kind.{Kind}
use Rattle.psg_grammar.specs.declared.types.Kind.TheVariants as kinds
use Rattle.psg_grammar.specs.declared.types.Item.{Item}
use Rattle.psg_grammar.specs.declared.types.Item.TheVariants as items
use Rattle.psg_grammar.specs.declared.types.Definition.{Definition}
use Rattle.psg_grammar.specs.Fragments.{Fragment, hole, ending, cell, operator, with_child, with_name, with_number, with_text, anything, observed, children_of}
use Rattle.psg_grammar.specs.WellFormed.{Fits, IsPlain}
use Rattle.psg_tree.specs.AbstractText.{quoted}
use Rattle.psg_class.proofs.ClassFacts.{ClassFacts}
use Rattle.psg_unparse.specs.Rows.{Piece, token, row, is_bracketed, opening, closing, words_behind, between}
use Rattle.psg_unparse.specs.Layout.{laid}
use Rattle.psg_unparse.specs.Spots.{Spot, Placed, IsPlacedAt, top_spot, element_spot, rest_spot, child_spot, front_spot, leaf_spot, placed_from, placed_below, placed_in}
use Rattle.psg_unparse.proofs.Claims.{spine_of}
use Rattle.psg_unparse.specs.Spans.{span_of}
use Rattle.psg_unparse.proofs.Listed.{IsProper, proper, placed-top, each-append, each-at}
use Rattle.psg_textedit.specs.Laws.{IsNested}
use Rattle.psg_textedit.proofs.FirstTokens.{has_token, token_left, token_right, start_from, starts_before, ends_after, own_slot, tokens_of_tree}
use Rattle.psg_textedit.proofs.Readings.{snoc_once, nil_snoc}

abbrev Pieces : Type 0
Pieces = List Piece

-- ---- rows within rows

past_part : (x f w z : Pieces) → x ++ ((f ++ w) ++ z) ≡ x ++ (f ++ (w ++ z))
past_part x f w z = ap (λ y. x ++ y) (append_assoc f w z)

in_child_row : (x f o t c w z : Pieces)
    → x ++ ((f ++ (o ++ (t ++ (c ++ w)))) ++ z) ≡ (x ++ (f ++ o)) ++ (t ++ ((c ++ w) ++ z))
in_child_row x f o t c w z =
    ap (λ y. x ++ y)
    (append_assoc f (o ++ (t ++ (c ++ w))) z
    ∙ ap (λ y. f ++ y) (append_assoc o (t ++ (c ++ w)) z ∙ ap (λ y. o ++ y) (append_assoc t (c ++ w) z))
    ∙ sym (append_assoc f o (t ++ ((c ++ w) ++ z))))
    ∙ sym (append_assoc x (f ++ o) (t ++ ((c ++ w) ++ z)))

in_rest_row : (x e b r z : Pieces) → x ++ ((e ++ (b ++ r)) ++ z) ≡ (x ++ (e ++ b)) ++ (r ++ z)
in_rest_row x e b r z =
    ap (λ y. x ++ y)
    (append_assoc e (b ++ r) z ∙ ap (λ y. e ++ y) (append_assoc b r z) ∙ sym (append_assoc e b (r ++ z)))
    ∙ sym (append_assoc x (e ++ b) (r ++ z))

all_first : (P : Placed → Type 0) (xs ys : List Placed) → AllByRecursion P (xs ++ ys) → AllByRecursion P xs
all_first P [] ys h = tt
all_first P (x ∷ xs) ys h = (h.0, all_first P xs ys h.1)

all_last : (P : Placed → Type 0) (xs ys : List Placed) → AllByRecursion P (xs ++ ys) → AllByRecursion P ys
all_last P [] ys h = h
all_last P (x ∷ xs) ys h = all_last P xs ys h.1

listed_from : (whole front xs : List Placed) → front ++ xs ≡ whole
    → AllByRecursion (λ p. (k : ℕ) × (slice_get whole k ≡ Some p)) xs
listed_from whole front [] e = tt
listed_from whole front (x ∷ xs) e = (
  (length front, ap (λ ps. slice_get ps (length front)) (sym e) ∙ at_seam front x xs),
  listed_from whole (front ++ x ∷ []) xs (append_assoc front (x ∷ []) xs ∙ e),
) where
  at_seam : (ys : List Placed) (y : Placed) (zs : List Placed) → slice_get (ys ++ y ∷ zs) (length ys) ≡ Some y
  at_seam [] y zs = refl
  at_seam (w ∷ ys) y zs = at_seam ys y zs

module _ (def : Definition) (c : ClassFacts def) (whole : Fragment) where
  abbrev pub IsListed : Placed → Type 0
  IsListed p = (k : ℕ) × (slice_get (placed_in def whole) k ≡ Some p)

  pub record HasParent (p : Placed) : Type 0 where
    pub parent : Placed
    pub listed : IsListed parent
    pub number : ℕ
    pub path : p.spot.path ≡ parent.spot.path ++ number ∷ []
    pub start : (span_of def parent).start ≤ (span_of def p).start
    pub end : (span_of def p).end ≤ (span_of def parent).end

  -- The row of the parent is x, that of f, and z; the spot is after x.
  record IsIn (parent : Placed) (s : Spot) (f : Fragment) : Type 0 where
    x : Pieces
    z : Pieces
    before : parent.spot.before ++ x ≡ s.before
    rows : row def parent.node ≡ x ++ (row def f ++ z)
    path : parent.spot.path ≡ s.path

  -- a child in the parent's row
  has_parent : (parent : Placed) (p : Placed) (number : ℕ) (x y : Pieces) → IsListed parent
      → p.spot.path ≡ parent.spot.path ++ number ∷ [] → parent.spot.before ++ x ≡ p.spot.before
      → row def parent.node ≡ x ++ (row def p.node ++ y)
      → (has_token x ≡ true) ⊎ (has_token (row def p.node) ≡ true) → HasParent p
  has_parent parent p number x y listed path before rows some = record {
    parent = parent;
    listed = listed;
    number = number;
    path = path;
    start = subst (λ r. start_from parent.spot.before r ≤ (span_of def p).start)
        (sym rows)
        (subst (λ b. start_from parent.spot.before (x ++ (row def p.node ++ y)) ≤ start_from b (row def p.node)) before
        (starts_before parent.spot.before x (row def p.node) y some));
    end = subst (λ r. (span_of def p).end ≤ length (laid [] (parent.spot.before ++ r))) (sym rows)
        (subst (λ b. length (laid [] (b ++ row def p.node)) ≤ length (laid [] (parent.spot.before ++ (x ++ (row def p.node ++ y)))))
        before (ends_after parent.spot.before x (row def p.node) y));
  }

  -- the nodes of a tree at a place are it and those below it
  split_from : (P : Placed → Type 0) (s : Spot) (f : Fragment) → IsProper f → AllByRecursion P (placed_from def s f)
      → P (record { spot = s; node = f }) × AllByRecursion P (placed_below def s 0 f)
  split_from P s f h a = let b = subst (AllByRecursion P) (sym (placed-top def s f h)) a in (b.0, b.1)

  join_from : (P : Placed → Type 0) (s : Spot) (f : Fragment) → IsProper f → P (record { spot = s; node = f })
      → AllByRecursion P (placed_below def s 0 f) → AllByRecursion P (placed_from def s f)
  join_from P s f h a b = subst (AllByRecursion P) (placed-top def s f h) (a, b)

  own_row : (s : Spot) (f : Fragment) → IsIn (record { spot = s; node = f }) s f
  own_row s f = record {
    x = [];
    z = [];
    before = append-nil s.before;
    rows = sym (append-nil (row def f));
    path = refl;
  }

  -- what is in front of a child has a token, or the child has
  child_token : (f t : Fragment) (more : List Item) (kind k : Kind) → Fits def f (items.Slot k ∷ more) kind → IsPlain f
      → Fits def t [] k → IsPlain t → (x o : Pieces) → (has_token (x ++ (row def f ++ o)) ≡ true) ⊎ (has_token (row def t) ≡ true)
  child_token f t more kind k h plain g pure x o =
      elim ((tokens_of_tree def c f (items.Slot k ∷ more) kind h plain).part (spine_of def f (items.Slot k) more kind h)) [
        | inl e ↦ inl (token_right x (row def f ++ o) (token_left (row def f) o e))
        | inr u ↦ inr ((tokens_of_tree def c t [] k g pure).whole u.o.phylum (own_slot def c k more u) refl)
      ]

  leaf_in : (s : Spot) (f : Fragment) (w : List ℕ) (parent : Placed) (x z : Pieces) → parent.spot.before ++ x ≡ s.before
      → row def parent.node ≡ x ++ ((row def f ++ token w ∷ words_behind def f) ++ z) → parent.spot.path ≡ s.path
      → IsIn parent (leaf_spot def s f w) f
  leaf_in s f w parent x z before rows path = record {
    x = x;
    z = (token w ∷ words_behind def f) ++ z;
    before = before;
    rows = rows ∙ past_part x (row def f) (token w ∷ words_behind def f) z;
    path = path;
  }

  below : (s : Spot) (n : ℕ) (f : Fragment) (more : List Item) (kind : Kind) (parent : Placed) → Fits def f more kind
      → IsPlain f → IsProper f → IsListed parent → IsIn parent s f → AllByRecursion IsListed (placed_below def s n f)
      → AllByRecursion HasParent (placed_below def s n f)
  below s n (hole p) more kind parent h plain is listed i all = tt
  below s n (ending l u) more kind parent h plain is listed i all = tt
  below s n (cell l e r) more kind parent h plain is listed i all =
      let own = split_from IsListed (element_spot def s n l r) e is.0
      (all_first IsListed (placed_from def (element_spot def s n l r) e) (placed_below def (rest_spot def s l e r) (n + 1) r) all) in
      let p : Placed = record { spot = element_spot def s n l r; node = e } in
      let some : has_token (row def e) ≡ true = (tokens_of_tree def c e [] (kinds.Phylum h.2.element) h.4 plain.0).whole h.2.element refl refl in
      each-append HasParent (placed_from def (element_spot def s n l r) e) (placed_below def (rest_spot def s l e r) (n + 1) r)
      (join_from HasParent (element_spot def s n l r) e is.0
      (has_parent parent p n i.x ((between def l r ++ row def r) ++ i.z) listed
      (ap (λ q. q ++ n ∷ []) (sym i.path)) i.before
      (i.rows ∙ past_part i.x (row def e) (between def l r ++ row def r) i.z) (inr some))
      (below (element_spot def s n l r) 0 e [] (kinds.Phylum h.2.element) p h.4 plain.0 is.0 own.0
      (own_row (element_spot def s n l r) e) own.1))
      (below (rest_spot def s l e r) (n + 1) r [] (kinds.List l) parent h.5 plain.1 is.1.0 listed
      (record {
        x = i.x ++ (row def e ++ between def l r);
        z = i.z;
        before = sym (append_assoc parent.spot.before i.x (row def e ++ between def l r))
            ∙ ap (λ b. b ++ (row def e ++ between def l r)) i.before;
        rows = i.rows ∙ in_rest_row i.x (row def e) (between def l r) (row def r) i.z;
        path = i.path;
      })
      (all_last IsListed (placed_from def (element_spot def s n l r) e) (placed_below def (rest_spot def s l e r) (n + 1) r) all))
  below s n (operator o) more kind parent h plain is listed i all = tt
  below s n (with_child f t) more kind parent h plain is listed i all =
      let own = split_from IsListed (child_spot def s f t) t is.1.0
      (all_last IsListed (placed_below def (front_spot def s f t) n f) (placed_from def (child_spot def s f t) t) all) in
      let p : Placed = record { spot = child_spot def s f t; node = t } in
      each-append HasParent (placed_below def (front_spot def s f t) n f) (placed_from def (child_spot def s f t) t)
      (below (front_spot def s f t) n f (items.Slot h.0 ∷ more) kind parent h.1 plain.0 is.0 listed
      (record {
        x = i.x;
        z = (opening (is_bracketed def f t) ++ (row def t ++ (closing (is_bracketed def f t) ++ words_behind def f))) ++ i.z;
        before = i.before;
        rows = i.rows ∙ past_part i.x (row def f)
            (opening (is_bracketed def f t) ++ (row def t ++ (closing (is_bracketed def f t) ++ words_behind def f))) i.z;
        path = i.path;
      })
      (all_first IsListed (placed_below def (front_spot def s f t) n f) (placed_from def (child_spot def s f t) t) all))
      (join_from HasParent (child_spot def s f t) t is.1.0
      (has_parent parent p (length (children_of f)) (i.x ++ (row def f ++ opening (is_bracketed def f t)))
      ((closing (is_bracketed def f t) ++ words_behind def f) ++ i.z) listed
      (ap (λ q. q ++ length (children_of f) ∷ []) (sym i.path))
      (sym (append_assoc parent.spot.before i.x (row def f ++ opening (is_bracketed def f t)))
      ∙ ap (λ b. b ++ (row def f ++ opening (is_bracketed def f t))) i.before)
      (i.rows ∙ in_child_row i.x (row def f) (opening (is_bracketed def f t)) (row def t) (closing (is_bracketed def f t))
      (words_behind def f) i.z)
      (child_token f t more kind h.0 h.1 plain.0 h.2 plain.1 i.x (opening (is_bracketed def f t))))
      (below (child_spot def s f t) 0 t [] h.0 p h.2 plain.1 is.1.0 own.0 (own_row (child_spot def s f t) t) own.1))
  below s n (with_name f y) more kind parent (inl (v, h), name) plain is listed i all =
      below (leaf_spot def s f y) n f (items.Refers v ∷ more) kind parent h plain is.0 listed (leaf_in s f y parent i.x i.z i.before i.rows i.path) all
  below s n (with_name f y) more kind parent (inr (v, h), name) plain is listed i all =
      below (leaf_spot def s f y) n f (items.Declares v ∷ more) kind parent h plain is.0 listed (leaf_in s f y parent i.x i.z i.before i.rows i.path) all
  below s n (with_number f y) more kind parent h plain is listed i all =
      below (leaf_spot def s f (decimal y)) n f (items.Number ∷ more) kind parent h.0 plain is.0 listed
      (leaf_in s f (decimal y) parent i.x i.z i.before i.rows i.path) all
  below s n (with_text f y) more kind parent h plain is listed i all =
      below (leaf_spot def s f (quoted y)) n f (items.Text ∷ more) kind parent h.0 plain is.0 listed
      (leaf_in s f (quoted y) parent i.x i.z i.before i.rows i.path) all
  below s n anything more kind parent h plain is listed i all = absurd h
  below s n (observed f) more kind parent h plain is listed i all = absurd plain

  pub nested : IsNested def whole
  nested kind formed path k p at =
      let is : IsProper whole = proper def whole [] kind formed.0 formed.1 in
      let all : AllByRecursion IsListed (placed_in def whole) = listed_from (placed_in def whole) [] (placed_in def whole) refl in
      let top : Placed = record { spot = top_spot; node = whole } in
      let own = split_from IsListed top_spot whole is all in
      let under : AllByRecursion HasParent (placed_below def top_spot 0 whole) =
      below top_spot 0 whole [] kind top formed.0 formed.1 is own.0 (own_row top_spot whole) own.1 in
      found (placed_below def top_spot 0 whole) under at.0
      (subst (λ ps. slice_get ps at.0 ≡ Some p) (sym (placed-top def top_spot whole is)) at.1)
    where
      found : (ps : List Placed) → AllByRecursion HasParent ps → (j : ℕ)
          → slice_get (record { spot = top_spot; node = whole } ∷ ps) j ≡ Some p
          → (q : Placed) × IsPlacedAt def whole path q × ((span_of def q).start ≤ (span_of def p).start)
          × ((span_of def p).end ≤ (span_of def q).end)
      found ps a zero e =
          let both : Some (record { spot = top_spot; node = whole }) ≡ Some p = e in
          let top : record { spot = top_spot; node = whole } ≡ p = cc in
          absurd (nil_snoc path k (ap (λ (x : Placed). x.spot.path) top ∙ at.2))
      found ps a (suc j) e =
          let b = each-at HasParent ps j p a e in
          let same : b.parent.spot.path ≡ path = snoc_once b.parent.spot.path path b.number k (sym b.path ∙ at.2) in
          (b.parent, (b.listed.0, b.listed.1, same), b.start, b.end)
