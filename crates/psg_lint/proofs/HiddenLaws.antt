-- A place below one that is opened is not seen in the tree: so it is never blamed, and a blamed node is there.
use Rattle.std.proofs.Common.{◌≡◌, ◌⊎◌, inl, inr, ℕ, suc, ◌+◌, ◌<◌, ◌&&◌, ◌||◌, not, Bool, true, false, cond, List, [], ◌∷◌, ◌++◌, length, Option, Some, refl, ap, ap₂, sym, ◌∙◌, subst, arith, true≢false, length-append}
use Rattle.std.specs.Prelude.{nat_eq, nat_lt}
use Rattle.std.proofs.lemmas.Bool.{and_parts, eqb-true, ltb-true}
use Rattle.psg_terms.specs.Names.{Name as Word}
use Rattle.psg_grammar.specs.declared.types.Definition.{Definition}
use Rattle.psg_grammar.specs.declared.types.Item.{Item}
use Rattle.psg_grammar.specs.declared.types.Item.TheVariants as items
use Rattle.psg_grammar.specs.declared.types.Kind.{Kind}
use Rattle.psg_grammar.specs.declared.types.Kind.TheVariants as kinds
use Rattle.psg_grammar.specs.Fragments.{Fragment, hole, ending, cell, operator, with_child, with_name, with_number}
use Rattle.psg_grammar.specs.Fragments.{with_text, anything, observed, children_of}
use Rattle.psg_grammar.specs.Lookups.{is_declares, next_item}
use Rattle.psg_grammar.specs.Paths.{Path, node_at}
use Rattle.psg_grammar.specs.WellFormed.{Fits, IsPlain}
use Rattle.psg_cache.specs.Notes.{IsFormed}
use Rattle.psg_places.specs.declared.place.Place.{Place}
use Rattle.psg_places.specs.declared.place.Place.TheVariants.{Node, Element, End, Name}
use Rattle.psg_places.specs.Opened.{contents, name_or_fresh, opened, opened_child, opened_element}
use Rattle.psg_places.specs.Places.{below, child_places, content_count, content_places, declared_count, declared_places}
use Rattle.psg_places.specs.Places.{element_size, has_no_placeholder, is_hole, may_go_on, names_before, phylum_of, places_of}
use Rattle.psg_places.specs.Ways.{covers, goes_into, goes_past, goes_through, takes_along}
use Rattle.psg_places.proofs.CountLaws.{content_length, declared_length, element_length}
use Rattle.psg_places.proofs.InsideLaws.{IsParts}
use Rattle.psg_places.proofs.WalkLaws.{IsShaped, shaped}
use Rattle.psg_uses.specs.Naming.{path_of_place}
use Rattle.psg_lint.proofs.PlaceLaws.{IsElementAt, IsFree, IsNodeAt, IsPartOf, IsPlaced, child_part, head_below, last_below}
use Rattle.psg_lint.proofs.PlaceLaws.{name_part, no_chain, rest_part, same_part, whole_part}

-- ---- what is hidden by an opened place

-- what is at the path
abbrev pub hides : Place → Path → Bool
hides y p = covers p y || takes_along p y

-- what is below the node at the path, and its names and end
abbrev shades : Place → Path → Bool
shades (Node q) p = goes_through q p
shades (Element q) p = goes_into q p
shades (End q) p = false
shades (Name q k) p = false

pub bool_cases : (b : Bool) → (b ≡ true) ⊎ (b ≡ false)
bool_cases true = inl refl
bool_cases false = inr refl

and_no : (a : Bool) → (a && false) ≡ false
and_no true = refl
and_no false = refl

-- in front of one more step, or that step, too
through_more : (q p : Path) (k : ℕ) → goes_through q (p ++ k ∷ []) ≡ true → (goes_through q p ≡ true) ⊎ (q ≡ p ++ k ∷ [])
through_more [] p k e = inl refl
through_more (j ∷ []) [] k e = inr (ap (λ n. n ∷ []) (eqb-true j k (and_parts (nat_eq j k) true e).0))
through_more (j ∷ (i ∷ q)) [] k e = absurd (true≢false (sym (and_parts (nat_eq j k) false e).1))
through_more (j ∷ q) (i ∷ p) k e =
    let (here, more) = and_parts (nat_eq j i) (goes_through q (p ++ k ∷ [])) e in
    elim (through_more q p k more) [
      | inl h ↦ inl (ap₂ (λ a b. a && b) here h)
      | inr h ↦ inr (ap₂ (λ n ns. n ∷ ns) (eqb-true j i here) h)
    ]

not_under : (n : ℕ) → nat_lt n n ≡ true → ⊥
not_under n e = let lt : n < n = ltb-true n n e in omega (arith, lt)

seen_here : (y : Place) (p : Path) → shades y p ≡ false → hides y p ≡ false
seen_here (Node q) p e = ap (λ b. (nat_lt (length q) (length p) && b) || false) e ∙ ap (λ b. b || false) (and_no (nat_lt (length q) (length p)))
seen_here (Element q) p e = e
seen_here (End q) p e = refl
seen_here (Name q k) p e = refl

-- below what is seen all is seen but the place itself
seen_below : (y : Place) (p : Path) (k : ℕ) → shades y p ≡ false
    → (shades y (below p k) ≡ false) ⊎ ((y ≡ Node (below p k)) ⊎ (y ≡ Element (below p k)))
seen_below (Node q) p k e = elim (bool_cases (goes_through q (below p k))) [
  | inl t ↦ elim (through_more q p k t) [ inl h ↦ absurd (true≢false (sym h ∙ e)) | inr h ↦ inr (inl (ap Node h)) ]
  | inr f ↦ inl f
]
seen_below (Element []) p k e = inl refl
seen_below (Element (j ∷ q)) p k e = elim (bool_cases (goes_through (j ∷ q) (below p k))) [
  | inl t ↦ elim (through_more (j ∷ q) p k t) [ inl h ↦ absurd (true≢false (sym h ∙ e)) | inr h ↦ inr (inr (ap Element h)) ]
  | inr f ↦ inl f
]
seen_below (End q) p k e = inl refl
seen_below (Name q n) p k e = inl refl

seen_next : (y : Place) (p : Path) (k : ℕ) → shades y p ≡ false → (y ≡ Element (below p k) → ⊥) → hides y (below p k) ≡ false
seen_next (Node q) p k e never = elim (bool_cases (goes_past q (below p k))) [
  | inl t ↦
      let (short, through) = and_parts (nat_lt (length q) (length (below p k))) (goes_through q (below p k)) t in
      elim (through_more q p k through) [
        | inl h ↦ absurd (true≢false (sym h ∙ e))
        | inr h ↦ absurd (not_under (length q) (ap (λ z. nat_lt (length q) (length z)) h ∙ short))
      ]
  | inr f ↦ ap (λ b. b || false) f
]
seen_next (Element []) p k e never = refl
seen_next (Element (j ∷ q)) p k e never = elim (bool_cases (goes_through (j ∷ q) (below p k))) [
  | inl t ↦ elim (through_more (j ∷ q) p k t) [
    | inl h ↦ absurd (true≢false (sym h ∙ e))
    | inr h ↦ absurd (never (ap Element h))
  ]
  | inr f ↦ f
]
seen_next (End q) p k e never = refl
seen_next (Name q n) p k e never = refl

seen_top : (y : Place) → hides y [] ≡ false
seen_top (Node []) = refl
seen_top (Node (k ∷ q)) = ap (λ b. b || false) (and_no (nat_lt (length (k ∷ q)) 0))
seen_top (Element []) = refl
seen_top (Element (k ∷ q)) = refl
seen_top (End q) = refl
seen_top (Name q k) = refl

shade_top : (y : Place) → (shades y [] ≡ false) ⊎ (y ≡ Node [])
shade_top (Node []) = inr refl
shade_top (Node (k ∷ q)) = inl refl
shade_top (Element []) = inl refl
shade_top (Element (k ∷ q)) = inl refl
shade_top (End q) = inl refl
shade_top (Name q k) = inl refl

same_step : (p q : Path) (k j : ℕ) → p ++ k ∷ [] ≡ q ++ j ∷ [] → p ≡ q
same_step [] [] k j e = refl
same_step [] (i ∷ q) k j e = absurd (short (length q) (ap length e ∙ ap suc (length-append q (j ∷ [])))) where
  short : (n : ℕ) → 1 ≡ suc (n + 1) → ⊥
  short n e = omega (arith, e)
same_step (i ∷ p) [] k j e = absurd (long (length p) (sym (ap suc (length-append p (k ∷ []))) ∙ ap length e)) where
  long : (n : ℕ) → suc (n + 1) ≡ 1 → ⊥
  long n e = omega (arith, e)
same_step (i ∷ p) (m ∷ q) k j e = ap₂ (λ n ns. n ∷ ns) (ap head e) (same_step p q k j (ap tail e)) where
  head : Path → ℕ
  head [] = 0
  head (n ∷ ns) = n

  tail : Path → Path
  tail [] = []
  tail (n ∷ ns) = ns

same_node : (x : Option Fragment) (a b : Fragment) → x ≡ Some a → x ≡ Some b → a ≡ b
same_node x a b e f = cc

same_path : (p q : Path) → Element p ≡ Element q → p ≡ q
same_path p q e = ap path_of_place e

not_free : (def : Definition) (g : Fragment) → IsParts g → IsFree def g → ⊥
not_free def (operator o) h k = k
not_free def (with_child f t) h k = k
not_free def (with_name f x) h k = k
not_free def (with_number f x) h k = k
not_free def (with_text f x) h k = k
not_free def (hole p) h k = h
not_free def (ending l u) h k = h
not_free def (cell l e r) h k = h
not_free def anything h k = h
not_free def (observed f) h k = h

-- A and B say the same of all places but of some that y hides, and y is kept by neither.
module _ (def : Definition) (A B : ℕ → Bool) (fresh : ℕ → Word) (F : Fragment) (y : Place) (real : IsPlaced def F y) where
  abbrev pub Tie : ℕ → Place → Type 0
  Tie n x = ((A n ≡ B n) ⊎ (hides y (path_of_place x) ≡ true)) × (y ≡ x → (A n ≡ false) × (B n ≡ false))

  abbrev pub Ties : ℕ → List Place → Type 0
  Ties n [] = Unit {0}
  Ties n (x ∷ xs) = Tie n x × Ties (n + 1) xs

  split : (n : ℕ) (xs ys : List Place) → Ties n (xs ++ ys) → Ties n xs × Ties (n + length xs) ys
  split n [] ys h = let z : n ≡ n + 0 = omega arith in (tt, subst (λ m. Ties m ys) z h)
  split n (x ∷ xs) ys h =
      let (a, b) = split (n + 1) xs ys h.1 in
      let z : n + 1 + length xs ≡ n + length (x ∷ xs) = omega arith in
      ((h.0, a), subst (λ m. Ties m ys) z b)

  split_at : (n m : ℕ) (xs ys : List Place) → length xs ≡ m → Ties n (xs ++ ys) → Ties n xs × Ties (n + m) ys
  split_at n m xs ys l h = let (a, b) = split n xs ys h in (a, subst (λ k. Ties (n + k) ys) l b)

  abbrev left : ℕ → ℕ → Fragment → Fragment
  left d n f = contents def A fresh d n f

  abbrev right : ℕ → ℕ → Fragment → Fragment
  right d n f = contents def B fresh d n f

  -- ---- one place

  tied : (n : ℕ) (x : Place) → hides y (path_of_place x) ≡ false → Tie n x → A n ≡ B n
  tied n x seen h = elim h.0 [ inl e ↦ e | inr e ↦ absurd (true≢false (sym e ∙ seen)) ]

  not_lost : (n : ℕ) (x : Place) → Tie n x → (A n ≡ true) ⊎ (B n ≡ true) → y ≡ x → ⊥
  not_lost n x h k e = elim k [
    | inl a ↦ true≢false (sym a ∙ (h.1 e).0)
    | inr b ↦ true≢false (sym b ∙ (h.1 e).1)
  ]

  -- an element, which may be y itself
  tied_element : (n : ℕ) (p : Path) (k : ℕ) → shades y p ≡ false → Tie n (Element (below p k)) → A n ≡ B n
  tied_element n p k seen h = elim (bool_cases (A n)) [
    | inl a ↦ tied n (Element (below p k)) (seen_next y p k seen (not_lost n (Element (below p k)) h (inl a))) h
    | inr a ↦ elim (bool_cases (B n)) [
      | inl b ↦ tied n (Element (below p k)) (seen_next y p k seen (not_lost n (Element (below p k)) h (inr b))) h
      | inr b ↦ a ∙ sym b
    ]
  ]

  -- where y is the node of a path, no placeholder is there
  not_fixed : (q : Path) (t : Fragment) → node_at F q ≡ Some t → has_no_placeholder def t ≡ true → y ≡ Node q → ⊥
  not_fixed q t at fixed e =
      let own : IsNodeAt def F q = subst (IsPlaced def F) e real in
      let same : own.node ≡ t = same_node (node_at F q) own.node t own.there at in
      true≢false (sym fixed ∙ ap (has_no_placeholder def) (sym same) ∙ own.free)

  -- where y is an element, its list may go on
  list_free : (p : Path) (k : ℕ) (g : Fragment) → node_at F p ≡ Some g → y ≡ Element (below p k) → IsFree def g
  list_free p k g at e =
      let own : IsElementAt def F (below p k) = subst (IsPlaced def F) e real in
      let same : p ≡ own.list = same_step p own.list k own.number own.path_is in
      let here = subst (λ (z : Path). node_at F z ≡ Some own.node) (sym same) own.there in
      subst (IsFree def) (same_node (node_at F p) own.node g here at) own.free

  -- ---- a child

  module _ (q : Path) (t : Fragment) (at : node_at F q ≡ Some t) (own : y ≡ Element q → ⊥) (next : (shades y q ≡ false) ⊎ ((y ≡ Node q) ⊎ (y ≡ Element q))) (seen : hides y q ≡ false) where
    clear : (y ≡ Node q → ⊥) → shades y q ≡ false
    clear never = elim next [
      | inl e ↦ e
      | inr h ↦ elim h [ inl e ↦ absurd (never e) | inr e ↦ absurd (own e) ]
    ]

    -- the node of the place n, and its contents
    same_solid : (n m : ℕ) (u v h : Fragment) (ds cs : List Place) → length ds ≡ m → Ties n (Node q ∷ (ds ++ cs))
        → (shades y q ≡ false → Ties (n + 1) ds → Ties (n + 1 + m) cs → u ≡ v) → cond (A n) u h ≡ cond (B n) v h
    same_solid n m u v h ds cs l (here, more) same =
        let e : A n ≡ B n = tied n (Node q) seen here in
        elim (bool_cases (A n)) [
          | inl a ↦
              let (x, z) = split_at (n + 1) m ds cs l more in
              ap (λ b. cond b u h) a ∙ same (clear (not_lost n (Node q) here (inl a))) x z
              ∙ sym (ap (λ b. cond b v h) (sym e ∙ a))
          | inr a ↦ ap (λ b. cond b u h) a ∙ sym (ap (λ b. cond b v h) (sym e ∙ a))
        ]

    same_tests : (a b : Bool) (d n m : ℕ) (x x' u u' h : Fragment) (ds cs : List Place) → (a ≡ true → y ≡ Node q → ⊥)
        → length ds ≡ m → Ties d (cond a ds []) → Ties n (cond a cs (cond b [] (Node q ∷ (ds ++ cs))))
        → (shades y q ≡ false → Ties d ds → Ties n cs → x ≡ x')
        → (shades y q ≡ false → Ties (n + 1) ds → Ties (n + 1 + m) cs → u ≡ u')
        → cond a x (cond b t (cond (A n) u h)) ≡ cond a x' (cond b t (cond (B n) u' h))
    same_tests true b d n m x x' u u' h ds cs never l td tn f g = f (clear (never refl)) td tn
    same_tests false true d n m x x' u u' h ds cs never l td tn f g = refl
    same_tests false false d n m x x' u u' h ds cs never l td tn f g = same_solid n m u u' h ds cs l tn g

    pub same_child : (d n : ℕ) (x x' u u' : Fragment) → Ties d (cond (has_no_placeholder def t) (declared_places def q 0 t) [])
        → Ties n (child_places def q t (content_places def q 0 t))
        → (shades y q ≡ false → Ties d (declared_places def q 0 t) → Ties n (content_places def q 0 t) → x ≡ x')
        → (shades y q ≡ false → Ties (n + 1) (declared_places def q 0 t) → Ties (n + 1 + declared_count def t) (content_places def q 0 t) → u ≡ u')
        → opened_child def A fresh n t x u ≡ opened_child def B fresh n t x' u'
    same_child d n x x' u u' td tn f g =
        same_tests (has_no_placeholder def t) (is_hole t) d n (declared_count def t) x x' u u' (hole (phylum_of def t))
        (declared_places def q 0 t) (content_places def q 0 t) (not_fixed q t at) (declared_length def q 0 t) td tn f g

    -- the whole tree, or an element that is kept
    same_whole : (a b : Bool) (n m : ℕ) (x x' u u' h : Fragment) (ds cs : List Place) → (a ≡ true → y ≡ Node q → ⊥)
        → length ds ≡ m → Ties n (cond a (ds ++ cs) (cond a cs (cond b [] (Node q ∷ (ds ++ cs)))))
        → (shades y q ≡ false → Ties n ds → Ties (n + m) cs → x ≡ x')
        → (shades y q ≡ false → Ties (n + 1) ds → Ties (n + 1 + m) cs → u ≡ u')
        → cond a x (cond b t (cond (A n) u h)) ≡ cond a x' (cond b t (cond (B n) u' h))
    same_whole true b n m x x' u u' h ds cs never l tn f g = let (z, w) = split_at n m ds cs l tn in f (clear (never refl)) z w
    same_whole false true n m x x' u u' h ds cs never l tn f g = refl
    same_whole false false n m x x' u u' h ds cs never l tn f g = same_solid n m u u' h ds cs l tn g

  twice : (a : Bool) (x z w : Fragment) → cond a x (cond a z w) ≡ cond a x w
  twice true x z w = refl
  twice false x z w = refl

  fixed_length : (b : Bool) (ds : List Place) (m : ℕ) → length ds ≡ m → length (cond b ds []) ≡ cond b m 0
  fixed_length true ds m e = e
  fixed_length false ds m e = refl

  same_end : (may u : Bool) (n : ℕ) (p : Path) → hides y p ≡ false → Ties n (cond (may && not u) (End p ∷ []) [])
      → (u || (may && not (A n))) ≡ (u || (may && not (B n)))
  same_end may true n p seen h = refl
  same_end true false n p seen h = ap not (tied n (End p) seen h.0)
  same_end false false n p seen h = refl

  same_name : (b : Bool) (d n k : ℕ) (p : Path) (x : Word) → hides y p ≡ false → Ties d (cond b (Name p k ∷ []) [])
      → Ties n (cond b [] (Name p k ∷ []))
      → cond b (name_or_fresh def A fresh d x) (name_or_fresh def A fresh n x)
      ≡ cond b (name_or_fresh def B fresh d x) (name_or_fresh def B fresh n x)
  same_name true d n k p x seen td tn = ap (λ b. cond b x (fresh d)) (tied d (Name p k) seen td.0)
  same_name false d n k p x seen td tn = ap (λ b. cond b x (fresh n)) (tied n (Name p k) seen tn.0)

  -- an element of the place n in front of the rest of its list
  same_cell : (may : Bool) (d n size l k : ℕ) (p : Path) (ds cs rd rc inner : List Place)
      (e_free e_free' e_fixed e_fixed' r_free r_free' r_fixed r_fixed' : Fragment) → shades y p ≡ false
      → (may ≡ false → y ≡ Element (below p k) → ⊥)
      → length (cond may (Element (below p k) ∷ inner) cs) ≡ size
      → Ties d (cond may [] ds ++ rd) → Ties n (cond may (Element (below p k) ∷ inner) cs ++ rc)
      → ((y ≡ Element (below p k) → ⊥) → Ties (n + 1) inner → e_free ≡ e_free')
      → ((y ≡ Element (below p k) → ⊥) → Ties d ds → Ties n cs → e_fixed ≡ e_fixed')
      → (Ties d rd → Ties (n + size) rc → r_free ≡ r_free') → (Ties (d + length ds) rd → Ties (n + size) rc → r_fixed ≡ r_fixed')
      → cond may (cond (A n) (cell l e_free r_free) r_free) (cell l e_fixed r_fixed)
      ≡ cond may (cond (B n) (cell l e_free' r_free') r_free') (cell l e_fixed' r_fixed')
  same_cell true d n size l k p ds cs rd rc inner e_free e_free' e_fixed e_fixed' r_free r_free' r_fixed r_fixed' seen own long td tn a b c g =
      let s = split_at n size (Element (below p k) ∷ inner) rc long tn in
      let rest = c td s.1 in
      let here : Tie n (Element (below p k)) = s.0.0 in
      let e : A n ≡ B n = tied_element n p k seen here in
      elim (bool_cases (A n)) [
        | inl t ↦
            ap (λ z. cond z (cell l e_free r_free) r_free) t
            ∙ ap₂ (cell l) (a (not_lost n (Element (below p k)) here (inl t)) s.0.1) rest
            ∙ sym (ap (λ z. cond z (cell l e_free' r_free') r_free') (sym e ∙ t))
        | inr f ↦
            ap (λ z. cond z (cell l e_free r_free) r_free) f ∙ rest
            ∙ sym (ap (λ z. cond z (cell l e_free' r_free') r_free') (sym e ∙ f))
      ]
  same_cell false d n size l k p ds cs rd rc inner e_free e_free' e_fixed e_fixed' r_free r_free' r_fixed r_fixed' seen own long td tn a b c g =
      let (here, after) = split d ds rd td in
      let (mine, more) = split_at n size cs rc long tn in
      ap₂ (cell l) (b (own refl) here mine) (g after more)

  -- ---- contents

  pub same : (p : Path) (k d n : ℕ) (g f : Fragment) (more : List Item) (kind : Kind) → Fits def f more kind → IsPlain f
      → IsShaped f → (IsParts f → k ≡ 0) → IsPartOf def F p k g f → shades y p ≡ false
      → Ties d (declared_places def p k f) → Ties n (content_places def p k f) → left d n f ≡ right d n f
  same p k d n g (hole q) more kind fits plain s z h seen td tn = refl
  same p k d n g (ending l u) more kind fits plain s z h seen td tn =
      ap (ending l) (same_end (may_go_on def l) u n p (seen_here y p seen) tn)
  same p k d n g (cell l e r) more kind fits plain s z h seen td tn =
      let q = below p k in
      let own = kinds.Phylum fits.2.element in
      let at = head_below def F p k l g e r h in
      let part = whole_part def F q e own at fits.4 s.0 in
      let ds = declared_places def q 0 e in
      let cs = content_places def q 0 e in
      let m = declared_count def e in
      let size = element_size def l e (content_count def e) in
      let a = has_no_placeholder def e in
      let fixed = cond a ds [] in
      let inner = cond a (ds ++ cs) (child_places def q e cs) in
      let above = d + cond a m 0 in
      let long : length fixed ≡ cond a m 0 = fixed_length a ds m (declared_length def q 0 e) in
      let rest = rest_part def F p k l g e r h fits.5 s.1.1 in
      let no_parts : IsParts r → suc k ≡ 0 = λ w. absurd (no_chain def F r w s.1.1) in
      let next = seen_below y p k seen in
      let node = hole (phylum_of def e) in
      same_cell (may_go_on def l) d n size l k p fixed (child_places def q e cs) (declared_places def p (suc k) r)
      (content_places def p (suc k) r) inner
      (opened_element def A fresh e (left (n + 1) (n + 1 + m) e)
      (opened_child def A fresh (n + 1) e (left 0 (n + 1) e) (left (n + 1 + 1) (n + 1 + 1 + m) e)))
      (opened_element def B fresh e (right (n + 1) (n + 1 + m) e)
      (opened_child def B fresh (n + 1) e (right 0 (n + 1) e) (right (n + 1 + 1) (n + 1 + 1 + m) e)))
      (opened_child def A fresh n e (left d n e) (left (n + 1) (n + 1 + m) e))
      (opened_child def B fresh n e (right d n e) (right (n + 1) (n + 1 + m) e))
      (left d (n + size) r) (right d (n + size) r) (left above (n + size) r) (right above (n + size) r) seen
      (λ w e. true≢false (sym (h.frees (list_free p k g h.node e)).0 ∙ w))
      (element_length def l q e cs (content_count def e) (declared_length def q 0 e) (content_length def q 0 e))
      td tn
      (λ w t. twice a (left (n + 1) (n + 1 + m) e) (left 0 (n + 1) e) _
      ∙ same_whole q e at w next (seen_next y p k seen w) a (is_hole e) (n + 1) m (left (n + 1) (n + 1 + m) e)
      (right (n + 1) (n + 1 + m) e) (left (n + 1 + 1) (n + 1 + 1 + m) e) (right (n + 1 + 1) (n + 1 + 1 + m) e) node ds cs
      (not_fixed q e at) (declared_length def q 0 e) t
      (λ c x v. same q 0 (n + 1) (n + 1 + m) e e [] own fits.4 plain.0 s.0 (λ w. refl) part c x v)
      (λ c x v. same q 0 (n + 1 + 1) (n + 1 + 1 + m) e e [] own fits.4 plain.0 s.0 (λ w. refl) part c x v)
      ∙ sym (twice a (right (n + 1) (n + 1 + m) e) (right 0 (n + 1) e) _))
      (λ w x v. same_child q e at w next (seen_next y p k seen w) d n (left d n e) (right d n e)
      (left (n + 1) (n + 1 + m) e) (right (n + 1) (n + 1 + m) e) x v
      (λ c x v. same q 0 d n e e [] own fits.4 plain.0 s.0 (λ w. refl) part c x v)
      (λ c x v. same q 0 (n + 1) (n + 1 + m) e e [] own fits.4 plain.0 s.0 (λ w. refl) part c x v))
      (λ x v. same p (suc k) d (n + size) g r [] (kinds.List l) fits.5 plain.1 s.1.0 no_parts rest seen x v)
      (λ x v. same p (suc k) above (n + size) g r [] (kinds.List l) fits.5 plain.1 s.1.0 no_parts rest seen
      (subst (λ j. Ties (d + j) (declared_places def p (suc k) r)) long x) v)
  same p k d n g (operator o) more kind fits plain s z h seen td tn = refl
  same p k d n g (with_child f t) more kind fits plain s z h seen td tn =
      let c = length (children_of f) in
      let q = below p c in
      let whole = subst (λ j. IsPartOf def F p j g (with_child f t)) (z s.0.1) h in
      let at = last_below def F p g f t whole in
      let part = whole_part def F q t fits.0 at fits.2 s.1 in
      let never : y ≡ Element q → ⊥ = λ e. h.frees (list_free p c g h.node e) in
      let (df, dt) = split_at d (declared_count def f) (declared_places def p k f)
      (cond (has_no_placeholder def t) (declared_places def q 0 t) []) (declared_length def p k f) td in
      let (cf, ct) = split_at n (content_count def f) (content_places def p k f)
      (child_places def q t (content_places def q 0 t)) (content_length def p k f) tn in
      let a = d + declared_count def f in
      let m = n + content_count def f in
      ap₂ with_child
      (same p k d n g f (items.Slot fits.0 ∷ more) kind fits.1 plain.0 s.0.0 z (child_part def F p k g f t s.0.1 h) seen df cf)
      (same_child q t at never (seen_below y p c seen) (seen_next y p c seen never) a m (left a m t) (right a m t)
      (left (m + 1) (m + 1 + declared_count def t) t) (right (m + 1) (m + 1 + declared_count def t) t) dt ct
      (λ b x v. same q 0 a m t t [] fits.0 fits.2 plain.1 s.1 (λ w. refl) part b x v)
      (λ b x v. same q 0 (m + 1) (m + 1 + declared_count def t) t t [] fits.0 fits.2 plain.1 s.1 (λ w. refl) part b x v))
  same p k d n g (with_name f x) more kind (inl (i, own), w) plain s z h seen td tn =
      let b = is_declares (next_item def f) in
      let j = names_before f in
      let (df, dx) = split_at d (declared_count def f) (declared_places def p k f) (cond b (Name p j ∷ []) [])
      (declared_length def p k f) td in
      let (cf, cx) = split_at n (content_count def f) (content_places def p k f) (cond b [] (Name p j ∷ []))
      (content_length def p k f) tn in
      ap₂ with_name
      (same p k d n g f (items.Refers i ∷ more) kind own plain s.0 z (name_part def F p k g f x s.1 h) seen df cf)
      (same_name b (d + declared_count def f) (n + content_count def f) j p x (seen_here y p seen) dx cx)
  same p k d n g (with_name f x) more kind (inr (i, own), w) plain s z h seen td tn =
      let b = is_declares (next_item def f) in
      let j = names_before f in
      let (df, dx) = split_at d (declared_count def f) (declared_places def p k f) (cond b (Name p j ∷ []) [])
      (declared_length def p k f) td in
      let (cf, cx) = split_at n (content_count def f) (content_places def p k f) (cond b [] (Name p j ∷ []))
      (content_length def p k f) tn in
      ap₂ with_name
      (same p k d n g f (items.Declares i ∷ more) kind own plain s.0 z (name_part def F p k g f x s.1 h) seen df cf)
      (same_name b (d + declared_count def f) (n + content_count def f) j p x (seen_here y p seen) dx cx)
  same p k d n g (with_number f x) more kind fits plain s z h seen td tn =
      ap (λ c. with_number c x)
      (same p k d n g f (items.Number ∷ more) kind fits.0 plain s.0 z
      (same_part def F p k g f (with_number f x) s.1 refl refl (λ j. refl) (λ c. c) h) seen td tn)
  same p k d n g (with_text f x) more kind fits plain s z h seen td tn =
      ap (λ c. with_text c x)
      (same p k d n g f (items.Text ∷ more) kind fits.0 plain s.0 z
      (same_part def F p k g f (with_text f x) s.1 refl refl (λ j. refl) (λ c. c) h) seen td tn)
  same p k d n g anything more kind fits plain s z h seen td tn = absurd s
  same p k d n g (observed f) more kind fits plain s z h seen td tn = absurd s

  not_top : y ≡ Element [] → ⊥
  not_top e =
      let own : IsElementAt def F [] = subst (IsPlaced def F) e real in
      absurd (long (length own.list) (ap length own.path_is ∙ length-append own.list (own.number ∷ [])))
    where
      long : (n : ℕ) → 0 ≡ n + 1 → ⊥
      long n e = omega (arith, e)

  next_top : (shades y [] ≡ false) ⊎ ((y ≡ Node []) ⊎ (y ≡ Element []))
  next_top = elim (shade_top y) [ inl e ↦ inl e | inr e ↦ inr (inl e) ]

  pub same_tree : IsFormed def F → Ties 0 (places_of def F) → opened def A fresh F ≡ opened def B fresh F
  same_tree (kind, (fits, plain)) t =
      let s = (shaped def F [] kind fits plain).0 in
      let part = whole_part def F [] F kind refl fits s in
      let m = declared_count def F in
      same_whole [] F refl not_top next_top (seen_top y) (has_no_placeholder def F) (is_hole F) 0 m
      (left 0 m F) (right 0 m F) (left 1 (1 + m) F) (right 1 (1 + m) F) (hole (phylum_of def F))
      (declared_places def [] 0 F) (content_places def [] 0 F) (not_fixed [] F refl) (declared_length def [] 0 F) t
      (λ c x v.
      let z : 0 + m ≡ m = omega arith in
      same [] 0 0 m F F [] kind fits plain s (λ w. refl) part c x (subst (λ j. Ties j (content_places def [] 0 F)) z v))
      (λ c x v. same [] 0 1 (1 + m) F F [] kind fits plain s (λ w. refl) part c x v)
