-- What is at each place of a tree: a node, an element, a list or a name.
use Rattle.std.proofs.Common.{◌≡◌, inl, inr, ℕ, zero, suc, ◌+◌, ◌<◌, ◌&&◌, not, Bool, true, false, cond, List, [], ◌∷◌, ◌++◌, length, Some, slice_get, option_and_then, refl, ap, sym, ◌∙◌, subst, arith, true≢false}
use Rattle.std.proofs.lemmas.Bool.{eq-eqb, ne_eqb}
use Rattle.std.proofs.lemmas.Option.{none-some}
use Rattle.psg_terms.specs.Names.{Name as Word}
use Rattle.psg_terms.proofs.Lists.{slice_get-end, slice_get-front}
use Rattle.psg_grammar.proofs.PathLaws.{step}
use Rattle.psg_grammar.specs.declared.types.Definition.{Definition}
use Rattle.psg_grammar.specs.declared.types.Item.{Item}
use Rattle.psg_grammar.specs.declared.types.Item.TheVariants as items
use Rattle.psg_grammar.specs.declared.types.Kind.{Kind}
use Rattle.psg_grammar.specs.declared.types.Kind.TheVariants as kinds
use Rattle.psg_grammar.specs.Fragments.{Fragment, hole, ending, cell, operator, with_child, with_name, with_number}
use Rattle.psg_grammar.specs.Fragments.{with_text, anything, observed, children_of}
use Rattle.psg_grammar.specs.Lookups.{is_declares, next_item}
use Rattle.psg_grammar.specs.Paths.{IsList, Path, node_at}
use Rattle.psg_grammar.specs.WellFormed.{Fits, IsPlain}
use Rattle.psg_completions.proofs.Tops.{next_is}
use Rattle.psg_cache.specs.Notes.{IsFormed}
use Rattle.psg_places.specs.declared.place.Place.{Place}
use Rattle.psg_places.specs.declared.place.Place.TheVariants.{Node, Element, End, Name}
use Rattle.psg_places.specs.Places.{below, child_places, content_places, declared_places, element_places, has_no_placeholder}
use Rattle.psg_places.specs.Places.{is_hole, may_go_on, names_before, places_of}
use Rattle.psg_places.proofs.InsideLaws.{Each, IsChain, IsParts, each_both}
use Rattle.psg_places.proofs.WalkLaws.{IsShaped, shaped}
use Rattle.psg_uses.specs.declared.names.Named.{Named}
use Rattle.psg_uses.specs.Naming.{name_in, name_item, nth_name, own_name}

-- both ways of a test, where each knows what the test says
pub each_when : (P : Place → Type 0) (b : Bool) (xs ys : List Place) → (b ≡ true → Each P xs) → (b ≡ false → Each P ys)
    → Each P (cond b xs ys)
each_when P true xs ys h k = h refl
each_when P false xs ys h k = k refl

same_list : (l m : ℕ) → kinds.List l ≡ kinds.List m → m ≡ l
same_list l m e = cc

-- the node below one
pub node_below : (F : Fragment) (p : Path) (g : Fragment) (k : ℕ) → node_at F p ≡ Some g
    → node_at F (below p k) ≡ node_at g (k ∷ [])
node_below F [] g k e = ap (λ o. option_and_then (λ (t : Fragment). node_at t (k ∷ [])) o) e
node_below F (j ∷ p) g k e =
    let (t, child, under) = step (slice_get (children_of F) j) p g e in
    ap (λ o. option_and_then (λ (c : Fragment). node_at c (below p k)) o) child ∙ node_below t p g k under

pub child_below : (F : Fragment) (p : Path) (g : Fragment) (k : ℕ) (c : Fragment) → node_at F p ≡ Some g
    → slice_get (children_of g) k ≡ Some c → node_at F (below p k) ≡ Some c
child_below F p g k c e h = node_below F p g k e ∙ ap (λ o. option_and_then (λ (t : Fragment). Some t) o) h

module _ (def : Definition) where
  -- a list, to its end one that may go on
  abbrev pub IsFree : Fragment → Type 0
  IsFree (ending l u) = Unit {0}
  IsFree (cell l e r) = (may_go_on def l ≡ true) × IsFree r
  IsFree _ = ⊥

  -- whether the element at the top may be left out
  abbrev pub goes_on : Fragment → Bool
  goes_on (cell l e r) = may_go_on def l
  goes_on _ = false

  free_rest : (r : Fragment) (l : ℕ) → Fits def r [] (kinds.List l) → goes_on r ≡ true → may_go_on def l ≡ true
  free_rest (cell m e r) l h may = subst (λ n. may_go_on def n ≡ true) (same_list l m h.1) may
  free_rest (hole p) l h may = absurd (true≢false (sym may))
  free_rest (ending m u) l h may = absurd (true≢false (sym may))
  free_rest (operator o) l h may = absurd (true≢false (sym may))
  free_rest (with_child f t) l h may = absurd (true≢false (sym may))
  free_rest (with_name f x) l h may = absurd (true≢false (sym may))
  free_rest (with_number f x) l h may = absurd (true≢false (sym may))
  free_rest (with_text f x) l h may = absurd (true≢false (sym may))
  free_rest anything l h may = absurd (true≢false (sym may))
  free_rest (observed f) l h may = absurd (true≢false (sym may))

  free_all : (g : Fragment) (l : ℕ) → Fits def g [] (kinds.List l) → IsChain g → may_go_on def l ≡ true → IsFree g
  free_all (ending m u) l h c may = tt
  free_all (cell m e r) l h c may =
      let own : may_go_on def m ≡ true = subst (λ n. may_go_on def n ≡ true) (sym (same_list l m h.1)) may in
      (own, free_all r m h.5 c own)
  free_all (hole p) l h c may = absurd c
  free_all (operator o) l h c may = absurd c
  free_all (with_child f t) l h c may = absurd c
  free_all (with_name f x) l h c may = absurd c
  free_all (with_number f x) l h c may = absurd c
  free_all (with_text f x) l h c may = absurd c
  free_all anything l h c may = absurd c
  free_all (observed f) l h c may = absurd c

  -- a list that goes on goes on to its end
  free_self : (g : Fragment) (kind : Kind) → Fits def g [] kind → IsShaped g → goes_on g ≡ true → IsFree g
  free_self (cell l e r) kind h s may = (may, free_all r l h.5 s.1.1 may)
  free_self (hole p) kind h s may = absurd (true≢false (sym may))
  free_self (ending m u) kind h s may = absurd (true≢false (sym may))
  free_self (operator o) kind h s may = absurd (true≢false (sym may))
  free_self (with_child f t) kind h s may = absurd (true≢false (sym may))
  free_self (with_name f x) kind h s may = absurd (true≢false (sym may))
  free_self (with_number f x) kind h s may = absurd (true≢false (sym may))
  free_self (with_text f x) kind h s may = absurd (true≢false (sym may))
  free_self anything kind h s may = absurd (true≢false (sym may))
  free_self (observed f) kind h s may = absurd (true≢false (sym may))

  chain_list : (g : Fragment) → IsChain g → IsList g
  chain_list (ending l u) h = tt
  chain_list (cell l e r) h = tt
  chain_list (hole p) h = absurd h
  chain_list (operator o) h = absurd h
  chain_list (with_child f t) h = absurd h
  chain_list (with_name f x) h = absurd h
  chain_list (with_number f x) h = absurd h
  chain_list (with_text f x) h = absurd h
  chain_list anything h = absurd h
  chain_list (observed f) h = absurd h

  module _ (F : Fragment) where
    pub record IsNodeAt (path : Path) : Type 0 where
      pub node : Fragment
      pub there : node_at F path ≡ Some node
      pub free : has_no_placeholder def node ≡ false
      pub solid : is_hole node ≡ false

    pub record IsElementAt (path : Path) : Type 0 where
      pub list : Path
      pub number : ℕ
      pub path_is : path ≡ below list number
      pub node : Fragment
      pub there : node_at F list ≡ Some node
      pub free : IsFree node
      pub element : Fragment
      pub element_there : node_at F path ≡ Some element

    pub record IsEndAt (path : Path) : Type 0 where
      pub list : Fragment
      pub there : node_at F path ≡ Some list
      pub is_list : IsList list

    pub record IsNamedAt (path : Path) (k : ℕ) : Type 0 where
      pub name : Named
      pub is : nth_name def path k (node_at F path) ≡ Some name

    abbrev pub IsPlaced : Place → Type 0
    IsPlaced (Node path) = IsNodeAt path
    IsPlaced (Element path) = IsElementAt path
    IsPlaced (End path) = IsEndAt path
    IsPlaced (Name path k) = IsNamedAt path k

    -- The first parts of the node g at the path p, or the rest of the list g from the element k on.
    pub record IsPartOf (p : Path) (k : ℕ) (g f : Fragment) : Type 0 where
      pub node : node_at F p ≡ Some g
      pub child : (i : ℕ) (c : Fragment) → slice_get (children_of f) i ≡ Some c → slice_get (children_of g) (k + i) ≡ Some c
      pub name : (j : ℕ) → j < names_before f → name_in def p j g ≡ name_in def p j f
      pub list : IsChain f → IsList g
      pub free : goes_on f ≡ true → IsFree g
      pub frees : IsFree g → IsFree f

    pub whole_part : (p : Path) (g : Fragment) (kind : Kind) → node_at F p ≡ Some g → Fits def g [] kind → IsShaped g
        → IsPartOf p 0 g g
    whole_part p g kind at h s = record {
      node = at;
      child = λ i c e. let z : 0 + i ≡ i = omega arith in subst (λ n. slice_get (children_of g) n ≡ Some c) (sym z) e;
      name = λ j lt. refl;
      list = chain_list g;
      free = free_self g kind h s;
      frees = λ q. q;
    }

    pub rest_part : (p : Path) (k l : ℕ) (g e r : Fragment) → IsPartOf p k g (cell l e r) → Fits def r [] (kinds.List l)
        → IsChain r → IsPartOf p (suc k) g r
    rest_part p k l g e r h fits chain = record {
      node = h.node;
      child = λ i c at.
          let z : k + suc i ≡ suc k + i = omega arith in
          subst (λ n. slice_get (children_of g) n ≡ Some c) z (h.child (suc i) c at);
      name = λ j lt. absurd (none r chain j lt);
      list = λ c. h.list chain;
      free = λ may. h.free (free_rest r l fits may);
      frees = λ q. (h.frees q).1;
    }
      where
        none : (x : Fragment) → IsChain x → (j : ℕ) → j < names_before x → ⊥
        none (ending m u) c j lt = omega (arith, lt)
        none (cell m a b) c j lt = omega (arith, lt)
        none (hole q) c j lt = absurd c
        none (operator o) c j lt = absurd c
        none (with_child a t) c j lt = absurd c
        none (with_name a x) c j lt = absurd c
        none (with_number a x) c j lt = absurd c
        none (with_text a x) c j lt = absurd c
        none anything c j lt = absurd c
        none (observed a) c j lt = absurd c

    pub head_below : (p : Path) (k l : ℕ) (g e r : Fragment) → IsPartOf p k g (cell l e r) → node_at F (below p k) ≡ Some e
    head_below p k l g e r h =
        let z : k + 0 ≡ k = omega arith in
        child_below F p g k e h.node (subst (λ n. slice_get (children_of g) n ≡ Some e) z (h.child 0 e refl))

    -- no list
    pub no_chain : (f : Fragment) → IsParts f → IsChain f → ⊥
    no_chain (operator o) h c = c
    no_chain (with_child f t) h c = c
    no_chain (with_name f x) h c = c
    no_chain (with_number f x) h c = c
    no_chain (with_text f x) h c = c
    no_chain (hole p) h c = h
    no_chain (ending l u) h c = h
    no_chain (cell l e r) h c = h
    no_chain anything h c = h
    no_chain (observed f) h c = h

    no_goes : (f : Fragment) → IsParts f → goes_on f ≡ true → ⊥
    no_goes (operator o) h e = true≢false (sym e)
    no_goes (with_child f t) h e = true≢false (sym e)
    no_goes (with_name f x) h e = true≢false (sym e)
    no_goes (with_number f x) h e = true≢false (sym e)
    no_goes (with_text f x) h e = true≢false (sym e)
    no_goes (hole p) h e = h
    no_goes (ending l u) h e = h
    no_goes (cell l a r) h e = h
    no_goes anything h e = h
    no_goes (observed f) h e = h

    pub child_part : (p : Path) (k : ℕ) (g f t : Fragment) → IsParts f → IsPartOf p k g (with_child f t) → IsPartOf p k g f
    child_part p k g f t s h = record {
      node = h.node;
      child = λ i c e. h.child i c (slice_get-front (children_of f) (t ∷ []) i c e);
      name = λ j lt. h.name j lt;
      list = λ c. absurd (no_chain f s c);
      free = λ e. absurd (no_goes f s e);
      frees = λ q. absurd (h.frees q);
    }

    pub last_below : (p : Path) (g f t : Fragment) → IsPartOf p 0 g (with_child f t)
        → node_at F (below p (length (children_of f))) ≡ Some t
    last_below p g f t h =
        let n = length (children_of f) in
        let z : 0 + n ≡ n = omega arith in
        child_below F p g n t h.node
        (subst (λ m. slice_get (children_of g) m ≡ Some t) z (h.child n t (slice_get-end (children_of f) t)))

    pub name_part : (p : Path) (k : ℕ) (g f : Fragment) (x : Word) → IsParts f → IsPartOf p k g (with_name f x) → IsPartOf p k g f
    name_part p k g f x s h = record {
      node = h.node;
      child = h.child;
      name = λ j lt.
          let before : j < names_before (with_name f x) = omega (arith, lt) in
          let never : names_before f ≡ j → ⊥ = λ e. omega (arith, e, lt) in
          h.name j before
          ∙ ap (λ b. cond b (own_name (name_item (next_item def f)) p j x) (name_in def p j f)) (ne_eqb (names_before f) j never);
      list = λ c. absurd (no_chain f s c);
      free = λ e. absurd (no_goes f s e);
      frees = λ q. absurd (h.frees q);
    }

    pub same_part : (p : Path) (k : ℕ) (g f h : Fragment) → IsParts f → children_of h ≡ children_of f → names_before h ≡ names_before f
        → ((j : ℕ) → name_in def p j h ≡ name_in def p j f) → (IsFree h → ⊥) → IsPartOf p k g h → IsPartOf p k g f
    same_part p k g f h s children names name never is = record {
      node = is.node;
      child = λ i c e. is.child i c (ap (λ cs. slice_get cs i) children ∙ e);
      name = λ j lt. is.name j (omega (arith, lt, names)) ∙ name j;
      list = λ c. absurd (no_chain f s c);
      free = λ e. absurd (no_goes f s e);
      frees = λ q. absurd (never (is.frees q));
    }

    name_there : (p : Path) (k : ℕ) (g f : Fragment) (x : Word) → IsPartOf p k g (with_name f x)
        → nth_name def p (names_before f) (node_at F p) ≡ own_name (name_item (next_item def f)) p (names_before f) x
    name_there p k g f x h =
        let j = names_before f in
        let lt : j < names_before (with_name f x) = omega arith in
        ap (nth_name def p j) h.node ∙ h.name j lt
        ∙ ap (λ b. cond b (own_name (name_item (next_item def f)) p j x) (name_in def p j f)) (eq-eqb j j refl)

    -- the name after the first parts
    named_here : (p : Path) (k : ℕ) (g f : Fragment) (x : Word) (more : List Item) (kind : Kind)
        → Fits def (with_name f x) more kind → IsPartOf p k g (with_name f x) → IsNamedAt p (names_before f)
    named_here p k g f x more kind (inl (s, own), v) h = record {
      name = _;
      is = name_there p k g f x h
          ∙ ap (λ i. own_name (name_item i) p (names_before f) x) (next_is def f (items.Refers s) more kind own);
    }
    named_here p k g f x more kind (inr (s, own), v) h = record {
      name = _;
      is = name_there p k g f x h
          ∙ ap (λ i. own_name (name_item i) p (names_before f) x) (next_is def f (items.Declares s) more kind own);
    }

    -- ---- the places of a part

    pub declared_placed : (p : Path) (k : ℕ) (g f : Fragment) (more : List Item) (kind : Kind) → Fits def f more kind → IsPlain f
        → IsShaped f → (IsParts f → k ≡ 0) → IsPartOf p k g f → Each IsPlaced (declared_places def p k f)
    declared_placed p k g (hole q) more kind fits plain s z h = tt
    declared_placed p k g (ending l u) more kind fits plain s z h = tt
    declared_placed p k g (cell l e r) more kind fits plain s z h =
        let at = head_below p k l g e r h in
        let own = kinds.Phylum fits.2.element in
        each_both IsPlaced _ _
        (each_when IsPlaced (may_go_on def l) [] _ (λ b. tt)
        (λ b. each_when IsPlaced (has_no_placeholder def e) _ []
        (λ c. declared_placed (below p k) 0 e e [] own fits.4 plain.0 s.0 (λ q. refl)
        (whole_part (below p k) e own at fits.4 s.0)) (λ c. tt)))
        (declared_placed p (suc k) g r [] (kinds.List l) fits.5 plain.1 s.1.0 (λ q. absurd (no_chain r q s.1.1))
        (rest_part p k l g e r h fits.5 s.1.1))
    declared_placed p k g (operator o) more kind fits plain s z h = tt
    declared_placed p k g (with_child f t) more kind fits plain s z h =
        let own = subst (λ n. IsPartOf p n g (with_child f t)) (z s.0.1) h in
        let q = below p (length (children_of f)) in
        let at = last_below p g f t own in
        each_both IsPlaced (declared_places def p k f) _
        (declared_placed p k g f (items.Slot fits.0 ∷ more) kind fits.1 plain.0 s.0.0 z (child_part p k g f t s.0.1 h))
        (each_when IsPlaced (has_no_placeholder def t) (declared_places def q 0 t) []
        (λ b. declared_placed q 0 t t [] fits.0 fits.2 plain.1 s.1 (λ y. refl) (whole_part q t fits.0 at fits.2 s.1)) (λ b. tt))
    declared_placed p k g (with_name f x) more kind (inl (i, own), v) plain s z h =
        let one : IsNamedAt p (names_before f) = named_here p k g f x more kind (inl (i, own), v) h in
        each_both IsPlaced (declared_places def p k f) _
        (declared_placed p k g f (items.Refers i ∷ more) kind own plain s.0 z (name_part p k g f x s.1 h))
        (each_when IsPlaced (is_declares (next_item def f)) (Name p (names_before f) ∷ []) [] (λ b. (one, tt)) (λ b. tt))
    declared_placed p k g (with_name f x) more kind (inr (i, own), v) plain s z h =
        let one : IsNamedAt p (names_before f) = named_here p k g f x more kind (inr (i, own), v) h in
        each_both IsPlaced (declared_places def p k f) _
        (declared_placed p k g f (items.Declares i ∷ more) kind own plain s.0 z (name_part p k g f x s.1 h))
        (each_when IsPlaced (is_declares (next_item def f)) (Name p (names_before f) ∷ []) [] (λ b. (one, tt)) (λ b. tt))
    declared_placed p k g (with_number f x) more kind fits plain s z h =
        declared_placed p k g f (items.Number ∷ more) kind fits.0 plain s.0 z
        (same_part p k g f (with_number f x) s.1 refl refl (λ j. refl) (λ c. c) h)
    declared_placed p k g (with_text f x) more kind fits plain s z h =
        declared_placed p k g f (items.Text ∷ more) kind fits.0 plain s.0 z
        (same_part p k g f (with_text f x) s.1 refl refl (λ j. refl) (λ c. c) h)
    declared_placed p k g anything more kind fits plain s z h = absurd s
    declared_placed p k g (observed f) more kind fits plain s z h = absurd s

    child_placed : (q : Path) (t : Fragment) (contents : List Place) → node_at F q ≡ Some t → Each IsPlaced contents
        → Each IsPlaced (declared_places def q 0 t) → Each IsPlaced (child_places def q t contents)
    child_placed q t contents at own names =
        each_when IsPlaced (has_no_placeholder def t) contents _ (λ b. own)
        (λ b. each_when IsPlaced (is_hole t) [] _ (λ c. tt)
        (λ c. (record { node = t; there = at; free = b; solid = c }, each_both IsPlaced (declared_places def q 0 t) contents names own)))

    pub contents_placed : (p : Path) (k : ℕ) (g f : Fragment) (more : List Item) (kind : Kind) → Fits def f more kind → IsPlain f
        → IsShaped f → (IsParts f → k ≡ 0) → IsPartOf p k g f → Each IsPlaced (content_places def p k f)
    contents_placed p k g (hole q) more kind fits plain s z h = tt
    contents_placed p k g (ending l u) more kind fits plain s z h =
        each_when IsPlaced (may_go_on def l && not u) (End p ∷ []) []
        (λ b. (record { list = g; there = h.node; is_list = h.list tt }, tt)) (λ b. tt)
    contents_placed p k g (cell l e r) more kind fits plain s z h =
        let q = below p k in
        let at = head_below p k l g e r h in
        let own = kinds.Phylum fits.2.element in
        let part = whole_part q e own at fits.4 s.0 in
        let inner = contents_placed q 0 e e [] own fits.4 plain.0 s.0 (λ y. refl) part in
        let names = declared_placed q 0 e e [] own fits.4 plain.0 s.0 (λ y. refl) part in
        let contents = content_places def q 0 e in
        let child = child_placed q e contents at inner names in
        each_both IsPlaced (element_places def l q e contents) (content_places def p (suc k) r)
        (each_when IsPlaced (may_go_on def l) _ (child_places def q e contents)
        (λ b. (
          record { list = p; number = k; path_is = refl; node = g; there = h.node; free = h.free b; element = e; element_there = at },
          each_when IsPlaced (has_no_placeholder def e) (declared_places def q 0 e ++ contents) (child_places def q e contents)
              (λ c. each_both IsPlaced (declared_places def q 0 e) contents names inner) (λ c. child),
        )) (λ b. child))
        (contents_placed p (suc k) g r [] (kinds.List l) fits.5 plain.1 s.1.0 (λ y. absurd (no_chain r y s.1.1))
        (rest_part p k l g e r h fits.5 s.1.1))
    contents_placed p k g (operator o) more kind fits plain s z h = tt
    contents_placed p k g (with_child f t) more kind fits plain s z h =
        let own = subst (λ n. IsPartOf p n g (with_child f t)) (z s.0.1) h in
        let q = below p (length (children_of f)) in
        let at = last_below p g f t own in
        let part = whole_part q t fits.0 at fits.2 s.1 in
        each_both IsPlaced (content_places def p k f) _
        (contents_placed p k g f (items.Slot fits.0 ∷ more) kind fits.1 plain.0 s.0.0 z (child_part p k g f t s.0.1 h))
        (child_placed q t (content_places def q 0 t) at
        (contents_placed q 0 t t [] fits.0 fits.2 plain.1 s.1 (λ y. refl) part)
        (declared_placed q 0 t t [] fits.0 fits.2 plain.1 s.1 (λ y. refl) part))
    contents_placed p k g (with_name f x) more kind (inl (i, own), v) plain s z h =
        let one : IsNamedAt p (names_before f) = named_here p k g f x more kind (inl (i, own), v) h in
        each_both IsPlaced (content_places def p k f) _
        (contents_placed p k g f (items.Refers i ∷ more) kind own plain s.0 z (name_part p k g f x s.1 h))
        (each_when IsPlaced (is_declares (next_item def f)) [] (Name p (names_before f) ∷ []) (λ b. tt) (λ b. (one, tt)))
    contents_placed p k g (with_name f x) more kind (inr (i, own), v) plain s z h =
        let one : IsNamedAt p (names_before f) = named_here p k g f x more kind (inr (i, own), v) h in
        each_both IsPlaced (content_places def p k f) _
        (contents_placed p k g f (items.Declares i ∷ more) kind own plain s.0 z (name_part p k g f x s.1 h))
        (each_when IsPlaced (is_declares (next_item def f)) [] (Name p (names_before f) ∷ []) (λ b. tt) (λ b. (one, tt)))
    contents_placed p k g (with_number f x) more kind fits plain s z h =
        contents_placed p k g f (items.Number ∷ more) kind fits.0 plain s.0 z
        (same_part p k g f (with_number f x) s.1 refl refl (λ j. refl) (λ c. c) h)
    contents_placed p k g (with_text f x) more kind fits plain s z h =
        contents_placed p k g f (items.Text ∷ more) kind fits.0 plain s.0 z
        (same_part p k g f (with_text f x) s.1 refl refl (λ j. refl) (λ c. c) h)
    contents_placed p k g anything more kind fits plain s z h = absurd s
    contents_placed p k g (observed f) more kind fits plain s z h = absurd s

  pub all_placed : (f : Fragment) → IsFormed def f → Each (IsPlaced f) (places_of def f)
  all_placed f (kind, (fits, plain)) =
      let s = (shaped def f [] kind fits plain).0 in
      let part = whole_part f [] f kind refl fits s in
      let names = declared_placed f [] 0 f f [] kind fits plain s (λ y. refl) part in
      let own = contents_placed f [] 0 f f [] kind fits plain s (λ y. refl) part in
      each_when (IsPlaced f) (has_no_placeholder def f) (declared_places def [] 0 f ++ content_places def [] 0 f) _
      (λ b. each_both (IsPlaced f) (declared_places def [] 0 f) (content_places def [] 0 f) names own)
      (λ b. child_placed f [] f (content_places def [] 0 f) refl own names)

  pub each_at : (P : Place → Type 0) (xs : List Place) (n : ℕ) (x : Place) → Each P xs → slice_get xs n ≡ Some x → P x
  each_at P [] n x h e = absurd (none-some x e)
  each_at P (y ∷ xs) zero x h e = subst P (same y x e) h.0 where
    same : (a b : Place) → Some a ≡ Some b → a ≡ b
    same a b s = cc
  each_at P (y ∷ xs) (suc n) x h e = each_at P xs n x h.1 e

  pub placed : (f : Fragment) → IsFormed def f → (n : ℕ) (x : Place) → slice_get (places_of def f) n ≡ Some x → IsPlaced f x
  placed f formed n x e = each_at (IsPlaced f) (places_of def f) n x (all_placed f formed) e
