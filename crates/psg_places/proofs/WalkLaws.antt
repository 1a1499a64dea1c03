-- The path there of a node leads to what becomes of it in the tree of the kept places.
use Rattle.std.proofs.Common.{◌≡◌, inl, inr, ℕ, zero, suc, ◌+◌, ◌-◌, ◌<◌, ◌&&◌, ◌||◌, Bool, true, false, cond, List, [], ◌∷◌, ◌++◌, length, take, Option, Some, None, slice_get, option_and_then, refl, ap, ap₂, sym, ◌∙◌, subst, arith, true≢false, append_assoc, append-nil, length-append}
use Rattle.std.specs.Prelude.{nat_eq}
use Rattle.std.specs.Cmp.Lexicographic.{pointwise, same_text}
use Rattle.std.proofs.lemmas.Bool.{cases_lt, lt-ltb}
use Rattle.std.proofs.lemmas.Option.{none-some, option_and_then_some, same_Some, slice_get_within}
use Rattle.psg_terms.specs.Names.{Name as Word}
use Rattle.psg_terms.proofs.Lists.{eqb-refl, slice_get-end, slice_get-end_is, slice_get-front, slice_get_once, slice_get_some}
use Rattle.psg_grammar.specs.declared.types.Definition.{Definition}
use Rattle.psg_grammar.specs.declared.types.Item.{Item}
use Rattle.psg_grammar.specs.declared.types.Item.TheVariants as items
use Rattle.psg_grammar.specs.declared.types.Kind.{Kind}
use Rattle.psg_grammar.specs.declared.types.Kind.TheVariants as kinds
use Rattle.psg_grammar.specs.Fragments.{Fragment, hole, ending, cell, operator, with_child, with_name, with_number}
use Rattle.psg_grammar.specs.Fragments.{with_text, anything, observed, children_of}
use Rattle.psg_grammar.specs.Lookups.{is_declares, next_item}
use Rattle.psg_grammar.specs.Paths.{Path, node_at}
use Rattle.psg_grammar.specs.WellFormed.{Fits, IsPlain}
use Rattle.psg_cache.specs.Notes.{IsFormed}
use Rattle.psg_places.specs.declared.place.Place.{Place}
use Rattle.psg_places.specs.declared.place.Place.TheVariants.{Node, Element, End, Name}
use Rattle.psg_places.specs.Blame.{kept_in}
use Rattle.psg_places.specs.Leading.{Becomes, LeadsThere, gone_of, is_node, is_opened_at}
use Rattle.psg_places.specs.Listings.{opened_among}
use Rattle.psg_places.specs.Opened.{contents, opened, opened_child}
use Rattle.psg_places.specs.Places.{below, child_places, content_count, content_places, declared_count, has_no_placeholder, is_hole}
use Rattle.psg_places.specs.Places.{names_before, phylum_of}
use Rattle.psg_places.specs.Ways.{covers, earlier, goes_into, goes_past, is_covered, is_left_out, moved, takes_along}
use Rattle.psg_places.proofs.CountLaws.{content_length}
use Rattle.psg_places.proofs.ListingLaws.{opened_both}
use Rattle.psg_places.proofs.InsideLaws.{Inside, IsChain, IsParts, IsSmall, Only, Under, Deep, child_here, contents_inside, deep_count, each_cond}
use Rattle.psg_places.proofs.InsideLaws.{each_opened, is_element, is_out, parts_deep, parts_under, quiet_beside, quiet_small}
use Rattle.psg_places.proofs.ThereLaws.{HasElement, There, child_there, inner_there, list_step, or_parts_false, reads_below, there_after, there_before, there_by}

-- ---- the shapes of trees

abbrev pub IsShaped : Fragment → Type 0
IsShaped (hole p) = Unit {0}
IsShaped (ending l u) = Unit {0}
IsShaped (cell l e r) = IsShaped e × (IsShaped r × IsChain r)
IsShaped (operator o) = Unit {0}
IsShaped (with_child f t) = (IsShaped f × IsParts f) × IsShaped t
IsShaped (with_name f x) = IsShaped f × IsParts f
IsShaped (with_number f x) = IsShaped f × IsParts f
IsShaped (with_text f x) = IsShaped f × IsParts f
IsShaped anything = ⊥
IsShaped (observed f) = ⊥

no_cons : (x : Item) (more : List Item) → x ∷ more ≡ [] → ⊥
no_cons x more e = suc_none (length more) (ap length e)
  where
    suc_none : (n : ℕ) → suc n ≡ 0 → ⊥
    suc_none n e = omega (arith, e)

abbrev is_of_list : Kind → Bool
is_of_list (kinds.Phylum p) = false
is_of_list (kinds.List l) = true

module _ (def : Definition) where
  named_fit : (f : Fragment) (x : Word) (more : List Item) (kind : Kind) → Fits def (with_name f x) more kind
      → (item : Item) × Fits def f (item ∷ more) kind
  named_fit f x more kind h = elim h.0 [ inl g ↦ (items.Refers g.0, g.1) | inr g ↦ (items.Declares g.0, g.1) ]

  -- what takes a part is an operator
  parts_fit : (f : Fragment) (x : Item) (more : List Item) (kind : Kind) → Fits def f (x ∷ more) kind → IsPlain f
      → IsParts f × (is_of_list kind ≡ false)
  parts_fit (hole p) x more kind h plain = absurd (no_cons x more h.0)
  parts_fit (ending l u) x more kind h plain = absurd (no_cons x more h.0)
  parts_fit (cell l e r) x more kind h plain = absurd (no_cons x more h.0)
  parts_fit (operator o) x more kind h plain = (tt, ap is_of_list h.3)
  parts_fit (with_child f t) x more kind h plain = parts_fit f (items.Slot h.0) (x ∷ more) kind h.1 plain.0
  parts_fit (with_name f n) x more kind h plain =
      let g = named_fit f n (x ∷ more) kind h in parts_fit f g.0 (x ∷ more) kind g.1 plain
  parts_fit (with_number f n) x more kind h plain = parts_fit f items.Number (x ∷ more) kind h.0 plain
  parts_fit (with_text f n) x more kind h plain = parts_fit f items.Text (x ∷ more) kind h.0 plain
  parts_fit anything x more kind h plain = absurd h
  parts_fit (observed f) x more kind h plain = absurd plain

  pub shaped : (f : Fragment) (more : List Item) (kind : Kind) → Fits def f more kind → IsPlain f
      → IsShaped f × (is_of_list kind ≡ true → IsChain f)
  shaped (hole p) more kind h plain = (tt, λ e. absurd (true≢false (sym e ∙ ap is_of_list h.1)))
  shaped (ending l u) more kind h plain = (tt, λ e. tt)
  shaped (cell l e r) more kind h plain =
      let rest = shaped r [] (kinds.List l) h.5 plain.1 in
      let head = shaped e [] (kinds.Phylum h.2.element) h.4 plain.0 in
      ((head.0, (rest.0, rest.1 refl)), λ z. rest.1 refl)
  shaped (operator o) more kind h plain = (tt, λ e. absurd (true≢false (sym e ∙ ap is_of_list h.3)))
  shaped (with_child f t) more kind h plain =
      let parts = parts_fit f (items.Slot h.0) more kind h.1 plain.0 in
      let own = shaped f (items.Slot h.0 ∷ more) kind h.1 plain.0 in
      let child = shaped t [] h.0 h.2 plain.1 in
      (((own.0, parts.0), child.0), λ e. absurd (true≢false (sym e ∙ parts.1)))
  shaped (with_name f x) more kind h plain =
      let g = named_fit f x more kind h in
      let parts = parts_fit f g.0 more kind g.1 plain in
      let own = shaped f (g.0 ∷ more) kind g.1 plain in
      ((own.0, parts.0), λ e. absurd (true≢false (sym e ∙ parts.1)))
  shaped (with_number f x) more kind h plain =
      let parts = parts_fit f items.Number more kind h.0 plain in
      let own = shaped f (items.Number ∷ more) kind h.0 plain in
      ((own.0, parts.0), λ e. absurd (true≢false (sym e ∙ parts.1)))
  shaped (with_text f x) more kind h plain =
      let parts = parts_fit f items.Text more kind h.0 plain in
      let own = shaped f (items.Text ∷ more) kind h.0 plain in
      ((own.0, parts.0), λ e. absurd (true≢false (sym e ∙ parts.1)))
  shaped anything more kind h plain = absurd h
  shaped (observed f) more kind h plain = absurd plain

pub no_child : (i : ℕ) (c : Fragment) → slice_get {X = Fragment} [] i ≡ Some c → ⊥
no_child i c e = let lt = slice_get_within [] i c e in omega (arith, lt)

pub shaped_child : (t : Fragment) (i : ℕ) (c : Fragment) → IsShaped t → slice_get (children_of t) i ≡ Some c → IsShaped c
shaped_child (hole p) i c h e = absurd (no_child i c e)
shaped_child (ending l u) i c h e = absurd (no_child i c e)
shaped_child (cell l x r) zero c h e = subst IsShaped (same_Some x c e) h.0
shaped_child (cell l x r) (suc i) c h e = shaped_child r i c h.1.0 e
shaped_child (operator o) i c h e = absurd (no_child i c e)
shaped_child (with_child f t) i c h e =
    elim (cases_lt i (length (children_of f))) [
      | inl lt ↦
          let found = slice_get_some (children_of f) i lt in
          let front = slice_get-front (children_of f) (t ∷ []) i found.0 found.1 in
          let same = slice_get_once (children_of f ++ t ∷ []) i found.0 c front e in
          subst IsShaped same (shaped_child f i found.0 h.0.0 found.1)
      | inr le ↦
          let lt = slice_get_within (children_of f ++ t ∷ []) i c e in
          let all = length-append (children_of f) (t ∷ []) in
          let last : i ≡ length (children_of f) = omega (arith, lt, all, le) in
          let at = ap (slice_get (children_of f ++ t ∷ [])) (sym last) ∙ e in
          subst IsShaped (sym (slice_get-end_is (children_of f) t c at)) h.1
    ]
shaped_child (with_name f x) i c h e = shaped_child f i c h.0 e
shaped_child (with_number f x) i c h e = shaped_child f i c h.0 e
shaped_child (with_text f x) i c h e = shaped_child f i c h.0 e
shaped_child anything i c h e = absurd h
shaped_child (observed f) i c h e = absurd h

-- ---- what a whole path tells of its first steps

through_own : (p s : Path) → pointwise nat_eq p (take (length p) (p ++ s)) ≡ true
through_own [] s = refl
through_own (k ∷ p) s = ap₂ (λ a b. a && b) (eqb-refl k) (through_own p s)

past_own : (p s : Path) (k : ℕ) → goes_past p (p ++ k ∷ s) ≡ true
past_own p s k =
    let all = length-append p (k ∷ s) in
    ap₂ (λ a b. a && b) (lt-ltb (length p) (length (p ++ k ∷ s)) (omega (arith, all))) (through_own p (k ∷ s))

into_own : (p s : Path) (k : ℕ) → goes_into (p ++ k ∷ []) (p ++ k ∷ s) ≡ true
into_own [] s k = ap (λ a. a && true) (eqb-refl k)
into_own (j ∷ p) s k =
    ap₂ (λ a b. a && b) (eqb-refl j)
    (ap (λ q. pointwise nat_eq (p ++ k ∷ []) (take (length (p ++ k ∷ [])) q)) (sym (append_assoc p (k ∷ []) s))
    ∙ through_own (p ++ k ∷ []) s)

not_both : (a b : Bool) → (a ≡ true → b ≡ true) → b ≡ false → a ≡ false
not_both true b f e = absurd (true≢false (sym (f refl) ∙ e))
not_both false b f e = refl

not_covered : (xs : List Place) (p s : Path) (k : ℕ) → is_covered xs (p ++ k ∷ s) ≡ false → is_opened_at xs p ≡ false
not_covered [] p s k e = refl
not_covered (x ∷ xs) p s k e =
    let (here, more) = or_parts_false (covers (p ++ k ∷ s) x) (is_covered xs (p ++ k ∷ s)) e in
    ap₂ (λ a b. a || b) (not_both (is_node p x) (covers (p ++ k ∷ s) x) (by_place x) here) (not_covered xs p s k more)
  where
    by_place : (x : Place) → is_node p x ≡ true → covers (p ++ k ∷ s) x ≡ true
    by_place (Node at) h = ap (λ a. goes_past a (p ++ k ∷ s)) (same_text at p (sym h)) ∙ past_own p s k
    by_place (Element at) h = absurd (true≢false (sym h))
    by_place (End at) h = absurd (true≢false (sym h))
    by_place (Name at n) h = absurd (true≢false (sym h))

pub not_out : (xs : List Place) (p s : Path) (k : ℕ) → is_left_out xs (p ++ k ∷ s) ≡ false → is_out xs (below p k) ≡ false
not_out [] p s k e = refl
not_out (x ∷ xs) p s k e =
    let (here, more) = or_parts_false (takes_along (p ++ k ∷ s) x) (is_left_out xs (p ++ k ∷ s)) e in
    ap₂ (λ a b. a || b) (not_both (is_element (below p k) x) (takes_along (p ++ k ∷ s) x) (by_place x) here)
    (not_out xs p s k more)
  where
    by_place : (x : Place) → is_element (below p k) x ≡ true → takes_along (p ++ k ∷ s) x ≡ true
    by_place (Node at) h = absurd (true≢false (sym h))
    by_place (Element at) h = ap (λ a. goes_into a (p ++ k ∷ s)) (same_text at (below p k) (sym h)) ∙ into_own p s k
    by_place (End at) h = absurd (true≢false (sym h))
    by_place (Name at n) h = absurd (true≢false (sym h))

-- ---- one step down

module _ (def : Definition) (kept : List Bool) (fresh : ℕ → Word) where
  abbrev made : ℕ → ℕ → Fragment → Fragment
  made d n t = contents def (kept_in kept) fresh d n t

  abbrev read : ℕ → Path → ℕ → Fragment → List Place
  read n p k t = opened_among kept n (content_places def p k t)

  pub parts_length : (d n : ℕ) (t : Fragment) → IsParts t → length (children_of (made d n t)) ≡ length (children_of t)
  parts_length d n (operator o) h = refl
  parts_length d n (with_child f t) h =
      length-append (children_of (made d n f)) _ ∙ ap (λ m. m + 1) (parts_length d n f h) ∙ sym (length-append (children_of f) (t ∷ []))
  parts_length d n (with_name f x) h = parts_length d n f h
  parts_length d n (with_number f x) h = parts_length d n f h
  parts_length d n (with_text f x) h = parts_length d n f h
  parts_length d n (hole p) h = absurd h
  parts_length d n (ending l u) h = absurd h
  parts_length d n (cell l e r) h = absurd h
  parts_length d n anything h = absurd h
  parts_length d n (observed f) h = absurd h

  -- the child i of a node is among these children
  pub record HasPart (xs : List Place) (p : Path) (children : List Fragment) (i : ℕ) (c : Fragment) : Type 0 where
    pub node : Fragment
    pub at : slice_get children i ≡ Some node
    pub there : There def kept fresh xs (below p i) c node

  pub part_step : (p : Path) (t : Fragment) (k i d n : ℕ) (c : Fragment) → IsParts t → slice_get (children_of t) i ≡ Some c
      → HasPart (read n p k t) p (children_of (made d n t)) i c
  part_step p (operator o) k i d n c h e = absurd (no_child i c e)
  part_step p (with_child f t) k i d n c h e =
      let front = children_of f in
      let o = length front in
      let m = n + content_count def f in
      let v = opened_child def (kept_in kept) fresh m t (made (d + declared_count def f) m t)
      (made (m + 1) (m + 1 + declared_count def t) t) in
      let xs = read n p k f in
      let own = content_places def (below p o) 0 t in
      let ps = child_places def (below p o) t own in
      let ys = opened_among kept m ps in
      let split : read n p k (with_child f t) ≡ xs ++ ys =
      opened_both kept n (content_places def p k f) ps
      ∙ ap (λ x. xs ++ opened_among kept (n + x) ps) (content_length def p k f) in
      let news = children_of (made d n f) in
      let result : HasPart (xs ++ ys) p (news ++ v ∷ []) i c = elim (cases_lt i o) [
        | inl lt ↦
            let found = slice_get_some front i lt in
            let head = slice_get-front front (t ∷ []) i found.0 found.1 in
            let same = slice_get_once (front ++ t ∷ []) i found.0 c head e in
            let own_at : slice_get front i ≡ Some c = found.1 ∙ ap (λ x. Some x) same in
            let g = part_step p f k i d n c h own_at in
            record {
              node = g.node;
              at = slice_get-front news (v ∷ []) i g.node g.at;
              there =
                  there_after def kept fresh xs ys (below p i) c g.node
                  (quiet_beside p i (Only o) ys (λ e. let z : i ≡ o = e in omega (arith, z, lt))
                  (each_opened (Inside p (Only o)) kept m ps (child_here def p o t own (contents_inside def (below p o) 0 t))))
                  g.there;
            }
        | inr le ↦
            let lt = slice_get_within (front ++ t ∷ []) i c e in
            let all = length-append front (t ∷ []) in
            let last : o ≡ i = omega (arith, lt, all, le) in
            let at_end = ap (slice_get (front ++ t ∷ [])) last ∙ e in
            let is : c ≡ t = slice_get-end_is front t c at_end in
            let count : length news ≡ o = parts_length d n f h in
            let done : HasPart (xs ++ ys) p (news ++ v ∷ []) o t = record {
              node = v;
              at = ap (slice_get (news ++ v ∷ [])) (sym count) ∙ slice_get-end news v;
              there =
                  there_before def kept fresh xs ys (below p o) t v
                  (quiet_beside p o (Under o) xs (λ e. let z : o < o = e in omega (arith, z))
                  (each_opened (Inside p (Under o)) kept n (content_places def p k f) (parts_under def p k f h)))
                  (child_there def kept fresh (below p o) (d + declared_count def f) m t);
            } in
            subst (λ x. HasPart (xs ++ ys) p (news ++ v ∷ []) x c) last
            (subst (λ x. HasPart (xs ++ ys) p (news ++ v ∷ []) o x) (sym is) done)
      ] in
      subst (λ zs. HasPart zs p (news ++ v ∷ []) i c) (sym split) result
  part_step p (with_name f x) k i d n c h e =
      let ps = cond (is_declares (next_item def f)) [] (Name p (names_before f) ∷ []) in
      let xs = read n p k f in
      let m = n + length (content_places def p k f) in
      let ys = opened_among kept m ps in
      let g = part_step p f k i d n c h e in
      subst (λ zs. HasPart zs p (children_of (made d n f)) i c) (sym (opened_both kept n (content_places def p k f) ps))
      (record {
        node = g.node;
        at = g.at;
        there =
            there_after def kept fresh xs ys (below p i) c g.node
            (quiet_small (below p i) ys
            (each_opened IsSmall kept m ps (each_cond IsSmall (is_declares (next_item def f)) [] _ tt (tt, tt))))
            g.there;
      })
  part_step p (with_number f x) k i d n c h e = part_step p f k i d n c h e
  part_step p (with_text f x) k i d n c h e = part_step p f k i d n c h e
  part_step p (hole x) k i d n c h e = absurd h
  part_step p (ending l u) k i d n c h e = absurd h
  part_step p (cell l x r) k i d n c h e = absurd h
  part_step p anything k i d n c h e = absurd h
  part_step p (observed f) k i d n c h e = absurd h

  part_found : (p : Path) (t : Fragment) (i d n : ℕ) (c : Fragment) → IsParts t → slice_get (children_of t) i ≡ Some c
      → HasElement def kept fresh (read n p 0 t) p (children_of (made d n t)) i i c
  part_found p t i d n c h e =
      let xs = read n p 0 t in
      let none : earlier xs p i ≡ 0 =
      deep_count p i xs (each_opened (Deep p) kept n (content_places def p 0 t) (parts_deep def p 0 t h)) in
      let place : i - earlier xs p i ≡ i = omega (arith, none) in
      let g = part_step p t 0 i d n c h e in
      record {
        few = omega (arith, none);
        node = g.node;
        at = ap (slice_get (children_of (made d n t))) place ∙ g.at;
        there = g.there;
      }

  -- the child i of the node at the path, if it is not left out
  pub child_step : (p : Path) (t : Fragment) (i d n : ℕ) (c : Fragment) → IsShaped t → slice_get (children_of t) i ≡ Some c
      → is_out (read n p 0 t) (below p i) ≡ false → HasElement def kept fresh (read n p 0 t) p (children_of (made d n t)) i i c
  child_step p (hole x) i d n c h e out = absurd (no_child i c e)
  child_step p (ending l u) i d n c h e out = absurd (no_child i c e)
  child_step p (cell l x r) i d n c h e out = list_step def kept fresh p (cell l x r) 0 i i d n c h.1.1 (omega arith) e out
  child_step p (operator o) i d n c h e out = absurd (no_child i c e)
  child_step p (with_child f t) i d n c h e out = part_found p (with_child f t) i d n c h.0.1 e
  child_step p (with_name f x) i d n c h e out = part_found p (with_name f x) i d n c h.1 e
  child_step p (with_number f x) i d n c h e out = part_found p (with_number f x) i d n c h.1 e
  child_step p (with_text f x) i d n c h e out = part_found p (with_text f x) i d n c h.1 e
  child_step p anything i d n c h e out = absurd h
  child_step p (observed f) i d n c h e out = absurd h

  -- ---- the whole way

  abbrev Found : List Place → Path → Fragment → Option Fragment → Type 0
  Found xs p c o = (v : Fragment) × (o ≡ Some v) × There def kept fresh xs p c v

  pub node_below : (u v : Fragment) (k : ℕ) (path : Path) → slice_get (children_of u) k ≡ Some v → node_at u (k ∷ path) ≡ node_at v path
  node_below u v k path e = ap (λ o. option_and_then (λ t. node_at t path) o) e

  pub walk : (path p : Path) (xs : List Place) (t u c : Fragment) → IsShaped t → There def kept fresh xs p t u
      → node_at t path ≡ Some c → is_covered xs (p ++ path) ≡ false → is_left_out xs (p ++ path) ≡ false
      → Found xs (p ++ path) c (node_at u (moved xs p path))
  walk [] p xs t u c h there e cov out = (
    u,
    refl,
    subst (λ q. There def kept fresh xs q c u) (sym (append-nil p))
        (subst (λ x. There def kept fresh xs p x u) (same_Some t c e) there),
  )
  walk (k ∷ path) p xs t u c h there e cov out =
      option_and_then_some (λ x. node_at x path) (slice_get (children_of t) k) c e
      (λ x at more. by_there x there at more (walk path (below p k) xs x))
    where
      whole : below p k ++ path ≡ p ++ k ∷ path
      whole = append_assoc p (k ∷ []) path

      by_there : (x : Fragment) → There def kept fresh xs p t u → slice_get (children_of t) k ≡ Some x → node_at x path ≡ Some c
          → ((u c : Fragment) → IsShaped x → There def kept fresh xs (below p k) x u → node_at x path ≡ Some c
          → is_covered xs (below p k ++ path) ≡ false → is_left_out xs (below p k ++ path) ≡ false
          → Found xs (below p k ++ path) c (node_at u (moved xs (below p k) path)))
          → Found xs (p ++ k ∷ path) c (node_at u (moved xs p (k ∷ path)))
      by_there x (inl gone) at more rest = absurd (true≢false (sym gone.0 ∙ not_covered xs p path k cov))
      by_there x (inr stays) at more rest =
          let o = stays.1 in
          let ys = read o.n p 0 t in
          let free : is_out ys (below p k) ≡ false = sym (o.reads.element k []) ∙ not_out xs p path k out in
          let g = child_step p t k o.d o.n x h at free in
          let here : There def kept fresh xs (below p k) x g.node =
          there_by def kept fresh xs ys (below p k) x g.node (o.reads.node k []) (reads_below xs ys p k o.reads) g.there in
          let found = rest g.node c (shaped_child t k x h at) here more (ap (is_covered xs) whole ∙ cov) (ap (is_left_out xs) whole ∙ out) in
          let count : earlier xs p k ≡ earlier ys p k =
          ap (λ q. earlier xs q k) (sym (append-nil p)) ∙ o.reads.count [] k ∙ ap (λ q. earlier ys q k) (append-nil p) in
          let down : slice_get (children_of u) (k - earlier xs p k) ≡ Some g.node =
          ap₂ (λ v m. slice_get (children_of v) (k - m)) o.is count ∙ g.at in (
            found.0,
            node_below u g.node (k - earlier xs p k) (moved xs (below p k) path) down ∙ found.1,
            subst (λ q. There def kept fresh xs q c found.0) whole found.2,
          )

  -- ---- from the top

  twice : (a : Bool) (x y z : Fragment) → cond a x (cond a y z) ≡ cond a x z
  twice true x y z = refl
  twice false x y z = refl

  pub top_there : (f : Fragment) → There def kept fresh (gone_of def kept fresh f) [] f (opened def (kept_in kept) fresh f)
  top_there f =
      let a = has_no_placeholder def f in
      let z : 0 + declared_count def f ≡ declared_count def f = omega arith in
      let node = cond (is_hole f) f (cond (kept_in kept 0) (made 1 (1 + declared_count def f) f) (hole (phylum_of def f))) in
      let same : cond a (made 0 (0 + declared_count def f) f) (cond a (made 0 0 f) node) ≡ cond a (made 0 (declared_count def f) f) node =
      twice a (made 0 (0 + declared_count def f) f) (made 0 0 f) node ∙ ap (λ m. cond a (made 0 m f) node) z in
      subst (λ u. There def kept fresh (gone_of def kept fresh f) [] f u) same (inner_there def kept fresh [] 0 f)

  there_parts : (c o : Bool) (x : Path) (there : Path) → cond (c || o) None (Some x) ≡ Some there
      → (c ≡ false) × ((o ≡ false) × (x ≡ there))
  there_parts true o x there e = absurd (none-some there e)
  there_parts false true x there e = absurd (none-some there e)
  there_parts false false x there e = (refl, (refl, same_Some x there e))

  becomes : (xs : List Place) (p : Path) (t u : Fragment) → There def kept fresh xs p t u → Becomes def kept fresh xs p t u
  becomes xs p t u (inl h) = record { placeholder = λ e. h.1; same = λ e. absurd (true≢false (sym h.0 ∙ e)) }
  becomes xs p t u (inr h) = record { placeholder = λ e. absurd (true≢false (sym e ∙ h.0)); same = λ e. (h.1.d, h.1.n, h.1.is) }

  pub leads_there : (f : Fragment) → IsFormed def f → LeadsThere def kept fresh f
  leads_there f formed path there t e g =
      let xs = gone_of def kept fresh f in
      let parts = there_parts (is_covered xs path) (is_left_out xs path) (moved xs [] path) there g in
      let shape = shaped def f [] formed.0 formed.1.0 formed.1.1 in
      let found = walk path [] xs f (opened def (kept_in kept) fresh f) t shape.0 (top_there f) e parts.0 parts.1.0 in
      (found.0, ap (node_at (opened def (kept_in kept) fresh f)) (sym parts.1.1) ∙ found.1, becomes xs path t found.0 found.2)
