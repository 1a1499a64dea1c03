-- The keys of a well-formed tree are of spaces that are there.
use Rattle.std.proofs.Common.{inl, inr, ℕ, zero, suc, ◌||◌, Bool, true, false, cond, List, [], ◌∷◌, ◌++◌, length, refl, sym, subst}
use Rattle.std.specs.Prelude.{nat_lt}
use Rattle.std.specs.List.{AllByRecursion}
use Rattle.std.specs.declared.cmp.Ordering.{Ordering}
use Rattle.std.specs.declared.cmp.Ordering.TheVariants.{Less, Equal, Greater}
use Rattle.psg_terms.specs.Names.{is_among}
use Rattle.psg_terms.proofs.Lists.{each_append}
use Rattle.psg_grammar.specs.declared.types.Kind.{Kind}
use Rattle.psg_grammar.specs.declared.types.Kind.TheVariants as kinds
use Rattle.psg_grammar.specs.declared.types.Item.{Item}
use Rattle.psg_grammar.specs.declared.types.Item.TheVariants as items
use Rattle.psg_grammar.specs.declared.types.Definition.{Definition}
use Rattle.psg_grammar.specs.Fragments.{Fragment, hole, ending, cell, operator, with_child, with_name, with_number, with_text, anything, observed, children_of}
use Rattle.psg_grammar.specs.Keys.{Key, in_order, insert_key, key_cmp, outward, placed, space_of}
use Rattle.psg_grammar.specs.Lookups.{is_scope, key_at, part_items}
use Rattle.psg_grammar.specs.Regions.{declared_inside, names_inside, passing, unfinished_inside}
use Rattle.psg_grammar.specs.Sound.{HasSpaceSort, IsItem, IsSound}
use Rattle.psg_grammar.specs.Steps.{first_children}
use Rattle.psg_grammar.specs.WellFormed.{Fits, IsPlain}
use Rattle.psg_grammar.proofs.SoundParts.{operator_sound}
use Rattle.psg_eval.specs.Glues.{outer_names}
use Rattle.psg_cache.proofs.Each.{not_nil}
use Rattle.psg_explain.specs.Refutations.{AreSortsOfKeys}
use Rattle.psg_explain.proofs.Firsts.{same_key}
use Rattle.psg_explain.proofs.FormedParts.{more_parts, name_key}

module _ (def : Definition) where
  -- the space of the key is there
  abbrev pub HasSpace : Key → Type 0
  HasSpace k = (s : ℕ) × HasSpaceSort def (space_of k) s

  abbrev pub HaveSpaces : List Key → Type 0
  HaveSpaces ks = AllByRecursion HasSpace ks

  pub key_sorts_of : (ks : List Key) → HaveSpaces ks → (sorts : List ℕ) × AreSortsOfKeys def ks sorts
  key_sorts_of [] h = ([], refl)
  key_sorts_of (k ∷ ks) ((s, at), h) = let (sorts, are) = key_sorts_of ks h in (s ∷ sorts, (s, sorts, refl, at, are))

  outward_spaces : (u : ℕ → Bool) (d ns : List Key) → HaveSpaces ns → HaveSpaces (outward u d ns)
  outward_spaces u d [] h = tt
  outward_spaces u d (n ∷ ns) (p, h) =
      elim (u (space_of n) || is_among d n) as (λ b. HaveSpaces (cond b (outward u d ns) (n ∷ outward u d ns))) [ true ↦ outward_spaces u d ns h | false ↦ (p, outward_spaces u d ns h) ]

  passing_spaces : (scope : Bool) (u : ℕ → Bool) (d ns : List Key) → HaveSpaces ns → HaveSpaces (passing scope u d ns)
  passing_spaces true u d ns h = outward_spaces u d ns h
  passing_spaces false u d ns h = h

  -- ---- items

  part_each : (xs : List Item) → AllByRecursion (IsItem def) xs → AllByRecursion (IsItem def) (part_items xs)
  part_each [] h = tt
  part_each (items.Slot k ∷ xs) (p, h) = (p, part_each xs h)
  part_each (items.Refers s ∷ xs) (p, h) = (p, part_each xs h)
  part_each (items.Declares s ∷ xs) (p, h) = (p, part_each xs h)
  part_each (items.Number ∷ xs) (p, h) = (p, part_each xs h)
  part_each (items.Text ∷ xs) (p, h) = (p, part_each xs h)
  part_each (items.Word w ∷ xs) (p, h) = part_each xs h
  part_each (items.Space ∷ xs) (p, h) = part_each xs h
  part_each (items.Tight ∷ xs) (p, h) = part_each xs h
  part_each (items.Line ∷ xs) (p, h) = part_each xs h
  part_each (items.In ∷ xs) (p, h) = part_each xs h
  part_each (items.Out ∷ xs) (p, h) = part_each xs h

  module _ (sound : IsSound def) where
    items_left : (f : Fragment) (i : Item) (more : List Item) (kind : Kind) → Fits def f (i ∷ more) kind → AllByRecursion (IsItem def) (i ∷ more)
    items_left (operator o) i more kind (op, found, e, k) = subst (AllByRecursion (IsItem def)) (sym e) (part_each op.items (operator_sound def sound o op found).each_item)
    items_left (with_child f t) i more kind (k, hf, ht) = (items_left f (items.Slot k) (i ∷ more) kind hf).1
    items_left (with_name f n) i more kind (inl (s, h), name) = (items_left f (items.Refers s) (i ∷ more) kind h).1
    items_left (with_name f n) i more kind (inr (s, h), name) = (items_left f (items.Declares s) (i ∷ more) kind h).1
    items_left (with_number f n) i more kind (h, small) = (items_left f items.Number (i ∷ more) kind h).1
    items_left (with_text f t) i more kind (h, text) = (items_left f items.Text (i ∷ more) kind h).1
    items_left (hole p) i more kind h = absurd (not_nil i more h.0)
    items_left (ending l u) i more kind h = absurd (not_nil i more h.0)
    items_left (cell l e r) i more kind h = absurd (not_nil i more h.0)
    items_left anything i more kind h = absurd h
    items_left (observed f) i more kind h = absurd (not_nil i more h.0)

    -- ---- keys

    pub spaces_inside : (f : Fragment) (more : List Item) (kind : Kind) → Fits def f more kind → IsPlain f → HaveSpaces (names_inside def f)
    spaces_inside (hole p) more kind h plain = tt
    spaces_inside (ending l u) more kind h plain = tt
    spaces_inside (cell l e r) more kind (a, b, k, found, fe, fr, z) plain =
        each_append HasSpace (outer_names def e) (names_inside def r)
        (passing_spaces (is_scope def e) (λ s. unfinished_inside def s e) (declared_inside def e) (names_inside def e) (spaces_inside e [] (kinds.Phylum k.element) fe plain.0))
        (spaces_inside r [] (kinds.List l) fr plain.1)
    spaces_inside (operator o) more kind h plain = tt
    spaces_inside (with_child f t) more kind (k, hf, ht) plain =
        each_append HasSpace (names_inside def f) (outer_names def t) (spaces_inside f (items.Slot k ∷ more) kind hf plain.0)
        (passing_spaces (is_scope def t) (λ s. unfinished_inside def s t) (declared_inside def t) (names_inside def t) (spaces_inside t [] k ht plain.1))
    spaces_inside (with_name f n) more kind (inl (s, h), name) plain =
        each_append HasSpace (names_inside def f) (key_at def f n ∷ []) (spaces_inside f (items.Refers s ∷ more) kind h plain)
        (subst HasSpace (sym (name_key def f (items.Refers s) more n (more_parts def f (items.Refers s) more kind h))) (items_left f (items.Refers s) more kind h).0, tt)
    spaces_inside (with_name f n) more kind (inr (s, h), name) plain =
        each_append HasSpace (names_inside def f) (key_at def f n ∷ []) (spaces_inside f (items.Declares s ∷ more) kind h plain)
        (subst HasSpace (sym (name_key def f (items.Declares s) more n (more_parts def f (items.Declares s) more kind h))) (items_left f (items.Declares s) more kind h).0, tt)
    spaces_inside (with_number f n) more kind (h, small) plain = spaces_inside f (items.Number ∷ more) kind h plain
    spaces_inside (with_text f t) more kind (h, text) plain = spaces_inside f (items.Text ∷ more) kind h plain
    spaces_inside anything more kind h plain = absurd h
    spaces_inside (observed f) more kind h plain = absurd plain

    pub spaces_outside : (f : Fragment) (kind : Kind) → Fits def f [] kind → IsPlain f → HaveSpaces (outer_names def f)
    spaces_outside f kind fits plain =
        passing_spaces (is_scope def f) (λ s. unfinished_inside def s f) (declared_inside def f) (names_inside def f) (spaces_inside f [] kind fits plain)

  -- of the first children alone
  each_two : (xs ys : List Key) → HaveSpaces (xs ++ ys) → HaveSpaces xs × HaveSpaces ys
  each_two [] ys h = (tt, h)
  each_two (x ∷ xs) ys (p, h) = let (a, b) = each_two xs ys h in ((p, a), b)

  kept_spaces : (b : Bool) (t : Fragment) → HaveSpaces (outer_names def t) → HaveSpaces (outer_names def (cond b t anything))
  kept_spaces true t w = w
  kept_spaces false t w = tt

  pub first_spaces : (n : ℕ) (f : Fragment) → HaveSpaces (names_inside def f) → HaveSpaces (names_inside def (first_children n f))
  first_spaces n (with_child f t) w =
      let b : Bool = nat_lt (length (children_of f)) n in
      let (one, two) = each_two (names_inside def f) (outer_names def t) w in
      each_append HasSpace (names_inside def (first_children n f)) (outer_names def (cond b t anything)) (first_spaces n f one) (kept_spaces b t two)
  first_spaces n (with_name f m) w =
      let (one, two) = each_two (names_inside def f) (key_at def f m ∷ []) w in
      each_append HasSpace (names_inside def (first_children n f)) (key_at def (first_children n f) m ∷ []) (first_spaces n f one) (subst HasSpace (sym (same_key def n f m)) two.0, tt)
  first_spaces n (with_number f m) w = first_spaces n f w
  first_spaces n (with_text f m) w = first_spaces n f w
  first_spaces n (observed f) w = first_spaces n f w
  first_spaces zero (cell l e r) w = tt
  first_spaces (suc zero) (cell l e r) w =
      let (one, two) = each_two (outer_names def e) (names_inside def r) w in
      each_append HasSpace (outer_names def e) [] one tt
  first_spaces (suc (suc n)) (cell l e r) w = w
  first_spaces n (hole p) w = tt
  first_spaces n (ending l u) w = tt
  first_spaces n (operator o) w = tt
  first_spaces n anything w = tt

  -- ---- in order

  placed_spaces : (o : Ordering) (n m : Key) (rest more : List Key) → HasSpace n → HasSpace m → HaveSpaces rest → HaveSpaces more → HaveSpaces (placed o n m rest more)
  placed_spaces Less n m rest more p q h k = (p, (q, h))
  placed_spaces Equal n m rest more p q h k = (q, h)
  placed_spaces Greater n m rest more p q h k = (q, k)

  insert_spaces : (n : Key) (ns : List Key) → HasSpace n → HaveSpaces ns → HaveSpaces (insert_key n ns)
  insert_spaces n [] p h = (p, tt)
  insert_spaces n (m ∷ ns) p (q, h) = placed_spaces (key_cmp n m) n m ns (insert_key n ns) p q h (insert_spaces n ns p h)

  pub ordered_spaces : (ns : List Key) → HaveSpaces ns → HaveSpaces (in_order ns)
  ordered_spaces [] h = tt
  ordered_spaces (n ∷ ns) (p, h) = insert_spaces n (in_order ns) p (ordered_spaces ns h)
