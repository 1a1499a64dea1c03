-- Each node of the tree of the kept places is one of the whole tree, where its path back leads.
use Rattle.std.proofs.Common.{◌≡◌, inl, inr, ℕ, ◌+◌, ◌-◌, ◌≤◌, ◌&&◌, ◌||◌, Bool, true, false, cond, List, [], ◌∷◌, ◌++◌, length, Option, Some, None, slice_get, refl, ap, ap₂, sym, ◌∙◌, arith, true≢false, append_assoc, append-nil}
use Rattle.std.specs.Prelude.{nat_eq, nat_lt}
use Rattle.std.proofs.lemmas.Bool.{and_parts, cases_lt, eqb-true, lt-ltb, ltb-true}
use Rattle.std.proofs.lemmas.Option.{option_and_then_some, slice_get_within}
use Rattle.psg_terms.specs.Names.{Name as Word}
use Rattle.psg_terms.proofs.Lists.{slice_get_some}
use Rattle.psg_grammar.specs.declared.types.Definition.{Definition}
use Rattle.psg_grammar.specs.Fragments.{Fragment, hole, ending, cell, operator, with_child, with_name, with_number}
use Rattle.psg_grammar.specs.Fragments.{with_text, anything, observed, children_of}
use Rattle.psg_grammar.specs.Paths.{Path, node_at}
use Rattle.psg_cache.specs.Notes.{IsFormed}
use Rattle.psg_places.specs.declared.place.Place.{Place}
use Rattle.psg_places.specs.declared.place.Place.TheVariants.{Node, Element, End, Name}
use Rattle.psg_places.specs.Blame.{kept_in}
use Rattle.psg_places.specs.Leading.{LeadsBack, gone_of, is_node, is_opened_at}
use Rattle.psg_places.specs.Listings.{opened_among}
use Rattle.psg_places.specs.Opened.{contents, opened}
use Rattle.psg_places.specs.Places.{below, content_places, phylum_of}
use Rattle.psg_places.specs.Ways.{covers, earlier, goes_past, goes_through, is_covered, is_left_out, moved}
use Rattle.psg_places.proofs.InsideLaws.{Deep, IsParts, deep_count, each_opened, is_out, parts_deep}
use Rattle.psg_places.proofs.ThereLaws.{There, list_count, or_parts_false, path_own, reads_below, there_by}
use Rattle.psg_places.proofs.WalkLaws.{IsShaped, child_step, no_child, node_below, not_out, parts_length, shaped, shaped_child, top_there}

-- ---- what is not covered step by step is not covered

abbrev covers_from : Place → Path → Path → Bool
covers_from x p [] = false
covers_from x p (k ∷ s) = is_node p x || covers_from x (below p k) s

abbrev covered_from : List Place → Path → Path → Bool
covered_from xs p [] = false
covered_from xs p (k ∷ s) = is_opened_at xs p || covered_from xs (below p k) s

from_parts : (x : Place) (xs : List Place) (p s : Path) → covered_from (x ∷ xs) p s ≡ false
    → (covers_from x p s ≡ false) × (covered_from xs p s ≡ false)
from_parts x xs p [] e = (refl, refl)
from_parts x xs p (k ∷ s) e =
    let (here, more) = or_parts_false (is_node p x || is_opened_at xs p) (covered_from (x ∷ xs) (below p k) s) e in
    let (own, others) = or_parts_false (is_node p x) (is_opened_at xs p) here in
    let (first_free, rest_free) = from_parts x xs (below p k) s more in
    (ap₂ (λ a b. a || b) own first_free, ap₂ (λ a b. a || b) others rest_free)

or_true : (b : Bool) → (b || true) ≡ true
or_true true = refl
or_true false = refl

past_from : (at p s : Path) → goes_past at s ≡ true → covers_from (Node (p ++ at)) p s ≡ true
past_from at p [] h =
    let parts = and_parts (nat_lt (length at) 0) (goes_through at []) h in
    absurd (let lt = ltb-true (length at) 0 parts.0 in omega (arith, lt))
past_from [] p (k ∷ s) h =
    ap (λ q. is_node p (Node q) || covers_from (Node q) (below p k) s) (append-nil p)
    ∙ ap (λ b. b || covers_from (Node p) (below p k) s) (path_own p)
past_from (j ∷ at) p (k ∷ s) h =
    let parts = and_parts (nat_lt (length (j ∷ at)) (length (k ∷ s))) (goes_through (j ∷ at) (k ∷ s)) h in
    let lt = ltb-true (length (j ∷ at)) (length (k ∷ s)) parts.0 in
    let both = and_parts (nat_eq j k) (goes_through at s) parts.1 in
    let same : j ≡ k = eqb-true j k both.0 in
    let less : nat_lt (length at) (length s) ≡ true = lt-ltb (length at) (length s) (omega (arith, lt)) in
    let rest = past_from at (below p k) s (ap₂ (λ a b. a && b) less both.1) in
    let path : below p k ++ at ≡ p ++ j ∷ at = append_assoc p (k ∷ []) at ∙ ap (λ i. p ++ i ∷ at) (sym same) in
    ap (λ b. is_node p (Node (p ++ j ∷ at)) || b) (ap (λ q. covers_from (Node q) (below p k) s) (sym path) ∙ rest)
    ∙ or_true (is_node p (Node (p ++ j ∷ at)))

place_free : (x : Place) (s : Path) → covers_from x [] s ≡ false → covers s x ≡ false
place_free (Node at) s e = by_test (goes_past at s) refl
  where
    by_test : (b : Bool) → goes_past at s ≡ b → b ≡ false
    by_test true h = absurd (true≢false (sym (past_from at [] s h) ∙ e))
    by_test false h = refl
place_free (Element at) s e = refl
place_free (End at) s e = refl
place_free (Name at n) s e = refl

not_covered_from : (xs : List Place) (s : Path) → covered_from xs [] s ≡ false → is_covered xs s ≡ false
not_covered_from [] s e = refl
not_covered_from (x ∷ xs) s e =
    let (own, others) = from_parts x xs [] s e in
    ap₂ (λ a b. a || b) (place_free x s own) (not_covered_from xs s others)

-- ---- one step, and the whole way

module _ (def : Definition) (kept : List Bool) (fresh : ℕ → Word) where
  abbrev made : ℕ → ℕ → Fragment → Fragment
  made d n t = contents def (kept_in kept) fresh d n t

  abbrev read : ℕ → Path → Fragment → List Place
  read n p t = opened_among kept n (content_places def p 0 t)

  -- a child that is there comes from one of the whole tree
  by_count : (p : Path) (t v : Fragment) (k d n : ℕ)
      → (length (children_of t) ≤ k → length (children_of (made d n t)) + earlier (read n p t) p k ≡ length (children_of t))
      → slice_get (children_of (made d n t)) (k - earlier (read n p t) p k) ≡ Some v
      → (c : Fragment) × (slice_get (children_of t) k ≡ Some c)
  by_count p t v k d n count e =
      elim (cases_lt k (length (children_of t))) [
        | inl lt ↦ slice_get_some (children_of t) k lt
        | inr le ↦
            let lt = slice_get_within (children_of (made d n t)) (k - earlier (read n p t) p k) v e in
            let all = count le in
            absurd (omega (arith, lt, all, le))
      ]

  parts_count : (p : Path) (t : Fragment) (k d n : ℕ) → IsParts t
      → length (children_of (made d n t)) + earlier (read n p t) p k ≡ length (children_of t)
  parts_count p t k d n h =
      let none : earlier (read n p t) p k ≡ 0 =
      deep_count p k (read n p t) (each_opened (Deep p) kept n (content_places def p 0 t) (parts_deep def p 0 t h)) in
      let same = parts_length def kept fresh d n t h in
      omega (arith, none, same)

  child_back : (p : Path) (t v : Fragment) (k d n : ℕ) → IsShaped t
      → slice_get (children_of (made d n t)) (k - earlier (read n p t) p k) ≡ Some v
      → (c : Fragment) × (slice_get (children_of t) k ≡ Some c)
  child_back p (hole x) v k d n h e = absurd (no_child (k - earlier (read n p (hole x)) p k) v e)
  child_back p (ending l u) v k d n h e = absurd (no_child (k - earlier (read n p (ending l u)) p k) v e)
  child_back p (cell l x r) v k d n h e =
      by_count p (cell l x r) v k d n (λ le. list_count def kept fresh p (cell l x r) 0 k d n h.1.1 (omega (arith, le))) e
  child_back p (operator o) v k d n h e = absurd (no_child (k - earlier (read n p (operator o)) p k) v e)
  child_back p (with_child f t) v k d n h e = by_count p (with_child f t) v k d n (λ le. parts_count p (with_child f t) k d n h.0.1) e
  child_back p (with_name f x) v k d n h e = by_count p (with_name f x) v k d n (λ le. parts_count p (with_name f x) k d n h.1) e
  child_back p (with_number f x) v k d n h e = by_count p (with_number f x) v k d n (λ le. parts_count p (with_number f x) k d n h.1) e
  child_back p (with_text f x) v k d n h e = by_count p (with_text f x) v k d n (λ le. parts_count p (with_text f x) k d n h.1) e
  child_back p anything v k d n h e = absurd h
  child_back p (observed f) v k d n h e = absurd h

  abbrev Back : List Place → Path → Path → Option Fragment → Type 0
  Back xs p path o = (c : Fragment) × (o ≡ Some c) × (covered_from xs p path ≡ false)

  walk_back : (path p : Path) (xs : List Place) (t u v : Fragment) → IsShaped t → There def kept fresh xs p t u
      → node_at u (moved xs p path) ≡ Some v → is_left_out xs (p ++ path) ≡ false → Back xs p path (node_at t path)
  walk_back [] p xs t u v h there e out = (t, refl, refl)
  walk_back (k ∷ path) p xs t u v h there e out = by_there there (λ x. walk_back path (below p k) xs x)
    where
      whole : below p k ++ path ≡ p ++ k ∷ path
      whole = append_assoc p (k ∷ []) path

      by_there : There def kept fresh xs p t u
          → ((x u v : Fragment) → IsShaped x → There def kept fresh xs (below p k) x u
          → node_at u (moved xs (below p k) path) ≡ Some v → is_left_out xs (below p k ++ path) ≡ false
          → Back xs (below p k) path (node_at x path))
          → Back xs p (k ∷ path) (node_at t (k ∷ path))
      by_there (inl gone) rest =
          let at : node_at (hole (phylum_of def t)) ((k - earlier xs p k) ∷ moved xs (below p k) path) ≡ Some v =
          ap (λ x. node_at x ((k - earlier xs p k) ∷ moved xs (below p k) path)) (sym gone.1) ∙ e in
          absurd (option_and_then_some (λ x. node_at x (moved xs (below p k) path))
          (slice_get (children_of (hole (phylum_of def t))) (k - earlier xs p k)) v at (λ x found more. no_child (k - earlier xs p k) x found))
      by_there (inr stays) rest =
          let o = stays.1 in
          let ys = read o.n p t in
          let count : earlier xs p k ≡ earlier ys p k =
          ap (λ q. earlier xs q k) (sym (append-nil p)) ∙ o.reads.count [] k ∙ ap (λ q. earlier ys q k) (append-nil p) in
          option_and_then_some (λ x. node_at x (moved xs (below p k) path))
          (slice_get (children_of u) (k - earlier xs p k)) v e
          (λ w found more.
          let own : slice_get (children_of (made o.d o.n t)) (k - earlier ys p k) ≡ Some w =
          ap₂ (λ x m. slice_get (children_of x) (k - m)) (sym o.is) (sym count) ∙ found in
          let c = child_back p t w k o.d o.n h own in
          let free : is_out ys (below p k) ≡ false = sym (o.reads.element k []) ∙ not_out xs p path k out in
          let g = child_step def kept fresh p t k o.d o.n c.0 h c.1 free in
          let here : There def kept fresh xs (below p k) c.0 g.node =
          there_by def kept fresh xs ys (below p k) c.0 g.node (o.reads.node k []) (reads_below xs ys p k o.reads) g.there in
          let down : slice_get (children_of u) (k - earlier xs p k) ≡ Some g.node =
          ap₂ (λ x m. slice_get (children_of x) (k - m)) o.is count ∙ g.at in
          let next = sym (node_below def kept fresh u g.node (k - earlier xs p k) (moved xs (below p k) path) down) ∙ e in
          let done = rest c.0 g.node v (shaped_child t k c.0 h c.1) here next (ap (is_left_out xs) whole ∙ out) in
          (done.0, node_below def kept fresh t c.0 k path c.1 ∙ done.1, ap₂ (λ a b. a || b) stays.0 done.2))

  pub leads_back : (f : Fragment) → IsFormed def f → LeadsBack def kept fresh f
  leads_back f formed path back u e is =
      let xs = gone_of def kept fresh f in
      let shape = shaped def f [] formed.0 formed.1.0 formed.1.1 in
      let found = walk_back back [] xs f (opened def (kept_in kept) fresh f) u shape.0 (top_there def kept fresh f)
      (ap (node_at (opened def (kept_in kept) fresh f)) is.moves ∙ e) is.there in
      let free = not_covered_from xs back found.2 in (
        found.0,
        found.1,
        ap₂ (λ a b. cond (a || b) None (Some (moved xs [] back))) free is.there ∙ ap (λ q. Some q) is.moves,
      )
