-- The walk writes what the definition says, where it decides by what the nodes of the plain text are.
use Rattle.std.proofs.Common.{◌≡◌, ◌⊎◌, inl, inr, ℕ, suc, ◌+◌, ◌||◌, ◌&&◌, Bool, true, false, cond, List, [], ◌∷◌, ◌++◌, length, Option, Some, None, refl, ap, sym, subst, ◌∙◌, length-append, arith, decimal}
use Rattle.std.specs.Option.{option_or}
use Rattle.std.proofs.lemmas.Bool.{false≢true, and_parts}
use Rattle.std.specs.Prelude.{not, slice_get}
use Rattle.psg_grammar.specs.declared.types.Definition.{Definition}
use Rattle.psg_grammar.specs.declared.types.Item.{Item}
use Rattle.psg_grammar.specs.declared.types.Item.TheVariants as items
use Rattle.psg_grammar.specs.declared.types.Kind.{Kind}
use Rattle.psg_grammar.specs.declared.types.Kind.TheVariants as kinds
use Rattle.psg_grammar.specs.Fragments.{Fragment, hole, ending, cell, operator, with_child, with_name, with_number, with_text, anything, observed, children_of, top_operator}
use Rattle.psg_grammar.specs.Lookups.{operator_at}
use Rattle.psg_grammar.specs.WellFormed.{Fits, IsUnobserved}
use Rattle.psg_tree.specs.AbstractText.{quoted}
use Rattle.psg_unparse.specs.Rows.{Piece, row, left, behind_first, items_in, is_bracketed, closing, opening, between}
use Rattle.psg_unparse.specs.Layout.{last_in, lead}
use Rattle.psg_unparse.specs.Spots.{Spot, Placed, element_spot, rest_spot, child_spot, front_spot, leaf_spot, placed_from, placed_below}
use Rattle.psg_layout.specs.declared.layout.Layout.{Layout}
use Rattle.psg_layout.specs.declared.nodes.Flat.{Flat}
use Rattle.psg_layout.specs.declared.sheet.Begin.{Begin}
use Rattle.psg_layout.specs.Pages.{Page, chars_in, gap_by, has_tokens, last_line, line_on, spaces_before, with_break, with_row, with_token}
use Rattle.psg_layout.specs.Sheets.{Copy, gap_bytes, Ink, ink_row}
use Rattle.psg_layout.specs.Arranged.{How, met, inside, met_in, Mode, is_flat, is_group, is_break, at_item, at_next, at_child, fits, mode_of, decided, next_number, with_words, with_words_behind, with_leaf, arranged}
use Rattle.psg_layout.specs.Walking.{Walk, Way, comes, within, comes_flat, opened, closed, copied, or_copied, chosen, with_ink, with_path, stepped, flat_in, line_ahead, fits_in, is_own, ink_at, ink_child, decided_by, is_copied, mode_at, sub_begun, sub_ended, words_after, leaf_put, copy_of, node_or, below}
use Rattle.psg_layout.proofs.GoesLaws.{page_row, page_at, page_words}
use Rattle.psg_layout.proofs.NodeLaws.{from-below}
use Rattle.psg_layout.proofs.CopyLaws.{IsRightCopy, copy_is, met_flat}
use Rattle.psg_layout.proofs.GrowLaws.{Grows, joined, grows_row, grows_item, grows_asked, grows}

-- ---- the shape of a tree

-- a list goes on with a list
abbrev pub IsRest : Fragment → Type 0
IsRest (ending l u) = Unit {0}
IsRest (cell l e r) = Unit {0}
IsRest _ = ⊥

abbrev pub IsShaped : Fragment → Type 0
IsShaped (hole p) = Unit {0}
IsShaped (ending l u) = Unit {0}
IsShaped (cell l e r) = IsShaped e × (IsShaped r × IsRest r)
IsShaped (operator o) = Unit {0}
IsShaped (with_child f t) = IsShaped f × IsShaped t
IsShaped (with_name f n) = IsShaped f
IsShaped (with_number f n) = IsShaped f
IsShaped (with_text f t) = IsShaped f
IsShaped anything = Unit {0}
IsShaped (observed f) = IsShaped f

module _ (def : Definition) where
  -- what is of the kind of a list is a list, and no part of it follows
  no_more : (f : Fragment) (more : List Item) (l : ℕ) → Fits def f more (kinds.List l) → more ≡ []
  no_more (hole p) more l h = h.0
  no_more (ending m u) more l h = h.0
  no_more (cell m e r) more l h = h.0
  no_more (operator o) more l h = absurd (let e : kinds.List l ≡ kinds.Phylum h.0.phylum = h.3 in cc)
  no_more (with_child f t) more l h = absurd (let e : items.Slot h.0 ∷ more ≡ [] = no_more f (items.Slot h.0 ∷ more) l h.1 in cc)
  no_more (with_name f n) more l (inl h, k) = absurd (let e : items.Refers h.0 ∷ more ≡ [] = no_more f (items.Refers h.0 ∷ more) l h.1 in cc)
  no_more (with_name f n) more l (inr h, k) = absurd (let e : items.Declares h.0 ∷ more ≡ [] = no_more f (items.Declares h.0 ∷ more) l h.1 in cc)
  no_more (with_number f n) more l h = absurd (let e : items.Number ∷ more ≡ [] = no_more f (items.Number ∷ more) l h.0 in cc)
  no_more (with_text f t) more l h = absurd (let e : items.Text ∷ more ≡ [] = no_more f (items.Text ∷ more) l h.0 in cc)
  no_more anything more l h = absurd h
  no_more (observed f) more l h = h.0

  rest_is : (f : Fragment) (l : ℕ) → Fits def f [] (kinds.List l) → IsUnobserved f → IsRest f
  rest_is (hole p) l h u = absurd (let e : kinds.List l ≡ kinds.Phylum p = h.1 in cc)
  rest_is (ending m v) l h u = tt
  rest_is (cell m e r) l h u = tt
  rest_is (operator o) l h u = absurd (let e : kinds.List l ≡ kinds.Phylum h.0.phylum = h.3 in cc)
  rest_is (with_child f t) l h u = absurd (let e : items.Slot h.0 ∷ [] ≡ [] = no_more f (items.Slot h.0 ∷ []) l h.1 in cc)
  rest_is (with_name f n) l (inl h, k) u = absurd (let e : items.Refers h.0 ∷ [] ≡ [] = no_more f (items.Refers h.0 ∷ []) l h.1 in cc)
  rest_is (with_name f n) l (inr h, k) u = absurd (let e : items.Declares h.0 ∷ [] ≡ [] = no_more f (items.Declares h.0 ∷ []) l h.1 in cc)
  rest_is (with_number f n) l h u = absurd (let e : items.Number ∷ [] ≡ [] = no_more f (items.Number ∷ []) l h.0 in cc)
  rest_is (with_text f t) l h u = absurd (let e : items.Text ∷ [] ≡ [] = no_more f (items.Text ∷ []) l h.0 in cc)
  rest_is anything l h u = absurd h
  rest_is (observed f) l h u = absurd u

  pub shaped : (f : Fragment) (more : List Item) (kind : Kind) → Fits def f more kind → IsShaped f
  shaped (hole p) more kind h = tt
  shaped (ending l u) more kind h = tt
  shaped (cell l e r) more kind h =
      (shaped e [] (kinds.Phylum h.2.element) h.4, (shaped r [] (kinds.List l) h.5, rest_is r l h.5 h.6))
  shaped (operator o) more kind h = tt
  shaped (with_child f t) more kind h = (shaped f (items.Slot h.0 ∷ more) kind h.1, shaped t [] h.0 h.2)
  shaped (with_name f n) more kind (inl h, k) = shaped f (items.Refers h.0 ∷ more) kind h.1
  shaped (with_name f n) more kind (inr h, k) = shaped f (items.Declares h.0 ∷ more) kind h.1
  shaped (with_number f n) more kind h = shaped f (items.Number ∷ more) kind h.0
  shaped (with_text f t) more kind h = shaped f (items.Text ∷ more) kind h.0
  shaped anything more kind h = tt
  shaped (observed f) more kind h = shaped f [] kind h.1

-- ---- what is known of the nodes

module _ (def : Definition) (layout : Layout) (cols : ℕ) where
  -- this is what the node is in the plain text
  pub record IsRightFlat (g : Flat) (p : Placed) : Type 0 where
    pub some : g.some ≡ has_tokens (row def p.node)
    pub lead_is : gap_bytes g.lead ≡ lead p.spot.before (row def p.node)
    pub fits_is : (line : List ℕ) → fits_in cols line g.width ≡ fits def layout cols line p.node
    pub own_is : is_own g ≡ true → has_tokens (row def p.node) ≡ true

  module _ (flats : List Flat) (copies : List Copy) where
    -- what is kept of the node of this place is right
    pub record IsRightNode (n : ℕ) (p : Placed) : Type 0 where
      pub flat : IsRightFlat (flat_in flats n) p
      pub copy : (c : Copy) → slice_get copies n ≡ Some c → IsRightCopy def c p

    -- the nodes from this one on are these
    abbrev pub AreAhead : ℕ → List Placed → Type 0
    AreAhead n [] = Unit {0}
    AreAhead n (p ∷ ps) = IsRightNode n p × AreAhead (suc n) ps

    ahead_front : (n : ℕ) (xs ys : List Placed) → AreAhead n (xs ++ ys) → AreAhead n xs
    ahead_front n [] ys h = tt
    ahead_front n (p ∷ xs) ys h = (h.0, ahead_front (suc n) xs ys h.1)

    ahead_back : (n : ℕ) (xs ys : List Placed) → AreAhead n (xs ++ ys) → AreAhead (n + length xs) ys
    ahead_back n [] ys h = let e : n ≡ n + 0 = omega arith in subst (λ m. AreAhead m ys) e h
    ahead_back n (p ∷ xs) ys h =
        let e : suc n + length xs ≡ n + suc (length xs) = omega arith in subst (λ m. AreAhead m ys) e (ahead_back (suc n) xs ys h.1)

    module _ (counts : Bool) where
      abbrev how_flat : How → Bool
      how_flat (met flat) = flat
      how_flat (inside mode) = is_flat mode

      -- ---- decisions

      line_is : (k : Ink) (g : Flat) (p : Placed) → k.page.before ≡ p.spot.before → IsRightFlat g p → line_ahead k g ≡ line_on k.page (row def p.node)
      line_is k g p b h =
          ap (λ z. last_line (chars_in k.page.puts ++ gap_by (last_in None k.page.before) k.page.broken z)) (h.lead_is ∙ ap (λ z. lead z (row def p.node)) (sym b))

      nested : (a g : Bool) (s : Mode) → cond {A = Mode} a None (cond {A = Mode} g None s) ≡ cond {A = Mode} (a || g) None s
      nested true g s = refl
      nested false g s = refl

      -- a node that comes is decided upon as it is met
      pub decided_is : (flat : Bool) (place : ℕ) (w : Walk) (s : Spot) (f : Fragment) → w.ink.page.before ≡ s.before
          → (flat ≡ true) ⊎ IsRightFlat (flat_in flats place) (record { spot = s; node = f })
          → mode_at def layout cols flats copies counts (comes flat place) w (top_operator f) ≡ decided def layout cols (met flat) w.ink.page f
      decided_is flat place w s f b (inl e) =
          ap (λ z. decided_by layout cols z w.ink (flat_in flats place) (top_operator f)) e
          ∙ sym (ap (λ z. mode_of def layout cols z (line_on w.ink.page (row def f)) f) e)
      decided_is flat place w s f b (inr h) =
          nested flat (is_group layout (top_operator f) && fits_in cols (line_ahead w.ink (flat_in flats place)) (flat_in flats place).width) (Some (spaces_before (line_ahead w.ink (flat_in flats place)) + 2))
          ∙ ap (λ z. cond {A = Mode} (flat || (is_group layout (top_operator f) && z)) None (Some (spaces_before (line_ahead w.ink (flat_in flats place)) + 2)))
          (h.fits_is (line_ahead w.ink (flat_in flats place)))
          ∙ ap (λ l. cond {A = Mode} (flat || (is_group layout (top_operator f) && fits def layout cols l f)) None (Some (spaces_before l + 2)))
          (line_is w.ink (flat_in flats place) (record { spot = s; node = f }) b h)

      flat_mode : (way : Way) (w : Walk) (o : Option ℕ) → comes_flat way ≡ true → is_flat (mode_at def layout cols flats copies counts way w o) ≡ true
      flat_mode (comes flat place) w o e = ap (λ z. is_flat (decided_by layout cols z w.ink (flat_in flats place) o)) e
      flat_mode (within mode) w o e = e

      -- ---- a child

      ask_nothing : (mode : Mode) (p : Page) → is_flat mode ≡ true → with_break p (option_or mode p.broken) ≡ p
      ask_nothing None p e = refl
      ask_nothing (Some n) p e = absurd (false≢true e)

      same_either : (b : Bool) (p : Page) → cond {A = Page} b p p ≡ p
      same_either true p = refl
      same_either false p = refl

      at_nothing : (mode : Mode) (o : Option ℕ) (n : ℕ) (p : Page) → is_flat mode ≡ true → at_item layout mode o n p ≡ p
      at_nothing mode o n p e = ap (λ q. cond {A = Page} (is_break layout o n) q p) (ask_nothing mode p e) ∙ same_either (is_break layout o n) p

      cond_page : (b : Bool) (k l : Ink) → (cond b k l).page ≡ cond b k.page l.page
      cond_page true k l = refl
      cond_page false k l = refl

      either_page : (b c : Bool) (p q : Page) → cond {A = Page} b p (cond {A = Page} c p q) ≡ cond {A = Page} (b || c) p q
      either_page true c p q = refl
      either_page false c p q = refl

      child_page : (mode : Mode) (f t : Fragment) (g : Flat) (k : Ink) → (is_flat mode ≡ true) ⊎ (g.some ≡ has_tokens (row def t))
          → (ink_child layout mode (top_operator f) (next_number def layout cols f) (is_bracketed def f t) g k).page ≡ at_child def layout cols mode f t k.page
      child_page mode f t g k h =
          let b : Bool = is_bracketed def f t in
          let at : Ink = ink_at layout mode (top_operator f) (next_number def layout cols f) k in
          let asked : Page = at_next def layout cols mode f k.page in
          let shape : (ink_child layout mode (top_operator f) (next_number def layout cols f) b g k).page ≡ cond {A = Page} b asked (cond {A = Page} g.some asked k.page) =
          cond_page b at (cond g.some at k) ∙ ap (λ z. cond {A = Page} b at.page z) (cond_page g.some at k)
          ∙ ap (λ z. cond {A = Page} b z (cond {A = Page} g.some z k.page)) (page_at layout mode (top_operator f) (next_number def layout cols f) k) in
          shape ∙ by h
        where
          by : (is_flat mode ≡ true) ⊎ (g.some ≡ has_tokens (row def t))
              → cond {A = Page} (is_bracketed def f t) (at_next def layout cols mode f k.page) (cond {A = Page} g.some (at_next def layout cols mode f k.page) k.page) ≡ at_child def layout cols mode f t k.page
          by (inl e) =
              ap (λ z. cond {A = Page} (is_bracketed def f t) z (cond {A = Page} g.some z k.page)) (at_nothing mode (top_operator f) (next_number def layout cols f) k.page e)
              ∙ ap (λ z. cond {A = Page} (is_bracketed def f t) k.page z) (same_either g.some k.page) ∙ same_either (is_bracketed def f t) k.page
              ∙ sym (ap (λ z. cond {A = Page} (is_bracketed def f t || has_tokens (row def t)) z k.page) (at_nothing mode (top_operator f) (next_number def layout cols f) k.page e)
              ∙ same_either (is_bracketed def f t || has_tokens (row def t)) k.page)
          by (inr e) =
              either_page (is_bracketed def f t) g.some (at_next def layout cols mode f k.page) k.page
              ∙ ap (λ z. cond {A = Page} (is_bracketed def f t || z) (at_next def layout cols mode f k.page) k.page) e

      met_is : (how : How) → met_in how ≡ met (how_flat how)
      met_is (met flat) = refl
      met_is (inside mode) = refl

      -- what is known of a node that comes, from what is ahead
      own_ahead : (fl : Bool) (place : ℕ) (s : Spot) (t : Fragment) → (fl ≡ true) ⊎ AreAhead place (placed_from def s t)
          → ((fl ≡ true) ⊎ IsRightNode place (record { spot = s; node = t })) × ((fl ≡ true) ⊎ AreAhead (place + 1) (placed_below def s 0 t))
      own_ahead fl place s t (inl f) = (inl f, inl f)
      own_ahead fl place s t (inr h) =
          let g : AreAhead place (record { spot = s; node = t } ∷ placed_below def s 0 t) = subst (AreAhead place) (from-below def counts [] [] s t) h in
          let one : suc place ≡ place + 1 = omega arith in
          (inr g.0, inr (subst (λ i. AreAhead i (placed_below def s 0 t)) one g.1))

      flat_known : (fl : Bool) (place : ℕ) (p : Placed) → (fl ≡ true) ⊎ IsRightNode place p → (fl ≡ true) ⊎ IsRightFlat (flat_in flats place) p
      flat_known fl place p (inl e) = inl e
      flat_known fl place p (inr h) = inr h.flat

      either_map : {A B C : Type 0} → (B → C) → A ⊎ B → A ⊎ C
      either_map g (inl a) = inl a
      either_map g (inr b) = inr (g b)

      either_first : {A B C : Type 0} → (A → B) → A ⊎ C → B ⊎ C
      either_first g (inl a) = inl (g a)
      either_first g (inr c) = inr c

      -- the child after the parts of f, in a mode
      abbrev child_by : Mode → Fragment → Fragment → Page → Page
      child_by mode f t p =
          with_words_behind def layout cols mode f
          (with_row (arranged def layout cols (met (is_flat mode)) (with_row (at_child def layout cols mode f t (arranged def layout cols (inside mode) p f)) (opening (is_bracketed def f t))) t)
          (closing (is_bracketed def f t)))

      leaf_agrees : (f : Fragment) (t : List ℕ) (way : Way) (how : How) (n : ℕ) (w : Walk) {d : Mode} → mode_at def layout cols flats copies counts way w (top_operator f) ≡ d
          → (below def layout cols flats copies counts (within (mode_at def layout cols flats copies counts way w (top_operator f))) n w f).ink.page
          ≡ arranged def layout cols (inside (mode_at def layout cols flats copies counts way w (top_operator f))) w.ink.page f
          → (words_after def layout cols flats copies counts (mode_at def layout cols flats copies counts way w (top_operator f)) f
          (leaf_put def layout cols flats copies counts (mode_at def layout cols flats copies counts way w (top_operator f)) (top_operator f) (next_number def layout cols f) t
          (below def layout cols flats copies counts (within (mode_at def layout cols flats copies counts way w (top_operator f))) n w f))).ink.page
          ≡ with_leaf def layout cols d f t (arranged def layout cols (inside d) w.ink.page f)
      leaf_agrees f t way how n w {d} e h =
          let mode : Mode = mode_at def layout cols flats copies counts way w (top_operator f) in
          let front : Walk = below def layout cols flats copies counts (within mode) n w f in
          let put : Walk = leaf_put def layout cols flats copies counts mode (top_operator f) (next_number def layout cols f) t front in
          page_words layout mode (top_operator f) (next_number def layout cols f + 1) (behind_first (left def f)) put.ink
          ∙ ap (λ p. with_words_behind def layout cols mode f (with_token p t)) (page_at layout mode (top_operator f) (next_number def layout cols f) front.ink ∙ ap (at_next def layout cols mode f) h)
          ∙ ap (λ z. with_leaf def layout cols z f t (arranged def layout cols (inside z) w.ink.page f)) e

      observed_mode : (m : Mode) (how : How) (p : Page) (f : Fragment) → m ≡ decided def layout cols how p (observed f) → m ≡ decided def layout cols how p f
      observed_mode m (met flat) p f e = e
      observed_mode m (inside mode) p f e = e

      -- ---- nodes that come

      -- the page, and how many nodes are written
      pub record Agrees (v : Walk) (p : Page) (m : ℕ) : Type 0 where
        pub page : v.ink.page ≡ p
        pub place : v.place ≡ m

      chosen_some : (b : Bool) (o : Option Copy) (c : Copy) → chosen b o ≡ Some c → (b ≡ true) × (o ≡ Some c)
      chosen_some true (Some d) c e = (refl, e)
      chosen_some false (Some d) c e = absurd (let f : None ≡ Some c = e in cc)
      chosen_some b None c e = absurd (let f : None ≡ Some c = e in cc)

      not_true : (b : Bool) → not b ≡ true → b ≡ false
      not_true true e = absurd (false≢true e)
      not_true false e = refl

      group_of : (o : Option ℕ) → is_group layout o ≡ true → (n : ℕ) × (o ≡ Some n)
      group_of None e = absurd (false≢true e)
      group_of (Some n) e = (n, refl)

      flat_then : (fl g : Bool) (s : Mode) → g ≡ true → cond {A = Mode} fl None (cond {A = Mode} g None s) ≡ None
      flat_then true g s e = refl
      flat_then false true s e = refl
      flat_then false false s e = absurd (false≢true e)

      -- a node that comes is copied, or walked over
      pub or_agrees : (fl : Bool) (w v : Walk) (s : Spot) (t : Fragment) → w.ink.page.before ≡ s.before → (fl ≡ true) ⊎ IsRightNode w.place (record { spot = s; node = t })
          → Agrees v (arranged def layout cols (met fl) w.ink.page t) (w.place + length (placed_from def s t))
          → Agrees (node_or def layout cols flats copies counts fl w t v) (arranged def layout cols (met fl) w.ink.page t) (w.place + length (placed_from def s t))
      or_agrees fl w v s t b known h = by (copy_of def layout cols flats copies counts fl w (top_operator t)) refl
        where
          g : Flat
          g = flat_in flats w.place

          by : (o : Option Copy) → copy_of def layout cols flats copies counts fl w (top_operator t) ≡ o
              → Agrees (or_copied o (gap_bytes g.lead) w v) (arranged def layout cols (met fl) w.ink.page t) (w.place + length (placed_from def s t))
          by None e = h
          by (Some c) e =
              let found = chosen_some (is_copied layout cols fl w.ink g (top_operator t)) (slice_get copies w.place) c e in
              let parts = and_parts (not fl) (is_own g && (is_group layout (top_operator t) && fits_in cols (line_ahead w.ink g) g.width)) found.0 in
              let met_once : fl ≡ false = not_true fl parts.0 in
              let more = and_parts (is_own g) (is_group layout (top_operator t) && fits_in cols (line_ahead w.ink g) g.width) parts.1 in
              let both = and_parts (is_group layout (top_operator t)) (fits_in cols (line_ahead w.ink g) g.width) more.1 in
              let op = group_of (top_operator t) both.0 in
              copied_agrees c found.1 met_once more.0 more.1 op.0 op.1 (right known met_once)
            where
              right : (fl ≡ true) ⊎ IsRightNode w.place (record { spot = s; node = t }) → fl ≡ false → IsRightNode w.place (record { spot = s; node = t })
              right (inl x) y = absurd (false≢true (sym y ∙ x))
              right (inr x) y = x

              copied_agrees : (d : Copy) → slice_get copies w.place ≡ Some d → fl ≡ false → is_own g ≡ true
                  → (is_group layout (top_operator t) && fits_in cols (line_ahead w.ink g) g.width) ≡ true → (o : ℕ) → top_operator t ≡ Some o
                  → IsRightNode w.place (record { spot = s; node = t })
                  → Agrees (copied (gap_bytes g.lead) d w) (arranged def layout cols (met fl) w.ink.page t) (w.place + length (placed_from def s t))
              copied_agrees d at met_once own fit o top r =
                  let c_ : IsRightCopy def d (record { spot = s; node = t }) = r.copy d at in
                  let mode : decided def layout cols (met false) w.ink.page t ≡ None =
                  sym (decided_is false w.place w s t b (inr r.flat))
                  ∙ flat_then false (is_group layout (top_operator t) && fits_in cols (line_ahead w.ink g) g.width) (Some (spaces_before (line_ahead w.ink g) + 2)) fit in
                  record {
                    page =
                        copy_is def (gap_bytes g.lead) d (record { spot = s; node = t }) w.ink.page b c_ r.flat.lead_is (r.flat.own_is own)
                        ∙ sym (met_flat def layout cols t w.ink.page o top mode)
                        ∙ ap (λ z. arranged def layout cols (met z) w.ink.page t) (sym met_once);
                    place = ap (λ z. w.place + z) c_.count;
                  }

      pub closed_agrees : (s : Spot) (t : Fragment) (listed place : ℕ) (outer : Option Begin) (v : Walk) (p : Page) → Agrees v p (place + 1 + length (placed_below def s 0 t))
          → Agrees (closed listed place outer v) p (place + length (placed_from def s t))
      closed_agrees s t listed place outer v p h = record {
        page = h.page;
        place = let a = h.place in let l = ap length (from-below def counts [] [] s t) in omega (arith, a, l);
      }

      -- the row before, once this is written
      before_then : (r : List Piece) (p q : Page) (before : List Piece) → p.before ≡ before → Grows r p q → q.before ≡ before ++ r
      before_then r p q before e g = g.before ∙ ap (λ z. z ++ r) e

      -- the page after the walk is that of the definition
      pub agree : (f : Fragment) (way : Way) (how : How) (n : ℕ) (w : Walk) (s : Spot) → IsShaped f → w.ink.page.before ≡ s.before
          → IsRest f ⊎ (mode_at def layout cols flats copies counts way w (top_operator f) ≡ decided def layout cols how w.ink.page f)
          → comes_flat way ≡ how_flat how
          → (comes_flat way ≡ true) ⊎ AreAhead w.place (placed_below def s n f)
          → Agrees (below def layout cols flats copies counts way n w f) (arranged def layout cols how w.ink.page f) (w.place + length (placed_below def s n f))
      agree (hole p) way how n w s sh m d fl ah = record { page = page_row (row def (hole p)) w.ink; place = omega arith }
      agree (ending l u) way how n w s sh m d fl ah = record { page = page_row (row def (ending l u)) w.ink; place = omega arith }
      agree (cell l x r) way how n w s sh m d fl ah =
          let own : Walk = stepped counts w n in
          let place : ℕ = w.place in
          let inner : Walk = below def layout cols flats copies counts (comes (comes_flat way) place) 0 (opened own) x in
          let node : Walk = with_path (node_or def layout cols flats copies counts (comes_flat way) own x (closed (length w.nodes) place w.ink.first inner)) w.path in
          let after : Walk = with_ink node (ink_row node.ink (between def l r)) in
          let s1 : Spot = element_spot def s n l r in
          let s2 : Spot = rest_spot def s l x r in
          let known = own_ahead (comes_flat way) place s1 x (either_map (ahead_front place (placed_from def s1 x) (placed_below def s2 (n + 1) r)) ah) in
          let h1 : Agrees inner (arranged def layout cols (met (comes_flat way)) w.ink.page x) (place + 1 + length (placed_below def s1 0 x)) =
          agree x (comes (comes_flat way) place) (met (comes_flat way)) 0 (opened own) s1 sh.0 m
          (inr (decided_is (comes_flat way) place (opened own) s1 x m (flat_known (comes_flat way) place (record { spot = s1; node = x }) known.0))) refl known.1 in
          let hn : Agrees node (arranged def layout cols (met (comes_flat way)) w.ink.page x) (place + length (placed_from def s1 x)) =
          let o = or_agrees (comes_flat way) own (closed (length w.nodes) place w.ink.first inner) s1 x m known.0
          (closed_agrees s1 x (length w.nodes) place w.ink.first inner (arranged def layout cols (met (comes_flat way)) w.ink.page x) h1) in
          record { page = o.page; place = o.place } in
          let made : Page = arranged def layout cols (met_in how) w.ink.page x in
          let how_met : arranged def layout cols (met (comes_flat way)) w.ink.page x ≡ made =
          ap (λ z. arranged def layout cols (met z) w.ink.page x) fl ∙ sym (ap (λ z. arranged def layout cols z w.ink.page x) (met_is how)) in
          let begun : after.ink.page ≡ with_row made (between def l r) = page_row (between def l r) node.ink ∙ ap (λ p. with_row p (between def l r)) (hn.page ∙ how_met) in
          let m2 : after.ink.page.before ≡ s2.before =
          ap (λ (p : Page). p.before) begun
          ∙ before_then (row def x ++ between def l r) w.ink.page (with_row made (between def l r)) s.before m
          (joined (row def x) (between def l r) w.ink.page made (with_row made (between def l r)) (grows def layout cols x (met_in how) w.ink.page) (grows_row (between def l r) made)) in
          let rest : Agrees (below def layout cols flats copies counts way (n + 1) after r) (arranged def layout cols how after.ink.page r) (after.place + length (placed_below def s2 (n + 1) r)) =
          agree r way how (n + 1) after s2 sh.1.0 m2 (inl sh.1.1) fl
          (either_map (λ h. subst (λ i. AreAhead i (placed_below def s2 (n + 1) r)) (sym hn.place) (ahead_back place (placed_from def s1 x) (placed_below def s2 (n + 1) r) h)) ah) in
          record {
            page = rest.page ∙ ap (λ p. arranged def layout cols how p r) begun;
            place =
                let a = rest.place in let b = hn.place in let c = length-append (placed_from def s1 x) (placed_below def s2 (n + 1) r) in
                omega (arith, a, b, c);
          }
      agree (operator o) way how n w s sh m (inl e) fl ah = absurd e
      agree (operator o) way how n w s sh m (inr e) fl ah = record {
        page =
            page_words layout (mode_at def layout cols flats copies counts way w (Some o)) (Some o) 0 (items_in (operator_at def o)) w.ink
            ∙ ap (λ z. with_words layout z (Some o) 0 (items_in (operator_at def o)) w.ink.page) e;
        place = omega arith;
      }
      agree (with_child f t) way how n w s sh m (inl e) fl ah = absurd e
      agree (with_child f t) way how n w s sh m (inr e) fl ah =
          let mode : Mode = mode_at def layout cols flats copies counts way w (top_operator f) in
          let b : Bool = is_bracketed def f t in
          let k : ℕ = length (children_of f) in
          let front : Walk = below def layout cols flats copies counts (within mode) n w f in
          let asked : Ink = ink_child layout mode (top_operator f) (next_number def layout cols f) b (flat_in flats front.place) front.ink in
          let begun : Walk = sub_begun def layout cols flats copies counts mode (top_operator f) (next_number def layout cols f) b front in
          let own : Walk = stepped counts begun k in
          let place : ℕ = begun.place in
          let inner : Walk = below def layout cols flats copies counts (comes (is_flat mode) place) 0 (opened own) t in
          let node : Walk = with_path (node_or def layout cols flats copies counts (is_flat mode) own t (closed (length begun.nodes) place begun.ink.first inner)) begun.path in
          let done : Walk = sub_ended def layout cols flats copies counts b node in
          let s1 : Spot = front_spot def s f t in
          let s2 : Spot = child_spot def s f t in
          let flat : (comes_flat way ≡ true) → is_flat mode ≡ true = flat_mode way w (top_operator f) in
          let ahead : (is_flat mode ≡ true) ⊎ AreAhead w.place (placed_below def s1 n f ++ placed_from def s2 t) = either_first flat ah in
          let hf : Agrees front (arranged def layout cols (inside mode) w.ink.page f) (w.place + length (placed_below def s1 n f)) =
          agree f (within mode) (inside mode) n w s1 sh.0 m (inr refl) refl (either_map (ahead_front w.place (placed_below def s1 n f) (placed_from def s2 t)) ahead) in
          let known = own_ahead (is_flat mode) place s2 t
          (either_map (λ h. subst (λ i. AreAhead i (placed_from def s2 t)) (sym hf.place) (ahead_back w.place (placed_below def s1 n f) (placed_from def s2 t) h)) ahead) in
          let fronted : Page = arranged def layout cols (inside mode) w.ink.page f in
          let hb : begun.ink.page ≡ with_row (at_child def layout cols mode f t fronted) (opening b) =
          page_row (opening b) asked
          ∙ ap (λ p. with_row p (opening b)) (child_page mode f t (flat_in flats front.place) front.ink (either_map (λ (h : IsRightNode begun.place (record { spot = s2; node = t })). h.flat.some) known.0)
          ∙ ap (at_child def layout cols mode f t) hf.page) in
          let mb : begun.ink.page.before ≡ s2.before =
          ap (λ (p : Page). p.before) hb
          ∙ before_then (row def f ++ opening b) w.ink.page (with_row (at_child def layout cols mode f t fronted) (opening b)) s.before m
          (joined (row def f) (opening b) w.ink.page fronted (with_row (at_child def layout cols mode f t fronted) (opening b)) (grows def layout cols f (inside mode) w.ink.page)
          (joined [] (opening b) fronted (at_child def layout cols mode f t fronted) (with_row (at_child def layout cols mode f t fronted) (opening b))
          (grows_asked def layout cols (b || has_tokens (row def t)) fronted (at_next def layout cols mode f fronted)
          (grows_item layout mode (top_operator f) (next_number def layout cols f) fronted))
          (grows_row (opening b) (at_child def layout cols mode f t fronted)))) in
          let ht : Agrees inner (arranged def layout cols (met (is_flat mode)) begun.ink.page t) (place + 1 + length (placed_below def s2 0 t)) =
          agree t (comes (is_flat mode) place) (met (is_flat mode)) 0 (opened own) s2 sh.1 mb
          (inr (decided_is (is_flat mode) place (opened own) s2 t mb (flat_known (is_flat mode) place (record { spot = s2; node = t }) known.0))) refl known.1 in
          let hn : Agrees node (arranged def layout cols (met (is_flat mode)) begun.ink.page t) (place + length (placed_from def s2 t)) =
          let o = or_agrees (is_flat mode) own (closed (length begun.nodes) place begun.ink.first inner) s2 t mb known.0
          (closed_agrees s2 t (length begun.nodes) place begun.ink.first inner (arranged def layout cols (met (is_flat mode)) begun.ink.page t) ht) in
          record { page = o.page; place = o.place } in
          record {
            page =
                page_words layout mode (top_operator f) (next_number def layout cols f + 1) (behind_first (left def f)) done.ink
                ∙ ap (with_words_behind def layout cols mode f)
                (page_row (closing b) node.ink ∙ ap (λ p. with_row p (closing b)) (hn.page ∙ ap (λ p. arranged def layout cols (met (is_flat mode)) p t) hb))
                ∙ ap (λ z. child_by z f t w.ink.page) e;
            place =
                let x = hf.place in let y = hn.place in let c = length-append (placed_below def s1 n f) (placed_from def s2 t) in
                omega (arith, x, y, c);
          }
      agree (with_name f x) way how n w s sh m (inl e) fl ah = absurd e
      agree (with_name f x) way how n w s sh m (inr e) fl ah =
          let h = agree f (within (mode_at def layout cols flats copies counts way w (top_operator f))) (inside (mode_at def layout cols flats copies counts way w (top_operator f))) n w (leaf_spot def s f x) sh m (inr refl) refl (either_first (flat_mode way w (top_operator f)) ah) in
          record { page = leaf_agrees f x way how n w e h.page; place = h.place }
      agree (with_number f x) way how n w s sh m (inl e) fl ah = absurd e
      agree (with_number f x) way how n w s sh m (inr e) fl ah =
          let h = agree f (within (mode_at def layout cols flats copies counts way w (top_operator f))) (inside (mode_at def layout cols flats copies counts way w (top_operator f))) n w (leaf_spot def s f (decimal x)) sh m (inr refl) refl (either_first (flat_mode way w (top_operator f)) ah) in
          record { page = leaf_agrees f (decimal x) way how n w e h.page; place = h.place }
      agree (with_text f x) way how n w s sh m (inl e) fl ah = absurd e
      agree (with_text f x) way how n w s sh m (inr e) fl ah =
          let h = agree f (within (mode_at def layout cols flats copies counts way w (top_operator f))) (inside (mode_at def layout cols flats copies counts way w (top_operator f))) n w (leaf_spot def s f (quoted x)) sh m (inr refl) refl (either_first (flat_mode way w (top_operator f)) ah) in
          record { page = leaf_agrees f (quoted x) way how n w e h.page; place = h.place }
      agree anything way how n w s sh m d fl ah = record { page = refl; place = omega arith }
      agree (observed f) way how n w s sh m (inl e) fl ah = absurd e
      agree (observed f) way how n w s sh m (inr e) fl ah =
          agree f way how n w s sh m (inr (observed_mode (mode_at def layout cols flats copies counts way w (top_operator f)) how w.ink.page f e)) fl ah
