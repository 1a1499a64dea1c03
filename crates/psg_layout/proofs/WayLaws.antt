-- How the walk over a tree is put together of its steps.
use Rattle.std.proofs.Common.{◌≡◌, ℕ, ◌+◌, ◌-◌, ◌≤◌, ◌<◌, Bool, true, false, cond, List, [], ◌∷◌, ◌++◌, length, take, Option, Some, None, refl, ap, ap₂, sym, subst, ◌∙◌, arith, decimal}
use Rattle.std.proofs.Math.Seq.{take-append_seam}
use Rattle.psg_grammar.specs.declared.types.Definition.{Definition}
use Rattle.psg_grammar.specs.declared.types.Item.{Item}
use Rattle.psg_grammar.specs.Fragments.{Fragment, hole, ending, cell, operator, with_child, with_name, with_number, with_text, anything, observed, children_of, top_operator}
use Rattle.psg_grammar.specs.Lookups.{operator_at}
use Rattle.psg_tree.specs.declared.tree.Part.{Part}
use Rattle.psg_tree.specs.declared.tree.Part.TheVariants.{Sub, Name, Number, Text}
use Rattle.psg_tree.specs.Shapes.{with_part, with_parts, list_of, height}
use Rattle.psg_tree.specs.AbstractText.{quoted}
use Rattle.psg_tree.proofs.Texts.{with_parts-push}
use Rattle.psg_unparse.specs.Rows.{from_part, behind_first, items_in, left, wanted, wanted_of, is_bracketed, closing, opening, between}
use Rattle.psg_unparse.specs.Walking.{count_of, level_wanted, ending_row, is_below}
use Rattle.psg_unparse.proofs.Items.{operator-parts, short-from, short-behind, top-parts}
use Rattle.psg_unparse.proofs.Printing.{left-part, count-part, wanted-of}
use Rattle.psg_layout.specs.declared.layout.Layout.{Layout}
use Rattle.psg_layout.specs.declared.deciding.Plan.{Plan}
use Rattle.psg_layout.specs.declared.sheet.Own.{Own}
use Rattle.psg_layout.specs.declared.sheet.Begin.{Begin}
use Rattle.psg_layout.specs.declared.sheet.Sheet.{Sheet}
use Rattle.psg_layout.specs.declared.nodes.Flat.{Flat}
use Rattle.psg_layout.specs.declared.nodes.Arranger.{Arranger}
use Rattle.psg_layout.specs.declared.walk.Next.{Next}
use Rattle.psg_layout.specs.Sheets.{Copy, gap_bytes, Ink, ink_row, ink_token, IsInk, Inks, IsOwn}
use Rattle.psg_layout.specs.Arranged.{Mode, is_flat, next_number, words_in}
use Rattle.psg_layout.specs.Looked.{AreRulesOf}
use Rattle.psg_layout.specs.Walking.{Walk, Way, comes, within, opened, closed, copied, or_copied, with_ink, stepped, flat_in, decided_by, ink_at, ink_child, ink_words, mode_at, sub_begun, sub_ended, words_after, leaf_put, below, child_walk, part_walk, IsWalk, Known, IsKnown, flats_by, below_by, met_by, node_by, child_by, part_by, copy_by, Walks, CopiesAs, InksBy}

-- ---- steps of the program

module _ (plan : Plan) where
  -- what is written on the sheet alone
  pub walks-ink : (change : Layout → Ink → Ink) (a b : Arranger) → InksBy plan.rules.now change a.sheet b.sheet → b.path.items ≡ a.path.items → b.nodes.items ≡ a.nodes.items → b.place ≡ a.place
      → Walks plan (λ k w. with_ink w (change k.layout w.ink)) a b
  walks-ink change a b x p n q = record {
    grown = let e = ap length n in omega (arith, e);
    walk = λ k r w h. record { ink = x k.layout r.rules w.ink h.ink; path = p ∙ h.path; nodes = n ∙ h.nodes; place = q ∙ h.place };
  }

  pub walks-then : (f g : Known → Walk → Walk) (a b c : Arranger) → Walks plan f a b → Walks plan g b c → Walks plan (λ k w. g k (f k w)) a c
  walks-then f g a b c x y = record {
    grown = let p = x.grown in let q = y.grown in omega (arith, p, q);
    walk = λ k r w h. y.walk k r (f k w) (x.walk k r w h);
  }

  pub walks-as : (f g : Known → Walk → Walk) (a b : Arranger) → ((k : Known) (w : Walk) → f k w ≡ g k w) → Walks plan f a b → Walks plan g a b
  walks-as f g a b e x = record { grown = x.grown; walk = λ k r w h. subst (IsWalk b) (e k w) (x.walk k r w h) }

module _ (def : Definition) (layout : Layout) (cols : ℕ) (flats : List Flat) (copies : List Copy) (counts : Bool) where
  -- the path leads to the same node again
  pub below-path : (way : Way) (n : ℕ) (w : Walk) (f : Fragment) → (below def layout cols flats copies counts way n w f).path ≡ w.path
  below-path way n w (hole p) = refl
  below-path way n w (ending l u) = refl
  below-path way n w (cell l e r) = below-path way (n + 1) _ r
  below-path way n w (operator o) = refl
  below-path way n w (with_child f t) = below-path (within (mode_at def layout cols flats copies counts way w (top_operator f))) n w f
  below-path way n w (with_name f x) = below-path (within (mode_at def layout cols flats copies counts way w (top_operator f))) n w f
  below-path way n w (with_number f x) = below-path (within (mode_at def layout cols flats copies counts way w (top_operator f))) n w f
  below-path way n w (with_text f x) = below-path (within (mode_at def layout cols flats copies counts way w (top_operator f))) n w f
  below-path way n w anything = refl
  below-path way n w (observed f) = below-path way n w f

  -- once an operator is met, its parts are written in its mode
  pub comes-within : (way : Way) (n : ℕ) (w : Walk) (f : Fragment) (o : ℕ) → top_operator f ≡ Some o
      → below def layout cols flats copies counts way n w f ≡ below def layout cols flats copies counts (within (mode_at def layout cols flats copies counts way w (top_operator f))) n w f
  comes-within way n w (hole p) o e = refl
  comes-within way n w (ending l u) o e = refl
  comes-within way n w (cell l x r) o e = absurd (cc)
  comes-within way n w (operator p) o e = refl
  comes-within way n w (with_child f t) o e = refl
  comes-within way n w (with_name f x) o e = refl
  comes-within way n w (with_number f x) o e = refl
  comes-within way n w (with_text f x) o e = refl
  comes-within way n w anything o e = refl
  comes-within way n w (observed f) o e = comes-within way n w f o e

  -- ---- a part after the parts in front of it

  abbrev sub_by : Mode → Fragment → Fragment → Walk → Option ℕ → ℕ → Bool → ℕ → Walk
  sub_by mode f t front o k b child =
      words_after def layout cols flats copies counts mode f
      (sub_ended def layout cols flats copies counts b (child_walk def layout cols flats copies counts (is_flat mode) child (sub_begun def layout cols flats copies counts mode o k b front) t))

  sub_same : (mode : Mode) (f t : Fragment) (front : Walk) (o p : Option ℕ) (k l : ℕ) (b c : Bool) (n m : ℕ) → o ≡ p → k ≡ l → b ≡ c → n ≡ m
      → sub_by mode f t front o k b n ≡ sub_by mode f t front p l c m
  sub_same mode f t front o p k l b c n m e g h i =
      ap (λ x. sub_by mode f t front x k b n) e ∙ ap (λ x. sub_by mode f t front p x b n) g ∙ ap (λ x. sub_by mode f t front p l x n) h
      ∙ ap (λ x. sub_by mode f t front p l c x) i

  leaf_same : (mode : Mode) (f : Fragment) (t : List ℕ) (front : Walk) (o p : Option ℕ) (k l : ℕ) → o ≡ p → k ≡ l
      → words_after def layout cols flats copies counts mode f (leaf_put def layout cols flats copies counts mode o k t front) ≡ words_after def layout cols flats copies counts mode f (leaf_put def layout cols flats copies counts mode p l t front)
  leaf_same mode f t front o p k l e g =
      ap₂ (λ x y. words_after def layout cols flats copies counts mode f (leaf_put def layout cols flats copies counts mode x y t front)) e g

  pub part_next : (mode : Mode) (w : Walk) (f : Fragment) (o : ℕ) (next : Next) (part : Part) → top_operator f ≡ Some o → next.item ≡ next_number def layout cols f → ((t : Fragment) → part ≡ Sub t → next.wanted ≡ wanted def f)
      → next.child ≡ length (children_of f)
      → words_after def layout cols flats copies counts mode f (part_walk def layout cols flats copies counts mode o next part (below def layout cols flats copies counts (within mode) 0 w f))
      ≡ below def layout cols flats copies counts (within mode) 0 w (with_part f part)
  part_next mode w f o next (Sub t) e k l n =
      sub_same mode f t (below def layout cols flats copies counts (within mode) 0 w f) (Some o) (top_operator f) next.item (next_number def layout cols f)
      (is_below def t next.wanted) (is_bracketed def f t) next.child (length (children_of f)) (sym e) k (ap (is_below def t) (l t refl)) n
  part_next mode w f o next (Name x) e k l n = leaf_same mode f x (below def layout cols flats copies counts (within mode) 0 w f) (Some o) (top_operator f) next.item (next_number def layout cols f) (sym e) k
  part_next mode w f o next (Number x) e k l n = leaf_same mode f (decimal x) (below def layout cols flats copies counts (within mode) 0 w f) (Some o) (top_operator f) next.item (next_number def layout cols f) (sym e) k
  part_next mode w f o next (Text x) e k l n = leaf_same mode f (quoted x) (below def layout cols flats copies counts (within mode) 0 w f) (Some o) (top_operator f) next.item (next_number def layout cols f) (sym e) k

  number_next : (f : Fragment) (part : Part) → next_number def layout cols (with_part f part) ≡ next_number def layout cols f + 1 + words_in (behind_first (left def f))
  number_next f (Sub t) = refl
  number_next f (Name x) = refl
  number_next f (Number x) = refl
  number_next f (Text x) = refl

module _ (plan : Plan) where
  -- The operator with its first parts is written; these items are left, the next of which has the number, and the next
  -- child has its number.
  pub record AreParts (mode : Mode) (o : ℕ) (parts : List Part) (items more : List Item) (item child : ℕ) (start now : Arranger) : Type 0 where
    pub walks : Walks plan (λ k w. below_by plan k (within mode) 0 w (with_parts (operator o) parts)) start now
    pub rest : more ≡ left plan.definition.now (with_parts (operator o) parts)
    pub number : (k : Known) → item ≡ next_number plan.definition.now k.layout plan.cols (with_parts (operator o) parts)
    pub children : child ≡ length (children_of (with_parts (operator o) parts))
    pub short : length more ≤ length items

  pub parts-init : (mode : Mode) (o : ℕ) (items more : List Item) (item : ℕ) (start now : Arranger) → items ≡ items_in (operator_at plan.definition.now o) → more ≡ from_part items → item ≡ 0 + words_in items
      → InksBy plan.rules.now (λ layout k. ink_words layout mode (Some o) 0 items k) start.sheet now.sheet → now.path.items ≡ start.path.items → now.nodes.items ≡ start.nodes.items → now.place ≡ start.place
      → AreParts mode o [] items more item 0 start now
  parts-init mode o items more item start now e m i x p n q = record {
    walks = walks-as plan (λ k w. with_ink w (ink_words k.layout mode (Some o) 0 items w.ink)) (λ k w. below_by plan k (within mode) 0 w (operator o)) start now
        (λ k w. ap (λ xs. with_ink w (ink_words k.layout mode (Some o) 0 xs w.ink)) e) (walks-ink plan (λ layout i. ink_words layout mode (Some o) 0 items i) start now x p n q);
    rest = m ∙ ap from_part e;
    number = λ k. let z : 0 + words_in items ≡ words_in items = omega arith in i ∙ z ∙ ap words_in e;
    children = refl;
    short = let l = ap length m in let s = short-from items in omega (arith, l, s);
  }

  pub parts-next : (mode : Mode) (o : ℕ) (parts : List Part) (items more left_ : List Item) (item number following child after : ℕ) (next : Next) (part : Part) (start b c d : Arranger)
      → AreParts mode o parts items more item child start b → items ≡ items_in (operator_at plan.definition.now o)
      → next.item ≡ item → ((t : Fragment) → part ≡ Sub t → next.wanted ≡ level_wanted (operator_at plan.definition.now o) (length items - length more)) → next.child ≡ child
      → Walks plan (λ k w. part_by plan k mode o next part w) b c
      → number ≡ item + 1 → InksBy plan.rules.now (λ layout k. ink_words layout mode (Some o) number (behind_first more) k) c.sheet d.sheet
      → d.path.items ≡ c.path.items → d.nodes.items ≡ c.nodes.items → d.place ≡ c.place
      → left_ ≡ from_part (behind_first more) → following ≡ number + words_in (behind_first more) → after ≡ child + count_of part
      → AreParts mode o (parts ++ part ∷ []) items left_ following after start d
  parts-next mode o parts items more left_ item number following child after next part start b c d h e ni nw nc x s y p n pl l q kk =
      let f : Fragment = with_parts (operator o) parts in
      let g : with_part (with_parts (operator o) parts) part ≡ with_parts (operator o) (parts ++ part ∷ []) = sym (with_parts-push (operator o) parts part) in
      let top : top_operator (with_parts (operator o) parts) ≡ Some o = top-parts (operator o) parts in
      let v : (t : Fragment) → part ≡ Sub t → next.wanted ≡ wanted plan.definition.now (with_parts (operator o) parts) =
      λ t is. nw t is ∙ wanted-of plan.definition.now (operator_at plan.definition.now o) more (length items - length more) (ap (λ z. length z - length more) e)
      ∙ ap₂ wanted_of (sym (operator-parts plan.definition.now o parts)) h.rest in
      record {
        walks = walks-as plan
            (λ k w. with_ink (part_by plan k mode o next part (below_by plan k (within mode) 0 w (with_parts (operator o) parts)))
            (ink_words k.layout mode (Some o) number (behind_first more) (part_by plan k mode o next part (below_by plan k (within mode) 0 w (with_parts (operator o) parts))).ink))
            (λ k w. below_by plan k (within mode) 0 w (with_parts (operator o) (parts ++ part ∷ []))) start d
            (λ k w.
            let u : Walk = part_by plan k mode o next part (below_by plan k (within mode) 0 w (with_parts (operator o) parts)) in
            ap (λ z. with_ink u (ink_words k.layout mode z number (behind_first more) u.ink)) (sym top)
            ∙ ap₂ (λ m xs. with_ink u (ink_words k.layout mode (top_operator (with_parts (operator o) parts)) m (behind_first xs) u.ink)) (s ∙ ap (λ z. z + 1) (h.number k)) h.rest
            ∙ part_next plan.definition.now k.layout plan.cols (flats_by plan) k.copies plan.counts mode w (with_parts (operator o) parts) o next part top (ni ∙ h.number k) v (nc ∙ h.children)
            ∙ ap (below_by plan k (within mode) 0 w) g)
            (walks-then plan (λ k w. part_by plan k mode o next part (below_by plan k (within mode) 0 w (with_parts (operator o) parts)))
            (λ k w. with_ink w (ink_words k.layout mode (Some o) number (behind_first more) w.ink)) start c d
            (walks-then plan (λ k w. below_by plan k (within mode) 0 w (with_parts (operator o) parts)) (λ k w. part_by plan k mode o next part w) start b c h.walks x)
            (walks-ink plan (λ layout i. ink_words layout mode (Some o) number (behind_first more) i) c d y p n pl));
        rest = l ∙ ap (λ z. from_part (behind_first z)) h.rest ∙ sym (left-part plan.definition.now (with_parts (operator o) parts) part) ∙ ap (left plan.definition.now) g;
        number = λ k.
            q ∙ ap₂ (λ z xs. z + words_in (behind_first xs)) (s ∙ ap (λ z. z + 1) (h.number k)) h.rest
            ∙ sym (number_next plan.definition.now k.layout plan.cols (flats_by plan) k.copies plan.counts (with_parts (operator o) parts) part) ∙ ap (next_number plan.definition.now k.layout plan.cols) g;
        children = kk ∙ ap (λ z. z + count_of part) h.children ∙ sym (count-part plan.definition.now (with_parts (operator o) parts) part) ∙ ap (λ z. length (children_of z)) g;
        short = let u = ap length l in let a = short-from (behind_first more) in let m = short-behind more in let z = h.short in omega (arith, u, a, m, z);
      }

  -- ---- a list, from its elements on

  -- Writing the elements that are left writes the whole list; the next element has the number.
  pub record AreElementsLeft (flat : Bool) (place l : ℕ) (all more : List Fragment) (u : Bool) (number : ℕ) (start now : Arranger) : Type 0 where
    pub walk : (k : Known) → IsKnown plan k → (w : Walk) → IsWalk start w → (v : Walk) × IsWalk now v
        × (below_by plan k (comes flat place) 0 w (list_of l all u) ≡ below_by plan k (comes flat place) number v (list_of l more u))
    pub grown : length start.nodes.items ≤ length now.nodes.items
    pub low : height (list_of 0 more false) ≤ height (list_of 0 all false)

  pub elements-init : (flat : Bool) (place l : ℕ) (all : List Fragment) (u : Bool) (start : Arranger) → AreElementsLeft flat place l all all u 0 start start
  elements-init flat place l all u start = record { walk = λ k r w h. (w, h, refl); grown = omega arith; low = omega arith }

  pub elements-next : (flat : Bool) (place l : ℕ) (all more : List Fragment) (u : Bool) (number next : ℕ) (e : Fragment) (behind : List Fragment) (start b c d : Arranger)
      → AreElementsLeft flat place l all more u number start b → more ≡ e ∷ behind
      → Walks plan (λ k w. child_by plan k flat number w e) b c
      → Inks (λ k. ink_row k (between plan.definition.now l (list_of l behind u))) c.sheet d.sheet → d.path.items ≡ c.path.items → d.nodes.items ≡ c.nodes.items → d.place ≡ c.place
      → next ≡ number + 1 → AreElementsLeft flat place l all behind u next start d
  elements-next flat place l all more u number next e behind start b c d h m x y p n pl nx = record {
    walk = λ k r w z.
        let a = h.walk k r w z in
        let o : IsWalk c (child_by plan k flat number a.0 e) = x.walk k r a.0 a.1 in
        let node : Walk = child_by plan k flat number a.0 e in (
          with_ink node (ink_row node.ink (between plan.definition.now l (list_of l behind u))),
          record { ink = y node.ink o.ink; path = p ∙ o.path; nodes = n ∙ o.nodes; place = pl ∙ o.place },
          a.2 ∙ ap (λ xs. below_by plan k (comes flat place) number a.0 (list_of l xs u)) m
              ∙ ap (λ i. below_by plan k (comes flat place) i (with_ink node (ink_row node.ink (between plan.definition.now l (list_of l behind u)))) (list_of l behind u)) (sym nx),
        );
    grown = let s = h.grown in let t = x.grown in let o = ap length n in omega (arith, s, t, o);
    low = let s = h.low in let t = ap (λ z. height (list_of 0 z false)) m in omega (arith, s, t);
  }

  pub elements-end : (flat : Bool) (place l : ℕ) (all more : List Fragment) (u : Bool) (number : ℕ) (start b d : Arranger) → AreElementsLeft flat place l all more u number start b → length more ≡ 0
      → Inks (λ k. ink_row k (ending_row u)) b.sheet d.sheet → d.path.items ≡ b.path.items → d.nodes.items ≡ b.nodes.items → d.place ≡ b.place
      → Walks plan (λ k w. below_by plan k (comes flat place) 0 w (list_of l all u)) start d
  elements-end flat place l all [] u number start b d h e x p n pl = record {
    grown = let s = h.grown in let o = ap length n in omega (arith, s, o);
    walk = λ k r w z.
        let a = h.walk k r w z in
        subst (IsWalk d) (sym a.2) (record { ink = x a.0.ink a.1.ink; path = p ∙ a.1.path; nodes = n ∙ a.1.nodes; place = pl ∙ a.1.place });
  }
  elements-end flat place l all (t ∷ more) u number start b d h e x p n pl = absurd (omega (arith, e))

  -- ---- a node

  -- a node part by part
  pub met_walks : (flat : Bool) (t : Fragment) (listed place : ℕ) (outer : Option Begin) (a b c d : Arranger) → listed ≡ length a.nodes.items → place ≡ a.place
      → ((w : Walk) → IsWalk a w → (outer ≡ w.ink.first) × IsWalk b (opened w)) → length a.nodes.items < length b.nodes.items
      → Walks plan (λ k w. below_by plan k (comes flat place) 0 w t) b c
      → ((w : Walk) → IsWalk c w → IsWalk d (closed listed place outer w)) → length d.nodes.items ≡ length c.nodes.items
      → Walks plan (λ k w. met_by plan k flat w t) a d
  met_walks flat t listed place outer a b c d l p o long x z same = record {
    grown = let g = x.grown in omega (arith, long, g, same);
    walk = λ k r w h.
        let begun = o w h in
        let at : listed ≡ length w.nodes = l ∙ ap length h.nodes in
        let here : place ≡ w.place = p ∙ h.place in
        subst (IsWalk d)
        (ap₂ (λ m f. closed m place f (below_by plan k (comes flat place) 0 (opened w) t)) at begun.0
        ∙ ap (λ q. closed (length w.nodes) q w.ink.first (below_by plan k (comes flat q) 0 (opened w) t)) here)
        (z (below_by plan k (comes flat place) 0 (opened w) t) (x.walk k r (opened w) begun.1));
  }

  -- what is found of a node that comes
  abbrev pub IsFound : Bool → Fragment → Arranger → Option Own → Type 0
  IsFound flat t a found =
      (k : Known) → IsKnown plan k → (w : Walk) → IsInk a.sheet w.ink → w.place ≡ a.place
      → CopiesAs found (gap_bytes (flat_in (flats_by plan) a.place).lead) (copy_by plan k flat w (top_operator t))

  -- a node that is not copied
  pub node_met : (flat : Bool) (t : Fragment) (a b : Arranger) → IsFound flat t a None → Walks plan (λ k w. met_by plan k flat w t) a b
      → Walks plan (λ k w. node_by plan k flat w t) a b
  node_met flat t a b misses x = record {
    grown = x.grown;
    walk = λ k r w h.
        subst (IsWalk b) (ap (λ q. or_copied q (gap_bytes (flat_in (flats_by plan) w.place).lead) w (met_by plan k flat w t)) (sym (misses k r w h.ink (sym h.place))))
        (x.walk k r w h);
  }

  -- a node that is copied
  pub node_copies : (flat : Bool) (t : Fragment) (own : Own) (a b : Arranger) → IsFound flat t a (Some own)
      → ((c : Copy) → IsOwn own c → (w : Walk) → IsWalk a w → IsWalk b (copied (gap_bytes own.lead) c w)) → b.nodes.items ≡ a.nodes.items
      → Walks plan (λ k w. node_by plan k flat w t) a b
  node_copies flat t own a b copies x n = record {
    grown = let e = ap length n in omega (arith, e);
    walk = λ k r w h.
        let found = copies k r w h.ink (sym h.place) in
        subst (IsWalk b)
        (ap (λ l. copied l found.0 w) (found.3 ∙ ap (λ q. gap_bytes (flat_in (flats_by plan) q).lead) h.place)
        ∙ ap (λ q. or_copied q (gap_bytes (flat_in (flats_by plan) w.place).lead) w (met_by plan k flat w t)) (sym found.1))
        (x found.0 found.2 w h);
  }

  -- ---- a child

  -- the path leads to the same node again
  node_path : (k : Known) (flat : Bool) (w : Walk) (t : Fragment) → (node_by plan k flat w t).path ≡ w.path
  node_path k flat w t = by (copy_by plan k flat w (top_operator t))
    where
      by : (o : Option Copy) → (or_copied o (gap_bytes (flat_in (flats_by plan) w.place).lead) w (met_by plan k flat w t)).path ≡ w.path
      by None = below-path plan.definition.now k.layout plan.cols (flats_by plan) k.copies plan.counts (comes flat w.place) 0 (opened w) t
      by (Some c) = refl

  pub child_counted : (flat : Bool) (n : ℕ) (t : Fragment) (a b : Arranger) → plan.counts ≡ true
      → Walks plan (λ k w. node_by plan k flat w t) a b → Walks plan (λ k w. child_by plan k flat n w t) a b
  child_counted flat n t a b e x = record {
    grown = x.grown;
    walk = λ k r w h.
        let own : Walk = stepped plan.counts w n in
        let same : own.path ≡ w.path = ap (λ (z : Bool). cond z w.path (w.path ++ n ∷ [])) e in
        let o : IsWalk b (node_by plan k flat own t) =
        x.walk k r own (record { ink = h.ink; path = h.path ∙ sym same; nodes = h.nodes; place = h.place }) in
        record { ink = o.ink; path = o.path ∙ node_path k flat own t ∙ same; nodes = o.nodes; place = o.place };
  }

  pub child_walks : (flat : Bool) (n : ℕ) (t : Fragment) (a b c d : Arranger) → plan.counts ≡ false
      → b.sheet ≡ a.sheet → b.path.items ≡ a.path.items ++ n ∷ [] → b.nodes.items ≡ a.nodes.items → b.place ≡ a.place
      → Walks plan (λ k w. node_by plan k flat w t) b c
      → d.sheet ≡ c.sheet → d.path.items ≡ take (length a.path.items) c.path.items → d.nodes.items ≡ c.nodes.items → d.place ≡ c.place
      → Walks plan (λ k w. child_by plan k flat n w t) a d
  child_walks flat n t a b c d e bs bp bn bl x ds dp dn dl = record {
    grown = let g = x.grown in let p = ap length bn in let q = ap length dn in omega (arith, g, p, q);
    walk = λ k r w h.
        let own : Walk = stepped plan.counts w n in
        let longer : own.path ≡ w.path ++ n ∷ [] = ap (λ (z : Bool). cond z w.path (w.path ++ n ∷ [])) e in
        let o : IsWalk c (node_by plan k flat own t) =
        x.walk k r own
        (record { ink = subst (λ s. IsInk s w.ink) (sym bs) h.ink; path = bp ∙ ap (λ z. z ++ n ∷ []) h.path ∙ sym longer; nodes = bn ∙ h.nodes; place = bl ∙ h.place }) in
        record {
          ink = subst (λ s. IsInk s (node_by plan k flat own t).ink) (sym ds) o.ink;
          path = dp ∙ ap₂ (λ i z. take (length i) z) h.path (o.path ∙ node_path k flat own t ∙ longer) ∙ take-append_seam w.path (n ∷ []);
          nodes = dn ∙ o.nodes;
          place = dl ∙ o.place;
        };
  }

  -- ---- shapes

  pub operator_walks : (flat : Bool) (place o : ℕ) (parts : List Part) (t : Fragment) (mode : Mode) (a b : Arranger) → with_parts (operator o) parts ≡ t
      → ((layout : Layout) → AreRulesOf layout plan.rules.now → (i : Ink) → IsInk a.sheet i → mode ≡ decided_by layout plan.cols flat i (flat_in (flats_by plan) place) (Some o))
      → Walks plan (λ k w. below_by plan k (within mode) 0 w (with_parts (operator o) parts)) a b
      → Walks plan (λ k w. below_by plan k (comes flat place) 0 w t) a b
  operator_walks flat place o parts t mode a b e d x = record {
    grown = x.grown;
    walk = λ k r w h.
        let top : top_operator (with_parts (operator o) parts) ≡ Some o = top-parts (operator o) parts in
        subst (IsWalk b)
        (ap (λ m. below_by plan k (within m) 0 w (with_parts (operator o) parts)) (d k.layout r.rules w.ink h.ink ∙ ap (decided_by k.layout plan.cols flat w.ink (flat_in (flats_by plan) place)) (sym top))
        ∙ sym (comes-within plan.definition.now k.layout plan.cols (flats_by plan) k.copies plan.counts (comes flat place) 0 w (with_parts (operator o) parts) o top)
        ∙ ap (below_by plan k (comes flat place) 0 w) e)
        (x.walk k r w h);
  }

  pub list_walks : (flat : Bool) (place : ℕ) (f t : Fragment) (a b : Arranger) → f ≡ t
      → Walks plan (λ k w. below_by plan k (comes flat place) 0 w f) a b
      → Walks plan (λ k w. below_by plan k (comes flat place) 0 w t) a b
  list_walks flat place f t a b e x =
      walks-as plan (λ k w. below_by plan k (comes flat place) 0 w f) (λ k w. below_by plan k (comes flat place) 0 w t) a b
      (λ k w. ap (below_by plan k (comes flat place) 0 w) e) x

  -- ---- parts

  pub leaf_walks : (mode : Mode) (o m : ℕ) (t : List ℕ) (a b : Arranger) (s : Sheet) → InksBy plan.rules.now (λ layout i. ink_at layout mode (Some o) m i) a.sheet s
      → Inks (λ i. ink_token i t) s b.sheet → b.path.items ≡ a.path.items → b.nodes.items ≡ a.nodes.items → b.place ≡ a.place
      → Walks plan (λ k w. leaf_put plan.definition.now k.layout plan.cols (flats_by plan) k.copies plan.counts mode (Some o) m t w) a b
  leaf_walks mode o m t a b s x y p n q =
      walks-ink plan (λ layout i. ink_token (ink_at layout mode (Some o) m i) t) a b (λ layout r i h. y (ink_at layout mode (Some o) m i) (x layout r i h)) p n q

  pub sub_walks : (mode : Mode) (o : ℕ) (next : Next) (t : Fragment) (bracketed fl : Bool) (f : Flat) (a b c d : Arranger) (s : Sheet)
      → f ≡ flat_in (flats_by plan) a.place → bracketed ≡ is_below plan.definition.now t next.wanted → fl ≡ is_flat mode
      → InksBy plan.rules.now (λ layout i. ink_child layout mode (Some o) next.item bracketed f i) a.sheet s
      → Inks (λ i. ink_row i (opening bracketed)) s b.sheet → b.path.items ≡ a.path.items → b.nodes.items ≡ a.nodes.items → b.place ≡ a.place
      → Walks plan (λ k w. child_by plan k fl next.child w t) b c
      → Inks (λ i. ink_row i (closing bracketed)) c.sheet d.sheet → d.path.items ≡ c.path.items → d.nodes.items ≡ c.nodes.items → d.place ≡ c.place
      → Walks plan (λ k w. part_by plan k mode o next (Sub t) w) a d
  sub_walks mode o next t bracketed fl f a b c d s fe be fle x y bp bn bl z v dp dn dl = record {
    grown = let g = z.grown in let p = ap length bn in let q = ap length dn in omega (arith, g, p, q);
    walk = λ k r w h.
        let place : f ≡ flat_in (flats_by plan) w.place = fe ∙ ap (flat_in (flats_by plan)) h.place in
        let ink : Ink = ink_row (ink_child k.layout mode (Some o) next.item bracketed f w.ink) (opening bracketed) in
        let begun : Walk = with_ink w ink in
        let one : IsWalk b begun =
        record { ink = y (ink_child k.layout mode (Some o) next.item bracketed f w.ink) (x k.layout r.rules w.ink h.ink); path = bp ∙ h.path; nodes = bn ∙ h.nodes; place = bl ∙ h.place } in
        let node : Walk = child_by plan k fl next.child begun t in
        let two : IsWalk c node = z.walk k r begun one in
        let done : IsWalk d (with_ink node (ink_row node.ink (closing bracketed))) = record { ink = v node.ink two.ink; path = dp ∙ two.path; nodes = dn ∙ two.nodes; place = dl ∙ two.place } in
        subst (IsWalk d) (same k w place) done;
  } where
    whole : (k : Known) (w : Walk) → Bool → Flat → Bool → Walk
    whole k w br g e =
        sub_ended plan.definition.now k.layout plan.cols (flats_by plan) k.copies plan.counts br
        (child_by plan k e next.child (with_ink w (ink_row (ink_child k.layout mode (Some o) next.item br g w.ink) (opening br))) t)

    same : (k : Known) (w : Walk) → f ≡ flat_in (flats_by plan) w.place
        → whole k w bracketed f fl ≡ part_by plan k mode o next (Sub t) w
    same k w place =
        ap (λ x. whole k w x f fl) be ∙ ap (λ x. whole k w (is_below plan.definition.now t next.wanted) x fl) place
        ∙ ap (λ x. whole k w (is_below plan.definition.now t next.wanted) (flat_in (flats_by plan) w.place) x) fle
