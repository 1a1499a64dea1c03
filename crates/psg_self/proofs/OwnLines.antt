-- The lines of a whole tree: their names are runs, and their parts are there.
use Rattle.std.proofs.Common.{arith, ◌≡◌, ◌<◌, ◌^◌, ◌⊎◌, ℕ, true, false, cond, inl, inr, Option, Some, None, List, [], ◌∷◌, ◌++◌, map, length, slice_get, refl, ap, ap₂, sym, ◌∙◌, subst, length-append, codes}
use Rattle.std.specs.Prelude.{IsUtf8, bytes_eq, option_map}
use Rattle.std.specs.List.{AllByRecursion, flat_map}
use Rattle.std.proofs.lemmas.Bool.{cases_Bool, false≢true, or_from}
use Rattle.std.proofs.lemmas.Slice.Eq.{bytes_eq-Decides}
use Rattle.std.proofs.lemmas.Option.{slice_get-map}
use Rattle.psg_terms.specs.Names.{Name, is_among}
use Rattle.psg_grammar.specs.declared.types.Kind.{Kind}
use Rattle.psg_grammar.specs.declared.types.Kind.TheVariants as kinds
use Rattle.psg_grammar.specs.declared.types.Item.{Item}
use Rattle.psg_grammar.specs.declared.types.Item.TheVariants as items
use Rattle.psg_grammar.specs.declared.types.ListKind.{ListKind}
use Rattle.psg_grammar.specs.declared.types.Definition.{Definition}
use Rattle.psg_grammar.specs.Fragments.{Fragment, hole, ending, cell, operator, with_child, with_name, with_number, with_text, anything, observed}
use Rattle.psg_grammar.specs.WellFormed.{Fits, IsPlain, IsComplete, IsName, fixed_words, operator_words, separators, words_in}
use Rattle.psg_grammar.specs.declared.types.Operator.{Operator}
use Rattle.psg_tree.specs.declared.tree.Part.{Part}
use Rattle.psg_tree.specs.declared.tree.Part.TheVariants as parts
use Rattle.psg_deflines.specs.WrittenTerms.{WrittenTerm}
use Rattle.psg_deflines.specs.WrittenTerms as terms
use Rattle.psg_deflines.specs.WrittenTrees.{WrittenTree}
use Rattle.psg_deflines.specs.WrittenTrees as trees
use Rattle.psg_deflines.specs.declared.lines.LineItem.TheVariants as made
use Rattle.psg_deflines.specs.declared.lines.Line.{Line}
use Rattle.psg_self.specs.declared.form.Form.{Form}
use Rattle.psg_self.specs.declared.form.Form.TheVariants as forms
use Rattle.psg_self.specs.SelfLanguage.{self_lists, self_operators, IsSelf}
use Rattle.psg_self.specs.NodeParts.{form_of, node_parts, part_at, name_in, text_in, number_in, name_at, tree_at, elements_at, elements_in, elements_of}
use Rattle.psg_self.specs.SelfLines.{term_of, terms_of, specimen_of, specimens_of, with_trees, term_in, specimen_in, constructor_of, slot_of, level_by, level_in, item_by, item_of, row_of, lines_by, lines_of, lines_in}
use Rattle.psg_self.specs.Pieces.{IsRun}
use Rattle.psg_self.proofs.OwnNames.{name-run, name-no_digit}
use Rattle.psg_self.proofs.LinesLaid.{IsOwnName, own_words, IsOwnTerm, IsOwnTree, IsOwnConstructor, IsOwnItem, IsSmallLevel, IsOwnLine}
use Rattle.psg_self.proofs.NodeShapes.{IsWhole, IsPartOf, AreParts, phylum_of, items_of, formed, formed-front, name-part, HasTree, tree-part, elements-whole}

each-map : {X Y : Type 0} (P : X → Type 0) (Q : Y → Type 0) (f : X → Y) → ((x : X) → P x → Q (f x)) → (xs : List X) → AllByRecursion P xs
    → AllByRecursion Q (map f xs)
each-map P Q f g [] h = tt
each-map P Q f g (x ∷ xs) h = (g x h.0, each-map P Q f g xs h.1)

module _ (def : Definition) (self : IsSelf def) where
  run-of : (n : Name) → IsName def n → IsRun n
  run-of n h = name-run (fixed_words def) n h

  -- the fixed words of the operators, by their items
  abbrev words_of : List (Name × (ℕ × List Item)) → List Name
  words_of [] = []
  words_of (k ∷ ks) = words_in k.1.1 ++ words_of ks

  words-same : (ops : List Operator) → operator_words ops ≡ words_of (map (λ (o : Operator). (o.name, (o.phylum, o.items))) ops)
  words-same [] = refl
  words-same (o ∷ ops) = ap (λ x. words_in o.items ++ x) (words-same ops)

  fixed-are : fixed_words def ≡ words_of self_operators ++ separators def.lists
  fixed-are = ap (λ x. x ++ separators def.lists) (words-same def.operators ∙ ap words_of self.operators)

  fixed-among : (w : Name) → is_among (words_of self_operators ++ separators def.lists) w ≡ true → (n : Name) → IsName def n
      → bytes_eq w n ≡ false
  fixed-among w there n (cs, e, k, free) = elim (cases_Bool (bytes_eq w n)) [
    | inl same ↦ absurd (false≢true (sym free ∙ ap (λ ws. is_among ws n) fixed-are
        ∙ ap (is_among (words_of self_operators ++ separators def.lists)) (sym ((bytes_eq-Decides w n).0 same)) ∙ there))
    | inr other ↦ other
  ]

  none-of : (ws : List Name) → AllByRecursion (λ w. is_among (words_of self_operators ++ separators def.lists) w ≡ true) ws
      → (n : Name) → IsName def n → is_among ws n ≡ false
  none-of [] h n k = refl
  none-of (w ∷ ws) h n k = or_from (bytes_eq w n) (is_among ws n) (fixed-among w h.0 n k) (none-of ws h.1 n k)

  name-of : (n : Name) → IsName def n → IsOwnName n
  name-of n h = record {
    is_run = run-of n h;
    no_digit = name-no_digit (fixed_words def) n h;
    no_word = none-of own_words (refl, (refl, (refl, (refl, (refl, (refl, tt)))))) n h;
  }

  abbrev list_key : ListKind → Name × ℕ
  list_key k = (k.name, k.element)

  abbrev element_in : Option (Name × ℕ) → ℕ
  element_in (Some p) = p.1
  element_in None = 0

  element-at : (l p : ℕ) → element_in (slice_get self_lists l) ≡ p → (k : ListKind) → slice_get def.lists l ≡ Some k → k.element ≡ p
  element-at l p e k at =
      sym (ap element_in (ap (λ ks. slice_get ks l) (sym self.lists) ∙ slice_get-map list_key def.lists l ∙ ap (option_map list_key) at)) ∙ e

  -- the elements of a list part
  elements-there : (f : Fragment) (n l p : ℕ) → element_in (slice_get self_lists l) ≡ p → HasTree def (part_at f n) (kinds.List l)
      → AllByRecursion (λ e. IsWhole def e (kinds.Phylum p)) (elements_at f n)
  elements-there f n l p e t =
      subst (λ o. AllByRecursion (λ x. IsWhole def x (kinds.Phylum p)) (elements_in o)) (sym t.is)
      (elements-whole def l p (element-at l p e) t.tree t.whole.fits t.whole.plain t.whole.complete)

  -- ---- terms

  abbrev EndsWell : List Part → Type 0
  EndsWell [] = ⊥
  EndsWell (parts.Sub t ∷ []) = Unit {0}
  EndsWell (parts.Name n ∷ []) = Unit {0}
  EndsWell (parts.Number v ∷ []) = ⊥
  EndsWell (parts.Text t ∷ []) = ⊥
  EndsWell (p ∷ q ∷ ps) = EndsWell (q ∷ ps)

  ends-not : (ps : List Part) (p : Part) → (EndsWell (p ∷ []) → ⊥) → EndsWell (ps ++ p ∷ []) → ⊥
  ends-not [] p h k = h k
  ends-not (q ∷ []) p h k = h k
  ends-not (q ∷ r ∷ ps) p h k = ends-not (r ∷ ps) p h k

  slot-ends : (k : Kind) (p : Part) → IsPartOf def (items.Slot k) p → EndsWell (p ∷ [])
  slot-ends k (parts.Sub t) h = tt
  slot-ends k (parts.Name n) h = tt
  slot-ends k (parts.Number v) h = absurd h
  slot-ends k (parts.Text t) h = absurd h

  name-ends : (s : ℕ) (p : Part) → IsPartOf def (items.Refers s) p → EndsWell (p ∷ [])
  name-ends s (parts.Sub t) h = tt
  name-ends s (parts.Name n) h = tt
  name-ends s (parts.Number v) h = absurd h
  name-ends s (parts.Text t) h = absurd h

  two-end : (i : Item) (k : Kind) (ps : List Part) → AreParts def (i ∷ items.Slot k ∷ []) ps → EndsWell ps
  two-end i k [] h = absurd h
  two-end i k (p ∷ []) h = absurd h.1
  two-end i k (p ∷ q ∷ []) h = slot-ends k q h.1.0
  two-end i k (p ∷ q ∷ r ∷ ps) h = absurd h.1.1

  one-end : (s : ℕ) (ps : List Part) → AreParts def (items.Refers s ∷ []) ps → EndsWell ps
  one-end s [] h = absurd h
  one-end s (p ∷ []) h = name-ends s p h.0
  one-end s (p ∷ q ∷ ps) h = absurd h.1

  term-ends : (form : Form) (ps : List Part) → phylum_of form ≡ 6 → AreParts def (items_of form) ps → EndsWell ps
  term-ends forms.Applied ps e h = two-end (items.Refers 1) (kinds.List 5) ps h
  term-ends forms.Variable ps e h = one-end 4 ps h
  term-ends _ ps e h = absurd (omega (arith, e))

  tree-ends : (form : Form) (ps : List Part) → phylum_of form ≡ 7 → AreParts def (items_of form) ps → EndsWell ps
  tree-ends forms.Specimen ps e h = two-end (items.Refers 3) (kinds.List 6) ps h
  tree-ends _ ps e h = absurd (omega (arith, e))

  -- a name and then a list
  record IsNamedFront (l : ℕ) (k : Kind) (ps : List Part) : Type 0 where
    name : IsName def (name_in (slice_get ps 0))
    kind : k ≡ kinds.List l

  not-slot : (s : ℕ) (k : Kind) (is : List Item) → items.Refers s ∷ is ≡ items.Slot k ∷ [] → ⊥
  not-slot s k is e = cc

  slot-is : (k l : Kind) → ◌≡◌ {A = List Item} (items.Slot l ∷ []) (items.Slot k ∷ []) → k ≡ l
  slot-is k l e = cc

  named-front : (s l : ℕ) (front : List Item) (k : Kind) (ps : List Part)
      → items.Refers s ∷ items.Slot (kinds.List l) ∷ [] ≡ front ++ items.Slot k ∷ [] → AreParts def front ps → IsNamedFront l k ps
  named-front s l [] k ps e h = absurd (not-slot s k (items.Slot (kinds.List l) ∷ []) e)
  named-front s l (i ∷ []) k ps e h =
      let first : i ≡ items.Refers s = cc in
      record {
        name = name-part def (i ∷ []) ps 0 (items.Refers s) h (ap Some first) tt;
        kind = slot-is k (kinds.List l) (cc);
      }
  named-front s l (i ∷ j ∷ front) k ps e h = absurd (omega (arith, ap length e, length-append front (items.Slot k ∷ [])))

  lone-front : (s : ℕ) (front : List Item) (k : Kind) → ◌≡◌ {A = List Item} (items.Refers s ∷ []) (front ++ items.Slot k ∷ []) → ⊥
  lone-front s [] k e = not-slot s k [] e
  lone-front s (i ∷ front) k e = omega (arith, ap length e, length-append front (items.Slot k ∷ []))

  term-front : (form : Form) (front : List Item) (k : Kind) (ps : List Part) → phylum_of form ≡ 6
      → items_of form ≡ front ++ items.Slot k ∷ [] → AreParts def front ps → IsNamedFront 5 k ps
  term-front forms.Applied front k ps p e h = named-front 1 5 front k ps e h
  term-front forms.Variable front k ps p e h = absurd (lone-front 4 front k e)
  term-front _ front k ps p e h = absurd (omega (arith, p))

  tree-front : (form : Form) (front : List Item) (k : Kind) (ps : List Part) → phylum_of form ≡ 7
      → items_of form ≡ front ++ items.Slot k ∷ [] → AreParts def front ps → IsNamedFront 6 k ps
  tree-front forms.Specimen front k ps p e h = named-front 3 6 front k ps e h
  tree-front _ front k ps p e h = absurd (omega (arith, p))

  applied-own : (t : WrittenTerm) (ts : List WrittenTerm) → IsOwnTerm t → AllByRecursion IsOwnTerm ts → terms.is_head t ≡ true
      → IsOwnTerm (terms.applied t ts)
  applied-own t [] h k e = h
  applied-own t (u ∷ ts) h k e = applied-own (terms.apply t u) ts (h, k.0, e) k.1 refl

  with-own : (t : WrittenTree) (ts : List WrittenTree) → IsOwnTree t → AllByRecursion IsOwnTree ts → IsOwnTree (with_trees t ts)
  with-own t [] h k = h
  with-own t (u ∷ ts) h k = with-own (trees.with_tree t u) ts (h, k.0) k.1

  term-ends-of : (f : Fragment) → IsWhole def f (kinds.Phylum 6) → EndsWell (node_parts f)
  term-ends-of f w = let r = formed def self f 6 w in term-ends r.form (node_parts f) r.of r.each

  tree-ends-of : (f : Fragment) → IsWhole def f (kinds.Phylum 7) → EndsWell (node_parts f)
  tree-ends-of f w = let r = formed def self f 7 w in tree-ends r.form (node_parts f) r.of r.each

  list-is : (a b : ℕ) → kinds.List a ≡ kinds.List b → a ≡ b
  list-is a b f = cc

  last-is : (i j : Item) → ◌≡◌ {A = List Item} (i ∷ []) (j ∷ []) → i ≡ j
  last-is i j e = cc

  slot-refers : (k : Kind) (r : ℕ) → items.Slot k ≡ items.Refers r → ⊥
  slot-refers k r e = cc

  slot-declares : (k : Kind) (r : ℕ) → items.Slot k ≡ items.Declares r → ⊥
  slot-declares k r e = cc

  -- a specimen ends with a list
  not-refers : (s r : ℕ) (k : Kind) (front : List Item) (i : Item) → (i ≡ items.Refers r) ⊎ (i ≡ items.Declares r)
      → items.Refers s ∷ items.Slot k ∷ [] ≡ front ++ i ∷ [] → ⊥
  not-refers s r k [] i h e = omega (arith, ap length e)
  not-refers s r k (j ∷ []) i (inl h) e = slot-refers k r (last-is (items.Slot k) i (cc) ∙ h)
  not-refers s r k (j ∷ []) i (inr h) e = slot-declares k r (last-is (items.Slot k) i (cc) ∙ h)
  not-refers s r k (j ∷ l ∷ front) i h e = omega (arith, ap length e, length-append front (i ∷ []))

  tree-no-refers : (form : Form) (r : ℕ) (front : List Item) (i : Item) → phylum_of form ≡ 7 → (i ≡ items.Refers r) ⊎ (i ≡ items.Declares r)
      → items_of form ≡ front ++ i ∷ [] → ⊥
  tree-no-refers forms.Specimen r front i p h e = not-refers 3 r (kinds.List 6) front i h e
  tree-no-refers _ r front i p h e = omega (arith, p)

  tree-no-name : (g : Fragment) (n : Name) → IsWhole def (with_name g n) (kinds.Phylum 7) → ⊥
  tree-no-name g n w = elim w.fits.0 [
    | inl h ↦ let r = formed-front def self g (items.Refers h.0 ∷ []) 7 h.1 w.plain w.complete in
        tree-no-refers r.form h.0 r.front (items.Refers h.0) r.of (inl refl) r.split
    | inr h ↦ let r = formed-front def self g (items.Declares h.0 ∷ []) 7 h.1 w.plain w.complete in
        tree-no-refers r.form h.0 r.front (items.Declares h.0) r.of (inr refl) r.split
  ]

  number-no : (v : ℕ) → EndsWell (parts.Number v ∷ []) → ⊥
  number-no v h = h

  text-no : (t : List ℕ) → EndsWell (parts.Text t ∷ []) → ⊥
  text-no t h = h

  mutual
    own-term : (f : Fragment) → IsWhole def f (kinds.Phylum 6) → IsOwnTerm (term_of f)
    own-term (with_child g t) w =
        let k = w.fits.0 in
        let r = formed-front def self g (items.Slot k ∷ []) 6 w.fits.1 w.plain.0 w.complete.0 in
        let n = term-front r.form r.front k (node_parts g) r.of r.split r.each in
        let list = subst (λ x. Fits def t [] x) n.kind w.fits.2 in
        applied-own (terms.named (name_at g 0)) (terms_of t) (name-of (name_at g 0) n.name) (own-terms t list w.plain.1 w.complete.1) refl
    own-term (with_name g n) w = name-of n w.fits.1
    own-term (with_number g v) w = absurd (ends-not (node_parts g) (parts.Number v) (number-no v) (term-ends-of (with_number g v) w))
    own-term (with_text g t) w = absurd (ends-not (node_parts g) (parts.Text t) (text-no t) (term-ends-of (with_text g t) w))
    own-term (observed g) w = absurd w.plain
    own-term (hole p) w = absurd w.complete
    own-term (ending l u) w = absurd (term-ends-of (ending l u) w)
    own-term (cell l e r) w = absurd (term-ends-of (cell l e r) w)
    own-term (operator o) w = absurd (term-ends-of (operator o) w)
    own-term anything w = absurd w.complete

    own-terms : (f : Fragment) → Fits def f [] (kinds.List 5) → IsPlain f → IsComplete f → AllByRecursion IsOwnTerm (terms_of f)
    own-terms (cell l e r) (a, b, k, c, d, g, i) q w =
        let same = list-is 5 l b in
        let element = element-at 5 6 refl k (subst (λ n. slice_get def.lists n ≡ Some k) (sym same) c) in (
          own-term e (record { fits = subst (λ n. Fits def e [] (kinds.Phylum n)) element d; plain = q.0; complete = w.0 }),
          own-terms r (subst (λ n. Fits def r [] (kinds.List n)) (sym same) g) q.1 w.1,
        )
    own-terms (hole p) h q w = tt
    own-terms (ending l u) h q w = tt
    own-terms (operator o) h q w = tt
    own-terms (with_child f t) h q w = tt
    own-terms (with_name f n) h q w = tt
    own-terms (with_number f v) h q w = tt
    own-terms (with_text f t) h q w = tt
    own-terms anything h q w = tt
    own-terms (observed f) h q w = tt

  mutual
    own-tree : (f : Fragment) → IsWhole def f (kinds.Phylum 7) → IsOwnTree (specimen_of f)
    own-tree (with_child g t) w =
        let k = w.fits.0 in
        let r = formed-front def self g (items.Slot k ∷ []) 7 w.fits.1 w.plain.0 w.complete.0 in
        let n = tree-front r.form r.front k (node_parts g) r.of r.split r.each in
        let list = subst (λ x. Fits def t [] x) n.kind w.fits.2 in
        with-own (trees.operator (name_at g 0)) (specimens_of t) (name-of (name_at g 0) n.name) (own-trees t list w.plain.1 w.complete.1)
    own-tree (with_name g n) w = absurd (tree-no-name g n w)
    own-tree (with_number g v) w = absurd (ends-not (node_parts g) (parts.Number v) (number-no v) (tree-ends-of (with_number g v) w))
    own-tree (with_text g t) w = absurd (ends-not (node_parts g) (parts.Text t) (text-no t) (tree-ends-of (with_text g t) w))
    own-tree (observed g) w = absurd w.plain
    own-tree (hole p) w = absurd w.complete
    own-tree (ending l u) w = absurd (tree-ends-of (ending l u) w)
    own-tree (cell l e r) w = absurd (tree-ends-of (cell l e r) w)
    own-tree (operator o) w = absurd (tree-ends-of (operator o) w)
    own-tree anything w = absurd w.complete

    own-trees : (f : Fragment) → Fits def f [] (kinds.List 6) → IsPlain f → IsComplete f → AllByRecursion IsOwnTree (specimens_of f)
    own-trees (cell l e r) (a, b, k, c, d, g, i) q w =
        let same = list-is 6 l b in
        let element = element-at 6 7 refl k (subst (λ n. slice_get def.lists n ≡ Some k) (sym same) c) in (
          own-tree e (record { fits = subst (λ n. Fits def e [] (kinds.Phylum n)) element d; plain = q.0; complete = w.0 }),
          own-trees r (subst (λ n. Fits def r [] (kinds.List n)) (sym same) g) q.1 w.1,
        )
    own-trees (hole p) h q w = tt
    own-trees (ending l u) h q w = tt
    own-trees (operator o) h q w = tt
    own-trees (with_child f t) h q w = tt
    own-trees (with_name f n) h q w = tt
    own-trees (with_number f v) h q w = tt
    own-trees (with_text f t) h q w = tt
    own-trees anything h q w = tt
    own-trees (observed f) h q w = tt

  term-there : (f : Fragment) (n : ℕ) → HasTree def (part_at f n) (kinds.Phylum 6) → IsOwnTerm (term_in (tree_at f n))
  term-there f n t = subst (λ o. IsOwnTerm (term_in o)) (sym t.is) (own-term t.tree t.whole)

  tree-there : (f : Fragment) (n : ℕ) → HasTree def (part_at f n) (kinds.Phylum 7) → IsOwnTree (specimen_in (tree_at f n))
  tree-there f n t = subst (λ o. IsOwnTree (specimen_in o)) (sym t.is) (own-tree t.tree t.whole)

  -- ---- constructors and items

  own-argument : (f : Fragment) → IsWhole def f (kinds.Phylum 2) → IsRun (name_at f 0)
  own-argument f w = let r = formed def self f 2 w in by-form r.form r.of r.each
    where
      by-form : (form : Form) → phylum_of form ≡ 2 → AreParts def (items_of form) (node_parts f) → IsRun (name_at f 0)
      by-form forms.Argument e h = run-of (name_at f 0) (name-part def (items_of forms.Argument) (node_parts f) 0 (items.Refers 0) h refl tt)
      by-form _ e h = absurd (omega (arith, e))

  own-constructor : (f : Fragment) → IsWhole def f (kinds.Phylum 1) → IsOwnConstructor (constructor_of f)
  own-constructor f w = let r = formed def self f 1 w in by-form r.form r.of r.each
    where
      by-form : (form : Form) → phylum_of form ≡ 1 → AreParts def (items_of form) (node_parts f) → IsOwnConstructor (constructor_of f)
      by-form forms.Constructor e h = (
        run-of (name_at f 0) (name-part def (items_of forms.Constructor) (node_parts f) 0 (items.Declares 1) h refl tt),
        each-map (λ x. IsWhole def x (kinds.Phylum 2)) IsRun (λ a. name_at a 0) own-argument (elements_at f 1)
            (elements-there f 1 2 2 refl (tree-part def (items_of forms.Constructor) (node_parts f) 1 (kinds.List 2) h refl)),
      )
      by-form _ e h = absurd (omega (arith, e))

  own-slot : (n : Name) → IsOwnName n → IsOwnItem (slot_of n)
  own-slot n r = elim (cases_Bool (bytes_eq n (codes "number"))) [
    | inl e ↦ subst IsOwnItem (ap (λ b. cond b made.Number (cond (bytes_eq n (codes "text")) made.Text (made.Slot n))) (sym e)) tt
    | inr e ↦ elim (cases_Bool (bytes_eq n (codes "text"))) [
      | inl f ↦ subst IsOwnItem (ap₂ (λ b c. cond b made.Number (cond c made.Text (made.Slot n))) (sym e) (sym f)) tt
      | inr f ↦ subst IsOwnItem (ap₂ (λ b c. cond b made.Number (cond c made.Text (made.Slot n))) (sym e) (sym f)) (r, e, f)
    ]
  ]

  number-small : (ps : List Part) → AreParts def (items.Number ∷ []) ps → number_in (slice_get ps 0) < 2 ^ 128
  number-small [] h = absurd h
  number-small (parts.Number v ∷ ps) h = h.0
  number-small (parts.Sub t ∷ ps) h = absurd h.0
  number-small (parts.Name n ∷ ps) h = absurd h.0
  number-small (parts.Text t ∷ ps) h = absurd h.0

  own-level : (f : Fragment) → IsWhole def f (kinds.Phylum 3) → IsSmallLevel (level_by (form_of f) (number_in (part_at f 0)))
  own-level f w =
      let r = formed def self f 3 w in
      subst (λ o. IsSmallLevel (level_by o (number_in (part_at f 0)))) (sym r.form_is) (by-form r.form r.of r.each)
    where
      by-form : (form : Form) → phylum_of form ≡ 3 → AreParts def (items_of form) (node_parts f)
          → IsSmallLevel (level_by (Some form) (number_in (part_at f 0)))
      by-form forms.Plain e h = tt
      by-form forms.Prefix e h = number-small (node_parts f) h
      by-form forms.Postfix e h = number-small (node_parts f) h
      by-form forms.InfixLeft e h = number-small (node_parts f) h
      by-form forms.InfixRight e h = number-small (node_parts f) h
      by-form forms.InfixNone e h = number-small (node_parts f) h
      by-form _ e h = absurd (omega (arith, e))

  level-there : (f : Fragment) (n : ℕ) → HasTree def (part_at f n) (kinds.Phylum 3) → IsSmallLevel (level_in (tree_at f n))
  level-there f n t = subst (λ o. IsSmallLevel (level_in o)) (sym t.is) (own-level t.tree t.whole)

  text-utf8 : (ps : List Part) → AreParts def (items.Text ∷ []) ps → IsUtf8 (text_in (slice_get ps 0))
  text-utf8 [] h = absurd h
  text-utf8 (parts.Text t ∷ ps) h = h.0
  text-utf8 (parts.Sub t ∷ ps) h = absurd h.0
  text-utf8 (parts.Name n ∷ ps) h = absurd h.0
  text-utf8 (parts.Number v ∷ ps) h = absurd h.0

  own-item : (f : Fragment) → IsWhole def f (kinds.Phylum 4) → IsOwnItem (item_of f)
  own-item f w =
      let r = formed def self f 4 w in subst (λ o. IsOwnItem (item_by o (part_at f 0))) (sym r.form_is) (by-form r.form r.of r.each)
    where
      by-form : (form : Form) → phylum_of form ≡ 4 → AreParts def (items_of form) (node_parts f) → IsOwnItem (item_by (Some form) (part_at f 0))
      by-form forms.Word e h = text-utf8 (node_parts f) h
      by-form forms.Slot e h =
          own-slot (name_at f 0) (name-of (name_at f 0) (name-part def (items_of forms.Slot) (node_parts f) 0 (items.Refers 2) h refl tt))
      by-form forms.Space e h = tt
      by-form forms.Tight e h = tt
      by-form forms.Line e h = tt
      by-form forms.In e h = tt
      by-form forms.Out e h = tt
      by-form _ e h = absurd (omega (arith, e))

  own-row : (f : Fragment) → IsWhole def f (kinds.Phylum 5) → IsOwnLine (row_of f)
  own-row f w = let r = formed def self f 5 w in by-form r.form r.of r.each
    where
      by-form : (form : Form) → phylum_of form ≡ 5 → AreParts def (items_of form) (node_parts f) → IsOwnLine (row_of f)
      by-form forms.Row e h = (
        term-there f 0 (tree-part def (items_of forms.Row) (node_parts f) 0 (kinds.Phylum 6) h refl),
        each-map (λ x. IsWhole def x (kinds.Phylum 6)) IsOwnTerm term_of own-term (elements_at f 1)
            (elements-there f 1 5 6 refl (tree-part def (items_of forms.Row) (node_parts f) 1 (kinds.List 5) h refl)),
      )
      by-form _ e h = absurd (omega (arith, e))

  -- ---- lines

  own-lines : (f : Fragment) → IsWhole def f (kinds.Phylum 0) → AllByRecursion IsOwnLine (lines_of f)
  own-lines f w =
      let r = formed def self f 0 w in subst (λ o. AllByRecursion IsOwnLine (lines_by o f)) (sym r.form_is) (by-form r.form r.of r.each)
    where
      by-form : (form : Form) → phylum_of form ≡ 0 → AreParts def (items_of form) (node_parts f) → AllByRecursion IsOwnLine (lines_by (Some form) f)
      by-form forms.SortLine e h = (
        (
          run-of (name_at f 0) (name-part def (items_of forms.SortLine) (node_parts f) 0 (items.Declares 0) h refl tt),
          each-map (λ x. IsWhole def x (kinds.Phylum 1)) IsOwnConstructor constructor_of own-constructor (elements_at f 1)
              (elements-there f 1 1 1 refl (tree-part def (items_of forms.SortLine) (node_parts f) 1 (kinds.List 1) h refl)),
        ),
        tt,
      )
      by-form forms.PhylumLine e h = (
        (
          run-of (name_at f 0) (name-part def (items_of forms.PhylumLine) (node_parts f) 0 (items.Declares 2) h refl tt),
          run-of (name_at f 1) (name-part def (items_of forms.PhylumLine) (node_parts f) 1 (items.Refers 0) h refl tt),
        ),
        tt,
      )
      by-form forms.BracketedLine e h = (
        (
          run-of (name_at f 0) (name-part def (items_of forms.BracketedLine) (node_parts f) 0 (items.Declares 2) h refl tt),
          run-of (name_at f 1) (name-part def (items_of forms.BracketedLine) (node_parts f) 1 (items.Refers 0) h refl tt),
        ),
        tt,
      )
      by-form forms.OperatorLine e h = (
        (
          run-of (name_at f 0) (name-part def (items_of forms.OperatorLine) (node_parts f) 0 (items.Declares 3) h refl tt),
          run-of (name_at f 1) (name-part def (items_of forms.OperatorLine) (node_parts f) 1 (items.Refers 2) h refl tt),
          refl,
          each-map (λ x. IsWhole def x (kinds.Phylum 4)) IsOwnItem item_of own-item (elements_at f 3)
              (elements-there f 3 3 4 refl (tree-part def (items_of forms.OperatorLine) (node_parts f) 3 (kinds.List 3) h refl)),
          level-there f 2 (tree-part def (items_of forms.OperatorLine) (node_parts f) 2 (kinds.Phylum 3) h refl),
        ),
        each-map (λ x. IsWhole def x (kinds.Phylum 5)) IsOwnLine row_of own-row (elements_at f 4)
            (elements-there f 4 4 5 refl (tree-part def (items_of forms.OperatorLine) (node_parts f) 4 (kinds.List 4) h refl)),
      )
      by-form forms.HoleLine e h = (
        (
          run-of (name_at f 0) (name-part def (items_of forms.HoleLine) (node_parts f) 0 (items.Refers 2) h refl tt),
          term-there f 1 (tree-part def (items_of forms.HoleLine) (node_parts f) 1 (kinds.Phylum 6) h refl),
          tree-there f 2 (tree-part def (items_of forms.HoleLine) (node_parts f) 2 (kinds.Phylum 7) h refl),
        ),
        tt,
      )
      by-form _ e h = absurd (omega (arith, e))

  all-append : (P : Line → Type 0) (xs ys : List Line) → AllByRecursion P xs → AllByRecursion P ys → AllByRecursion P (xs ++ ys)
  all-append P [] ys h k = k
  all-append P (x ∷ xs) ys h k = (h.0, all-append P xs ys h.1 k)

  all-lines : (es : List Fragment) → AllByRecursion (λ e. IsWhole def e (kinds.Phylum 0)) es → AllByRecursion IsOwnLine (flat_map lines_of es)
  all-lines [] h = tt
  all-lines (e ∷ es) h = all-append IsOwnLine (lines_of e) (flat_map lines_of es) (own-lines e h.0) (all-lines es h.1)

  pub tree-lines : (f : Fragment) → IsWhole def f (kinds.List 0) → AllByRecursion IsOwnLine (lines_in f)
  tree-lines f w = all-lines (elements_of f) (elements-whole def 0 0 (element-at 0 0 refl) f w.fits w.plain w.complete)
