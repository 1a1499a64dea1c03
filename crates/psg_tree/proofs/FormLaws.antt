-- Well-formed trees by their parts and elements.
use Rattle.std.proofs.Common.{◌≡◌, inl, inr, ℕ, ◌<◌, ◌≤◌, ◌==◌, Bool, true, false, not, List, [], ◌∷◌, ◌++◌, length, drop, get_or, Option, Some, None, Bor, slice_get, refl, ap, sym, ◌∙◌, subst, arith, true≢false}
use Rattle.std.specs.List.{AllByRecursion}
use Rattle.std.specs.Slice.{IsGetResult}
use Rattle.std.proofs.lemmas.Bool.Decides.{eqb_tells}
use Rattle.std.proofs.lemmas.List.{append-nil, drop_all, length-drop}
use Rattle.std.proofs.lemmas.Option.{slice_get_within, get_or_from_slice_get, none-some}
use Rattle.psg_terms.proofs.Lists.{got_some}
use Rattle.psg_grammar.specs.declared.types.Kind.{Kind}
use Rattle.psg_grammar.specs.declared.types.Kind.TheVariants as kinds
use Rattle.psg_grammar.specs.declared.types.Item.{Item}
use Rattle.psg_grammar.specs.declared.types.Item.TheVariants as items
use Rattle.psg_grammar.specs.declared.types.ListKind.{ListKind}
use Rattle.psg_grammar.specs.declared.types.Operator.{Operator}
use Rattle.psg_grammar.specs.declared.types.Definition.{Definition}
use Rattle.psg_grammar.specs.Fragments.{Fragment, hole, operator, with_child, with_name, with_number, with_text}
use Rattle.psg_grammar.specs.Lookups.{part_items}
use Rattle.psg_grammar.specs.Declaring.{Declares, is_declaring}
use Rattle.psg_grammar.specs.Sound.{IsSound}
use Rattle.psg_grammar.specs.WellFormed.{Fits, IsPlain, WellFormed, IsUnobserved}
use Rattle.psg_grammar.proofs.DeclaringLaws.{found_declares, declares_found}
use Rattle.psg_tree.specs.declared.tree.Part.{Part}
use Rattle.psg_tree.specs.declared.tree.Part.TheVariants.{Sub, Name, Number, Text}
use Rattle.psg_tree.specs.Shapes.{with_part, with_parts, list_of}
use Rattle.psg_tree.specs.Reaching.{PhylumDeclares}
use Rattle.psg_tree.specs.Forms.{PartFits, PartsFit}

module _ (def : Definition) where
  -- the parts of a node are those of some items
  pub parts_fitting : (f : Fragment) (ps : List Part) (more : List Item) (kind : Kind) → Fits def (with_parts f ps) more kind → IsPlain (with_parts f ps)
      → (is : List Item) × Fits def f (is ++ more) kind × IsPlain f × PartsFit def ps is
  parts_fitting f [] more kind h p = ([], h, p, tt)
  parts_fitting f (Sub t ∷ ps) more kind h p =
      let (is, (k, ff, ft), (pf, pt), fit) = parts_fitting (with_child f t) ps more kind h p in (items.Slot k ∷ is, ff, pf, ((ft, pt), fit))
  parts_fitting f (Name n ∷ ps) more kind h p =
      let (is, (either, name), pf, fit) = parts_fitting (with_name f n) ps more kind h p in
      elim either [
        | inl r ↦ (items.Refers r.0 ∷ is, r.1, pf, (name, fit))
        | inr r ↦ (items.Declares r.0 ∷ is, r.1, pf, (name, fit))
      ]
  parts_fitting f (Number n ∷ ps) more kind h p =
      let (is, (ff, small), pf, fit) = parts_fitting (with_number f n) ps more kind h p in (items.Number ∷ is, ff, pf, (small, fit))
  parts_fitting f (Text t ∷ ps) more kind h p =
      let (is, (ff, text), pf, fit) = parts_fitting (with_text f t) ps more kind h p in (items.Text ∷ is, ff, pf, (text, fit))

  part_of_item : (f : Fragment) (p : Part) (i : Item) (rest : List Item) (kind : Kind) → Fits def f (i ∷ rest) kind → IsPlain f → PartFits def p i → Fits def (with_part f p) rest kind × IsPlain (with_part f p)
  part_of_item f (Sub t) (items.Slot k) rest kind h p q = ((k, h, q.0), (p, q.1))
  part_of_item f (Name n) (items.Refers s) rest kind h p q = ((inl (s, h), q), p)
  part_of_item f (Name n) (items.Declares s) rest kind h p q = ((inr (s, h), q), p)
  part_of_item f (Number n) items.Number rest kind h p q = ((h, q), p)
  part_of_item f (Text t) items.Text rest kind h p q = ((h, q), p)
  part_of_item f (Sub t) _ rest kind h p q = absurd q
  part_of_item f (Name n) _ rest kind h p q = absurd q
  part_of_item f (Number n) _ rest kind h p q = absurd q
  part_of_item f (Text t) _ rest kind h p q = absurd q

  -- a node with the parts of the items
  pub fitting_parts : (f : Fragment) (ps : List Part) (is more : List Item) (kind : Kind) → Fits def f (is ++ more) kind → IsPlain f → PartsFit def ps is → Fits def (with_parts f ps) more kind × IsPlain (with_parts f ps)
  fitting_parts f [] [] more kind h p q = (h, p)
  fitting_parts f [] (i ∷ is) more kind h p q = absurd q
  fitting_parts f (x ∷ ps) [] more kind h p q = absurd q
  fitting_parts f (x ∷ ps) (i ∷ is) more kind h p q =
      let r = part_of_item f x i (is ++ more) kind h p q.0 in
      fitting_parts (with_part f x) ps is more kind r.0 r.1 q.1

  -- an operator's parts are those of its items
  pub operator_parts : (o : ℕ) (op : Operator) (ps : List Part) (kind : Kind) → slice_get def.operators o ≡ Some op → WellFormed def (with_parts (operator o) ps) kind
      → (kind ≡ kinds.Phylum op.phylum) × PartsFit def ps (part_items op.items)
  operator_parts o op ps kind e w =
      let (is, (other, at, all, same), p, fit) = parts_fitting (operator o) ps [] kind w.0 w.1 in
      let is_op : other ≡ op = same_some other op (sym at ∙ e) in (
        same ∙ ap (λ (x : Operator). kinds.Phylum x.phylum) is_op,
        subst (PartsFit def ps) (sym (append-nil is) ∙ all ∙ ap (λ (x : Operator). part_items x.items) is_op) fit,
      ) where
        same_some : (a b : Operator) → Some a ≡ Some b → a ≡ b
        same_some a b e = cc

  pub operator_of_parts : (o : ℕ) (op : Operator) (ps : List Part) (kind : Kind) → slice_get def.operators o ≡ Some op → kind ≡ kinds.Phylum op.phylum → PartsFit def ps (part_items op.items)
      → WellFormed def (with_parts (operator o) ps) kind
  operator_of_parts o op ps kind e k fit = fitting_parts (operator o) ps (part_items op.items) [] kind (op, e, append-nil (part_items op.items), k) tt fit

  pub no_operator : (o : ℕ) (ps : List Part) (kind : Kind) → slice_get def.operators o ≡ None → WellFormed def (with_parts (operator o) ps) kind → ⊥
  no_operator o ps kind e w =
      let (is, (other, at, all, same), p, fit) = parts_fitting (operator o) ps [] kind w.0 w.1 in
      none-some other (sym e ∙ at)

  -- a list's elements are trees of its element phylum
  abbrev pub AreElements : ℕ → List Fragment → Type 0
  AreElements p es = AllByRecursion (λ e. WellFormed def e (kinds.Phylum p)) es

  same_list : (a b : ListKind) → Some a ≡ Some b → a ≡ b
  same_list a b e = cc

  pub list_parts : (l : ℕ) (own : ListKind) (es : List Fragment) (u : Bool) (kind : Kind) → slice_get def.lists l ≡ Some own → WellFormed def (list_of l es u) kind
      → (kind ≡ kinds.List l) × (u ≡ true → own.unfinished ≡ true) × AreElements own.element es
  list_parts l own [] u kind e w = (w.0.1, λ t. ap (λ (x : ListKind). x.unfinished) (sym (same_list w.0.2.0 own (sym w.0.2.1 ∙ e))) ∙ w.0.2.2 t, tt)
  list_parts l own (x ∷ es) u kind e w =
      let (nil, same, k, at, fe, fr, un) = w.0 in
      let r = list_parts l own es u (kinds.List l) e (fr, w.1.1) in
      (same, r.1, ((subst (λ (y : ListKind). Fits def x [] (kinds.Phylum y.element)) (same_list k own (sym at ∙ e)) fe, w.1.0), r.2))

  unobserved : (l : ℕ) (es : List Fragment) (u : Bool) → IsUnobserved (list_of l es u)
  unobserved l [] u = tt
  unobserved l (x ∷ es) u = tt

  pub list_of_parts : (l : ℕ) (own : ListKind) (es : List Fragment) (u : Bool) (kind : Kind) → slice_get def.lists l ≡ Some own → kind ≡ kinds.List l → (u ≡ true → own.unfinished ≡ true) → AreElements own.element es
      → WellFormed def (list_of l es u) kind
  list_of_parts l own [] u kind e k end h = ((refl, k, (own, e, end)), tt)
  list_of_parts l own (x ∷ es) u kind e k end h =
      let r = list_of_parts l own es u (kinds.List l) e refl end h.1 in
      ((refl, k, own, e, h.0.0, r.0, unobserved l es u), (h.0.1, r.1))

  pub no_list : (l : ℕ) (es : List Fragment) (u : Bool) (kind : Kind) → slice_get def.lists l ≡ None → WellFormed def (list_of l es u) kind → ⊥
  no_list l [] u kind e w = let k = w.0.2 in none-some k.0 (sym e ∙ k.1)
  no_list l (x ∷ es) u kind e w = none-some w.0.2 (sym e ∙ w.0.3)

  -- a placeholder's phylum is there and declares nothing
  pub hole_of : IsSound def → (p : ℕ) (kind : Kind) (r : Bool) → (r ≡ true → PhylumDeclares def p) × (PhylumDeclares def p → r ≡ true) → kind ≡ kinds.Phylum p → p < length def.phyla
      → (not r ≡ true → WellFormed def (hole p) kind) × (WellFormed def (hole p) kind → not r ≡ true)
  hole_of sound p kind r d k h = (
    λ n. ((refl, k, h, λ s. quiet n s (is_declaring def s kind) refl), tt),
    λ w. loud r (λ t. let x = d.0 t in true≢false (sym (declares_found def sound x.0 kind (subst (Declares def x.0) (sym k) x.1)) ∙ w.0.3 x.0)),
  ) where
    loud : (b : Bool) → (b ≡ true → ⊥) → not b ≡ true
    loud true n = absurd (n refl)
    loud false n = refl

    quiet : not r ≡ true → (s : ℕ) (b : Bool) → is_declaring def s kind ≡ b → is_declaring def s kind ≡ false
    quiet n s false e = e
    quiet n s true e = absurd (true≢false (sym n ∙ ap not (d.1 (s, subst (Declares def s) k (found_declares def s kind e)))))

  -- no item is left
  pub parts_end : (ps : List Part) (n : ℕ) → n ≤ length ps → (n == length ps ≡ true → PartsFit def (drop n ps) []) × (PartsFit def (drop n ps) [] → n == length ps ≡ true)
  parts_end ps n h = (
    λ e. subst (λ xs. PartsFit def xs []) (sym (drop_all n ps (at_end e))) tt,
    λ f. elim (eqb_tells n (length ps)) [ inl q ↦ q.0 | inr q ↦ absurd (left (drop n ps) f (omega (arith, length-drop n ps, h, q.1))) ],
  ) where
    at_end : n == length ps ≡ true → length ps ≤ n
    at_end e = elim (eqb_tells n (length ps)) [ inl q ↦ omega (arith, q.1) | inr q ↦ absurd (true≢false (sym e ∙ q.0)) ]

    left : (xs : List Part) → PartsFit def xs [] → 0 < length xs → ⊥
    left [] f h = absurd (omega (arith, h))
    left (x ∷ xs) f h = f

-- the part at a number is among them
pub part_at : (ps : List Part) (i : ℕ) (r : Option (Bor Part)) (x : Bor Part) → IsGetResult ps i i r → r ≡ Some x → (i < length ps) × (x.now ≡ get_or ps i x.now)
part_at ps i r x h e = let g = got_some ps i r x h e in (slice_get_within ps i x.now g, sym (get_or_from_slice_get ps i x.now x.now g))
