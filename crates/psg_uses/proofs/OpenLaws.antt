-- Lists that may still declare, part by part and element by element.
use Rattle.std.proofs.Common.{◌≡◌, inl, inr, ℕ, zero, suc, ◌+◌, ◌<◌, ◌≤◌, ◌==◌, ◌||◌, ◌&&◌, Bool, true, false, List, [], ◌∷◌, length, drop, get_or, slice_get, Some, None, refl, ap, sym, ◌∙◌, subst, arith, true≢false}
use Rattle.std.specs.Prelude.{Contains, Vec}
use Rattle.std.specs.List.{list_any}
use Rattle.std.specs.declared.alloc.Global.{Global}
use Rattle.std.proofs.Math.Bool.{or_assoc, or-false}
use Rattle.std.proofs.lemmas.Bool.{eq-eqb, eqb-true, false_from_ne_true, or_cases, or_left, or_right}
use Rattle.std.proofs.lemmas.List.{drop_all}
use Rattle.std.proofs.lemmas.Option.{none-some}
use Rattle.psg_terms.proofs.Lists.{drop_item, slice_get_once, slice_get_some}
use Rattle.psg_grammar.specs.declared.types.Definition.{Definition}
use Rattle.psg_grammar.specs.declared.types.Kind.TheVariants as kinds
use Rattle.psg_grammar.specs.declared.types.ListKind.{ListKind}
use Rattle.psg_grammar.specs.Declaring.{Declares, by_list, is_declaring}
use Rattle.psg_grammar.specs.Fragments.{Fragment, operator}
use Rattle.psg_grammar.specs.Regions.{unfinished_inside}
use Rattle.psg_grammar.specs.Sound.{IsSound}
use Rattle.psg_grammar.proofs.DeclaringLaws.{search_exact}
use Rattle.psg_grammar.proofs.SoundParts.{elements_in}
use Rattle.psg_eval.specs.SpaceTables.{AreDeclaringSpaces}
use Rattle.psg_tree.specs.declared.tree.Part.{Part}
use Rattle.psg_tree.specs.declared.tree.Part.TheVariants.{Sub, Name, Number, Text}
use Rattle.psg_tree.specs.Shapes.{list_of, with_part, with_parts}
use Rattle.psg_places.proofs.SpaceLaws.{same_bool}
use Rattle.psg_uses.specs.ByParts.{has_number, has_number_in, has_space, unfinished_below, unfinished_part}

-- ---- a search for one that passes

module _ {X : Type 0} (P : X → Bool) where
  pub any_next : (xs : List X) (i : ℕ) (x : X) (b : Bool) → i < length xs → x ≡ get_or xs i x → b ≡ P x → b ≡ false
      → list_any P (drop i xs) ≡ list_any P xs → list_any P (drop (i + 1) xs) ≡ list_any P xs
  any_next xs i x b lt at is off h =
      sym (ap (λ c. c || list_any P (drop (i + 1) xs)) (sym is ∙ off)) ∙ sym (ap (list_any P) (drop_item xs i x lt at)) ∙ h

  pub any_here : (xs : List X) (i : ℕ) (x : X) (b : Bool) → i < length xs → x ≡ get_or xs i x → b ≡ P x → b ≡ true
      → list_any P (drop i xs) ≡ list_any P xs → true ≡ list_any P xs
  any_here xs i x b lt at is on h =
      sym (ap (λ c. c || list_any P (drop (i + 1) xs)) (sym is ∙ on)) ∙ sym (ap (list_any P) (drop_item xs i x lt at)) ∙ h

  pub any_none : (xs : List X) (i : ℕ) → length xs ≤ i → list_any P (drop i xs) ≡ list_any P xs → false ≡ list_any P xs
  any_none xs i le h = sym (ap (list_any P) (drop_all i xs le)) ∙ h

-- ---- the parts of an operator, the elements of a list

module _ (def : Definition) (s : ℕ) where
  part_open : (f : Fragment) (p : Part) → unfinished_inside def s (with_part f p)
      ≡ (unfinished_inside def s f || unfinished_part def s p)
  part_open f (Sub t) = refl
  part_open f (Name x) = sym (or-false (unfinished_inside def s f))
  part_open f (Number x) = sym (or-false (unfinished_inside def s f))
  part_open f (Text x) = sym (or-false (unfinished_inside def s f))

  parts_open : (f : Fragment) (ps : List Part) → unfinished_inside def s (with_parts f ps)
      ≡ (unfinished_inside def s f || list_any (unfinished_part def s) ps)
  parts_open f [] = sym (or-false (unfinished_inside def s f))
  parts_open f (p ∷ ps) =
      parts_open (with_part f p) ps ∙ ap (λ b. b || list_any (unfinished_part def s) ps) (part_open f p)
      ∙ or_assoc (unfinished_inside def s f) (unfinished_part def s p) (list_any (unfinished_part def s) ps)

  pub op_open : (o : ℕ) (ps : List Part) → list_any (unfinished_part def s) ps ≡ unfinished_inside def s (with_parts (operator o) ps)
  op_open o ps = sym (parts_open (operator o) ps)

  pub list_open : (l : ℕ) (es : List Fragment) (u : Bool)
      → (list_any (unfinished_below def s) es || (u && is_declaring def s (kinds.List l))) ≡ unfinished_inside def s (list_of l es u)
  list_open l [] u = refl
  list_open l (e ∷ es) u =
      or_assoc (unfinished_below def s e) (list_any (unfinished_below def s) es) (u && is_declaring def s (kinds.List l))
      ∙ ap (λ b. unfinished_below def s e || b) (list_open l es u)

-- ---- the table of the spaces in which phyla declare

number_there : (xs : List ℕ) (s : ℕ) → Contains xs s → has_number xs s ≡ true
number_there [] s (i, lt, e) = absurd (omega (arith, lt))
number_there (x ∷ xs) s (zero, lt, e) = or_left (x == s) (has_number xs s) (eq-eqb x s e)
number_there (x ∷ xs) s (suc i, lt, e) = or_right (x == s) (has_number xs s) (number_there xs s (i, omega (arith, lt), e))

there_number : (xs : List ℕ) (s : ℕ) → has_number xs s ≡ true → Contains xs s
there_number [] s h = absurd (true≢false (sym h))
there_number (x ∷ xs) s h = elim (or_cases (x == s) (has_number xs s) h) [
  | inl e ↦ (zero, omega arith, eqb-true x s e)
  | inr r ↦ let (i, lt, at) = there_number xs s r in (suc i, omega (arith, lt), at)
]

element_declares : (def : Definition) (s l : ℕ) (k : ListKind) → slice_get def.lists l ≡ Some k → Declares def s (kinds.List l)
    → Declares def s (kinds.Phylum k.element)
element_declares def s l k at (by_list kind is d) =
    subst (λ c. Declares def s (kinds.Phylum c.element)) (slice_get_once def.lists l kind k is at) d

no_kind : (def : Definition) (s l : ℕ) → slice_get def.lists l ≡ None → Declares def s (kinds.List l) → ⊥
no_kind def s l at (by_list kind is d) = none-some kind (sym at ∙ is)

module _ (def : Definition) (sound : IsSound def) (table : List (Vec ℕ Global)) (h : AreDeclaringSpaces def table) (s : ℕ) where
  pub table_has : (l : ℕ) (k : ListKind) → slice_get def.lists l ≡ Some k → has_space table k.element s ≡ is_declaring def s (kinds.List l)
  table_has l k at =
      let (v, there) = slice_get_some table k.element (subst (λ n. k.element < n) (sym h.one_each) (elements_in def sound l k at)) in
      let of = h.exact k.element v there in
      ap (λ o. has_number_in o s) there
      ∙ same_bool (has_number v.items s) (is_declaring def s (kinds.List l))
      (λ t. (search_exact def sound s (kinds.List l)).1 (by_list k at ((of.exact s).0 (there_number v.items s t))))
      (λ t. number_there v.items s ((of.exact s).1 (element_declares def s l k at ((search_exact def sound s (kinds.List l)).0 t))))

  pub table_has_not : (l : ℕ) → slice_get def.lists l ≡ None → false ≡ is_declaring def s (kinds.List l)
  table_has_not l at =
      sym (false_from_ne_true (is_declaring def s (kinds.List l)) (λ t. no_kind def s l at ((search_exact def sound s (kinds.List l)).0 t)))
