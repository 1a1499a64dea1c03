-- A specimen as it is written has the form and the depths that it has in the file, and the terms of its hole places.
use Rattle.std.proofs.Common.{◌≡◌, ℕ, ◌+◌, ◌<◌, ◌≤◌, ◌^◌, max, true, List, [], ◌∷◌, Option, Some, None, refl, ap₂, sym, ◌∙◌, subst, ◌++◌, map, ap, append-nil, append_assoc}
use Rattle.std.specs.Prelude.{decimal}
use Rattle.std.specs.List.{AllByRecursion}
use Rattle.psg_terms.specs.Names.{Name}
use Rattle.psg_grammar.specs.declared.types.Kind.{Kind}
use Rattle.psg_grammar.specs.declared.types.Kind.TheVariants as kinds
use Rattle.psg_grammar.specs.declared.types.Item.{Item}
use Rattle.psg_grammar.specs.declared.types.Item.TheVariants as made
use Rattle.psg_grammar.specs.declared.types.Phylum.{Phylum}
use Rattle.psg_grammar.specs.declared.types.ListKind.{ListKind}
use Rattle.psg_grammar.specs.declared.types.Operator.{Operator}
use Rattle.psg_grammar.specs.declared.types.SpecimenHole.{SpecimenHole}
use Rattle.psg_grammar.specs.declared.types.SpecimenPart.{SpecimenPart, Sub, Name as NamePart, Number, Text}
use Rattle.psg_grammar.specs.declared.types.Specimen.{Specimen, Op', List', Hole, Row_of-Specimen, end_of-Specimen, more_of-Specimen, Row_of-SpecimenPart, end_of-SpecimenPart, more_of-SpecimenPart}
use Rattle.psg_grammar.specs.declared.types.Definition.{Definition}
use Rattle.psg_grammar.specs.Lookups.{part_items}
use Rattle.psg_grammar.specs.Sound.{IsKindName, IsOwnName}
use Rattle.psg_lexis.specs.Tokens.{value_of}
use Rattle.psg_lexis.proofs.Decimals.{decimal-value}
use Rattle.psg_deflines.specs.WrittenTerms.{WrittenTerm, IsShallowTerm, most_nested}
use Rattle.psg_deflines.specs.WrittenTrees.{WrittenTree, operator, with_tree, with_name, with_number, with_text, list_end, list_rest, element, place, is_front, is_list, HasTreeForm, tree_depth, place_terms, IsShallowTree}
use Rattle.psg_defnumber.specs.Numbers.{IsKind, IsPlace, IsTree, IsPart, AreParts, IsListFrom}
use Rattle.psg_defread.specs.WrittenLines.{term_written, kind_name, operator_name, tree_written, part_written, parts_written, elements_written, end_written}
use Rattle.psg_defread.proofs.NumberAll.{all-front, all-behind}
use Rattle.psg_defread.proofs.NumberNames.{name-found}
use Rattle.psg_defread.proofs.FormTerms.{number-spelled, IsNamedSymbol, IsKeptTerm, term-kept, shallow-kept}
use Rattle.std.proofs.lemmas.List.{map-append}
use Rattle.psg_terms.proofs.Lists.{each_append}
use Rattle.psg_terms.specs.Terms.{Term}
use Rattle.psg_grammar.specs.Specimens.{holes_of, holes_of_part, holes_of_row, holes_of_list}

-- a kind is written by the name that it has in the file
pub kind-named : (def : Definition) (n : Name) (kind : Kind) → IsKind def n kind → kind_name def kind ≡ n
kind-named def n (kinds.Phylum p) (k, at, name) = name-found (λ (x : Phylum). x.name) def.phyla p k at ∙ name
kind-named def n (kinds.List l) (k, at, name) = name-found (λ (x : ListKind). x.name) def.lists l k at ∙ name

abbrev ArePlacesShallow : WrittenTree → Type 0
ArePlacesShallow w = AllByRecursion IsShallowTerm (place_terms w)

-- the second tree keeps what is said of the first
pub record IsKeptTree (w v : WrittenTree) : Type 0 where
  pub form : HasTreeForm w → HasTreeForm v
  pub depth : tree_depth v ≡ tree_depth w
  pub places : AllByRecursion IsShallowTerm (place_terms w) → AllByRecursion IsShallowTerm (place_terms v)

pub tree-shallow-kept : (w v : WrittenTree) → IsKeptTree w v → IsShallowTree w → IsShallowTree v
tree-shallow-kept w v k h =
    record { tree = subst (λ n. n ≤ most_nested) (sym k.depth) h.tree; terms = k.places h.terms }

-- the same where parts make the first whole of one front, and the second of another
record ArePartsKept (front whole now then : WrittenTree) : Type 0 where
  form : HasTreeForm whole → HasTreeForm front × (HasTreeForm now → is_front now ≡ true → HasTreeForm then)
  fronts : is_front now ≡ true → is_front then ≡ true
  depth : tree_depth now ≡ tree_depth front → tree_depth then ≡ tree_depth whole
  places : ArePlacesShallow whole → ArePlacesShallow front × (ArePlacesShallow now → ArePlacesShallow then)

parts-join : (front next whole now mid then : WrittenTree) → ArePartsKept front next now mid
    → ArePartsKept next whole mid then → ArePartsKept front whole now then
parts-join front next whole now mid then p r = record {
  form = λ h.
      (let behind = r.form h in
      let first = p.form behind.0 in
      (first.0, λ f is. behind.1 (first.1 f is) (p.fronts is)));
  fronts = λ is. r.fronts (p.fronts is);
  depth = λ e. r.depth (p.depth e);
  places = λ h.
      (let behind = r.places h in
      let first = p.places behind.0 in
      (first.0, λ s. behind.1 (first.1 s)));
}

-- ---- one part

sub-kept : (front now t v : WrittenTree) → IsKeptTree t v → ArePartsKept front (with_tree front t) now (with_tree now v)
sub-kept front now t v k = record {
  form = λ h. (h.1, λ f is. (is, f, k.form h.2));
  fronts = λ is. refl;
  depth = λ e. ap₂ (λ m n. max m (n + 1)) e k.depth;
  places = λ h. (
    all-front IsShallowTerm (place_terms front) (place_terms t) h,
    λ s. each_append IsShallowTerm (place_terms now) (place_terms v) s
        (k.places (all-behind IsShallowTerm (place_terms front) (place_terms t) h)),
  );
}

name-kept : (front now : WrittenTree) (n : Name) → ArePartsKept front (with_name front n) now (with_name now n)
name-kept front now n = record {
  form = λ h. (h.1, λ f is. (is, f, h.2));
  fronts = λ is. refl;
  depth = λ e. e;
  places = λ h. (h, λ s. s);
}

number-kept : (front now : WrittenTree) (digits : List ℕ) (v : ℕ) → value_of digits ≡ v
    → ArePartsKept front (with_number front digits) now (with_number now (decimal v))
number-kept front now digits v value = record {
  form = λ h. (h.1, λ f is. (is, f, number-spelled v, small h.3));
  fronts = λ is. refl;
  depth = λ e. e;
  places = λ h. (h, λ s. s);
}
  where
    small : value_of digits < 2 ^ 128 → value_of (decimal v) < 2 ^ 128
    small h =
        let limit : v < 2 ^ 128 = subst (λ n. n < 2 ^ 128) value h in
        subst (λ n. n < 2 ^ 128) (sym (decimal-value v limit)) limit

text-kept : (front now : WrittenTree) (t : List ℕ) → ArePartsKept front (with_text front t) now (with_text now t)
text-kept front now t = record {
  form = λ h. (h.1, λ f is. (is, f, h.2));
  fronts = λ is. refl;
  depth = λ e. e;
  places = λ h. (h, λ s. s);
}

no-parts : (front now : WrittenTree) → ArePartsKept front front now now
no-parts front now =
    record { form = λ h. (h, λ f is. f); fronts = λ is. is; depth = λ e. e; places = λ h. (h, λ s. s) }

-- ---- places and elements

element-kept : (e r v u : WrittenTree) → IsKeptTree e v → IsKeptTree r u → is_list u ≡ true
    → IsKeptTree (element e r) (element v u)
element-kept e r v u k l list = record {
  form = λ h. (list, k.form h.1, l.form h.2);
  depth = ap₂ (λ m n. max (m + 1) n) k.depth l.depth;
  places = λ h. each_append IsShallowTerm (place_terms v) (place_terms u)
      (k.places (all-front IsShallowTerm (place_terms e) (place_terms r) h))
      (l.places (all-behind IsShallowTerm (place_terms e) (place_terms r) h));
}

place-kept : (n m : Name) (t u : WrittenTerm) → m ≡ n → IsKeptTerm t u → IsKeptTree (place n t) (place m u)
place-kept n m t u same k = record {
  form = λ h. (subst IsKindName (sym same) h.0, k.form h.1);
  depth = refl;
  places = λ h. (shallow-kept t u k h.0, tt);
}

rest-kept : (n m : Name) (t u : WrittenTerm) → m ≡ n → IsKeptTerm t u → IsKeptTree (list_rest n t) (list_rest m u)
rest-kept n m t u same k = record {
  form = λ h. (subst IsKindName (sym same) h.0, k.form h.1);
  depth = refl;
  places = λ h. (shallow-kept t u k h.0, tt);
}

-- an operator of the name in the file with its parts
operator-kept : (n m : Name) (w v : WrittenTree) → m ≡ n → ArePartsKept (operator n) w (operator m) v → IsKeptTree w v
operator-kept n m w v same all = record {
  form = λ h. (let both = all.form h in both.1 (subst IsOwnName (sym same) both.0) refl);
  depth = all.depth refl;
  places = λ h. (all.places h).1 tt;
}

module _ (def : Definition) (own : AllByRecursion IsNamedSymbol def.signature.symbols) (names : List Name) where
  hole-term : (n : Name) (t : WrittenTerm) (h : SpecimenHole) → IsPlace def names n t h
      → IsKeptTerm t (term_written def h.term)
  hole-term n t h p = term-kept def own names t [] p.sort h.term p.of_term

  end-kept : (l : ℕ) (rest : Option SpecimenHole) (w : WrittenTree)
      → IsListFrom def names l end_of-Specimen rest w → IsKeptTree w (end_written def rest)
  end-kept l None w e =
      subst (λ v. IsKeptTree v list_end) (sym e) (record { form = λ h. tt; depth = refl; places = λ h. tt })
  end-kept l (Some h) w (n, t, of, p, e) =
      subst (λ v. IsKeptTree v (end_written def (Some h))) (sym e)
      (rest-kept n (kind_name def h.kind) t (term_written def h.term) (kind-named def n h.kind p.of_kind)
      (hole-term n t h p))

  elements-list : {m : _} (elements : Row_of-Specimen m) (rest : Option SpecimenHole)
      → is_list (elements_written def elements (end_written def rest)) ≡ true
  elements-list end_of-Specimen None = refl
  elements-list end_of-Specimen (Some h) = refl
  elements-list (more_of-Specimen s elements) rest = refl

  mutual
    pub tree-kept : (s : Specimen) (kind : Kind) (w : WrittenTree) → IsTree def names kind s w
        → IsKeptTree w (tree_written def s)
    tree-kept (Op' o shape parts) kind w (n, op, (at, name), of, h) =
        let all = parts-kept (part_items op.items) parts (operator n) (operator (operator_name def o)) w h in
        let same = name-found (λ (x : Operator). x.name) def.operators o op at ∙ name in
        operator-kept n (operator_name def o) w (parts_written def (operator (operator_name def o)) parts) same all
    tree-kept (List' l shape elements rest) kind w (is, h) = elements-kept l elements rest w h
    tree-kept (Hole h) kind w (n, t, of, p, e) =
        subst (λ v. IsKeptTree v (tree_written def (Hole h))) (sym e)
        (place-kept n (kind_name def h.kind) t (term_written def h.term) (kind-named def n h.kind p.of_kind)
        (hole-term n t h p))

    part-kept : (i : Item) (p : SpecimenPart) (front now next : WrittenTree) → IsPart def names i p front next
        → ArePartsKept front next now (part_written def now p)
    part-kept (made.Slot k) (Sub s) front now next (t, h, e) =
        subst (λ w. ArePartsKept front w now (with_tree now (tree_written def s))) (sym e)
        (sub-kept front now t (tree_written def s) (tree-kept s k t h))
    part-kept (made.Refers x) (NamePart n) front now next e =
        subst (λ w. ArePartsKept front w now (with_name now n)) (sym e) (name-kept front now n)
    part-kept (made.Declares x) (NamePart n) front now next e =
        subst (λ w. ArePartsKept front w now (with_name now n)) (sym e) (name-kept front now n)
    part-kept made.Number (Number v) front now next (digits, value, e) =
        subst (λ w. ArePartsKept front w now (with_number now (decimal v))) (sym e)
        (number-kept front now digits v value)
    part-kept made.Text (Text t) front now next e =
        subst (λ w. ArePartsKept front w now (with_text now t)) (sym e) (text-kept front now t)
    part-kept _ _ front now next h = absurd h

    parts-kept : {m : _} (wanted : List Item) (parts : Row_of-SpecimenPart m) (front now w : WrittenTree)
        → AreParts def names wanted parts front w → ArePartsKept front w now (parts_written def now parts)
    parts-kept [] end_of-SpecimenPart front now w e =
        subst (λ v. ArePartsKept front v now now) (sym e) (no-parts front now)
    parts-kept [] (more_of-SpecimenPart p rest) front now w h = absurd h
    parts-kept (i ∷ wanted) end_of-SpecimenPart front now w h = absurd h
    parts-kept (i ∷ wanted) (more_of-SpecimenPart p rest) front now w (next, h, hs) =
        let mid = part_written def now p in
        parts-join front next w now mid (parts_written def mid rest) (part-kept i p front now next h)
        (parts-kept wanted rest next mid w hs)

    elements-kept : {m : _} (l : ℕ) (elements : Row_of-Specimen m) (rest : Option SpecimenHole) (w : WrittenTree)
        → IsListFrom def names l elements rest w
        → IsKeptTree w (elements_written def elements (end_written def rest))
    elements-kept l end_of-Specimen rest w h = end-kept l rest w h
    elements-kept l (more_of-Specimen s elements) rest w (list, e, r, at, h, hs, is) =
        let first = tree-kept s (kinds.Phylum list.element) e h in
        let behind = elements-kept l elements rest r hs in
        let v = tree_written def s in
        let u = elements_written def elements (end_written def rest) in
        subst (λ x. IsKeptTree x (element v u)) (sym is)
        (element-kept e r v u first behind (elements-list elements rest))

-- ---- the terms of hole places

abbrev hole_terms : List SpecimenHole → List Term
hole_terms hs = map (λ (h : SpecimenHole). h.term) hs

module _ (def : Definition) where
  abbrev written_holes : List SpecimenHole → List WrittenTerm
  written_holes hs = map (term_written def) (hole_terms hs)

  holes-append : (xs ys : List SpecimenHole) → written_holes (xs ++ ys) ≡ written_holes xs ++ written_holes ys
  holes-append xs ys =
      ap (map (term_written def)) (map-append (λ (h : SpecimenHole). h.term) xs ys)
      ∙ map-append (term_written def) (hole_terms xs) (hole_terms ys)

  end-places : (rest : Option SpecimenHole)
      → place_terms (end_written def rest) ≡ written_holes (holes_of_list end_of-Specimen rest)
  end-places None = refl
  end-places (Some h) = refl

  mutual
    tree-places : (s : Specimen) → place_terms (tree_written def s) ≡ written_holes (holes_of s)
    tree-places (Op' o shape parts) = parts-places (operator (operator_name def o)) parts
    tree-places (List' l shape elements rest) = elements-places elements rest
    tree-places (Hole h) = refl

    part-places : (front : WrittenTree) (p : SpecimenPart)
        → place_terms (part_written def front p) ≡ place_terms front ++ written_holes (holes_of_part p)
    part-places front (Sub s) = ap (λ ts. place_terms front ++ ts) (tree-places s)
    part-places front (NamePart n) = sym (append-nil (place_terms front))
    part-places front (Number v) = sym (append-nil (place_terms front))
    part-places front (Text t) = sym (append-nil (place_terms front))

    parts-places : {m : _} (front : WrittenTree) (parts : Row_of-SpecimenPart m)
        → place_terms (parts_written def front parts) ≡ place_terms front ++ written_holes (holes_of_row parts)
    parts-places front end_of-SpecimenPart = sym (append-nil (place_terms front))
    parts-places front (more_of-SpecimenPart p rest) =
        let behind = parts-places (part_written def front p) rest in
        let first = ap (λ ts. ts ++ written_holes (holes_of_row rest)) (part-places front p) in
        let grouped = append_assoc (place_terms front) (written_holes (holes_of_part p))
        (written_holes (holes_of_row rest)) in
        let joined = ap (λ ts. place_terms front ++ ts) (sym (holes-append (holes_of_part p) (holes_of_row rest))) in
        behind ∙ (first ∙ (grouped ∙ joined))

    elements-places : {m : _} (elements : Row_of-Specimen m) (rest : Option SpecimenHole)
        → place_terms (elements_written def elements (end_written def rest))
        ≡ written_holes (holes_of_list elements rest)
    elements-places end_of-Specimen rest = end-places rest
    elements-places (more_of-Specimen s elements) rest =
        ap₂ (λ (xs ys : List WrittenTerm). xs ++ ys) (tree-places s) (elements-places elements rest)
        ∙ sym (holes-append (holes_of s) (holes_of_list elements rest))

  pub places-written : (s : Specimen)
      → place_terms (tree_written def s) ≡ map (term_written def) (map (λ (h : SpecimenHole). h.term) (holes_of s))
  places-written s = tree-places s
