-- A specimen as it is written is a tree of its kind.
use Rattle.std.proofs.Common.{◌≡◌, inl, inr, ℕ, ◌+◌, ◌≤◌, ◌<◌, ◌^◌, List, [], ◌∷◌, ◌++◌, length, map, Option, Some, None, slice_get, refl, ap, sym, ◌∙◌, subst, append-nil, append_assoc, arith}
use Rattle.std.proofs.lemmas.Bool.{false≢true}
use Rattle.std.proofs.lemmas.List.{map-append}
use Rattle.psg_terms.proofs.Lists.{each_at, each_append}
use Rattle.std.specs.List.{AllByRecursion}
use Rattle.psg_terms.specs.Names.{Name}
use Rattle.psg_terms.specs.Sound.{IsSound as IsSoundSignature}
use Rattle.psg_grammar.specs.declared.types.Kind.{Kind}
use Rattle.psg_grammar.specs.declared.types.Kind.TheVariants as kinds
use Rattle.psg_grammar.specs.declared.types.Item.{Item}
use Rattle.psg_grammar.specs.declared.types.Item.TheVariants as made
use Rattle.psg_grammar.specs.declared.types.Phylum.{Phylum}
use Rattle.psg_grammar.specs.declared.types.ListKind.{ListKind}
use Rattle.psg_grammar.specs.declared.types.Operator.{Operator}
use Rattle.psg_grammar.specs.declared.types.Space.{Space}
use Rattle.psg_grammar.specs.declared.types.SpecimenHole.{SpecimenHole}
use Rattle.psg_grammar.specs.declared.types.SpecimenPart.{SpecimenPart, Sub, Name as NamePart, Number, Text}
use Rattle.psg_grammar.specs.declared.types.Specimen.{Specimen, Op', List', Hole, Row_of-Specimen, end_of-Specimen, more_of-Specimen, Row_of-SpecimenPart, end_of-SpecimenPart, more_of-SpecimenPart}
use Rattle.psg_grammar.specs.declared.types.Definition.{Definition}
use Rattle.psg_grammar.specs.Fragments.{Fragment, children_of}
use Rattle.psg_grammar.specs.Lookups.{part_items}
use Rattle.psg_grammar.specs.Specimens.{tree_of, part_of, with_row, list_of, end_tree, holes_of, holes_of_part, holes_of_row, holes_of_list, IsRestOf, HasOwnRests, PartHasOwnRests, RowHasOwnRests, ListHasOwnRests}
use Rattle.psg_grammar.specs.Placed.{FitsPlaces}
use Rattle.psg_grammar.specs.Sound.{HasKindSort, HasSpaceSort, AreColumns, HasShortLists, HasSpecimenNames, IsHolePlace, IsSpecimen, kind_of}
use Rattle.psg_deflines.specs.WrittenTerms.{WrittenTerm}
use Rattle.psg_deflines.specs.WrittenTrees.{WrittenTree, operator, with_tree, with_name, with_number, with_text, element, HasTreeForm}
use Rattle.psg_defnumber.specs.Numbers.{IsPlace, IsTree, IsPart, AreParts, IsListFrom}
use Rattle.psg_defnumber.proofs.TermSorts.{term-takes}
use Rattle.psg_defnumber.proofs.TreeWeights.{weight}

-- the signature has the sort
abbrev pub IsInside : Definition → ℕ → Type 0
IsInside def s = s < length def.signature.sorts

abbrev pub HasPhylumInside : Definition → Phylum → Type 0
HasPhylumInside def p = IsInside def p.sort.0

abbrev pub HasListInside : Definition → ListKind → Type 0
HasListInside def l = IsInside def l.sort.0

abbrev pub HasSpaceInside : Definition → Space → Type 0
HasSpaceInside def s = IsInside def s.sort.0

-- each kind and each space has a sort of the signature
pub record AreInside (def : Definition) : Type 0 where
  pub phyla : AllByRecursion (HasPhylumInside def) def.phyla
  pub lists : AllByRecursion (HasListInside def) def.lists
  pub spaces : AllByRecursion (HasSpaceInside def) def.spaces

pub kind-inside : (def : Definition) → AreInside def → (kind : Kind) (s : ℕ) → HasKindSort def kind s → IsInside def s
kind-inside def inside (kinds.Phylum p) s (k, at, e) =
    subst (IsInside def) e (each_at (HasPhylumInside def) def.phyla inside.phyla p k at)
kind-inside def inside (kinds.List l) s (k, at, e) =
    subst (IsInside def) e (each_at (HasListInside def) def.lists inside.lists l k at)

pub space-inside : (def : Definition) → AreInside def → (n s : ℕ) → HasSpaceSort def n s → IsInside def s
space-inside def inside n s (k, at, e) =
    subst (IsInside def) e (each_at (HasSpaceInside def) def.spaces inside.spaces n k at)

-- a list is there
abbrev pub IsThere : Definition → Kind → Type 0
IsThere def kind = (l : ℕ) → kind ≡ kinds.List l → (k : ListKind) × (slice_get def.lists l ≡ Some k)

abbrev IsSlotThere : Definition → Item → Type 0
IsSlotThere def (made.Slot k) = IsThere def k
IsSlotThere def _ = Unit {0}

pub kind-there : (def : Definition) (kind : Kind) (s : ℕ) → HasKindSort def kind s → IsThere def kind
kind-there def (kinds.Phylum p) s h l e = absurd (cc)
kind-there def (kinds.List m) s (k, at, sort) l e =
    let same : m ≡ l = cc in (k, subst (λ n. slice_get def.lists n ≡ Some k) same at)

slots-there : (def : Definition) (xs : List Item) (sorts : List ℕ) → AreColumns def (part_items xs) sorts
    → AllByRecursion (IsSlotThere def) (part_items xs)
slots-there def [] sorts h = tt
slots-there def (made.Slot k ∷ xs) sorts (s, more, e, sort, h) = (kind-there def k s sort, slots-there def xs more h)
slots-there def (made.Refers n ∷ xs) sorts (s, more, e, sort, h) = (tt, slots-there def xs more h)
slots-there def (made.Declares n ∷ xs) sorts (s, more, e, sort, h) = (tt, slots-there def xs more h)
slots-there def (made.Number ∷ xs) sorts h = (tt, slots-there def xs sorts h)
slots-there def (made.Text ∷ xs) sorts h = (tt, slots-there def xs sorts h)
slots-there def (made.Word w ∷ xs) sorts h = slots-there def xs sorts h
slots-there def (made.Space ∷ xs) sorts h = slots-there def xs sorts h
slots-there def (made.Tight ∷ xs) sorts h = slots-there def xs sorts h
slots-there def (made.Line ∷ xs) sorts h = slots-there def xs sorts h
slots-there def (made.In ∷ xs) sorts h = slots-there def xs sorts h
slots-there def (made.Out ∷ xs) sorts h = slots-there def xs sorts h

-- the operators' columns are of sorts that are there
abbrev pub HaveColumns : Definition → Type 0
HaveColumns def =
    (o : ℕ) (op : Operator) → slice_get def.operators o ≡ Some op
    → (sorts : List ℕ) × AreColumns def (part_items op.items) sorts

-- a part's front has its form and no more elements
abbrev IsBelow : WrittenTree → WrittenTree → Type 0
IsBelow front w = HasTreeForm front × (weight front ≤ weight w)

module _ (def : Definition) (sound : IsSoundSignature def.signature) (inside : AreInside def)
    (columns : HaveColumns def) (names : List Name) where
  place-is : (n : Name) (t : WrittenTerm) (h : SpecimenHole) → IsPlace def names n t h → IsHolePlace def h
  place-is n t h p =
      let within = kind-inside def inside h.kind p.sort p.kind_sort in
      (p.sort, p.kind_sort, term-takes def.signature sound names t [] p.sort h.term within p.of_term)

  -- what is in front of a part, and of all parts
  part-below : (i : Item) (p : SpecimenPart) (front next : WrittenTree) → IsPart def names i p front next
      → HasTreeForm next → IsBelow front next
  part-below (made.Slot k) (Sub s) front next (t, h, e) form =
      let whole : HasTreeForm (with_tree front t) = subst HasTreeForm e form in (whole.1, omega (arith, ap weight e))
  part-below (made.Refers x) (NamePart n) front next e form =
      let whole : HasTreeForm (with_name front n) = subst HasTreeForm e form in (whole.1, omega (arith, ap weight e))
  part-below (made.Declares x) (NamePart n) front next e form =
      let whole : HasTreeForm (with_name front n) = subst HasTreeForm e form in (whole.1, omega (arith, ap weight e))
  part-below made.Number (Number v) front next (digits, value, e) form =
      let whole : HasTreeForm (with_number front digits) = subst HasTreeForm e form in (
        whole.1,
        omega (arith, ap weight e),
      )
  part-below made.Text (Text t) front next e form =
      let whole : HasTreeForm (with_text front t) = subst HasTreeForm e form in (whole.1, omega (arith, ap weight e))
  part-below _ _ front next h form = absurd h

  parts-below : {m : _} (wanted : List Item) (parts : Row_of-SpecimenPart m) (front w : WrittenTree)
      → AreParts def names wanted parts front w → HasTreeForm w → IsBelow front w
  parts-below [] end_of-SpecimenPart front w e form = (subst HasTreeForm e form, omega (arith, ap weight e))
  parts-below [] (more_of-SpecimenPart p rest) front w h form = absurd h
  parts-below (i ∷ wanted) end_of-SpecimenPart front w h form = absurd h
  parts-below (i ∷ wanted) (more_of-SpecimenPart p rest) front w (next, h, hs) form =
      let behind = parts-below wanted rest next w hs form in
      let first = part-below i p front next h behind.0 in
      (first.0, omega (arith, first.1, behind.1))

  -- the kinds of places, and of the places of rows
  abbrev kinds_in : List SpecimenHole → List Kind
  kinds_in hs = map (kind_of def) hs

  abbrev part_kinds : {m : _} → Row_of-SpecimenPart m → List Kind
  part_kinds parts = kinds_in (holes_of_row parts)

  abbrev element_kinds : {m : _} → Row_of-Specimen m → Option SpecimenHole → List Kind
  element_kinds elements rest = kinds_in (holes_of_list elements rest)

  -- the tree of a list
  abbrev list_tree : {m : _} → ℕ → Row_of-Specimen m → Option SpecimenHole → Fragment
  list_tree l elements rest = list_of l (end_tree l rest) elements

  abbrev Fits : Fragment → List Item → Kind → List Kind → List Kind → Type 0
  Fits f more kind places left = FitsPlaces def ⊥ f more kind places left

  kinds-two : (hs more : List SpecimenHole) (left : List Kind)
      → kinds_in (hs ++ more) ++ left ≡ kinds_in hs ++ (kinds_in more ++ left)
  kinds-two hs more left =
      ap (λ ks. ks ++ left) (map-append (kind_of def) hs more) ∙ append_assoc (kinds_in hs) (kinds_in more) left

  -- what holds of a specimen of the kind
  record IsTreeOf (kind : Kind) (s : Specimen) : Type 0 where
    fits : (left : List Kind) → Fits (tree_of s) [] kind (kinds_in (holes_of s) ++ left) left
    rests : HasOwnRests s
    few : HasShortLists (tree_of s)
    named : HasSpecimenNames (tree_of s)
    places : AllByRecursion (IsHolePlace def) (holes_of s)

  -- what one more part, and all of them, make of a tree with its first parts
  record IsPartOf (i : Item) (p : SpecimenPart) : Type 0 where
    fits : (f : Fragment) (more : List Item) (kind : Kind) (places left : List Kind)
        → Fits f (i ∷ more) kind places (kinds_in (holes_of_part p) ++ left)
        → Fits (part_of p f) more kind places left
    rests : PartHasOwnRests p
    few : (f : Fragment) → HasShortLists f → HasShortLists (part_of p f)
    named : (f : Fragment) → HasSpecimenNames f → HasSpecimenNames (part_of p f)
    places : AllByRecursion (IsHolePlace def) (holes_of_part p)

  record AreAllParts {m : _} (wanted : List Item) (parts : Row_of-SpecimenPart m) : Type 0 where
    fits : (f : Fragment) (kind : Kind) (places left : List Kind)
        → Fits f wanted kind places (part_kinds parts ++ left) → Fits (with_row f parts) [] kind places left
    rests : RowHasOwnRests parts
    few : (f : Fragment) → HasShortLists f → HasShortLists (with_row f parts)
    named : (f : Fragment) → HasSpecimenNames f → HasSpecimenNames (with_row f parts)
    places : AllByRecursion (IsHolePlace def) (holes_of_row parts)

  record AreElements {m : _} (l : ℕ) (elements : Row_of-Specimen m) (rest : Option SpecimenHole) (count : ℕ) : Type 0
    where
      fits : (left : List Kind)
          → Fits (list_tree l elements rest) [] (kinds.List l) (element_kinds elements rest ++ left) left
      rests : ListHasOwnRests elements
      own : IsRestOf l rest
      short : length (children_of (list_tree l elements rest)) ≤ count
      few : HasShortLists (list_tree l elements rest)
      named : HasSpecimenNames (list_tree l elements rest)
      places : AllByRecursion (IsHolePlace def) (holes_of_list elements rest)

  part-then : {m : _} (i : Item) (wanted : List Item) (p : SpecimenPart) (rest : Row_of-SpecimenPart m) → IsPartOf i p
      → AreAllParts wanted rest → AreAllParts (i ∷ wanted) (more_of-SpecimenPart p rest)
  part-then i wanted p rest first behind = record {
    fits = λ f kind places left h. behind.fits (part_of p f) kind places left
        (first.fits f wanted kind places (part_kinds rest ++ left)
        (subst (Fits f (i ∷ wanted) kind places) (kinds-two (holes_of_part p) (holes_of_row rest) left) h));
    rests = (first.rests, behind.rests);
    few = λ f h. behind.few (part_of p f) (first.few f h);
    named = λ f h. behind.named (part_of p f) (first.named f h);
    places = each_append (IsHolePlace def) (holes_of_part p) (holes_of_row rest) first.places behind.places;
  }

  element-then : {m : _} (l count more : ℕ) (list : ListKind) (s : Specimen) (elements : Row_of-Specimen m)
      (rest : Option SpecimenHole)
      → slice_get def.lists l ≡ Some list → IsTreeOf (kinds.Phylum list.element) s → AreElements l elements rest more
      → more < count → count < 2 ^ 32 → AreElements l (more_of-Specimen s elements) rest count
  element-then l count more list s elements rest at first behind below limit = record {
    fits = λ left. (
      refl,
      refl,
      element_kinds elements rest ++ left,
      list,
      at,
      subst (λ places. Fits (tree_of s) [] (kinds.Phylum list.element) places (element_kinds elements rest ++ left))
          (sym (kinds-two (holes_of s) (holes_of_list elements rest) left))
          (first.fits (element_kinds elements rest ++ left)),
      behind.fits left,
    );
    rests = (first.rests, behind.rests);
    own = behind.own;
    short = omega (arith, behind.short);
    few = (omega (arith, behind.short), first.few, behind.few);
    named = (first.named, behind.named);
    places = each_append (IsHolePlace def) (holes_of s) (holes_of_list elements rest) first.places behind.places;
  }

  no-elements : (l : ℕ) (list : ListKind) (rest : Option SpecimenHole) (w : WrittenTree)
      → slice_get def.lists l ≡ Some list → IsListFrom def names l end_of-Specimen rest w
      → AreElements l end_of-Specimen rest (weight w)
  no-elements l list None w at e = record {
    fits = λ left. (refl, refl, refl, (list, at, λ e. absurd (false≢true e)));
    rests = tt;
    own = tt;
    short = omega arith;
    few = tt;
    named = tt;
    places = tt;
  }
  no-elements l list (Some h) w at (n, t, of, p, e) = record {
    fits = λ left. ((λ none. absurd none), refl, ap (λ k. k ∷ left) of);
    rests = tt;
    own = of;
    short = omega arith;
    few = tt;
    named = tt;
    places = (place-is n t h p, tt);
  }

  mutual
    tree-is : (s : Specimen) (kind : Kind) (w : WrittenTree) → IsThere def kind → HasTreeForm w → weight w < 2 ^ 32
        → IsTree def names kind s w → IsTreeOf kind s
    tree-is (Op' o shape parts) kind w there form limit (n, op, (at, name), of, h) =
        let (sorts, are) = columns o op at in
        let slots = slots-there def op.items sorts are in
        let all = parts-are (part_items op.items) parts (operator n) w slots form limit h in
        record {
          fits = λ left. all.fits (Fragment.operator o) kind (part_kinds parts ++ left) left (refl, op, at, refl, of);
          rests = all.rests;
          few = all.few (Fragment.operator o) tt;
          named = all.named (Fragment.operator o) tt;
          places = all.places;
        }
    tree-is (List' l shape elements rest) kind w there form limit (is, h) =
        let (list, at) = there l is in
        let all = elements-are l list elements rest w at form limit h in
        record {
          fits = λ left. subst (λ k. Fits (list_tree l elements rest) [] k (element_kinds elements rest ++ left) left)
              (sym is) (all.fits left);
          rests = (all.own, all.rests);
          few = all.few;
          named = all.named;
          places = all.places;
        }
    tree-is (Hole h) kind w there form limit (n, t, of, p, e) = record {
      fits = λ left. ((λ none. absurd none), refl, ap (λ k. k ∷ left) of);
      rests = tt;
      few = tt;
      named = tt;
      places = (place-is n t h p, tt);
    }

    part-is : (i : Item) (p : SpecimenPart) (front next : WrittenTree) → IsSlotThere def i → HasTreeForm next
        → weight next < 2 ^ 32 → IsPart def names i p front next → IsPartOf i p
    part-is (made.Slot k) (Sub s) front next there form limit (t, h, e) =
        let whole : HasTreeForm (with_tree front t) = subst HasTreeForm e form in
        let tree = tree-is s k t there whole.2 (omega (arith, ap weight e)) h in
        record {
          fits = λ f more kind places left h. (k, kinds_in (holes_of s) ++ left, h, tree.fits left);
          rests = tree.rests;
          few = λ f h. (h, tree.few);
          named = λ f h. (h, tree.named);
          places = tree.places;
        }
    part-is (made.Refers x) (NamePart n) front next there form limit e =
        let whole : HasTreeForm (with_name front n) = subst HasTreeForm e form in
        record {
          fits = λ f more kind places left h. inl (x, h);
          rests = tt;
          few = λ f h. h;
          named = λ f h. (h, whole.2);
          places = tt;
        }
    part-is (made.Declares x) (NamePart n) front next there form limit e =
        let whole : HasTreeForm (with_name front n) = subst HasTreeForm e form in
        record {
          fits = λ f more kind places left h. inr (x, h);
          rests = tt;
          few = λ f h. h;
          named = λ f h. (h, whole.2);
          places = tt;
        }
    part-is made.Number (Number v) front next there form limit (digits, value, e) =
        let whole : HasTreeForm (with_number front digits) = subst HasTreeForm e form in
        record {
          fits = λ f more kind places left h. (h, subst (λ n. n < 2 ^ 128) value whole.3);
          rests = tt;
          few = λ f h. h;
          named = λ f h. h;
          places = tt;
        }
    part-is made.Text (Text t) front next there form limit e =
        let whole : HasTreeForm (with_text front t) = subst HasTreeForm e form in
        record {
          fits = λ f more kind places left h. (h, whole.2.utf8);
          rests = tt;
          few = λ f h. h;
          named = λ f h. h;
          places = tt;
        }
    part-is _ _ front next there form limit h = absurd h

    parts-are : {m : _} (wanted : List Item) (parts : Row_of-SpecimenPart m) (front w : WrittenTree)
        → AllByRecursion (IsSlotThere def) wanted → HasTreeForm w → weight w < 2 ^ 32
        → AreParts def names wanted parts front w → AreAllParts wanted parts
    parts-are [] end_of-SpecimenPart front w there form limit e =
        record { fits = λ f kind places left h. h; rests = tt; few = λ f h. h; named = λ f h. h; places = tt }
    parts-are [] (more_of-SpecimenPart p rest) front w there form limit h = absurd h
    parts-are (i ∷ wanted) end_of-SpecimenPart front w there form limit h = absurd h
    parts-are (i ∷ wanted) (more_of-SpecimenPart p rest) front w there form limit (next, h, hs) =
        let below = parts-below wanted rest next w hs form in
        let first = part-is i p front next there.0 below.0 (omega (arith, below.1)) h in
        part-then i wanted p rest first (parts-are wanted rest next w there.1 form limit hs)

    elements-are : {m : _} (l : ℕ) (list : ListKind) (elements : Row_of-Specimen m) (rest : Option SpecimenHole)
        (w : WrittenTree)
        → slice_get def.lists l ≡ Some list → HasTreeForm w → weight w < 2 ^ 32
        → IsListFrom def names l elements rest w → AreElements l elements rest (weight w)
    elements-are l list end_of-Specimen rest w at form limit h = no-elements l list rest w at h
    elements-are l list (more_of-Specimen s elements) rest w at form limit (found, e, r, is, h, hs, whole) =
        let forms : HasTreeForm (element e r) = subst HasTreeForm whole form in
        let size : weight w ≡ 1 + (weight e + weight r) = ap weight whole in
        let first = tree-is s (kinds.Phylum found.element) e (λ l no. absurd (cc)) forms.1 (omega arith) h in
        let behind = elements-are l list elements rest r at forms.2 (omega arith) hs in
        element-then l (weight w) (weight r) found s elements rest is first behind (omega arith) limit

  pub specimen-is : (s : Specimen) (kind : Kind) (w : WrittenTree) → IsThere def kind → HasTreeForm w
      → weight w < 2 ^ 32 → IsTree def names kind s w → IsSpecimen def kind s
  specimen-is s kind w there form limit h =
      let tree = tree-is s kind w there form limit h in
      record {
        fits = subst (λ places. Fits (tree_of s) [] kind places []) (append-nil (kinds_in (holes_of s))) (tree.fits []);
        rests = tree.rests;
        few_elements = tree.few;
        names = tree.named;
        places = tree.places;
      }
