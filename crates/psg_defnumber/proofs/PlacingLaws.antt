-- A specimen that passes the test of sorts is of the kind of its place.
use Rattle.std.proofs.Common.{◌≡◌, ℕ, zero, suc, ◌<◌, true, false, IsTrue, is_some, cond, List, [], ◌∷◌, ◌++◌, drop, get_or, length, ◌+◌, slice_get, refl, ap, sym, ◌∙◌, subst, inl, inr, Option, Some, None, arith}
use Rattle.std.specs.Borrow.{Bor}
use Rattle.std.specs.List.{AllByRecursion}
use Rattle.std.specs.Option.{option_and_then}
use Rattle.std.specs.Str.{bytes_eq}
use Rattle.std.proofs.lemmas.Bool.{or_parts, false≢true, cases_Bool}
use Rattle.psg_terms.proofs.Lists.{each_at, slice_get-map_some}
use Rattle.psg_terms.specs.Names.{Name, is_among, has_twice}
use Rattle.psg_terms.proofs.DeclareLaws.{is_among-at, bytes_eq-refl, bytes_eq-same}
use Rattle.psg_terms.proofs.Spelled.{one_place}
use Rattle.psg_grammar.specs.declared.types.Kind.{Kind}
use Rattle.psg_grammar.specs.declared.types.Kind.TheVariants as kinds
use Rattle.psg_grammar.specs.declared.types.Item.{Item}
use Rattle.psg_grammar.specs.declared.types.Item.TheVariants as made
use Rattle.psg_grammar.specs.declared.types.Phylum.{Phylum}
use Rattle.psg_grammar.specs.declared.types.ListKind.{ListKind}
use Rattle.psg_grammar.specs.declared.types.Operator.{Operator}
use Rattle.psg_grammar.specs.declared.types.SpecimenHole.{SpecimenHole}
use Rattle.psg_grammar.specs.declared.types.Definition.{Definition}
use Rattle.psg_deflines.specs.WrittenTerms.{WrittenTerm}
use Rattle.psg_grammar.specs.Lookups.{part_items}
use Rattle.psg_deflines.specs.WrittenTrees.{WrittenTree, HasTreeForm, operator, with_tree, with_name, with_number, with_text, place}
use Rattle.psg_deflines.specs.Forms.{HasFormBehindBy}
use Rattle.psg_deflines.specs.TreeShapes.{with_parts, list_of, ending}
use Rattle.psg_deflines.specs.declared.trees.LinePlace.{LinePlace}
use Rattle.psg_deflines.specs.declared.trees.LinePart.{LinePart}
use Rattle.psg_deflines.specs.declared.trees.LinePart.TheVariants as parts
use Rattle.psg_deflines.specs.declared.lines.LineItem.{LineItem}
use Rattle.psg_deflines.specs.declared.lines.LineItem.TheVariants as items
use Rattle.psg_deflines.specs.Entries.{Entry, written}
use Rattle.psg_deflines.specs.declared.lines.Line.{Line}
use Rattle.psg_deflines.specs.declared.lines.Line.TheVariants as lines
use Rattle.psg_defcheck.specs.Scopes.{Place, OpDecl, operator_declared, operator_names, kind_names, phylum_names, list_names, is_list, is_kind, kind_place, phylum_place, element_place, element_told, kind_declared, KindDecl, a_phylum, a_list, last_hole, last_operator, value_place}
use Rattle.psg_defcheck.specs.Meanings.{KnowsTree, PartPlace, for_tree, for_name, for_number, for_text, MayStand, SortsTerm, SortsTree, SortsBehindBy, SortsRow, ListMayStand, elements_place, part_places, column_places, KnowsItem}
use Rattle.psg_defcheck.specs.Checks.{IsKindAt}
use Rattle.psg_defcheck.specs.Faults.{ArePassed}
use Rattle.psg_defcheck.specs.Parts.{KnowsEnd}
use Rattle.psg_defcheck.specs.Sorting.{EndStands, PartStands, PartsStand}
use Rattle.psg_defcheck.proofs.SortLaws.{all-at}
use Rattle.psg_defcheck.proofs.CheckLaws.{list-named}
use Rattle.psg_defcheck.proofs.AboveLaws.{last_hole-append, last_operator-append}
use Rattle.psg_defcheck.proofs.TreeSortLaws.{operator-sorts, list-sorts, known_end}
use Rattle.psg_defnumber.specs.Declaring.{HasPhyla, AreListsOf, HasElementPlace, HasNames, IsMeant}
use Rattle.psg_defnumber.specs.Naming.{LineVariable, names_of}
use Rattle.psg_defnumber.specs.Fitting.{IsMade}
use Rattle.psg_defnumber.specs.Numbers.{IsPlace, IsKind, IsItem, AreItems, AreLists, AreOperators}
use Rattle.psg_defnumber.specs.Putting.{IsHoleEntry, IsOperatorEntry}
use Rattle.psg_defnumber.specs.Sorts.{IsSortOf, AreSortsOf, RowsStand}
use Rattle.psg_defnumber.specs.Placing.{HasPartForm, IsPlaceOf, IsPartOf, ArePartsOf, TreeFits, IsPartAt, ArePartsAt, AreElementsAt, IsRestAt, CasesFit}
use Rattle.psg_defnumber.proofs.ListLaws.{grows-refl}
use Rattle.psg_defnumber.proofs.MadeLaws.{keeps-self}
use Rattle.psg_defnumber.proofs.FitLaws.{items_now}
use Rattle.psg_defnumber.proofs.NameLaws.{phyla-once, lists-once, apart}
use Rattle.psg_defnumber.proofs.NamedLaws.{operators-names, operator-known}

-- ---- names of kinds

-- a name is that of one kind
pub one-kind : (file : List Line) → has_twice (kind_names file) ≡ false → (n : Name) (k l : Kind) → IsKindAt file n k → IsKindAt file n l → k ≡ l
one-kind file once n (kinds.Phylum p) (kinds.Phylum q) h k = ap kinds.Phylum (one_place (phylum_names file) p q n (phyla-once file once) h k)
one-kind file once n (kinds.Phylum p) (kinds.List q) h k = absurd (apart file once n (is_among-at (phylum_names file) p n h) (is_among-at (list_names file) q n k))
one-kind file once n (kinds.List p) (kinds.Phylum q) h k = absurd (apart file once n (is_among-at (phylum_names file) q n k) (is_among-at (list_names file) p n h))
one-kind file once n (kinds.List p) (kinds.List q) h k = ap kinds.List (one_place (list_names file) p q n (lists-once file once) h k)

-- that of a list is that of a list
pub of-list : (file : List Line) → has_twice (kind_names file) ≡ false → (n : Name) (k : Kind) → IsTrue (is_list file n) → IsKindAt file n k → (l : ℕ) × (k ≡ kinds.List l)
of-list file once n (kinds.Phylum p) is at = absurd (apart file once n (is_among-at (phylum_names file) p n at) (list-named file n is))
of-list file once n (kinds.List l) is at = (l, refl)

-- a kind of a definition with the names of the lines
pub kind-at : (file : List Line) (def : Definition) → HasPhyla file def → AreListsOf file def.lists → (n : Name) (k : Kind) → IsKind def n k → IsKindAt file n k
kind-at file def phyla lists n (kinds.Phylum p) (x, at, named) = ap (λ l. slice_get l p) (sym phyla) ∙ slice_get-map_some (λ (q : Phylum). q.name) def.phyla p x at ∙ ap Some named
kind-at file def phyla lists n (kinds.List p) (x, at, named) = ap (λ l. slice_get l p) (sym lists) ∙ slice_get-map_some (λ (q : ListKind). q.name) def.lists p x at ∙ ap Some named

-- ---- the line of a list

-- each phylum and list among the lines is what its name means among all lines
abbrev pub AreMeant : List Line → List Line → Type 0
AreMeant file [] = Unit {0}
AreMeant file (lines.Phylum name sort bracketed ∷ rest) = (kind_declared file name ≡ Some (a_phylum sort)) × AreMeant file rest
AreMeant file (lines.List name sort element separator on unfinished ∷ rest) = (kind_declared file name ≡ Some (a_list sort element)) × AreMeant file rest
AreMeant file (_ ∷ rest) = AreMeant file rest

-- another name means the same below a line that declares this one
other-name : (first : Line) (file : List Line) (m : Name) (d : KindDecl) → ((n : Name) → kind_declared (first ∷ file) n ≡ cond (bytes_eq m n) (Some d) (kind_declared file n)) → (name : Name) → bytes_eq name m ≡ false
    → kind_declared (first ∷ file) name ≡ kind_declared file name
other-name first file m d is name f =
    let no : bytes_eq m name ≡ false = elim (cases_Bool (bytes_eq m name)) [
      | inl e ↦ absurd (false≢true (sym f ∙ ap (bytes_eq name) (bytes_eq-same m name e) ∙ bytes_eq-refl name))
      | inr e ↦ e
    ] in
    is name ∙ ap (λ c. cond c (Some d) (kind_declared file name)) no

-- lines without the name mean the same below a line that declares it
meant-below : (first : Line) (file : List Line) (m : Name) (d : KindDecl) → ((n : Name) → kind_declared (first ∷ file) n ≡ cond (bytes_eq m n) (Some d) (kind_declared file n))
    → (rest : List Line) → is_among (kind_names rest) m ≡ false → AreMeant file rest → AreMeant (first ∷ file) rest
meant-below first file m d is [] new h = tt
meant-below first file m d is (lines.List name sort element separator on unfinished ∷ rest) new h =
    let both = or_parts (bytes_eq name m) (is_among (kind_names rest) m) new in
    (other-name first file m d is name both.0 ∙ h.0, meant-below first file m d is rest both.1 h.1)
meant-below first file m d is (lines.Phylum name sort bracketed ∷ rest) new h =
    let both = or_parts (bytes_eq name m) (is_among (kind_names rest) m) new in
    (other-name first file m d is name both.0 ∙ h.0, meant-below first file m d is rest both.1 h.1)
meant-below first file m d is (_ ∷ rest) new h = meant-below first file m d is rest new h

meant-other : (first : Line) (file : List Line) → ((n : Name) → kind_declared (first ∷ file) n ≡ kind_declared file n) → (rest : List Line) → AreMeant file rest → AreMeant (first ∷ file) rest
meant-other first file is [] h = tt
meant-other first file is (lines.List name sort element separator on unfinished ∷ rest) h = (is name ∙ h.0, meant-other first file is rest h.1)
meant-other first file is (lines.Phylum name sort bracketed ∷ rest) h = (is name ∙ h.0, meant-other first file is rest h.1)
meant-other first file is (_ ∷ rest) h = meant-other first file is rest h

pub kinds-meant : (file : List Line) → has_twice (kind_names file) ≡ false → AreMeant file file
kinds-meant [] once = tt
kinds-meant (lines.List name sort element separator on unfinished ∷ file) once =
    let both = or_parts (is_among (kind_names file) name) (has_twice (kind_names file)) once in (
      ap (λ c. cond c (Some (a_list sort element)) (kind_declared file name)) (bytes_eq-refl name),
      meant-below (lines.List name sort element separator on unfinished) file name (a_list sort element) (λ n. refl) file both.0 (kinds-meant file both.1),
    )
kinds-meant (lines.Phylum name sort bracketed ∷ file) once =
    let both = or_parts (is_among (kind_names file) name) (has_twice (kind_names file)) once in (
      ap (λ c. cond c (Some (a_phylum sort)) (kind_declared file name)) (bytes_eq-refl name),
      meant-below (lines.Phylum name sort bracketed) file name (a_phylum sort) (λ n. refl) file both.0 (kinds-meant file both.1),
    )
kinds-meant (line ∷ file) once = meant-other line file (λ n. refl) file (kinds-meant file once)

-- the place of each list's elements is that of their phylum
pub element-places : (whole : List Line) (def : Definition) → HasPhyla whole def → (rows file : List Line) (lists : List ListKind) → AreMeant whole file → AllByRecursion (IsMeant whole) file → AreLists def rows file lists
    → AllByRecursion (HasElementPlace whole) lists
element-places whole def phyla rows [] lists meant known h = subst (AllByRecursion (HasElementPlace whole)) (sym h) tt
element-places whole def phyla rows (lines.List name sort element separator on unfinished ∷ file) lists meant known (l, rest, e, is, more) =
    subst (AllByRecursion (HasElementPlace whole)) (sym e) (own, element-places whole def phyla rows file rest meant.1 known.1 more)
  where
    told : element_place whole name ≡ Some element
    told = ap (λ o. option_and_then (phylum_place whole) (option_and_then element_told o)) meant.0 ∙ ap (λ c. cond c (Some element) None) known.0.known.1

    there : slice_get (phylum_names whole) l.element ≡ Some element
    there = ap (λ ns. slice_get ns l.element) (sym phyla) ∙ slice_get-map_some (λ (q : Phylum). q.name) def.phyla l.element is.of_elements.0 is.of_elements.1 ∙ ap Some is.of_elements.2

    own : HasElementPlace whole l
    own = subst (λ at. IsPlaceOf whole at (kinds.Phylum l.element)) (sym (ap (element_place whole) is.named ∙ told)) there
element-places whole def phyla rows (lines.Phylum name sort bracketed ∷ file) lists meant known h = element-places whole def phyla rows file lists meant.1 known.1 h
element-places whole def phyla rows (_ ∷ file) lists meant known h = element-places whole def phyla rows file lists meant known.1 h

-- ---- the line of an operator

-- what the first line of the name says is what the operator of the name is
pub record IsSaidBy (def : Definition) (file : List Line) (d : OpDecl) (own : Operator) : Type 0 where
  pub phylum : IsKind def d.phylum (kinds.Phylum own.phylum)
  pub items : AreItems def d.made own.items
  pub known : AllByRecursion (KnowsItem file) d.made

pub operator-declared : (whole : List Line) (def : Definition) (file : List Line) (all : List Operator) → AllByRecursion (IsMeant whole) file → has_twice (operator_names file) ≡ false → AreOperators def file all
    → (n : Name) (d : OpDecl) → operator_declared file n ≡ Some d → (p : ℕ) (own : Operator) → slice_get all p ≡ Some own → own.name ≡ n → IsSaidBy def whole d own
operator-declared whole def [] all known once h n d e p own at named = absurd (cc)
operator-declared whole def (lines.Operator name phylum scope level shape ∷ file) all known once (op, rest, same, is, more) n d e p own at named =
    go p (subst (λ l. slice_get l p ≡ Some own) same at) (λ q f there. operator-declared whole def file rest known.1 (or_parts (is_among (operator_names file) name) (has_twice (operator_names file)) once).1 more n d f q own there named)
  where
    parts_once : (is_among (operator_names file) name ≡ false) × (has_twice (operator_names file) ≡ false)
    parts_once = or_parts (is_among (operator_names file) name) (has_twice (operator_names file)) once

    told : OpDecl
    told = record { phylum = phylum; made = shape }

    same_Some : {X : Type 0} (x y : X) → ◌≡◌ {A = Option X} (Some x) (Some y) → x ≡ y
    same_Some x y q = cc

    first : operator_declared (lines.Operator name phylum scope level shape ∷ file) n ≡ cond (bytes_eq name n) (Some told) (operator_declared file n)
    first = refl

    go : (p : ℕ) → slice_get (op ∷ rest) p ≡ Some own → ((q : ℕ) → operator_declared file n ≡ Some d → slice_get rest q ≡ Some own → IsSaidBy def whole d own) → IsSaidBy def whole d own
    go zero there later =
        let it : op ≡ own = same_Some op own there in
        let own_name : name ≡ n = sym is.named ∙ ap (λ (o : Operator). o.name) it ∙ named in
        let test : bytes_eq name n ≡ true = ap (bytes_eq name) (sym own_name) ∙ bytes_eq-refl name in
        let says : told ≡ d = same_Some told d (sym (first ∙ ap (λ c. cond c (Some told) (operator_declared file n)) test) ∙ e) in
        subst (IsSaidBy def whole d) it (subst (λ x. IsSaidBy def whole x op) says (record { phylum = is.of_phylum; items = is.each_item; known = known.0.known.1 }))
    go (suc q) there later =
        elim (cases_Bool (bytes_eq name n)) [
          | inl t ↦ absurd (false≢true (sym parts_once.0 ∙ ap (is_among (operator_names file)) (bytes_eq-same name n t) ∙ among q there))
          | inr f ↦ later q (sym (first ∙ ap (λ c. cond c (Some told) (operator_declared file n)) f) ∙ e) there
        ]
      where
        among : (q : ℕ) → slice_get rest q ≡ Some own → is_among (operator_names file) n ≡ true
        among q at = is_among-at (operator_names file) q n (ap (λ l. slice_get l q) (sym (operators-names def file rest more)) ∙ slice_get-map_some (λ (o : Operator). o.name) rest q own at ∙ ap Some named)
operator-declared whole def (_ ∷ file) all known once h n d e p own at named = operator-declared whole def file all known.1 once h n d e p own at named

-- its items are at the places of its parts
pub items-placed : (file : List Line) (def : Definition) → HasPhyla file def → AreListsOf file def.lists → (shape : List LineItem) (xs : List Item) → AllByRecursion (KnowsItem file) shape → AreItems def shape xs
    → ArePartsOf file (part_places file shape) (part_items xs)
items-placed file def phyla lists [] xs known h = subst (λ l. ArePartsOf file [] (part_items l)) (sym h) tt
items-placed file def phyla lists (w ∷ ws) xs known (i, rest, e, h, hs) =
    subst (λ l. ArePartsOf file (part_places file (w ∷ ws)) (part_items l)) (sym e) (one w i known.0 h (items-placed file def phyla lists ws rest known.1 hs))
  where
    one : (w : LineItem) (i : Item) → KnowsItem file w → IsItem def w i → ArePartsOf file (part_places file ws) (part_items rest) → ArePartsOf file (part_places file (w ∷ ws)) (part_items (i ∷ rest))
    one (items.Slot n) i known (k, is, d) more =
        subst (λ x. ArePartsOf file (part_places file (items.Slot n ∷ ws)) (part_items (x ∷ rest))) (sym d)
        (subst (λ c. IsPlaceOf file (cond c (Some n) None) k) (sym known) (kind-at file def phyla lists n k is), more)
    one (items.Refers n) i known (p, is, d) more = subst (λ x. ArePartsOf file (part_places file (items.Refers n ∷ ws)) (part_items (x ∷ rest))) (sym d) (tt, more)
    one (items.Declares n) i known (p, is, d) more = subst (λ x. ArePartsOf file (part_places file (items.Declares n ∷ ws)) (part_items (x ∷ rest))) (sym d) (tt, more)
    one items.Number i known d more = subst (λ x. ArePartsOf file (part_places file (items.Number ∷ ws)) (part_items (x ∷ rest))) (sym d) (tt, more)
    one items.Text i known d more = subst (λ x. ArePartsOf file (part_places file (items.Text ∷ ws)) (part_items (x ∷ rest))) (sym d) (tt, more)
    one (items.Word v) i known d more = subst (λ x. ArePartsOf file (part_places file ws) (part_items (x ∷ rest))) (sym d) more
    one items.Space i known d more = subst (λ x. ArePartsOf file (part_places file ws) (part_items (x ∷ rest))) (sym d) more
    one items.Tight i known d more = subst (λ x. ArePartsOf file (part_places file ws) (part_items (x ∷ rest))) (sym d) more
    one items.Line i known d more = subst (λ x. ArePartsOf file (part_places file ws) (part_items (x ∷ rest))) (sym d) more
    one items.In i known d more = subst (λ x. ArePartsOf file (part_places file ws) (part_items (x ∷ rest))) (sym d) more
    one items.Out i known d more = subst (λ x. ArePartsOf file (part_places file ws) (part_items (x ∷ rest))) (sym d) more

-- ---- forms

parts-formed : (f : WrittenTree) (ps : List LinePart) → HasTreeForm (with_parts f ps) → HasTreeForm f × AllByRecursion HasPartForm ps
parts-formed f [] h = (h, tt)
parts-formed f (parts.Tree t ∷ ps) h = let r = parts-formed (with_tree f t) ps h in (r.0.1, (r.0.2, r.1))
parts-formed f (parts.Name n ∷ ps) h = let r = parts-formed (with_name f n) ps h in (r.0.1, (r.0.2, r.1))
parts-formed f (parts.Number d ∷ ps) h = let r = parts-formed (with_number f d) ps h in (r.0.1, ((r.0.2, r.0.3), r.1))
parts-formed f (parts.Text w ∷ ps) h = let r = parts-formed (with_text f w) ps h in (r.0.1, (r.0.2, r.1))

elements-formed : (end : WrittenTree) (es : List WrittenTree) → HasTreeForm (list_of end es) → AllByRecursion HasTreeForm es
elements-formed end [] h = tt
elements-formed end (e ∷ es) h = (h.1, elements-formed end es h.2)

-- ---- specimens

module _ (file : List Line) (once : has_twice (kind_names file) ≡ false) where
  -- at the place of a kind is that kind
  pub at-place : (spot : Place) (n : Name) (kind k : Kind) → IsPlaceOf file spot kind → MayStand spot n → IsKindAt file n k → k ≡ kind
  at-place None n kind k h is at = absurd h
  at-place (Some m) n kind k h is at = one-kind file once n k kind at (subst (λ x. IsKindAt file x kind) (sym is) h)

  -- an operator's specimen is of its phylum, and its parts are at their places
  pub operator-fits : (sorts : Name → Name) (kind : Kind) (o : Name) (d : OpDecl) (phylum : ℕ) (all : List Item) (ps : List LinePart) (w : WrittenTree) → with_parts (operator o) ps ≡ w → operator_declared file o ≡ Some d
      → IsKindAt file d.phylum (kinds.Phylum phylum) → ArePartsOf file (part_places file d.made) all → TreeFits file sorts kind w → (kind ≡ kinds.Phylum phylum) × ArePartsAt file sorts all ps
  operator-fits sorts kind o d phylum all ps w e says of_phylum shape h =
      let both = (operator-sorts file sorts h.spot o ps d says).1 (subst (SortsTree file sorts [] h.spot) (sym e) h.sorted) in (
        sym (at-place h.spot d.phylum kind (kinds.Phylum phylum) h.place both.0 of_phylum),
        record { spots = part_places file d.made; place = shape; sorted = both.1; form = (parts-formed (operator o) ps (subst HasTreeForm (sym e) h.form)).1 },
      )

  -- a list's specimen is of a list, its elements of their phylum, and its rest of the list
  pub list-fits : (sorts : Name → Name) (kind : Kind) (rest : Option LinePlace) (es : List WrittenTree) (w : WrittenTree) → list_of (ending rest) es ≡ w → KnowsEnd file rest → TreeFits file sorts kind w
      → (l : ℕ) × (n : Name) × (kind ≡ kinds.List l) × IsKindAt file n kind × IsRestAt file sorts kind rest
      × ((phylum : Kind) → IsPlaceOf file (element_place file n) phylum → AreElementsAt file sorts phylum es)
  list-fits sorts kind rest es w e known h = go h.spot h.place ((list-sorts file sorts h.spot rest es known).1 (subst (SortsTree file sorts [] h.spot) (sym e) h.sorted))
    where
      go : (spot : Place) → IsPlaceOf file spot kind → ListMayStand file spot × EndStands file sorts spot rest × AllByRecursion (SortsTree file sorts [] (elements_place file spot)) es
          → (l : ℕ) × (n : Name) × (kind ≡ kinds.List l) × IsKindAt file n kind × IsRestAt file sorts kind rest × ((phylum : Kind) → IsPlaceOf file (element_place file n) phylum → AreElementsAt file sorts phylum es)
      go None there all = absurd there
      go (Some n) there all =
          let list = of-list file once n kind all.0 there in (
            list.0,
            n,
            list.1,
            there,
            record { spot = Some n; place = there; sorted = all.1 },
            λ phylum at. record { spot = element_place file n; place = at; sorted = all.2; form = elements-formed (ending rest) es (subst HasTreeForm (sym e) h.form) },
          )

  -- a place's specimen is of its own kind
  pub place-fits : (sorts : Name → Name) (kind k : Kind) (own : LinePlace) (w : WrittenTree) → place own.kind own.term ≡ w → IsKindAt file own.kind k → TreeFits file sorts kind w → k ≡ kind
  place-fits sorts kind k own w e at h = at-place h.spot own.kind kind k h.place (subst (SortsTree file sorts [] h.spot) (sym e) h.sorted).0 at

  -- and its term is at the place of the kind's values
  pub place-term : (sorts : Name → Name) (kind : Kind) (own : LinePlace) (w : WrittenTree) → place own.kind own.term ≡ w → TreeFits file sorts kind w → SortsTerm file sorts [] (value_place file own.kind) own.term
  place-term sorts kind own w e h = (subst (SortsTree file sorts [] h.spot) (sym e) h.sorted).1

  -- and so is the rest of a list
  pub rest-fits : (sorts : Name → Name) (kind k : Kind) (rest : Option LinePlace) (own : LinePlace) → rest ≡ Some own → IsKindAt file own.kind k → IsRestAt file sorts kind rest → k ≡ kind
  rest-fits sorts kind k rest own e at h = at-place h.spot own.kind kind k h.place (subst (EndStands file sorts h.spot) e h.sorted).0 at

  -- ---- lines

  -- the cases that follow a hole row
  pub cases-fit : (kind : Kind) (sort : ℕ) (n : Name) → IsTrue (is_kind file n) → IsKindAt file n kind → IsSortOf file (value_place file n) sort → (above rest : List Line) → last_hole None above ≡ Some n → AllByRecursion (IsMeant file) rest
      → ArePassed file above rest → CasesFit file kind sort rest
  cases-fit kind sort n known at of_sort above [] last meant h = tt
  cases-fit kind sort n known at of_sort above (lines.Hole k w specimen ∷ rest) last meant h = tt
  cases-fit kind sort n known at of_sort above (lines.Case w specimen ∷ rest) last meant h =
      let line = lines.Case w specimen in
      let sorted = h.0.1.1.1.0 in
      let sorts = sorted.0 in
      let spot : option_and_then (kind_place file) (last_hole None above) ≡ Some n = ap (option_and_then (kind_place file)) last ∙ ap (λ c. cond c (Some n) None) known in
      let value : option_and_then (value_place file) (last_hole None above) ≡ value_place file n = ap (option_and_then (value_place file)) last in (
        (
          sorts,
          (
            record { spot = value_place file n; place = of_sort; sorted = subst (λ p. SortsTerm file sorts [] p w) value sorted.1.0 },
            record { spot = Some n; place = at; sorted = subst (λ p. SortsTree file sorts [] p specimen) spot sorted.1.1; form = meant.0.form.1 },
          ),
        ),
        cases-fit kind sort n known at of_sort (above ++ line ∷ []) rest (last_hole-append None above (line ∷ []) ∙ last) meant.1 h.1,
      )
  cases-fit kind sort n known at of_sort above (line ∷ rest) last meant h = cases-fit kind sort n known at of_sort (above ++ line ∷ []) rest (last_hole-append None above (line ∷ []) ∙ last) meant.1 h.1

  -- the specimen of a hole row
  pub hole-fits : (sorts : Name → Name) (kind : Kind) (n : Name) (specimen : Option WrittenTree) (w : WrittenTree) → IsTrue (is_kind file n) → IsKindAt file n kind → specimen ≡ Some w
      → SortsBehindBy file sorts (kind_place file n) specimen → HasFormBehindBy specimen → TreeFits file sorts kind w
  hole-fits sorts kind n specimen w known at e h form = record {
    spot = Some n;
    place = at;
    sorted = subst (λ c. SortsTree file sorts [] (cond c (Some n) None) w) known (subst (SortsBehindBy file sorts (kind_place file n)) e h);
    form = subst HasFormBehindBy e form;
  }

  -- the rows that follow an operator
  pub rows-fit : (d : OpDecl) (sort : ℕ) (columns : List ℕ) → IsSortOf file (value_place file d.phylum) sort → AreSortsOf file (column_places file d.made) columns → (above rest : List Line) → last_operator None above ≡ Some d
      → ArePassed file above rest → RowsStand file sort columns rest
  rows-fit d sort columns of_sort of_columns above [] last h = tt
  rows-fit d sort columns of_sort of_columns above (lines.Operator name phylum scope level made ∷ rest) last h = tt
  rows-fit d sort columns of_sort of_columns above (lines.Row head ws ∷ rest) last h =
      let line = lines.Row head ws in
      let sorted = h.0.1.1.1.0 in
      let sorts = sorted.0 in
      let both = subst (λ o. SortsRow file sorts o head ws) last sorted.1 in (
        (
          sorts,
          (
            record { spot = value_place file d.phylum; place = of_sort; sorted = both.0 },
            record { spots = column_places file d.made; place = of_columns; sorted = both.1 },
          ),
        ),
        rows-fit d sort columns of_sort of_columns (above ++ line ∷ []) rest (last_operator-append None above (line ∷ []) ∙ last) h.1,
      )
  rows-fit d sort columns of_sort of_columns above (line ∷ rest) last h = rows-fit d sort columns of_sort of_columns (above ++ line ∷ []) rest (last_operator-append None above (line ∷ []) ∙ last) h.1

  -- one entry, and the entries after it
  pub cases-split : (kind : Kind) (sort : ℕ) (e : Entry) (rest : List Entry) → (IsHoleEntry e → ⊥) → CasesFit file kind sort (written (e ∷ rest)) → CasesFit file kind sort (written (e ∷ [])) × CasesFit file kind sort (written rest)
  cases-split kind sort None rest out h = (tt, h)
  cases-split kind sort (Some (lines.Hole k w specimen)) rest out h = absurd (out tt)
  cases-split kind sort (Some (lines.Case w specimen)) rest out h = ((h.0, tt), h.1)
  cases-split kind sort (Some line) rest out h = (tt, h)

  pub rows-split : (sort : ℕ) (columns : List ℕ) (e : Entry) (rest : List Entry) → (IsOperatorEntry e → ⊥) → RowsStand file sort columns (written (e ∷ rest)) → RowsStand file sort columns (written (e ∷ [])) × RowsStand file sort columns (written rest)
  rows-split sort columns None rest out h = (tt, h)
  rows-split sort columns (Some (lines.Operator name phylum scope level made)) rest out h = absurd (out tt)
  rows-split sort columns (Some (lines.Row head ws)) rest out h = ((h.0, tt), h.1)
  rows-split sort columns (Some line) rest out h = (tt, h)

  -- entries after some others
  passed-from : (above : List Line) (entries : List Entry) (i : ℕ) (e : Entry) → ArePassed file above (written entries) → i < length entries → e ≡ get_or entries i e
      → (before : List Line) × ArePassed file before (written (e ∷ drop (suc i) entries))
  passed-from above [] i e h lt at = absurd (omega arith)
  passed-from above (x ∷ entries) zero e h lt at = (above, subst (λ y. ArePassed file above (written (y ∷ entries))) (sym at) h)
  passed-from above (None ∷ entries) (suc i) e h lt at = passed-from above entries i e h (omega arith) at
  passed-from above (Some line ∷ entries) (suc i) e h lt at = passed-from (above ++ line ∷ []) entries i e h.1 (omega arith) at

  pub passed-next : (above : List Line) (entries : List Entry) (i : ℕ) (e : Entry) → ArePassed file above (written entries) → i < length entries → e ≡ get_or entries i e
      → (before : List Line) × ArePassed file before (written (e ∷ drop (i + 1) entries))
  passed-next above entries i e h lt at =
      let one : suc i ≡ i + 1 = omega arith in
      subst (λ n. (before : List Line) × ArePassed file before (written (e ∷ drop n entries))) one (passed-from above entries i e h lt at)

-- ---- parts and elements one by one

parts-long : (file : List Line) (sorts : Name → Name) (spots : List PartPlace) (all : List Item) (ps : List LinePart) → ArePartsOf file spots all → PartsStand file sorts spots ps → length all ≡ length ps
parts-long file sorts [] [] [] h k = refl
parts-long file sorts [] [] (p ∷ ps) h k = absurd k
parts-long file sorts [] (i ∷ all) ps h k = absurd h
parts-long file sorts (q ∷ spots) [] ps h k = absurd h
parts-long file sorts (q ∷ spots) (i ∷ all) [] h k = absurd k
parts-long file sorts (q ∷ spots) (i ∷ all) (p ∷ ps) h k = omega (arith, parts-long file sorts spots all ps h.1 k.1)

pub parts-count : (file : List Line) (sorts : Name → Name) (bs : List (Bor Item)) (ps : List LinePart) → ArePartsAt file sorts (items_now bs) ps → length bs ≡ length ps
parts-count file sorts bs ps h = sym (now-length bs) ∙ parts-long file sorts h.spots (items_now bs) ps h.place h.sorted
  where
    now-length : (bs : List (Bor Item)) → length (items_now bs) ≡ length bs
    now-length [] = refl
    now-length (b ∷ bs) = omega (arith, now-length bs)

pub part-at : (file : List Line) (sorts : Name → Name) (bs : List (Bor Item)) (ps : List LinePart) (i : ℕ) (b : Bor Item) (p : LinePart) → ArePartsAt file sorts (items_now bs) ps → i < length ps → b ≡ get_or bs i b → p ≡ get_or ps i p → IsPartAt file sorts b.now p
part-at file sorts bs ps i b p h lt is_b is_p = go bs ps i h.spots h.place h.sorted h.form lt is_b is_p
  where
    go : (bs : List (Bor Item)) (ps : List LinePart) (i : ℕ) (spots : List PartPlace) → ArePartsOf file spots (items_now bs) → PartsStand file sorts spots ps → AllByRecursion HasPartForm ps → i < length ps → b ≡ get_or bs i b → p ≡ get_or ps i p → IsPartAt file sorts b.now p
    go bs [] i spots of_items stand form lt is_b is_p = absurd (omega arith)
    go [] (q ∷ ps) i [] of_items stand form lt is_b is_p = absurd stand
    go [] (q ∷ ps) i (spot ∷ spots) of_items stand form lt is_b is_p = absurd of_items
    go (c ∷ bs) (q ∷ ps) i [] of_items stand form lt is_b is_p = absurd stand
    go (c ∷ bs) (q ∷ ps) zero (spot ∷ spots) of_items stand form lt is_b is_p = record {
      spot = spot;
      place = subst (λ (x : Bor Item). IsPartOf file spot x.now) (sym is_b) of_items.0;
      sorted = subst (PartStands file sorts spot) (sym is_p) stand.0;
      form = subst HasPartForm (sym is_p) form.0;
    }
    go (c ∷ bs) (q ∷ ps) (suc i) (spot ∷ spots) of_items stand form lt is_b is_p = go bs ps i spots of_items.1 stand.1 form.1 (omega arith) is_b is_p

pub tree-at : (file : List Line) (sorts : Name → Name) (item : Item) (p : LinePart) (k : Kind) (t : WrittenTree) → item ≡ made.Slot k → p ≡ parts.Tree t → IsPartAt file sorts item p → TreeFits file sorts k t
tree-at file sorts item p k t e d h = go h.spot (subst (IsPartOf file h.spot) e h.place) (subst (PartStands file sorts h.spot) d h.sorted)
  where
    go : (spot : PartPlace) → IsPartOf file spot (made.Slot k) → PartStands file sorts spot (parts.Tree t) → TreeFits file sorts k t
    go (for_tree kind) there stand = record { spot = kind; place = there; sorted = stand; form = subst HasPartForm d h.form }
    go for_name there stand = absurd there
    go for_number there stand = absurd there
    go for_text there stand = absurd there

pub element-at : (file : List Line) (sorts : Name → Name) (kind : Kind) (ws : List WrittenTree) (i : ℕ) (w : WrittenTree) → AreElementsAt file sorts kind ws → i < length ws → w ≡ get_or ws i w → TreeFits file sorts kind w
element-at file sorts kind ws i w h lt at = record { spot = h.spot; place = h.place; sorted = all-at (SortsTree file sorts [] h.spot) ws i w h.sorted lt at; form = all-at HasTreeForm ws i w h.form lt at }

-- ---- specimens of a definition with the names of the lines

module _ (file : List Line) (def : Definition) (names : HasNames file def) where
  same_Some : {X : Type 0} (x y : X) → ◌≡◌ {A = Option X} (Some x) (Some y) → x ≡ y
  same_Some x y e = cc

  pub operator-parts-fit : (sorts : Name → Name) (kind : Kind) (o : Name) (ps : List LinePart) (w : WrittenTree) → with_parts (operator o) ps ≡ w → KnowsTree file w → (p : ℕ) (own : Operator) → slice_get def.operators p ≡ Some own → own.name ≡ o
      → TreeFits file sorts kind w → (kind ≡ kinds.Phylum own.phylum) × ArePartsAt file sorts (part_items own.items) ps
  operator-parts-fit sorts kind o ps w e known p own at named h = go (operator_declared file o) refl
    where
      go : (d : Option OpDecl) → operator_declared file o ≡ d → (kind ≡ kinds.Phylum own.phylum) × ArePartsAt file sorts (part_items own.items) ps
      go (Some d) says =
          let form = names.parts o d says p own at named in
          operator-fits file names.kinds.once sorts kind o d own.phylum (part_items own.items) ps w e says form.phylum form.placed h
      go None says = absurd (false≢true (ap is_some (sym says) ∙ operator-known file w o ps e known))

  pub list-place : (l : ℕ) (own : ListKind) (n : Name) → slice_get def.lists l ≡ Some own → slice_get (list_names file) l ≡ Some n → IsPlaceOf file (element_place file n) (kinds.Phylum own.element)
  list-place l own n at spot =
      subst (λ m. IsPlaceOf file (element_place file m) (kinds.Phylum own.element))
      (same_Some own.name n (sym (slice_get-map_some (λ (k : ListKind). k.name) def.lists l own at) ∙ ap (λ ns. slice_get ns l) names.kinds.lists ∙ spot))
      (each_at (HasElementPlace file) def.lists names.kinds.places l own at)

  pub list-parts-fit : (sorts : Name → Name) (kind : Kind) (rest : Option LinePlace) (es : List WrittenTree) (w : WrittenTree) → list_of (ending rest) es ≡ w → KnowsTree file w → (l : ℕ) (own : ListKind) → kind ≡ kinds.List l → slice_get def.lists l ≡ Some own
      → TreeFits file sorts kind w → AreElementsAt file sorts (kinds.Phylum own.element) es × IsRestAt file sorts (kinds.List l) rest
  list-parts-fit sorts kind rest es w e known l own is at h =
      let r = list-fits file names.kinds.once sorts kind rest es w e (known_end file w rest es e known) h in
      (r.5 (kinds.Phylum own.element) (list-place l own r.1 at (subst (IsKindAt file r.1) is r.3)), subst (λ k. IsRestAt file sorts k rest) is r.4)

  -- a place that is made is of its kind
  pub made-kind : (a b : List LineVariable) (n : Name) (t : WrittenTerm) (h : SpecimenHole) → IsMade def a b (h.term ∷ []) (λ full names. IsPlace full names n t h) → IsKindAt file n h.kind
  made-kind a b n t h m = kind-at file def names.kinds.phyla names.kinds.lists n h.kind (m.is (names_of b) (grows-refl (names_of b)) def (keeps-self def)).of_kind
