-- Specimens and their parts.
use Rattle.std.proofs.Common.{◌≡◌, ℕ, ◌+◌, ◌<◌, ◌≤◌, List, [], ◌∷◌, ◌++◌, take, get_or, length, map, refl, ap, ap₂, sym, ◌∙◌, subst, Option, Some, None, Bool, true, false, cond, slice_get, arith, append_assoc, append-nil}
use Rattle.std.proofs.lemmas.List.{take_all, map-append}
use Rattle.psg_terms.proofs.Lists.{take_item}
use Rattle.std.specs.Borrow.{Bor}
use Rattle.std.specs.List.{AllByRecursion}
use mathlib.Core.Former.{Count}
use Rattle.psg_terms.specs.Names.{Name}
use Rattle.psg_terms.specs.Terms.{Term}
use Rattle.psg_grammar.specs.declared.types.Kind.{Kind}
use Rattle.psg_grammar.specs.declared.types.Kind.TheVariants as kinds
use Rattle.psg_grammar.specs.declared.types.Item.{Item}
use Rattle.psg_grammar.specs.declared.types.Item.TheVariants as slots
use Rattle.psg_grammar.specs.declared.types.ListKind.{ListKind}
use Rattle.psg_grammar.specs.declared.types.Operator.{Operator}
use Rattle.psg_grammar.specs.declared.types.SpecimenHole.{SpecimenHole}
use Rattle.psg_grammar.specs.declared.types.SpecimenPart.{SpecimenPart, Sub}
use Rattle.psg_grammar.specs.declared.types.Specimen.{Specimen, Op, Op', List as ListOf, List', Hole, Row_of-Specimen, end_of-Specimen, more_of-Specimen, Row_of-SpecimenPart, end_of-SpecimenPart, more_of-SpecimenPart, items-the_row-SpecimenPart, items_hidden-the_row-SpecimenPart-0, items-the_row-Specimen, items_hidden-the_row-Specimen-1}
use Rattle.psg_grammar.specs.declared.types.Definition.{Definition}
use Rattle.psg_grammar.specs.Lookups.{is_part, part_items}
use Rattle.psg_grammar.specs.Specimens.{holes_of, holes_of_part, holes_of_row, holes_of_list, rest_hole}
use Rattle.psg_grammar.specs.Sound.{HasKindSort, IsItem}
use Rattle.psg_deflines.specs.WrittenTerms.{WrittenTerm}
use Rattle.psg_deflines.specs.WrittenTrees.{WrittenTree, operator}
use Rattle.psg_deflines.specs.WrittenTrees as trees
use Rattle.psg_deflines.specs.TreeShapes.{with_part, with_parts, list_of, ending}
use Rattle.psg_deflines.specs.declared.trees.LinePlace.{LinePlace}
use Rattle.psg_deflines.specs.declared.trees.LinePart.{LinePart}
use Rattle.psg_deflines.specs.declared.trees.LinePart.TheVariants as parts
use Rattle.psg_defnumber.specs.Numbers.{IsKind, IsPlace, IsTree, AreParts, IsListFrom, IsOperatorNamed, IsTerm, terms_of}
use Rattle.psg_defnumber.specs.Growing.{Lasts}
use Rattle.psg_defnumber.specs.Naming.{LineVariable, IsMadeTerm}
use Rattle.psg_defnumber.specs.Fitting.{IsMade, hole_terms, part_terms, element_terms, PartFits, PartsFit, ElementsFit, RestFits}
use Rattle.psg_defnumber.proofs.MadeLaws.{made-as, made-both, made-term}

-- a hole place
pub place-made : (def : Definition) (a b : List LineVariable) (n : Name) (kind : Kind) (sort : ℕ) (w : WrittenTerm) (t : Term) → Lasts def (λ full. IsKind full n kind) → Lasts def (λ full. HasKindSort full kind sort)
    → IsMadeTerm def.signature a b sort w t → IsMade def a b (t ∷ []) (λ full names. IsPlace full names n w (record { kind = kind; term = t }))
place-made def a b n kind sort w t of_kind of_sort h =
    made-as def a b (t ∷ []) (t ∷ []) (λ full names. IsTerm full.signature names [] sort w t) (λ full names. IsPlace full names n w (record { kind = kind; term = t })) refl
    (λ full names k is. record { of_kind = of_kind full k; sort = sort; kind_sort = of_sort full k; of_term = is }) (made-term def a b sort w t h)

pub rest-made : (def : Definition) (a b : List LineVariable) (l : ℕ) (h : SpecimenHole) (w : LinePlace) (whole : Option LinePlace) → whole ≡ Some w → h.kind ≡ kinds.List l → IsMade def a b (h.term ∷ []) (λ full names. IsPlace full names w.kind w.term h)
    → IsMade def a b (hole_terms (rest_hole (Some h))) (λ full names. RestFits full names l (Some h) whole)
rest-made def a b l h w whole e of_list m =
    subst (λ o. IsMade def a b (h.term ∷ []) (λ full names. RestFits full names l (Some h) o)) (sym e)
    (made-as def a b (h.term ∷ []) (h.term ∷ []) (λ full names. IsPlace full names w.kind w.term h) (λ full names. RestFits full names l (Some h) (Some w)) refl (λ full names k is. (of_list, is)) m)

-- the parts one by one
hole_terms-append : (xs ys : List SpecimenHole) → hole_terms (xs ++ ys) ≡ hole_terms xs ++ hole_terms ys
hole_terms-append xs ys = map-append (λ (h : SpecimenHole). h.term) xs ys

part_terms-snoc : (ps : List SpecimenPart) (p : SpecimenPart) → part_terms (ps ++ p ∷ []) ≡ part_terms ps ++ hole_terms (holes_of_part p)
part_terms-snoc [] p = append-nil (hole_terms (holes_of_part p))
part_terms-snoc (q ∷ ps) p = ap (λ l. hole_terms (holes_of_part q) ++ l) (part_terms-snoc ps p) ∙ sym (append_assoc (hole_terms (holes_of_part q)) (part_terms ps) (hole_terms (holes_of_part p)))

element_terms-snoc : (es : List Specimen) (s : Specimen) → element_terms (es ++ s ∷ []) ≡ element_terms es ++ hole_terms (holes_of s)
element_terms-snoc [] s = append-nil (hole_terms (holes_of s))
element_terms-snoc (e ∷ es) s = ap (λ l. hole_terms (holes_of e) ++ l) (element_terms-snoc es s) ∙ sym (append_assoc (hole_terms (holes_of e)) (element_terms es) (hole_terms (holes_of s)))

fit-snoc : (full : Definition) (names : List Name) (is : List Item) (ps : List SpecimenPart) (ws : List LinePart) (i : Item) (p : SpecimenPart) (w : LinePart) → PartsFit full names is ps ws → PartFits full names i p w
    → PartsFit full names (is ++ i ∷ []) (ps ++ p ∷ []) (ws ++ w ∷ [])
fit-snoc full names [] [] ws i p w h k = (w, [], ap (λ l. l ++ w ∷ []) h, k, refl)
fit-snoc full names [] (q ∷ ps) ws i p w h k = absurd h
fit-snoc full names (j ∷ is) [] ws i p w h k = absurd h
fit-snoc full names (j ∷ is) (q ∷ ps) ws i p w (v, more, e, one, rest) k = (v, more ++ w ∷ [], ap (λ l. l ++ w ∷ []) e, one, fit-snoc full names is ps more i p w rest k)

elements-snoc : (full : Definition) (names : List Name) (l : ℕ) (ss : List Specimen) (ws : List WrittenTree) (s : Specimen) (w : WrittenTree) → ElementsFit full names l ss ws → IsTree full names (kinds.Phylum l) s w
    → ElementsFit full names l (ss ++ s ∷ []) (ws ++ w ∷ [])
elements-snoc full names l [] ws s w h k = (w, [], ap (λ l. l ++ w ∷ []) h, k, refl)
elements-snoc full names l (r ∷ ss) ws s w (v, more, e, one, rest) k = (v, more ++ w ∷ [], ap (λ l. l ++ w ∷ []) e, one, elements-snoc full names l ss more s w rest k)

abbrev pub items_now : List (Bor Item) → List Item
items_now items = map (λ (b : Bor Item). b.now) items

pub parts-next : (def : Definition) (a b c : List LineVariable) (items : List (Bor Item)) (ws : List LinePart) (old new : List SpecimenPart) (i : ℕ) (x : Bor Item) (w : LinePart) (p : SpecimenPart)
    → length items ≡ length ws → x ≡ get_or items i x → i < length ws → w ≡ get_or ws i w → new ≡ old ++ p ∷ []
    → IsMade def a b (part_terms old) (λ full names. PartsFit full names (items_now (take i items)) old (take i ws))
    → IsMade def b c (hole_terms (holes_of_part p)) (λ full names. PartFits full names x.now p w)
    → IsMade def a c (part_terms new) (λ full names. PartsFit full names (items_now (take (i + 1) items)) new (take (i + 1) ws))
parts-next def a b c items ws old new i x w p same atx lt at e h k =
    let more_items : items_now (take (i + 1) items) ≡ items_now (take i items) ++ x.now ∷ [] =
    ap items_now (take_item items i x (omega arith) atx) ∙ map-append (λ (b : Bor Item). b.now) (take i items) (x ∷ []) in
    subst (λ l. IsMade def a c (part_terms new) (λ full names. PartsFit full names l new (take (i + 1) ws))) (sym more_items)
    (subst (λ l. IsMade def a c (part_terms new) (λ full names. PartsFit full names (items_now (take i items) ++ x.now ∷ []) new l)) (sym (take_item ws i w lt at))
    (subst (λ l. IsMade def a c (part_terms l) (λ full names. PartsFit full names (items_now (take i items) ++ x.now ∷ []) l (take i ws ++ w ∷ []))) (sym e)
    (made-as def a c (part_terms old ++ hole_terms (holes_of_part p)) (part_terms (old ++ p ∷ []))
    (λ full names. PartsFit full names (items_now (take i items)) old (take i ws) × PartFits full names x.now p w)
    (λ full names. PartsFit full names (items_now (take i items) ++ x.now ∷ []) (old ++ p ∷ []) (take i ws ++ w ∷ []))
    (sym (part_terms-snoc old p)) (λ full names keeps both. fit-snoc full names (items_now (take i items)) old (take i ws) x.now p w both.0 both.1)
    (made-both def a b c (part_terms old) (hole_terms (holes_of_part p)) _ _ h k))))

pub parts-all : (def : Definition) (a b : List LineVariable) (items : List (Bor Item)) (ws : List LinePart) (made : List SpecimenPart) (i : ℕ) → length items ≡ length ws → length ws ≤ i
    → IsMade def a b (part_terms made) (λ full names. PartsFit full names (items_now (take i items)) made (take i ws)) → IsMade def a b (part_terms made) (λ full names. PartsFit full names (items_now items) made ws)
parts-all def a b items ws made i same le h =
    subst (λ l. IsMade def a b (part_terms made) (λ full names. PartsFit full names (items_now l) made ws)) (take_all i items (omega arith))
    (subst (λ l. IsMade def a b (part_terms made) (λ full names. PartsFit full names (items_now (take i items)) made l)) (take_all i ws le) h)

pub elements-next : (def : Definition) (a b c : List LineVariable) (l : ℕ) (ws : List WrittenTree) (old new : List Specimen) (i : ℕ) (w : WrittenTree) (s : Specimen)
    → i < length ws → w ≡ get_or ws i w → new ≡ old ++ s ∷ []
    → IsMade def a b (element_terms old) (λ full names. ElementsFit full names l old (take i ws))
    → IsMade def b c (terms_of def s) (λ full names. IsTree full names (kinds.Phylum l) s w)
    → IsMade def a c (element_terms new) (λ full names. ElementsFit full names l new (take (i + 1) ws))
elements-next def a b c l ws old new i w s lt at e h k =
    subst (λ r. IsMade def a c (element_terms new) (λ full names. ElementsFit full names l new r)) (sym (take_item ws i w lt at))
    (subst (λ r. IsMade def a c (element_terms r) (λ full names. ElementsFit full names l r (take i ws ++ w ∷ []))) (sym e)
    (made-as def a c (element_terms old ++ hole_terms (holes_of s)) (element_terms (old ++ s ∷ []))
    (λ full names. ElementsFit full names l old (take i ws) × IsTree full names (kinds.Phylum l) s w)
    (λ full names. ElementsFit full names l (old ++ s ∷ []) (take i ws ++ w ∷ []))
    (sym (element_terms-snoc old s)) (λ full names keeps both. elements-snoc full names l old (take i ws) s w both.0 both.1)
    (made-both def a b c (element_terms old) (hole_terms (holes_of s)) _ _ h k)))

-- rows of parts and of elements
parts-of-row : (full : Definition) (names : List Name) (is : List Item) (n : Count) (row : Row_of-SpecimenPart n) (ws : List LinePart) (front : WrittenTree) → PartsFit full names is (items-the_row-SpecimenPart n row) ws
    → AreParts full names is row front (with_parts front ws)
parts-of-row full names [] n end_of-SpecimenPart ws front h = ap (with_parts front) h
parts-of-row full names [] n (more_of-SpecimenPart p rest) ws front h = absurd h
parts-of-row full names (i ∷ is) n end_of-SpecimenPart ws front h = absurd h
parts-of-row full names (i ∷ is) n (more_of-SpecimenPart p rest) ws front (w, more, e, one, fit) =
    subst (λ l. AreParts full names (i ∷ is) (more_of-SpecimenPart p rest) front (with_parts front l)) (sym e)
    (with_part front w, one front, parts-of-row full names is _ rest more (with_part front w) fit)

terms-of-row : (n : Count) (row : Row_of-SpecimenPart n) → hole_terms (holes_of_row row) ≡ part_terms (items-the_row-SpecimenPart n row)
terms-of-row n end_of-SpecimenPart = refl
terms-of-row n (more_of-SpecimenPart p rest) = hole_terms-append (holes_of_part p) (holes_of_row rest) ∙ ap (λ l. hole_terms (holes_of_part p) ++ l) (terms-of-row _ rest)

rest-is : (full : Definition) (names : List Name) (l : ℕ) (end : Option SpecimenHole) (w : Option LinePlace) → RestFits full names l end w → IsListFrom full names l end_of-Specimen end (ending w)
rest-is full names l None None h = refl
rest-is full names l None (Some w) h = absurd h
rest-is full names l (Some e) None h = absurd h
rest-is full names l (Some e) (Some w) h = (w.kind, w.term, h.0, h.1, refl)

list-of-row : (full : Definition) (names : List Name) (l : ℕ) (list : ListKind) (end : Option SpecimenHole) (w : Option LinePlace) (n : Count) (row : Row_of-Specimen n) (ws : List WrittenTree)
    → slice_get full.lists l ≡ Some list → RestFits full names l end w → ElementsFit full names list.element (items-the_row-Specimen n row) ws → IsListFrom full names l row end (list_of (ending w) ws)
list-of-row full names l list end w n end_of-Specimen ws at r h = subst (λ x. IsListFrom full names l end_of-Specimen end (list_of (ending w) x)) (sym h) (rest-is full names l end w r)
list-of-row full names l list end w n (more_of-Specimen s rest) ws at r (v, more, e, one, fit) =
    subst (λ x. IsListFrom full names l (more_of-Specimen s rest) end (list_of (ending w) x)) (sym e)
    (list, v, list_of (ending w) more, at, one, list-of-row full names l list end w _ rest more at r fit, refl)

terms-of-list : (n : Count) (row : Row_of-Specimen n) (end : Option SpecimenHole) → hole_terms (holes_of_list row end) ≡ element_terms (items-the_row-Specimen n row) ++ hole_terms (rest_hole end)
terms-of-list n end_of-Specimen end = refl
terms-of-list n (more_of-Specimen s rest) end =
    hole_terms-append (holes_of s) (holes_of_list rest end) ∙ ap (λ l. hole_terms (holes_of s) ++ l) (terms-of-list _ rest end)
    ∙ sym (append_assoc (hole_terms (holes_of s)) (element_terms (items-the_row-Specimen _ rest)) (hole_terms (rest_hole end)))

abbrev parts_row : Specimen → (n : Count) × Row_of-SpecimenPart n
parts_row (Op' o shape row) = (_, row)
parts_row _ = (_, end_of-SpecimenPart)

abbrev elements_row : Specimen → (n : Count) × Row_of-Specimen n
elements_row (List' l shape row end) = (_, row)
elements_row _ = (_, end_of-Specimen)

pub operator-made : (def : Definition) (a b : List LineVariable) (kind : Kind) (n : Name) (o : ℕ) (op : Operator) (items : List Item) (ps : List SpecimenPart) (ws : List LinePart) (w : WrittenTree)
    → with_parts (operator n) ws ≡ w → kind ≡ kinds.Phylum op.phylum → items ≡ part_items op.items → Lasts def (λ full. IsOperatorNamed full n o op)
    → IsMade def a b (part_terms ps) (λ full names. PartsFit full names items ps ws) → IsMade def a b (terms_of def (Op o ps)) (λ full names. IsTree full names kind (Op o ps) w)
operator-made def a b kind n o op items ps ws w e of_kind its named h =
    let row = parts_row (Op o ps) in
    let same = items_hidden-the_row-SpecimenPart-0 ps in
    made-as def a b (part_terms ps) (terms_of def (Op o ps)) (λ full names. PartsFit full names items ps ws) (λ full names. IsTree full names kind (Op o ps) w)
    (sym (terms-of-row row.0 row.1 ∙ ap part_terms same))
    (λ full names k fit. (
      n,
      op,
      named full k,
      of_kind,
      subst (AreParts full names (part_items op.items) row.1 (operator n)) e
          (parts-of-row full names (part_items op.items) row.0 row.1 ws (operator n) (subst (λ l. PartsFit full names (part_items op.items) l ws) (sym same) (subst (λ l. PartsFit full names l ps ws) its fit))),
    ))
    h

pub list-made : (def : Definition) (a b c : List LineVariable) (kind : Kind) (l : ℕ) (list : ListKind) (ss : List Specimen) (end : Option SpecimenHole) (ws : List WrittenTree) (rest : Option LinePlace) (w : WrittenTree)
    → list_of (ending rest) ws ≡ w → kind ≡ kinds.List l → slice_get def.lists l ≡ Some list
    → IsMade def a b (element_terms ss) (λ full names. ElementsFit full names list.element ss ws) → IsMade def b c (hole_terms (rest_hole end)) (λ full names. RestFits full names l end rest)
    → IsMade def a c (terms_of def (ListOf l ss end)) (λ full names. IsTree full names kind (ListOf l ss end) w)
list-made def a b c kind l list ss end ws rest w e of_kind at h k =
    let row = elements_row (ListOf l ss end) in
    let same = items_hidden-the_row-Specimen-1 ss in
    made-as def a c (element_terms ss ++ hole_terms (rest_hole end)) (terms_of def (ListOf l ss end))
    (λ full names. ElementsFit full names list.element ss ws × RestFits full names l end rest) (λ full names. IsTree full names kind (ListOf l ss end) w)
    (sym (terms-of-list row.0 row.1 end ∙ ap (λ x. element_terms x ++ hole_terms (rest_hole end)) same))
    (λ full names keeps fit. (
      of_kind,
      subst (IsListFrom full names l row.1 end) e
          (list-of-row full names l list end rest row.0 row.1 ws (keeps.lists l list at) fit.1 (subst (λ x. ElementsFit full names list.element x ws) (sym same) fit.0)),
    ))
    (made-both def a b c (element_terms ss) (hole_terms (rest_hole end)) _ _ h k)

pub hole-made : (def : Definition) (a b : List LineVariable) (kind : Kind) (h : SpecimenHole) (n : Name) (t : WrittenTerm) (w : WrittenTree) → trees.place n t ≡ w → h.kind ≡ kind → IsMade def a b (h.term ∷ []) (λ full names. IsPlace full names n t h)
    → IsMade def a b (terms_of def (Hole h)) (λ full names. IsTree full names kind (Hole h) w)
hole-made def a b kind h n t w e of_kind m =
    made-as def a b (h.term ∷ []) (terms_of def (Hole h)) (λ full names. IsPlace full names n t h) (λ full names. IsTree full names kind (Hole h) w) refl (λ full names k is. (n, t, of_kind, is, sym e)) m

pub slot-made : (def : Definition) (a b : List LineVariable) (i : Item) (w : LinePart) (k : Kind) (t : WrittenTree) (s : Specimen) → i ≡ slots.Slot k → w ≡ parts.Tree t → IsMade def a b (terms_of def s) (λ full names. IsTree full names k s t)
    → IsMade def a b (hole_terms (holes_of_part (Sub s))) (λ full names. PartFits full names i (Sub s) w)
slot-made def a b i w k t s e d m =
    subst (λ j. IsMade def a b (hole_terms (holes_of_part (Sub s))) (λ full names. PartFits full names j (Sub s) w)) (sym e)
    (subst (λ v. IsMade def a b (hole_terms (holes_of_part (Sub s))) (λ full names. PartFits full names (slots.Slot k) (Sub s) v)) (sym d)
    (made-as def a b (terms_of def s) (terms_of def s) (λ full names. IsTree full names k s t) (λ full names. PartFits full names (slots.Slot k) (Sub s) (parts.Tree t)) refl (λ full names keeps is front. (t, is, refl)) m))

-- items with parts
part_items-append : (xs ys : List Item) → part_items (xs ++ ys) ≡ part_items xs ++ part_items ys
part_items-append [] ys = refl
part_items-append (x ∷ xs) ys =
    elim (is_part x) as (λ b. cond b (x ∷ part_items (xs ++ ys)) (part_items (xs ++ ys)) ≡ cond b (x ∷ part_items xs) (part_items xs) ++ part_items ys) [
      | true ↦ ap (λ l. x ∷ l) (part_items-append xs ys)
      | false ↦ part_items-append xs ys
    ]

pub items-named : (def : Definition) (items : List (Bor Item)) (all : List Item) → items_now items ≡ part_items all → AllByRecursion (IsItem def) all → AllByRecursion (λ (b : Bor Item). IsItem def b.now) items
items-named def items all e h = each items (subst (AllByRecursion (IsItem def)) (sym e) (with_parts_all all h))
  where
    with_parts_all : (xs : List Item) → AllByRecursion (IsItem def) xs → AllByRecursion (IsItem def) (part_items xs)
    with_parts_all [] h = tt
    with_parts_all (x ∷ xs) h =
        elim (is_part x) as (λ b. AllByRecursion (IsItem def) (cond b (x ∷ part_items xs) (part_items xs))) [
          | true ↦ (h.0, with_parts_all xs h.1)
          | false ↦ with_parts_all xs h.1
        ]

    each : (bs : List (Bor Item)) → AllByRecursion (IsItem def) (items_now bs) → AllByRecursion (λ (b : Bor Item). IsItem def b.now) bs
    each [] h = tt
    each (b ∷ bs) h = (h.0, each bs h.1)

pub items-taken : (items : List Item) (i : ℕ) (x : Item) (b : Bor Item) (old new : List (Bor Item)) (test : Bool) → i < length items → x ≡ get_or items i x → items_now old ≡ part_items (take i items) → new ≡ old ++ b ∷ [] → b.now ≡ x
    → test ≡ is_part x → test ≡ true → items_now new ≡ part_items (take (i + 1) items)
items-taken items i x b old new test lt at h e of_item t holds =
    ap items_now e ∙ map-append (λ (b : Bor Item). b.now) old (b ∷ []) ∙ ap₂ (λ l y. l ++ y ∷ []) h of_item
    ∙ ap (λ c. part_items (take i items) ++ cond c (x ∷ []) []) (sym holds ∙ t) ∙ sym (ap part_items (take_item items i x lt at) ∙ part_items-append (take i items) (x ∷ []))

pub items-passed : (items : List Item) (i : ℕ) (x : Item) (old new : List (Bor Item)) (test : Bool) → i < length items → x ≡ get_or items i x → items_now old ≡ part_items (take i items) → new ≡ old
    → test ≡ is_part x → test ≡ false → items_now new ≡ part_items (take (i + 1) items)
items-passed items i x old new test lt at h e t fails =
    ap items_now e ∙ h ∙ sym (append-nil (part_items (take i items)))
    ∙ ap (λ c. part_items (take i items) ++ cond c (x ∷ []) []) (sym fails ∙ t) ∙ sym (ap part_items (take_item items i x lt at) ∙ part_items-append (take i items) (x ∷ []))
