-- The hole places of a specimen, by its parts and elements.
use mathlib.Core.Former.{Count}
use Rattle.std.proofs.Common.{◌≡◌, ℕ, ◌+◌, ◌<◌, ◌≤◌, List, [], ◌∷◌, ◌++◌, length, take, get_or, Option, refl, sym, ap, ◌∙◌, append-nil, append_assoc}
use Rattle.std.proofs.lemmas.List.{take_all}
use Rattle.psg_terms.proofs.Lists.{take_item}
use Rattle.psg_grammar.specs.declared.types.SpecimenHole.{SpecimenHole}
use Rattle.psg_grammar.specs.declared.types.Specimen.{Specimen, Op, Op', List as ListOf, List', Row_of-Specimen, end_of-Specimen, more_of-Specimen, Row_of-SpecimenPart, end_of-SpecimenPart, more_of-SpecimenPart, items-the_row-SpecimenPart, items_hidden-the_row-SpecimenPart-0, items-the_row-Specimen, items_hidden-the_row-Specimen-1}
use Rattle.psg_grammar.specs.declared.types.SpecimenPart.{SpecimenPart}
use Rattle.psg_grammar.specs.Specimens.{holes_of, holes_of_part, holes_of_row, holes_of_list, rest_hole}
use Rattle.psg_specimen.specs.Parts.{element_places, part_places}

part_row : (n : Count) (row : Row_of-SpecimenPart n) → holes_of_row row ≡ part_places (items-the_row-SpecimenPart n row)
part_row n end_of-SpecimenPart = refl
part_row n (more_of-SpecimenPart p rest) = ap (λ l. holes_of_part p ++ l) (part_row _ rest)

abbrev parts_row : Specimen → (n : Count) × Row_of-SpecimenPart n
parts_row (Op' o shape row) = (_, row)
parts_row _ = (_, end_of-SpecimenPart)

op_places : (o : ℕ) (ps : List SpecimenPart) → holes_of (Op o ps) ≡ part_places ps
op_places o ps = let row = parts_row (Op o ps) in part_row row.0 row.1 ∙ ap part_places (items_hidden-the_row-SpecimenPart-0 ps)

element_row : (n : Count) (row : Row_of-Specimen n) (end : Option SpecimenHole) → holes_of_list row end ≡ element_places (items-the_row-Specimen n row) ++ rest_hole end
element_row n end_of-Specimen end = refl
element_row n (more_of-Specimen s rest) end =
    ap (λ l. holes_of s ++ l) (element_row _ rest end) ∙ sym (append_assoc (holes_of s) (element_places (items-the_row-Specimen _ rest)) (rest_hole end))

abbrev elements_row : Specimen → (n : Count) × Row_of-Specimen n
elements_row (List' l shape row end) = (_, row)
elements_row _ = (_, end_of-Specimen)

list_places : (l : ℕ) (es : List Specimen) (rest : Option SpecimenHole) → holes_of (ListOf l es rest) ≡ element_places es ++ rest_hole rest
list_places l es rest = let row = elements_row (ListOf l es rest) in element_row row.0 row.1 rest ∙ ap (λ xs. element_places xs ++ rest_hole rest) (items_hidden-the_row-Specimen-1 es)

parts_snoc : (ps : List SpecimenPart) (p : SpecimenPart) → part_places (ps ++ p ∷ []) ≡ part_places ps ++ holes_of_part p
parts_snoc [] p = append-nil (holes_of_part p)
parts_snoc (q ∷ ps) p = ap (λ l. holes_of_part q ++ l) (parts_snoc ps p) ∙ sym (append_assoc (holes_of_part q) (part_places ps) (holes_of_part p))

elements_snoc : (ss : List Specimen) (s : Specimen) → element_places (ss ++ s ∷ []) ≡ element_places ss ++ holes_of s
elements_snoc [] s = append-nil (holes_of s)
elements_snoc (q ∷ ss) s = ap (λ l. holes_of q ++ l) (elements_snoc ss s) ∙ sym (append_assoc (holes_of q) (element_places ss) (holes_of s))

pub part_next : (before now after : List SpecimenHole) (ps : List SpecimenPart) (i : ℕ) (p : SpecimenPart) → i < length ps → p ≡ get_or ps i p
    → after ≡ now ++ holes_of_part p → now ≡ before ++ part_places (take i ps) → after ≡ before ++ part_places (take (i + 1) ps)
part_next before now after ps i p lt e a h =
    a ∙ ap (λ l. l ++ holes_of_part p) h ∙ append_assoc before (part_places (take i ps)) (holes_of_part p)
    ∙ ap (λ l. before ++ l) (sym (ap part_places (take_item ps i p lt e) ∙ parts_snoc (take i ps) p))

pub element_next : (before now after : List SpecimenHole) (ss : List Specimen) (i : ℕ) (s : Specimen) → i < length ss → s ≡ get_or ss i s
    → after ≡ now ++ holes_of s → now ≡ before ++ element_places (take i ss) → after ≡ before ++ element_places (take (i + 1) ss)
element_next before now after ss i s lt e a h =
    a ∙ ap (λ l. l ++ holes_of s) h ∙ append_assoc before (element_places (take i ss)) (holes_of s)
    ∙ ap (λ l. before ++ l) (sym (ap element_places (take_item ss i s lt e) ∙ elements_snoc (take i ss) s))

pub op_end : (before now : List SpecimenHole) (o : ℕ) (kept ps : List SpecimenPart) (i : ℕ) (s : Specimen) → s ≡ Op o kept → ps ≡ kept → length ps ≤ i
    → now ≡ before ++ part_places (take i ps) → now ≡ before ++ holes_of s
op_end before now o kept ps i s e k l h = h ∙ ap (λ x. before ++ x) (ap part_places (take_all i ps l ∙ k) ∙ sym (ap holes_of e ∙ op_places o kept))

pub list_end : (before now after : List SpecimenHole) (l : ℕ) (kept es : List Specimen) (rest : Option SpecimenHole) (i : ℕ) (s : Specimen) → s ≡ ListOf l kept rest → es ≡ kept → length es ≤ i
    → now ≡ before ++ element_places (take i es) → after ≡ now ++ rest_hole rest → after ≡ before ++ holes_of s
list_end before now after l kept es rest i s e k stop h a =
    a ∙ ap (λ x. x ++ rest_hole rest) (h ∙ ap (λ x. before ++ element_places x) (take_all i es stop ∙ k)) ∙ append_assoc before (element_places kept) (rest_hole rest)
    ∙ ap (λ x. before ++ x) (sym (ap holes_of e ∙ list_places l kept rest))
