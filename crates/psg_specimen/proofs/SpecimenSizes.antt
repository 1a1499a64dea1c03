-- How large specimens are: the parts and elements of one are smaller.
use mathlib.Core.Former.{Count}
use Rattle.std.proofs.Common.{◌≡◌, ℕ, zero, suc, ◌+◌, ◌<◌, List, [], ◌∷◌, length, get_or, Option, refl, sym, ap, ◌∙◌, arith}
use Rattle.psg_grammar.specs.declared.types.SpecimenHole.{SpecimenHole}
use Rattle.psg_grammar.specs.declared.types.Specimen.{Specimen, Op, Op', List as ListOf, List', Hole, Row_of-Specimen, end_of-Specimen, more_of-Specimen, Row_of-SpecimenPart, end_of-SpecimenPart, more_of-SpecimenPart, items-the_row-SpecimenPart, items_hidden-the_row-SpecimenPart-0, items-the_row-Specimen, items_hidden-the_row-Specimen-1}
use Rattle.psg_grammar.specs.declared.types.SpecimenPart.{SpecimenPart, Sub, Name, Number, Text}

abbrev mutual
  pub size : Specimen → ℕ
  size (Op' o shape parts) = 1 + row_size parts
  size (List' l shape elements rest) = 1 + list_size elements
  size (Hole h) = 0

  pub part_size : SpecimenPart → ℕ
  part_size (Sub s) = 1 + size s
  part_size (Name n) = 0
  part_size (Number n) = 0
  part_size (Text t) = 0

  pub row_size : {m : _} → Row_of-SpecimenPart m → ℕ
  row_size end_of-SpecimenPart = 0
  row_size (more_of-SpecimenPart p rest) = part_size p + row_size rest

  pub list_size : {m : _} → Row_of-Specimen m → ℕ
  list_size end_of-Specimen = 0
  list_size (more_of-Specimen s rest) = size s + list_size rest

abbrev parts_size : List SpecimenPart → ℕ
parts_size [] = 0
parts_size (p ∷ ps) = part_size p + parts_size ps

abbrev elements_size : List Specimen → ℕ
elements_size [] = 0
elements_size (s ∷ ss) = size s + elements_size ss

part_row : (n : Count) (row : Row_of-SpecimenPart n) → row_size row ≡ parts_size (items-the_row-SpecimenPart n row)
part_row n end_of-SpecimenPart = refl
part_row n (more_of-SpecimenPart p rest) = ap (λ k. part_size p + k) (part_row _ rest)

abbrev parts_row : Specimen → (n : Count) × Row_of-SpecimenPart n
parts_row (Op' o shape row) = (_, row)
parts_row _ = (_, end_of-SpecimenPart)

op_size : (o : ℕ) (ps : List SpecimenPart) → size (Op o ps) ≡ 1 + parts_size ps
op_size o ps = let row = parts_row (Op o ps) in ap (λ k. 1 + k) (part_row row.0 row.1 ∙ ap parts_size (items_hidden-the_row-SpecimenPart-0 ps))

element_row : (n : Count) (row : Row_of-Specimen n) → list_size row ≡ elements_size (items-the_row-Specimen n row)
element_row n end_of-Specimen = refl
element_row n (more_of-Specimen s rest) = ap (λ k. size s + k) (element_row _ rest)

abbrev elements_row : Specimen → (n : Count) × Row_of-Specimen n
elements_row (List' l shape row end) = (_, row)
elements_row _ = (_, end_of-Specimen)

list_of_size : (l : ℕ) (es : List Specimen) (rest : Option SpecimenHole) → size (ListOf l es rest) ≡ 1 + elements_size es
list_of_size l es rest = let row = elements_row (ListOf l es rest) in ap (λ k. 1 + k) (element_row row.0 row.1 ∙ ap elements_size (items_hidden-the_row-Specimen-1 es))

part_at : (ps : List SpecimenPart) (i : ℕ) (p : SpecimenPart) → i < length ps → p ≡ get_or ps i p → part_size p < 1 + parts_size ps
part_at [] i p lt e = absurd (omega (arith, lt))
part_at (q ∷ ps) zero p lt e = let same = ap part_size e in omega (arith, same)
part_at (q ∷ ps) (suc i) p lt e = let h = part_at ps i p (omega (arith, lt)) e in omega (arith, h)

element_at : (ss : List Specimen) (i : ℕ) (s : Specimen) → i < length ss → s ≡ get_or ss i s → size s < 1 + elements_size ss
element_at [] i s lt e = absurd (omega (arith, lt))
element_at (t ∷ ss) zero s lt e = let same = ap size e in omega (arith, same)
element_at (t ∷ ss) (suc i) s lt e = let h = element_at ss i s (omega (arith, lt)) e in omega (arith, h)

pub part_below : (o : ℕ) (kept ps : List SpecimenPart) (spec : Specimen) (i : ℕ) (p : SpecimenPart) → spec ≡ Op o kept → ps ≡ kept → i < length ps → p ≡ get_or ps i p → part_size p < size spec
part_below o kept ps spec i p is same lt e =
    let whole : size spec ≡ 1 + parts_size ps = ap size is ∙ op_size o kept ∙ ap (λ xs. 1 + parts_size xs) (sym same) in
    let h = part_at ps i p lt e in omega (arith, whole, h)

pub element_below : (l : ℕ) (kept es : List Specimen) (rest : Option SpecimenHole) (spec : Specimen) (i : ℕ) (s : Specimen) → spec ≡ ListOf l kept rest → es ≡ kept → i < length es → s ≡ get_or es i s → size s < size spec
element_below l kept es rest spec i s is same lt e =
    let whole : size spec ≡ 1 + elements_size es = ap size is ∙ list_of_size l kept rest ∙ ap (λ xs. 1 + elements_size xs) (sym same) in
    let h = element_at es i s lt e in omega (arith, whole, h)

pub sub_below : (p : SpecimenPart) (s : Specimen) → p ≡ Sub s → size s < part_size p
sub_below p s is = let e = ap part_size is in omega (arith, e)
