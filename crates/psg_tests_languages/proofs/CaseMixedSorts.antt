-- A variable at a place of a sort with one constant and at one of another sort: the line has a row, and the test of sorts refuses it.
use Rattle.std.proofs.Common.{◌≡◌, ◌∙◌, List, [], ◌∷◌, codes, Some, refl, sym, ap, bytes_eq, true≢false, inl, inr}
use Rattle.psg_terms.specs.Names.{Name}
use Rattle.psg_terms.specs.Terms as terms
use Rattle.psg_grammar.proofs.CaseLanguage.{spaces, ok, int, row_of}
use Rattle.psg_deflines.specs.WrittenTerms.{variable, named}
use Rattle.psg_deflines.specs.declared.lines.Line.{Line}
use Rattle.psg_defcheck.specs.Meanings.{SortAll}
use Rattle.psg_defnumber.specs.Numbers.{IsRow}

-- `row int : ?a ?a` with columns of the sorts Unit and Ty: the first ?a is the constant ok and takes no number
mixed_row : IsRow spaces 1 (0 ∷ 1 ∷ []) (named (codes "int")) (variable (codes "a") ∷ variable (codes "a") ∷ []) (row_of int (ok ∷ terms.variable 1 1 ∷ []))
mixed_row = record {
  names = codes "a" ∷ [];
  of_head = (1, _, refl, refl, refl, refl, refl);
  of_columns = (ok, terms.variable 1 1 ∷ [], (refl, inl (0, refl, refl)), (terms.variable 1 1, [], (refl, inr (0, refl, refl, refl)), refl, refl), refl);
  naming = record { once = refl; first = (refl, tt) };
}

-- no sort of ?a fits both places, so the line has a fault
no_sorts : (file : List Line) (sorts : Name → Name) → SortAll file sorts (Some (codes "Unit") ∷ Some (codes "Ty") ∷ []) (variable (codes "a") ∷ variable (codes "a") ∷ []) → ⊥
no_sorts file sorts (one, (two, rest)) = let e : codes "Unit" ≡ codes "Ty" = sym one ∙ two in true≢false (ap (λ (n : Name). bytes_eq n (codes "Unit")) e)
