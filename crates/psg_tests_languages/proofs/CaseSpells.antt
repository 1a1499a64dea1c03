-- The bytes of a file spell its definition, and no definition that numbers the variables of a line otherwise.
use Rattle.std.proofs.Common.{◌≡◌, ℕ, [], ◌∷◌, refl, sym, ap, ◌∙◌, subst, inl, inr, arith}
use Rattle.psg_terms.specs.Terms.{variable}
use Rattle.psg_terms.specs.Canonical.{first_occurrences, IsNumberedFrom}
use Rattle.psg_grammar.specs.declared.types.Row.{Row}
use Rattle.psg_grammar.specs.declared.types.ListKind.{ListKind}
use Rattle.psg_grammar.specs.declared.types.Definition.{Definition}
use Rattle.psg_grammar.proofs.CaseLanguage.{row_of}
use Rattle.psg_deflines.specs.Entries.{written}
use Rattle.psg_defnumber.specs.Numbers.{IsNumbered}
use Rattle.psg_defread.specs.Reading.{Spells}
use Rattle.psg_tests_languages.proofs.CaseFile.{file, entries, all, boxes}
use Rattle.psg_tests_languages.proofs.CaseSpelled.{file_utf8, spelled}
use Rattle.psg_tests_languages.proofs.CaseNumbered.{numbered}

spells : Spells file boxes
spells = record { utf8 = file_utf8; version = 1; entries = entries; spelled = spelled; numbered = numbered }

-- ---- `?rest` as variable 2 and `?x` as variable 1

abbrev swapped_row : Row
swapped_row = row_of (variable 0 2) (variable 0 1 ∷ variable 0 2 ∷ [])

abbrev swapped_list : ListKind
swapped_list = record all { cell_rows = swapped_row ∷ [] }

abbrev swapped : Definition
swapped = record boxes { lists = swapped_list ∷ [] }

-- the first variable of a line is variable 1
no_first_two : (row : Row) → row ≡ swapped_row → IsNumberedFrom 1 (first_occurrences (row.head ∷ row.columns)) → ⊥
no_first_two row e h =
    let swapped_numbers : IsNumberedFrom 1 (first_occurrences (swapped_row.head ∷ swapped_row.columns)) = subst (λ (r : Row). IsNumberedFrom 1 (first_occurrences (r.head ∷ r.columns))) e h in
    let first : ◌≡◌ {A = ℕ} 2 1 = swapped_numbers.0 in
    absurd (omega arith)

no_swapped : IsNumbered 1 (written entries) swapped → ⊥
no_swapped h =
    let (l, rest, is, list, after) = h.lists in
    let same : l ≡ swapped_list = cc in
    elim list.cells [
      | inl (named, row, more, rows, of_row, others) ↦ no_first_two row (let first : row ∷ more ≡ swapped_row ∷ [] = sym rows ∙ ap (λ (k : ListKind). k.cell_rows) same in cc) of_row.naming.first
      | inr (other, others) ↦ other refl
    ]
