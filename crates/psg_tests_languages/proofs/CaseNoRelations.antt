-- What is no relation: a row too many, a row too few, variables numbered otherwise, rows out of order.
use Rattle.std.proofs.Common.{◌≡◌, ℕ, List, [], ◌∷◌, map, refl, sym, true≢false, arith}
use Rattle.psg_terms.specs.Terms.{Term, symbol, variable}
use Rattle.psg_terms.specs.Instances.{Substitution, substitute}
use Rattle.psg_terms.specs.Relations.{IsIn, first, later}
use Rattle.psg_grammar.specs.Fragments.{hole}
use Rattle.psg_grammar.specs.Relations.{IsRelationOf}
use Rattle.psg_grammar.proofs.CaseLanguage.{spaces, constants, int, bool, ref_to}
use Rattle.psg_tests_languages.proofs.CaseNeeds.{x, int_type, bool_type, int_no_bool}
use Rattle.psg_tests_languages.proofs.CaseKeyColumns.{use_row, use_possible}

-- (int, int) is an instance of (?1, ?1)
no_instance : IsRelationOf spaces (ref_to x) ((int ∷ int ∷ []) ∷ use_row ∷ []) → ⊥
no_instance (sorts, rel) = let e : int ∷ int ∷ [] ≡ use_row = rel.apart (int ∷ int ∷ []) use_row first (later first) (λ s n. int, refl) in cc

-- (?1, ?1) twice
no_repeat : IsRelationOf spaces (ref_to x) (use_row ∷ use_row ∷ []) → ⊥
no_repeat (sorts, rel) = rel.once.0 first

-- a use has a value
no_empty : IsRelationOf spaces (ref_to x) [] → ⊥
no_empty (sorts, rel) = let (row, among, all) = rel.covers 0 (int ∷ int ∷ []) (use_possible int int_type) in elim among [ ]

-- (int, int) alone is no shape, since a bool is possible too
no_int_alone : IsRelationOf spaces (ref_to x) ((int ∷ int ∷ []) ∷ []) → ⊥
no_int_alone (sorts, rel) =
    let (row, among, all) = rel.covers 0 (int ∷ int ∷ []) (use_possible int int_type) in
    let (f, g, e) = all (bool ∷ bool ∷ []) (use_possible bool bool_type) in
    only row among f e
  where
    only : (row : List Term) → IsIn row ((int ∷ int ∷ []) ∷ []) → (f : Substitution) → bool ∷ bool ∷ [] ≡ map (substitute f) row → ⊥
    only row first f e = let same : bool ≡ int = cc in int_no_bool (sym same)
    only row (later h) f e = elim h [ ]

-- (?2, ?2) is not canonical
no_other_number : IsRelationOf spaces (ref_to x) ((variable 1 2 ∷ variable 1 2 ∷ []) ∷ []) → ⊥
no_other_number (sorts, rel) =
    let h = (rel.shapes (variable 1 2 ∷ variable 1 2 ∷ []) first).canonical.numbered in
    let e : ◌≡◌ {A = ℕ} 2 1 = h.0 in
    absurd (omega arith)

-- int, bool is not the order of the texts
no_other_order : IsRelationOf constants (hole 0) ((symbol 0 ∷ []) ∷ (symbol 1 ∷ []) ∷ []) → ⊥
no_other_order (sorts, rel) = true≢false (sym rel.order.0)
