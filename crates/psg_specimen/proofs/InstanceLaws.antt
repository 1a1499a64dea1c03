-- Terms that are instances of those of hole rows.
use Rattle.std.proofs.Common.{◌≡◌, ◌≢◌, ℕ, ◌<◌, ◌==◌, not, true, eq-eqb, true≢false, List, [], ◌∷◌, length, get_or, map, slice_get, sym, ap, ◌∙◌}
use Rattle.psg_terms.proofs.Applied.{applied-substitute}
use Rattle.psg_terms.proofs.Lists.{slice_get_item}
use Rattle.psg_terms.specs.Terms.{Term, variable, symbol, applied}
use Rattle.psg_terms.specs.Instances.{substitute, IsInstance}
use Rattle.psg_terms.proofs.Nodes.{no_variable, same_constructor}
use Rattle.psg_grammar.specs.declared.types.Kind.TheVariants as kinds
use Rattle.psg_grammar.specs.declared.types.HoleRow.{HoleRow}
use Rattle.psg_grammar.specs.declared.types.SpecimenHole.{SpecimenHole}
use Rattle.psg_grammar.specs.declared.types.Definition.{Definition}
use Rattle.psg_completions.specs.Places.{IsOfOneRow}
use Rattle.psg_specimen.specs.Wanted.{IsOfRow}
use Rattle.psg_covering.proofs.Firsts.{At}

front_same : (u v : Term) → u ∷ [] ≡ v ∷ [] → u ≡ v
front_same u v e = let h : ◌≡◌ {A = List Term} (u ∷ []) (v ∷ []) = e in cc

made : (special general : Term) (c : ℕ) (xs : List Term) → general ≡ applied (symbol c) xs → (i : IsInstance (special ∷ []) (general ∷ [])) → special ≡ applied (symbol c) (map (substitute i.0) xs)
made special general c xs e (f, is) = front_same special (substitute f general) is ∙ ap (substitute f) e ∙ applied-substitute f (symbol c) xs

pub other_constructor : (special general : Term) (c d : ℕ) (xs ys : List Term) → general ≡ applied (symbol c) xs → special ≡ applied (symbol d) ys → c ≢ d → IsInstance (special ∷ []) (general ∷ []) → ⊥
other_constructor special general c d xs ys e g ne i = ne (same_constructor c d (map (substitute i.0) xs) ys (sym (made special general c xs e i) ∙ g))

pub other_variable : (special general : Term) (c s n : ℕ) (xs : List Term) → general ≡ applied (symbol c) xs → special ≡ variable s n → IsInstance (special ∷ []) (general ∷ []) → ⊥
other_variable special general c s n xs e g i = no_variable c s n (map (substitute i.0) xs) (sym (made special general c xs e i) ∙ g)

module _ (def : Definition) (place : SpecimenHole) where
  pub row_serves : (rows : List HoleRow) → rows ≡ def.hole_rows → (i : ℕ) (row : HoleRow) → i < length rows → row ≡ get_or rows i row → IsOfRow place row → IsOfOneRow def place
  row_serves rows e i row lt is of = record { number = i; row = row; chosen = ap (λ l. slice_get l i) (sym e) ∙ slice_get_item rows i row lt is; same = of.same; is = of.is }

  pub none_serves : (rows : List HoleRow) → rows ≡ def.hole_rows → ((m : ℕ) → At rows (λ row. IsOfRow place row → ⊥) m) → IsOfOneRow def place → ⊥
  none_serves rows e none one = none one.number one.row (ap (λ l. slice_get l one.number) e ∙ one.chosen) (record { same = one.same; is = one.is })

-- ---- numbers

pub unequal : (n m : ℕ) → not (n == m) ≡ true → n ≢ m
unequal n m h e = true≢false (sym h ∙ ap not (eq-eqb n m e))
