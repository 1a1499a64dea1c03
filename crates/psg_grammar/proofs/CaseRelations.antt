-- Relations in full, and their weights.
use Rattle.std.proofs.Common.{◌≡◌, ℕ, zero, suc, ◌++◌, List, [], ◌∷◌, codes, Some, refl, sym, ap, ap₂, ◌∙◌, subst, slice_get}
use Rattle.std.proofs.lemmas.Option.{none-some}
use Rattle.psg_terms.specs.Terms.{Term, symbol}
use Rattle.psg_terms.specs.Signature.{Symbol}
use Rattle.psg_terms.specs.Instances.{substitute, IsGroundInstance, IsInstance}
use Rattle.psg_terms.specs.Relations.{IsIn, first, later, IsShape}
use Rattle.psg_grammar.specs.declared.types.HoleRow.{HoleRow}
use Rattle.psg_grammar.specs.Fragments.{hole}
use Rattle.psg_grammar.specs.Relations.{IsPossible, IsRelationOf}
use Rattle.psg_grammar.specs.Steps.{HasWeights, of_node, below_hole}
use Rattle.psg_grammar.proofs.CaseLanguage.{constants, numbers, constant, hole_by}
use Rattle.psg_grammar.proofs.CaseLegal.{all_int, entities}

possible : (c k : ℕ) → slice_get constants.hole_rows k ≡ Some (hole_by (symbol c) c) → IsPossible constants (hole 0) k (symbol c ∷ [])
possible c k e = record {
  distinct = (refl, tt);
  outside = λ n. symbol 0;
  entities = entities;
  value = symbol c;
  seen = [];
  judged = record {
    inner = λ n. symbol 0;
    entities = entities;
    agree = refl;
    holds = (refl, refl, record { row = hole_by (symbol c) c; chosen = e; same = refl; value = (λ s n. symbol 0, all_int, refl) });
  };
  columns_are = refl;
}

-- what is possible for the choice k is the constant of that row alone
only : (c k : ℕ) (columns : List Term) → slice_get constants.hole_rows k ≡ Some (hole_by (symbol c) c) → IsPossible constants (hole 0) k columns → columns ≡ symbol c ∷ []
only c k columns e p =
    let (none, seen, h) = p.judged.holds in
    let (f, ground, v) = h.value in
    let same : h.row ≡ hole_by (symbol c) c = let d : Some h.row ≡ Some (hole_by (symbol c) c) = sym h.chosen ∙ e in cc in
    let value : p.value ≡ symbol c = v ∙ ap (λ (r : HoleRow). substitute f r.term) same in
    p.columns_are ∙ ap₂ (λ x xs. (x ∷ xs) ++ []) value seen

shape : (c k : ℕ) (s : Symbol) → slice_get numbers.symbols c ≡ Some s → s.arguments ≡ [] → s.sort ≡ 0 → slice_get constants.hole_rows k ≡ Some (hole_by (symbol c) c) → IsShape numbers (0 ∷ []) (IsPossible constants (hole 0)) (symbol c ∷ [])
shape c k s found none sort e = record {
  canonical = record { numbered = tt; written = (tt, tt) };
  sorted = ((s, found, none, sort), tt);
  choice = k;
  some = (symbol c ∷ [], possible c k e);
  exact = λ columns. (
    (λ (f, g, d). subst (IsPossible constants (hole 0) k) (sym d) (possible c k e)),
    (λ p. (λ s n. symbol 0, all_int, only c k columns e p)),
  );
}

-- byte order of their texts: bool, int
abbrev pub rows : List (List Term)
rows = (symbol 1 ∷ []) ∷ (symbol 0 ∷ []) ∷ []

shapes : (r : List Term) → IsIn r rows → IsShape numbers (0 ∷ []) (IsPossible constants (hole 0)) r
shapes r first = shape 1 1 (constant (codes "bool") 0) refl refl refl refl
shapes r (later first) = shape 0 0 (constant (codes "int") 0) refl refl refl refl
shapes r (later (later h)) = elim h [ ]

covers : (k : ℕ) (columns : List Term) → IsPossible constants (hole 0) k columns → (r : List Term) × IsIn r rows × ((other : List Term) → IsPossible constants (hole 0) k other → IsGroundInstance numbers r other)
covers zero columns p = (symbol 0 ∷ [], later first, λ other o. (λ s n. symbol 0, all_int, only 0 0 other refl o))
covers (suc zero) columns p = (symbol 1 ∷ [], first, λ other o. (λ s n. symbol 0, all_int, only 1 1 other refl o))
covers (suc (suc k)) columns p = absurd (none-some p.judged.holds.2.row p.judged.holds.2.chosen)

apart : (r other : List Term) → IsIn r rows → IsIn other rows → IsInstance r other → r ≡ other
apart r other first first i = refl
apart r other first (later first) (f, e) = cc
apart r other first (later (later h)) i = elim h [ ]
apart r other (later first) first (f, e) = cc
apart r other (later first) (later first) i = refl
apart r other (later first) (later (later h)) i = elim h [ ]
apart r other (later (later h)) k i = elim h [ ]

once : (x : List Term) → x ≡ symbol 1 ∷ [] → IsIn x ((symbol 0 ∷ []) ∷ []) → ⊥
once x e first = absurd (cc)
once x e (later h) = elim h [ ]

-- the placeholder has the relation of these two rows
pub relation : IsRelationOf constants (hole 0) rows
relation = (0 ∷ [], record { shapes = shapes; covers = covers; apart = apart; once = (once (symbol 1 ∷ []) refl, (λ h. elim h [ ], tt)); order = (refl, tt) })

-- which weigh two
weights : HasWeights constants (hole 0) 2
weights = of_node 0 rows below_hole relation
