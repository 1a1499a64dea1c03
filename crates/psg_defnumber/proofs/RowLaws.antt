-- Rows, cases and declare rows, each with the variables of its own line.
use Rattle.std.proofs.Common.{◌≡◌, ℕ, List, [], ◌∷◌, refl, sym, subst, slice_get, Some}
use Rattle.psg_terms.specs.Names.{Name}
use Rattle.psg_terms.specs.Terms.{Term}
use Rattle.psg_grammar.specs.declared.types.Kind.{Kind}
use Rattle.psg_grammar.specs.declared.types.Kind.TheVariants as kinds
use Rattle.psg_grammar.specs.declared.types.Row.{Row}
use Rattle.psg_grammar.specs.declared.types.Case.{Case}
use Rattle.psg_grammar.specs.declared.types.DeclareRow.{DeclareRow}
use Rattle.psg_grammar.specs.declared.types.ListKind.{ListKind}
use Rattle.psg_grammar.specs.declared.types.Definition.{Definition}
use Rattle.psg_grammar.specs.Sound.{HasKindSort, HasSpaceSort}
use Rattle.psg_deflines.specs.WrittenTerms.{WrittenTerm}
use Rattle.psg_deflines.specs.WrittenTrees.{WrittenTree}
use Rattle.psg_defnumber.specs.Numbers.{IsTerm, AreTerms, IsTree, IsKind, IsRow, IsNil, IsCase, IsDeclareRow, IsSpaceNamed, terms_of}
use Rattle.psg_defnumber.specs.Growing.{Lasts}
use Rattle.psg_defnumber.specs.Naming.{LineVariable, IsMadeTerm, AreMadeTerms}
use Rattle.psg_defnumber.specs.Fitting.{IsMade}
use Rattle.psg_defnumber.proofs.MeetLaws.{made-none, made-snoc}
use Rattle.psg_defnumber.proofs.MadeLaws.{made-both, made-term, made-terms, made-line}

from-none : (def : Definition) (a b : List LineVariable) (row : List Term) (P : Definition → List Name → Type 0) → a ≡ [] → IsMade def a b row P → IsMade def [] b row P
from-none def a b row P e h = subst (λ x. IsMade def x b row P) e h

pub row-made : (def : Definition) (a b c : List LineVariable) (sort : ℕ) (sorts : List ℕ) (w : WrittenTerm) (ws : List WrittenTerm) (r : Row) → a ≡ [] → IsMadeTerm def.signature a b sort w r.head → AreMadeTerms def.signature b c sorts ws r.columns
    → Lasts def (λ full. IsRow full sort sorts w ws r)
row-made def a b c sort sorts w ws r e h k = λ full keeps.
    let both = made-both def a b c (r.head ∷ []) r.columns (λ d names. IsTerm d.signature names [] sort w r.head) (λ d names. AreTerms d.signature names sorts ws r.columns) (made-term def a b sort w r.head h) (made-terms def b c sorts ws r.columns k) in
    let line = made-line def c (r.head ∷ r.columns) _ (from-none def a c (r.head ∷ r.columns) _ e both) full keeps in
    record { names = line.0; of_head = line.1.0; of_columns = line.1.1; naming = line.2 }

pub nil-made : (def : Definition) (a b : List LineVariable) (sort : ℕ) (w : WrittenTerm) (t : Term) → a ≡ [] → IsMadeTerm def.signature a b sort w t → Lasts def (λ full. IsNil full sort w t)
nil-made def a b sort w t e h = λ full keeps.
    let line = made-line def b (t ∷ []) (λ d names. IsTerm d.signature names [] sort w t) (from-none def a b (t ∷ []) _ e (made-term def a b sort w t h)) full keeps in
    record { names = line.0; of_term = line.1; naming = line.2 }

pub case-made : (def : Definition) (a b c : List LineVariable) (kind : Kind) (sort : ℕ) (w : WrittenTerm) (tree : WrittenTree) (one : Case) → a ≡ [] → IsMadeTerm def.signature a b sort w one.term
    → IsMade def b c (terms_of def one.specimen) (λ full names. IsTree full names kind one.specimen tree) → Lasts def (λ full. IsCase full kind sort w tree one)
case-made def a b c kind sort w tree one e h k = λ full keeps.
    let both = made-both def a b c (one.term ∷ []) (terms_of def one.specimen) (λ d names. IsTerm d.signature names [] sort w one.term) (λ d names. IsTree d names kind one.specimen tree) (made-term def a b sort w one.term h) k in
    let line = made-line def c (one.term ∷ terms_of def one.specimen) _ (from-none def a c (one.term ∷ terms_of def one.specimen) _ e both) full keeps in
    record { names = line.0; of_term = line.1.0; of_specimen = line.1.1; naming = line.2 }

pub declare-made : (def : Definition) (a b c d : List LineVariable) (named list : Name) (entity value : WrittenTerm) (tree : WrittenTree) (own : ListKind) (entities values : ℕ) (r : DeclareRow) → a ≡ [] → Lasts def (λ full. IsSpaceNamed full named r.space) → Lasts def (λ full. IsKind full list (kinds.List r.list))
    → slice_get def.lists r.list ≡ Some own → Lasts def (λ full. HasSpaceSort full r.space entities) → Lasts def (λ full. HasKindSort full (kinds.Phylum own.element) values)
    → IsMadeTerm def.signature a b entities entity r.term → IsMadeTerm def.signature b c values value r.value
    → IsMade def c d (terms_of def r.specimen) (λ full names. IsTree full names (kinds.Phylum own.element) r.specimen tree) → Lasts def (λ full. IsDeclareRow full named list entity value tree r)
declare-made def a b c d named list entity value tree own entities values r e space of_list at of_space of_values h k m = λ full keeps.
    let rest = made-both def b c d (r.value ∷ []) (terms_of def r.specimen) (λ x names. IsTerm x.signature names [] values value r.value) (λ x names. IsTree x names (kinds.Phylum own.element) r.specimen tree) (made-term def b c values value r.value k) m in
    let all = made-both def a b d (r.term ∷ []) (r.value ∷ terms_of def r.specimen) (λ x names. IsTerm x.signature names [] entities entity r.term) _ (made-term def a b entities entity r.term h) rest in
    let line = made-line def d (r.term ∷ r.value ∷ terms_of def r.specimen) _ (from-none def a d (r.term ∷ r.value ∷ terms_of def r.specimen) _ e all) full keeps in
    record {
      of_space = space full keeps;
      of_list = of_list full keeps;
      found = own;
      list_is = keeps.lists r.list own at;
      names = line.0;
      entity_sort = entities;
      space_sort = of_space full keeps;
      of_entity = line.1.0;
      value_sort = values;
      elements_sort = of_values full keeps;
      of_value = line.1.1.0;
      of_specimen = line.1.1.1;
      naming = line.2;
    }

pub cell-made : (def : Definition) (a b c d : List LineVariable) (sort elements : ℕ) (w first more : WrittenTerm) (t u v : Term) (columns : List Term) → a ≡ [] → IsMadeTerm def.signature a b sort w t → IsMadeTerm def.signature b c elements first u
    → IsMadeTerm def.signature c d sort more v → columns ≡ u ∷ v ∷ [] → Lasts def (λ full. IsRow full sort (elements ∷ sort ∷ []) w (first ∷ more ∷ []) (record { head = t; columns = columns }))
cell-made def a b c d sort elements w first more t u v columns e h k m same =
    row-made def a b d sort (elements ∷ sort ∷ []) w (first ∷ more ∷ []) (record { head = t; columns = columns }) e h
    (subst (AreMadeTerms def.signature b d (elements ∷ sort ∷ []) (first ∷ more ∷ [])) (sym same)
    (made-snoc def.signature b c d (elements ∷ []) (first ∷ []) (u ∷ []) sort more v (made-snoc def.signature b b c [] [] [] elements first u (made-none def.signature b [] refl) k) m))
