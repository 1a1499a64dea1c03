-- Two definitions of one file have the same rows.
use Rattle.std.proofs.Common.{◌≡◌, ℕ, List, [], ◌∷◌, ap, ap₂, sym, ◌∙◌, subst, inl, inr, Option, Some, None, slice_get}
use Rattle.psg_terms.proofs.Lists.{slice_get_once}
use Rattle.psg_terms.specs.Names.{Name}
use Rattle.psg_terms.specs.Terms.{Term}
use Rattle.psg_terms.specs.Canonical.{variables, variables_of, first_occurrences}
use Rattle.psg_terms.proofs.Unique.{each-front}
use Rattle.psg_terms.proofs.RenamingLaws.{IsAmong, among-noted_all}
use Rattle.psg_grammar.specs.declared.types.Kind.{Kind}
use Rattle.psg_grammar.specs.declared.types.Kind.TheVariants as kinds
use Rattle.psg_grammar.specs.declared.types.Item.{Item}
use Rattle.psg_grammar.specs.declared.types.Item.TheVariants as made
use Rattle.psg_grammar.specs.declared.types.Row.{Row}
use Rattle.psg_grammar.specs.declared.types.Space.{Space}
use Rattle.psg_grammar.specs.declared.types.Case.{Case}
use Rattle.psg_grammar.specs.declared.types.HoleRow.{HoleRow}
use Rattle.psg_grammar.specs.declared.types.DeclareRow.{DeclareRow}
use Rattle.psg_grammar.specs.declared.types.Definition.{Definition}
use Rattle.psg_grammar.specs.Sound.{HasKindSort, HasSpaceSort, AreColumns}
use Rattle.psg_grammar.specs.Specimens.{holes_of}
use Rattle.psg_deflines.specs.WrittenTerms.{WrittenTerm}
use Rattle.psg_deflines.specs.WrittenTrees.{WrittenTree}
use Rattle.psg_deflines.specs.declared.lines.Line.{Line}
use Rattle.psg_deflines.specs.declared.lines.Line.TheVariants as lines
use Rattle.psg_defnumber.specs.Numbers.{IsTerm, IsTree, IsRow, AreRows, IsNil, AreNils, AreCells, terms_of, IsCase, AreCases, HasCases, IsHoleRow, AreHoleRows, IsDeclareRow, AreDeclareRows}
use Rattle.psg_defnumber.proofs.OnceTerms.{one_row, row_fixes}
use Rattle.psg_defnumber.proofs.OnceTrees.{Agree, tree-same, known-holes}

module _ (x y : Definition) (agree : Agree x y) (spaces : x.spaces ≡ y.spaces) where
  space-same : (n s r : ℕ) → HasSpaceSort x n s → HasSpaceSort y n r → s ≡ r
  space-same n s r (f, at, e) (g, at', e') =
      let same = slice_get_once y.spaces n f g (ap (λ z. slice_get z n) (sym spaces) ∙ at) at' in
      sym e ∙ ap (λ (z : Space). z.sort.0) same ∙ e'

  pub columns-same : (is : List Item) (ss rs : List ℕ) → AreColumns x is ss → AreColumns y is rs → ss ≡ rs
  columns-same [] ss rs h k = h ∙ sym k
  columns-same (made.Slot k ∷ rest) ss rs (s, more, e, h, hr) (r, others, f, g, hs) =
      e ∙ ap₂ (λ z zs. z ∷ zs) (agree.sort k s r h g) (columns-same rest more others hr hs) ∙ sym f
  columns-same (made.Refers n ∷ rest) ss rs (s, more, e, h, hr) (r, others, f, g, hs) =
      e ∙ ap₂ (λ z zs. z ∷ zs) (space-same n s r h g) (columns-same rest more others hr hs) ∙ sym f
  columns-same (made.Declares n ∷ rest) ss rs (s, more, e, h, hr) (r, others, f, g, hs) =
      e ∙ ap₂ (λ z zs. z ∷ zs) (space-same n s r h g) (columns-same rest more others hr hs) ∙ sym f
  columns-same (_ ∷ rest) ss rs h k = columns-same rest ss rs h k

  row-same : (head : ℕ) (sorts : List ℕ) (w : WrittenTerm) (ws : List WrittenTerm) (p q : Row)
      → IsRow x head sorts w ws p → IsRow y head sorts w ws q → p ≡ q
  row-same head sorts w ws p q h k =
      let same = one_row h.names k.names (p.head ∷ p.columns) (q.head ∷ q.columns) h.naming k.naming (
        agree.term h.names k.names w head p.head q.head h.of_head k.of_head,
        agree.columns h.names k.names sorts ws p.columns q.columns h.of_columns k.of_columns,
      ) in
      let heads : p.head ≡ q.head = cc in
      let columns : p.columns ≡ q.columns = cc in
      λ i. record { head = heads i; columns = columns i }

  pub rows-same : (head : ℕ) (sorts : List ℕ) (behind : List Line) (ps qs : List Row)
      → AreRows x head sorts behind ps → AreRows y head sorts behind qs → ps ≡ qs
  rows-same head sorts [] ps qs h k = h ∙ sym k
  rows-same head sorts (lines.Operator name phylum scope level parts ∷ behind) ps qs h k = h ∙ sym k
  rows-same head sorts (lines.Row w ws ∷ behind) ps qs (p, rest, e, h, hr) (q, more, f, k, hs) =
      e ∙ ap₂ (λ z zs. z ∷ zs) (row-same head sorts w ws p q h k) (rows-same head sorts behind rest more hr hs) ∙ sym f
  rows-same head sorts (_ ∷ behind) ps qs h k = rows-same head sorts behind ps qs h k

  nil-same : (sort : ℕ) (w : WrittenTerm) (t u : Term) → IsNil x sort w t → IsNil y sort w u → t ≡ u
  nil-same sort w t u h k =
      let same = one_row h.names k.names (t ∷ []) (u ∷ []) h.naming k.naming
      (agree.term h.names k.names w sort t u h.of_term k.of_term, tt) in cc

  pub nils-same : (list : Name) (sort : ℕ) (behind : List Line) (ps qs : List Term)
      → AreNils x list sort behind ps → AreNils y list sort behind qs → ps ≡ qs
  nils-same list sort [] ps qs h k = h ∙ sym k
  nils-same list sort (lines.Nil of_list w ∷ behind) ps qs (inl (own, t, rest, e, h, hr)) (inl (
    own',
    u,
    more,
    f,
    k,
    hs,
  )) =
      e ∙ ap₂ (λ z zs. z ∷ zs) (nil-same sort w t u h k) (nils-same list sort behind rest more hr hs) ∙ sym f
  nils-same list sort (lines.Nil of_list w ∷ behind) ps qs (inl h) (inr k) = absurd (k.0 h.0)
  nils-same list sort (lines.Nil of_list w ∷ behind) ps qs (inr h) (inl k) = absurd (h.0 k.0)
  nils-same list sort (lines.Nil of_list w ∷ behind) ps qs (inr h) (inr k) = nils-same list sort behind ps qs h.1 k.1
  nils-same list sort (_ ∷ behind) ps qs h k = nils-same list sort behind ps qs h k

  pub cells-same : (list : Name) (sort elements : ℕ) (behind : List Line) (ps qs : List Row)
      → AreCells x list sort elements behind ps → AreCells y list sort elements behind qs → ps ≡ qs
  cells-same list sort elements [] ps qs h k = h ∙ sym k
  cells-same list sort elements (lines.Cell of_list w first next ∷ behind) ps qs (inl (own, p, rest, e, h, hr))
      (inl (own', q, more, f, k, hs)) =
      e ∙ ap₂ (λ z zs. z ∷ zs) (row-same sort (elements ∷ sort ∷ []) w (first ∷ next ∷ []) p q h k)
      (cells-same list sort elements behind rest more hr hs) ∙ sym f
  cells-same list sort elements (lines.Cell of_list w first next ∷ behind) ps qs (inl h) (inr k) = absurd (k.0 h.0)
  cells-same list sort elements (lines.Cell of_list w first next ∷ behind) ps qs (inr h) (inl k) = absurd (h.0 k.0)
  cells-same list sort elements (lines.Cell of_list w first next ∷ behind) ps qs (inr h)
      (inr k) = cells-same list sort elements behind ps qs h.1 k.1
  cells-same list sort elements (_ ∷ behind) ps qs h k = cells-same list sort elements behind ps qs h k

  case-same : (kind : Kind) (sort : ℕ) (w : WrittenTerm) (tree : WrittenTree) (p q : Case)
      → IsCase x kind sort w tree p → IsCase y kind sort w tree q → p ≡ q
  case-same kind sort w tree p q h k =
      let specimens = tree-same x y agree h.names k.names kind p.specimen q.specimen tree h.of_specimen k.of_specimen in
      let alike = agree.term h.names k.names w sort p.term q.term h.of_term k.of_term in
      let row = p.term ∷ terms_of x p.specimen in
      let fixes = row_fixes h.names k.names row (q.term ∷ terms_of y q.specimen) h.naming k.naming
      (alike, specimens.alike) in
      let known = each-front (IsAmong (first_occurrences row)) (variables p.term) (variables_of
      (terms_of x p.specimen)) (among-noted_all [] (variables_of row)) in
      let term = fixes p.term q.term alike known.0 in
      let specimen = specimens.same (first_occurrences row) fixes (known-holes (first_occurrences row)
      (holes_of p.specimen) known.1) in
      λ i. record { term = term i; specimen = specimen i }

  cases-same : (kind : Kind) (sort : ℕ) (behind : List Line) (ps qs : List Case)
      → AreCases x kind sort behind ps → AreCases y kind sort behind qs → ps ≡ qs
  cases-same kind sort [] ps qs h k = h ∙ sym k
  cases-same kind sort (lines.Hole of_kind w specimen ∷ behind) ps qs h k = h ∙ sym k
  cases-same kind sort (lines.Case w specimen ∷ behind) ps qs (p, rest, e, h, hr) (q, more, f, k, hs) =
      e ∙ ap₂ (λ z zs. z ∷ zs) (case-same kind sort w specimen p q h k)
      (cases-same kind sort behind rest more hr hs) ∙ sym f
  cases-same kind sort (_ ∷ behind) ps qs h k = cases-same kind sort behind ps qs h k

  has_cases-same : (kind : Kind) (sort : ℕ) (w : WrittenTerm) (tree : Option WrittenTree) (behind : List Line)
      (t u : Term) (ps qs : List Case) → HasCases x kind sort w tree behind t ps
      → HasCases y kind sort w tree behind u qs → (t ≡ u) × (ps ≡ qs)
  has_cases-same kind sort w (Some tree) behind t u ps qs (p, e, term, h) (q, f, term', k) =
      let same = case-same kind sort w tree p q h k in
      (sym term ∙ ap (λ (z : Case). z.term) same ∙ term', e ∙ ap (λ z. z ∷ []) same ∙ sym f)
  has_cases-same kind sort w None behind t u ps qs h k = (
    nil-same sort w t u h.0 k.0,
    cases-same kind sort behind ps qs h.1 k.1,
  )

  hole_row-same : (kind : Name) (w : WrittenTerm) (tree : Option WrittenTree) (behind : List Line)
      (p q : HoleRow) → IsHoleRow x kind w tree behind p → IsHoleRow y kind w tree behind q → p ≡ q
  hole_row-same kind w tree behind p q h k =
      let kinds-same = agree.kind kind p.kind q.kind h.of_kind k.of_kind in
      let sorts = agree.sort q.kind h.sort k.sort (subst
      (λ z. HasKindSort x z h.sort) kinds-same h.kind_sort) k.kind_sort in
      let both = has_cases-same q.kind k.sort w tree behind p.term q.term p.cases q.cases
      (subst (λ z. HasCases x q.kind z w tree behind p.term p.cases) sorts (subst
      (λ z. HasCases x z h.sort w tree behind p.term p.cases) kinds-same h.has_cases)) k.has_cases in
      λ i. record { kind = kinds-same i; term = both.0 i; cases = both.1 i }

  pub hole_rows-same : (behind : List Line) (ps qs : List HoleRow) → AreHoleRows x behind ps
      → AreHoleRows y behind qs → ps ≡ qs
  hole_rows-same [] ps qs h k = h ∙ sym k
  hole_rows-same (lines.Hole kind w specimen ∷ behind) ps qs (p, rest, e, h, hr) (q, more, f, k, hs) =
      e ∙ ap₂ (λ z zs. z ∷ zs) (hole_row-same kind w specimen behind p q h k)
      (hole_rows-same behind rest more hr hs) ∙ sym f
  hole_rows-same (_ ∷ behind) ps qs h k = hole_rows-same behind ps qs h k

  list-number : (n : Name) (l r : ℕ) → kinds.List l ≡ kinds.List r → l ≡ r
  list-number n l r e = cc

  declare_row-same : (named list : Name) (entity value : WrittenTerm) (tree : WrittenTree) (p q : DeclareRow)
      → IsDeclareRow x named list entity value tree p → IsDeclareRow y named list entity value tree q → p ≡ q
  declare_row-same named list entity value tree p q h k =
      let number = list-number list p.list q.list (agree.kind list (kinds.List p.list)
      (kinds.List q.list) h.of_list k.of_list) in
      let element = agree.element q.list h.found k.found (subst
      (λ z. slice_get x.lists z ≡ Some h.found) number h.list_is) k.list_is in
      let spaces-equal = agree.space named p.space q.space h.of_space k.of_space in
      let entity_sorts = space-same q.space h.entity_sort k.entity_sort (subst (λ z. HasSpaceSort x z h.entity_sort) spaces-equal h.space_sort) k.space_sort in
      let value_sorts = agree.sort (kinds.Phylum k.found.element) h.value_sort k.value_sort (subst
      (λ z. HasKindSort x (kinds.Phylum z) h.value_sort) element h.elements_sort) k.elements_sort in
      let specimens = tree-same x y agree h.names k.names
      (kinds.Phylum k.found.element) p.specimen q.specimen tree (subst (λ z. IsTree x h.names
      (kinds.Phylum z) p.specimen tree) element h.of_specimen) k.of_specimen in
      let terms = agree.term h.names k.names entity k.entity_sort p.term q.term (subst
      (λ z. IsTerm x.signature h.names [] z entity p.term) entity_sorts h.of_entity) k.of_entity in
      let values = agree.term h.names k.names value k.value_sort p.value q.value (subst
      (λ z. IsTerm x.signature h.names [] z value p.value) value_sorts h.of_value) k.of_value in
      let row = p.term ∷ p.value ∷ terms_of x p.specimen in
      let fixes = row_fixes h.names k.names row (q.term ∷ q.value ∷ terms_of y q.specimen) h.naming k.naming
      (terms, (values, specimens.alike)) in
      let known = each-front (IsAmong (first_occurrences row)) (variables p.term) (variables_of
      (p.value ∷ terms_of x p.specimen)) (among-noted_all [] (variables_of row)) in
      let later = each-front (IsAmong (first_occurrences row)) (variables p.value) (variables_of
      (terms_of x p.specimen)) known.1 in
      let term = fixes p.term q.term terms known.0 in
      let worth = fixes p.value q.value values later.0 in
      let specimen = specimens.same (first_occurrences row) fixes (known-holes (first_occurrences row)
      (holes_of p.specimen) later.1) in
      λ i. record { space = spaces-equal i; list = number i; term = term i; value = worth i; specimen = specimen i }

  pub declare_rows-same : (behind : List Line) (ps qs : List DeclareRow) → AreDeclareRows x behind ps
      → AreDeclareRows y behind qs → ps ≡ qs
  declare_rows-same [] ps qs h k = h ∙ sym k
  declare_rows-same (lines.Declare named list entity value specimen ∷ behind) ps qs (p, rest, e, h, hr) (q, more, f, k, hs) =
      e ∙ ap₂ (λ z zs. z ∷ zs) (declare_row-same named list entity value specimen p q h k)
      (declare_rows-same behind rest more hr hs) ∙ sym f
  declare_rows-same (_ ∷ behind) ps qs h k = declare_rows-same behind ps qs h k
