-- Each of the lines that write a definition has its form, fixed words alone, and no term and no specimen that is nested
-- too deep.
use Rattle.std.proofs.Common.{ℕ, List, None, refl, sym, subst, arith, ◌≡◌, true, inl, inr, ap, ◌∙◌}
use Rattle.std.specs.List.{AllByRecursion}
use Rattle.psg_terms.specs.Names.{Name}
use Rattle.psg_terms.specs.Terms.{Term}
use Rattle.psg_grammar.specs.declared.types.Kind.{Kind}
use Rattle.psg_grammar.specs.declared.types.Kind.TheVariants as kinds
use Rattle.psg_grammar.specs.declared.types.Row.{Row}
use Rattle.psg_grammar.specs.declared.types.Case.{Case}
use Rattle.psg_grammar.specs.declared.types.HoleRow.{HoleRow}
use Rattle.psg_grammar.specs.declared.types.DeclareRow.{DeclareRow}
use Rattle.psg_grammar.specs.declared.types.Definition.{Definition}
use Rattle.psg_grammar.specs.declared.types.Operator.{Operator}
use Rattle.psg_grammar.specs.Sound.{IsKindName, IsOwnName, IsLevel, AreSpaceNames}
use Rattle.psg_deflines.specs.Entries.{written, IsPlain}
use Rattle.psg_deflines.specs.Forms.{HasForm, HasItemForm, IsFixedItem}
use Rattle.psg_deflines.specs.WrittenTerms.{HasTermForm, WrittenTerm, IsShallowTerm}
use Rattle.psg_deflines.specs.declared.lines.Line.TheVariants as lines
use Rattle.psg_defread.specs.WrittenLines.{lines_of, kind_name, row_line, cell_line, case_line, declare_line, term_written, tree_written}
use Rattle.psg_defread.proofs.WasRead.{WasRead}
use Rattle.psg_defread.proofs.Origins.{OfOperator, OfRow, OfNil, OfCell, OfCase, OfHoleRow, OfDeclareRow, given-case, file-forms, IsGivenCase}
use Rattle.psg_defread.proofs.FormTerms.{IsNamedSymbol, form-kept, term-keeps, terms-keep, columns-keep, shallow-kept}
use Rattle.psg_defread.proofs.FormTrees.{kind-named, tree-kept, tree-shallow-kept}
use Rattle.psg_defread.proofs.FormLines.{Keeps, lines-keep, operator_line, items-keep, items-long}
use Rattle.psg_defread.proofs.FormSorts.{space-formed, space-rightly, items-rightly}
use Rattle.psg_grammar.specs.declared.types.Space.{Space}
use Rattle.psg_deflines.specs.Versions.{names_rightly, is_of}
use Rattle.psg_deflines.specs.WrittenTrees.{WrittenTree, IsShallowTree}
use Rattle.psg_defread.proofs.NumberNames.{name-found}

module _ (def : Definition) (own : AllByRecursion IsNamedSymbol def.signature.symbols) (spaces : AreSpaceNames def.version def.spaces) where
  operator-form : (op : Operator) → OfOperator def HasForm op → HasForm (operator_line def op)
  operator-form op of =
      let formed = space-formed def def.version refl spaces in (
        subst IsOwnName (sym of.is.named) of.given.0,
        subst IsKindName (sym (kind-named def of.phylum (kinds.Phylum op.phylum) of.is.of_phylum)) of.given.1,
        subst IsLevel (sym of.is.same_level) of.given.2,
        omega (arith, of.given.3, items-long def of.parts op.items of.is.each_item),
        items-keep def HasItemForm formed formed of.parts op.items of.given.4 of.is.each_item,
      )

  row-form : (head : ℕ) (sorts : List ℕ) (row : Row) → OfRow def HasForm head sorts row → HasForm (row_line def row)
  row-form head sorts row of = (
    term-keeps def own of.is.names HasTermForm form-kept of.term head row.head of.is.of_head of.given.0,
    terms-keep def own of.is.names HasTermForm form-kept sorts of.columns row.columns of.is.of_columns of.given.1,
  )

  nil-form : (sort : ℕ) (list : Name) (t : Term) → OfNil def HasForm sort list t → HasForm (lines.Nil list (term_written def t))
  nil-form sort list t of = (
    of.given.0,
    term-keeps def own of.is.names HasTermForm form-kept of.term sort t of.is.of_term of.given.1,
  )

  cell-form : (sort elements : ℕ) (list : Name) (row : Row) → OfCell def HasForm sort elements list row → HasForm (cell_line def list row)
  cell-form sort elements list row of =
      let head = term-keeps def own of.is.names HasTermForm form-kept of.term sort row.head of.is.of_head
      of.given.1 in
      let both = columns-keep def own of.is.names HasTermForm form-kept elements sort of.first of.more row.columns
      of.is.of_columns of.given.2 of.given.3 in
      (of.given.0, head, both.0, both.1)

  hole-form : (row : HoleRow) → OfHoleRow def HasForm row
      → HasForm (lines.Hole (kind_name def row.kind) (term_written def row.term) None)
  hole-form row of = (
    subst IsKindName (sym (kind-named def of.kind row.kind of.of_kind)) of.given.0,
    term-keeps def own of.is.names HasTermForm form-kept of.term of.sort row.term of.is.of_term of.given.1,
    tt,
  )

  case-form : (kind : Kind) (sort : ℕ) (one : Case) → OfCase def HasForm kind sort one → HasForm (case_line def one)
  case-form kind sort one of =
      let given = given-case def of.term of.tree of.given in
      let tree = tree-kept def own of.is.names one.specimen kind of.tree of.is.of_specimen in (
        term-keeps def own of.is.names HasTermForm form-kept of.term sort one.term of.is.of_term given.0,
        tree.form given.1,
      )

  declare-form : (row : DeclareRow) → OfDeclareRow def HasForm row → HasForm (declare_line def row)
  declare-form row of =
      let names = of.is.names in
      let entity = term-keeps def own names HasTermForm form-kept of.entity of.is.entity_sort row.term of.is.of_entity
      of.given.2 in
      let value = term-keeps def own names HasTermForm form-kept of.value of.is.value_sort row.value of.is.of_value
      of.given.3 in
      let element = kinds.Phylum of.is.found.element in
      let tree = tree-kept def own names row.specimen element of.tree of.is.of_specimen in (
        space-formed def def.version refl spaces row.space,
        subst IsKindName (sym (kind-named def of.list (kinds.List row.list) of.is.of_list)) of.given.1,
        entity,
        value,
        tree.form of.given.4,
      )

  forms-keep : Keeps def HasForm
  forms-keep = record {
    operator = operator-form;
    row = row-form;
    nil = nil-form;
    cell = cell-form;
    hole = hole-form;
    case = case-form;
    declare = declare-form;
  }

pub written_forms : (def : Definition) → WasRead def → AllByRecursion HasForm (lines_of def)
written_forms def h =
    lines-keep def HasForm (forms-keep def h.sound.constructor_names h.sound.spaces) (written h.entries)
    (file-forms def h) h.numbered

-- ---- fixed words, depths and the version

module _ (def : Definition) (version : ℕ) (same : def.version ≡ version) (own : AllByRecursion IsNamedSymbol def.signature.symbols) (spaces : AreSpaceNames def.version def.spaces) where
  operator-plain : (op : Operator) → OfOperator def (IsPlain version) op → IsPlain version (operator_line def op)
  operator-plain op of = record {
    of_version = items-rightly def version same spaces op.items;
    words = items-keep def IsFixedItem (λ n. tt) (λ n. tt) of.parts op.items of.given.words of.is.each_item;
    shallow = tt;
  }

  row-plain : (head : ℕ) (sorts : List ℕ) (row : Row) → OfRow def (IsPlain version) head sorts row → IsPlain version (row_line def row)
  row-plain head sorts row of =
      let given = of.given.shallow in
      record {
        of_version = refl;
        words = tt;
        shallow = (
          term-keeps def own of.is.names IsShallowTerm shallow-kept of.term head row.head of.is.of_head given.0,
          terms-keep def own of.is.names IsShallowTerm shallow-kept sorts of.columns row.columns of.is.of_columns
              given.1,
        );
      }

  nil-plain : (sort : ℕ) (list : Name) (t : Term) → OfNil def (IsPlain version) sort list t
      → IsPlain version (lines.Nil list (term_written def t))
  nil-plain sort list t of = record {
    of_version = refl;
    words = tt;
    shallow =
        term-keeps def own of.is.names IsShallowTerm shallow-kept of.term sort t of.is.of_term of.given.shallow;
  }

  cell-plain : (sort elements : ℕ) (list : Name) (row : Row) → OfCell def (IsPlain version) sort elements list row
      → IsPlain version (cell_line def list row)
  cell-plain sort elements list row of =
      let given = of.given.shallow in
      let head = term-keeps def own of.is.names IsShallowTerm shallow-kept of.term sort row.head of.is.of_head
      given.0 in
      let both = columns-keep def own of.is.names IsShallowTerm shallow-kept elements sort of.first of.more
      row.columns of.is.of_columns given.1 given.2 in
      record { of_version = refl; words = tt; shallow = (head, both.0, both.1) }

  hole-plain : (row : HoleRow) → OfHoleRow def (IsPlain version) row
      → IsPlain version (lines.Hole (kind_name def row.kind) (term_written def row.term) None)
  hole-plain row of =
      let given = of.given.shallow in
      let term = term-keeps def own of.is.names IsShallowTerm shallow-kept of.term of.sort row.term of.is.of_term given.0 in
      record { of_version = refl; words = tt; shallow = (term, tt) }

  shallow-case : (w : WrittenTerm) (tree : WrittenTree) → IsGivenCase def (IsPlain version) w tree
      → IsShallowTerm w × IsShallowTree tree
  shallow-case w tree (inl h) = h.shallow
  shallow-case w tree (inr (kind, h)) = h.shallow

  case-plain : (kind : Kind) (sort : ℕ) (one : Case) → OfCase def (IsPlain version) kind sort one → IsPlain version (case_line def one)
  case-plain kind sort one of =
      let given = shallow-case of.term of.tree of.given in
      let names = of.is.names in
      let term = term-keeps def own names IsShallowTerm shallow-kept of.term sort one.term of.is.of_term given.0 in
      let kept = tree-kept def own names one.specimen kind of.tree of.is.of_specimen in
      let tree = tree-shallow-kept of.tree (tree_written def one.specimen) kept given.1 in
      record { of_version = refl; words = tt; shallow = (term, tree) }

  declare-plain : (row : DeclareRow) → OfDeclareRow def (IsPlain version) row → IsPlain version (declare_line def row)
  declare-plain row of =
      let names = of.is.names in
      let given = of.given.shallow in
      let entity = term-keeps def own names IsShallowTerm shallow-kept of.entity of.is.entity_sort row.term
      of.is.of_entity given.0 in
      let value = term-keeps def own names IsShallowTerm shallow-kept of.value of.is.value_sort row.value of.is.of_value
      given.1 in
      let element = kinds.Phylum of.is.found.element in
      let kept = tree-kept def own names row.specimen element of.tree of.is.of_specimen in
      let tree = tree-shallow-kept of.tree (tree_written def row.specimen) kept given.2 in
      let at = of.is.space_sort in
      let name = name-found (λ (x : Space). x.name) def.spaces row.space at.0 at.1 in
      record { of_version = ap (names_rightly version) name ∙ space-rightly def version same spaces row.space at.0 at.1; words = tt; shallow = (entity, value, tree) }

  plain-keeps : Keeps def (IsPlain version)
  plain-keeps = record {
    operator = operator-plain;
    row = row-plain;
    nil = nil-plain;
    cell = cell-plain;
    hole = hole-plain;
    case = case-plain;
    declare = declare-plain;
  }

-- where the lines of the file have them
plain-again : (def : Definition) (h : WasRead def) → AllByRecursion (IsPlain h.version) (written h.entries)
    → AllByRecursion (IsPlain h.version) (lines_of def)
plain-again def h plain =
    let same = h.numbered.same_version in
    lines-keep def (IsPlain h.version) (plain-keeps def h.version same h.sound.constructor_names h.sound.spaces)
    (written h.entries) plain h.numbered

pub written_plain : (def : Definition) (h : WasRead def) → (AllByRecursion (IsPlain h.version) (lines_of def) → ⊥) → ⊥
written_plain def h none = h.plain (λ plain. none (plain-again def h plain))

-- and each is of the version that was read
versions-keep : (def : Definition) (version : ℕ) → def.version ≡ version → AreSpaceNames def.version def.spaces → Keeps def (λ line. is_of version line ≡ true)
versions-keep def version same spaces = record {
  operator = λ op of. items-rightly def version same spaces op.items;
  row = λ head sorts row of. refl;
  nil = λ sort list t of. refl;
  cell = λ sort elements list row of. refl;
  hole = λ row of. refl;
  case = λ kind sort one of. refl;
  declare = λ row of.
      (let at = of.is.space_sort in
      ap (names_rightly version) (name-found (λ (x : Space). x.name) def.spaces row.space at.0 at.1) ∙ space-rightly def version same spaces row.space at.0 at.1);
}

pub written_versions : (def : Definition) (h : WasRead def) → AllByRecursion (λ line. is_of h.version line ≡ true) (lines_of def)
written_versions def h =
    let same = h.numbered.same_version in
    lines-keep def (λ line. is_of h.version line ≡ true) (versions-keep def h.version same h.sound.spaces)
    (written h.entries) h.of_version h.numbered
