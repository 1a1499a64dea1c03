-- Two definitions of one file are equal.
use Rattle.std.proofs.Common.{◌≡◌, ℕ, List, [], ◌∷◌, ap, ap₂, sym, ◌∙◌, subst}
use Rattle.psg_terms.specs.declared.sorts.SortId.{SortId}
use Rattle.psg_grammar.specs.declared.types.Kind.TheVariants as kinds
use Rattle.psg_grammar.specs.declared.types.Item.{Item}
use Rattle.psg_grammar.specs.declared.types.ListKind.{ListKind}
use Rattle.psg_grammar.specs.declared.types.Operator.{Operator}
use Rattle.psg_grammar.specs.declared.types.Definition.{Definition}
use Rattle.psg_grammar.specs.Lookups.{part_items}
use Rattle.psg_grammar.specs.Sound.{HasKindSort, AreColumns}
use Rattle.psg_deflines.specs.declared.lines.Line.{Line}
use Rattle.psg_deflines.specs.declared.lines.Line.TheVariants as lines
use Rattle.psg_defnumber.specs.Numbers.{AreRows, AreNils, AreCells, AreLists, AreOperators, IsNumbered}
use Rattle.psg_defnumber.specs.Once.{OneNumbering}
use Rattle.psg_defnumber.proofs.OnceSignature.{signature-same}
use Rattle.psg_defnumber.proofs.OnceKinds.{sort-same, phyla-same, spaces-same, phylum-place, items-same, agree}
use Rattle.psg_defnumber.proofs.OnceRows.{columns-same, rows-same, nils-same, cells-same, hole_rows-same, declare_rows-same}

module _ {version : ℕ} (file : List Line) (x y : Definition) (hx : IsNumbered version file x) (hy : IsNumbered version file y) where
  lists-from : (behind : List Line) (fs gs : List ListKind) → AreLists x file behind fs
      → AreLists y file behind gs → fs ≡ gs
  lists-from [] fs gs h k = h ∙ sym k
  lists-from (lines.List name sort elements separator on_lines unfinished ∷ behind) fs gs (f, rest, e, h, hr)
      (g, more, e', k, hs) =
      let common = agree file x y hx hy in
      let spaces = spaces-same file x y hx hy in
      let names = h.named ∙ sym k.named in
      let sorts = sort-same file x y hx hy sort f.sort g.sort h.of_sort k.of_sort in
      let number = ap (λ (z : SortId). z.0) sorts in
      let element = phylum-place file x y hx hy elements f.element g.element h.of_elements k.of_elements in
      let element_sorts = common.sort (kinds.Phylum g.element) h.element_sort k.element_sort (subst
      (λ z. HasKindSort x (kinds.Phylum z) h.element_sort) element h.elements_sort) k.elements_sort in
      let separators = h.same_separator ∙ sym k.same_separator in
      let ends = h.same_end ∙ sym k.same_end in
      let on = h.same_lines ∙ sym k.same_lines in
      let nils = nils-same x y common spaces name g.sort.0 file f.nil_rows g.nil_rows (subst
      (λ z. AreNils x name z file f.nil_rows) number h.nils) k.nils in
      let cells = cells-same x y common spaces name g.sort.0 k.element_sort file f.cell_rows g.cell_rows
      (subst (λ z. AreCells x name g.sort.0 z file f.cell_rows) element_sorts (subst
      (λ z. AreCells x name z h.element_sort file f.cell_rows) number h.cells)) k.cells in
      let same : f ≡ g = (λ i. record {
        name = names i;
        sort = sorts i;
        element = element i;
        separator = separators i;
        lines = on i;
        unfinished = ends i;
        nil_rows = nils i;
        cell_rows = cells i;
      }) in
      e ∙ ap₂ (λ z zs. z ∷ zs) same (lists-from behind rest more hr hs) ∙ sym e'
  lists-from (_ ∷ behind) fs gs h k = lists-from behind fs gs h k

  operators-from : (behind : List Line) (fs gs : List Operator) → AreOperators x behind fs
      → AreOperators y behind gs → fs ≡ gs
  operators-from [] fs gs h k = h ∙ sym k
  operators-from (lines.Operator name phylum scope level parts ∷ behind) fs gs (f, rest, e, h, hr) (
    g,
    more,
    e',
    k,
    hs,
  ) =
      let common = agree file x y hx hy in
      let spaces = spaces-same file x y hx hy in
      let names = h.named ∙ sym k.named in
      let phyla = phylum-place file x y hx hy phylum f.phylum g.phylum h.of_phylum k.of_phylum in
      let levels = h.same_level ∙ sym k.same_level in
      let scopes = h.same_scope ∙ sym k.same_scope in
      let forms = items-same file x y hx hy parts f.items g.items h.each_item k.each_item in
      let sorts = common.sort (kinds.Phylum g.phylum) h.sort k.sort (subst (λ z. HasKindSort x
      (kinds.Phylum z) h.sort) phyla h.phylum_sort) k.phylum_sort in
      let columns = columns-same x y common spaces (part_items g.items) h.columns k.columns (subst (λ
      (z : List Item). AreColumns x (part_items z) h.columns) forms h.are_columns) k.are_columns in
      let rows = rows-same x y common spaces k.sort k.columns behind f.rows g.rows
      (subst (λ z. AreRows x k.sort z behind f.rows) columns (subst
      (λ z. AreRows x z h.columns behind f.rows) sorts h.each_row)) k.each_row in
      let same : f ≡ g = (λ i. record {
        name = names i;
        phylum = phyla i;
        level = levels i;
        scope = scopes i;
        items = forms i;
        rows = rows i;
      }) in
      e ∙ ap₂ (λ z zs. z ∷ zs) same (operators-from behind rest more hr hs) ∙ sym e'
  operators-from (_ ∷ behind) fs gs h k = operators-from behind fs gs h k

pub one-definition : OneNumbering
one-definition version file x y hx hy =
    let common = agree file x y hx hy in
    let spaces = spaces-same file x y hx hy in
    let versions = hx.same_version ∙ sym hy.same_version in
    let signatures = signature-same file x hx y hy in
    let phyla = phyla-same file x y hx hy in
    let lists = lists-from file x y hx hy file x.lists y.lists hx.lists hy.lists in
    let operators = operators-from file x y hx hy file x.operators y.operators hx.operators hy.operators in
    let holes = hole_rows-same x y common spaces file x.hole_rows y.hole_rows hx.hole_rows hy.hole_rows in
    let declares = declare_rows-same x y common spaces file x.declare_rows y.declare_rows hx.declare_rows hy.declare_rows in
    λ i. record {
      version = versions i;
      signature = signatures i;
      spaces = spaces i;
      phyla = phyla i;
      lists = lists i;
      operators = operators i;
      hole_rows = holes i;
      declare_rows = declares i;
    }
