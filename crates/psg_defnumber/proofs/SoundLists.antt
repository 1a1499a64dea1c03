-- The lists of a file's lines.
use Rattle.std.proofs.Common.{◌≤◌, ◌<◌, ◌^◌, List, [], ◌∷◌, length, ap, sym, subst, arith}
use Rattle.std.specs.List.{AllByRecursion}
use Rattle.psg_terms.specs.Sound.{IsSound as IsSoundSignature}
use Rattle.psg_grammar.specs.declared.types.Kind.TheVariants as kinds
use Rattle.psg_grammar.specs.declared.types.ListKind.{ListKind}
use Rattle.psg_grammar.specs.declared.types.Definition.{Definition}
use Rattle.psg_grammar.specs.Sound.{IsKindName, IsListKind}
use Rattle.psg_deflines.specs.Forms.{HasForm}
use Rattle.psg_deflines.specs.declared.lines.Line.{Line}
use Rattle.psg_deflines.specs.declared.lines.Line.TheVariants as lines
use Rattle.psg_defnumber.specs.Numbers.{AreLists}
use Rattle.psg_defnumber.proofs.SpecimenLaws.{AreInside, kind-inside}
use Rattle.psg_defnumber.proofs.KindLaws.{sort-inside}
use Rattle.psg_defnumber.proofs.SoundRows.{nils-are, few-nils, cells-are, few-cells}

module _ (def : Definition) where
  pub lists-sound : IsSoundSignature def.signature → AreInside def → (file behind : List Line) (all : List ListKind)
      → length file < 2 ^ 32 → AllByRecursion HasForm behind → AreLists def file behind all
      → AllByRecursion (IsListKind def) all
  lists-sound sound inside file [] all short form e = subst (AllByRecursion (IsListKind def)) (sym e) tt
  lists-sound sound inside file (lines.List name sort _ _ _ _ ∷ behind) all short form (l, rest, e, h, hs) =
      let there = sort-inside def sort l.sort h.of_sort in
      let element-there = kind-inside def inside (kinds.Phylum l.element) h.element_sort h.elements_sort in
      subst (AllByRecursion (IsListKind def)) (sym e) (
        record {
          name = subst IsKindName (sym h.named) form.0.0;
          sort = there;
          element = h.element_sort;
          element_sort = h.elements_sort;
          few_nils = omega (arith, few-nils def sound name l.sort.0 file l.nil_rows h.nils);
          few_cells = omega (arith, few-cells def sound name l.sort.0 h.element_sort file l.cell_rows h.cells);
          nils = nils-are def sound name l.sort.0 file l.nil_rows there h.nils;
          cells = cells-are def sound name l.sort.0 h.element_sort file l.cell_rows there element-there h.cells;
        },
        lists-sound sound inside file behind rest short form.1 hs,
      )
  lists-sound sound inside file (line ∷ behind) all short form h =
      lists-sound sound inside file behind all short form.1 h

  pub few-lists : (file behind : List Line) (all : List ListKind) → AreLists def file behind all
      → length all ≤ length behind
  few-lists file [] all e = omega (arith, ap length e)
  few-lists file (lines.List name sort elements separator on_lines unfinished ∷ behind) all (l, rest, e, h, hs) =
      omega (arith, ap length e, few-lists file behind rest hs)
  few-lists file (line ∷ behind) all h = omega (arith, few-lists file behind all h)
