-- The lines that write a definition pass the tests of their meaning.
use Rattle.std.proofs.Common.{◌≡◌, ℕ, ◌+◌, ◌<◌, ◌^◌, Some, List, [], slice_get, refl, subst, arith}
use Rattle.psg_terms.specs.Names.{Name}
use Rattle.psg_grammar.specs.declared.types.ListKind.{ListKind}
use Rattle.psg_grammar.specs.declared.types.Definition.{Definition}
use Rattle.psg_grammar.specs.Sound.{IsSound}
use Rattle.psg_deflines.specs.Entries.{written}
use Rattle.psg_deflines.specs.declared.lines.Line.{Line}
use Rattle.psg_defcheck.specs.Scopes.{kind_declared}
use Rattle.psg_defcheck.specs.Faults.{ArePassed}
use Rattle.psg_defnumber.proofs.LineSizes.{lines_total}
use Rattle.psg_defread.specs.WrittenLines.{lines_of, space_line, phylum_line, list_line, operator_lines, nil_lines, cell_lines, hole_lines, declare_line}
use Rattle.psg_defread.proofs.WasRead.{WasRead}
use Rattle.psg_defread.proofs.NumberSmall.{HasSmallNumbers, small-numbers}
use Rattle.psg_defread.proofs.NumberSorts.{sort-names-are}
use Rattle.psg_defread.proofs.NumberLines.{written_numbered}
use Rattle.psg_defread.proofs.Blocks.{blocks}
use Rattle.psg_defread.proofs.PassedTests.{IsRightBlock, right-blocks, right-map, right-flat, all-passed}
use Rattle.psg_defread.proofs.PassedDeclared.{Declares, list_told}
use Rattle.psg_defread.proofs.PassedFile.{declares-all}
use Rattle.psg_defread.proofs.Origins.{Origins, IsFormed, read-from}
use Rattle.psg_defread.proofs.PassedSorts.{sorts-right, entities-right, phyla-right, lists-right}
use Rattle.psg_defread.proofs.PassedRows.{operators-right, all-at, lists-nils-right, lists-cells-right}
use Rattle.psg_defread.proofs.PassedHoles.{holes-right, declares-right}

module _ (def : Definition) (sound : IsSound def) (small : HasSmallNumbers def) (of : Origins def IsFormed)
    (at : List Line) (declares : Declares def at) where
  abbrev IsDeclared : ListKind → Type 0
  IsDeclared l = kind_declared at l.name ≡ Some (list_told def l)

  from-zero : (i : ℕ) (m : Name) → slice_get def.signature.sorts i ≡ Some m
      → slice_get def.signature.sorts (0 + i) ≡ Some m
  from-zero i m e =
      let place : i ≡ 0 + i = omega arith in
      subst (λ k. slice_get def.signature.sorts k ≡ Some m) place e

  all-right : IsRightBlock at (lines_of def)
  all-right =
      let told = all-at IsDeclared def.lists declares.list_is in
      let sorts = sorts-right def sound at declares 0 def.signature.sorts from-zero in
      let spaces = right-map at (space_line def) def.spaces
      (entities-right def sound at declares def.spaces sound.space_sorts) in
      let phyla = right-map at (phylum_line def) def.phyla (phyla-right def sound at declares def.phyla sound.phyla) in
      let lists = right-map at (list_line def) def.lists (lists-right def sound at declares def.lists sound.lists) in
      let operators = right-flat at (operator_lines def) def.operators
      (operators-right def sound at declares def.operators small.operators of.operators sound.operators) in
      let nils = right-flat at (nil_lines def) def.lists
      (lists-nils-right def sound at declares def.lists told small.lists of.lists sound.lists) in
      let cells = right-flat at (cell_lines def) def.lists
      (lists-cells-right def sound at declares def.lists told small.lists of.lists sound.lists) in
      let holes = right-flat at (hole_lines def) def.hole_rows
      (holes-right def sound at declares def.hole_rows small.hole_rows of.hole_rows sound.hole_rows) in
      let rows = right-map at (declare_line def) def.declare_rows
      (declares-right def sound at declares def.declare_rows small.declare_rows of.declare_rows) in
      right-blocks at (blocks def)
      (sorts, (spaces, (phyla, (lists, (operators, (nils, (cells, (holes, (rows, tt)))))))))

-- The bound keeps the numbers of a row's variables distinct as they are written: a decimal has 64 digits at most.
pub written_passed : (def : Definition) → WasRead def → lines_total (lines_of def) < 2 ^ 63
    → ArePassed (lines_of def) [] (lines_of def)
written_passed def h short =
    let file = written h.entries in
    let declares = declares-all def h.sound (sort-names-are def file h.numbered.signature) in
    let right = all-right def h.sound (small-numbers def h.sound short) (read-from def h) (lines_of def) declares in
    all-passed (lines_of def) def (written_numbered def h short) [] (lines_of def) refl (right [])
