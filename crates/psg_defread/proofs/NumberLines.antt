-- The lines that write a definition are together this definition.
use Rattle.std.proofs.Common.{ℕ, ◌<◌, ◌^◌, List, [], length, map, Some, ap, arith}
use Rattle.std.specs.Str.Lines.{lines as texts_of}
use Rattle.psg_grammar.specs.declared.types.Definition.{Definition}
use Rattle.psg_grammar.specs.Sound.{IsSound}
use Rattle.psg_deflines.specs.Entries.{written, AreSpelled, behind_head}
use Rattle.psg_deflines.specs.declared.lines.Line.{Line}
use Rattle.psg_defnumber.specs.Numbers.{IsNumbered}
use Rattle.psg_defnumber.proofs.LineSizes.{lines_total, entries-total}
use Rattle.psg_defread.proofs.Counting.{few_entries}
use Rattle.psg_defread.specs.WrittenLines.{lines_of}
use Rattle.psg_defread.proofs.WasRead.{WasRead}
use Rattle.psg_defread.proofs.JoinTexts.{written-some}
use Rattle.psg_defread.proofs.Origins.{IsFormed, Origins, read-from}
use Rattle.psg_defread.proofs.NumberSmall.{HasSmallNumbers, small-numbers}
use Rattle.psg_defread.proofs.NumberSorts.{sorts-once, constructors-once, signature-again}
use Rattle.psg_defread.proofs.NumberKinds.{kinds-once, spaces-once, spaces-are, phyla-are}
use Rattle.psg_defread.proofs.NumberOperators.{operators-once, operators-are}
use Rattle.psg_defread.proofs.NumberLists.{lists-are}
use Rattle.psg_defread.proofs.NumberCases.{hole-rows-are, declare-rows-are}

numbered-again : {version : ℕ} (file : List Line) (def : Definition) → IsSound def → Origins def IsFormed
    → HasSmallNumbers def → IsNumbered version file def → IsNumbered version (lines_of def) def
numbered-again file def sound of small h =
    record {
      sorts_once = sorts-once def file h.signature h.sorts_once;
      constructors_once = constructors-once def file h.signature h.constructors_once;
      kinds_once = kinds-once def sound;
      operators_once = operators-once def sound;
      spaces_once = spaces-once def file h;
      same_version = h.same_version;
      signature = signature-again def file h.signature;
      spaces = spaces-are def file h;
      phyla = phyla-are def file h.phyla;
      lists = lists-are def sound of.lists small.lists;
      operators = operators-are def sound.signature of.operators small.operators;
      hole_rows = hole-rows-are def sound.signature of.hole_rows small.hole_rows;
      declare_rows = declare-rows-are def sound.signature of.declare_rows small.declare_rows;
    }

-- The bound keeps the numbers of a row's variables distinct as they are written: a decimal has 64 digits at most.
pub written_numbered : (def : Definition) (h : WasRead def) → lines_total (lines_of def) < 2 ^ 63
    → IsNumbered h.version (lines_of def) def
written_numbered def h short =
    numbered-again (written h.entries) def h.sound (read-from def h) (small-numbers def h.sound short) h.numbered

-- ---- the bound comes from the text

pub written-short : (version : ℕ) (bytes : List ℕ) (ls : List Line) → AreSpelled version (texts_of bytes) (map Some ls)
    → length bytes < 2 ^ 63 → lines_total ls < 2 ^ 63
written-short version bytes ls h short =
    let few = few_entries version bytes (map Some ls) h.head h.each in
    let size = entries-total [] (behind_head (texts_of bytes)) (map Some ls) h.each in
    omega (arith, few.1, size, ap lines_total (written-some ls))

-- where a text that can be kept spells the lines
pub spelled_numbered : (def : Definition) (h : WasRead def) (bytes : List ℕ)
    → AreSpelled h.version (texts_of bytes) (map Some (lines_of def)) → length bytes < 2 ^ 63 → IsNumbered h.version (lines_of def) def
spelled_numbered def h bytes spelled short =
    written_numbered def h (written-short h.version bytes (lines_of def) spelled short)
