-- What the lines of a file are together is sound.
use Rattle.std.proofs.Common.{◌≡◌, ℕ, true, ◌<◌, ◌^◌, List, [], ◌++◌, length, ap, ap₂, ◌∙◌, arith}
use Rattle.std.specs.List.{AllByRecursion}
use Rattle.psg_terms.specs.Names.{Name, has_twice}
use Rattle.psg_terms.specs.Sound.{IsSound as IsSoundSignature}
use Rattle.psg_grammar.specs.declared.types.Definition.{Definition}
use Rattle.psg_grammar.specs.Sound.{IsSound, kind_names}
use Rattle.psg_deflines.specs.Versions.{IsVersion, is_of}
use Rattle.psg_deflines.specs.Entries.{written}
use Rattle.psg_deflines.specs.Forms.{HasForm}
use Rattle.psg_deflines.specs.declared.lines.Line.{Line}
use Rattle.psg_defcheck.specs.Scopes.{spaces, phylum_names, list_names}
use Rattle.psg_defnumber.specs.Numbers.{IsNumbered}
use Rattle.psg_defnumber.specs.Soundness.{NumberedIsSound}
use Rattle.psg_defnumber.proofs.LineSizes.{lines_total, few-lines, entries-total, entries-formed}
use Rattle.psg_defnumber.proofs.SymbolLaws.{small-signature}
use Rattle.psg_defnumber.proofs.NameLaws.{kinds-once}
use Rattle.psg_defnumber.proofs.KindLaws.{phyla-sound, few-phyla, spaces-inside, few-spaces, space-names, are-inside}
use Rattle.psg_defnumber.proofs.SoundLists.{lists-sound, few-lists}
use Rattle.psg_defnumber.proofs.OperatorLaws.{operators-sound, few-operators, have-columns}
use Rattle.psg_defnumber.proofs.NamedLaws.{phyla-names, lists-names, operators-names}
use Rattle.psg_defnumber.proofs.CaseLaws.{hole-rows-sound, few-hole-rows, declare-rows-sound, few-declare-rows}

kinds-named : {version : ℕ} (file : List Line) (def : Definition) → IsNumbered version file def
    → kind_names def ≡ phylum_names file ++ list_names file
kinds-named file def h =
    let phyla = phyla-names def file def.phyla h.phyla in
    ap₂ (λ (xs ys : List Name). xs ++ ys) phyla (lists-names def file file def.lists h.lists)

file-is-sound : {version : ℕ} (file : List Line) (def : Definition) → IsVersion version → AllByRecursion (λ line. is_of version line ≡ true) file → lines_total file < 2 ^ 32 → AllByRecursion HasForm file
    → IsNumbered version file def → IsSoundSignature def.signature → IsSound def
file-is-sound file def is right limit form h sound =
    let short : length file < 2 ^ 32 = omega (arith, few-lines file) in
    let inside = are-inside def file h in
    let columns = have-columns def file h.operators in
    let small = small-signature file def.signature form limit short h.signature in
    record {
      signature = sound;
      sort_names = small.sort_names;
      constructor_names = small.constructor_names;
      spaces = space-names def file h is right form;
      space_sorts = spaces-inside def (spaces file) def.spaces h.spaces;
      kind_names = ap has_twice (kinds-named file def h) ∙ kinds-once file h.kinds_once;
      operator_names = ap has_twice (operators-names def file def.operators h.operators) ∙ h.operators_once;
      phyla = phyla-sound def file def.phyla form h.phyla;
      lists = lists-sound def sound inside file file def.lists short form h.lists;
      operators = operators-sound def sound inside file def.operators limit form h.operators;
      hole_rows = hole-rows-sound def sound inside columns file def.hole_rows form limit h.hole_rows;
      declare_rows = declare-rows-sound def sound inside columns file def.declare_rows form limit h.declare_rows;
      few_sorts = small.few_sorts;
      few_constructors = small.few_constructors;
      few_arguments = small.few_arguments;
      few_spaces = omega (arith, few-spaces def file h);
      few_phyla = omega (arith, few-phyla def file def.phyla h.phyla);
      few_lists = omega (arith, few-lists def file file def.lists h.lists);
      few_operators = omega (arith, few-operators def file def.operators h.operators);
      few_hole_rows = omega (arith, few-hole-rows def sound inside columns file def.hole_rows h.hole_rows);
      few_declare_rows = omega (arith, few-declare-rows def sound inside columns file def.declare_rows h.declare_rows);
    }

pub file-sound : NumberedIsSound
file-sound version texts entries def is limit h right numbered sound =
    let short : lines_total (written entries) < 2 ^ 32 = omega (arith, entries-total [] texts entries h) in
    file-is-sound (written entries) def is right short (entries-formed [] texts entries h) numbered sound
