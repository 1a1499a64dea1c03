use Rattle.std.proofs.Common.{◌≡◌, rules, subst, sym}
use Rattle.psg_grammar.specs.declared.types.Definition.{Definition}
use Rattle.psg_grammar.specs.Sound.{IsSound}
use Rattle.psg_grammar.specs.Little.{little}
use Rattle.psg_grammar.proofs.CaseLittle.{little_sound}
use Rattle.psg_tests_trees.proofs.tests.little.language.Goals as goal

pub returns-clause-sound : goal.returns-clause-sound
returns-clause-sound c =
    let d : Definition = record { version = 2; signature = c.in_ok-unit.field-0; spaces = c.in_ok-spaces.field-0; phyla = c.in_ok-phyla.field-0; lists = c.in_ok-lists.field-0; operators = c.in_ok-operators.field-0; hole_rows = c.of.result; declare_rows = c.of-2.result } in
    let e : d ≡ little = search rules in
    subst IsSound (sym e) little_sound
