use Rattle.std.proofs.Common.{◌<◌, ◌^◌, length, map, ap₂, sym, ◌∙◌, subst}
use Rattle.psg_class.specs.Checks.{AreHoles, AreSets, separator_number}
use Rattle.psg_class.proofs.TableLaws.{wide_of, bracket_number, closing_number}
use Rattle.psg_class.proofs.BehindLaws.{parts_given, sets_given}
use Rattle.psg_class.proofs.behind.Sets.of.Goals as goal

pub of-rows-requires-clause-phyla : goal.of-rows-requires-clause-phyla
of-rows-requires-clause-phyla c = subst (λ l. length l < 2 ^ 32) (sym c.as_slice-phyla.ensures) c.requires.read.sound.few_phyla

pub of-rows-requires-clause-lists : goal.of-rows-requires-clause-lists
of-rows-requires-clause-lists c = subst (λ l. length l < 2 ^ 32) (sym c.as_slice-lists.ensures) c.requires.read.sound.few_lists

pub sets-requires : goal.sets-requires
sets-requires c = parts_given c.args.definition.now c.args.vocabulary.now.words.items c.args.shapes.now c.requires.read c.in_ok-width.width (wide_of c.args.vocabulary.now.base _ _ _ c.requires.vocabulary.base c.in_ok-width.ensures.sum)
    c.of-rows.result c.as_slice-phyla.result.now c.as_slice-lists.result.now c.as_slice-phyla.ensures c.as_slice-lists.ensures c.of-rows.ensures.sizes c.of-rows.ensures.rows
    c.as_slice.result.now (subst (AreHoles c.args.definition.now) (sym c.as_slice.ensures.value) c.in_ok-holes.ensures)
    c.as_slice-2.result.now (c.as_slice-2.ensures.value ∙ c.in_ok-separators.ensures ∙ ap₂ (λ b l. map (separator_number b c.args.vocabulary.now.words.items) l) c.requires.vocabulary.base c.as_slice-lists.ensures)
    c.known.result c.known-2.result (bracket_number c.args.definition.now c.args.vocabulary.now.words.items c.args.vocabulary.now.base c.known.result c.requires.vocabulary.base c.known.ensures)
    (closing_number c.args.definition.now c.args.vocabulary.now.words.items c.args.vocabulary.now.base c.known-2.result c.requires.vocabulary.base c.known-2.ensures)

pub returns : goal.returns
returns c = subst (λ w. AreSets c.args.definition.now c.args.vocabulary.now.words.items w (record { rows = c.of-rows.result; separators = c.in_ok-separators.separators; grid = c.in_ok-grid.grid })) c.in_ok-width.ensures.sum
    (sets_given c.args.definition.now c.args.vocabulary.now.words.items c.args.shapes.now c.requires.read c.in_ok-width.width (wide_of c.args.vocabulary.now.base _ _ _ c.requires.vocabulary.base c.in_ok-width.ensures.sum)
    c.of-rows.result c.as_slice-phyla.result.now c.as_slice-lists.result.now c.as_slice-phyla.ensures c.as_slice-lists.ensures c.of-rows.ensures.sizes c.of-rows.ensures.rows
    c.as_slice.result.now (subst (AreHoles c.args.definition.now) (sym c.as_slice.ensures.value) c.in_ok-holes.ensures)
    c.as_slice-2.result.now (c.as_slice-2.ensures.value ∙ c.in_ok-separators.ensures ∙ ap₂ (λ b l. map (separator_number b c.args.vocabulary.now.words.items) l) c.requires.vocabulary.base c.as_slice-lists.ensures)
    c.known.result c.known-2.result (bracket_number c.args.definition.now c.args.vocabulary.now.words.items c.args.vocabulary.now.base c.known.result c.requires.vocabulary.base c.known.ensures)
    (closing_number c.args.definition.now c.args.vocabulary.now.words.items c.args.vocabulary.now.base c.known-2.result c.requires.vocabulary.base c.known-2.ensures)
    c.in_ok-separators.separators (c.in_ok-separators.ensures ∙ ap₂ (λ b l. map (separator_number b c.args.vocabulary.now.words.items) l) c.requires.vocabulary.base c.as_slice-lists.ensures)
    c.in_ok-grid.grid c.in_ok-grid.ensures.table c.in_ok-grid.ensures.exact)
