use Rattle.std.proofs.Common.{length, sym, ap, ◌∙◌, subst}
use Rattle.psg_class.specs.Grids.{AreInside, is_set, twice}
use Rattle.psg_class.specs.Class.{SameLed}
use Rattle.psg_class.proofs.TableLaws.{inside_leds, same_led_table, table_first, wide_of}
use Rattle.psg_class.proofs.check.same_led.Goals as goal

pub repeated-requires : goal.repeated-requires
repeated-requires c = subst (λ p. AreInside (length p) c.in_ok-width.width c.as_slice.result.now) (sym c.as_slice-phyla.ensures) (subst (AreInside (length c.args.definition.now.phyla) c.in_ok-width.width) (sym (c.as_slice.ensures.value ∙ c.in_ok-cells.ensures)) (inside_leds c.args.definition.now c.args.vocabulary.now.words.items c.args.shapes.now c.requires.read c.in_ok-width.width (wide_of c.args.vocabulary.now.base _ _ _ c.requires.vocabulary.base c.in_ok-width.ensures.sum)))

pub returns : goal.returns
returns c =
    table_first c.args.definition.now c.args.vocabulary.now.words.items (SameLed c.args.definition.now) (length c.args.definition.now.phyla) c.in_ok-width.width (is_set c.in_ok-twice.twice)
    (same_led_table c.args.definition.now c.args.vocabulary.now.words.items c.args.shapes.now c.requires.read c.in_ok-width.width (wide_of c.args.vocabulary.now.base _ _ _ c.requires.vocabulary.base c.in_ok-width.ensures.sum) (is_set c.in_ok-twice.twice) (λ r k h. c.in_ok-twice.ensures.exact r k h ∙ ap (twice r k) (c.as_slice.ensures.value ∙ c.in_ok-cells.ensures)))
    c.args.vocabulary.now.base c.in_ok-twice.twice.height c.in_ok-twice.twice.width c.requires.vocabulary.base (c.in_ok-twice.ensures.size.height_is ∙ ap length c.as_slice-phyla.ensures) c.in_ok-twice.ensures.size.width_is
    c.first_failing.result c.first_failing.ensures
