use Rattle.std.proofs.Common.{◌+◌, length, ap, ◌∙◌}
use Rattle.psg_class.proofs.ReadLaws.{shape_at}
use Rattle.psg_class.proofs.BehindLaws.{led_first}
use Rattle.psg_class.proofs.behind.led_follows.Goals as goal

pub first_led-requires-clause-shapes : goal.first_led-requires-clause-shapes
first_led-requires-clause-shapes c = shape_at c.args.definition.now c.args.vocabulary.now.words.items c.args.shapes.now c.requires.read c.args.sets.now.rows c.requires.sets.sizes c.args.sets.now.grid.width
    (c.requires.sets.table.width_is ∙ ap (λ b. b + length c.args.vocabulary.now.words.items) c.requires.vocabulary.base)

pub returns : goal.returns
returns c = led_first c.args.definition.now c.args.vocabulary.now.words.items c.args.shapes.now c.requires.read (c.args.vocabulary.now.base + length c.args.vocabulary.now.words.items)
    (ap (λ b. b + length c.args.vocabulary.now.words.items) c.requires.vocabulary.base) c.args.sets.now c.requires.sets c.first_led.result c.first_led.ensures
