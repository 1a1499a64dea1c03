use Rattle.std.proofs.Common.{◌∙◌, arith}
use Rattle.psg_parse.specs.Lookups.{opener_at}
use Rattle.psg_parse.proofs.Tabled.{leads_finds, led_finds}
use Rattle.psg_parse.proofs.tables.ParseTable.of.Goals as goal

pub returns : goal.returns
returns c = record {
  words = c.in_ok-new.ensures.words ∙ c.as_slice.ensures.value ∙ c.in_ok-words.ensures;
  count = omega (arith, c.in_ok-holes.field-0.ok.0, c.in_ok-holes.ensures.count);
  holes = c.in_ok-holes.ensures.exact;
  leading = λ p t. leads_finds c.args.definition.now p t (opener_at c.in_ok-openers.field-0.items p t) (c.in_ok-openers.ensures p t);
  led = λ p t. led_finds c.args.definition.now p t (opener_at c.in_ok-openers-2.field-0.items p t) (c.in_ok-openers-2.ensures p t);
}
