use Rattle.std.specs.Prelude.{decimal, string_bytes}
use Rattle.psg_specimen.proofs.WordLaws.{line-more}
use Rattle.psg_specimen.proofs.text.add_number.Goals as goal

pub returns : goal.returns
returns c = line-more (string_bytes c.args.text.now) _ (decimal c.args.number) c.in_ok-write.ensures.bytes
