use Rattle.std.proofs.Common.{sym, subst}
use Rattle.std.specs.Str.{IsUtf8}
use Rattle.psg_server.proofs.JudgingLaws.{unmarked_is_text}
use Rattle.psg_server.proofs.judging.unmarked_text.Goals as goal

pub text_of-requires : goal.text_of-requires
text_of-requires c = record {
  text = subst IsUtf8 (sym c.unmarked-bytes.ensures) (unmarked_is_text c.as_bytes.result.now c.as_bytes.ensures.utf8);
}
