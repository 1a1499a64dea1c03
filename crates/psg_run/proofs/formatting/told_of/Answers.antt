use Rattle.std.proofs.Common.{subst}
use Rattle.std.specs.Prelude.{IsUtf8}
use Rattle.psg_grammar.specs.WellFormed.{fixed_words}
use Rattle.psg_program.specs.Decoding.{unmarked}
use Rattle.psg_run.proofs.ProgramFiles.{text_there}
use Rattle.psg_run.proofs.formatting.told_of.Goals as goal

pub told_program-requires-clause-text : goal.told_program-requires-clause-text
told_program-requires-clause-text g c =
    text_there (fixed_words c.args.defined.now.language) c.args.defined.now.comment c.args.bytes.now c.args.own.now.comments.items
    c.args.own.now.bytes.items c.requires.own
    (subst (λ b. IsUtf8 (unmarked b)) c.as_slice.ensures.value c.in-Ok.ensures.program.is_text)
