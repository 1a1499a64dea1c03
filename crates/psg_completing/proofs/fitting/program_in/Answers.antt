use Rattle.psg_completing.proofs.Fits.{none_text_read, not_text, text_read}
use Rattle.psg_completing.proofs.fitting.program_in.Goals as goal

pub returns-in_ok-program-in-Ok-clause-some : goal.returns-in_ok-program-in-Ok-clause-some
returns-in_ok-program-in-Ok-clause-some g c =
    text_read c.args.language.now c.args.kind c.args.bytes.now c.in-Ok.text.now c.in-Ok.ensures.cases.0
    c.in-Ok.ensures.cases.1 c.in_ok-program-in-Ok.program c.in_ok-program-in-Ok.ensures.some

pub returns-in_ok-program-in-Ok-clause-none : goal.returns-in_ok-program-in-Ok-clause-none
returns-in_ok-program-in-Ok-clause-none g c =
    none_text_read c.args.language.now c.args.kind c.args.bytes.now c.in-Ok.text.now c.in-Ok.ensures.cases.0
    c.in_ok-program-in-Ok.program c.in_ok-program-in-Ok.ensures.none

pub returns-in-Err-clause-none : goal.returns-in-Err-clause-none
returns-in-Err-clause-none g c = λ f utf8 p. absurd (not_text c.args.bytes.now _ c.in-Err.ensures.cases.1 utf8)
