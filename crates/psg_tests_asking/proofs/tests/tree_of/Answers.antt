use Rattle.psg_session.proofs.PrintableYields.{reads_printable}
use Rattle.psg_tests_asking.proofs.tests.tree_of.Goals as goal

pub returns-in-Ok : goal.returns-in-Ok
returns-in-Ok g c =
    let is = c.in-Ok.ensures.program in
    (is.is_read.formed, reads_printable c.args.language.now _ c.args.kind 0 is.is_read.nesting _ is.is_text is.is_read.reads)
