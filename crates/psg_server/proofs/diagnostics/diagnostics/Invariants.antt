use Rattle.psg_server.proofs.DiagnosticLaws.{AreSoFar}
use Rattle.psg_server.proofs.diagnostics.diagnostics.Given as goal

abbrev pub invariant-loop-place : goal.invariant-loop-place
invariant-loop-place l = AreSoFar l.page.encoding l.page.text.now l.found l.place l.values.items
