use Rattle.std.specs.Prelude.{drop}
use Rattle.psg_server.proofs.CompletionLaws.{AreSoFar}
use Rattle.psg_server.proofs.completing.items.Given as goal

abbrev pub invariant-loop-place : goal.invariant-loop-place
invariant-loop-place l =
    AreSoFar l.page.encoding l.page.text.now l.completion l.filter l.completion.entries.items (drop l.place l.entries)
    l.values.items
