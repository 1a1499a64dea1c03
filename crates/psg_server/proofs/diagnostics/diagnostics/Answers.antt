use Rattle.psg_server.proofs.DiagnosticLaws.{one_so_far}
use Rattle.psg_server.proofs.diagnostics.diagnostics.Goals as goal

pub loop-place-preserved : goal.loop-place-preserved
loop-place-preserved c =
    one_so_far c.args.page.now.encoding c.args.page.now.text.now c.as_slice-found.result.now c.loop-place.place
    c.loop-place.values.items c.push.new.self.items c.index-found-place.result c.in_ok-value.value c.loop-place-test.true
    c.index-found-place.is c.loop-place.invariant c.in_ok-value.ensures c.in_ok-push.ensures.items
