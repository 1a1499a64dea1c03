use Rattle.std.proofs.Common.{sym, ◌∙◌}
use Rattle.psg_server.proofs.DocumentLaws.{put_at_as, put_behind_as}
use Rattle.psg_server.proofs.documents.put_in.Goals as goal

pub returns-in-Some-clause-ok : goal.returns-in-Some-clause-ok
returns-in-Some-clause-ok c =
    put_at_as c.as_str.result.now c.args.items.now.items c.as_slice.result.now c.in-Some.place c.args.document
    c.as_str.ensures c.as_slice.ensures.value (sym c.in-Some.is ∙ c.place_of.ensures.is)

pub returns-in_ok-push-in-None-clause-ok : goal.returns-in_ok-push-in-None-clause-ok
returns-in_ok-push-in-None-clause-ok c =
    put_behind_as c.as_str.result.now c.args.items.now.items c.as_slice.result.now _ c.args.document
    c.as_str.ensures c.as_slice.ensures.value (sym c.in-None.is ∙ c.place_of.ensures.is) c.in_ok-push-in-None.ensures.items
