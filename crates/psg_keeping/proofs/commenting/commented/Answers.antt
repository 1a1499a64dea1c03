use Rattle.psg_commented.proofs.Keep.{if_none, lost_by, some_at}
use Rattle.psg_keeping.proofs.commenting.commented.Goals as goal

pub returns-clause-none : goal.returns-clause-none
returns-clause-none c =
    if_none c.in_ok-found.found
    (lost_by c.args.lexis.now c.args.token.now c.args.printed.now c.as_bytes.result.now c.args.notes.now c.in-Some.shown.items
    c.as_slice.result.now c.as_slice-2.result.now c.in_ok-new.new.items c.as_slice.ensures.value c.as_slice-2.ensures.value
    c.as_bytes.ensures.value c.in_ok-new.ensures
    (some_at _ c.in_ok-tokens.tokens c.in-Some.shown c.in-Some.is c.in_ok-tokens.ensures.only)) c.in_ok-found.ensures.none
