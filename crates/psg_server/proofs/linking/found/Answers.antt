use Rattle.std.proofs.lemmas.Option.{MatchOption-at_none, MatchOption-at_some}
use Rattle.psg_server.specs.Linking.{no_program}
use Rattle.psg_server.proofs.LinkingLaws.{found_in, page_as}
use Rattle.psg_server.proofs.linking.found.Goals as goal

pub returns-in_ok-linked-in-Some : goal.returns-in_ok-linked-in-Some
returns-in_ok-linked-in-Some g c =
    let def = c.args.language.now in
    let judged = c.args.own.now.bytes.items in
    found_in def c.args.kind c.args.sheet.now.encoding c.args.sheet.now.text.now judged c.in-Some.page c.byte_at-byte.result
    (MatchOption-at_some _ _ _ c.in-Some.is
    (page_as def c.args.kind c.in_ok-read.read c.as_slice-bytes.result.now judged c.as_slice-bytes.ensures.value c.in_ok-read.ensures))
    c.args.at c.in_ok-linked-in-Some.linked c.byte_at-byte.ensures c.in_ok-linked-in-Some.ensures

pub returns-in-None : goal.returns-in-None
returns-in-None g c =
    no_program (MatchOption-at_none _ _ c.in-None.is
    (page_as c.args.language.now c.args.kind c.in_ok-read.read c.as_slice-bytes.result.now c.args.own.now.bytes.items
    c.as_slice-bytes.ensures.value c.in_ok-read.ensures))
