use Rattle.std.proofs.lemmas.Option.{MatchOption-at_none, MatchOption-at_some}
use Rattle.psg_server.specs.Linking.{reads_none}
use Rattle.psg_server.proofs.LinkingLaws.{page_as}
use Rattle.psg_server.proofs.renaming.sheet_naming.Goals as goal

pub page_naming-requires-clause-page : goal.page_naming-requires-clause-page
page_naming-requires-clause-page g c =
    MatchOption-at_some _ _ _ c.in-Some.is
    (page_as c.args.language.now c.args.kind c.in_ok-read.read c.as_slice-bytes.result.now c.args.own.now.bytes.items
    c.as_slice-bytes.ensures.value c.in_ok-read.ensures)

pub returns-in-None : goal.returns-in-None
returns-in-None g c =
    reads_none (MatchOption-at_none _ _ c.in-None.is
    (page_as c.args.language.now c.args.kind c.in_ok-read.read c.as_slice-bytes.result.now c.args.own.now.bytes.items
    c.as_slice-bytes.ensures.value c.in_ok-read.ensures))
