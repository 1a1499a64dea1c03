use Rattle.psg_server.specs.Told.{naming_of}
use Rattle.psg_server.proofs.LinkingLaws.{named_in}
use Rattle.psg_server.proofs.renaming.text_naming.Goals as goal

pub returns : goal.returns
returns g c =
    named_in c.args.defined.now c.args.kind c.args.encoding c.args.address.now c.args.text.now
    c.in_ok-own.own.comments.items c.in_ok-own.own.bytes.items (naming_of c.args.naming) c.in_ok-named.named
    c.in_ok-own.ensures c.in_ok-named.ensures
