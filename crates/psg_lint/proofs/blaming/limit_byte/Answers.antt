use Rattle.std.proofs.Common.{ap}
use Rattle.psg_places.specs.Listings.{opened_among}
use Rattle.psg_places.specs.Places.{places_of}
use Rattle.psg_recover.specs.TextPlaces.{first_byte}
use Rattle.psg_lint.specs.Wrongs.{trial_told, wide_path}
use Rattle.psg_lint.proofs.ReadLaws.{byte_is}
use Rattle.psg_lint.proofs.TellLaws.{limit_top, limit_wide}
use Rattle.psg_lint.proofs.blaming.limit_byte.Goals as goal

pub returns-in_ok-byte-in-Wide : goal.returns-in_ok-byte-in-Wide
returns-in_ok-byte-in-Wide c = λ r is.
    let (back, h, e) = c.in_ok-byte-in-Wide.ensures r is in
    limit_wide c.args.judged.definition.now r (opened_among c.args.kept.now 0 (places_of c.args.judged.definition.now c.args.judged.tree.now))
    c.args.fault.now c.in-Wide.path _ c.in_ok-byte-in-Wide.byte back c.in-Wide.is h e

pub returns-in-Deep : goal.returns-in-Deep
returns-in-Deep c = λ r is.
    let j = c.args.judged in
    let def = j.definition.now in
    limit_top def r (opened_among c.args.kept.now 0 (places_of def j.tree.now)) c.args.fault.now c.first-top.result (ap wide_path c.in-Deep.is)
    (λ q. ap (λ x. trial_told def r x q) c.in-Deep.is)
    (byte_is (λ d q. first_byte d q) j c.requires.judged r is c.first-top.result (λ nodes are. c.first-top.ensures nodes))

pub returns-in-Big : goal.returns-in-Big
returns-in-Big c = λ r is.
    let j = c.args.judged in
    let def = j.definition.now in
    limit_top def r (opened_among c.args.kept.now 0 (places_of def j.tree.now)) c.args.fault.now c.first-top.result (ap wide_path c.in-Big.is)
    (λ q. ap (λ x. trial_told def r x q) c.in-Big.is)
    (byte_is (λ d q. first_byte d q) j c.requires.judged r is c.first-top.result (λ nodes are. c.first-top.ensures nodes))

pub returns-in-Heavy : goal.returns-in-Heavy
returns-in-Heavy c = λ r is.
    let j = c.args.judged in
    let def = j.definition.now in
    limit_top def r (opened_among c.args.kept.now 0 (places_of def j.tree.now)) c.args.fault.now c.first-top.result (ap wide_path c.in-Heavy.is)
    (λ q. ap (λ x. trial_told def r x q) c.in-Heavy.is)
    (byte_is (λ d q. first_byte d q) j c.requires.judged r is c.first-top.result (λ nodes are. c.first-top.ensures nodes))

pub returns-in-Memory : goal.returns-in-Memory
returns-in-Memory c = λ r is.
    let j = c.args.judged in
    let def = j.definition.now in
    limit_top def r (opened_among c.args.kept.now 0 (places_of def j.tree.now)) c.args.fault.now c.first-top.result (ap wide_path c.in-Memory.is)
    (λ q. ap (λ x. trial_told def r x q) c.in-Memory.is)
    (byte_is (λ d q. first_byte d q) j c.requires.judged r is c.first-top.result (λ nodes are. c.first-top.ensures nodes))
