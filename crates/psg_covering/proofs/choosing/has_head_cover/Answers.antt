use Rattle.std.proofs.Common.{subst}
use Rattle.std.specs.Prelude.{◌↔◌, IsTrue}
use Rattle.psg_covering.specs.Choices.{HasCover}
use Rattle.psg_covering.proofs.Firsts.{got_first, got_no_first}
use Rattle.psg_covering.proofs.choosing.has_head_cover.Goals as goal

pub returns-in_ok-covered-in-Some : goal.returns-in_ok-covered-in-Some
returns-in_ok-covered-in-Some c head columns e =
    subst (λ t. IsTrue c.in_ok-covered-in-Some.covered ↔ HasCover c.args.definition.now c.args.kind t)
    (got_first c.args.row.now c.first.result c.in-Some.head head columns c.first.ensures.value c.in-Some.is e) c.in_ok-covered-in-Some.ensures

pub returns-in-None : goal.returns-in-None
returns-in-None c head columns e = absurd (got_no_first c.args.row.now c.first.result head columns c.first.ensures.value c.in-None.is e)
