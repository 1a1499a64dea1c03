use Rattle.psg_session.specs.Views.{reply_of}
use Rattle.std.proofs.Common.{◌∙◌}
use Rattle.psg_tui.proofs.OpeningLaws.{kind_of, new_opened}
use Rattle.psg_tui.proofs.opening.begin_new.Goals as goal

pub kind_name-name-requires : goal.kind_name-name-requires
kind_name-name-requires g c = kind_of _ _ _ c.definition.ensures.same c.requires

pub returns-in-None : goal.returns-in-None
returns-in-None g c =
    let opened = new_opened c.in_ok-session.session c.apply-reply.new.self c.args.language c.definition.result.now
    c.in_ok-phylum.phylum c.kind_name-name.result.now _ _ _ _ (reply_of c.in_ok-reply.reply) c.refusal_of.result
    c.args.kind c.in_ok-session.ensures.language c.in_ok-reply.ensures.applied c.in-None.is c.refusal_of.ensures
    c.definition.ensures.same c.definition.ensures.sound c.kind_name-name.ensures c.in_ok-phylum.ensures in
    (c.apply-reply.ensures.language ∙ c.in_ok-session.ensures.language, opened.0, opened.1)
