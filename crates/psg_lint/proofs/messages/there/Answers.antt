use Rattle.std.proofs.Common.{ap, sym, ◌∙◌}
use Rattle.psg_places.specs.Ways.{there_of}
use Rattle.psg_lint.proofs.MessageLaws.{is_seen, wrong_sound}
use Rattle.psg_lint.proofs.messages.there.Goals as goal

pub opened_places-requires-clause-sound : goal.opened_places-requires-clause-sound
opened_places-requires-clause-sound c = wrong_sound c.args.wrong c.requires.wrong

pub unreachable-requires : goal.unreachable-requires
unreachable-requires c =
    let w = c.args.wrong in
    is_seen w c.requires.wrong c.args.number c.requires.number c.requires.blamed c.args.path.now c.requires.place c.in_ok-found.found
    (c.in_ok-found.ensures
    ∙ ap (λ ps. there_of ps c.args.path.now) (c.as_slice.ensures.value ∙ c.in_ok-opened.ensures))
    c.in_default.is

pub returns : goal.returns
returns c =
    let w = c.args.wrong in
    sym (c.in_ok-found.ensures
    ∙ ap (λ ps. there_of ps c.args.path.now) (c.as_slice.ensures.value ∙ c.in_ok-opened.ensures))
    ∙ c.in-Some.is
