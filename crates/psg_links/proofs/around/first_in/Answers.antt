use Rattle.std.proofs.Common.{ap, option_copied, sym, ◌∙◌}
use Rattle.psg_links.specs.Links.{first_key}
use Rattle.psg_links.proofs.LinkLaws.{found_in_last, none_in_last}
use Rattle.psg_links.proofs.around.first_in.Goals as goal

pub returns-then-there : goal.returns-then-there
returns-then-there c =
    found_in_last c.args.name.now c.loop-last.rest.now c.in-Some.front.now c.in-Some.last.now
    (option_copied c.first_key-found.result) c.in-Some.ensures.cases.0
    (c.first_key-found.ensures ∙ ap (first_key c.args.name.now) c.as_slice-declared.ensures)
    (sym c.is_there-there.ensures ∙ c.if-there.true)
    ∙ sym c.loop-last.invariant

pub loop-last-preserved : goal.loop-last-preserved
loop-last-preserved c =
    c.loop-last.invariant
    ∙ none_in_last c.args.name.now c.loop-last.rest.now c.in-Some.front.now c.in-Some.last.now
    (option_copied c.first_key-found.result) c.in-Some.ensures.cases.0
    (c.first_key-found.ensures ∙ ap (first_key c.args.name.now) c.as_slice-declared.ensures)
    (sym c.is_there-there.ensures ∙ c.if-there.false)
