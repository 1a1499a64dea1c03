use Rattle.std.proofs.Common.{option_copied, ap, sym, ◌∙◌}
use Rattle.psg_links.specs.Around.{regions_at}
use Rattle.psg_links.proofs.AroundLaws.{begins_there, none_begins, none_there, one_begins}
use Rattle.psg_links.proofs.around.region_of_step.Goals as goal

pub returns-in_default : goal.returns-in_default
returns-in_default c =
    let def = c.args.definition.now in
    let f = c.args.tree.now in
    none_there def f c.in_ok-own.own (sym c.at.ensures ∙ ap option_copied c.in_default.is)
    ∙ ap (regions_at def f) c.in_ok-own.ensures

pub returns-then-not-new : goal.returns-then-not-new
returns-then-not-new c =
    let def = c.args.definition.now in
    let f = c.args.tree.now in
    none_begins def f c.in_ok-own.own
    (begins_there def f c.in_ok-own.own c.in-Some.node.now c.begins-new.result (sym c.at.ensures ∙ ap option_copied c.in-Some.is) c.begins-new.ensures ∙ c.if-not-new.true)
    ∙ ap (regions_at def f) c.in_ok-own.ensures

pub region_at-requires-clause-there : goal.region_at-requires-clause-there
region_at-requires-clause-there c = sym c.at.ensures ∙ ap option_copied c.in-Some.is

pub region_at-requires-clause-begins : goal.region_at-requires-clause-begins
region_at-requires-clause-begins c =
    let def = c.args.definition.now in
    let f = c.args.tree.now in
    begins_there def f c.in_ok-own.own c.in-Some.node.now c.begins-new.result (sym c.at.ensures ∙ ap option_copied c.in-Some.is) c.begins-new.ensures ∙ c.if-not-new.false

pub returns : goal.returns
returns c =
    let def = c.args.definition.now in
    let f = c.args.tree.now in
    one_begins def f c.in_ok-own.own c.in_ok-region.region
    (begins_there def f c.in_ok-own.own c.in-Some.node.now c.begins-new.result (sym c.at.ensures ∙ ap option_copied c.in-Some.is) c.begins-new.ensures ∙ c.if-not-new.false)
    c.in_ok-region.ensures
    ∙ ap (regions_at def f) c.in_ok-own.ensures
