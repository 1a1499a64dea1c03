use Rattle.std.proofs.Common.{ap, sym, ◌∙◌}
use Rattle.psg_links.specs.Around as around
use Rattle.psg_links.proofs.AroundLaws.{fewer, popped}
use Rattle.psg_links.proofs.around.leave.Goals as goal

pub leaving-init : goal.leaving-init
leaving-init c = λ definition f on. on

pub leaving-preserved : goal.leaving-preserved
leaving-preserved c = λ definition f on.
    popped definition f c.leaving.regions.items c.pop.new.self.items c.pop.result c.pop.ensures.items (c.leaving.invariant definition f on)

pub leaving-preserved-in-leaving : goal.leaving-preserved-in-leaving
leaving-preserved-in-leaving c = λ definition f on.
    popped definition f c.leaving.regions.items c.pop.new.self.items c.pop.result c.pop.ensures.items (c.leaving.invariant definition f on)

pub leaving-smaller : goal.leaving-smaller
leaving-smaller c =
    fewer c.leaving.regions.items c.pop.new.self.items c.pop.result c.args.path.now _ _
    (sym (c.is_beside.ensures ∙ ap (λ rs. around.is_beside rs c.args.path.now) c.as_slice.ensures.value) ∙ c.leaving-test.true)
    c.leaving.regions.ok.0 c.pop.ensures.cases c.pop.ensures.items

pub returns-clause-way : goal.returns-clause-way
returns-clause-way c = c.leaving.invariant

pub returns-clause-around : goal.returns-clause-around
returns-clause-around c =
    sym (c.is_beside.ensures ∙ ap (λ rs. around.is_beside rs c.args.path.now) c.as_slice.ensures.value) ∙ c.leaving-test.false
