use Rattle.std.proofs.Common.{ap, ◌∙◌, map}
use Rattle.psg_terms.specs.Canonical.{Variable}
use Rattle.psg_terms.specs.Instances.{substitute}
use Rattle.psg_terms.proofs.Lists.{got_none, got_some}
use Rattle.psg_explain.specs.Equations.{put_for}
use Rattle.psg_explain.proofs.ApplyingLaws.{no_binding, none_there, rewrites_next}
use Rattle.psg_explain.proofs.applying.rewritten.Goals as goal

pub returns-in_default : goal.returns-in_default
returns-in_default c = λ made h.
    none_there c.args.all.now c.args.bindings.now c.loop-i.i c.number_at-number.result c.loop-i.made.items made c.number_at-number.ensures
    (got_none c.args.all.now c.number_at-number.result c.get.result c.get.ensures.lookup c.in_default.is) ((c.loop-i.invariant made).1 h)

pub returns-in_default-variable_of : goal.returns-in_default-variable_of
returns-in_default-variable_of c = λ made h.
    no_binding c.args.all.now c.args.bindings.now c.loop-i.i c.number_at-number.result c.loop-i.made.items made c.in-Some.binding.now c.number_at-number.ensures
    (got_some c.args.all.now c.number_at-number.result c.get.result c.in-Some.binding c.get.ensures.lookup c.in-Some.is) c.in_default-variable_of.ensures ((c.loop-i.invariant made).1 h)

pub loop-i-preserved : goal.loop-i-preserved
loop-i-preserved c = λ made.
    let x : Variable = (c.in-Some-variable_of.variable.sort.0, c.in-Some-variable_of.variable.number) in
    let (on, back) = rewrites_next c.args.all.now c.args.bindings.now c.loop-i.i c.number_at-number.result c.loop-i.made.items c.in_ok-made-2.made.items x c.in-Some.binding.now c.number_at-number.ensures
    (got_some c.args.all.now c.number_at-number.result c.get.result c.in-Some.binding c.get.ensures.lookup c.in-Some.is) c.in-Some-variable_of.ensures
    (c.in_ok-made-2.ensures ∙ ap (map (substitute (put_for x c.in-Some.binding.now.1))) c.as_slice.ensures.value) made in
    let (before, after) = c.loop-i.invariant made in
    ((λ h. before (on h)), (λ h. back (after h)))
