use Rattle.psg_explain.proofs.ApplyingLaws.{derives_next, gives_of, none_given, none_of}
use Rattle.psg_explain.proofs.applying.all_given_by.Goals as goal

pub returns-in_default : goal.returns-in_default
returns-in_default c = λ all.
    none_given c.args.given.now c.args.rules.now c.loop-i.i c.rule_at-rule.result c.loop-i.all.items all c.rule_at-rule.ensures c.loop-i.invariant
    (none_of c.args.given.now c.as_slice-before.result.now c.loop-i.all.items c.rule_at-rule.result c.in_ok-found.found c.as_slice-before.ensures.value c.in_default.is c.in_ok-found.ensures)

pub loop-i-preserved : goal.loop-i-preserved
loop-i-preserved c =
    derives_next c.args.given.now c.args.rules.now c.loop-i.i c.rule_at-rule.result c.loop-i.all.items c.push.new.self.items c.in-Some.equation c.rule_at-rule.ensures c.loop-i.invariant
    (gives_of c.args.given.now c.as_slice-before.result.now c.loop-i.all.items c.rule_at-rule.result c.in_ok-found.found c.in-Some.equation c.as_slice-before.ensures.value c.in-Some.is c.in_ok-found.ensures)
    c.in_ok-push.ensures.items
