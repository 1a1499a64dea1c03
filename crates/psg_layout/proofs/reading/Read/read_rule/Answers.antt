use Rattle.std.proofs.Common.{Some, refl, ap, sym, ◌∙◌}
use Rattle.std.proofs.lemmas.Bool.{false≢true}
use Rattle.psg_layout.specs.Rules.{said}
use Rattle.psg_layout.proofs.ReadLaws.{is_misplaced, is_repeated, is_accepted}
use Rattle.psg_layout.proofs.reading.Read.read_rule.Goals as goal

pub returns-then-not-has_item : goal.returns-then-not-has_item
returns-then-not-has_item c = λ line h rules i.
    is_misplaced c.args.definition.now c.requires line (said c.args.rule.now) h rules c.in-Some.op (c.in-Some.ensures.found ∙ ap Some c.op.ensures)
    (λ x. false≢true (c.if-not-has_item.ensures.1 x))

pub returns-then-has : goal.returns-then-has
returns-then-has c = λ line h rules i.
    is_repeated c.args.definition.now c.requires line (said c.args.rule.now) h rules c.in-Some.op c.args.self.now (c.in-Some.ensures.found ∙ ap Some c.op.ensures)
    (c.if-not-has_item.ensures.0 refl) i (sym c.has.ensures ∙ c.if-has.true)

pub returns : goal.returns
returns c = λ line h rules i.
    is_accepted c.args.definition.now c.requires line (said c.args.rule.now) h rules c.in-Some.op c.args.self.now c.put.new.self (c.in-Some.ensures.found ∙ ap Some c.op.ensures)
    (c.if-not-has_item.ensures.0 refl) i (sym c.has.ensures ∙ c.if-has.false)
    (c.in_ok-put.ensures c.args.definition.now rules i (c.in-Some.ensures.found ∙ ap Some c.op.ensures))
