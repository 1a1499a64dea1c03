use Rattle.std.proofs.Common.{sym, ◌∙◌, inr, rules, string_bytes}
use Rattle.psg_prompt.proofs.PromptLaws.{ended_after, ended_told, on_err, pressed_so, told_so}
use Rattle.psg_prompt.proofs.prompt.Prompt.press.Goals as goal

pub returns-then-is_ended-clause-pressed : goal.returns-then-is_ended-clause-pressed
returns-then-is_ended-clause-pressed c =
    ended_after c.args.self.now c.args.stroke.now.key (sym c.is_ended.ensures ∙ c.if-is_ended.true)

pub returns-then-is_ended-clause-told : goal.returns-then-is_ended-clause-told
returns-then-is_ended-clause-told c =
    ended_told c.args.self.now c.args.stroke.now.key (string_bytes c.args.out.now)
    (sym c.is_ended.ensures ∙ c.if-is_ended.true)

pub returns-in_err-change-clause-memory : goal.returns-in_err-change-clause-memory
returns-in_err-change-clause-memory c =
    on_err _ _ (inr (told_so c.args.self.now c.args.stroke.now.key c.act_of-act.result (string_bytes c.args.out.now)
    (string_bytes c.in_ok-text.text) (string_bytes c.push_str.new.self)
    (sym c.is_ended.ensures ∙ c.if-is_ended.false) (search rules) c.in_ok-text.ensures (search rules)))

pub returns-clause-pressed : goal.returns-clause-pressed
returns-clause-pressed c =
    pressed_so c.args.self.now _ c.args.stroke.now.key c.act_of-act.result
    (sym c.is_ended.ensures ∙ c.if-is_ended.false) (search rules) c.in_ok-change.ensures

pub returns-clause-told : goal.returns-clause-told
returns-clause-told c =
    told_so c.args.self.now c.args.stroke.now.key c.act_of-act.result (string_bytes c.args.out.now)
    (string_bytes c.in_ok-text.text) (string_bytes c.push_str.new.self)
    (sym c.is_ended.ensures ∙ c.if-is_ended.false) (search rules) c.in_ok-text.ensures (search rules)
