use Rattle.std.proofs.Common.{◌∙◌, string_bytes}
use Rattle.psg_prompt.proofs.PromptLaws.{on_err, told_whole}
use Rattle.psg_prompt.proofs.running.tell.Goals as goal

pub returns-in_err-push_end-clause-memory : goal.returns-in_err-push_end-clause-memory
returns-in_err-push_end-clause-memory c =
    on_err _ _ (told_whole c.args.prompt.now c.args.strokes.now (string_bytes c.args.text.now)
    (string_bytes c.push_end.new.out) (c.in_err-push_end.ensures.memory ∙ c.in_ok-press_all.ensures.told))
