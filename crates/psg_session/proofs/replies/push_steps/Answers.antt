use Rattle.std.proofs.Common.{ℕ, List, ◌++◌, ◌∷◌, take, get_or, sym, ap, ◌∙◌}
use Rattle.std.specs.Prelude.{string_bytes}
use Rattle.std.proofs.lemmas.List.{take_more}
use Rattle.psg_script.specs.Forms.{steps_text}
use Rattle.psg_session.proofs.Cutting.{steps_text-push, pushed}
use Rattle.psg_session.proofs.replies.push_steps.Goals as goal

pub loop-step-preserved : goal.loop-step-preserved
loop-step-preserved c =
    let done : List ℕ = take c.loop-step.step-index c.args.steps.now in
    pushed (string_bytes c.args.text.now) (steps_text done) c.format.result.now (string_bytes c.loop-step.text)
    (string_bytes c.push_str.new.self)
    (string_bytes c.push_str-in-loop-step.new.self) 47 c.loop-step.invariant c.in_ok-push_str.ensures.bytes
    c.in_ok-push_str-2.ensures.bytes
    ∙ ap (λ d. string_bytes c.args.text.now ++ (steps_text done ++ 47 ∷ d)) c.format.ensures.text
    ∙ ap (λ l. string_bytes c.args.text.now ++ l)
    (sym (ap steps_text (take_more c.args.steps.now c.loop-step.step-index 0 c.loop-step-test.true) ∙ steps_text-push
    done (get_or c.args.steps.now c.loop-step.step-index 0)))
