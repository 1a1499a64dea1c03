use Rattle.std.proofs.Common.{List, ℕ, ◌++◌, ap, ap₂, sym, subst, ◌∙◌}
use Rattle.std.specs.Prelude.{codes}
use Rattle.psg_lint.specs.Blamed.{IsDeclaredMessage, once, twice}
use Rattle.psg_lint.proofs.messages.of_declared.Goals as goal

pub returns-in_ok-message-in-Some : goal.returns-in_ok-message-in-Some
returns-in_ok-message-in-Some c = λ r spots.
    let j = c.args.judged in
    let (line, column, at, told) = c.in_ok-place-in-Some.ensures r spots in
    subst (λ (t : List ℕ). IsDeclaredMessage j.definition.now j.text.now j.tree.now r c.args.name.now t)
    (sym (c.in_ok-message-in-Some.ensures.ok
    ∙ ap₂ (λ n t. n ++ (codes " is declared twice, at " ++ (t ++ codes " too"))) c.as_str.ensures (c.as_str-in-Some.ensures.value ∙ told)))
    (twice c.in-Some.other line column (sym c.in_ok-found.ensures ∙ c.in-Some.is) at)

pub returns-in_ok-message-in-None : goal.returns-in_ok-message-in-None
returns-in_ok-message-in-None c = λ r spots.
    let j = c.args.judged in
    subst (λ (t : List ℕ). IsDeclaredMessage j.definition.now j.text.now j.tree.now r c.args.name.now t)
    (sym (c.in_ok-message-in-None.ensures.ok ∙ ap (λ n. n ++ codes " is used as something else before") c.as_str-in-None.ensures)) (once (sym c.in_ok-found.ensures ∙ c.in-None.is))
