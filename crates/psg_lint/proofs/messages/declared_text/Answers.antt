use Rattle.std.proofs.Common.{List, ℕ, ◌++◌, ap, sym, subst, ◌∙◌}
use Rattle.std.specs.Prelude.{codes}
use Rattle.psg_lint.specs.Blamed.{IsDeclaredText, declared_at, declared_nowhere}
use Rattle.psg_lint.proofs.messages.declared_text.Goals as goal

pub returns-in_ok-own-in-Some : goal.returns-in_ok-own-in-Some
returns-in_ok-own-in-Some c = λ r spots.
    let j = c.args.judged in
    let (line, column, at, told) = c.in_ok-place-in-Some.ensures r spots in
    subst (λ (t : List ℕ). IsDeclaredText j.definition.now j.text.now j.tree.now r c.args.name.now t)
    (sym (c.in_ok-own-in-Some.ensures.ok ∙ ap (λ t. codes ", declared at " ++ t) (c.as_str.ensures.value ∙ told)))
    (declared_at c.in-Some.other line column (sym c.in_ok-found.ensures ∙ c.in-Some.is) at)

pub returns-in_ok-own-in-None : goal.returns-in_ok-own-in-None
returns-in_ok-own-in-None c = λ r spots.
    let j = c.args.judged in
    subst (λ (t : List ℕ). IsDeclaredText j.definition.now j.text.now j.tree.now r c.args.name.now t)
    (sym c.in_ok-own-in-None.ensures.ok) (declared_nowhere (sym c.in_ok-found.ensures ∙ c.in-None.is))
