use Rattle.std.proofs.Common.{◌-◌, ◌++◌, List, ℕ, length, take, rules, sym, ap, ◌∙◌, subst}
use Rattle.std.specs.Prelude.{IsUtf8, Some}
use Rattle.psg_comments.specs.Blanking.{IsBlanked}
use Rattle.psg_keeping.specs.Rules.{other, unmarked}
use Rattle.psg_keeping.proofs.FileLaws.{opens_as_is, opens_text}
use Rattle.psg_keeping.proofs.files.blanked.Goals as goal

pub returns-in_default : goal.returns-in_default
returns-in_default c =
    let no : IsUtf8 c.unmarked-rest.result.now → ⊥ = search rules in
    opens_as_is c.args.name.now c.args.bytes.now (Some c.args.rule.now) c.as_they_are.result c.as_they_are.ensures.given
    c.as_they_are.ensures.known (other c.args.rule.now (λ u. no (subst IsUtf8 (sym c.unmarked-rest.ensures) u)))

pub returns : goal.returns
returns c =
    let found = c.in_ok-found.found in
    let bytes = c.args.bytes.now in
    opens_text c.args.name.now bytes c.extend_from_slice.new.self.items c.in_ok-name.name c.of.result c.args.rule.now
    found.comments.items found.bytes.items (subst IsUtf8 c.unmarked-rest.ensures c.in-Ok.ensures.cases.1)
    (subst (λ t. IsBlanked c.args.rule.now.fixed c.args.rule.now.token t found.comments.items found.bytes.items)
    (c.in-Ok.ensures.cases.0 ∙ c.unmarked-rest.ensures) c.in_ok-found.ensures)
    (c.in_ok-extend_from_slice.ensures.items
    ∙ ap (λ l. l ++ c.as_slice.result.now)
    (c.in_ok-given.ensures.items ∙ c.split_at.ensures.front
    ∙ ap (λ (r : List ℕ). take (length bytes - length r) bytes) c.unmarked-rest.ensures)
    ∙ ap (λ l. take (length bytes - length (unmarked bytes)) bytes ++ l) c.as_slice.ensures.value)
    c.in_ok-name.ensures (c.of.ensures ∙ c.in_ok-own.ensures.items ∙ c.unmarked-rest.ensures)
