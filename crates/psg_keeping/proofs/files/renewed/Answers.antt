use Rattle.std.proofs.Common.{true≢false, refl, rules, sym, subst, ◌∙◌}
use Rattle.std.specs.Prelude.{IsUtf8, Some}
use Rattle.psg_keeping.specs.Rules.{no_text}
use Rattle.psg_keeping.specs.Writing.{IsKept}
use Rattle.psg_keeping.proofs.FileLaws.{not_named, writes_text}
use Rattle.psg_keeping.proofs.files.renewed.Goals as goal

pub returns-then-not-is_name-clause-none : goal.returns-then-not-is_name-clause-none
returns-then-not-is_name-clause-none c =
    not_named (Some c.args.rule.now) c.args.known.now c.args.name.now c.args.bytes.now
    (λ e. true≢false (sym (c.is_name.ensures.1 e) ∙ c.if-not-is_name.true))

pub returns-in_default-clause-none : goal.returns-in_default-clause-none
returns-in_default-clause-none c =
    let never : IsUtf8 c.as_slice-own.result.now → ⊥ = search rules in
    no_text c.args.known.now refl (λ both. never (subst IsUtf8 (sym c.as_slice-own.ensures) both.0))

pub returns-in_default-from_utf8-clause-none : goal.returns-in_default-from_utf8-clause-none
returns-in_default-from_utf8-clause-none c =
    let never : IsUtf8 c.args.bytes.now → ⊥ = search rules in
    no_text c.args.known.now refl (λ both. never both.1)

pub returns-clause-some : goal.returns-clause-some
returns-clause-some c =
    let rule = c.args.rule.now in
    let text = c.in_ok-text.text.items in
    writes_text rule c.args.known.now c.args.name.now c.args.bytes.now c.in_ok-name.name c.of.result text
    (c.is_name.ensures.0 c.if-not-is_name.false) (subst IsUtf8 c.as_slice-own.ensures c.in-Ok.ensures.cases.1)
    c.in-Ok-from_utf8.ensures.cases.1
    (subst (λ t. IsKept rule.fixed rule.token t c.args.bytes.now text) (c.in-Ok.ensures.cases.0 ∙ c.as_slice-own.ensures)
    (subst (λ t. IsKept rule.fixed rule.token c.in-Ok.old.now t text) c.in-Ok-from_utf8.ensures.cases.0 c.in_ok-text.ensures))
    c.in_ok-name.ensures c.of.ensures
