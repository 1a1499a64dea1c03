use Rattle.std.proofs.Common.{◌≡◌, rules, sym, ◌∙◌}
use Rattle.std.specs.Prelude.{None}
use Rattle.std.proofs.lemmas.Option.{none-some}
use Rattle.psg_keeping.specs.Rules.{no_rule, not_known}
use Rattle.psg_keeping.proofs.files.written.Goals as goal

pub returns-in_default-clause-none : goal.returns-in_default-clause-none
returns-in_default-clause-none c =
    let none : c.args.rule.now ≡ None = search rules in
    no_rule none

pub returns-in_default-known-clause-none : goal.returns-in_default-known-clause-none
returns-in_default-known-clause-none c =
    let none : c.args.known.now ≡ None = search rules in
    not_known (λ k e s. absurd (none-some k (sym none ∙ e)))
