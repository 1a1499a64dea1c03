use Rattle.std.proofs.Common.{◌≡◌, rules, sym, subst}
use Rattle.std.specs.Prelude.{None}
use Rattle.psg_keeping.specs.Rules.{Opens, plain}
use Rattle.psg_keeping.proofs.FileLaws.{opens_as_is}
use Rattle.psg_keeping.proofs.files.opened.Goals as goal

pub returns-in-None : goal.returns-in-None
returns-in-None c =
    let none : c.args.rule.now ≡ None = search rules in
    opens_as_is c.args.name.now c.args.bytes.now c.args.rule.now c.as_they_are.result c.as_they_are.ensures.given
    c.as_they_are.ensures.known (subst (λ r. Opens c.args.name.now c.args.bytes.now r c.args.bytes.now None) (sym none) plain)
