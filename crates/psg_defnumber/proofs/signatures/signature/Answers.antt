use Rattle.std.proofs.Common.{◌<◌, ◌^◌, ap, arith, length, subst, sym}
use Rattle.psg_terms.specs.Declarations.{constructor_names}
use Rattle.psg_terms.specs.Refusals.{MayRefuse}
use Rattle.psg_deflines.specs.Entries.{written}
use Rattle.psg_defnumber.proofs.SignatureLaws.{not-refused}
use Rattle.psg_defnumber.proofs.SymbolLaws.{few-decls, few-declared}
use Rattle.psg_defnumber.proofs.signatures.signature.Goals as goal

pub new-requires-clause-few_sorts : goal.new-requires-clause-few_sorts
new-requires-clause-few_sorts c = omega (arith, c.in_ok-decls.decls.ok.0, ap length c.in_ok-decls.ensures, few-decls (written c.args.entries.now) c.requires.few)

pub new-requires-clause-few_constructors : goal.new-requires-clause-few_constructors
new-requires-clause-few_constructors c =
    subst (λ decls. length (constructor_names decls) < 2 ^ 32) (sym c.in_ok-decls.ensures) (few-declared (written c.args.entries.now) c.requires.few)

pub unreachable-requires : goal.unreachable-requires
unreachable-requires c =
    c.in_default.not-Memory (not-refused (written c.args.entries.now) c.requires.passed c.in-Err.fault (subst (λ decls. MayRefuse decls c.in-Err.fault) c.in_ok-decls.ensures c.in-Err.ensures.err))
