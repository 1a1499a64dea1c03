use Rattle.std.proofs.Common.{◌≡◌, sym, ◌∙◌, arith}
use Rattle.std.proofs.lemmas.Bool.Decides.{nat_tests}
use Rattle.psg_terms.specs.Renaming.{raised}
use Rattle.psg_terms.proofs.RaisingLaws.{raised-none}
use Rattle.psg_terms.proofs.Recognising.{substitute-closed}
use Rattle.psg_terms.proofs.raising.stays.Goals as goal

pub returns-then-base-eq0 : goal.returns-then-base-eq0
returns-then-base-eq0 c = λ _. raised-none c.args.base c.args.term.now c.if-base-eq0.true

pub returns : goal.returns
returns c = λ h.
    let none : c.above.result ≡ 0 = grind (arith, nat_tests) in
    substitute-closed (raised c.args.base) c.args.term.now (sym c.above.ensures ∙ none)
