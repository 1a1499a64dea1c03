use Rattle.std.proofs.Common.{◌<◌, ◌-◌, length, sym, ◌∙◌, subst, arith}
use Rattle.psg_terms.specs.Relations.{IsIn}
use Rattle.psg_relation.proofs.Members.{in-at}
use Rattle.psg_relation.proofs.sifting.repeats.Goals as goal

pub returns : goal.returns
returns c = λ h.
    let within : length c.args.once.now - 1 < length c.args.once.now = let z = c.if-count-eq0.false in grind arith in
    subst (λ r. IsIn r c.args.once.now) (sym c.terms.ensures ∙ c.same_all.ensures.0 h ∙ c.terms-2.ensures)
    (in-at c.index-once-last.result c.args.once.now (length c.args.once.now - 1) within c.index-once-last.is)
