use Rattle.std.proofs.Common.{sym, ◌∙◌, subst}
use Rattle.psg_terms.proofs.Lists.{got_some, in_at}
use Rattle.psg_terms.specs.Relations.{IsIn}
use Rattle.psg_covering.proofs.front.is_there.Goals as goal

pub returns-in-Some-get : goal.returns-in-Some-get
returns-in-Some-get c h =
    let same = sym c.terms.ensures ∙ c.same_all.ensures.0 h ∙ c.terms-in-Some-get.ensures in
    subst (λ z. IsIn z c.args.rows.now) same
    (in_at c.args.rows.now c.in-Some.place.now c.in-Some-get.other.now (got_some c.args.rows.now c.in-Some.place.now c.get.result c.in-Some-get.other c.get.ensures.lookup c.in-Some-get.is))
