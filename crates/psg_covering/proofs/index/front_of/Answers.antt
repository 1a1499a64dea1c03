use Rattle.std.proofs.Common.{◌∙◌, ap, sym, subst}
use Rattle.psg_terms.specs.Terms.{applied, symbol}
use Rattle.psg_terms.specs.Shapes.{term_of}
use Rattle.psg_covering.specs.Index.{Begins}
use Rattle.psg_covering.proofs.IndexLaws.{begins_none}
use Rattle.psg_covering.proofs.index.front_of.Goals as goal

pub returns-in-Var : goal.returns-in-Var
returns-in-Var c = begins_none c.args.term.now c.new.result.items c.new.ensures.items

pub returns-in_ok-front-in-Con : goal.returns-in_ok-front-in-Con
returns-in_ok-front-in-Con c =
    subst (λ t. Begins t c.in_ok-front-in-Con.front.items)
    (ap (applied (symbol c.in-Con.con.0)) c.as_slice.ensures ∙ sym (sym c.node.ensures ∙ ap term_of c.in-Con.is)) c.in_ok-front-in-Con.ensures
