use Rattle.std.proofs.Common.{◌++◌, reverse, sym, ap, ◌∙◌}
use Rattle.psg_terms.specs.Renaming.{keys}
use Rattle.psg_terms.specs.Shapes.{term_of}
use Rattle.psg_unify.proofs.VariablesPut.{walks_con, walks_closed}
use Rattle.psg_unify.proofs.putting.walk_term.Goals as goal

pub returns-in_ok-push_row-in-Con-clause-walks : goal.returns-in_ok-push_row-in-Con-clause-walks
returns-in_ok-push_row-in-Con-clause-walks c =
    walks_con c.args.sig.now (keys c.args.known.now.keys) c.args.term.now c.in-Con.con.0 c.in-Con.args c.args.stack.now.items c.push_row.new.stack.items
    (sym c.node.ensures ∙ ap term_of c.in-Con.is)
    (c.in_ok-push_row-in-Con.ensures ∙ ap (λ l. c.args.stack.now.items ++ reverse l) c.as_slice.ensures)

pub returns-then-above-eq0-clause-walks : goal.returns-then-above-eq0-clause-walks
returns-then-above-eq0-clause-walks c = walks_closed c.args.sig.now (keys c.args.known.now.keys) c.args.term.now c.args.stack.now.items (sym c.above.ensures ∙ c.if-above-eq0.true)
