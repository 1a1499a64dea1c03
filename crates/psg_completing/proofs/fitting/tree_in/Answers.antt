use Rattle.std.proofs.Common.{sym, ◌∙◌}
use Rattle.std.proofs.lemmas.Bool.{true≢false}
use Rattle.psg_completing.proofs.Fits.{fault_for, formed_for, none_read, not_big, parsed_for, tree_is}
use Rattle.psg_completing.proofs.fitting.tree_in.Goals as goal

pub parse_with-requires-clause-class : goal.parse_with-requires-clause-class
parse_with-requires-clause-class g c =
    rw c.definition-definition.ensures.same c.definition-definition.ensures.accepted.of_class

pub returns-then-big-clause-none : goal.returns-then-big-clause-none
returns-then-big-clause-none g c =
    not_big c.args.language.now c.definition-definition.ensures.accepted.of_class c.args.kind c.args.tokens.now
    c.in-Ok.tree
    (parsed_for c.args.language.now _ c.args.kind _ c.args.tokens.now c.in-Ok.tree c.definition-definition.ensures.same
    c.whole.ensures c.in-Ok.ensures.tree) (c.is_big-big.ensures.0 c.if-big.true)

pub returns-else-big-clause-some : goal.returns-else-big-clause-some
returns-else-big-clause-some g c =
    tree_is c.args.language.now c.args.kind c.args.tokens.now c.in-Ok.tree
    (parsed_for c.args.language.now _ c.args.kind _ c.args.tokens.now c.in-Ok.tree c.definition-definition.ensures.same
    c.whole.ensures c.in-Ok.ensures.tree)
    (formed_for c.args.language.now _ c.args.kind _ c.in-Ok.tree c.definition-definition.ensures.same c.whole.ensures
    c.in-Ok.ensures.formed)
    (λ b. true≢false (sym (c.is_big-big.ensures.1 b) ∙ c.if-big.false))

pub returns-else-lost-clause-none : goal.returns-else-lost-clause-none
returns-else-lost-clause-none g c =
    none_read c.args.language.now c.definition-definition.ensures.accepted.of_class c.args.kind c.args.tokens.now
    c.in-Err.fault (sym c.is_lost_parse-lost.ensures ∙ c.if-lost.false)
    (fault_for c.args.language.now _ c.args.kind _ c.args.tokens.now c.in-Err.fault
    c.definition-definition.ensures.same c.whole.ensures c.in-Err.ensures.fault)
