use Rattle.std.proofs.Common.{sym, ◌∙◌, true≢false}
use Rattle.psg_terms.proofs.Lists.{got_some, got_none}
use Rattle.psg_session.proofs.LeafLaws.{word_at, none_taken, none_left, one_taken, one_refused}
use Rattle.psg_session.proofs.leaves.next_leaf.Goals as goal

pub returns-then-not-takes_leaf : goal.returns-then-not-takes_leaf
returns-then-not-takes_leaf c =
    none_taken c.args.language.now.definition c.args.leaves.now c.args.at c.args.item.now c.requires.within
    (sym c.takes_leaf.ensures ∙ c.if-not-takes_leaf.true)

pub suits-requires-clause-word : goal.suits-requires-clause-word
suits-requires-clause-word c =
    word_at c.args.leaves.now c.args.at c.in-Some.leaf.now
    (got_some c.args.leaves.now c.args.at c.get.result c.in-Some.leaf c.get.ensures.lookup c.in-Some.is)
    c.requires.words

pub returns-in-None : goal.returns-in-None
returns-in-None c =
    none_left c.args.language.now.definition c.args.leaves.now c.args.at c.args.item.now
    (sym c.takes_leaf.ensures ∙ c.if-not-takes_leaf.false)
    (got_none c.args.leaves.now c.args.at c.get.result c.get.ensures.lookup c.in-None.is)

pub returns-then-suits : goal.returns-then-suits
returns-then-suits c =
    one_taken c.args.language.now.definition c.args.leaves.now c.args.at c.args.item.now c.in-Some.leaf.now
    (sym c.takes_leaf.ensures ∙ c.if-not-takes_leaf.false)
    (got_some c.args.leaves.now c.args.at c.get.result c.in-Some.leaf c.get.ensures.lookup c.in-Some.is)
    (c.suits.ensures.0 c.if-suits.true)

pub returns-else-suits : goal.returns-else-suits
returns-else-suits c =
    one_refused c.args.language.now.definition c.args.leaves.now c.args.at c.args.item.now c.in-Some.leaf.now
    (sym c.takes_leaf.ensures ∙ c.if-not-takes_leaf.false)
    (got_some c.args.leaves.now c.args.at c.get.result c.in-Some.leaf c.get.ensures.lookup c.in-Some.is)
    (λ h. true≢false (sym (c.suits.ensures.1 h) ∙ c.if-suits.false))
