use Rattle.std.proofs.Common.{◌≡◌, ◌∙◌, Some, map, ap, sym}
use Rattle.std.proofs.lemmas.List.{take_all}
use Rattle.psg_terms.proofs.Lists.{IfSome_at}
use Rattle.psg_grammar.specs.Insertion.{Leaf as PlainLeaf}
use Rattle.psg_session.specs.Leaves.{given, leaf_of}
use Rattle.psg_session.specs.Views.{plain_leaf}
use Rattle.psg_session.proofs.LeafLaws.{none_in}
use Rattle.psg_session.proofs.LeafWords.{none_with, one_more}
use Rattle.psg_session.proofs.leaves.leaves_of.Goals as goal

pub returns-in_default-clause-none : goal.returns-in_default-clause-none
returns-in_default-clause-none c =
    none_with c.args.tokens.now c.loop-spanned.spanned-index c.spanned-item.result c.loop-spanned-test.true
    c.spanned-item.is
    (none_in ((x : PlainLeaf) → leaf_of c.spanned-item.result.token ≡ Some x → ⊥) c.in_ok-leaf.field-0 c.in_default.is
    c.in_ok-leaf.ensures.none)

pub loop-spanned-preserved : goal.loop-spanned-preserved
loop-spanned-preserved c =
    one_more c.args.tokens.now c.loop-spanned.spanned-index c.spanned-item.result c.loop-spanned.leaves.items
    c.in-Some.leaf c.loop-spanned-test.true c.spanned-item.is
    c.loop-spanned.invariant
    (IfSome_at (λ x. leaf_of c.spanned-item.result.token ≡ Some (plain_leaf x)) c.in_ok-leaf.field-0 c.in-Some.leaf
    c.in-Some.is c.in_ok-leaf.ensures.some)
    ∙ ap (λ xs. map Some (map plain_leaf xs)) (sym c.in_ok-push.ensures.items)

pub returns-clause-some : goal.returns-clause-some
returns-clause-some c =
    ap (map given) (sym (take_all c.loop-spanned.spanned-index c.args.tokens.now c.loop-spanned-test.false))
    ∙ c.loop-spanned.invariant
