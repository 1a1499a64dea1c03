use Rattle.std.proofs.Common.{◌≡◌, ◌∙◌, List, map, Some, Vec, Global, sym, ap, subst, true≢false}
use Rattle.psg_terms.proofs.Lists.{IfSome_at}
use Rattle.std.specs.List.{AllByRecursion}
use Rattle.psg_grammar.specs.Insertion.{Leaf as PlainLeaf}
use Rattle.psg_session.specs.declared.leaves.Leaf.{Leaf}
use Rattle.psg_session.specs.Leaves.{given, HasWord}
use Rattle.psg_session.specs.Views.{plain_leaf}
use Rattle.psg_session.proofs.LeafLaws.{none_in}
use Rattle.psg_session.proofs.LeafReads.{own_leaves, without_leaves, gives, gives_no_other}
use Rattle.psg_session.proofs.LeafWords.{are_words}
use Rattle.psg_session.proofs.Shapes.{read_at}
use Rattle.psg_session.proofs.leaves.read_leaves.Goals as goal

pub returns-in_default-clause-none : goal.returns-in_default-clause-none
returns-in_default-clause-none c =
    without_leaves c.args.language.now c.requires.language c.args.op c.args.arguments.now c.in-Ok.tokens.items
    c.in-Ok.ensures.ok
    (λ xs e. none_in ((ys : List PlainLeaf) → map given c.as_slice.result.now ≡ map Some ys → ⊥)
    c.in_ok-leaves.field-0 c.in_default.is c.in_ok-leaves.ensures.none xs
    (ap (map given) c.as_slice.ensures.value ∙ e))

pub are_leaves-requires-clause-words : goal.are_leaves-requires-clause-words
are_leaves-requires-clause-words c =
    let e : map given c.in-Ok.tokens.items ≡ map Some (map plain_leaf c.in-Some.leaves.items) =
    ap (map given) (sym c.as_slice.ensures.value)
    ∙ IfSome_at (λ (v : Vec Leaf Global). map given c.as_slice.result.now ≡ map Some (map plain_leaf v.items))
    c.in_ok-leaves.field-0 c.in-Some.leaves c.in-Some.is c.in_ok-leaves.ensures.some in
    subst (λ ls. AllByRecursion HasWord (map plain_leaf ls)) (sym c.as_slice-4.ensures.value)
    (are_words c.args.language.now.lexis c.args.arguments.now c.in-Ok.tokens.items
    (map plain_leaf c.in-Some.leaves.items) c.utf8.arguments c.in-Ok.ensures.ok e)

pub returns-then-are_leaves-clause-some : goal.returns-then-are_leaves-clause-some
returns-then-are_leaves-clause-some c =
    let e : map given c.in-Ok.tokens.items ≡ map Some (map plain_leaf c.in-Some.leaves.items) =
    ap (map given) (sym c.as_slice.ensures.value)
    ∙ IfSome_at (λ (v : Vec Leaf Global). map given c.as_slice.result.now ≡ map Some (map plain_leaf v.items))
    c.in_ok-leaves.field-0 c.in-Some.leaves c.in-Some.is c.in_ok-leaves.ensures.some in
    let def = c.args.language.now.definition in
    let found = read_at c.as_slice-2.result.now def.operators c.args.op c.index-as_slice-op.result
    c.as_slice-2.ensures c.requires.found c.index-as_slice-op.is in
    let own = own_leaves def c.args.op c.index-as_slice-op.result c.as_slice-3.result.now c.as_slice-4.result.now
    c.in-Some.leaves.items found c.as_slice-3.ensures c.as_slice-4.ensures.value in
    gives c.args.language.now c.requires.language c.args.op c.args.arguments.now c.in-Ok.tokens.items
    c.in-Ok.ensures.ok (map plain_leaf c.in-Some.leaves.items) e
    (own.0 (c.are_leaves.ensures.0 c.if-are_leaves.true))

pub returns-clause-none : goal.returns-clause-none
returns-clause-none c =
    let e : map given c.in-Ok.tokens.items ≡ map Some (map plain_leaf c.in-Some.leaves.items) =
    ap (map given) (sym c.as_slice.ensures.value)
    ∙ IfSome_at (λ (v : Vec Leaf Global). map given c.as_slice.result.now ≡ map Some (map plain_leaf v.items))
    c.in_ok-leaves.field-0 c.in-Some.leaves c.in-Some.is c.in_ok-leaves.ensures.some in
    let def = c.args.language.now.definition in
    let found = read_at c.as_slice-2.result.now def.operators c.args.op c.index-as_slice-op.result
    c.as_slice-2.ensures c.requires.found c.index-as_slice-op.is in
    let own = own_leaves def c.args.op c.index-as_slice-op.result c.as_slice-3.result.now c.as_slice-4.result.now
    c.in-Some.leaves.items found c.as_slice-3.ensures c.as_slice-4.ensures.value in
    gives_no_other c.args.language.now c.requires.language c.args.op c.args.arguments.now c.in-Ok.tokens.items
    c.in-Ok.ensures.ok (map plain_leaf c.in-Some.leaves.items) e
    (λ are. true≢false (sym (c.are_leaves.ensures.1 (own.1 are)) ∙ c.if-are_leaves.false))
