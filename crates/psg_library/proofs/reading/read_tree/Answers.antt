use Rattle.std.proofs.Common.{refl}
use Rattle.std.proofs.lemmas.Result.{err_from_is_err_and}
use Rattle.psg_library.specs.Keeping.{nothing, tokens}
use Rattle.psg_library.proofs.TextLaws.{lexed_fault, parsed_fault, read_as, seen}
use Rattle.psg_library.proofs.reading.read_tree.Goals as goal

pub returns-in_err-tokens-clause-fault : goal.returns-in_err-tokens-clause-fault
returns-in_err-tokens-clause-fault g c =
    let p = err_from_is_err_and c.from_residual.result c.from_residual.ensures.1 in
    rw (p.1, p.2)
    (lexed_fault c.args.definition.now c.args.kind c.args.text.now c.args.lexis.now c.requires.lexis c.in_err-tokens.field-0.0 c.in_err-tokens.ensures.err)

pub returns-in_err-tokens-clause-steps : goal.returns-in_err-tokens-clause-steps
returns-in_err-tokens-clause-steps g c = nothing refl

pub returns-in_err-tree-clause-fault : goal.returns-in_err-tree-clause-fault
returns-in_err-tree-clause-fault g c =
    let p = err_from_is_err_and c.from_residual-in_err-tree.result c.from_residual-in_err-tree.ensures.1 in
    let are = seen c.args.definition.now c.args.text.now c.args.lexis.now c.in_ok-tokens.tokens.items c.as_slice.result.now c.requires.lexis c.as_slice.ensures.value c.in_ok-tokens.ensures.ok in
    rw (p.1, p.2)
    (parsed_fault c.args.definition.now c.args.kind c.args.text.now c.as_slice.result.now are c.in_err-tree.field-0.0 c.in_err-tree.ensures.fault)

pub returns-in_err-tree-clause-steps : goal.returns-in_err-tree-clause-steps
returns-in_err-tree-clause-steps g c =
    let are = seen c.args.definition.now c.args.text.now c.args.lexis.now c.in_ok-tokens.tokens.items c.as_slice.result.now c.requires.lexis c.as_slice.ensures.value c.in_ok-tokens.ensures.ok in
    tokens c.as_slice.result.now are c.parse_with.ensures.steps

pub returns-clause-tree : goal.returns-clause-tree
returns-clause-tree g c =
    let are = seen c.args.definition.now c.args.text.now c.args.lexis.now c.in_ok-tokens.tokens.items c.as_slice.result.now c.requires.lexis c.as_slice.ensures.value c.in_ok-tokens.ensures.ok in
    read_as c.args.definition.now c.args.kind c.args.text.now c.as_slice.result.now are c.in_ok-tree.tree c.in_ok-tree.ensures.tree

pub returns-clause-steps : goal.returns-clause-steps
returns-clause-steps g c =
    let are = seen c.args.definition.now c.args.text.now c.args.lexis.now c.in_ok-tokens.tokens.items c.as_slice.result.now c.requires.lexis c.as_slice.ensures.value c.in_ok-tokens.ensures.ok in
    tokens c.as_slice.result.now are c.parse_with.ensures.steps
