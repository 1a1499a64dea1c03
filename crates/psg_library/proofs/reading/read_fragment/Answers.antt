use Rattle.std.proofs.Common.{inl, inr, [], refl}
use Rattle.std.proofs.lemmas.Result.{err_from_is_err_and}
use Rattle.psg_library.specs.declared.fragment.SavedFragment.{SavedFragment}
use Rattle.psg_library.specs.Keeping.{uncounted}
use Rattle.psg_library.proofs.OneReading.{kept_alone, no_fault_too, memory_alone, fault_alone}
use Rattle.psg_library.proofs.TextLaws.{first_fault, counts, kept}
use Rattle.psg_library.proofs.Written.{kind_there}
use Rattle.psg_library.proofs.reading.read_fragment.Goals as goal

pub returns-in_err-begun-clause-fault : goal.returns-in_err-begun-clause-fault
returns-in_err-begun-clause-fault g c =
    let p = err_from_is_err_and c.from_residual.result c.from_residual.ensures.1 in
    rw (p.1, p.2) (inr c.in_err-begun.ensures.fault)

pub returns-in_err-begun-clause-whole : goal.returns-in_err-begun-clause-whole
returns-in_err-begun-clause-whole g c =
    let p = err_from_is_err_and c.from_residual.result c.from_residual.ensures.1 in
    λ s k. rw (p.1, p.2)
    (memory_alone c.args.definition.now c.requires.sound c.requires.class c.args.bytes.now c.in_err-begun.field-0.0 s (inr c.in_err-begun.ensures.fault) k)

pub returns-in_err-begun-clause-broken : goal.returns-in_err-begun-clause-broken
returns-in_err-begun-clause-broken g c =
    let p = err_from_is_err_and c.from_residual.result c.from_residual.ensures.1 in
    λ x k. rw (p.1, p.2)
    (fault_alone c.args.definition.now c.requires.sound c.requires.class c.args.bytes.now c.in_err-begun.field-0.0 x (inr c.in_err-begun.ensures.fault) k)

pub returns-in_err-begun-clause-steps : goal.returns-in_err-begun-clause-steps
returns-in_err-begun-clause-steps g c = uncounted refl

pub returns-in_err-tree-clause-fault : goal.returns-in_err-tree-clause-fault
returns-in_err-tree-clause-fault g c =
    let p = err_from_is_err_and c.from_residual-in_err-tree.result c.from_residual-in_err-tree.ensures.1 in
    rw (p.1, p.2)
    (first_fault c.args.definition.now c.args.bytes.now c.in_ok-begun.begun.name.now c.in_ok-begun.begun.kind c.in_ok-begun.begun.text.now c.in_ok-begun.ensures.head c.in_ok-begun.ensures.text c.in_err-tree.field-0.0 c.in_err-tree.ensures.fault)

pub returns-in_err-tree-clause-whole : goal.returns-in_err-tree-clause-whole
returns-in_err-tree-clause-whole g c =
    let p = err_from_is_err_and c.from_residual-in_err-tree.result c.from_residual-in_err-tree.ensures.1 in
    let first = first_fault c.args.definition.now c.args.bytes.now c.in_ok-begun.begun.name.now c.in_ok-begun.begun.kind c.in_ok-begun.begun.text.now c.in_ok-begun.ensures.head c.in_ok-begun.ensures.text c.in_err-tree.field-0.0 c.in_err-tree.ensures.fault in
    λ s k. rw (p.1, p.2)
    (memory_alone c.args.definition.now c.requires.sound c.requires.class c.args.bytes.now c.in_err-tree.field-0.0 s first k)

pub returns-in_err-tree-clause-broken : goal.returns-in_err-tree-clause-broken
returns-in_err-tree-clause-broken g c =
    let p = err_from_is_err_and c.from_residual-in_err-tree.result c.from_residual-in_err-tree.ensures.1 in
    let first = first_fault c.args.definition.now c.args.bytes.now c.in_ok-begun.begun.name.now c.in_ok-begun.begun.kind c.in_ok-begun.begun.text.now c.in_ok-begun.ensures.head c.in_ok-begun.ensures.text c.in_err-tree.field-0.0 c.in_err-tree.ensures.fault in
    λ x k. rw (p.1, p.2)
    (fault_alone c.args.definition.now c.requires.sound c.requires.class c.args.bytes.now c.in_err-tree.field-0.0 x first k)

pub returns-in_err-tree-clause-steps : goal.returns-in_err-tree-clause-steps
returns-in_err-tree-clause-steps g c =
    counts c.args.definition.now c.args.bytes.now c.in_ok-begun.begun.name.now c.in_ok-begun.begun.kind c.in_ok-begun.begun.text.now c.in_ok-begun.ensures.head c.in_ok-begun.ensures.text _ _ c.read_tree.ensures.steps

pub returns-in_err-name-clause-fault : goal.returns-in_err-name-clause-fault
returns-in_err-name-clause-fault g c =
    let p = err_from_is_err_and c.from_residual-in_err-name.result c.from_residual-in_err-name.ensures.1 in
    rw (p.1, p.2) (inl refl)

pub returns-in_err-name-clause-whole : goal.returns-in_err-name-clause-whole
returns-in_err-name-clause-whole g c =
    let p = err_from_is_err_and c.from_residual-in_err-name.result c.from_residual-in_err-name.ensures.1 in
    λ s k. rw (p.1, p.2) refl

pub returns-in_err-name-clause-broken : goal.returns-in_err-name-clause-broken
returns-in_err-name-clause-broken g c =
    let p = err_from_is_err_and c.from_residual-in_err-name.result c.from_residual-in_err-name.ensures.1 in
    λ x k. rw (p.1, p.2) (inl refl)

pub returns-in_err-name-clause-steps : goal.returns-in_err-name-clause-steps
returns-in_err-name-clause-steps g c =
    counts c.args.definition.now c.args.bytes.now c.in_ok-begun.begun.name.now c.in_ok-begun.begun.kind c.in_ok-begun.begun.text.now c.in_ok-begun.ensures.head c.in_ok-begun.ensures.text _ _ c.read_tree.ensures.steps

pub returns-clause-kept : goal.returns-clause-kept
returns-clause-kept g c =
    kept c.args.definition.now c.args.bytes.now c.in_ok-begun.begun.name.now c.in_ok-begun.begun.kind c.in_ok-begun.begun.text.now c.in_ok-begun.ensures.head c.in_ok-begun.ensures.text c.in_ok-name.name c.in_ok-tree.tree c.in_ok-name.ensures c.in_ok-tree.ensures.tree

pub returns-clause-kind : goal.returns-clause-kind
returns-clause-kind g c =
    kind_there c.args.definition.now c.requires.sound c.in_ok-tree.tree [] c.in_ok-begun.begun.kind c.in_ok-tree.ensures.formed.0

pub returns-clause-whole : goal.returns-clause-whole
returns-clause-whole g c =
    let own : SavedFragment = record { name = c.in_ok-name.name; kind = c.in_ok-begun.begun.kind; tree = c.in_ok-tree.tree } in
    λ s k. kept_alone c.args.definition.now c.requires.sound c.requires.class c.args.bytes.now own s (returns-clause-kept g c) k

pub returns-clause-broken : goal.returns-clause-broken
returns-clause-broken g c =
    let own : SavedFragment = record { name = c.in_ok-name.name; kind = c.in_ok-begun.begun.kind; tree = c.in_ok-tree.tree } in
    λ x k. no_fault_too c.args.definition.now c.requires.sound c.requires.class c.args.bytes.now own x (returns-clause-kept g c) k

pub returns-clause-steps : goal.returns-clause-steps
returns-clause-steps g c =
    counts c.args.definition.now c.args.bytes.now c.in_ok-begun.begun.name.now c.in_ok-begun.begun.kind c.in_ok-begun.begun.text.now c.in_ok-begun.ensures.head c.in_ok-begun.ensures.text _ _ c.read_tree.ensures.steps
