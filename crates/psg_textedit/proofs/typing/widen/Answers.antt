use Rattle.std.proofs.Common.{ℕ, Some, subst}
use Rattle.std.proofs.lemmas.Result.{err_from_is_err_and}
use Rattle.psg_grammar.specs.Paths.{replaced}
use Rattle.psg_grammar.specs.WellFormed.{WellFormed}
use Rattle.psg_textedit.specs.Regions.{IsTyped, Widens}
use Rattle.psg_textedit.specs.Jobs.{IsPathAnswer, language_of, tree_in, typing_in}
use Rattle.psg_textedit.specs.Typing.{IsForNode}
use Rattle.psg_textedit.proofs.Roots.{no_tree_at}
use Rattle.psg_textedit.proofs.Widening.{clean_fault, deep_at, has_path, is_for_node, is_formed, is_typed, put_so, widened_first, widened_next, within_ticks}
use Rattle.psg_textedit.proofs.typing.widen.Goals as goal

pub nodes-init : goal.nodes-init
nodes-init g c =
    λ ok. widened_first c.args.job.now ok c.args.first.now c.args.steps.now c.requires.here

pub read_node-requires-clause-job : goal.read_node-requires-clause-job
read_node-requires-clause-job g c =
    c.requires.job

pub read_node-requires-clause-here : goal.read_node-requires-clause-here
read_node-requires-clause-here g c =
    (c.nodes.invariant c.requires.job).here

pub returns-in_err-reading-clause-fault : goal.returns-in_err-reading-clause-fault
returns-in_err-reading-clause-fault g c =
    let p = err_from_is_err_and c.from_residual.result c.from_residual.ensures.1 in
    rw (p.1, p.2) tt

pub returns-in_err-reading-clause-ticks : goal.returns-in_err-reading-clause-ticks
returns-in_err-reading-clause-ticks g c =
    λ found n w. within_ticks c.args.job.now c.requires.job c.args.first.now c.nodes.path.now c.args.steps.now c.nodes.steps
    c.read_node.new.steps (c.nodes.invariant c.requires.job) c.in_err-reading.ensures.steps found n w

pub returns-in_err-reading-clause-tokens : goal.returns-in_err-reading-clause-tokens
returns-in_err-reading-clause-tokens g c =
    let p = err_from_is_err_and c.from_residual.result c.from_residual.ensures.1 in
    rw (p.1, p.2) (λ e. absurd (cc))

pub changed-requires : goal.changed-requires
changed-requires g c =
    record { shallow = (subst (IsPathAnswer c.args.job.now c.nodes.path.now) c.in-Clean.is c.in_ok-reading.ensures.answer).depth }

pub returns-in_err-change-in-Clean-clause-fault : goal.returns-in_err-change-in-Clean-clause-fault
returns-in_err-change-in-Clean-clause-fault g c =
    let p = err_from_is_err_and c.from_residual-in_err-change-in-Clean.result
    c.from_residual-in_err-change-in-Clean.ensures.1 in
    rw (p.1, p.2)
    (clean_fault c.args.job.now c.requires.job c.nodes.path.now c.in-Clean.tree (c.nodes.invariant c.requires.job).here
    (subst (IsPathAnswer c.args.job.now c.nodes.path.now) c.in-Clean.is c.in_ok-reading.ensures.answer) _ c.in_err-change-in-Clean.ensures.deep)

pub returns-in_err-change-in-Clean-clause-ticks : goal.returns-in_err-change-in-Clean-clause-ticks
returns-in_err-change-in-Clean-clause-ticks g c =
    λ found n w. within_ticks c.args.job.now c.requires.job c.args.first.now c.nodes.path.now c.args.steps.now c.nodes.steps
    c.read_node.new.steps (c.nodes.invariant c.requires.job) c.in_ok-reading.ensures.steps found n w

pub returns-in-Clean-clause-ticks : goal.returns-in-Clean-clause-ticks
returns-in-Clean-clause-ticks g c =
    λ found n w. within_ticks c.args.job.now c.requires.job c.args.first.now c.nodes.path.now c.args.steps.now c.nodes.steps
    c.read_node.new.steps (c.nodes.invariant c.requires.job) c.in_ok-reading.ensures.steps found n w

pub returns-in-Deep-clause-ticks : goal.returns-in-Deep-clause-ticks
returns-in-Deep-clause-ticks g c =
    λ found n w. within_ticks c.args.job.now c.requires.job c.args.first.now c.nodes.path.now c.args.steps.now c.nodes.steps
    c.read_node.new.steps (c.nodes.invariant c.requires.job) c.in_ok-reading.ensures.steps found n w

pub returns-in_default-clause-ticks : goal.returns-in_default-clause-ticks
returns-in_default-clause-ticks g c =
    λ found n w. within_ticks c.args.job.now c.requires.job c.args.first.now c.nodes.path.now c.args.steps.now c.nodes.steps
    c.read_node.new.steps (c.nodes.invariant c.requires.job) c.in_ok-reading.ensures.steps found n w

pub returns-in-Clean-clause-typed : goal.returns-in-Clean-clause-typed
returns-in-Clean-clause-typed g c =
    put_so (IsTyped (language_of c.args.job.now) (tree_in c.args.job.now) (typing_in c.args.job.now) c.args.job.now.kind)
    c.nodes.path.now c.in-Clean.tree c.in_ok-change-in-Clean.change.path c.in_ok-change-in-Clean.change.tree
    c.in_ok-change-in-Clean.ensures.path c.in_ok-change-in-Clean.ensures.tree
    (is_typed c.args.job.now c.requires.job c.nodes.path.now c.in-Clean.tree (c.nodes.invariant c.requires.job).here
    (subst (IsPathAnswer c.args.job.now c.nodes.path.now) c.in-Clean.is c.in_ok-reading.ensures.answer) c.in_ok-change-in-Clean.ensures.depth)

pub returns-in-Clean-clause-formed : goal.returns-in-Clean-clause-formed
returns-in-Clean-clause-formed g c =
    put_so (λ q u. WellFormed (language_of c.args.job.now) (replaced q u (tree_in c.args.job.now)) c.args.job.now.kind)
    c.nodes.path.now c.in-Clean.tree c.in_ok-change-in-Clean.change.path c.in_ok-change-in-Clean.change.tree
    c.in_ok-change-in-Clean.ensures.path c.in_ok-change-in-Clean.ensures.tree
    (is_formed c.args.job.now c.requires.job c.nodes.path.now c.in-Clean.tree (c.nodes.invariant c.requires.job).here
    (subst (IsPathAnswer c.args.job.now c.nodes.path.now) c.in-Clean.is c.in_ok-reading.ensures.answer))

pub returns-in-Clean-clause-fits : goal.returns-in-Clean-clause-fits
returns-in-Clean-clause-fits g c =
    put_so (IsForNode (language_of c.args.job.now) (tree_in c.args.job.now))
    c.nodes.path.now c.in-Clean.tree c.in_ok-change-in-Clean.change.path c.in_ok-change-in-Clean.change.tree
    c.in_ok-change-in-Clean.ensures.path c.in_ok-change-in-Clean.ensures.tree
    (is_for_node c.args.job.now c.requires.job c.nodes.path.now c.in-Clean.tree
    (subst (IsPathAnswer c.args.job.now c.nodes.path.now) c.in-Clean.is c.in_ok-reading.ensures.answer))

pub returns-in-Clean-clause-path : goal.returns-in-Clean-clause-path
returns-in-Clean-clause-path g c =
    put_so (λ q u. (n : ℕ) × Widens (language_of c.args.job.now) (tree_in c.args.job.now) (typing_in c.args.job.now) c.args.first.now (Some q) n)
    c.nodes.path.now c.in-Clean.tree c.in_ok-change-in-Clean.change.path c.in_ok-change-in-Clean.change.tree
    c.in_ok-change-in-Clean.ensures.path c.in_ok-change-in-Clean.ensures.tree
    (has_path c.args.job.now c.requires.job c.args.first.now c.nodes.path.now c.args.steps.now c.nodes.steps c.read_node.new.steps c.in-Clean.tree
    (c.nodes.invariant c.requires.job) (subst (IsPathAnswer c.args.job.now c.nodes.path.now) c.in-Clean.is c.in_ok-reading.ensures.answer) c.in_ok-reading.ensures.counted)

pub returns-in-Deep-clause-fault : goal.returns-in-Deep-clause-fault
returns-in-Deep-clause-fault g c =
    deep_at c.args.job.now c.requires.job c.nodes.path.now (c.nodes.invariant c.requires.job).here
    (subst (IsPathAnswer c.args.job.now c.nodes.path.now) c.in-Deep.is c.in_ok-reading.ensures.answer)

pub returns-in_default-clause-fault : goal.returns-in_default-clause-fault
returns-in_default-clause-fault g c =
    no_tree_at c.args.job.now c.requires.job c.nodes.path.now c.in_default.ensures.cases (subst (IsPathAnswer c.args.job.now c.nodes.path.now) c.in-Unclean.is c.in_ok-reading.ensures.answer)

pub nodes-preserved : goal.nodes-preserved
nodes-preserved g c =
    λ ok. widened_next c.args.job.now ok c.args.first.now c.nodes.path.now c.in-Some.parent.now _ c.args.steps.now c.nodes.steps
    c.read_node.new.steps c.in-Some.ensures.cases.0 (c.nodes.invariant ok) (subst (IsPathAnswer c.args.job.now c.nodes.path.now) c.in-Unclean.is c.in_ok-reading.ensures.answer) c.in_ok-reading.ensures.counted
