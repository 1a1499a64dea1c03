use Rattle.std.proofs.Common.{◌≡◌, ◌∷◌, [], true, false, true≢false, sym, subst, ◌∙◌, rules}
use Rattle.psg_grammar.specs.Fragments.{Fragment}
use Rattle.psg_grammar.specs.Sizes.{IsBig}
use Rattle.psg_grammar.specs.WellFormed.{WellFormed}
use Rattle.psg_program.specs.Messages.{large_message}
use Rattle.psg_recover.specs.Findings.{error_at}
use Rattle.psg_lint.specs.Reports.{large}
use Rattle.psg_lint.proofs.ReportLaws.{left_is}
use Rattle.psg_lint.proofs.reporting.tell_parsed.Goals as goal

pub left_out-requires : goal.left_out-requires
left_out-requires g c = record { known = c.requires.linting.reader.known }

pub returns-then-big : goal.returns-then-big
returns-then-big g c =
    let l = c.args.linting in
    let e = left_is l c.requires.linting c.args.parsed.now.tree c.in_ok-tree.tree c.in_ok-tree.ensures in (
      error_at 0 large_message ∷ [],
      false,
      c.in_ok-add_error.ensures,
      large c.args.parsed.now.tree c.requires.parsed (subst IsBig e (c.is_big-big.ensures.0 (let so : c.is_big-big.result ≡ true = search rules in so))),
    )

pub tell_left-requires-clause-tree : goal.tell_left-requires-clause-tree
tell_left-requires-clause-tree g c = left_is c.args.linting c.requires.linting c.args.parsed.now.tree c.in_ok-tree.tree c.in_ok-tree.ensures

pub tell_left-requires-clause-formed : goal.tell_left-requires-clause-formed
tell_left-requires-clause-formed g c =
    let l = c.args.linting in
    subst (λ (t : Fragment). WellFormed l.language.now t l.reader.kind)
    (sym (left_is l c.requires.linting c.args.parsed.now.tree c.in_ok-tree.tree c.in_ok-tree.ensures)) c.requires.formed

pub tell_left-requires-clause-small : goal.tell_left-requires-clause-small
tell_left-requires-clause-small g c = λ big.
    let none : c.is_big-big.result ≡ false = search rules in true≢false (sym (c.is_big-big.ensures.1 big) ∙ none)
