use Rattle.std.proofs.Common.{ap, false, sym, subst, ◌∙◌}
use Rattle.psg_class.specs.Class.{IsClass}
use Rattle.psg_recover.specs.Grammars.{quiet}
use Rattle.psg_lint.proofs.ReportLaws.{ends_of, fault_so, formed_so, left_formed, parsed_so, was_read}
use Rattle.psg_lint.proofs.reporting.tell_tokens.Goals as goal

pub parse_ranged-requires-clause-class : goal.parse_ranged-requires-clause-class
parse_ranged-requires-clause-class g c =
    subst IsClass (sym c.requires.linting.reader.grammar) c.requires.linting.reader.class

pub parse_ranged-requires-clause-table : goal.parse_ranged-requires-clause-table
parse_ranged-requires-clause-table g c = c.requires.linting.reader.table

pub tell_parsed-requires-clause-parsed : goal.tell_parsed-requires-clause-parsed
tell_parsed-requires-clause-parsed g c =
    let h = c.requires.linting in
    parsed_so c.args.linting.language.now c.args.linting.reader.grammar.now.definition c.args.linting.reader.kind c.goal-own.result c.args.tokens.now
    c.in-Ok.parsed.tree (h.reader.grammar ∙ ap quiet h.same) c.goal-own.ensures c.in-Ok.ensures.tree

pub tell_parsed-requires-clause-read : goal.tell_parsed-requires-clause-read
tell_parsed-requires-clause-read g c =
    let h = c.requires.linting in
    was_read c.args.linting.language.now c.args.linting.reader.grammar.now.definition c.args.linting.reader.kind c.goal-own.result c.args.tokens.now
    c.in-Ok.parsed.tree c.in-Ok.parsed.ranges.nodes (h.reader.grammar ∙ ap quiet h.same) c.goal-own.ensures c.in-Ok.ensures.tree c.in-Ok.ensures.ranges

pub tell_parsed-requires-clause-formed : goal.tell_parsed-requires-clause-formed
tell_parsed-requires-clause-formed g c =
    let l = c.args.linting in
    let h = c.requires.linting in
    let q = h.reader.grammar ∙ ap quiet h.same in
    let (stops, last) = c.requires.last in
    left_formed l.language.now (ends_of l h) l.reader.kind l.text.now stops c.args.tokens.now c.in-Ok.parsed.tree h.quiet last
    (parsed_so l.language.now l.reader.grammar.now.definition l.reader.kind c.goal-own.result c.args.tokens.now c.in-Ok.parsed.tree q
    c.goal-own.ensures c.in-Ok.ensures.tree)
    (formed_so l.language.now l.reader.grammar.now.definition l.reader.kind c.goal-own.result c.in-Ok.parsed.tree q c.goal-own.ensures c.in-Ok.ensures.formed)

pub tell_unread-requires-clause-fault : goal.tell_unread-requires-clause-fault
tell_unread-requires-clause-fault g c =
    let l = c.args.linting in
    let h = c.requires.linting in
    fault_so l.language.now l.reader.grammar.now.definition l.reader.kind c.goal-own.result c.args.tokens.now c.in-Err.fault
    (h.reader.grammar ∙ ap quiet h.same) c.goal-own.ensures c.in-Err.ensures.fault

pub returns-in_ok-tell_unread-in-Err : goal.returns-in_ok-tell_unread-in-Err
returns-in_ok-tell_unread-in-Err g c = let (told, e, h) = c.in_ok-tell_unread-in-Err.ensures in (told, false, e, h)
