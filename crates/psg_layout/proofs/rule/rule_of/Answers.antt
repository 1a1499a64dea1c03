use Rattle.std.proofs.Common.{codes, sym, ◌∙◌}
use Rattle.std.proofs.lemmas.Bool.{both_ways}
use Rattle.std.proofs.lemmas.Slice.Eq.{bytes_eq-Decides}
use Rattle.psg_layout.proofs.RuleLaws.{group_line, break_line, no_line}
use Rattle.psg_layout.proofs.rule.rule_of.Goals as goal

pub returns-then-eq : goal.returns-then-eq
returns-then-eq c =
    group_line c.args.line.now c.split_word-parts.result.0.now c.split_word-parts.result.1.now c.split_word-parts.ensures.parts c.split_word-parts.ensures.word
    c.split_word-parts.ensures.behind c.group_of.result
    ((bytes_eq-Decides c.split_word-parts.result.0.now (codes "group")).0 (sym c.eq.ensures ∙ c.if-eq.true)) c.group_of.ensures

pub returns-then-eq-2 : goal.returns-then-eq-2
returns-then-eq-2 c =
    break_line c.args.line.now c.split_word-parts.result.0.now c.split_word-parts.result.1.now c.split_word-parts.ensures.parts c.split_word-parts.ensures.word
    c.split_word-parts.ensures.behind c.break_of.result
    ((bytes_eq-Decides c.split_word-parts.result.0.now (codes "break")).0 (sym c.eq-2.ensures ∙ c.if-eq-2.true)) c.break_of.ensures

pub returns : goal.returns
returns c =
    no_line c.args.line.now c.split_word-parts.result.0.now c.split_word-parts.result.1.now c.split_word-parts.ensures.parts c.split_word-parts.ensures.word
    c.split_word-parts.ensures.behind
    (λ e. both_ways _ c.if-eq.false (c.eq.ensures ∙ (bytes_eq-Decides c.split_word-parts.result.0.now (codes "group")).1 e))
    (λ e. both_ways _ c.if-eq-2.false (c.eq-2.ensures ∙ (bytes_eq-Decides c.split_word-parts.result.0.now (codes "break")).1 e))
