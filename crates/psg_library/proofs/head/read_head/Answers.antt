use Rattle.std.proofs.Common.{not, [], ◌∷◌, sym, ap, ◌∙◌}
use Rattle.std.specs.Prelude.{codes}
use Rattle.std.proofs.lemmas.Bool.{both_ways, true≢false, not-false}
use Rattle.std.proofs.lemmas.Slice.Eq.{bytes_eq-Decides}
use Rattle.psg_library.proofs.HeadWords.{no_first, other_first, no_words, is_head, wrong_words}
use Rattle.psg_library.proofs.head.read_head.Goals as goal

pub returns-in_default-clause-none : goal.returns-in_default-clause-none
returns-in_default-clause-none c = no_first c.args.line.now c.in_default.ensures.none

pub returns-then-ne-clause-none : goal.returns-then-ne-clause-none
returns-then-ne-clause-none c =
    other_first c.args.line.now c.in-Some.first.now c.in-Some.behind.now c.in-Some.ensures.some.0 c.in-Some.ensures.some.1
    (λ e. true≢false (sym c.if-ne.true ∙ (c.ne.ensures ∙ ap not ((bytes_eq-Decides c.in-Some.first.now (codes "fragment")).1 e))))

pub returns-in_default-cut_word-clause-none : goal.returns-in_default-cut_word-clause-none
returns-in_default-cut_word-clause-none c =
    no_words c.args.line.now c.in-Some.first.now c.in-Some.behind.now c.without_version.result.now c.in-Some.ensures.some.0
    c.without_version.ensures c.in-Some.ensures.some.1 c.in_default-cut_word.ensures.none

pub returns-then-are_name_and_word-clause-some : goal.returns-then-are_name_and_word-clause-some
returns-then-are_name_and_word-clause-some c =
    let both = c.are_name_and_word.ensures.0 c.if-are_name_and_word.true in
    is_head c.args.line.now c.in-Some.first.now c.in-Some.behind.now c.without_version.result.now c.in-Some.ensures.some.0
    c.without_version.ensures c.in-Some-cut_word.name.now c.in-Some-cut_word.word.now
    ((bytes_eq-Decides c.in-Some.first.now (codes "fragment")).0 (not-false _ (sym c.ne.ensures ∙ c.if-ne.false)))
    c.in-Some-cut_word.ensures.some.0 both.0 both.1

pub returns-else-are_name_and_word-clause-none : goal.returns-else-are_name_and_word-clause-none
returns-else-are_name_and_word-clause-none c =
    wrong_words c.args.line.now c.in-Some.first.now c.in-Some.behind.now c.without_version.result.now c.in-Some.ensures.some.0
    c.without_version.ensures c.in-Some-cut_word.name.now c.in-Some-cut_word.word.now c.in-Some.ensures.some.1
    c.in-Some-cut_word.ensures.some.1 c.in-Some-cut_word.ensures.some.0
    (λ h k. both_ways _ c.if-are_name_and_word.false (c.are_name_and_word.ensures.1 (h, k)))
