use Rattle.std.proofs.Common.{sym, ◌∙◌}
use Rattle.std.proofs.lemmas.Bool.{true≢false}
use Rattle.psg_script.proofs.WordLemmas.{no_end_closed, no_more_closed}
use Rattle.psg_script.proofs.words.words_behind.Goals as goal

pub returns-else-is_end : goal.returns-else-is_end
returns-else-is_end c =
    let last = no_end_closed c.in-Some-next_word-3.behind.now (λ f. true≢false (sym (c.is_end.ensures.1 f) ∙ c.if-is_end.false)) in
    let three = no_more_closed 0 _ _ _ c.in-Some-next_word-3.ensures.some last in
    let two = no_more_closed 1 _ _ _ c.in-Some-next_word-2.ensures.some three in
    let one = no_more_closed 2 _ _ _ c.in-Some-next_word.ensures.some two in
    no_more_closed 3 _ _ _ c.in-Some.ensures.some one
