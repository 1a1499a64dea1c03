use Rattle.std.proofs.Common.{◌+◌, inr, sym, ◌∙◌, ap, subst, arith}
use Rattle.std.specs.Prelude.{string_bytes}
use Rattle.psg_lexis.proofs.Contents.{HasContents, more_contents}
use Rattle.psg_lexis.proofs.Literals.{some_left, too_large_text, begins_text, open_text, bad_width, bad_escape}
use Rattle.psg_lexis.proofs.literal.literal.Goals as goal
use Rattle.psg_lexis.proofs.literal.literal.Goals.{then-size-le-MOST_CONTENTS+in_ok-push-in-Content, else-size-le-MOST_CONTENTS}

pub loop-c-preserved : goal.loop-c-preserved
loop-c-preserved c = (
  c.in-Content.ensures.utf8,
  subst (λ n. HasContents c.args.text.now c.in-Content.after.now (c.loop-c.size + n) (string_bytes c.if-size-le-MOST_CONTENTS.contents)) (sym c.len_utf8.ensures.len)
      (more_contents _ _ _ _ _ _ _ c.loop-c.invariant.1 c.in-Content.ensures (λ small. elim c.if-size-le-MOST_CONTENTS.branch [
        | then-size-le-MOST_CONTENTS+in_ok-push-in-Content w ↦ ap string_bytes w.contents-is
            ∙ w.in_ok-push-in-Content.ensures.bytes
        | else-size-le-MOST_CONTENTS w ↦ absurd (omega arith)
      ])),
)

pub returns-in-Closing-clause-err : goal.returns-in-Closing-clause-err
returns-in-Closing-clause-err c =
    inr (λ fixed. too_large_text fixed _ _ _ _ c.loop-c.invariant.1 _ c.in-Closing.ensures.0 c.in-Closing.ensures.1 (omega arith))

pub overflow_add-result : goal.overflow_add-result
overflow_add-result c =
    let left = some_left _ _ _ c.in-Closing-2.ensures.1 in omega (arith, c.requires)

pub returns-in-Closing-2-clause-ok : goal.returns-in-Closing-2-clause-ok
returns-in-Closing-2-clause-ok c =
    λ fixed. begins_text fixed _ _ _ _ c.loop-c.invariant.1 _ c.in-Closing-2.ensures.0 _ c.in-Closing-2.ensures.1 (omega arith) c.in_ok-of-in-Closing-2.ensures

pub returns-in-LineEnd-clause-err : goal.returns-in-LineEnd-clause-err
returns-in-LineEnd-clause-err c =
    inr (λ fixed. open_text fixed _ _ _ _ c.loop-c.invariant.1 _ c.in-LineEnd.ensures)

pub returns-in-NoWidth-clause-err : goal.returns-in-NoWidth-clause-err
returns-in-NoWidth-clause-err c =
    inr (λ fixed. bad_width fixed _ _ _ _ c.loop-c.invariant.1 _ _ c.in-NoWidth.ensures c.unless_open.ensures)

pub returns-in-NoEscape-clause-err : goal.returns-in-NoEscape-clause-err
returns-in-NoEscape-clause-err c =
    inr (λ fixed. bad_escape fixed _ _ _ _ c.loop-c.invariant.1 _ _ c.in-NoEscape.ensures.0 c.in-NoEscape.ensures.1 c.in-NoEscape.ensures.2 c.unless_open-in-NoEscape.ensures)
