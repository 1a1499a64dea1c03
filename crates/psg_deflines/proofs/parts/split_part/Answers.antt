use Rattle.std.proofs.Common.{sym, ap, ◌∙◌, length, eqb, arith}
use Rattle.std.proofs.lemmas.Bool.{eqb-true, false≢true}
use Rattle.std.proofs.lemmas.List.Sums.{prefix_len-le-length}
use Rattle.std.proofs.lemmas.List.{nil_from_length}
use Rattle.std.proofs.lemmas.Option.{MatchOption-at_some, MatchOption-at_none}
use Rattle.psg_deflines.proofs.WrittenLaws.{is_space, split-at, split-ends, split-none}
use Rattle.psg_deflines.specs.Parts.{IsFirst, HasNoFirst}
use Rattle.psg_deflines.proofs.parts.split_part.Goals as goal
use Rattle.psg_deflines.proofs.parts.split_part.Goals.{else-spaces-gt0-via-then-spaces-gt0+else-is_empty, else-spaces-gt0-via-else-spaces-gt0}

pub returns-in_default : goal.returns-in_default
returns-in_default c = split-none c.args.text.now c.requires (MatchOption-at_none (HasNoFirst c.args.text.now) (IsFirst c.args.text.now) c.in_default.is c.in_ok-len.ensures)

pub split_at-requires-2 : goal.split_at-requires-2
split_at-requires-2 c = omega (arith, prefix_len-le-length is_space c.split_at.result.1.now)

pub returns-then-is_empty : goal.returns-then-is_empty
returns-then-is_empty c =
    split-ends c.args.text.now c.in-Some.len c.spaces_len-spaces.result c.split_at.result.1.now c.split_at-2.result.1.now (MatchOption-at_some (HasNoFirst c.args.text.now) (IsFirst c.args.text.now) c.in-Some.len c.in-Some.is c.in_ok-len.ensures) c.split_at.ensures.back
    c.spaces_len-spaces.ensures c.split_at-2.ensures.back (nil_from_length c.split_at-2.result.1.now (eqb-true _ 0 (sym c.if-is_empty.ensures))) c.if-spaces-gt0.true

pub returns : goal.returns
returns c =
    split-at c.args.text.now c.in-Some.len c.spaces_len-spaces.result c.split_at.result.0.now c.split_at.result.1.now c.split_at-2.result.1.now (MatchOption-at_some (HasNoFirst c.args.text.now) (IsFirst c.args.text.now) c.in-Some.len c.in-Some.is c.in_ok-len.ensures) c.split_at.ensures.front c.split_at.ensures.back
    c.spaces_len-spaces.ensures c.split_at-2.ensures.back
    (λ none. elim c.else-spaces-gt0.branch [
      | else-spaces-gt0-via-then-spaces-gt0+else-is_empty w ↦ absurd (false≢true (w.if-is_empty.ensures ∙ ap (λ xs. eqb (length xs) 0) none))
      | else-spaces-gt0-via-else-spaces-gt0 w ↦ omega arith
    ])
