use Rattle.std.proofs.Common.{inl, inr}
use Rattle.std.proofs.lemmas.Bool.{true≢false}
use Rattle.psg_relation.proofs.beside.are_both_open.Goals as goal

pub returns-then-is_closed_slice : goal.returns-then-is_closed_slice
returns-then-is_closed_slice c = λ _. inl (c.is_closed_slice.ensures c.if-is_closed_slice.true)

pub returns-then-is_closed_slice-2 : goal.returns-then-is_closed_slice-2
returns-then-is_closed_slice-2 c = λ _. inr (c.is_closed_slice-2.ensures c.if-is_closed_slice-2.true)

pub returns : goal.returns
returns c = λ e. absurd (true≢false e)
