use Rattle.std.proofs.Common.{◌≡◌, ◌+◌, length}
use Rattle.std.specs.List.{AllByRecursion}
use Rattle.psg_grammar.specs.declared.types.Kind.TheVariants as kinds
use Rattle.psg_eval.specs.Frames.{TakesBefore}
use Rattle.psg_eval.specs.Summaries.{IsSummary}
use Rattle.psg_eval.proofs.CellClimb.{Rises}
use Rattle.psg_eval.proofs.climbing.raised_in_list.Given as goal

-- the list behind the elements that are left is known
abbrev pub invariant-loop-last : goal.invariant-loop-last
invariant-loop-last g l =
    record {
      rises : Rises l.definition l.list l.before l.rest l.own l.whole l.left;
      usual : IsSummary l.definition l.whole;
      kind : l.whole.kind ≡ kinds.List l.list;
      seen : l.whole.seen ≡ l.own.seen;
      takes : AllByRecursion (TakesBefore l.definition l.own.kind) l.left;
      counted : l.steps + length l.left ≡ l.fn.steps + (length l.before + 1);
    }

abbrev pub decreases-loop-last : goal.decreases-loop-last
decreases-loop-last g l = length l.left
