use Rattle.std.proofs.Common.{Option, refl}
use Rattle.std.specs.Prelude.{IfSome}
use Rattle.psg_grammar.specs.Fragments.{hole}
use Rattle.psg_eval.specs.declared.summary.SummaryParts.{SummaryParts}
use Rattle.psg_eval.specs.Starts.{IsListStart, IsStartAt, IsTreeStart}
use Rattle.psg_eval.proofs.StartLaws.{at_none}
use Rattle.psg_eval.proofs.starts.Starts.none.Goals as goal

pub returns : goal.returns
returns c = λ def.
    record {
      holes = at_none (λ p (o : Option SummaryParts). IfSome o (IsTreeStart def (hole p))) _ c.new-holes.ensures.items;
      lists = at_none (IsListStart def) _ c.new-lists.ensures.items;
      operators = at_none (IsStartAt def) _ c.new-operators.ensures.items;
      unknown = refl;
    }
