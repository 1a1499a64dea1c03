use Rattle.psg_textedit.specs.Typing.{typing_of, IsBest}
use Rattle.psg_textedit.proofs.spans.innermost.Given as goal

abbrev pub invariant-loop-i : goal.invariant-loop-i
invariant-loop-i l = IsBest l.spans (typing_of l.typed) l.i l.best
