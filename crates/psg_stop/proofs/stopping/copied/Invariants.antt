use Rattle.std.proofs.Common.{◌≡◌, take}
use Rattle.psg_class.specs.Texts.{tokens_of}
use Rattle.psg_stop.proofs.stopping.copied.Given as goal

abbrev pub invariant-loop-spanned : goal.invariant-loop-spanned
invariant-loop-spanned l = tokens_of l.row.items ≡ tokens_of (take l.spanned-index l.tokens)
