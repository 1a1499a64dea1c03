use Rattle.std.proofs.Common.{◌≡◌, map, take}
use Rattle.psg_recover.specs.Reads.{own_spanned}
use Rattle.psg_recover.proofs.reading.own_tokens.Given as goal

abbrev pub invariant-loop-token : goal.invariant-loop-token
invariant-loop-token l = l.row.items ≡ map (own_spanned l.known.definition.now) (take l.token-index l.tokens)
