use Rattle.std.proofs.Common.{◌≡◌, drop}
use Rattle.psg_terms.specs.Names.{is_among}
use Rattle.psg_links.proofs.renaming.is_among.Given as goal

abbrev pub invariant-loop-word : goal.invariant-loop-word
invariant-loop-word l = is_among (drop l.word-index l.words) l.text ≡ is_among l.words l.text
