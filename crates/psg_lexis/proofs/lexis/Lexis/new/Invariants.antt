use Rattle.std.proofs.Common.{◌≡◌, ℕ, List, take}
use Rattle.std.specs.HashSet.{contains_text}
use Rattle.psg_terms.specs.Names.{is_among}
use Rattle.psg_lexis.proofs.lexis.Lexis.new.Given as goal

abbrev pub invariant-loop-word : goal.invariant-loop-word
invariant-loop-word l = record {
  shared : l.shared.items ≡ take l.word-index l.words;
  table : (w : List ℕ) → contains_text l.table w ≡ is_among (take l.word-index l.words) w;
}
