-- What the calls of this crate find and write step by step.
use Rattle.std.specs.Prelude.{ℕ, ◌≡◌, ◌≤◌, ◌+◌, cond, List, length, take, drop, count_by}
use Rattle.psg_lexis.specs.declared.token.Spanned.{Spanned}
use Rattle.psg_commented.specs.Noting.{bytes_between, counts, ended_by}
use Rattle.psg_commented.specs.Printing.{due, level_after}
use Rattle.psg_commented.specs.declared.noting.Note.{Note}
use Rattle.psg_commented.specs.declared.noting.Passed.{Passed}
use Rattle.psg_commented.specs.declared.printing.Spot.{Spot}

-- these are tokens before its place
pub record IsPassed (ts : List Spanned) (p : Passed) : Type 0 where
  pub tokens : p.tokens ≤ ended_by ts p.place
  pub counted : p.counted ≡ count_by counts (take p.tokens ts)

-- that many tokens of the text were written at most, and that many comments
pub record IsSpot (text : List ℕ) (written : ℕ) (notes : List Note) (s : Spot) : Type 0 where
  pub seen : s.seen ≤ written
  pub told : s.told ≤ length notes
  pub level : s.level ≤ length text

-- where the text goes on after the token
pub record IsNext (text : List ℕ) (t : Spanned) (notes : List Note) (s s' : Spot) : Type 0 where
  pub from : s'.from ≡ t.end
  pub seen : s'.seen ≡ s.seen + cond (counts t) 1 0
  pub level : s'.level ≡ level_after s.level (bytes_between text s.from t.start)
  pub told : drop s'.told notes ≡ drop (due t.token s.seen (drop s.told notes)) (drop s.told notes)
