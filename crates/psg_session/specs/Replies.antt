-- The reply to a command, and how it is written.
use Rattle.std.specs.Prelude.{ℕ, List, [], ◌∷◌, ◌++◌, codes, decimal}
use Rattle.psg_grammar.specs.Marks.{Mark}
use Rattle.psg_session.specs.declared.refusal.Refusal.{Refusal}
use Rattle.psg_session.specs.Marked.{mark_text}
use Rattle.psg_session.specs.Refusals.{number_of}

-- a refusal, or lines
pub data Reply : Type 0 where
  refused : (refusal : Refusal) → Reply
  answered : (lines : List (List ℕ)) → Reply

-- the mark alone
abbrev pub marked : Mark → Reply
marked mark = answered (mark_text mark ∷ [])

-- these lines, and then the mark
abbrev pub shown : List (List ℕ) → Mark → Reply
shown lines mark = answered (lines ++ mark_text mark ∷ [])

-- the lines of a reply; a refusal is one line
abbrev pub reply_lines : Reply → List (List ℕ)
reply_lines (refused refusal) = (codes "refused " ++ decimal (number_of refusal)) ∷ []
reply_lines (answered lines) = lines

-- a line with its line feed
abbrev pub feed : List ℕ → List ℕ
feed line = line ++ 10 ∷ []

-- each line with its line feed
abbrev pub feed_all : List (List ℕ) → List ℕ
feed_all [] = []
feed_all (line ∷ lines) = feed line ++ feed_all lines

-- the bytes that are written for a reply
abbrev pub reply_text : Reply → List ℕ
reply_text reply = feed_all (reply_lines reply)
