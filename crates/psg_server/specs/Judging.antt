-- What is judged of a text: the text without its comments.
use Rattle.std.specs.Prelude.{ℕ, zero, suc, ◌≡◌, ◌-◌, ◌++◌, ◌&&◌, ◌==◌, nat_le, nat_lt, Bool, false, cond}
use Rattle.std.specs.Prelude.{Option, Some, None, List, [], length, set, slice_get, take}
use Rattle.std.specs.List.{list_any}
use Rattle.psg_terms.specs.Names.{Name}
use Rattle.psg_comments.specs.Blanking.{IsBlanked}
use Rattle.psg_comments.specs.declared.finding.Comment.{Comment}
use Rattle.psg_grammar.specs.WellFormed.{fixed_words}
use Rattle.psg_program.specs.Decoding.{unmarked}
use Rattle.psg_server.specs.declared.judging.Defined.{Defined}

-- what is before the rest of a text: a byte order mark, or nothing
abbrev pub mark_of : List ℕ → List ℕ
mark_of text = take (length text - length (unmarked text)) text

-- The text has these comments, and this is it with a space for each byte of a comment. So each other byte is where it
-- was, and lines stay lines.
pub record IsBlankedText (fixed : List Name) (token text : List ℕ) (comments : List Comment) (judged : List ℕ) : Type 0
  where
    pub rest : List ℕ
    pub is_blanked : IsBlanked fixed token (unmarked text) comments rest
    pub is : judged ≡ mark_of text ++ rest

-- the comments of a text, and what is judged of it: in a language without comments, the text as it is
abbrev pub IsJudged : List Name → Option Name → List ℕ → List Comment → List ℕ → Type 0
IsJudged fixed None text comments judged = (comments ≡ []) × (judged ≡ text)
IsJudged fixed (Some token) text comments judged = IsBlankedText fixed token text comments judged

-- it is so of the comments of the text, and of what is judged of it
pub record OfJudged (def : Defined) (text : List ℕ) (So : List Comment → List ℕ → Type 0) : Type 0 where
  pub comments : List Comment
  pub judged : List ℕ
  pub is_judged : IsJudged (fixed_words def.language) def.comment text comments judged
  pub so : So comments judged

-- ---- where a person asks

abbrev pub is_mark : Option ℕ → Bool
is_mark None = false
is_mark (Some b) = b == 63

-- a `?` is at the place
abbrev pub IsMark : List ℕ → ℕ → Type 0
IsMark text place = slice_get text place ≡ Some 63

-- the place, if a `?` is there
abbrev pub mark_there : List ℕ → ℕ → Option ℕ
mark_there text place = cond (is_mark (slice_get text place)) (Some place) None

abbrev pub mark_before : List ℕ → ℕ → Option ℕ
mark_before text zero = None
mark_before text (suc place) = mark_there text place

abbrev pub or_there : Option ℕ → Option ℕ → Option ℕ
or_there (Some place) there = Some place
or_there None there = there

-- where a `?` is, right before the byte or at it
abbrev pub mark_at : List ℕ → ℕ → Option ℕ
mark_at text byte = or_there (mark_before text byte) (mark_there text byte)

-- What is judged of a text with a `?` at the place. A `?` alone is no token, and no comments are found after what is no
-- token: so they are those of the text with a space in its place.
abbrev pub IsAsked : List Name → Option Name → List ℕ → Option ℕ → List Comment → List ℕ → Type 0
IsAsked fixed token text None comments judged = IsJudged fixed token text comments judged
IsAsked fixed token text (Some place) comments judged =
    (bare : List ℕ) × IsJudged fixed token (set text place 32) comments bare × (judged ≡ set bare place 63)

-- it is so of the comments of the text, and of what is judged of it, where a person asks at the byte
pub record OfAsked (def : Defined) (text : List ℕ) (byte : ℕ) (So : List Comment → List ℕ → Type 0) : Type 0 where
  pub comments : List Comment
  pub judged : List ℕ
  pub is_asked : IsAsked (fixed_words def.language) def.comment text (mark_at text byte) comments judged
  pub so : So comments judged

-- ---- places

-- the byte of what was read, which is after a byte order mark
abbrev pub own_byte : List ℕ → ℕ → ℕ
own_byte text byte = byte - (length text - length (unmarked text))

-- What is typed at the place is part of a comment: it begins before the place, and does not end before it.
abbrev pub is_within : List Comment → ℕ → Bool
is_within comments place = list_any (λ c. nat_lt c.start place && nat_le place c.end) comments
