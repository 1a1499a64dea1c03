-- The comments of a text, by its characters.
use Rattle.std.specs.Prelude.{ℕ, ◌≡◌, ◌+◌, ◌==◌, ◌||◌, ◌&&◌, Bool, true, false, cond, List, [], ◌∷◌, ◌++◌, IsTrue}
use Rattle.psg_terms.specs.Names.{Name}
use Rattle.psg_lexis.specs.Classes.{Chars, is_blank}
use Rattle.psg_lexis.specs.Tokens.{bytes_of, IsToken}
use Rattle.psg_lexis.specs.Faults.{IsFault}
use Rattle.psg_lexis.specs.declared.token.Token.{Token}
use Rattle.psg_lexis.specs.declared.token.LexFault.{LexFault}
use Rattle.psg_comments.specs.Fitting.{begins_with}
use Rattle.psg_comments.specs.declared.finding.Comment.{Comment}

-- Here a line ends: the text does, or a line feed follows, or a carriage return and a line feed.
abbrev pub is_end : Chars → Bool
is_end [] = true
is_end (c ∷ []) = c == 10
is_end (c ∷ d ∷ cs) = (c == 10) || ((c == 13) && (d == 10))

-- the characters up to the end of their first line
abbrev pub line_of : Chars → Chars
line_of [] = []
line_of (c ∷ cs) = cond (is_end (c ∷ cs)) [] (c ∷ line_of cs)

-- the characters from the end of their first line on
abbrev pub after_line : Chars → Chars
after_line [] = []
after_line (c ∷ cs) = cond (is_end (c ∷ cs)) (c ∷ cs) (after_line cs)

module _ (fixed : List Name) (token : Chars) where
  -- From the byte `at` on the characters have these comments. A comment begins where a token of the language would
  -- begin, if the characters there begin with the token of comments, and goes on to the end of its line. After a place
  -- where neither a comment, nor a blank, nor a token begins there are none.
  pub data HasComments : Chars → ℕ → List Comment → Type 0 where
    nothing : (at : ℕ) → HasComments [] at []
    blank : (c : ℕ) (cs : Chars) (at : ℕ) (more : List Comment) → IsTrue (is_blank c) → HasComments cs (at + 1) more
        → HasComments (c ∷ cs) at more
    comment : (all : Chars) (at : ℕ) (more : List Comment) → begins_with all token ≡ true
        → HasComments (after_line all) (at + bytes_of (line_of all)) more
        → HasComments all at (record { start = at; end = at + bytes_of (line_of all) } ∷ more)
    token_there : (all front rest : Chars) (at : ℕ) (t : Token) (more : List Comment)
        → begins_with all token ≡ false → all ≡ front ++ rest → IsToken fixed front rest t
        → HasComments rest (at + bytes_of front) more → HasComments all at more
    no_token : (all : Chars) (at place : ℕ) (fault : LexFault) → begins_with all token ≡ false
        → IsFault fixed all place fault → HasComments all at []
