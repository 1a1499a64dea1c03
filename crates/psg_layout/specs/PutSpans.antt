-- The bytes of the nodes of a tree in the text of its tokens, however these are spaced.
use Rattle.std.specs.Prelude.{ℕ, suc, ◌+◌, List, [], ◌∷◌, length, take, drop}
use Rattle.psg_grammar.specs.declared.types.Definition.{Definition}
use Rattle.psg_unparse.specs.Rows.{Piece, token, mark, row}
use Rattle.psg_unparse.specs.Spaced.{Put, text_in}
use Rattle.psg_unparse.specs.Spots.{Placed}
use Rattle.psg_unparse.specs.declared.spans.Span.{Span}

-- how many tokens are in the row
abbrev pub tokens_in : List Piece → ℕ
tokens_in [] = 0
tokens_in (token t ∷ rest) = suc (tokens_in rest)
tokens_in (mark i ∷ rest) = tokens_in rest

-- the gap in front of the first of the tokens, if there is one
abbrev pub first_gap : List Put → List ℕ
first_gap [] = []
first_gap (p ∷ puts) = p.gap

module _ (def : Definition) (puts : List Put) where
  -- the tokens of a node are those after the ones of the row before it
  abbrev pub own_puts : Placed → List Put
  own_puts p = take (tokens_in (row def p.node)) (drop (tokens_in p.spot.before) puts)

  -- From the first byte of the node's first token to after the last byte of its last one. A node without tokens begins
  -- and ends where the token before it ends.
  abbrev pub span_in : Placed → Span
  span_in p = record {
    path = p.spot.path;
    start = length (text_in (take (tokens_in p.spot.before) puts)) + length (first_gap (own_puts p));
    end = length (text_in (take (tokens_in p.spot.before + tokens_in (row def p.node)) puts));
  }
