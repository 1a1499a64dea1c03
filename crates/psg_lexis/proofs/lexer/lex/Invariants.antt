use Rattle.std.proofs.Common.{◌-◌, ◌≤◌, length}
use denote.Text.{Utf8}
use denote.Shadow.{shadow}
use Rattle.psg_lexis.proofs.Walk.{HasWalked}
use Rattle.psg_lexis.proofs.lexer.lex.Given as goal

abbrev pub invariant-loop-first : goal.invariant-loop-first
invariant-loop-first l = shadow (Utf8 l.rest) × (length l.rest ≤ length l.text)
    × HasWalked l.lexis l.text l.tokens.items (length l.text - length l.rest) l.rest

abbrev pub decreases-loop-first : goal.decreases-loop-first
decreases-loop-first l = length l.rest
