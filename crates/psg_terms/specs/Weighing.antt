-- A node that is kept with its size.
use Rattle.std.specs.Prelude.{◌≡◌, ◌-◌, ◌^◌, min}
use Rattle.psg_terms.specs.Terms.{Term}
use Rattle.psg_terms.specs.Shapes.{term_of}
use Rattle.psg_terms.specs.Weight.{symbols_of, depth_of, above_of}
use Rattle.psg_terms.specs.declared.term.Weighed.{Weighed}

-- the term of a node, without its sizes
abbrev pub weighed_term : Weighed → Term
weighed_term w = term_of w.node

-- the numbers are those of the term, symbols and depth as far as they fit
pub record IsWeighed (w : Weighed) : Type 0 where
  pub symbols_right : w.symbols ≡ min (symbols_of (weighed_term w)) (2 ^ 64 - 1)
  pub depth_right : w.depth ≡ min (depth_of (weighed_term w)) (2 ^ 64 - 1)
  pub above_right : w.above ≡ above_of (weighed_term w)
