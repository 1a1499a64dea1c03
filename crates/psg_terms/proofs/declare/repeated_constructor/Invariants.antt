use Rattle.std.proofs.Common.{◌≡◌, take, false, List, ℕ}
use Rattle.psg_terms.specs.Names.{has_twice, is_among}
use Rattle.std.specs.Prelude.{is_some}
use Rattle.std.specs.HashMap.{get_by}
use Rattle.std.specs.Str.{bytes_eq}
use Rattle.psg_terms.specs.Declarations.{names_in}
use Rattle.psg_terms.specs.Numbered.{places}
use Rattle.psg_terms.proofs.declare.repeated_constructor.Given as goal

abbrev pub invariant-loop-i : goal.invariant-loop-i
invariant-loop-i l =
    (has_twice (take l.i (names_in (places l.placed))) ≡ false)
    × ((n : List ℕ) → is_some (get_by (λ k. bytes_eq n k.now) l.seen) ≡ is_among (take l.i (names_in (places l.placed))) n)
