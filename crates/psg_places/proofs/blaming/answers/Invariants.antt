use Rattle.std.proofs.Common.{ℕ, ◌-◌, ◌^◌, ◌≤◌, length}
use Rattle.psg_grammar.specs.Work.{work_of}
use Rattle.psg_places.specs.Answers.{IsNear}
use Rattle.psg_cache.specs.Annotated.{tree_in}
use Rattle.psg_places.proofs.ClimbLaws.{IsRounding}
use Rattle.psg_places.proofs.SearchLaws.{IsKnown}
use Rattle.psg_places.proofs.blaming.answers.Given as goal

abbrev pub invariant-places : goal.invariant-places
invariant-places g l =
    record {
      known : IsKnown l.definition l.front l.tree l.fn.places l.fn.steps l.steps (work_of l.tree) l.kept.items l.blamed;
      near : IsNear l.definition l.tree l.base;
      rounds : (h : ℕ) → l.fn.places ≤ 2 ^ h
          → IsRounding l.definition l.front l.tree (tree_in l.old) (tree_in l.base) l.kept.items h l.fn.places l.blamed
          l.fn.steps l.steps;
    }

abbrev pub decreases-places : goal.decreases-places
decreases-places g l = l.places - length l.kept.items
