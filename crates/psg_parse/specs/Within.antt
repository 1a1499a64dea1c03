-- What is within the limits of depth and brackets, and what is not.
use Rattle.std.specs.Prelude.{ℕ, ◌≡◌, ◌≤◌, ◌+◌}
use Rattle.psg_grammar.specs.Fragments.{Fragment}
use Rattle.psg_grammar.specs.Sizes.{depth_of}
use Rattle.psg_parse.specs.declared.fault.Goal.{Goal}
use Rattle.psg_parse.specs.declared.fault.ParseFault.{ParseFault}
use Rattle.psg_parse.specs.declared.fault.ParseFault.TheVariants as faults
use Rattle.psg_parse.specs.Answers.{IsTooDeep}

-- the tree is the fragment, which is within them
pub record IsWithin (goal : Goal) (f : Fragment) (nesting : ℕ) (tree : Fragment) : Type 0 where
  pub same : tree ≡ f
  pub depth : depth_of f ≤ 200
  pub brackets : nesting + goal.around ≤ 400

pub record IsBeyond (goal : Goal) (f : Fragment) (nesting : ℕ) (fault : ParseFault) : Type 0 where
  pub deep : IsTooDeep goal f nesting
  pub is : fault ≡ faults.Deep
