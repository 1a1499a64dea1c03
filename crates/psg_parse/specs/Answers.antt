-- What `parse` answers.
use Rattle.std.specs.Prelude.{ℕ, ◌<◌, ◌≤◌, ◌+◌, ◌⊎◌, List}
use Rattle.psg_grammar.specs.declared.types.Definition.{Definition}
use Rattle.psg_grammar.specs.Fragments.{Fragment}
use Rattle.psg_grammar.specs.Sizes.{depth_of}
use Rattle.psg_lexis.specs.declared.token.Spanned.{Spanned}
use Rattle.psg_class.specs.Yields.{Yields}
use Rattle.psg_class.specs.Texts.{tokens_of}
use Rattle.psg_parse.specs.declared.fault.Goal.{Goal}
use Rattle.psg_parse.specs.declared.fault.ParseFault.{ParseFault}
use Rattle.psg_parse.specs.declared.fault.ParseFault.TheVariants as faults

-- a tree of the goal's kind and level has these tokens, with brackets nested so deep
abbrev pub Reads : Definition → Goal → List Spanned → Fragment → ℕ → Type 0
Reads def goal ts f nesting = Yields def f goal.kind goal.least nesting (tokens_of ts)

-- the tree is deeper than a fragment may be, or its brackets and those around it nest deeper than they may
abbrev pub IsTooDeep : Goal → Fragment → ℕ → Type 0
IsTooDeep goal f nesting = (200 < depth_of f) ⊎ (400 < nesting + goal.around)

pub record IsParsed (def : Definition) (goal : Goal) (ts : List Spanned) (f : Fragment) : Type 0 where
  pub nesting : ℕ
  pub reads : Reads def goal ts f nesting
  pub depth : depth_of f ≤ 200
  pub brackets : nesting + goal.around ≤ 400

-- some tree that is too deep has the tokens
pub record HasDeep (def : Definition) (goal : Goal) (ts : List Spanned) : Type 0 where
  pub tree : Fragment
  pub nesting : ℕ
  pub reads : Reads def goal ts tree nesting
  pub deep : IsTooDeep goal tree nesting

-- No tree has the tokens, or one that is too deep has them. Memory may run out at any tokens.
abbrev pub IsFault : Definition → Goal → List Spanned → ParseFault → Type 0
IsFault def goal ts faults.NoTree = (f : Fragment) (nesting : ℕ) → Reads def goal ts f nesting → ⊥
IsFault def goal ts faults.Deep = HasDeep def goal ts
IsFault def goal ts faults.Memory = Unit {0}
