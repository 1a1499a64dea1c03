-- What is known of a node with its first children, as the evaluator keeps it.
use Rattle.std.specs.Prelude.{[]}
use Rattle.psg_grammar.specs.declared.types.Kind.TheVariants as kinds
use Rattle.psg_grammar.specs.declared.types.Definition.{Definition}
use Rattle.psg_eval.specs.Partials.{IsPartial}

abbrev domain : {A : Type 0} → (A → Type 0) → Type 0
domain {A} P = A

-- the type that IsPartial speaks of, which its crate does not name for others
abbrev pub Partial : Definition → Type 0
Partial def = domain (IsPartial def (kinds.Phylum 0) [])
