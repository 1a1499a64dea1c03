-- A constructor by its position.
use Rattle.std.specs.Prelude.{ℕ, [], map, get_or}
use Rattle.psg_terms.specs.Signature.{Symbol}
use Rattle.psg_terms.specs.declared.declare.ConDecl.{ConDecl}
use Rattle.psg_grammar.specs.declared.types.Definition.{Definition}
use Rattle.psg_defread.specs.WrittenLines.{sort_name, constructor_name}

-- the constructor at the position, as its sort declares it
abbrev pub constructor_at : Definition → ℕ → ConDecl
constructor_at def c = record {
  name = constructor_name def c;
  args = map (sort_name def) (get_or (map (λ (s : Symbol). s.arguments) def.signature.symbols) c []);
}
