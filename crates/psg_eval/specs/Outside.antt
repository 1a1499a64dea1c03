-- What is known of a scope operator's node outside of it.
use Rattle.std.specs.Prelude.{ℕ, Bool, false, List, []}
use Rattle.psg_terms.specs.Terms.{Term}
use Rattle.psg_terms.specs.Relations.{IsRelation}
use Rattle.psg_grammar.specs.declared.types.Definition.{Definition}
use Rattle.psg_grammar.specs.Keys.{Key, outward}
use Rattle.psg_scope.specs.declared.header.Header.{Header}
use Rattle.psg_scope.specs.Headers.{IsHeader, keys}
use Rattle.psg_eval.specs.declared.partial.Partial.{Partial}
use Rattle.psg_eval.specs.Glues.{CloseGlue, IsCut}

-- the header of what passes outward, and the rows without the keys that end inside
pub record IsClosed (def : Definition) (p : Partial) (header : Header) (rows : List (List Term)) : Type 0 where
  pub region : (names declared : List Key) (unfinished : ℕ → Bool) → IsHeader names declared unfinished p.header
      → IsHeader (outward unfinished declared names) [] (λ _. false) header
  pub sorts : List ℕ
  pub made : IsRelation def.signature sorts
      (IsCut def.signature (CloseGlue (keys p.header.names) (keys header.names)) p.rel) rows
