-- What is known of a node with its first children.
use Rattle.std.specs.Prelude.{ℕ, ◌≡◌, ◌<◌, ◌^◌, Bool, true, false, ◌||◌, List, [], ◌∷◌, ◌++◌, length, Result, Ok, Err}
use Rattle.psg_terms.specs.Terms.{Term}
use Rattle.psg_terms.specs.Relations.{IsRelation, IsGlued}
use Rattle.psg_terms.specs.Weight.{PassesLimit}
use Rattle.psg_grammar.specs.declared.types.Kind.{Kind}
use Rattle.psg_grammar.specs.declared.types.Definition.{Definition}
use Rattle.psg_grammar.specs.Keys.{Key}
use Rattle.psg_grammar.specs.Sound.{HasKindSort}
use Rattle.psg_relation.specs.Choices.{AllHaveSorts}
use Rattle.psg_relation.specs.declared.relation.RelFault.{RelFault}
use Rattle.psg_relation.specs.declared.relation.RelFault.TheVariants.{Wide, Memory}
use Rattle.psg_scope.specs.declared.header.Header.{Header}
use Rattle.psg_scope.specs.Headers.{IsHeader, IsOrdered, keys}
use Rattle.psg_eval.specs.declared.summary.SummaryParts.{SummaryParts}
use Rattle.psg_eval.specs.declared.partial.Partial.{Partial}
use Rattle.psg_eval.specs.Glues.{NextGlue}
use Rattle.psg_eval.specs.Summaries.{AreKeySorts}

module _ (def : Definition) where
  -- the sort of each kind
  abbrev pub AreKindSorts : List Kind → List ℕ → Type 0
  AreKindSorts [] sorts = sorts ≡ []
  AreKindSorts (k ∷ kinds) sorts =
      (s : ℕ) × (rest : List ℕ) × (sorts ≡ s ∷ rest) × HasKindSort def k s × AreKindSorts kinds rest

  -- A node of the kind, where children of these kinds are still wanted: an ordered header, and rows of the sorts of the
  -- kind, of the seen values, of the wanted values and of the keys.
  pub record IsPartial (kind : Kind) (kinds : List Kind) (p : Partial) : Type 0 where
    pub header : IsOrdered p.header
    pub sort : ℕ
    pub kind_sort : HasKindSort def kind sort
    pub seen : List ℕ
    pub reported : length seen ≡ p.seen
    pub wanted : List ℕ
    pub wanted_sorts : AreKindSorts kinds wanted
    pub many : p.wanted ≡ length kinds
    pub few : p.wanted < 2 ^ 32
    pub key_sorts : List ℕ
    pub keys_sorted : AreKeySorts def p.header.names key_sorts
    pub sorted : AllHaveSorts def.signature p.rel ((sort ∷ seen ++ wanted) ++ key_sorts)

  -- header and rows of a node with one more child
  pub record IsAdded (p : Partial) (child : SummaryParts) (header : Header) (rows : List (List Term)) : Type 0 where
    pub region : (names others declared others_declared : List Key) (unfinished others_unfinished : ℕ → Bool)
        → IsHeader names declared unfinished p.header → IsHeader others others_declared others_unfinished child.header
        → IsHeader (names ++ others) (declared ++ others_declared) (λ s. unfinished s || others_unfinished s) header
    pub none : header.twice ≡ true → rows ≡ []
    pub made : header.twice ≡ false → (ss : List ℕ)
        × IsRelation def.signature ss (IsGlued def.signature
        (NextGlue p.seen (keys p.header.names) (keys child.header.names) (keys header.names)) p.rel child.rel) rows

-- the step's header and rows, which do not pass the limit; or some that do
abbrev pub MatchStep : (Header → List (List Term) → Type 0) → Result Partial RelFault → Type 0
MatchStep P (Ok p) = P p.header p.rel × (PassesLimit p.rel → ⊥)
MatchStep P (Err Wide) = (header : Header) × (rows : List (List Term)) × P header rows × PassesLimit rows
MatchStep P (Err Memory) = Unit {0}
