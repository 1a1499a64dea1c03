-- How many cases a step has that adds a child.
use Rattle.std.proofs.Common.{◌≡◌, ℕ, ◌+◌, ◌*◌, List, [], ◌∷◌, length, length-append, refl, ap₂, subst, sym, ◌∙◌, arith}
use Rattle.std.proofs.Math.Nat.{suc-mul, zero-mul}
use Rattle.psg_terms.specs.Terms.{Term}
use Rattle.psg_grammar.specs.Keys.{Key}
use Rattle.psg_grammar.specs.declared.types.Definition.{Definition}
use Rattle.psg_explain.specs.declared.stages.Stage.{Stage}
use Rattle.psg_explain.specs.declared.stages.Source.{Source}
use Rattle.psg_explain.specs.declared.stages.Source.TheVariants as sources
use Rattle.psg_scope.specs.declared.header.NameCol.{NameCol}
use Rattle.psg_grammar.specs.Fragments.{Fragment}
use Rattle.psg_grammar.specs.Regions.{names_of}
use Rattle.psg_scope.specs.Headers.{keys}
use Rattle.psg_explain.specs.Given.{all_pairs, keys_at, row_pairs}
use Rattle.psg_explain.specs.Plans.{Origin, from_before, from_itself, from_pair, Step, cases_at, cases_from, lefts_of, rights_of, rows_at}
use Rattle.psg_explain.specs.Sources.{IsSource, IsStage}

module _ (K L M : List Key) where
  row_many : (i j : ℕ) (left : List Term) (rights : List (List Term)) → length (row_pairs K L M i j left rights) ≡ length rights
  row_many i j left [] = refl
  row_many i j left (r ∷ rights) = let k = row_many i (j + 1) left rights in omega (arith, k)

  pub pairs_many : (i : ℕ) (lefts rights : List (List Term)) → length (all_pairs K L M i lefts rights) ≡ length lefts * length rights
  pairs_many i [] rights = sym (zero-mul (length rights))
  pairs_many i (l ∷ lefts) rights =
      let a = row_many i 0 l rights in
      let b = pairs_many (i + 1) lefts rights in
      let k = length-append (row_pairs K L M i 0 l rights) (all_pairs K L M (i + 1) lefts rights) in
      let m = suc-mul (length lefts) (length rights) in
      omega (arith, a, b, k, m)

-- a step that adds a child has a case for each pair of rows
pub stage_pairs : (def : Definition) (stage : Stage) (s : Step) (rows : List (List (List Term))) (before child : ℕ) (left right : List NameCol) → IsStage def stage s → stage.source ≡ sources.Pair before child left right
    → length (cases_at def rows s) ≡ length (rows_at rows before) * length (rows_at rows child)
stage_pairs def stage s rows before child left right is e = of s.part s.origin (subst (λ (q : Source). IsSource def s.part q (keys stage.header.names) s.origin) e is.source)
  where
    of : (f : Fragment) (o : Origin) → IsSource def f (sources.Pair before child left right) (keys stage.header.names) o
        → length (cases_from def f o (lefts_of def o rows) (rights_of def o rows)) ≡ length (rows_at rows before) * length (rows_at rows child)
    of f from_itself h = absurd h
    of f (from_pair n b c t) (p, q, x, y, z) =
        pairs_many (keys_at def f n) (names_of def t) (keys_at def f (n + 1)) 0 (rows_at rows b) (rows_at rows c)
        ∙ ap₂ (λ x y. length (rows_at rows x) * length (rows_at rows y)) (sym p) (sym q)
    of f (from_before b) h = absurd h
