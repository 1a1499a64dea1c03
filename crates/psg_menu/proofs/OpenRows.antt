-- Where no value is seen, a fragment is open exactly where its relation has a row.
use Rattle.std.proofs.Common.{◌≡◌, ℕ, ◌+◌, List, [], ◌∷◌, ◌++◌, map, length, refl, sym, ◌∙◌, ap, subst, arith, length-append}
use Rattle.std.proofs.lemmas.List.{length-map, nil_from_length}
use Rattle.psg_terms.specs.Terms.{Term}
use Rattle.psg_terms.specs.Relations.{IsIn, first}
use Rattle.psg_terms.proofs.OneRelation.{instance_sorts, sorts_length}
use Rattle.psg_grammar.specs.declared.types.Definition.{Definition}
use Rattle.psg_grammar.specs.Fragments.{Fragment}
use Rattle.psg_grammar.specs.Open.{Choice, IsOpen, Judged}
use Rattle.psg_grammar.specs.Regions.{names_of}
use Rattle.psg_grammar.specs.Relations.{IsPossible}
use Rattle.psg_scope.specs.Headers.{key_of}
use Rattle.psg_eval.specs.declared.summary.SummaryParts.{SummaryParts}
use Rattle.psg_eval.specs.Summaries.{IsSummary, IsSummaryOf}
use Rattle.psg_eval.proofs.PartialSorts.{key_sorts_many}

module _ (def : Definition) (s : SummaryParts) (usual : IsSummary def s) (silent : s.seen ≡ 0) (f : Fragment) (is : IsSummaryOf def f s) where
  abbrev whole_sorts : List ℕ
  whole_sorts = (usual.sort ∷ usual.seen) ++ usual.key_sorts

  none_seen : length usual.seen ≡ 0
  none_seen = usual.reported ∙ silent

  width : length whole_sorts ≡ 1 + length s.header.names
  width = omega (arith, none_seen, length-append usual.seen usual.key_sorts, key_sorts_many def s.header.names usual.key_sorts usual.keys_sorted, length-map s.header.names key_of)

  names_many : length (names_of def f) ≡ length s.header.names
  names_many = sym (sym (length-map s.header.names key_of) ∙ ap length is.header.keys_are)

  unseen : (c : Choice f) (x : List Term) (it : IsPossible def f c x) → it.seen ≡ []
  unseen c x it =
      let (row, i, all) = is.rows.1.covers c x it in
      let long : length x ≡ length whole_sorts = sorts_length def.signature x whole_sorts (instance_sorts def.signature row x whole_sorts (usual.sorted row i) (all x it)) in
      let parts : length x ≡ length ((it.value ∷ it.seen) ++ map it.outside (names_of def f)) = ap length it.columns_are in
      nil_from_length it.seen (omega (arith, long, width, parts, length-append (it.value ∷ it.seen) (map it.outside (names_of def f)), length-map (names_of def f) it.outside, names_many))

  open_by_row : (row : List Term) → IsIn row s.rel → IsOpen def f
  open_by_row row i =
      let shape = is.rows.1.shapes row i in
      let (columns, p) = shape.some in
      record {
        distinct = p.distinct;
        choice = shape.choice;
        outside = p.outside;
        entities = p.entities;
        value = p.value;
        judged = subst (λ us. Judged def p.outside f shape.choice p.value us) (unseen shape.choice columns p) p.judged;
      }

  open_some : (rel : List (List Term)) → rel ≡ s.rel → (rel ≡ [] → ⊥) → IsOpen def f
  open_some [] e some = absurd (some refl)
  open_some (row ∷ rows) e some = open_by_row row (subst (IsIn row) e first)

  pub rows_open : (s.rel ≡ [] → ⊥) → IsOpen def f
  rows_open some = open_some s.rel refl some

  pub open_rows : IsOpen def f → s.rel ≡ [] → ⊥
  open_rows o e =
      let columns : List Term = (o.value ∷ []) ++ map o.outside (names_of def f) in
      let possible : IsPossible def f o.choice columns =
      record {
        distinct = o.distinct;
        outside = o.outside;
        entities = o.entities;
        value = o.value;
        seen = [];
        judged = o.judged;
        columns_are = refl;
      } in
      let (row, there, all) = is.rows.1.covers o.choice columns possible in
      none row (subst (IsIn row) e there) where
        none : (row : List Term) → IsIn row [] → ⊥
        none row h = elim h [ ]
