-- The steps of a cell, for rows made as those of an operator with two children.
use Rattle.std.proofs.Common.{◌≡◌, ℕ, ◌+◌, ◌&&◌, not, Bool, true, false, List, [], ◌∷◌, ◌++◌, length, refl, sym, ◌∙◌, subst, length-append, arith}
use Rattle.psg_terms.specs.Terms.{Term}
use Rattle.psg_terms.specs.Relations.{IsRelation, IsGlued}
use Rattle.psg_grammar.specs.declared.types.Kind.{Kind}
use Rattle.psg_grammar.specs.declared.types.Definition.{Definition}
use Rattle.psg_grammar.specs.Fragments.{Fragment, cell, anything}
use Rattle.psg_grammar.specs.Keys.{in_order}
use Rattle.psg_grammar.specs.Lookups.{is_scope}
use Rattle.psg_grammar.specs.Regions.{declared_inside, declared_in, names_inside, names_of, unfinished_inside}
use Rattle.psg_grammar.specs.Relations.{IsPossibleInside}
use Rattle.psg_scope.specs.Headers.{IsHeader, keys}
use Rattle.psg_scope.specs.declared.header.Header.{Header}
use Rattle.psg_eval.specs.declared.partial.Partial.{Partial}
use Rattle.psg_eval.specs.declared.summary.SummaryParts.{SummaryParts}
use Rattle.psg_eval.specs.Glues.{outer_names, NextGlue}
use Rattle.psg_eval.specs.Partials.{IsAdded, IsPartial}
use Rattle.psg_eval.specs.Stages.{IsInside, IsInsideHeader, IsStep}
use Rattle.psg_eval.specs.Summaries.{IsSummaryOf}
use Rattle.psg_eval.proofs.Adding.{added_relation}
use Rattle.psg_eval.proofs.NextChild.{twice_empty}
use Rattle.psg_eval.proofs.PartialSorts.{key_sorts_many, kind_sorts_many}
use Rattle.psg_eval.proofs.RegionSteps.{replaced_header}
use Rattle.psg_eval.proofs.Replacing.{Replaces, behind, element, rest}
use Rattle.psg_eval.proofs.Uniqueness.{with_sorts}

module _ (def : Definition) (t a b : Fragment) (r : Replaces def t a b) (kind : Kind) (kinds : List Kind) (p : Partial) (s : SummaryParts)
    (many : length kinds ≡ behind def t r) (part : IsPartial def kind (s.kind ∷ kinds) p) (summary : IsSummaryOf def t s) (is : IsInside def a p.header p.rel) where
  -- a child in place of a free value
  pub added_inside : (h : Header) (rows : List (List Term)) → IsAdded def p s h rows → IsInside def b h rows
  added_inside h rows added = by (h.twice) refl where
    header : IsInsideHeader def b h
    header = replaced_header def t a b h r
        (added.region (names_inside def a) (outer_names def t) (declared_inside def a) (declared_in def t)
        (λ x. unfinished_inside def x a) (λ x. not (is_scope def t) && unfinished_inside def x t) is.header summary.header)

    sorts : List ℕ
    sorts = ((part.sort ∷ part.seen) ++ part.wanted) ++ part.key_sorts

    width : length sorts ≡ 1 + p.seen + (1 + behind def t r) + length (keys p.header.names)
    width =
        let ks = key_sorts_many def p.header.names part.key_sorts part.keys_sorted in
        let ws = kind_sorts_many def (s.kind ∷ kinds) part.wanted part.wanted_sorts in
        let seen = part.reported in
        omega (arith, ks, ws, many, length-append ((part.sort ∷ part.seen) ++ part.wanted) part.key_sorts, length-append (part.sort ∷ part.seen) part.wanted)

    by : (twice : Bool) → h.twice ≡ twice → IsInside def b h rows
    by true e = subst (IsInside def b h) (sym (added.none e)) (record { header = header; sorts = []; relation = twice_empty def b [] (sym header.repeats ∙ e) })
    by false e =
        let (ss, rel) = added.made e in
        let before = p.seen in
        let own : keys p.header.names ≡ in_order (names_inside def a) = is.header.keys_are in
        let others : keys s.header.names ≡ names_of def t = summary.header.keys_are in
        record {
          header = header;
          sorts = ss;
          relation = added_relation def t a b r before is.header.whole summary.header.whole sorts summary.rows.0 ss p.rel s.rel rows
              (subst (λ l. length sorts ≡ 1 + before + (1 + behind def t r) + length l) own width) (sym header.repeats ∙ e)
              (with_sorts def.signature (IsPossibleInside def a) is.sorts sorts p.rel is.relation part.sorted) summary.rows.1
              (subst (λ l. IsRelation def.signature ss (IsGlued def.signature (NextGlue before l (names_of def t) (in_order (names_inside def b))) p.rel s.rel) rows) own
              (subst (λ l. IsRelation def.signature ss (IsGlued def.signature (NextGlue before (keys p.header.names) l (in_order (names_inside def b))) p.rel s.rel) rows) others
              (subst (λ l. IsRelation def.signature ss (IsGlued def.signature (NextGlue before (keys p.header.names) (keys s.header.names) l) p.rel s.rel) rows) header.keys_are rel)));
        }

module _ (def : Definition) (l : ℕ) (e r : Fragment) (kind : Kind) (p : Partial) (s : SummaryParts) where
  -- the element of a cell
  pub cell_one : (other : Kind) → IsPartial def kind (s.kind ∷ other ∷ []) p → IsSummaryOf def e s → IsStep def (cell l e r) 0 p.header p.rel
      → (h : Header) (rows : List (List Term)) → IsAdded def p s h rows → IsStep def (cell l e r) 1 h rows
  cell_one other part summary step = added_inside def e (cell l anything anything) (cell l e anything) element kind (other ∷ []) p s refl part summary step

  -- and the list behind it
  pub cell_two : is_scope def r ≡ false → IsPartial def kind (s.kind ∷ []) p → IsSummaryOf def r s → IsStep def (cell l e r) 1 p.header p.rel
      → (h : Header) (rows : List (List Term)) → IsAdded def p s h rows → IsStep def (cell l e r) 2 h rows
  cell_two scope part summary step = added_inside def r (cell l e anything) (cell l e r) (rest scope) kind [] p s refl part summary step

-- before its first child a cell has no keys
pub cell_start : (def : Definition) (l : ℕ) (e r : Fragment) (h : Header) (ss : List ℕ) (rows : List (List Term)) → IsHeader [] [] (λ s. false) h
    → IsRelation def.signature ss (IsPossibleInside def (cell l anything anything)) rows → IsStep def (cell l e r) 0 h rows
cell_start def l e r h ss rows header rel = record { header = header; sorts = ss; relation = rel }
