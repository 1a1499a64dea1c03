-- The sorts of a node's rows with one more child.
use Rattle.std.proofs.Common.{◌≡◌, inl, inr, ℕ, ◌+◌, suc, List, [], ◌∷◌, ◌++◌, map, length, refl, ap, ap₂, sym, ◌∙◌, subst, Option, Some, length-append, arith}
use Rattle.psg_terms.specs.Terms.{Term}
use Rattle.psg_terms.specs.Relations.{IsGlued, IsRelation}
use Rattle.psg_grammar.specs.Keys.{Key, space_of}
use Rattle.psg_grammar.specs.Sound.{HasKindSort, HasSpaceSort}
use Rattle.psg_grammar.specs.declared.types.Definition.{Definition}
use Rattle.psg_grammar.specs.declared.types.Kind.{Kind}
use Rattle.psg_grammar.specs.declared.types.Kind.TheVariants as kinds
use Rattle.psg_grammar.specs.declared.types.ListKind.{ListKind}
use Rattle.psg_grammar.specs.declared.types.Phylum.{Phylum}
use Rattle.psg_grammar.specs.declared.types.Space.{Space}
use Rattle.psg_unify.specs.Pairs.{Pair as Columns, AreOfEqualSort}
use Rattle.std.specs.Prelude.{Err}
use Rattle.psg_relation.specs.declared.relation.RelFault.{RelFault}
use Rattle.psg_relation.specs.declared.relation.RelFault.TheVariants.{Wide, Memory}
use Rattle.psg_relation.specs.Choices.{AllHaveSorts, Agrees, MayBeWide, picked}
use Rattle.psg_relation.specs.Joining.{MayJoin}
use Rattle.psg_relation.proofs.Meeting.{within_sorts}
use Rattle.psg_scope.specs.Headers.{IsOrdered, IsUnion, keys, key_of}
use Rattle.psg_scope.specs.declared.header.Header.{Header}
use Rattle.psg_scope.specs.declared.header.NameCol.{NameCol}
use Rattle.psg_eval.specs.Glues.{NextGlue}
use Rattle.psg_eval.specs.Partials.{AreKindSorts, IsPartial, MatchStep}
use Rattle.psg_eval.specs.Summaries.{AreKeySorts, IsSummary}
use Rattle.psg_eval.specs.Walks.{IsLayout}
use Rattle.psg_eval.specs.declared.partial.Partial.{Partial}
use Rattle.psg_eval.specs.declared.summary.SummaryParts.{SummaryParts}
use Rattle.psg_eval.proofs.GlueLayouts.{as_glued}
use Rattle.psg_eval.proofs.Layouts.{layout_pairs, layout_picks}
use Rattle.psg_terms.specs.Weight.{PassesLimit}
use Rattle.psg_eval.proofs.KeySorts.{joined_key_sorts, key_sort}
use Rattle.psg_eval.proofs.Walking.{Along, Matches, Picks, picks_picked, picks_within}

module _ (def : Definition) where
  pub kind_sort_same : (k : Kind) (r s : ℕ) → HasKindSort def k r → HasKindSort def k s → r ≡ s
  kind_sort_same (kinds.Phylum p) r s (a, e, d) (b, f, g) = let q : ◌≡◌ {A = Option Phylum} (Some a) (Some b) = sym e ∙ f in let c : a ≡ b = cc in sym d ∙ ap (λ (z : Phylum). z.sort.0) c ∙ g
  kind_sort_same (kinds.List p) r s (a, e, d) (b, f, g) = let q : ◌≡◌ {A = Option ListKind} (Some a) (Some b) = sym e ∙ f in let c : a ≡ b = cc in sym d ∙ ap (λ (z : ListKind). z.sort.0) c ∙ g

  abbrev pub IsKeySort : Key → ℕ → Type 0
  IsKeySort k s = HasSpaceSort def (space_of k) s

  pub key_sort_same : (k : Key) (r s : ℕ) → IsKeySort k r → IsKeySort k s → r ≡ s
  key_sort_same k r s (a, e, d) (b, f, g) = let q : ◌≡◌ {A = Option Space} (Some a) (Some b) = sym e ∙ f in let c : a ≡ b = cc in sym d ∙ ap (λ (z : Space). z.sort.0) c ∙ g

  pub along_sorts : (cols : List NameCol) (ss : List ℕ) → AreKeySorts def cols ss → Along IsKeySort (keys cols) ss
  along_sorts [] [] h = tt
  along_sorts [] (s ∷ ss) h = absurd (cc)
  along_sorts (c ∷ cols) ss (s, rest, e, h, more) = subst (Along IsKeySort (key_of c ∷ keys cols)) (sym e) (h, along_sorts cols rest more)

  pub sorts_along : (cols : List NameCol) (ss : List ℕ) → Along IsKeySort (keys cols) ss → AreKeySorts def cols ss
  sorts_along [] [] h = refl
  sorts_along [] (s ∷ ss) h = absurd h
  sorts_along (c ∷ cols) [] h = absurd h
  sorts_along (c ∷ cols) (s ∷ ss) h = (s, ss, refl, h.0, sorts_along cols ss h.1)

  pub key_sorts_many : (cols : List NameCol) (ss : List ℕ) → AreKeySorts def cols ss → length ss ≡ length (keys cols)
  key_sorts_many [] ss e = ap length e
  key_sorts_many (c ∷ cols) ss (s, rest, e, h, more) = ap length e ∙ ap suc (key_sorts_many cols rest more)

  pub kind_sorts_many : (kinds : List Kind) (ss : List ℕ) → AreKindSorts def kinds ss → length ss ≡ length kinds
  kind_sorts_many [] ss e = ap length e
  kind_sorts_many (k ∷ kinds) ss (s, rest, e, h, more) = ap length e ∙ ap suc (kind_sorts_many kinds rest more)

  equal_sorts : (ls rs : List ℕ) (pairs : List Columns) → Matches ls rs pairs → AreOfEqualSort ls rs pairs
  equal_sorts ls rs [] h = tt
  equal_sorts ls rs (c ∷ pairs) h = (h.0, equal_sorts ls rs pairs h.1)

  module _ (kind : Kind) (kinds : List Kind) (p : Partial) (c : SummaryParts) (h : Header) (pairs : List Columns) (keep : List ℕ) (part : IsPartial def kind (c.kind ∷ kinds) p) (sum : IsSummary def c)
      (l : IsLayout p.seen p.wanted c.seen (keys p.header.names) (keys c.header.names) (keys h.names) pairs keep) where
    abbrev pub first_sort : ℕ
    first_sort = part.wanted_sorts.0

    abbrev pub other_sorts : List ℕ
    other_sorts = part.wanted_sorts.1

    abbrev pub left_sorts : List ℕ
    left_sorts = ((part.sort ∷ part.seen) ++ (first_sort ∷ other_sorts)) ++ part.key_sorts

    abbrev pub right_sorts : List ℕ
    right_sorts = (sum.sort ∷ sum.seen) ++ sum.key_sorts

    pub left_sorted : AllHaveSorts def.signature p.rel left_sorts
    left_sorted = subst (λ ws. AllHaveSorts def.signature p.rel (((part.sort ∷ part.seen) ++ ws) ++ part.key_sorts)) part.wanted_sorts.2 part.sorted

    pub right_sorted : AllHaveSorts def.signature c.rel right_sorts
    right_sorted = sum.sorted

    same_kind : first_sort ≡ sum.sort
    same_kind = kind_sort_same c.kind first_sort sum.sort part.wanted_sorts.3 sum.kind_sort

    many_others : length other_sorts ≡ length kinds
    many_others = kind_sorts_many kinds other_sorts part.wanted_sorts.4

    many_left : p.wanted ≡ length (first_sort ∷ other_sorts)
    many_left = let m = part.many in let o = many_others in omega arith

    many_keys : length (keys p.header.names) ≡ length part.key_sorts
    many_keys = sym (key_sorts_many p.header.names part.key_sorts part.keys_sorted)

    many_child : length (keys c.header.names) ≡ length sum.key_sorts
    many_child = sym (key_sorts_many c.header.names sum.key_sorts sum.keys_sorted)

    pub picks : (E : List ℕ) × Picks (left_sorts ++ right_sorts) l.of_keys E × Along IsKeySort (keys h.names) E
        × Picks (left_sorts ++ right_sorts) keep ((((part.sort ∷ part.seen) ++ sum.seen) ++ other_sorts) ++ E)
    picks = layout_picks part.sort part.seen first_sort other_sorts part.key_sorts sum.sort sum.seen sum.key_sorts
        p.seen p.wanted c.seen (keys p.header.names) (keys c.header.names) (keys h.names) pairs keep l
        (sym part.reported) many_left (sym sum.reported) many_keys many_child IsKeySort (along_sorts p.header.names part.key_sorts part.keys_sorted) (along_sorts c.header.names sum.key_sorts sum.keys_sorted)

    pub kept_sorts : picked (left_sorts ++ right_sorts) keep ≡ ((part.sort ∷ (part.seen ++ sum.seen)) ++ other_sorts) ++ picks.0
    kept_sorts = picks_picked (left_sorts ++ right_sorts) keep ((((part.sort ∷ part.seen) ++ sum.seen) ++ other_sorts) ++ picks.0) picks.3

    pub may_join : MayJoin def.signature p.rel c.rel pairs keep
    may_join = record {
      left_sorts = left_sorts;
      lefts = left_sorted;
      right_sorts = right_sorts;
      rights = right_sorted;
      equal = λ one other i j. equal_sorts left_sorts right_sorts pairs
          (layout_pairs part.sort part.seen first_sort other_sorts part.key_sorts sum.sort sum.seen sum.key_sorts
          p.seen p.wanted c.seen (keys p.header.names) (keys c.header.names) (keys h.names) pairs keep l
          (sym part.reported) many_left (sym sum.reported) many_keys many_child IsKeySort key_sort_same
          (along_sorts p.header.names part.key_sorts part.keys_sorted) (along_sorts c.header.names sum.key_sorts sum.keys_sorted) same_kind);
      within = λ one other i j. within_sorts def.signature one other left_sorts right_sorts keep (length (left_sorts ++ right_sorts)) (left_sorted one i) (right_sorted other j)
          (omega (arith, length-append left_sorts right_sorts))
          (picks_within (left_sorts ++ right_sorts) keep ((((part.sort ∷ part.seen) ++ sum.seen) ++ other_sorts) ++ picks.0) picks.3);
    }

    pub next_partial : IsOrdered h → (more : ℕ) → more + 1 ≡ p.wanted → (made : List (List Term))
        → AllHaveSorts def.signature made (picked (left_sorts ++ right_sorts) keep) → (q : Partial) → q.header ≡ h → q.seen ≡ p.seen + c.seen → q.wanted ≡ more → q.rel ≡ made → IsPartial def kind kinds q
    next_partial region more em made sorted q eh er ew el = record {
      header = subst IsOrdered (sym eh) region;
      sort = part.sort;
      kind_sort = part.kind_sort;
      seen = part.seen ++ sum.seen;
      reported = length-append part.seen sum.seen ∙ ap₂ (λ m n. m + n) part.reported sum.reported ∙ sym er;
      wanted = other_sorts;
      wanted_sorts = part.wanted_sorts.4;
      many = let m = part.many in omega arith;
      few = let f = part.few in omega arith;
      key_sorts = picks.0;
      keys_sorted = subst (λ (k : Header). AreKeySorts def k.names picks.0) (sym eh) (sorts_along h.names picks.0 picks.2);
      sorted = subst (λ rows. AllHaveSorts def.signature rows (((part.sort ∷ (part.seen ++ sum.seen)) ++ other_sorts) ++ picks.0)) (sym el) (subst (AllHaveSorts def.signature made) kept_sorts sorted);
    }

    left_length : length left_sorts ≡ 1 + p.seen + p.wanted + length (keys p.header.names)
    left_length =
        let a = length-append ((part.sort ∷ part.seen) ++ (first_sort ∷ other_sorts)) part.key_sorts in
        let b = length-append (part.sort ∷ part.seen) (first_sort ∷ other_sorts) in
        let r = part.reported in
        let k = many_keys in
        let m = many_left in
        omega arith

    right_length : length right_sorts ≡ 1 + c.seen + length (keys c.header.names)
    right_length =
        let a = length-append (sum.sort ∷ sum.seen) sum.key_sorts in
        let r = sum.reported in
        let k = many_child in
        omega arith

    pub as_next : IsOrdered h → (ss : List ℕ) (rows : List (List Term)) → IsRelation def.signature ss (IsGlued def.signature (Agrees pairs keep) p.rel c.rel) rows
        → IsRelation def.signature ss (IsGlued def.signature (NextGlue p.seen (keys p.header.names) (keys c.header.names) (keys h.names)) p.rel c.rel) rows
    as_next region ss rows = as_glued p.seen p.wanted c.seen (keys p.header.names) (keys c.header.names) (keys h.names) pairs keep l (region.keys_rise)
        def.signature p.rel c.rel left_sorts right_sorts left_sorted right_sorted left_length right_length (let m = many_left in omega arith) ss rows

  -- a region that declares a key twice has no rows
  module _ (kind : Kind) (kinds : List Kind) (p : Partial) (c : SummaryParts) (h : Header) (part : IsPartial def kind (c.kind ∷ kinds) p) (sum : IsSummary def c) where
    pub empty_partial : IsOrdered h → IsUnion p.header c.header h → (more : ℕ) → more + 1 ≡ p.wanted
        → (q : Partial) → q.header ≡ h → q.seen ≡ p.seen + c.seen → q.wanted ≡ more → q.rel ≡ [] → IsPartial def kind kinds q
    empty_partial region join more em q eh er ew el = record {
      header = subst IsOrdered (sym eh) region;
      sort = part.sort;
      kind_sort = part.kind_sort;
      seen = part.seen ++ sum.seen;
      reported = length-append part.seen sum.seen ∙ ap₂ (λ m n. m + n) part.reported sum.reported ∙ sym er;
      wanted = part.wanted_sorts.1;
      wanted_sorts = part.wanted_sorts.4;
      many = let m = part.many in omega arith;
      few = let f = part.few in omega arith;
      key_sorts = map (key_sort def) (keys h.names);
      keys_sorted = subst (λ (k : Header). AreKeySorts def k.names (map (key_sort def) (keys h.names))) (sym eh)
          (joined_key_sorts def p.header c.header h part.key_sorts sum.key_sorts join.keys_are part.keys_sorted sum.keys_sorted);
      sorted = subst (λ rows. AllHaveSorts def.signature rows (((part.sort ∷ (part.seen ++ sum.seen)) ++ part.wanted_sorts.1) ++ map (key_sort def) (keys h.names))) (sym el) (λ row i. elim i [ ]);
    }

pub none_light : PassesLimit [] → ⊥
none_light (inl h) = omega arith
none_light (inr (k, x, l, _, _)) = omega arith

-- a fault of the rows is that of the step
pub step_fault : (P : Header → List (List Term) → Type 0) (e : RelFault) → MayBeWide ((h : Header) × (rows : List (List Term)) × P h rows × PassesLimit rows) e → MatchStep P (Err e)
step_fault P Wide h = h
step_fault P Memory h = tt
