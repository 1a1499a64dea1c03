-- The rows of a tree whose value is observed, from those of the tree.
use Rattle.std.proofs.Common.{◌≡◌, ◌↔◌, ℕ, ◌+◌, ◌<◌, suc, Bool, true, false, cond, All, List, [], ◌∷◌, ◌++◌, map, length, slice_get, refl, ap, ap₂, sym, ◌∙◌, subst, length-append, arith}
use Rattle.std.proofs.lemmas.List.{append-nil, length-map}
use Rattle.std.specs.Prelude.{Result, Ok, Err}
use Rattle.psg_terms.specs.Terms.{Term}
use Rattle.psg_terms.specs.Relations.{IsIn, IsRelation}
use Rattle.psg_terms.specs.Weight.{PassesLimit}
use Rattle.psg_terms.proofs.OneRelation.{sorts_length}
use Rattle.psg_grammar.specs.declared.types.Definition.{Definition}
use Rattle.psg_grammar.specs.Fragments.{Fragment, observed}
use Rattle.psg_grammar.specs.Open.{Choice}
use Rattle.psg_grammar.specs.Regions.{names_of}
use Rattle.psg_grammar.specs.Relations.{IsPossible, IsRelationOf}
use Rattle.psg_relation.specs.Choices.{AllHaveSorts, AllWithin, HasWide, IsProjected, MayBeWide, picked}
use Rattle.psg_relation.specs.declared.relation.RelFault.{RelFault}
use Rattle.psg_relation.specs.declared.relation.RelFault.TheVariants as rel
use Rattle.psg_relation.proofs.Relating.{carried}
use Rattle.psg_scope.specs.Headers.{keys, key_of}
use Rattle.psg_scope.specs.declared.header.NameCol.{NameCol}
use Rattle.psg_eval.specs.declared.summary.EvalFault.{EvalFault}
use Rattle.psg_eval.specs.declared.summary.EvalFault.TheVariants as faults
use Rattle.psg_eval.specs.declared.summary.SummaryParts.{SummaryParts}
use Rattle.psg_eval.specs.Climbing.{IsObserved}
use Rattle.psg_eval.specs.Frames.{IsSilent}
use Rattle.psg_eval.specs.Glues.{IsCut}
use Rattle.psg_eval.specs.Leaves.{IsFaultAt}
use Rattle.psg_eval.specs.Reporting.{Twice}
use Rattle.psg_eval.specs.Summaries.{IsSummary, IsSummaryOf}
use Rattle.psg_eval.specs.Walks.{run}
use Rattle.psg_eval.proofs.Gluing.{CutOf, cut_relation, cut_same}
use Rattle.psg_eval.proofs.PartialSorts.{key_sorts_many}
use Rattle.psg_eval.proofs.Walking.{Picks, picks_picked, picks_run, picks_within}

module _ (def : Definition) (f : Fragment) where
  twice_from : (c : Choice f) (x : List Term) → CutOf (IsPossible def f) Twice c x → IsPossible def (observed f) c x
  twice_from c x it =
      let p = it.full_is in
      let cut = it.cut in
      let e : cut.value ∷ cut.others ≡ p.value ∷ (p.seen ++ map p.outside (names_of def f)) = sym cut.row_is ∙ p.columns_are in
      let v : cut.value ≡ p.value = cc in
      let r : cut.others ≡ p.seen ++ map p.outside (names_of def f) = cc in
      record {
        distinct = p.distinct;
        outside = p.outside;
        entities = p.entities;
        value = p.value;
        seen = p.value ∷ p.seen;
        judged = record { inner = p.judged.inner; entities = p.judged.entities; agree = p.judged.agree; holds = (p.seen, refl, p.judged.holds) };
        columns_are = cut.made_is ∙ ap₂ (λ a l. a ∷ a ∷ l) v r;
      }

  twice_to : (c : Choice f) (x : List Term) → IsPossible def (observed f) c x → CutOf (IsPossible def f) Twice c x
  twice_to c x it =
      let j = it.judged in
      let (mid, e, h) = j.holds in
      record {
        full = (it.value ∷ mid) ++ map it.outside (names_of def f);
        full_is = record {
          distinct = it.distinct;
          outside = it.outside;
          entities = it.entities;
          value = it.value;
          seen = mid;
          judged = record { inner = j.inner; entities = j.entities; agree = j.agree; holds = h };
          columns_are = refl;
        };
        cut = record {
          value = it.value;
          others = mid ++ map it.outside (names_of def f);
          row_is = refl;
          made_is = it.columns_are ∙ ap (λ s. (it.value ∷ s) ++ map it.outside (names_of def f)) e;
        };
      }

  pub reported_relation : (ls ss : List ℕ) (rows made : List (List Term)) → IsRelation def.signature ls (IsPossible def f) rows
      → IsRelation def.signature ss (IsCut def.signature Twice rows) made → IsRelation def.signature ss (IsPossible def (observed f)) made
  reported_relation ls ss rows made l it =
      carried def.signature ss (CutOf (IsPossible def f) Twice) (IsPossible def (observed f))
      (λ c columns h. (c, λ x. (twice_from c x, twice_to c x)))
      (λ c columns h. (c, λ x. (twice_from c x, twice_to c x)))
      made (cut_relation (IsPossible def f) Twice def.signature ss ls rows made l it)

-- ---- the columns

first_of : {X : Type 0} (xs : List X) (n : ℕ) → length xs ≡ 1 + n → (x : X) × (rest : List X) × (xs ≡ x ∷ rest)
first_of [] n h = absurd (omega (arith, h))
first_of (x ∷ rest) n h = (x, rest, refl)

twice_picks : {X : Type 0} (row : List X) (v : X) (others : List X) (n : ℕ) → row ≡ v ∷ others → length row ≡ 1 + n → Picks row (0 ∷ run 0 (1 + n)) (v ∷ row)
twice_picks row v others n e w = (ap (λ l. slice_get l 0) e, picks_run row [] row [] 0 (1 + n) (sym (append-nil row)) refl (sym w))

twice_same : (n : ℕ) (p x : List Term) → length p ≡ 1 + n → (x ≡ picked p (0 ∷ run 0 (1 + n))) ↔ Twice p x
twice_same n p x w = (
  (λ e.
      let (v, vs, is) = first_of p n w in
      record { value = v; others = vs; row_is = is; made_is = e ∙ picks_picked p (0 ∷ run 0 (1 + n)) (v ∷ p) (twice_picks p v vs n is w) ∙ ap (λ l. v ∷ l) is }),
  (λ cut.
      cut.made_is ∙ ap (λ l. cut.value ∷ l) (sym cut.row_is)
      ∙ sym (picks_picked p (0 ∷ run 0 (1 + n)) (cut.value ∷ p) (twice_picks p cut.value cut.others n cut.row_is w))),
)

abbrev pub twice_columns : SummaryParts → List ℕ
twice_columns s = 0 ∷ run 0 (1 + length s.header.names)

module _ (def : Definition) (s : SummaryParts) (usual : IsSummary def s) (silent : IsSilent s) where
  abbrev pub row_sorts : List ℕ
  row_sorts = (usual.sort ∷ usual.seen) ++ usual.key_sorts

  none_seen : length usual.seen ≡ 0
  none_seen = usual.reported ∙ silent

  is_none : {X : Type 0} (xs : List X) → length xs ≡ 0 → xs ≡ []
  is_none [] h = refl
  is_none (x ∷ xs) h = absurd (omega (arith, h))

  row_width : length row_sorts ≡ 1 + length s.header.names
  row_width =
      omega (arith, none_seen, length-append usual.seen usual.key_sorts, key_sorts_many def s.header.names usual.key_sorts usual.keys_sorted, length-map s.header.names key_of)

  width_of : (row : List Term) → IsIn row s.rel → length row ≡ 1 + length s.header.names
  width_of row i = sorts_length def.signature row row_sorts (usual.sorted row i) ∙ row_width

  pub columns_within : AllWithin s.rel (twice_columns s)
  columns_within = λ row i.
      let (v, vs, e) = first_of row (length s.header.names) (width_of row i) in
      picks_within row (twice_columns s) (v ∷ row) (twice_picks row v vs (length s.header.names) e (width_of row i))

  made_sorts : picked row_sorts (twice_columns s) ≡ usual.sort ∷ row_sorts
  made_sorts =
      picks_picked row_sorts (twice_columns s) (usual.sort ∷ row_sorts)
      (twice_picks row_sorts usual.sort (usual.seen ++ usual.key_sorts) (length s.header.names) refl row_width)

  abbrev pub reported : List (List Term) → SummaryParts
  reported made = record { kind = s.kind; header = s.header; seen = 1; rel = made }

  abbrev pub IsMadeRel : List (List Term) → Type 0
  IsMadeRel made = (sorts : List ℕ) → AllHaveSorts def.signature s.rel sorts
      → IsRelation def.signature (picked sorts (twice_columns s)) (IsProjected def.signature s.rel (twice_columns s)) made

  pub reported_summary : (made : List (List Term)) → IsMadeRel made → IsSummary def (reported made)
  reported_summary made rel = record {
    header = usual.header;
    sort = usual.sort;
    kind_sort = usual.kind_sort;
    seen = usual.sort ∷ [];
    reported = refl;
    key_sorts = usual.key_sorts;
    keys_sorted = usual.keys_sorted;
    sorted = λ row i.
        subst (λ ss. Rattle.psg_terms.specs.Signature.HaveSorts def.signature row ss)
        (made_sorts ∙ ap (λ l. usual.sort ∷ (usual.sort ∷ l) ++ usual.key_sorts) (is_none usual.seen none_seen))
        ((rel row_sorts usual.sorted).shapes row i).sorted;
  }

  -- by what the projection says of equal rows and columns
  pub made_rel : (rows : List (List Term)) (cols : List ℕ) → rows ≡ s.rel → cols ≡ twice_columns s → (made : List (List Term))
      → ((sorts : List ℕ) → AllHaveSorts def.signature rows sorts → IsRelation def.signature (picked sorts cols) (IsProjected def.signature rows cols) made)
      → IsMadeRel made
  made_rel rows cols e f made h =
      subst (λ r. (sorts : List ℕ) → AllHaveSorts def.signature r sorts
      → IsRelation def.signature (picked sorts (twice_columns s)) (IsProjected def.signature r (twice_columns s)) made) e
      (subst (λ k. (sorts : List ℕ) → AllHaveSorts def.signature rows sorts → IsRelation def.signature (picked sorts k) (IsProjected def.signature rows k) made) f h)

  abbrev pub MayBeMadeWide : List (List Term) → List ℕ → RelFault → Type 0
  MayBeMadeWide rows cols fault =
      MayBeWide ((sorts : List ℕ) → AllHaveSorts def.signature rows sorts → HasWide def.signature (picked sorts cols) (IsProjected def.signature rows cols)) fault

  pub made_wide : (rows : List (List Term)) (cols : List ℕ) → rows ≡ s.rel → cols ≡ twice_columns s → (fault : RelFault) → MayBeMadeWide rows cols fault
      → MayBeMadeWide s.rel (twice_columns s) fault
  made_wide rows cols e f fault h = subst (λ r. MayBeMadeWide r (twice_columns s) fault) e (subst (λ k. MayBeMadeWide rows k fault) f h)

  rows_of_made : (t : Fragment) → IsSummaryOf def t s → (ss : List ℕ) (made : List (List Term))
      → IsRelation def.signature ss (IsProjected def.signature s.rel (twice_columns s)) made → IsRelationOf def (observed t) made
  rows_of_made t is ss made rel = (
    ss,
    reported_relation def t is.rows.0 ss s.rel made is.rows.1
        (cut_same def.signature ss row_sorts (twice_columns s) Twice s.rel usual.sorted (λ p x w. twice_same (length s.header.names) p x (w ∙ row_width)) made rel),
  )

  pub observed_ok : (t : Fragment) → IsSummaryOf def t s → (made : List (List Term)) → IsMadeRel made → (PassesLimit made → ⊥)
      → IsObserved def t (Ok (reported made))
  observed_ok t is made rel light = (
    record {
      kind = is.kind;
      header = is.header;
      seen = ap (λ n. 1 + n) (sym silent ∙ is.seen);
      rows = rows_of_made t is (picked row_sorts (twice_columns s)) made (rel row_sorts usual.sorted);
    },
    light,
  )

  pub observed_err : (t : Fragment) → IsSummaryOf def t s → (fault : RelFault) (e : EvalFault) → IsFaultAt fault 0 e
      → MayBeWide ((sorts : List ℕ) → AllHaveSorts def.signature s.rel sorts
      → HasWide def.signature (picked sorts (twice_columns s)) (IsProjected def.signature s.rel (twice_columns s))) fault
      → IsObserved def t (Err e)
  observed_err t is rel.Wide (faults.Wide step) at wide =
      let (rows, made, passes) = wide row_sorts usual.sorted in
      (at, rows, rows_of_made t is (picked row_sorts (twice_columns s)) rows made, passes)
  observed_err t is rel.Wide faults.Memory at wide = tt
  observed_err t is rel.Memory (faults.Wide step) at wide = absurd at
  observed_err t is rel.Memory faults.Memory at wide = tt
