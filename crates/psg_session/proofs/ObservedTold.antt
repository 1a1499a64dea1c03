-- The summary of a tree whose value is observed.
use Rattle.std.proofs.Common.{◌≡◌, ◌↔◌, ℕ, ◌+◌, List, [], ◌∷◌, ◌++◌, length, slice_get, refl, sym, ◌∙◌, ap, subst, append-nil, length-append, arith}
use Rattle.std.proofs.lemmas.List.{length-map, nil_from_length}
use Rattle.psg_terms.specs.Relations.{IsRelation}
use Rattle.psg_terms.specs.Signature.{HaveSorts}
use Rattle.psg_terms.specs.Terms.{Term}
use Rattle.psg_grammar.specs.declared.types.Kind.{Kind}
use Rattle.psg_grammar.specs.declared.types.Definition.{Definition}
use Rattle.psg_grammar.specs.Fragments.{Fragment, observed}
use Rattle.psg_grammar.specs.Sound.{IsSound}
use Rattle.psg_relation.specs.Choices.{all_picked, IsProjected, picked}
use Rattle.psg_relation.proofs.Columns.{all_sorted, projected}
use Rattle.psg_relation.proofs.Existing.{relation_exists}
use Rattle.psg_scope.specs.Headers.{key_of}
use Rattle.psg_eval.specs.declared.summary.SummaryParts.{SummaryParts}
use Rattle.psg_eval.specs.Reporting.{Twice}
use Rattle.psg_eval.specs.Trees.{seen_in}
use Rattle.psg_eval.specs.Walks.{run}
use Rattle.psg_eval.proofs.Gluing.{cut_same}
use Rattle.psg_eval.proofs.PartialSorts.{key_sorts_many}
use Rattle.psg_eval.proofs.ReportedRows.{reported_relation}
use Rattle.psg_eval.proofs.Walking.{Picks, picks_picked, picks_run}
use Rattle.psg_session.proofs.TreesTold.{Told}

-- the first column twice, of rows with so many more columns
abbrev twice : ℕ → List ℕ
twice n = 0 ∷ run 0 (1 + n)

first_of : {X : Type 0} (xs : List X) (n : ℕ) → length xs ≡ 1 + n → (x : X) × (rest : List X) × (xs ≡ x ∷ rest)
first_of [] n h = absurd (omega (arith, h))
first_of (x ∷ rest) n h = (x, rest, refl)

twice_picks : {X : Type 0} (row : List X) (v : X) (others : List X) (n : ℕ) → row ≡ v ∷ others → length row ≡ 1 + n
    → Picks row (twice n) (v ∷ row)
twice_picks row v others n e w = (
  ap (λ l. slice_get l 0) e,
  picks_run row [] row [] 0 (1 + n)
      (sym (append-nil row)) refl (sym w),
)

twice_same : (n : ℕ) (p x : List Term) → length p ≡ 1 + n → (x ≡ picked p (twice n)) ↔ Twice p x
twice_same n p x w = (
  (λ e.
      let (v, vs, is) = first_of p n w in
      record {
        value = v;
        others = vs;
        row_is = is;
        made_is = e ∙ picks_picked p (twice n) (v ∷ p)
            (twice_picks p v vs n is w) ∙ ap (λ l. v ∷ l) is;
      }),
  (λ cut.
      cut.made_is ∙ ap (λ l. cut.value ∷ l) (sym cut.row_is)
      ∙ sym (picks_picked p (twice n) (cut.value ∷ p) (twice_picks p cut.value cut.others n cut.row_is w))),
)

module _ (def : Definition) (sound : IsSound def) where
  pub observed_told : (f : Fragment) (kind : Kind) → Told def sound f kind → seen_in f ≡ 0
      → Told def sound (observed f) kind
  observed_told f kind told bare =
      let s : SummaryParts = told.known in
      let usual = told.usual in
      let n : ℕ = length s.header.names in
      let seen = told.of.seen in
      let reported = usual.reported in
      let none : length usual.seen ≡ 0 = omega (arith, reported, seen, bare) in
      let ss : List ℕ = (usual.sort ∷ usual.seen) ++ usual.key_sorts in
      let many = key_sorts_many def s.header.names usual.key_sorts usual.keys_sorted in
      let named = length-map s.header.names key_of in
      let both = length-append usual.seen usual.key_sorts in
      let width : length ((usual.sort ∷ usual.seen) ++ usual.key_sorts) ≡ 1 + length s.header.names = omega (
        arith,
        none,
        many,
        named,
        both,
      ) in
      let (rel, made) = relation_exists def.signature sound.signature (all_picked s.rel (twice n)) (picked ss (twice n))
      (all_sorted def.signature s.rel (twice n) ss usual.sorted) in
      let r : IsRelation def.signature (picked ss (twice n)) (IsProjected def.signature s.rel (twice n)) rel =
      projected def.signature s.rel (twice n) (picked ss (twice n)) rel made in
      let sorts : picked ss (twice n) ≡ usual.sort ∷ ss =
      picks_picked ss (twice n) (usual.sort ∷ ss) (twice_picks ss usual.sort (usual.seen ++ usual.key_sorts) n refl
      width) in
      record {
        known = record { kind = s.kind; header = s.header; seen = 1; rel = rel };
        kind_is = told.kind_is;
        of = record {
          kind = told.of.kind;
          header = told.of.header;
          seen = let z : 1 ≡ 1 + seen_in f = omega (arith, bare) in z;
          rows = (
            picked ss (twice n),
            reported_relation def f told.of.rows.0 (picked ss (twice n)) s.rel rel told.of.rows.1
                (cut_same def.signature (picked ss (twice n)) ss (twice n) Twice s.rel usual.sorted
                (λ p x w. twice_same n p x (w ∙ width)) rel r),
          );
        };
        usual = record {
          header = usual.header;
          sort = usual.sort;
          kind_sort = usual.kind_sort;
          seen = usual.sort ∷ [];
          reported = refl;
          key_sorts = usual.key_sorts;
          keys_sorted = usual.keys_sorted;
          sorted = λ row i.
              subst (λ z. HaveSorts def.signature row z)
              (sorts ∙ ap (λ l. usual.sort ∷ (usual.sort ∷ l) ++ usual.key_sorts) (nil_from_length usual.seen none))
              ((r.shapes row i).sorted);
        };
      }
