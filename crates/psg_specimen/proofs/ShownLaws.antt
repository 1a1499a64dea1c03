-- A specimen shows the values of its case exactly where they are an instance of its pattern's rows.
use Rattle.std.proofs.Common.{◌≡◌, ◌↔◌, inl, inr, ℕ, ◌+◌, List, [], ◌∷◌, ◌++◌, map, length, refl, ap, sym, ◌∙◌, subst, arith, append-nil}
use Rattle.std.specs.List.{AllByRecursion}
use Rattle.std.proofs.lemmas.List.{length-map}
use Rattle.psg_terms.specs.Terms.{Term}
use Rattle.psg_terms.specs.Signature.{HasSort, HaveSorts}
use Rattle.psg_terms.specs.Canonical.{AreWrittenOut}
use Rattle.psg_terms.specs.Instances.{Substitution, substitute, IsGrounding}
use Rattle.psg_terms.specs.Relations.{IsIn, IsRelation}
use Rattle.psg_terms.proofs.OneRelation.{instance_sorts}
use Rattle.psg_terms.proofs.Separate.{grounding, separated}
use Rattle.psg_terms.proofs.SoundChoices.{choices}
use Rattle.psg_grammar.specs.declared.types.Kind.{Kind}
use Rattle.psg_grammar.specs.declared.types.SpecimenHole.{SpecimenHole}
use Rattle.psg_grammar.specs.declared.types.Specimen.{Specimen}
use Rattle.psg_grammar.specs.declared.types.Case.{Case}
use Rattle.psg_grammar.specs.declared.types.Definition.{Definition}
use Rattle.psg_grammar.specs.Fragments.{Fragment, anything}
use Rattle.psg_grammar.specs.Kinds.{IsOfKind}
use Rattle.psg_grammar.specs.Legal.{Entities, AreEntities}
use Rattle.psg_grammar.specs.Open.{Choice, Judged}
use Rattle.psg_grammar.specs.Placed.{FitsPlaces}
use Rattle.psg_grammar.specs.Regions.{names_of, IsDistinct}
use Rattle.psg_grammar.specs.Relations.{IsPossible}
use Rattle.psg_grammar.specs.Sound.{IsSound, IsHolePlace, IsSpecimen, IsTermOf, HasKindSort, kind_of}
use Rattle.psg_grammar.specs.Specimens.{tree_of, holes_of}
use Rattle.psg_completions.specs.General.{term_at, terms_at, Shows, IsGeneralCase}
use Rattle.psg_completions.proofs.RowValues.{one_sort}
use Rattle.psg_relation.specs.Choices.{picked}
use Rattle.psg_eval.specs.declared.summary.SummaryParts.{SummaryParts}
use Rattle.psg_eval.specs.Summaries.{IsSummary, IsSummaryOf}
use Rattle.psg_eval.specs.Walks.{run}
use Rattle.psg_eval.proofs.Uniqueness.{with_sorts}
use Rattle.psg_eval.proofs.Usual.{usual, usual_entities}
use Rattle.psg_specimen.specs.Shown.{IsFirstTerm, IsRowShown, value_terms}
use Rattle.psg_specimen.proofs.ColumnLaws.{front_picked}
use Rattle.psg_specimen.proofs.GeneralRows.{general_by_columns, usual_terms}
use Rattle.psg_specimen.proofs.PatternLaws.{kind_once}
use Rattle.psg_specimen.proofs.SeenLaws.{AreOfKinds, kinds_many, places_many, same_kinds, seen_of}

terms_are : (f : Substitution) (hs : List SpecimenHole) → map (substitute f) (map (λ (h : SpecimenHole). h.term) hs) ≡ map (term_at f) hs
terms_are f [] = refl
terms_are f (h ∷ hs) = ap (λ l. substitute f h.term ∷ l) (terms_are f hs)

pub value_are : (f : Substitution) (t : Term) (hs : List SpecimenHole) → map (substitute f) (value_terms t hs) ≡ substitute f t ∷ map (term_at f) hs
value_are f t hs = ap (λ l. substitute f t ∷ l) (terms_are f hs)

module _ (def : Definition) (sound : IsSound def) where
  place_kinds : (hs : List SpecimenHole) → AllByRecursion (IsHolePlace def) hs → AreOfKinds def sound (map (kind_of def) hs) (map (λ (h : SpecimenHole). h.term) hs)
  place_kinds [] h = tt
  place_kinds (p ∷ hs) ((s, has, (sorted, written)), h) = (s, has, sorted, place_kinds hs h)

  place_written : (hs : List SpecimenHole) → AllByRecursion (IsHolePlace def) hs → AreWrittenOut def.signature (map (λ (h : SpecimenHole). h.term) hs)
  place_written [] h = tt
  place_written (p ∷ hs) ((s, has, (sorted, written)), h) = (written, place_written hs h)

  not_place : (f : Fragment) (k kind : Kind) → IsOfKind def f k → f ≡ anything → ⊥
  not_place f k kind h e = subst (λ x. IsOfKind def x k) e h

  -- what is known of a specimen and its pattern
  pub record HasPattern (kind : Kind) (specimen : Specimen) (s : SummaryParts) : Type 0 where
    pub whole : IsSpecimen def kind specimen
    pub of : IsSummaryOf def (tree_of specimen) s
    pub usual : IsSummary def s

  module _ (kind : Kind) (specimen : Specimen) (s : SummaryParts) (h : HasPattern kind specimen s) where
    abbrev pub many : ℕ
    many = length (holes_of specimen) + 1

    abbrev pub Possible : Choice (tree_of specimen) → List Term → Type 0
    Possible = IsPossible def (tree_of specimen)

    abbrev pub front_sorts : List ℕ
    front_sorts = h.usual.sort ∷ h.usual.seen

    abbrev pub all_sorts : List ℕ
    all_sorts = front_sorts ++ h.usual.key_sorts

    abbrev places : List Kind
    places = map (kind_of def) (holes_of specimen)

    pub relation : IsRelation def.signature all_sorts Possible s.rel
    relation = with_sorts def.signature Possible h.of.rows.0 all_sorts s.rel h.of.rows.1 h.usual.sorted

    seen_is : s.seen ≡ length (holes_of specimen)
    seen_is =
        let a = h.of.seen in
        let b = places_many def (tree_of specimen) [] kind places [] h.whole.fits in
        let c = length-map (holes_of specimen) (kind_of def) in
        omega (arith, a, b, c)

    pub front_many : length front_sorts ≡ many
    front_many = let a = h.usual.reported in let b = seen_is in omega (arith, a, b)

    -- the values at the hole places of what is possible
    pub seen_kinds : (c : Choice (tree_of specimen)) (full : List Term) (p : Possible c full) → AreOfKinds def sound places p.seen
    seen_kinds c full p =
        let w = seen_of def sound (tree_of specimen) c p.judged.inner [] p.value p.seen [] [] kind places [] h.whole.fits p.judged.holds (λ e. absurd (not_place (tree_of specimen) s.kind kind h.of.kind e)) in
        subst (λ ks. AreOfKinds def sound ks p.seen) (sym (w.places_are ∙ append-nil w.kinds))
        (subst (λ us. AreOfKinds def sound w.kinds us) (sym (w.before_is ∙ append-nil w.own)) w.of_kinds)

    pub seen_many : (c : Choice (tree_of specimen)) (full : List Term) (p : Possible c full) → length (p.value ∷ p.seen) ≡ many
    seen_many c full p =
        let a = kinds_many def sound places p.seen (seen_kinds c full p) in
        let b = length-map (holes_of specimen) (kind_of def) in
        omega (arith, a, b)

    pub possible_front : (c : Choice (tree_of specimen)) (full : List Term) (p : Possible c full) → picked full (run 0 many) ≡ p.value ∷ p.seen
    possible_front c full p = front_picked full (p.value ∷ p.seen) (map p.outside (names_of def (tree_of specimen))) many p.columns_are (seen_many c full p)

    pub sorts_front : picked all_sorts (run 0 many) ≡ front_sorts
    sorts_front = front_picked all_sorts front_sorts h.usual.key_sorts many refl front_many

    split_sorts : (u : Term) (us rest : List Term) (r : ℕ) (rs qs : List ℕ) → HaveSorts def.signature ((u ∷ us) ++ rest) ((r ∷ rs) ++ qs) → length us ≡ length rs → HaveSorts def.signature us rs
    split_sorts u us rest r rs qs sorted e = go us rs sorted.1 e where
      go : (xs : List Term) (ss : List ℕ) → HaveSorts def.signature (xs ++ rest) (ss ++ qs) → length xs ≡ length ss → HaveSorts def.signature xs ss
      go [] [] k d = tt
      go [] (t ∷ ss) k d = absurd (omega (arith, d))
      go (x ∷ xs) [] k d = absurd (omega (arith, d))
      go (x ∷ xs) (t ∷ ss) k d = (k.0, go xs ss k.1 (omega (arith, d)))

    -- Where the relation has a row, the value and the terms of the hole places have the sorts of the columns in front.
    pub value_sorted : (t : Term) (sort : ℕ) → HasKindSort def kind sort → HasSort def.signature t sort → (general : List Term) → IsIn general s.rel → HaveSorts def.signature (value_terms t (holes_of specimen)) front_sorts
    value_sorted t sort has sorted general among =
        let shape = relation.shapes general among in
        let (full, p) = shape.some in
        let all = instance_sorts def.signature general full all_sorts shape.sorted ((shape.exact full).1 p) in
        let own = subst (λ x. HaveSorts def.signature x all_sorts) p.columns_are all in
        let a = seen_many shape.choice full p in
        let b = front_many in
        let same = split_sorts p.value p.seen (map p.outside (names_of def (tree_of specimen))) h.usual.sort h.usual.seen h.usual.key_sorts own (omega (arith, a, b)) in
        let kind_is = kind_once def (tree_of specimen) [] kind s.kind places [] h.whole.fits h.of.kind in
        let one = one_sort def kind sort h.usual.sort has (subst (λ k. HasKindSort def k h.usual.sort) kind_is h.usual.kind_sort) in
        (subst (HasSort def.signature t) one sorted, same_kinds def sound places p.seen (map (λ (x : SpecimenHole). x.term) (holes_of specimen)) h.usual.seen (seen_kinds shape.choice full p) (place_kinds (holes_of specimen) h.whole.places) same)

    pub written : (t : Term) (sort : ℕ) → IsTermOf def t sort → AreWrittenOut def.signature (value_terms t (holes_of specimen))
    written t sort w = (w.1, place_written (holes_of specimen) h.whole.places)

    -- what is shown is possible
    abbrev pub shown_possible : (c : Choice (tree_of specimen)) (f : Substitution) (t : Term) → IsDistinct def (tree_of specimen) → (j : Shows def specimen c (substitute f t) (terms_at f specimen))
        → Possible c ((substitute f t ∷ terms_at f specimen) ++ map j.outside (names_of def (tree_of specimen)))
    shown_possible c f t distinct j = record {
      distinct = distinct;
      outside = j.outside;
      entities = j.entities;
      value = substitute f t;
      seen = terms_at f specimen;
      judged = j.judged;
      columns_are = refl;
    }

    -- and what is possible with these values is shown
    pub possible_shown : (c : Choice (tree_of specimen)) (f : Substitution) (t : Term) (full : List Term) (p : Possible c full) → map (substitute f) (value_terms t (holes_of specimen)) ≡ p.value ∷ p.seen
        → (j : Shows def specimen c (substitute f t) (terms_at f specimen)) × (j.outside ≡ p.outside)
    possible_shown c f t full p e =
        let both : substitute f t ∷ terms_at f specimen ≡ p.value ∷ p.seen = sym (value_are f t (holes_of specimen)) ∙ e in
        let v : p.value ≡ substitute f t = cc in
        let us : p.seen ≡ terms_at f specimen = cc in (
          record {
            outside = p.outside;
            entities = p.entities;
            judged = subst (λ x. Judged def p.outside (tree_of specimen) c x (terms_at f specimen)) v (subst (λ x. Judged def p.outside (tree_of specimen) c p.value x) us p.judged);
          },
          refl,
        )

    abbrev usual_sub : Substitution
    usual_sub = usual_terms def.signature sound.signature

    usual_ground : IsGrounding def.signature usual_sub
    usual_ground = grounding def.signature (choices def.signature sound.signature)

    -- some row of the relation
    pub some_row : (c : Choice (tree_of specimen)) (full : List Term) → Possible c full → (general : List Term) × IsIn general s.rel
    some_row c full p = let (general, among, all) = relation.covers c full p in (general, among)

    -- the specimen shows the values of the case exactly where they are an instance of the columns in front
    pub case_shown : (one : Case) → one.specimen ≡ specimen → (sort : ℕ) → HasKindSort def kind sort → IsTermOf def one.term sort
        → IsRowShown s.rel (run 0 many) (value_terms one.term (holes_of specimen)) ↔ IsGeneralCase def (record { term = one.term; specimen = specimen })
    case_shown one same sort has term = (forth, back) where
      t : Term
      t = one.term

      sorts_are : (general : List Term) → IsIn general s.rel → HaveSorts def.signature (value_terms one.term (holes_of specimen)) (picked all_sorts (run 0 many))
      sorts_are general among = subst (HaveSorts def.signature (value_terms one.term (holes_of specimen))) (sym sorts_front) (value_sorted one.term sort has term.0 general among)

      forth : IsRowShown s.rel (run 0 many) (value_terms one.term (holes_of specimen)) → IsGeneralCase def (record { term = one.term; specimen = specimen })
      forth (general, among, instance) =
          let (c, all) = (general_by_columns def.signature sound.signature all_sorts Possible s.rel relation (run 0 many) (value_terms one.term (holes_of specimen)) (sorts_are general among) (written one.term sort term)).0 (general, among, instance) in
          record {
            distinct = (all usual_sub usual_ground).1.distinct;
            choice = c;
            general = λ f ground. let (full, p, e) = all f ground in (possible_shown c f one.term full p (e ∙ possible_front c full p)).0;
          }

      back : IsGeneralCase def (record { term = one.term; specimen = specimen }) → IsRowShown s.rel (run 0 many) (value_terms one.term (holes_of specimen))
      back g =
          let (general, among) = some_row g.choice _ (shown_possible g.choice usual_sub one.term g.distinct (g.general usual_sub usual_ground)) in
          (general_by_columns def.signature sound.signature all_sorts Possible s.rel relation (run 0 many) (value_terms one.term (holes_of specimen)) (sorts_are general among) (written one.term sort term)).1 (
            g.choice,
            λ f ground.
                let p = shown_possible g.choice f one.term g.distinct (g.general f ground) in
                (_, p, value_are f one.term (holes_of specimen) ∙ sym (possible_front g.choice _ p)),
          )

  -- ---- a specimen that is a place alone

  -- what a place alone is
  record IsAlone (t : Fragment) : Type 0 where
    choice : Choice t
    distinct : IsDistinct def t
    judged : (g : Entities) (v : Term) → AreEntities def g → Judged def g t choice v (v ∷ [])
    only : (c : Choice t) (g : Entities) (v : Term) (us : List Term) → Judged def g t c v us → us ≡ v ∷ []

  alone : IsAlone anything
  alone = record {
    choice = tt;
    distinct = (refl, tt);
    judged = λ g v eg. record { inner = g; entities = eg; agree = refl; holds = (refl, refl) };
    only = λ c g v us j. j.holds.1;
  }

  one_place : (hs : List SpecimenHole) (kind : Kind) → map (kind_of def) hs ≡ kind ∷ [] → (h : SpecimenHole) × (hs ≡ h ∷ [])
  one_place [] kind e = absurd (cc)
  one_place (h ∷ []) kind e = (h, refl)
  one_place (h ∷ i ∷ hs) kind e = absurd (cc)

  -- terms with the same ground instances are equal
  same_terms : (a b : Term) (r s : ℕ) → IsTermOf def a r → IsTermOf def b s → ((f : Substitution) → IsGrounding def.signature f → substitute f a ≡ substitute f b) → a ≡ b
  same_terms a b r s ha hb all = elim (separated def.signature (choices def.signature sound.signature) a b [] [] r s ha.0 hb.0 ha.1 hb.1) [
    | inl e ↦ e
    | inr (g, ground, n) ↦ absurd (n (all g ground))
  ]

  pub place_shown : (kind : Kind) (specimen : Specimen) (t : Term) (sort : ℕ) → IsSpecimen def kind specimen → IsTermOf def t sort → tree_of specimen ≡ anything
      → IsFirstTerm t (holes_of specimen) ↔ IsGeneralCase def (record { term = t; specimen = specimen })
  place_shown kind specimen t sort whole term e = by (holes_of specimen) refl where
    a : IsAlone (tree_of specimen)
    a = subst IsAlone (sym e) alone

    fits : FitsPlaces def ⊥ anything [] kind (map (kind_of def) (holes_of specimen)) []
    fits = subst (λ x. FitsPlaces def ⊥ x [] kind (map (kind_of def) (holes_of specimen)) []) e whole.fits

    forth : (h : SpecimenHole) → holes_of specimen ≡ h ∷ [] → h.term ≡ t → IsGeneralCase def (record { term = t; specimen = specimen })
    forth h is same = record {
      distinct = a.distinct;
      choice = a.choice;
      general = λ f ground. record {
        outside = usual def sound;
        entities = usual_entities def sound;
        judged = subst (λ us. Judged def (usual def sound) (tree_of specimen) a.choice (substitute f t) us)
            (sym (ap (map (term_at f)) is ∙ ap (λ x. substitute f x ∷ []) same)) (a.judged (usual def sound) (substitute f t) (usual_entities def sound));
      };
    }

    back : (h : SpecimenHole) → holes_of specimen ≡ h ∷ [] → IsGeneralCase def (record { term = t; specimen = specimen }) → h.term ≡ t
    back h is g =
        let own : AllByRecursion (IsHolePlace def) (h ∷ []) = subst (AllByRecursion (IsHolePlace def)) is whole.places in
        same_terms h.term t own.0.0 sort own.0.2 term (λ f ground.
        let j = g.general f ground in
        let only = a.only g.choice j.outside (substitute f t) (terms_at f specimen) j.judged in
        let both : substitute f h.term ∷ [] ≡ substitute f t ∷ [] = sym (ap (map (term_at f)) is) ∙ only in
        cc)

    by : (hs : List SpecimenHole) → holes_of specimen ≡ hs → IsFirstTerm t hs ↔ IsGeneralCase def (record { term = t; specimen = specimen })
    by hs is =
        let (h, one) = one_place hs kind (sym (ap (map (kind_of def)) is) ∙ fits.2) in
        let whole_is : holes_of specimen ≡ h ∷ [] = is ∙ one in
        subst (λ xs. IsFirstTerm t xs ↔ IsGeneralCase def (record { term = t; specimen = specimen })) (sym one) (forth h whole_is, back h whole_is)
