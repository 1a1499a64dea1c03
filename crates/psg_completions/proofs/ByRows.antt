-- Whether a specimen is general enough, by the rows of its relation.
use Rattle.std.proofs.Common.{◌≡◌, ℕ, List, [], ◌∷◌, map, refl, ap, sym, ◌∙◌, subst}
use Rattle.psg_terms.specs.Terms.{Term}
use Rattle.psg_terms.specs.Instances.{substitute, Substitution}
use Rattle.psg_terms.proofs.RelationLaws.{general_by_rows}
use Rattle.psg_grammar.specs.declared.types.SpecimenHole.{SpecimenHole}
use Rattle.psg_grammar.specs.declared.types.Specimen.{Specimen}
use Rattle.psg_grammar.specs.declared.types.Definition.{Definition}
use Rattle.psg_grammar.specs.Open.{Choice}
use Rattle.psg_grammar.specs.Sound.{IsSound}
use Rattle.psg_grammar.specs.Specimens.{tree_of, holes_of}
use Rattle.psg_completions.specs.General.{it, term_at, terms_at, Shows}
use Rattle.psg_completions.specs.SpecimenRows.{place_terms, CaseTakes, DeclareTakes, CaseByRows, DeclareByRows}

module _ (def : Definition) (sound : IsSound def) where
  terms_are : (f : Substitution) (hs : List SpecimenHole)
      → map (substitute f) (map (λ (h : SpecimenHole). h.term) hs) ≡ map (term_at f) hs
  terms_are f [] = refl
  terms_are f (h ∷ hs) = ap (λ l. substitute f h.term ∷ l) (terms_are f hs)

  of_takes : (s : Specimen) (c : Choice (tree_of s)) (v : Term) (us : List Term) → CaseTakes def s c (v ∷ us)
      → Shows def s c v us
  of_takes s c v us t =
      let q : v ∷ us ≡ t.value ∷ t.seen = t.columns_are in
      let a : t.value ≡ v = cc in
      let b : t.seen ≡ us = cc in
      subst (λ x. Shows def s c x us) a (subst (λ x. Shows def s c t.value x) b t.shows)

  pub case_by_rows : CaseByRows def
  case_by_rows one sorts rows relation sorted written distinct =
      let (there, back) =
      general_by_rows def.signature sound.signature sorts (CaseTakes def one.specimen) rows relation
      (one.term ∷ place_terms one.specimen) sorted written in (
        (λ h. let (c, all) = there h in record {
          distinct = distinct;
          choice = c;
          general =
              λ f ground. subst (Shows def one.specimen c (substitute f one.term)) (terms_are f (holes_of one.specimen))
              (of_takes one.specimen c (substitute f one.term) (map (substitute f) (place_terms one.specimen))
              (all f ground));
        }),
        (λ g. back (
          g.choice,
          λ f ground. record {
            value = substitute f one.term;
            seen = terms_at f one.specimen;
            columns_are = ap (λ l. substitute f one.term ∷ l) (terms_are f (holes_of one.specimen));
            shows = g.general f ground;
          },
        )),
      )

  -- the specimen shows the value, with this entity of `$it`
  abbrev ShowsWith : ℕ → (s : Specimen) → Choice (tree_of s) → Term → Term → List Term → Type 0
  ShowsWith space s c e v us = (j : Shows def s c v us) × (j.outside (it space) ≡ e)

  of_declare : (space : ℕ) (s : Specimen) (c : Choice (tree_of s)) (e v : Term) (us : List Term)
      → DeclareTakes def space s c (e ∷ v ∷ us) → ShowsWith space s c e v us
  of_declare space s c e v us t =
      let q : e ∷ v ∷ us ≡ t.shows.outside (it space) ∷ t.value ∷ t.seen = t.columns_are in
      let a : t.value ≡ v = cc in
      let b : t.seen ≡ us = cc in
      let d : t.shows.outside (it space) ≡ e = cc in
      subst (λ x. ShowsWith space s c e x us) a (subst (λ x. ShowsWith space s c e t.value x) b (t.shows, d))

  pub declare_by_rows : DeclareByRows def
  declare_by_rows d sorts rows relation sorted written distinct =
      let (there, back) =
      general_by_rows def.signature sound.signature sorts (DeclareTakes def d.space d.specimen) rows relation
      (d.term ∷ d.value ∷ place_terms d.specimen) sorted written in (
        (λ h. let (c, all) = there h in record {
          distinct = distinct;
          choice = c;
          general =
              λ f ground. subst (ShowsWith d.space d.specimen c (substitute f d.term) (substitute f d.value))
              (terms_are f (holes_of d.specimen))
              (of_declare d.space d.specimen c (substitute f d.term) (substitute f d.value)
              (map (substitute f) (place_terms d.specimen)) (all f ground));
        }),
        (λ g. back (
          g.choice,
          λ f ground. let (j, e) = g.general f ground in record {
            value = substitute f d.value;
            seen = terms_at f d.specimen;
            shows = j;
            columns_are = ap (λ x. x ∷ substitute f d.value ∷ map (substitute f) (place_terms d.specimen)) (sym e)
                ∙ ap (λ l. j.outside (it d.space) ∷ substitute f d.value ∷ l) (terms_are f (holes_of d.specimen));
          },
        )),
      )
