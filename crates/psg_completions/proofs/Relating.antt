-- Relations of fragments with and without legal completions.
use Rattle.std.proofs.Common.{◌≡◌, inl, inr, true, false, List, [], ◌∷◌, map, refl, ◌∙◌, subst}
use Rattle.psg_terms.specs.Terms.{Term}
use Rattle.psg_grammar.specs.declared.types.Kind.{Kind}
use Rattle.psg_grammar.specs.declared.types.Kind.TheVariants as kinds
use Rattle.psg_grammar.specs.declared.types.Item.{Item}
use Rattle.psg_grammar.specs.declared.types.Item.TheVariants as items
use Rattle.psg_grammar.specs.declared.types.Definition.{Definition}
use Rattle.psg_grammar.specs.Fragments.{Fragment, hole, ending, cell, operator, with_child, with_name, with_number, with_text, anything, observed}
use Rattle.psg_grammar.specs.Lookups.{key_at}
use Rattle.psg_grammar.specs.Legal.{Entities}
use Rattle.psg_grammar.specs.Open.{Choice, Holds, Judged}
use Rattle.psg_grammar.specs.Regions.{names_of}
use Rattle.psg_grammar.specs.WellFormed.{Fits, IsPlain}
use Rattle.psg_grammar.specs.Sound.{IsSound}
use Rattle.psg_completions.specs.Conditions.{HasTrueRows}
use Rattle.psg_completions.specs.Completions.{RelatedOrCompletable, ShownByRows}
use Rattle.psg_completions.proofs.Law.{open_or_completable, shown_or_possible}

module _ (def : Definition) where
  -- where nothing is observed there are no observed values
  unseen : (f : Fragment) (more : List Item) (kind : Kind) (g : Entities) (c : Choice f) (columns : List Term)
      (v : Term) (before after : List Term)
      → Fits def f more kind → IsPlain f → Holds def g f c columns v before after → before ≡ after
  unseen (hole p) more kind g c columns v before after w pl (none, same, row) = same
  unseen (ending l true) more kind g c columns v before after w pl (none, same, row) = same
  unseen (ending l false) more kind g c columns v before after w pl (none, same, row) = same
  unseen (cell l e r) more kind g c columns v before after (a, b, k, found, we, wr, free) (pe, pr)
      (none, first, others, mid, inner, row, ei, agr, he, hr) =
      unseen e [] (kinds.Phylum k.element) inner c.1 [] first before mid we pe he
      ∙ unseen r [] (kinds.List l) g c.2 [] others mid after wr pr hr
  unseen (operator o) more kind g c columns v before after w pl (same, row) = same
  unseen (with_child f t) more kind g c columns v before after (k, wf, wt) (pf, pt) (u, mid, inner, hf, ei, agr, ht) =
      unseen f (items.Slot k ∷ more) kind g c.0 (u ∷ columns) v before mid wf pf hf
      ∙ unseen t [] k inner c.1 [] u mid after wt pt ht
  unseen (with_name f x) more kind g c columns v before after (inl (s, w), name) pl h =
      unseen f (items.Refers s ∷ more) kind g c (g (key_at def f x) ∷ columns) v before after w pl h
  unseen (with_name f x) more kind g c columns v before after (inr (s, w), name) pl h =
      unseen f (items.Declares s ∷ more) kind g c (g (key_at def f x) ∷ columns) v before after w pl h
  unseen (with_number f x) more kind g c columns v before after (w, small) pl h =
      unseen f (items.Number ∷ more) kind g c columns v before after w pl h
  unseen (with_text f x) more kind g c columns v before after (w, text) pl h =
      unseen f (items.Text ∷ more) kind g c columns v before after w pl h
  unseen anything more kind g c columns v before after w pl h = absurd w
  unseen (observed f) more kind g c columns v before after w pl h = absurd pl

  module _ (sound : IsSound def) (true_rows : HasTrueRows def) where
    pub related_or_completable : RelatedOrCompletable def
    related_or_completable f kind w rows (sorts, relation) =
        let (there, back) = open_or_completable def sound true_rows f kind w in (
          (λ (row, among).
              let shape = relation.shapes row among in
              let (columns, p) = shape.some in
              let none : p.seen ≡ [] =
              unseen f [] kind p.judged.inner shape.choice [] p.value p.seen [] w.0 w.1 p.judged.holds in
              there
              (record {
                distinct = p.distinct;
                choice = shape.choice;
                outside = p.outside;
                entities = p.entities;
                value = p.value;
                judged = subst (λ us. Judged def p.outside f shape.choice p.value us) none p.judged;
              })),
          (λ h.
              let o = back h in
              let (row, among, covers) = relation.covers o.choice (o.value ∷ map o.outside (names_of def f))
              (record {
                distinct = o.distinct;
                outside = o.outside;
                entities = o.entities;
                value = o.value;
                seen = [];
                judged = o.judged;
                columns_are = refl;
              }) in
              (row, among)),
        )

    pub shown_by_rows : ShownByRows def
    shown_by_rows f kind w path node at rows (sorts, relation) u =
        let (there, back) = shown_or_possible def sound true_rows f kind w path node at u in (
          (λ (row, among, instance). let shape = relation.shapes row among in
              there (shape.choice, (shape.exact (u ∷ [])).0 instance)),
          (λ h. let (c, seen) = back h in let (row, among, covers) = relation.covers c (u ∷ []) seen in
              (row, among, covers (u ∷ []) seen)),
        )
