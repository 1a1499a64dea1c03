-- The draft of a whole definition, and the sets that follow from it.
use Rattle.std.proofs.Common.{◌≡◌, inl, inr, ℕ, ◌+◌, ◌<◌, ◌≤◌, Bool, true, false, List, [], length, Contains, Some, slice_get, sym, ◌∙◌, subst, arith, true≢false}
use Rattle.std.proofs.lemmas.Option.{slice_get_within, same_Some}
use Rattle.std.specs.Prelude.{◌↔◌}
use Rattle.psg_grammar.specs.declared.types.Phylum.{Phylum}
use Rattle.psg_grammar.specs.declared.types.ListKind.{ListKind}
use Rattle.psg_class.specs.Grids.{is_set, IsCell, Derives, given, along}
use Rattle.psg_class.specs.declared.grid.Link.{Link}
use Rattle.psg_class.specs.declared.shape.Shape.{Shape}
use Rattle.psg_class.specs.declared.sources.Rows.{Rows}
use Rattle.psg_class.specs.declared.sources.Draft.{Draft}
use Rattle.psg_class.specs.Sources.{Adds, NoLink, Either, Below, If, AtShape, ShapeFact, ShapeLink, PhylumFact, PhylumFactAt, ListFact, ListFactAt, ListLink, ListLinkAt, AllFacts, AllLinks, Parts, Grown, at_once, by_link, HasLink, link_of}
use Rattle.psg_class.proofs.Drafts.{adds_as, adds_both, adds_more}

pub shape_at : (rows : Rows) (shapes : List Shape) (n : ℕ) (s : Shape) (a b : Draft) → slice_get shapes n ≡ Some s → Adds (ShapeFact rows s) (ShapeLink rows s) a b → Adds (AtShape (ShapeFact rows) shapes n) (AtShape (ShapeLink rows) shapes n) a b
shape_at rows shapes n s a b at h = adds_as (ShapeFact rows s) (ShapeLink rows s) (AtShape (ShapeFact rows) shapes n) (AtShape (ShapeLink rows) shapes n) a b
    (λ r c f. (s, at, f)) (λ r c (t, e, f). subst (λ z. ShapeFact rows z r c) (same_Some t s (sym e ∙ at)) f)
    (λ r c f. (s, at, f)) (λ r c (t, e, f). subst (λ z. ShapeLink rows z r c) (same_Some t s (sym e ∙ at)) f) h

pub list_at : (rows : Rows) (lists : List ListKind) (separators : List ℕ) (n : ℕ) (k : ListKind) (m : ℕ) (a b : Draft) → slice_get lists n ≡ Some k → slice_get separators n ≡ Some m
    → Adds (ListFact rows n k.element k.unfinished m) (ListLink rows n k.element) a b → Adds (ListFactAt rows lists separators n) (ListLinkAt rows lists n) a b
list_at rows lists separators n k m a b at ms h = adds_as (ListFact rows n k.element k.unfinished m) (ListLink rows n k.element) (ListFactAt rows lists separators n) (ListLinkAt rows lists n) a b
    (λ r c f. (k, m, at, ms, f))
    (λ r c (j, i, e, g, f). subst (λ z. ListFact rows n z.element z.unfinished m r c) (same_Some j k (sym e ∙ at)) (subst (λ z. ListFact rows n j.element j.unfinished z r c) (same_Some i m (sym g ∙ ms)) f))
    (λ t f l. (k, at, l)) (λ t f (j, e, l). subst (λ z. ListLink rows n z.element t f) (same_Some j k (sym e ∙ at)) l) h

pub phylum_at : (rows : Rows) (opening closing : ℕ) (phyla : List Phylum) (holes : List Bool) (p : ℕ) (k : Phylum) (hole : Bool) (a b c d : Draft) → slice_get phyla p ≡ Some k → slice_get holes p ≡ Some hole
    → Adds (If hole p (3 + p)) NoLink a b → Adds (If k.bracketed p opening) NoLink b c → Adds (If k.bracketed (rows.kinds + p) closing) NoLink c d → Adds (PhylumFactAt rows opening closing phyla holes p) NoLink a d
phylum_at rows opening closing phyla holes p k hole a b c d at hs x y z =
    adds_as (PhylumFact rows opening closing p hole k.bracketed) (Either (Either NoLink NoLink) NoLink) (PhylumFactAt rows opening closing phyla holes p) NoLink a d
    (λ r m f. (k, hole, at, hs, f))
    (λ r m (j, i, e, g, f). subst (λ w. PhylumFact rows opening closing p hole w.bracketed r m) (same_Some j k (sym e ∙ at)) (subst (λ w. PhylumFact rows opening closing p w j.bracketed r m) (same_Some i hole (sym g ∙ hs)) f))
    (λ t f l. elim l [ inl m ↦ (elim m [ inl n ↦ n | inr n ↦ n ]) | inr m ↦ m ]) (λ t f l. absurd l)
    (adds_both (Either (If hole p (3 + p)) (If k.bracketed p opening)) (Either NoLink NoLink) (If k.bracketed (rows.kinds + p) closing) NoLink a c d
    (adds_both (If hole p (3 + p)) NoLink (If k.bracketed p opening) NoLink a b c x y) z)

pub facts_more : (F : ℕ → ℕ → ℕ → Type 0) (n : ℕ) (a b d : Draft) → Adds (Below F n) NoLink a b → Adds (F n) NoLink b d → Adds (Below F (n + 1)) NoLink a d
facts_more F n a b d h k = adds_as (Below F (n + 1)) (Below (λ m. NoLink) (n + 1)) (Below F (n + 1)) NoLink a d (λ r c f. f) (λ r c f. f) (λ t f (j, lt, x). absurd x) (λ t f l. absurd l)
    (adds_more F (λ m. NoLink) n a b d (adds_as (Below F n) NoLink (Below F n) (Below (λ m. NoLink) n) a b (λ r c f. f) (λ r c f. f) (λ t f l. absurd l) (λ t f (j, lt, x). absurd x) h) k)

module _ (a : Parts) (none shapes phyla lists : Draft) (dark : (r c : ℕ) → is_set none.grid r c ≡ false) (bare : none.links.items ≡ [])
    (x : Adds (Below (AtShape (ShapeFact a.rows) a.shapes) (length a.shapes)) (Below (AtShape (ShapeLink a.rows) a.shapes) (length a.shapes)) none shapes)
    (y : Adds (Below (PhylumFactAt a.rows a.opening a.closing a.phyla a.holes) (length a.phyla)) NoLink shapes phyla)
    (z : Adds (Below (ListFactAt a.rows a.lists a.separators) (length a.lists)) (Below (ListLinkAt a.rows a.lists) (length a.lists)) phyla lists) where
  pub all : Adds (AllFacts a) (AllLinks a) none lists
  all = adds_as (AllFacts a) (Either (Either (Below (AtShape (ShapeLink a.rows) a.shapes) (length a.shapes)) NoLink) (Below (ListLinkAt a.rows a.lists) (length a.lists))) (AllFacts a) (AllLinks a) none lists
      (λ r c f. f) (λ r c f. f)
      (λ t f l. elim l [ inl m ↦ (elim m [ inl n ↦ inl n | inr n ↦ absurd n ]) | inr m ↦ inr m ])
      (λ t f l. elim l [ inl m ↦ inl (inl m) | inr m ↦ inr m ])
      (adds_both (Either (Below (AtShape (ShapeFact a.rows) a.shapes) (length a.shapes)) (Below (PhylumFactAt a.rows a.opening a.closing a.phyla a.holes) (length a.phyla))) (Either (Below (AtShape (ShapeLink a.rows) a.shapes) (length a.shapes)) NoLink)
      (Below (ListFactAt a.rows a.lists a.separators) (length a.lists)) (Below (ListLinkAt a.rows a.lists) (length a.lists)) none phyla lists
      (adds_both (Below (AtShape (ShapeFact a.rows) a.shapes) (length a.shapes)) (Below (AtShape (ShapeLink a.rows) a.shapes) (length a.shapes)) (Below (PhylumFactAt a.rows a.opening a.closing a.phyla a.holes) (length a.phyla)) NoLink none shapes phyla x y) z)

  no_link : (t f : ℕ) → HasLink none t f → ⊥
  no_link t f h = none_in (subst (λ ls. Contains ls (link_of t f)) bare h) where
    none_in : Contains {X = Link} [] (link_of t f) → ⊥
    none_in (i, lt, e) = absurd (omega arith)

  fact_of : (r c : ℕ) → IsCell none.grid r c → is_set lists.grid r c ≡ true → AllFacts a r c
  fact_of r c cell e = elim (all.only r c cell e) [ inl old ↦ absurd (true≢false (sym old ∙ dark r c)) | inr f ↦ f ]

  link_in : (l : Link) → Contains lists.links.items l → AllLinks a l.to l.from
  link_in l h = elim (all.only_links l.to l.from h) [ inl old ↦ absurd (no_link l.to l.from old) | inr k ↦ k ]

  there : {r c : ℕ} → Derives lists.grid lists.links.items r c → IsCell none.grid r c → Grown a r c
  there {r = r} {c = c} (given e) cell = at_once (fact_of r c cell e)
  there {c = c} (along l among d) cell =
      let (to, from) = all.inside l among in
      by_link l.to l.from (link_in l among) (there d (subst (λ h. l.from < h) all.size.height from, cell.1))

  back : {r c : ℕ} → Grown a r c → Derives lists.grid lists.links.items r c
  back {r = r} {c = c} (at_once f) = given ((all.facts r c f).1)
  back (by_link to from l g) = along (link_of to from) (all.links to from l) (back g)

  pub grown : (r c : ℕ) → IsCell none.grid r c → Derives lists.grid lists.links.items r c ↔ Grown a r c
  grown r c cell = (λ d. there d cell, λ g. back g)

pub all_shapes : (F E : Shape → ℕ → ℕ → Type 0) (shapes : List Shape) (n : ℕ) (a b : Draft) → length shapes ≤ n → Adds (Below (AtShape F shapes) n) (Below (AtShape E shapes) n) a b → Adds (Below (AtShape F shapes) (length shapes)) (Below (AtShape E shapes) (length shapes)) a b
all_shapes F E shapes n a b h x = adds_as (Below (AtShape F shapes) n) (Below (AtShape E shapes) n) (Below (AtShape F shapes) (length shapes)) (Below (AtShape E shapes) (length shapes)) a b
    (λ r c (j, lt, (s, at, f)). (j, slice_get_within shapes j s at, (s, at, f))) (λ r c (j, lt, f). (j, (omega arith), f))
    (λ r c (j, lt, (s, at, f)). (j, slice_get_within shapes j s at, (s, at, f))) (λ r c (j, lt, f). (j, (omega arith), f)) x
