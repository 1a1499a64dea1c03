-- Drafts: cells and links that are added one after the other.
use Rattle.std.proofs.Common.{◌≡◌, ◌≢◌, ◌⊎◌, inl, inr, ℕ, ◌+◌, ◌<◌, true, List, [], ◌∷◌, ◌++◌, Contains, refl, ap, sym, ◌∙◌, subst, arith}
use Rattle.std.proofs.lemmas.List.Elements.{Contains-append_left, Contains-push, Contains-push_cases}
use Rattle.std.proofs.lemmas.Bool.{cases_eq}
use Rattle.psg_class.specs.Grids.{IsGrid, is_set, IsCell, IsSameSize, AreLinks}
use Rattle.psg_class.specs.declared.grid.Grid.{Grid}
use Rattle.psg_class.specs.declared.grid.Link.{Link}
use Rattle.psg_class.specs.declared.sources.Draft.{Draft}
use Rattle.psg_class.specs.Sources.{Adds, NoLink, OneCell, Either, Below, HasLink, link_of, IsDraft}
use Rattle.psg_class.proofs.Closing.{same_size, cell_in, cell_back, cell_cases}

same_links : (a b : Grid) (links : List Link) → IsSameSize a b → AreLinks a links → AreLinks b links
same_links a b links size inside l h = let (x, y) = inside l h in (subst (λ z. l.to < z) (sym size.height) x, subst (λ z. l.from < z) (sym size.height) y)

pub put_adds : (old new : Draft) (row column : ℕ) → IsDraft old.grid.height old.grid.width old → IsCell old.grid row column → new.links ≡ old.links → IsSameSize old.grid new.grid → is_set new.grid row column ≡ true
    → ((r c : ℕ) → c < old.grid.width → (r ≢ row) ⊎ (c ≢ column) → is_set new.grid r c ≡ is_set old.grid r c) → Adds (OneCell row column) NoLink old new
put_adds old new row column draft cell same size this others =
    let links : new.links.items ≡ old.links.items = ap (λ v. v.items) same in
    record {
      size = size;
      inside = subst (AreLinks new.grid) (sym links) (same_links old.grid new.grid old.links.items size draft.inside);
      only = λ r c inside e. elim (cell_cases r row c column) [ inl h ↦ inr h | inr d ↦ inl (sym (others r c inside.1 d) ∙ e) ];
      keeps = λ r c inside e. elim (cell_cases r row c column) [
        | inl (x, y) ↦ subst (λ z. is_set new.grid z c ≡ true) (sym x) (subst (λ z. is_set new.grid row z ≡ true) (sym y) this)
        | inr d ↦ others r c inside.1 d ∙ e
      ];
      facts = λ r c (x, y). (subst (λ z. IsCell old.grid z c) (sym x) (subst (IsCell old.grid row) (sym y) cell), subst (λ z. is_set new.grid z c ≡ true) (sym x) (subst (λ z. is_set new.grid row z ≡ true) (sym y) this));
      only_links = λ to from h. inl (subst (λ ls. Contains ls (link_of to from)) links h);
      keeps_links = λ to from h. subst (λ ls. Contains ls (link_of to from)) (sym links) h;
      links = λ to from h. absurd h;
    }

pub link_adds : (old new : Draft) (to from : ℕ) → IsDraft old.grid.height old.grid.width old → to < old.grid.height → from < old.grid.height → new.grid ≡ old.grid → new.links.items ≡ old.links.items ++ link_of to from ∷ [] → Adds NoLink (OneCell to from) old new
link_adds old new to from draft h k same links = record {
  size = record { height = ap (λ g. g.height) same; width = ap (λ g. g.width) same; grid = subst IsGrid (sym same) draft.table.grid };
  inside = λ l among. elim (Contains-push_cases old.links.items (link_of to from) l (subst (λ ls. Contains ls l) links among)) [
    | inl old_one ↦ (let (x, y) = draft.inside l old_one in (subst (λ g. l.to < g.height) (sym same) x, subst (λ g. l.from < g.height) (sym same) y))
    | inr e ↦ (subst (λ g. l.to < g.height) (sym same) (subst (λ z. z.to < old.grid.height) e h), subst (λ g. l.from < g.height) (sym same) (subst (λ z. z.from < old.grid.height) e k))
  ];
  only = λ r c inside e. inl (subst (λ g. is_set g r c ≡ true) same e);
  keeps = λ r c inside e. subst (λ g. is_set g r c ≡ true) (sym same) e;
  facts = λ r c f. absurd f;
  only_links = λ t f among. elim (Contains-push_cases old.links.items (link_of to from) (link_of t f) (subst (λ ls. Contains ls (link_of t f)) links among)) [
    | inl old_one ↦ inl old_one
    | inr e ↦ inr (ap (λ (l : Link). l.to) (sym e), ap (λ (l : Link). l.from) (sym e))
  ];
  keeps_links = λ t f among. subst (λ ls. Contains ls (link_of t f)) (sym links) (Contains-append_left old.links.items (link_of to from ∷ []) (link_of t f) among);
  links = λ t f (x, y). subst (λ z. HasLink new z f) (sym x) (subst (HasLink new to) (sym y) (subst (λ ls. Contains ls (link_of to from)) (sym links) (Contains-push old.links.items (link_of to from))));
}

pub adds_none : (d : Draft) → IsDraft d.grid.height d.grid.width d → Adds NoLink NoLink d d
adds_none d draft = record {
  size = record { height = refl; width = refl; grid = draft.table.grid };
  inside = draft.inside;
  only = λ r c inside e. inl e;
  keeps = λ r c inside e. e;
  facts = λ r c f. absurd f;
  only_links = λ t f h. inl h;
  keeps_links = λ t f h. h;
  links = λ t f h. absurd h;
}

pub adds_both : (F E G D : ℕ → ℕ → Type 0) (a b d : Draft) → Adds F E a b → Adds G D b d → Adds (Either F G) (Either E D) a d
adds_both F E G D a b d h k = record {
  size = same_size a.grid b.grid d.grid h.size k.size;
  inside = k.inside;
  only = λ r c inside e. elim (k.only r c (cell_in a.grid b.grid r c h.size inside) e) [
    | inl old ↦ (elim (h.only r c inside old) [ inl x ↦ inl x | inr y ↦ inr (inl y) ])
    | inr new ↦ inr (inr new)
  ];
  keeps = λ r c inside e. k.keeps r c (cell_in a.grid b.grid r c h.size inside) (h.keeps r c inside e);
  facts = λ r c f. elim f [
    | inl x ↦ (let (i, e) = h.facts r c x in (i, k.keeps r c (cell_in a.grid b.grid r c h.size i) e))
    | inr y ↦ (let (i, e) = k.facts r c y in (cell_back a.grid b.grid r c h.size i, e))
  ];
  only_links = λ t f l. elim (k.only_links t f l) [
    | inl old ↦ (elim (h.only_links t f old) [ inl x ↦ inl x | inr y ↦ inr (inl y) ])
    | inr new ↦ inr (inr new)
  ];
  keeps_links = λ t f l. k.keeps_links t f (h.keeps_links t f l);
  links = λ t f l. elim l [ inl x ↦ k.keeps_links t f (h.links t f x) | inr y ↦ k.links t f y ];
}

-- the same by other words
pub adds_as : (F E G D : ℕ → ℕ → Type 0) (a b : Draft) → ((r c : ℕ) → F r c → G r c) → ((r c : ℕ) → G r c → F r c) → ((t f : ℕ) → E t f → D t f) → ((t f : ℕ) → D t f → E t f) → Adds F E a b → Adds G D a b
adds_as F E G D a b fg gf ed de h = record {
  size = h.size;
  inside = h.inside;
  only = λ r c inside e. elim (h.only r c inside e) [ inl x ↦ inl x | inr y ↦ inr (fg r c y) ];
  keeps = h.keeps;
  facts = λ r c g. h.facts r c (gf r c g);
  only_links = λ t f l. elim (h.only_links t f l) [ inl x ↦ inl x | inr y ↦ inr (ed t f y) ];
  keeps_links = h.keeps_links;
  links = λ t f l. h.links t f (de t f l);
}

-- one number more
pub adds_more : (F E : ℕ → ℕ → ℕ → Type 0) (n : ℕ) (a b d : Draft) → Adds (Below F n) (Below E n) a b → Adds (F n) (E n) b d → Adds (Below F (n + 1)) (Below E (n + 1)) a d
adds_more F E n a b d h k = adds_as (Either (Below F n) (F n)) (Either (Below E n) (E n)) (Below F (n + 1)) (Below E (n + 1)) a d (there F) (back F) (there E) (back E) (adds_both (Below F n) (Below E n) (F n) (E n) a b d h k) where
  there : (G : ℕ → ℕ → ℕ → Type 0) (r c : ℕ) → Either (Below G n) (G n) r c → Below G (n + 1) r c
  there G r c (inl (j, lt, x)) = (j, omega arith, x)
  there G r c (inr x) = (n, omega arith, x)

  back : (G : ℕ → ℕ → ℕ → Type 0) (r c : ℕ) → Below G (n + 1) r c → Either (Below G n) (G n) r c
  back G r c (j, lt, x) = elim (cases_eq j n) [ inl e ↦ inr (subst (λ z. G z r c) e x) | inr d' ↦ inl (j, (omega arith), x) ]

pub still_draft : (F E : ℕ → ℕ → Type 0) (height width : ℕ) (a b : Draft) → IsDraft height width a → Adds F E a b → IsDraft height width b
still_draft F E height width a b d h = record { table = record { height_is = h.size.height ∙ d.table.height_is; width_is = h.size.width ∙ d.table.width_is; grid = h.size.grid }; inside = h.inside }

pub draft_here : {height width : ℕ} (d : Draft) → IsDraft height width d → IsDraft d.grid.height d.grid.width d
draft_here d h = record { table = record { height_is = refl; width_is = refl; grid = h.table.grid }; inside = h.inside }
