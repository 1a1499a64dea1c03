-- A judged tree with places becomes a complete legal tree, if each place has a tree for its value.
use Rattle.std.proofs.Common.{◌≡◌, ◌⊎◌, inl, inr, ℕ, ◌+◌, true, false, ◌&&◌, not, List, [], ◌∷◌, ◌++◌, refl, ap, sym, ◌∙◌, subst, true≢false, arith}
use Rattle.std.specs.Option.{option_and_then}
use Rattle.psg_terms.specs.Terms.{Term}
use Rattle.psg_grammar.specs.declared.types.Kind.{Kind}
use Rattle.psg_grammar.specs.declared.types.Item.{Item}
use Rattle.psg_grammar.specs.declared.types.Definition.{Definition}
use Rattle.psg_grammar.specs.Fragments.{Fragment, hole, ending, cell, operator, with_child, with_name, with_number, with_text, anything, observed}
use Rattle.psg_grammar.specs.Keys.{Key, space_of}
use Rattle.psg_grammar.specs.Lookups.{is_scope, scopes, operator_at, key_at}
use Rattle.psg_grammar.specs.Regions.{declared_inside, unfinished_inside, DistinctBelow, AreDistinct}
use Rattle.psg_grammar.specs.WellFormed.{Fits}
use Rattle.psg_grammar.specs.Legal.{Entities, AreEntities}
use Rattle.psg_grammar.specs.Open.{Choice, Holds, Agrees}
use Rattle.psg_grammar.specs.Placed.{FitsPlaces}
use Rattle.psg_completions.proofs.NameLaws.{only}
use Rattle.psg_completions.proofs.Tops.{list_no_scope}
use Rattle.psg_completions.proofs.Counting.{none_are, all_only, all_kept, all_rest, count_split, Renaming}
use Rattle.psg_completions.specs.Counts.{count}
use Rattle.psg_completions.proofs.Growth.{Supply, Supplies, RoomBeside, Kept, CanGrow, Node, Child, Grows, GrowsBeside, IsPlace, Supplied}
use Rattle.psg_completions.proofs.GrowthCounts.{kept_more, no_place, allowed}
use Rattle.psg_completions.proofs.GrowingNodes.{place_node, place_child, grow_end, cell_with, child_with, name_with}
use Rattle.psg_completions.proofs.GrowingScopes.{child_node}
use Rattle.psg_grammar.specs.declared.types.Kind.TheVariants as kinds
use Rattle.psg_grammar.specs.declared.types.Item.TheVariants as items

module _ (def : Definition) (names : Renaming) (Allowed : Type 0) (stock : Supplied def names Allowed) where
  abbrev Inner : Fragment → Kind → Type 0
  Inner f kind = (IsPlace f ≡ false) ⊎ ((l : ℕ) × (kind ≡ kinds.List l))

  abbrev Sup : List Kind → List Term → Type 0
  Sup ks us = (Allowed → ⊥) → Supplies def ks us

  supplies_same : (ks ks' : List Kind) (us us' : List Term) → ks ≡ ks' → us ≡ us' → Sup ks us → Sup ks' us'
  supplies_same ks ks' us us' a b s = subst (λ k. Sup k us') a (subst (λ u. Sup ks u) b s)

  no_room : (t : Fragment) (extra : List Key) → ((s : ℕ) → (not (is_scope def t) && unfinished_inside def s t) ≡ false)
      → RoomBeside def t extra → extra ≡ []
  no_room t extra u h =
      none_are (λ k. not (is_scope def t) && unfinished_inside def (space_of k) t) extra (λ k. u (space_of k)) h

  -- What grows of a judged tree: as a node or the end of a list, and as a child.
  record Step (f : Fragment) (inner : Entities) (more : List Item) (kind : Kind) (columns : List Term) (v : Term)
      (before after : List Term) : Type 0 where
    node : Inner f kind → Grows def names Allowed f inner more kind columns v before after
    child : (g : Entities) → more ≡ [] → columns ≡ [] → Agrees def f g inner
        → AreDistinct (is_scope def f) (declared_inside def f) → GrowsBeside def names Allowed f g kind v before after

  -- a tree that is no place
  solid : (f : Fragment) (inner : Entities) (more : List Item) (kind : Kind) (columns : List Term) (v : Term)
      (before after : List Term) (ks ks' : List Kind) → IsPlace f ≡ false → FitsPlaces def Allowed f more kind ks ks'
      → CanGrow def names f → AreEntities def inner
      → Grows def names Allowed f inner more kind columns v before after → Step f inner more kind columns v before after
  solid f inner more kind columns v before after ks ks' place fits named ei grows = record {
    node = λ i. grows;
    child = λ g nomore none agr distinct.
        child_node def names Allowed stock f g inner kind v before after named distinct ei agr
        (λ s u. allowed def Allowed s f more kind ks ks' fits u)
        (subst (λ m. Grows def names Allowed f inner m kind [] v before after) nomore
        (subst (λ c. Grows def names Allowed f inner more kind c v before after) none grows))
        (λ avoid extra n. ap (λ o. scopes (option_and_then (operator_at def) o)) (n.same place).0);
  }

  -- an observed node
  wrap_node : (f : Fragment) (inner : Entities) (kind : Kind) (columns : List Term) (v : Term)
      (before after : List Term) (avoid extra : List Key) → Allowed
      → Node def names Allowed f inner [] kind columns v before after avoid extra
      → Node def names Allowed (observed f) inner [] kind columns v (v ∷ before) after avoid extra
  wrap_node f inner kind columns v before after avoid extra al n = record {
    tree = observed n.tree;
    grown = (n.tree, refl, n.grown);
    fits = (refl, n.fits);
    complete = n.complete;
    plain = λ a. absurd (a al);
    free = λ u. absurd u;
    same = λ e. n.same e;
    new = n.new;
    apart = n.apart;
    given = n.given;
    entities = n.entities;
    below = n.below;
    declares = n.declares;
    once = n.once;
    legal = λ h eh li same. (before, refl, n.legal h eh li same);
  }

  wrap_child : (f : Fragment) (g : Entities) (kind : Kind) (v : Term) (before after : List Term)
      (avoid extra : List Key) → Allowed → Child def names Allowed f g kind v before after avoid extra
      → Child def names Allowed (observed f) g kind v (v ∷ before) after avoid extra
  wrap_child f g kind v before after avoid extra al n = record {
    tree = observed n.tree;
    grown = (n.tree, refl, n.grown);
    fits = (refl, n.fits);
    complete = n.complete;
    plain = λ a. absurd (a al);
    new = n.new;
    apart = n.apart;
    given = n.given;
    entities = n.entities;
    below = n.below;
    separate = n.separate;
    declares = n.declares;
    once = n.once;
    legal = λ h eh li same. let i = n.legal h eh li same in
        record { inner = i.inner; entities = i.entities; agree = i.agree; legal = (before, refl, i.legal) };
  }

  grow : (f : Fragment) (c : Choice f) (g : Entities) (columns : List Term) (v : Term) (us us' : List Term)
      (more : List Item) (kind : Kind) (ks ks' : List Kind) → FitsPlaces def Allowed f more kind ks ks'
      → CanGrow def names f → DistinctBelow def f
      → AreEntities def g → Sup ks us → Holds def g f c columns v us us'
      → Sup ks' us' × Step f g more kind columns v (stock.seen us) (stock.seen us')
  grow (hole p) c g columns v us us' more kind ks ks' fits named below eg sup (none, same, row) = (
    supplies_same ks ks' us us' fits.3 same sup,
    record {
      node =
          λ i. elim i [
            | inl n ↦ absurd (true≢false n)
            | inr (l, e) ↦ let d : kinds.Phylum p ≡ kinds.List l = sym fits.2
                ∙ e in cc
          ];
      child = λ o nomore nocolumns agr distinct avoid extra kept am room.
          let found = (stock.supply fits.0 (kinds.Phylum p) c v row).find avoid in
          let place =
          place_child def names Allowed stock (hole p) o (kinds.Phylum p) v (stock.seen us) avoid refl refl found
          ((found.fits, found.plain), found.complete) in
          subst (λ z. Child def names Allowed (hole p) o kind v (stock.seen us) z avoid extra) (ap stock.seen same)
          (subst (λ k. Child def names Allowed (hole p) o k v (stock.seen us) (stock.seen us) avoid extra) (sym fits.2)
          (subst (λ x. Child def names Allowed (hole p) o (kinds.Phylum p) v (stock.seen us) (stock.seen us) avoid
          x) (sym (no_room (hole p) extra (λ s. refl) room)) place));
    },
  )
  grow (ending l true) c g columns v us us' more kind ks ks' (al, nomore, iskind, left, (lk, list, un)) named below eg
      sup (none, same, row) =
      let (gv, sv) = stock.sorted al l c lk v list row in
      let grows : Grows def names Allowed (ending l true) g more kind columns v (stock.seen us) (stock.seen us') =
      λ avoid extra kept am room.
      (let n =
      grow_end def names Allowed stock l lk v (stock.seen us) g al list (un refl)
      (stock.supply al (kinds.List l) c v row) gv sv eg extra avoid kept am room in
      subst (λ z. Node def names Allowed (ending l true) g more kind columns v (stock.seen us) z avoid extra)
      (ap stock.seen same)
      (subst (λ k. Node def names Allowed (ending l true) g more k columns v (stock.seen us) (stock.seen us) avoid
      extra) (sym iskind)
      (subst (λ m. Node def names Allowed (ending l true) g m (kinds.List l) columns v (stock.seen us)
      (stock.seen us) avoid extra) (sym nomore)
      (subst (λ m. Node def names Allowed (ending l true) g [] (kinds.List l) m v (stock.seen us) (stock.seen us)
      avoid extra) (sym none) n)))) in (
        supplies_same ks ks' us us' left same sup,
        record {
          node = λ i. grows;
          child = λ o nomore' none' agr distinct.
              child_node def names Allowed stock (ending l true) o g kind v (stock.seen us) (stock.seen us') named
              distinct eg agr (λ s u. al)
              (subst (λ m. Grows def names Allowed (ending l true) g m kind [] v (stock.seen us) (stock.seen us'))
              nomore'
              (subst (λ x. Grows def names Allowed (ending l true) g more kind x v (stock.seen us)
              (stock.seen us')) none' grows))
              (λ avoid extra n. list_no_scope def n.tree l (subst (λ k. Fits def n.tree [] k) iskind n.fits));
        },
      )
  grow (ending l false) c g columns v us us' more kind ks ks' (nomore, iskind, left, end) named below eg sup
      (none, same, row) = (
        supplies_same ks ks' us us' left same sup,
        solid (ending l false) g more kind columns v (stock.seen us) (stock.seen us') ks ks' refl
            (nomore, iskind, left, end) named eg (λ avoid extra kept am room. record {
              tree = ending l false;
              grown = refl;
              fits = (nomore, iskind, end);
              complete = refl;
              plain = λ a. tt;
              free = λ u. tt;
              same = λ e. (refl, refl);
              new = [];
              apart = λ m e. absurd (true≢false (sym e));
              given = g;
              entities = eg;
              below = tt;
              declares = λ m e. let a : extra ≡ [] = none_are (λ k. false) extra (λ k. refl) room in
                  let b : count m extra ≡ 0 = ap (count m) a in omega (arith, b);
              once = λ m e. absurd (true≢false (sym e));
              legal = λ h eh li s. (none, ap stock.seen same, row.kind, row.row, c, row.list, row.chosen, row.value);
            }),
      )
  grow (cell l e r) c g columns v us us' more kind ks ks' (nomore, iskind, mid, lk, list, fe, fr) (ne, nr, free)
      (be, ae, br) eg sup (none, first, others, um, inner, row, ei, agr, he, hr) =
      let (sup2, step_e) = grow e c.1 inner [] first us um [] (kinds.Phylum lk.element) ks mid fe ne be ei sup he in
      let (sup3, step_r) = grow r c.2 g [] others um us' [] (kinds.List l) mid ks' fr nr br eg sup2 hr in
      let grows : Grows def names Allowed (cell l e r) g more kind columns v (stock.seen us) (stock.seen us') =
      λ avoid extra kept am room.
      (let p = λ (k : Key). not (is_scope def e) && unfinished_inside def (space_of k) e in
      let xe = only (λ k. not (is_scope def e) && unfinished_inside def (space_of k) e) extra in
      let xr = only (λ n. not (not (is_scope def e) && unfinished_inside def (space_of n) e)) extra in
      let axe = all_kept (λ k. not (is_scope def e) && unfinished_inside def (space_of k) e) names.mine extra am in
      let axr =
      all_kept (λ n. not (not (is_scope def e) && unfinished_inside def (space_of n) e)) names.mine extra am in
      let ce =
      step_e.child g refl refl agr ae avoid
      (only (λ k. not (is_scope def e) && unfinished_inside def (space_of k) e) extra) kept axe
      (all_only (λ k. not (is_scope def e) && unfinished_inside def (space_of k) e) extra) in
      let t =
      step_r.node (inr (l, refl)) (avoid ++ ce.new)
      (only (λ n. not (not (is_scope def e) && unfinished_inside def (space_of n) e)) extra)
      (kept_more names avoid ce.new kept) axr
      (all_rest (λ k. not (is_scope def e) && unfinished_inside def (space_of k) e)
      (λ k. unfinished_inside def (space_of k) r) extra room) in
      let n =
      cell_with def names Allowed stock l lk e r g inner c.0 v first others (stock.seen us) (stock.seen um)
      (stock.seen us') avoid extra (only (λ k. not (is_scope def e) && unfinished_inside def (space_of k) e) extra)
      (only (λ n. not (not (is_scope def e) && unfinished_inside def (space_of n) e)) extra) list row ne nr free
      kept axe axr
      (λ m. count_split m (λ k. not (is_scope def e) && unfinished_inside def (space_of k) e) extra) ce t in
      subst (λ k. Node def names Allowed (cell l e r) g more k columns v (stock.seen us) (stock.seen us') avoid extra)
      (sym iskind)
      (subst (λ m. Node def names Allowed (cell l e r) g m (kinds.List l) columns v (stock.seen us)
      (stock.seen us') avoid extra) (sym nomore)
      (subst (λ m. Node def names Allowed (cell l e r) g [] (kinds.List l) m v (stock.seen us) (stock.seen us')
      avoid extra) (sym none) n))) in (
        sup3,
        solid (cell l e r) g more kind columns v (stock.seen us) (stock.seen us') ks ks' refl
            (nomore, iskind, mid, lk, list, fe, fr) (ne, nr, free) eg grows,
      )
  grow (operator o) c g columns v us us' more kind ks ks' (left, op, found, parts, iskind) named below eg sup
      (same, row) = (
        supplies_same ks ks' us us' left same sup,
        solid (operator o) g more kind columns v (stock.seen us) (stock.seen us') ks ks' refl
            (left, op, found, parts, iskind) named eg (λ avoid extra kept am room. record {
              tree = operator o;
              grown = refl;
              fits = (op, found, parts, iskind);
              complete = tt;
              plain = λ a. tt;
              free = λ u. tt;
              same = λ e. (refl, refl);
              new = [];
              apart = λ m e. absurd (true≢false (sym e));
              given = g;
              entities = eg;
              below = tt;
              declares = λ m e. let a : extra ≡ [] = none_are (λ k. false) extra (λ k. refl) room in
                  let b : count m extra ≡ 0 = ap (count m) a in omega (arith, b);
              once = λ m e. absurd (true≢false (sym e));
              legal = λ h eh li s. (ap stock.seen same, row.op, row.row, c, row.found, row.chosen, row.value);
            }),
      )
  grow (with_child f t) c g columns v us us' more kind ks ks' (k, mid, ff, ft) (nf, nt) (bf, bt, at) eg sup
      (u, um, inner, hf, ei, agr, ht) =
      let place = no_place def Allowed f (items.Slot k) more kind ks mid ff in
      let (sup2, step_f) = grow f c.0 g (u ∷ columns) v us um (items.Slot k ∷ more) kind ks mid ff nf bf eg sup hf in
      let (sup3, step_t) = grow t c.1 inner [] u um us' [] k mid ks' ft nt bt ei sup2 ht in
      let grows : Grows def names Allowed (with_child f t) g more kind columns v (stock.seen us) (stock.seen us') =
      λ avoid extra kept am room.
      (let axf = all_kept (λ k. unfinished_inside def (space_of k) f) names.mine extra am in
      let axt = all_kept (λ n. not (unfinished_inside def (space_of n) f)) names.mine extra am in
      let n =
      step_f.node (inl place) avoid (only (λ k. unfinished_inside def (space_of k) f) extra) kept axf
      (all_only (λ k. unfinished_inside def (space_of k) f) extra) in
      let ct =
      step_t.child g refl refl agr at (avoid ++ n.new)
      (only (λ n. not (unfinished_inside def (space_of n) f)) extra) (kept_more names avoid n.new kept) axt
      (all_rest (λ k. unfinished_inside def (space_of k) f)
      (λ k. not (is_scope def t) && unfinished_inside def (space_of k) t) extra room) in
      child_with def names Allowed stock f t g k more kind columns v u (stock.seen us) (stock.seen um) (stock.seen us')
      avoid extra (only (λ k. unfinished_inside def (space_of k) f) extra)
      (only (λ n. not (unfinished_inside def (space_of n) f)) extra) place nf nt kept axf axt
      (λ m. count_split m (λ k. unfinished_inside def (space_of k) f) extra) n ct) in (
        sup3,
        solid (with_child f t) g more kind columns v (stock.seen us) (stock.seen us') ks ks' refl (k, mid, ff, ft)
            (nf, nt) eg grows,
      )
  grow (with_name f x) c g columns v us us' more kind ks ks' (inl (sp, ff)) named below eg sup h =
      let place = no_place def Allowed f (items.Refers sp) more kind ks ks' ff in
      let (rest, step) =
      grow f c g (g (key_at def f x) ∷ columns) v us us' (items.Refers sp ∷ more) kind ks ks' ff named.0 below eg
      sup h in (
        rest,
        solid (with_name f x) g more kind columns v (stock.seen us) (stock.seen us') ks ks' refl (inl (sp, ff)) named eg
            (λ avoid extra kept am room. name_with def names Allowed stock f x g sp (items.Refers sp) more kind columns
            v (stock.seen us) (stock.seen us') avoid extra (λ y. refl) (λ t w. (inl (sp, w), named.4)) place named
            kept (step.node (inl place) avoid extra kept am room)),
      )
  grow (with_name f x) c g columns v us us' more kind ks ks' (inr (sp, ff)) named below eg sup h =
      let place = no_place def Allowed f (items.Declares sp) more kind ks ks' ff in
      let (rest, step) =
      grow f c g (g (key_at def f x) ∷ columns) v us us' (items.Declares sp ∷ more) kind ks ks' ff named.0 below eg
      sup h in (
        rest,
        solid (with_name f x) g more kind columns v (stock.seen us) (stock.seen us') ks ks' refl (inr (sp, ff)) named eg
            (λ avoid extra kept am room. name_with def names Allowed stock f x g sp (items.Declares sp) more kind
            columns v (stock.seen us) (stock.seen us') avoid extra (λ y. refl) (λ t w. (inr (sp, w), named.4))
            place named kept (step.node (inl place) avoid extra kept am room)),
      )
  grow (with_number f x) c g columns v us us' more kind ks ks' (ff, small) named below eg sup h =
      let place = no_place def Allowed f items.Number more kind ks ks' ff in
      let (rest, step) = grow f c g columns v us us' (items.Number ∷ more) kind ks ks' ff named below eg sup h in (
        rest,
        solid (with_number f x) g more kind columns v (stock.seen us) (stock.seen us') ks ks' refl (ff, small) named eg
            (λ avoid extra kept am room. let n = step.node (inl place) avoid extra kept am room in record {
              tree = with_number n.tree x;
              grown = (n.tree, refl, n.grown);
              fits = (n.fits, small);
              complete = n.complete;
              plain = n.plain;
              free = λ u. tt;
              same = λ e. ((n.same place).0, ap (λ i. i + 1) (n.same place).1);
              new = n.new;
              apart = n.apart;
              given = n.given;
              entities = n.entities;
              below = n.below;
              declares = n.declares;
              once = n.once;
              legal = n.legal;
            }),
      )
  grow (with_text f x) c g columns v us us' more kind ks ks' (ff, text) named below eg sup h =
      let place = no_place def Allowed f items.Text more kind ks ks' ff in
      let (rest, step) = grow f c g columns v us us' (items.Text ∷ more) kind ks ks' ff named below eg sup h in (
        rest,
        solid (with_text f x) g more kind columns v (stock.seen us) (stock.seen us') ks ks' refl (ff, text) named eg
            (λ avoid extra kept am room. let n = step.node (inl place) avoid extra kept am room in record {
              tree = with_text n.tree x;
              grown = (n.tree, refl, n.grown);
              fits = (n.fits, text);
              complete = n.complete;
              plain = n.plain;
              free = λ u. tt;
              same = λ e. ((n.same place).0, ap (λ i. i + 1) (n.same place).1);
              new = n.new;
              apart = n.apart;
              given = n.given;
              entities = n.entities;
              below = n.below;
              declares = n.declares;
              once = n.once;
              legal = n.legal;
            }),
      )
  grow anything c g columns v us us' more kind ks ks' (noobserved, nomore, left) named below eg sup (none, same) =
      let two = supplies_same ks (kind ∷ ks') us (v ∷ us') left same sup in
      let one = (two noobserved).0 in
      let rest : Sup ks' us' = λ no. (two no).1 in
      let passed : stock.seen us ≡ stock.seen us' = ap stock.seen same ∙ stock.skips noobserved v us' in (
        rest,
        record {
          node = λ i avoid extra kept am room. elim i [
            | inl n ↦ absurd (true≢false n)
            | inr (l, iskind) ↦
                let found = (subst (λ k. Supply def k v) iskind one).find avoid in
                let gone : extra ≡ [] = none_are (λ k. false) extra (λ k. refl) room in
                let n = place_node def names Allowed stock anything g l v (stock.seen us) avoid refl refl found tt in
                subst (λ z. Node def names Allowed anything g more kind columns v (stock.seen us) z avoid extra) passed
                (subst (λ k. Node def names Allowed anything g more k columns v (stock.seen us) (stock.seen us) avoid
                extra) (sym iskind)
                (subst (λ m. Node def names Allowed anything g m (kinds.List l) columns v (stock.seen us)
                (stock.seen us) avoid extra) (sym nomore)
                (subst (λ m. Node def names Allowed anything g [] (kinds.List l) m v (stock.seen us) (stock.seen us)
                avoid extra) (sym none) (subst
                (λ x. Node def names Allowed anything g [] (kinds.List l) [] v (stock.seen us) (stock.seen us)
                avoid x) (sym gone) n))))
          ];
          child = λ o nomore' none' agr distinct avoid extra kept am room.
              let found = one.find avoid in
              subst (λ z. Child def names Allowed anything o kind v (stock.seen us) z avoid extra) passed
              (subst (λ x. Child def names Allowed anything o kind v (stock.seen us) (stock.seen us) avoid x)
              (sym (no_room anything extra (λ s. refl) room))
              (place_child def names Allowed stock anything o kind v (stock.seen us) avoid refl refl found tt));
        },
      )
  grow (observed f) c g columns v us us' more kind ks ks' (al, nomore, ff) named below eg sup (um, same, h) =
      let (rest, step) = grow f c g columns v um us' [] kind ks ks' ff named below eg (λ no. absurd (no al)) h in
      let looked : v ∷ stock.seen um ≡ stock.seen us = sym (ap stock.seen same ∙ stock.looks al v um) in (
        rest,
        record {
          node = λ i avoid extra kept am room.
              subst (λ m. Node def names Allowed (observed f) g m kind columns v (stock.seen us) (stock.seen us') avoid
              extra) (sym nomore)
              (subst (λ z. Node def names Allowed (observed f) g [] kind columns v z (stock.seen us') avoid extra)
              looked (wrap_node f g kind columns v (stock.seen um) (stock.seen us') avoid extra al
              (step.node i avoid extra kept am room)));
          child = λ o no_more none agr distinct avoid extra kept am room.
              subst (λ z. Child def names Allowed (observed f) o kind v z (stock.seen us') avoid extra) looked
              (wrap_child f o kind v (stock.seen um) (stock.seen us') avoid extra al
              (step.child o refl none agr distinct avoid extra kept am room));
        },
      )

  -- a whole tree under the entities outside it
  pub grow_whole : (f : Fragment) (c : Choice f) (g inner : Entities) (v : Term) (us us' : List Term) (kind : Kind)
      (ks ks' : List Kind) → FitsPlaces def Allowed f [] kind ks ks' → CanGrow def names f → DistinctBelow def f
      → AreDistinct (is_scope def f) (declared_inside def f)
      → AreEntities def inner → Agrees def f g inner → Sup ks us → Holds def inner f c [] v us us' → (avoid : List Key)
      → Kept names avoid → Child def names Allowed f g kind v (stock.seen us) (stock.seen us') avoid []
  grow_whole f c g inner v us us' kind ks ks' fits named below distinct ei agr sup h avoid kept =
      (grow f c inner [] v us us' [] kind ks ks' fits named below ei sup h).1.child g refl refl agr distinct avoid []
      kept tt tt
