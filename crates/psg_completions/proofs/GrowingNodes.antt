-- Trees in places, cells, children and names of what grows.
use Rattle.std.proofs.Common.{◌≡◌, inl, inr, ℕ, ◌+◌, ◌≤◌, Bool, true, false, cond, List, [], ◌∷◌, ◌++◌, slice_get, bytes_eq, Some, refl, ap, ap₂, sym, ◌∙◌, subst, true≢false, arith}
use Rattle.std.specs.Option.{option_and_then}
use Rattle.std.proofs.lemmas.Bool.{cases_Bool}
use Rattle.psg_terms.proofs.DeclareLaws.{bytes_eq-same}
use Rattle.psg_terms.specs.Terms.{Term}
use Rattle.psg_terms.specs.Signature.{HasSort}
use Rattle.psg_terms.specs.Instances.{IsGround}
use Rattle.psg_terms.specs.Names.{is_among}
use Rattle.psg_grammar.specs.declared.types.Kind.{Kind}
use Rattle.psg_grammar.specs.declared.types.Item.{Item}
use Rattle.psg_grammar.specs.declared.types.ListKind.{ListKind}
use Rattle.psg_grammar.specs.declared.types.Definition.{Definition}
use Rattle.psg_grammar.specs.Fragments.{Fragment, ending, cell, with_child, with_name}
use Rattle.psg_grammar.specs.Keys.{Key, space_of, name_in}
use Rattle.psg_grammar.specs.Lookups.{is_scope, operator_at, next_item, is_declares, items_of, key_of, key_at}
use Rattle.psg_grammar.specs.Declaring.{is_declaring}
use Rattle.psg_grammar.specs.Regions.{declared_inside, declared_in}
use Rattle.psg_grammar.specs.WellFormed.{Fits, IsComplete, IsPlain, IsUnobserved}
use Rattle.psg_grammar.specs.Legal.{Entities, AreEntities, Within, AgreeOutside, Legal}
use Rattle.psg_grammar.specs.Open.{IsOfCellRow}
use Rattle.psg_grammar.proofs.MixedEntities.{mixed}
use Rattle.psg_completions.proofs.Tops.{list_no_scope, next_is}
use Rattle.psg_completions.proofs.LegalMore.{legal_more}
use Rattle.psg_completions.proofs.Counting.{AllAre, tally_append, image, own_cond, Renaming}
use Rattle.psg_completions.specs.Counts.{one_if, count}
use Rattle.psg_completions.proofs.Growth.{adds, Found, Supply, Kept, CanGrow, own_declared, Grown, Node, Child, unobserved, SameTop, IsPlace, Supplied}
use Rattle.psg_completions.proofs.GrowthCounts.{kept_more, not_mine, add_declares, add_once, both}
use Rattle.psg_grammar.specs.declared.types.Kind.TheVariants as kinds
use Rattle.psg_grammar.specs.declared.types.Item.TheVariants as items

module _ (def : Definition) (names : Renaming) (Allowed : Type 0) (stock : Supplied def names Allowed) where
  -- a tree in a place among the last of a list
  pub place_node : (f : Fragment) (g : Entities) (l : ℕ) (v : Term) (x : List Term) (avoid : List Key)
      → IsPlace f ≡ true → declared_inside def f ≡ [] → (found : Found def (kinds.List l) v avoid)
      → Grown def names f found.tree → Node def names Allowed f g [] (kinds.List l) [] v x x avoid []
  place_node f g l v x avoid place none found grown = record {
    tree = found.tree;
    grown = grown;
    fits = found.fits;
    complete = found.complete;
    plain = λ a. found.plain;
    free = λ u. unobserved found.tree found.plain;
    same = λ e. absurd (true≢false (sym place ∙ e));
    new = found.new;
    apart = found.apart;
    given = found.given;
    entities = found.entities;
    below = found.below;
    declares = λ m e. let a : count m (declared_inside def found.tree) ≡ 0 =
        ap (count m) (sym (plain found)) ∙ found.declares m e in let b : image names m (declared_inside def f) ≡ 0 =
        ap (image names m) none in omega (arith, a, b);
    once = λ m e. subst (λ k. k ≤ 1) (ap (count m) (plain found)) (found.once m);
    legal = λ h eh li same. let i = found.legal h eh same in
        let inner : i.inner ≡ h =
        subst (λ b. Within b (AgreeOutside (declared_inside def found.tree)) h i.inner)
        (list_no_scope def found.tree l found.fits) i.agree in
        legal_more def found.tree h [] v [] [] x (subst (λ k. Legal def k found.tree [] v [] []) inner i.legal);
  } where
    plain : (found : Found def (kinds.List l) v avoid) → declared_in def found.tree ≡ declared_inside def found.tree
    plain found = ap (λ b. cond b [] (declared_inside def found.tree)) (list_no_scope def found.tree l found.fits)

  -- a tree in the place of a child
  pub place_child : (f : Fragment) (g : Entities) (kind : Kind) (v : Term) (x : List Term) (avoid : List Key)
      → declared_inside def f ≡ [] → is_scope def f ≡ false → (found : Found def kind v avoid)
      → Grown def names f found.tree → Child def names Allowed f g kind v x x avoid []
  place_child f g kind v x avoid none noscope found grown = record {
    tree = found.tree;
    grown = grown;
    fits = found.fits;
    complete = found.complete;
    plain = λ a. found.plain;
    new = found.new;
    apart = found.apart;
    given = found.given;
    entities = found.entities;
    below = found.below;
    separate = found.separate;
    declares = λ m e.
        let a : count m (adds def found.tree) ≡ 0 = found.declares m e in
        let b : image names m (adds def f) ≡ 0 = ap (λ b. image names m (cond b [] (declared_inside def f))) noscope
        ∙ ap (image names m) none in
        omega (arith, a, b);
    once = λ m e. found.once m;
    legal = λ h eh li same. let i = found.legal h eh same in
        record {
          inner = i.inner;
          entities = i.entities;
          agree = i.agree;
          legal = legal_more def found.tree i.inner [] v [] [] x i.legal;
        };
  }

  -- the end of an unfinished list: a tree for its value, and in front of it an element for each name to be declared
  pub grow_end : (l : ℕ) (kind : ListKind) (v : Term) (x : List Term) (g : Entities) → Allowed
      → slice_get def.lists l ≡ Some kind → kind.unfinished ≡ true → Supply def (kinds.List l) v → IsGround v
      → HasSort def.signature v kind.sort.0 → AreEntities def g
      → (extra avoid : List Key) → Kept names avoid → AllAre names.mine extra
      → AllAre (λ k. is_declaring def (space_of k) (kinds.List l)) extra
      → Node def names Allowed (ending l true) g [] (kinds.List l) [] v x x avoid extra
  grow_end l kind v x g al list un sup gv sv eg [] avoid kept am room = let found = sup.find avoid in
      place_node (ending l true) g l v x avoid refl refl found ((found.fits, found.plain), found.complete)
  grow_end l kind v x g al list un sup gv sv eg (n ∷ ns) avoid kept (mn, am) (d, ds) =
      let el = stock.declare al l kind list un g eg n mn d avoid kept in
      let t =
      grow_end l kind v x g al list un sup gv sv eg ns (avoid ++ el.new) (kept_more names avoid el.new kept) am ds
      in
      let b = both def avoid el.new t.new el.given t.given el.entities t.entities el.apart t.apart in
      let plain : adds def el.tree ≡ declared_inside def el.tree =
      ap (λ b. cond b [] (declared_inside def el.tree)) el.scope in
      let da : (m : Key) → is_among el.new m ≡ false
      → count m (adds def el.tree) ≡ image names m [] + count m (n ∷ []) =
      λ m e. (let a : count m (adds def el.tree) ≡ count m (declared_inside def el.tree) = ap (count m) plain in
      let c : count m (declared_inside def el.tree) ≡ count m (n ∷ []) = el.declares m e in omega (arith, a, c)) in
      let oa : (m : Key) → is_among el.new m ≡ true
      → count m (adds def el.tree) ≤ 1 =
      λ m e. (let a : count m (adds def el.tree) ≡ count m (declared_inside def el.tree) = ap (count m) plain in
      let c : count m (declared_inside def el.tree) ≤ 1 = el.once m e in omega (arith, a, c)) in
      let same_kind : el.kind ≡ kind = (let q : Some el.kind ≡ Some kind = sym el.list ∙ list in cc) in
      let fits : Fits def (cell l el.tree t.tree) [] (kinds.List l) =
      (refl, refl, el.kind, el.list, el.fits, t.fits, t.free tt) in
      let complete : IsComplete (cell l el.tree t.tree) = (el.complete, t.complete) in
      let t_plain : IsPlain t.tree = t.grown.0.1 in
      record {
        tree = cell l el.tree t.tree;
        grown = ((fits, (el.plain, t_plain)), complete);
        fits = fits;
        complete = complete;
        plain = λ a. (el.plain, t_plain);
        free = λ u. tt;
        same = λ e. absurd (true≢false e);
        new = el.new ++ t.new;
        apart = b.apart;
        given = mixed el.new el.given t.given;
        entities = b.entities;
        below = (el.below, (λ e. absurd (true≢false (sym e ∙ el.scope))), t.below);
        declares =
            add_declares names avoid el.new t.new (adds def el.tree) (declared_inside def t.tree) [] [] (n ∷ []) ns
            (n ∷ ns) da t.declares (λ m. omega arith);
        once =
            add_once names avoid el.new t.new (adds def el.tree) (declared_inside def t.tree) [] [] (n ∷ []) ns kept
            (mn, tt) am tt tt el.apart t.apart da t.declares oa t.once;
        legal = λ h eh li same.
            let (r, row) =
            el.keeps v gv (subst (λ (k : ListKind). HasSort def.signature v k.sort.0) (sym same_kind) sv) in
            let he = el.legal h eh (b.first h same) (li n mn) in
            let within : Within (is_scope def el.tree) (AgreeOutside (declared_inside def el.tree)) h h =
            subst (λ b. Within b (AgreeOutside (declared_inside def el.tree)) h h) (sym el.scope) refl in (
              refl,
              row.kind,
              row.row,
              r,
              el.value,
              v,
              x,
              h,
              row.list,
              row.chosen,
              row.value,
              eh,
              within,
              legal_more def el.tree h [] el.value [] [] x he,
              t.legal h eh li (b.second h same),
            );
      }

  -- an element and the list behind it
  pub cell_with : (l : ℕ) (kind : ListKind) (e r : Fragment) (g inner : Entities) (c : ℕ) (v first others : Term)
      (before mid after : List Term) (avoid extra xe xr : List Key)
      → slice_get def.lists l ≡ Some kind → IsOfCellRow def l c v first others → CanGrow def names e
      → CanGrow def names r → IsUnobserved r → Kept names avoid → AllAre names.mine xe → AllAre names.mine xr
      → ((m : Key) → count m xe + count m xr ≡ count m extra)
      → (ce : Child def names Allowed e g (kinds.Phylum kind.element) first before mid avoid xe)
      → Node def names Allowed r g [] (kinds.List l) [] others mid after (avoid ++ ce.new) xr
      → Node def names Allowed (cell l e r) g [] (kinds.List l) [] v before after avoid extra
  cell_with l kind e r g inner c v first others before mid after avoid extra xe xr list row ne nr free kept ae ar sum
      ce t =
      let b = both def avoid ce.new t.new ce.given t.given ce.entities t.entities ce.apart t.apart in
      let oe = own_cond names (is_scope def e) (declared_inside def e) (own_declared def names e ne) in
      record {
        tree = cell l ce.tree t.tree;
        grown = (ce.tree, t.tree, refl, ce.grown, t.grown);
        fits = (refl, refl, kind, list, ce.fits, t.fits, t.free free);
        complete = (ce.complete, t.complete);
        plain = λ a. (ce.plain a, t.plain a);
        free = λ u. tt;
        same = λ e. (refl, refl);
        new = ce.new ++ t.new;
        apart = b.apart;
        given = mixed ce.new ce.given t.given;
        entities = b.entities;
        below = (ce.below, ce.separate, t.below);
        declares =
            add_declares names avoid ce.new t.new (adds def ce.tree) (declared_inside def t.tree) (adds def e)
            (declared_inside def r) xe xr extra ce.declares t.declares sum;
        once =
            add_once names avoid ce.new t.new (adds def ce.tree) (declared_inside def t.tree) (adds def e)
            (declared_inside def r) xe xr kept ae ar oe (own_declared def names r nr) ce.apart t.apart ce.declares
            t.declares ce.once t.once;
        legal = λ h eh li same.
            let i = ce.legal h eh li (b.first h same) in (
              refl,
              row.kind,
              row.row,
              c,
              first,
              others,
              mid,
              i.inner,
              row.list,
              row.chosen,
              row.value,
              i.entities,
              i.agree,
              i.legal,
              t.legal h eh li (b.second h same),
            );
      }

  -- a node with one more child
  pub child_with : (f t : Fragment) (g : Entities) (k : Kind) (more : List Item) (kind : Kind) (columns : List Term)
      (v u : Term) (before mid after : List Term) (avoid extra xf xt : List Key)
      → IsPlace f ≡ false → CanGrow def names f → CanGrow def names t → Kept names avoid → AllAre names.mine xf
      → AllAre names.mine xt → ((m : Key) → count m xf + count m xt ≡ count m extra)
      → (n : Node def names Allowed f g (items.Slot k ∷ more) kind (u ∷ columns) v before mid avoid xf)
      → Child def names Allowed t g k u mid after (avoid ++ n.new) xt
      → Node def names Allowed (with_child f t) g more kind columns v before after avoid extra
  child_with f t g k more kind columns v u before mid after avoid extra xf xt place nf nt kept af at sum n c =
      let b = both def avoid n.new c.new n.given c.given n.entities c.entities n.apart c.apart in
      let ot = own_cond names (is_scope def t) (declared_inside def t) (own_declared def names t nt) in
      let (top, parts) = n.same place in
      record {
        tree = with_child n.tree c.tree;
        grown = (n.tree, c.tree, refl, n.grown, c.grown);
        fits = (k, n.fits, c.fits);
        complete = (n.complete, c.complete);
        plain = λ a. (n.plain a, c.plain a);
        free = λ u. tt;
        same = λ e. (top, ap (λ i. i + 1) parts);
        new = n.new ++ c.new;
        apart = b.apart;
        given = mixed n.new n.given c.given;
        entities = b.entities;
        below = (n.below, c.below, c.separate);
        declares =
            add_declares names avoid n.new c.new (declared_inside def n.tree) (adds def c.tree) (declared_inside def f)
            (adds def t) xf xt extra n.declares c.declares sum;
        once =
            add_once names avoid n.new c.new (declared_inside def n.tree) (adds def c.tree) (declared_inside def f)
            (adds def t) xf xt kept af at (own_declared def names f nf) ot n.apart c.apart n.declares c.declares n.once
            c.once;
        legal = λ h eh li same.
            let i = c.legal h eh li (b.second h same) in
            (u, mid, i.inner, n.legal h eh li (b.first h same), i.entities, i.agree, i.legal);
      }

  pub next_same : (f t : Fragment) → SameTop f t → next_item def t ≡ next_item def f
  next_same f t (a, b) = ap₂ (λ o i. slice_get (items_of (option_and_then (operator_at def) o)) i) a b

  -- a node with one more name
  pub name_with : (f : Fragment) (x : Key) (g : Entities) (sp : ℕ) (i : Item) (more : List Item) (kind : Kind)
      (columns : List Term) (v : Term) (before after : List Term) (avoid extra : List Key)
      → ((y : Key) → key_of (Some i) y ≡ sp ∷ y)
      → ((t : Fragment) → Fits def t (i ∷ more) kind
      → Fits def (with_name t (name_in (names.to (key_at def f x)))) more kind)
      → IsPlace f ≡ false → CanGrow def names (with_name f x) → Kept names avoid
      → Node def names Allowed f g (i ∷ more) kind (g (key_at def f x) ∷ columns) v before after avoid extra
      → Node def names Allowed (with_name f x) g more kind columns v before after avoid extra
  name_with f x g sp i more kind columns v before after avoid extra keyed fit place (nf, mx, bx, spelled, is) kept n =
      let (top, parts) = n.same place in
      let next : next_item def n.tree ≡ next_item def f = next_same f n.tree (top, parts) in
      let at : next_item def n.tree ≡ Some i = next_is def n.tree i more kind n.fits in
      let old_key : key_at def f x ≡ sp ∷ x = ap (λ j. key_of j x) (sym next ∙ at) ∙ keyed x in
      let new_key : key_at def n.tree (name_in (names.to (key_at def f x))) ≡ names.to (key_at def f x) =
      ap (λ j. key_of j (name_in (names.to (key_at def f x)))) at ∙ keyed (name_in (names.to (key_at def f x)))
      ∙ ap (λ k. space_of k ∷ name_in (names.to (key_at def f x))) (sym old_key) ∙ sym spelled in
      let whole : declared_inside def (with_name n.tree (name_in (names.to (key_at def f x)))) ≡ declared_inside def
      n.tree ++ cond (is_declares (next_item def f)) (names.to (key_at def f x) ∷ []) [] =
      ap₂ (λ j y. declared_inside def n.tree ++ cond (is_declares j) (y ∷ []) []) next new_key in
      record {
        tree = with_name n.tree (name_in (names.to (key_at def f x)));
        grown = (n.tree, refl, n.grown);
        fits = fit n.tree n.fits;
        complete = n.complete;
        plain = n.plain;
        free = λ u. tt;
        same = λ e. (top, ap (λ i. i + 1) parts);
        new = n.new;
        apart = n.apart;
        given = n.given;
        entities = n.entities;
        below = n.below;
        declares = λ m e.
            let a : count m (declared_inside def (with_name n.tree (name_in (names.to (key_at def f x))))) ≡ count m
            (declared_inside def n.tree ++ cond (is_declares (next_item def f)) (names.to (key_at def f x) ∷ [])
            []) = ap (count m) whole in
            let b : count m (declared_inside def n.tree ++ cond (is_declares (next_item def f))
            (names.to (key_at def f x) ∷ []) []) ≡ count m (declared_inside def n.tree) + count m
            (cond (is_declares (next_item def f)) (names.to (key_at def f x) ∷ []) []) =
            tally_append (λ y. bytes_eq y m) (declared_inside def n.tree)
            (cond (is_declares (next_item def f)) (names.to (key_at def f x) ∷ []) []) in
            let c : image names m (declared_inside def f ++ cond (is_declares (next_item def f)) (key_at def f x ∷ [])
            []) ≡ image names m (declared_inside def f) + image names m
            (cond (is_declares (next_item def f)) (key_at def f x ∷ []) []) =
            tally_append (λ y. bytes_eq (names.to y) m) (declared_inside def f)
            (cond (is_declares (next_item def f)) (key_at def f x ∷ []) []) in
            let d : count m (cond (is_declares (next_item def f)) (names.to (key_at def f x) ∷ []) []) ≡ image names m
            (cond (is_declares (next_item def f)) (key_at def f x ∷ []) []) =
            one m (is_declares (next_item def f)) in
            let z : count m (declared_inside def n.tree) ≡ image names m (declared_inside def f) + count m extra =
            n.declares m e in
            omega (arith, a, b, c, d, z);
        once = λ m e.
            let nm : names.mine m ≡ false = not_mine names avoid m kept (n.apart m e) in
            let a : count m (declared_inside def (with_name n.tree (name_in (names.to (key_at def f x))))) ≡ count m
            (declared_inside def n.tree ++ cond (is_declares (next_item def f)) (names.to (key_at def f x) ∷ [])
            []) = ap (count m) whole in
            let b : count m (declared_inside def n.tree ++ cond (is_declares (next_item def f))
            (names.to (key_at def f x) ∷ []) []) ≡ count m (declared_inside def n.tree) + count m
            (cond (is_declares (next_item def f)) (names.to (key_at def f x) ∷ []) []) =
            tally_append (λ y. bytes_eq y m) (declared_inside def n.tree)
            (cond (is_declares (next_item def f)) (names.to (key_at def f x) ∷ []) []) in
            let d : count m (cond (is_declares (next_item def f)) (names.to (key_at def f x) ∷ []) []) ≡ 0 =
            none m nm (is_declares (next_item def f)) in
            let z : count m (declared_inside def n.tree) ≤ 1 = n.once m e in
            omega (arith, a, b, d, z);
        legal = λ h eh li same.
            let here : g (key_at def f x) ≡ h (key_at def n.tree (name_in (names.to (key_at def f x)))) =
            sym (ap h new_key ∙ li (names.to (key_at def f x)) mx ∙ ap g bx) in
            subst (λ y. Legal def h n.tree (y ∷ columns) v before after) here (n.legal h eh li same);
      } where
        one : (m : Key) (b : Bool) → count m (cond b (names.to (key_at def f x) ∷ []) []) ≡ image names m
            (cond b (key_at def f x ∷ []) [])
        one m true = refl
        one m false = refl

        none : (m : Key) → names.mine m ≡ false → (b : Bool) → count m (cond b (names.to (key_at def f x) ∷ []) []) ≡ 0
        none m nm false = refl
        none m nm true = elim (cases_Bool (bytes_eq (names.to (key_at def f x)) m)) [
          | inl t ↦ absurd (true≢false (sym mx ∙ ap names.mine (bytes_eq-same (names.to (key_at def f x)) m t) ∙ nm))
          | inr y ↦ let c : one_if (bytes_eq (names.to (key_at def f x)) m) ≡ 0 = ap one_if y in omega (arith, c)
        ]
