-- What is left of a tree without lost elements is a tree of the definition.
use Rattle.std.proofs.Common.{◌≡◌, ◌⊎◌, inl, inr, ℕ, zero, suc, ◌<◌, ◌==◌, ◌&&◌, ◌||◌, not, Bool, true, false, cond, List, [], ◌∷◌, ◌++◌, map, length, Option, Some, slice_get, refl, ap, sym, ◌∙◌, subst, true≢false}
use Rattle.std.proofs.lemmas.Bool.{cases_Bool}
use Rattle.std.proofs.lemmas.List.{length-map}
use Rattle.psg_terms.specs.Relations.{IsIn, first, later}
use Rattle.psg_terms.specs.Words.{IsFreeWord}
use Rattle.psg_terms.proofs.Lists.{eqb-refl}
use Rattle.psg_grammar.specs.declared.types.Kind.{Kind}
use Rattle.psg_grammar.specs.declared.types.Kind.TheVariants as kinds
use Rattle.psg_grammar.specs.declared.types.Item.{Item}
use Rattle.psg_grammar.specs.declared.types.Item.TheVariants as items
use Rattle.psg_grammar.specs.declared.types.ListKind.{ListKind}
use Rattle.psg_grammar.specs.declared.types.Operator.{Operator}
use Rattle.psg_grammar.specs.declared.types.Definition.{Definition}
use Rattle.psg_grammar.specs.Declaring.{HasHoles}
use Rattle.psg_grammar.specs.Fragments.{Fragment, hole, ending, cell, operator, with_child, with_name, with_number, with_text, anything, observed}
use Rattle.psg_grammar.specs.Lookups.{is_part, part_items}
use Rattle.psg_grammar.specs.Paths.{ended}
use Rattle.psg_grammar.specs.Sound.{IsSound}
use Rattle.psg_grammar.specs.WellFormed.{Fits, IsListEnd, IsName, IsPlain, IsUnobserved, WellFormed, fixed_words}
use Rattle.psg_stop.specs.Accepted.{CanEnd, HasQuietSlots}
use Rattle.psg_places.specs.Places.{declares}
use Rattle.psg_places.proofs.SpaceLaws.{quiet as quiet_phylum}
use Rattle.psg_recover.specs.Grammars.{plain_list, plain_phylum, quiet, quiet_item, quiet_operator}
use Rattle.psg_recover.specs.Leaving.{AreStandIns, LeavesTrees}
use Rattle.psg_recover.specs.Lost.{is_lost, left_out}
use Rattle.psg_recover.specs.Recovery.{all_go_on, may_stand}
use Rattle.psg_known.proofs.KnownLaws.{holes_declare_not}
use Rattle.psg_recover.proofs.QuietItems.{map_back, map_uncons, slot_back}
use Rattle.psg_recover.proofs.QuietSound.{quiet_words}
use Rattle.psg_recover.proofs.QuietYields.{no_declares, number_back, text_back}

-- ---- items

part_same : (i : Item) → is_part (quiet_item i) ≡ is_part i
part_same (items.Word w) = refl
part_same (items.Slot k) = refl
part_same (items.Refers s) = refl
part_same (items.Declares s) = refl
part_same items.Number = refl
part_same items.Text = refl
part_same items.Space = refl
part_same items.Tight = refl
part_same items.Line = refl
part_same items.In = refl
part_same items.Out = refl

map_cond : (b : Bool) (i : Item) (is : List Item) → cond b (quiet_item i ∷ map quiet_item is) (map quiet_item is) ≡ map quiet_item (cond b (i ∷ is) is)
map_cond true i is = refl
map_cond false i is = refl

parts_quiet : (is : List Item) → part_items (map quiet_item is) ≡ map quiet_item (part_items is)
parts_quiet [] = refl
parts_quiet (i ∷ is) =
    ap (λ b. cond b (quiet_item i ∷ part_items (map quiet_item is)) (part_items (map quiet_item is))) (part_same i)
    ∙ ap (λ l. cond (is_part i) (quiet_item i ∷ l) l) (parts_quiet is)
    ∙ map_cond (is_part i) i (part_items is)

in_part : (x i : Item) (b : Bool) (is js : List Item) → (IsIn x js → IsIn x is) → IsIn x (cond b (i ∷ js) js) → IsIn x (i ∷ is)
in_part x i true is js under first = first
in_part x i true is js under (later h) = later (under h)
in_part x i false is js under h = later (under h)

in_parts : (x : Item) (is : List Item) → IsIn x (part_items is) → IsIn x is
in_parts x [] h = elim h [ ]
in_parts x (i ∷ is) h = in_part x i (is_part i) is (part_items is) (in_parts x is) h

pub in_split : (x : Item) (is : List Item) → IsIn x is → (front : List Item) × (rest : List Item) × (is ≡ front ++ x ∷ rest)
in_split x (i ∷ is) first = ([], is, refl)
in_split x (i ∷ is) (later h) = let (front, rest, e) = in_split x is h in (i ∷ front, rest, ap (λ l. i ∷ l) e)
in_split x [] h = elim h [ ]

-- ---- lists that go on

not_other : (b : Bool) → (not b || false) ≡ true → b ≡ false
not_other true e = absurd (true≢false (sym e))
not_other false e = refl

stands_by : (a b : Bool) → a ≡ true → (not a || b) ≡ true → b ≡ true
stands_by true b e h = h
stands_by false b e h = absurd (true≢false (sym e))

both_first : (a b : Bool) → (a && b) ≡ true → a ≡ true
both_first true b e = refl
both_first false b e = e

both_second : (a b : Bool) → (a && b) ≡ true → b ≡ true
both_second true b e = e
both_second false b e = absurd (true≢false (sym e))

goes_on_at : (p : ℕ) (ls : List ListKind) (n : ℕ) (l : ListKind) → all_go_on p ls ≡ true → slice_get ls n ≡ Some l → l.element ≡ p → l.unfinished ≡ true
goes_on_at p [] n l all at e = absurd (cc)
goes_on_at p (k ∷ ls) zero l all at e =
    let same : k ≡ l = cc in
    let own : (not (l.element == p) || l.unfinished) ≡ true =
    ap (λ (x : ListKind). not (x.element == p) || x.unfinished) (sym same) ∙ both_first (not (k.element == p) || k.unfinished) (all_go_on p ls) all in
    let own_element : (l.element == p) ≡ true = ap (λ n. l.element == n) (sym e) ∙ eqb-refl l.element in
    stands_by (l.element == p) l.unfinished own_element own
goes_on_at p (k ∷ ls) (suc n) l all at e = goes_on_at p ls n l (both_second (not (k.element == p) || k.unfinished) (all_go_on p ls) all) at e

-- ---- no node is observed

plain_ended : (f : Fragment) → IsPlain f → IsPlain (ended true f)
plain_ended (hole p) h = tt
plain_ended (ending l u) h = tt
plain_ended (cell l e r) h = (h.0, plain_ended r h.1)
plain_ended (operator o) h = tt
plain_ended (with_child f t) h = h
plain_ended (with_name f x) h = h
plain_ended (with_number f x) h = h
plain_ended (with_text f x) h = h
plain_ended anything h = tt
plain_ended (observed f) h = h

plain_if : (b : Bool) (l : ℕ) (e r : Fragment) → IsPlain e → IsPlain r → IsPlain (cond b (ended true r) (cell l e r))
plain_if true l e r h k = plain_ended r k
plain_if false l e r h k = (h, k)

plain_seen : (f : Fragment) → IsPlain f → IsUnobserved f
plain_seen (hole p) h = tt
plain_seen (ending l u) h = tt
plain_seen (cell l e r) h = tt
plain_seen (operator o) h = tt
plain_seen (with_child f t) h = tt
plain_seen (with_name f x) h = tt
plain_seen (with_number f x) h = tt
plain_seen (with_text f x) h = tt
plain_seen anything h = tt
plain_seen (observed f) h = h

module _ (def : Definition) where
  abbrev Q : Definition
  Q = quiet def

  plain_left : (f : Fragment) → IsPlain f → IsPlain (left_out def f)
  plain_left (hole p) h = tt
  plain_left (ending l u) h = tt
  plain_left (cell l e r) h = plain_if (is_lost def e) l (left_out def e) (left_out def r) (plain_left e h.0) (plain_left r h.1)
  plain_left (operator o) h = tt
  plain_left (with_child f t) h = (plain_left f h.0, plain_left t h.1)
  plain_left (with_name f x) h = plain_left f h
  plain_left (with_number f x) h = plain_left f h
  plain_left (with_text f x) h = plain_left f h
  plain_left anything h = tt
  plain_left (observed f) h = absurd h

  -- a list of a kind that may be unfinished, ended so
  ended_fits : (f : Fragment) (l : ℕ) (k : ListKind) → slice_get def.lists l ≡ Some k → k.unfinished ≡ true → IsPlain f → Fits def f [] (kinds.List l)
      → Fits def (ended true f) [] (kinds.List l)
  ended_fits (hole p) l k at free plain h = h
  ended_fits (ending m u) l k at free plain h =
      (h.0, h.1, (k, subst (λ n. slice_get def.lists n ≡ Some k) (list_same l m h.1) at, λ e. free))
    where
      list_same : (m n : ℕ) → kinds.List m ≡ kinds.List n → m ≡ n
      list_same m n e = cc
  ended_fits (cell m e r) l k at free plain (a, b, own, found, element, rest, seen) =
      let same : l ≡ m = list_same l m b in
      let more = ended_fits r m k (subst (λ n. slice_get def.lists n ≡ Some k) same at) free plain.1 rest in
      (a, b, own, found, element, more, plain_seen (ended true r) (plain_ended r plain.1))
    where
      list_same : (m n : ℕ) → kinds.List m ≡ kinds.List n → m ≡ n
      list_same m n e = cc
  ended_fits (operator o) l k at free plain h = h
  ended_fits (with_child f t) l k at free plain h = h
  ended_fits (with_name f x) l k at free plain h = h
  ended_fits (with_number f x) l k at free plain h = h
  ended_fits (with_text f x) l k at free plain h = h
  ended_fits anything l k at free plain h = h
  ended_fits (observed f) l k at free plain h = h

  -- a lost element is a placeholder
  lost_hole : (e : Fragment) → is_lost def e ≡ true → (p : ℕ) × (e ≡ hole p) × (declares def p ≡ true)
  lost_hole (hole p) t = (p, refl, t)
  lost_hole (ending l u) t = absurd (true≢false (sym t))
  lost_hole (cell l e r) t = absurd (true≢false (sym t))
  lost_hole (operator o) t = absurd (true≢false (sym t))
  lost_hole (with_child f u) t = absurd (true≢false (sym t))
  lost_hole (with_name f x) t = absurd (true≢false (sym t))
  lost_hole (with_number f x) t = absurd (true≢false (sym t))
  lost_hole (with_text f x) t = absurd (true≢false (sym t))
  lost_hole anything t = absurd (true≢false (sym t))
  lost_hole (observed f) t = absurd (true≢false (sym t))

  -- what still follows is followed by parts: no placeholder
  begun_kept : (f : Fragment) (i : Item) (more : List Item) (kind : Kind) → Fits Q f (i ∷ more) kind → is_lost def f ≡ false
  begun_kept (hole p) i more kind h = absurd (let e : i ∷ more ≡ [] = h.0 in cc)
  begun_kept (ending l u) i more kind h = refl
  begun_kept (cell l e r) i more kind h = refl
  begun_kept (operator o) i more kind h = refl
  begun_kept (with_child f t) i more kind h = refl
  begun_kept (with_name f x) i more kind h = refl
  begun_kept (with_number f x) i more kind h = refl
  begun_kept (with_text f x) i more kind h = refl
  begun_kept anything i more kind h = refl
  begun_kept (observed f) i more kind h = refl

  module _ (ends : CanEnd def) where
    -- each slot of a phylum among the items has a placeholder
    abbrev AreQuiet : List Item → Type 0
    AreQuiet is = (p : ℕ) → IsIn (items.Slot (kinds.Phylum p)) is → HasHoles def (kinds.Phylum p)

    quiet_items_of : (n : ℕ) (o : Operator) → slice_get def.operators n ≡ Some o → AreQuiet (part_items o.items)
    quiet_items_of n o at p h =
        let (front, rest, e) = in_split (items.Slot (kinds.Phylum p)) o.items (in_parts (items.Slot (kinds.Phylum p)) o.items h) in
        ends.quiet n o front p rest at e

    -- what is left fits the items of the definition
    record Left (f : Fragment) (more : List Item) (kind : Kind) : Type 0 where
      items : List Item
      same : more ≡ map quiet_item items
      slots : AreQuiet items
      fits : Fits def f items kind

    none_quiet : AreQuiet []
    none_quiet p h = elim h [ ]

    tail_quiet : (i : Item) (is : List Item) → AreQuiet (i ∷ is) → AreQuiet is
    tail_quiet i is h p at = h p (later at)

    no_items : (f : Fragment) (more : List Item) (kind : Kind) → more ≡ [] → Fits def f [] kind → Left f more kind
    no_items f more kind e h = record { items = []; same = e; slots = none_quiet; fits = h }

    -- one part more
    record Taken (f : Fragment) (i : Item) (more : List Item) (kind : Kind) : Type 0 where
      item : Item
      rest : List Item
      one : quiet_item item ≡ i
      same : more ≡ map quiet_item rest
      slots : AreQuiet (item ∷ rest)
      fits : Fits def f (item ∷ rest) kind

    taken : (f : Fragment) (i : Item) (more : List Item) (kind : Kind) → Left f (i ∷ more) kind → Taken f i more kind
    taken f i more kind h =
        let (item, rest, split, one, tail) = map_uncons quiet_item h.items i more (sym h.same) in
        record {
          item = item;
          rest = rest;
          one = one;
          same = sym tail;
          slots = subst AreQuiet split h.slots;
          fits = subst (λ is. Fits def f is kind) split h.fits;
        }

    name_same : (x : List ℕ) → IsName Q x → IsName def x
    name_same x h = subst (λ ws. IsFreeWord ws x) (quiet_words def) h

    -- a name is used or declared
    name_item : (f : Fragment) (x : List ℕ) (item : Item) (rest : List Item) (kind : Kind) (s : ℕ) → quiet_item item ≡ items.Refers s → Fits def f (item ∷ rest) kind
        → ((r : ℕ) × Fits def f (items.Refers r ∷ rest) kind) ⊎ ((r : ℕ) × Fits def f (items.Declares r ∷ rest) kind)
    name_item f x (items.Refers r) rest kind s e h = inl (r, h)
    name_item f x (items.Declares r) rest kind s e h = inr (r, h)
    name_item f x (items.Word w) rest kind s e h = absurd (cc)
    name_item f x (items.Slot k) rest kind s e h = absurd (cc)
    name_item f x items.Number rest kind s e h = absurd (cc)
    name_item f x items.Text rest kind s e h = absurd (cc)
    name_item f x items.Space rest kind s e h = absurd (cc)
    name_item f x items.Tight rest kind s e h = absurd (cc)
    name_item f x items.Line rest kind s e h = absurd (cc)
    name_item f x items.In rest kind s e h = absurd (cc)
    name_item f x items.Out rest kind s e h = absurd (cc)

    -- a child in a slot is not lost
    slot_kept : (t : Fragment) (k : Kind) (is : List Item) → AreQuiet is → IsIn (items.Slot k) is → Fits Q t [] k → is_lost def t ≡ false
    slot_kept (hole p) k is quiet at (a, same, c, d) = holes_kept p (quiet p (subst (λ (j : Kind). IsIn (items.Slot j) is) same at))
      where
        holes_kept : (q : ℕ) → HasHoles def (kinds.Phylum q) → declares def q ≡ false
        holes_kept q h = holes_declare_not def q h
    slot_kept (ending l u) k is quiet at h = refl
    slot_kept (cell l e r) k is quiet at h = refl
    slot_kept (operator o) k is quiet at h = refl
    slot_kept (with_child f u) k is quiet at h = refl
    slot_kept (with_name f x) k is quiet at h = refl
    slot_kept (with_number f x) k is quiet at h = refl
    slot_kept (with_text f x) k is quiet at h = refl
    slot_kept anything k is quiet at h = refl
    slot_kept (observed f) k is quiet at h = refl

    phylum_one : (p q : ℕ) → kinds.Phylum p ≡ kinds.Phylum q → p ≡ q
    phylum_one p q e = cc

    -- a list whose element is lost
    cell_lost : (l : ℕ) (e r : Fragment) (kind : Kind) (k : ListKind) → slice_get def.lists l ≡ Some k → kind ≡ kinds.List l → is_lost def e ≡ true → AreStandIns def e
        → Fits Q e [] (kinds.Phylum k.element) → IsPlain r → Fits def r [] (kinds.List l) → Fits def (ended true r) [] kind
    cell_lost l e r kind k at is lost stands fits plain rest =
        let (p, e_is, d) = lost_hole e lost in
        let own : Fits Q (hole p) [] (kinds.Phylum k.element) = subst (λ (x : Fragment). Fits Q x [] (kinds.Phylum k.element)) e_is fits in
        let stand : may_stand def p ≡ true = subst (AreStandIns def) e_is stands in
        let free = goes_on_at p def.lists l k (stands_by (declares def p) (all_go_on p def.lists) d stand) at (phylum_one k.element p own.1) in
        subst (λ (j : Kind). Fits def (ended true r) [] j) (sym is) (ended_fits r l k at free plain rest)

    left : (f : Fragment) (more : List Item) (kind : Kind) → Fits Q f more kind → IsPlain f → AreStandIns def f → is_lost def f ≡ false → Left (left_out def f) more kind
    left (hole p) more kind (none, is, inside, holes) plain stands kept =
        let lt : p < length def.phyla = subst (λ n. p < n) (length-map def.phyla plain_phylum) inside in
        let own : HasHoles def kind = subst (λ (j : Kind). HasHoles def j) (sym is) (quiet_phylum def ends.sound p kept) in
        no_items (hole p) more kind none (refl, is, lt, own)
    left (ending l u) more kind h plain stands kept =
        let (j, there, same) = map_back plain_list def.lists l h.2.0 h.2.1 in
        no_items (ending l u) more kind h.0 (refl, h.1, (j, there, λ e. sym (ap (λ (x : ListKind). x.unfinished) same) ∙ h.2.2 e))
    left (cell l e r) more kind (none, is, k, at, element, rest, seen) plain stands kept =
        let (j, there, same) = map_back plain_list def.lists l k at in
        let own : Fits Q e [] (kinds.Phylum j.element) = subst (λ n. Fits Q e [] (kinds.Phylum n)) (ap (λ (x : ListKind). x.element) same) element in
        let after = left r [] (kinds.List l) rest plain.1 stands.1 (list_kept r l rest) in
        let behind : Fits def (left_out def r) [] (kinds.List l) = subst (λ is. Fits def (left_out def r) is (kinds.List l)) (unmapped after.items after.same) after.fits in
        no_items (cond (is_lost def e) (ended true (left_out def r)) (cell l (left_out def e) (left_out def r))) more kind none
        (cell_fits (is_lost def e) refl j there own behind (λ kept. left e [] (kinds.Phylum j.element) own plain.0 stands.0 kept))
      where
        unmapped : (is : List Item) → [] ≡ map quiet_item is → is ≡ []
        unmapped [] e = refl
        unmapped (i ∷ is) e = absurd (cc)

        list_kept : (g : Fragment) (m : ℕ) → Fits Q g [] (kinds.List m) → is_lost def g ≡ false
        list_kept (hole p) m h = absurd (let e : kinds.List m ≡ kinds.Phylum p = h.1 in cc)
        list_kept (ending n u) m h = refl
        list_kept (cell n x y) m h = refl
        list_kept (operator o) m h = refl
        list_kept (with_child g t) m h = refl
        list_kept (with_name g x) m h = refl
        list_kept (with_number g x) m h = refl
        list_kept (with_text g x) m h = refl
        list_kept anything m h = refl
        list_kept (observed g) m h = refl

        cell_fits : (b : Bool) → is_lost def e ≡ b → (j : ListKind) → slice_get def.lists l ≡ Some j → Fits Q e [] (kinds.Phylum j.element) → Fits def (left_out def r) [] (kinds.List l)
            → (is_lost def e ≡ false → Left (left_out def e) [] (kinds.Phylum j.element)) → Fits def (cond b (ended true (left_out def r)) (cell l (left_out def e) (left_out def r))) [] kind
        cell_fits true lost j there own behind under = cell_lost l e (left_out def r) kind j there is lost stands.0 own (plain_left r plain.1) behind
        cell_fits false kept j there own behind under =
            let h = under kept in
            (refl, is, j, there, subst (λ is. Fits def (left_out def e) is (kinds.Phylum j.element)) (unmapped h.items h.same) h.fits, behind, plain_seen (left_out def r) (plain_left r plain.1))
    left (operator o) more kind (op, at, items_are, is) plain stands kept =
        let (k, there, same) = map_back quiet_operator def.operators o op at in
        record {
          items = part_items k.items;
          same = items_are ∙ ap (λ (x : Operator). part_items x.items) same ∙ parts_quiet k.items;
          slots = quiet_items_of o k there;
          fits = (k, there, refl, is ∙ ap (λ (x : Operator). kinds.Phylum x.phylum) same);
        }
    left (with_child f t) more kind (k, node, child) plain stands kept =
        let h = taken (left_out def f) (items.Slot k) more kind (left f (items.Slot k ∷ more) kind node plain.0 stands.0 (begun_kept f (items.Slot k) more kind node)) in
        let slot : h.item ≡ items.Slot k = slot_back h.item k h.one in
        let quiet : AreQuiet (items.Slot k ∷ h.rest) = subst (λ (i : Item). AreQuiet (i ∷ h.rest)) slot h.slots in
        let c = left t [] k child plain.1 stands.1 (slot_kept t k (items.Slot k ∷ h.rest) quiet first child) in
        record {
          items = h.rest;
          same = h.same;
          slots = tail_quiet h.item h.rest h.slots;
          fits = (k, subst (λ (i : Item). Fits def (left_out def f) (i ∷ h.rest) kind) slot h.fits, subst (λ is. Fits def (left_out def t) is k) (unmapped c.items c.same) c.fits);
        }
      where
        unmapped : (is : List Item) → [] ≡ map quiet_item is → is ≡ []
        unmapped [] e = refl
        unmapped (i ∷ is) e = absurd (cc)
    left (with_name f x) more kind (inl (s, node), name) plain stands kept =
        let h = taken (left_out def f) (items.Refers s) more kind (left f (items.Refers s ∷ more) kind node plain stands (begun_kept f (items.Refers s) more kind node)) in
        record { items = h.rest; same = h.same; slots = tail_quiet h.item h.rest h.slots; fits = (name_item (left_out def f) x h.item h.rest kind s h.one h.fits, name_same x name) }
    left (with_name f x) more kind (inr (s, node), name) plain stands kept =
        let h = taken (left_out def f) (items.Declares s) more kind (left f (items.Declares s ∷ more) kind node plain stands (begun_kept f (items.Declares s) more kind node)) in
        absurd (no_declares def h.item s h.one)
    left (with_number f x) more kind (node, small) plain stands kept =
        let h = taken (left_out def f) items.Number more kind (left f (items.Number ∷ more) kind node plain stands (begun_kept f items.Number more kind node)) in
        record { items = h.rest; same = h.same; slots = tail_quiet h.item h.rest h.slots; fits = (subst (λ (i : Item). Fits def (left_out def f) (i ∷ h.rest) kind) (number_back def h.item h.one) h.fits, small) }
    left (with_text f x) more kind (node, text) plain stands kept =
        let h = taken (left_out def f) items.Text more kind (left f (items.Text ∷ more) kind node plain stands (begun_kept f items.Text more kind node)) in
        record { items = h.rest; same = h.same; slots = tail_quiet h.item h.rest h.slots; fits = (subst (λ (i : Item). Fits def (left_out def f) (i ∷ h.rest) kind) (text_back def h.item h.one) h.fits, text) }
    left anything more kind h plain stands kept = absurd h
    left (observed f) more kind h plain stands kept = absurd plain

    pub leaves_trees : LeavesTrees def
    leaves_trees kind whole (fits, plain) stands kept =
        let h = left whole [] kind fits plain stands kept in
        (subst (λ is. Fits def (left_out def whole) is kind) (unmapped h.items h.same) h.fits, plain_left whole plain)
      where
        unmapped : (is : List Item) → [] ≡ map quiet_item is → is ≡ []
        unmapped [] e = refl
        unmapped (i ∷ is) e = absurd (cc)
