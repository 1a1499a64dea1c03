-- The sets that grow from facts and links are First, Led and Follow.
use Rattle.std.proofs.Common.{◌≡◌, ◌⊎◌, inl, inr, ℕ, suc, ◌+◌, ◌<◌, ◌≤◌, ◌&&◌, Bool, true, false, List, [], ◌∷◌, ◌++◌, length, map, drop, get_or, Option, Some, None, slice_get, refl, ap, ap₂, sym, ◌∙◌, subst, arith, add-one, true≢false}
use Rattle.std.proofs.lemmas.Option.{slice_get_within, slice_get-get_or}
use Rattle.psg_terms.proofs.Lists.{slice_get-map_some}
use Rattle.psg_terms.specs.Names.{Name, has_twice}
use Rattle.psg_grammar.specs.declared.types.Kind.{Kind}
use Rattle.psg_grammar.specs.declared.types.Kind.TheVariants as kinds
use Rattle.psg_grammar.specs.declared.types.Item.{Item}
use Rattle.psg_grammar.specs.declared.types.Item.TheVariants as items
use Rattle.psg_grammar.specs.declared.types.Operator.{Operator}
use Rattle.psg_grammar.specs.declared.types.Phylum.{Phylum}
use Rattle.psg_grammar.specs.declared.types.ListKind.{ListKind}
use Rattle.psg_grammar.specs.declared.types.Definition.{Definition}
use Rattle.psg_grammar.specs.Declaring.{HasHoles}
use Rattle.psg_class.specs.Terminals.{Terminal, fixed, a_hole, a_more, open_bracket, close_bracket, item_terminal}
use Rattle.psg_class.specs.Places.{solid, is_empty, is_own as is_own_kind, is_own_last}
use Rattle.psg_class.specs.Follow.{Leads, Led, First, first_operator, first_hole, first_bracket, FirstOfList, first_element, first_more, BeginsWith, CanBeEmpty, Inside, Follow, by_rest, by_end, by_led, by_separator, by_list, by_bracket}
use Rattle.psg_class.specs.Numbers.{number_of, phylum_names}
use Rattle.psg_class.specs.Shapes.{parts_of, shape_of}
use Rattle.psg_class.specs.Forms.{is_own}
use Rattle.psg_class.specs.Sources.{IsRows, AreRows, IsKind, IsPartOf, kind_index, first_row, follow_row, led_row, TokenIn, SlotIn, can_end, none_behind, behind, IsSlot, SlotFact, SlotLink, is_end, Parts, AreParts, AllFacts, AllLinks, Grown, at_once, by_link}
use Rattle.psg_class.specs.declared.shape.Part.{Part}
use Rattle.psg_class.specs.declared.shape.Part.TheVariants as parts
use Rattle.psg_class.specs.declared.shape.Shape.{Shape}
use Rattle.psg_class.specs.declared.sources.Rows.{Rows}
use Rattle.psg_class.proofs.WordLaws.{place_distinct}
use Rattle.psg_class.proofs.PartLaws.{Match, Known, match_of, slot_of}
use Rattle.psg_class.proofs.FormLaws.{map_get}
use Rattle.psg_class.proofs.BeginLaws.{kind_small}
use Rattle.psg_class.proofs.SlotLaws.{rest_parts}
use Rattle.psg_class.proofs.LeadLaws.{at_part, at_item, token_part, part_token, slot_part, leads_of, of_leads, led_of, of_led}

pub record Describes (def : Definition) (words : List Name) (a : Parts) : Type 0 where
  pub sizes : AreRows (length def.phyla) (length def.lists) a.rows
  pub shapes : a.shapes ≡ map (shape_of (length def.phyla + 4) words) def.operators
  pub phyla : a.phyla ≡ def.phyla
  pub lists : a.lists ≡ def.lists
  pub holes : (p : ℕ) (b : Bool) → slice_get a.holes p ≡ Some b → ((b ≡ true) → HasHoles def (kinds.Phylum p)) × (HasHoles def (kinds.Phylum p) → b ≡ true)
  pub separators : (l n : ℕ) (k : ListKind) → slice_get a.separators l ≡ Some n → slice_get def.lists l ≡ Some k → number_of def words (fixed k.separator) ≡ Some n
  pub opening : number_of def words open_bracket ≡ Some a.opening
  pub closing : number_of def words close_bracket ≡ Some a.closing
  pub known : (n : ℕ) (o : Operator) → slice_get def.operators n ≡ Some o → Known (length def.phyla + 4) words o.items
  pub distinct : has_twice (phylum_names def) ≡ false

-- ---- rows apart

index_same : (rows : Rows) (k m : Kind) → IsKind rows k → IsKind rows m → kind_index rows.phyla k ≡ kind_index rows.phyla m → k ≡ m
index_same rows (kinds.Phylum p) (kinds.Phylum q) h i e = ap kinds.Phylum e
index_same rows (kinds.Phylum p) (kinds.List l) h i e = absurd (omega (arith, h, e))
index_same rows (kinds.List l) (kinds.Phylum q) h i e = absurd (omega (arith, i, e))
index_same rows (kinds.List l) (kinds.List m) h i e = ap kinds.List (omega (arith, e))

first_not_follow : (rows : Rows) (k m : Kind) → IsRows rows → IsKind rows k → first_row rows k ≡ follow_row rows m → ⊥
first_not_follow rows k m is h e = let a = kind_small rows k is h in omega (arith, a, e)

first_not_led : (rows : Rows) (k : Kind) (p : ℕ) → IsRows rows → IsKind rows k → first_row rows k ≡ led_row rows p → ⊥
first_not_led rows k p is h e = let a = kind_small rows k is h in omega (arith, a, e)

follow_not_led : (rows : Rows) (k : Kind) (p : ℕ) → IsRows rows → IsKind rows k → follow_row rows k ≡ led_row rows p → ⊥
follow_not_led rows k p is h e = let a = kind_small rows k is h in omega (arith, a, e)

-- ---- what begins parts

empty_there : (base : ℕ) (words : List Name) (is : List Item) (ps : List Part) → Match base words is ps → can_end ps ≡ true → CanBeEmpty is
empty_there base words [] ps m e = tt
empty_there base words (i ∷ is) [] m e = absurd m
empty_there base words (i ∷ is) (parts.Token n ∷ ps) m e = absurd (true≢false (sym e))
empty_there base words (i ∷ is) (parts.Slot (kinds.Phylum p) ∷ ps) m e = absurd (true≢false (sym e))
empty_there base words (i ∷ is) (parts.Slot (kinds.List l) ∷ ps) (x, m) e = subst (λ j. CanBeEmpty (j ∷ is)) (sym (slot_of base words i (kinds.List l) x)) (empty_there base words is ps m e)

empty_back : (base : ℕ) (words : List Name) (is : List Item) (ps : List Part) → Match base words is ps → CanBeEmpty is → can_end ps ≡ true
empty_back base words [] [] m e = refl
empty_back base words [] (p ∷ ps) m e = absurd m
empty_back base words (i ∷ is) [] m e = absurd m
empty_back base words (items.Slot (kinds.List l) ∷ is) (p ∷ ps) (x, m) e =
    let same : p ≡ parts.Slot (kinds.List l) = (let y : Some (parts.Slot (kinds.List l)) ≡ Some p = x in cc) in
    subst (λ q. can_end (q ∷ ps) ≡ true) (sym same) (empty_back base words is ps m e)
empty_back base words (items.Slot (kinds.Phylum q) ∷ is) (p ∷ ps) m e = absurd e
empty_back base words (items.Word w ∷ is) (p ∷ ps) m e = absurd e
empty_back base words (items.Refers s ∷ is) (p ∷ ps) m e = absurd e
empty_back base words (items.Declares s ∷ is) (p ∷ ps) m e = absurd e
empty_back base words (items.Number ∷ is) (p ∷ ps) m e = absurd e
empty_back base words (items.Text ∷ is) (p ∷ ps) m e = absurd e
empty_back base words (items.Space ∷ is) (p ∷ ps) m e = absurd e
empty_back base words (items.Tight ∷ is) (p ∷ ps) m e = absurd e
empty_back base words (items.Line ∷ is) (p ∷ ps) m e = absurd e
empty_back base words (items.In ∷ is) (p ∷ ps) m e = absurd e
empty_back base words (items.Out ∷ is) (p ∷ ps) m e = absurd e

same_empty : (base : ℕ) (words : List Name) (is : List Item) (ps : List Part) → Match base words is ps → none_behind ps ≡ is_empty is
same_empty base words [] [] m = refl
same_empty base words [] (p ∷ ps) m = absurd m
same_empty base words (i ∷ is) [] m = absurd m
same_empty base words (i ∷ is) (p ∷ ps) m = refl

same_own : (o : Operator) (k : Kind) → is_own o.phylum (Some (parts.Slot k)) ≡ is_own_kind o k
same_own o (kinds.Phylum p) = refl
same_own o (kinds.List l) = refl

slot_found : (ps : List Part) (k : Kind) → SlotIn ps k → (n : ℕ) × (slice_get ps n ≡ Some (parts.Slot k))
slot_found [] k s = absurd s
slot_found (parts.Token n ∷ ps) k s = absurd s
slot_found (parts.Slot (kinds.Phylum p) ∷ ps) k s = (0, ap (λ z. Some (parts.Slot z)) (sym s))
slot_found (parts.Slot (kinds.List l) ∷ ps) k (inl e) = (0, ap (λ z. Some (parts.Slot z)) (sym e))
slot_found (parts.Slot (kinds.List l) ∷ ps) k (inr s) = let (n, e) = slot_found ps k s in (suc n, e)

module _ (def : Definition) (words : List Name) (a : Parts) (width : ℕ) (d : Describes def words a) (inside : AreParts width a) where
  abbrev pub FirstK : Kind → Terminal → Type 0
  FirstK (kinds.Phylum p) t = First def p t
  FirstK (kinds.List l) t = FirstOfList def l t

  abbrev pub LedK : ℕ → Terminal → Type 0
  LedK p t = (m : ℕ) × Led def p m t

  abbrev pub Found : ℕ → (Terminal → Type 0) → Type 0
  Found c F = (t : Terminal) × (number_of def words t ≡ Some c) × F t

  pub record Means (r c : ℕ) : Type 0 where
    pub firsts : (k : Kind) → IsKind a.rows k → r ≡ first_row a.rows k → Found c (FirstK k)
    pub follows : (k : Kind) → IsKind a.rows k → r ≡ follow_row a.rows k → Found c (Follow def k)
    pub leds : (p : ℕ) → p < a.rows.phyla → r ≡ led_row a.rows p → Found c (LedK p)

  means_first : (k : Kind) → IsKind a.rows k → (r c : ℕ) → r ≡ first_row a.rows k → Found c (FirstK k) → Means r c
  means_first k ik r c e f = record {
    firsts = λ m im e'. subst (λ z. Found c (FirstK z)) (index_same a.rows k m ik im (sym e ∙ e')) f;
    follows = λ m im e'. absurd (first_not_follow a.rows k m inside.rows ik (sym e ∙ e'));
    leds = λ p lt e'. absurd (first_not_led a.rows k p inside.rows ik (sym e ∙ e'));
  }

  means_follow : (k : Kind) → IsKind a.rows k → (r c : ℕ) → r ≡ follow_row a.rows k → Found c (Follow def k) → Means r c
  means_follow k ik r c e f = record {
    firsts = λ m im e'. absurd (first_not_follow a.rows m k inside.rows im (sym e' ∙ e));
    follows = λ m im e'. subst (λ z. Found c (Follow def z)) (index_same a.rows k m ik im (same_tail a.rows.kinds _ _ (sym e ∙ e'))) f;
    leds = λ p lt e'. absurd (follow_not_led a.rows k p inside.rows ik (sym e ∙ e'));
  } where
    same_tail : (n x y : ℕ) → n + x ≡ n + y → x ≡ y
    same_tail n x y h = omega (arith, h)

  means_led : (p : ℕ) → (r c : ℕ) → r ≡ led_row a.rows p → Found c (LedK p) → Means r c
  means_led p r c e f = record {
    firsts = λ m im e'. absurd (first_not_led a.rows m p inside.rows im (sym e' ∙ e));
    follows = λ m im e'. absurd (follow_not_led a.rows m p inside.rows im (sym e' ∙ e));
    leds = λ q lt e'. subst (λ z. Found c (LedK z)) (same_tail a.rows.kinds p q (sym e ∙ e')) f;
  } where
    same_tail : (n x y : ℕ) → n + n + x ≡ n + n + y → x ≡ y
    same_tail n x y h = omega (arith, h)

  token_begins : (is : List Item) (ps : List Part) (c : ℕ) → Match (length def.phyla + 4) words is ps → TokenIn ps c → Found c (BeginsWith def is)
  token_begins is [] c m t = absurd t
  token_begins [] (p ∷ ps) c m t = absurd m
  token_begins (i ∷ is) (parts.Token k ∷ ps) c (x, m) t =
      let (u, e, n) = part_token def words i c (x ∙ ap (λ z. Some (parts.Token z)) (sym t)) in (u, n, begins i u e) where
        begins : (i : Item) (u : Terminal) → item_terminal i ≡ Some u → BeginsWith def (i ∷ is) u
        begins (items.Slot k) u e = absurd (let y : None ≡ Some u = e in cc)
        begins (items.Word w) u e = e
        begins (items.Refers s) u e = e
        begins (items.Declares s) u e = e
        begins items.Number u e = e
        begins items.Text u e = e
        begins items.Space u e = e
        begins items.Tight u e = e
        begins items.Line u e = e
        begins items.In u e = e
        begins items.Out u e = e
  token_begins (i ∷ is) (parts.Slot (kinds.Phylum p) ∷ ps) c m t = absurd t
  token_begins (i ∷ is) (parts.Slot (kinds.List l) ∷ ps) c (x, m) t =
      let (u, n, b) = token_begins is ps c m t in (u, n, subst (λ j. BeginsWith def (j ∷ is) u) (sym (slot_of (length def.phyla + 4) words i (kinds.List l) x)) (inr b))

  slot_begins : (is : List Item) (ps : List Part) (k : Kind) (t : Terminal) → Match (length def.phyla + 4) words is ps → SlotIn ps k → FirstK k t → BeginsWith def is t
  slot_begins is [] k t m s f = absurd s
  slot_begins [] (p ∷ ps) k t m s f = absurd m
  slot_begins (i ∷ is) (parts.Token n ∷ ps) k t m s f = absurd s
  slot_begins (i ∷ is) (parts.Slot (kinds.Phylum p) ∷ ps) k t (x, m) s f = subst (λ j. BeginsWith def (j ∷ is) t) (sym (slot_of (length def.phyla + 4) words i (kinds.Phylum p) x)) (subst (λ z. FirstK z t) s f)
  slot_begins (i ∷ is) (parts.Slot (kinds.List l) ∷ ps) k t (x, m) (inl e) f = subst (λ j. BeginsWith def (j ∷ is) t) (sym (slot_of (length def.phyla + 4) words i (kinds.List l) x)) (inl (subst (λ z. FirstK z t) e f))
  slot_begins (i ∷ is) (parts.Slot (kinds.List l) ∷ ps) k t (x, m) (inr s) f = subst (λ j. BeginsWith def (j ∷ is) t) (sym (slot_of (length def.phyla + 4) words i (kinds.List l) x)) (inr (slot_begins is ps k t m s f))

  -- a slot of a shape as a slot of its operator
  record SlotOf (n : ℕ) (s : Shape) (j : ℕ) (kind : Kind) : Type 0 where
    pub o : Operator
    pub found : slice_get def.operators n ≡ Some o
    pub shape : s ≡ shape_of (length def.phyla + 4) words o
    pub rest : List Item
    pub first : Item
    pub front : List Item
    pub items : solid o.items ≡ first ∷ (front ++ items.Slot kind ∷ rest)
    pub match : Match (length def.phyla + 4) words rest (drop (j + 1) s.parts)
    pub phylum : o.phylum ≡ s.phylum
    pub own : is_end s j ≡ is_own_last o kind rest

  slot_of_shape : (n : ℕ) (s : Shape) (j : ℕ) (kind : Kind) → slice_get a.shapes n ≡ Some s → IsSlot s j kind → SlotOf n s j kind
  slot_of_shape n s j kind at slot =
      let (o, found, e) = map_get (shape_of (length def.phyla + 4) words) def.operators n s (ap (λ l. slice_get l n) (sym d.shapes) ∙ at) in
      let here : slice_get (parts_of (length def.phyla + 4) words o.items) j ≡ Some (parts.Slot kind) = ap (λ (z : Shape). slice_get z.parts j) (sym e) ∙ slot.slot in
      let p = at_part (length def.phyla + 4) words (solid o.items) (parts_of (length def.phyla + 4) words o.items) j (parts.Slot kind) (match_of (length def.phyla + 4) words o (d.known n o found)) here in
      let is_slot : p.item ≡ items.Slot kind = slot_of (length def.phyla + 4) words p.item kind p.part in
      let rest : Match (length def.phyla + 4) words p.behind (drop (j + 1) s.parts) = subst (λ l. Match (length def.phyla + 4) words p.behind (drop (j + 1) l)) (ap (λ (z : Shape). z.parts) (sym e))
      (subst (λ k. Match (length def.phyla + 4) words p.behind (drop k (parts_of (length def.phyla + 4) words o.items))) (sym (add-one j)) p.rest) in
      of o found e p.behind rest p.front p.place (p.items ∙ ap (λ i. p.front ++ i ∷ p.behind) is_slot) where
        own_is : (o : Operator) → s ≡ shape_of (length def.phyla + 4) words o → (rest : List Item) → Match (length def.phyla + 4) words rest (drop (j + 1) s.parts) → is_end s j ≡ is_own_last o kind rest
        own_is o e rest m = ap₂ (λ x y. x && y) (ap (is_own s.phylum) slot.slot ∙ ap (λ (z : Shape). is_own z.phylum (Some (parts.Slot kind))) e ∙ same_own o kind) (same_empty (length def.phyla + 4) words rest (drop (j + 1) s.parts) m)

        of : (o : Operator) → slice_get def.operators n ≡ Some o → s ≡ shape_of (length def.phyla + 4) words o → (rest : List Item) → Match (length def.phyla + 4) words rest (drop (j + 1) s.parts)
            → (front : List Item) → length front ≡ j → solid o.items ≡ front ++ items.Slot kind ∷ rest → SlotOf n s j kind
        of o found e rest m [] len is = absurd (let h = slot.later in omega (arith, len, h))
        of o found e rest m (i ∷ front) len is = record {
          o = o;
          found = found;
          shape = e;
          rest = rest;
          first = i;
          front = front;
          items = is;
          match = m;
          phylum = ap (λ (z : Shape). z.phylum) (sym e);
          own = own_is o e rest m;
        }

  kind_phylum : (p : ℕ) → p < length def.phyla → IsKind a.rows (kinds.Phylum p)
  kind_phylum p h = subst (λ n. p < n) (sym d.sizes.phyla_are) h

  kind_list : (l : ℕ) → l < length def.lists → IsKind a.rows (kinds.List l)
  kind_list l h = let e = d.sizes.phyla_are in let f = d.sizes.kinds_are in omega (arith, h, e, f)

  part_of_shape : (n : ℕ) (s : Shape) → slice_get a.shapes n ≡ Some s → (j : ℕ) (k : Kind) → slice_get s.parts j ≡ Some (parts.Slot k) → IsKind a.rows k
  part_of_shape n s at j k e = (inside.shapes n s at).each j (parts.Slot k) e

  behind_kind : (n : ℕ) (s : Shape) → slice_get a.shapes n ≡ Some s → (j : ℕ) (k : Kind) → SlotIn (behind s j) k → IsKind a.rows k
  behind_kind n s at j k x = let (m, e) = slot_found (behind s j) k x in rest_parts (IsPartOf a.rows width) s.parts (j + 1) (inside.shapes n s at).each m (parts.Slot k) e

  abbrev inside_of : (n : ℕ) (s : Shape) (j : ℕ) (kind : Kind) (o : SlotOf n s j kind) → Inside def n kind o.rest
  inside_of n s j kind o = record { o = o.o; found = o.found; first = o.first; front = o.front; items = o.items }

  hole_number : (p : ℕ) (k : Phylum) → slice_get def.phyla p ≡ Some k → number_of def words (a_hole k.name) ≡ Some (3 + p)
  hole_number p k at = ap (λ o. number_with o) (place_distinct (phylum_names def) k.name p d.distinct (slice_get-map_some (λ (x : Phylum). x.name) def.phyla p k at)) where
    number_with : Option ℕ → Option ℕ
    number_with None = None
    number_with (Some q) = Some (3 + q)

  slot_fact_means : (n : ℕ) (s : Shape) (j r c : ℕ) → slice_get a.shapes n ≡ Some s → SlotFact a.rows s j r c → Means r c
  slot_fact_means n s j r c at f =
      let o = slot_of_shape n s j f.kind at f.slot in
      let (t, num, b) = token_begins o.rest (drop (j + 1) s.parts) c o.match f.token in
      means_follow f.kind (part_of_shape n s at j f.kind f.slot.slot) r c f.row_is (t, num, by_rest n o.rest (inside_of n s j f.kind o) b)

  shape_means : (n : ℕ) (s : Shape) (r c : ℕ) → slice_get a.shapes n ≡ Some s → ((slice_get s.parts 0 ≡ Some (parts.Token c)) × (r ≡ first_row a.rows (kinds.Phylum s.phylum))) → Means r c
  shape_means n s r c at (e, row) =
      let (o, found, same) = map_get (shape_of (length def.phyla + 4) words) def.operators n s (ap (λ l. slice_get l n) (sym d.shapes) ∙ at) in
      let (t, num, l) = leads_of def words d.known n o found c (ap (λ (z : Shape). slice_get z.parts 0) (sym same) ∙ e) in
      let own : o.phylum ≡ s.phylum = ap (λ (z : Shape). z.phylum) (sym same) in
      means_first (kinds.Phylum s.phylum) (inside.shapes n s at).phylum r c row (t, num, subst (λ p. First def p t) own (first_operator n l))

  shape_means_led : (n : ℕ) (s : Shape) (r c : ℕ) (k : Kind) → slice_get a.shapes n ≡ Some s → slice_get s.parts 0 ≡ Some (parts.Slot k) → slice_get s.parts 1 ≡ Some (parts.Token c) → r ≡ led_row a.rows s.phylum → Means r c
  shape_means_led n s r c k at e f row =
      let (o, found, same) = map_get (shape_of (length def.phyla + 4) words) def.operators n s (ap (λ l. slice_get l n) (sym d.shapes) ∙ at) in
      let (t, num, l) = led_of def words d.known n o found k c (ap (λ (z : Shape). slice_get z.parts 0) (sym same) ∙ e) (ap (λ (z : Shape). slice_get z.parts 1) (sym same) ∙ f) in
      let own : o.phylum ≡ s.phylum = ap (λ (z : Shape). z.phylum) (sym same) in
      means_led s.phylum r c row (t, num, (n, subst (λ p. Led def p n t) own l))

  facts_mean : (r c : ℕ) → AllFacts a r c → Means r c
  facts_mean r c (inl (inl (n, lt, (s, at, inl (inl f))))) = shape_means n s r c at f
  facts_mean r c (inl (inl (n, lt, (s, at, inl (inr ((k, e), f, row)))))) = shape_means_led n s r c k at e f row
  facts_mean r c (inl (inl (n, lt, (s, at, inr (j, lt', f))))) = slot_fact_means n s j r c at f
  facts_mean r c (inl (inr (p, lt, (k, hole, at, hs, inl (inl (h, (e, f))))))) =
      let at' : slice_get def.phyla p ≡ Some k = ap (λ l. slice_get l p) (sym d.phyla) ∙ at in
      means_first (kinds.Phylum p) (kind_phylum p (slice_get_within def.phyla p k at')) r c e (a_hole k.name, hole_number p k at' ∙ ap Some (sym f), first_hole k at' ((d.holes p hole hs).0 h))
  facts_mean r c (inl (inr (p, lt, (k, hole, at, hs, inl (inr (h, (e, f))))))) =
      let at' : slice_get def.phyla p ≡ Some k = ap (λ l. slice_get l p) (sym d.phyla) ∙ at in
      means_first (kinds.Phylum p) (kind_phylum p (slice_get_within def.phyla p k at')) r c e (open_bracket, d.opening ∙ ap Some (sym f), first_bracket k at' h)
  facts_mean r c (inl (inr (p, lt, (k, hole, at, hs, inr (h, (e, f)))))) =
      let at' : slice_get def.phyla p ≡ Some k = ap (λ l. slice_get l p) (sym d.phyla) ∙ at in
      means_follow (kinds.Phylum p) (kind_phylum p (slice_get_within def.phyla p k at')) r c e (close_bracket, d.closing ∙ ap Some (sym f), by_bracket k at' h refl)
  facts_mean r c (inr (l, lt, (k, m, at, ms, inl (u, (e, f))))) =
      let at' : slice_get def.lists l ≡ Some k = ap (λ ls. slice_get ls l) (sym d.lists) ∙ at in
      means_first (kinds.List l) (kind_list l (slice_get_within def.lists l k at')) r c e (a_more, ap Some (ap (λ n. n + 3) (sym d.sizes.phyla_are) ∙ sym f), first_more k at' u)
  facts_mean r c (inr (l, lt, (k, m, at, ms, inr (e, f)))) =
      let at' : slice_get def.lists l ≡ Some k = ap (λ ls. slice_get ls l) (sym d.lists) ∙ at in
      means_follow (kinds.Phylum k.element) (inside.elements l k at) r c e (fixed k.separator, d.separators l m k ms at' ∙ ap Some (sym f), by_separator l k at' refl refl)

  slot_link_means : (n : ℕ) (s : Shape) (j to from c : ℕ) → slice_get a.shapes n ≡ Some s → SlotLink a.rows s j to from → Means from c → Means to c
  slot_link_means n s j to from c at l m =
      let o = slot_of_shape n s j l.kind at l.slot in
      let ik = part_of_shape n s at j l.kind l.slot.slot in
      elim l.source [
        | inl (k, x, e) ↦ (let (t, num, f) = m.firsts k (behind_kind n s at j k x) e in
            means_follow l.kind ik to c l.to_is (t, num, by_rest n o.rest (inside_of n s j l.kind o) (slot_begins o.rest (drop (j + 1) s.parts) k t o.match x f)))
        | inr (ends, not_end, out) ↦ means_follow l.kind ik to c l.to_is (outside ik o ends not_end out)
      ] where
        outside : IsKind a.rows l.kind → (o : SlotOf n s j l.kind) → can_end (behind s j) ≡ true → is_end s j ≡ false → (from ≡ follow_row a.rows (kinds.Phylum s.phylum)) ⊎ (from ≡ led_row a.rows s.phylum) → Found c (Follow def l.kind)
        outside ik o ends not_end (inl e) =
            let (t, num, f) = m.follows (kinds.Phylum s.phylum) (inside.shapes n s at).phylum e in
            (t, num, by_end n o.rest (inside_of n s j l.kind o) (empty_there (length def.phyla + 4) words o.rest (drop (j + 1) s.parts) o.match ends) (sym o.own ∙ not_end) (subst (λ p. Follow def (kinds.Phylum p) t) (sym o.phylum) f))
        outside ik o ends not_end (inr e) =
            let (t, num, (q, f)) = m.leds s.phylum (inside.shapes n s at).phylum e in
            (t, num, by_led n o.rest (inside_of n s j l.kind o) (empty_there (length def.phyla + 4) words o.rest (drop (j + 1) s.parts) o.match ends) (sym o.own ∙ not_end) q (subst (λ p. Led def p q t) (sym o.phylum) f))

  links_mean : (to from c : ℕ) → AllLinks a to from → Means from c → Means to c
  links_mean to from c (inl (n, lt, (s, at, (j, lt', l)))) m = slot_link_means n s j to from c at l m
  links_mean to from c (inr (l, lt, (k, at, inl (e, f)))) m =
      let at' : slice_get def.lists l ≡ Some k = ap (λ ls. slice_get ls l) (sym d.lists) ∙ at in
      let (t, num, x) = m.firsts (kinds.Phylum k.element) (inside.elements l k at) f in
      means_first (kinds.List l) (kind_list l (slice_get_within def.lists l k at')) to c e (t, num, first_element k at' x)
  links_mean to from c (inr (l, lt, (k, at, inr (e, f)))) m =
      let at' : slice_get def.lists l ≡ Some k = ap (λ ls. slice_get ls l) (sym d.lists) ∙ at in
      let (t, num, x) = m.follows (kinds.List l) (kind_list l (slice_get_within def.lists l k at')) f in
      means_follow (kinds.Phylum k.element) (inside.elements l k at) to c e (t, num, by_list l k at' refl x)

  -- what has grown is in the sets
  pub means : {r c : ℕ} → Grown a r c → Means r c
  means {r = r} {c = c} (at_once f) = facts_mean r c f
  means {c = c} (by_link to from l g) = links_mean to from c l (means g)

  -- ---- what is in the sets has grown

  abbrev pub Has : ℕ → Terminal → Type 0
  Has r t = (c : ℕ) × (number_of def words t ≡ Some c) × Grown a r c

  shape_found : (n : ℕ) (o : Operator) → slice_get def.operators n ≡ Some o → slice_get a.shapes n ≡ Some (shape_of (length def.phyla + 4) words o)
  shape_found n o found = ap (λ l. slice_get l n) d.shapes ∙ slice_get-map_some (shape_of (length def.phyla + 4) words) def.operators n o found

  phylum_found : (p : ℕ) (k : Phylum) → slice_get def.phyla p ≡ Some k → slice_get a.phyla p ≡ Some k
  phylum_found p k at = ap (λ l. slice_get l p) d.phyla ∙ at

  list_found : (l : ℕ) (k : ListKind) → slice_get def.lists l ≡ Some k → slice_get a.lists l ≡ Some k
  list_found l k at = ap (λ ls. slice_get ls l) d.lists ∙ at

  has_leads : (p n : ℕ) (t : Terminal) → Leads def p n t → Has (first_row a.rows (kinds.Phylum p)) t
  has_leads p n t l =
      let (c, num, e) = of_leads def words d.known p n t l in
      let at = shape_found n l.o l.found in
      (c, num, at_once (inl (inl (n, slice_get_within a.shapes n _ at, (shape_of (length def.phyla + 4) words l.o, at, inl (inl (e, sym l.phylum)))))))

  pub has_led : (p n : ℕ) (t : Terminal) → Led def p n t → Has (led_row a.rows p) t
  has_led p n t l =
      let (c, num, e, f) = of_led def words d.known p n t l in
      let at = shape_found n l.o l.found in
      (c, num, at_once (inl (inl (n, slice_get_within a.shapes n _ at, (shape_of (length def.phyla + 4) words l.o, at, inl (inr ((l.slot, e), f, ap (led_row a.rows) (sym l.phylum))))))))

  hole_at : (p : ℕ) → p < length def.phyla → (b : Bool) × (slice_get a.holes p ≡ Some b)
  hole_at p h = (get_or a.holes p false, slice_get-get_or a.holes p false (let e = inside.holes in let f = ap length d.phyla in omega (arith, h, e, f)))

  pub has_first : (p : ℕ) (t : Terminal) → First def p t → Has (first_row a.rows (kinds.Phylum p)) t
  has_first p t (first_operator n l) = has_leads p n t l
  has_first p t (first_hole k at h) =
      let (b, e) = hole_at p (slice_get_within def.phyla p k at) in
      let at' = phylum_found p k at in
      (3 + p, hole_number p k at, at_once (inl (inr (p, slice_get_within a.phyla p k at', (k, b, at', e, inl (inl ((d.holes p b e).1 h, (refl, refl))))))))
  has_first p t (first_bracket k at b) =
      let (hole, e) = hole_at p (slice_get_within def.phyla p k at) in
      let at' = phylum_found p k at in
      (a.opening, d.opening, at_once (inl (inr (p, slice_get_within a.phyla p k at', (k, hole, at', e, inl (inr (b, (refl, refl))))))))

  separator_at : (l : ℕ) → l < length def.lists → (m : ℕ) × (slice_get a.separators l ≡ Some m)
  separator_at l h = (get_or a.separators l 0, slice_get-get_or a.separators l 0 (let e = inside.separators in let f = ap length d.lists in omega (arith, h, e, f)))

  pub has_list : (l : ℕ) (t : Terminal) → FirstOfList def l t → Has (first_row a.rows (kinds.List l)) t
  has_list l t (first_element k at f) =
      let (c, num, g) = has_first k.element t f in
      let at' = list_found l k at in
      (c, num, by_link (a.rows.phyla + l) k.element (inr (l, slice_get_within a.lists l k at', (k, at', inl (refl, refl)))) g)
  has_list l t (first_more k at u) =
      let (m, e) = separator_at l (slice_get_within def.lists l k at) in
      let at' = list_found l k at in
      (length def.phyla + 3, refl, at_once (inr (l, slice_get_within a.lists l k at', (k, m, at', e, inl (u, (refl, ap (λ n. n + 3) (sym d.sizes.phyla_are)))))))

  has_begin : (is : List Item) (ps : List Part) (t : Terminal) (to : ℕ) → Match (length def.phyla + 4) words is ps → BeginsWith def is t → ((c : ℕ) → TokenIn ps c → Grown a to c) → ((k : Kind) (c : ℕ) → SlotIn ps k → Grown a (first_row a.rows k) c → Grown a to c) → Has to t
  has_begin [] ps t to m b x y = absurd b
  has_begin (i ∷ is) [] t to m b x y = absurd m
  has_begin (items.Slot (kinds.Phylum p) ∷ is) (q ∷ ps) t to (e, m) b x y =
      let (c, num, g) = has_first p t b in
      (c, num, y (kinds.Phylum p) c (subst (λ z. SlotIn (z ∷ ps) (kinds.Phylum p)) (sym (slot_part def words (kinds.Phylum p) q e)) refl) g)
  has_begin (items.Slot (kinds.List l) ∷ is) (q ∷ ps) t to (e, m) (inl f) x y =
      let (c, num, g) = has_list l t f in
      (c, num, y (kinds.List l) c (subst (λ z. SlotIn (z ∷ ps) (kinds.List l)) (sym (slot_part def words (kinds.List l) q e)) (inl refl)) g)
  has_begin (items.Slot (kinds.List l) ∷ is) (q ∷ ps) t to (e, m) (inr b) x y =
      let same = slot_part def words (kinds.List l) q e in
      has_begin is ps t to m b (λ c z. x c (subst (λ w. TokenIn (w ∷ ps) c) (sym same) z)) (λ k c z. y k c (subst (λ w. SlotIn (w ∷ ps) k) (sym same) (inr z)))
  has_begin (items.Word w ∷ is) (q ∷ ps) t to (e, m) b x y = let (c, f, num) = token_part def words (items.Word w) t q b e in (c, num, x c (subst (λ z. TokenIn (z ∷ ps) c) (sym f) refl))
  has_begin (items.Refers s ∷ is) (q ∷ ps) t to (e, m) b x y = let (c, f, num) = token_part def words (items.Refers s) t q b e in (c, num, x c (subst (λ z. TokenIn (z ∷ ps) c) (sym f) refl))
  has_begin (items.Declares s ∷ is) (q ∷ ps) t to (e, m) b x y = let (c, f, num) = token_part def words (items.Declares s) t q b e in (c, num, x c (subst (λ z. TokenIn (z ∷ ps) c) (sym f) refl))
  has_begin (items.Number ∷ is) (q ∷ ps) t to (e, m) b x y = let (c, f, num) = token_part def words items.Number t q b e in (c, num, x c (subst (λ z. TokenIn (z ∷ ps) c) (sym f) refl))
  has_begin (items.Text ∷ is) (q ∷ ps) t to (e, m) b x y = let (c, f, num) = token_part def words items.Text t q b e in (c, num, x c (subst (λ z. TokenIn (z ∷ ps) c) (sym f) refl))
  has_begin (items.Space ∷ is) (q ∷ ps) t to (e, m) b x y = absurd (let z : None ≡ Some t = b in cc)
  has_begin (items.Tight ∷ is) (q ∷ ps) t to (e, m) b x y = absurd (let z : None ≡ Some t = b in cc)
  has_begin (items.Line ∷ is) (q ∷ ps) t to (e, m) b x y = absurd (let z : None ≡ Some t = b in cc)
  has_begin (items.In ∷ is) (q ∷ ps) t to (e, m) b x y = absurd (let z : None ≡ Some t = b in cc)
  has_begin (items.Out ∷ is) (q ∷ ps) t to (e, m) b x y = absurd (let z : None ≡ Some t = b in cc)

  -- a slot of an operator as a slot of its shape
  record PlaceOf (n : ℕ) (kind : Kind) (rest : List Item) (o : Operator) : Type 0 where
    pub place : ℕ
    pub slot : IsSlot (shape_of (length def.phyla + 4) words o) place kind
    pub inner : place < length (parts_of (length def.phyla + 4) words o.items)
    pub match : Match (length def.phyla + 4) words rest (drop (place + 1) (parts_of (length def.phyla + 4) words o.items))
    pub own : is_end (shape_of (length def.phyla + 4) words o) place ≡ is_own_last o kind rest

  place_of : (n : ℕ) (kind : Kind) (rest : List Item) (p : Inside def n kind rest) → PlaceOf n kind rest p.o
  place_of n kind rest p =
      let m = subst (λ l. Match (length def.phyla + 4) words l (parts_of (length def.phyla + 4) words p.o.items)) p.items (match_of (length def.phyla + 4) words p.o (d.known n p.o p.found)) in
      let i = at_item (length def.phyla + 4) words (p.first ∷ p.front) (items.Slot kind) rest (parts_of (length def.phyla + 4) words p.o.items) m in
      let here : slice_get (parts_of (length def.phyla + 4) words p.o.items) (length (p.first ∷ p.front)) ≡ Some (parts.Slot kind) = i.found ∙ ap Some (slot_part def words kind i.part i.is_part) in
      let after : Match (length def.phyla + 4) words rest (drop (length (p.first ∷ p.front) + 1) (parts_of (length def.phyla + 4) words p.o.items)) =
      subst (λ k. Match (length def.phyla + 4) words rest (drop k (parts_of (length def.phyla + 4) words p.o.items))) (sym (add-one (length (p.first ∷ p.front)))) i.rest in
      record {
        place = length (p.first ∷ p.front);
        slot = record { later = positive (length p.front); slot = here };
        inner = slice_get_within (parts_of (length def.phyla + 4) words p.o.items) (length (p.first ∷ p.front)) (parts.Slot kind) here;
        match = after;
        own = ap₂ (λ x y. x && y) (ap (is_own p.o.phylum) here ∙ same_own p.o kind) (same_empty (length def.phyla + 4) words rest (drop (length (p.first ∷ p.front) + 1) (parts_of (length def.phyla + 4) words p.o.items)) after);
      } where
        positive : (n : ℕ) → 1 ≤ suc n
        positive n = omega arith

  slot_link : (n : ℕ) (kind : Kind) (rest : List Item) (p : Inside def n kind rest) (q : PlaceOf n kind rest p.o) (from : ℕ) → SlotLink a.rows (shape_of (length def.phyla + 4) words p.o) q.place (follow_row a.rows kind) from → AllLinks a (follow_row a.rows kind) from
  slot_link n kind rest p q from l = let at = shape_found n p.o p.found in inl (n, slice_get_within a.shapes n _ at, (shape_of (length def.phyla + 4) words p.o, at, (q.place, q.inner, l)))

  pub has_follow : {k : Kind} {t : Terminal} → Follow def k t → Has (follow_row a.rows k) t
  has_follow {k = k} {t = t} (by_rest n rest p b) =
      let q = place_of n k rest p in
      let at = shape_found n p.o p.found in
      has_begin rest (drop (q.place + 1) (parts_of (length def.phyla + 4) words p.o.items)) t (follow_row a.rows k) q.match b
      (λ c x. at_once (inl (inl (n, slice_get_within a.shapes n _ at, (shape_of (length def.phyla + 4) words p.o, at, inr (q.place, q.inner, record { kind = k; slot = q.slot; row_is = refl; token = x }))))))
      (λ m c x g. by_link (follow_row a.rows k) (first_row a.rows m) (slot_link n k rest p q (first_row a.rows m) (record { kind = k; slot = q.slot; to_is = refl; source = inl (m, x, refl) })) g)
  has_follow {k = k} {t = t} (by_end n rest p e h f) =
      let (c, num, g) = has_follow f in
      let q = place_of n k rest p in (
        c,
        num,
        by_link (follow_row a.rows k) (follow_row a.rows (kinds.Phylum p.o.phylum)) (slot_link n k rest p q (follow_row a.rows (kinds.Phylum p.o.phylum)) (record {
          kind = k;
          slot = q.slot;
          to_is = refl;
          source = inr (empty_back (length def.phyla + 4) words rest (drop (q.place + 1) (parts_of (length def.phyla + 4) words p.o.items)) q.match e, q.own ∙ h, inl refl);
        })) g,
      )
  has_follow {k = k} {t = t} (by_led n rest p e h m l) =
      let (c, num, g) = has_led p.o.phylum m t l in
      let q = place_of n k rest p in (
        c,
        num,
        by_link (follow_row a.rows k) (led_row a.rows p.o.phylum) (slot_link n k rest p q (led_row a.rows p.o.phylum) (record {
          kind = k;
          slot = q.slot;
          to_is = refl;
          source = inr (empty_back (length def.phyla + 4) words rest (drop (q.place + 1) (parts_of (length def.phyla + 4) words p.o.items)) q.match e, q.own ∙ h, inr refl);
        })) g,
      )
  has_follow {t = t} (by_separator {p = p} l k at e f) =
      let (m, s) = separator_at l (slice_get_within def.lists l k at) in
      let at' = list_found l k at in
      (m, ap (number_of def words) f ∙ d.separators l m k s at, at_once (inr (l, slice_get_within a.lists l k at', (k, m, at', s, inr (ap (λ z. a.rows.kinds + z) (sym e), refl)))))
  has_follow {t = t} (by_list {p = p} l k at e f) =
      let (c, num, g) = has_follow f in
      let at' = list_found l k at in
      (c, num, by_link (a.rows.kinds + p) (a.rows.kinds + (a.rows.phyla + l)) (inr (l, slice_get_within a.lists l k at', (k, at', inr (ap (λ z. a.rows.kinds + z) (sym e), refl)))) g)
  has_follow {t = t} (by_bracket {p = p} k at b f) =
      let (hole, e) = hole_at p (slice_get_within def.phyla p k at) in
      let at' = phylum_found p k at in
      (a.closing, ap (number_of def words) f ∙ d.closing, at_once (inl (inr (p, slice_get_within a.phyla p k at', (k, hole, at', e, inr (b, (refl, refl)))))))
