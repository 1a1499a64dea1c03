-- The grammar in which nothing declares is of the class, where the definition is and each of its phyla has a tree.
use Rattle.std.proofs.Common.{◌≡◌, ◌≢◌, ◌⊎◌, inl, inr, ℕ, suc, ◌<◌, ◌==◌, ◌&&◌, max, Bool, true, false, cond, List, [], ◌∷◌, ◌++◌, map, Option, Some, None, option_map, slice_get, refl, ap, ap₂, sym, ◌∙◌, subst, codes, arith}
use Rattle.std.proofs.lemmas.Bool.{cases_Bool, eqb-true}
use Rattle.std.proofs.lemmas.Option.{none-some, same_Some}
use Rattle.psg_terms.specs.Names.{has_twice}
use Rattle.psg_grammar.specs.declared.types.Kind.{Kind}
use Rattle.psg_grammar.specs.declared.types.Kind.TheVariants as kinds
use Rattle.psg_grammar.specs.declared.types.Item.{Item}
use Rattle.psg_grammar.specs.declared.types.Item.TheVariants as items
use Rattle.psg_grammar.specs.declared.types.ListKind.{ListKind}
use Rattle.psg_grammar.specs.declared.types.Operator.{Operator}
use Rattle.psg_grammar.specs.declared.types.Phylum.{Phylum}
use Rattle.psg_grammar.specs.declared.types.Definition.{Definition}
use Rattle.psg_grammar.specs.Fragments.{Fragment, operator}
use Rattle.psg_grammar.specs.Kinds.{kind_name_of}
use Rattle.psg_grammar.specs.Levels.{first_level, last_level, level_number}
use Rattle.psg_grammar.specs.Sound.{kind_names}
use Rattle.psg_grammar.proofs.NamePlaces.{only_kind}
use Rattle.psg_class.specs.Class.{BadForm, IsClass, LedFollows, ListEnd, MixedLevel, NoBracket, NoFirst, SameFirst, SameLed, begins_well, first_behind, has_form, led_behind, number_of, separator_behind, token_first, two_led, two_operators, with_bracket}
use Rattle.psg_class.specs.Follow.{BeginsWith, CanBeEmpty, First, FirstOfList, Follow, Inside, Leads, Led, by_bracket, by_end, by_led, by_list, by_rest, by_separator, first_bracket, first_element, first_hole, first_more, first_operator}
use Rattle.psg_class.specs.Places.{is_empty, is_own, is_own_last, slot_level, solid}
use Rattle.psg_class.specs.Yields.{PartsYield, TreeYields, in_brackets, of_hole, of_operator, of_slot}
use Rattle.psg_class.specs.Terminals.{Terminal, Token, a_hole, a_more, a_name, a_number, a_text, close_bracket, fixed, item_terminal, open_bracket, stray}
use Rattle.psg_recover.specs.Grammars.{plain_list, plain_phylum, quiet, quiet_item, quiet_operator}
use Rattle.psg_recover.proofs.QuietItems.{begins_same, empty_same, form_same, map_back, map_uncons, map_unsplit, slot_back, solid_quiet, terminal_same}

-- the terminal is no placeholder
abbrev IsNoHole : Terminal → Type 0
IsNoHole (a_hole x) = ⊥
IsNoHole _ = Unit {0}

no_hole_of_item : (i : Item) (t : Terminal) → item_terminal i ≡ Some t → IsNoHole t
no_hole_of_item (items.Word w) t e = subst IsNoHole (same_Some (fixed w) t e) tt
no_hole_of_item (items.Refers s) t e = subst IsNoHole (same_Some a_name t e) tt
no_hole_of_item (items.Declares s) t e = subst IsNoHole (same_Some a_name t e) tt
no_hole_of_item items.Number t e = subst IsNoHole (same_Some a_number t e) tt
no_hole_of_item items.Text t e = subst IsNoHole (same_Some a_text t e) tt
no_hole_of_item (items.Slot k) t e = absurd (none-some t e)
no_hole_of_item items.Space t e = absurd (none-some t e)
no_hole_of_item items.Tight t e = absurd (none-some t e)
no_hole_of_item items.Line t e = absurd (none-some t e)
no_hole_of_item items.In t e = absurd (none-some t e)
no_hole_of_item items.Out t e = absurd (none-some t e)

module _ (def : Definition) where
  abbrev Q : Definition
  Q = quiet def

  -- an operator that begins with a token, or is led
  leads_back : (p n : ℕ) (t : Terminal) → Leads Q p n t → Leads def p n t
  leads_back p n t l =
      let (o, found, e) = map_back quiet_operator def.operators n l.o l.found in
      let own : map quiet_item (solid o.items) ≡ l.item ∷ l.more = sym (solid_quiet o.items) ∙ ap (λ (x : Operator). solid x.items) (sym e) ∙ l.items in
      let (i, rest, is, one, more) = map_uncons quiet_item (solid o.items) l.item l.more own in
      record { o = o; found = found; phylum = ap (λ (x : Operator). x.phylum) (sym e) ∙ l.phylum; item = i; more = rest; items = is; begins = sym (terminal_same i) ∙ ap item_terminal one ∙ l.begins }

  led_back : (p n : ℕ) (t : Terminal) → Led Q p n t → Led def p n t
  led_back p n t l =
      let (o, found, e) = map_back quiet_operator def.operators n l.o l.found in
      let own : map quiet_item (solid o.items) ≡ items.Slot l.slot ∷ (l.item ∷ l.more) = sym (solid_quiet o.items) ∙ ap (λ (x : Operator). solid x.items) (sym e) ∙ l.items in
      let (s, rest, is, one, more) = map_uncons quiet_item (solid o.items) (items.Slot l.slot) (l.item ∷ l.more) own in
      let (i, behind, are, two, last) = map_uncons quiet_item rest l.item l.more more in
      record {
        o = o;
        found = found;
        phylum = ap (λ (x : Operator). x.phylum) (sym e) ∙ l.phylum;
        slot = l.slot;
        item = i;
        more = behind;
        items = is ∙ ap₂ (λ (a : Item) (b : List Item). a ∷ b) (slot_back s l.slot one) are;
        begins = sym (terminal_same i) ∙ ap item_terminal two ∙ l.begins;
      }

  -- a place of a slot, with the items after it
  record IsBack (n : ℕ) (kind : Kind) (behind : List Item) (place : Inside Q n kind behind) : Type 0 where
    rest : List Item
    same : map quiet_item rest ≡ behind
    own : Inside def n kind rest
    is : place.o ≡ quiet_operator own.o

  inside_back : (n : ℕ) (kind : Kind) (behind : List Item) (place : Inside Q n kind behind) → IsBack n kind behind place
  inside_back n kind behind place =
      let (o, found, e) = map_back quiet_operator def.operators n place.o place.found in
      let all : map quiet_item (solid o.items) ≡ place.first ∷ (place.front ++ items.Slot kind ∷ behind) = sym (solid_quiet o.items) ∙ ap (λ (x : Operator). solid x.items) (sym e) ∙ place.items in
      let (first, rest, is, one, more) = map_uncons quiet_item (solid o.items) place.first (place.front ++ items.Slot kind ∷ behind) all in
      let (front, slot, after, split, fa, fs, fb) = map_unsplit quiet_item rest place.front (items.Slot kind) behind more in
      record {
        rest = after;
        same = fb;
        own = record { o = o; found = found; first = first; front = front; items = is ∙ ap (λ (l : List Item). first ∷ l) (split ∙ ap (λ (i : Item). front ++ i ∷ after) (slot_back slot kind fs)) };
        is = e;
      }

  -- ---- one terminal in place of another

  -- what begins with the one there begins with the other in the definition
  record Moves (t u : Terminal) : Type 0 where
    firsts : (q : ℕ) → First Q q t → First def q u
    items : (i : Item) → item_terminal i ≡ Some t → item_terminal i ≡ Some u
    more : t ≡ a_more → u ≡ a_more
    word : (w : List ℕ) → t ≡ fixed w → u ≡ fixed w

  module _ (t u : Terminal) (m : Moves t u) where
    list_moves : (l : ℕ) → FirstOfList Q l t → FirstOfList def l u
    list_moves l f = by t refl f
      where
        by : (x : Terminal) → x ≡ t → FirstOfList Q l x → FirstOfList def l u
        by x e (first_element kind found first) =
            let (k, there, is) = map_back plain_list def.lists l kind found in
            first_element k there (m.firsts k.element (subst (λ (y : Terminal). First Q k.element y) e (subst (λ (j : ListKind). First Q j.element x) is first)))
        by x e (first_more kind found unfinished) =
            let (k, there, is) = map_back plain_list def.lists l kind found in
            subst (FirstOfList def l) (sym (m.more (sym e))) (first_more k there (sym (ap (λ (j : ListKind). j.unfinished) is) ∙ unfinished))

    begins_moves : (is : List Item) → BeginsWith Q (map quiet_item is) t → BeginsWith def is u
    begins_moves [] h = absurd h
    begins_moves (items.Slot (kinds.Phylum p) ∷ is) h = m.firsts p h
    begins_moves (items.Slot (kinds.List l) ∷ is) (inl h) = inl (list_moves l h)
    begins_moves (items.Slot (kinds.List l) ∷ is) (inr h) = inr (begins_moves is h)
    begins_moves (items.Word w ∷ is) h = m.items (items.Word w) h
    begins_moves (items.Refers s ∷ is) h = m.items (items.Refers s) h
    begins_moves (items.Declares s ∷ is) h = m.items (items.Refers s) h
    begins_moves (items.Number ∷ is) h = m.items items.Number h
    begins_moves (items.Text ∷ is) h = m.items items.Text h
    begins_moves (items.Space ∷ is) h = m.items items.Space h
    begins_moves (items.Tight ∷ is) h = m.items items.Tight h
    begins_moves (items.Line ∷ is) h = m.items items.Line h
    begins_moves (items.In ∷ is) h = m.items items.In h
    begins_moves (items.Out ∷ is) h = m.items items.Out h

    empty_moves : (is : List Item) → CanBeEmpty (map quiet_item is) → CanBeEmpty is
    empty_moves [] h = tt
    empty_moves (items.Slot (kinds.List l) ∷ is) h = empty_moves is h
    empty_moves (items.Slot (kinds.Phylum p) ∷ is) h = absurd h
    empty_moves (items.Word w ∷ is) h = absurd h
    empty_moves (items.Refers s ∷ is) h = absurd h
    empty_moves (items.Declares s ∷ is) h = absurd h
    empty_moves (items.Number ∷ is) h = absurd h
    empty_moves (items.Text ∷ is) h = absurd h
    empty_moves (items.Space ∷ is) h = absurd h
    empty_moves (items.Tight ∷ is) h = absurd h
    empty_moves (items.Line ∷ is) h = absurd h
    empty_moves (items.In ∷ is) h = absurd h
    empty_moves (items.Out ∷ is) h = absurd h

    own_same : (o : Operator) (kind : Kind) → is_own (quiet_operator o) kind ≡ is_own o kind
    own_same o (kinds.Phylum p) = refl
    own_same o (kinds.List l) = refl

    last_moves : (n : ℕ) (kind : Kind) (behind : List Item) (place : Inside Q n kind behind) (b : IsBack n kind behind place) → is_own_last place.o kind behind ≡ false → is_own_last b.own.o kind b.rest ≡ false
    last_moves n kind behind place b e =
        ap₂ (λ x y. x && y) (sym (own_same b.own.o kind) ∙ ap (λ (o : Operator). is_own o kind) (sym b.is)) (sym (empty_same b.rest) ∙ ap is_empty b.same) ∙ e

    led_moves : (p n : ℕ) → Led Q p n t → Led def p n u
    led_moves p n l =
        let h = led_back p n t l in
        record { o = h.o; found = h.found; phylum = h.phylum; slot = h.slot; item = h.item; more = h.more; items = h.items; begins = m.items h.item h.begins }

    follow_moves : (kind : Kind) (x : Terminal) → x ≡ t → Follow Q kind x → Follow def kind u
    follow_moves kind x e (by_rest n behind place begins) =
        let b = inside_back n kind behind place in
        by_rest n b.rest b.own (begins_moves b.rest (subst (λ (l : List Item). BeginsWith Q l t) (sym b.same) (subst (BeginsWith Q behind) e begins)))
    follow_moves kind x e (by_end n behind place empty last follow) =
        let b = inside_back n kind behind place in
        let same : place.o.phylum ≡ b.own.o.phylum = ap (λ (o : Operator). o.phylum) b.is in
        let after = follow_moves (kinds.Phylum place.o.phylum) x e follow in
        by_end n b.rest b.own (empty_moves b.rest (subst CanBeEmpty (sym b.same) empty)) (last_moves n kind behind place b last) (subst (λ (p : ℕ). Follow def (kinds.Phylum p) u) same after)
    follow_moves kind x e (by_led n behind place empty last k led) =
        let b = inside_back n kind behind place in
        let same : place.o.phylum ≡ b.own.o.phylum = ap (λ (o : Operator). o.phylum) b.is in
        by_led n b.rest b.own (empty_moves b.rest (subst CanBeEmpty (sym b.same) empty)) (last_moves n kind behind place b last) k
        (subst (λ (p : ℕ). Led def p k u) same (led_moves place.o.phylum k (subst (Led Q place.o.phylum k) e led)))
    follow_moves (kinds.Phylum p) x e (by_separator l list found element is) =
        let (k, there, same) = map_back plain_list def.lists l list found in
        by_separator l k there (sym (ap (λ (j : ListKind). j.element) same) ∙ element) (m.word k.separator (sym e ∙ is ∙ ap (λ (j : ListKind). fixed j.separator) same))
    follow_moves (kinds.Phylum p) x e (by_list l list found element follow) =
        let (k, there, same) = map_back plain_list def.lists l list found in
        by_list l k there (sym (ap (λ (j : ListKind). j.element) same) ∙ element) (follow_moves (kinds.List l) x e follow)
    follow_moves (kinds.Phylum p) x e (by_bracket phylum found bracketed is) =
        let (k, there, same) = map_back plain_phylum def.phyla p phylum found in
        by_bracket k there (sym (ap (λ (j : Phylum). j.bracketed) same) ∙ bracketed) (m.word (codes ")") (sym e ∙ is))

  -- what is no placeholder stays
  stays : (t : Terminal) → IsNoHole t → Moves t t
  stays t plain = record { firsts = λ q f. by q t plain f; items = λ i e. e; more = λ e. e; word = λ w e. e }
    where
      by : (q : ℕ) (x : Terminal) → IsNoHole x → First Q q x → First def q x
      by q x plain (first_operator n l) = first_operator n (leads_back q n x l)
      by q x plain (first_hole phylum found holes) = absurd plain
      by q x plain (first_bracket phylum found bracketed) =
          let (k, there, same) = map_back plain_phylum def.phyla q phylum found in
          first_bracket k there (sym (ap (λ (j : Phylum). j.bracketed) same) ∙ bracketed)

  -- ---- each phylum with a tree begins with a token

  module _ (class : IsClass def) where
    no_begin : (n : ℕ) (o : Operator) (is : List Item) → slice_get def.operators n ≡ Some o → solid o.items ≡ is → begins_well o.phylum is ≡ false → ⊥
    no_begin n o is found e h = class.0.0.0.0.0.0.0 n (record { o = o; found = found; fails = ap (begins_well o.phylum) e ∙ h })

    mutual
      pub first_of_tree : (f : Fragment) (p level depth : ℕ) (ts : List Token) → TreeYields def f p level depth ts → (u : Terminal) × First def p u
      first_of_tree f p level depth ts (of_hole phylum found holes) = (a_hole phylum.name, first_hole phylum found holes)
      first_of_tree f p level depth ts (of_operator n o found same le parts) =
          let (u, h) = first_of_parts n o found (solid o.items) refl true (operator n) f 0 depth ts parts in (u, subst (λ (q : ℕ). First def q u) same h)
      first_of_tree f p level depth ts (in_brackets phylum open_token close_token found bracketed opens closes inner) = (open_bracket, first_bracket phylum found bracketed)

      first_of_parts : (n : ℕ) (o : Operator) → slice_get def.operators n ≡ Some o → (is : List Item) → solid o.items ≡ is → (first : Bool) (f g : Fragment) (d depth : ℕ) (ts : List Token) → PartsYield def o first f d is g depth ts → (u : Terminal) × First def o.phylum u
      first_of_parts n o found [] e first f g d depth ts h = absurd (no_begin n o [] found e refl)
      first_of_parts n o found (items.Word w ∷ more) e first f g d depth ts h = (fixed w, first_operator n (record { o = o; found = found; phylum = refl; item = items.Word w; more = more; items = e; begins = refl }))
      first_of_parts n o found (items.Refers s ∷ more) e first f g d depth ts h = (a_name, first_operator n (record { o = o; found = found; phylum = refl; item = items.Refers s; more = more; items = e; begins = refl }))
      first_of_parts n o found (items.Declares s ∷ more) e first f g d depth ts h = (a_name, first_operator n (record { o = o; found = found; phylum = refl; item = items.Declares s; more = more; items = e; begins = refl }))
      first_of_parts n o found (items.Number ∷ more) e first f g d depth ts h = (a_number, first_operator n (record { o = o; found = found; phylum = refl; item = items.Number; more = more; items = e; begins = refl }))
      first_of_parts n o found (items.Text ∷ more) e first f g d depth ts h = (a_text, first_operator n (record { o = o; found = found; phylum = refl; item = items.Text; more = more; items = e; begins = refl }))
      first_of_parts n o found (items.Slot (kinds.Phylum q) ∷ more) e first f g d depth ts (of_slot t inner own behind yields rest) = elim (cases_Bool (q == o.phylum)) [
        | inl same ↦ (let (u, h) = first_of_tree t q (slot_level o (kinds.Phylum q) first more) inner own yields in (u, subst (λ (r : ℕ). First def r u) (eqb-true q o.phylum same) h))
        | inr other ↦ absurd (no_begin n o (items.Slot (kinds.Phylum q) ∷ more) found e (ap (λ (b : Bool). b && token_first more) other))
      ]
      first_of_parts n o found (items.Slot (kinds.List l) ∷ more) e first f g d depth ts h = absurd (no_begin n o (items.Slot (kinds.List l) ∷ more) found e refl)
      first_of_parts n o found (items.Space ∷ more) e first f g d depth ts h = absurd (no_begin n o (items.Space ∷ more) found e refl)
      first_of_parts n o found (items.Tight ∷ more) e first f g d depth ts h = absurd (no_begin n o (items.Tight ∷ more) found e refl)
      first_of_parts n o found (items.Line ∷ more) e first f g d depth ts h = absurd (no_begin n o (items.Line ∷ more) found e refl)
      first_of_parts n o found (items.In ∷ more) e first f g d depth ts h = absurd (no_begin n o (items.In ∷ more) found e refl)
      first_of_parts n o found (items.Out ∷ more) e first f g d depth ts h = absurd (no_begin n o (items.Out ∷ more) found e refl)

  -- ---- the eight conditions

  same_items : (o h : Operator) → h ≡ quiet_operator o → map quiet_item (solid o.items) ≡ solid h.items
  same_items o h e = sym (solid_quiet o.items) ∙ ap (λ (x : Operator). solid x.items) (sym e)

  module _ (class : IsClass def) (once : has_twice (kind_names def) ≡ false) (trees : (p : ℕ) (phylum : Phylum) → slice_get def.phyla p ≡ Some phylum → (u : Terminal) × First def p u) where
    no_first : (n : ℕ) → NoFirst Q n → ⊥
    no_first n h =
        let (o, found, e) = map_back quiet_operator def.operators n h.o h.found in
        class.0.0.0.0.0.0.0 n (record {
          o = o;
          found = found;
          fails = sym (begins_same o.phylum (solid o.items)) ∙ ap (begins_well o.phylum) (same_items o h.o e) ∙ ap (λ (p : ℕ). begins_well p (solid h.o.items)) (ap (λ (x : Operator). x.phylum) (sym e)) ∙ h.fails;
        })

    bad_form : (n : ℕ) → BadForm Q n → ⊥
    bad_form n h =
        let (o, found, e) = map_back quiet_operator def.operators n h.o h.found in
        class.0.0.0.0.0.0.1 n (record {
          o = o;
          found = found;
          fails = sym (form_same o.level o.phylum (solid o.items)) ∙ ap (has_form o.level o.phylum) (same_items o h.o e) ∙ ap (λ (x : Operator). has_form x.level x.phylum (solid h.o.items)) (sym e) ∙ h.fails;
        })

    -- the least level of a slot
    level_same : (o : Operator) (k : Kind) (front behind : List Item) → slot_level (quiet_operator o) k (is_empty (map quiet_item front)) (map quiet_item behind) ≡ slot_level o k (is_empty front) behind
    level_same o (kinds.Phylum p) front behind =
        ap₂ (λ a b. cond (p == o.phylum) (max (cond a (first_level o.level) 0) (cond b (last_level o.level) 0)) 0) (empty_same front) (empty_same behind)
    level_same o (kinds.List l) front behind = refl

    no_bracket : (p : ℕ) → NoBracket Q p → ⊥
    no_bracket p h =
        let (k, kfound, ke) = map_back plain_phylum def.phyla p h.phylum h.found in
        let (holder, holds, he) = map_back quiet_operator def.operators h.n h.holder h.holds in
        let (o, found, oe) = map_back quiet_operator def.operators h.m h.o h.there in
        let (front, slot, behind, split, ff, fs, fb) = map_unsplit quiet_item (solid holder.items) h.front (items.Slot (kinds.Phylum p)) h.behind (same_items holder h.holder he ∙ h.items) in
        let one : level_number h.o.level ≡ level_number o.level = ap (λ (x : Operator). level_number x.level) oe in
        let two : slot_level h.holder (kinds.Phylum p) (is_empty h.front) h.behind ≡ slot_level holder (kinds.Phylum p) (is_empty front) behind =
        ap (λ (x : Operator). slot_level x (kinds.Phylum p) (is_empty h.front) h.behind) he
        ∙ ap₂ (λ (a b : List Item). slot_level (quiet_operator holder) (kinds.Phylum p) (is_empty a) b) (sym ff) (sym fb)
        ∙ level_same holder (kinds.Phylum p) front behind in
        let below = h.below in
        class.0.0.0.0.0.1 p (record {
          phylum = k;
          found = kfound;
          bare = sym (ap (λ (x : Phylum). x.bracketed) ke) ∙ h.bare;
          n = h.n;
          holder = holder;
          holds = holds;
          front = front;
          behind = behind;
          items = split ∙ ap (λ (i : Item). front ++ i ∷ behind) (slot_back slot (kinds.Phylum p) fs);
          m = h.m;
          o = o;
          there = found;
          of_phylum = sym (ap (λ (x : Operator). x.phylum) oe) ∙ h.of_phylum;
          below = omega (arith, one, two, below);
        })

    mixed_level : (p level : ℕ) → MixedLevel Q p level → ⊥
    mixed_level p level h =
        let (o, found, e) = map_back quiet_operator def.operators h.n h.o h.found in
        let (other, there, d) = map_back quiet_operator def.operators h.m h.other h.there in
        class.0.0.0.0.1 p level (record {
          n = h.n;
          o = o;
          found = found;
          of_phylum = sym (ap (λ (x : Operator). x.phylum) e) ∙ h.of_phylum;
          m = h.m;
          other = other;
          there = there;
          of_phylum_too = sym (ap (λ (x : Operator). x.phylum) d) ∙ h.of_phylum_too;
          number = sym (ap (λ (x : Operator). number_of x.level) e) ∙ h.number;
          number_too = sym (ap (λ (x : Operator). number_of x.level) d) ∙ h.number_too;
          differ = λ same. h.differ (ap (λ (x : Operator). x.level) e ∙ same ∙ sym (ap (λ (x : Operator). x.level) d));
        })

    same_first : (p : ℕ) (t : Terminal) → SameFirst Q p t → ⊥
    same_first p t (two_operators n m ne one two) = class.0.0.0.1 p t (two_operators n m ne (leads_back p n t one) (leads_back p m t two))
    same_first p t (with_bracket phylum found bracketed n l) =
        let (k, there, same) = map_back plain_phylum def.phyla p phylum found in
        class.0.0.0.1 p open_bracket (with_bracket k there (sym (ap (λ (j : Phylum). j.bracketed) same) ∙ bracketed) n (leads_back p n open_bracket l))

    same_led : (p : ℕ) (t : Terminal) → SameLed Q p t → ⊥
    same_led p t (two_led n m ne one two) = class.0.0.1 p t (two_led n m ne (led_back p n t one) (led_back p m t two))

    led_follows : (n : ℕ) (t : Terminal) → LedFollows Q n t → ⊥
    led_follows n t (led_behind p led follow) =
        class.0.1 n t (led_behind p (led_back p n t led) (follow_moves t t (stays t (no_hole_of_item led.item t led.begins)) (kinds.Phylum p) t refl follow))

    -- a placeholder begins its own phylum alone
    hole_only : (q p : ℕ) (phylum : Phylum) (t : Terminal) → slice_get def.phyla p ≡ Some phylum → t ≡ a_hole phylum.name → First Q q t → q ≡ p
    hole_only q p phylum t at e (first_operator n l) = absurd (subst IsNoHole e (no_hole_of_item l.item t l.begins))
    hole_only q p phylum t at e (first_hole other found holes) =
        let (k, there, same) = map_back plain_phylum def.phyla q other found in
        let named : other.name ≡ phylum.name = hole_name other.name phylum.name e in
        let own : kind_name_of def (kinds.Phylum q) ≡ Some phylum.name = ap (option_map (λ (j : Phylum). j.name)) there ∙ ap Some (sym (ap (λ (j : Phylum). j.name) same) ∙ named) in
        let its : kind_name_of def (kinds.Phylum p) ≡ Some phylum.name = ap (option_map (λ (j : Phylum). j.name)) at in
        phylum_same q p (only_kind def once (kinds.Phylum q) (kinds.Phylum p) phylum.name own its)
      where
        hole_name : (a b : List ℕ) → a_hole a ≡ a_hole b → a ≡ b
        hole_name a b e = cc

        phylum_same : (a b : ℕ) → kinds.Phylum a ≡ kinds.Phylum b → a ≡ b
        phylum_same a b e = cc
    hole_only q p phylum t at e (first_bracket other found bracketed) = absurd (no_open phylum.name e)
      where
        no_open : (x : List ℕ) → open_bracket ≡ a_hole x → ⊥
        no_open x e = cc

    -- what begins the phylum in place of its placeholder
    in_place : (p : ℕ) (phylum : Phylum) (u : Terminal) → slice_get def.phyla p ≡ Some phylum → First def p u → Moves (a_hole phylum.name) u
    in_place p phylum u at first = record {
      firsts = λ q f. subst (λ (r : ℕ). First def r u) (sym (hole_only q p phylum (a_hole phylum.name) at refl f)) first;
      items = λ i e. absurd (no_hole_of_item i (a_hole phylum.name) e);
      more = λ e. absurd (cc);
      word = λ w e. absurd (cc);
    }

    no_plain_end : (l : ℕ) (t : Terminal) → IsNoHole t → FirstOfList Q l t → Follow Q (kinds.List l) t → ⊥
    no_plain_end l t plain first follow = class.1 l t (first_behind (list_moves t t (stays t plain) l first) (follow_moves t t (stays t plain) (kinds.List l) t refl follow))

    no_end : (l : ℕ) (t : Terminal) → FirstOfList Q l t → Follow Q (kinds.List l) t → ⊥
    no_end l t (first_more kind found unfinished) follow = no_plain_end l a_more tt (first_more kind found unfinished) follow
    no_end l t (first_element kind found (first_operator n leads)) follow =
        no_plain_end l t (no_hole_of_item leads.item t leads.begins) (first_element kind found (first_operator n leads)) follow
    no_end l t (first_element kind found (first_bracket phylum pfound bracketed)) follow =
        no_plain_end l open_bracket tt (first_element kind found (first_bracket phylum pfound bracketed)) follow
    no_end l t (first_element kind found (first_hole phylum pfound holes)) follow =
        let (k, there, same) = map_back plain_list def.lists l kind found in
        let (own, at, is) = map_back plain_phylum def.phyla kind.element phylum pfound in
        let (u, first) = trees kind.element own at in
        let named : own.name ≡ phylum.name = sym (ap (λ (j : Phylum). j.name) is) in
        let moves = subst (λ (x : List ℕ). Moves (a_hole x) u) named (in_place kind.element own u at first) in
        class.1 l u (first_behind (first_element k there (subst (λ (p : ℕ). First def p u) (ap (λ (j : ListKind). j.element) same) first)) (follow_moves (a_hole phylum.name) u moves (kinds.List l) (a_hole phylum.name) refl follow))

    list_end : (l : ℕ) (t : Terminal) → ListEnd Q l t → ⊥
    list_end l t (separator_behind kind found follow) =
        let (k, there, same) = map_back plain_list def.lists l kind found in
        let moved = follow_moves (fixed kind.separator) (fixed kind.separator) (stays (fixed kind.separator) tt) (kinds.List l) (fixed kind.separator) refl follow in
        class.1 l (fixed k.separator) (separator_behind k there (subst (λ (w : List ℕ). Follow def (kinds.List l) (fixed w)) (ap (λ (j : ListKind). j.separator) same) moved))
    list_end l t (first_behind first follow) = no_end l t first follow

    pub quiet_class : IsClass Q
    quiet_class = (((((((no_first, bad_form), no_bracket), mixed_level), same_first), same_led), led_follows), list_end)
