-- What may come after a step may come after what it took.
use Rattle.std.proofs.Common.{◌≡◌, inl, inr, ℕ, suc, max, ◌≤◌, Bool, true, false, List, [], ◌∷◌, ◌++◌, Option, Some, None, slice_get, refl, sym, ap, ◌∙◌, subst, append_assoc, append-nil, arith}
use Rattle.psg_terms.specs.Names.{Name, is_among}
use Rattle.psg_lexis.specs.Classes.{is_solo}
use Rattle.psg_grammar.specs.declared.types.Kind.TheVariants as kinds
use Rattle.psg_grammar.specs.declared.types.Item.{Item}
use Rattle.psg_grammar.specs.declared.types.Item.TheVariants as items
use Rattle.psg_grammar.specs.declared.types.Operator.{Operator}
use Rattle.psg_grammar.specs.declared.types.ListKind.{ListKind}
use Rattle.psg_grammar.specs.declared.types.Definition.{Definition}
use Rattle.psg_grammar.specs.Fragments.{Fragment, hole, ending, cell, operator, with_child}
use Rattle.psg_grammar.specs.Levels.{level_number, first_level}
use Rattle.psg_grammar.specs.WellFormed.{fixed_words}
use Rattle.psg_class.specs.Terminals.{Token, word, numeral, quoted, solo, symbols, placeholder, dots, Terminal, fixed, a_name, a_number, a_text, a_hole, a_more, fixed_if, is_run, is_word, word_terminal, terminal_of, item_terminal, close_bracket}
use Rattle.psg_class.specs.Places.{slot_level, solid}
use Rattle.psg_class.specs.Follow.{Led}
use Rattle.psg_class.specs.Yields.{TreeYields, of_hole, of_operator, in_brackets, PartsYield, no_items, of_word, of_refers, of_declares, of_number, of_text, of_slot, of_list_slot, no_elements, only_more, elements, SomeYield, last_element, and_more, and_elements}
use Rattle.psg_class.specs.Runs.{Reaches, start, grow, parts, list}
use Rattle.psg_class.specs.Machine.{Frame, then_grow, then_parts, then_close, then_list, behind_all, taken}
use Rattle.psg_class.proofs.ClassFacts.{ClassFacts}
use Rattle.psg_class.proofs.LevelLaws.{not_both, first_slot}
use Rattle.psg_parse.specs.Tables.{OpensHole, OpensBracket}
use Rattle.psg_parse.specs.Onward.{Aim, running, giving, Grows, as_it_is, by_led, RestYields, rest_end, rest_more, rest_next, MayGive, MayLeave}
use Rattle.psg_parse.proofs.Opens.{hole_token}

-- ---- tokens by their terminals

no_fixed_name : (b : Bool) (w : Name) → fixed_if b w ≡ a_name → ⊥
no_fixed_name true w e = cc
no_fixed_name false w e = cc

no_fixed_number : (b : Bool) (w : Name) → fixed_if b w ≡ a_number → ⊥
no_fixed_number true w e = cc
no_fixed_number false w e = cc

no_fixed_text : (b : Bool) (w : Name) → fixed_if b w ≡ a_text → ⊥
no_fixed_text true w e = cc
no_fixed_text false w e = cc

no_word_number : (a b : Bool) (w : Name) → word_terminal w a b ≡ a_number → ⊥
no_word_number true true w e = cc
no_word_number true false w e = cc
no_word_number false b w e = cc

no_word_text : (a b : Bool) (w : Name) → word_terminal w a b ≡ a_text → ⊥
no_word_text true true w e = cc
no_word_text true false w e = cc
no_word_text false b w e = cc

module _ (def : Definition) where
  pub name_token : (t : Token) → terminal_of def t ≡ a_name → (x : Name) × (t ≡ word x)
  name_token (word x) e = (x, refl)
  name_token (numeral n) e = absurd (let y : a_number ≡ a_name = e in cc)
  name_token (quoted w) e = absurd (let y : a_text ≡ a_name = e in cc)
  name_token (solo b) e = absurd (no_fixed_name (is_solo b) _ e)
  name_token (symbols w) e = absurd (no_fixed_name (is_run w) w e)
  name_token (placeholder w) e = absurd (let y : a_hole w ≡ a_name = e in cc)
  name_token dots e = absurd (let y : a_more ≡ a_name = e in cc)

  number_token : (t : Token) → terminal_of def t ≡ a_number → (x : ℕ) × (t ≡ numeral x)
  number_token (word x) e = absurd (no_word_number (is_word x) (is_among (fixed_words def) x) x e)
  number_token (numeral n) e = (n, refl)
  number_token (quoted w) e = absurd (let y : a_text ≡ a_number = e in cc)
  number_token (solo b) e = absurd (no_fixed_number (is_solo b) _ e)
  number_token (symbols w) e = absurd (no_fixed_number (is_run w) w e)
  number_token (placeholder w) e = absurd (let y : a_hole w ≡ a_number = e in cc)
  number_token dots e = absurd (let y : a_more ≡ a_number = e in cc)

  text_token : (t : Token) → terminal_of def t ≡ a_text → (x : Name) × (t ≡ quoted x)
  text_token (word x) e = absurd (no_word_text (is_word x) (is_among (fixed_words def) x) x e)
  text_token (numeral n) e = absurd (let y : a_number ≡ a_text = e in cc)
  text_token (quoted w) e = (w, refl)
  text_token (solo b) e = absurd (no_fixed_text (is_solo b) _ e)
  text_token (symbols w) e = absurd (no_fixed_text (is_run w) w e)
  text_token (placeholder w) e = absurd (let y : a_hole w ≡ a_text = e in cc)
  text_token dots e = absurd (let y : a_more ≡ a_text = e in cc)

  other : (terminal : Terminal) (t : Token) → Some terminal ≡ Some (terminal_of def t) → terminal_of def t ≡ terminal
  other terminal t h = let y : terminal ≡ terminal_of def t = cc in sym y

  -- an item that takes the token
  pub item_yields : (o : Operator) (first : Bool) (f : Fragment) (d : ℕ) (i : Item) (more : List Item) (g : Fragment) (e : ℕ) (own : List Token) (t : Token) → item_terminal i ≡ Some (terminal_of def t)
      → PartsYield def o false (taken i t f) d more g e own → PartsYield def o first f d (i ∷ more) g e (t ∷ own)
  item_yields o first f d (items.Word w) more g e own t h y = of_word t (other (fixed w) t h) y
  item_yields o first f d (items.Refers s) more g e own t h y =
      let (x, is) = name_token t (other a_name t h) in
      subst (λ z. terminal_of def z ≡ a_name → PartsYield def o false (taken (items.Refers s) z f) d more g e own → PartsYield def o first f d (items.Refers s ∷ more) g e (z ∷ own)) (sym is) (λ n. of_refers s x n) (other a_name t h) y
  item_yields o first f d (items.Declares s) more g e own t h y =
      let (x, is) = name_token t (other a_name t h) in
      subst (λ z. terminal_of def z ≡ a_name → PartsYield def o false (taken (items.Declares s) z f) d more g e own → PartsYield def o first f d (items.Declares s ∷ more) g e (z ∷ own)) (sym is) (λ n. of_declares s x n) (other a_name t h) y
  item_yields o first f d items.Number more g e own t h y =
      let (x, is) = number_token t (other a_number t h) in
      subst (λ z. PartsYield def o false (taken items.Number z f) d more g e own → PartsYield def o first f d (items.Number ∷ more) g e (z ∷ own)) (sym is) (of_number x) y
  item_yields o first f d items.Text more g e own t h y =
      let (x, is) = text_token t (other a_text t h) in
      subst (λ z. PartsYield def o false (taken items.Text z f) d more g e own → PartsYield def o first f d (items.Text ∷ more) g e (z ∷ own)) (sym is) (of_text x) y
  item_yields o first f d (items.Slot k) more g e own t h y = cc
  item_yields o first f d items.Space more g e own t h y = cc
  item_yields o first f d items.Tight more g e own t h y = cc
  item_yields o first f d items.Line more g e own t h y = cc
  item_yields o first f d items.In more g e own t h y = cc
  item_yields o first f d items.Out more g e own t h y = cc

module _ (def : Definition) (c : ClassFacts def) where
  -- ---- trees that grow

  own_slot : (p n : ℕ) (terminal : Terminal) (l : Led def p n terminal) → l.slot ≡ kinds.Phylum p
  own_slot p n terminal l = elim (c.begins n l.o l.found) [
    | inl t ↦ absurd (not_both l.o t l.slot (l.item ∷ l.more) l.items)
    | inr t ↦ (let e : items.Slot (kinds.Phylum l.o.phylum) ∷ t.item ∷ t.more ≡ items.Slot l.slot ∷ l.item ∷ l.more = sym t.items ∙ l.items in
        let k : kinds.Phylum l.o.phylum ≡ l.slot = cc in sym k ∙ ap kinds.Phylum l.phylum)
  ]

  led_yields : (p n : ℕ) (terminal : Terminal) (l : Led def p n terminal) (t : Fragment) (depth : ℕ) (front : List Token) → TreeYields def t p (first_level l.o.level) depth front
      → (f : Fragment) (d : ℕ) (own : List Token) → PartsYield def l.o false (with_child (operator n) t) (max 0 depth) (l.item ∷ l.more) f d own → (k : ℕ) → k ≤ level_number l.o.level → TreeYields def f p k d (front ++ own)
  led_yields p n terminal l t depth front y f d own z k h =
      let y' : TreeYields def t p (slot_level l.o (kinds.Phylum p) true (l.item ∷ l.more)) depth front = subst (λ x. TreeYields def t p x depth front) (sym (first_slot l.o p l.item l.more (sym l.phylum))) y in
      of_operator n l.o l.found l.phylum h (subst (λ x. PartsYield def l.o true (operator n) 0 x f d (front ++ own)) (sym (l.items ∙ ap (λ x. items.Slot x ∷ l.item ∷ l.more) (own_slot p n terminal l)))
      (of_slot t depth front own y' z))

  grown : (p m : ℕ) {f g : Fragment} {d e : ℕ} {level : Option ℕ} {own : List Token} → Grows def p m f d level own g e → (front : List Token) → ((k : ℕ) → Reaches k level → TreeYields def f p k d front) → Reaches m level
      → TreeYields def g p m e (front ++ own)
  grown p m (as_it_is {f = f} {d = d}) front y reach = subst (TreeYields def f p m d) (sym (append-nil front)) (y m reach)
  grown p m {g = g} {e = e} (by_led {f0 = f0} {f = f} {d0 = d0} {d = d} {own = own} {ts = us} n terminal l least reach x r) front y reach' =
      subst (TreeYields def g p m e) (append_assoc front own us) (grown p m r (front ++ own) (led_yields p n terminal l f0 d0 front (y (first_level l.o.level) reach) f d own x) least)

  module _ (F : Fragment) (D : ℕ) (st : List Frame) (us : List Token) where
    abbrev May : Aim → List Frame → List Token → Type 0
    May aim on ts = MayLeave def aim on ts F D

    pub after_hole : (p m : ℕ) (t : Token) → OpensHole def p (terminal_of def t) → May (running (grow p m (hole p) 0 None)) st us → May (running (start p m)) st (t ∷ us)
    after_hole p m t h (g, e, own, s, are, y, k) =
        let is : t ≡ placeholder h.phylum.name = hole_token def t h.phylum.name h.is in
        (g, e, t ∷ own, s, ap (λ z. t ∷ z) are, grown p m y (t ∷ []) (λ j r. subst (λ z. TreeYields def (hole p) p j 0 (z ∷ [])) (sym is) (of_hole h.phylum h.found h.holes)) tt, k)

    pub after_bracket : (p m : ℕ) (t : Token) → OpensBracket def p (terminal_of def t) → May (running (start p 0)) (then_close ∷ then_grow p m None ∷ st) us → May (running (start p m)) st (t ∷ us)
    after_bracket p m t h (f, d, one, s1, e1, y, (u, s2, e2, close, (g, e, two, s, e3, grows, k))) = (
      g,
      e,
      (t ∷ (one ++ u ∷ [])) ++ two,
      s,
      ap (λ z. t ∷ z) (e1 ∙ ap (λ z. one ++ z) (e2 ∙ ap (λ z. u ∷ z) e3) ∙ sym (append_assoc one (u ∷ []) (two ++ s)) ∙ sym (append_assoc (one ++ u ∷ []) two s)),
      grown p m grows (t ∷ (one ++ u ∷ [])) (λ j r. in_brackets h.phylum t u h.found h.bracketed h.is close y) tt,
      k,
    )

    pub after_leading : (p m : ℕ) (t : Token) (n : ℕ) (o : Operator) (item : Item) (more : List Item) → slice_get def.operators n ≡ Some o → o.phylum ≡ p → solid o.items ≡ item ∷ more
        → item_terminal item ≡ Some (terminal_of def t) → m ≤ level_number o.level
        → May (running (parts o false (taken item t (operator n)) 0 more)) (then_grow p m (Some (level_number o.level)) ∷ st) us → May (running (start p m)) st (t ∷ us)
    after_leading p m t n o item more found phylum are begins least (f, d, one, s1, e1, y, (g, e, two, s, e2, grows, k)) = (
      g,
      e,
      (t ∷ one) ++ two,
      s,
      ap (λ z. t ∷ z) (e1 ∙ ap (λ z. one ++ z) e2 ∙ sym (append_assoc one two s)),
      grown p m grows (t ∷ one) (λ j r. of_operator n o found phylum r (subst (λ z. PartsYield def o true (operator n) 0 z f d (t ∷ one)) (sym are) (item_yields def o true (operator n) 0 item more f d one t begins y))) least,
      k,
    )

    pub after_led : (p m : ℕ) (f0 : Fragment) (d0 : ℕ) (level : Option ℕ) (t : Token) (n : ℕ) (l : Led def p n (terminal_of def t)) → m ≤ level_number l.o.level → Reaches (first_level l.o.level) level
        → May (running (parts l.o false (taken l.item t (with_child (operator n) f0)) (max 0 d0) l.more)) (then_grow p m (Some (level_number l.o.level)) ∷ st) us → May (running (grow p m f0 d0 level)) st (t ∷ us)
    after_led p m f0 d0 level t n l least reach (f, d, one, s1, e1, y, (g, e, two, s, e2, grows, k)) = (
      g,
      e,
      (t ∷ one) ++ two,
      s,
      ap (λ z. t ∷ z) (e1 ∙ ap (λ z. one ++ z) e2 ∙ sym (append_assoc one two s)),
      by_led n (terminal_of def t) l least reach (item_yields def l.o false (with_child (operator n) f0) (max 0 d0) l.item l.more f d one t l.begins y) grows,
      k,
    )

    pub after_growing : (p m : ℕ) (f : Fragment) (d : ℕ) (level : Option ℕ) → May (giving f d) st us → May (running (grow p m f d level)) st us
    after_growing p m f d level k = (f, d, [], us, refl, as_it_is, k)

    pub after_items : (o : Operator) (f : Fragment) (d : ℕ) → May (giving f d) st us → May (running (parts o false f d [])) st us
    after_items o f d k = (f, d, [], us, refl, no_items, k)

    pub after_item : (o : Operator) (f : Fragment) (d : ℕ) (i : Item) (more : List Item) (t : Token) → item_terminal i ≡ Some (terminal_of def t)
        → May (running (parts o false (taken i t f) d more)) st us → May (running (parts o false f d (i ∷ more))) st (t ∷ us)
    after_item o f d i more t h (g, e, own, s, are, y, k) = (g, e, t ∷ own, s, ap (λ z. t ∷ z) are, item_yields def o false f d i more g e own t h y, k)

    pub after_slot : (o : Operator) (f : Fragment) (d : ℕ) (q : ℕ) (more : List Item) → May (running (start q (slot_level o (kinds.Phylum q) false more))) (then_parts o f d more ∷ st) us
        → May (running (parts o false f d (items.Slot (kinds.Phylum q) ∷ more))) st us
    after_slot o f d q more (t, depth, one, s1, e1, y, (g, e, two, s, e2, z, k)) = (g, e, one ++ two, s, e1 ∙ ap (λ x. one ++ x) e2 ∙ sym (append_assoc one two s), of_slot t depth one two y z, k)

    pub after_list_slot : (o : Operator) (f : Fragment) (d : ℕ) (l : ℕ) (more : List Item) → May (running (list l)) (then_parts o f d more ∷ st) us → May (running (parts o false f d (items.Slot (kinds.List l) ∷ more))) st us
    after_list_slot o f d l more (t, depth, one, s1, e1, y, (g, e, two, s, e2, z, k)) = (g, e, one ++ two, s, e1 ∙ ap (λ x. one ++ x) e2 ∙ sym (append_assoc one two s), of_list_slot t depth one two y z, k)

    pub after_close : (f : Fragment) (d : ℕ) (u : Token) → terminal_of def u ≡ close_bracket → May (giving f (suc d)) st us → May (giving f d) (then_close ∷ st) (u ∷ us)
    after_close f d u is k = (u, us, refl, is, k)

    -- ---- lists

    zero_last : (a : ℕ) → max a 0 ≡ a
    zero_last a = omega arith

    zero_first : (a : ℕ) → max 0 a ≡ a
    zero_first a = omega arith

    last_zero : (a b : ℕ) → max a b ≡ max a (max b 0)
    last_zero a b = omega arith

    in_turn : (a b x : ℕ) → max (max a b) x ≡ max a (max b x)
    in_turn a b x = omega arith

    some_of : (l : ℕ) (kind : ListKind) → slice_get def.lists l ≡ Some kind → (x : Fragment) (d : ℕ) (own : List Token) → TreeYields def x kind.element 0 d own → (rest : List Token) (r : Fragment) (n : ℕ) → RestYields def l rest r n
        → SomeYield def (cell l x r) l (max d n) (own ++ rest)
    some_of l kind found x d own y rest r n (rest_end other found') =
        subst (λ z. SomeYield def (cell l x (ending l false)) l z (own ++ [])) (sym (zero_last d)) (subst (SomeYield def (cell l x (ending l false)) l d) (sym (append-nil own)) (last_element kind found y))
    some_of l kind found x d own y rest r n (rest_more other t found' unfinished is) =
        let same : other ≡ kind = (let z : Some other ≡ Some kind = sym found' ∙ found in cc) in
        subst (λ z. SomeYield def (cell l x (ending l true)) l z (own ++ t ∷ dots ∷ [])) (sym (zero_last d)) (and_more own kind t found (subst (λ z. z.unfinished ≡ true) same unfinished) (subst (λ z. terminal_of def t ≡ fixed z.separator) same is) y)
    some_of l kind found x d own y rest r n (rest_next {ts = ts} other t found' is z) =
        let same : other ≡ kind = (let w : Some other ≡ Some kind = sym found' ∙ found in cc) in
        and_elements kind d n own ts t found (subst (λ w. terminal_of def t ≡ fixed w.separator) same is) y z

    pub after_none : (l : ℕ) (kind : ListKind) → slice_get def.lists l ≡ Some kind → May (giving (ending l false) 0) st us → May (running (list l)) st us
    after_none l kind found k = (ending l false, 0, [], us, refl, no_elements kind found, k)

    pub after_only_more : (l : ℕ) (kind : ListKind) → slice_get def.lists l ≡ Some kind → kind.unfinished ≡ true → May (giving (ending l true) 0) st us → May (running (list l)) st (dots ∷ us)
    after_only_more l kind found unfinished k = (ending l true, 0, dots ∷ [], us, refl, only_more kind found unfinished, k)

    pub after_some : (l : ℕ) (kind : ListKind) → slice_get def.lists l ≡ Some kind → May (running (start kind.element 0)) (then_list l [] 0 ∷ st) us → May (running (list l)) st us
    after_some l kind found (x, d, one, s1, e1, y, (r, n, two, s, e2, z, k)) = (
      cell l x r,
      max d n,
      one ++ two,
      s,
      e1 ∙ ap (λ w. one ++ w) e2 ∙ sym (append_assoc one two s),
      elements (some_of l kind found x d one y two r n z),
      subst (λ w. MayGive def st (cell l x r) w s F D) (zero_first (max d n)) k,
    )

    pub after_last : (l : ℕ) (kind : ListKind) → slice_get def.lists l ≡ Some kind → (before : List Fragment) (d : ℕ) (x : Fragment) (n : ℕ)
        → May (giving (behind_all l before (cell l x (ending l false))) (max d n)) st us → May (giving x n) (then_list l before d ∷ st) us
    after_last l kind found before d x n k = (ending l false, 0, [], us, refl, rest_end kind found, subst (λ w. MayGive def st (behind_all l before (cell l x (ending l false))) w us F D) (last_zero d n) k)

    pub after_dots : (l : ℕ) (kind : ListKind) → slice_get def.lists l ≡ Some kind → kind.unfinished ≡ true → (before : List Fragment) (d : ℕ) (x : Fragment) (n : ℕ) (t : Token) → terminal_of def t ≡ fixed kind.separator
        → May (giving (behind_all l before (cell l x (ending l true))) (max d n)) st us → May (giving x n) (then_list l before d ∷ st) (t ∷ dots ∷ us)
    after_dots l kind found unfinished before d x n t is k =
        (ending l true, 0, t ∷ dots ∷ [], us, refl, rest_more kind t found unfinished is, subst (λ w. MayGive def st (behind_all l before (cell l x (ending l true))) w us F D) (last_zero d n) k)

    pub after_next : (l : ℕ) (kind : ListKind) → slice_get def.lists l ≡ Some kind → (before : List Fragment) (d : ℕ) (x : Fragment) (n : ℕ) (t : Token) → terminal_of def t ≡ fixed kind.separator
        → May (running (start kind.element 0)) (then_list l (x ∷ before) (max d n) ∷ st) us → May (giving x n) (then_list l before d ∷ st) (t ∷ us)
    after_next l kind found before d x n t is (x2, d2, one, s1, e1, y, (r, n2, two, s, e2, z, k)) = (
      cell l x2 r,
      max d2 n2,
      t ∷ (one ++ two),
      s,
      ap (λ w. t ∷ w) (e1 ∙ ap (λ w. one ++ w) e2 ∙ sym (append_assoc one two s)),
      rest_next kind t found is (some_of l kind found x2 d2 one y two r n2 z),
      subst (λ w. MayGive def st (behind_all l before (cell l x (cell l x2 r))) w s F D) (in_turn d n (max d2 n2)) k,
    )
