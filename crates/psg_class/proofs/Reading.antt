-- Each tree is read from its tokens, whatever can follow stands behind them.
use Rattle.std.proofs.Common.{◌≡◌, ◌⊎◌, inl, inr, ℕ, max, ◌≤◌, Bool, true, false, List, [], ◌∷◌, ◌++◌, Option, Some, None, slice_get, refl, sym, ap, ◌∙◌, subst, arith, append_assoc}
use Rattle.std.proofs.lemmas.Bool.{cases_Bool}
use Rattle.psg_grammar.specs.declared.types.Kind.{Kind}
use Rattle.psg_grammar.specs.declared.types.Kind.TheVariants as kinds
use Rattle.psg_grammar.specs.declared.types.Item.{Item}
use Rattle.psg_grammar.specs.declared.types.Item.TheVariants as items
use Rattle.psg_grammar.specs.declared.types.Operator.{Operator}
use Rattle.psg_grammar.specs.declared.types.ListKind.{ListKind}
use Rattle.psg_grammar.specs.declared.types.Phylum.{Phylum}
use Rattle.psg_grammar.specs.declared.types.Definition.{Definition}
use Rattle.psg_grammar.specs.Fragments.{Fragment, operator, with_child, with_name, with_number, with_text}
use Rattle.psg_class.specs.Terminals.{close_bracket, Token, dots, Terminal, fixed, terminal_of, item_terminal, next_terminal}
use Rattle.psg_grammar.specs.Levels.{level_number, first_level, last_level}
use Rattle.psg_class.specs.Places.{slot_level, solid, is_own_last}
use Rattle.psg_class.specs.Follow.{Leads, Led, FirstOfList, Inside, Follow, by_rest, by_end, by_led, by_separator, by_list, by_bracket}
use Rattle.psg_class.proofs.ClassFacts.{TokenFirst, OwnFirst, OwnLast, ClassFacts}
use Rattle.psg_class.specs.Yields.{TreeYields, of_hole, of_operator, in_brackets, PartsYield, no_items, of_word, of_refers, of_declares, of_number, of_text, of_slot, of_list_slot, ListYields, no_elements, only_more, elements, SomeYield, last_element, and_more, and_elements}
use Rattle.psg_class.proofs.LevelLaws.{led_first, no_token, clash, first_slot, LastSlot, last_slot, last_at_least}
use Rattle.psg_class.specs.Runs.{Reaches, start, grow, parts, list, some_list, Stops, Run, run_hole, run_bracket, run_leading, run_stop, run_led, run_end, run_word, run_refers, run_declares, run_number, run_text, run_slot, run_list_slot, run_none, run_only_more, run_some, run_last, run_more, run_next}
use Rattle.psg_class.proofs.Beginnings.{Head, head_of, goes_parts}

below : (m n : ℕ) (level : Option ℕ) → m ≤ n → Reaches n level → Reaches m level
below m n None h r = tt
below m n (Some k) h r = omega (arith, h, r)

-- where an item stands in its operator
abbrev Place : Operator → Bool → List Item → Type 0
Place o true more = (i : Item) × (terminal : Terminal) × (behind : List Item) × (more ≡ i ∷ behind) × (item_terminal i ≡ Some terminal) × (solid o.items ≡ more)
Place o false more = (i : Item) × (front : List Item) × (solid o.items ≡ i ∷ (front ++ more))

place_next : (o : Operator) (first : Bool) (i : Item) (more : List Item) → Place o first (i ∷ more) → Place o false more
place_next o true i more (j, terminal, behind, e, m, is) = (i, [], is)
place_next o false i more (j, front, is) = (j, front ++ i ∷ [], is ∙ ap (λ x. j ∷ x) (sym (append_assoc front (i ∷ []) more)))

module _ (def : Definition) (c : ClassFacts def) where
  -- what can stand behind a tree of the phylum with this level
  abbrev pub After : ℕ → Option ℕ → List Token → Type 0
  After p level rest = (terminal : Terminal) → next_terminal def rest ≡ Some terminal → Follow def (kinds.Phylum p) terminal ⊎ ((n : ℕ) × (l : Led def p n terminal) × Reaches (first_level l.o.level) level)

  -- what can stand behind a tree of the kind where it is no end of an operator of the own phylum
  abbrev pub Follows : Kind → List Token → Type 0
  Follows kind rest = (terminal : Terminal) → next_terminal def rest ≡ Some terminal → Follow def kind terminal

  pub record TreeRuns (f : Fragment) (p least d : ℕ) (ts : List Token) : Type 0 where
    pub level : Option ℕ
    pub reaches : Reaches least level
    pub runs : (m : ℕ) (rest : List Token) (g : Fragment) (e : ℕ) (s : List Token) → Reaches m level → After p level rest → Run def (grow p m f d level) rest g e s → Run def (start p m) (ts ++ rest) g e s

  stops : (p m : ℕ) (rest : List Token) → Follows (kinds.Phylum p) rest → Stops def p m rest
  stops p m rest follow n terminal l e h = c.led_follows p n terminal l (follow terminal e)

  -- a tree that is followed by what Follow says
  pub read_tree : (f : Fragment) (p m d : ℕ) (ts : List Token) → TreeRuns f p m d ts → (rest : List Token) → Follows (kinds.Phylum p) rest → Run def (start p m) (ts ++ rest) f d rest
  read_tree f p m d ts t rest follow = t.runs m rest f d rest t.reaches (λ terminal e. inl (follow terminal e)) (run_stop (stops p m rest follow))

  -- of two led operators with the same token there is one
  led_same : (p n m : ℕ) (terminal : Terminal) (a : Led def p n terminal) (b : Led def p m terminal) → a.o ≡ b.o
  led_same p n m terminal a b = let e : Some a.o ≡ Some b.o = sym a.found ∙ ap (λ x. slice_get def.operators x) (c.same_led p n m terminal a b) ∙ b.found in cc

  -- behind an own slot at the last place
  stops_last : (n : ℕ) (o : Operator) → slice_get def.operators n ≡ Some o → OwnLast o → (rest : List Token) → After o.phylum (Some (level_number o.level)) rest → Stops def o.phylum (last_level o.level) rest
  stops_last n o found last rest after m terminal l e h = elim (after terminal e) [
    | inl f ↦ c.led_follows o.phylum m terminal l f
    | inr x ↦ clash def c n o found last m terminal l (subst (λ q. first_level q.level ≤ level_number o.level) (led_same o.phylum x.0 m terminal x.1 l) x.2) h
  ]

  after_last : (n : ℕ) (o : Operator) → slice_get def.operators n ≡ Some o → OwnLast o → (level : Option ℕ) → Reaches (last_level o.level) level → (rest : List Token) → After o.phylum (Some (level_number o.level)) rest → After o.phylum level rest
  after_last n o found last level h rest after terminal e = elim (after terminal e) [
    | inl f ↦ inl f
    | inr x ↦ inr (x.0, x.1, below (first_level x.1.o.level) (last_level o.level) level (let k : level_number o.level ≤ last_level o.level = last_at_least o o.level (c.forms n o found) last in omega (arith, k, x.2)) h)
  ]

  -- a slot of the operator n behind its first item
  record Slot (n : ℕ) (o : Operator) (kind : Kind) (more : List Item) : Type 0 where
    pub found : slice_get def.operators n ≡ Some o
    pub first : Item
    pub front : List Item
    pub items : solid o.items ≡ first ∷ (front ++ items.Slot kind ∷ more)

  -- where it is not the own slot at the last place
  slot_follows : (n : ℕ) (o : Operator) (kind : Kind) (more : List Item) → Slot n o kind more → is_own_last o kind more ≡ false
      → (d e : ℕ) (f g : Fragment) (behind : List Token) → PartsYield def o false f d more g e behind → (rest : List Token) → After o.phylum (Some (level_number o.level)) rest → Follows kind (behind ++ rest)
  slot_follows n o kind more place other d e f g behind y rest after terminal h =
      let inside : Inside def n kind more = record { o = o; found = place.found; first = place.first; front = place.front; items = place.items } in
      elim (goes_parts def c o false f d more g e behind y rest terminal h) [
        | inl b ↦ by_rest n more inside b
        | inr b ↦ (elim (after terminal b.1) [
          | inl a ↦ by_end n more inside b.0 other a
          | inr a ↦ by_led n more inside b.0 other a.0 a.1
        ])
      ]

  -- nothing stands behind the last item
  no_behind : (o : Operator) (d e : ℕ) (f g : Fragment) (more : List Item) (behind : List Token) → PartsYield def o false f d more g e behind → more ≡ [] → behind ≡ []
  no_behind o d e f g more behind no_items h = refl
  no_behind o d e f g more behind (of_word {more = more'} {w = w} t is y) h = absurd (let x : items.Word w ∷ more' ≡ [] = h in cc)
  no_behind o d e f g more behind (of_refers {more = more'} space x' is y) h = absurd (let x : items.Refers space ∷ more' ≡ [] = h in cc)
  no_behind o d e f g more behind (of_declares {more = more'} space x' is y) h = absurd (let x : items.Declares space ∷ more' ≡ [] = h in cc)
  no_behind o d e f g more behind (of_number {more = more'} x' y) h = absurd (let x : items.Number ∷ more' ≡ [] = h in cc)
  no_behind o d e f g more behind (of_text {more = more'} x' y) h = absurd (let x : items.Text ∷ more' ≡ [] = h in cc)
  no_behind o d e f g more behind (of_slot {more = more'} {p = p} t depth own behind' y z) h = absurd (let x : items.Slot (kinds.Phylum p) ∷ more' ≡ [] = h in cc)
  no_behind o d e f g more behind (of_list_slot {more = more'} {l = l} t depth own behind' y z) h = absurd (let x : items.Slot (kinds.List l) ∷ more' ≡ [] = h in cc)

  -- the place of a slot, from the place of its item
  slot_place : (n : ℕ) (o : Operator) → slice_get def.operators n ≡ Some o → (first : Bool) (kind : Kind) (more : List Item) → Place o first (items.Slot kind ∷ more) → (first ≡ false) × Slot n o kind more
  slot_place n o found true kind more (i, terminal, behind, e, m, is) = absurd (no_token i terminal kind m cc)
  slot_place n o found false kind more (i, front, is) = (refl, record { found = found; first = i; front = front; items = is })

  -- a tree in a slot is read
  reads_slot : (n : ℕ) (o : Operator) → slice_get def.operators n ≡ Some o → (first : Bool) (q : ℕ) (more : List Item) → Place o first (items.Slot (kinds.Phylum q) ∷ more)
      → (t : Fragment) (depth : ℕ) (own : List Token) → TreeRuns t q (slot_level o (kinds.Phylum q) first more) depth own
      → (d e : ℕ) (f g : Fragment) (behind : List Token) → PartsYield def o false f d more g e behind → (rest : List Token) → After o.phylum (Some (level_number o.level)) rest
      → Run def (start q (slot_level o (kinds.Phylum q) first more)) (own ++ (behind ++ rest)) t depth (behind ++ rest)
  reads_slot n o found first q more place t depth own runs d e f g behind y rest after =
      let s : (first ≡ false) × Slot n o (kinds.Phylum q) more = slot_place n o found first (kinds.Phylum q) more place in
      elim (cases_Bool (is_own_last o (kinds.Phylum q) more)) [
        | inr other ↦ read_tree t q _ depth own runs (behind ++ rest) (slot_follows n o (kinds.Phylum q) more s.1 other d e f g behind y rest after)
        | inl own_last ↦ at_last s (last_slot o (kinds.Phylum q) more own_last)
      ] where
        at_last : (first ≡ false) × Slot n o (kinds.Phylum q) more → LastSlot o (kinds.Phylum q) more → Run def (start q (slot_level o (kinds.Phylum q) first more)) (own ++ (behind ++ rest)) t depth (behind ++ rest)
        at_last s l =
            let same : q ≡ o.phylum = (let x : kinds.Phylum q ≡ kinds.Phylum o.phylum = l.own in cc) in
            let level : slot_level o (kinds.Phylum q) first more ≡ last_level o.level = subst (λ b. slot_level o (kinds.Phylum q) b more ≡ last_level o.level) (sym s.0) l.level in
            let nothing : behind ++ rest ≡ rest = ap (λ x. x ++ rest) (no_behind o d e f g more behind y l.last) in
            let last : OwnLast o = record { front = s.1.first ∷ s.1.front; items = s.1.items ∙ ap (λ x. s.1.first ∷ (s.1.front ++ x)) (ap (λ x. items.Slot (kinds.Phylum q) ∷ x) l.last ∙ ap (λ k. items.Slot k ∷ []) l.own) } in
            let after' : After q runs.level (behind ++ rest) = subst (λ x. After q runs.level x) (sym nothing) (subst (λ x. After x runs.level rest) (sym same) (after_last n o found last runs.level (subst (λ x. Reaches x runs.level) level runs.reaches) rest after)) in
            let stop : Stops def q (slot_level o (kinds.Phylum q) first more) (behind ++ rest) =
            subst (λ x. Stops def q (slot_level o (kinds.Phylum q) first more) x) (sym nothing) (subst (λ x. Stops def q x rest) (sym level) (subst (λ x. Stops def x (last_level o.level) rest) (sym same) (stops_last n o found last rest after))) in
            runs.runs (slot_level o (kinds.Phylum q) first more) (behind ++ rest) t depth (behind ++ rest) runs.reaches after' (run_stop stop)

  -- the first slot of a led operator, and the items behind it
  pub record LedRuns (n : ℕ) (o : Operator) (f : Fragment) (d : ℕ) (more : List Item) (g : Fragment) (e : ℕ) (ts : List Token) : Type 0 where
    pub child : Fragment
    pub depth : ℕ
    pub own : List Token
    pub behind : List Token
    pub are : ts ≡ own ++ behind
    pub tree : TreeRuns child o.phylum (first_level o.level) depth own
    pub yields : PartsYield def o false (with_child f child) (max d depth) more g e behind
    pub runs : (rest : List Token) → After o.phylum (Some (level_number o.level)) rest → Run def (parts o false (with_child f child) (max d depth) more) (behind ++ rest) g e rest

  -- a list with an element is none of the other lists
  open_list : (l : ℕ) (rest : List Token) → Follows (kinds.List l) rest → (terminal : Terminal) → next_terminal def rest ≡ Some terminal → FirstOfList def l terminal → ⊥
  open_list l rest follow terminal e first = c.list_end l terminal first (follow terminal e)

  closed : (l : ℕ) (kind : ListKind) → slice_get def.lists l ≡ Some kind → (rest : List Token) → Follows (kinds.List l) rest → next_terminal def rest ≡ Some (fixed kind.separator) → ⊥
  closed l kind found rest follow e = c.separator_end l kind found (follow (fixed kind.separator) e)

  element_follows : (l : ℕ) (kind : ListKind) → slice_get def.lists l ≡ Some kind → (rest : List Token) → Follows (kinds.List l) rest → Follows (kinds.Phylum kind.element) rest
  element_follows l kind found rest follow terminal e = by_list l kind found refl (follow terminal e)

  separator_follows : (l : ℕ) (kind : ListKind) → slice_get def.lists l ≡ Some kind → (t : Token) (rest : List Token) → terminal_of def t ≡ fixed kind.separator → Follows (kinds.Phylum kind.element) (t ∷ rest)
  separator_follows l kind found t rest is terminal e = let x : Some (terminal_of def t) ≡ Some terminal = e in by_separator l kind found refl (let y : terminal_of def t ≡ terminal = cc in sym y ∙ is)

  bracket_follows : (p : ℕ) (phylum : Phylum) → slice_get def.phyla p ≡ Some phylum → phylum.bracketed ≡ true → (u : Token) (rest : List Token) → terminal_of def u ≡ close_bracket → Follows (kinds.Phylum p) (u ∷ rest)
  bracket_follows p phylum found bracketed u rest is terminal e = let x : Some (terminal_of def u) ≡ Some terminal = e in by_bracket phylum found bracketed (let y : terminal_of def u ≡ terminal = cc in sym y ∙ is)

  -- an operator that begins with a token
  leading_runs : (n : ℕ) (o : Operator) → slice_get def.operators n ≡ Some o → TokenFirst o → (f : Fragment) (d : ℕ) (ts : List Token) → PartsYield def o true (operator n) 0 (solid o.items) f d ts
      → ((rest : List Token) → Place o true (solid o.items) → After o.phylum (Some (level_number o.level)) rest → Run def (parts o true (operator n) 0 (solid o.items)) (ts ++ rest) f d rest)
      → (m : ℕ) (rest : List Token) (g : Fragment) (e : ℕ) (s : List Token) → m ≤ level_number o.level → After o.phylum (Some (level_number o.level)) rest
      → Run def (grow o.phylum m f d (Some (level_number o.level))) rest g e s → Run def (start o.phylum m) (ts ++ rest) g e s
  leading_runs n o found t f d ts y reads m rest g e s h after more =
      let head : Head def t.terminal ts = head_of def o true (operator n) 0 (solid o.items) f d ts y t.item t.more t.terminal t.items t.begins in
      let l : Leads def o.phylum n (terminal_of def head.token) = record { o = o; found = found; phylum = refl; item = t.item; more = t.more; items = t.items; begins = t.begins ∙ ap Some (sym head.begins) } in
      let whole : Run def (parts o true (operator n) 0 (solid o.items)) (ts ++ rest) f d rest = reads rest (t.item, t.terminal, t.more, t.items, t.begins, refl) after in
      let own : Run def (parts o true (operator n) 0 (t.item ∷ t.more)) (head.token ∷ (head.rest ++ rest)) f d rest =
      subst (λ x. Run def (parts o true (operator n) 0 (t.item ∷ t.more)) (x ++ rest) f d rest) head.are (subst (λ x. Run def (parts o true (operator n) 0 x) (ts ++ rest) f d rest) t.items whole) in
      let all : Run def (start o.phylum m) (head.token ∷ (head.rest ++ rest)) g e s = run_leading f d rest n l h own more in
      subst (λ x. Run def (start o.phylum m) (x ++ rest) g e s) (sym head.are) all

  -- an operator that begins with a slot
  led_runs : (n : ℕ) (o : Operator) → slice_get def.operators n ≡ Some o → (t : OwnFirst o) (f : Fragment) (d : ℕ) (ts : List Token) → LedRuns n o (operator n) 0 (t.item ∷ t.more) f d ts
      → (m : ℕ) (rest : List Token) (g : Fragment) (e : ℕ) (s : List Token) → m ≤ level_number o.level → After o.phylum (Some (level_number o.level)) rest
      → Run def (grow o.phylum m f d (Some (level_number o.level))) rest g e s → Run def (start o.phylum m) (ts ++ rest) g e s
  led_runs n o found t f d ts v m rest g e s h after more =
      let head : Head def t.terminal v.behind = head_of def o false (with_child (operator n) v.child) (max 0 v.depth) (t.item ∷ t.more) f d v.behind v.yields t.item t.more t.terminal refl t.begins in
      let l : Led def o.phylum n (terminal_of def head.token) = record { o = o; found = found; phylum = refl; slot = kinds.Phylum o.phylum; item = t.item; more = t.more; items = t.items; begins = t.begins ∙ ap Some (sym head.begins) } in
      let own : Run def (parts o false (with_child (operator n) v.child) (max 0 v.depth) (t.item ∷ t.more)) (head.token ∷ (head.rest ++ rest)) f d rest =
      subst (λ x. Run def (parts o false (with_child (operator n) v.child) (max 0 v.depth) (t.item ∷ t.more)) (x ++ rest) f d rest) head.are (v.runs rest after) in
      let steps : Run def (grow o.phylum m v.child v.depth v.tree.level) (head.token ∷ (head.rest ++ rest)) g e s = run_led f d rest n l h v.tree.reaches own more in
      let steps' : Run def (grow o.phylum m v.child v.depth v.tree.level) (v.behind ++ rest) g e s = subst (λ x. Run def (grow o.phylum m v.child v.depth v.tree.level) (x ++ rest) g e s) (sym head.are) steps in
      let after' : After o.phylum v.tree.level (v.behind ++ rest) = subst (λ x. After o.phylum v.tree.level (x ++ rest)) (sym head.are) (λ terminal e'. inr (led_after head terminal e')) in
      let all : Run def (start o.phylum m) (v.own ++ (v.behind ++ rest)) g e s = v.tree.runs m (v.behind ++ rest) g e s (below m (first_level o.level) v.tree.level (let k : level_number o.level ≤ first_level o.level = led_first o o.level (c.forms n o found) (kinds.Phylum o.phylum) (t.item ∷ t.more) t.items in omega (arith, h, k)) v.tree.reaches) after' steps' in
      subst (λ x. Run def (start o.phylum m) x g e s) (sym (append_assoc v.own v.behind rest) ∙ ap (λ x. x ++ rest) (sym v.are)) all
    where
      led_after : (head : Head def t.terminal v.behind) (terminal : Terminal) → next_terminal def (head.token ∷ (head.rest ++ rest)) ≡ Some terminal → (k : ℕ) × (l : Led def o.phylum k terminal) × Reaches (first_level l.o.level) v.tree.level
      led_after head terminal e' =
          let same : terminal_of def head.token ≡ terminal = (let x : Some (terminal_of def head.token) ≡ Some terminal = e' in cc) in
          (n, record { o = o; found = found; phylum = refl; slot = kinds.Phylum o.phylum; item = t.item; more = t.more; items = t.items; begins = t.begins ∙ ap Some (sym head.begins ∙ same) }, v.tree.reaches)

  -- the parts of LedRuns
  led_of : (n : ℕ) (o : Operator) (first : Bool) (f : Fragment) (d : ℕ) (more : List Item) (g : Fragment) (e : ℕ) (q : ℕ) (t : Fragment) (depth : ℕ) (own behind : List Token)
      → TreeRuns t q (slot_level o (kinds.Phylum q) first more) depth own → PartsYield def o false (with_child f t) (max d depth) more g e behind
      → ((rest : List Token) → After o.phylum (Some (level_number o.level)) rest → Run def (parts o false (with_child f t) (max d depth) more) (behind ++ rest) g e rest)
      → first ≡ true → (i : Item) (rest : List Item) → items.Slot (kinds.Phylum q) ∷ more ≡ items.Slot (kinds.Phylum o.phylum) ∷ i ∷ rest → LedRuns n o f d (i ∷ rest) g e (own ++ behind)
  led_of n o first f d more g e q t depth own behind tree z runs is i rest h =
      let same : q ≡ o.phylum = cc in
      let tail : more ≡ i ∷ rest = cc in
      record {
        child = t;
        depth = depth;
        own = own;
        behind = behind;
        are = refl;
        tree = subst (λ x. TreeRuns t x (first_level o.level) depth own) same
            (subst (λ x. TreeRuns t q x depth own) (first_slot o q i rest same) (subst (λ x. TreeRuns t q (slot_level o (kinds.Phylum q) true x) depth own) tail (subst (λ x. TreeRuns t q (slot_level o (kinds.Phylum q) x more) depth own) is tree)));
        yields = subst (λ x. PartsYield def o false (with_child f t) (max d depth) x g e behind) tail z;
        runs = λ us after. subst (λ x. Run def (parts o false (with_child f t) (max d depth) x) (behind ++ us) g e us) tail (runs us after);
      }

  mutual
    pub tree_runs : (f : Fragment) (p level d : ℕ) (ts : List Token) → TreeYields def f p level d ts → TreeRuns f p level d ts
    tree_runs f p level d ts (of_hole phylum found isopen) = record { level = None; reaches = tt; runs = λ m rest g e s h after more. run_hole phylum found isopen refl more }
    tree_runs f p level d ts (in_brackets {depth = inner} {ts = us} phylum t u found bracketed is is' y) = record {
      level = None;
      reaches = tt;
      runs = λ m rest g e s h after more. run_bracket f inner rest phylum u found bracketed is is'
          (subst (λ x. Run def (start p 0) x f inner (u ∷ rest)) (sym (append_assoc us (u ∷ []) rest)) (read_tree f p 0 inner us (tree_runs f p 0 inner us y) (u ∷ rest) (bracket_follows p phylum found bracketed u rest is'))) more;
    }
    tree_runs f p level d ts (of_operator n o found is h y) = record {
      level = Some (level_number o.level);
      reaches = h;
      runs = λ m rest g e s hm after more. subst (λ q. Run def (start q m) (ts ++ rest) g e s) is (elim (c.begins n o found) [
        | inl t ↦ leading_runs n o found t f d ts y (λ rest' place after'. parts_run n o found true (operator n) 0 (solid o.items) f d ts y place rest' after')
            m rest g e s hm (subst (λ q. After q (Some (level_number o.level)) rest) (sym is) after) (subst (λ q. Run def (grow q m f d (Some (level_number o.level))) rest g e s) (sym is) more)
        | inr t ↦ led_runs n o found t f d ts (parts_led n o found true (operator n) 0 (solid o.items) f d ts y refl t.item t.more t.items refl)
            m rest g e s hm (subst (λ q. After q (Some (level_number o.level)) rest) (sym is) after) (subst (λ q. Run def (grow q m f d (Some (level_number o.level))) rest g e s) (sym is) more)
      ]);
    }

    pub parts_run : (n : ℕ) (o : Operator) → slice_get def.operators n ≡ Some o → (first : Bool) (f : Fragment) (d : ℕ) (more : List Item) (g : Fragment) (e : ℕ) (ts : List Token) → PartsYield def o first f d more g e ts
        → Place o first more → (rest : List Token) → After o.phylum (Some (level_number o.level)) rest → Run def (parts o first f d more) (ts ++ rest) g e rest
    parts_run n o found first f d more g e ts no_items place rest after = run_end
    parts_run n o found first f d more g e ts (of_word {more = more'} {ts = us} {w = w} t is y) place rest after = run_word t is (parts_run n o found false f d more' g e us y (place_next o first (items.Word w) more' place) rest after)
    parts_run n o found first f d more g e ts (of_refers {more = more'} {ts = us} space x is y) place rest after = run_refers space x is (parts_run n o found false (with_name f x) d more' g e us y (place_next o first (items.Refers space) more' place) rest after)
    parts_run n o found first f d more g e ts (of_declares {more = more'} {ts = us} space x is y) place rest after = run_declares space x is (parts_run n o found false (with_name f x) d more' g e us y (place_next o first (items.Declares space) more' place) rest after)
    parts_run n o found first f d more g e ts (of_number {more = more'} {ts = us} x y) place rest after = run_number x (parts_run n o found false (with_number f x) d more' g e us y (place_next o first items.Number more' place) rest after)
    parts_run n o found first f d more g e ts (of_text {more = more'} {ts = us} x y) place rest after = run_text x (parts_run n o found false (with_text f x) d more' g e us y (place_next o first items.Text more' place) rest after)
    parts_run n o found first f d more g e ts (of_slot {more = more'} {p = q} t depth own behind y z) place rest after =
        subst (λ x. Run def (parts o first f d (items.Slot (kinds.Phylum q) ∷ more')) x g e rest) (sym (append_assoc own behind rest))
        (run_slot t depth (behind ++ rest) (reads_slot n o found first q more' place t depth own (tree_runs t q (slot_level o (kinds.Phylum q) first more') depth own y) (max d depth) e (with_child f t) g behind z rest after)
        (parts_run n o found false (with_child f t) (max d depth) more' g e behind z (place_next o first (items.Slot (kinds.Phylum q)) more' place) rest after))
    parts_run n o found first f d more g e ts (of_list_slot {more = more'} {l = l} t depth own behind y z) place rest after =
        subst (λ x. Run def (parts o first f d (items.Slot (kinds.List l) ∷ more')) x g e rest) (sym (append_assoc own behind rest))
        (run_list_slot t depth (behind ++ rest)
        (list_run t l depth own y (behind ++ rest) (slot_follows n o (kinds.List l) more' (slot_place n o found first (kinds.List l) more' place).1 refl (max d depth) e (with_child f t) g behind z rest after))
        (parts_run n o found false (with_child f t) (max d depth) more' g e behind z (place_next o first (items.Slot (kinds.List l)) more' place) rest after))

    pub parts_led : (n : ℕ) (o : Operator) → slice_get def.operators n ≡ Some o → (first : Bool) (f : Fragment) (d : ℕ) (more : List Item) (g : Fragment) (e : ℕ) (ts : List Token) → PartsYield def o first f d more g e ts
        → first ≡ true → (i : Item) (rest : List Item) → more ≡ items.Slot (kinds.Phylum o.phylum) ∷ i ∷ rest → solid o.items ≡ more → LedRuns n o f d (i ∷ rest) g e ts
    parts_led n o found first f d more g e ts no_items is i rest h all = absurd (let x : [] ≡ items.Slot (kinds.Phylum o.phylum) ∷ i ∷ rest = h in cc)
    parts_led n o found first f d more g e ts (of_word {more = more'} {w = w} t m y) is i rest h all = absurd (let x : items.Word w ∷ more' ≡ items.Slot (kinds.Phylum o.phylum) ∷ i ∷ rest = h in cc)
    parts_led n o found first f d more g e ts (of_refers {more = more'} space x' m y) is i rest h all = absurd (let x : items.Refers space ∷ more' ≡ items.Slot (kinds.Phylum o.phylum) ∷ i ∷ rest = h in cc)
    parts_led n o found first f d more g e ts (of_declares {more = more'} space x' m y) is i rest h all = absurd (let x : items.Declares space ∷ more' ≡ items.Slot (kinds.Phylum o.phylum) ∷ i ∷ rest = h in cc)
    parts_led n o found first f d more g e ts (of_number {more = more'} x' y) is i rest h all = absurd (let x : items.Number ∷ more' ≡ items.Slot (kinds.Phylum o.phylum) ∷ i ∷ rest = h in cc)
    parts_led n o found first f d more g e ts (of_text {more = more'} x' y) is i rest h all = absurd (let x : items.Text ∷ more' ≡ items.Slot (kinds.Phylum o.phylum) ∷ i ∷ rest = h in cc)
    parts_led n o found first f d more g e ts (of_list_slot {more = more'} {l = l} t depth own behind y z) is i rest h all = absurd (let x : items.Slot (kinds.List l) ∷ more' ≡ items.Slot (kinds.Phylum o.phylum) ∷ i ∷ rest = h in cc)
    parts_led n o found first f d more g e ts (of_slot {more = more'} {p = q} t depth own behind y z) is i rest h all =
        led_of n o first f d more' g e q t depth own behind (tree_runs t q (slot_level o (kinds.Phylum q) first more') depth own y) z
        (λ us after. parts_run n o found false (with_child f t) (max d depth) more' g e behind z (items.Slot (kinds.Phylum q), [], all) us after) is i rest h

    pub list_run : (f : Fragment) (l d : ℕ) (ts : List Token) → ListYields def f l d ts → (rest : List Token) → Follows (kinds.List l) rest → Run def (list l) (ts ++ rest) f d rest
    list_run f l d ts (no_elements kind found) rest follow = run_none kind found (open_list l rest follow)
    list_run f l d ts (only_more kind found unfinished) rest follow = run_only_more kind found unfinished
    list_run f l d ts (elements y) rest follow = run_some (some_run f l d ts y rest follow)

    pub some_run : (f : Fragment) (l d : ℕ) (ts : List Token) → SomeYield def f l d ts → (rest : List Token) → Follows (kinds.List l) rest → Run def (some_list l) (ts ++ rest) f d rest
    some_run f l d ts (last_element {e = e} kind found y) rest follow = run_last kind found (read_tree e kind.element 0 d ts (tree_runs e kind.element 0 d ts y) rest (element_follows l kind found rest follow)) (closed l kind found rest follow)
    some_run f l d ts (and_more {e = e} us kind separator found unfinished is y) rest follow =
        run_more kind separator found unfinished is (subst (λ x. Run def (start kind.element 0) x e d (separator ∷ dots ∷ rest)) (sym (append_assoc us (separator ∷ dots ∷ []) rest))
        (read_tree e kind.element 0 d us (tree_runs e kind.element 0 d us y) (separator ∷ dots ∷ rest) (separator_follows l kind found separator (dots ∷ rest) is)))
    some_run f l d ts (and_elements {e = e} {r = r} kind m n own behind separator found is y z) rest follow =
        run_next m n (behind ++ rest) kind separator found is (subst (λ x. Run def (start kind.element 0) x e m (separator ∷ (behind ++ rest))) (sym (append_assoc own (separator ∷ behind) rest))
        (read_tree e kind.element 0 m own (tree_runs e kind.element 0 m own y) (separator ∷ (behind ++ rest)) (separator_follows l kind found separator (behind ++ rest) is)))
        (some_run r l n behind z rest follow)
