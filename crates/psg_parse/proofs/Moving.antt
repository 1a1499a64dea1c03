-- The steps of the parser, from one state to another one.
use Rattle.std.proofs.Common.{◌≡◌, ◌↔◌, ℕ, suc, max, ◌≤◌, ◌<◌, true, false, List, [], ◌∷◌, Option, Some, None, slice_get, length, sym, ap, ◌∙◌, subst, arith}
use Rattle.psg_grammar.specs.declared.types.Kind.{Kind}
use Rattle.psg_grammar.specs.declared.types.Kind.TheVariants as kinds
use Rattle.psg_grammar.specs.declared.types.Item.{Item}
use Rattle.psg_grammar.specs.declared.types.Item.TheVariants as items
use Rattle.psg_grammar.specs.declared.types.Operator.{Operator}
use Rattle.psg_grammar.specs.declared.types.ListKind.{ListKind}
use Rattle.psg_grammar.specs.declared.types.Definition.{Definition}
use Rattle.psg_grammar.specs.Fragments.{Fragment, hole, ending, operator, with_child}
use Rattle.psg_grammar.specs.Levels.{level_number, first_level}
use Rattle.psg_lexis.specs.declared.token.Spanned.{Spanned}
use Rattle.psg_class.specs.Yields.{of_hole}
use Rattle.psg_class.specs.Terminals.{Token, Terminal, placeholder, dots, fixed, a_more, terminal_of, item_terminal, next_terminal, close_bracket}
use Rattle.psg_class.specs.Places.{slot_level, solid}
use Rattle.psg_class.specs.Follow.{Leads, Led, First, FirstOfList}
use Rattle.psg_class.specs.Class.{IsClass}
use Rattle.psg_class.proofs.ClassFacts.{facts}
use Rattle.psg_class.specs.Runs.{Reaches, Stops, Run, start, grow, parts, list, some_list, run_none, run_only_more, run_some, run_last, run_more, run_next}
use Rattle.psg_class.specs.Machine.{Frame, then_grow, then_parts, then_close, then_list, behind_all, taken, Completes}
use Rattle.psg_class.proofs.Machine.{step_no_start, step_stop, step_unreached, step_close, step_none, step_last, step_dots, step_next}
use Rattle.psg_class.specs.Texts.{tokens_of}
use Rattle.psg_parse.specs.Lookups.{IsBare}
use Rattle.psg_parse.specs.Tables.{OpensHole, OpensBracket}
use Rattle.psg_parse.specs.Onward.{Aim, running, giving, CanEndItems, CanEndStack, CanEndState, MayLeave}
use Rattle.psg_parse.specs.States.{Moves, SeesSame}
use Rattle.psg_parse.proofs.Starts.{starts_hole, starts_bracket, starts_low, starts_leading}
use Rattle.psg_parse.proofs.Grown.{goes_led}
use Rattle.psg_parse.proofs.Items.{bare_solid, items_end, items_slot, items_list, items_token}
use Rattle.psg_parse.proofs.ListSteps.{list_more, list_some}
use Rattle.psg_parse.proofs.Onwards.{after_hole, after_bracket, after_leading, after_led, after_growing, after_items, after_item, after_slot, after_list_slot, after_close, after_none, after_only_more, after_some, after_last, after_dots, after_next}

-- ---- the next token

module _ (def : Definition) where
  -- nothing is seen at the end
  pub no_next : (rest : List Spanned) → length rest ≡ 0 → (us : List Token) → SeesSame def (tokens_of rest) us → (t : Terminal) → next_terminal def us ≡ Some t → ⊥
  no_next [] e us same t h = let x : None ≡ Some t = sym same ∙ h in cc
  no_next (s ∷ rest) e us same t h = let x : suc (length rest) ≡ 0 = e in absurd (omega arith)

  -- the next terminal is that of the token which is there
  pub next_there : (rest : List Spanned) (s : Spanned) (others : List Spanned) → rest ≡ s ∷ others → (us : List Token) → SeesSame def (tokens_of rest) us → next_terminal def us ≡ Some (terminal_of def s.token)
  next_there rest s others e us same = same ∙ ap (λ r. next_terminal def (tokens_of r)) e

  pub one_terminal : (a b : Terminal) → Some a ≡ Some b → a ≡ b
  one_terminal a b e = cc

  -- what holds of each token of the terminal and what comes after it
  headed : (P : List Token → Type 0) (t : Terminal) → ((u : Token) (us : List Token) → terminal_of def u ≡ t → P (u ∷ us)) → (us : List Token) → next_terminal def us ≡ Some t → P us
  headed P t h [] e = let x : None ≡ Some t = e in cc
  headed P t h (u ∷ us) e = h u us (one_terminal (terminal_of def u) t e)

  -- of a list that is not there nothing is read
  none_found : (l : ℕ) (kind : ListKind) → slice_get def.lists l ≡ None → slice_get def.lists l ≡ Some kind → ⊥
  none_found l kind none found = let x : None ≡ Some kind = sym none ∙ found in cc

  none_of_some : (l : ℕ) → slice_get def.lists l ≡ None → (us : List Token) (g : Fragment) (e : ℕ) (s : List Token) → Run def (some_list l) us g e s → ⊥
  none_of_some l none us g e s (run_last kind found r over) = none_found l kind none found
  none_of_some l none us g e s (run_more kind t found unfinished is r) = none_found l kind none found
  none_of_some l none us g e s (run_next m n mid kind t found is r q) = none_found l kind none found

  pub none_there : (l : ℕ) → slice_get def.lists l ≡ None → (us : List Token) (g : Fragment) (e : ℕ) (s : List Token) → Run def (list l) us g e s → ⊥
  none_there l none us g e s (run_none kind found h) = none_found l kind none found
  none_there l none us g e s (run_only_more kind found unfinished) = none_found l kind none found
  none_there l none us g e s (run_some r) = none_of_some l none us g e s r

module _ (def : Definition) (k : IsClass def) where
  pub rest_of_items : (i : Item) (more : List Item) (t : Terminal) → item_terminal i ≡ Some t → CanEndItems def (i ∷ more) → CanEndItems def more
  rest_of_items (items.Word w) more t e h = h.1
  rest_of_items (items.Refers s) more t e h = h
  rest_of_items (items.Declares s) more t e h = h
  rest_of_items items.Number more t e h = h
  rest_of_items items.Text more t e h = h
  rest_of_items (items.Slot s) more t e h = cc
  rest_of_items items.Space more t e h = absurd h
  rest_of_items items.Tight more t e h = absurd h
  rest_of_items items.Line more t e h = absurd h
  rest_of_items items.In more t e h = absurd h
  rest_of_items items.Out more t e h = absurd h

  rest_of_slot : (s : Kind) (more : List Item) → CanEndItems def (items.Slot s ∷ more) → CanEndItems def more
  rest_of_slot (kinds.Phylum p) more h = h.1
  rest_of_slot (kinds.List l) more h = h.1

  abbrev Takes : Aim → List Frame → Token → List Token → Aim → List Frame → Type 0
  Takes from below t rest to on = Moves def from below (t ∷ []) rest to on

  abbrev Leaves : Aim → List Frame → List Token → Aim → List Frame → Type 0
  Leaves from below rest to on = Moves def from below [] rest to on

  -- ---- a tree of a phylum begins

  module _ (p m : ℕ) (st : List Frame) where
    module _ (t : Token) (rest : List Token) where
      pub moves_hole : OpensHole def p (terminal_of def t) → Takes (running (start p m)) st t rest (running (grow p m (hole p) 0 None)) st
      moves_hole h = record {
        same = λ us e F D. starts_hole def k p m st t us F D h;
        back = λ us F D y. after_hole def (facts def k) F D st us p m t h y;
        ends = λ a b. (tt, b.1);
      }

      pub moves_bracket : OpensBracket def p (terminal_of def t) → Takes (running (start p m)) st t rest (running (start p 0)) (then_close ∷ then_grow p m None ∷ st)
      moves_bracket h = record {
        same = λ us e F D. starts_bracket def k p m st t us F D h;
        back = λ us F D y. after_bracket def (facts def k) F D st us p m t h y;
        ends = λ a b. (a.trees p h.phylum h.found, (tt, (tt, b.1)));
      }

      pub moves_leading : (op : ℕ) (l : Leads def p op (terminal_of def t)) (o : Operator) → l.o ≡ o → m ≤ level_number o.level → (item : Item) (more : List Item) → solid o.items ≡ item ∷ more
          → Takes (running (start p m)) st t rest (running (parts o false (taken item t (operator op)) 0 more)) (then_grow p m (Some (level_number o.level)) ∷ st)
      moves_leading op l o same least item more are =
          let found : slice_get def.operators op ≡ Some o = l.found ∙ ap Some same in
          let phylum : o.phylum ≡ p = ap (λ x. x.phylum) (sym same) ∙ l.phylum in
          let all : l.item ∷ l.more ≡ item ∷ more = sym l.items ∙ ap (λ x. solid x.items) same ∙ are in
          let one : l.item ≡ item = cc in
          let begins : item_terminal item ≡ Some (terminal_of def t) = ap item_terminal (sym one) ∙ l.begins in
          record {
            same = λ us e F D. starts_leading def k p m st t us F D op l o same least item more are;
            back = λ us F D y. after_leading def (facts def k) F D st us p m t op o item more found phylum are begins least y;
            ends = λ a b. (rest_of_items item more (terminal_of def t) begins (subst (CanEndItems def) are (a.items op o found)), (tt, b.1));
          }

    pub none_starts : (T : Terminal) → (First def p T → ⊥) → (us : List Token) → next_terminal def us ≡ Some T → (F : Fragment) (D : ℕ) → Completes def (start p m) st us F D → ⊥
    none_starts T h us e F D y = step_no_start def (facts def k) F D p m st us (λ t x f. h (subst (First def p) (one_terminal def t T (sym x ∙ e)) f)) y

    pub none_at_end : (us : List Token) → ((t : Terminal) → next_terminal def us ≡ Some t → ⊥) → (F : Fragment) (D : ℕ) → Completes def (start p m) st us F D → ⊥
    none_at_end us h F D y = step_no_start def (facts def k) F D p m st us (λ t x f. h t x) y

    pub none_low : (T : Terminal) (op : ℕ) (l : Leads def p op T) (o : Operator) → l.o ≡ o → level_number o.level < m → (us : List Token) → next_terminal def us ≡ Some T → (F : Fragment) (D : ℕ) → Completes def (start p m) st us F D → ⊥
    none_low T op l o same low us e F D = headed def (λ z. Completes def (start p m) st z F D → ⊥) T (λ u rest is.
        subst (λ x. (l : Leads def p op x) → l.o ≡ o → Completes def (start p m) st (u ∷ rest) F D → ⊥) is (λ l' same' y. starts_low def k p m st u rest F D op l' o same' low y) l same) us e

  -- ---- a tree of a phylum goes on

  stops_seen : (p m : ℕ) (rest us : List Token) → SeesSame def rest us → Stops def p m rest → Stops def p m us
  stops_seen p m rest us e h n terminal l x = h n terminal l (sym e ∙ x)

  module _ (p m : ℕ) (f : Fragment) (n : ℕ) (level : Option ℕ) (st : List Frame) where
    pub moves_stop : (rest : List Token) → Stops def p m rest → Leaves (running (grow p m f n level)) st rest (giving f n) st
    moves_stop rest h = record {
      same = λ us e F D. step_stop def (facts def k) F D p m f n level st us (stops_seen p m rest us e h);
      back = λ us F D y. after_growing def (facts def k) F D st us p m f n level y;
      ends = λ a b. b;
    }

    pub moves_led : (t : Token) (rest : List Token) (op : ℕ) (l : Led def p op (terminal_of def t)) (o : Operator) → l.o ≡ o → m ≤ level_number o.level → Reaches (first_level o.level) level
        → (slot item : Item) (more : List Item) → solid o.items ≡ slot ∷ item ∷ more
        → Takes (running (grow p m f n level)) st t rest (running (parts o false (taken item t (with_child (operator op) f)) (max 0 n) more)) (then_grow p m (Some (level_number o.level)) ∷ st)
    moves_led t rest op l o same least reach slot item more are =
        let found : slice_get def.operators op ≡ Some o = l.found ∙ ap Some same in
        let phylum : o.phylum ≡ p = ap (λ x. x.phylum) (sym same) ∙ l.phylum in
        let all : items.Slot l.slot ∷ l.item ∷ l.more ≡ slot ∷ item ∷ more = sym l.items ∙ ap (λ x. solid x.items) same ∙ are in
        let zero : items.Slot l.slot ≡ slot = cc in
        let one : l.item ≡ item = cc in
        let begins : item_terminal item ≡ Some (terminal_of def t) = ap item_terminal (sym one) ∙ l.begins in
        let own : Led def p op (terminal_of def t) = record { o = o; found = found; phylum = phylum; slot = l.slot; item = item; more = more; items = are ∙ ap (λ x. x ∷ item ∷ more) (sym zero); begins = begins } in
        record {
          same = λ us e F D. goes_led def k p m f n level st t us F D op l o same least reach slot item more are;
          back = λ us F D y. after_led def (facts def k) F D st us p m f n level t op own least reach y;
          ends = λ a b. (rest_of_items item more (terminal_of def t) begins (rest_of_slot l.slot (item ∷ more) (subst (CanEndItems def) (are ∙ ap (λ x. x ∷ item ∷ more) (sym zero)) (a.items op o found))), (tt, b.1));
        }

    pub none_unreached : (T : Terminal) (op : ℕ) (l : Led def p op T) → m ≤ level_number l.o.level → (Reaches (first_level l.o.level) level → ⊥)
        → (us : List Token) → next_terminal def us ≡ Some T → (F : Fragment) (D : ℕ) → Completes def (grow p m f n level) st us F D → ⊥
    none_unreached T op l least unreached us e F D = headed def (λ z. Completes def (grow p m f n level) st z F D → ⊥) T (λ u rest is.
        subst (λ x. (l : Led def p op x) → m ≤ level_number l.o.level → (Reaches (first_level l.o.level) level → ⊥) → Completes def (grow p m f n level) st (u ∷ rest) F D → ⊥) is
        (λ l' least' away y. step_unreached def (facts def k) F D p m f n level st u rest op l' least' away y) l least unreached) us e

  -- ---- the items of an operator

  module _ (o : Operator) (f : Fragment) (d : ℕ) (st : List Frame) (left all : List Item) (e : solid left ≡ solid all) where
    abbrev At : Aim
    At = running (parts o false f d (solid all))

    pub moves_end : length left ≡ 0 → (rest : List Token) → Leaves At st rest (giving f d) st
    moves_end h rest = record {
      same = λ us x F D. items_end def k o f d st left all e F D h us;
      back = λ us F D y. none_back left e h us F D y;
      ends = λ a b. (tt, b.1);
    } where
      none_back : (left : List Item) → solid left ≡ solid all → length left ≡ 0 → (us : List Token) (F : Fragment) (D : ℕ) → MayLeave def (giving f d) st us F D → MayLeave def (running (parts o false f d (solid all))) st us F D
      none_back [] e h us F D y = subst (λ z. MayLeave def (running (parts o false f d z)) st us F D) e (after_items def (facts def k) F D st us o f d y)
      none_back (i ∷ rest) e h us F D y = let x : suc (length rest) ≡ 0 = h in absurd (omega arith)

    pub moves_slot : IsBare left → (q : ℕ) (behind : List Item) → left ≡ items.Slot (kinds.Phylum q) ∷ behind → (least : ℕ) → least ≡ slot_level o (kinds.Phylum q) false (solid behind) → (rest : List Token)
        → Leaves At st rest (running (start q least)) (then_parts o f d (solid behind) ∷ st)
    moves_slot b q behind is least h rest =
        let are : solid all ≡ items.Slot (kinds.Phylum q) ∷ solid behind = bare_solid left all (items.Slot (kinds.Phylum q)) behind e b is in
        record {
          same = λ us x F D. items_slot def k o f d st left all e F D b q behind is least h us;
          back = λ us F D y. subst (λ z. MayLeave def (running (parts o false f d z)) st us F D) (sym are)
              (after_slot def (facts def k) F D st us o f d q (solid behind) (subst (λ z. MayLeave def (running (start q z)) (then_parts o f d (solid behind) ∷ st) us F D) h y));
          ends = λ a b. slot_ends (subst (CanEndItems def) are b.0) b.1;
        } where
          slot_ends : CanEndItems def (items.Slot (kinds.Phylum q) ∷ solid behind) → CanEndStack def st → CanEndState def (running (start q least)) (then_parts o f d (solid behind) ∷ st)
          slot_ends (h, more) s = (record { tree = hole q; nesting = 0; own = placeholder h.phylum.name ∷ []; yields = of_hole h.phylum h.found h.holes }, (more, s))

    pub moves_list : IsBare left → (l : ℕ) (behind : List Item) → left ≡ items.Slot (kinds.List l) ∷ behind → (rest : List Token) → Leaves At st rest (running (list l)) (then_parts o f d (solid behind) ∷ st)
    moves_list b l behind is rest =
        let are : solid all ≡ items.Slot (kinds.List l) ∷ solid behind = bare_solid left all (items.Slot (kinds.List l)) behind e b is in
        record {
          same = λ us x F D. items_list def k o f d st left all e F D b l behind is us;
          back = λ us F D y. subst (λ z. MayLeave def (running (parts o false f d z)) st us F D) (sym are) (after_list_slot def (facts def k) F D st us o f d l (solid behind) y);
          ends = λ a b. list_ends (subst (CanEndItems def) are b.0) b.1;
        } where
          list_ends : CanEndItems def (items.Slot (kinds.List l) ∷ solid behind) → CanEndStack def st → CanEndState def (running (list l)) (then_parts o f d (solid behind) ∷ st)
          list_ends (h, more) s = (h, (more, s))

    pub moves_token : IsBare left → (i : Item) (behind : List Item) → left ≡ i ∷ behind → (t : Token) → item_terminal i ≡ Some (terminal_of def t) → (rest : List Token)
        → Takes At st t rest (running (parts o false (taken i t f) d (solid behind))) st
    moves_token b i behind is t h rest =
        let are : solid all ≡ i ∷ solid behind = bare_solid left all i behind e b is in
        record {
          same = λ us x F D. items_token def k o f d st left all e F D b i behind is t h us;
          back = λ us F D y. subst (λ z. MayLeave def (running (parts o false f d z)) st (t ∷ us) F D) (sym are) (after_item def (facts def k) F D st us o f d i (solid behind) t h y);
          ends = λ a b. (rest_of_items i (solid behind) (terminal_of def t) h (subst (CanEndItems def) are b.0), b.1);
        }

  -- ---- a finished tree

  module _ (f : Fragment) (n : ℕ) (st : List Frame) (rest : List Token) where
    pub moves_to_grow : (p m : ℕ) (level : Option ℕ) → Leaves (giving f n) (then_grow p m level ∷ st) rest (running (grow p m f n level)) st
    moves_to_grow p m level = record { same = λ us e F D. (λ y. y, λ y. y); back = λ us F D y. y; ends = λ a b. (tt, b.1.1) }

    pub moves_to_parts : (o : Operator) (g : Fragment) (d : ℕ) (more : List Item) → Leaves (giving f n) (then_parts o g d more ∷ st) rest (running (parts o false (with_child g f) (max d n) more)) st
    moves_to_parts o g d more = record { same = λ us e F D. (λ y. y, λ y. y); back = λ us F D y. y; ends = λ a b. (b.1.0, b.1.1) }

    pub moves_close : (u : Token) → terminal_of def u ≡ close_bracket → Takes (giving f n) (then_close ∷ st) u rest (giving f (suc n)) st
    moves_close u is = record {
      same = λ us e F D. step_close def (facts def k) F D st f n u us is;
      back = λ us F D y. after_close def (facts def k) F D st us f n u is y;
      ends = λ a b. (tt, b.1.1);
    }

  -- ---- lists

  module _ (l : ℕ) (kind : ListKind) (found : slice_get def.lists l ≡ Some kind) (st : List Frame) where
    pub moves_none : (rest : List Token) → ((t : Terminal) → next_terminal def rest ≡ Some t → FirstOfList def l t → ⊥) → Leaves (running (list l)) st rest (giving (ending l false) 0) st
    moves_none rest h = record {
      same = λ us e F D. step_none def (facts def k) F D l kind found st us (λ t x y. h t (sym e ∙ x) y);
      back = λ us F D y. after_none def (facts def k) F D st us l kind found y;
      ends = λ a b. (tt, b.1);
    }

    pub moves_only_more : (t : Token) → t ≡ dots → (rest : List Token) → kind.unfinished ≡ true → Takes (running (list l)) st t rest (giving (ending l true) 0) st
    moves_only_more t is rest u = record {
      same = λ us e F D. list_more def k l kind found st F D t is us u;
      back = λ us F D y. subst (λ z. MayLeave def (running (list l)) st (z ∷ us) F D) (sym is) (after_only_more def (facts def k) F D st us l kind found u y);
      ends = λ a b. (tt, b.1);
    }

    pub moves_some : (t : Token) (rest : List Token) → First def kind.element (terminal_of def t) → Leaves (running (list l)) st (t ∷ rest) (running (start kind.element 0)) (then_list l [] 0 ∷ st)
    moves_some t rest h = record {
      same = λ us e F D. headed def (λ z. Completes def (list l) st z F D ↔ Completes def (start kind.element 0) (then_list l [] 0 ∷ st) z F D) (terminal_of def t)
          (λ u others is. list_some def k l kind found st F D u others (subst (First def kind.element) (sym is) h)) us e;
      back = λ us F D y. after_some def (facts def k) F D st us l kind found y;
      ends = λ a b. (a.elements l kind found, (record { kind = kind; found = found }, b.1));
    }

    module _ (before : List Fragment) (d : ℕ) (x : Fragment) (n : ℕ) where
      pub moves_last : (rest : List Token) → (next_terminal def rest ≡ Some (fixed kind.separator) → ⊥) → Leaves (giving x n) (then_list l before d ∷ st) rest (giving (behind_all l (x ∷ before) (ending l false)) (max d n)) st
      moves_last rest h = record {
        same = λ us e F D. step_last def (facts def k) F D l kind found before d st x n us (λ y. h (sym e ∙ y));
        back = λ us F D y. after_last def (facts def k) F D st us l kind found before d x n y;
        ends = λ a b. (tt, b.1.1);
      }

      pub moves_dots : (t u : Token) → terminal_of def t ≡ fixed kind.separator → u ≡ dots → kind.unfinished ≡ true → (rest : List Token)
          → Moves def (giving x n) (then_list l before d ∷ st) (t ∷ u ∷ []) rest (giving (behind_all l (x ∷ before) (ending l true)) (max d n)) st
      moves_dots t u is more unfinished rest = subst (λ z. Moves def (giving x n) (then_list l before d ∷ st) (t ∷ z ∷ []) rest (giving (behind_all l (x ∷ before) (ending l true)) (max d n)) st) (sym more) (record {
        same = λ us e F D. step_dots def (facts def k) F D l kind found unfinished before d st x n t us is;
        back = λ us F D y. after_dots def (facts def k) F D st us l kind found unfinished before d x n t is y;
        ends = λ a b. (tt, b.1.1);
      })

      pub moves_next : (t : Token) → terminal_of def t ≡ fixed kind.separator → (rest : List Token) → (kind.unfinished ≡ true → next_terminal def rest ≡ Some a_more → ⊥)
          → Takes (giving x n) (then_list l before d ∷ st) t rest (running (start kind.element 0)) (then_list l (x ∷ before) (max d n) ∷ st)
      moves_next t is rest h = record {
        same = λ us e F D. step_next def (facts def k) F D l kind found before d st x n t us is (λ a b. h a (sym e ∙ b));
        back = λ us F D y. after_next def (facts def k) F D st us l kind found before d x n t is y;
        ends = λ a b. (a.elements l kind found, (record { kind = kind; found = found }, b.1.1));
      }
