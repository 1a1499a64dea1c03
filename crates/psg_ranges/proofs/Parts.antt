-- The items of an operator are read, with the parts that are for them.
use Rattle.std.proofs.Common.{◌≡◌, inl, inr, ℕ, suc, ◌+◌, ◌<◌, max, cond, Bool, true, false, List, [], ◌∷◌, ◌++◌, length, Some, None, slice_get, refl, sym, ap, ◌∙◌, subst, arith, append_assoc, append-nil, length-append}
use Rattle.std.proofs.lemmas.Bool.{cases_Bool}
use Rattle.std.proofs.lemmas.List.{length-map}
use Rattle.psg_grammar.specs.declared.types.Kind.{Kind}
use Rattle.psg_grammar.specs.declared.types.Kind.TheVariants as kinds
use Rattle.psg_grammar.specs.declared.types.Item.{Item}
use Rattle.psg_grammar.specs.declared.types.Item.TheVariants as items
use Rattle.psg_grammar.specs.declared.types.Operator.{Operator}
use Rattle.psg_grammar.specs.declared.types.Definition.{Definition}
use Rattle.psg_grammar.specs.Levels.{is_mark}
use Rattle.psg_lexis.specs.declared.token.Spanned.{Spanned}
use Rattle.psg_class.specs.Texts.{tokens_of}
use Rattle.psg_grammar.specs.Fragments.{Fragment, operator, with_child}
use Rattle.psg_tree.specs.declared.tree.Part.{Part}
use Rattle.psg_class.specs.Places.{solid}
use Rattle.psg_class.specs.Terminals.{Token, Terminal, close_bracket, terminal_of, item_terminal}
use Rattle.psg_class.specs.Follow.{by_bracket}
use Rattle.psg_class.specs.Yields.{TreeYields, of_hole, of_operator, in_brackets, PartsYield, no_items, of_word, of_refers, of_declares, of_number, of_text, of_slot, of_list_slot, ListYields, no_elements, only_more, elements}
use Rattle.psg_class.proofs.ClassFacts.{ClassFacts}
use Rattle.psg_class.proofs.Beginnings.{Head, head_of}
use Rattle.psg_ranges.specs.declared.reading.Reader.{Reader}
use Rattle.psg_ranges.specs.Brackets.{is_close, closes_first, has_brackets}
use Rattle.psg_ranges.specs.Forests.{Forest, no_nodes, node, of_tree, of_parts, of_list, of_elements, names_of, ranges_in}
use Rattle.psg_parse.specs.Lookups.{IsBare}
use Rattle.psg_ranges.specs.Walking.{behind_first, behind_item, first_sub, leading_kind, left_of, names_at, slot_kind, BeginsOtherwise, parts_in, leading, leading_parts, IsBracketed, IsWithin, IsQuiet, ReadsNames, ReadsNode, ReadsOperator, ReadsParts, ReadsItem, ReadsChild, IsNext}
use Rattle.psg_ranges.proofs.Peeled.{close_says}
use Rattle.psg_ranges.proofs.Fronts.{phylum_in}

-- ---- the nodes beside a node

pub tree_beside : {def : Definition} {f : Fragment} {p level depth : ℕ} {ts : List Token} (y : TreeYields def f p level depth ts) (start : ℕ) (beside : Forest)
    → ranges_in (of_tree y start beside) ≡ ranges_in (of_tree y start no_nodes) ++ ranges_in beside
tree_beside (of_hole phylum found holes) start beside = refl
tree_beside (of_operator {ts = ts} n o found is fits z) start beside = split start (start + length ts) (names_of z start) (of_parts z start) beside where
  split : (a b : ℕ) (names : List ℕ) (below beside : Forest) → ranges_in (node a b names below beside) ≡ ranges_in (node a b names below no_nodes) ++ ranges_in beside
  split a b names below beside =
      ap (λ x. record { start = a; end = b; nodes = suc (length (ranges_in below)); names = names } ∷ (x ++ ranges_in beside)) (sym (append-nil (ranges_in below)))
tree_beside (in_brackets phylum t u found bracketed is is' y) start beside = tree_beside y (start + 1) beside

pub list_beside : {def : Definition} {f : Fragment} {l depth : ℕ} {ts : List Token} (y : ListYields def f l depth ts) (start : ℕ) (beside : Forest)
    → ranges_in (of_list y start beside) ≡ ranges_in (of_list y start no_nodes) ++ ranges_in beside
list_beside (no_elements kind found) start beside = refl
list_beside (only_more kind found unfinished) start beside = refl
list_beside (elements {ts = ts} y) start beside =
    ap (λ x. record { start = start; end = start + length ts; nodes = suc (length (ranges_in (of_elements y start))); names = [] } ∷ (x ++ ranges_in beside)) (sym (append-nil (ranges_in (of_elements y start))))

-- ---- an item that is a token

abbrev pub IsSlot : Item → Type 0
IsSlot (items.Slot k) = Unit {0}
IsSlot _ = ⊥

empty_item : (i : Item) (rest : List Item) → [] ≡ i ∷ rest → ⊥
empty_item i rest h = cc

heads : (i j : Item) (x y : List Item) → i ∷ x ≡ j ∷ y → i ≡ j
heads i j x y h = cc

tails : (i j : Item) (x y : List Item) → i ∷ x ≡ j ∷ y → x ≡ y
tails i j x y h = cc

more_by : {n m : ℕ} → n ≡ m → (x : ℕ) → x + n ≡ x + m
more_by e x = ap (λ k. x + k) e

module _ {def : Definition} (a d : Reader) (named names : List ℕ) (tokens : List Token) where
  -- one token, of an item that is no slot
  one : {o : Operator} {first flag : Bool} {f f' g : Fragment} {dd dd' e : ℕ} {more rest : List Item} {ts : List Token} (t : Token) (z : PartsYield def o first f dd more g e (t ∷ ts))
      (z' : PartsYield def o flag f' dd' rest g e ts) (base : ℕ) (is : List Item) (left : List Part) (new : List ℕ) → rest ≡ solid is → left ≡ parts_in z'
      → d.at ≡ base + 1 → d.ranges.items ≡ a.ranges.items → ranges_in (of_parts z base) ≡ ranges_in (of_parts z' (base + 1)) → names ≡ named ++ new
      → names_of z base ≡ new ++ names_of z' (base + 1) → IsNext z base is left a d named names
  one {flag = flag} {f' = f'} {dd' = dd'} {rest = rest} {ts = ts} t z z' base is left new items parts at kept all more_names names_are = record {
    begun = f';
    nesting = dd';
    rest = rest;
    own = t ∷ [];
    behind = ts;
    flag = flag;
    yields = z';
    are = refl;
    items = items;
    parts = parts;
    at = at;
    made = [];
    ranges = kept ∙ sym (append-nil a.ranges.items);
    all = all;
    more_names = new;
    names_are = more_names;
    all_names = names_are;
  }

  pub token_next : {o : Operator} {first : Bool} {f g : Fragment} {dd e : ℕ} {more : List Item} {ts : List Token} (z : PartsYield def o first f dd more g e ts)
      (i : Item) (is : List Item) (parts left : List Part) (base : ℕ) (after : List Token)
      → more ≡ i ∷ solid is → (IsSlot i → ⊥) → parts ≡ parts_in z → left ≡ left_of i parts → a.at ≡ base → length tokens ≡ base + (length ts + length after)
      → (a.at < length tokens → d.at ≡ a.at + 1) → d.ranges.items ≡ a.ranges.items → names ≡ named ++ names_at i a.at → IsNext z base is left a d named names
  token_next no_items i is parts left base after m bar p l at long passes kept new = absurd (empty_item i (solid is) m)
  token_next (of_word {more = more} {w = w} t x z) i is parts left base after m bar p l at long passes kept new =
      let same : items.Word w ≡ i = heads (items.Word w) i more (solid is) m in
      one t (of_word t x z) z base is left [] (tails (items.Word w) i more (solid is) m) (l ∙ ap (λ j. left_of j parts) (sym same) ∙ p) (omega (arith, passes (omega (arith, at, long)), at)) kept refl
      (new ∙ ap (λ j. named ++ names_at j a.at) (sym same)) refl
  token_next (of_refers {more = more} s x y z) i is parts left base after m bar p l at long passes kept new =
      let same : items.Refers s ≡ i = heads (items.Refers s) i more (solid is) m in
      one (_) (of_refers s x y z) z base is left (base ∷ []) (tails (items.Refers s) i more (solid is) m) (l ∙ ap (λ j. left_of j parts) (sym same) ∙ ap behind_first p) (omega (arith, passes (omega (arith, at, long)), at)) kept refl
      (new ∙ ap (λ j. named ++ names_at j a.at) (sym same) ∙ ap (λ n. named ++ n ∷ []) at) refl
  token_next (of_declares {more = more} s x y z) i is parts left base after m bar p l at long passes kept new =
      let same : items.Declares s ≡ i = heads (items.Declares s) i more (solid is) m in
      one (_) (of_declares s x y z) z base is left (base ∷ []) (tails (items.Declares s) i more (solid is) m) (l ∙ ap (λ j. left_of j parts) (sym same) ∙ ap behind_first p) (omega (arith, passes (omega (arith, at, long)), at)) kept refl
      (new ∙ ap (λ j. named ++ names_at j a.at) (sym same) ∙ ap (λ n. named ++ n ∷ []) at) refl
  token_next (of_number {more = more} x z) i is parts left base after m bar p l at long passes kept new =
      let same : items.Number ≡ i = heads items.Number i more (solid is) m in
      one (_) (of_number x z) z base is left [] (tails items.Number i more (solid is) m) (l ∙ ap (λ j. left_of j parts) (sym same) ∙ ap behind_first p) (omega (arith, passes (omega (arith, at, long)), at)) kept refl
      (new ∙ ap (λ j. named ++ names_at j a.at) (sym same)) refl
  token_next (of_text {more = more} x z) i is parts left base after m bar p l at long passes kept new =
      let same : items.Text ≡ i = heads items.Text i more (solid is) m in
      one (_) (of_text x z) z base is left [] (tails items.Text i more (solid is) m) (l ∙ ap (λ j. left_of j parts) (sym same) ∙ ap behind_first p) (omega (arith, passes (omega (arith, at, long)), at)) kept refl
      (new ∙ ap (λ j. named ++ names_at j a.at) (sym same)) refl
  token_next (of_slot {more = more} {p = q} t depth own behind y z) i is parts left base after m bar p l at long passes kept new =
      absurd (bar (subst IsSlot (heads (items.Slot (kinds.Phylum q)) i more (solid is) m) tt))
  token_next (of_list_slot {more = more} {l = k} t depth own behind y z) i is parts left base after m bar p l at long passes kept new =
      absurd (bar (subst IsSlot (heads (items.Slot (kinds.List k)) i more (solid is) m) tt))

  -- a layout mark, and the beginning: nothing is read
  pub nothing_next : {o : Operator} {first : Bool} {f g : Fragment} {dd e : ℕ} {more : List Item} {ts : List Token} (z : PartsYield def o first f dd more g e ts)
      (is : List Item) (left : List Part) (base : ℕ) → more ≡ solid is → left ≡ parts_in z → d.at ≡ base → d.ranges.items ≡ a.ranges.items → names ≡ named
      → IsNext z base is left a d named names
  nothing_next {first = first} {f = f} {dd = dd} {more = more} {ts = ts} z is left base items parts at kept same =
      let here : base ≡ base + 0 = omega arith in
      record {
        begun = f;
        nesting = dd;
        rest = more;
        own = [];
        behind = ts;
        flag = first;
        yields = z;
        are = refl;
        items = items;
        parts = parts;
        at = omega (arith, at);
        made = [];
        ranges = kept ∙ sym (append-nil a.ranges.items);
        all = ap (λ n. ranges_in (of_parts z n)) here;
        more_names = [];
        names_are = same ∙ sym (append-nil named);
        all_names = ap (λ n. names_of z n) here;
      }

  -- a slot
  pub slot_next : {o : Operator} {first : Bool} {f g : Fragment} {dd e : ℕ} {more : List Item} {ts : List Token} (z : PartsYield def o first f dd more g e ts)
      (kind : Kind) (is : List Item) (parts left : List Part) (before after : List Token) (bracketed : Bool) (from start : ℕ)
      → more ≡ items.Slot kind ∷ solid is → parts ≡ parts_in z → left ≡ behind_first parts → a.at ≡ length before → tokens ≡ before ++ (ts ++ after)
      → bracketed ≡ has_brackets def kind → from ≡ a.at → ReadsChild def tokens bracketed from parts start a d → names ≡ named
      → IsNext z (length before) is left a d named names
  slot_next no_items kind is parts left before after bracketed from start m p l at are b fr child same = absurd (empty_item (items.Slot kind) (solid is) m)
  slot_next (of_word {more = more} {w = w} t x z) kind is parts left before after bracketed from start m p l at are b fr child same =
      absurd (subst IsSlot (sym (heads (items.Word w) (items.Slot kind) more (solid is) m)) tt)
  slot_next (of_refers {more = more} s x y z) kind is parts left before after bracketed from start m p l at are b fr child same =
      absurd (subst IsSlot (sym (heads (items.Refers s) (items.Slot kind) more (solid is) m)) tt)
  slot_next (of_declares {more = more} s x y z) kind is parts left before after bracketed from start m p l at are b fr child same =
      absurd (subst IsSlot (sym (heads (items.Declares s) (items.Slot kind) more (solid is) m)) tt)
  slot_next (of_number {more = more} x z) kind is parts left before after bracketed from start m p l at are b fr child same =
      absurd (subst IsSlot (sym (heads items.Number (items.Slot kind) more (solid is) m)) tt)
  slot_next (of_text {more = more} x z) kind is parts left before after bracketed from start m p l at are b fr child same =
      absurd (subst IsSlot (sym (heads items.Text (items.Slot kind) more (solid is) m)) tt)
  slot_next {f = f} {dd = dd} (of_slot {more = more} {p = q} t depth own behind y z) kind is parts left before after bracketed from start m p l at are b fr child same =
      let k : kinds.Phylum q ≡ kind = (let x : items.Slot (kinds.Phylum q) ≡ items.Slot kind = heads (items.Slot (kinds.Phylum q)) (items.Slot kind) more (solid is) m in cc) in
      let here : from ≡ length before = fr ∙ at in
      let r = (child t (parts_in z) p).tree q _ depth own y before (behind ++ after) 0 (b ∙ ap (has_brackets def) (sym k)) (are ∙ ap (λ x. before ++ x) (append_assoc own behind after))
      (omega (arith, at)) (omega arith) (omega (arith, here), inl here) (inl here) in
      record {
        begun = with_child f t;
        nesting = max dd depth;
        rest = more;
        own = own;
        behind = behind;
        flag = false;
        yields = z;
        are = refl;
        items = tails (items.Slot (kinds.Phylum q)) (items.Slot kind) more (solid is) m;
        parts = l ∙ ap behind_first p;
        at = r.1.at;
        made = ranges_in (of_tree y (length before) no_nodes);
        ranges = r.1.ranges;
        all = tree_beside y (length before) (of_parts z (length before + length own));
        more_names = [];
        names_are = same ∙ sym (append-nil named);
        all_names = refl;
      }
  slot_next {f = f} {dd = dd} (of_list_slot {more = more} {l = q} t depth own behind y z) kind is parts left before after bracketed from start m p l at are b fr child same =
      let k : kinds.List q ≡ kind = (let x : items.Slot (kinds.List q) ≡ items.Slot kind = heads (items.Slot (kinds.List q)) (items.Slot kind) more (solid is) m in cc) in
      let here : from ≡ length before = fr ∙ at in
      let r = (child t (parts_in z) p).list q depth own y before (behind ++ after) (b ∙ ap (has_brackets def) (sym k)) (are ∙ ap (λ x. before ++ x) (append_assoc own behind after)) at here in
      record {
        begun = with_child f t;
        nesting = max dd depth;
        rest = more;
        own = own;
        behind = behind;
        flag = false;
        yields = z;
        are = refl;
        items = tails (items.Slot (kinds.List q)) (items.Slot kind) more (solid is) m;
        parts = l ∙ ap behind_first p;
        at = r.1.at;
        made = ranges_in (of_list y (length before) no_nodes);
        ranges = r.1.ranges;
        all = list_beside y (length before) (of_parts z (length before + length own));
        more_names = [];
        names_are = same ∙ sym (append-nil named);
        all_names = refl;
      }

-- ---- all items

module _ {def : Definition} {o : Operator} {first : Bool} {f g : Fragment} {dd e : ℕ} {more : List Item} {ts : List Token} (z : PartsYield def o first f dd more g e ts) where
  -- the first of the items that are left is read too
  pub next_then : (tokens before after : List Token) (i : Item) (is : List Item) (mid left : List Part) (a b d : Reader) (n0 n1 n2 : List ℕ) → tokens ≡ before ++ (ts ++ after)
      → IsNext z (length before) (i ∷ is) mid a b n0 n1 → ReadsItem def tokens i mid left b d n1 n2 → IsNext z (length before) is left a d n0 n2
  next_then tokens before after i is mid left a b d n0 n1 n2 are x read =
      let len : length (before ++ x.own) ≡ length before + length x.own = length-append before x.own in
      let all : tokens ≡ (before ++ x.own) ++ (x.behind ++ after) =
      are ∙ ap (λ s. before ++ (s ++ after)) x.are ∙ ap (λ s. before ++ s) (append_assoc x.own x.behind after) ∙ sym (append_assoc before x.own (x.behind ++ after)) in
      let y : IsNext x.yields (length before + length x.own) is left b d n1 n2 =
      subst (λ n. IsNext x.yields n is left b d n1 n2) len
      (read o x.flag x.begun g x.nesting e x.rest is x.behind x.yields (before ++ x.own) after x.items x.parts all (x.at ∙ sym len)) in
      let far : length before + length x.own + length y.own ≡ length before + length (x.own ++ y.own) = omega (arith, length-append x.own y.own) in
      record {
        begun = y.begun;
        nesting = y.nesting;
        rest = y.rest;
        own = x.own ++ y.own;
        behind = y.behind;
        flag = y.flag;
        yields = y.yields;
        are = x.are ∙ ap (λ s. x.own ++ s) y.are ∙ sym (append_assoc x.own y.own y.behind);
        items = y.items;
        parts = y.parts;
        at = y.at ∙ far;
        made = x.made ++ y.made;
        ranges = y.ranges ∙ ap (λ s. s ++ y.made) x.ranges ∙ append_assoc a.ranges.items x.made y.made;
        all = x.all ∙ ap (λ s. x.made ++ s) y.all ∙ sym (append_assoc x.made y.made (ranges_in (of_parts y.yields (length before + length x.own + length y.own))))
            ∙ ap (λ n. (x.made ++ y.made) ++ ranges_in (of_parts y.yields n)) far;
        more_names = x.more_names ++ y.more_names;
        names_are = y.names_are ∙ ap (λ s. s ++ y.more_names) x.names_are ∙ append_assoc n0 x.more_names y.more_names;
        all_names = x.all_names ∙ ap (λ s. x.more_names ++ s) y.all_names ∙ sym (append_assoc x.more_names y.more_names (names_of y.yields (length before + length x.own + length y.own)))
            ∙ ap (λ n. (x.more_names ++ y.more_names) ++ names_of y.yields n) far;
      }

  -- no item is left
  pub next_end : (base : ℕ) (left : List Part) (a d : Reader) (n0 n2 : List ℕ) → IsNext z base [] left a d n0 n2
      → ReadsNames (base + length ts) (of_parts z base) (names_of z base) a d n0 n2
  next_end base left a d n0 n2 x =
      let n = none x.yields x.items in
      record {
        reads = record {
          at = x.at ∙ ap (λ s. base + length s) (sym (x.are ∙ ap (λ s. x.own ++ s) n.0 ∙ append-nil x.own));
          ranges = x.ranges ∙ ap (λ s. a.ranges.items ++ s) (sym (x.all ∙ ap (λ s. x.made ++ ranges_in s) (n.1 (base + length x.own)) ∙ append-nil x.made));
        };
        names = x.names_are ∙ ap (λ s. n0 ++ s) (sym (x.all_names ∙ ap (λ s. x.more_names ++ s) (n.2 (base + length x.own)) ∙ append-nil x.more_names));
      } where
        none : {o : Operator} {first : Bool} {f g : Fragment} {dd e : ℕ} {more : List Item} {ts : List Token} (z : PartsYield def o first f dd more g e ts) → more ≡ []
            → (ts ≡ []) × ((n : ℕ) → of_parts z n ≡ no_nodes) × ((n : ℕ) → names_of z n ≡ [])
        none no_items m = (refl, λ n. refl, λ n. refl)
        none (of_word {more = more} {w = w} t x z) m = absurd (empty_item (items.Word w) more (sym m))
        none (of_refers {more = more} s x y z) m = absurd (empty_item (items.Refers s) more (sym m))
        none (of_declares {more = more} s x y z) m = absurd (empty_item (items.Declares s) more (sym m))
        none (of_number {more = more} x z) m = absurd (empty_item items.Number more (sym m))
        none (of_text {more = more} x z) m = absurd (empty_item items.Text more (sym m))
        none (of_slot {more = more} {p = q} t depth own behind y z) m = absurd (empty_item (items.Slot (kinds.Phylum q)) more (sym m))
        none (of_list_slot {more = more} {l = q} t depth own behind y z) m = absurd (empty_item (items.Slot (kinds.List q)) more (sym m))

-- ---- how an operator begins

-- items that begin with no layout mark
pub bare_lead : (is all : List Item) (kind : Kind) → solid is ≡ solid all → leading_kind is ≡ Some kind → solid all ≡ items.Slot kind ∷ solid (behind_item is)
bare_lead [] all kind e h = absurd (let x : None ≡ Some kind = h in cc)
bare_lead (i ∷ is) all kind e h = sym e ∙ lead i h where
  lead : (i : Item) → slot_kind i ≡ Some kind → solid (i ∷ is) ≡ items.Slot kind ∷ solid is
  lead (items.Slot k) h = ap (λ j. items.Slot j ∷ solid is) (let x : Some k ≡ Some kind = h in cc)
  lead (items.Word w) h = absurd (let x : None ≡ Some kind = h in cc)
  lead (items.Refers s) h = absurd (let x : None ≡ Some kind = h in cc)
  lead (items.Declares s) h = absurd (let x : None ≡ Some kind = h in cc)
  lead items.Number h = absurd (let x : None ≡ Some kind = h in cc)
  lead items.Text h = absurd (let x : None ≡ Some kind = h in cc)
  lead items.Space h = absurd (let x : None ≡ Some kind = h in cc)
  lead items.Tight h = absurd (let x : None ≡ Some kind = h in cc)
  lead items.Line h = absurd (let x : None ≡ Some kind = h in cc)
  lead items.In h = absurd (let x : None ≡ Some kind = h in cc)
  lead items.Out h = absurd (let x : None ≡ Some kind = h in cc)

pub bare_other : (is all : List Item) → solid is ≡ solid all → IsBare is → leading_kind is ≡ None → BeginsOtherwise all
bare_other [] all e b h kind more m = let x : [] ≡ items.Slot kind ∷ more = e ∙ m in cc
bare_other (i ∷ is) all e b h kind more m =
    let row : i ∷ solid is ≡ items.Slot kind ∷ more = sym (ap (λ t. cond t (solid is) (i ∷ solid is)) b) ∙ e ∙ m in
    let same : i ≡ items.Slot kind = heads i (items.Slot kind) (solid is) more row in
    let x : None ≡ Some kind = sym h ∙ ap slot_kind same in cc

no_lead : {def : Definition} {o : Operator} {f g : Fragment} {d e : ℕ} {more : List Item} {ts : List Token} (z : PartsYield def o true f d more g e ts) (is : List Item)
    → more ≡ solid is → BeginsOtherwise is → leading_parts z ≡ 0
no_lead no_items is m h = refl
no_lead (of_word t x z) is m h = refl
no_lead (of_refers s x y z) is m h = refl
no_lead (of_declares s x y z) is m h = refl
no_lead (of_number x z) is m h = refl
no_lead (of_text x z) is m h = refl
no_lead (of_slot {more = more} {p = q} t depth own behind y z) is m h = absurd (h (kinds.Phylum q) more (sym m))
no_lead (of_list_slot t depth own behind y z) is m h = refl

module _ (def : Definition) (tokens : List Token) (is : List Item) (parts : List Part) (first start : ℕ) (named names : List ℕ) where
  -- with no slot
  pub otherwise : (a d : Reader) → BeginsOtherwise is → start ≡ a.at → ReadsParts def tokens is parts a d named names → ReadsOperator def tokens is parts first start a d named names
  otherwise a d begins same read n depth o g ts z before after found of_o are all at within =
      let none : leading_parts z ≡ 0 = no_lead z is (ap solid (sym of_o)) begins in
      let here : a.at ≡ length before = omega (arith, at, none) in
      (same ∙ here, read o true (operator n) g 0 depth (solid o.items) ts z before after (ap solid (sym of_o)) are all here)

  -- with a slot
  pub with_lead : (c : ClassFacts def) (a b d : Reader) (kind : Kind) (rest : List Item) (bracketed : Bool) (left : List Part) → solid is ≡ items.Slot kind ∷ solid rest
      → bracketed ≡ has_brackets def kind → ReadsChild def tokens bracketed first parts start a b → left ≡ behind_first parts → ReadsParts def tokens rest left b d named names
      → ReadsOperator def tokens is parts first start a d named names
  with_lead c a b d kind rest bracketed left lead br child lefts read n depth o g ts z before after found of_o are all at within =
      go z (sym (ap solid of_o) ∙ lead) refl are all at where
        quiet : (t : Token) (us after : List Token) (m : ℕ) (item : Item) (terminal : Terminal) (behind : List Item) → slice_get def.operators m ≡ Some o
            → solid o.items ≡ items.Slot (kinds.Phylum o.phylum) ∷ item ∷ behind → item_terminal item ≡ Some terminal → terminal_of def t ≡ terminal
            → IsBracketed def o.phylum → is_close t ≡ false
        quiet t us after m item terminal behind there row begins is_terminal b = elim (cases_Bool (is_close t)) [
          | inr e ↦ e
          | inl e ↦ (let q = phylum_in def o.phylum b in
              let x : terminal ≡ close_bracket = sym is_terminal ∙ close_says def t e in
              absurd (c.led_follows o.phylum m terminal (record { o = o; found = there; phylum = refl; slot = kinds.Phylum o.phylum; item = item; more = behind; items = row; begins = begins })
              (by_bracket q.0 q.1 q.2 x)))
        ]

        after_lead : {f g : Fragment} {dd e : ℕ} {more : List Item} {us : List Token} (z : PartsYield def o false f dd more g e us) (q : ℕ) (after : List Token)
            → solid o.items ≡ items.Slot (kinds.Phylum q) ∷ more → (q ≡ o.phylum) × (IsQuiet first (length before) (us ++ after))
        after_lead {f} {g} {dd} {e} {more} {us} z q after row = elim (c.begins n o found) [
          | inl t ↦ absurd (let s : t.item ∷ t.more ≡ items.Slot (kinds.Phylum q) ∷ more = sym t.items ∙ row in
              let i : t.item ≡ items.Slot (kinds.Phylum q) = heads t.item (items.Slot (kinds.Phylum q)) t.more more s in
              let x : None ≡ Some t.terminal = ap item_terminal (sym i) ∙ t.begins in cc)
          | inr t ↦ (let s : items.Slot (kinds.Phylum o.phylum) ∷ t.item ∷ t.more ≡ items.Slot (kinds.Phylum q) ∷ more = sym t.items ∙ row in
              let own : q ≡ o.phylum = (let x : items.Slot (kinds.Phylum o.phylum) ≡ items.Slot (kinds.Phylum q) = heads (items.Slot (kinds.Phylum o.phylum)) (items.Slot (kinds.Phylum q)) (t.item ∷ t.more) more s in cc) in
              let h : Head def t.terminal us = head_of def o false f dd more g e us z t.item t.more t.terminal (sym (tails (items.Slot (kinds.Phylum o.phylum)) (items.Slot (kinds.Phylum q)) (t.item ∷ t.more) more s)) t.begins in (
                own,
                elim within.1 [
                  | inl same ↦ inl same
                  | inr b ↦ inr (ap (λ x. closes_first (x ++ after)) h.are ∙ quiet h.token h.rest after n t.item t.terminal t.more found t.items t.begins h.begins b)
                ],
              ))
        ]

        go : {f g : Fragment} {dd e : ℕ} {more : List Item} {ts : List Token} (z : PartsYield def o true f dd more g e ts) → more ≡ items.Slot kind ∷ solid rest → solid o.items ≡ more
            → parts ≡ parts_in z → tokens ≡ before ++ (ts ++ after) → a.at ≡ length before + leading_parts z
            → (start ≡ length before) × ReadsNames (length before + length ts) (of_parts z (length before)) (names_of z (length before)) a d named names
        go no_items m row p are at = absurd (empty_item (items.Slot kind) (solid rest) m)
        go (of_word {more = more} {w = w} t x z) m row p are at = absurd (subst IsSlot (sym (heads (items.Word w) (items.Slot kind) more (solid rest) m)) tt)
        go (of_refers {more = more} s x y z) m row p are at = absurd (subst IsSlot (sym (heads (items.Refers s) (items.Slot kind) more (solid rest) m)) tt)
        go (of_declares {more = more} s x y z) m row p are at = absurd (subst IsSlot (sym (heads (items.Declares s) (items.Slot kind) more (solid rest) m)) tt)
        go (of_number {more = more} x z) m row p are at = absurd (subst IsSlot (sym (heads items.Number (items.Slot kind) more (solid rest) m)) tt)
        go (of_text {more = more} x z) m row p are at = absurd (subst IsSlot (sym (heads items.Text (items.Slot kind) more (solid rest) m)) tt)
        go {f} {g} {dd} {e} (of_slot {more = more} {p = q} t depth own behind y z) m row p are at =
            let k : kinds.Phylum q ≡ kind = (let x : items.Slot (kinds.Phylum q) ≡ items.Slot kind = heads (items.Slot (kinds.Phylum q)) (items.Slot kind) more (solid rest) m in cc) in
            let s = after_lead z q after row in
            let r = (child t (parts_in z) p).tree q _ depth own y before (behind ++ after) (leading y) (br ∙ ap (has_brackets def) (sym k)) (are ∙ ap (λ x. before ++ x) (append_assoc own behind after))
            at (omega arith) (subst (λ j. IsWithin def j first (length before)) (sym s.0) within) s.1 in
            let len : length (before ++ own) ≡ length before + length own = length-append before own in
            let x = subst (λ j. ReadsNames (j + length behind) (of_parts z j) (names_of z j) b d named names) len
            (read o false (with_child f t) g _ e more behind z (before ++ own) after (tails (items.Slot (kinds.Phylum q)) (items.Slot kind) more (solid rest) m) (lefts ∙ ap behind_first p)
            (are ∙ ap (λ x. before ++ x) (append_assoc own behind after) ∙ sym (append_assoc before own (behind ++ after))) (r.1.at ∙ sym len)) in (
              r.0,
              record {
                reads = record {
                  at = omega (arith, x.reads.at, length-append own behind);
                  ranges = x.reads.ranges ∙ ap (λ w. w ++ ranges_in (of_parts z (length before + length own))) r.1.ranges
                      ∙ append_assoc a.ranges.items (ranges_in (of_tree y (length before) no_nodes)) (ranges_in (of_parts z (length before + length own)))
                      ∙ ap (λ w. a.ranges.items ++ w) (sym (tree_beside y (length before) (of_parts z (length before + length own))));
                };
                names = x.names;
              },
            )
        go (of_list_slot {more = more} {l = q} t depth own behind y z) m row p are at = elim (c.begins n o found) [
          | inl t' ↦ absurd (let i : t'.item ≡ items.Slot (kinds.List q) = heads t'.item (items.Slot (kinds.List q)) t'.more more (sym t'.items ∙ row) in
              let x : None ≡ Some t'.terminal = ap item_terminal (sym i) ∙ t'.begins in cc)
          | inr t' ↦ absurd (let x : items.Slot (kinds.Phylum o.phylum) ≡ items.Slot (kinds.List q) = heads (items.Slot (kinds.Phylum o.phylum)) (items.Slot (kinds.List q)) (t'.item ∷ t'.more) more (sym t'.items ∙ row) in cc)
        ]

-- ---- what the walk does with an item

-- the number is that after a token, of those with their places
pub passing : (tokens : List Spanned) (a d : ℕ) → (a < length tokens → d ≡ a + 1) → a < length (tokens_of tokens) → d ≡ a + 1
passing tokens a d h lt = let len = length-map tokens (λ (s : Spanned). s.token) in h (omega (arith, lt, len))

module _ (def : Definition) (tokens : List Spanned) (i : Item) (parts left : List Part) (a d : Reader) (named names : List ℕ) where
  pub mark_read : is_mark i ≡ true → left ≡ parts → d.at ≡ a.at → d.ranges.items ≡ a.ranges.items → names ≡ named → ReadsItem def (tokens_of tokens) i parts left a d named names
  mark_read mark same still kept none o first f g dd e more is ts z before after m p are at =
      nothing_next a d named names (tokens_of tokens) z is left (length before) (m ∙ ap (λ b. cond b (solid is) (i ∷ solid is)) mark) (same ∙ p) (still ∙ at) kept none

  pub token_read : is_mark i ≡ false → slot_kind i ≡ None → left ≡ left_of i parts → (a.at < length tokens → d.at ≡ a.at + 1) → d.ranges.items ≡ a.ranges.items
      → names ≡ named ++ names_at i a.at → ReadsItem def (tokens_of tokens) i parts left a d named names
  token_read mark slot lefts passes kept new o first f g dd e more is ts z before after m p are at =
      token_next a d named names (tokens_of tokens) z i is parts left (length before) after (m ∙ ap (λ b. cond b (solid is) (i ∷ solid is)) mark) (never i slot) p lefts at
      (ap length are ∙ length-append before (ts ++ after) ∙ ap (λ n. length before + n) (length-append ts after)) (passing tokens a.at d.at passes) kept new where
        never : (i : Item) → slot_kind i ≡ None → IsSlot i → ⊥
        never (items.Slot k) h s = let x : Some k ≡ None = h in cc
        never (items.Word w) h s = s
        never (items.Refers k) h s = s
        never (items.Declares k) h s = s
        never items.Number h s = s
        never items.Text h s = s
        never items.Space h s = s
        never items.Tight h s = s
        never items.Line h s = s
        never items.In h s = s
        never items.Out h s = s

  pub slot_read : (kind : Kind) (bracketed : Bool) (from start : ℕ) → slot_kind i ≡ Some kind → left ≡ behind_first parts → bracketed ≡ has_brackets def kind → from ≡ a.at
      → ReadsChild def (tokens_of tokens) bracketed from parts start a d → names ≡ named → ReadsItem def (tokens_of tokens) i parts left a d named names
  slot_read kind bracketed from start slot lefts br fr child same o first f g dd e more is ts z before after m p are at =
      slot_next a d named names (tokens_of tokens) z kind is parts left before after bracketed from start (m ∙ row i slot) p lefts at are br fr child same where
        row : (i : Item) → slot_kind i ≡ Some kind → solid (i ∷ is) ≡ items.Slot kind ∷ solid is
        row (items.Slot k) h = ap (λ j. items.Slot j ∷ solid is) (let x : Some k ≡ Some kind = h in cc)
        row (items.Word w) h = absurd (let x : None ≡ Some kind = h in cc)
        row (items.Refers s) h = absurd (let x : None ≡ Some kind = h in cc)
        row (items.Declares s) h = absurd (let x : None ≡ Some kind = h in cc)
        row items.Number h = absurd (let x : None ≡ Some kind = h in cc)
        row items.Text h = absurd (let x : None ≡ Some kind = h in cc)
        row items.Space h = absurd (let x : None ≡ Some kind = h in cc)
        row items.Tight h = absurd (let x : None ≡ Some kind = h in cc)
        row items.Line h = absurd (let x : None ≡ Some kind = h in cc)
        row items.In h = absurd (let x : None ≡ Some kind = h in cc)
        row items.Out h = absurd (let x : None ≡ Some kind = h in cc)

-- the first part
pub child_read : (def : Definition) (tokens : List Token) (bracketed : Bool) (first start : ℕ) (t : Fragment) (parts : List Part) (a d : Reader) → Some t ≡ first_sub parts
    → ReadsNode def tokens bracketed first t start a d → ReadsChild def tokens bracketed first parts start a d
child_read def tokens bracketed first start t parts a d is read s ps e = subst (λ k. ReadsNode def tokens bracketed first k start a d) (same t s (is ∙ ap first_sub e)) read where
  same : (t s : Fragment) → Some t ≡ Some s → t ≡ s
  same t s h = cc

pub no_child : (def : Definition) (tokens : List Token) (bracketed : Bool) (first start : ℕ) (parts : List Part) (a d : Reader) → None ≡ first_sub parts
    → ReadsChild def tokens bracketed first parts start a d
no_child def tokens bracketed first start parts a d is s ps e = absurd (let x : None ≡ Some s = is ∙ ap first_sub e in cc)
