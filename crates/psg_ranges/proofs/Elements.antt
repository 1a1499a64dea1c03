-- The elements of a list are read.
use Rattle.std.proofs.Common.{◌≡◌, ◌⊎◌, inl, inr, ℕ, suc, ◌+◌, ◌≤◌, ◌<◌, ◌==◌, ◌&&◌, not, Bool, true, false, List, [], ◌∷◌, ◌++◌, length, Some, slice_get, refl, sym, ap, ◌∙◌, subst, arith, append_assoc, append-nil, length-append}
use Rattle.std.proofs.lemmas.Bool.Decides.{nat_tests}
use Rattle.psg_grammar.specs.declared.types.ListKind.{ListKind}
use Rattle.psg_grammar.specs.declared.types.Definition.{Definition}
use Rattle.psg_grammar.specs.Fragments.{Fragment, ending, cell}
use Rattle.psg_tree.specs.Shapes.{height, list_of}
use Rattle.psg_class.specs.Terminals.{Token, dots}
use Rattle.psg_class.specs.Yields.{TreeYields, ListYields, no_elements, only_more, elements, SomeYield, last_element, and_more, and_elements}
use Rattle.psg_ranges.specs.declared.ranges.Range.{Range}
use Rattle.psg_ranges.specs.declared.reading.Reader.{Reader}
use Rattle.psg_ranges.specs.Brackets.{element_brackets, is_bracketed}
use Rattle.psg_ranges.specs.Forests.{no_nodes, of_tree, of_elements, ranges_in}
use Rattle.psg_ranges.specs.Walking.{list_below, Reads, ReadsNode, ReadsElements}
use Rattle.psg_ranges.proofs.Parts.{tree_beside}

-- what is read of a list, and the elements that are left
pub record IsLeft {def : Definition} {f : Fragment} {m depth : ℕ} {ts : List Token} (y : ListYields def f m depth ts) (base l : ℕ) (left : List Fragment) (u : Bool) (a b : Reader) : Type 0 where
  pub rest : Fragment
  pub rest_is : rest ≡ list_of l left u
  pub nesting : ℕ
  pub own : List Token
  pub behind : List Token
  pub yields : ListYields def rest m nesting behind
  pub are : ts ≡ own ++ behind
  pub at : b.at ≡ base + length own
  pub made : List Range
  pub ranges : b.ranges.items ≡ a.ranges.items ++ made
  pub all : ranges_in (list_below y base) ≡ made ++ ranges_in (list_below yields (base + length own))

left_init : {def : Definition} {f : Fragment} {m depth : ℕ} {ts : List Token} (l : ℕ) (es : List Fragment) (u : Bool) (y : ListYields def f m depth ts) (base : ℕ) (a : Reader)
    → f ≡ list_of l es u → a.at ≡ base → IsLeft y base l es u a a
left_init {f = f} {depth = depth} {ts = ts} l es u y base a is at =
    let here : base ≡ base + 0 = omega arith in
    record {
      rest = f;
      rest_is = is;
      nesting = depth;
      own = [];
      behind = ts;
      yields = y;
      are = refl;
      at = at ∙ here;
      made = [];
      ranges = sym (append-nil a.ranges.items);
      all = ap (λ n. ranges_in (list_below y n)) here;
    }

-- an end has no element
ending_some : {def : Definition} {t : Fragment} {m depth : ℕ} {ts : List Token} → SomeYield def t m depth ts → (l : ℕ) (u : Bool) → ending l u ≡ t → ⊥
ending_some (last_element {l = m} {e = e} kind found y) l u h = let x : ending l u ≡ cell m e (ending m false) = h in cc
ending_some (and_more {l = m} {e = e} ts kind separator found unfinished is y) l u h = let x : ending l u ≡ cell m e (ending m true) = h in cc
ending_some (and_elements {l = m} {e = e} {r = r} kind j n own behind separator found is y z) l u h = let x : ending l u ≡ cell m e r = h in cc

-- whether the list ends, by what is left of it
ended : (m l : ℕ) (v u : Bool) (es : List Fragment) → ending m v ≡ list_of l es u → (length es == 0 && not u) ≡ not v
ended m l v u [] h = let x : v ≡ u = (let y : ending m v ≡ ending l u = h in cc) in ap not (sym x)
ended m l v u (e ∷ es) h = absurd (let y : ending m v ≡ cell l e (list_of l es u) = h in cc)

goes_on : {def : Definition} {r : Fragment} {m n : ℕ} {ts : List Token} → SomeYield def r m n ts → (l : ℕ) (u : Bool) (es : List Fragment) → r ≡ list_of l es u
    → (length es == 0 && not u) ≡ false
goes_on z l u [] h = absurd (ending_some z l u (sym h))
goes_on z l u (e ∷ es) h = ap (λ b. b && not u) (some_left (length es)) where
  some_left : (n : ℕ) → suc n == 0 ≡ false
  some_left n = grind (arith, nat_tests)

-- what a cell is made of
cell_list : (l m : ℕ) (e f r s : Fragment) → cell m f r ≡ cell l e s → m ≡ l
cell_list l m e f r s h = cc

cell_element : (l m : ℕ) (e f r s : Fragment) → cell m f r ≡ cell l e s → f ≡ e
cell_element l m e f r s h = cc

cell_rest : (l m : ℕ) (e f r s : Fragment) → cell m f r ≡ cell l e s → r ≡ s
cell_rest l m e f r s h = cc

module _ {def : Definition} (tokens : List Token) (bracketed : Bool) (l first start : ℕ) (e : Fragment) (a b : Reader) where
  -- an element, in front of what is left
  element : (m p depth : ℕ) (f : Fragment) (before own behind after : List Token) (y : TreeYields def f p 0 depth own) → tokens ≡ before ++ ((own ++ behind) ++ after) → a.at ≡ length before
      → first ≡ a.at → bracketed ≡ element_brackets def (slice_get def.lists l) → (kind : ListKind) → slice_get def.lists m ≡ Some kind → kind.element ≡ p → m ≡ l → f ≡ e
      → ReadsNode def tokens bracketed first e start a b → Reads (length before + length own) (of_tree y (length before) no_nodes) a b
  element m p depth f before own behind after y are at one br kind found of same is read =
      let here : first ≡ length before = one ∙ at in
      let bracket : bracketed ≡ is_bracketed (slice_get def.phyla p) =
      br ∙ ap (λ k. element_brackets def (slice_get def.lists k)) (sym same) ∙ ap (element_brackets def) found ∙ ap (λ q. is_bracketed (slice_get def.phyla q)) of in
      ((subst (λ t. ReadsNode def tokens bracketed first t start a b) (sym is) read).tree p 0 depth own y before (behind ++ after) 0 bracket
      (are ∙ ap (λ x. before ++ x) (append_assoc own behind after)) (omega (arith, at)) (omega arith) (omega (arith, here), inl here) (inl here)).1

-- one token after an element
reach : (tokens before own rest after : List Token) (t : Token) (b d : ℕ) → tokens ≡ before ++ ((own ++ t ∷ rest) ++ after) → b ≡ length before + length own
    → (b < length tokens → d ≡ b + 1) → d ≡ length before + length (own ++ t ∷ [])
reach tokens before own rest after t b d are at passes =
    let long : length tokens ≡ length before + (length own + suc (length rest) + length after) =
    ap length are ∙ length-append before ((own ++ t ∷ rest) ++ after) ∙ ap (λ n. length before + n) (length-append (own ++ t ∷ rest) after ∙ ap (λ n. n + length after) (length-append own (t ∷ rest))) in
    omega (arith, passes (omega (arith, long, at)), at, length-append own (t ∷ []))

-- one element more is read, and what is after it
element_left : {def : Definition} (tokens : List Token) (bracketed : Bool) (l first start : ℕ) (e : Fragment) (es : List Fragment) (u : Bool) (a b d : Reader)
    {t : Fragment} {m depth : ℕ} {ts : List Token} (y : ListYields def t m depth ts) (before after : List Token) → t ≡ cell l e (list_of l es u) → tokens ≡ before ++ (ts ++ after)
    → a.at ≡ length before → first ≡ a.at → bracketed ≡ element_brackets def (slice_get def.lists l) → ReadsNode def tokens bracketed first e start a b
    → ((length es == 0 && not u) ≡ true → d.at ≡ b.at) → ((length es == 0 && not u) ≡ false → b.at < length tokens → d.at ≡ b.at + 1) → d.ranges.items ≡ b.ranges.items
    → IsLeft y (length before) l es u a d
element_left {def} tokens bracketed l first start e es u a b d (no_elements {l = m} kind found) before after is are at one br read ends passes kept =
    absurd (let x : ending m false ≡ cell l e (list_of l es u) = is in cc)
element_left {def} tokens bracketed l first start e es u a b d (only_more {l = m} kind found unfinished) before after is are at one br read ends passes kept =
    absurd (let x : ending m true ≡ cell l e (list_of l es u) = is in cc)
element_left {def} tokens bracketed l first start e es u a b d (elements (last_element {l = m} {depth = depth} {e = f} {ts = ts} kind found y)) before after is are at one br read ends passes kept =
    let left : ending m false ≡ list_of l es u = cell_rest l m e f (ending m false) (list_of l es u) is in
    let r = element tokens bracketed l first start e a b m kind.element depth f before ts [] after y (are ∙ ap (λ x. before ++ (x ++ after)) (sym (append-nil ts))) at one br kind found refl
    (cell_list l m e f (ending m false) (list_of l es u) is) (cell_element l m e f (ending m false) (list_of l es u) is) read in
    record {
      rest = ending m false;
      rest_is = left;
      nesting = 0;
      own = ts;
      behind = [];
      yields = no_elements kind found;
      are = sym (append-nil ts);
      at = ends (ended m l false u es left) ∙ r.at;
      made = ranges_in (of_tree y (length before) no_nodes);
      ranges = kept ∙ r.ranges;
      all = sym (append-nil (ranges_in (of_tree y (length before) no_nodes)));
    }
element_left {def} tokens bracketed l first start e es u a b d (elements (and_more {l = m} {depth = depth} {e = f} ts kind separator found unfinished sep y)) before after is are at one br read ends passes kept =
    let left : ending m true ≡ list_of l es u = cell_rest l m e f (ending m true) (list_of l es u) is in
    let r = element tokens bracketed l first start e a b m kind.element depth f before ts (separator ∷ dots ∷ []) after y are at one br kind found refl
    (cell_list l m e f (ending m true) (list_of l es u) is) (cell_element l m e f (ending m true) (list_of l es u) is) read in
    record {
      rest = ending m true;
      rest_is = left;
      nesting = 0;
      own = ts ++ separator ∷ [];
      behind = dots ∷ [];
      yields = only_more kind found unfinished;
      are = sym (append_assoc ts (separator ∷ []) (dots ∷ []));
      at = reach tokens before ts (dots ∷ []) after separator b.at d.at are r.at (passes (ended m l true u es left));
      made = ranges_in (of_tree y (length before) no_nodes);
      ranges = kept ∙ r.ranges;
      all = sym (append-nil (ranges_in (of_tree y (length before) no_nodes)));
    }
element_left {def} tokens bracketed l first start e es u a b d (elements (and_elements {l = m} {e = f} {r = g} kind j n own behind separator found sep y z)) before after is are at one br read ends passes kept =
    let left : g ≡ list_of l es u = cell_rest l m e f g (list_of l es u) is in
    let r = element tokens bracketed l first start e a b m kind.element j f before own (separator ∷ behind) after y are at one br kind found refl
    (cell_list l m e f g (list_of l es u) is) (cell_element l m e f g (list_of l es u) is) read in
    let far : length before + length own + 1 ≡ length before + length (own ++ separator ∷ []) = omega (arith, length-append own (separator ∷ [])) in
    record {
      rest = g;
      rest_is = left;
      nesting = n;
      own = own ++ separator ∷ [];
      behind = behind;
      yields = elements z;
      are = sym (append_assoc own (separator ∷ []) behind);
      at = reach tokens before own behind after separator b.at d.at are r.at (passes (goes_on z l u es left));
      made = ranges_in (of_tree y (length before) no_nodes);
      ranges = kept ∙ r.ranges;
      all = tree_beside y (length before) (of_elements z (length before + length own + 1)) ∙ ap (λ k. ranges_in (of_tree y (length before) no_nodes) ++ ranges_in (of_elements z k)) far;
    }

-- steps put together
left_then : {def : Definition} {t : Fragment} {m depth : ℕ} {ts : List Token} (l : ℕ) (fs gs : List Fragment) (u : Bool) (y : ListYields def t m depth ts) (base : ℕ) (a b d : Reader)
    (x : IsLeft y base l fs u a b) → IsLeft x.yields (base + length x.own) l gs u b d → IsLeft y base l gs u a d
left_then l fs gs u y base a b d x w =
    let far : base + length x.own + length w.own ≡ base + length (x.own ++ w.own) = omega (arith, length-append x.own w.own) in
    record {
      rest = w.rest;
      rest_is = w.rest_is;
      nesting = w.nesting;
      own = x.own ++ w.own;
      behind = w.behind;
      yields = w.yields;
      are = x.are ∙ ap (λ s. x.own ++ s) w.are ∙ sym (append_assoc x.own w.own w.behind);
      at = w.at ∙ far;
      made = x.made ++ w.made;
      ranges = w.ranges ∙ ap (λ s. s ++ w.made) x.ranges ∙ append_assoc a.ranges.items x.made w.made;
      all = x.all ∙ ap (λ s. x.made ++ s) w.all ∙ sym (append_assoc x.made w.made (ranges_in (list_below w.yields (base + length x.own + length w.own))))
          ∙ ap (λ n. (x.made ++ w.made) ++ ranges_in (list_below w.yields n)) far;
    }

-- no element is left: the nodes and the tokens of what is left
same_end : (m l : ℕ) (v u : Bool) → ending m v ≡ ending l u → v ≡ u
same_end m l v u h = cc

nothing : {def : Definition} {t : Fragment} {m n : ℕ} {us : List Token} (l : ℕ) (u : Bool) (y : ListYields def t m n us) (k : ℕ) → t ≡ ending l u → ranges_in (list_below y k) ≡ []
nothing l u (no_elements kind found) k h = refl
nothing l u (only_more kind found unfinished) k h = refl
nothing l u (elements y) k h = absurd (ending_some y l u (sym h))

last_tokens : {def : Definition} {t : Fragment} {m n : ℕ} {us : List Token} (l : ℕ) (u : Bool) (y : ListYields def t m n us) → t ≡ ending l u
    → ((u ≡ false) × (length us ≡ 0)) ⊎ ((u ≡ true) × (length us ≡ 1))
last_tokens l u (no_elements {l = m} kind found) h = inl (sym (same_end m l false u h), refl)
last_tokens l u (only_more {l = m} kind found unfinished) h = inr (sym (same_end m l true u h), refl)
last_tokens l u (elements y) h = absurd (ending_some y l u (sym h))

left_end : {def : Definition} (tokens before after : List Token) {f : Fragment} {m depth : ℕ} {ts : List Token} (l : ℕ) (u : Bool) (y : ListYields def f m depth ts) (a b d : Reader)
    → IsLeft y (length before) l [] u a b → tokens ≡ before ++ (ts ++ after) → (u ≡ false → d.at ≡ b.at) → (u ≡ true → b.at < length tokens → d.at ≡ b.at + 1) → d.ranges.items ≡ b.ranges.items
    → Reads (length before + length ts) (list_below y (length before)) a d
left_end {def} tokens before after {ts = ts} l u y a b d x are ends passes kept =
    let long : length tokens ≡ length before + (length ts + length after) = ap length are ∙ length-append before (ts ++ after) ∙ ap (λ n. length before + n) (length-append ts after) in
    let all : length ts ≡ length x.own + length x.behind = ap length x.are ∙ length-append x.own x.behind in
    record {
      at = elim (last_tokens l u x.yields x.rest_is) [
        | inl h ↦ omega (arith, ends h.0, h.1, x.at, all)
        | inr h ↦ omega (arith, passes h.0 (omega (arith, long, all, h.1, x.at)), h.1, x.at, all)
      ];
      ranges = kept ∙ x.ranges ∙ ap (λ s. a.ranges.items ++ s)
          (sym (x.all ∙ ap (λ s. x.made ++ s) (nothing l u x.yields (length before + length x.own) x.rest_is) ∙ append-nil x.made));
    }

-- ---- the walk over the elements

pub record ElementsSoFar (def : Definition) (tokens : List Token) (l : ℕ) (es left : List Fragment) (u : Bool) (a b : Reader) : Type 0 where
  pub low : height (list_of 0 left false) ≤ height (list_of 0 es false)
  pub reads : (t : Fragment) (m depth : ℕ) (ts : List Token) (y : ListYields def t m depth ts) (before after : List Token) → t ≡ list_of l es u → tokens ≡ before ++ (ts ++ after)
      → a.at ≡ length before → IsLeft y (length before) l left u a b

pub elements_init : (def : Definition) (tokens : List Token) (l : ℕ) (es : List Fragment) (u : Bool) (a : Reader) → ElementsSoFar def tokens l es es u a a
elements_init def tokens l es u a = record { low = omega arith; reads = λ t m depth ts y before after is are at. left_init l es u y (length before) a is at }

pub elements_next : (def : Definition) (tokens : List Token) (l : ℕ) (es left behind : List Fragment) (e : Fragment) (u bracketed : Bool) (first start : ℕ) (a b c d : Reader)
    → ElementsSoFar def tokens l es left u a b → left ≡ e ∷ behind → first ≡ b.at → bracketed ≡ element_brackets def (slice_get def.lists l)
    → ReadsNode def tokens bracketed first e start b c → ((length behind == 0 && not u) ≡ true → d.at ≡ c.at)
    → ((length behind == 0 && not u) ≡ false → c.at < length tokens → d.at ≡ c.at + 1) → d.ranges.items ≡ c.ranges.items → ElementsSoFar def tokens l es behind u a d
elements_next def tokens l es left behind e u bracketed first start a b c d x m one br read ends passes kept = record {
  low = omega (arith, x.low, ap (λ k. height (list_of 0 k false)) m);
  reads = λ t n depth ts y before after is are at.
      let w : IsLeft y (length before) l left u a b = x.reads t n depth ts y before after is are at in
      let len : length (before ++ w.own) ≡ length before + length w.own = length-append before w.own in
      let all : tokens ≡ (before ++ w.own) ++ (w.behind ++ after) =
      are ∙ ap (λ s. before ++ (s ++ after)) w.are ∙ ap (λ s. before ++ s) (append_assoc w.own w.behind after) ∙ sym (append_assoc before w.own (w.behind ++ after)) in
      left_then l left behind u y (length before) a b d w
      (subst (λ k. IsLeft w.yields k l behind u b d) len
      (element_left tokens bracketed l first start e behind u b c d w.yields (before ++ w.own) after (w.rest_is ∙ ap (λ k. list_of l k u) m) all (w.at ∙ sym len) one br read ends passes kept));
}

pub elements_end : (def : Definition) (tokens : List Token) (l : ℕ) (es left : List Fragment) (u : Bool) (a b d : Reader) → ElementsSoFar def tokens l es left u a b → length left ≡ 0
    → (u ≡ false → d.at ≡ b.at) → (u ≡ true → b.at < length tokens → d.at ≡ b.at + 1) → d.ranges.items ≡ b.ranges.items → ReadsElements def tokens l es u a d
elements_end def tokens l es [] u a b d x none ends passes kept = λ t m depth ts y before after is are at. left_end tokens before after l u y a b d (x.reads t m depth ts y before after is are at) are ends passes kept
elements_end def tokens l es (e ∷ left) u a b d x none ends passes kept = absurd (omega (arith, none))
