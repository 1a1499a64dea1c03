-- What a node is made of is read, by the shape of the tree.
use Rattle.std.proofs.Common.{◌≡◌, ℕ, suc, ◌+◌, ◌<◌, Bool, true, false, List, [], ◌∷◌, ◌++◌, length, Some, None, slice_get, refl, sym, ap, ◌∙◌, subst, arith, append_assoc, append-nil, length-append}
use Rattle.psg_grammar.specs.declared.types.Item.{Item}
use Rattle.psg_grammar.specs.declared.types.Operator.{Operator}
use Rattle.psg_grammar.specs.declared.types.Definition.{Definition}
use Rattle.psg_grammar.specs.Fragments.{Fragment, hole, ending, cell, operator, with_child, with_name, with_number, with_text, anything, observed, top_operator}
use Rattle.psg_tree.specs.declared.tree.Part.{Part}
use Rattle.psg_tree.specs.declared.tree.Part.TheVariants.{Sub, Name, Number, Text}
use Rattle.psg_tree.specs.Shapes.{list_of, with_parts}
use Rattle.psg_class.specs.Terminals.{Token, placeholder}
use Rattle.psg_class.specs.Yields.{PartsYield, no_items, of_word, of_refers, of_declares, of_number, of_text, of_slot, of_list_slot, ListYields, no_elements, only_more, elements, SomeYield, last_element, and_more, and_elements}
use Rattle.psg_ranges.specs.declared.reading.Reader.{Reader}
use Rattle.psg_ranges.specs.Forests.{Core, hole_core, operator_core}
use Rattle.psg_ranges.specs.Walking.{items_in, parts_in, core_leading, core_names, core_below, list_below, IsWithin, ReadsNames, ReadsBelow, ReadsOperator, ReadsElements}

-- ---- the parts of an operator

parts_before : Fragment → List Part
parts_before (with_child f t) = parts_before f ++ Sub t ∷ []
parts_before (with_name f n) = parts_before f ++ Name n ∷ []
parts_before (with_number f n) = parts_before f ++ Number n ∷ []
parts_before (with_text f t) = parts_before f ++ Text t ∷ []
parts_before (hole p) = []
parts_before (ending l u) = []
parts_before (cell l e r) = []
parts_before (operator o) = []
parts_before anything = []
parts_before (observed f) = []

before_with : (f : Fragment) (ps : List Part) → parts_before (with_parts f ps) ≡ parts_before f ++ ps
unfolding parts_before
before_with f [] = sym (append-nil (parts_before f))
before_with f (Sub t ∷ ps) = before_with (with_child f t) ps ∙ append_assoc (parts_before f) (Sub t ∷ []) ps
before_with f (Name n ∷ ps) = before_with (with_name f n) ps ∙ append_assoc (parts_before f) (Name n ∷ []) ps
before_with f (Number n ∷ ps) = before_with (with_number f n) ps ∙ append_assoc (parts_before f) (Number n ∷ []) ps
before_with f (Text t ∷ ps) = before_with (with_text f t) ps ∙ append_assoc (parts_before f) (Text t ∷ []) ps

top_with : (f : Fragment) (ps : List Part) → top_operator (with_parts f ps) ≡ top_operator f
top_with f [] = refl
top_with f (Sub t ∷ ps) = top_with (with_child f t) ps
top_with f (Name n ∷ ps) = top_with (with_name f n) ps
top_with f (Number n ∷ ps) = top_with (with_number f n) ps
top_with f (Text t ∷ ps) = top_with (with_text f t) ps

before_in : {def : Definition} {o : Operator} {first : Bool} {f g : Fragment} {d e : ℕ} {more : List Item} {ts : List Token} (z : PartsYield def o first f d more g e ts)
    → parts_before g ≡ parts_before f ++ parts_in z
unfolding parts_before
before_in {f = f} no_items = sym (append-nil (parts_before f))
before_in (of_word t is z) = before_in z
before_in {f = f} (of_refers s x is z) = before_in z ∙ append_assoc (parts_before f) (Name x ∷ []) (parts_in z)
before_in {f = f} (of_declares s x is z) = before_in z ∙ append_assoc (parts_before f) (Name x ∷ []) (parts_in z)
before_in {f = f} (of_number x z) = before_in z ∙ append_assoc (parts_before f) (Number x ∷ []) (parts_in z)
before_in {f = f} (of_text x z) = before_in z ∙ append_assoc (parts_before f) (Text x ∷ []) (parts_in z)
before_in {f = f} (of_slot t depth own behind y z) = before_in z ∙ append_assoc (parts_before f) (Sub t ∷ []) (parts_in z)
before_in {f = f} (of_list_slot t depth own behind y z) = before_in z ∙ append_assoc (parts_before f) (Sub t ∷ []) (parts_in z)

top_in : {def : Definition} {o : Operator} {first : Bool} {f g : Fragment} {d e : ℕ} {more : List Item} {ts : List Token} (z : PartsYield def o first f d more g e ts)
    → top_operator g ≡ top_operator f
top_in no_items = refl
top_in (of_word t is z) = top_in z
top_in (of_refers s x is z) = top_in z
top_in (of_declares s x is z) = top_in z
top_in (of_number x z) = top_in z
top_in (of_text x z) = top_in z
top_in (of_slot t depth own behind y z) = top_in z
top_in (of_list_slot t depth own behind y z) = top_in z

-- an operator's parts are those that its items are read as
the_parts : {def : Definition} {o : Operator} {g : Fragment} {d : ℕ} {more : List Item} {ts : List Token} (n op : ℕ) (ps : List Part)
    (z : PartsYield def o true (operator n) 0 more g d ts) → with_parts (operator op) ps ≡ g → ps ≡ parts_in z
unfolding parts_before
the_parts n op ps z e = sym (before_with (operator op) ps) ∙ ap parts_before e ∙ before_in z

the_operator : {def : Definition} {o : Operator} {g : Fragment} {d : ℕ} {more : List Item} {ts : List Token} (n op : ℕ) (ps : List Part)
    (z : PartsYield def o true (operator n) 0 more g d ts) → with_parts (operator op) ps ≡ g → op ≡ n
the_operator n op ps z e = let x : Some op ≡ Some n = sym (top_with (operator op) ps) ∙ ap top_operator e ∙ top_in z in cc

-- ---- what other shapes are not

list_top : {def : Definition} {t : Fragment} {l depth : ℕ} {ts : List Token} → ListYields def t l depth ts → top_operator t ≡ None
list_top (no_elements kind found) = refl
list_top (only_more kind found unfinished) = refl
list_top (elements y) = some_top y where
  some_top : {def : Definition} {t : Fragment} {l depth : ℕ} {ts : List Token} → SomeYield def t l depth ts → top_operator t ≡ None
  some_top (last_element kind found y) = refl
  some_top (and_more ts kind separator found unfinished is y) = refl
  some_top (and_elements kind m n own behind separator found is y z) = refl

is_hole : Fragment → Bool
is_hole (hole p) = true
is_hole (ending l u) = false
is_hole (cell l e r) = false
is_hole (operator o) = false
is_hole (with_child f t) = false
is_hole (with_name f n) = false
is_hole (with_number f n) = false
is_hole (with_text f t) = false
is_hole anything = false
is_hole (observed f) = false

no_hole_list : {def : Definition} {t : Fragment} {l depth : ℕ} {ts : List Token} → ListYields def t l depth ts → is_hole t ≡ false
unfolding is_hole
no_hole_list (no_elements kind found) = refl
no_hole_list (only_more kind found unfinished) = refl
no_hole_list (elements y) = some_no_hole y where
  some_no_hole : {def : Definition} {t : Fragment} {l depth : ℕ} {ts : List Token} → SomeYield def t l depth ts → is_hole t ≡ false
  some_no_hole (last_element kind found y) = refl
  some_no_hole (and_more ts kind separator found unfinished is y) = refl
  some_no_hole (and_elements kind m n own behind separator found is y z) = refl

list_of_top : (l : ℕ) (es : List Fragment) (u : Bool) → top_operator (list_of l es u) ≡ None
list_of_top l [] u = refl
list_of_top l (e ∷ es) u = refl

list_of_no_hole : (l : ℕ) (es : List Fragment) (u : Bool) → is_hole (list_of l es u) ≡ false
unfolding is_hole
list_of_no_hole l [] u = refl
list_of_no_hole l (e ∷ es) u = refl

some_none : (n : ℕ) → Some n ≡ None → ⊥
some_none n h = cc

not_both : true ≡ false → ⊥
not_both h = cc

module _ (def : Definition) (tokens : List Token) (first : ℕ) (t : Fragment) (start : ℕ) (a d : Reader) (named names : List ℕ) where
  abbrev ForCore : Type 0
  ForCore = (p : ℕ) (ts : List Token) (y : Core def t p ts) (before after : List Token) → tokens ≡ before ++ (ts ++ after) → a.at ≡ length before + core_leading y
      → IsWithin def p first (length before)
      → (start ≡ length before) × ReadsNames (length before + length ts) (core_below y (length before)) (core_names y (length before)) a d named names

  -- an operator
  pub operator_below : (op : ℕ) (ps : List Part) (is : List Item) → with_parts (operator op) ps ≡ t → is ≡ items_in (slice_get def.operators op)
      → ReadsOperator def tokens is ps first start a d named names → ReadsBelow def tokens first t start a d named names
  operator_below op ps is same items read = record { core = core_read t same; list = λ l depth ts y. absurd (some_none op (sym (top_with (operator op) ps) ∙ ap top_operator same ∙ list_top y)) } where
    core_read : (g : Fragment) → with_parts (operator op) ps ≡ g → (p : ℕ) (ts : List Token) (y : Core def g p ts) (before after : List Token) → tokens ≡ before ++ (ts ++ after)
        → a.at ≡ length before + core_leading y → IsWithin def p first (length before)
        → (start ≡ length before) × ReadsNames (length before + length ts) (core_below y (length before)) (core_names y (length before)) a d named names
    core_read g e p ts (hole_core phylum found holes) before after are at within = absurd (some_none op (sym (top_with (operator op) ps) ∙ ap top_operator e))
    core_read g e p ts (operator_core {depth = depth} n o found is' z) before after are at within =
        let o_is : slice_get def.operators op ≡ Some o = ap (slice_get def.operators) (the_operator n op ps z e) ∙ found in
        read n depth o g ts z before after found (items ∙ ap items_in o_is) (the_parts n op ps z e) are at (subst (λ q. IsWithin def q first (length before)) (sym is') within)

  -- a placeholder
  pub hole_below : (q : ℕ) → hole q ≡ t → start ≡ a.at → (a.at < length tokens → d.at ≡ a.at + 1) → d.ranges.items ≡ a.ranges.items → names ≡ named
      → ReadsBelow def tokens first t start a d named names
  unfolding is_hole
  hole_below q same begins passes kept less = record { core = core_read t same; list = λ l depth ts y. absurd (not_both (ap is_hole same ∙ no_hole_list y)) } where
    core_read : (g : Fragment) → hole q ≡ g → (p : ℕ) (ts : List Token) (y : Core def g p ts) (before after : List Token) → tokens ≡ before ++ (ts ++ after)
        → a.at ≡ length before + core_leading y → IsWithin def p first (length before)
        → (start ≡ length before) × ReadsNames (length before + length ts) (core_below y (length before)) (core_names y (length before)) a d named names
    core_read g e p ts (hole_core phylum found holes) before after are at within =
        let long : length tokens ≡ length before + suc (length after) = ap length are ∙ length-append before (placeholder phylum.name ∷ after) in (
          omega (arith, begins, at),
          record {
            reads = record { at = omega (arith, passes (omega (arith, at, long)), at); ranges = kept ∙ sym (append-nil a.ranges.items) };
            names = less ∙ sym (append-nil named);
          },
        )
    core_read g e p ts (operator_core n o found is' z) before after are at within = absurd (some_none n (sym (top_in z) ∙ sym (ap top_operator e)))

  -- a list
  pub list_of_below : (l : ℕ) (es : List Fragment) (u : Bool) → list_of l es u ≡ t → start ≡ a.at → ReadsElements def tokens l es u a d → names ≡ named
      → ReadsBelow def tokens first t start a d named names
  unfolding is_hole
  list_of_below l es u same begins read less = record { core = core_read t same; list = list_read t same } where
    core_read : (g : Fragment) → list_of l es u ≡ g → (p : ℕ) (ts : List Token) (y : Core def g p ts) (before after : List Token) → tokens ≡ before ++ (ts ++ after)
        → a.at ≡ length before + core_leading y → IsWithin def p first (length before)
        → (start ≡ length before) × ReadsNames (length before + length ts) (core_below y (length before)) (core_names y (length before)) a d named names
    core_read g e p ts (hole_core phylum found holes) before after are at within = absurd (not_both (sym (ap is_hole e) ∙ list_of_no_hole l es u))
    core_read g e p ts (operator_core n o found is' z) before after are at within = absurd (some_none n (sym (top_in z) ∙ sym (ap top_operator e) ∙ list_of_top l es u))

    list_read : (g : Fragment) → list_of l es u ≡ g → (m depth : ℕ) (ts : List Token) (y : ListYields def g m depth ts) (before after : List Token) → tokens ≡ before ++ (ts ++ after)
        → a.at ≡ length before → (start ≡ length before) × ReadsNames (length before + length ts) (list_below y (length before)) [] a d named names
    list_read g e m depth ts y before after are at = (begins ∙ at, record { reads = read g m depth ts y before after (sym e) are at; names = less ∙ sym (append-nil named) })
