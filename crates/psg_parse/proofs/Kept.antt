-- Parts and elements that are added to what is kept, and depths counted up to one above the limit.
use Rattle.std.proofs.Common.{◌≡◌, ◌<◌, ◌≤◌, ◌+◌, ◌⊎◌, arith, ℕ, min, max, Bool, List, [], ◌∷◌, ◌++◌, Option, Some, None, refl, sym, ap, ap₂, ◌∙◌, subst}
use Rattle.psg_grammar.specs.declared.types.Item.{Item}
use Rattle.psg_grammar.specs.declared.types.Item.TheVariants as items
use Rattle.psg_grammar.specs.Fragments.{Fragment, ending, cell, operator, with_child}
use Rattle.psg_grammar.specs.Sizes.{depth_of}
use Rattle.psg_tree.specs.Shapes.{with_part, with_parts, list_of}
use Rattle.psg_tree.specs.declared.tree.Part.{Part}
use Rattle.psg_tree.specs.declared.tree.Part.TheVariants as each
use Rattle.psg_class.specs.Terminals.{Token, word, numeral, quoted, solo, symbols, placeholder, dots}
use Rattle.psg_class.specs.Machine.{behind_all, taken}
use Rattle.psg_parse.specs.Standing.{IsPast, IsKept, AreKept, ElementsKept, with_some, reversed, deepest}

-- ---- depths

pub depth_child : (a b k r x y : ℕ) → a ≡ min x 201 → b ≡ min y 201 → k ≡ min (b + 1) 201 → r ≡ max a k → r ≡ min (max x (y + 1)) 201
depth_child a b k r x y e f g h = omega (arith, e, f, g, h)

pub depth_element : (a b k r x y : ℕ) → a ≡ min x 201 → b ≡ min y 201 → k ≡ min (b + 1) 201 → r ≡ max a k → r ≡ min (max (y + 1) x) 201
depth_element a b k r x y e f g h = omega (arith, e, f, g, h)

pub nested : (a b r x y : ℕ) → a ≡ min x 401 → b ≡ min y 401 → r ≡ max a b → r ≡ min (max x y) 401
nested a b r x y e f h = omega (arith, e, f, h)

pub depth_taken : (i : Item) (t : Token) (f : Fragment) → depth_of (taken i t f) ≡ depth_of f
depth_taken (items.Refers s) (word x) f = refl
depth_taken (items.Refers s) (numeral x) f = refl
depth_taken (items.Refers s) (quoted x) f = refl
depth_taken (items.Refers s) (solo x) f = refl
depth_taken (items.Refers s) (symbols x) f = refl
depth_taken (items.Refers s) (placeholder x) f = refl
depth_taken (items.Refers s) dots f = refl
depth_taken (items.Declares s) (word x) f = refl
depth_taken (items.Declares s) (numeral x) f = refl
depth_taken (items.Declares s) (quoted x) f = refl
depth_taken (items.Declares s) (solo x) f = refl
depth_taken (items.Declares s) (symbols x) f = refl
depth_taken (items.Declares s) (placeholder x) f = refl
depth_taken (items.Declares s) dots f = refl
depth_taken items.Number (word x) f = refl
depth_taken items.Number (numeral x) f = refl
depth_taken items.Number (quoted x) f = refl
depth_taken items.Number (solo x) f = refl
depth_taken items.Number (symbols x) f = refl
depth_taken items.Number (placeholder x) f = refl
depth_taken items.Number dots f = refl
depth_taken items.Text (word x) f = refl
depth_taken items.Text (numeral x) f = refl
depth_taken items.Text (quoted x) f = refl
depth_taken items.Text (solo x) f = refl
depth_taken items.Text (symbols x) f = refl
depth_taken items.Text (placeholder x) f = refl
depth_taken items.Text dots f = refl
depth_taken (items.Word w) t f = refl
depth_taken (items.Slot k) t f = refl
depth_taken items.Space t f = refl
depth_taken items.Tight t f = refl
depth_taken items.Line t f = refl
depth_taken items.In t f = refl
depth_taken items.Out t f = refl

depth_behind : (l : ℕ) (before : List Fragment) (r : Fragment) → 1 ≤ depth_of r → depth_of (behind_all l before r) ≡ max (deepest before) (depth_of r)
depth_behind l [] r h = omega (arith, h)
depth_behind l (e ∷ before) r h =
    let more : 1 ≤ depth_of (cell l e r) = omega (arith, h) in
    let rec : depth_of (behind_all l before (cell l e r)) ≡ max (deepest before) (max (depth_of e + 1) (depth_of r)) = depth_behind l before (cell l e r) more in
    rec ∙ turned (deepest before) (depth_of e + 1) (depth_of r) where
      turned : (a b k : ℕ) → max a (max b k) ≡ max (max b a) k
      turned a b k = omega arith

at_least : (before : List Fragment) → 1 ≤ deepest before
at_least [] = omega arith
at_least (e ∷ before) = omega (arith, at_least before)

pub depth_all : (l : ℕ) (before : List Fragment) (u : Bool) → depth_of (behind_all l before (ending l u)) ≡ deepest before
depth_all l before u = depth_behind l before (ending l u) (omega arith) ∙ same (deepest before) (at_least before) where
  same : (a : ℕ) → 1 ≤ a → max a 1 ≡ a
  same a h = omega (arith, h)

-- ---- parts

one_more_part : (f : Fragment) (ps : List Part) (p : Part) → with_parts f (ps ++ p ∷ []) ≡ with_part (with_parts f ps) p
one_more_part f [] p = refl
one_more_part f (q ∷ rest) p = one_more_part (with_part f q) rest p

pub kept_child : (op : ℕ) (f t : Fragment) (d e : ℕ) (some : Option (List Part)) (parts new : List Part) (tree : Option Fragment) (child : Fragment) → some ≡ Some parts → tree ≡ Some child
    → AreKept some op f d → IsKept tree t e → new ≡ parts ++ each.Sub child ∷ [] → with_parts (operator op) new ≡ with_child f t
kept_child op f t d e some parts new tree child are is k h n =
    let fs : with_parts (operator op) parts ≡ f = subst (λ x. AreKept x op f d) are k in
    let ts : child ≡ t = subst (λ x. IsKept x t e) is h in
    ap (with_parts (operator op)) n ∙ one_more_part (operator op) parts (each.Sub child) ∙ ap₂ with_child fs ts

pub kept_token : (op : ℕ) (f : Fragment) (d : ℕ) (i : Item) (t : Token) (some : Option (List Part)) (parts new : List Part) (found : Option Part) (part : Part) → some ≡ Some parts → found ≡ Some part
    → AreKept some op f d → ((g : Fragment) → with_some g found ≡ taken i t g) → new ≡ parts ++ part ∷ [] → with_parts (operator op) new ≡ taken i t f
kept_token op f d i t some parts new found part are is k h n =
    let fs : with_parts (operator op) parts ≡ f = subst (λ x. AreKept x op f d) are k in
    ap (with_parts (operator op)) n ∙ one_more_part (operator op) parts part ∙ ap (λ x. with_part x part) fs ∙ ap (with_some f) (sym is) ∙ h f

-- ---- elements

one_more_element : (before es : List Fragment) (e : Fragment) → reversed before (es ++ e ∷ []) ≡ e ∷ reversed before es
one_more_element before [] e = refl
one_more_element before (x ∷ es) e = one_more_element (x ∷ before) es e

pub kept_element : (before : List Fragment) (e : Fragment) (d n : ℕ) (some : Option (List Fragment)) (es new : List Fragment) (tree : Option Fragment) (child : Fragment) → some ≡ Some es → tree ≡ Some child
    → ElementsKept some before d → IsKept tree e n → new ≡ es ++ child ∷ [] → reversed [] new ≡ e ∷ before
kept_element before e d n some es new tree child are is k h m =
    let bs : reversed [] es ≡ before = subst (λ x. ElementsKept x before d) are k in
    let ts : child ≡ e = subst (λ x. IsKept x e n) is h in
    ap (reversed []) m ∙ one_more_element [] es child ∙ ap₂ (λ x xs. x ∷ xs) ts bs

list_behind : (l : ℕ) (u : Bool) (before es : List Fragment) → behind_all l (reversed before es) (ending l u) ≡ behind_all l before (list_of l es u)
list_behind l u before [] = refl
list_behind l u before (e ∷ es) = list_behind l u (e ∷ before) es

pub kept_list : (l : ℕ) (u : Bool) (before : List Fragment) (d : ℕ) (some : Option (List Fragment)) (es : List Fragment) (t : Fragment) → some ≡ Some es → ElementsKept some before d → t ≡ list_of l es u
    → t ≡ behind_all l before (ending l u)
kept_list l u before d some es t are k is =
    let bs : reversed [] es ≡ before = subst (λ x. ElementsKept x before d) are k in
    is ∙ sym (list_behind l u [] es) ∙ ap (λ x. behind_all l x (ending l u)) bs

pub past_list : (l : ℕ) (u : Bool) (before : List Fragment) (d : ℕ) (some : Option (List Fragment)) → ((es : List Fragment) → some ≡ Some es → ⊥) → ElementsKept some before d → IsPast (behind_all l before (ending l u)) d
past_list l u before d None none k = subst (λ x. (200 < x) ⊎ (400 < d)) (sym (depth_all l before u)) k
past_list l u before d (Some es) none k = absurd (none es refl)
