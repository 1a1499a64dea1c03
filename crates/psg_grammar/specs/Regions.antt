-- The region of a tree: its parts down to the scope operators and not into them.
use Rattle.std.specs.Prelude.{ℕ, ◌≡◌, ◌&&◌, ◌||◌, not, Bool, true, false, cond, List, [], ◌∷◌, ◌++◌}
use Rattle.psg_grammar.specs.declared.types.Kind.TheVariants as kinds
use Rattle.psg_grammar.specs.declared.types.Definition.{Definition}
use Rattle.psg_grammar.specs.Fragments.{Fragment, hole, ending, cell, operator, with_child, with_name, with_number}
use Rattle.psg_grammar.specs.Fragments.{with_text, anything, observed}
use Rattle.psg_terms.specs.Names.{has_twice}
use Rattle.psg_grammar.specs.Keys.{Key, outward, in_order}
use Rattle.psg_grammar.specs.Lookups.{is_scope, next_item, is_declares, key_at}
use Rattle.psg_grammar.specs.Declaring.{is_declaring}

-- the keys declared in the inside region of a scope operator, or in the region of another tree
abbrev pub declared_inside : Definition → Fragment → List Key
declared_inside def (hole p) = []
declared_inside def (ending l u) = []
declared_inside def (cell l e r) = cond (is_scope def e) [] (declared_inside def e) ++ declared_inside def r
declared_inside def (operator o) = []
declared_inside def (with_child f t) = declared_inside def f ++ cond (is_scope def t) [] (declared_inside def t)
declared_inside def (with_name f n) = declared_inside def f
    ++ cond (is_declares (next_item def f)) (key_at def f n ∷ []) []
declared_inside def (with_number f n) = declared_inside def f
declared_inside def (with_text f t) = declared_inside def f
declared_inside def anything = []
declared_inside def (observed f) = declared_inside def f

-- the keys declared in the region of a tree
abbrev pub declared_in : Definition → Fragment → List Key
declared_in def f = cond (is_scope def f) [] (declared_inside def f)

-- whether the inside region has an unfinished list that declares in the space
abbrev pub unfinished_inside : Definition → ℕ → Fragment → Bool
unfinished_inside def s (hole p) = false
unfinished_inside def s (ending l u) = u && is_declaring def s (kinds.List l)
unfinished_inside def s (cell l e r) = (not (is_scope def e) && unfinished_inside def s e) || unfinished_inside def s r
unfinished_inside def s (operator o) = false
unfinished_inside def s (with_child f t) = unfinished_inside def s f
    || (not (is_scope def t) && unfinished_inside def s t)
unfinished_inside def s (with_name f n) = unfinished_inside def s f
unfinished_inside def s (with_number f n) = unfinished_inside def s f
unfinished_inside def s (with_text f t) = unfinished_inside def s f
unfinished_inside def s anything = false
unfinished_inside def s (observed f) = unfinished_inside def s f

-- the keys that pass outward from a scope operator with these keys inside
abbrev pub passing : Bool → (ℕ → Bool) → List Key → List Key → List Key
passing scope unfinished declared names = cond scope (outward unfinished declared names) names

-- the keys of a region's positions, and those that pass outward from the scope operators in it
abbrev pub names_inside : Definition → Fragment → List Key
names_inside def (hole p) = []
names_inside def (ending l u) = []
names_inside def (cell l e r) =
    passing (is_scope def e) (λ s. unfinished_inside def s e) (declared_inside def e) (names_inside def e)
    ++ names_inside def r
names_inside def (operator o) = []
names_inside def (with_child f t) = names_inside def f
    ++ passing (is_scope def t) (λ s. unfinished_inside def s t) (declared_inside def t) (names_inside def t)
names_inside def (with_name f n) = names_inside def f ++ key_at def f n ∷ []
names_inside def (with_number f n) = names_inside def f
names_inside def (with_text f t) = names_inside def f
names_inside def anything = []
names_inside def (observed f) = names_inside def f

-- the keys of a tree, in order
abbrev pub names_of : Definition → Fragment → List Key
names_of def f = in_order (passing (is_scope def f) (λ s. unfinished_inside def s f) (declared_inside def f)
    (names_inside def f))

-- if the node is a scope operator, no key is declared twice
abbrev pub AreDistinct : Bool → List Key → Type 0
AreDistinct scope names = scope ≡ true → has_twice names ≡ false

-- no scope operator below the top declares a key twice inside
abbrev pub DistinctBelow : Definition → Fragment → Type 0
DistinctBelow def (hole p) = Unit {0}
DistinctBelow def (ending l u) = Unit {0}
DistinctBelow def (cell l e r) = DistinctBelow def e × AreDistinct (is_scope def e) (declared_inside def e)
    × DistinctBelow def r
DistinctBelow def (operator o) = Unit {0}
DistinctBelow def (with_child f t) = DistinctBelow def f × DistinctBelow def t
    × AreDistinct (is_scope def t) (declared_inside def t)
DistinctBelow def (with_name f n) = DistinctBelow def f
DistinctBelow def (with_number f n) = DistinctBelow def f
DistinctBelow def (with_text f t) = DistinctBelow def f
DistinctBelow def anything = Unit {0}
DistinctBelow def (observed f) = DistinctBelow def f

-- neither the region of the tree nor that inside of a scope operator declares a key twice
abbrev pub IsDistinct : Definition → Fragment → Type 0
IsDistinct def f = (has_twice (declared_inside def f) ≡ false) × DistinctBelow def f
