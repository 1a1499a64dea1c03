-- The names and literals of an operator, as they are typed one after the other.
use Rattle.std.specs.Prelude.{ℕ, ◌==◌, Bool, false, cond, List, [], ◌∷◌, ◌++◌, Option, Some, None}
use Rattle.std.specs.Prelude.{bytes_eq, codes, length, slice_get, unwrap_or}
use Rattle.std.specs.Str.{trim}
use Rattle.psg_terms.specs.Names.{Name}
use Rattle.psg_grammar.specs.declared.types.Definition.{Definition}
use Rattle.psg_grammar.specs.declared.types.Operator.{Operator}
use Rattle.psg_grammar.specs.declared.types.Item.{Item}
use Rattle.psg_grammar.specs.declared.types.Item.TheVariants as items
use Rattle.psg_tree.specs.AbstractText.{quoted}
use Rattle.psg_keymap.specs.declared.leaves.Leaf.{Leaf}
use Rattle.psg_keymap.specs.declared.leaves.Leaf.TheVariants as leaf
use Rattle.psg_keymap.specs.Faces.{Face, typed_text, picked_offer}

-- what the item is, if it is a name or a literal
abbrev pub leaf_of : Item → Option Leaf
leaf_of (items.Refers s) = Some leaf.Name
leaf_of (items.Declares s) = Some leaf.NewName
leaf_of items.Number = Some leaf.Number
leaf_of items.Text = Some leaf.Text
leaf_of _ = None

abbrev pub listed : Option Leaf → List Leaf
listed None = []
listed (Some l) = l ∷ []

abbrev pub leaves_in : List Item → List Leaf
leaves_in [] = []
leaves_in (item ∷ rest) = listed (leaf_of item) ++ leaves_in rest

-- the first operator of this name
abbrev pub operator_named : List Operator → Name → Option Operator
operator_named [] name = None
operator_named (op ∷ ops) name = cond (bytes_eq op.name name) (Some op) (operator_named ops name)

abbrev pub items_by : Option Operator → List Item
items_by None = []
items_by (Some op) = op.items

-- the names and literals of the operator of this name, in the order of its items
abbrev pub leaves_of : Definition → Name → List Leaf
leaves_of def name = leaves_in (items_by (operator_named def.operators name))

abbrev pub is_quote : Option ℕ → Bool
is_quote None = false
is_quote (Some b) = b == 34

-- a text is put in quotes unless it begins with one
abbrev pub text_arg : List ℕ → List ℕ
text_arg line = cond (is_quote (slice_get (trim line) 0)) (trim line) (quoted line)

-- where no name is typed it is the one that is picked
abbrev pub or_picked : Option Name → List ℕ → List ℕ
or_picked picked word = cond (length word == 0) (unwrap_or picked []) word

-- what is typed as an argument
abbrev pub arg_of : Face → Leaf → List ℕ
arg_of f leaf.Text = text_arg (typed_text f)
arg_of f leaf.Name = or_picked (picked_offer f) (trim (typed_text f))
arg_of f _ = trim (typed_text f)

abbrev pub spaced : List ℕ → List ℕ
spaced args = cond (length args == 0) args (args ++ 32 ∷ [])

-- the arguments with one more
abbrev pub args_with : Face → Leaf → List ℕ
args_with f l = spaced f.args ++ arg_of f l

-- what the leaf is, in words
abbrev pub leaf_words : Leaf → List ℕ
leaf_words leaf.Name = codes "a name"
leaf_words leaf.NewName = codes "a new name"
leaf_words leaf.Number = codes "a number"
leaf_words leaf.Text = codes "a text"
