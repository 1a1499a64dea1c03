-- What the items of an operator take of a list of names or terms, one after the other.
use Rattle.std.specs.Prelude.{ℕ, Bool, false, true, List, [], ◌∷◌, ◌++◌, ◌+◌, take, drop}
use Rattle.psg_terms.specs.Names.{Name}
use Rattle.psg_terms.specs.Terms.{Term}
use Rattle.psg_grammar.specs.declared.types.Item.{Item}
use Rattle.psg_grammar.specs.declared.types.Item.TheVariants as items
use Rattle.psg_grammar.specs.declared.types.Row.{Row}
use Rattle.psg_grammar.specs.Keys.{Key}
use Rattle.psg_tree.specs.declared.tree.Part.{Part}
use Rattle.psg_tree.specs.declared.tree.Part.TheVariants as parts
use Rattle.psg_scope.specs.declared.header.NameCol.{NameCol}
use Rattle.psg_scope.specs.Headers.{keys}
use Rattle.psg_eval.specs.OwnRows.{slot_terms, name_terms}
use Rattle.psg_explain.specs.declared.given.Case.{Case}
use Rattle.psg_explain.specs.declared.refutation.Label.TheVariants as labels
use Rattle.psg_explain.specs.Given.{beside, key_terms, own_equations, own_subjects}

-- a name position with the first name, if there is one
abbrev pub first_position : ℕ → Bool → List Name → List NameCol
first_position s declares [] = []
first_position s declares (n ∷ names) = record { space = s; name = n; declared = declares } ∷ []

-- the name position that the item is, with the first name
abbrev pub item_position : Item → List Name → List NameCol
item_position (items.Refers s) names = first_position s false names
item_position (items.Declares s) names = first_position s true names
item_position _ names = []

-- the names that are left after the item
abbrev pub names_left : Item → List Name → List Name
names_left (items.Refers s) names = drop 1 names
names_left (items.Declares s) names = drop 1 names
names_left _ names = names

-- the first term, if the item is a slot
abbrev pub item_slot : Item → List Term → List Term
item_slot (items.Slot k) terms = take 1 terms
item_slot _ terms = []

-- the first term, if the item is a name position
abbrev pub item_name : Item → List Term → List Term
item_name (items.Refers s) terms = take 1 terms
item_name (items.Declares s) terms = take 1 terms
item_name _ terms = []

-- the terms that are left after the item
abbrev pub terms_left : Item → List Term → List Term
terms_left (items.Slot k) terms = drop 1 terms
terms_left (items.Refers s) terms = drop 1 terms
terms_left (items.Declares s) terms = drop 1 terms
terms_left _ terms = terms

-- the case of an operator's own row, where the name positions and the keys are known
abbrev pub own_case_of : List Item → List NameCol → List Key → ℕ → Row → Case
own_case_of is at ks i row =
    let entities : List Term = name_terms is row.columns in
    record {
      label = labels.Row i;
      subjects = own_subjects [] [] (keys at) entities;
      given = own_equations [] [] (keys at) entities;
      columns = (row.head ∷ slot_terms is row.columns) ++ key_terms (beside (keys at) entities) ks;
    }

-- these rows, the first of which has the number i
abbrev pub own_cases_of : List Item → List NameCol → List Key → ℕ → List Row → List Case
own_cases_of is at ks i [] = []
own_cases_of is at ks i (row ∷ rest) = own_case_of is at ks i row ∷ own_cases_of is at ks (i + 1) rest

-- the name that an operator's part is
abbrev pub name_of_part : Part → List Name
name_of_part (parts.Name n) = n ∷ []
name_of_part _ = []

-- the names among the parts, in order
abbrev pub names_among : List Part → List Name
names_among [] = []
names_among (p ∷ rest) = name_of_part p ++ names_among rest
