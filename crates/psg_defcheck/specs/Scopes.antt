-- What the names of a file mean. A name that several lines declare means its first declaration.
use Rattle.std.specs.Prelude.{ℕ, Bool, true, false, cond, bytes_eq, is_some, Option, Some, None, option_and_then, List}
use Rattle.std.specs.Prelude.{[], ◌∷◌, ◌++◌}
use Rattle.psg_terms.specs.Names.{Name, is_among}
use Rattle.psg_terms.specs.declared.declare.ConDecl.{ConDecl}
use Rattle.psg_terms.specs.declared.declare.SortDecl.{SortDecl}
use Rattle.psg_deflines.specs.declared.lines.LineItem.{LineItem}
use Rattle.psg_deflines.specs.declared.lines.Line.{Line}
use Rattle.psg_deflines.specs.declared.lines.Line.TheVariants as lines

-- the names that lines declare, in order
abbrev pub sort_names : List Line → List Name
sort_names [] = []
sort_names (lines.Sort d ∷ rest) = d.name ∷ sort_names rest
sort_names (_ ∷ rest) = sort_names rest

-- the names of constructors
abbrev pub names_of : List ConDecl → List Name
names_of [] = []
names_of (c ∷ rest) = c.name ∷ names_of rest

-- the names of all constructors, in the order of lines
abbrev pub constructor_names : List Line → List Name
constructor_names [] = []
constructor_names (lines.Sort d ∷ rest) = names_of d.constructors ++ constructor_names rest
constructor_names (_ ∷ rest) = constructor_names rest

-- the names of phyla and lists together, in the order of lines
abbrev pub kind_names : List Line → List Name
kind_names [] = []
kind_names (lines.Phylum name sort bracketed ∷ rest) = name ∷ kind_names rest
kind_names (lines.List name sort element separator on_lines unfinished ∷ rest) = name ∷ kind_names rest
kind_names (_ ∷ rest) = kind_names rest

-- the names of phyla alone, in the order of lines
abbrev pub phylum_names : List Line → List Name
phylum_names [] = []
phylum_names (lines.Phylum name sort bracketed ∷ rest) = name ∷ phylum_names rest
phylum_names (_ ∷ rest) = phylum_names rest

-- the names of lists alone, in the order of lines
abbrev pub list_names : List Line → List Name
list_names [] = []
list_names (lines.List name sort element separator on_lines unfinished ∷ rest) = name ∷ list_names rest
list_names (_ ∷ rest) = list_names rest

-- the names of operators, in the order of lines
abbrev pub operator_names : List Line → List Name
operator_names [] = []
operator_names (lines.Operator name phylum scope level made ∷ rest) = name ∷ operator_names rest
operator_names (_ ∷ rest) = operator_names rest

-- the spaces with the names of their sorts, in order
abbrev pub spaces : List Line → List (Name × Name)
spaces [] = []
spaces (lines.Space name sort ∷ rest) = (name, sort) ∷ spaces rest
spaces (_ ∷ rest) = spaces rest

-- the names of spaces, in the order of lines; that of an entity line is empty
abbrev pub space_names : List Line → List Name
space_names [] = []
space_names (lines.Space name sort ∷ rest) = name ∷ space_names rest
space_names (_ ∷ rest) = space_names rest

-- the sort of the first space
abbrev pub entity_sort : List Line → Option Name
entity_sort [] = None
entity_sort (lines.Space name sort ∷ rest) = Some sort
entity_sort (_ ∷ rest) = entity_sort rest

-- the sort of the first line that declares the space
abbrev pub space_declared : List Line → Name → Option Name
space_declared [] n = None
space_declared (lines.Space name sort ∷ rest) n = cond (bytes_eq name n) (Some sort) (space_declared rest n)
space_declared (_ ∷ rest) n = space_declared rest n

-- where no name is written, the first space is meant
abbrev pub space_sort : List Line → Name → Option Name
space_sort file [] = entity_sort file
space_sort file (c ∷ cs) = space_declared file (c ∷ cs)

-- the first line that declares the sort
abbrev pub sort_declared : List Line → Name → Option SortDecl
sort_declared [] n = None
sort_declared (lines.Sort d ∷ rest) n = cond (bytes_eq d.name n) (Some d) (sort_declared rest n)
sort_declared (_ ∷ rest) n = sort_declared rest n

-- a constructor with the name of its sort
abbrev pub Constructor : Type 0
Constructor = Name × ConDecl

-- the first constructor of the name among those of a sort, or else the one that is given
abbrev pub constructor_among : Name → List ConDecl → Name → Option Constructor → Option Constructor
constructor_among sort [] n behind = behind
constructor_among sort (c ∷ rest) n behind =
    cond (bytes_eq c.name n) (Some (sort, c)) (constructor_among sort rest n behind)

-- the first constructor of the name, with its sort
abbrev pub constructor_declared : List Line → Name → Option Constructor
constructor_declared [] n = None
constructor_declared (lines.Sort d ∷ rest) n = constructor_among d.name d.constructors n (constructor_declared rest n)
constructor_declared (_ ∷ rest) n = constructor_declared rest n

-- what a kind's line says: its sort, and for a list the name of its elements' phylum
pub data KindDecl : Type 0 where
  a_phylum : (sort : List ℕ) → KindDecl
  a_list : (sort element : List ℕ) → KindDecl

-- phyla and lists share their names
abbrev pub kind_declared : List Line → Name → Option KindDecl
kind_declared [] n = None
kind_declared (lines.Phylum name sort bracketed ∷ rest) n =
    cond (bytes_eq name n) (Some (a_phylum sort)) (kind_declared rest n)
kind_declared (lines.List name sort element separator on_lines unfinished ∷ rest) n =
    cond (bytes_eq name n) (Some (a_list sort element)) (kind_declared rest n)
kind_declared (_ ∷ rest) n = kind_declared rest n

-- what an operator's line says of its trees
pub record OpDecl : Type 0 where
  pub phylum : Name
  pub made : List LineItem

-- the first operator of the name
abbrev pub operator_declared : List Line → Name → Option OpDecl
operator_declared [] n = None
operator_declared (lines.Operator name phylum scope level made ∷ rest) n =
    cond (bytes_eq name n) (Some (record { phylum = phylum; made = made })) (operator_declared rest n)
operator_declared (_ ∷ rest) n = operator_declared rest n

-- the operator to which a row after the lines belongs: the last one
abbrev pub last_operator : Option OpDecl → List Line → Option OpDecl
last_operator last [] = last
last_operator last (lines.Operator name phylum scope level made ∷ rest) = last_operator
    (Some (record { phylum = phylum; made = made })) rest
last_operator last (_ ∷ rest) = last_operator last rest

-- the kind of the hole row to which a case after the lines belongs: the last one
abbrev pub last_hole : Option Name → List Line → Option Name
last_hole last [] = last
last_hole last (lines.Hole kind term specimen ∷ rest) = last_hole (Some kind) rest
last_hole last (_ ∷ rest) = last_hole last rest

-- a phylum, a list, either
abbrev pub is_phylum : List Line → Name → Bool
is_phylum file n = told (kind_declared file n)
  where
    told : Option KindDecl → Bool
    told (Some (a_phylum sort)) = true
    told _ = false

-- the name's first line is a list's
abbrev pub is_list : List Line → Name → Bool
is_list file n = told (kind_declared file n)
  where
    told : Option KindDecl → Bool
    told (Some (a_list sort element)) = true
    told _ = false

-- the name is a phylum's or a list's
abbrev pub is_kind : List Line → Name → Bool
is_kind file n = is_some (kind_declared file n)

-- A place's sort, phylum or list, where lines declare it; where none does, nothing is of another one there.
abbrev pub Place : Type 0
Place = Option Name

-- the sort, where a line declares it
abbrev pub sort_place : List Line → Name → Place
sort_place file n = cond (is_among (sort_names file) n) (Some n) None

-- the phylum or list, where a line declares it
abbrev pub kind_place : List Line → Name → Place
kind_place file n = cond (is_kind file n) (Some n) None

-- the phylum, where a line declares it
abbrev pub phylum_place : List Line → Name → Place
phylum_place file n = cond (is_phylum file n) (Some n) None

-- the name of the sort that the line says
abbrev pub sort_told : KindDecl → Name
sort_told (a_phylum sort) = sort
sort_told (a_list sort element) = sort

-- the name of the phylum of a list's elements
abbrev pub element_told : KindDecl → Option Name
element_told (a_phylum sort) = None
element_told (a_list sort element) = Some element

-- the sort of the values of a kind's trees
abbrev pub value_place : List Line → Name → Place
value_place file n = option_and_then (λ d. sort_place file (sort_told d)) (kind_declared file n)

-- the phylum of a list's elements
abbrev pub element_place : List Line → Name → Place
element_place file n = option_and_then (phylum_place file) (option_and_then element_told (kind_declared file n))

-- the sort of the entities of a space
abbrev pub entity_place : List Line → Name → Place
entity_place file space = option_and_then (sort_place file) (space_sort file space)
