-- Which declaration a name is linked to, and which names are together.
use Rattle.std.specs.Prelude.{◌&&◌, Bool, true, false, cond, List, [], ◌∷◌, map, Option, Some, None}
use Rattle.psg_grammar.specs.declared.types.Definition.{Definition}
use Rattle.psg_grammar.specs.Fragments.{Fragment}
use Rattle.psg_uses.specs.declared.names.Named.{Named}
use Rattle.psg_uses.specs.declared.names.Written.{Written}
use Rattle.psg_uses.specs.Naming.{is_same_key, is_same_place}
use Rattle.psg_uses.specs.Regions.{declared_on, ways_up}
use Rattle.psg_links.specs.declared.link.Link.{Link}
use Rattle.psg_links.specs.Names.{names_of}

-- the first of them that has the key of the name
abbrev pub first_key : Written → List Written → Option Written
first_key w [] = None
first_key w (d ∷ ds) = cond (is_same_key d w) (Some d) (first_key w ds)

-- The first declaration of the name's key in the innermost region around it that declares the key. Of a name that
-- declares this is the first declaration of its key in its own region: itself, where that region declares the key once.
-- There is none where no region around declares the key; that an unfinished list may still declare it is no matter
-- here.
abbrev pub declaration : Definition → Fragment → Written → Option Written
declaration def f w = first_key w (declared_on def f (ways_up w.path))

abbrev pub link_of : Definition → Fragment → Named → Link
link_of def f n = record { name = n.name; declares = n.declares; declaration = declaration def f n.name }

-- the links of all names, in the order of the text
abbrev pub links_of : Definition → Fragment → List Link
links_of def f = map (link_of def f) (names_of def f)

-- both are the same declaration, or there is none
abbrev pub is_same_link : Option Written → Option Written → Bool
is_same_link None None = true
is_same_link (Some a) (Some b) = is_same_place a b
is_same_link None (Some b) = false
is_same_link (Some a) None = false

-- names of one key that are linked to the same declaration, or both to the outside
abbrev pub is_together : Link → Link → Bool
is_together a b = is_same_key a.name b.name && is_same_link a.declaration b.declaration
