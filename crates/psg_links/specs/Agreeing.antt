-- How names and links agree with those of psg_uses.
use Rattle.std.specs.Prelude.{◌≡◌, Bool, true, false, cond, List, [], ◌∷◌, ◌++◌, is_some}
use Rattle.psg_grammar.specs.declared.types.Definition.{Definition}
use Rattle.psg_grammar.specs.Fragments.{Fragment}
use Rattle.psg_uses.specs.declared.names.Named.{Named}
use Rattle.psg_uses.specs.declared.names.Written.{Written}
use Rattle.psg_uses.specs.Free.{is_linked}
use Rattle.psg_uses.specs.Naming as naming
use Rattle.psg_uses.specs.Regions.{may_be_declared, ways_up}
use Rattle.psg_links.specs.Links.{declaration}
use Rattle.psg_links.specs.Names.{names_of}

-- those that declare, or those that do not
abbrev pub those : Bool → List Named → List Written
those declared [] = []
those declared (n ∷ ns) = cond (naming.is_same declared n.declares) (n.name ∷ []) [] ++ those declared ns

-- the names of a tree that declare are its declared names, and the others its used ones
abbrev pub NamesAgree : Definition → Type 0
NamesAgree def = (f : Fragment) (declared : Bool)
    → those declared (names_of def f) ≡ naming.names_below def declared true [] 0 f

-- A name that no unfinished list around it may still declare is linked to a declaration exactly where it is declared,
-- so that the others are the names that nothing declares.
abbrev pub LinksAgree : Definition → Type 0
LinksAgree def = (f : Fragment) (w : Written) → may_be_declared def f w.space (ways_up w.path) ≡ false
    → is_linked def f w ≡ is_some (declaration def f w)
