-- Tables from names to what their first declarations say.
use Rattle.std.specs.Prelude.{ℕ, ◌≡◌, List, Option, bytes_eq}
use Rattle.std.specs.Option.{option_map}
use Rattle.std.specs.HashMap.{HashMap, get_by}
use Rattle.std.specs.Borrow.{Bor}
use Rattle.std.specs.declared.hash.FoldHasher.{FoldHasher}
use Rattle.std.specs.declared.hash.BuildHasherDefault.{BuildHasherDefault}
use Rattle.psg_terms.specs.Names.{Name}
use Rattle.psg_terms.specs.declared.declare.SortDecl.{SortDecl}
use Rattle.psg_deflines.specs.declared.lines.Line.{Line}
use Rattle.psg_defcheck.specs.Scopes.{Constructor, constructor_declared, KindDecl, a_phylum, a_list, kind_declared}
use Rattle.psg_defcheck.specs.Scopes.{OpDecl, operator_declared, sort_declared, entity_sort, space_declared}
use Rattle.psg_defcheck.specs.declared.tables.DeclaredConstructor.{DeclaredConstructor}
use Rattle.psg_defcheck.specs.declared.tables.Kind.{Kind}
use Rattle.psg_defcheck.specs.declared.tables.Kind.TheVariants as kinds
use Rattle.psg_defcheck.specs.declared.tables.Operator.{Operator}
use Rattle.psg_defcheck.specs.declared.tables.Tables.{Tables}

-- a table by names
abbrev pub Table : Type 0 → Type 0
Table X = HashMap (Bor (List ℕ)) X (BuildHasherDefault FoldHasher)

-- what the table has of the name
abbrev pub found : {X : Type 0} → Table X → Name → Option X
found m n = get_by (λ k. bytes_eq n k.now) m

-- what the table has of each name, read in this way, is what is declared
abbrev pub Tells : {X Y : Type 0} → (X → Y) → Table X → (Name → Option Y) → Type 0
Tells read m declared = (n : Name) → option_map read (found m n) ≡ declared n

-- the constructor that an entry is
abbrev pub constructor_told : DeclaredConstructor → Constructor
constructor_told m = (m.sort.now, m.decl.now)

-- the phylum or list that an entry is
abbrev pub kind_told : Kind → KindDecl
kind_told (kinds.Phylum sort) = a_phylum sort.now
kind_told (kinds.List sort element) = a_list sort.now element.now

-- the operator that an entry is
abbrev pub operator_told : Operator → OpDecl
operator_told o = record { phylum = o.phylum.now; made = o.items.now }

-- the sort that an entry is
abbrev pub sort_told : Bor SortDecl → SortDecl
sort_told d = d.now

-- the name that an entry is
abbrev pub name_told : Bor (List ℕ) → Name
name_told n = n.now

-- the table of constructors has for each name what the function says
abbrev pub TellsConstructors : Table DeclaredConstructor → (Name → Option Constructor) → Type 0
TellsConstructors = Tells constructor_told

-- the tables are those of the lines
pub record AreTables (file : List Line) (t : Tables) : Type 0 where
  pub sorts : Tells sort_told t.sorts (sort_declared file)
  pub constructors : Tells constructor_told t.constructors (constructor_declared file)
  pub kinds : Tells kind_told t.kinds (kind_declared file)
  pub operators : Tells operator_told t.operators (operator_declared file)
  pub spaces : Tells name_told t.spaces (space_declared file)
  pub entity : option_map name_told t.entity ≡ entity_sort file
