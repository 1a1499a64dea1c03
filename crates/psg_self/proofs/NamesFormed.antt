-- The names of a definition that formed lines spell have their forms.
use Rattle.std.proofs.Common.{List, [], ◌∷◌, ◌++◌, map, sym, ◌∙◌, subst}
use Rattle.std.specs.List.{AllByRecursion}
use Rattle.psg_terms.specs.Names.{Name}
use Rattle.psg_terms.specs.Signature.{Signature, Symbol}
use Rattle.psg_terms.specs.declared.declare.ConDecl.{ConDecl}
use Rattle.psg_terms.specs.Declarations.{IsSpelled}
use Rattle.psg_terms.proofs.DeclareFaults.{symbol_names}
use Rattle.psg_grammar.specs.declared.types.Phylum.{Phylum}
use Rattle.psg_grammar.specs.declared.types.Definition.{Definition}
use Rattle.psg_grammar.specs.Sound.{IsKindName, IsOwnName}
use Rattle.psg_deflines.specs.Forms.{HasConstructorForm, HasForm}
use Rattle.psg_deflines.specs.declared.lines.Line.{Line}
use Rattle.psg_deflines.specs.declared.lines.Line.TheVariants as lines
use Rattle.psg_defcheck.specs.Scopes.{constructor_names, names_of}
use Rattle.psg_defnumber.specs.Numbers.{ArePhyla, sort_decls}
use Rattle.psg_defnumber.proofs.OnceLaws.{decls-constructors}

abbrev pub HaveNames : List Symbol → Type 0
HaveNames symbols = AllByRecursion (λ (s : Symbol). IsOwnName s.name) symbols

abbrev pub HaveKindNames : List Phylum → Type 0
HaveKindNames phyla = AllByRecursion (λ (p : Phylum). IsKindName p.name) phyla

own-names : (cs : List ConDecl) → AllByRecursion HasConstructorForm cs → AllByRecursion IsOwnName (names_of cs)
own-names [] h = tt
own-names (c ∷ cs) h = (h.0.0, own-names cs h.1)

both-names : (xs ys : List Name) → AllByRecursion IsOwnName xs → AllByRecursion IsOwnName ys → AllByRecursion IsOwnName (xs ++ ys)
both-names [] ys h k = k
both-names (x ∷ xs) ys h k = (h.0, both-names xs ys h.1 k)

all-names : (ls : List Line) → AllByRecursion HasForm ls → AllByRecursion IsOwnName (constructor_names ls)
all-names [] h = tt
all-names (lines.Sort d ∷ ls) h =
    both-names (names_of d.constructors) (constructor_names ls) (own-names d.constructors h.0.2) (all-names ls h.1)
all-names (_ ∷ ls) h = all-names ls h.1

from-map : (xs : List Symbol) → AllByRecursion IsOwnName (map (λ (s : Symbol). s.name) xs) → HaveNames xs
from-map [] h = tt
from-map (x ∷ xs) h = (h.0, from-map xs h.1)

pub symbols-formed : (ls : List Line) (sig : Signature) → IsSpelled (sort_decls ls) sig → AllByRecursion HasForm ls → HaveNames sig.symbols
symbols-formed ls sig spelled forms =
    from-map sig.symbols
    (subst (AllByRecursion IsOwnName) (sym (symbol_names (sort_decls ls) sig spelled ∙ decls-constructors 0 ls)) (all-names ls forms))

pub phyla-formed : (def : Definition) (ls : List Line) (all : List Phylum) → ArePhyla def ls all → AllByRecursion HasForm ls → HaveKindNames all
phyla-formed def [] all h f = subst HaveKindNames (sym h) tt
phyla-formed def (lines.Phylum n s b ∷ ls) all h f =
    subst HaveKindNames (sym h.2) (subst IsKindName (sym h.3.named) f.0.0, phyla-formed def ls h.1 h.4 f.1)
phyla-formed def (_ ∷ ls) all h f = phyla-formed def ls all h f.1
