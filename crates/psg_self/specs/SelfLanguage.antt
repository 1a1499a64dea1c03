-- The language in which definitions are edited: its phyla, lists and operators.
use Rattle.std.specs.Prelude.{ℕ, ◌≡◌, List, [], ◌∷◌, map, codes, Option, slice_get}
use Rattle.psg_terms.specs.Names.{Name}
use Rattle.psg_grammar.specs.declared.types.Kind.TheVariants as kinds
use Rattle.psg_grammar.specs.declared.types.Item.{Item}
use Rattle.psg_grammar.specs.declared.types.Item.TheVariants as items
use Rattle.psg_grammar.specs.declared.types.Phylum.{Phylum}
use Rattle.psg_grammar.specs.declared.types.ListKind.{ListKind}
use Rattle.psg_grammar.specs.declared.types.Operator.{Operator}
use Rattle.psg_grammar.specs.declared.types.Definition.{Definition}
use Rattle.psg_self.specs.declared.form.Form.{Form}
use Rattle.psg_self.specs.declared.form.Form.TheVariants as forms

-- the forms of the operators, in the order in which these are declared
abbrev pub all_forms : List Form
all_forms =
    forms.SortLine ∷ forms.PhylumLine ∷ forms.BracketedLine ∷ forms.OperatorLine ∷ forms.HoleLine
    ∷ forms.Constructor ∷ forms.Argument ∷ forms.Plain ∷ forms.Prefix ∷ forms.Postfix ∷ forms.InfixLeft
    ∷ forms.InfixRight ∷ forms.InfixNone ∷ forms.Word ∷ forms.Slot ∷ forms.Space ∷ forms.Tight ∷ forms.Line ∷ forms.In
    ∷ forms.Out ∷ forms.Row ∷ forms.Applied ∷ forms.Variable ∷ forms.Specimen ∷ []

abbrev pub form_at : ℕ → Option Form
form_at o = slice_get all_forms o

-- a fixed word
abbrev w : List ℕ → Item
w text = items.Word text

-- name, phylum and items of each operator
abbrev pub self_operators : List (Name × (ℕ × List Item))
self_operators =
    (codes "sortline", (0, w (codes "sort") ∷ items.Declares 0 ∷ w (codes "=") ∷ items.Slot (kinds.List 1) ∷ []))
    ∷ (codes "phyline", (0, w (codes "phylum") ∷ items.Declares 2 ∷ w (codes ":") ∷ items.Refers 0 ∷ []))
    ∷ (codes "brkline", (0, w (codes "bracketed") ∷ items.Declares 2 ∷ w (codes ":") ∷ items.Refers 0 ∷ []))
    ∷ (
      codes "opline",
      (
        0,
        w (codes "op") ∷ items.Declares 3 ∷ w (codes ":") ∷ items.Refers 2
            ∷ items.Slot (kinds.Phylum 3) ∷ w (codes "=") ∷ items.Slot (kinds.List 3) ∷ w (codes "rows")
            ∷ items.Slot (kinds.List 4) ∷ [],
      ),
    )
    ∷ (
      codes "holeline",
      (
        0,
        w (codes "hole") ∷ items.Refers 2 ∷ items.Slot (kinds.Phylum 6) ∷ w (codes "by")
            ∷ items.Slot (kinds.Phylum 7) ∷ [],
      ),
    )
    ∷ (
      codes "con",
      (
        1,
        items.Declares 1 ∷ items.Tight ∷ w (codes "(") ∷ items.Tight ∷ items.Slot (kinds.List 2)
            ∷ items.Tight ∷ w (codes ")") ∷ [],
      ),
    )
    ∷ (codes "arg", (2, items.Refers 0 ∷ []))
    ∷ (codes "lplain", (3, w (codes "plain") ∷ []))
    ∷ (codes "lpre", (3, w (codes "prefix") ∷ items.Number ∷ []))
    ∷ (codes "lpost", (3, w (codes "postfix") ∷ items.Number ∷ []))
    ∷ (codes "linl", (3, w (codes "infixl") ∷ items.Number ∷ []))
    ∷ (codes "linr", (3, w (codes "infixr") ∷ items.Number ∷ []))
    ∷ (codes "linn", (3, w (codes "infix") ∷ items.Number ∷ []))
    ∷ (codes "iword", (4, items.Text ∷ []))
    ∷ (codes "islot", (4, items.Refers 2 ∷ []))
    ∷ (codes "ispace", (4, w (codes "space") ∷ []))
    ∷ (codes "itight", (4, w (codes "tight") ∷ []))
    ∷ (codes "iline", (4, w (codes "line") ∷ []))
    ∷ (codes "iin", (4, w (codes "in") ∷ []))
    ∷ (codes "iout", (4, w (codes "out") ∷ []))
    ∷ (
      codes "rowline",
      (
        5,
        w (codes "row") ∷ items.Slot (kinds.Phylum 6) ∷ w (codes ":")
            ∷ items.Slot (kinds.List 5) ∷ [],
      ),
    )
    ∷ (
      codes "tcon",
      (
        6,
        items.Refers 1 ∷ items.Tight ∷ w (codes "(") ∷ items.Tight ∷ items.Slot (kinds.List 5)
            ∷ items.Tight ∷ w (codes ")") ∷ [],
      ),
    )
    ∷ (codes "tvar", (6, w (codes "%") ∷ items.Tight ∷ items.Refers 4 ∷ []))
    ∷ (
      codes "spec",
      (
        7,
        items.Refers 3 ∷ items.Tight ∷ w (codes "(") ∷ items.Tight ∷ items.Slot (kinds.List 6)
            ∷ items.Tight ∷ w (codes ")") ∷ [],
      ),
    )
    ∷ []

abbrev pub self_phyla : List Name
self_phyla =
    codes "Line" ∷ codes "Con" ∷ codes "Arg" ∷ codes "Level" ∷ codes "Item" ∷ codes "Row" ∷ codes "Term"
    ∷ codes "Spec" ∷ []

-- with the phylum of the elements
abbrev pub self_lists : List (Name × ℕ)
self_lists =
    (codes "Lines", 0) ∷ (codes "Cons", 1) ∷ (codes "Args", 2) ∷ (codes "Items", 4) ∷ (codes "Rows", 5)
    ∷ (codes "Terms", 6) ∷ (codes "Specs", 7) ∷ []

-- the phyla, lists and operators of the language are these
pub record IsSelf (def : Definition) : Type 0 where
  pub phyla : map (λ (p : Phylum). p.name) def.phyla ≡ self_phyla
  pub lists : map (λ (l : ListKind). (l.name, l.element)) def.lists ≡ self_lists
  pub operators : map (λ (o : Operator). (o.name, (o.phylum, o.items))) def.operators ≡ self_operators
