-- Trees without the places that occur in definitions alone.
use Rattle.std.proofs.Common.{◌≡◌, inl, inr, List, [], ◌∷◌}
use Rattle.psg_grammar.specs.declared.types.Kind.{Kind}
use Rattle.psg_grammar.specs.declared.types.Kind.TheVariants as kinds
use Rattle.psg_grammar.specs.declared.types.Item.{Item}
use Rattle.psg_grammar.specs.declared.types.Item.TheVariants as items
use Rattle.psg_grammar.specs.declared.types.Definition.{Definition}
use Rattle.psg_grammar.specs.Fragments.{Fragment, hole, ending, cell, operator, with_child, with_name, with_number, with_text, anything, observed}
use Rattle.psg_grammar.specs.Paths.{IsList}
use Rattle.psg_grammar.specs.WellFormed.{Fits, IsPlain}
use Rattle.psg_cache.specs.Notes.{IsFormed}
use Rattle.psg_cache.proofs.Each.{not_nil}

-- an operator with some of its parts
abbrev pub IsSpine : Fragment → Type 0
IsSpine (operator o) = Unit {0}
IsSpine (with_child f t) = IsSpine f
IsSpine (with_name f n) = IsSpine f
IsSpine (with_number f n) = IsSpine f
IsSpine (with_text f t) = IsSpine f
IsSpine (hole p) = ⊥
IsSpine (ending l u) = ⊥
IsSpine (cell l e r) = ⊥
IsSpine anything = ⊥
IsSpine (observed f) = ⊥

-- placeholders, operators with parts, and lists that go on with lists
abbrev pub IsReal : Fragment → Type 0
IsReal (hole p) = Unit {0}
IsReal (ending l u) = Unit {0}
IsReal (cell l e r) = IsReal e × IsReal r × IsList r
IsReal (operator o) = Unit {0}
IsReal (with_child f t) = IsReal f × IsReal t × IsSpine f
IsReal (with_name f n) = IsReal f × IsSpine f
IsReal (with_number f n) = IsReal f × IsSpine f
IsReal (with_text f t) = IsReal f × IsSpine f
IsReal anything = ⊥
IsReal (observed f) = ⊥

no_both : (p l : _) → kinds.List l ≡ kinds.Phylum p → ⊥
no_both p l e = cc

module _ (def : Definition) where
  -- what parts still follow is an operator
  spine : (f : Fragment) (i : Item) (more : List Item) (kind : Kind) → Fits def f (i ∷ more) kind → IsSpine f
  spine (hole p) i more kind h = absurd (not_nil i more h.0)
  spine (ending l u) i more kind h = absurd (not_nil i more h.0)
  spine (cell l e r) i more kind h = absurd (not_nil i more h.0)
  spine (operator o) i more kind h = tt
  spine (with_child f t) i more kind (k, hf, ht) = spine f (items.Slot k) (i ∷ more) kind hf
  spine (with_name f n) i more kind (inl (s, h), name) = spine f (items.Refers s) (i ∷ more) kind h
  spine (with_name f n) i more kind (inr (s, h), name) = spine f (items.Declares s) (i ∷ more) kind h
  spine (with_number f n) i more kind (h, small) = spine f items.Number (i ∷ more) kind h
  spine (with_text f t) i more kind (h, text) = spine f items.Text (i ∷ more) kind h
  spine anything i more kind h = absurd h
  spine (observed f) i more kind h = absurd (not_nil i more h.0)

  -- an operator is of a phylum
  phylum : (f : Fragment) (more : List Item) (kind : Kind) → IsSpine f → Fits def f more kind
      → (p : _) × (kind ≡ kinds.Phylum p)
  phylum (operator o) more kind s (op, found, e, k) = (op.phylum, k)
  phylum (with_child f t) more kind s (k, hf, ht) = phylum f (items.Slot k ∷ more) kind s hf
  phylum (with_name f n) more kind s (inl (a, h), name) = phylum f (items.Refers a ∷ more) kind s h
  phylum (with_name f n) more kind s (inr (a, h), name) = phylum f (items.Declares a ∷ more) kind s h
  phylum (with_number f n) more kind s (h, small) = phylum f (items.Number ∷ more) kind s h
  phylum (with_text f t) more kind s (h, text) = phylum f (items.Text ∷ more) kind s h
  phylum (hole p) more kind s h = absurd s
  phylum (ending l u) more kind s h = absurd s
  phylum (cell l e r) more kind s h = absurd s
  phylum anything more kind s h = absurd s
  phylum (observed f) more kind s h = absurd s

  no_spine : (f : Fragment) (l : _) → IsSpine f → Fits def f [] (kinds.List l) → ⊥
  no_spine f l s h = let (p, e) = phylum f [] (kinds.List l) s h in no_both p l e

  listed : (f : Fragment) (l : _) → IsReal f → IsPlain f → Fits def f [] (kinds.List l) → IsList f
  listed (hole p) l real plain h = absurd (no_both p l h.1)
  listed (ending k u) l real plain h = tt
  listed (cell k e r) l real plain h = tt
  listed (operator o) l real plain h = absurd (no_spine (operator o) l tt h)
  listed (with_child f t) l real plain h = absurd (no_spine (with_child f t) l real.2 h)
  listed (with_name f n) l real plain h = absurd (no_spine (with_name f n) l real.1 h)
  listed (with_number f n) l real plain h = absurd (no_spine (with_number f n) l real.1 h)
  listed (with_text f t) l real plain h = absurd (no_spine (with_text f t) l real.1 h)
  listed anything l real plain h = absurd h
  listed (observed f) l real plain h = absurd plain

  pub real_tree : (f : Fragment) (more : List Item) (kind : Kind) → Fits def f more kind → IsPlain f → IsReal f
  real_tree (hole p) more kind h plain = tt
  real_tree (ending l u) more kind h plain = tt
  real_tree (cell l e r) more kind (a, b, k, found, fe, fr, z) plain =
      let rest = real_tree r [] (kinds.List l) fr plain.1 in
      (real_tree e [] (kinds.Phylum k.element) fe plain.0, rest, listed r l rest plain.1 fr)
  real_tree (operator o) more kind h plain = tt
  real_tree (with_child f t) more kind (k, hf, ht) plain = (
    real_tree f (items.Slot k ∷ more) kind hf plain.0,
    real_tree t [] k ht plain.1,
    spine f (items.Slot k) more kind hf,
  )
  real_tree (with_name f n) more kind (inl (s, h), name) plain =
      (real_tree f (items.Refers s ∷ more) kind h plain, spine f (items.Refers s) more kind h)
  real_tree (with_name f n) more kind (inr (s, h), name) plain =
      (real_tree f (items.Declares s ∷ more) kind h plain, spine f (items.Declares s) more kind h)
  real_tree (with_number f n) more kind (h, small) plain =
      (real_tree f (items.Number ∷ more) kind h plain, spine f items.Number more kind h)
  real_tree (with_text f t) more kind (h, text) plain =
      (real_tree f (items.Text ∷ more) kind h plain, spine f items.Text more kind h)
  real_tree anything more kind h plain = absurd h
  real_tree (observed f) more kind h plain = absurd plain

  pub real : (f : Fragment) → IsFormed def f → IsReal f
  real f (kind, (fits, plain)) = real_tree f [] kind fits plain
