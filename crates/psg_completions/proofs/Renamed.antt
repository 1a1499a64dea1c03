-- The tree of a specimen with new names.
use Rattle.std.proofs.Common.{◌≡◌, inl, inr, true, List, [], ◌∷◌, refl}
use Rattle.psg_terms.specs.Names.{is_among}
use Rattle.psg_grammar.specs.declared.types.Kind.{Kind}
use Rattle.psg_grammar.specs.declared.types.Kind.TheVariants as kinds
use Rattle.psg_grammar.specs.declared.types.Item.{Item}
use Rattle.psg_grammar.specs.declared.types.Item.TheVariants as items
use Rattle.psg_grammar.specs.declared.types.Definition.{Definition}
use Rattle.psg_grammar.specs.Fragments.{Fragment, hole, ending, cell, operator, with_child, with_name, with_number, with_text, anything, observed}
use Rattle.psg_grammar.specs.Keys.{Key, space_of}
use Rattle.psg_grammar.specs.Lookups.{key_at}
use Rattle.psg_grammar.specs.WellFormed.{IsPlain}
use Rattle.psg_grammar.specs.Placed.{FitsPlaces}
use Rattle.psg_completions.proofs.NameLaws.{among_left, among_right, among_one}
use Rattle.psg_completions.proofs.Counting.{Renaming}
use Rattle.psg_completions.proofs.Growth.{CanGrow, Supplied, unobserved}
use Rattle.psg_completions.proofs.FreshNames.{IsKeyFor, all_names}

-- nothing is observed in a specimen
pub plain_places : (def : Definition) (f : Fragment) (more : List Item) (kind : Kind) (places left : List Kind)
    → FitsPlaces def ⊥ f more kind places left → IsPlain f
plain_places def (hole p) more kind places left h = tt
plain_places def (ending l u) more kind places left h = tt
plain_places def (cell l e r) more kind places left (a, b, mid, k, at, he, hr) =
    (plain_places def e [] (kinds.Phylum k.element) places mid he, plain_places def r [] (kinds.List l) mid left hr)
plain_places def (operator o) more kind places left h = tt
plain_places def (with_child f t) more kind places left (k, mid, hf, ht) =
    (plain_places def f (items.Slot k ∷ more) kind places mid hf, plain_places def t [] k mid left ht)
plain_places def (with_name f n) more kind places left (inl (s, h)) =
    plain_places def f (items.Refers s ∷ more) kind places left h
plain_places def (with_name f n) more kind places left (inr (s, h)) =
    plain_places def f (items.Declares s ∷ more) kind places left h
plain_places def (with_number f n) more kind places left (h, small) =
    plain_places def f (items.Number ∷ more) kind places left h
plain_places def (with_text f t) more kind places left (h, text) =
    plain_places def f (items.Text ∷ more) kind places left h
plain_places def anything more kind places left h = tt
plain_places def (observed f) more kind places left h = absurd h.0

-- new keys for those of a specimen
abbrev pub renaming_of : (Key → Key) → (Key → Key) → List Key → Renaming
renaming_of to back targets = record { to = to; back = back; mine = is_among targets }

-- a specimen has no placeholder and no unfinished list
abbrev pub no_supply : (def : Definition) (names : Renaming)
    → ((m : Key) → names.mine m ≡ true → names.to (names.back m) ≡ m)
    → ((m : Key) → names.mine m ≡ true → space_of (names.back m) ≡ space_of m) → Supplied def names ⊥
no_supply def names over spaces = record {
  over = over;
  spaces = spaces;
  sorted = λ a. absurd a;
  supply = λ a. absurd a;
  declare = λ a. absurd a;
  all = [];
  all_mine = tt;
  listed = λ a. absurd a;
  seen = λ us. [];
  looks = λ a. absurd a;
  skips = λ no u us. refl;
}

-- each key of the tree has a new one
pub named_of : (def : Definition) (names : Renaming) (f : Fragment) → IsPlain f
    → ((n : Key) → is_among (all_names def f) n ≡ true
    → (names.mine (names.to n) ≡ true) × (names.back (names.to n) ≡ n) × IsKeyFor def n (names.to n))
    → CanGrow def names f
named_of def names (hole p) pl h = tt
named_of def names (ending l u) pl h = tt
named_of def names (cell l e r) (pe, pr) h = (
  named_of def names e pe (λ n a. h n (among_left (all_names def e) (all_names def r) n a)),
  named_of def names r pr (λ n a. h n (among_right (all_names def e) (all_names def r) n a)),
  unobserved r pr,
)
named_of def names (operator o) pl h = tt
named_of def names (with_child f t) (pf, pt) h = (
  named_of def names f pf (λ n a. h n (among_left (all_names def f) (all_names def t) n a)),
  named_of def names t pt (λ n a. h n (among_right (all_names def f) (all_names def t) n a)),
)
named_of def names (with_name f x) pl h =
    let (a, b, c) =
    h (key_at def f x) (among_right (all_names def f) (key_at def f x ∷ []) (key_at def f x)
    (among_one (key_at def f x))) in
    (named_of def names f pl (λ n a. h n (among_left (all_names def f) (key_at def f x ∷ []) n a)), a, b, c.0, c.1)
named_of def names (with_number f x) pl h = named_of def names f pl h
named_of def names (with_text f x) pl h = named_of def names f pl h
named_of def names anything pl h = tt
named_of def names (observed f) pl h = absurd pl
