-- Names and links agree with those of psg_uses.
use Rattle.std.proofs.Common.{◌≡◌, ℕ, suc, ◌||◌, Bool, true, false, cond, List, [], ◌∷◌, ◌++◌, length, Option, Some, None, refl, ap, ap₂, sym, ◌∙◌, append_assoc, append-nil}
use Rattle.std.specs.Prelude.{is_some, option_to_list}
use Rattle.std.proofs.Math.Bool.{or-false}
use Rattle.psg_grammar.specs.declared.types.Definition.{Definition}
use Rattle.psg_grammar.specs.Fragments.{Fragment, hole, ending, cell, operator, with_child, with_name, with_number, with_text, anything, observed, children_of}
use Rattle.psg_grammar.specs.Lookups.{next_item}
use Rattle.psg_grammar.specs.Paths.{Path}
use Rattle.psg_places.specs.Places.{below, names_before}
use Rattle.psg_uses.specs.declared.names.NameItem.{NameItem}
use Rattle.psg_uses.specs.declared.names.Named.{Named}
use Rattle.psg_uses.specs.declared.names.Written.{Written}
use Rattle.psg_uses.specs.Free.{has_key}
use Rattle.psg_uses.specs.Naming as naming
use Rattle.psg_uses.specs.Naming.{is_same_key, name_item, own_name, wanted_name}
use Rattle.psg_uses.specs.Regions.{declared_on, ways_up}
use Rattle.psg_links.specs.Agreeing.{LinksAgree, NamesAgree, those}
use Rattle.psg_links.specs.Links.{first_key}
use Rattle.psg_links.specs.Names.{names_below}

module _ (declared : Bool) where
  both : (xs ys : List Named) → those declared (xs ++ ys) ≡ those declared xs ++ those declared ys
  both [] ys = refl
  both (x ∷ xs) ys =
      ap (λ ws. cond (naming.is_same declared x.declares) (x.name ∷ []) [] ++ ws) (both xs ys)
      ∙ sym (append_assoc (cond (naming.is_same declared x.declares) (x.name ∷ []) []) (those declared xs) (those declared ys))

  one : (item : Option NameItem) (path : Path) (number : ℕ) (x : List ℕ)
      → those declared (option_to_list (own_name item path number x)) ≡ wanted_name declared item path number x
  one None path number x = refl
  one (Some item) path number x =
      append-nil (cond (naming.is_same declared item.declares) (naming.written path number item.space x ∷ []) [])

  module _ (def : Definition) where
    alike : (f : Fragment) (path : Path) (k : ℕ)
        → those declared (names_below def path k f) ≡ naming.names_below def declared true path k f
    alike (hole p) path k = refl
    alike (ending l u) path k = refl
    alike (cell l e r) path k =
        both (names_below def (below path k) 0 e) (names_below def path (suc k) r)
        ∙ ap₂ (λ a b. a ++ b) (alike e (below path k) 0) (alike r path (suc k))
    alike (operator o) path k = refl
    alike (with_child f t) path k =
        both (names_below def path k f) (names_below def (below path (length (children_of f))) 0 t)
        ∙ ap₂ (λ a b. a ++ b) (alike f path k) (alike t (below path (length (children_of f))) 0)
    alike (with_name f x) path k =
        both (names_below def path k f) (option_to_list (own_name (name_item (next_item def f)) path (names_before f) x))
        ∙ ap₂ (λ a b. a ++ b) (alike f path k) (one (name_item (next_item def f)) path (names_before f) x)
    alike (with_number f x) path k = alike f path k
    alike (with_text f x) path k = alike f path k
    alike anything path k = refl
    alike (observed f) path k = refl

pub names_agree : (def : Definition) → NamesAgree def
names_agree def = λ f declared. alike declared def f [] 0

some_by : (b : Bool) (d : Written) (o : Option Written) → (b || is_some o) ≡ is_some (cond b (Some d) o)
some_by true d o = refl
some_by false d o = refl

key_there : (w : Written) (ds : List Written) → has_key ds w ≡ is_some (first_key w ds)
key_there w [] = refl
key_there w (d ∷ ds) =
    ap (λ b. is_same_key d w || b) (key_there w ds) ∙ some_by (is_same_key d w) d (first_key w ds)

pub links_agree : (def : Definition) → LinksAgree def
links_agree def = λ f w fixed.
    ap (λ b. has_key (declared_on def f (ways_up w.path)) w || b) fixed
    ∙ or-false (has_key (declared_on def f (ways_up w.path)) w) ∙ key_there w (declared_on def f (ways_up w.path))
