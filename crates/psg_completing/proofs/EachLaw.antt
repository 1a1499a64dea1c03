-- Each operator that is offered has an entry.
use Rattle.std.proofs.Common.{◌≡◌, ◌<◌, Bool, ℕ, zero, suc, List, [], ◌∷◌, ◌++◌, Some, refl, sym, subst, arith}
use Rattle.std.specs.Prelude.{take}
use Rattle.std.proofs.lemmas.List.{map-append}
use Rattle.psg_terms.specs.Names.{Name}
use Rattle.psg_grammar.specs.declared.types.Definition.{Definition}
use Rattle.psg_grammar.specs.declared.types.Kind.{Kind}
use Rattle.psg_grammar.specs.Fragments.{Fragment}
use Rattle.psg_grammar.specs.Kinds.{op_name_of}
use Rattle.psg_keymap.specs.declared.spots.Spot.{Spot}
use Rattle.psg_pointing.specs.Hovering.{lines_of}
use Rattle.psg_completing.specs.declared.offering.Entry.{Entry}
use Rattle.psg_completing.specs.Each.{AreEach, again, entry_operators, no_operator, none_left, once}
use Rattle.psg_completing.specs.Offering.{AreOffered, IsOffered, begun_or_all, by_itself, by_names, entries_with}
use Rattle.psg_completing.specs.Offering.{most_names, no_more, one_more, or_those, unknown, written_names}

first_taken : (n : ℕ) (x : Name) (xs : List Name) → 0 < n → (ys : List Name) × (take n (x ∷ xs) ≡ x ∷ ys)
first_taken zero x xs h = absurd (omega (arith, h))
first_taken (suc n) x xs h = (take n xs, refl)

one_there : (names : List Name) (sample : Name)
    → (x : Name) × (xs : List Name) × (or_those names (sample ∷ []) ≡ x ∷ xs)
one_there [] sample = (sample, [], refl)
one_there (x ∷ xs) sample = (x, xs, refl)

some_written : (sample : Name) (prefix : List ℕ) (names : List Name)
    → (x : Name) × (xs : List Name) × (take most_names (written_names sample prefix names) ≡ x ∷ xs)
some_written sample prefix names =
    let (x, xs, is) = one_there (begun_or_all prefix names) sample in
    let (ys, taken) = first_taken most_names x xs (omega arith) in
    (x, ys, subst (λ l. take most_names l ≡ x ∷ ys) (sym is) taken)

module _ (def : Definition) (least o : ℕ) (op : Name) (is : op_name_of def o ≡ Some op) (ops more : List Name)
    (rest : AreEach def ops more) where
  written : (x : Name) (xs : List Name)
      → AreEach def (op ∷ ops) (entry_operators (entries_with def least op o (x ∷ xs)) ++ more)
  written x [] = once o is rest
  written x (y ∷ xs) = again (written y xs)

  written_all : (names : List Name) (x : Name) (xs : List Name) → names ≡ x ∷ xs
      → AreEach def (op ∷ ops) (entry_operators (entries_with def least op o names) ++ more)
  written_all names x xs e =
      subst (λ l. AreEach def (op ∷ ops) (entry_operators (entries_with def least op o l) ++ more)) (sym e)
      (written x xs)

module _ (def : Definition) (kind : Kind) (tree : Fragment) (spot : Spot) (least : ℕ) (sample : Name)
    (prefix : List ℕ) where
  one_each : (op : Name) (here : List Entry) (there : Bool) (ops more : List Name)
      → IsOffered def kind tree spot least sample prefix op here there → AreEach def ops more
      → AreEach def (op ∷ ops) (entry_operators here ++ more)
  one_each op _ _ ops more (by_names o told is one told_is) rest =
      let (x, xs, some) = some_written sample prefix (lines_of told) in
      written_all def least o op is ops more rest (take most_names (written_names sample prefix (lines_of told))) x xs
      some
  one_each op _ _ ops more (by_itself o is none) rest = once o is rest
  one_each op _ _ ops more (unknown none) rest = no_operator none rest

  pub all_offered : (ops : List Name) (entries : List Entry) (left : Bool)
      → AreOffered def kind tree spot least sample prefix ops entries left → AreEach def ops (entry_operators entries)
  all_offered _ _ _ no_more = none_left
  all_offered _ _ _ (one_more {op} {ops} {here} {more} {there} {left} first rest) =
      subst (AreEach def (op ∷ ops)) (sym (map-append (λ (e : Entry). e.operator) here more))
      (one_each op here there ops (entry_operators more) first (all_offered ops more left rest))
