-- The next wrong place is one of those that are listed, and there is one where any is listed.
use Rattle.std.proofs.Common.{◌≡◌, ℕ, Bool, true, false, cond, List, [], ◌∷◌, Option, Some, None, is_some, inl, inr, refl, ap, ap₂, sym, ◌∙◌, subst, Bor}
use Rattle.std.specs.Prelude.{bytes_eq, map, option_map}
use Rattle.std.specs.Option.{option_copied}
use Rattle.std.proofs.lemmas.Bool.{false≢true}
use Rattle.std.proofs.lemmas.Option.{none-some, same_Some}
use Rattle.std.proofs.lemmas.Slice.Eq.{bytes_eq-Decides}
use Rattle.psg_terms.specs.Relations.{IsIn, first, later}
use Rattle.psg_terms.proofs.Lists.{in_cases}
use Rattle.psg_grammar.specs.declared.types.Definition.{Definition}
use Rattle.psg_grammar.specs.Fragments.{Fragment}
use Rattle.psg_grammar.specs.Legal.{IsCompletable}
use Rattle.psg_grammar.specs.Marks.{IsMarkBy}
use Rattle.psg_grammar.specs.Paths.{Path}
use Rattle.psg_cache.specs.Notes.{mark_by}
use Rattle.psg_face.specs.Opens.{is_before}
use Rattle.psg_keymap.specs.declared.face.Why.{Why as KeptWhy}
use Rattle.psg_keymap.specs.declared.repair.Repair.{Repair}
use Rattle.psg_keymap.specs.Faces.{Why, of_parts}
use Rattle.psg_keymap.specs.Repairs.{IsAnswer, IsRepairOf, IsUnknown, place_path}
use Rattle.psg_keymap.specs.Views.{why_of}
use Rattle.psg_modes.specs.Wrong.{any, greater, greatest_with, least_with, lesser, next_of, one_of, place_of, why_at}
use Rattle.psg_places.specs.declared.place.Place.{Place}
use Rattle.psg_tui.specs.declared.editing.Aim.TheVariants as aims
use Rattle.psg_tui.specs.declared.editing.Editing.{Editing}
use Rattle.psg_tui.specs.Editing.{IsAt, IsTried, is_wrong}
use Rattle.psg_tui.specs.Found.{IsBlamedFound, IsWrongFound, blamed, culprit, next, nothing}

-- ---- it is one of them

abbrev OneIn : List Path → Option Path → Type 0
OneIn all None = Unit {0}
OneIn all (Some q) = IsIn q all

one_cond : (all : List Path) (test : Bool) (a b : Option Path) → OneIn all a → OneIn all b → OneIn all (cond test a b)
one_cond all true a b x y = x
one_cond all false a b x y = y

path_cond : (all : List Path) (test : Bool) (p q : Path) → IsIn p all → IsIn q all → IsIn (cond test p q) all
path_cond all true p q x y = x
path_cond all false p q x y = y

lesser_in : (all : List Path) (p : Path) (best : Option Path) → IsIn p all → OneIn all best → IsIn (lesser p best) all
lesser_in all p None i b = i
lesser_in all p (Some q) i b = path_cond all (is_before q p) q p b i

greater_in : (all : List Path) (p : Path) (best : Option Path) → IsIn p all → OneIn all best → IsIn (greater p best) all
greater_in all p None i b = i
greater_in all p (Some q) i b = path_cond all (is_before q p) p q i b

least_in : (all : List Path) (test : Path → Bool) (best : Option Path) (ps : List Path)
    → ((q : Path) → IsIn q ps → IsIn q all) → OneIn all best → OneIn all (least_with test best ps)
least_in all test best [] sub b = b
least_in all test best (p ∷ ps) sub b =
    least_in all test (cond (test p) (Some (lesser p best)) best) ps (λ q i. sub q (later i))
    (one_cond all (test p) (Some (lesser p best)) best (lesser_in all p best (sub p first) b) b)

greatest_in : (all : List Path) (test : Path → Bool) (best : Option Path) (ps : List Path)
    → ((q : Path) → IsIn q ps → IsIn q all) → OneIn all best → OneIn all (greatest_with test best ps)
greatest_in all test best [] sub b = b
greatest_in all test best (p ∷ ps) sub b =
    greatest_in all test (cond (test p) (Some (greater p best)) best) ps (λ q i. sub q (later i))
    (one_cond all (test p) (Some (greater p best)) best (greater_in all p best (sub p first) b) b)

one_in : (all : List Path) (a b : Option Path) → OneIn all a → OneIn all b → OneIn all (one_of a b)
one_in all (Some q) b x y = x
one_in all None b x y = y

of_next : (all : List Path) (path : Path) (forward : Bool) → OneIn all (next_of all path forward)
of_next all path true =
    one_in all (least_with (λ other. is_before path other) None all) (least_with any None all)
    (least_in all (λ other. is_before path other) None all (λ q i. i) tt) (least_in all any None all (λ q i. i) tt)
of_next all path false =
    one_in all (greatest_with (λ other. is_before other path) None all) (greatest_with any None all)
    (greatest_in all (λ other. is_before other path) None all (λ q i. i) tt) (greatest_in all any None all (λ q i. i) tt)

pub next_in : (all : List Path) (path : Path) (forward : Bool) (q : Path) → next_of all path forward ≡ Some q
    → IsIn q all
next_in all path forward q e = subst (OneIn all) e (of_next all path forward)

-- ---- there is one

pick_least : (test : Path → Bool) (ps : List Path) (t : Bool) (x y : Path)
    → is_some (least_with test (Some x) ps) ≡ true → is_some (least_with test (Some y) ps) ≡ true
    → is_some (least_with test (cond t (Some x) (Some y)) ps) ≡ true
pick_least test ps true x y a b = a
pick_least test ps false x y a b = b

some_least : (test : Path → Bool) (x : Path) (ps : List Path) → is_some (least_with test (Some x) ps) ≡ true
some_least test x [] = refl
some_least test x (p ∷ ps) =
    pick_least test ps (test p) (lesser p (Some x)) x (some_least test (lesser p (Some x)) ps) (some_least test x ps)

pick_greatest : (test : Path → Bool) (ps : List Path) (t : Bool) (x y : Path)
    → is_some (greatest_with test (Some x) ps) ≡ true → is_some (greatest_with test (Some y) ps) ≡ true
    → is_some (greatest_with test (cond t (Some x) (Some y)) ps) ≡ true
pick_greatest test ps true x y a b = a
pick_greatest test ps false x y a b = b

some_greatest : (test : Path → Bool) (x : Path) (ps : List Path) → is_some (greatest_with test (Some x) ps) ≡ true
some_greatest test x [] = refl
some_greatest test x (p ∷ ps) =
    pick_greatest test ps (test p) (greater p (Some x)) x (some_greatest test (greater p (Some x)) ps)
    (some_greatest test x ps)

one_some : (a b : Option Path) → is_some b ≡ true → is_some (one_of a b) ≡ true
one_some (Some q) b e = refl
one_some None b e = e

next_some : (p : Path) (ps : List Path) (path : Path) (forward : Bool) → is_some (next_of (p ∷ ps) path forward) ≡ true
next_some p ps path true =
    one_some (least_with (λ other. is_before path other) None (p ∷ ps)) (least_with any None (p ∷ ps))
    (some_least any p ps)
next_some p ps path false =
    one_some (greatest_with (λ other. is_before other path) None (p ∷ ps)) (greatest_with any None (p ∷ ps))
    (some_greatest any p ps)

pub next_none : (all : List Path) (path : Path) (forward : Bool) → next_of all path forward ≡ None → all ≡ []
next_none [] path forward e = refl
next_none (p ∷ ps) path forward e = absurd (false≢true (sym (ap is_some e) ∙ next_some p ps path forward))

-- ---- the place of a path

pub record IsPlaceOf (places : List Place) (path : Path) (place : Place) : Type 0 where
  pub among : IsIn place places
  pub path_is : place_path place ≡ path

place_here : (x : Place) (xs : List Place) (path : Path) (place : Place) (test : Bool)
    → bytes_eq (place_path x) path ≡ test → cond test (Some x) (place_of xs path) ≡ Some place
    → (place_of xs path ≡ Some place → IsPlaceOf xs path place) → IsPlaceOf (x ∷ xs) path place
place_here x xs path place true t e rest =
    subst (IsPlaceOf (x ∷ xs) path) (same_Some x place e)
    (record { among = first; path_is = (bytes_eq-Decides (place_path x) path).0 t })
place_here x xs path place false t e rest =
    let r = rest e in record { among = later r.among; path_is = r.path_is }

pub place_is : (places : List Place) (path : Path) (place : Place) → place_of places path ≡ Some place
    → IsPlaceOf places path place
place_is [] path place e = absurd (none-some place e)
place_is (x ∷ xs) path place e =
    place_here x xs path place (bytes_eq (place_path x) path) refl e (λ h. place_is xs path place h)

place_there : (x : Place) (xs : List Place) (path : Path) (test : Bool) → bytes_eq (place_path x) path ≡ test
    → cond test (Some x) (place_of xs path) ≡ None → (place_of xs path ≡ None) × (place_path x ≡ path → ⊥)
place_there x xs path true t e = absurd (none-some x (sym e))
place_there x xs path false t e =
    (e, λ same. false≢true (sym t ∙ (bytes_eq-Decides (place_path x) path).1 same))

pub place_found : (places : List Place) (path : Path) → IsIn path (map place_path places) → place_of places path ≡ None
    → ⊥
place_found [] path i e = elim i [ ]
place_found (x ∷ xs) path i e =
    let there = place_there x xs path (bytes_eq (place_path x) path) refl e in
    elim (in_cases path (place_path x) (map place_path xs) i) [
      | inl same ↦ there.1 (sym same)
      | inr r ↦ place_found xs path r there.0
    ]

-- ---- what is found

map_none : (places : List Place) → map place_path places ≡ [] → places ≡ []
map_none [] e = refl
map_none (x ∷ xs) e = cc

pub blamed_so : (tree : Fragment) (places : List Place) (chosen : Path) (forward : Bool) (path q : Path) (place : Place)
    (why : KeptWhy) → next_of (map place_path places) chosen forward ≡ Some path → place_of places path ≡ Some place
    → q ≡ path → why_of why ≡ why_at tree place → IsBlamedFound tree places chosen forward (Some (q, why_of why))
blamed_so tree places chosen forward path q place why e f same is =
    let r = place_is places path place f in
    subst (λ (x : Path × Why). IsBlamedFound tree places chosen forward (Some x))
    (sym (ap₂ (λ (a : Path) (b : Why). (a, b)) (same ∙ sym r.path_is) is))
    (next place r.among (e ∙ ap Some (sym r.path_is)))

pub nothing_so : (tree : Fragment) (places : List Place) (chosen : Path) (forward : Bool)
    → next_of (map place_path places) chosen forward ≡ None → IsBlamedFound tree places chosen forward None
nothing_so tree places chosen forward e = nothing (map_none places (next_none (map place_path places) chosen forward e))

pub no_place : (places : List Place) (chosen : Path) (forward : Bool) (path : Path)
    → next_of (map place_path places) chosen forward ≡ Some path → place_of places path ≡ None → ⊥
no_place places chosen forward path e none =
    place_found places path (next_in (map place_path places) chosen forward path e) none

by_culprit : (def : Definition) (tree : Fragment) (chosen : Path) (forward : Bool) (ps : List Path)
    → is_wrong ps ≡ true → IsMarkBy (IsCompletable def) tree (mark_by ps) → IsUnknown def tree
    → (o : Option Path) → next_of ps chosen forward ≡ o
    → IsWrongFound def tree chosen forward (option_map (λ path. (path, of_parts)) o)
by_culprit def tree chosen forward [] w m u o e = absurd (false≢true w)
by_culprit def tree chosen forward (p ∷ ps) w m u None e =
    absurd (false≢true (sym (ap is_some e) ∙ next_some p ps chosen forward))
by_culprit def tree chosen forward (p ∷ ps) w m u (Some q) e = culprit (p ∷ ps) q m u e

answer_is : (def : Definition) (tree : Fragment) (o p : Option Repair) → o ≡ p → IsAnswer def tree o → IsAnswer def tree p
answer_is def tree o p e is = subst (IsAnswer def tree) e is

module _ (e : Editing) (tree : Fragment) (at : IsAt e tree) (settled : e.aim ≡ aims.Settled) (tried : IsTried e.shown) (bad : is_wrong e.shown.culprits.items ≡ true) (forward : Bool) where
  answer : IsAnswer e.session.language tree e.shown.repair
  answer = (at.shown settled).found (tried bad) bad

  pub culprit_so : e.shown.repair ≡ None → (found : Option (Path × Why))
      → found ≡ option_map (λ path. (path, of_parts)) (next_of e.shown.culprits.items e.face.chosen forward)
      → IsWrongFound e.session.language tree e.face.chosen forward found
  culprit_so none found is =
      subst (IsWrongFound e.session.language tree e.face.chosen forward) (sym is)
      (by_culprit e.session.language tree e.face.chosen forward e.shown.culprits.items bad (at.shown settled).marked
      (answer_is e.session.language tree e.shown.repair None none answer)
      (next_of e.shown.culprits.items e.face.chosen forward) refl)

  pub repair_so : (r : Repair) → e.shown.repair ≡ Some r → (t : Fragment) → t ≡ tree → (found : Option (Path × Why))
      → IsBlamedFound t r.places.items e.face.chosen forward found
      → IsWrongFound e.session.language tree e.face.chosen forward found
  repair_so r some t same found is =
      blamed r (answer_is e.session.language tree e.shown.repair (Some r) some answer)
      (subst (λ (x : Fragment). IsBlamedFound x r.places.items e.face.chosen forward found) same is)

-- ---- what the calls tell of it

pub next_at : (ps slice : List Place) (items s : List Path) (chosen : Path) (forward : Bool) → slice ≡ ps
    → items ≡ map place_path slice → s ≡ items → (o x : Option (Bor Path))
    → option_copied o ≡ next_of s chosen forward → o ≡ x → next_of (map place_path ps) chosen forward ≡ option_copied x
next_at ps slice items s chosen forward a b c o x e f =
    ap (λ (y : List Path). next_of y chosen forward) (ap (map place_path) (sym a) ∙ sym b ∙ sym c) ∙ sym e ∙ ap option_copied f

pub place_at : (ps slice : List Place) (path : Path) → slice ≡ ps → (o x : Option (Bor Place))
    → option_copied o ≡ place_of slice path → o ≡ x → place_of ps path ≡ option_copied x
place_at ps slice path a o x e f =
    ap (λ (y : List Place). place_of y path) (sym a) ∙ sym e ∙ ap option_copied f
