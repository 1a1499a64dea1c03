-- What is known of a wrong program: its definition is sound, and its trees with places opened are trees.
use Rattle.std.proofs.Common.{◌≡◌, ℕ, zero, suc, ◌<◌, ◌≤◌, Bool, true, false, List, [], ◌∷◌, length, get_or, Option, Some, None, slice_get, refl, ap, sym, ◌∙◌, subst, arith, true≢false}
use Rattle.std.proofs.lemmas.Option.{slice_get-get_or}
use Rattle.psg_terms.proofs.Lists.{slice_get_item}
use Rattle.psg_grammar.specs.Fragments.{Fragment}
use Rattle.psg_grammar.specs.Open.{IsOpen}
use Rattle.psg_grammar.specs.Paths.{Path, change_at, node_at, removed}
use Rattle.psg_grammar.specs.Sound.{IsSound}
use Rattle.psg_cache.specs.Annotated.{tree_in as noted_tree}
use Rattle.psg_cache.specs.Notes.{IsFormed, IsNoteOf}
use Rattle.psg_cache.proofs.FormedTrees.{changed_formed, node_formed, removed_formed}
use Rattle.psg_places.specs.declared.place.Place.{Place}
use Rattle.psg_places.specs.Answers.{IsBeside}
use Rattle.psg_places.specs.Blame.{AreAnswers, is_some_true, kept_in}
use Rattle.psg_places.specs.Listings.{is_blamed, is_some_false}
use Rattle.psg_places.specs.Opened.{opened}
use Rattle.psg_places.specs.Places.{place_count, places_of}
use Rattle.psg_places.proofs.CountLaws.{counted}
use Rattle.psg_places.proofs.FormedLaws.{formed}
use Rattle.psg_places.proofs.NewNameLaws.{is_name}
use Rattle.psg_uses.specs.declared.elements.Member.{Member}
use Rattle.psg_lint.specs.declared.trials.Judged.{Judged}
use Rattle.psg_lint.specs.declared.trials.Wrong.{Wrong}
use Rattle.psg_lint.specs.Hints.{HasMember}
use Rattle.psg_lint.specs.Judged.{IsJudged, IsWrong, def_of, fresh_of, tree_in}

pub is_sound : (j : Judged) → IsJudged j → IsSound j.definition.now
is_sound j h = subst IsSound h.same h.known.sound

-- ---- the note of the program

pub note_own : (w : Wrong) → IsWrong w → IsNoteOf (def_of w) (noted_tree w.note.now) w.note.now
note_own w h = subst (λ t. IsNoteOf (def_of w) t w.note.now) (sym h.note.tree) h.note

pub note_beside : (w : Wrong) → IsWrong w → (f : Fragment) → IsBeside (def_of w) (tree_in w) f
    → IsBeside (def_of w) (noted_tree w.note.now) f
note_beside w h f kinds = subst (λ t. IsBeside (def_of w) t f) (sym h.note.tree) kinds

-- of a tree that is made
pub made_beside : (w : Wrong) → IsWrong w → (f made : Fragment) → made ≡ f → IsBeside (def_of w) (tree_in w) f
    → IsBeside (def_of w) (noted_tree w.note.now) made
made_beside w h f made e kinds = note_beside w h made (subst (IsBeside (def_of w) (tree_in w)) (sym e) kinds)

-- ---- trees of the program's kind

pub beside_itself : (w : Wrong) → IsWrong w → IsBeside (def_of w) (tree_in w) (tree_in w)
beside_itself w h = let (kind, own) = h.judged.formed in (kind, own, own)

pub beside_formed : (w : Wrong) (f : Fragment) → IsBeside (def_of w) (tree_in w) f → IsFormed (def_of w) f
beside_formed w f (kind, whole, own) = (kind, own)

pub opened_beside : (w : Wrong) → IsWrong w → (kept : List Bool) (f : Fragment) → IsBeside (def_of w) (tree_in w) f
    → IsBeside (def_of w) (tree_in w) (opened (def_of w) (kept_in kept) (fresh_of w) f)
opened_beside w h kept f (kind, whole, own) = (
  kind,
  whole,
  formed (def_of w) (is_sound w.judged h.judged) (kept_in kept) (fresh_of w)
      (is_name (def_of w) (tree_in w) w.names.now h.names) f kind own,
)

-- the tree with an element less
pub less_beside : (w : Wrong) → IsWrong w → (m : Member) → HasMember (tree_in w) m
    → IsBeside (def_of w) (tree_in w) (change_at (removed m.number) m.list (tree_in w))
less_beside w h m has =
    let (kind, own) = h.judged.formed in (
      kind,
      own,
      changed_formed (def_of w) (removed m.number) (tree_in w) kind m.list has.list own has.there
          (λ K at. removed_formed (def_of w) m.number has.list K at),
    )

pub below_formed : (w : Wrong) → IsWrong w → (path : Path) (node : Fragment) → node_at (tree_in w) path ≡ Some node
    → IsFormed (def_of w) node
below_formed w h path node at =
    let (kind, own) = h.judged.formed in node_formed (def_of w) (tree_in w) kind path node own at

-- ---- answers

pub answers_of : (w : Wrong) → IsWrong w → AreAnswers (IsOpen (def_of w)) (def_of w) (fresh_of w) (tree_in w) w.kept.now
answers_of w h = h.answers.answers

pub all_listed : (w : Wrong) → IsWrong w → length w.kept.now ≤ length w.places.now
all_listed w h =
    let n : length (places_of (def_of w) (tree_in w)) ≡ place_count (def_of w) (tree_in w) = counted (def_of w) (tree_in w) in
    let m : length w.places.now ≡ length (places_of (def_of w) (tree_in w)) = ap length h.places in
    let le = (answers_of w h).inside in
    omega (arith, n, m, le)

pub is_lost : (kept : List Bool) (n : ℕ) → slice_get kept n ≡ Some false → kept_in kept n ≡ false
is_lost kept n e = ap is_some_true e

pub blamed_is : (kept : List Bool) (n : ℕ) (b : Bool) → b ≡ is_blamed kept n → b ≡ true → slice_get kept n ≡ Some false
blamed_is kept n b e t = by_answer (slice_get kept n) refl (sym e ∙ t) where
  by_answer : (o : Option Bool) → slice_get kept n ≡ o → is_some_false o ≡ true → slice_get kept n ≡ Some false
  by_answer None same h = absurd (true≢false (sym h))
  by_answer (Some true) same h = absurd (true≢false (sym h))
  by_answer (Some false) same h = same

pub kept_is : (kept : List Bool) (n : ℕ) (b : Bool) → n < length kept → b ≡ is_blamed kept n → b ≡ false
    → slice_get kept n ≡ Some true
kept_is [] n b lt e t = absurd (omega (arith, lt))
kept_is (true ∷ ks) zero b lt e t = refl
kept_is (false ∷ ks) zero b lt e t = absurd (true≢false (sym e ∙ t))
kept_is (k ∷ ks) (suc n) b lt e t = kept_is ks n b (omega (arith, lt)) e t

pub place_at : (w : Wrong) → IsWrong w → (n : ℕ) → n < length w.kept.now → (x : Place) → x ≡ get_or w.places.now n x
    → slice_get w.places.now n ≡ Some x
place_at w h n lt x e = let le = all_listed w h in slice_get_item w.places.now n x (omega (arith, lt, le)) e

-- the place that the index gives
pub got_at : (w : Wrong) → IsWrong w → (n : ℕ) → n < length w.kept.now → (x : Place) → slice_get w.places.now n ≡ Some (get_or w.places.now n x)
got_at w h n lt x = let le = all_listed w h in slice_get-get_or w.places.now n x (omega (arith, lt, le))

pub got_in : (places : List Place) (n : ℕ) → n < length places → (x : Place) → slice_get places n ≡ Some (get_or places n x)
got_in places n lt x = slice_get-get_or places n x lt
