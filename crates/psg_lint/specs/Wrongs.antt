-- What is reported about a program that has no completion.
use Rattle.std.specs.Prelude.{ℕ, suc, ◌≡◌, ◌<◌, ◌⊎◌, Bool, true, false, List, [], ◌∷◌, ◌++◌, Some, slice_get, take}
use Rattle.std.specs.Prelude.{codes}
use Rattle.psg_terms.specs.Names.{Name}
use Rattle.psg_grammar.specs.declared.types.Definition.{Definition}
use Rattle.psg_grammar.specs.Fragments.{Fragment}
use Rattle.psg_grammar.specs.Open.{IsOpen}
use Rattle.psg_grammar.specs.Paths.{Path, node_at}
use Rattle.psg_cache.specs.declared.note.NoteFault.{NoteFault}
use Rattle.psg_cache.specs.declared.note.NoteFault.TheVariants as faults
use Rattle.psg_places.specs.declared.place.Place.{Place}
use Rattle.psg_places.specs.declared.place.Place.TheVariants.{Node, Element, End}
use Rattle.psg_places.specs.Answers.{IsLimit}
use Rattle.psg_places.specs.Blame.{AreAllAnswers, blamed_in, most_blamed, none_kept}
use Rattle.psg_places.specs.Listings.{opened_among}
use Rattle.psg_places.specs.NewNames.{AreNew}
use Rattle.psg_places.specs.Opened.{opened}
use Rattle.psg_places.specs.Places.{declares, places_of}
use Rattle.psg_places.specs.Ways.{IsBack}
use Rattle.psg_program.specs.Messages.{deep_message, large_message}
use Rattle.psg_uses.specs.declared.elements.Member.{Member}
use Rattle.psg_recover.specs.declared.finding.Finding.{Finding}
use Rattle.psg_uses.specs.declared.names.Written.{Written}
use Rattle.psg_lint.specs.Blamed.{IsMessage, IsUseMessage, element_phylum}
use Rattle.psg_recover.specs.Findings.{error_at}
use Rattle.psg_lint.specs.Hints.{HasNoOtherName, HasNoWithout, IsOtherName, IsWithout, but_for}
use Rattle.psg_uses.specs.Members.{member_path}
use Rattle.psg_lint.specs.Suspects.{AreSuspected}
use Rattle.psg_recover.specs.TextPlaces.{Read, first_byte, name_byte, node_byte, place_byte}

-- a node is too wide
abbrev pub wide_message : List ℕ
wide_message = codes "too many values are possible here"

-- the weight of the whole is above the limit
abbrev pub heavy_message : List ℕ
heavy_message = codes "the program is too heavy"

-- what is reported about a limit; if a node is too wide, this is its path in the program
abbrev pub limit_told : Definition → Read → NoteFault → Path → Finding
limit_told def r faults.Deep path = error_at 0 deep_message
limit_told def r faults.Big path = error_at 0 large_message
limit_told def r (faults.Wide at step) path = error_at (node_byte def r path) wide_message
limit_told def r faults.Heavy path = error_at 0 heavy_message
limit_told def r faults.Memory path = error_at 0 []

-- What is reported about a limit that a tree passes in the search: if a node is too wide, about that node of the
-- program, and else about the whole.
abbrev pub trial_told : Definition → Read → NoteFault → Path → Finding
trial_told def r (faults.Wide at step) path = error_at (node_byte def r path) wide_message
trial_told def r _ path = error_at (first_byte def r) wide_message

-- the path of the node that is too wide
abbrev pub wide_path : NoteFault → Path
wide_path (faults.Wide at step) = at
wide_path _ = []

-- the list of the element at the path: the path without its last step
abbrev pub list_path : Path → Path
list_path [] = []
list_path (k ∷ []) = []
list_path (k ∷ j ∷ path) = k ∷ list_path (j ∷ path)

-- An element of the same list was blamed before the place n, and the elements declare nothing: nothing is reported.
pub record IsToldBefore (def : Definition) (f : Fragment) (kept : List Bool) (n : ℕ) (path : Path) : Type 0 where
  pub before : ℕ
  pub earlier : before < n
  pub other : Path
  pub there : slice_get (places_of def f) before ≡ Some (Element other)
  pub blamed : slice_get kept before ≡ Some false
  pub same : list_path other ≡ list_path path
  pub quiet : declares def (element_phylum def (node_at f (list_path path))) ≡ false

-- without the element the blamed place would be right
abbrev pub member_message : List ℕ
member_message = codes "this element does not fit here"

module _ (def : Definition) (text : List ℕ) (f : Fragment) (r : Read) where
  -- the node or the element is the place
  abbrev pub IsAtPath : Place → Path → Type 0
  IsAtPath place path = (place ≡ Node path) ⊎ (place ≡ Element path)

  module _ (fresh : ℕ → Name) (kept : List Bool) where
    -- what is reported about the blamed place n
    pub data IsTold (n : ℕ) : Place → List Finding → Type 0 where
      told_before : (path : Path) → IsToldBefore def f kept n path → IsTold n (Element path) []
      without_member : (place : Place) (path : Path) (less : Member) → IsAtPath place path
          → (place ≡ Element path → IsToldBefore def f kept n path → ⊥) → IsWithout def fresh f (take n kept) path less
          → IsTold n place
          (error_at (node_byte def r (member_path less)) member_message ∷ [])
      other_name : (path : Path) (number : ℕ) (w : Written) (message : List ℕ)
          → IsOtherName def fresh f (take n kept) path number w
          → IsUseMessage def text f r fresh (but_for (take n kept) number ++ true ∷ []) number w message
          → IsTold n (End path) (error_at (name_byte def r w.path w.number) message ∷ [])
      by_itself : (place : Place) (message : List ℕ)
          → ((path : Path) → IsAtPath place path → HasNoWithout def fresh f (take n kept) path)
          → ((path : Path) → place ≡ Element path → IsToldBefore def f kept n path → ⊥)
          → ((path : Path) → place ≡ End path → HasNoOtherName def fresh f (take n kept) path)
          → IsMessage def text f r fresh (take n kept) n place message
          → IsTold n place (error_at (place_byte def r place) message ∷ [])

    -- the answers from the place n on, one after the other
    pub data AreTold : ℕ → List Bool → List Place → List Finding → Type 0 where
      all_told : (n : ℕ) (places : List Place) → AreTold n [] places []
      one_kept : {n : ℕ} {answers : List Bool} {places : List Place} {found : List Finding} (place : Place)
          → AreTold (suc n) answers places found → AreTold n (true ∷ answers) (place ∷ places) found
      one_blamed : {n : ℕ} {answers : List Bool} {places : List Place} {own found : List Finding} (place : Place)
          → IsTold n place own → AreTold (suc n) answers places found
          → AreTold n (false ∷ answers) (place ∷ places) (own ++ found)

    -- what is reported about the place of the number: nothing, if it is kept
    pub data IsNumberTold (places : List Place) (n : ℕ) : List Finding → Type 0 where
      kept_told : slice_get kept n ≡ Some true → IsNumberTold places n []
      blamed_told : (place : Place) (own : List Finding) → slice_get kept n ≡ Some false
          → slice_get places n ≡ Some place
          → IsTold n place own → IsNumberTold places n own

    -- no suspects if a hundred places are blamed, and then more may follow
    pub data AreSuspects : List Finding → Bool → Type 0 where
      too_many : blamed_in kept ≡ most_blamed → AreSuspects [] true
      few : (found : List Finding) → (blamed_in kept ≡ most_blamed → ⊥)
          → AreSuspected def f r fresh kept 0 (places_of def f) found → AreSuspects found false

  -- What is wrong with the values, and whether more may follow. `limited` says that a tree of the search passes a
  -- limit: that is reported if the search meets one. The search skips trees, so other answers may hold beside it.
  pub data AreWrong : (limited : Bool) → List Finding → Bool → Type 0 where
    -- nothing is
    none_wrong : IsOpen def f → AreWrong false [] false
    -- not even the tree with nothing kept can be completed
    hopeless : (IsOpen def f → ⊥)
        → ((fresh : ℕ → Name) → AreNew def f fresh → IsOpen def (opened def none_kept fresh f) → ⊥)
        → AreWrong false (error_at (first_byte def r) (codes "this does not fit here") ∷ []) false
    -- a tree that may be tried passes a limit
    trial_limited : (kept : List Bool) (path : Path) (fault : NoteFault) → (IsOpen def f → ⊥) → IsLimit def f kept fault
        → IsBack (opened_among kept 0 (places_of def f)) (wide_path fault) path
        → AreWrong true (trial_told def r fault path ∷ []) false
    blamed : (kept : List Bool) (fresh : ℕ → Name) (found suspects : List Finding) (more : Bool)
        → (IsOpen def f → ⊥) → AreNew def f fresh → AreAllAnswers (IsOpen def) def fresh f kept
        → AreTold fresh kept 0 kept (places_of def f) found → AreSuspects fresh kept suspects more
        → AreWrong false (found ++ suspects) more
