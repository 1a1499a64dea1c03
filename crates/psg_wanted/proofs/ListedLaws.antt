-- Operators that may be put at a place, or that make the tree too wide there.
use Rattle.std.proofs.Common.{◌≡◌, ℕ, ◌+◌, ◌<◌, inl, inr, Bool, true, false, List, [], ◌∷◌, ◌++◌, length, take, get_or, Option, ap, sym, subst, ◌∙◌, arith}
use Rattle.std.specs.Prelude.{Result, Ok, Err}
use Rattle.std.proofs.lemmas.Bool.{true≢false}
use Rattle.std.proofs.lemmas.List.{take_all}
use Rattle.psg_terms.specs.Names.{Name}
use Rattle.psg_terms.proofs.Lists.{take_item}
use Rattle.psg_eval.specs.declared.question.FocusFault.{FocusFault}
use Rattle.psg_eval.specs.declared.question.FocusFault.TheVariants as questions
use Rattle.psg_eval.specs.declared.frame.Frame.{Frame}
use Rattle.psg_eval.specs.Frames.{StandAt}
use Rattle.psg_grammar.specs.declared.types.Definition.{Definition}
use Rattle.psg_grammar.specs.Fragments.{Fragment}
use Rattle.psg_grammar.specs.Insertion.{Leaf, with_operator}
use Rattle.psg_grammar.specs.Marks.{Chosen, nothing, passed, taken}
use Rattle.psg_grammar.specs.Open.{IsOpen}
use Rattle.psg_grammar.specs.Paths.{Path}
use Rattle.psg_grammar.specs.Steps.{IsWide}
use Rattle.psg_menu.specs.Menus.{AreUsed, IsChoosable, IsFreshTrial}
use Rattle.psg_menu.specs.Trials.{IsOffered}
use Rattle.psg_wanted.specs.Fronts.{IsListed}
use Rattle.psg_wanted.specs.Listed.{IsListedAt}

module _ {X : Type 0} (P : X → Type 0) where
  push_taken : (xs ys : List X) (x : X) → Chosen P xs ys → P x → Chosen P (xs ++ x ∷ []) (ys ++ x ∷ [])
  push_taken xs ys x nothing p = taken p nothing
  push_taken xs ys x (taken q c) p = taken q (push_taken _ _ x c p)
  push_taken xs ys x (passed q c) p = passed q (push_taken _ _ x c p)

  push_passed : (xs ys : List X) (x : X) → Chosen P xs ys → (P x → ⊥) → Chosen P (xs ++ x ∷ []) ys
  push_passed xs ys x nothing p = passed p nothing
  push_passed xs ys x (taken q c) p = taken q (push_passed _ _ x c p)
  push_passed xs ys x (passed q c) p = passed q (push_passed _ _ x c p)

module _ (def : Definition) (around : List Frame) (used : List Name) where
  -- at each place that these frames are around
  abbrev pub Lists : List ℕ → List ℕ → Type 0
  Lists ops found = (f : Fragment) (path : Path) (k : Option ℕ) → StandAt def around path k f → AreUsed used f → (IsWide def f → ⊥)
      → Chosen (IsChoosable def f path k (IsListed def)) ops found

  abbrev pub Tells : ℕ → Bool → Type 0
  Tells op good = (f : Fragment) (path : Path) (k : Option ℕ) → StandAt def around path k f → AreUsed used f → (IsWide def f → ⊥)
      → IsListedAt def f path k op good

  only_open : (f : Fragment) (path : Path) (k : Option ℕ) (op : ℕ) → ((leaves : List Leaf) → IsFreshTrial def f path k op leaves → IsWide def (with_operator def f path k op leaves) → ⊥)
      → IsChoosable def f path k (IsListed def) op → IsChoosable def f path k (IsOpen def) op
  only_open f path k op few (leaves, trial, inl open_tree) = (leaves, trial, open_tree)
  only_open f path k op few (leaves, trial, inr wide) = absurd (few leaves trial wide)

  some_open : (f : Fragment) (path : Path) (k : Option ℕ) (op : ℕ) → IsChoosable def f path k (IsOpen def) op → IsChoosable def f path k (IsListed def) op
  some_open f path k op (leaves, trial, open_tree) = (leaves, trial, inl open_tree)

  pub told_good : (op : ℕ) (answer : Result Bool FocusFault) (good : Bool) → answer ≡ Ok good → IsOffered def around used op answer → Tells op good
  told_good op answer good e offered = λ f path k stand all few.
      let h = subst (IsOffered def around used op) e offered f path k stand all in
      (λ is. some_open f path k op (h.0.0 is), λ c. h.0.1 (only_open f path k op (h.1 few) c))

  pub told_wide : (op : ℕ) (answer : Result Bool FocusFault) (fault : FocusFault) (good : Bool) → answer ≡ Err fault → fault ≡ questions.Wide → good ≡ true
      → IsOffered def around used op answer → Tells op good
  told_wide op answer fault good e wide is offered = λ f path k stand all few.
      let (leaves, trial, too) = subst (IsOffered def around used op) (e ∙ ap (λ x. Err x) wide) offered f path k stand all in
      (λ h. (leaves, trial, inr too), λ h. is)

  pub lists_none : (ops found : List ℕ) → found ≡ [] → Lists (take 0 ops) found
  lists_none ops found e = λ f path k stand all few.
      subst (Chosen (IsChoosable def f path k (IsListed def)) []) (sym e) nothing

  pub lists_taken : (ops : List ℕ) (i op : ℕ) (found next : List ℕ) (good : Bool) → i < length ops → op ≡ get_or ops i op → good ≡ true
      → Lists (take i ops) found → Tells op good → next ≡ found ++ op ∷ [] → Lists (take (i + 1) ops) next
  lists_taken ops i op found next good lt at is lists tells n = λ f path k stand all few.
      let C = IsChoosable def f path k (IsListed def) in
      subst (λ xs. Chosen C xs next) (sym (take_item ops i op lt at))
      (subst (Chosen C (take i ops ++ op ∷ [])) (sym n)
      (push_taken C (take i ops) found op (lists f path k stand all few) ((tells f path k stand all few).0 is)))

  pub lists_passed : (ops : List ℕ) (i op : ℕ) (found : List ℕ) (good : Bool) → i < length ops → op ≡ get_or ops i op → good ≡ false
      → Lists (take i ops) found → Tells op good → Lists (take (i + 1) ops) found
  lists_passed ops i op found good lt at is lists tells = λ f path k stand all few.
      let C = IsChoosable def f path k (IsListed def) in
      subst (λ xs. Chosen C xs found) (sym (take_item ops i op lt at))
      (push_passed C (take i ops) found op (lists f path k stand all few)
      (λ c. true≢false (sym ((tells f path k stand all few).1 c) ∙ is)))

  pub lists_whole : (ops found : List ℕ) (i : ℕ) → i ≡ length ops → Lists (take i ops) found → Lists ops found
  lists_whole ops found i e lists = subst (λ xs. Lists xs found) (take_all i ops (omega (arith, e))) lists
