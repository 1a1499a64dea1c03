-- A node over new children beside the old one.
use Rattle.std.proofs.Common.{◌≡◌, ℕ, ◌<◌, ◌≤◌, ◌&&◌, Bool, true, false, List, length, map, drop, take, sym, ◌∙◌, ap, ap₂, subst, arith}
use Rattle.std.specs.Prelude.{◌↔◌}
use Rattle.std.proofs.lemmas.Bool.{false≢true}
use Rattle.std.proofs.lemmas.List.{drop-map, length-map, take-map}
use Rattle.psg_grammar.specs.declared.types.Definition.{Definition}
use Rattle.psg_grammar.specs.Fragments.{Fragment, children_of}
use Rattle.psg_cache.specs.Alike.{AreAlike, AreUnlike, IsSpread, TellsAlike, diff_top, is_paired}
use Rattle.psg_cache.specs.Annotated.{Annotated, tree_in, whole_in, below_in}
use Rattle.psg_cache.specs.Changes.{IsKept, remade_ticks}
use Rattle.psg_cache.specs.Noted.{IsNoted}
use Rattle.psg_cache.specs.Notes.{IsFormed}
use Rattle.psg_cache.specs.Walks.{AreNotesOf}
use Rattle.psg_cache.proofs.AlikeLaws.{told_there}
use Rattle.psg_cache.proofs.ChangeLaws.{below_length, own_trees}
use Rattle.psg_cache.proofs.SpreadLaws.{take_fewer}
use Rattle.psg_cache.proofs.RenoteLaws.{alike_equal, alike_kept, alike_told, apart_differ, apart_told, remade_apart}

module _ (def : Definition) (old : Annotated) (new : Fragment) (olds news below : List Annotated) (first last back : ℕ) (tree : Fragment) (tops many alike : Bool) (noted : IsNoted def old) (formed_old : IsFormed def (tree_in old)) (formed : IsFormed def new) (paired : is_paired (tree_in old) new ≡ true) (notes : AreNotesOf def (children_of new) below) (spread : IsSpread old new below first last back) (olds_are : olds ≡ below_in old) (news_are : news ≡ below) (tree_is : tree ≡ tree_in old) (told : TellsAlike tops tree new) (count : many ≡ true ↔ (length olds ≡ length news)) (both : alike ≡ (tops && many)) where
  pub told_old : TellsAlike tops (tree_in old) new
  told_old = told_there tops tree (tree_in old) new tree_is told

  long_old : length olds ≡ length (children_of (tree_in old))
  long_old = ap length olds_are ∙ below_length def old noted

  long_new : length news ≡ length (children_of new)
  long_new = ap length news_are ∙ sym (length-map below tree_in) ∙ ap length notes.0

  counts : many ≡ true ↔ (length (children_of (tree_in old)) ≡ length (children_of new))
  counts = (λ holds. sym long_old ∙ count.0 holds ∙ long_new, λ n. count.1 (long_old ∙ n ∙ sym long_new))

  pub joined_unlike : alike ≡ false → AreUnlike (tree_in old) new
  joined_unlike fails = apart_told (tree_in old) new tops many alike told_old counts both fails

  joined_alike : alike ≡ true → AreAlike (tree_in old) new × (length (children_of (tree_in old)) ≡ length (children_of new))
  joined_alike holds = alike_told (tree_in old) new tops many alike told_old counts both holds

  pub joined_long : alike ≡ true → length olds ≡ length news
  joined_long holds = long_old ∙ (joined_alike holds).1 ∙ sym long_new

  same_long : alike ≡ true → length (below_in old) ≡ length below
  same_long holds = sym (ap length olds_are) ∙ joined_long holds ∙ ap length news_are

  pub joined_within : last ≤ length news
  joined_within = let w = spread.within in let n = ap length news_are in omega (arith, w, n)

  pub joined_behind : alike ≡ true → drop last (map whole_in news) ≡ drop last (map whole_in olds)
  joined_behind holds =
      let same : drop last news ≡ drop last olds =
      ap (drop last) news_are ∙ spread.behind (same_long holds) ∙ sym (ap (drop last) olds_are) in
      drop-map whole_in last news ∙ ap (map whole_in) same ∙ sym (drop-map whole_in last olds)

  pub joined_equal : alike ≡ true → last ≡ 0 → tree_in old ≡ new
  joined_equal holds none =
      let same : drop last below ≡ drop last (below_in old) = spread.behind (same_long holds) in
      let all : below ≡ below_in old = subst (λ k. drop k below ≡ drop k (below_in old)) none same in
      alike_equal def old new below (own_trees def old noted) notes (joined_alike holds).0 all

  pub joined_differ : 0 < last → tree_in old ≡ new → ⊥
  joined_differ some same =
      apart_differ last (children_of (tree_in old)) (children_of new) some spread.apart (ap children_of same)

  -- a top that is alike has another number of children
  pub joined_apart : alike ≡ false → tops ≡ true → length (below_in old) ≡ length below → ⊥
  joined_apart fails holds n =
      let count_same : many ≡ true = count.1 (ap length olds_are ∙ n ∙ sym (ap length news_are)) in
      false≢true (sym fails ∙ both ∙ ap₂ (λ a b. a && b) holds count_same)

  pub joined_kept : alike ≡ true → (same front : ℕ) → same ≤ first → same ≤ front → front ≤ last
      → drop front (map whole_in news) ≡ drop front (map whole_in olds) → IsKept def old same front front new below
  joined_kept holds same front few less small kept =
      let w = spread.within in
      let front_same : take same below ≡ take same (below_in old) =
      sym (take_fewer same first below few) ∙ ap (take same) spread.front ∙ take_fewer same first (below_in old) few in
      alike_kept def old new below same front noted formed_old (joined_alike holds).0 (same_long holds)
      (omega (arith, w, small))
      (sym (ap (λ ns. drop front (map whole_in ns)) news_are) ∙ kept ∙ ap (λ ns. drop front (map whole_in ns)) olds_are)
      less
      (take-map whole_in same below ∙ ap (map whole_in) front_same ∙ sym (take-map whole_in same (below_in old)))

  pub joined_most : alike ≡ true → 0 < last → (front : ℕ) → front ≤ last → remade_ticks new front ≤ diff_top (tree_in old) new
  joined_most holds some front small =
      let alike_top = joined_alike holds in
      remade_apart (tree_in old) new last front paired alike_top.0 alike_top.1 (joined_differ some) spread.apart small
