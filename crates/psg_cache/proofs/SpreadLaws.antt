-- What the notes of children have in common with those of an old tree: the first ones, and the last ones.
use Rattle.std.proofs.Common.{◌≡◌, ◌⊎◌, inl, inr, ℕ, zero, suc, ◌+◌, ◌-◌, ◌<◌, ◌≤◌, Bool, true, false, cond, List, [], ◌∷◌, ◌++◌, length, map, take, drop, get_or, slice_get, Option, Some, None, refl, sym, ◌∙◌, ap, ap₂, subst, append-nil, arith}
use Rattle.std.specs.List.{AllByRecursion}
use Rattle.std.proofs.lemmas.Bool.{false≢true, or_cases}
use Rattle.std.proofs.lemmas.List.{drop-append-le, drop-map, drop_all, length-append, length-drop, length-map, length-take-le, map-append, take-append-drop, take-map, take_all}
use Rattle.std.proofs.lemmas.Option.{same_Some}
use Rattle.psg_terms.proofs.Lists.{drop_item, slice_get_item, take_item}
use Rattle.psg_grammar.specs.Fragments.{Fragment, children_of, top_operator}
use Rattle.psg_grammar.specs.declared.types.Definition.{Definition}
use Rattle.psg_cache.specs.Alike.{AreAlike, AreUnlike, DifferBefore, IsBack, IsSpread, TellsAlike, diff_top, is_paired}
use Rattle.psg_cache.specs.Annotated.{Annotated, tree_in, whole_in, below_in}
use Rattle.psg_cache.specs.Changes.{IsKept, remade_ticks}
use Rattle.psg_cache.specs.Diff.{agree, diff_cells, diff_of, last_differing, list_number, same_some}
use Rattle.psg_cache.specs.Noted.{IsNoted}
use Rattle.psg_cache.specs.Notes.{IsFormed}
use Rattle.psg_cache.specs.Renoting.{IsKeptOr}
use Rattle.psg_cache.specs.Walks.{AreNotesOf}
use Rattle.psg_cache.proofs.ChangeLaws.{own_notes, own_trees}
use Rattle.psg_cache.proofs.Counting.{together}
use Rattle.psg_cache.proofs.Each.{each_append, each_back}
use Rattle.psg_cache.proofs.PairLaws.{lists_paired, operators_long, pairs, same_both, whole_most}
use Rattle.psg_cache.proofs.RenoteLaws.{got_tree, map_read, no_more, remade_list, same_pairs, top_cost}
use Rattle.psg_cache.proofs.SpliceLaws.{spine_once}
use Rattle.psg_cache.proofs.WalkLaws.{formed_children}
use Rattle.psg_cache.proofs.WorkLaws.{pairs_spread}

-- ---- the first of a list

pub take_fewer : {X : Type 0} (k m : ℕ) (xs : List X) → k ≤ m → take k (take m xs) ≡ take k xs
take_fewer zero m xs small = refl
take_fewer (suc k) zero xs small = absurd (omega (arith, small))
take_fewer (suc k) (suc m) [] small = refl
take_fewer (suc k) (suc m) (x ∷ xs) small = ap (λ ys. x ∷ ys) (take_fewer k m xs (omega (arith, small)))

pub take_front : {X : Type 0} (k : ℕ) (xs ys : List X) → k ≤ length xs → take k (xs ++ ys) ≡ take k xs
take_front zero xs ys small = refl
take_front (suc k) [] ys small = absurd (omega (arith, small))
take_front (suc k) (x ∷ xs) ys small = ap (λ zs. x ∷ zs) (take_front k xs ys (omega (arith, small)))

drop_front : {X : Type 0} (xs ys : List X) → drop (length xs) (xs ++ ys) ≡ ys
drop_front [] ys = refl
drop_front (x ∷ xs) ys = drop_front xs ys

-- the rest of a list, as a slice up to its end
pub pushed_rest : (k : ℕ) (ns walked longer : List Annotated) → longer ≡ walked ++ take (length ns - k) (drop k ns)
    → longer ≡ walked ++ drop k ns
pushed_rest k ns walked longer e =
    e ∙ ap (λ xs. walked ++ xs) (take_all (length ns - k) (drop k ns) (omega (arith, length-drop k ns)))

-- ---- one more child, which is the old one or not

kept_is : (old note : Annotated) (made : Option Annotated) (alike : Bool) → IsKeptOr old made note alike → alike ≡ true
    → note ≡ old
kept_is old note None alike h e = h.0
kept_is old note (Some m) alike h e = absurd (false≢true (sym h.1 ∙ e))

pub led_next : (notes below longer : List Annotated) (i first now : ℕ) (old note : Annotated) (made : Option Annotated)
    (alike : Bool) → i < length notes → old ≡ get_or notes i old → longer ≡ below ++ note ∷ [] → length below ≡ i
    → first ≤ i → (now ≡ first) ⊎ ((now ≡ i + 1) × (first ≡ i) × (alike ≡ true)) → IsKeptOr old made note alike
    → take first below ≡ take first notes → (now ≤ i + 1) × (take now longer ≡ take now notes)
led_next notes below longer i first now old note made alike small at more long within (inl e) kept before = (
  omega (arith, e, within),
  ap (λ k. take k longer) e ∙ ap (take first) more ∙ take_front first below (note ∷ []) (omega (arith, long, within))
      ∙ before ∙ sym (ap (λ k. take k notes) e),
)
led_next notes below longer i first now old note made alike small at more long within (inr (e, all, equal)) kept before =
    let is : note ≡ old = kept_is old note made alike kept equal in
    let front : below ≡ take i notes =
    sym (take_all i below (omega (arith, long)))
    ∙ subst (λ k. take k below ≡ take k notes) all before in
    let grown : length (below ++ note ∷ []) ≡ length below + length (note ∷ []) = length-append below (note ∷ []) in
    let count : length longer ≡ i + 1 = (let l = ap length more in omega (arith, l, grown, long)) in (
      omega (arith, e),
      ap (λ k. take k longer) e ∙ take_all (i + 1) longer (omega (arith, count)) ∙ more
          ∙ ap₂ (λ xs x. xs ++ x ∷ []) front is ∙ sym (take_item notes i old small at)
          ∙ sym (ap (λ k. take k notes) e),
    )

-- ---- the common back

pub back_none : (old : Annotated) (new : Fragment) → IsBack old new 0
back_none old new =
    let bs : List Fragment = map tree_in (below_in old) in
    let cs : List Fragment = children_of new in
    let long : length bs ≡ length (below_in old) = length-map (below_in old) tree_in in
    record {
      old_within = omega arith;
      new_within = omega arith;
      same =
          drop_all (length (below_in old) - 0) bs (omega (arith, long))
          ∙ sym (drop_all (length cs - 0) cs (omega arith));
    }

pub back_next : (old : Annotated) (new : Fragment) (notes : List Annotated) (inner : List Fragment)
    (back before after : ℕ) (x : Annotated) (y : Fragment) → notes ≡ below_in old → inner ≡ children_of new
    → back < length notes → back < length inner → before ≡ length notes - back - 1 → after ≡ length inner - back - 1
    → x ≡ get_or notes before x → y ≡ get_or inner after y → tree_in x ≡ y → IsBack old new back
    → IsBack old new (back + 1)
back_next old new notes inner back before after x y are here small within at to mine its same h =
    let ns : List Annotated = below_in old in
    let cs : List Fragment = children_of new in
    let many : length notes ≡ length ns = ap length are in
    let count : length inner ≡ length cs = ap length here in
    let left : drop before ns ≡ x ∷ drop (before + 1) ns =
    drop_item ns before x (omega (arith, many, small, at)) (mine ∙ ap (λ l. get_or l before x) are) in
    let right : drop after cs ≡ y ∷ drop (after + 1) cs =
    drop_item cs after y (omega (arith, count, within, to)) (its ∙ ap (λ l. get_or l after y) here) in
    let one : length ns - (back + 1) ≡ before = omega (arith, at, many) in
    let two : length cs - (back + 1) ≡ after = omega (arith, to, count) in
    let three : before + 1 ≡ length ns - back = omega (arith, at, many, small) in
    let four : after + 1 ≡ length cs - back = omega (arith, to, count, within) in
    record {
      old_within = omega (arith, small, many);
      new_within = omega (arith, within, count);
      same =
          ap (λ k. drop k (map tree_in ns)) one ∙ drop-map tree_in before ns ∙ ap (map tree_in) left
          ∙ ap₂ (λ z zs. z ∷ zs) same
          (sym (drop-map tree_in (before + 1) ns) ∙ ap (λ k. drop k (map tree_in ns)) three ∙ h.same
          ∙ sym (ap (λ k. drop k cs) four))
          ∙ sym right ∙ sym (ap (λ k. drop k cs) two);
    }

-- ---- equal trees

pub equal_next : (notes : List Annotated) (inner : List Fragment) (i : ℕ) (x : Annotated) (y : Fragment)
    → i < length notes → i < length inner → x ≡ get_or notes i x → y ≡ get_or inner i y → tree_in x ≡ y
    → take i (map tree_in notes) ≡ take i inner → take (i + 1) (map tree_in notes) ≡ take (i + 1) inner
equal_next notes inner i x y small within at to same h =
    let long : length (map tree_in notes) ≡ length notes = length-map notes tree_in in
    take_item (map tree_in notes) i (tree_in x) (omega (arith, small, long)) (map_read notes i x at)
    ∙ ap₂ (λ zs z. zs ++ z ∷ []) h same ∙ sym (take_item inner i y within to)

module _ (def : Definition) (old : Annotated) (new : Fragment) (notes : List Annotated) (inner : List Fragment) (noted : IsNoted def old) (are : notes ≡ below_in old) (here : inner ≡ children_of new) where
  old_trees : map tree_in notes ≡ children_of (tree_in old)
  old_trees = ap (map tree_in) are ∙ own_trees def old noted

  pub equal_long : tree_in old ≡ new → length notes ≡ length inner
  equal_long same =
      sym (length-map notes tree_in) ∙ ap length old_trees ∙ ap (λ f. length (children_of f)) same ∙ sym (ap length here)

  pub equal_at : (i : ℕ) (x : Annotated) (y : Fragment) → i < length notes → i < length inner → x ≡ get_or notes i x
      → y ≡ get_or inner i y → tree_in old ≡ new → tree_in x ≡ y
  equal_at i x y small within at to same =
      same_Some (tree_in x) y
      (sym (got_tree notes i x small at)
      ∙ ap (λ xs. slice_get xs i) (old_trees ∙ ap children_of same ∙ sym here) ∙ slice_get_item inner i y within to)

  pub equal_all : AreAlike (tree_in old) new → (i : ℕ) → length notes ≤ i → length notes ≡ length inner
      → take i (map tree_in notes) ≡ take i inner → tree_in old ≡ new
  equal_all alike i past long same =
      let many : length (map tree_in notes) ≡ length notes = length-map notes tree_in in
      alike.equal
      (sym old_trees ∙ sym (take_all i (map tree_in notes) (omega (arith, many, past))) ∙ same
      ∙ take_all i inner (omega (arith, long, past)) ∙ here)

  -- ---- the notes of all children

  pub notes_back : (below longer : List Annotated) (back : ℕ) → IsBack old new back
      → AreNotesOf def (take (length inner - back) inner) below
      → longer ≡ below ++ drop (length notes - back) notes → AreNotesOf def (children_of new) longer
  notes_back below longer back is h grown =
      let cs : List Fragment = children_of new in
      let k : ℕ = length notes - back in
      let many : length notes ≡ length (below_in old) = ap length are in
      let count : length inner ≡ length cs = ap length here in
      let tail : map tree_in (drop k notes) ≡ drop (length inner - back) inner =
      sym (drop-map tree_in k notes) ∙ ap₂ (λ n xs. drop (n - back) (map tree_in xs)) many are ∙ is.same
      ∙ sym (ap₂ (λ n xs. drop (n - back) xs) count here) in
      let whole : take (length inner - back) inner ++ drop (length inner - back) inner ≡ inner =
      take-append-drop (length inner - back) inner in
      let mine : AllByRecursion (IsNoted def) notes =
      subst (AllByRecursion (IsNoted def)) (sym are) (own_notes def old noted).1 in
      let last : AllByRecursion (IsNoted def) (drop k notes) =
      each_back (IsNoted def) (take k notes) (drop k notes)
      (subst (AllByRecursion (IsNoted def)) (sym (take-append-drop k notes)) mine) in (
        ap (map tree_in) grown ∙ map-append tree_in below (drop k notes) ∙ ap₂ (λ xs ys. xs ++ ys) h.0 tail ∙ whole ∙ here,
        subst (AllByRecursion (IsNoted def)) (sym grown) (each_append (IsNoted def) below (drop k notes) h.1 last),
      )

  module _ (formed_old : IsFormed def (tree_in old)) (formed : IsFormed def new) (paired : is_paired (tree_in old) new ≡ true) where
    -- the first ones, those without a partner before the common back, and the top are within the whole difference
    pub spread_least : (shorter back : ℕ) → shorter ≤ length notes → shorter ≤ length inner
        → (shorter ≡ length notes) ⊎ (shorter ≡ length inner) → IsBack old new back
        → pairs (take (shorter - back) (map tree_in notes)) (take (shorter - back) inner)
        + together (take (length inner - back) inner) + diff_top (tree_in old) new
        ≤ diff_of (tree_in old) new + together (take (shorter - back) inner)
    spread_least shorter back small within either is =
        let long : length (map tree_in notes) ≡ length notes = length-map notes tree_in in
        let many : length notes ≡ length (below_in old) = ap length are in
        let count : length inner ≡ length (children_of new) = ap length here in
        let which : (shorter ≡ length (map tree_in notes)) ⊎ (shorter ≡ length inner) =
        elim either [ inl e ↦ inl (e ∙ sym long) | inr e ↦ inr e ] in
        let few : back ≤ shorter =
        elim either [
          | inl e ↦ let w = is.old_within in (omega (arith, e, w, many))
          | inr e ↦ let w = is.new_within in (omega (arith, e, w, count))
        ] in
        let same : drop (length (map tree_in notes) - back) (map tree_in notes) ≡ drop (length inner - back) inner =
        ap₂ (λ n xs. drop (n - back) (map tree_in xs)) (long ∙ many) are ∙ is.same
        ∙ sym (ap₂ (λ n xs. drop (n - back) xs) count here) in
        let mine : AllByRecursion (IsFormed def) (map tree_in notes) =
        subst (AllByRecursion (IsFormed def)) (sym old_trees) (formed_children def (tree_in old) formed_old) in
        let its : AllByRecursion (IsFormed def) inner =
        subst (AllByRecursion (IsFormed def)) (sym here) (formed_children def new formed) in
        let rest = pairs_spread def (map tree_in notes) inner shorter back mine its (omega (arith, small, long)) within which
        few same in
        let whole = whole_most def (tree_in old) new formed_old formed paired in
        let pairs_are = same_pairs def old new notes inner noted formed_old formed paired are here in
        omega (arith, rest, whole, pairs_are)

-- ---- another number of children

-- the cells before the common back are fewer than those of a whole list
pub unlike_remade : (old new : Fragment) (front : ℕ) → is_paired old new ≡ true → AreUnlike old new
    → front ≤ length (children_of new) → remade_ticks new front ≤ diff_top old new
unlike_remade old new front paired h small =
    let cost = top_cost old new h.differ in
    let tops : Bool = same_some (top_operator old) (top_operator new) in
    let lists : Bool = same_some (list_number old) (list_number new) in
    elim (or_cases tops lists paired) [
      | inl e ↦
          let (o, one, two) = same_both (top_operator old) (top_operator new) e in
          let once = spine_once new o front two in
          let put : cond tops 1 (diff_cells old new) ≡ 1 = ap (λ b. cond b 1 (diff_cells old new)) e in
          omega (arith, cost, once, put)
      | inr e ↦
          let kinds = lists_paired old new e in
          let made = remade_list new kinds.1 front in
          let put : cond tops 1 (diff_cells old new) ≡ diff_cells old new =
          ap (λ b. cond b 1 (diff_cells old new)) kinds.2 in
          let cells : diff_cells old new ≡ length (children_of new) + 1 =
          ap (λ b. cond b (last_differing old new) (length (children_of new) + 1)) (h.ends e) in
          omega (arith, cost, made, put, cells, small)
    ]

module _ (def : Definition) where
  pub unlike_kept : (old : Annotated) (new : Fragment) (below : List Annotated) (first last back : ℕ)
      → IsNoted def old → IsFormed def (tree_in old) → IsFormed def new → AreAlike (tree_in old) new
      → (length (below_in old) ≡ length below → ⊥) → AreNotesOf def (children_of new) below
      → IsSpread old new below first last back
      → IsKept def old first (length (below_in old) - back) (length below - back) new below
  unlike_kept old new below first last back noted formed_old formed alike apart notes is =
      let behind : ℕ = length (below_in old) - back in
      let front : ℕ = length below - back in
      let few = is.old_few in
      let also = is.new_few in
      record {
        noted = noted;
        formed_old = formed_old;
        kept =
            drop-map whole_in front below ∙ ap (map whole_in) is.tail ∙ sym (drop-map whole_in behind (below_in old));
        first =
            take-map whole_in first below ∙ ap (map whole_in) is.front ∙ sym (take-map whole_in first (below_in old));
        fewer = (omega (arith, few), omega (arith, also));
        within = (omega arith, omega arith);
        lists = alike.lists;
        nodes = λ o top none.
            let old_top = (alike.nodes o top).0 in
            let long = operators_long def (tree_in old) new formed_old formed o old_top top in
            absurd (apart
            (sym (length-map (below_in old) tree_in) ∙ ap length (own_trees def old noted) ∙ long ∙ sym (ap length notes.0)
            ∙ length-map below tree_in));
      }

  -- the same over the slices that the code reads
  pub unlike_kept_slices : (old : Annotated) (new : Fragment) (below olds news : List Annotated) (first last back : ℕ)
      → olds ≡ below_in old → news ≡ below → IsNoted def old → IsFormed def (tree_in old) → IsFormed def new
      → AreAlike (tree_in old) new → (length (below_in old) ≡ length below → ⊥)
      → AreNotesOf def (children_of new) below → IsSpread old new below first last back
      → IsKept def old first (length olds - back) (length news - back) new below
  unlike_kept_slices old new below olds news first last back are here noted formed_old formed alike apart notes is =
      subst (λ xs. IsKept def old first (length xs - back) (length news - back) new below) (sym are)
      (subst (λ xs. IsKept def old first (length (below_in old) - back) (length xs - back) new below) (sym here)
      (unlike_kept old new below first last back noted formed_old formed alike apart notes is))

  pub unlike_remade_slices : (old new : Fragment) (below news : List Annotated) (back : ℕ) → news ≡ below
      → AreNotesOf def (children_of new) below → is_paired old new ≡ true → AreUnlike old new
      → remade_ticks new (length news - back) ≤ diff_top old new
  unlike_remade_slices old new below news back here notes paired apart =
      let one = ap length here in
      let two : length (map tree_in below) ≡ length below = length-map below tree_in in
      let three = ap length notes.0 in
      unlike_remade old new (length news - back) paired apart (omega (arith, one, two, three))

pub told_alike : (tops : Bool) (old new : Fragment) → TellsAlike tops old new → tops ≡ true → AreAlike old new
told_alike true old new h e = h
told_alike false old new h e = absurd (false≢true e)

pub told_unlike : (tops : Bool) (old new : Fragment) → TellsAlike tops old new → tops ≡ false → AreUnlike old new
told_unlike true old new h e = absurd (false≢true (sym e))
told_unlike false old new h e = h

-- ---- what there is in common, put together

pub spread_all : (old : Annotated) (new : Fragment) (notes firsts walked below : List Annotated) (inner : List Fragment)
    (shorter first last back : ℕ) → notes ≡ below_in old → inner ≡ children_of new → shorter ≤ length notes
    → shorter ≤ length inner → (shorter ≡ length notes) ⊎ (shorter ≡ length inner) → IsBack old new back
    → length firsts ≡ shorter - back → length walked ≡ length inner - back
    → (rest : List Annotated) × (walked ≡ firsts ++ rest) → below ≡ walked ++ drop (length notes - back) notes
    → first ≤ shorter - back → take first firsts ≡ take first notes → last ≤ shorter - back
    → drop last firsts ≡ drop last (take (shorter - back) notes)
    → DifferBefore last (children_of (tree_in old)) (children_of new) → IsSpread old new below first last back
spread_all old new notes firsts walked below inner shorter first last back are here small within either is count long (rest, grown) all led front far behind apart =
    let many : length notes ≡ length (below_in old) = ap length are in
    let its : length inner ≡ length (children_of new) = ap length here in
    let one = is.old_within in
    let two = is.new_within in
    let few : back ≤ shorter =
    elim either [ inl e ↦ (omega (arith, e, one, many)) | inr e ↦ (omega (arith, e, two, its)) ] in
    let k : ℕ = length notes - back in
    let whole : take k notes ++ drop k notes ≡ notes = take-append-drop k notes in
    let taken : length (take k notes) ≡ k = length-take-le k notes (omega arith) in
    let parts : length (take k notes ++ drop k notes) ≡ length (take k notes) + length (drop k notes) =
    length-append (take k notes) (drop k notes) in
    let size : length (take k notes ++ drop k notes) ≡ length notes = ap length whole in
    let tail : length (drop k notes) ≡ back = omega (arith, taken, parts, size, one, many) in
    let sum : length (walked ++ drop k notes) ≡ length walked + length (drop k notes) =
    length-append walked (drop k notes) in
    let total : length below ≡ length inner =
    (let l = ap length all in omega (arith, l, sum, tail, long, two, its)) in
    let grown_sum : length (firsts ++ rest) ≡ length firsts + length rest = length-append firsts rest in
    let more : length walked ≡ length firsts + length rest = (let l = ap length grown in omega (arith, l, grown_sum)) in
    record {
      within = omega (arith, far, total, within);
      behind = λ same.
          let equal : shorter - back ≡ k =
          elim either [
            | inl e ↦ ap (λ n. n - back) e
            | inr e ↦ (omega (arith, e, same, total, many))
          ] in
          let none : rest ≡ [] =
          no_more firsts rest (sym (ap length grown) ∙ (omega (arith, long, count, equal, same, total, many))) in
          let here_all : below ≡ firsts ++ drop k notes =
          all ∙ ap (λ xs. xs ++ drop k notes) (grown ∙ ap (λ ys. firsts ++ ys) none ∙ append-nil firsts) in
          ap (drop last) here_all ∙ drop-append-le last firsts (drop k notes) (omega (arith, far, count))
          ∙ ap (λ xs. xs ++ drop k notes) (behind ∙ ap (λ n. drop last (take n notes)) equal)
          ∙ sym (drop-append-le last (take k notes) (drop k notes) (omega (arith, far, taken, equal)))
          ∙ ap (drop last) (whole ∙ are);
      apart = apart;
      old_few = omega (arith, led, few, small, many);
      new_few = omega (arith, led, few, within, total);
      front =
          ap (take first) all ∙ take_front first walked (drop k notes) (omega (arith, led, count, more))
          ∙ ap (take first) grown ∙ take_front first firsts rest (omega (arith, led, count)) ∙ front
          ∙ ap (take first) are;
      tail =
          let place : length below - back ≡ length walked = omega (arith, total, long) in
          ap₂ (λ n xs. drop n xs) place all ∙ drop_front walked (drop k notes)
          ∙ ap₂ (λ n xs. drop (n - back) xs) many are;
    }
