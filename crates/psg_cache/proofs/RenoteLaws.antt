-- The notes of children beside those of an old tree, and what a changed top takes.
use Rattle.std.proofs.Common.{◌≡◌, ◌⊎◌, inl, inr, ℕ, zero, suc, ◌+◌, ◌-◌, ◌<◌, ◌≤◌, ◌&&◌, Bool, true, false, cond, List, [], ◌∷◌, ◌++◌, length, map, take, drop, get_or, slice_get, Option, Some, None, refl, sym, ◌∙◌, ap, ap₂, subst, append-nil, arith}
use Rattle.std.specs.Prelude.{◌↔◌}
use Rattle.std.proofs.lemmas.Bool.{false≢true, or_cases, cases_Bool}
use Rattle.std.proofs.lemmas.List.{drop_all, length-append, length-map, length-take-le, take_all, drop-append-le}
use Rattle.std.proofs.lemmas.List.Sums.{sum_by_push}
use Rattle.std.proofs.lemmas.Option.{same_Some}
use Rattle.psg_terms.proofs.Lists.{take_item, slice_get_item}
use Rattle.psg_grammar.specs.Work.{work_of}
use Rattle.psg_grammar.specs.Fragments.{Fragment, hole, ending, cell, operator, with_child, with_name, with_number, with_text, anything, observed, children_of, top_operator}
use Rattle.psg_grammar.specs.Paths.{IsList}
use Rattle.psg_grammar.specs.declared.types.Definition.{Definition}
use Rattle.psg_cache.specs.Alike.{AreAlike, AreUnlike, DifferBefore, TellsAlike, diff_top, is_paired}
use Rattle.psg_cache.specs.Annotated.{Annotated, tree_in, whole_in, below_in}
use Rattle.psg_cache.specs.Changes.{IsKept, remade_ticks}
use Rattle.psg_cache.specs.Diff.{agree, diff_cells, diff_of, last_differing, list_number, same_some}
use Rattle.psg_cache.specs.Noted.{IsNoted, IsNotedAs}
use Rattle.psg_cache.specs.Notes.{IsFormed}
use Rattle.psg_cache.specs.Renoting.{IsKeptOr, IsRenoted}
use Rattle.psg_cache.specs.Walks.{AreNotesOf, top_evaluations}
use Rattle.psg_cache.proofs.ChangeLaws.{own_trees}
use Rattle.psg_cache.proofs.Counting.{together}
use Rattle.psg_cache.proofs.PairLaws.{agree_long, last_reaches, lists_paired, pairs, pairs_front, pairs_next, same_both, same_false, spine_of, whole_most}
use Rattle.psg_cache.proofs.RealTrees.{IsReal, IsSpine}
use Rattle.psg_cache.proofs.SpliceLaws.{spine_once}

-- ---- summaries that did not change

pub wholes_less : (k : ℕ) (ns ms : List Annotated) (x y : Annotated) → k < length ns → k < length ms
    → x ≡ get_or ns k x → y ≡ get_or ms k y → whole_in x ≡ whole_in y
    → drop (suc k) (map whole_in ns) ≡ drop (suc k) (map whole_in ms)
    → drop k (map whole_in ns) ≡ drop k (map whole_in ms)
wholes_less k [] ms x y a b c d e h = absurd (omega (arith, a))
wholes_less k (n ∷ ns) [] x y a b c d e h = absurd (omega (arith, b))
wholes_less zero (n ∷ ns) (m ∷ ms) x y a b c d e h =
    ap₂ (λ s ss. s ∷ ss) (sym (ap whole_in c) ∙ e ∙ ap whole_in d) h
wholes_less (suc k) (n ∷ ns) (m ∷ ms) x y a b c d e h =
    wholes_less k ns ms x y (omega (arith, a)) (omega (arith, b)) c d e h

-- ---- the last child that differs

-- with one more child
pub behind_next : (notes below longer : List Annotated) (i last now : ℕ) (old note : Annotated) (made : Option Annotated)
    (alike : Bool) → i < length notes → old ≡ get_or notes i old → longer ≡ below ++ note ∷ [] → length below ≡ i
    → last ≤ i → now ≡ cond alike last (i + 1) → IsKeptOr old made note alike
    → drop last below ≡ drop last (take i notes)
    → (now ≤ i + 1) × (drop now longer ≡ drop now (take (i + 1) notes))
behind_next notes below longer i last now old note None alike small at more long within told kept before =
    let same : now ≡ last = told ∙ ap (λ b. cond b last (i + 1)) kept.1 in
    let next : take (i + 1) notes ≡ take i notes ++ old ∷ [] = take_item notes i old small at in
    let count : length (take i notes) ≡ i = length-take-le i notes (omega (arith, small)) in
    let one : drop last longer ≡ drop last below ++ old ∷ [] =
    ap (drop last) more ∙ drop-append-le last below (note ∷ []) (omega (arith, long, within))
    ∙ ap (λ x. drop last below ++ x ∷ []) kept.0 in
    let two : drop last (take (i + 1) notes) ≡ drop last (take i notes) ++ old ∷ [] =
    ap (drop last) next ∙ drop-append-le last (take i notes) (old ∷ []) (omega (arith, count, within)) in (
      omega (arith, same, within),
      ap (λ k. drop k longer) same ∙ one ∙ ap (λ xs. xs ++ old ∷ []) before ∙ sym two
          ∙ sym (ap (λ k. drop k (take (i + 1) notes)) same),
    )
behind_next notes below longer i last now old note (Some m) alike small at more long within told kept before =
    let same : now ≡ i + 1 = told ∙ ap (λ b. cond b last (i + 1)) kept.1 in
    let grown : length (below ++ note ∷ []) ≡ length below + length (note ∷ []) = length-append below (note ∷ []) in
    let count : length longer ≡ i + 1 = (let l = ap length more in omega (arith, l, grown, long)) in
    let front : length (take (i + 1) notes) ≡ i + 1 = length-take-le (i + 1) notes (omega (arith, small)) in (
      omega (arith, same),
      drop_all now longer (omega (arith, same, count)) ∙ sym (drop_all now (take (i + 1) notes) (omega (arith, same, front))),
    )

pub got_tree : (ns : List Annotated) (k : ℕ) (n : Annotated) → k < length ns → n ≡ get_or ns k n
    → slice_get (map tree_in ns) k ≡ Some (tree_in n)
got_tree [] k n small at = absurd (omega (arith, small))
got_tree (m ∷ ns) zero n small at = ap (λ x. Some (tree_in x)) (sym at)
got_tree (m ∷ ns) (suc k) n small at = got_tree ns k n (omega (arith, small)) at

pub apart_next : (def : Definition) (notes : List Annotated) (cs ds : List Fragment) (i last now : ℕ)
    (old note : Annotated) (new : Fragment) (made : Option Annotated) (alike : Bool) → i < length notes
    → i < length ds → old ≡ get_or notes i old → new ≡ get_or ds i new → map tree_in notes ≡ cs
    → now ≡ cond alike last (i + 1) → IsKeptOr old made note alike → IsRenoted def (tree_in old) new made
    → DifferBefore last cs ds → DifferBefore now cs ds
apart_next def notes cs ds i last now old note new None alike small there at to trees told kept is before =
    subst (λ k. DifferBefore k cs ds) (sym (told ∙ ap (λ b. cond b last (i + 1)) kept.1)) before
apart_next def notes cs ds i last now old note new (Some m) alike small there at to trees told kept is before =
    let next : i + 1 ≡ suc i = omega arith in
    let it : DifferBefore (suc i) cs ds = (
      tree_in old,
      new,
      ap (λ xs. slice_get xs i) (sym trees) ∙ got_tree notes i old small at,
      slice_get_item ds i new there to,
      is.0,
    ) in
    subst (λ k. DifferBefore k cs ds) (sym (told ∙ ap (λ b. cond b last (i + 1)) kept.1 ∙ next)) it

pub no_more : {X : Type 0} (xs ys : List X) → length (xs ++ ys) ≡ length xs → ys ≡ []
no_more xs [] e = refl
no_more xs (y ∷ ys) e =
    let n : length (xs ++ y ∷ ys) ≡ length xs + length (y ∷ ys) = length-append xs (y ∷ ys) in
    absurd (omega (arith, e, n))

pub apart_differ : (last : ℕ) (cs ds : List Fragment) → 0 < last → DifferBefore last cs ds → cs ≡ ds → ⊥
apart_differ zero cs ds some h same = omega (arith, some)
apart_differ (suc k) cs ds some (c, d, one, two, never) same =
    never (same_Some c d (sym one ∙ ap (λ xs. slice_get xs k) same ∙ two))

-- ---- at the top

-- a top that is not alike, or other numbers of children
pub apart_told : (old new : Fragment) (tops many alike : Bool) → TellsAlike tops old new
    → (many ≡ true ↔ (length (children_of old) ≡ length (children_of new))) → alike ≡ (tops && many) → alike ≡ false
    → AreUnlike old new
apart_told old new true many alike told count both fails =
    let few : many ≡ false = sym both ∙ fails in
    let other : length (children_of old) ≡ length (children_of new) → ⊥ =
    λ n. false≢true (sym few ∙ count.1 n) in
    record {
      differ = λ same. other (ap (λ f. length (children_of f)) same);
      ends = λ yes. elim (cases_Bool (agree old new)) [ inl e ↦ absurd (other (agree_long old new e)) | inr e ↦ e ];
    }
apart_told old new false many alike told count both fails = told

pub alike_told : (old new : Fragment) (tops many alike : Bool) → TellsAlike tops old new
    → (many ≡ true ↔ (length (children_of old) ≡ length (children_of new))) → alike ≡ (tops && many) → alike ≡ true
    → AreAlike old new × (length (children_of old) ≡ length (children_of new))
alike_told old new true many alike told count both holds = (told, count.0 (sym both ∙ holds))
alike_told old new false many alike told count both holds = absurd (false≢true (sym both ∙ holds))

pub top_cost : (old new : Fragment) → (old ≡ new → ⊥)
    → diff_top old new ≡ cond (same_some (top_operator old) (top_operator new)) 1 (diff_cells old new)
top_cost old new never =
    ap (λ b. cond b 0 (cond (same_some (top_operator old) (top_operator new)) 1 (diff_cells old new)))
    (same_false old new never)

-- ---- what a top takes

pub list_evaluations : (f : Fragment) → IsReal f → IsList f → top_evaluations f ≡ length (children_of f) + 1
list_evaluations (ending l u) is list = refl
list_evaluations (cell l e r) is list = let h = list_evaluations r is.1 is.2 in omega (arith, h)
list_evaluations (hole p) is list = absurd list
list_evaluations (operator o) is list = absurd list
list_evaluations (with_child f t) is list = absurd list
list_evaluations (with_name f n) is list = absurd list
list_evaluations (with_number f n) is list = absurd list
list_evaluations (with_text f t) is list = absurd list
list_evaluations anything is list = absurd list
list_evaluations (observed f) is list = absurd list

node_evaluations : (f : Fragment) → IsSpine f → top_evaluations f ≡ 1
node_evaluations (operator o) is = refl
node_evaluations (with_child f t) is = node_evaluations f is
node_evaluations (with_name f n) is = node_evaluations f is
node_evaluations (with_number f n) is = node_evaluations f is
node_evaluations (with_text f t) is = node_evaluations f is
node_evaluations (hole p) is = absurd is
node_evaluations (ending l u) is = absurd is
node_evaluations (cell l e r) is = absurd is
node_evaluations anything is = absurd is
node_evaluations (observed f) is = absurd is

-- an operator is evaluated once, also where its children are known
pub once_most : (old new : Fragment) → IsReal new → (o : ℕ) → top_operator new ≡ Some o → top_evaluations new ≡ 1
once_most old new is o top = node_evaluations new (spine_of new o is top)

-- what is made whole at the top is counted whole there
pub unlike_most : (old new : Fragment) → IsReal new → is_paired old new ≡ true → AreUnlike old new
    → top_evaluations new ≤ diff_top old new
unlike_most old new is paired h =
    let cost = top_cost old new h.differ in
    let tops : Bool = same_some (top_operator old) (top_operator new) in
    let lists : Bool = same_some (list_number old) (list_number new) in
    elim (or_cases tops lists paired) [
      | inl e ↦
          let (o, one, two) = same_both (top_operator old) (top_operator new) e in
          let once = once_most old new is o two in
          let put : cond tops 1 (diff_cells old new) ≡ 1 = ap (λ b. cond b 1 (diff_cells old new)) e in
          omega (arith, cost, once, put)
      | inr e ↦
          let kinds = lists_paired old new e in
          let all = list_evaluations new is kinds.1 in
          let put : cond tops 1 (diff_cells old new) ≡ diff_cells old new =
          ap (λ b. cond b 1 (diff_cells old new)) kinds.2 in
          let cells : diff_cells old new ≡ length (children_of new) + 1 =
          ap (λ b. cond b (last_differing old new) (length (children_of new) + 1)) (h.ends e) in
          omega (arith, cost, all, put, cells)
    ]

pub remade_list : (f : Fragment) → IsList f → (n : ℕ) → remade_ticks f n ≡ n
remade_list (ending l u) is n = refl
remade_list (cell l e r) is n = refl
remade_list (hole p) is n = absurd is
remade_list (operator o) is n = absurd is
remade_list (with_child f t) is n = absurd is
remade_list (with_name f m) is n = absurd is
remade_list (with_number f m) is n = absurd is
remade_list (with_text f t) is n = absurd is
remade_list anything is n = absurd is
remade_list (observed f) is n = absurd is

reaches : (old new : Fragment) (last : ℕ) → agree old new ≡ true
    → DifferBefore last (children_of old) (children_of new) → last ≤ last_differing old new
reaches old new zero agrees h = omega arith
reaches old new (suc k) agrees (c, d, one, two, never) = last_reaches old new agrees k c d one two never

-- the cells up to the last child that differs, or the operator
pub remade_apart : (old new : Fragment) (last front : ℕ) → is_paired old new ≡ true → AreAlike old new
    → length (children_of old) ≡ length (children_of new) → (old ≡ new → ⊥)
    → DifferBefore last (children_of old) (children_of new) → front ≤ last → remade_ticks new front ≤ diff_top old new
remade_apart old new last front paired alike long never apart small =
    let cost = top_cost old new never in
    let tops : Bool = same_some (top_operator old) (top_operator new) in
    let lists : Bool = same_some (list_number old) (list_number new) in
    elim (or_cases tops lists paired) [
      | inl e ↦
          let (o, one, two) = same_both (top_operator old) (top_operator new) e in
          let once = spine_once new o front two in
          let put : cond tops 1 (diff_cells old new) ≡ 1 = ap (λ b. cond b 1 (diff_cells old new)) e in
          omega (arith, cost, once, put)
      | inr e ↦
          let kinds = lists_paired old new e in
          let agrees = alike.agrees e long in
          let made = remade_list new kinds.1 front in
          let put : cond tops 1 (diff_cells old new) ≡ diff_cells old new =
          ap (λ b. cond b 1 (diff_cells old new)) kinds.2 in
          let cells : diff_cells old new ≡ last_differing old new =
          ap (λ b. cond b (last_differing old new) (length (children_of new) + 1)) agrees in
          let far = reaches old new last agrees apart in
          omega (arith, cost, made, put, cells, far, small)
    ]

-- ---- pairs

pub map_read : (ns : List Annotated) (k : ℕ) (n : Annotated) → n ≡ get_or ns k n
    → tree_in n ≡ get_or (map tree_in ns) k (tree_in n)
map_read [] k n at = refl
map_read (m ∷ ns) zero n at = ap tree_in at
map_read (m ∷ ns) (suc k) n at = map_read ns k n at

pub pair_next : (ns : List Annotated) (ds : List Fragment) (i : ℕ) (n : Annotated) (d : Fragment) → i < length ns
    → i < length ds → n ≡ get_or ns i n → d ≡ get_or ds i d
    → pairs (take (i + 1) (map tree_in ns)) (take (i + 1) ds) ≡ pairs (take i (map tree_in ns)) (take i ds) + diff_of (tree_in n) d
pair_next ns ds i n d small within at to =
    let long : length (map tree_in ns) ≡ length ns = length-map ns tree_in in
    pairs_next (map tree_in ns) ds i (tree_in n) d (omega (arith, small, long)) within (map_read ns i n at) to

-- ---- evaluations

pub next_most : (children : List Fragment) (i : ℕ) (child : Fragment) → i < length children
    → child ≡ get_or children i child → together (take (i + 1) children) ≡ together (take i children) + work_of child
next_most children i child small at =
    ap together (take_item children i child small at) ∙ sum_by_push work_of (take i children) child

-- ---- from the last child to the first

pub none_behind : (ns ms : List Annotated) → length ns ≡ length ms
    → drop (length ns) (map whole_in ns) ≡ drop (length ns) (map whole_in ms)
none_behind ns ms e =
    let one : length (map whole_in ns) ≡ length ns = length-map ns whole_in in
    let two : length (map whole_in ms) ≡ length ms = length-map ms whole_in in
    drop_all (length ns) (map whole_in ns) (omega (arith, one))
    ∙ sym (drop_all (length ns) (map whole_in ms) (omega (arith, two, e)))

pub wholes_before : (left : ℕ) (ns ms : List Annotated) (x y : Annotated) → 0 < left → left ≤ length ns
    → length ms ≡ length ns → x ≡ get_or ns (left - 1) x → y ≡ get_or ms (left - 1) y → whole_in x ≡ whole_in y
    → drop left (map whole_in ns) ≡ drop left (map whole_in ms)
    → drop (left - 1) (map whole_in ns) ≡ drop (left - 1) (map whole_in ms)
wholes_before left ns ms x y some within e a b same h =
    let one : left ≡ suc (left - 1) = omega (arith, some) in
    wholes_less (left - 1) ns ms x y (omega (arith, within, some)) (omega (arith, within, e, some)) a b same
    (subst (λ k. drop k (map whole_in ns) ≡ drop k (map whole_in ms)) one h)

module _ (def : Definition) where
  -- the children behind the last changed summary are as the old ones are
  pub alike_kept : (old : Annotated) (new : Fragment) (below : List Annotated) (first front : ℕ) → IsNoted def old
      → IsFormed def (tree_in old) → AreAlike (tree_in old) new → length (below_in old) ≡ length below
      → front ≤ length below → drop front (map whole_in below) ≡ drop front (map whole_in (below_in old))
      → first ≤ front → take first (map whole_in below) ≡ take first (map whole_in (below_in old))
      → IsKept def old first front front new below
  alike_kept old new below first front noted formed alike many small same few firsts = record {
    noted = noted;
    formed_old = formed;
    kept = same;
    first = firsts;
    fewer = (few, few);
    within = (omega (arith, many, small), small);
    lists = alike.lists;
    nodes = λ o top none. (none, (alike.nodes o top).0, (alike.nodes o top).1);
  }

  -- equal children of alike trees
  pub alike_equal : (old : Annotated) (new : Fragment) (below : List Annotated) → map tree_in (below_in old) ≡ children_of (tree_in old)
      → AreNotesOf def (children_of new) below → AreAlike (tree_in old) new → below ≡ below_in old → tree_in old ≡ new
  alike_equal old new below mine notes alike same =
      alike.equal (sym mine ∙ ap (map tree_in) (sym same) ∙ notes.0)

  -- the note that is kept, or the new one
  pub put_noted : (old : Annotated) (new : Fragment) (made : Option Annotated) (note : Annotated) (equal : Bool)
      → IsNoted def old → IsRenoted def (tree_in old) new made → IsKeptOr old made note equal → IsNotedAs def new note
  put_noted old new None note equal noted is kept =
      (ap tree_in kept.0 ∙ is, subst (IsNoted def) (sym kept.0) noted)
  put_noted old new (Some m) note equal noted is kept = subst (IsNotedAs def new) (sym kept.0) is.1

  pub first_many : (children : List Fragment) (i many : ℕ) (below : List Annotated)
      → AreNotesOf def (take i children) below → i ≤ many → many ≤ i → many ≤ length children → length below ≡ many
  first_many children i many below h small past within =
      let one : length (map tree_in below) ≡ length below = length-map below tree_in in
      let two = ap length h.0 in
      let three = length-take-le i children (omega (arith, small, within)) in
      omega (arith, one, two, three, small, past)

  -- ---- how much the children take together

  trees_old : (old : Annotated) (notes : List Annotated) → IsNoted def old → notes ≡ below_in old
      → map tree_in notes ≡ children_of (tree_in old)
  trees_old old notes noted are = ap (map tree_in) are ∙ own_trees def old noted

  module _ (old : Annotated) (new : Fragment) (notes : List Annotated) (inner : List Fragment) (noted : IsNoted def old)
      (formed_old : IsFormed def (tree_in old)) (formed : IsFormed def new) (paired : is_paired (tree_in old) new ≡ true)
      (are_notes : notes ≡ below_in old) (are : inner ≡ children_of new) where
    pub same_pairs : pairs (map tree_in notes) inner ≡ pairs (children_of (tree_in old)) (children_of new)
    same_pairs = ap₂ (λ x y. pairs x y) (trees_old old notes noted are_notes) are

    -- the first ones are within the whole difference
    pub front_least : (i : ℕ) → i ≤ length notes
        → pairs (take i (map tree_in notes)) (take i inner) ≤ diff_of (tree_in old) new
    front_least i small =
        let long : length (map tree_in notes) ≡ length notes = length-map notes tree_in in
        let front = pairs_front (map tree_in notes) inner i (omega (arith, small, long)) in
        let whole = whole_most def (tree_in old) new formed_old formed paired in
        omega (arith, front, whole, same_pairs)
