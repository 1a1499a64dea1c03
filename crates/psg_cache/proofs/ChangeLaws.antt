-- Notes along the path to a changed node.
use Rattle.std.proofs.Common.{◌≡◌, ◌⊎◌, inl, inr, ℕ, zero, suc, ◌+◌, ◌-◌, ◌<◌, ◌≤◌, List, [], ◌∷◌, ◌++◌, map, length, take, drop, get_or, slice_get, Some, refl, sym, ◌∙◌, ap, ap₂, subst, append_assoc, append-nil, arith}
use Rattle.std.specs.Prelude.{option_map, unwrap_or, Result, Ok, Err, IfErr}
use Rattle.std.specs.List.{AllByRecursion}
use Rattle.std.proofs.lemmas.List.{drop-map, length-map, length-take-le, take-map}
use Rattle.std.proofs.lemmas.Option.{none-some, slice_get_within, same_Some}
use Rattle.psg_grammar.proofs.PathLaws.{step}
use Rattle.psg_terms.proofs.Lists.{each_take}
use Rattle.psg_grammar.specs.declared.types.Definition.{Definition}
use Rattle.psg_grammar.specs.Fragments.{Fragment, hole, ending, cell, operator, with_child, with_name, with_number, with_text, anything, observed, children_of, top_operator}
use Rattle.psg_grammar.specs.Paths.{Path, node_at, change_at, put_child, inserted, removed, IsList}
use Rattle.psg_grammar.specs.Steps.{steps_of}
use Rattle.psg_grammar.specs.Work.{climb_of, leaving}
use Rattle.psg_grammar.specs.declared.types.Kind.TheVariants as kinds
use Rattle.psg_tree.specs.Edits.{IsInserted, IsInsertFault, IsRemoved, IsRemoveFault}
use Rattle.psg_tree.specs.Faults.{IsReplaceFault}
use Rattle.psg_tree.specs.declared.places.TreeFault.{TreeFault}
use Rattle.psg_tree.specs.declared.places.TreeFault.TheVariants as trees
use Rattle.psg_cache.specs.declared.editing.Edit.{Edit}
use Rattle.psg_cache.specs.declared.editing.Edit.TheVariants as edits
use Rattle.psg_cache.specs.declared.note.NoteFault.{NoteFault}
use Rattle.psg_eval.specs.declared.summary.SummaryParts.{SummaryParts}
use Rattle.psg_eval.specs.Trees.{own_names}
use Rattle.psg_cache.specs.Annotated.{Annotated, tree_in, whole_in, below_in}
use Rattle.psg_cache.specs.Changes.{change_of, remade_ticks, IsAdded, IsKept, IsPlace, IsPut, IsTaken, TakesEdit}
use Rattle.psg_cache.specs.Noted.{IsNoted, IsNotedAs}
use Rattle.psg_cache.specs.Edits.{MayInsert, MayRemove, MayReplace}
use Rattle.psg_cache.specs.Notes.{IsFormed, IsNoteOf}
use Rattle.psg_cache.proofs.FormedTrees.{changed_formed, inserted_formed, kind_once, removed_formed, formed_is_kind}
use Rattle.psg_cache.specs.Walks.{AreNotesOf, IsStepFault}
use Rattle.psg_cache.proofs.Carrying.{names-put, top-put}
use Rattle.psg_cache.proofs.ClimbLaws.{change-put}
use Rattle.psg_cache.proofs.Each.{each_got}
use Rattle.psg_cache.proofs.NoteParts.{noted_parts}
use Rattle.psg_cache.proofs.CulpritLaws.{real_children}
use Rattle.psg_cache.proofs.RealTrees.{IsReal, IsSpine, real}
use Rattle.psg_grammar.specs.Kinds.{IsOfKind}
use Rattle.psg_grammar.specs.WellFormed.{WellFormed}
use Rattle.psg_cache.proofs.SpliceLaws.{children_changed, children_inserted, children_removed, fewer_ticks, kept_behind, list_changed, list_inserted, list_removed, list_self, long_enough, notes_spliced, notes_take, spine_once, spliced_same, taken_front, ticks_changed, ticks_inserted, ticks_removed}
use Rattle.psg_cache.proofs.WalkLaws.{child_fault, formed_children, notes_clean}

pub got_behind : (xs : List Fragment) (k : ℕ) (y : Fragment) (ys : List Fragment) → k ≤ length xs
    → slice_get (take k xs ++ y ∷ ys) k ≡ Some y
got_behind xs zero y ys small = refl
got_behind [] (suc k) y ys small = absurd (omega (arith, small))
got_behind (x ∷ xs) (suc k) y ys small = got_behind xs k y ys (omega (arith, small))

got_map : (ns : List Annotated) (k : ℕ) (n : Annotated) → k < length ns → n ≡ get_or ns k n
    → slice_get (map tree_in ns) k ≡ Some (tree_in n)
got_map [] k n small at = absurd (omega (arith, small))
got_map (m ∷ ns) zero n small at = ap (λ x. Some (tree_in x)) (sym at)
got_map (m ∷ ns) (suc k) n small at = got_map ns k n (omega (arith, small)) at

noted_there : (def : Definition) (ns : List Annotated) (k : ℕ) (n : Annotated) → AllByRecursion (IsNoted def) ns
    → k < length ns → n ≡ get_or ns k n → IsNoted def n
noted_there def [] k n h small at = absurd (omega (arith, small))
noted_there def (m ∷ ns) zero n h small at = subst (IsNoted def) (sym at) h.0
noted_there def (m ∷ ns) (suc k) n h small at = noted_there def ns k n h.1 (omega (arith, small)) at

-- a path by its first step and the others
pub split_path : (left : Path) (k : ℕ) (rest : Path) → slice_get left 0 ≡ Some k → rest ≡ drop 1 left
    → left ≡ k ∷ rest
split_path [] k rest e d = absurd (none-some k e)
split_path (j ∷ left) k rest e d = ap₂ (λ a b. a ∷ b) (same_Some j k e) (sym d)

pub shorter : (left : Path) (k : ℕ) (rest : Path) → left ≡ k ∷ rest → length rest + 1 ≡ length left
shorter left k rest e = let n : length left ≡ suc (length rest) = ap length e in omega (arith, n)

-- summaries of equal notes
wholes_behind : (j k : ℕ) (ns ms : List Annotated) → drop j ns ≡ drop k ms
    → drop j (map whole_in ns) ≡ drop k (map whole_in ms)
wholes_behind j k ns ms e = drop-map whole_in j ns ∙ ap (map whole_in) e ∙ sym (drop-map whole_in k ms)

wholes_before : (k : ℕ) (ns ms : List Annotated) → take k ns ≡ take k ms
    → take k (map whole_in ns) ≡ take k (map whole_in ms)
wholes_before k ns ms e = take-map whole_in k ns ∙ ap (map whole_in) e ∙ sym (take-map whole_in k ms)

module _ (def : Definition) where
  pub own_notes : (n : Annotated) → IsNoted def n → AreNotesOf def (children_of (tree_in n)) (below_in n)
  own_notes n h = let parts = noted_parts def n h in (parts.0.children, parts.1)

  pub below_length : (n : Annotated) → IsNoted def n → length (below_in n) ≡ length (children_of (tree_in n))
  below_length n h = sym (length-map (below_in n) tree_in) ∙ ap length (own_notes n h).0

  -- the fault of a new child behind the first ones of the old node
  pub new_fault : (path : Path) (n : Annotated) (made : Fragment) (k : ℕ) (child : Fragment) (back : List Fragment)
      (fault : NoteFault) → IsNoted def n → IsFormed def (tree_in n) → IsFormed def made
      → k ≤ length (children_of (tree_in n)) → children_of made ≡ take k (children_of (tree_in n)) ++ child ∷ back
      → IsStepFault def (steps_of def (path ++ k ∷ []) child) fault → IsStepFault def (steps_of def path made) fault
  new_fault path n made k child back fault noted old formed small children f =
      let cs : List Fragment = children_of (tree_in n) in
      let front = notes_take def k cs (below_in n) (own_notes n noted) in
      let each = each_take (IsFormed def) k cs (formed_children def (tree_in n) old) in
      child_fault def path (path ++ k ∷ []) made (real def made formed) (take k cs) back child fault children
      (ap (λ j. path ++ j ∷ []) (sym (length-take-le k cs small)))
      (notes_clean def path 0 (take k cs) (take k (below_in n)) each front) f

  pub own_trees : (n : Annotated) → IsNoted def n → map tree_in (below_in n) ≡ children_of (tree_in n)
  own_trees n h = (own_notes n h).0

  pub below_noted : (n : Annotated) (k : ℕ) (c : Annotated) → IsNoted def n → k < length (below_in n)
      → c ≡ get_or (below_in n) k c → IsNoted def c
  below_noted n k c noted small at = noted_there def (below_in n) k c (own_notes n noted).1 small at

  pub below_formed : (n : Annotated) (k : ℕ) (c : Annotated) → IsNoted def n → IsFormed def (tree_in n)
      → k < length (below_in n) → c ≡ get_or (below_in n) k c → IsFormed def (tree_in c)
  below_formed n k c noted formed small at =
      each_got (IsFormed def) (children_of (tree_in n)) k (tree_in c) (formed_children def (tree_in n) formed)
      (ap (λ xs. slice_get xs k) (sym (own_notes n noted).0) ∙ got_map (below_in n) k c small at)

  -- ---- one more element

  added_children : (n : Annotated) (place : ℕ) (new made : Fragment) → IsAdded def n place new made
      → children_of made ≡ take place (children_of (tree_in n)) ++ new ∷ drop place (children_of (tree_in n))
  added_children n place new made h =
      ap children_of h.changed
      ∙ children_inserted new place (tree_in n) (real def (tree_in n) h.formed_old) h.list h.within

  pub added_within : (n : Annotated) (place : ℕ) (new made : Fragment) → IsAdded def n place new made
      → place ≤ length (below_in n)
  added_within n place new made h =
      let many = below_length n h.noted in
      let small = h.within in
      omega (arith, many, small)

  pub added_notes : (n : Annotated) (place : ℕ) (new made : Fragment) (child : Annotated) (all : List Annotated)
      → IsAdded def n place new made → IsNotedAs def new child
      → all ≡ (take place (below_in n) ++ child ∷ []) ++ drop place (below_in n)
      → AreNotesOf def (children_of made) all
  added_notes n place new made child all h noted is =
      let cs : List Fragment = children_of (tree_in n) in
      let same : children_of made ≡ (take place cs ++ new ∷ []) ++ drop place cs =
      added_children n place new made h ∙ sym (append_assoc (take place cs) (new ∷ []) (drop place cs)) in
      subst (λ x. AreNotesOf def x all) (sym same)
      (subst (AreNotesOf def ((take place cs ++ new ∷ []) ++ drop place cs)) (sym is)
      (notes_spliced def place place cs (new ∷ []) (below_in n) (child ∷ []) (own_notes n h.noted)
      (ap (λ x. x ∷ []) noted.0, (noted.1, tt))))

  pub added_kept : (n : Annotated) (place : ℕ) (new made : Fragment) (child : Annotated) (all : List Annotated)
      → IsAdded def n place new made → all ≡ (take place (below_in n) ++ child ∷ []) ++ drop place (below_in n)
      → IsKept def n place place (place + 1) made all
  added_kept n place new made child all h is =
      let small = added_within n place new made h in
      record {
        noted = h.noted;
        formed_old = h.formed_old;
        kept =
            wholes_behind (place + 1) place all (below_in n) (ap (drop (place + 1)) is
            ∙ kept_behind place place (below_in n) (child ∷ []) (place + 1) small (omega arith));
        first =
            wholes_before place all (below_in n) (ap (take place) is ∙ taken_front place place (below_in n) (child ∷ []) small);
        fewer = (omega arith, omega arith);
        nodes = λ o top none. absurd (let z = none in omega (arith, z));
        within = (
          small,
          subst (λ x. place + 1 ≤ length x) (sym is)
              (long_enough place place (below_in n) (child ∷ []) (place + 1) small (omega arith)),
        );
        lists = λ l es u same.
            let (ds, it) = list_inserted new place (tree_in n) (real def (tree_in n) h.formed_old) h.list l es u
            h.within (sym h.changed ∙ same) in
            list_self (tree_in n) l ds u it;
      }

  pub added_ticks : (n : Annotated) (place : ℕ) (new made : Fragment) → IsAdded def n place new made
      → remade_ticks made (place + 1) ≡ place + 1
  added_ticks n place new made h =
      ap (λ x. remade_ticks x (place + 1)) h.changed
      ∙ ticks_inserted new place (place + 1) (tree_in n) (real def (tree_in n) h.formed_old) h.list h.within

  pub added_fault : (path inside : Path) (n : Annotated) (place : ℕ) (new made : Fragment) (fault : NoteFault)
      → IsAdded def n place new made → inside ≡ path ++ place ∷ []
      → IsStepFault def (steps_of def inside new) fault → IsStepFault def (steps_of def path made) fault
  added_fault path inside n place new made fault h is f =
      new_fault path n made place new (drop place (children_of (tree_in n))) fault h.noted h.formed_old h.formed
      h.within (added_children n place new made h) (subst (λ q. IsStepFault def (steps_of def q new) fault) is f)

  -- ---- one element less

  pub taken_within : (n : Annotated) (place : ℕ) (made : Fragment) → IsTaken def n place made
      → place < length (below_in n)
  taken_within n place made h =
      let many = below_length n h.noted in
      let small = h.within in
      omega (arith, many, small)

  pub taken_notes : (n : Annotated) (place : ℕ) (made : Fragment) (all : List Annotated) → IsTaken def n place made
      → all ≡ (take place (below_in n) ++ []) ++ drop (place + 1) (below_in n) → AreNotesOf def (children_of made) all
  taken_notes n place made all h is =
      let cs : List Fragment = children_of (tree_in n) in
      let one : suc place ≡ place + 1 = omega arith in
      let same : children_of made ≡ (take place cs ++ []) ++ drop (place + 1) cs =
      ap children_of h.changed
      ∙ children_removed place (tree_in n) (real def (tree_in n) h.formed_old) h.list h.within
      ∙ ap (λ k. take place cs ++ drop k cs) one
      ∙ ap (λ x. x ++ drop (place + 1) cs) (sym (append-nil (take place cs))) in
      subst (λ x. AreNotesOf def x all) (sym same)
      (subst (AreNotesOf def ((take place cs ++ []) ++ drop (place + 1) cs)) (sym is)
      (notes_spliced def place (place + 1) cs [] (below_in n) [] (own_notes n h.noted) (refl, tt)))

  pub taken_kept : (n : Annotated) (place : ℕ) (made : Fragment) (all : List Annotated) → IsTaken def n place made
      → all ≡ (take place (below_in n) ++ []) ++ drop (place + 1) (below_in n)
      → IsKept def n place (place + 1) place made all
  taken_kept n place made all h is =
      let small = taken_within n place made h in
      let few : place ≤ length (below_in n) = omega (arith, small) in
      record {
        noted = h.noted;
        formed_old = h.formed_old;
        kept =
            wholes_behind place (place + 1) all (below_in n)
            (ap (drop place) is ∙ kept_behind place (place + 1) (below_in n) [] place few (omega arith));
        first =
            wholes_before place all (below_in n) (ap (take place) is ∙ taken_front place (place + 1) (below_in n) [] few);
        fewer = (omega arith, omega arith);
        nodes = λ o top empty.
            let none : remade_ticks made 0 ≡ 0 =
            ap (λ x. remade_ticks x 0) h.changed
            ∙ ticks_removed place 0 (tree_in n) (real def (tree_in n) h.formed_old) h.list h.within in
            let once = spine_once made o 0 top in
            absurd (omega (arith, none, once));
        within = (
          omega (arith, small),
          subst (λ x. place ≤ length x) (sym is)
              (long_enough place (place + 1) (below_in n) [] place few (omega arith)),
        );
        lists = λ l es u same.
            let (kind, (fits, plain)) = h.formed_old in
            let (ds, it) = list_removed def place (tree_in n) kind fits (real def (tree_in n) h.formed_old) h.list l
            es u h.within (sym h.changed ∙ same) in
            list_self (tree_in n) l ds u it;
      }

  pub taken_ticks : (n : Annotated) (place : ℕ) (made : Fragment) → IsTaken def n place made
      → remade_ticks made place ≡ place
  taken_ticks n place made h =
      ap (λ x. remade_ticks x place) h.changed
      ∙ ticks_removed place place (tree_in n) (real def (tree_in n) h.formed_old) h.list h.within

  -- ---- another child

  put_small : (n : Annotated) (k : ℕ) (child : Annotated) (made : Fragment) → IsPut def n k child made
      → k < length (children_of (tree_in n))
  put_small n k child made h = slice_get_within (children_of (tree_in n)) k h.old h.there

  pub put_within : (n : Annotated) (k : ℕ) (child : Annotated) (made : Fragment) → IsPut def n k child made
      → k < length (below_in n)
  put_within n k child made h =
      let many = below_length n h.noted in
      let small = put_small n k child made h in
      omega (arith, many, small)

  pub put_notes : (n : Annotated) (k : ℕ) (child : Annotated) (made : Fragment) (all : List Annotated)
      → IsPut def n k child made → all ≡ (take k (below_in n) ++ child ∷ []) ++ drop (k + 1) (below_in n)
      → AreNotesOf def (children_of made) all
  put_notes n k child made all h is =
      let cs : List Fragment = children_of (tree_in n) in
      let new : Fragment = h.change h.old in
      let one : suc k ≡ k + 1 = omega arith in
      let same : children_of made ≡ (take k cs ++ new ∷ []) ++ drop (k + 1) cs =
      ap children_of h.made_so ∙ children_changed h.change (tree_in n) k h.old h.there
      ∙ ap (λ j. take k cs ++ new ∷ drop j cs) one
      ∙ sym (append_assoc (take k cs) (new ∷ []) (drop (k + 1) cs)) in
      subst (λ x. AreNotesOf def x all) (sym same)
      (subst (AreNotesOf def ((take k cs ++ new ∷ []) ++ drop (k + 1) cs)) (sym is)
      (notes_spliced def k (k + 1) cs (new ∷ []) (below_in n) (child ∷ []) (own_notes n h.noted)
      (ap (λ x. x ∷ []) h.child_noted.0, (h.child_noted.1, tt))))

  pub put_kept : (n : Annotated) (k front : ℕ) (child old : Annotated) (made : Fragment) (all : List Annotated)
      → IsPut def n k child made → all ≡ (take k (below_in n) ++ child ∷ []) ++ drop (k + 1) (below_in n)
      → old ≡ get_or (below_in n) k old
      → ((front ≡ 0) × (whole_in child ≡ whole_in old)) ⊎ (front ≡ k + 1)
      → IsKept def n (front - 1) front front made all
  put_kept n k front child old made all h is at changed =
      let small = put_within n k child made h in
      let few : k ≤ length (below_in n) = omega (arith, small) in
      let ws : List SummaryParts = map whole_in all in
      let olds : List SummaryParts = map whole_in (below_in n) in
      let one : k + 1 ≡ suc k = omega arith in
      let put : made ≡ put_child (h.change h.old) k (tree_in n) = h.made_so ∙ change-put h.change (tree_in n) k h.old h.there in
      record {
        noted = h.noted;
        formed_old = h.formed_old;
        kept = elim changed [
          | inl none ↦
              let alike : ws ≡ olds =
              ap (map whole_in) (is ∙ ap (λ j. (take k (below_in n) ++ child ∷ []) ++ drop j (below_in n)) one)
              ∙ spliced_same k (below_in n) child old small at none.1 in
              ap (drop front) alike
          | inr more ↦
              subst (λ j. drop j ws ≡ drop j olds) (sym more)
              (wholes_behind (k + 1) (k + 1) all (below_in n)
              (ap (drop (k + 1)) is ∙ kept_behind k (k + 1) (below_in n) (child ∷ []) (k + 1) few (omega arith)))
        ];
        first = elim changed [
          | inl none ↦
              let empty : front - 1 ≡ 0 = (let z = none.0 in omega (arith, z)) in
              subst (λ j. take j ws ≡ take j olds) (sym empty) refl
          | inr more ↦
              let same : front - 1 ≡ k = omega (arith, more) in
              subst (λ j. take j ws ≡ take j olds) (sym same)
              (wholes_before k all (below_in n) (ap (take k) is ∙ taken_front k (k + 1) (below_in n) (child ∷ []) few))
        ];
        fewer = (omega arith, omega arith);
        nodes = λ o top none. (
          none,
          sym (ap top_operator put ∙ top-put (h.change h.old) k (tree_in n)) ∙ top,
          ap own_names put ∙ names-put (h.change h.old) k (tree_in n),
        );
        within =
            let most : front ≤ k + 1 =
            elim changed [ inl none ↦ (let z = none.0 in omega (arith, z)) | inr more ↦ omega (arith, more) ] in
            let long : k + 1 ≤ length all =
            subst (λ x. k + 1 ≤ length x) (sym is)
            (long_enough k (k + 1) (below_in n) (child ∷ []) (k + 1) few (omega arith)) in
            (omega (arith, small, most), omega (arith, long, most));
        lists = λ l es u same.
            let (ds, it) = list_changed h.change (tree_in n) k l es u (sym h.made_so ∙ same) in
            list_self (tree_in n) l ds u it;
      }

  pub put_ticks : (n : Annotated) (k front : ℕ) (child old : Annotated) (made : Fragment) → IsPut def n k child made
      → ((front ≡ 0) × (whole_in child ≡ whole_in old)) ⊎ (front ≡ k + 1)
      → remade_ticks made front ≤ leaving (tree_in n) k
  put_ticks n k front child old made h changed =
      let most : remade_ticks made (k + 1) ≡ leaving (tree_in n) k =
      ap (λ x. remade_ticks x (k + 1)) h.made_so ∙ ticks_changed h.change (tree_in n) k h.old h.there in
      elim changed [
        | inl none ↦
            let less = fewer_ticks made k in
            let here = ap (remade_ticks made) none.0 in
            omega (arith, most, less, here)
        | inr more ↦ let here = ap (remade_ticks made) more in omega (arith, most, here)
      ]

  -- ---- the changes of a node

  here : (n : Annotated) (edit : Edit) (made : Fragment) → (h : IsPlace def n [] edit made)
      → TakesEdit def edit (tree_in n)
  here n edit made h = let same : tree_in n ≡ h.node = same_Some (tree_in n) h.node h.there in
      subst (TakesEdit def edit) (sym same) h.takes

  pub edit_put : (n : Annotated) (edit : Edit) (new : Annotated) (made : Fragment) → edit ≡ edits.Put new
      → IsPlace def n [] edit made → IsNotedAs def made new
  edit_put n edit new made is h =
      let same : made ≡ tree_in new = h.changed ∙ ap (λ e. change_of e (tree_in n)) is in
      let takes : IsNoted def new = subst (λ e. TakesEdit def e (tree_in n)) is (here n edit made h) in
      (sym same, takes)

  pub edit_add : (n : Annotated) (edit : Edit) (place : ℕ) (new made : Fragment) → edit ≡ edits.Add place new
      → IsPlace def n [] edit made → IsAdded def n place new made
  edit_add n edit place new made is h =
      let takes : TakesEdit def (edits.Add place new) (tree_in n) =
      subst (λ e. TakesEdit def e (tree_in n)) is (here n edit made h) in
      record {
        noted = h.noted;
        formed_old = h.formed_old;
        formed = h.formed;
        fresh = takes.2;
        list = takes.0;
        within = takes.1;
        changed = h.changed ∙ ap (λ e. change_of e (tree_in n)) is;
      }

  pub edit_take : (n : Annotated) (edit : Edit) (place : ℕ) (made : Fragment) → edit ≡ edits.Take place
      → IsPlace def n [] edit made → IsTaken def n place made
  edit_take n edit place made is h =
      let takes : TakesEdit def (edits.Take place) (tree_in n) =
      subst (λ e. TakesEdit def e (tree_in n)) is (here n edit made h) in
      record {
        noted = h.noted;
        formed_old = h.formed_old;
        formed = h.formed;
        list = takes.0;
        within = takes.1;
        changed = h.changed ∙ ap (λ e. change_of e (tree_in n)) is;
      }

  -- ---- along the path

  step_there : (n : Annotated) (k : ℕ) (rest : Path) (edit : Edit) (made : Fragment)
      → (h : IsPlace def n (k ∷ rest) edit made)
      → (c : Fragment) × (slice_get (children_of (tree_in n)) k ≡ Some c) × (node_at c rest ≡ Some h.node)
  step_there n k rest edit made h = step (slice_get (children_of (tree_in n)) k) rest h.node h.there

  pub step_within : (n : Annotated) (k : ℕ) (left rest : Path) (edit : Edit) (made : Fragment) → left ≡ k ∷ rest
      → IsPlace def n left edit made → k < length (below_in n)
  step_within n k left rest edit made is h' =
      let h : IsPlace def n (k ∷ rest) edit made = subst (λ p. IsPlace def n p edit made) is h' in
      let (c, at, below) = step_there n k rest edit made h in
      let small = slice_get_within (children_of (tree_in n)) k c at in
      let many = below_length n h.noted in
      omega (arith, small, many)

  -- the child that is changed, before and after
  inner_is : (n : Annotated) (k : ℕ) (rest : Path) (edit : Edit) (made : Fragment) (old : Annotated)
      (inner : Fragment) → (h : IsPlace def n (k ∷ rest) edit made) → k < length (below_in n)
      → old ≡ get_or (below_in n) k old → slice_get (children_of made) k ≡ Some inner
      → (slice_get (children_of (tree_in n)) k ≡ Some (tree_in old)) × (node_at (tree_in old) rest ≡ Some h.node)
      × (inner ≡ change_at (change_of edit) rest (tree_in old))
  inner_is n k rest edit made old inner h small at got =
      let cs : List Fragment = children_of (tree_in n) in
      let (c, there, below) = step_there n k rest edit made h in
      let mine : slice_get cs k ≡ Some (tree_in old) =
      ap (λ xs. slice_get xs k) (sym (own_notes n h.noted).0) ∙ got_map (below_in n) k old small at in
      let same : c ≡ tree_in old = same_Some c (tree_in old) (sym there ∙ mine) in
      let g : Fragment → Fragment = change_at (change_of edit) rest in
      let few : k ≤ length cs = (let s = slice_get_within cs k c there in omega (arith, s)) in
      let children : children_of made ≡ take k cs ++ g (tree_in old) ∷ drop (suc k) cs =
      ap children_of h.changed ∙ children_changed g (tree_in n) k (tree_in old) mine in
      let new : slice_get (children_of made) k ≡ Some (g (tree_in old)) =
      ap (λ xs. slice_get xs k) children ∙ got_behind cs k (g (tree_in old)) (drop (suc k) cs) few in (
        mine,
        subst (λ x. node_at x rest ≡ Some h.node) same below,
        same_Some inner (g (tree_in old)) (sym got ∙ new),
      )

  -- the changed node has the child too
  pub step_made : (n : Annotated) (k : ℕ) (left rest : Path) (edit : Edit) (made : Fragment) → left ≡ k ∷ rest
      → IsPlace def n left edit made → k < length (children_of made)
  step_made n k left rest edit made is h' =
      let h : IsPlace def n (k ∷ rest) edit made = subst (λ p. IsPlace def n p edit made) is h' in
      let cs : List Fragment = children_of (tree_in n) in
      let (c, there, below) = step_there n k rest edit made h in
      let g : Fragment → Fragment = change_at (change_of edit) rest in
      let few : k ≤ length cs = (let s = slice_get_within cs k c there in omega (arith, s)) in
      let children : children_of made ≡ take k cs ++ g c ∷ drop (suc k) cs =
      ap children_of h.changed ∙ children_changed g (tree_in n) k c there in
      slice_get_within (children_of made) k (g c)
      (ap (λ xs. slice_get xs k) children ∙ got_behind cs k (g c) (drop (suc k) cs) few)

  pub step_place : (n : Annotated) (k : ℕ) (left rest : Path) (edit : Edit) (made : Fragment) (old : Annotated)
      (inner : Fragment) → left ≡ k ∷ rest → IsPlace def n left edit made → k < length (below_in n)
      → old ≡ get_or (below_in n) k old → slice_get (children_of made) k ≡ Some inner
      → IsPlace def old rest edit inner
  step_place n k left rest edit made old inner is h' small at got =
      let h : IsPlace def n (k ∷ rest) edit made = subst (λ p. IsPlace def n p edit made) is h' in
      let (mine, below, new) = inner_is n k rest edit made old inner h small at got in
      record {
        noted = noted_there def (below_in n) k old (own_notes n h.noted).1 small at;
        formed_old =
            each_got (IsFormed def) (children_of (tree_in n)) k (tree_in old) (formed_children def (tree_in n) h.formed_old)
            mine;
        formed = each_got (IsFormed def) (children_of made) k inner (formed_children def made h.formed) got;
        node = h.node;
        there = below;
        takes = h.takes;
        changed = new;
      }

  pub step_put : (n : Annotated) (k : ℕ) (left rest : Path) (edit : Edit) (made : Fragment) (old : Annotated)
      (inner : Fragment) (child : Annotated) → left ≡ k ∷ rest → IsPlace def n left edit made → k < length (below_in n)
      → old ≡ get_or (below_in n) k old → slice_get (children_of made) k ≡ Some inner → IsNotedAs def inner child
      → IsPut def n k child made
  step_put n k left rest edit made old inner child is h' small at got noted =
      let h : IsPlace def n (k ∷ rest) edit made = subst (λ p. IsPlace def n p edit made) is h' in
      let (mine, below, new) = inner_is n k rest edit made old inner h small at got in
      record {
        noted = h.noted;
        formed_old = h.formed_old;
        formed = h.formed;
        old = tree_in old;
        there = mine;
        change = change_at (change_of edit) rest;
        made_so = h.changed;
        child_noted = subst (λ x. IsNotedAs def x child) new noted;
      }

  pub step_fault : (path inside : Path) (n : Annotated) (k : ℕ) (left rest : Path) (edit : Edit) (made : Fragment)
      (old : Annotated) (inner : Fragment) (fault : NoteFault) → left ≡ k ∷ rest → IsPlace def n left edit made
      → k < length (below_in n) → old ≡ get_or (below_in n) k old → slice_get (children_of made) k ≡ Some inner
      → inside ≡ path ++ k ∷ [] → IsStepFault def (steps_of def inside inner) fault
      → IsStepFault def (steps_of def path made) fault
  step_fault path inside n k left rest edit made old inner fault is h' small at got place f =
      let h : IsPlace def n (k ∷ rest) edit made = subst (λ p. IsPlace def n p edit made) is h' in
      let cs : List Fragment = children_of (tree_in n) in
      let (mine, below, new) = inner_is n k rest edit made old inner h small at got in
      let few : k ≤ length cs = (let many = below_length n h.noted in omega (arith, many, small)) in
      let children : children_of made ≡ take k cs ++ inner ∷ drop (suc k) cs =
      ap children_of h.changed
      ∙ children_changed (change_at (change_of edit) rest) (tree_in n) k (tree_in old) mine
      ∙ ap (λ x. take k cs ++ x ∷ drop (suc k) cs) (sym new) in
      new_fault path n made k inner (drop (suc k) cs) fault h.noted h.formed_old h.formed few children
      (subst (λ q. IsStepFault def (steps_of def q inner) fault) place f)

  pub step_climb : (n : Annotated) (k : ℕ) (left rest : Path) (edit : Edit) (made : Fragment) (old : Annotated)
      → left ≡ k ∷ rest → IsPlace def n left edit made → k < length (below_in n) → old ≡ get_or (below_in n) k old
      → climb_of (tree_in n) left ≡ leaving (tree_in n) k + climb_of (tree_in old) rest
  step_climb n k left rest edit made old is h small at =
      let mine : slice_get (children_of (tree_in n)) k ≡ Some (tree_in old) =
      ap (λ xs. slice_get xs k) (sym (own_notes n h.noted).0) ∙ got_map (below_in n) k old small at in
      ap (climb_of (tree_in n)) is
      ∙ ap (λ o. leaving (tree_in n) k + unwrap_or (option_map (λ t. climb_of t rest) o) 0) mine

  -- ---- what the commands ask for

  pub place_add : (n : Annotated) (path : Path) (place : ℕ) (new made : Fragment) → IsNoteOf def (tree_in n) n
      → MayInsert def (tree_in n) path place new → IsInserted (tree_in n) path place new made
      → IsPlace def n path (edits.Add place new) made
  place_add n path place new made note may is =
      let (kind, formed) = note.formed in
      let same : is.list ≡ may.node = same_Some is.list may.node (sym is.is_there ∙ may.there) in
      let whole = changed_formed def (inserted place new) (tree_in n) kind path may.node formed may.there
      (λ K h.
      let one : K ≡ kinds.List may.number =
      kind_once def may.node K (kinds.List may.number) (formed_is_kind def may.node K h) may.of_kind in
      subst (WellFormed def (inserted place new may.node)) (sym one)
      (inserted_formed def place new may.node may.number may.list (subst (WellFormed def may.node) one h) may.found
      may.formed)) in
      record {
        noted = note.noted;
        formed_old = note.formed;
        formed = (kind, subst (λ x. WellFormed def x kind) (sym is.made_is) whole);
        node = may.node;
        there = may.there;
        takes = (subst IsList same is.is_list, may.within, (kinds.Phylum may.list.element, may.formed));
        changed = is.made_is;
      }

  pub place_take : (n : Annotated) (path : Path) (place : ℕ) (made : Fragment) → IsNoteOf def (tree_in n) n
      → MayRemove def (tree_in n) path place → IsRemoved (tree_in n) path place made
      → IsPlace def n path (edits.Take place) made
  place_take n path place made note may is =
      let (kind, formed) = note.formed in
      let whole = changed_formed def (removed place) (tree_in n) kind path may.node formed may.there
      (λ K h. removed_formed def place may.node K h) in
      record {
        noted = note.noted;
        formed_old = note.formed;
        formed = (kind, subst (λ x. WellFormed def x kind) (sym is.made_is) whole);
        node = may.node;
        there = may.there;
        takes = (may.list, may.within);
        changed = is.made_is;
      }

  -- at a place that is there a change has no other fault than want of memory

  pub memory_put : (path : Path) (f new : Fragment) → MayReplace def f path new → (r : Result Fragment TreeFault)
      → IfErr r (IsReplaceFault f path) → IfErr r (λ t. t ≡ trees.Memory)
  memory_put path f new may (Ok made) h = h
  memory_put path f new may (Err trees.NoNode) h = absurd (none-some may.node (sym h ∙ may.there))
  memory_put path f new may (Err trees.NotList) h = absurd h
  memory_put path f new may (Err trees.NoPlace) h = absurd h
  memory_put path f new may (Err trees.Memory) h = refl

  real_at : (path : Path) (f node : Fragment) → IsReal f → node_at f path ≡ Some node → IsReal node
  real_at [] f node is at = subst IsReal (same_Some f node at) is
  real_at (k ∷ path) f node is at =
      let (c, child, below) = step (slice_get (children_of f) k) path node at in
      real_at path c node (each_got IsReal (children_of f) k c (real_children f is) child) below

  spine_kind : (f : Fragment) (l : ℕ) → IsSpine f → IsOfKind def f (kinds.List l) → ⊥
  spine_kind (operator o) l is h = let (op, at, e) = h in cc
  spine_kind (with_child f t) l is h = spine_kind f l is h
  spine_kind (with_name f n) l is h = spine_kind f l is h
  spine_kind (with_number f n) l is h = spine_kind f l is h
  spine_kind (with_text f t) l is h = spine_kind f l is h
  spine_kind (hole p) l is h = absurd is
  spine_kind (ending m u) l is h = absurd is
  spine_kind (cell m e r) l is h = absurd is
  spine_kind anything l is h = absurd is
  spine_kind (observed f) l is h = absurd is

  list_of_kind : (f : Fragment) (l : ℕ) → IsReal f → IsOfKind def f (kinds.List l) → IsList f
  list_of_kind (ending m u) l is h = tt
  list_of_kind (cell m e r) l is h = tt
  list_of_kind (hole p) l is h = absurd (cc)
  list_of_kind (operator o) l is h = absurd (spine_kind (operator o) l tt h)
  list_of_kind (with_child f t) l is h = absurd (spine_kind f l is.2 h)
  list_of_kind (with_name f n) l is h = absurd (spine_kind f l is.1 h)
  list_of_kind (with_number f n) l is h = absurd (spine_kind f l is.1 h)
  list_of_kind (with_text f t) l is h = absurd (spine_kind f l is.1 h)
  list_of_kind anything l is h = absurd is
  list_of_kind (observed f) l is h = absurd is

  pub memory_add : (path : Path) (place : ℕ) (f new : Fragment) → IsFormed def f → MayInsert def f path place new
      → (r : Result Fragment TreeFault) → IfErr r (IsInsertFault f path place) → IfErr r (λ t. t ≡ trees.Memory)
  memory_add path place f new formed may (Ok made) h = h
  memory_add path place f new formed may (Err trees.NoNode) h = absurd (none-some may.node (sym h ∙ may.there))
  memory_add path place f new formed may (Err trees.NotList) h =
      let (node, there, never) = h in
      let same : may.node ≡ node = same_Some may.node node (sym may.there ∙ there) in
      absurd (never (list_of_kind node may.number (real_at path f node (real def f formed) there)
      (subst (λ x. IsOfKind def x (kinds.List may.number)) same may.of_kind)))
  memory_add path place f new formed may (Err trees.NoPlace) h =
      let (list, there, is, past) = h in
      let same : may.node ≡ list = same_Some may.node list (sym may.there ∙ there) in
      let many = ap (λ x. length (children_of x)) same in
      let small = may.within in
      absurd (omega (arith, past, many, small))
  memory_add path place f new formed may (Err trees.Memory) h = refl

  pub memory_take : (path : Path) (place : ℕ) (f : Fragment) → MayRemove def f path place
      → (r : Result Fragment TreeFault) → IfErr r (IsRemoveFault f path place) → IfErr r (λ t. t ≡ trees.Memory)
  memory_take path place f may (Ok made) h = h
  memory_take path place f may (Err trees.NoNode) h = absurd (none-some may.node (sym h ∙ may.there))
  memory_take path place f may (Err trees.NotList) h =
      let (node, there, never) = h in
      absurd (never (subst IsList (same_Some may.node node (sym may.there ∙ there)) may.list))
  memory_take path place f may (Err trees.NoPlace) h =
      let (list, there, is, past) = h in
      let same : may.node ≡ list = same_Some may.node list (sym may.there ∙ there) in
      let many = ap (λ x. length (children_of x)) same in
      let small = may.within in
      absurd (omega (arith, past, many, small))
  memory_take path place f may (Err trees.Memory) h = refl
