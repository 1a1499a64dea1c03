-- A tree takes no more evaluations than another one and the change from that one to it together.
use Rattle.std.proofs.Common.{◌≡◌, ◌⊎◌, inl, inr, ℕ, zero, suc, ◌+◌, ◌-◌, ◌≤◌, Bool, true, false, cond, List, [], ◌∷◌, ◌++◌, length, take, drop, refl, sym, ◌∙◌, ap, ap₂, subst, arith}
use Rattle.std.specs.List.{AllByRecursion}
use Rattle.std.proofs.lemmas.Bool.{false≢true, or_cases, cases_Bool}
use Rattle.std.proofs.lemmas.List.{length-take-le, take-append-drop}
use Rattle.std.proofs.lemmas.List.Sums.{sum_by-append, sum_by-cons}
use Rattle.psg_grammar.specs.declared.types.Definition.{Definition}
use Rattle.psg_grammar.specs.Fragments.{Fragment, children_of, top_operator}
use Rattle.psg_grammar.specs.Same.{same_tree}
use Rattle.psg_grammar.specs.Work.{work_of}
use Rattle.psg_grammar.proofs.SameLaws.{same-refl}
use Rattle.psg_tree.specs.Shapes.{height}
use Rattle.psg_cache.specs.Alike.{diff_top, is_paired}
use Rattle.psg_cache.specs.Diff.{agree, diff_cells, diff_of, last_differing, list_number, same_some}
use Rattle.psg_cache.specs.Notes.{IsFormed}
use Rattle.psg_cache.specs.Walks.{top_evaluations}
use Rattle.psg_cache.proofs.ChildLaws.{lower}
use Rattle.psg_cache.proofs.Counting.{together, work_split}
use Rattle.psg_cache.proofs.Each.{each_back}
use Rattle.psg_cache.proofs.PairLaws.{agree_long, lists_paired, other_whole, pairs, pairs_front, same_both, same_equal, whole_most}
use Rattle.psg_cache.proofs.RealTrees.{IsReal, real}
use Rattle.psg_cache.proofs.RenoteLaws.{list_evaluations, once_most, top_cost}
use Rattle.psg_cache.proofs.WalkLaws.{formed_children}

-- at the top
top_most : (f g : Fragment) → IsReal f → IsReal g → is_paired f g ≡ true → (f ≡ g → ⊥)
    → top_evaluations g ≤ top_evaluations f + diff_top f g
top_most f g rf rg paired never =
    let cost = top_cost f g never in
    let tops : Bool = same_some (top_operator f) (top_operator g) in
    let lists : Bool = same_some (list_number f) (list_number g) in
    elim (or_cases tops lists paired) [
      | inl e ↦
          let (o, one, two) = same_both (top_operator f) (top_operator g) e in
          let once = once_most f g rg o two in
          let put : cond tops 1 (diff_cells f g) ≡ 1 = ap (λ b. cond b 1 (diff_cells f g)) e in
          omega (arith, cost, once, put)
      | inr e ↦
          let kinds = lists_paired f g e in
          let its = list_evaluations g rg kinds.1 in
          let mine = list_evaluations f rf kinds.0 in
          let put : cond tops 1 (diff_cells f g) ≡ diff_cells f g = ap (λ b. cond b 1 (diff_cells f g)) kinds.2 in
          elim (cases_Bool (agree f g)) [
            | inl agrees ↦ let long = agree_long f g agrees in omega (arith, its, mine, long)
            | inr fails ↦
                let cells : diff_cells f g ≡ length (children_of g) + 1 =
                ap (λ b. cond b (last_differing f g) (length (children_of g) + 1)) fails in
                omega (arith, cost, its, put, cells)
          ]
    ]

module _ (def : Definition) where
  -- what is said of trees that are nested no more than n
  abbrev IsMostTo : ℕ → Type 0
  IsMostTo n =
      (c d : Fragment) → IsFormed def c → IsFormed def d → height d + 1 ≤ n → work_of d ≤ work_of c + diff_of c d

  pairs_most : (n : ℕ) → IsMostTo n → (cs ds : List Fragment) → AllByRecursion (IsFormed def) cs
      → AllByRecursion (IsFormed def) ds → AllByRecursion (λ d. height d + 1 ≤ n) ds
      → together ds ≤ together cs + pairs cs ds
  pairs_most n most [] ds hc hd low = omega arith
  pairs_most n most (c ∷ cs) [] hc hd low = omega arith
  pairs_most n most (c ∷ cs) (d ∷ ds) hc hd low =
      let one = most c d hc.0 hd.0 low.0 in
      let rest = pairs_most n most cs ds hc.1 hd.1 low.1 in
      omega (arith, one, rest, sum_by-cons work_of c cs, sum_by-cons work_of d ds)

  tree_most : (n : ℕ) → IsMostTo n → (f g : Fragment) → height g ≤ n → IsFormed def f → IsFormed def g
      → work_of g ≤ work_of f + diff_of f g
  tree_most n most f g low ff fg =
      elim (cases_Bool (same_tree f g)) [
        | inl e ↦ let same = ap work_of (same_equal f g e) in omega (arith, same)
        | inr e ↦
            let never : f ≡ g → ⊥ = λ q. false≢true (sym e ∙ ap (same_tree f) (sym q) ∙ same-refl f) in
            elim (cases_Bool (is_paired f g)) [
              | inl paired ↦
                  let whole = whole_most def f g ff fg paired in
                  let parts = pairs_most n most (children_of f) (children_of g) (formed_children def f ff)
                  (formed_children def g fg) (lower g n low) in
                  let top = top_most f g (real def f ff) (real def g fg) paired never in
                  omega (arith, whole, parts, top, work_split f, work_split g)
              | inr apart ↦ let whole = other_whole f g apart never in omega (arith, whole)
            ]
      ]

  most_to : (n : ℕ) → IsMostTo n
  most_to zero c d hc hd low = absurd (omega (arith, low))
  most_to (suc n) c d hc hd low = tree_most n (most_to n) c d (omega (arith, low)) hc hd

  together_most : (cs ds : List Fragment) → AllByRecursion (IsFormed def) cs → AllByRecursion (IsFormed def) ds
      → together ds ≤ together cs + pairs cs ds
  together_most [] ds hc hd = omega arith
  together_most (c ∷ cs) [] hc hd = omega arith
  together_most (c ∷ cs) (d ∷ ds) hc hd =
      let one = most_to (height d + 1) c d hc.0 hd.0 (omega arith) in
      let rest = together_most cs ds hc.1 hd.1 in
      omega (arith, one, rest, sum_by-cons work_of c cs, sum_by-cons work_of d ds)

  -- ---- lists with a common back

  pairs_joined : (cs ds bs es : List Fragment) → length cs ≡ length ds
      → pairs (cs ++ bs) (ds ++ es) ≡ pairs cs ds + pairs bs es
  pairs_joined [] [] bs es e = omega arith
  pairs_joined [] (d ∷ ds) bs es e = absurd (omega (arith, e))
  pairs_joined (c ∷ cs) [] bs es e = absurd (omega (arith, e))
  pairs_joined (c ∷ cs) (d ∷ ds) bs es e = let h = pairs_joined cs ds bs es (omega (arith, e)) in omega (arith, h)

  -- The first ones in pairs, and then the new ones without a partner before the common back, take no more than all pairs
  -- at the same places and all new ones without a partner.
  pub pairs_spread : (cs ds : List Fragment) (shorter back : ℕ) → AllByRecursion (IsFormed def) cs
      → AllByRecursion (IsFormed def) ds → shorter ≤ length cs → shorter ≤ length ds
      → (shorter ≡ length cs) ⊎ (shorter ≡ length ds) → back ≤ shorter
      → drop (length cs - back) cs ≡ drop (length ds - back) ds
      → pairs (take (shorter - back) cs) (take (shorter - back) ds) + together (take (length ds - back) ds)
      ≤ pairs cs ds + together (take (shorter - back) ds)
  pairs_spread cs ds shorter back hc hd small within (inr e) few same =
      let many : shorter - back ≡ length ds - back = ap (λ n. n - back) e in
      let front = pairs_front cs ds (shorter - back) (omega (arith, small)) in
      let ends = ap (λ k. together (take k ds)) many in
      omega (arith, front, ends)
  pairs_spread cs ds shorter back hc hd small within (inl e) few same =
      let many : shorter - back ≡ length cs - back = ap (λ n. n - back) e in
      let k : ℕ = shorter - back in
      let upto : ℕ = length ds - back in
      let left : take k cs ++ drop k cs ≡ cs = take-append-drop k cs in
      let right : take k ds ++ drop k ds ≡ ds = take-append-drop k ds in
      let ends : take upto ds ++ drop upto ds ≡ ds = take-append-drop upto ds in
      let tail : drop k cs ≡ drop upto ds = ap (λ n. drop n cs) many ∙ same in
      let one : length (take k cs) ≡ k = length-take-le k cs (omega (arith, small)) in
      let two : length (take k ds) ≡ k = length-take-le k ds (omega (arith, within)) in
      let split : pairs cs ds ≡ pairs (take k cs) (take k ds) + pairs (drop k cs) (drop k ds) =
      ap₂ (λ x y. pairs x y) (sym left) (sym right)
      ∙ pairs_joined (take k cs) (take k ds) (drop k cs) (drop k ds) (one ∙ sym two) in
      let formed_left = each_back (IsFormed def) (take k cs) (drop k cs) (subst (AllByRecursion (IsFormed def)) (sym left) hc) in
      let formed_right = each_back (IsFormed def) (take k ds) (drop k ds) (subst (AllByRecursion (IsFormed def)) (sym right) hd) in
      let most = together_most (drop k cs) (drop k ds) formed_left formed_right in
      let all : together ds ≡ together (take k ds) + together (drop k ds) =
      ap together (sym right) ∙ sum_by-append work_of (take k ds) (drop k ds) in
      let also : together ds ≡ together (take upto ds) + together (drop upto ds) =
      ap together (sym ends) ∙ sum_by-append work_of (take upto ds) (drop upto ds) in
      let back_same : together (drop k cs) ≡ together (drop upto ds) = ap together tail in
      omega (arith, split, most, all, also, back_same)
