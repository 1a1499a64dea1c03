-- Marks by the open judgement are marks by legal completions.
use Rattle.std.proofs.Common.{◌≡◌, ◌↔◌, inl, inr, ℕ, ◌+◌, List, [], ◌∷◌, ◌++◌, length, refl}
use Rattle.psg_terms.proofs.Lists.{each_append, each_joined}
use Rattle.std.specs.List.{AllByRecursion}
use Rattle.psg_grammar.specs.declared.types.Kind.{Kind}
use Rattle.psg_grammar.specs.declared.types.Kind.TheVariants as kinds
use Rattle.psg_grammar.specs.declared.types.Item.{Item}
use Rattle.psg_grammar.specs.declared.types.Item.TheVariants as items
use Rattle.psg_grammar.specs.declared.types.Definition.{Definition}
use Rattle.psg_grammar.specs.Fragments.{Fragment, hole, ending, cell, operator, with_child, with_name, with_number, with_text, anything, observed, children_of}
use Rattle.psg_grammar.specs.Paths.{Path}
use Rattle.psg_grammar.specs.Marks.{Located, nodes_from, nodes_below, Chosen, nothing, taken, passed, good, wrong, IsCulpritBy}
use Rattle.psg_grammar.specs.Legal.{IsCompletable}
use Rattle.psg_grammar.specs.Open.{IsOpen}
use Rattle.psg_grammar.specs.WellFormed.{Fits, WellFormed, IsPlain}
use Rattle.psg_grammar.specs.Sound.{IsSound}
use Rattle.psg_completions.specs.Conditions.{HasTrueRows}
use Rattle.psg_completions.specs.Completions.{MarkedByCompletions}
use Rattle.psg_completions.proofs.Law.{open_or_completable}

-- the same members are chosen where the properties agree
chosen_change : {X : Type 0} (P Q : X → Type 0) (xs ys : List X) → AllByRecursion (λ x. P x ↔ Q x) xs → Chosen P xs ys
    → Chosen Q xs ys
chosen_change P Q [] [] a nothing = nothing
chosen_change P Q [] (y ∷ ys) a c = elim c [ ]
chosen_change P Q (x ∷ xs) (y ∷ ys) (i, a) (taken p c) = taken (i.0 p) (chosen_change P Q xs ys a c)
chosen_change P Q (x ∷ xs) ys (i, a) (passed n c) = passed (λ q. n (i.1 q)) (chosen_change P Q xs ys a c)

module _ (def : Definition) where
  abbrev IsFormed : Fragment → Type 0
  IsFormed t = (k : Kind) × WellFormed def t k

  abbrev HasFormed : Located → Type 0
  HasFormed l = IsFormed l.node

  -- the children of a well-formed tree are well formed
  children_formed : (f : Fragment) (more : List Item) (kind : Kind) → Fits def f more kind → IsPlain f
      → AllByRecursion IsFormed (children_of f)
  children_formed (hole p) more kind w pl = tt
  children_formed (ending l u) more kind w pl = tt
  children_formed (cell l e r) more kind (a, b, k, found, we, wr, free) (pe, pr) =
      ((kinds.Phylum k.element, (we, pe)), children_formed r [] (kinds.List l) wr pr)
  children_formed (operator o) more kind w pl = tt
  children_formed (with_child f t) more kind (k, wf, wt) (pf, pt) =
      each_append IsFormed (children_of f) (t ∷ []) (children_formed f (items.Slot k ∷ more) kind wf pf)
      ((k, (wt, pt)), tt)
  children_formed (with_name f x) more kind (inl (s, w), name) pl = children_formed f (items.Refers s ∷ more) kind w pl
  children_formed (with_name f x) more kind (inr (s, w), name) pl =
      children_formed f (items.Declares s ∷ more) kind w pl
  children_formed (with_number f x) more kind (w, small) pl = children_formed f (items.Number ∷ more) kind w pl
  children_formed (with_text f x) more kind (w, text) pl = children_formed f (items.Text ∷ more) kind w pl
  children_formed anything more kind w pl = absurd w
  children_formed (observed f) more kind w pl = absurd pl

  -- the nodes below a tree, and those of a whole tree
  record Nodes (f : Fragment) (more : List Item) : Type 0 where
    below : (path : Path) (n : ℕ) → AllByRecursion HasFormed (nodes_below path n f)
    from : (path : Path) → more ≡ [] → AllByRecursion HasFormed (nodes_from path f)

  whole : (f : Fragment) (more : List Item) (kind : Kind) → Fits def f more kind → IsPlain f → more ≡ [] → IsFormed f
  whole f [] kind w pl e = (kind, (w, pl))
  whole f (i ∷ more) kind w pl e = absurd (let d : i ∷ more ≡ [] = e in cc)

  nodes_formed : (f : Fragment) (more : List Item) (kind : Kind) → Fits def f more kind → IsPlain f → Nodes f more
  nodes_formed (hole p) more kind w pl =
      record { below = λ path n. tt; from = λ path e. (whole (hole p) more kind w pl e, tt) }
  nodes_formed (ending l u) more kind w pl =
      record { below = λ path n. tt; from = λ path e. (whole (ending l u) more kind w pl e, tt) }
  nodes_formed (cell l e r) more kind w pl =
      let (a, b, k, found, we, wr, free) = w in
      let of_e = nodes_formed e [] (kinds.Phylum k.element) we pl.0 in
      let of_r = nodes_formed r [] (kinds.List l) wr pl.1 in
      record {
        below =
            λ path n. each_append HasFormed (nodes_from (path ++ n ∷ []) e) (nodes_below path (n + 1) r)
            (of_e.from (path ++ n ∷ []) refl) (of_r.below path (n + 1));
        from =
            λ path h. (
              whole (cell l e r) more kind w pl h,
              each_append HasFormed (nodes_from (path ++ 0 ∷ []) e) (nodes_below path 1 r) (of_e.from (path ++ 0 ∷ []) refl)
                  (of_r.below path 1),
            );
      }
  nodes_formed (operator o) more kind w pl =
      record { below = λ path n. tt; from = λ path e. (whole (operator o) more kind w pl e, tt) }
  nodes_formed (with_child f t) more kind w pl =
      let (k, wf, wt) = w in
      let of_f = nodes_formed f (items.Slot k ∷ more) kind wf pl.0 in
      let of_t = nodes_formed t [] k wt pl.1 in
      record {
        below =
            λ path n. each_append HasFormed (nodes_below path n f) (nodes_from (path ++ length (children_of f) ∷ []) t)
            (of_f.below path n) (of_t.from (path ++ length (children_of f) ∷ []) refl);
        from = λ path h. (
          whole (with_child f t) more kind w pl h,
          each_append HasFormed (nodes_below path 0 f) (nodes_from (path ++ length (children_of f) ∷ []) t)
              (of_f.below path 0) (of_t.from (path ++ length (children_of f) ∷ []) refl),
        );
      }
  nodes_formed (with_name f x) more kind (inl (s, w), name) pl =
      let inner = nodes_formed f (items.Refers s ∷ more) kind w pl in
      record {
        below = λ path n. inner.below path n;
        from = λ path e. (whole (with_name f x) more kind (inl (s, w), name) pl e, inner.below path 0);
      }
  nodes_formed (with_name f x) more kind (inr (s, w), name) pl =
      let inner = nodes_formed f (items.Declares s ∷ more) kind w pl in
      record {
        below = λ path n. inner.below path n;
        from = λ path e. (whole (with_name f x) more kind (inr (s, w), name) pl e, inner.below path 0);
      }
  nodes_formed (with_number f x) more kind w pl =
      let inner = nodes_formed f (items.Number ∷ more) kind w.0 pl in
      record {
        below = λ path n. inner.below path n;
        from = λ path e. (whole (with_number f x) more kind w pl e, inner.below path 0);
      }
  nodes_formed (with_text f x) more kind w pl =
      let inner = nodes_formed f (items.Text ∷ more) kind w.0 pl in
      record {
        below = λ path n. inner.below path n;
        from = λ path e. (whole (with_text f x) more kind w pl e, inner.below path 0);
      }
  nodes_formed anything more kind w pl = absurd w
  nodes_formed (observed f) more kind w pl = absurd pl

  module _ (sound : IsSound def) (true_rows : HasTrueRows def) where
    agree : (t : Fragment) → IsFormed t → IsOpen def t ↔ IsCompletable def t
    agree t (k, w) = open_or_completable def sound true_rows t k w

    culprits_agree : (l : Located) → HasFormed l → IsCulpritBy (IsOpen def) l ↔ IsCulpritBy (IsCompletable def) l
    culprits_agree l (k, (w, pl)) =
        let children = children_formed l.node [] k w pl in (
          (λ (bad, all). (
            (λ c. bad ((agree l.node (k, (w, pl))).1 c)),
            each_joined IsFormed (IsOpen def) (IsCompletable def) (λ t h o. (agree t h).0 o) (children_of l.node)
                children all,
          )),
          (λ (bad, all). (
            (λ o. bad ((agree l.node (k, (w, pl))).0 o)),
            each_joined IsFormed (IsCompletable def) (IsOpen def) (λ t h c. (agree t h).1 c) (children_of l.node)
                children all,
          )),
        )

    all_agree : (nodes : List Located) → AllByRecursion HasFormed nodes
        → AllByRecursion (λ l. IsCulpritBy (IsOpen def) l ↔ IsCulpritBy (IsCompletable def) l) nodes
    all_agree [] h = tt
    all_agree (l ∷ nodes) (p, h) = (culprits_agree l p, all_agree nodes h)

    all_agree_back : (nodes : List Located) → AllByRecursion HasFormed nodes
        → AllByRecursion (λ l. IsCulpritBy (IsCompletable def) l ↔ IsCulpritBy (IsOpen def) l) nodes
    all_agree_back [] h = tt
    all_agree_back (l ∷ nodes) (p, h) = (let (a, b) = culprits_agree l p in (b, a), all_agree_back nodes h)

    pub marked_by_completions : MarkedByCompletions def
    marked_by_completions f kind w good = agree f (kind, w)
    marked_by_completions f kind w (wrong culprits) =
        let formed = (nodes_formed f [] kind w.0 w.1).from [] refl in
        let (there, back) = agree f (kind, w) in (
          (λ (bad, (found, chosen, paths)). (
            (λ c. bad (back c)),
            (
              found,
              chosen_change (IsCulpritBy (IsOpen def)) (IsCulpritBy (IsCompletable def)) (nodes_from [] f)
                  found (all_agree (nodes_from [] f) formed) chosen,
              paths,
            ),
          )),
          (λ (bad, (found, chosen, paths)). (
            (λ o. bad (there o)),
            (
              found,
              chosen_change (IsCulpritBy (IsCompletable def)) (IsCulpritBy (IsOpen def)) (nodes_from [] f) found
                  (all_agree_back (nodes_from [] f) formed) chosen,
              paths,
            ),
          )),
        )
