-- The culprits of a note are those of its tree.
use Rattle.std.proofs.Common.{◌≡◌, ℕ, suc, ◌+◌, ◌<◌, ◌≤◌, Bool, true, false, List, [], ◌∷◌, ◌++◌, length, take, get_or, refl, sym, ◌∙◌, ap, ap₂, subst, append_assoc, append-nil, true≢false, arith}
use Rattle.std.specs.List.{AllByRecursion}
use Rattle.std.proofs.lemmas.List.{length-append, length-take-le, take_all}
use Rattle.psg_terms.proofs.Lists.{take_item}
use Rattle.psg_terms.specs.Terms.{Term}
use Rattle.psg_grammar.specs.Marks.{nodes_from, AreCulprits, IsMark}
use Rattle.psg_grammar.specs.Paths.{Path}
use Rattle.psg_eval.specs.declared.summary.SummaryParts.{SummaryParts}
use Rattle.psg_cache.specs.Annotated.{Annotated, topped, above, whole_in, below_in, nested}
use Rattle.psg_cache.specs.Blames.{blamed_at, blamed_below, culprits_in, or_itself}
use Rattle.psg_cache.specs.Edits.{AreCulpritsIn}
use Rattle.psg_cache.specs.Notes.{IsFormed, mark_by}
use Rattle.psg_cache.proofs.CulpritLaws.{no_culprits, open_from}
use Rattle.psg_cache.proofs.Each.{each_at, each_push, not_nil}
use Rattle.psg_cache.proofs.NoteCulprits.{blamed-rows, blamed_each, noted_blames, rows-blamed}
use Rattle.psg_cache.proofs.NoteOpen.{noted_open}
use Rattle.psg_cache.proofs.RealTrees.{real}

-- ---- by the children in order

each-push : (path : Path) (k : ℕ) (cs : List Annotated) (c : Annotated) (at : Path) → at ≡ path ++ (k + length cs) ∷ []
    → blamed_each path k (cs ++ c ∷ []) ≡ blamed_each path k cs ++ blamed_at (whole_in c) at (blamed_below at c)
each-push path k [] c at e =
    let n : k + 0 ≡ k = omega arith in
    append-nil (blamed_at (whole_in c) (path ++ k ∷ []) (blamed_below (path ++ k ∷ []) c))
    ∙ ap (λ q. blamed_at (whole_in c) q (blamed_below q c)) (sym (e ∙ ap (λ j. path ++ j ∷ []) n))
each-push path k (d ∷ cs) c at e =
    let n : k + suc (length cs) ≡ (k + 1) + length cs = omega arith in
    let here : List Path = blamed_at (whole_in d) (path ++ k ∷ []) (blamed_below (path ++ k ∷ []) d) in
    ap (λ l. here ++ l) (each-push path (k + 1) cs c at (e ∙ ap (λ j. path ++ j ∷ []) n))
    ∙ sym (append_assoc here (blamed_each path (k + 1) cs) (blamed_at (whole_in c) at (blamed_below at c)))

blamed-is : (path : Path) (n : Annotated) → blamed_below path n ≡ blamed_each path 0 (below_in n)
blamed-is path (topped tree whole rests weight) = refl
blamed-is path (above n c) =
    let at : Path = path ++ length (below_in n) ∷ [] in
    let k : length (below_in n) ≡ 0 + length (below_in n) = omega arith in
    ap (λ l. l ++ blamed_at (whole_in c) at (blamed_below at c)) (blamed-is path n)
    ∙ sym (each-push path 0 (below_in n) c at (ap (λ j. path ++ j ∷ []) k))

pub blamed_none : (path : Path) (start : List Path) → start ≡ start ++ blamed_each path 0 []
blamed_none path start = sym (append-nil start)

pub blamed_more : (path place : Path) (below : List Annotated) (i step : ℕ) (c : Annotated)
    (start before after : List Path) → i < length below → c ≡ get_or below i c → step ≡ i
    → place ≡ path ++ step ∷ [] → before ≡ start ++ blamed_each path 0 (take i below)
    → after ≡ before ++ blamed_at (whole_in c) place (blamed_below place c)
    → after ≡ start ++ blamed_each path 0 (take (i + 1) below)
blamed_more path place below i step c start before after small at same there h k =
    let n : i ≡ 0 + length (take i below) = (let m = length-take-le i below (omega (arith, small)) in omega (arith, m)) in
    let here : List Path = blamed_at (whole_in c) place (blamed_below place c) in
    k ∙ ap (λ l. l ++ here) h ∙ append_assoc start (blamed_each path 0 (take i below)) here
    ∙ ap (λ l. start ++ l)
    (sym (ap (blamed_each path 0) (take_item below i c small at)
    ∙ each-push path 0 (take i below) c place (there ∙ ap (λ j. path ++ j ∷ []) (same ∙ n))))

pub blamed_all : (path : Path) (n : Annotated) (below : List Annotated) (i : ℕ) (start found : List Path)
    → below ≡ below_in n → length below ≤ i → found ≡ start ++ blamed_each path 0 (take i below)
    → found ≡ start ++ blamed_below path n
blamed_all path n below i start found are past h =
    h ∙ ap (λ l. start ++ l) (ap (blamed_each path 0) (take_all i below past ∙ are) ∙ sym (blamed-is path n))

-- ---- the children are nested less

nested_below : (n : Annotated) → AllByRecursion (λ c. nested c + 1 ≤ nested n) (below_in n)
nested_below (topped tree whole rests weight) = tt
nested_below (above n c) =
    each_push (λ d. nested d + 1 ≤ nested (above n c)) (below_in n) c (weaker (below_in n) (nested_below n))
    (omega arith) where
      weaker : (cs : List Annotated) → AllByRecursion (λ d. nested d + 1 ≤ nested n) cs
          → AllByRecursion (λ d. nested d + 1 ≤ nested (above n c)) cs
      weaker [] h = tt
      weaker (d ∷ ds) h = ((let k = h.0 in omega (arith, k)), weaker ds h.1)

pub nested_child : (n : Annotated) (below : List Annotated) (i : ℕ) (c : Annotated) → below ≡ below_in n
    → i < length below → c ≡ get_or below i c → nested c + 1 ≤ nested n
nested_child n below i c are small at =
    each_at (λ d. nested d + 1 ≤ nested n) below i c
    (subst (AllByRecursion (λ d. nested d + 1 ≤ nested n)) (sym are) (nested_below n)) small at

-- ---- the mark of the tree

pub marked : (n : Annotated) (paths : List Path) → paths ≡ culprits_in n → AreCulpritsIn n paths
marked n paths is def f note =
    subst (λ ps. IsMark def f (mark_by ps)) (sym is) (go (culprits_in n) refl) where
      culprits : AreCulprits def (nodes_from [] f) (culprits_in n)
      culprits =
          subst (λ x. AreCulprits def (nodes_from [] x) (culprits_in n)) note.tree
          (noted_blames def n note.noted (subst (IsFormed def) (sym note.tree) note.formed) [])

      go : (ps : List Path) → culprits_in n ≡ ps → IsMark def f (mark_by ps)
      go [] e = (noted_open def f n note).1 (rows-blamed (whole_in n) [] (blamed_below [] n) e)
      go (p ∷ ps) e =
          let own : AreCulprits def (nodes_from [] f) (p ∷ ps) = subst (AreCulprits def (nodes_from [] f)) e culprits in
          (λ o. not_nil p ps (no_culprits def (nodes_from [] f) (p ∷ ps) (open_from def [] f (real def f note.formed) o) own), own)

-- ---- whether the tree itself is one

pub none_at : (s : SummaryParts) (path : Path) (below : List Path) → (s.rel ≡ [] → ⊥) → blamed_at s path below ≡ []
none_at s path below h = blamed-rows s path below h

no_rows : (s : SummaryParts) (good : Bool) → ((s.rel ≡ [] → ⊥) → good ≡ true) → good ≡ false → s.rel ≡ []
no_rows s good h e = go s.rel refl where
  go : (rows : List (List Term)) → s.rel ≡ rows → rows ≡ []
  go [] same = refl
  go (row ∷ rows) same = absurd (true≢false (sym (h (λ none. not_nil row rows (sym same ∙ none))) ∙ e))

blamed_empty : (s : SummaryParts) (path : Path) (below : List Path) → s.rel ≡ [] → blamed_at s path below ≡ or_itself path below
blamed_empty s path below e =
    ap (λ r. blamed_at (record { kind = s.kind; header = s.header; seen = s.seen; rel = r }) path below) e

none_more : {X : Type 0} (start more found : List X) → found ≡ start ++ more → length found ≡ length start → more ≡ []
none_more start [] found e n = refl
none_more start (x ∷ xs) found e n =
    let many : length (start ++ x ∷ xs) ≡ length start + length (x ∷ xs) = length-append start (x ∷ xs) in
    absurd (let all = ap length e in omega (arith, many, all, n))

some_more : {X : Type 0} (start more found : List X) → found ≡ start ++ more → (length found ≡ length start → ⊥)
    → more ≡ [] → ⊥
some_more start more found e n none = n (ap length (e ∙ ap (λ l. start ++ l) none ∙ append-nil start))

itself_or : (path : Path) (ps : List Path) → (ps ≡ [] → ⊥) → or_itself path ps ≡ ps
itself_or path [] h = absurd (h refl)
itself_or path (p ∷ ps) h = refl

pub blames_itself : (n : Annotated) (path : Path) (start found after : List Path) (itself : Path) (good : Bool)
    → (((whole_in n).rel ≡ [] → ⊥) → good ≡ true) → good ≡ false → found ≡ start ++ blamed_below path n
    → length found ≡ length start → after ≡ found ++ itself ∷ [] → itself ≡ path
    → after ≡ start ++ blamed_at (whole_in n) path (blamed_below path n)
blames_itself n path start found after itself good h e is same more it =
    let none = none_more start (blamed_below path n) found is same in
    let empty = no_rows (whole_in n) good h e in
    let blamed : blamed_at (whole_in n) path (blamed_below path n) ≡ path ∷ [] =
    blamed_empty (whole_in n) path (blamed_below path n) empty ∙ ap (or_itself path) none in
    more ∙ ap₂ (λ a b. a ++ b ∷ []) (is ∙ ap (λ l. start ++ l) none ∙ append-nil start) it
    ∙ ap (λ l. start ++ l) (sym blamed)

pub blames_below : (n : Annotated) (path : Path) (start found : List Path) (good : Bool)
    → (((whole_in n).rel ≡ [] → ⊥) → good ≡ true) → good ≡ false → found ≡ start ++ blamed_below path n
    → (length found ≡ length start → ⊥) → found ≡ start ++ blamed_at (whole_in n) path (blamed_below path n)
blames_below n path start found good h e is other =
    let empty = no_rows (whole_in n) good h e in
    is ∙ ap (λ l. start ++ l)
    (sym (blamed_empty (whole_in n) path (blamed_below path n) empty
    ∙ itself_or path (blamed_below path n) (some_more start (blamed_below path n) found is other)))
