-- What is said of an opened fragment.
use Rattle.std.proofs.Common.{◌≡◌, ℕ, ◌≤◌, ◌+◌, ◌*◌, List, [], ◌∷◌, ◌++◌, map, Option, Some, None, Result, Ok, Err, refl, sym, ◌∙◌, ap, subst, arith, append_assoc, append-nil, ◌↔◌}
use Rattle.std.specs.Prelude.{IfOk, String, codes, string_bytes}
use Rattle.std.specs.declared.alloc.Global.{Global}
use Rattle.std.proofs.lemmas.Option.{same_Some}
use Rattle.psg_grammar.specs.declared.types.Definition.{Definition}
use Rattle.psg_grammar.specs.Fragments.{Fragment}
use Rattle.psg_grammar.specs.declared.types.Kind.{Kind}
use Rattle.psg_grammar.specs.Legal.{IsCompletable}
use Rattle.psg_grammar.specs.Open.{IsOpen}
use Rattle.psg_grammar.specs.Paths.{Path, node_at}
use Rattle.psg_grammar.specs.Sound.{IsSound}
use Rattle.psg_grammar.specs.Steps.{Place}
use Rattle.psg_grammar.specs.WellFormed.{WellFormed}
use Rattle.psg_grammar.specs.Work.{work_of}
use Rattle.psg_cache.specs.Annotated.{Annotated, tree_in}
use Rattle.psg_cache.specs.Notes.{IsFormed, IsNoteOf}
use Rattle.psg_cache.proofs.FormedTrees.{node_formed}
use Rattle.psg_explain.specs.declared.explaining.Explained.{Explained}
use Rattle.psg_explain.specs.declared.explaining.Explained.TheVariants as explained
use Rattle.psg_explain.specs.declared.refutation.CaseReason.{CaseReason}
use Rattle.psg_explain.specs.declared.refutation.Claim.{Claim}
use Rattle.psg_explain.specs.declared.refutation.Refutation.{Refutation}
use Rattle.psg_explain.specs.declared.refutation.Refutation.TheVariants as refutations
use Rattle.psg_explain.specs.Explanations.{IsAbout, IsExplained, IsFirstCulprit}
use Rattle.psg_explain.specs.LastReasons.{AreLastReasons}
use Rattle.psg_explain.specs.Orders.{AreFirstSteps, place_of, told_at, told_of}
use Rattle.psg_explain.specs.Refutations.{ClaimTo, Refutes}
use Rattle.psg_explain.specs.Walks.{At}
use Rattle.psg_session.specs.PlainState.{Opened}
use Rattle.psg_session.specs.Replies.{feed, feed_all}
use Rattle.psg_run.specs.Explaining.{AreCulpritLines, AreLines, AreRefutationLines, AreSaid, IsSaid, most_said, of_nothing, of_opened, twice_line}

-- the text of a call that succeeds is that of such lines
abbrev pub HasLines : {E : Type 0} → Result (String Global) E → (List (List ℕ) → Type 0) → Type 0
HasLines r P = IfOk r (λ t. (lines : List (List ℕ)) × P lines × (string_bytes t ≡ feed_all lines))

lines_to : {E : Type 0} (r : Result (String Global) E) (P Q : List (List ℕ) → Type 0) → ((lines : List (List ℕ)) → P lines → Q lines) → HasLines r P → HasLines r Q
lines_to (Ok t) P Q f (lines, p, text) = (lines, f lines p, text)
lines_to (Err e) P Q f h = tt

as_lines : {E : Type 0} (r : Result (String Global) E) (text : List ℕ) (lines : List (List ℕ)) (Q : List (List ℕ) → Type 0) → text ≡ feed_all lines → Q lines
    → IfOk r (λ t. string_bytes t ≡ text) → HasLines r Q
as_lines (Ok t) text lines Q same q is = (lines, q, is ∙ same)
as_lines (Err e) text lines Q same q is = tt

-- ---- a refutation

-- what is open has a completion
abbrev pub Completes : Definition → Type 0
Completes def = (f : Fragment) (kind : Kind) → WellFormed def f kind → IsOpen def f ↔ IsCompletable def f

-- three parts of a text are its lines
pub culprit_lines : (first : List ℕ) (told : List (List ℕ)) (none front cases whole : List ℕ) → none ≡ [] → front ≡ none ++ feed first → cases ≡ front ++ feed_all told
    → whole ≡ cases ++ codes "checked\n" → whole ≡ feed_all (first ∷ told ++ codes "checked" ∷ [])
culprit_lines first told none front cases whole a b c d =
    let e : feed_all (told ++ codes "checked" ∷ []) ≡ feed_all told ++ codes "checked\n" = feed_all-last told (codes "checked") in
    d ∙ ap (λ x. x ++ codes "checked\n") (c ∙ ap (λ x. x ++ feed_all told) (b ∙ ap (λ x. x ++ feed first) a)) ∙ append_assoc (feed first) (feed_all told) (codes "checked\n")
    ∙ ap (λ x. feed first ++ x) (sym e) where
      feed_all-last : (lines : List (List ℕ)) (line : List ℕ) → feed_all (lines ++ line ∷ []) ≡ feed_all lines ++ feed line
      feed_all-last [] line = append-nil (feed line)
      feed_all-last (l ∷ lines) line = ap (λ x. feed l ++ x) (feed_all-last lines line) ∙ sym (append_assoc (feed l) (feed_all lines) (feed line))

module _ (def : Definition) (tree : Fragment) where
  -- a refutation of a tree names a node of it
  pub culprit_there : (r : Refutation) (path : Path) (claims : List Claim) → r ≡ refutations.Empty path claims → Refutes def tree r
      → (node : Fragment) × (node_at tree path ≡ Some node)
  culprit_there r path claims is right =
      let (node, at, last, claim) = subst (Refutes def tree) is right in (node, at)

  none_first : {X Y : Type 0} (g : X → Y) (front : List X) (x : X) → [] ≡ map g (front ++ x ∷ []) → ⊥
  none_first g [] x e = cc
  none_first g (y ∷ front) x e = cc

  -- and its claims are those of steps, of which the last one has no rows
  pub some_claims : ((def : Definition) (path : Path) (f : Fragment) (claims : List Claim) (last : At) → IsFormed def f → ClaimTo def path f claims last → AreFirstSteps def path f claims last)
      → IsFormed def tree → (r : Refutation) (path : Path) (claims : List Claim) → r ≡ refutations.Empty path claims → Refutes def tree r → claims ≡ [] → ⊥
  some_claims law (kind, formed) r path claims is right none =
      let (node, at, last, claim) = subst (Refutes def tree) is right in
      let steps = law def path node claims last (node_formed def tree kind path node formed at) claim in
      none_first told_of steps.front (place_of last) (sym (ap (map told_at) none) ∙ steps.told)

  last_same : (cs : List Claim) (c : Claim) (ps : List Place) (p : Place) → map told_at (cs ++ c ∷ []) ≡ map told_of (ps ++ p ∷ []) → told_at c ≡ told_of p
  last_same [] c [] p e = cc
  last_same [] c (q ∷ ps) p e = let h : [] ≡ map told_of (ps ++ p ∷ []) = cc in absurd (none_first told_of ps p h)
  last_same (d ∷ cs) c [] p e = let h : [] ≡ map told_at (cs ++ c ∷ []) = cc in absurd (none_first told_at cs c h)
  last_same (d ∷ cs) c (q ∷ ps) p e = let h : map told_at (cs ++ c ∷ []) ≡ map told_of (ps ++ p ∷ []) = cc in last_same cs c ps p h

  -- the last claim on the first culprit is of a step of the culprit itself
  pub own_claims : ((def : Definition) (path : Path) (f : Fragment) (claims : List Claim) (last : At) → IsFormed def f → ClaimTo def path f claims last → AreFirstSteps def path f claims last)
      → ((def : Definition) (f : Fragment) (path : Path) (node : Fragment) (claims : List Claim) (last : At) → IsSound def → Completes def → IsFormed def f → IsFirstCulprit def f path node → ClaimTo def path node claims last → last.path ≡ path)
      → IsSound def → Completes def → IsFormed def tree → (r : Refutation) (path : Path) (claims : List Claim) → r ≡ refutations.Empty path claims → Refutes def tree r
      → (p : Path) (n : Fragment) → IsFirstCulprit def tree p n → IsAbout def p n r → (front : List Claim) (last : Claim) → claims ≡ front ++ last ∷ [] → last.path ≡ path
  own_claims order ends sound completes (kind, formed) r path claims is right p n culprit about front last split =
      let (node, at, end, claim) = subst (Refutes def tree) is right in
      let (same, distinct, walked) = subst (IsAbout def p n) is about in
      let here : IsFirstCulprit def tree path n = subst (λ (q : Path). IsFirstCulprit def tree q n) (sym same) culprit in
      let node_is : n ≡ node = same_Some n node (sym here.there ∙ at) in
      let there : IsFirstCulprit def tree path node = subst (λ (x : Fragment). IsFirstCulprit def tree path x) node_is here in
      let steps = order def path node claims end (node_formed def tree kind path node formed at) claim in
      let told : told_at last ≡ told_of (place_of end) = last_same front last steps.front (place_of end) (sym (ap (map told_at) split) ∙ steps.told) in
      let own : end.path ≡ path = ends def tree path node claims end sound completes (kind, formed) there claim in
      ap (λ (t : Path × ℕ). t.0) told ∙ own

  pub twice_said : (r : Refutation) (path : Path) (space : ℕ) (name : List ℕ) → r ≡ refutations.Twice path space name → (d : Definition) → d ≡ def
      → {E : Type 0} (res : Result (String Global) E) → IfOk res (λ t. string_bytes t ≡ feed_all (twice_line d path space name ∷ codes "checked" ∷ []))
      → HasLines res (AreRefutationLines def tree r)
  twice_said r path space name is d same res text =
      as_lines res _ (twice_line def path space name ∷ codes "checked" ∷ []) (AreRefutationLines def tree r)
      (ap (λ (x : Definition). feed_all (twice_line x path space name ∷ codes "checked" ∷ [])) same)
      (subst (λ (x : Refutation). AreRefutationLines def tree x (twice_line def path space name ∷ codes "checked" ∷ [])) (sym is) refl) text

  pub culprit_said : (r : Refutation) (path : Path) (claims : List Claim) (told : List CaseReason) → r ≡ refutations.Empty path claims → AreLastReasons def tree r told
      → (d : Definition) → d ≡ def → {E : Type 0} (res : Result (String Global) E) → HasLines res (AreCulpritLines d tree path claims told)
      → HasLines res (AreRefutationLines def tree r)
  culprit_said r path claims told is reasons d same res text =
      lines_to res (AreCulpritLines d tree path claims told) (AreRefutationLines def tree r)
      (λ lines are. subst (λ (x : Refutation). AreRefutationLines def tree x lines) (sym is)
      (told, subst (λ (x : Refutation). AreLastReasons def tree x told) is reasons, subst (λ (x : Definition). AreCulpritLines x tree path claims told lines) same are)) text

  -- ---- what was found of a tree

  module _ (e : Explained) (right : IsExplained def tree e) where
    pub fine_said : e ≡ explained.Fine → {E : Type 0} (r : Result (String Global) E) → IfOk r (λ t. string_bytes t ≡ codes "ok\n") → HasLines r (AreSaid def tree)
    fine_said is r text = as_lines r (codes "ok\n") (codes "ok" ∷ []) (AreSaid def tree) refl (record { what = explained.Fine; right = subst (IsExplained def tree) is right; are = refl }) text

    pub long_said : e ≡ explained.Long → {E : Type 0} (r : Result (String Global) E) → IfOk r (λ t. string_bytes t ≡ codes "long\n") → HasLines r (AreSaid def tree)
    long_said is r text = as_lines r (codes "long\n") (codes "long" ∷ []) (AreSaid def tree) refl (record { what = explained.Long; right = subst (IsExplained def tree) is right; are = refl }) text

    pub right_refutation : (r : Refutation) → e ≡ explained.Wrong r → Refutes def tree r
    right_refutation r is =
        let (path, node, culprit, pairs, has, few, refutes, about) = subst (IsExplained def tree) is right in refutes

    pub about_culprit : (r : Refutation) → e ≡ explained.Wrong r → (path : Path) × (node : Fragment) × IsFirstCulprit def tree path node × IsAbout def path node r
    about_culprit r is =
        let (path, node, culprit, pairs, has, few, refutes, about) = subst (IsExplained def tree) is right in (path, node, culprit, about)

    pub wrong_said : (r : Refutation) (f : Fragment) → e ≡ explained.Wrong r → f ≡ tree → {E : Type 0} (res : Result (String Global) E)
        → HasLines res (AreRefutationLines def f r) → HasLines res (AreSaid def tree)
    wrong_said r f is same res text =
        lines_to res (AreRefutationLines def f r) (AreSaid def tree)
        (λ lines are. record {
          what = explained.Wrong r;
          right = subst (IsExplained def tree) is right;
          are = subst (λ (x : Fragment). AreRefutationLines def x r lines) same are;
        }) text

-- ---- what is opened

pub note_alike : (def : Definition) (f : Fragment) (n : Annotated) → IsNoteOf def f n → IsNoteOf def (tree_in n) n
note_alike def f n noted = subst (λ (x : Fragment). IsNoteOf def x n) (sym noted.tree) noted

module _ (o : Option Opened) where
  pub nothing_said : (def : Definition) → o ≡ None → {E : Type 0} (r : Result (String Global) E) → IfOk r (λ t. string_bytes t ≡ codes "none\n")
      → IfOk r (λ t. IsSaid def o (string_bytes t))
  nothing_said def none (Ok t) is =
      subst (IsSaid def o) (sym is) (subst (λ (x : Option Opened). IsSaid def x (codes "none\n")) (sym none) of_nothing)
  nothing_said def none (Err e) is = tt

  pub opened_said : (def own : Definition) (old : Opened) (f : Fragment) → o ≡ Some old → f ≡ old.tree → own ≡ def
      → {E : Type 0} (r : Result (String Global) E) → HasLines r (AreSaid own f) → IfOk r (λ t. IsSaid def o (string_bytes t))
  opened_said def own old f opens same here (Ok t) (lines, said, text) =
      subst (IsSaid def o) (sym text)
      (subst (λ (x : Option Opened). IsSaid def x (feed_all lines)) (sym opens)
      (of_opened lines (subst (λ (d : Definition). AreSaid d old.tree lines) here (subst (λ (x : Fragment). AreSaid own x lines) same said))))
  opened_said def own old f opens same here (Err e) h = tt

  pub nothing_spent : (n : ℕ) → o ≡ None → n ≤ n + most_said o
  nothing_spent n none = subst (λ (x : Option Opened). n ≤ n + most_said x) (sym none) (omega arith)

  pub opened_spent : (old : Opened) (f : Fragment) (n m : ℕ) → o ≡ Some old → f ≡ old.tree → m ≤ n + 2 * work_of f → m ≤ n + most_said o
  opened_spent old f n m opens same few =
      subst (λ (x : Option Opened). m ≤ n + most_said x) (sym opens) (subst (λ (x : Fragment). m ≤ n + 2 * work_of x) same few)
