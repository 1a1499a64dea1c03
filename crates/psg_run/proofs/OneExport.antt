-- Two runs of `self` over the same files write the same.
use Rattle.std.proofs.Common.{◌≡◌, ℕ, ◌+◌, ◌≤◌, inl, inr, List, [], ◌∷◌, ◌++◌, length, slice_get, Option, Some, None, codes, decimal}
use Rattle.std.proofs.Common.{refl, sym, ◌∙◌, ap, subst, append-nil, arith}
use Rattle.std.specs.FinMap as map
use Rattle.std.specs.Prelude.{option_map}
use Rattle.std.specs.Io.KnownBytes.{append_known}
use Rattle.std.specs.List.{AllByRecursion}
use Rattle.std.proofs.lemmas.Bool.{false≢true, cases_lt}
use Rattle.std.proofs.lemmas.List.{length-append}
use Rattle.std.proofs.lemmas.Option.{none-some}
use Rattle.psg_langs.specs.declared.named.TheConstants.{SELF}
use Rattle.psg_terms.specs.Names.{Name}
use Rattle.psg_terms.proofs.Lists.{each_at}
use Rattle.psg_class.specs.Class.{IsClass}
use Rattle.psg_grammar.specs.declared.types.Definition.{Definition}
use Rattle.psg_grammar.specs.Fragments.{Fragment, hole, ending, cell, operator, with_child, with_name, with_number}
use Rattle.psg_grammar.specs.Fragments.{with_text, anything, observed}
use Rattle.psg_grammar.specs.Paths.{Path}
use Rattle.psg_grammar.specs.Sound.{IsSound}
use Rattle.psg_grammar.specs.WellFormed.{IsComplete}
use Rattle.psg_tree.specs.AbstractText.{quoted}
use Rattle.psg_self.specs.Export.{IsFirstOpen, IsOpenEnded, exported}
use Rattle.psg_unparse.specs.Spots.{Placed, Spot, child_spot, element_spot, front_spot, leaf_spot, placed_below}
use Rattle.psg_unparse.specs.Spots.{placed_from, placed_in, rest_spot, top_spot}
use Rattle.psg_world.specs.Files.{Held, bytes_of}
use Rattle.psg_session.specs.Exchanges.{IsAnswered, Outside, keeping, loses_keep, stores}
use Rattle.psg_session.specs.Marked.{path_text}
use Rattle.psg_session.specs.PlainState.{Opened, State, lost, stored}
use Rattle.psg_session.specs.Replies.{feed}
use Rattle.psg_run.specs.declared.status.Status.TheVariants as ends_with
use Rattle.psg_run.specs.Chain.{Finishes, Point, Runs, closes, first_point, is_played, puts_front}
use Rattle.psg_run.specs.Editing.{BreaksOff, Editor, IsReplied, IsSilent, new_editor}
use Rattle.psg_run.specs.Exporting.{Exports, GoesOnAsSelf, IsCheckLine, IsExport, TellsExport, is_exported, is_itself, is_lost}
use Rattle.psg_run.specs.Exporting.{is_other, is_unfinished, no_lines, no_room_to_export, nothing_opened, tells_export}
use Rattle.psg_run.specs.ExportLaws.{HasOneExport}
use Rattle.psg_run.specs.Promise.{IsRunOf, itself}
use Rattle.psg_run.specs.Reading.{IsAccepted}
use Rattle.psg_run.specs.Scripts.{script_lines}
use Rattle.psg_run.specs.Worlds.{Act, World, put_front}
use Rattle.psg_run.proofs.ArrangedRuns.{puts_none, with_replies}
use Rattle.psg_run.proofs.Chains.{append_known-nil}
use Rattle.psg_run.proofs.EndingWell.{known_bytes, one_accepted}
use Rattle.psg_run.proofs.OneCheckLine.{FaultOnce, check_line_once}
use Rattle.psg_run.proofs.OneRun.{answers_grow, no_front, no_refusal_put, runs_alike, runs_grow, same_long, was_accepted, was_read}
use Rattle.psg_run.proofs.OneRun.{whole_put}

-- ---- no node of a complete tree is open

not_open : (f : Fragment) → IsComplete f → IsOpenEnded f → ⊥
not_open (hole p) c o = c
not_open (ending l u) c o = false≢true (sym c ∙ o)
not_open (cell l e r) c o = not_open r c.1 o
not_open (operator o) c h = h
not_open (with_child f t) c o = o
not_open (with_name f n) c o = o
not_open (with_number f n) c o = o
not_open (with_text f t) c o = o
not_open anything c o = c
not_open (observed f) c o = o

abbrev IsClosed : Placed → Type 0
IsClosed p = IsOpenEnded p.node → ⊥

both_closed : (xs ys : List Placed) → AllByRecursion IsClosed xs → AllByRecursion IsClosed ys → AllByRecursion IsClosed (xs ++ ys)
both_closed [] ys h k = k
both_closed (x ∷ xs) ys h k = (h.0, both_closed xs ys h.1 k)

module _ (def : Definition) where
  mutual
    closed_from : (s : Spot) (f : Fragment) → IsComplete f → AllByRecursion IsClosed (placed_from def s f)
    closed_from s (hole p) c = absurd c
    closed_from s (ending l u) c = (not_open (ending l u) c, tt)
    closed_from s (cell l e r) c = (
      not_open (cell l e r) c,
      both_closed (placed_from def (element_spot def s 0 l r) e) (placed_below def (rest_spot def s l e r) 1 r)
          (closed_from (element_spot def s 0 l r) e c.0) (closed_below (rest_spot def s l e r) 1 r c.1),
    )
    closed_from s (operator o) c = ((λ h. h), tt)
    closed_from s (with_child f t) c = (
      (λ h. h),
      both_closed (placed_below def (front_spot def s f t) 0 f) (placed_from def (child_spot def s f t) t)
          (closed_below (front_spot def s f t) 0 f c.0) (closed_from (child_spot def s f t) t c.1),
    )
    closed_from s (with_name f n) c = ((λ h. h), closed_below (leaf_spot def s f n) 0 f c)
    closed_from s (with_number f n) c = ((λ h. h), closed_below (leaf_spot def s f (decimal n)) 0 f c)
    closed_from s (with_text f n) c = ((λ h. h), closed_below (leaf_spot def s f (quoted n)) 0 f c)
    closed_from s anything c = absurd c
    closed_from s (observed f) c = ((λ h. h), closed_below s 0 f c)

    closed_below : (s : Spot) (n : ℕ) (f : Fragment) → IsComplete f → AllByRecursion IsClosed (placed_below def s n f)
    closed_below s n (hole p) c = tt
    closed_below s n (ending l u) c = tt
    closed_below s n (cell l e r) c =
        both_closed (placed_from def (element_spot def s n l r) e) (placed_below def (rest_spot def s l e r) (n + 1) r)
        (closed_from (element_spot def s n l r) e c.0) (closed_below (rest_spot def s l e r) (n + 1) r c.1)
    closed_below s n (operator o) c = tt
    closed_below s n (with_child f t) c =
        both_closed (placed_below def (front_spot def s f t) n f) (placed_from def (child_spot def s f t) t)
        (closed_below (front_spot def s f t) n f c.0) (closed_from (child_spot def s f t) t c.1)
    closed_below s n (with_name f x) c = closed_below (leaf_spot def s f x) n f c
    closed_below s n (with_number f x) c = closed_below (leaf_spot def s f (decimal x)) n f c
    closed_below s n (with_text f x) c = closed_below (leaf_spot def s f (quoted x)) n f c
    closed_below s n anything c = tt
    closed_below s n (observed f) c = closed_below s n f c

  none_open : (f : Fragment) (path : Path) → IsComplete f → IsFirstOpen def f path → ⊥
  none_open f path c o = each_at IsClosed (placed_in def f) (closed_from top_spot f c) o.number o.placed o.found o.is_open

  -- ---- there is one first open place

  same_placed : (a b : Placed) → Some a ≡ Some b → a ≡ b
  same_placed a b e = cc

  first_once : (f : Fragment) (path other : Path) → IsFirstOpen def f path → IsFirstOpen def f other → other ≡ path
  first_once f path other a b = elim (cases_lt a.number b.number) [
    | inl less ↦ absurd (b.first a.number a.placed less a.found a.is_open)
    | inr most ↦ elim (cases_lt b.number a.number) [
      | inl less ↦ absurd (a.first b.number b.placed less b.found b.is_open)
      | inr least ↦
          let number : b.number ≡ a.number = omega (arith, most, least) in
          let same : b.placed ≡ a.placed = same_placed b.placed a.placed (sym b.found ∙ ap (slice_get (placed_in def f)) number ∙ a.found) in
          sym b.path_is ∙ ap (λ (p : Placed). p.spot.path) same ∙ a.path_is
    ]
  ]

-- ---- what is told of one opened fragment

holds_alike : {before after before' after' : Outside} → before'.held ≡ before.held → after ≡ before → after' ≡ before'
    → after'.held ≡ after.held
holds_alike known same same' = ap (λ (x : Outside). x.held) same' ∙ known ∙ sym (ap (λ (x : Outside). x.held) same)

none_opened : {o o' : Option Opened} (old : Opened) → o ≡ None → o' ≡ o → o' ≡ Some old → ⊥
none_opened old none e is = none-some old (sym none ∙ sym e ∙ is)

none_opened' : {o o' : Option Opened} (old : Opened) → o ≡ Some old → o' ≡ o → o' ≡ None → ⊥
none_opened' old is e none = none-some old (sym none ∙ e ∙ is)

some_is : (a b : Opened) → Some a ≡ Some b → a ≡ b
some_is a b e = cc

same_opened : {o o' : Option Opened} (old old' : Opened) → o ≡ Some old → o' ≡ o → o' ≡ Some old' → old' ≡ old
same_opened old old' is e is' = some_is old' old (sym is' ∙ e ∙ is)

lost_adds : {file : Name} {bytes : List ℕ} {before after : Outside} → IsAnswered before after (Some (keeping file bytes)) lost
    → length after.entries ≤ length before.entries → ⊥
lost_adds {before = before} (loses_keep held entries) few =
    omega (arith, ap length entries ∙ length-append before.entries (_ ∷ []), few)

stored_holds : {file : Name} {bytes : List ℕ} {before after : Outside} → IsAnswered before after (Some (keeping file bytes)) stored
    → after.held ≡ option_map (λ (h : Held). map.insert h file bytes) before.held
stored_holds (stores held entries) = held

module _ (once : FaultOnce) (def : Definition) (file : Name) where
  told_alike : {o o' : Option Opened} {before after before' after' : Outside} {text text' : List ℕ} → o' ≡ o
      → before'.held ≡ before.held → length after.entries ≤ length before.entries
      → length after'.entries ≤ length before'.entries → IsExport def file o before after text
      → IsExport def file o' before' after' text' → (text' ≡ text) × (after'.held ≡ after.held)
  told_alike e k few few' (is_lost old is lines complete answers) other = absurd (lost_adds answers few)
  told_alike e k few few' one (is_lost old is lines complete answers) = absurd (lost_adds answers few')
  told_alike e k few few' (nothing_opened none same) (nothing_opened none' same') = (refl, holds_alike k same same')
  told_alike e k few few' (nothing_opened none same) (no_lines old' is' other' same') = absurd (none_opened old' none e is')
  told_alike e k few few' (nothing_opened none same) (is_unfinished old' path' is' lines' first' same') =
      absurd (none_opened old' none e is')
  told_alike e k few few' (nothing_opened none same) (is_exported old' line' is' lines' complete' answers' says') =
      absurd (none_opened old' none e is')
  told_alike e k few few' (no_lines old is other same) (nothing_opened none' same') = absurd (none_opened' old is e none')
  told_alike e k few few' (no_lines old is other same) (no_lines old' is' other' same') = (refl, holds_alike k same same')
  told_alike e k few few' (no_lines old is other same) (is_unfinished old' path' is' lines' first' same') =
      absurd (other (sym (ap (λ (x : Opened). x.kind) (same_opened old old' is e is')) ∙ lines'))
  told_alike e k few few' (no_lines old is other same) (is_exported old' line' is' lines' complete' answers' says') =
      absurd (other (sym (ap (λ (x : Opened). x.kind) (same_opened old old' is e is')) ∙ lines'))
  told_alike e k few few' (is_unfinished old path is lines first same) (nothing_opened none' same') =
      absurd (none_opened' old is e none')
  told_alike e k few few' (is_unfinished old path is lines first same) (no_lines old' is' other' same') =
      absurd (other' (ap (λ (x : Opened). x.kind) (same_opened old old' is e is') ∙ lines))
  told_alike e k few few' (is_unfinished old path is lines first same) (is_unfinished old' path' is' lines' first' same') =
      let here : IsFirstOpen def old.tree path' =
      subst (λ (x : Opened). IsFirstOpen def x.tree path') (same_opened old old' is e is') first' in
      (ap (λ p. feed (codes "unfinished " ++ path_text p)) (first_once def old.tree path path' first here), holds_alike k same same')
  told_alike e k few few' (is_unfinished old path is lines first same) (is_exported old' line' is' lines' complete' answers' says') =
      absurd (none_open def old.tree path
      (subst (λ (x : Opened). IsComplete x.tree) (same_opened old old' is e is') complete') first)
  told_alike e k few few' (is_exported old line is lines complete answers says) (nothing_opened none' same') =
      absurd (none_opened' old is e none')
  told_alike e k few few' (is_exported old line is lines complete answers says) (no_lines old' is' other' same') =
      absurd (other' (ap (λ (x : Opened). x.kind) (same_opened old old' is e is') ∙ lines))
  told_alike e k few few' (is_exported old line is lines complete answers says) (is_unfinished old' path' is' lines' first' same') =
      absurd (none_open def old.tree path' complete
      (subst (λ (x : Opened). IsFirstOpen def x.tree path') (same_opened old old' is e is') first'))
  told_alike {before = before} e k few few' (is_exported old line is lines complete answers says)
      (is_exported old' line' is' lines' complete' answers' says') =
      let same = same_opened old old' is e is' in
      let here : IsCheckLine (exported old.tree) line' = subst (λ (x : Opened). IsCheckLine (exported x.tree) line') same says' in (
        ap (λ l. feed (codes "exported") ++ feed l) (check_line_once once (exported old.tree) line line' says here),
        stored_holds answers' ∙ ap (option_map (λ (h : Held). map.insert h file (exported old'.tree))) k
            ∙ ap (λ (x : Opened). option_map (λ (h : Held). map.insert h file (exported x.tree)) before.held) same
            ∙ sym (stored_holds answers),
      )

told_grows : {def : Definition} {file : Name} {o : Option Opened} {before after : Outside} {text : List ℕ}
    → IsExport def file o before after text → length before.entries ≤ length after.entries
told_grows {before = before} {after = after} (nothing_opened none same) =
    same_long before.entries after.entries (ap (λ (x : Outside). x.entries) same)
told_grows {before = before} {after = after} (no_lines old is other same) =
    same_long before.entries after.entries (ap (λ (x : Outside). x.entries) same)
told_grows {before = before} {after = after} (is_unfinished old path is lines first same) =
    same_long before.entries after.entries (ap (λ (x : Outside). x.entries) same)
told_grows (is_lost old is lines complete answers) = answers_grow answers
told_grows (is_exported old line is lines complete answers says) = answers_grow answers

-- ---- a run that ended well

record HasExported (def : Definition) (file : Name) (lines : List (List ℕ)) (old new : World) : Type 0 where
  pub last : Point Editor
  pub replies : List ℕ
  pub runs : Runs Editor (IsReplied def) (first_point Editor new_editor old) lines replies last
  pub text : List ℕ
  pub after : Outside
  pub says : IsExport def file last.state.state.opened last.files after text
  pub wrote : new.written ≡ append_known old.written text
  pub files : new.files ≡ after

module _ (def : Definition) (file : Name) (old new : World) where
  record HasTold (texts : List ℕ) (s : Point Editor) (left : List (List ℕ)) : Type 0 where
    none_left : left ≡ []
    text : List ℕ
    after : Outside
    says : IsExport def file s.state.state.opened s.files after text
    wrote : new.written ≡ append_known (append_known old.written texts) text
    files : new.files ≡ after

  told : {texts : List ℕ} {s : Point Editor} {left : List (List ℕ)}
      → Finishes Editor (IsSilent def) (BreaksOff def) (TellsExport def file) old texts s left new ends_with.Done
      → HasTold texts s left
  told (closes t text ended (tells_export said after says) puts) = record {
    none_left = refl;
    text = said;
    after = after;
    says = says;
    wrote = (whole_put puts).took;
    files = (whole_put puts).files;
  }
  told (closes t text ended no_room_to_export (put_front front)) = absurd (no_front front)
  told (puts_front t text played front) = absurd (no_front front)

  has_exported : (lines : List (List ℕ)) → Exports def file lines old new ends_with.Done → HasExported def file lines old new
  has_exported lines (is_played first left texts last split runs finishes) =
      let ends = told finishes in
      let all : first ≡ lines = sym (split ∙ ap (λ l. first ++ l) ends.none_left ∙ append-nil first) in
      let none : texts ≡ [] = puts_none runs in
      let (replies, replied) = with_replies runs in
      record {
        last = last;
        replies = replies;
        runs = subst (λ l. Runs Editor (IsReplied def) (first_point Editor new_editor old) l replies last) all replied;
        text = ends.text;
        after = ends.after;
        says = ends.says;
        wrote = ends.wrote ∙ ap (λ t. append_known (append_known old.written t) ends.text) none
            ∙ ap (λ w. append_known w ends.text) (append_known-nil old.written);
        files = ends.files;
      }

was_itself : {def : Definition} {Next : Act} {old new : World} → GoesOnAsSelf def Next old new ends_with.Done
    → Next old new ends_with.Done
was_itself (is_itself is run) = run
was_itself (is_other other puts) = absurd (no_refusal_put puts)

module _ (def : Definition) (accepted : IsAccepted SELF.now def) (script file : Name) (held : Held) where
  was_exported : (old new : World) → old.files.held ≡ Some held → IsRunOf (itself script file) old new ends_with.Done
      → HasExported def file (script_lines (bytes_of held script)) old new
  was_exported old new known run =
      let (other, other_accepted, on) = was_accepted run in
      let (bytes, are, exports) = was_read (was_itself on) in
      let is_script : bytes ≡ bytes_of held script = known_bytes old.files.held held script bytes known are in
      let same : other ≡ def = one_accepted SELF.now def other accepted other_accepted in
      let here : Exports def file (script_lines bytes) old new ends_with.Done =
      subst (λ (x : Definition). Exports x file (script_lines bytes) old new ends_with.Done) same exports in
      has_exported def file old new (script_lines (bytes_of held script))
      (subst (λ b. Exports def file (script_lines b) old new ends_with.Done) is_script here)

  -- no call of the files failed, before the close and at it
  few_before : (old new : World) (h : HasExported def file (script_lines (bytes_of held script)) old new)
      → new.files.entries ≡ old.files.entries → length h.last.files.entries ≤ length old.files.entries
  few_before old new h kept =
      let same : length h.after.entries ≡ length old.files.entries =
      ap length (sym (ap (λ (x : Outside). x.entries) h.files) ∙ kept) in
      omega (arith, told_grows h.says, same)

  few_at : (old new : World) (h : HasExported def file (script_lines (bytes_of held script)) old new)
      → new.files.entries ≡ old.files.entries → length h.after.entries ≤ length h.last.files.entries
  few_at old new h kept =
      let same : length h.after.entries ≡ length old.files.entries =
      ap length (sym (ap (λ (x : Outside). x.entries) h.files) ∙ kept) in
      omega (arith, runs_grow h.runs, same)

pub has_one_export : FaultOnce → (def : Definition) → IsSound def → IsClass def → HasOneExport def
has_one_export once def sound is_class accepted script file held old new old' new' run run' known known' kept kept' =
    let one = was_exported def accepted script file held old new known run in
    let other = was_exported def accepted script file held old' new' known' run' in
    let both = runs_alike def sound is_class held one.runs other.runs refl known known'
    (few_before def accepted script file held old new one kept)
    (few_before def accepted script file held old' new' other kept') in
    let ends = told_alike once def file (ap (λ (x : State). x.opened) both.2) both.1
    (few_at def accepted script file held old new one kept)
    (few_at def accepted script file held old' new' other kept') one.says other.says in (
      one.text,
      one.wrote,
      other.wrote ∙ ap (append_known old'.written) ends.0,
      ap (λ (x : Outside). x.held) other.files ∙ ends.1 ∙ sym (ap (λ (x : Outside). x.held) one.files),
    )
