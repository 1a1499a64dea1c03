-- The frames that a walk along a path gathers.
use Rattle.std.proofs.Common.{◌≡◌, ℕ, zero, suc, ◌+◌, ◌<◌, List, [], ◌∷◌, ◌++◌, take, drop, get_or, length, slice_get, Option, Some, None, refl, sym, ◌∙◌, ap, subst, append_assoc, arith}
use Rattle.std.specs.Prelude.{MatchOption, option_and_then, option_map, reverse, slice_index_or, unwrap_or}
use Rattle.std.proofs.lemmas.List.{append-nil, reverse-append}
use Rattle.std.proofs.lemmas.Option.{none-some}
use Rattle.psg_grammar.specs.declared.types.Kind.{Kind}
use Rattle.psg_grammar.specs.declared.types.Definition.{Definition}
use Rattle.psg_grammar.specs.Fragments.{children_of}
use Rattle.psg_grammar.specs.Kinds.{IsOfKind}
use Rattle.psg_grammar.specs.Paths.{Path, node_at}
use Rattle.psg_grammar.specs.Work.{climb_of, leaving}
use Rattle.psg_eval.specs.declared.frame.Frame.{Frame}
use Rattle.psg_eval.specs.Frames.{CanClimb, StandFor, rungs, rungs_in}
use Rattle.psg_eval.proofs.FrameLaws.{frame_child, stands-node}
use Rattle.psg_cache.specs.Annotated.{Annotated, tree_in, below_in, note_at}
use Rattle.psg_cache.specs.Edits.{IsNoSummaryAt}
use Rattle.psg_cache.specs.Noted.{IsNoted}
use Rattle.psg_cache.specs.NoteFrames.{AreFramesAt, IsFrameAt, IsNoFrameAt}
use Rattle.psg_cache.specs.Notes.{IsFormed}
use Rattle.psg_cache.proofs.AllNoted.{no_summary_at}
use Rattle.psg_cache.proofs.Evaluations.{kind_fits}
use Rattle.psg_cache.proofs.NoteParts.{noted_at}

-- what the frames gathered on the way from the note n to the note m are, where the rest of the path is still to go
pub record FramesTo (def : Definition) (n m : Annotated) (done rest : Path) (around : List Frame) : Type 0 where
  pub noted : IsNoted def m
  pub formed : IsFormed def (tree_in m)
  pub stand : StandFor def around done (tree_in n) (tree_in m)
  pub climb : (kind : Kind) → IsOfKind def (tree_in m) kind → CanClimb def around kind
  pub cost : rungs around + climb_of (tree_in m) rest ≡ climb_of (tree_in n) (done ++ rest)

abbrev pub AreGathered : Annotated → Annotated → Path → Path → List Frame → Type 0
AreGathered n m done rest around = (def : Definition) → IsNoted def n → IsFormed def (tree_in n) → FramesTo def n m done rest around

pub gathered_none : (n : Annotated) (path : Path) → AreGathered n n [] path []
gathered_none n path def noted formed = record {
  noted = noted;
  formed = formed;
  stand = (refl, refl);
  climb = λ kind of. tt;
  cost = omega arith;
}

gathered_more : (n m c : Annotated) (done rest : Path) (k : ℕ) (frame : Frame) (around : List Frame) → AreGathered n m done (k ∷ rest) around
    → slice_get (below_in m) k ≡ Some c → IsFrameAt m k frame → AreGathered n c (done ++ k ∷ []) rest (frame ∷ around)
gathered_more n m c done rest k frame around h at frame_at def noted formed =
    let g = h def noted formed in
    let a = frame_at def c g.noted g.formed at in
    let (kind, (fits, plain)) = g.formed in
    let of_kind = kind_fits def (tree_in m) [] kind fits plain in
    let below = (noted_at def (k ∷ []) m g.noted g.formed).1 c (ap (option_and_then (λ x. note_at x [])) at) in
    let there : slice_get (children_of (tree_in m)) k ≡ Some (tree_in c) = frame_child def (tree_in c) frame k (tree_in m) a.is in
    let up : unwrap_or (option_map (λ t. climb_of t rest) (slice_get (children_of (tree_in m)) k)) 0 ≡ climb_of (tree_in c) rest =
    ap (λ o. unwrap_or (option_map (λ t. climb_of t rest) o) 0) there in
    let longer : climb_of (tree_in n) ((done ++ k ∷ []) ++ rest) ≡ climb_of (tree_in n) (done ++ k ∷ rest) = ap (climb_of (tree_in n)) (append_assoc done (k ∷ []) rest) in
    let before : rungs around + (leaving (tree_in m) k + unwrap_or (option_map (λ t. climb_of t rest) (slice_get (children_of (tree_in m)) k)) 0) ≡ climb_of (tree_in n) (done ++ k ∷ rest) = g.cost in
    let own : rungs_in frame ≡ leaving (tree_in m) k = a.cost in
    record {
      noted = below.0;
      formed = below.1;
      stand = (done, k, tree_in m, refl, a.is, g.stand);
      climb = λ low of. (kind, a.takes low kind of of_kind, g.climb kind of_kind);
      cost = omega (arith, up, longer, before, own);
    }

take_suc : (xs : Path) (i x : ℕ) → i < length xs → x ≡ get_or xs i x → take (suc i) xs ≡ take i xs ++ x ∷ []
take_suc [] i x l e = absurd (omega (arith, l))
take_suc (y ∷ xs) zero x l e = ap (λ z. z ∷ []) (sym e)
take_suc (y ∷ xs) (suc i) x l e = ap (λ z. y ∷ z) (take_suc xs i x (omega (arith, l)) e)

take_next : (xs : Path) (i x : ℕ) → i < length xs → x ≡ get_or xs i x → take (i + 1) xs ≡ take i xs ++ x ∷ []
take_next xs i x l e = let n : i + 1 ≡ suc i = omega arith in ap (λ m. take m xs) n ∙ take_suc xs i x l e

drop_suc : (xs : Path) (i x : ℕ) → i < length xs → x ≡ get_or xs i x → drop i xs ≡ x ∷ drop (suc i) xs
drop_suc [] i x l e = absurd (omega (arith, l))
drop_suc (y ∷ xs) zero x l e = ap (λ z. z ∷ xs) (sym e)
drop_suc (y ∷ xs) (suc i) x l e = drop_suc xs i x (omega (arith, l)) e

drop_next : (xs : Path) (i x : ℕ) → i < length xs → x ≡ get_or xs i x → drop i xs ≡ x ∷ drop (i + 1) xs
drop_next xs i x l e = let n : suc i ≡ i + 1 = omega arith in drop_suc xs i x l e ∙ ap (λ m. x ∷ drop m xs) n

-- what was read at a place of the path
pub fixed : (xs : Path) (i d : ℕ) → i < length xs → slice_index_or xs i d ≡ get_or xs i (slice_index_or xs i d)
fixed [] i d l = absurd (omega (arith, l))
fixed (y ∷ xs) zero d l = refl
fixed (y ∷ xs) (suc i) d l = fixed xs i d (omega (arith, l))

pub when_some : (m : Annotated) (k : ℕ) (o : Option Frame) (frame : Frame) → o ≡ Some frame → MatchOption o (IsNoFrameAt m k) (IsFrameAt m k) → IsFrameAt m k frame
when_some m k o frame e h = subst (λ z. MatchOption z (IsNoFrameAt m k) (IsFrameAt m k)) e h

pub when_none : (m : Annotated) (k : ℕ) (o : Option Frame) → o ≡ None → MatchOption o (IsNoFrameAt m k) (IsFrameAt m k) → IsNoFrameAt m k
when_none m k o e h = subst (λ z. MatchOption z (IsNoFrameAt m k) (IsFrameAt m k)) e h

-- one step of the loop
pub gathered_next : (n m c : Annotated) (items : Path) (i k : ℕ) (frame : Frame) (made : List Frame) (more : List Frame) → i < length items → k ≡ get_or items i k
    → AreGathered n m (take i items) (drop i items) (reverse made) → slice_get (below_in m) k ≡ Some c → IsFrameAt m k frame → more ≡ made ++ frame ∷ []
    → AreGathered n c (take (i + 1) items) (drop (i + 1) items) (reverse more)
gathered_next n m c items i k frame made more l e h at frame_at grown =
    let turned : reverse more ≡ frame ∷ reverse made = ap reverse grown ∙ reverse-append made (frame ∷ []) in
    subst (λ fs. AreGathered n c (take (i + 1) items) (drop (i + 1) items) fs) (sym turned)
    (subst (λ done. AreGathered n c done (drop (i + 1) items) (frame ∷ reverse made)) (sym (take_next items i k l e))
    (gathered_more n m c (take i items) (drop (i + 1) items) k frame (reverse made)
    (subst (λ rest. AreGathered n m (take i items) rest (reverse made)) (drop_next items i k l e) h) at frame_at))

pub found_next : (n m c : Annotated) (path items : Path) (i k : ℕ) → i < length items → k ≡ get_or items i k → note_at n path ≡ note_at m (drop i items)
    → slice_get (below_in m) k ≡ Some c → note_at n path ≡ note_at c (drop (i + 1) items)
found_next n m c path items i k l e found at =
    found ∙ ap (note_at m) (drop_next items i k l e) ∙ ap (option_and_then (λ x. note_at x (drop (i + 1) items))) at

pub none_there : (n m : Annotated) (path items : Path) (i k : ℕ) → i < length items → k ≡ get_or items i k → note_at n path ≡ note_at m (drop i items)
    → slice_get (below_in m) k ≡ None → IsNoSummaryAt n path
none_there n m path items i k l e found at =
    no_summary_at n path (found ∙ ap (note_at m) (drop_next items i k l e) ∙ ap (option_and_then (λ x. note_at x (drop (i + 1) items))) at)

none_framed : (n m c : Annotated) (path done rest : Path) (k : ℕ) (around : List Frame) → AreGathered n m done rest around → slice_get (below_in m) k ≡ Some c → IsNoFrameAt m k
    → IsNoSummaryAt n path
none_framed n m c path done rest k around h at none def f note =
    let formed : IsFormed def (tree_in n) = subst (IsFormed def) (sym note.tree) note.formed in
    let g = h def note.noted formed in
    absurd (none-some c (sym (none def g.noted g.formed) ∙ at))

pub none_at : (n m c : Annotated) (path items : Path) (i k : ℕ) (around : List Frame) → i < length items → k ≡ get_or items i k → AreGathered n m (take i items) (drop i items) around
    → slice_get (below_in m) k ≡ Some c → IsNoFrameAt m k → IsNoSummaryAt n path
none_at n m c path items i k around l e h at none = none_framed n m c path (take i items) (drop i items) k around h at none

take_all : (xs : Path) (i : ℕ) → i ≡ length xs → take i xs ≡ xs
take_all [] zero e = refl
take_all [] (suc i) e = absurd (omega (arith, e))
take_all (x ∷ xs) zero e = absurd (omega (arith, e))
take_all (x ∷ xs) (suc i) e = ap (λ z. x ∷ z) (take_all xs i (omega (arith, e)))

drop_all : (xs : Path) (i : ℕ) → i ≡ length xs → drop i xs ≡ []
drop_all [] zero e = refl
drop_all [] (suc i) e = refl
drop_all (x ∷ xs) zero e = absurd (omega (arith, e))
drop_all (x ∷ xs) (suc i) e = drop_all xs i (omega (arith, e))

gathered_frames : (n m : Annotated) (path : Path) (around : List Frame) → AreGathered n m path [] around → AreFramesAt n path around
gathered_frames n m path around h def f note =
    let formed : IsFormed def (tree_in n) = subst (IsFormed def) (sym note.tree) note.formed in
    let g = h def note.noted formed in
    let (kind, (fits, plain)) = g.formed in
    let of_kind = kind_fits def (tree_in m) [] kind fits plain in
    let end : climb_of (tree_in n) (path ++ []) ≡ climb_of f path = ap (climb_of (tree_in n)) (append-nil path) ∙ ap (λ x. climb_of x path) note.tree in
    let sum : rungs around + 0 ≡ climb_of (tree_in n) (path ++ []) = g.cost in
    record {
      node = tree_in m;
      there = ap (λ x. node_at x path) (sym note.tree) ∙ stands-node def around path (tree_in n) (tree_in m) g.stand;
      kind = kind;
      of_kind = of_kind;
      stand = subst (λ x. StandFor def around path x (tree_in m)) note.tree g.stand;
      climb = g.climb kind of_kind;
      cost = omega (arith, end, sum);
    }

-- the end of the loop
pub gathered_all : (n m : Annotated) (path items : Path) (i : ℕ) (made around : List Frame) → i ≡ length items → items ≡ path
    → AreGathered n m (take i items) (drop i items) (reverse made) → around ≡ reverse made → AreFramesAt n path around
gathered_all n m path items i made around end same h turned =
    subst (AreFramesAt n path) (sym turned)
    (gathered_frames n m path (reverse made)
    (subst (λ done. AreGathered n m done [] (reverse made)) (take_all items i end ∙ same)
    (subst (λ rest. AreGathered n m (take i items) rest (reverse made)) (drop_all items i end) h)))
