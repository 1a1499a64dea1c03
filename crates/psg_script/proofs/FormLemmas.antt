-- What each form of a line comes to: a command where its words were read, and none where they were not.
use Rattle.std.proofs.Common.{◌≡◌, ℕ, ◌<◌, ◌≤◌, ◌^◌, List, [], ◌∷◌, Option, Some, None, Result, Ok, Err, IfOk, length, get_or, refl, ap, subst, ◌∙◌, arith}
use Rattle.std.specs.Borrow.{Bor}
use Rattle.std.specs.declared.alloc.AllocError.{AllocError}
use Rattle.std.specs.Fmt.{decimal}
use Rattle.psg_script.specs.Forms.{Text, IsNumber, IsTail, place_text, tail_of, Follow}
use Rattle.psg_script.specs.Found.{AreWords, found_words}
use Rattle.psg_script.specs.Keywords.{fields_of}
use Rattle.psg_script.specs.Productions.{IsForm, IsPlaceAlone}
use Rattle.psg_script.specs.Reading.{Reads, IsNumeral, IsNumeralUpTo, IsNameWord, IsFileWord, IsPlaceWord, IsPlacedName}
use Rattle.psg_script.specs.Words.{IsOpen, IsClosed}
use Rattle.psg_script.specs.declared.command.Command.{Command}
use Rattle.psg_script.specs.declared.command.Command.TheVariants as commands
use Rattle.psg_script.specs.declared.command.Where.{Where}
use Rattle.psg_script.specs.declared.keyword.Keyword.{Keyword}
use Rattle.psg_script.specs.declared.keyword.Keyword.TheVariants as keywords
use Rattle.psg_script.specs.declared.words.Words.{Words}
use Rattle.psg_script.specs.declared.words.Words.TheVariants.{Nothing, One, Two, Three, Four, More}
use Rattle.psg_script.proofs.PartLemmas as parts
use Rattle.psg_script.proofs.PartLemmas.{fields_words, place_word}
use Rattle.psg_script.proofs.WordLemmas.{same_words, same_open}

-- Which words were found.

found : (ws : Words) (vs : List Text) (behind : Text) → AreWords behind ws → length vs ≤ 4 → IsClosed vs behind → found_words ws ≡ Some vs
found Nothing vs behind h l f = ap Some (same_words [] vs behind h.0 f.0 h.1 f.1)
found (One a) vs behind h l f = ap Some (same_words (a.now ∷ []) vs behind h.0 f.0 h.1 f.1)
found (Two a b) vs behind h l f = ap Some (same_words (a.now ∷ b.now ∷ []) vs behind h.0 f.0 h.1 f.1)
found (Three a b c) vs behind h l f = ap Some (same_words (a.now ∷ b.now ∷ c.now ∷ []) vs behind h.0 f.0 h.1 f.1)
found (Four a b c d) vs behind h l f = ap Some (same_words (a.now ∷ b.now ∷ c.now ∷ d.now ∷ []) vs behind h.0 f.0 h.1 f.1)
found More vs behind h l f = absurd (h vs l f)

abbrev unwrap_length : Option (List Text) → ℕ
unwrap_length None = 0
unwrap_length (Some ws) = length ws

one_found : (ws : Words) (w : Text) → found_words ws ≡ Some (w ∷ []) → (x : Bor Text) × (ws ≡ One x)
one_found Nothing w e = absurd (let p : ◌≡◌ {A = ℕ} 0 1 = ap (λ o. unwrap_length o) e in let q : ⊥ = omega arith in q)
one_found (One a) w e = (a, refl)
one_found (Two a b) w e = absurd (let p : ◌≡◌ {A = ℕ} 2 1 = ap (λ o. unwrap_length o) e in let q : ⊥ = omega arith in q)
one_found (Three a b c) w e = absurd (let p : ◌≡◌ {A = ℕ} 3 1 = ap (λ o. unwrap_length o) e in let q : ⊥ = omega arith in q)
one_found (Four a b c d) w e = absurd (let p : ◌≡◌ {A = ℕ} 4 1 = ap (λ o. unwrap_length o) e in let q : ⊥ = omega arith in q)
one_found More w e = absurd (let p : ⊥ = cc in p)

pub not_one : (ws : Words) (behind : Text) (w : Text) → AreWords behind ws → ((x : Bor Text) → ws ≡ One x → ⊥) → IsClosed (w ∷ []) behind → ⊥
not_one ws behind w h none f =
    let (x, e) = one_found ws w (found ws (w ∷ []) behind h (omega arith) f) in
    none x e

two_found : (ws : Words) (w v : Text) → found_words ws ≡ Some (w ∷ v ∷ []) → (x : Bor Text) × (y : Bor Text) × (ws ≡ Two x y)
two_found Nothing w v e = absurd (let p : ◌≡◌ {A = ℕ} 0 2 = ap (λ o. unwrap_length o) e in let q : ⊥ = omega arith in q)
two_found (One a) w v e = absurd (let p : ◌≡◌ {A = ℕ} 1 2 = ap (λ o. unwrap_length o) e in let q : ⊥ = omega arith in q)
two_found (Two a b) w v e = (a, b, refl)
two_found (Three a b c) w v e = absurd (let p : ◌≡◌ {A = ℕ} 3 2 = ap (λ o. unwrap_length o) e in let q : ⊥ = omega arith in q)
two_found (Four a b c d) w v e = absurd (let p : ◌≡◌ {A = ℕ} 4 2 = ap (λ o. unwrap_length o) e in let q : ⊥ = omega arith in q)
two_found More w v e = absurd (let p : ⊥ = cc in p)

pub not_two : (ws : Words) (behind : Text) (w v : Text) → AreWords behind ws → ((x y : Bor Text) → ws ≡ Two x y → ⊥) → IsClosed (w ∷ v ∷ []) behind → ⊥
not_two ws behind w v h none f =
    let (x, y, e) = two_found ws w v (found ws (w ∷ v ∷ []) behind h (omega arith) f) in
    none x y e

three_found : (ws : Words) (w v u : Text) → found_words ws ≡ Some (w ∷ v ∷ u ∷ []) → (x : Bor Text) × (y : Bor Text) × (z : Bor Text) × (ws ≡ Three x y z)
three_found Nothing w v u e = absurd (let p : ◌≡◌ {A = ℕ} 0 3 = ap (λ o. unwrap_length o) e in let q : ⊥ = omega arith in q)
three_found (One a) w v u e = absurd (let p : ◌≡◌ {A = ℕ} 1 3 = ap (λ o. unwrap_length o) e in let q : ⊥ = omega arith in q)
three_found (Two a b) w v u e = absurd (let p : ◌≡◌ {A = ℕ} 2 3 = ap (λ o. unwrap_length o) e in let q : ⊥ = omega arith in q)
three_found (Three a b c) w v u e = (a, b, c, refl)
three_found (Four a b c d) w v u e = absurd (let p : ◌≡◌ {A = ℕ} 4 3 = ap (λ o. unwrap_length o) e in let q : ⊥ = omega arith in q)
three_found More w v u e = absurd (let p : ⊥ = cc in p)

pub not_three : (ws : Words) (behind : Text) (w v u : Text) → AreWords behind ws → ((x y z : Bor Text) → ws ≡ Three x y z → ⊥) → IsClosed (w ∷ v ∷ u ∷ []) behind → ⊥
not_three ws behind w v u h none f =
    let (x, y, z, e) = three_found ws w v u (found ws (w ∷ v ∷ u ∷ []) behind h (omega arith) f) in
    none x y z e

four_found : (ws : Words) (w v u t : Text) → found_words ws ≡ Some (w ∷ v ∷ u ∷ t ∷ []) → (x : Bor Text) × (y : Bor Text) × (z : Bor Text) × (q : Bor Text) × (ws ≡ Four x y z q)
four_found Nothing w v u t e = absurd (let p : ◌≡◌ {A = ℕ} 0 4 = ap (λ o. unwrap_length o) e in let q : ⊥ = omega arith in q)
four_found (One a) w v u t e = absurd (let p : ◌≡◌ {A = ℕ} 1 4 = ap (λ o. unwrap_length o) e in let q : ⊥ = omega arith in q)
four_found (Two a b) w v u t e = absurd (let p : ◌≡◌ {A = ℕ} 2 4 = ap (λ o. unwrap_length o) e in let q : ⊥ = omega arith in q)
four_found (Three a b c) w v u t e = absurd (let p : ◌≡◌ {A = ℕ} 3 4 = ap (λ o. unwrap_length o) e in let q : ⊥ = omega arith in q)
four_found (Four a b c d) w v u t e = (a, b, c, d, refl)
four_found More w v u t e = absurd (let p : ⊥ = cc in p)

pub not_four : (ws : Words) (behind : Text) (w v u t : Text) → AreWords behind ws → ((x y z q : Bor Text) → ws ≡ Four x y z q → ⊥) → IsClosed (w ∷ v ∷ u ∷ t ∷ []) behind → ⊥
not_four ws behind w v u t h none f =
    let (x, y, z, q, e) = four_found ws w v u t (found ws (w ∷ v ∷ u ∷ t ∷ []) behind h (omega arith) f) in
    none x y z q e

-- Lines and their words.

pub closed_same : (ws vs : List Text) (behind : Text) → IsClosed ws behind → IsClosed vs behind → ws ≡ vs
closed_same ws vs behind f g = same_words ws vs behind f.0 g.0 f.1 g.1

pub closed_form : (k : Keyword) (c : Command) (behind : Text) → IsForm k c behind → tail_of c ≡ None → IsClosed (fields_of c) behind
closed_form k c behind h e = (fields_words c h.formed, subst (λ t. Follow (fields_of c) t behind) e h.written)

pub open_form : (k : Keyword) (c : Command) (text behind : Text) → IsForm k c behind → IsTail text → tail_of c ≡ Some text → IsOpen (fields_of c) text behind
open_form k c text behind h t e = (fields_words c h.formed, t, subst (λ u. Follow (fields_of c) u behind) e h.written)

pub open_same : (ws vs : List Text) (t u behind : Text) → length ws ≡ length vs → IsOpen ws t behind → IsOpen vs u behind → (ws ≡ vs) × (t ≡ u)
open_same ws vs t u behind l f g = same_open ws vs t u behind l f.0 g.0 f.1 g.1 f.2 g.2

-- these words are those of the fields
moved : (ws vs : List Text) (tail : Option Text) (behind : Text) → ws ≡ vs → Follow ws tail behind → Follow vs tail behind
moved ws vs tail behind e f = subst (λ us. Follow us tail behind) e f

one : {w a : Text} → w ≡ a → (w ∷ []) ≡ a ∷ []
one e = ap (λ t. t ∷ []) e

two : {w a v b : Text} → w ≡ a → v ≡ b → (w ∷ v ∷ []) ≡ a ∷ b ∷ []
two {w} {a} {v} {b} e f = ap (λ t. t ∷ v ∷ []) e ∙ ap (λ t. a ∷ t) (one f)

three : {w a v b u c : Text} → w ≡ a → v ≡ b → u ≡ c → (w ∷ v ∷ u ∷ []) ≡ a ∷ b ∷ c ∷ []
three {w} {a} {v} {b} {u} {c} e f g = ap (λ t. t ∷ v ∷ u ∷ []) e ∙ ap (λ t. a ∷ t) (two f g)

four : {w a v b u c t d : Text} → w ≡ a → v ≡ b → u ≡ c → t ≡ d → (w ∷ v ∷ u ∷ t ∷ []) ≡ a ∷ b ∷ c ∷ d ∷ []
four {w} {a} {v} {b} {u} {c} {t} {d} e f g h = ap (λ x. x ∷ v ∷ u ∷ t ∷ []) e ∙ ap (λ x. a ∷ x) (three f g h)

-- the word at a place
abbrev pub word : List Text → ℕ → Text
word ws i = get_or ws i []

-- A place alone.

pub alone_words : (ws : Words) (behind : Text) → AreWords behind ws → ((x : Bor Text) → ws ≡ One x → ⊥) → (w : Where) → IsPlaceAlone w behind → ⊥
alone_words ws behind a none w h = not_one ws behind (place_text w) a none ((place_word w h.0, tt), h.1)

pub alone_read : (r : Result (Option Where) AllocError) (x behind : Text) → IsClosed (x ∷ []) behind → IfOk r (Reads IsPlaceWord x) → IfOk r (Reads IsPlaceAlone behind)
alone_read (Err e) x behind f h = tt
alone_read (Ok None) x behind f h = λ w k.
    let s = closed_same (x ∷ []) (place_text w ∷ []) behind f ((place_word w k.0, tt), k.1) in
    h w (k.0, ap (λ l. word l 0) s)
alone_read (Ok (Some w)) x behind f h = (h.0, moved (x ∷ []) (place_text w ∷ []) None behind (one h.1) f.1)

pub none_goto : (behind : Text) → ((w : Where) → IsPlaceAlone w behind → ⊥) → (c : Command) → IsForm keywords.Goto c behind → ⊥
none_goto behind none c h =
    let (w, e, f) = parts.parts_goto c behind h in
    none w (f.formed, f.written)

pub some_goto : (behind : Text) (w : Where) → IsPlaceAlone w behind → IsForm keywords.Goto (commands.Goto w) behind
some_goto behind w h = record { formed = h.0; keyword = refl; written = h.1 }

pub none_cut : (behind : Text) → ((w : Where) → IsPlaceAlone w behind → ⊥) → (c : Command) → IsForm keywords.Cut c behind → ⊥
none_cut behind none c h =
    let (w, e, f) = parts.parts_cut c behind h in
    none w (f.formed, f.written)

pub some_cut : (behind : Text) (w : Where) → IsPlaceAlone w behind → IsForm keywords.Cut (commands.Cut w) behind
some_cut behind w h = record { formed = h.0; keyword = refl; written = h.1 }

pub none_close : (behind : Text) → ((w : Where) → IsPlaceAlone w behind → ⊥) → (c : Command) → IsForm keywords.Close c behind → ⊥
none_close behind none c h =
    let (w, e, f) = parts.parts_close c behind h in
    none w (f.formed, f.written)

pub some_close : (behind : Text) (w : Where) → IsPlaceAlone w behind → IsForm keywords.Close (commands.Close w) behind
some_close behind w h = record { formed = h.0; keyword = refl; written = h.1 }

pub none_reopen : (behind : Text) → ((w : Where) → IsPlaceAlone w behind → ⊥) → (c : Command) → IsForm keywords.Reopen c behind → ⊥
none_reopen behind none c h =
    let (w, e, f) = parts.parts_reopen c behind h in
    none w (f.formed, f.written)

pub some_reopen : (behind : Text) (w : Where) → IsPlaceAlone w behind → IsForm keywords.Reopen (commands.Reopen w) behind
some_reopen behind w h = record { formed = h.0; keyword = refl; written = h.1 }

pub none_relation : (behind : Text) → ((w : Where) → IsPlaceAlone w behind → ⊥) → (c : Command) → IsForm keywords.Relation c behind → ⊥
none_relation behind none c h =
    let (w, e, f) = parts.parts_relation c behind h in
    none w (f.formed, f.written)

pub some_relation : (behind : Text) (w : Where) → IsPlaceAlone w behind → IsForm keywords.Relation (commands.Relation w) behind
some_relation behind w h = record { formed = h.0; keyword = refl; written = h.1 }

pub none_own : (behind : Text) → ((w : Where) → IsPlaceAlone w behind → ⊥) → (c : Command) → IsForm keywords.Own c behind → ⊥
none_own behind none c h =
    let (w, e, f) = parts.parts_own c behind h in
    none w (f.formed, f.written)

pub some_own : (behind : Text) (w : Where) → IsPlaceAlone w behind → IsForm keywords.Own (commands.Own w) behind
some_own behind w h = record { formed = h.0; keyword = refl; written = h.1 }

pub none_show : (behind : Text) → (Follow [] None behind → ⊥) → (c : Command) → IsForm keywords.Show c behind → ⊥
none_show behind none c h =
    let (e, f) = parts.parts_show c behind h in
    none f.written

pub some_show : (behind : Text) → Follow [] None behind → IsForm keywords.Show commands.Show behind
some_show behind h = record { formed = tt; keyword = refl; written = h }

pub none_free : (behind : Text) → (Follow [] None behind → ⊥) → (c : Command) → IsForm keywords.Free c behind → ⊥
none_free behind none c h =
    let (e, f) = parts.parts_free c behind h in
    none f.written

pub some_free : (behind : Text) → Follow [] None behind → IsForm keywords.Free commands.Free behind
some_free behind h = record { formed = tt; keyword = refl; written = h }

pub none_undo : (behind : Text) → (Follow [] None behind → ⊥) → (c : Command) → IsForm keywords.Undo c behind → ⊥
none_undo behind none c h =
    let (e, f) = parts.parts_undo c behind h in
    none f.written

pub some_undo : (behind : Text) → Follow [] None behind → IsForm keywords.Undo commands.Undo behind
some_undo behind h = record { formed = tt; keyword = refl; written = h }

pub none_redo : (behind : Text) → (Follow [] None behind → ⊥) → (c : Command) → IsForm keywords.Redo c behind → ⊥
none_redo behind none c h =
    let (e, f) = parts.parts_redo c behind h in
    none f.written

pub some_redo : (behind : Text) → Follow [] None behind → IsForm keywords.Redo commands.Redo behind
some_redo behind h = record { formed = tt; keyword = refl; written = h }

pub words_new : (ws : Words) (behind : Text) → AreWords behind ws → ((x : Bor Text) → ws ≡ One x → ⊥) → (c : Command) → IsForm keywords.New c behind → ⊥
words_new ws behind a none c h =
    let (n, e, f) = parts.parts_new c behind h in
    not_one ws behind n a none (closed_form keywords.New (commands.New n) behind f refl)

pub none_new : (x behind : Text) → IsClosed (x ∷ []) behind → ((n : Text) → IsNameWord n x → ⊥) → (c : Command) → IsForm keywords.New c behind → ⊥
none_new x behind f none c h =
    let (n, e, g) = parts.parts_new c behind h in
    let s = closed_same (x ∷ []) (n ∷ []) behind f (closed_form keywords.New (commands.New n) behind g refl) in
    none n (g.formed, ap (λ l. word l 0) s)

pub some_new : (x behind n : Text) → IsClosed (x ∷ []) behind → IsNameWord n x → IsForm keywords.New (commands.New n) behind
some_new x behind n f h = record { formed = h.0; keyword = refl; written = moved (x ∷ []) (n ∷ []) None behind (one h.1) f.1 }

pub words_fetch : (ws : Words) (behind : Text) → AreWords behind ws → ((x : Bor Text) → ws ≡ One x → ⊥) → (c : Command) → IsForm keywords.Fetch c behind → ⊥
words_fetch ws behind a none c h =
    let (n, e, f) = parts.parts_fetch c behind h in
    not_one ws behind n a none (closed_form keywords.Fetch (commands.Fetch n) behind f refl)

pub none_fetch : (x behind : Text) → IsClosed (x ∷ []) behind → ((n : Text) → IsFileWord n x → ⊥) → (c : Command) → IsForm keywords.Fetch c behind → ⊥
none_fetch x behind f none c h =
    let (n, e, g) = parts.parts_fetch c behind h in
    let s = closed_same (x ∷ []) (n ∷ []) behind f (closed_form keywords.Fetch (commands.Fetch n) behind g refl) in
    none n (g.formed, ap (λ l. word l 0) s)

pub some_fetch : (x behind n : Text) → IsClosed (x ∷ []) behind → IsFileWord n x → IsForm keywords.Fetch (commands.Fetch n) behind
some_fetch x behind n f h = record { formed = h.0; keyword = refl; written = moved (x ∷ []) (n ∷ []) None behind (one h.1) f.1 }

-- `remove PATH K`

pub words_remove : (ws : Words) (behind : Text) → AreWords behind ws → ((x y : Bor Text) → ws ≡ Two x y → ⊥) → (c : Command) → IsForm keywords.Remove c behind → ⊥
words_remove ws behind a none c h =
    let (w, k, e, f) = parts.parts_remove c behind h in
    not_two ws behind (place_text w) (decimal k) a none (closed_form keywords.Remove (commands.Remove w k) behind f refl)

module _ (x y behind : Text) (f : IsClosed (x ∷ y ∷ []) behind) where
  remove_fields : (w : Where) (k : ℕ) → IsForm keywords.Remove (commands.Remove w k) behind → (x ∷ y ∷ []) ≡ place_text w ∷ decimal k ∷ []
  remove_fields w k g = closed_same (x ∷ y ∷ []) (place_text w ∷ decimal k ∷ []) behind f (closed_form keywords.Remove (commands.Remove w k) behind g refl)

  pub none_remove_number : ((k : ℕ) → IsNumeral k y → ⊥) → (c : Command) → IsForm keywords.Remove c behind → ⊥
  none_remove_number none c h =
      let (w, k, e, g) = parts.parts_remove c behind h in
      none k (g.formed.1, ap (λ l. word l 1) (remove_fields w k g))

  pub none_remove_place : ((w : Where) → IsPlaceWord w x → ⊥) → (c : Command) → IsForm keywords.Remove c behind → ⊥
  none_remove_place none c h =
      let (w, k, e, g) = parts.parts_remove c behind h in
      none w (g.formed.0, ap (λ l. word l 0) (remove_fields w k g))

  pub some_remove : (w : Where) (k : ℕ) → IsNumeral k y → IsPlaceWord w x → IsForm keywords.Remove (commands.Remove w k) behind
  some_remove w k n p = record {
    formed = (p.0, n.0);
    keyword = refl;
    written = moved (x ∷ y ∷ []) (place_text w ∷ decimal k ∷ []) None behind (two p.1 n.1) f.1;
  }

-- `save NAME PATH`

pub words_save : (ws : Words) (behind : Text) → AreWords behind ws → ((x y : Bor Text) → ws ≡ Two x y → ⊥) → (c : Command) → IsForm keywords.Save c behind → ⊥
words_save ws behind a none c h =
    let (n, w, e, f) = parts.parts_save c behind h in
    not_two ws behind n (place_text w) a none (closed_form keywords.Save (commands.Save n w) behind f refl)

module _ (x y behind : Text) (f : IsClosed (x ∷ y ∷ []) behind) where
  pub none_save : ((p : Where × Text) → IsPlacedName p (y, x) → ⊥) → (c : Command) → IsForm keywords.Save c behind → ⊥
  none_save none c h =
      let (n, w, e, g) = parts.parts_save c behind h in
      let s = closed_same (x ∷ y ∷ []) (n ∷ place_text w ∷ []) behind f (closed_form keywords.Save (commands.Save n w) behind g refl) in
      none (w, n) ((g.formed.1, ap (λ l. word l 1) s), (g.formed.0, ap (λ l. word l 0) s))

  pub some_save : (w : Where) (n : Text) → IsPlacedName (w, n) (y, x) → IsForm keywords.Save (commands.Save n w) behind
  some_save w n p = record {
    formed = (p.1.0, p.0.0);
    keyword = refl;
    written = moved (x ∷ y ∷ []) (n ∷ place_text w ∷ []) None behind (two p.1.1 p.0.1) f.1;
  }

-- `keep NAME FILE`

pub words_keep : (ws : Words) (behind : Text) → AreWords behind ws → ((x y : Bor Text) → ws ≡ Two x y → ⊥) → (c : Command) → IsForm keywords.Keep c behind → ⊥
words_keep ws behind a none c h =
    let (n, t, e, f) = parts.parts_keep c behind h in
    not_two ws behind n t a none (closed_form keywords.Keep (commands.Keep n t) behind f refl)

module _ (x y behind : Text) (f : IsClosed (x ∷ y ∷ []) behind) where
  keep_fields : (n t : Text) → IsForm keywords.Keep (commands.Keep n t) behind → (x ∷ y ∷ []) ≡ n ∷ t ∷ []
  keep_fields n t g = closed_same (x ∷ y ∷ []) (n ∷ t ∷ []) behind f (closed_form keywords.Keep (commands.Keep n t) behind g refl)

  pub none_keep_name : ((n : Text) → IsNameWord n x → ⊥) → (c : Command) → IsForm keywords.Keep c behind → ⊥
  none_keep_name none c h =
      let (n, t, e, g) = parts.parts_keep c behind h in
      none n (g.formed.0, ap (λ l. word l 0) (keep_fields n t g))

  pub none_keep_file : ((t : Text) → IsFileWord t y → ⊥) → (c : Command) → IsForm keywords.Keep c behind → ⊥
  none_keep_file none c h =
      let (n, t, e, g) = parts.parts_keep c behind h in
      none t (g.formed.1, ap (λ l. word l 1) (keep_fields n t g))

  pub some_keep : (n t : Text) → IsNameWord n x → IsFileWord t y → IsForm keywords.Keep (commands.Keep n t) behind
  some_keep n t p q = record {
    formed = (p.0, q.0);
    keyword = refl;
    written = moved (x ∷ y ∷ []) (n ∷ t ∷ []) None behind (two p.1 q.1) f.1;
  }

-- `menu PATH` and `menu PATH K`

pub words_menu : (ws : Words) (behind : Text) → AreWords behind ws → ((x : Bor Text) → ws ≡ One x → ⊥) → ((x y : Bor Text) → ws ≡ Two x y → ⊥) → (c : Command) → IsForm keywords.Menu c behind → ⊥
words_menu ws behind a no_one no_two c h =
    let (w, k, e, f) = parts.parts_menu c behind h in
    cases w k f where
      cases : (w : Where) (k : Option ℕ) → IsForm keywords.Menu (commands.Menu w k) behind → ⊥
      cases w None f = not_one ws behind (place_text w) a no_one (closed_form keywords.Menu (commands.Menu w None) behind f refl)
      cases w (Some k) f = not_two ws behind (place_text w) (decimal k) a no_two (closed_form keywords.Menu (commands.Menu w (Some k)) behind f refl)

module _ (x behind : Text) (f : IsClosed (x ∷ []) behind) where
  none_menu_cases : ((w : Where) → IsPlaceWord w x → ⊥) → (w : Where) (k : Option ℕ) → IsForm keywords.Menu (commands.Menu w k) behind → ⊥
  none_menu_cases none w None g =
      let s = closed_same (x ∷ []) (place_text w ∷ []) behind f (closed_form keywords.Menu (commands.Menu w None) behind g refl) in
      none w (g.formed.0, ap (λ l. word l 0) s)
  none_menu_cases none w (Some k) g =
      let s = closed_same (x ∷ []) (place_text w ∷ decimal k ∷ []) behind f (closed_form keywords.Menu (commands.Menu w (Some k)) behind g refl) in
      let p : ◌≡◌ {A = ℕ} 1 2 = ap length s in
      omega arith

  pub none_menu : ((w : Where) → IsPlaceWord w x → ⊥) → (c : Command) → IsForm keywords.Menu c behind → ⊥
  none_menu none c h =
      let (w, k, e, g) = parts.parts_menu c behind h in
      none_menu_cases none w k g

  pub some_menu : (w : Where) → IsPlaceWord w x → IsForm keywords.Menu (commands.Menu w None) behind
  some_menu w p = record { formed = (p.0, tt); keyword = refl; written = moved (x ∷ []) (place_text w ∷ []) None behind (one p.1) f.1 }

module _ (x y behind : Text) (f : IsClosed (x ∷ y ∷ []) behind) where
  menu_fields : (w : Where) (k : Option ℕ) → IsForm keywords.Menu (commands.Menu w k) behind → (n : ℕ) × (k ≡ Some n) × IsNumber n × ((x ∷ y ∷ []) ≡ place_text w ∷ decimal n ∷ [])
  menu_fields w None g =
      let s = closed_same (x ∷ y ∷ []) (place_text w ∷ []) behind f (closed_form keywords.Menu (commands.Menu w None) behind g refl) in
      let p : ◌≡◌ {A = ℕ} 2 1 = ap length s in
      absurd (let q : ⊥ = omega arith in q)
  menu_fields w (Some n) g =
      (n, refl, g.formed.1, closed_same (x ∷ y ∷ []) (place_text w ∷ decimal n ∷ []) behind f (closed_form keywords.Menu (commands.Menu w (Some n)) behind g refl))

  pub none_menu_number : ((k : ℕ) → IsNumeral k y → ⊥) → (c : Command) → IsForm keywords.Menu c behind → ⊥
  none_menu_number none c h =
      let (w, k, e, g) = parts.parts_menu c behind h in
      let (n, is, small, s) = menu_fields w k g in
      none n (small, ap (λ l. word l 1) s)

  pub none_menu_place : ((w : Where) → IsPlaceWord w x → ⊥) → (c : Command) → IsForm keywords.Menu c behind → ⊥
  none_menu_place none c h =
      let (w, k, e, g) = parts.parts_menu c behind h in
      let (n, is, small, s) = menu_fields w k g in
      none w (g.formed.0, ap (λ l. word l 0) s)

  pub some_menu_number : (w : Where) (k : ℕ) → IsNumeral k y → IsPlaceWord w x → IsForm keywords.Menu (commands.Menu w (Some k)) behind
  some_menu_number w k n p = record {
    formed = (p.0, n.0);
    keyword = refl;
    written = moved (x ∷ y ∷ []) (place_text w ∷ decimal k ∷ []) None behind (two p.1 n.1) f.1;
  }

-- `names PATH OP` and `names PATH K OP`

pub words_names : (ws : Words) (behind : Text) → AreWords behind ws → ((x y : Bor Text) → ws ≡ Two x y → ⊥) → ((x y z : Bor Text) → ws ≡ Three x y z → ⊥) → (c : Command) → IsForm keywords.Names c behind → ⊥
words_names ws behind a no_two no_three c h =
    let (w, k, n, e, f) = parts.parts_names c behind h in
    cases w k n f where
      cases : (w : Where) (k : Option ℕ) (n : Text) → IsForm keywords.Names (commands.Names w k n) behind → ⊥
      cases w None n f = not_two ws behind (place_text w) n a no_two (closed_form keywords.Names (commands.Names w None n) behind f refl)
      cases w (Some k) n f = not_three ws behind (place_text w) (decimal k) n a no_three (closed_form keywords.Names (commands.Names w (Some k) n) behind f refl)

module _ (x y behind : Text) (f : IsClosed (x ∷ y ∷ []) behind) where
  none_names_cases : ((p : Where × Text) → IsPlacedName p (x, y) → ⊥) → (w : Where) (k : Option ℕ) (n : Text) → IsForm keywords.Names (commands.Names w k n) behind → ⊥
  none_names_cases none w None n g =
      let s = closed_same (x ∷ y ∷ []) (place_text w ∷ n ∷ []) behind f (closed_form keywords.Names (commands.Names w None n) behind g refl) in
      none (w, n) ((g.formed.0, ap (λ l. word l 0) s), (g.formed.2, ap (λ l. word l 1) s))
  none_names_cases none w (Some k) n g =
      let s = closed_same (x ∷ y ∷ []) (place_text w ∷ decimal k ∷ n ∷ []) behind f (closed_form keywords.Names (commands.Names w (Some k) n) behind g refl) in
      let p : ◌≡◌ {A = ℕ} 2 3 = ap length s in
      omega arith

  pub none_names : ((p : Where × Text) → IsPlacedName p (x, y) → ⊥) → (c : Command) → IsForm keywords.Names c behind → ⊥
  none_names none c h =
      let (w, k, n, e, g) = parts.parts_names c behind h in
      none_names_cases none w k n g

  pub some_names : (w : Where) (n : Text) → IsPlacedName (w, n) (x, y) → IsForm keywords.Names (commands.Names w None n) behind
  some_names w n p = record {
    formed = (p.0.0, tt, p.1.0);
    keyword = refl;
    written = moved (x ∷ y ∷ []) (place_text w ∷ n ∷ []) None behind (two p.0.1 p.1.1) f.1;
  }

module _ (x y z behind : Text) (f : IsClosed (x ∷ y ∷ z ∷ []) behind) where
  names_fields : (w : Where) (k : Option ℕ) (n : Text) → IsForm keywords.Names (commands.Names w k n) behind → (i : ℕ) × (k ≡ Some i) × IsNumber i × ((x ∷ y ∷ z ∷ []) ≡ place_text w ∷ decimal i ∷ n ∷ [])
  names_fields w None n g =
      let s = closed_same (x ∷ y ∷ z ∷ []) (place_text w ∷ n ∷ []) behind f (closed_form keywords.Names (commands.Names w None n) behind g refl) in
      let p : ◌≡◌ {A = ℕ} 3 2 = ap length s in
      absurd (let q : ⊥ = omega arith in q)
  names_fields w (Some i) n g =
      (i, refl, g.formed.1, closed_same (x ∷ y ∷ z ∷ []) (place_text w ∷ decimal i ∷ n ∷ []) behind f (closed_form keywords.Names (commands.Names w (Some i) n) behind g refl))

  pub none_names_number : ((k : ℕ) → IsNumeral k y → ⊥) → (c : Command) → IsForm keywords.Names c behind → ⊥
  none_names_number none c h =
      let (w, k, n, e, g) = parts.parts_names c behind h in
      let (i, is, small, s) = names_fields w k n g in
      none i (small, ap (λ l. word l 1) s)

  pub none_names_placed : ((p : Where × Text) → IsPlacedName p (x, z) → ⊥) → (c : Command) → IsForm keywords.Names c behind → ⊥
  none_names_placed none c h =
      let (w, k, n, e, g) = parts.parts_names c behind h in
      let (i, is, small, s) = names_fields w k n g in
      none (w, n) ((g.formed.0, ap (λ l. word l 0) s), (g.formed.2, ap (λ l. word l 2) s))

  pub some_names_number : (w : Where) (k : ℕ) (n : Text) → IsNumeral k y → IsPlacedName (w, n) (x, z) → IsForm keywords.Names (commands.Names w (Some k) n) behind
  some_names_number w k n d p = record {
    formed = (p.0.0, d.0, p.1.0);
    keyword = refl;
    written = moved (x ∷ y ∷ z ∷ []) (place_text w ∷ decimal k ∷ n ∷ []) None behind (three p.0.1 d.1 p.1.1) f.1;
  }

-- `paste PATH NAME` and `paste PATH K NAME`

pub words_paste : (ws : Words) (behind : Text) → AreWords behind ws → ((x y : Bor Text) → ws ≡ Two x y → ⊥) → ((x y z : Bor Text) → ws ≡ Three x y z → ⊥) → (c : Command) → IsForm keywords.Paste c behind → ⊥
words_paste ws behind a no_two no_three c h =
    let (w, k, n, e, f) = parts.parts_paste c behind h in
    cases w k n f where
      cases : (w : Where) (k : Option ℕ) (n : Text) → IsForm keywords.Paste (commands.Paste w k n) behind → ⊥
      cases w None n f = not_two ws behind (place_text w) n a no_two (closed_form keywords.Paste (commands.Paste w None n) behind f refl)
      cases w (Some k) n f = not_three ws behind (place_text w) (decimal k) n a no_three (closed_form keywords.Paste (commands.Paste w (Some k) n) behind f refl)

module _ (x y behind : Text) (f : IsClosed (x ∷ y ∷ []) behind) where
  none_paste_cases : ((p : Where × Text) → IsPlacedName p (x, y) → ⊥) → (w : Where) (k : Option ℕ) (n : Text) → IsForm keywords.Paste (commands.Paste w k n) behind → ⊥
  none_paste_cases none w None n g =
      let s = closed_same (x ∷ y ∷ []) (place_text w ∷ n ∷ []) behind f (closed_form keywords.Paste (commands.Paste w None n) behind g refl) in
      none (w, n) ((g.formed.0, ap (λ l. word l 0) s), (g.formed.2, ap (λ l. word l 1) s))
  none_paste_cases none w (Some k) n g =
      let s = closed_same (x ∷ y ∷ []) (place_text w ∷ decimal k ∷ n ∷ []) behind f (closed_form keywords.Paste (commands.Paste w (Some k) n) behind g refl) in
      let p : ◌≡◌ {A = ℕ} 2 3 = ap length s in
      omega arith

  pub none_paste : ((p : Where × Text) → IsPlacedName p (x, y) → ⊥) → (c : Command) → IsForm keywords.Paste c behind → ⊥
  none_paste none c h =
      let (w, k, n, e, g) = parts.parts_paste c behind h in
      none_paste_cases none w k n g

  pub some_paste : (w : Where) (n : Text) → IsPlacedName (w, n) (x, y) → IsForm keywords.Paste (commands.Paste w None n) behind
  some_paste w n p = record {
    formed = (p.0.0, tt, p.1.0);
    keyword = refl;
    written = moved (x ∷ y ∷ []) (place_text w ∷ n ∷ []) None behind (two p.0.1 p.1.1) f.1;
  }

module _ (x y z behind : Text) (f : IsClosed (x ∷ y ∷ z ∷ []) behind) where
  paste_fields : (w : Where) (k : Option ℕ) (n : Text) → IsForm keywords.Paste (commands.Paste w k n) behind → (i : ℕ) × (k ≡ Some i) × IsNumber i × ((x ∷ y ∷ z ∷ []) ≡ place_text w ∷ decimal i ∷ n ∷ [])
  paste_fields w None n g =
      let s = closed_same (x ∷ y ∷ z ∷ []) (place_text w ∷ n ∷ []) behind f (closed_form keywords.Paste (commands.Paste w None n) behind g refl) in
      let p : ◌≡◌ {A = ℕ} 3 2 = ap length s in
      absurd (let q : ⊥ = omega arith in q)
  paste_fields w (Some i) n g =
      (i, refl, g.formed.1, closed_same (x ∷ y ∷ z ∷ []) (place_text w ∷ decimal i ∷ n ∷ []) behind f (closed_form keywords.Paste (commands.Paste w (Some i) n) behind g refl))

  pub none_paste_number : ((k : ℕ) → IsNumeral k y → ⊥) → (c : Command) → IsForm keywords.Paste c behind → ⊥
  none_paste_number none c h =
      let (w, k, n, e, g) = parts.parts_paste c behind h in
      let (i, is, small, s) = paste_fields w k n g in
      none i (small, ap (λ l. word l 1) s)

  pub none_paste_placed : ((p : Where × Text) → IsPlacedName p (x, z) → ⊥) → (c : Command) → IsForm keywords.Paste c behind → ⊥
  none_paste_placed none c h =
      let (w, k, n, e, g) = parts.parts_paste c behind h in
      let (i, is, small, s) = paste_fields w k n g in
      none (w, n) ((g.formed.0, ap (λ l. word l 0) s), (g.formed.2, ap (λ l. word l 2) s))

  pub some_paste_number : (w : Where) (k : ℕ) (n : Text) → IsNumeral k y → IsPlacedName (w, n) (x, z) → IsForm keywords.Paste (commands.Paste w (Some k) n) behind
  some_paste_number w k n d p = record {
    formed = (p.0.0, d.0, p.1.0);
    keyword = refl;
    written = moved (x ∷ y ∷ z ∷ []) (place_text w ∷ decimal k ∷ n ∷ []) None behind (three p.0.1 d.1 p.1.1) f.1;
  }

-- `screen TOP LEFT ROWS COLS`

pub words_screen : (ws : Words) (behind : Text) → AreWords behind ws → ((x y z q : Bor Text) → ws ≡ Four x y z q → ⊥) → (c : Command) → IsForm keywords.Screen c behind → ⊥
words_screen ws behind a none c h =
    let (top, left, rows, cols, e, f) = parts.parts_screen c behind h in
    not_four ws behind (decimal top) (decimal left) (decimal rows) (decimal cols) a none (closed_form keywords.Screen (commands.Screen top left rows cols) behind f refl)

module _ (x y z q behind : Text) (f : IsClosed (x ∷ y ∷ z ∷ q ∷ []) behind) where
  screen_fields : (top left rows cols : ℕ) → IsForm keywords.Screen (commands.Screen top left rows cols) behind → (x ∷ y ∷ z ∷ q ∷ []) ≡ decimal top ∷ decimal left ∷ decimal rows ∷ decimal cols ∷ []
  screen_fields top left rows cols g = closed_same (x ∷ y ∷ z ∷ q ∷ []) (decimal top ∷ decimal left ∷ decimal rows ∷ decimal cols ∷ []) behind f (closed_form keywords.Screen (commands.Screen top left rows cols) behind g refl)

  pub none_screen_top : ((k : ℕ) → IsNumeral k x → ⊥) → (c : Command) → IsForm keywords.Screen c behind → ⊥
  none_screen_top none c h =
      let (top, left, rows, cols, e, g) = parts.parts_screen c behind h in
      none top (g.formed.0, ap (λ l. word l 0) (screen_fields top left rows cols g))

  pub none_screen_left : ((k : ℕ) → IsNumeral k y → ⊥) → (c : Command) → IsForm keywords.Screen c behind → ⊥
  none_screen_left none c h =
      let (top, left, rows, cols, e, g) = parts.parts_screen c behind h in
      none left (g.formed.1, ap (λ l. word l 1) (screen_fields top left rows cols g))

  pub none_screen_rows : ((k : ℕ) → IsNumeralUpTo 200 k z → ⊥) → (c : Command) → IsForm keywords.Screen c behind → ⊥
  none_screen_rows none c h =
      let (top, left, rows, cols, e, g) = parts.parts_screen c behind h in
      let small : rows < 2 ^ 32 = omega (arith, g.formed.3) in
      none rows ((small, ap (λ l. word l 2) (screen_fields top left rows cols g)), g.formed.2, g.formed.3)

  pub none_screen_cols : ((k : ℕ) → IsNumeralUpTo 400 k q → ⊥) → (c : Command) → IsForm keywords.Screen c behind → ⊥
  none_screen_cols none c h =
      let (top, left, rows, cols, e, g) = parts.parts_screen c behind h in
      let small : cols < 2 ^ 32 = omega (arith, g.formed.5) in
      none cols ((small, ap (λ l. word l 3) (screen_fields top left rows cols g)), g.formed.4, g.formed.5)

  pub some_screen : (top left rows cols : ℕ) → IsNumeral top x → IsNumeral left y → IsNumeralUpTo 200 rows z → IsNumeralUpTo 400 cols q → IsForm keywords.Screen (commands.Screen top left rows cols) behind
  some_screen top left rows cols a b c d = record {
    formed = (a.0, b.0, c.1, c.2, d.1, d.2);
    keyword = refl;
    written = moved (x ∷ y ∷ z ∷ q ∷ []) (decimal top ∷ decimal left ∷ decimal rows ∷ decimal cols ∷ []) None behind (four a.1 b.1 c.0.1 d.0.1) f.1;
  }

-- `over PATH TEXT`

pub words_over : (behind : Text) → ((ws : List Text) (text : Text) → length ws ≡ 1 → IsOpen ws text behind → ⊥) → (c : Command) → IsForm keywords.Over c behind → ⊥
words_over behind none c h =
    let (w, t, e, g) = parts.parts_over c behind h in
    none (place_text w ∷ []) t refl (open_form keywords.Over (commands.Over w t) t behind g g.formed.1 refl)

pub none_over : (x text behind : Text) → IsOpen (x ∷ []) text behind → ((w : Where) → IsPlaceWord w x → ⊥) → (c : Command) → IsForm keywords.Over c behind → ⊥
none_over x text behind f none c h =
    let (w, t, e, g) = parts.parts_over c behind h in
    let s = open_same (x ∷ []) (place_text w ∷ []) text t behind refl f (open_form keywords.Over (commands.Over w t) t behind g g.formed.1 refl) in
    none w (g.formed.0, ap (λ l. word l 0) s.0)

pub some_over : (x text behind : Text) (w : Where) → IsOpen (x ∷ []) text behind → IsPlaceWord w x → IsForm keywords.Over (commands.Over w text) behind
some_over x text behind w f p = record {
  formed = (p.0, f.1);
  keyword = refl;
  written = moved (x ∷ []) (place_text w ∷ []) (Some text) behind (one p.1) f.2;
}

-- `range START END TEXT`

pub words_range : (behind : Text) → ((ws : List Text) (text : Text) → length ws ≡ 2 → IsOpen ws text behind → ⊥) → (c : Command) → IsForm keywords.Range c behind → ⊥
words_range behind none c h =
    let (i, j, t, e, g) = parts.parts_range c behind h in
    none (decimal i ∷ decimal j ∷ []) t refl (open_form keywords.Range (commands.Range i j t) t behind g g.formed.2 refl)

module _ (x y text behind : Text) (f : IsOpen (x ∷ y ∷ []) text behind) where
  range_fields : (i j : ℕ) (t : Text) → IsForm keywords.Range (commands.Range i j t) behind → (x ∷ y ∷ []) ≡ decimal i ∷ decimal j ∷ []
  range_fields i j t g = (open_same (x ∷ y ∷ []) (decimal i ∷ decimal j ∷ []) text t behind refl f (open_form keywords.Range (commands.Range i j t) t behind g g.formed.2 refl)).0

  pub none_range_start : ((k : ℕ) → IsNumeral k x → ⊥) → (c : Command) → IsForm keywords.Range c behind → ⊥
  none_range_start none c h =
      let (i, j, t, e, g) = parts.parts_range c behind h in
      none i (g.formed.0, ap (λ l. word l 0) (range_fields i j t g))

  pub none_range_end : ((k : ℕ) → IsNumeral k y → ⊥) → (c : Command) → IsForm keywords.Range c behind → ⊥
  none_range_end none c h =
      let (i, j, t, e, g) = parts.parts_range c behind h in
      none j (g.formed.1, ap (λ l. word l 1) (range_fields i j t g))

  pub some_range : (i j : ℕ) → IsNumeral i x → IsNumeral j y → IsForm keywords.Range (commands.Range i j text) behind
  some_range i j a b = record {
    formed = (a.0, b.0, f.1);
    keyword = refl;
    written = moved (x ∷ y ∷ []) (decimal i ∷ decimal j ∷ []) (Some text) behind (two a.1 b.1) f.2;
  }

-- `refine PATH OP ARGS`

pub words_refine : (behind : Text) → ((ws : List Text) (text : Text) → length ws ≡ 2 → IsOpen ws text behind → ⊥) → (c : Command) → IsForm keywords.Refine c behind → ⊥
words_refine behind none c h =
    let (w, op, t, e, g) = parts.parts_refine c behind h in
    none (place_text w ∷ op ∷ []) t refl (open_form keywords.Refine (commands.Refine w op t) t behind g g.formed.2 refl)

module _ (x y text behind : Text) (f : IsOpen (x ∷ y ∷ []) text behind) where
  pub none_refine : ((p : Where × Text) → IsPlacedName p (x, y) → ⊥) → (c : Command) → IsForm keywords.Refine c behind → ⊥
  none_refine none c h =
      let (w, op, t, e, g) = parts.parts_refine c behind h in
      let s = open_same (x ∷ y ∷ []) (place_text w ∷ op ∷ []) text t behind refl f (open_form keywords.Refine (commands.Refine w op t) t behind g g.formed.2 refl) in
      none (w, op) ((g.formed.0, ap (λ l. word l 0) s.0), (g.formed.1, ap (λ l. word l 1) s.0))

  pub some_refine : (w : Where) (op : Text) → IsPlacedName (w, op) (x, y) → IsForm keywords.Refine (commands.Refine w op text) behind
  some_refine w op p = record {
    formed = (p.0.0, p.1.0, f.1);
    keyword = refl;
    written = moved (x ∷ y ∷ []) (place_text w ∷ op ∷ []) (Some text) behind (two p.0.1 p.1.1) f.2;
  }

-- `insert PATH K OP ARGS`

pub words_insert : (behind : Text) → ((ws : List Text) (text : Text) → length ws ≡ 3 → IsOpen ws text behind → ⊥) → (c : Command) → IsForm keywords.Insert c behind → ⊥
words_insert behind none c h =
    let (w, k, op, t, e, g) = parts.parts_insert c behind h in
    none (place_text w ∷ decimal k ∷ op ∷ []) t refl (open_form keywords.Insert (commands.Insert w k op t) t behind g g.formed.3 refl)

module _ (x y z text behind : Text) (f : IsOpen (x ∷ y ∷ z ∷ []) text behind) where
  insert_fields : (w : Where) (k : ℕ) (op t : Text) → IsForm keywords.Insert (commands.Insert w k op t) behind → (x ∷ y ∷ z ∷ []) ≡ place_text w ∷ decimal k ∷ op ∷ []
  insert_fields w k op t g = (open_same (x ∷ y ∷ z ∷ []) (place_text w ∷ decimal k ∷ op ∷ []) text t behind refl f (open_form keywords.Insert (commands.Insert w k op t) t behind g g.formed.3 refl)).0

  pub none_insert_number : ((k : ℕ) → IsNumeral k y → ⊥) → (c : Command) → IsForm keywords.Insert c behind → ⊥
  none_insert_number none c h =
      let (w, k, op, t, e, g) = parts.parts_insert c behind h in
      none k (g.formed.1, ap (λ l. word l 1) (insert_fields w k op t g))

  pub none_insert : ((p : Where × Text) → IsPlacedName p (x, z) → ⊥) → (c : Command) → IsForm keywords.Insert c behind → ⊥
  none_insert none c h =
      let (w, k, op, t, e, g) = parts.parts_insert c behind h in
      none (w, op) ((g.formed.0, ap (λ l. word l 0) (insert_fields w k op t g)), (g.formed.2, ap (λ l. word l 2) (insert_fields w k op t g)))

  pub some_insert : (w : Where) (k : ℕ) (op : Text) → IsNumeral k y → IsPlacedName (w, op) (x, z) → IsForm keywords.Insert (commands.Insert w k op text) behind
  some_insert w k op d p = record {
    formed = (p.0.0, d.0, p.1.0, f.1);
    keyword = refl;
    written = moved (x ∷ y ∷ z ∷ []) (place_text w ∷ decimal k ∷ op ∷ []) (Some text) behind (three p.0.1 d.1 p.1.1) f.2;
  }
