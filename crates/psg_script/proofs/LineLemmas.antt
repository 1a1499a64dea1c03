-- Laws of lines that are made word by word, and of the lines of the large script.
use Rattle.std.proofs.Common.{◌≡◌, ℕ, suc, ◌+◌, ◌<◌, ◌≤◌, length, get_or, take, List, [], ◌∷◌, ◌++◌, Option, Some, None, refl, sym, ap, subst, ◌∙◌, arith, append_assoc, take_all}
use Rattle.std.specs.Str.{IsUtf8}
use Rattle.psg_script.specs.Forms.{Text, IsCommand, Follow, IsLineOf, Spells, tail_of}
use Rattle.psg_script.specs.Keywords.{keyword_of, keyword_text, fields_of}
use Rattle.psg_script.specs.Lines.{with_words, with_tail}
use Rattle.psg_script.specs.declared.command.Command.{Command}
use Rattle.psg_script.proofs.PartLemmas.{words_are}
use Rattle.psg_script.proofs.StepLemmas.{steps_text_push}
use Rattle.psg_script.specs.Forms.{steps_text}
use Rattle.psg_script.specs.Script.{numbers_down, declare_lines, assign_lines, script_lines, with_feeds}
use Rattle.std.proofs.lemmas.List.{take_more}
use Rattle.std.specs.List.{flat_map}
use Rattle.std.specs.Prelude.{codes, decimal}

append_nil : (x : Text) → x ≡ x ++ []
append_nil [] = refl
append_nil (b ∷ bs) = ap (λ t. b ∷ t) (append_nil bs)

-- what words and a text put behind a line
made_behind : (line : Text) (ws : List Text) (tail : Option Text) → (after : Text) × (with_tail (with_words line ws) tail ≡ line ++ after) × Follow ws tail after
made_behind line [] None = ([], append_nil line, (0, refl))
made_behind line [] (Some []) = ([], append_nil line, (0, refl, λ _. refl))
made_behind line [] (Some (b ∷ bs)) = (32 ∷ b ∷ bs, refl, (1, refl, λ e. absurd (one_is_some e))) where
  one_is_some : ◌≡◌ {A = ℕ} 1 0 → ⊥
  one_is_some e = omega arith
made_behind line (w ∷ ws) tail =
    let (after, e, f) = made_behind (line ++ 32 ∷ w) ws tail in
    (32 ∷ (w ++ after), e ∙ append_assoc line (32 ∷ w) after, (0, after, refl, f))

pub made_spells : (line : Text) (c : Command) → IsUtf8 line → IsCommand c → line ≡ with_tail (with_words (keyword_text (keyword_of c)) (fields_of c)) (tail_of c) → Spells line c
made_spells line c u h e =
    let (after, is, f) = made_behind (keyword_text (keyword_of c)) (fields_of c) (tail_of c) in
    record { utf8 = u; formed = h; written = subst (λ ws. IsLineOf ws (tail_of c) line) (sym (words_are c)) (after, e ∙ is, f) }

-- Steps.

pub more_steps : (old line new : Text) (ks : List ℕ) (i : ℕ) → i < length ks → line ≡ old ++ steps_text (take i ks) → new ≡ line ++ (47 ∷ decimal (get_or ks i 0)) → new ≡ old ++ steps_text (take (i + 1) ks)
more_steps old line new ks i l e f =
    let last : steps_text (take (i + 1) ks) ≡ steps_text (take i ks) ++ (47 ∷ decimal (get_or ks i 0)) = ap steps_text (take_more ks i 0 l) ∙ steps_text_push (take i ks) (get_or ks i 0) in
    f ∙ (ap (λ t. t ++ (47 ∷ decimal (get_or ks i 0))) e ∙ (append_assoc old (steps_text (take i ks)) (47 ∷ decimal (get_or ks i 0)) ∙ ap (λ t. old ++ t) (sym last)))

pub all_steps : (old line : Text) (ks : List ℕ) (i : ℕ) → length ks ≤ i → line ≡ old ++ steps_text (take i ks) → line ≡ old ++ steps_text ks
all_steps old line ks i l e = e ∙ ap (λ t. old ++ steps_text t) (take_all i ks l)

pub no_steps_yet : (line : Text) → line ≡ line ++ []
no_steps_yet = append_nil

-- The large script.

abbrev pub declared : ℕ → Text
declared i = codes "insert /0 0 vardecl v" ++ (decimal i ++ (10 ∷ (codes "refine /0/0/0 tint" ++ 10 ∷ [])))

abbrev pub assigned : ℕ → Text
assigned i =
    codes "insert /1 0 assign v"
    ++ (decimal i
    ++ (10 ∷ (codes "refine /1/0/0 plus"
    ++ (10 ∷ (codes "refine /1/0/0/0 ref v"
    ++ (decimal i
    ++ (10 ∷ (codes "refine /1/0/0/1 num "
    ++ (decimal i
    ++ (10 ∷ []))))))))))

pub declare_more : (old new total : Text) (count i : ℕ) → count ≡ suc i → new ≡ old ++ declared i → old ++ with_feeds (flat_map declare_lines (numbers_down count)) ≡ total → new ++ with_feeds (flat_map declare_lines (numbers_down i)) ≡ total
declare_more old new total count i n e f =
    let whole = subst (λ k. old ++ with_feeds (flat_map declare_lines (numbers_down k)) ≡ total) n f in
    ap (λ t. t ++ with_feeds (flat_map declare_lines (numbers_down i))) e
    ∙ (append_assoc old (declared i) (with_feeds (flat_map declare_lines (numbers_down i)))
    ∙ (ap (λ t. old ++ t) (step (with_feeds (flat_map declare_lines (numbers_down i)))) ∙ whole)) where
      step : (rest : Text) → declared i ++ rest ≡ (codes "insert /0 0 vardecl v" ++ decimal i) ++ 10 ∷ (codes "refine /0/0/0 tint" ++ 10 ∷ rest)
      step rest = simp append_assoc

pub assign_more : (old new total : Text) (count i : ℕ) → count ≡ suc i → new ≡ old ++ assigned i → old ++ with_feeds (flat_map assign_lines (numbers_down count)) ≡ total → new ++ with_feeds (flat_map assign_lines (numbers_down i)) ≡ total
assign_more old new total count i n e f =
    let whole = subst (λ k. old ++ with_feeds (flat_map assign_lines (numbers_down k)) ≡ total) n f in
    ap (λ t. t ++ with_feeds (flat_map assign_lines (numbers_down i))) e
    ∙ (append_assoc old (assigned i) (with_feeds (flat_map assign_lines (numbers_down i)))
    ∙ (ap (λ t. old ++ t) (step (with_feeds (flat_map assign_lines (numbers_down i)))) ∙ whole)) where
      step : (rest : Text) → assigned i ++ rest ≡ (codes "insert /1 0 assign v" ++ decimal i) ++ 10 ∷ (codes "refine /1/0/0 plus" ++ 10 ∷ ((codes "refine /1/0/0/0 ref v" ++ decimal i) ++ 10 ∷ ((codes "refine /1/0/0/1 num " ++ decimal i) ++ 10 ∷ rest)))
      step rest = simp append_assoc

-- with no number left nothing is left to write
pub none_left : (line total : Text) (f : ℕ → List Text) (count : ℕ) → count ≤ 0 → line ++ with_feeds (flat_map f (numbers_down count)) ≡ total → line ≡ total
none_left line total f count l e =
    let none : count ≡ 0 = omega arith in
    append_nil line ∙ subst (λ k. line ++ with_feeds (flat_map f (numbers_down k)) ≡ total) none e

with_feeds_append : (xs ys : List Text) → with_feeds (xs ++ ys) ≡ with_feeds xs ++ with_feeds ys
with_feeds_append [] ys = refl
with_feeds_append (x ∷ xs) ys = ap (λ t. x ++ 10 ∷ t) (with_feeds_append xs ys) ∙ sym (append_assoc x (10 ∷ with_feeds xs) (with_feeds ys))

module _ (n : ℕ) where
  abbrev pub first_lines : Text
  first_lines = codes "new Stat" ++ 10 ∷ (codes "refine / block" ++ 10 ∷ [])

  abbrev pub middle_line : Text
  middle_line = codes "close /0" ++ 10 ∷ []

  abbrev pub last_lines : Text
  last_lines = codes "insert /1 0 while" ++ 10 ∷ (codes "menu /1/0/0" ++ 10 ∷ [])

  abbrev pub declarations : Text
  declarations = with_feeds (flat_map declare_lines (numbers_down n))

  abbrev pub assignments : Text
  assignments = with_feeds (flat_map assign_lines (numbers_down n))

  pub whole_script : (a b c d e : Text) → a ≡ first_lines → b ≡ a ++ declarations → c ≡ b ++ middle_line → d ≡ c ++ assignments → e ≡ d ++ last_lines → e ≡ with_feeds (script_lines n)
  whole_script a b c d e ea eb ec ed ee =
      let behind : with_feeds (flat_map assign_lines (numbers_down n) ++ (codes "insert /1 0 while" ∷ codes "menu /1/0/0" ∷ [])) ≡ assignments ++ last_lines = with_feeds_append (flat_map assign_lines (numbers_down n)) (codes "insert /1 0 while" ∷ codes "menu /1/0/0" ∷ []) in
      let rest = with_feeds_append (flat_map declare_lines (numbers_down n)) (codes "close /0" ∷ (flat_map assign_lines (numbers_down n) ++ (codes "insert /1 0 while" ∷ codes "menu /1/0/0" ∷ []))) ∙ ap (λ t. declarations ++ (middle_line ++ t)) behind in
      let made : e ≡ (((a ++ declarations) ++ middle_line) ++ assignments) ++ last_lines = ee ∙ ap (λ t. t ++ last_lines) (ed ∙ ap (λ t. t ++ assignments) (ec ∙ ap (λ t. t ++ middle_line) eb)) in
      made ∙ (grouped a declarations middle_line assignments last_lines ∙ (ap (λ t. t ++ (declarations ++ (middle_line ++ (assignments ++ last_lines)))) ea ∙ ap (λ t. first_lines ++ t) (sym rest))) where
        grouped : (u v w x y : Text) → (((u ++ v) ++ w) ++ x) ++ y ≡ u ++ (v ++ (w ++ (x ++ y)))
        grouped u v w x y = simp append_assoc
