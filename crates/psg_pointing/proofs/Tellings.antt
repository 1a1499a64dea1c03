-- What a node is in words, and the bytes of tokens.
use Rattle.std.proofs.Common.{◌≡◌, ◌==◌, ◌<◌, ◌≤◌, Bor, Bool, true, false, cond, ℕ, zero, suc, List, [], ◌∷◌, length, Option, Some, None, Result, Ok, Err, slice_get, refl, ap, sym, subst, ◌∙◌, arith}
use Rattle.std.specs.Prelude.{String, Vec, map, option_map, string_bytes}
use Rattle.std.specs.declared.alloc.Global.{Global}
use Rattle.std.specs.Option.{option_copied}
use Rattle.std.specs.Str.{IsUtf8}
use Rattle.std.proofs.lemmas.Option.{none-some, slice_get_past}
use Rattle.psg_grammar.specs.declared.types.Definition.{Definition}
use Rattle.psg_grammar.specs.declared.types.Kind.{Kind}
use Rattle.psg_grammar.specs.Fragments.{Fragment, operator}
use Rattle.psg_grammar.specs.Paths.{Path}
use Rattle.psg_grammar.specs.WellFormed.{fixed_words}
use Rattle.psg_lexis.specs.declared.token.Spanned.{Spanned}
use Rattle.psg_class.specs.Texts.{TextTokens}
use Rattle.psg_program.proofs.TokenBytes.{end_between, start_between}
use Rattle.psg_ranges.specs.declared.ranges.Range.{Range}
use Rattle.psg_ranges.specs.Owns.{end_before, end_of}
use Rattle.psg_tree.specs.declared.tree.Part.{Part}
use Rattle.psg_tree.specs.declared.tree.Part.TheVariants.{Sub, Name, Number, Text}
use Rattle.psg_tree.specs.Shapes.{list_of, with_parts}
use Rattle.psg_session.specs.declared.refusal.Refusal.{Refusal}
use Rattle.psg_asking.specs.Asked.{IsToldOf, Read, relation_of}
use Rattle.psg_asking.specs.Told.{lines_told, or_none, read_of}
use Rattle.psg_pointing.specs.Hovering.{head_of, lines_of, list_name, operator_head, spot_at}
use Rattle.psg_pointing.specs.Pointing.{begin_of, finish_of, start_of}

-- no token is before a number that is too large
pub none_before : (ts : List Spanned) (n : ℕ) → length ts < n → 0 ≡ end_before ts n
none_before ts zero h = absurd (omega (arith, h))
none_before ts (suc n) h = sym (ap end_of (slice_get_past ts n (omega (arith, h))))

head_with : (def : Definition) (f : Fragment) (parts : List Part) → head_of def (with_parts f parts) ≡ head_of def f
head_with def f [] = refl
head_with def f (Sub t ∷ parts) = head_with def _ parts
head_with def f (Name n ∷ parts) = head_with def _ parts
head_with def f (Number n ∷ parts) = head_with def _ parts
head_with def f (Text t ∷ parts) = head_with def _ parts

pub operator_told : (def : Definition) (f : Fragment) (op : ℕ) (parts : List Part)
    → with_parts (operator op) parts ≡ f → operator_head def (slice_get def.operators op) ≡ head_of def f
operator_told def f op parts e = sym (head_with def (operator op) parts) ∙ ap (head_of def) e

list_head : (def : Definition) (l : ℕ) (es : List Fragment) (u : Bool)
    → head_of def (list_of l es u) ≡ list_name (slice_get def.lists l)
list_head def l [] u = refl
list_head def l (e ∷ es) u = refl

pub list_told : (def : Definition) (f : Fragment) (l : ℕ) (es : List Fragment) (u : Bool)
    → list_of l es u ≡ f → list_name (slice_get def.lists l) ≡ head_of def f
list_told def f l es u e = sym (list_head def l es u) ∙ ap (head_of def) e

-- ---- bytes of a text

module _ (def : Definition) (text : List ℕ) (utf8 : IsUtf8 text) (ts : List Spanned) (are : TextTokens def text ts) where
  start_by : (n : ℕ) (o : Option Spanned) → slice_get ts n ≡ o → start_of o ≤ length text
  start_by n None e = omega arith
  start_by n (Some t) e = (start_between text utf8 (fixed_words def) ts are n t e).0

  end_by : (n : ℕ) (o : Option Spanned) → slice_get ts n ≡ o → end_of o ≤ length text
  end_by n None e = omega arith
  end_by n (Some t) e = (end_between text utf8 (fixed_words def) ts are n t e).0

  end_within : (n : ℕ) → end_before ts n ≤ length text
  end_within zero = omega arith
  end_within (suc n) = end_by n (slice_get ts n) refl

  either : (b : Bool) (x y : ℕ) → x ≤ length text → y ≤ length text → cond b x y ≤ length text
  either true x y a b = a
  either false x y a b = b

  pub begin_within : (r : Range) → begin_of ts r ≤ length text
  begin_within r = either (r.start == r.end) _ _ (end_within r.start) (start_by r.start (slice_get ts r.start) refl)

  pub finish_within : (r : Range) → finish_of ts r ≤ length text
  finish_within r = end_within r.end

-- ---- what is found at a path

pub some_found : {X : Type 0} (o : Option (Bor X)) (x : Bor X) (r : Option X) → o ≡ Some x → option_copied o ≡ r
    → r ≡ Some x.now
some_found o x r e h = sym h ∙ ap option_copied e

pub none_found : {X : Type 0} (o : Option (Bor X)) (r : Option X) (x : X) → o ≡ None → option_copied o ≡ r → r ≡ Some x
    → ⊥
none_found o r x e h is = none-some x (sym (sym h ∙ ap option_copied e) ∙ is)

-- ---- lines

abbrev Answer : Type 0
Answer = Result (Vec (String Global) Global) Refusal

pub ok_lines : (head : List ℕ) (told : Answer) (more : Vec (String Global) Global) (items : List (String Global))
    (line : String Global) → told ≡ Ok more → string_bytes line ≡ head → items ≡ line ∷ more.items
    → map string_bytes items ≡ head ∷ or_none (read_of told)
ok_lines head told more items line is h e =
    ap (map string_bytes) e ∙ ap (λ b. b ∷ map string_bytes more.items) h
    ∙ ap (λ (t : Answer). head ∷ or_none (read_of t)) (sym is)

pub err_lines : (head : List ℕ) (told : Answer) (refusal : Refusal) (items : List (String Global)) → told ≡ Err refusal
    → map string_bytes items ≡ head ∷ [] → map string_bytes items ≡ head ∷ or_none (read_of told)
err_lines head told refusal items is e = e ∙ ap (λ (t : Answer). head ∷ or_none (read_of t)) (sym is)

pub some_lines : (head : List ℕ) (read : Option Answer) (told : Answer) (items : List (String Global)) → read ≡ Some told
    → map string_bytes items ≡ head ∷ or_none (read_of told)
    → map string_bytes items ≡ head ∷ lines_of (option_map read_of read)
some_lines head read told items is e =
    e ∙ ap (λ (r : Option Answer). head ∷ lines_of (option_map read_of r)) (sym is)

pub none_lines : (head : List ℕ) (read : Option Answer) (items : List (String Global)) → read ≡ None
    → map string_bytes items ≡ head ∷ [] → map string_bytes items ≡ head ∷ lines_of (option_map read_of read)
none_lines head read items is e = e ∙ ap (λ (r : Option Answer). head ∷ lines_of (option_map read_of r)) (sym is)

-- ---- what is told of a program

abbrev pub IsRelationTold : Definition → Kind → Fragment → Path → Option Read → Type 0
IsRelationTold def kind f path told = IsToldOf def kind f (spot_at path) relation_of lines_told told

pub told_as : (d def : Definition) (k kind : Kind) (g f : Fragment) (path : Path) (told : Option Read) → d ≡ def
    → k ≡ kind → g ≡ f → IsRelationTold d k g path told → IsRelationTold def kind f path told
told_as d def k kind g f path told a b c h =
    subst (λ t. IsRelationTold def kind t path told) c
    (subst (λ x. IsRelationTold def x g path told) b (subst (λ x. IsRelationTold x k g path told) a h))
