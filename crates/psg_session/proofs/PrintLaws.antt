-- Texts and their lines, and the listed nodes of a tree.
use Rattle.std.proofs.Common.{◌≡◌, inl, inr, ℕ, Bool, ◌+◌, ◌==◌, List, [], ◌∷◌, ◌++◌, length, map, Option, Some, None, slice_get, refl, sym, ap, ◌∙◌, subst, append_assoc, append-nil, arith}
use Rattle.std.specs.List.{join_with_byte}
use Rattle.std.specs.Prelude.{codes, decimal, option_map}
use Rattle.std.proofs.lemmas.Bool.{cases_order}
use Rattle.std.proofs.lemmas.List.Splits.{join_with_byte-slice_split, length-slice_split}
use Rattle.std.proofs.lemmas.Option.{none-some, slice_get-map}
use Rattle.psg_terms.specs.Names.{Name}
use Rattle.psg_grammar.specs.declared.types.Definition.{Definition}
use Rattle.psg_grammar.specs.Fragments.{Fragment, operator}
use Rattle.psg_grammar.specs.Paths.{Path}
use Rattle.psg_tree.specs.AbstractText.{operator_name}
use Rattle.psg_tree.specs.declared.tree.Part.{Part}
use Rattle.psg_tree.specs.declared.tree.Part.TheVariants.{Sub, Name as PartName, Number, Text}
use Rattle.psg_tree.specs.declared.tree.Shape.{Shape}
use Rattle.psg_tree.specs.declared.tree.Shape.TheVariants.{Op, List as ListOf, Hole}
use Rattle.psg_tree.specs.Shapes.{with_part, with_parts, list_of, tree_of}
use Rattle.psg_unparse.specs.Spots.{Placed, placed_in}
use Rattle.psg_unparse.specs.Spans.{span_of}
use Rattle.psg_unparse.specs.declared.spans.Span.{Span}
use Rattle.psg_session.specs.Marked.{path_text}
use Rattle.psg_session.specs.Printing.{goto_line, lines_in, node_words, what_is, HasNoSpan, IsFirstSpan, IsWrittenAt}
use Rattle.psg_session.specs.Replies.{feed, feed_all}
use Rattle.psg_session.proofs.StepLaws.{some_once}

-- ---- lines

some_line : (parts : List (List ℕ)) (n : ℕ) → length parts ≡ n + 1 → (l : List ℕ) × (ls : List (List ℕ)) × (parts ≡ l ∷ ls)
some_line [] n e = let z : 0 ≡ n + 1 = e in absurd (omega (arith, z))
some_line (l ∷ ls) n e = (l, ls, refl)

feed_joined : (l : List ℕ) (ls : List (List ℕ)) → feed_all (l ∷ ls) ≡ join_with_byte 10 (l ∷ ls) ++ 10 ∷ []
feed_joined l [] = append-nil (l ++ 10 ∷ [])
feed_joined l (m ∷ ms) =
    append_assoc l (10 ∷ []) (feed_all (m ∷ ms)) ∙ ap (λ (r : List ℕ). l ++ 10 ∷ r) (feed_joined m ms)
    ∙ sym (append_assoc l (10 ∷ join_with_byte 10 (m ∷ ms)) (10 ∷ []))

-- the lines of a text, each with its line feed, are the text with one more
feed_lines : (text : List ℕ) → feed_all (lines_in text) ≡ text ++ 10 ∷ []
feed_lines text =
    let (l, ls, is) = some_line (lines_in text) _ (length-slice_split (λ (b : ℕ). b == 10) text) in
    ap feed_all is ∙ feed_joined l ls ∙ ap (λ t. join_with_byte 10 t ++ 10 ∷ []) (sym is)
    ∙ ap (λ (t : List ℕ). t ++ 10 ∷ []) (join_with_byte-slice_split 10 text)

feed_append : (xs ys : List (List ℕ)) → feed_all (xs ++ ys) ≡ feed_all xs ++ feed_all ys
feed_append [] ys = refl
feed_append (x ∷ xs) ys = ap (λ t. feed x ++ t) (feed_append xs ys) ∙ sym (append_assoc (feed x) (feed_all xs) (feed_all ys))

-- a text that grew by a shown text and then by a mark
pub shown_written : (old text m t1 t2 t3 : List ℕ) → t1 ≡ old ++ feed text → t2 ≡ t1 ++ m → t3 ≡ t2 ++ 10 ∷ []
    → t3 ≡ old ++ feed_all (lines_in text ++ m ∷ [])
shown_written old text m t1 t2 t3 e1 e2 e3 =
    let last : t2 ++ 10 ∷ [] ≡ t1 ++ (m ++ 10 ∷ []) =
    ap (λ (t : List ℕ). t ++ 10 ∷ []) e2 ∙ append_assoc t1 m (10 ∷ []) in
    let front : t1 ++ feed m ≡ old ++ (feed text ++ feed m) =
    ap (λ (t : List ℕ). t ++ feed m) e1 ∙ append_assoc old (feed text) (feed m) in
    let lines : feed text ++ feed m ≡ feed_all (lines_in text ++ m ∷ []) =
    ap (λ (t : List ℕ). t ++ feed m) (sym (feed_lines text))
    ∙ ap (λ (t : List ℕ). feed_all (lines_in text) ++ t) (sym (append-nil (feed m)))
    ∙ sym (feed_append (lines_in text) (m ∷ [])) in
    e3 ∙ last ∙ front ∙ ap (λ (t : List ℕ). old ++ t) lines

-- a text that grew by the words of a node
pub words_written : (kind what : Name) (s : Span) (old t1 t2 t3 t4 : List ℕ) → t1 ≡ old ++ 32 ∷ kind
    → t2 ≡ t1 ++ 32 ∷ what → t3 ≡ t2 ++ 32 ∷ decimal s.start → t4 ≡ t3 ++ 32 ∷ decimal s.end
    → t4 ≡ old ++ node_words kind what s
words_written kind what s old t1 t2 t3 t4 e1 e2 e3 e4 =
    let w : List ℕ = 32 ∷ what in
    let a : List ℕ = 32 ∷ decimal s.start in
    let b : List ℕ = 32 ∷ decimal s.end in
    e4 ∙ ap (λ (t : List ℕ). t ++ b) e3 ∙ append_assoc t2 a b ∙ ap (λ (t : List ℕ). t ++ (a ++ b)) e2
    ∙ append_assoc t1 w (a ++ b) ∙ ap (λ (t : List ℕ). t ++ (w ++ (a ++ b))) e1
    ∙ append_assoc old (32 ∷ kind) (w ++ (a ++ b))

-- a text that begins with `at`, and grew by a path and by the words of a node
pub goto_written : (kind what : Name) (s : Span) (t0 t1 t2 : List ℕ) → t0 ≡ codes "at "
    → t1 ≡ t0 ++ path_text s.path → t2 ≡ t1 ++ node_words kind what s → t2 ≡ goto_line kind what s
goto_written kind what s t0 t1 t2 e0 e1 e2 =
    e2 ∙ ap (λ (t : List ℕ). t ++ node_words kind what s) (e1 ∙ ap (λ (t : List ℕ). t ++ path_text s.path) e0)
    ∙ append_assoc (codes "at ") (path_text s.path) (node_words kind what s)

module _ (def : Definition) where
  -- ---- what a node is

  what_part : (f : Fragment) (p : Part) → what_is def (with_part f p) ≡ what_is def f
  what_part f (Sub t) = refl
  what_part f (PartName n) = refl
  what_part f (Number n) = refl
  what_part f (Text t) = refl

  what_parts : (f : Fragment) (ps : List Part) → what_is def (with_parts f ps) ≡ what_is def f
  what_parts f [] = refl
  what_parts f (p ∷ ps) = what_parts (with_part f p) ps ∙ what_part f p

  pub what_operator : (node : Fragment) (s : Shape) (o : ℕ) (ps : List Part) → tree_of s ≡ node → s ≡ Op o ps
      → operator_name def o ≡ what_is def node
  what_operator node s o ps e is =
      sym (what_parts (operator o) ps) ∙ ap (what_is def) (sym (ap tree_of is) ∙ e)

  what_elements : (l : ℕ) (es : List Fragment) (u : Bool) → codes "list" ≡ what_is def (list_of l es u)
  what_elements l [] u = refl
  what_elements l (x ∷ es) u = refl

  pub what_list : (node : Fragment) (s : Shape) (l : ℕ) (es : List Fragment) (u : Bool) → tree_of s ≡ node
      → s ≡ ListOf l es u → codes "list" ≡ what_is def node
  what_list node s l es u e is = what_elements l es u ∙ ap (what_is def) (sym (ap tree_of is) ∙ e)

  pub what_hole : (node : Fragment) (s : Shape) (p : ℕ) → tree_of s ≡ node → s ≡ Hole p → codes "?" ≡ what_is def node
  what_hole node s p e is = ap (what_is def) (sym (ap tree_of is) ∙ e)

  -- ---- the first that is listed for a path

  one_place : (f : Fragment) (j k : ℕ) (p q : Placed) → slice_get (placed_in def f) j ≡ Some p
      → slice_get (placed_in def f) k ≡ Some q → j ≡ k → p ≡ q
  one_place f j k p q at there same =
      some_once p q (slice_get (placed_in def f) k) (subst (λ n. slice_get (placed_in def f) n ≡ Some p) same at) there

  -- it is one
  pub written_once : (f : Fragment) (path : Path) (p q : Placed) → IsWrittenAt def f path p → IsWrittenAt def f path q
      → p ≡ q
  written_once f path p q (j, at, is, before) (k, there, is', before') =
      elim (cases_order j k) [
        | inl same ↦ one_place f j k p q at there same
        | inr order ↦ elim order [
          | inl less ↦ absurd (before' j p less at is)
          | inr more ↦ absurd (before k q more there is')
        ]
      ]

  some_mapped : (o : Option Placed) (s : Span) → option_map (span_of def) o ≡ Some s
      → (p : Placed) × (o ≡ Some p) × (s ≡ span_of def p)
  some_mapped None s e = absurd (none-some s e)
  some_mapped (Some p) s e =
      let d : Some (span_of def p) ≡ Some s = e in
      let same : s ≡ span_of def p = cc in (p, refl, same)

  -- it has the first span of the path
  pub written_first : (f : Fragment) (path : Path) (spans : List Span) → spans ≡ map (span_of def) (placed_in def f)
      → (s : Span) (k : ℕ) → IsFirstSpan spans path s k → (p : Placed) × IsWrittenAt def f path p × (s ≡ span_of def p)
  written_first f path spans are s k is =
      let (p, at, same) = some_mapped (slice_get (placed_in def f) k) s
      (sym (slice_get-map (span_of def) (placed_in def f) k) ∙ ap (λ (l : List Span). slice_get l k) (sym are) ∙ is.there) in (
        p,
        (
          k,
          at,
          sym (ap (λ (x : Span). x.path) same) ∙ is.path_is,
          λ j q less there q_is. is.first j (span_of def q) less
              (ap (λ (l : List Span). slice_get l j) are ∙ slice_get-map (span_of def) (placed_in def f) j
              ∙ ap (option_map (span_of def)) there) q_is,
        ),
        same,
      )

  -- a listed node has a span
  pub written_some : (f : Fragment) (path : Path) (spans : List Span) → spans ≡ map (span_of def) (placed_in def f)
      → (k : ℕ) (p : Placed) → slice_get (placed_in def f) k ≡ Some p → p.spot.path ≡ path → HasNoSpan spans path → ⊥
  written_some f path spans are k p at is none =
      none k (span_of def p)
      (ap (λ (l : List Span). slice_get l k) are ∙ slice_get-map (span_of def) (placed_in def f) k
      ∙ ap (option_map (span_of def)) at) is
