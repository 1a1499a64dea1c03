-- What an entry writes, part by part.
use Rattle.std.proofs.Common.{◌≡◌, ◌<◌, ◌≤◌, ◌+◌, ℕ, List, [], ◌∷◌, ◌++◌, drop, length, Some, refl, sym, ap, ◌∙◌}
use Rattle.std.specs.Prelude.{get_or}
use Rattle.std.proofs.lemmas.List.{drop_all}
use Rattle.psg_terms.specs.Names.{Name}
use Rattle.psg_terms.proofs.Lists.{drop_item}
use Rattle.psg_grammar.specs.declared.types.Definition.{Definition}
use Rattle.psg_grammar.specs.declared.types.Item.{Item}
use Rattle.psg_grammar.specs.declared.types.Operator.{Operator}
use Rattle.psg_grammar.specs.Fragments.{Fragment, operator}
use Rattle.psg_grammar.specs.Lookups.{operator_at}
use Rattle.psg_unparse.specs.Rows.{items_in}
use Rattle.psg_tree.specs.declared.tree.Part.{Part}
use Rattle.psg_tree.specs.Shapes.{with_part, with_parts}
use Rattle.psg_completing.specs.Samples.{sample, with_line, with_lines, with_sample, with_samples}

parts_push : (f : Fragment) (ps : List Part) (p : Part) → with_parts f (ps ++ p ∷ []) ≡ with_part (with_parts f ps) p
parts_push f [] p = refl
parts_push f (q ∷ ps) p = parts_push (with_part f q) ps p

-- one more part for an item
pub sample_pushed : (def : Definition) (name : Name) (item : Item) (old new : List Part) (p : Part)
    → new ≡ old ++ p ∷ [] → ((g : Fragment) → with_part g p ≡ with_sample def name g item) → (f : Fragment)
    → with_parts f new ≡ with_sample def name (with_parts f old) item
sample_pushed def name item old new p e h f = ap (with_parts f) e ∙ parts_push f old p ∙ h (with_parts f old)

pub sample_first : (def : Definition) (name : Name) (op : ℕ) (o : Operator) (items : List Item) (parts : List Part)
    → operator_at def op ≡ Some o → items ≡ o.items → parts ≡ []
    → with_samples def name (with_parts (operator op) parts) items ≡ sample def name op
sample_first def name op o items parts is i none =
    ap (λ ps. with_samples def name (with_parts (operator op) ps) items) none
    ∙ ap (with_samples def name (operator op)) (i ∙ own_items) where
      own_items : o.items ≡ items_in (operator_at def op)
      own_items = sym (ap items_in is)

pub sample_next : (def : Definition) (name : Name) (op : ℕ) (items : List Item) (i : ℕ) (item : Item)
    (old new : List Part) (whole : Fragment) → i < length items → item ≡ get_or items i item
    → ((g : Fragment) → with_parts g new ≡ with_sample def name (with_parts g old) item)
    → with_samples def name (with_parts (operator op) old) (drop i items) ≡ whole
    → with_samples def name (with_parts (operator op) new) (drop (i + 1) items) ≡ whole
sample_next def name op items i item old new whole lt is push h =
    ap (λ g. with_samples def name g (drop (i + 1) items)) (push (operator op))
    ∙ ap (with_samples def name (with_parts (operator op) old)) (sym (drop_item items i item lt is)) ∙ h

pub sample_end : (def : Definition) (name : Name) (op : ℕ) (items : List Item) (i : ℕ) (parts : List Part)
    (whole : Fragment) → length items ≤ i
    → with_samples def name (with_parts (operator op) parts) (drop i items) ≡ whole
    → with_parts (operator op) parts ≡ whole
sample_end def name op items i parts whole le h =
    ap (with_samples def name (with_parts (operator op) parts)) (sym (drop_all i items le)) ∙ h

-- ---- lines

pub with_lines-push : (text : List ℕ) (lines : List (List ℕ)) (line : List ℕ)
    → with_lines text (lines ++ line ∷ []) ≡ with_line (with_lines text lines) line
with_lines-push text [] line = refl
with_lines-push text (l ∷ lines) line = with_lines-push (with_line text l) lines line

-- one more line was taken
pub line_taken : (lines : List (List ℕ)) (line : List ℕ) (taken : List (List ℕ)) (text new : List ℕ)
    → taken ≡ lines ++ line ∷ [] → text ≡ with_lines [] lines → new ≡ with_line text line → new ≡ with_lines [] taken
line_taken lines line taken text new t e n =
    n ∙ ap (λ x. with_line x line) e ∙ sym (with_lines-push [] lines line) ∙ sym (ap (with_lines []) t)
