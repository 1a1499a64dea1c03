-- What is told of a node, as values.
use Rattle.std.proofs.Common.{◌≡◌, ◌<◌, ◌≤◌, ◌+◌, ℕ, List, [], ◌∷◌, ◌++◌, drop, length, Option, Some, None, refl, sym, ap, subst, ◌∙◌}
use Rattle.std.specs.Prelude.{String, get_or, map, string_bytes}
use Rattle.std.specs.declared.alloc.Global.{Global}
use Rattle.std.proofs.lemmas.List.{append-nil, append_assoc, drop_all}
use Rattle.psg_terms.proofs.Lists.{drop_item}
use Rattle.serde_json.specs.Data.{Data, null}
use Rattle.psg_documents.specs.declared.encoding.Encoding.{Encoding}
use Rattle.psg_pointing.specs.declared.hovering.Hover.{Hover}
use Rattle.psg_server.specs.Hovering.{IsHoverValue, IsTold, after_feeds, contents, hover_data, joined, plain_text}
use Rattle.psg_server.specs.Ranges.{IsRange}

after_one : (line : List ℕ) (lines : List (List ℕ)) → after_feeds (line ∷ lines) ≡ after_feeds (line ∷ []) ++ after_feeds lines
after_one line lines =
    ap (λ l. 10 ∷ l) (sym (ap (λ l. l ++ after_feeds lines) (append-nil line)))

-- the line after a line feed
pub line_pushed : (old mid new line : List ℕ) → mid ≡ old ++ 10 ∷ [] → new ≡ mid ++ line
    → new ≡ old ++ after_feeds (line ∷ [])
line_pushed old mid new line m n =
    n ∙ ap (λ l. l ++ line) m ∙ append_assoc old (10 ∷ []) line
    ∙ ap (λ l. old ++ 10 ∷ l) (sym (append-nil line))

-- the lines of a row, from a number on
pub one_more : (row : List (String Global)) (i : ℕ) (x : String Global) (own text new all : List ℕ) → i < length row
    → x ≡ get_or row i x → own ≡ string_bytes x → new ≡ text ++ after_feeds (own ∷ [])
    → text ++ after_feeds (map string_bytes (drop i row)) ≡ all
    → new ++ after_feeds (map string_bytes (drop (i + 1) row)) ≡ all
one_more row i x own text new all lt is t n h =
    let rest = map string_bytes (drop (i + 1) row) in
    ap (λ l. l ++ after_feeds rest) (n ∙ ap (λ o. text ++ after_feeds (o ∷ [])) t)
    ∙ append_assoc text (after_feeds (string_bytes x ∷ [])) (after_feeds rest)
    ∙ ap (λ l. text ++ l) (sym (after_one (string_bytes x) rest))
    ∙ ap (λ l. text ++ after_feeds (map string_bytes l)) (sym (drop_item row i x lt is))
    ∙ h

pub all_pushed : (row : List (String Global)) (i : ℕ) (text all : List ℕ) → length row ≤ i
    → text ++ after_feeds (map string_bytes (drop i row)) ≡ all → text ≡ all
all_pushed row i text all le h =
    sym (append-nil text) ∙ ap (λ l. text ++ after_feeds (map string_bytes l)) (sym (drop_all i row le)) ∙ h

pub value_is : (encoding : Encoding) (text : List ℕ) (h : Hover) (range value d : Data) (own : List ℕ)
    → IsRange encoding text h.start h.end range → own ≡ joined (map string_bytes h.lines.items)
    → value ≡ plain_text own → d ≡ contents range value → IsHoverValue encoding text h d
value_is encoding text h range value d own is o v e = record {
  range = range;
  is_range = is;
  is = e ∙ ap (contents range) (v ∙ ap plain_text o);
}

pub told_some : (encoding : Encoding) (text : List ℕ) (o : Option Hover) (h : Hover) (d : Data) → o ≡ Some h
    → IsHoverValue encoding text h d → IsTold encoding text o d
told_some encoding text o h d e is = subst (λ u. IsTold encoding text u d) (sym e) is

pub told_none : (encoding : Encoding) (text : List ℕ) (o : Option Hover) (d : Data) → o ≡ None → d ≡ null
    → IsTold encoding text o d
told_none encoding text o d e is = subst (λ u. IsTold encoding text u d) (sym e) is
