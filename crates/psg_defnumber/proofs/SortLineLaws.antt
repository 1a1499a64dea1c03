-- Sorts that are taken from their lines.
use Rattle.std.proofs.Common.{◌≡◌, ℕ, ◌+◌, ◌<◌, ◌≤◌, List, [], ◌∷◌, ◌++◌, Some, None, take, get_or, length, refl, ap, ap₂, sym, ◌∙◌, append-nil}
use Rattle.std.proofs.lemmas.List.{take_all}
use Rattle.psg_terms.proofs.Lists.{take_item}
use Rattle.psg_terms.specs.declared.declare.ConDecl.{ConDecl}
use Rattle.psg_terms.specs.declared.declare.SortDecl.{SortDecl}
use Rattle.psg_deflines.specs.Entries.{Entry, written}
use Rattle.psg_deflines.specs.declared.lines.Line.{Line}
use Rattle.psg_deflines.specs.declared.lines.Line.TheVariants as lines
use Rattle.psg_defnumber.specs.Numbers.{sort_decls}
use Rattle.psg_defcheck.proofs.GroundLaws.{written-append}

-- one more copy
pub copy-next : {X : Type 0} (xs old new : List X) (i : ℕ) (x y : X) → i < length xs → x ≡ get_or xs i x → old ≡ take i xs → new ≡ old ++ y ∷ [] → y ≡ x → new ≡ take (i + 1) xs
copy-next xs old new i x y lt at h e same = e ∙ ap₂ (λ l z. l ++ z ∷ []) h same ∙ sym (take_item xs i x lt at)

pub copy-all : {X : Type 0} (xs done : List X) (i : ℕ) → length xs ≤ i → done ≡ take i xs → done ≡ xs
copy-all xs done i le h = h ∙ take_all i xs le

abbrev con_of : List ℕ → List (List ℕ) → ConDecl
con_of name args = record { name = name; args = args }

abbrev sort_of : List ℕ → List ConDecl → SortDecl
sort_of name constructors = record { name = name; constructors = constructors }

pub same-con : (d : ConDecl) (name : List ℕ) (args : List (List ℕ)) → name ≡ d.name → args ≡ d.args → con_of name args ≡ d
same-con d name args e f = ap₂ con_of e f

pub sort-put : (entry : Entry) (line : Line) (d : SortDecl) (old new : List SortDecl) (name : List ℕ) (constructors : List ConDecl) → entry ≡ Some line → line ≡ lines.Sort d → new ≡ old ++ sort_of name constructors ∷ [] → name ≡ d.name → constructors ≡ d.constructors
    → new ≡ old ++ sort_decls (written (entry ∷ []))
sort-put entry line d old new name constructors e f grown named same = grown ∙ ap (λ (x : SortDecl). old ++ x ∷ []) (ap₂ sort_of named same) ∙ ap (λ x. old ++ sort_decls (written (x ∷ []))) (sym (e ∙ ap Some f))

pub sort-passed : (entry : Entry) (line : Line) (old : List SortDecl) → entry ≡ Some line → ((d : SortDecl) → line ≡ lines.Sort d → ⊥) → old ≡ old ++ sort_decls (written (entry ∷ []))
sort-passed entry line old e other = sym (append-nil old) ∙ ap (λ l. old ++ l) (sym (ap (λ x. sort_decls (written (x ∷ []))) e ∙ skip line other))
  where
    skip : (line : Line) → ((d : SortDecl) → line ≡ lines.Sort d → ⊥) → sort_decls (line ∷ []) ≡ []
    skip (lines.Sort d) p = absurd (p d refl)
    skip _ p = refl

pub entry-none : (entry : Entry) (old : List SortDecl) → entry ≡ None → old ≡ old ++ sort_decls (written (entry ∷ []))
entry-none entry old e = sym (append-nil old) ∙ ap (λ x. old ++ sort_decls (written (x ∷ []))) (sym e)

sort_decls-append : (xs ys : List Line) → sort_decls (xs ++ ys) ≡ sort_decls xs ++ sort_decls ys
sort_decls-append [] ys = refl
sort_decls-append (lines.Sort d ∷ xs) ys = ap (λ l. d ∷ l) (sort_decls-append xs ys)
sort_decls-append (_ ∷ xs) ys = sort_decls-append xs ys

pub sorts-next : (entries : List Entry) (i : ℕ) (entry : Entry) (old new : List SortDecl) → i < length entries → entry ≡ get_or entries i entry → old ≡ sort_decls (written (take i entries)) → new ≡ old ++ sort_decls (written (entry ∷ []))
    → new ≡ sort_decls (written (take (i + 1) entries))
sorts-next entries i entry old new lt at h e =
    e ∙ ap (λ l. l ++ sort_decls (written (entry ∷ []))) h ∙ sym (sort_decls-append (written (take i entries)) (written (entry ∷ [])))
    ∙ ap sort_decls (sym (written-append (take i entries) (entry ∷ []))) ∙ ap (λ l. sort_decls (written l)) (sym (take_item entries i entry lt at))

pub sorts-all : (entries : List Entry) (i : ℕ) (done : List SortDecl) → length entries ≤ i → done ≡ sort_decls (written (take i entries)) → done ≡ sort_decls (written entries)
sorts-all entries i done le h = h ∙ ap (λ l. sort_decls (written l)) (take_all i entries le)
