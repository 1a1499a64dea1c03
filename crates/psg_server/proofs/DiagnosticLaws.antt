-- The diagnostics of a report, one after the other.
use Rattle.std.proofs.Common.{◌≡◌, ◌<◌, ◌≤◌, ◌+◌, ℕ, zero, suc, Bool, true, false, List, [], ◌∷◌, ◌++◌, length, drop, get_or, map, refl, sym, ◌∙◌, ap, subst, arith, append_assoc, append-nil}
use Rattle.std.specs.Prelude.{codes}
use Rattle.std.proofs.Math.Seq.{drop-cons}
use Rattle.std.proofs.lemmas.List.{drop_all, map-append}
use Rattle.serde_json.specs.Data.{Data}
use Rattle.serde_json.specs.View.{view}
use Rattle.serde_json.specs.declared.value.Value.{Value}
use Rattle.psg_documents.specs.declared.encoding.Encoding.{Encoding}
use Rattle.psg_recover.specs.declared.finding.Finding.{Finding}
use Rattle.psg_server.specs.Diagnostics.{AreDiagnostics, IsDiagnostic, all_told, diagnostic_data, more_may_follow, one_more}
use Rattle.psg_server.specs.Ranges.{IsRange}

-- What completes what is told from the place on completes the whole.
abbrev pub AreSoFar : Encoding → List ℕ → List Finding → ℕ → List Value → Type 0
AreSoFar encoding text found i vs = (more : Bool) (rest : List Data) → AreDiagnostics encoding text (drop i found) more rest
    → AreDiagnostics encoding text found more (map view vs ++ rest)

pub none_so_far : (encoding : Encoding) (text : List ℕ) (found : List Finding) (vs : List Value) → vs ≡ []
    → AreSoFar encoding text found 0 vs
none_so_far encoding text found vs e = λ more rest are.
    subst (λ (ws : List Value). AreDiagnostics encoding text found more (map view ws ++ rest)) (sym e) are

pub one_so_far : (encoding : Encoding) (text : List ℕ) (found : List Finding) (i : ℕ) (vs ws : List Value) (f : Finding)
    (v : Value) → i < length found → f ≡ get_or found i f → AreSoFar encoding text found i vs
    → IsDiagnostic encoding text f (view v) → ws ≡ vs ++ v ∷ [] → AreSoFar encoding text found (i + 1) ws
one_so_far encoding text found i vs ws f v lt at so is e = λ more rest are.
    let next : i + 1 ≡ suc i = omega arith in
    let after : AreDiagnostics encoding text (drop (suc i) found) more rest =
    subst (λ n. AreDiagnostics encoding text (drop n found) more rest) next are in
    let cut : f ∷ drop (suc i) found ≡ drop i found =
    ap (λ (g : Finding). g ∷ drop (suc i) found) at ∙ sym (drop-cons found i f lt) in
    let whole : AreDiagnostics encoding text found more (map view vs ++ (view v ∷ rest)) =
    so more (view v ∷ rest) (subst (λ (fs : List Finding). AreDiagnostics encoding text fs more (view v ∷ rest)) cut
    (one_more f (view v) is after)) in
    let told : map view vs ++ (view v ∷ rest) ≡ map view ws ++ rest =
    sym (append_assoc (map view vs) (view v ∷ []) rest)
    ∙ ap (λ (ds : List Data). ds ++ rest) (sym (map-append view vs (v ∷ []))) ∙ ap (λ (us : List Value). map view us ++ rest) (sym e) in
    subst (λ (ds : List Data). AreDiagnostics encoding text found more ds) told whole

pub all_so_far : (encoding : Encoding) (text : List ℕ) (found : List Finding) (more : Bool) (i : ℕ) (vs : List Value)
    (told all : List Data) → length found ≤ i → AreSoFar encoding text found i vs → AreDiagnostics encoding text [] more told
    → all ≡ map view vs ++ told → AreDiagnostics encoding text found more all
all_so_far encoding text found more i vs told all size so are e =
    let none : [] ≡ drop i found = sym (drop_all i found size) in
    subst (λ (ds : List Data). AreDiagnostics encoding text found more ds) (sym e)
    (so more told (subst (λ (fs : List Finding). AreDiagnostics encoding text fs more told) none are))

pub told_more : (encoding : Encoding) (text : List ℕ) (more : Bool) (vs ws : List Value) (range v : Value) → more ≡ true
    → IsRange encoding text 0 0 (view range) → view v ≡ diagnostic_data (view range) 4 (codes "more may follow")
    → ws ≡ vs ++ v ∷ []
    → (told : List Data) × AreDiagnostics encoding text [] more told × (map view ws ≡ map view vs ++ told)
told_more encoding text more vs ws range v so ranged is e = (
  diagnostic_data (view range) 4 (codes "more may follow") ∷ [],
  subst (λ b. AreDiagnostics encoding text [] b (diagnostic_data (view range) 4 (codes "more may follow") ∷ [])) (sym so)
      (more_may_follow (view range) ranged),
  ap (λ (us : List Value). map view us) e ∙ map-append view vs (v ∷ [])
      ∙ ap (λ (d : Data). map view vs ++ d ∷ []) is,
)

pub told_none : (encoding : Encoding) (text : List ℕ) (more : Bool) (vs ws : List Value) → more ≡ false → ws ≡ vs
    → (told : List Data) × AreDiagnostics encoding text [] more told × (map view ws ≡ map view vs ++ told)
told_none encoding text more vs ws so e = (
  [],
  subst (λ b. AreDiagnostics encoding text [] b []) (sym so) all_told,
  ap (λ (us : List Value). map view us) e ∙ sym (append-nil (map view vs)),
)
