-- `check` writes one line for the bytes of a file.
use Rattle.std.proofs.Common.{◌≡◌, ℕ, List, codes, sym, ◌∙◌, ap, ap₂, subst}
use Rattle.psg_grammar.specs.declared.types.Definition.{Definition}
use Rattle.psg_deflines.specs.FaultText.{fault_text}
use Rattle.psg_deflines.specs.declared.fault.DefFault.{DefFault}
use Rattle.psg_defread.specs.Refusals.{Refusal}
use Rattle.psg_class.specs.declared.fault.ClassFault.{ClassFault}
use Rattle.psg_class.specs.declared.fault.ClassFault.TheVariants as classes
use Rattle.psg_class.specs.Refusal.{fault_text as class_text, list_text, operator_text, phylum_text, refused_with}
use Rattle.psg_specimen.specs.OneRefusal.{AreSame, IsSameClass}
use Rattle.psg_specimen.specs.Refusal.{IsRefusal, IsAccepted as IsAcceptable}
use Rattle.psg_specimen.specs.Texts.{refusal_text}
use Rattle.psg_specimen.specs.declared.fault.AcceptFault.{AcceptFault}
use Rattle.psg_specimen.specs.declared.fault.AcceptFault.TheVariants as faults
use Rattle.psg_specimen.proofs.FirstOnes.{one_refusal}
use Rattle.psg_specimen.proofs.Stages.{not_both}
use Rattle.psg_run.specs.Exporting.{IsCheckLine, is_faulty, is_good}
use Rattle.psg_run.specs.Reading.{IsPlainlyAccepted, IsRefusalLine, no_definition, not_accepted}

-- bytes have one fault
abbrev pub FaultOnce : Type 0
FaultOnce = (bytes : List ℕ) (f g : DefFault) → Refusal bytes f → Refusal bytes g → f ≡ g

-- the text of a refusal, where tokens are compared by their bytes
class_alike : (def : Definition) (f g : ClassFault) → IsSameClass f g → class_text def f ≡ class_text def g
class_alike def (classes.SameFirst p t) (classes.SameFirst q o) h =
    ap₂ (λ x y. refused_with (codes "SameFirst") (phylum_text def x) y) h.0 h.1
class_alike def (classes.SameLed p t) (classes.SameLed q o) h =
    ap₂ (λ x y. refused_with (codes "SameLed") (phylum_text def x) y) h.0 h.1
class_alike def (classes.LedFollows n t) (classes.LedFollows m o) h =
    ap₂ (λ x y. refused_with (codes "LedFollows") (operator_text def x) y) h.0 h.1
class_alike def (classes.ListEnd l t) (classes.ListEnd k o) h =
    ap₂ (λ x y. refused_with (codes "ListEnd") (list_text def x) y) h.0 h.1
class_alike def f g h = ap (class_text def) h

text_alike : (def : Definition) (f g : AcceptFault) → AreSame f g → refusal_text def f ≡ refusal_text def g
text_alike def (faults.Class f) (faults.Class g) h = class_alike def f g h
text_alike def f g h = ap (refusal_text def) h

refusal_once : FaultOnce → (bytes line other : List ℕ) → IsRefusalLine bytes line → IsRefusalLine bytes other → other ≡ line
refusal_once once bytes line other (no_definition f r e) (no_definition g s d) = d ∙ ap fault_text (once bytes g f s r) ∙ sym e
refusal_once once bytes line other (no_definition f r e) (not_accepted def g read only s d) = absurd (read.faultless f r)
refusal_once once bytes line other (not_accepted def f read only r e) (no_definition g s d) = absurd (read.faultless g s)
refusal_once once bytes line other (not_accepted def f read only r e) (not_accepted def' g read' only' s d) =
    let same : def' ≡ def = only def' read'.spells in
    d ∙ ap (λ (x : Definition). refusal_text x g) same
    ∙ text_alike def g f (one_refusal def g f (subst (λ (x : Definition). IsRefusal x g) same s) r) ∙ sym e

not_refused_plainly : (bytes line : List ℕ) (def : Definition) → IsPlainlyAccepted bytes def → IsRefusalLine bytes line → ⊥
not_refused_plainly bytes line def a (no_definition fault refusal is) = a.read.faultless fault refusal
not_refused_plainly bytes line def a (not_accepted other fault read only refusal is) =
    not_both other (subst IsAcceptable (only def a.read.spells) a.accepted) fault refusal

pub check_line_once : FaultOnce → (bytes line other : List ℕ) → IsCheckLine bytes line → IsCheckLine bytes other → other ≡ line
check_line_once once bytes line other (is_good def a e) (is_good def' a' d) = d ∙ sym e
check_line_once once bytes line other (is_good def a e) (is_faulty r) = absurd (not_refused_plainly bytes other def a r)
check_line_once once bytes line other (is_faulty r) (is_good def a e) = absurd (not_refused_plainly bytes line def a r)
check_line_once once bytes line other (is_faulty r) (is_faulty s) = refusal_once once bytes line other r s
