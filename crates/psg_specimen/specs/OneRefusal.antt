-- A definition is accepted or has one refusal.
use Rattle.std.specs.Prelude.{◌≡◌, string_bytes}
use Rattle.psg_grammar.specs.declared.types.Definition.{Definition}
use Rattle.psg_class.specs.declared.fault.ClassFault.{ClassFault}
use Rattle.psg_class.specs.declared.fault.ClassFault.TheVariants as classes
use Rattle.psg_specimen.specs.Refusal.{IsRefusal}
use Rattle.psg_specimen.specs.declared.fault.AcceptFault.{AcceptFault}
use Rattle.psg_specimen.specs.declared.fault.AcceptFault.TheVariants as faults

-- the same condition for the same thing and, where the condition speaks of a token, with a token of the same bytes
abbrev pub IsSameClass : ClassFault → ClassFault → Type 0
IsSameClass (classes.SameFirst p text) (classes.SameFirst q other) = (p ≡ q) × (string_bytes text ≡ string_bytes other)
IsSameClass (classes.SameLed p text) (classes.SameLed q other) = (p ≡ q) × (string_bytes text ≡ string_bytes other)
IsSameClass (classes.LedFollows n text) (classes.LedFollows m other) = (n ≡ m)
    × (string_bytes text ≡ string_bytes other)
IsSameClass (classes.ListEnd l text) (classes.ListEnd k other) = (l ≡ k) × (string_bytes text ≡ string_bytes other)
IsSameClass f g = f ≡ g

-- Equal faults. A token of a fault of the grammar class is a text of the program, of which the bytes are compared.
abbrev pub AreSame : AcceptFault → AcceptFault → Type 0
AreSame (faults.Class f) (faults.Class g) = IsSameClass f g
AreSame f g = f ≡ g

-- two refusals of the definition are the same
abbrev pub HasOneRefusal : Definition → Type 0
HasOneRefusal def = (f g : AcceptFault) → IsRefusal def f → IsRefusal def g → AreSame f g

-- the definition is refused for nothing
abbrev pub HasNoRefusal : Definition → Type 0
HasNoRefusal def = (f : AcceptFault) → IsRefusal def f → ⊥
