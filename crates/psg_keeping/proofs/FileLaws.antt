-- What is given and written for a file.
use Rattle.std.proofs.Common.{◌≡◌, ℕ, ◌-◌, ◌++◌, List, length, take, refl, sym, ap, ◌∙◌, subst}
use Rattle.std.specs.Prelude.{Option, Some, None, Result, Ok, Err, IfOk, IsUtf8}
use Rattle.psg_comments.specs.Blanking.{IsBlanked}
use Rattle.psg_comments.specs.declared.finding.Comment.{Comment}
use Rattle.psg_keeping.specs.Rules.{CommentRule, Opens, Writes, blanked, not_known, unmarked, with_comments}
use Rattle.psg_keeping.specs.Writing.{IsKept}
use Rattle.psg_keeping.specs.declared.files.Given.{Given}
use Rattle.psg_keeping.specs.declared.files.Known.{Known}

opens_at : (name read given : List ℕ) (rule : Option CommentRule) (known : Option Known) → given ≡ read → known ≡ None
    → Opens name read rule read None → Opens name read rule given known
opens_at name read given rule known eg ek h =
    subst (λ l. Opens name read rule l known) (sym eg) (subst (λ k. Opens name read rule read k) (sym ek) h)

pub opens_as_is : {E : Type 0} (name read : List ℕ) (rule : Option CommentRule) (r : Result Given E)
    → IfOk r (λ g. g.given.items ≡ read) → IfOk r (λ g. g.known ≡ None) → Opens name read rule read None
    → IfOk r (λ g. Opens name read rule g.given.items g.known)
opens_as_is name read rule (Ok g) eg ek h = opens_at name read g.given.items rule g.known eg ek h
opens_as_is name read rule (Err e) eg ek h = tt

pub opens_text : (name read given n t : List ℕ) (rule : CommentRule) (comments : List Comment) (own : List ℕ)
    → IsUtf8 (unmarked read) → IsBlanked rule.fixed rule.token (unmarked read) comments own
    → given ≡ take (length read - length (unmarked read)) read ++ own → n ≡ name → t ≡ unmarked read
    → Opens name read (Some rule) given (Some (record { name = n; text = t }))
opens_text name read given n t rule comments own u b eg en et =
    subst (λ l. Opens name read (Some rule) l (Some (record { name = n; text = t }))) (sym eg)
    (subst (λ m. Opens name read (Some rule) (take (length read - length (unmarked read)) read ++ own) (Some (record { name = m; text = t }))) (sym en)
    (subst (λ m. Opens name read (Some rule) (take (length read - length (unmarked read)) read ++ own) (Some (record { name = name; text = m }))) (sym et)
    (blanked rule comments own u b)))

pub writes_text : (rule : CommentRule) (known : Known) (name bytes n t text : List ℕ) → known.name ≡ name → IsUtf8 known.text
    → IsUtf8 bytes → IsKept rule.fixed rule.token known.text bytes text → n ≡ name → t ≡ text
    → Writes (Some rule) (Some known) name bytes t (Some (record { name = n; text = t }))
writes_text rule known name bytes n t text same uo ub kept en et =
    subst (λ m. Writes (Some rule) (Some known) name bytes m (Some (record { name = n; text = m }))) (sym et)
    (subst (λ m. Writes (Some rule) (Some known) name bytes text (Some (record { name = m; text = text }))) (sym en)
    (with_comments rule known text refl refl same uo ub kept))

same_known : (a k : Known) → Some a ≡ Some k → a ≡ k
same_known a k e = cc

pub not_named : (rule : Option CommentRule) (known : Known) (name bytes : List ℕ) → (known.name ≡ name → ⊥)
    → Writes rule (Some known) name bytes bytes (Some known)
not_named rule known name bytes apart = not_known (λ k e s. apart (ap (λ z. z.name) (same_known known k e) ∙ s))
