-- What the lines of a file tell of the file.
use Rattle.std.proofs.Common.{◌≡◌, ℕ, ◌+◌, ◌<◌, true, cond, List, [], ◌∷◌, take, get_or, length, inl, inr, refl, ap, sym, ◌∙◌, subst, arith}
use Rattle.std.specs.Prelude.{IsUtf8, IfErr, IsErrAnd}
use Rattle.std.proofs.Common.{Result}
use Rattle.std.proofs.lemmas.Result.{err_from_is_err_and}
use Rattle.std.specs.Str.{IsValidUpTo}
use Rattle.std.specs.Str.Lines.{lines}
use Rattle.std.proofs.lemmas.List.{take_all}
use Rattle.std.proofs.lemmas.Bool.Decides.{eqb_tells}
use Rattle.std.specs.List.{AllByRecursion}
use Rattle.psg_deflines.specs.declared.lines.Line.{Line}
use Rattle.psg_deflines.specs.Versions.{is_of}
use Rattle.psg_deflines.specs.Entries.{Entry, written, HasHead, behind_head, IsPlain}
use Rattle.psg_deflines.specs.EntryReads.{AreEntriesRead, IsEntryFault, IsTextFault}
use Rattle.psg_deflines.proofs.HeadLaws.{IsLineHead, IsNoLineHead, one-head-line}
use Rattle.psg_deflines.specs.Refusals.{HasFormFault, FormRefusal, no_text, no_head, no_form, IsFormFault, line_feeds}
use Rattle.psg_deflines.specs.Reading.{HasEntries, AreLinesOf, HasNoFormFault}
use Rattle.psg_deflines.specs.declared.fault.DefCode.TheVariants as codes_of
use Rattle.psg_deflines.specs.declared.fault.DefFault.{DefFault}
use Rattle.psg_deflines.specs.declared.fault.ReadFault.{ReadFault}
use Rattle.psg_deflines.specs.declared.fault.ReadFault.TheVariants.{Def, Memory}
use Rattle.psg_deflines.proofs.CountLaws.{feeds-next}

-- ---- line feeds

pub feeds-yes : (bytes : List ℕ) (i c feeds : ℕ) → i < length bytes → c ≡ get_or bytes i c → c ≡ 10 → feeds ≡ line_feeds (take i bytes) → feeds + 1 ≡ line_feeds (take (i + 1) bytes)
feeds-yes bytes i c feeds h e ten f = elim (eqb_tells c 10) [
  | inl k ↦ ap (λ n. n + 1) f ∙ sym (feeds-next bytes i c h e ∙ ap (λ b. line_feeds (take i bytes) + cond b 1 0) k.0)
  | inr k ↦ absurd (k.1 ten)
]

pub feeds-no : (bytes : List ℕ) (i c feeds : ℕ) → i < length bytes → c ≡ get_or bytes i c → (c ≡ 10 → ⊥) → feeds ≡ line_feeds (take i bytes) → feeds ≡ line_feeds (take (i + 1) bytes)
feeds-no bytes i c feeds h e other f = elim (eqb_tells c 10) [
  | inl k ↦ absurd (other k.1)
  | inr k ↦ f ∙ sym (feeds-next bytes i c h e ∙ ap (λ b. line_feeds (take i bytes) + cond b 1 0) k.0 ∙ plain (line_feeds (take i bytes)))
]
  where
    plain : (n : ℕ) → n + 0 ≡ n
    plain n = omega arith

-- ---- the head

abbrev no_version : DefFault
no_version = record { line = 1; code = codes_of.Version }

pub none-head : (ls : List (List ℕ)) (fault : ReadFault) → ls ≡ [] → fault ≡ Def no_version → IsTextFault ls fault
none-head ls fault e f = subst (IsTextFault ls) (sym f) (inl (λ v h. subst (HasHead v) e h, refl, refl))

pub other-head : (ls rest : List (List ℕ)) (head : List ℕ) (fault : ReadFault) → ls ≡ head ∷ rest → IsNoLineHead head → fault ≡ Def no_version → IsTextFault ls fault
other-head ls rest head fault e none f = subst (IsTextFault ls) (sym f) (inl (λ v h. let k = subst (HasHead v) e h in none v k.0 k.1, refl, refl))

pub text-read : (v : ℕ) (ls rest : List (List ℕ)) (head : List ℕ) (entries : List Entry) → ls ≡ head ∷ rest → IsLineHead head v → AreEntriesRead v rest entries → HasHead v ls × AreEntriesRead v (behind_head ls) entries
text-read v ls rest head entries e written r = (subst (HasHead v) (sym e) written, subst (λ ts. AreEntriesRead v ts entries) (sym (ap behind_head e)) r)

pub text-fault : (v : ℕ) (ls rest : List (List ℕ)) (head : List ℕ) (fault : ReadFault) → ls ≡ head ∷ rest → IsLineHead head v → IsEntryFault v rest fault → IsTextFault ls fault
text-fault v ls rest head Memory e written r = tt
text-fault v ls rest head (Def fault) e written r = inr (v, subst (HasHead v) (sym e) written, subst (λ ts. IsEntryFault v ts (Def fault)) (sym (ap behind_head e)) r)

heads-same : (v w : ℕ) (ls : List (List ℕ)) → HasHead v ls → HasHead w ls → v ≡ w
heads-same v w [] h k = absurd h
heads-same v w (l ∷ ls) h k = one-head-line v w l h k

all-of : (v : ℕ) (ls : List Line) → AllByRecursion (IsPlain v) ls → AllByRecursion (λ l. is_of v l ≡ true) ls
all-of v [] h = tt
all-of v (l ∷ ls) h = (h.0.of_version, all-of v ls h.1)

-- a fault of the texts, handed on
pub err-passed : {T : Type 0} (ls : List (List ℕ)) (r : Result T ReadFault) (fault : ReadFault) → IsErrAnd r (λ e. e ≡ fault) → IsTextFault ls fault → IfErr r (IsTextFault ls)
err-passed ls r fault h f = let q = err_from_is_err_and r h in rw q.1 (subst (IsTextFault ls) (sym q.2) f)

-- ---- the file

module _ (bytes text : List ℕ) (same : text ≡ bytes) (utf8 : IsUtf8 bytes) (v : ℕ) (entries : List Entry) (r : HasHead v (lines text) × AreEntriesRead v (behind_head (lines text)) entries) where
  here : HasHead v (lines bytes) × AreEntriesRead v (behind_head (lines bytes)) entries
  here = subst (λ t. HasHead v (lines t) × AreEntriesRead v (behind_head (lines t)) entries) same r

  one-head : (w : ℕ) → HasHead w (lines bytes) → w ≡ v
  one-head w h = heads-same w v (lines bytes) h here.0

  pub file-lines : AreLinesOf bytes v entries
  file-lines = record { spelled = record { utf8 = utf8; spelled = record { head = here.0; each = here.1.only.is; of_version = all-of v (written entries) here.1.plain } }; plain = here.1.plain }

  pub file-only : (w : ℕ) (other : List Entry) → HasEntries bytes w other → (w ≡ v) × (other ≡ entries)
  file-only w other h = (one-head w h.spelled.head, here.1.only.only other h.spelled.each)

  pub file-faultless : HasNoFormFault bytes
  file-faultless fault (no_text n bad line code) = bad.longest (length bytes) bad.inside (omega arith) (subst IsUtf8 (sym (take_all (length bytes) bytes (omega arith))) utf8)
  file-faultless fault (no_head u none line code) = none v here.0
  file-faultless fault (no_form w u head f) = here.1.clean fault (subst (λ n. HasFormFault n (behind_head (lines bytes)) fault) (one-head w head) f)

pub file-fault : (bytes text : List ℕ) → text ≡ bytes → IsUtf8 bytes → (fault : ReadFault) → IsTextFault (lines text) fault → IsFormFault bytes fault
file-fault bytes text same utf8 Memory f = tt
file-fault bytes text same utf8 (Def fault) f = by_part (subst (λ t. IsTextFault (lines t) (Def fault)) same f)
  where
    by_part : IsTextFault (lines bytes) (Def fault) → FormRefusal bytes fault
    by_part (inl h) = no_head utf8 h.0 h.1 h.2
    by_part (inr h) = no_form h.0 utf8 h.1 h.2

pub file-bytes : (bytes : List ℕ) (n : ℕ) (fault : DefFault) → IsValidUpTo bytes n → fault.line ≡ line_feeds (take n bytes) + 1 → fault.code ≡ codes_of.NotText → FormRefusal bytes fault
file-bytes bytes n fault valid line code = no_text n (record { inside = valid.short; before = valid.front; longest = λ m l f. valid.longest m l }) line code
