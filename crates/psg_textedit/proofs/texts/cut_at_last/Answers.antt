use Rattle.std.proofs.Common.{◌≡◌, ◌∷◌, ℕ, List, inl, inr, refl, sym, subst, lit<}
use Rattle.std.proofs.lemmas.Str.Pattern.{rfind_char}
use Rattle.psg_unparse.specs.Splicing.{IsOneLine}
use Rattle.psg_textedit.proofs.LineCuts.{last_line, one_line}
use Rattle.psg_textedit.proofs.texts.cut_at_last.Goals as goal

pub returns-in-Some-clause-line : goal.returns-in-Some-clause-line
returns-in-Some-clause-line c =
    let found = rw c.in-Some.is at (rfind_char 10 c.args.text.now _ c.rfind.ensures.cases (lit< tt)) in
    inr (subst (λ xs. (rest : List ℕ) × (xs ≡ 10 ∷ rest) × IsOneLine rest) (sym c.split_at.ensures.back)
    (last_line c.args.text.now c.in-Some.last found.0 found.1 found.2))

pub returns-in-None-clause-line : goal.returns-in-None-clause-line
returns-in-None-clause-line c =
    inl (refl, one_line c.args.text.now (rw c.in-None.is at (rfind_char 10 c.args.text.now _ c.rfind.ensures.cases (lit< tt))))
