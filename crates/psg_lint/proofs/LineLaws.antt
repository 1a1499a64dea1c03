-- The lines of a report, one after the other.
use Rattle.std.proofs.Common.{◌≡◌, inl, inr, ℕ, ◌+◌, ◌<◌, Bool, true, false, cond, List, [], ◌∷◌, ◌++◌, length, take, get_or, refl, ap, sym, subst, ◌∙◌, arith, append_assoc}
use Rattle.std.specs.Prelude.{codes}
use Rattle.std.specs.Str.{IsUtf8, IsValidUpTo}
use Rattle.std.proofs.lemmas.Bool.{cases_lt}
use Rattle.std.proofs.lemmas.List.{take_all}
use Rattle.psg_terms.proofs.Lists.{take_item}
use Rattle.psg_program.specs.Places.{IsAt}
use Rattle.psg_recover.specs.declared.finding.Finding.{Finding}
use Rattle.psg_lint.specs.declared.reporting.Report.{Report}
use Rattle.psg_recover.specs.Findings.{AreLines, all_told, finding_line, more_may_follow, one_more, with_feeds}
use Rattle.psg_lint.specs.Shown.{IsShownReport}

-- ---- the text at the beginning of bytes

pub same_valid : (bs : List ℕ) (n m : ℕ) → IsValidUpTo bs n → IsValidUpTo bs m → n ≡ m
same_valid bs n m a b = elim (cases_lt n m) [
  | inl lt ↦ absurd (a.longest m lt b.front)
  | inr ge ↦ elim (cases_lt m n) [
    | inl lt ↦ absurd (b.longest n lt a.front)
    | inr le ↦ omega (arith, ge, le)
  ]
]

pub whole_valid : (bs : List ℕ) (n : ℕ) → IsUtf8 bs → IsValidUpTo bs n → ⊥
whole_valid bs n u h = h.longest (length bs) h.short (subst IsUtf8 (sym (take_all (length bs) bs (omega arith))) u)

-- ---- one line

-- the parts of a line, as they are written
pub line_parts : (file l c g m rest : List ℕ) → file ++ (58 ∷ (l ++ (58 ∷ (c ++ (58 ∷ 32 ∷ (g ++ (58 ∷ 32 ∷ (m ++ rest))))))))
    ≡ (file ++ (58 ∷ l) ++ (58 ∷ c) ++ codes ": " ++ g ++ codes ": " ++ m) ++ rest
line_parts file l c g m rest =
    let E = file ++ (58 ∷ l) in
    let D = E ++ (58 ∷ c) in
    let C = D ++ codes ": " in
    let B = C ++ g in
    let A = B ++ codes ": " in
    sym (append_assoc A m rest ∙ append_assoc B (codes ": ") (m ++ rest) ∙ append_assoc C g (codes ": " ++ (m ++ rest))
    ∙ append_assoc D (codes ": ") (g ++ (codes ": " ++ (m ++ rest)))
    ∙ append_assoc E (58 ∷ c) (codes ": " ++ (g ++ (codes ": " ++ (m ++ rest))))
    ∙ append_assoc file (58 ∷ l) ((58 ∷ c) ++ (codes ": " ++ (g ++ (codes ": " ++ (m ++ rest))))))

feeds-append : (xs ys : List (List ℕ)) → with_feeds (xs ++ ys) ≡ with_feeds xs ++ with_feeds ys
feeds-append [] ys = refl
feeds-append (line ∷ xs) ys =
    ap (λ t. line ++ 10 ∷ t) (feeds-append xs ys) ∙ sym (append_assoc line (10 ∷ with_feeds xs) (with_feeds ys))

-- ---- the lines

module _ (file text : List ℕ) where
  lines_pushed : (fs : List Finding) (ls : List (List ℕ)) (f : Finding) (line column : ℕ) → IsAt text f.byte line column
      → AreLines file text fs false ls → AreLines file text (fs ++ f ∷ []) false (ls ++ finding_line file line column f ∷ [])
  lines_pushed fs ls f line column at all_told = one_more f line column at all_told
  lines_pushed fs ls f line column at (one_more g l c place rest) =
      one_more g l c place (lines_pushed _ _ f line column at rest)

  abbrev pub last_lines : Bool → List (List ℕ)
  last_lines more = cond more ((file ++ codes ": note: more may follow") ∷ []) []

  lines_ended : (fs : List Finding) (ls : List (List ℕ)) (more : Bool) → AreLines file text fs false ls
      → AreLines file text fs more (ls ++ last_lines more)
  lines_ended fs ls true all_told = more_may_follow
  lines_ended fs ls false all_told = all_told
  lines_ended fs ls more (one_more g l c place rest) = one_more g l c place (lines_ended _ _ more rest)

  -- these lines are written of what was found
  pub record AreWritten (fs : List Finding) (bytes : List ℕ) : Type 0 where
    pub lines : List (List ℕ)
    pub are : AreLines file text fs false lines
    pub written : bytes ≡ with_feeds lines

  pub none_written : (fs : List Finding) (bytes : List ℕ) → bytes ≡ [] → AreWritten (take 0 fs) bytes
  none_written fs bytes e = record { lines = []; are = all_told; written = e }

  pub one_written : (fs : List Finding) (i : ℕ) (f : Finding) (old new : List ℕ) → i < length fs → f ≡ get_or fs i f
      → AreWritten (take i fs) old
      → (line : ℕ) × (column : ℕ) × IsAt text f.byte line column × (new ≡ old ++ (finding_line file line column f ++ 10 ∷ []))
      → AreWritten (take (i + 1) fs) new
  one_written fs i f old new lt here h (line, column, at, e) =
      let own = finding_line file line column f in
      subst (λ xs. AreWritten xs new) (sym (take_item fs i f lt here))
      (record {
        lines = h.lines ++ own ∷ [];
        are = lines_pushed (take i fs) h.lines f line column at h.are;
        written = e ∙ ap (λ t. t ++ (own ++ 10 ∷ [])) h.written ∙ sym (feeds-append h.lines (own ∷ []));
      })

  pub all_written : (report : Report) (i : ℕ) (old new : List ℕ) → length report.found.items ≡ i → AreWritten (take i report.found.items) old
      → new ≡ old ++ with_feeds (last_lines report.more) → IsShownReport text file report new
  all_written report i old new e h n =
      let fs = report.found.items in
      let are : AreLines file text fs false h.lines =
      subst (λ xs. AreLines file text xs false h.lines) (take_all i fs (omega (arith, e))) h.are in
      record {
        lines = h.lines ++ last_lines report.more;
        are = lines_ended fs h.lines report.more are;
        shown_is = n ∙ ap (λ t. t ++ with_feeds (last_lines report.more)) h.written ∙ sym (feeds-append h.lines (last_lines report.more));
      }
