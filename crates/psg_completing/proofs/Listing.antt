-- The fillings of a definition, one after the other.
use Rattle.std.proofs.Common.{◌≡◌, ◌<◌, ◌≤◌, ◌+◌, ℕ, suc, List, [], ◌∷◌, ◌++◌, drop, length, sym, ap, ◌∙◌, arith}
use Rattle.std.specs.Prelude.{get_or}
use Rattle.std.proofs.lemmas.List.{append-nil, append_assoc, drop_all, drop_more}
use Rattle.psg_terms.proofs.Lists.{drop_item}
use Rattle.psg_grammar.specs.declared.types.ListKind.{ListKind}
use Rattle.psg_grammar.specs.declared.types.Phylum.{Phylum}
use Rattle.psg_completing.specs.declared.fillings.Filling.{Filling}
use Rattle.psg_completing.specs.declared.fillings.Side.TheVariants.{Alone}
use Rattle.psg_completing.specs.Fillings.{filling, fillings_from, list_fillings, lists_from}

one_after : (i : ℕ) → suc i ≡ i + 1
one_after i = omega arith

pub lists_next : (phylum : ℕ) (row : List ListKind) (i : ℕ) (x : ListKind) (old new whole : List Filling)
    → i < length row → x ≡ get_or row i x → new ≡ old ++ list_fillings phylum i x
    → old ++ lists_from phylum i (drop i row) ≡ whole
    → new ++ lists_from phylum (i + 1) (drop (i + 1) row) ≡ whole
lists_next phylum row i x old new whole lt is n h =
    ap (λ l. l ++ lists_from phylum (i + 1) (drop (i + 1) row)) n
    ∙ append_assoc old (list_fillings phylum i x) (lists_from phylum (i + 1) (drop (i + 1) row))
    ∙ ap (λ k. old ++ (list_fillings phylum i x ++ lists_from phylum k (drop (i + 1) row))) (sym (one_after i))
    ∙ ap (λ l. old ++ lists_from phylum i l) (sym (drop_item row i x lt is)) ∙ h

pub lists_end : (phylum : ℕ) (row : List ListKind) (i : ℕ) (made whole : List Filling) → length row ≤ i
    → made ++ lists_from phylum i (drop i row) ≡ whole → made ≡ whole
lists_end phylum row i made whole le h =
    sym (append-nil made) ∙ ap (λ l. made ++ lists_from phylum i l) (sym (drop_all i row le)) ∙ h

pub phyla_next : (lists : List ListKind) (row : List Phylum) (i : ℕ) (old new whole : List Filling) → i < length row
    → new ≡ old ++ (filling i Alone ∷ lists_from i 0 lists) → old ++ fillings_from lists i (drop i row) ≡ whole
    → new ++ fillings_from lists (i + 1) (drop (i + 1) row) ≡ whole
phyla_next lists row i old new whole lt n h =
    let (x, is) = some_there row i lt in
    ap (λ l. l ++ fillings_from lists (i + 1) (drop (i + 1) row)) n
    ∙ append_assoc old (filling i Alone ∷ lists_from i 0 lists) (fillings_from lists (i + 1) (drop (i + 1) row))
    ∙ ap (λ k. old ++ ((filling i Alone ∷ lists_from i 0 lists) ++ fillings_from lists k (drop (i + 1) row)))
    (sym (one_after i))
    ∙ ap (λ l. old ++ fillings_from lists i l) (sym is) ∙ h where
      some_there : (row : List Phylum) (i : ℕ) → i < length row
          → (x : Phylum) × (drop i row ≡ x ∷ drop (i + 1) row)
      some_there [] i lt = absurd (omega (arith, lt))
      some_there (x ∷ row) i lt = (get_or (x ∷ row) i x, drop_more (x ∷ row) i x lt)

pub phyla_end : (lists : List ListKind) (row : List Phylum) (i : ℕ) (made whole : List Filling) → length row ≤ i
    → made ++ fillings_from lists i (drop i row) ≡ whole → made ≡ whole
phyla_end lists row i made whole le h =
    sym (append-nil made) ∙ ap (λ l. made ++ fillings_from lists i l) (sym (drop_all i row le)) ∙ h
