-- What an unfinished list is filled by: a finished list that begins with its elements, and nothing else.
use Rattle.std.proofs.Common.{◌≡◌, true, false, refl, sym, subst, true≢false}
use Rattle.psg_grammar.specs.declared.types.Kind.TheVariants as kinds
use Rattle.psg_grammar.specs.Fragments.{Fragment, hole, ending, cell, operator}
use Rattle.psg_grammar.specs.WellFormed.{WellFormed, IsComplete}
use Rattle.psg_grammar.specs.Fillings.{Fills}
use Rattle.psg_grammar.proofs.CaseLanguage.{list_items, op_yes, one, yes, block}
use Rattle.psg_tests_languages.proofs.CaseNeeds.{needing, op_need, need}

-- `need one` in front of a list
abbrev first : Fragment → Fragment
first rest = cell 0 (need one) rest

abbrev second : Fragment → Fragment
second rest = cell 0 (need yes) rest

abbrev finished : Fragment
finished = ending 0 false

abbrev unfinished : Fragment
unfinished = ending 0 true

-- `need one ; ...`
abbrev list : Fragment
list = first unfinished

one_filled : Fills needing (need one) (need one)
one_filled = (operator 7, one, refl, refl, refl)

need_yes_fits : WellFormed needing (second finished) (kinds.List 0) × IsComplete (second finished)
need_yes_fits = (
  ((refl, refl, list_items, refl, (kinds.Phylum 0, (op_need, refl, refl, refl), (op_yes, refl, refl, refl)), (refl, refl, (list_items, refl, λ e. absurd (true≢false (sym e)))), tt), ((tt, tt), tt)),
  ((tt, tt), refl),
)

end_fits : WellFormed needing finished (kinds.List 0) × IsComplete finished
end_fits = (((refl, refl, (list_items, refl, λ e. absurd (true≢false (sym e)))), tt), refl)

-- by a longer list, and by one that is as long
by_longer : Fills needing list (first (second finished))
by_longer = (need one, second finished, refl, one_filled, need_yes_fits)

by_as_long : Fills needing list (first finished)
by_as_long = (need one, finished, refl, one_filled, end_fits)

-- by none that is shorter
by_no_shorter : Fills needing list finished → ⊥
by_no_shorter (e, r, is, element, rest) = cc

by_no_shorter_two : Fills needing (first (second unfinished)) (first finished) → ⊥
by_no_shorter_two (e, r, is, element, (e2, r2, is2, element2, rest)) = let after : finished ≡ r = cc in let more : finished ≡ cell 0 e2 r2 = cc in cc

-- by none that is unfinished itself
by_no_unfinished : Fills needing list (first (second unfinished)) → ⊥
by_no_unfinished (e, r, is, element, (fits, complete)) = unfinished_rest r (let same : second unfinished ≡ r = cc in same) complete where
  unfinished_rest : (r : Fragment) → second unfinished ≡ r → IsComplete r → ⊥
  unfinished_rest r same c = let whole : IsComplete (second unfinished) = subst IsComplete (sym same) c in true≢false whole.1

-- by none with another first element
by_no_other : Fills needing list (second finished) → ⊥
by_no_other (e, r, is, (f, c, made, of_need, of_one), rest) = let same : need yes ≡ e = cc in let child : yes ≡ c = cc in let leaf : c ≡ one = of_one in cc

-- by none whose first element is not complete
by_no_hole : Fills needing (cell 0 (need (hole 0)) unfinished) (cell 0 (need (hole 0)) finished) → ⊥
by_no_hole (e, r, is, (f, c, made, of_need, (fits, complete)), rest) =
    let same : need (hole 0) ≡ e = cc in
    let place : hole 0 ≡ c = cc in
    subst IsComplete (sym place) complete

-- by no tree that is no list, and by no list with an element of another phylum
by_no_block : Fills needing list (block finished) → ⊥
by_no_block (e, r, is, element, rest) = cc
