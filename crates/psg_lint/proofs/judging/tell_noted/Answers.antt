use Rattle.std.proofs.Common.{◌≡◌, ◌++◌, ◌⊎◌, inl, inr, List, true, false, append_assoc, ap, sym, ◌∙◌, true≢false, rules}
use Rattle.psg_grammar.specs.Open.{IsOpen}
use Rattle.psg_lint.specs.Reports.{found_open, found_wrong}
use Rattle.psg_recover.specs.declared.finding.Finding.{Finding}
use Rattle.psg_recover.specs.Findings.{has_error}
use Rattle.psg_uses.specs.Free.{free_uses}
use Rattle.psg_lint.specs.Warnings.{warnings}
use Rattle.psg_lint.proofs.ReadLaws.{said_is}
use Rattle.psg_lint.proofs.judging.tell_noted.Goals as goal

pub tell_if_wrong-requires-clause-good : goal.tell_if_wrong-requires-clause-good
tell_if_wrong-requires-clause-good g c =
    ((λ t. c.requires.good.1 (c.is_good-good.ensures.rows.0 t)), (λ o. c.is_good-good.ensures.rows.1 (c.requires.good.0 o)))

pub returns-then-whole : goal.returns-then-whole
returns-then-whole g c = λ r is.
    let j = c.args.judged in
    let yes : c.is_both-whole.result ≡ true = search rules in
    let both = c.is_both-whole.ensures.yes yes in
    let stopped : has_error c.args.found.now.items ≡ false =
    sym (c.has_error-stopped.ensures ∙ ap has_error c.as_slice.ensures.value) ∙ both.1 in
    let open_is : IsOpen j.definition.now j.tree.now = c.requires.good.1 (c.is_good-good.ensures.rows.0 both.0) in
    let (notes, e, h) = c.in_ok-tell_good.ensures r is in (
      warnings j.definition.now r (free_uses j.definition.now j.tree.now) ++ notes,
      e,
      (false, found_open notes c.requires.note.within open_is stopped h),
    )

pub returns : goal.returns
returns g c = λ r is.
    let j = c.args.judged in
    let old = c.args.found.now.items in
    let no : c.is_both-whole.result ≡ false = search rules in
    let own = warnings j.definition.now r (free_uses j.definition.now j.tree.now) in
    let free = said_is (λ d q. c.tell_if_wrong.new.found.items ++ warnings d q (free_uses d j.tree.now)) j c.requires.judged r is
    c.tell_free.new.found.items c.in_ok-tell_free.ensures in
    let stopped = c.has_error-stopped.ensures ∙ ap has_error c.as_slice.ensures.value in
    let why : (IsOpen j.definition.now j.tree.now → ⊥) ⊎ (has_error old ≡ true) = elim (c.is_both-whole.ensures.no no) [
      | inl bad ↦ inl (λ o. true≢false (sym (c.is_good-good.ensures.rows.1 (c.requires.good.0 o)) ∙ bad))
      | inr so ↦ inr (sym stopped ∙ so)
    ] in
    let (told, e, (limited, h)) = c.in_ok-more.ensures r is in (
      told ++ own,
      free ∙ ap (λ (xs : List Finding). xs ++ own) e ∙ append_assoc old told own,
      (limited, found_wrong limited told c.in_ok-more.more c.requires.note.within h why),
    )
