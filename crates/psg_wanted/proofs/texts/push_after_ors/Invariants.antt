use Rattle.std.proofs.Common.{◌≡◌, ◌++◌, drop, map}
use Rattle.std.specs.Prelude.{codes, string_bytes}
use Rattle.psg_terms.specs.Text.{term_text}
use Rattle.psg_wanted.specs.Texts.{after_each}
use Rattle.psg_wanted.proofs.texts.push_after_ors.Given as goal

abbrev pub invariant-loop-term : goal.invariant-loop-term
invariant-loop-term l =
    string_bytes l.text ++ after_each (codes " or ") (map (term_text l.sig) (drop l.term-index l.terms))
    ≡ string_bytes l.fn.text ++ after_each (codes " or ") (map (term_text l.sig) l.terms)
