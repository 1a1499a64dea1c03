use Rattle.std.proofs.Common.{◌∷◌, ◌++◌, codes, drop, sym, subst}
use Rattle.std.proofs.lemmas.Option.{MatchOption-at_some, MatchOption-at_none}
use Rattle.psg_deflines.specs.Parts.{texts}
use Rattle.psg_deflines.specs.Forms.{tag}
use Rattle.psg_deflines.specs.LineReads.{IsFormRead}
use Rattle.psg_deflines.specs.TailReads.{HasNoNamedTail, IsNamedTailFound}
use Rattle.psg_deflines.proofs.TermFormLaws.{declare-none}
use Rattle.psg_deflines.proofs.term_forms.line_declare.Goals as goal

pub returns-in-Some : goal.returns-in-Some
returns-in-Some c = λ named.
    let ps = texts c.args.parts.now in
    let h = MatchOption-at_some (HasNoNamedTail 1 ps) (λ r. IsNamedTailFound 1 ps r.0 r.1) _ c.in-Some.is c.in_ok-name.ensures in
    subst (λ xs. IsFormRead ((codes "declare" ++ tag c.args.space) ∷ xs) c.declare_of.result) (sym h.split)
    (c.declare_of.ensures (drop 1 ps) named h.kind h.found)

pub returns-in-None : goal.returns-in-None
returns-in-None c = λ named.
    declare-none (texts c.args.parts.now) c.args.space (MatchOption-at_none (HasNoNamedTail 1 (texts c.args.parts.now)) (λ r. IsNamedTailFound 1 (texts c.args.parts.now) r.0 r.1) c.in-None.is c.in_ok-name.ensures)
