use Rattle.std.proofs.Common.{◌≡◌, ◌++◌, codes}
use Rattle.std.proofs.lemmas.Option.{MatchOption-at_some, MatchOption-at_none}
use Rattle.std.proofs.lemmas.Result.{IfOk-weaker}
use Rattle.psg_terms.specs.Names.{Name}
use Rattle.psg_deflines.specs.Parts.{texts}
use Rattle.psg_deflines.specs.Forms.{IsSpaceName, tag}
use Rattle.psg_deflines.specs.LineReads.{IsFormRead}
use Rattle.std.specs.Prelude.{◌∷◌}
use Rattle.psg_deflines.specs.FormReads.{IsNoPlainWord, IsNoTermWord}
use Rattle.psg_deflines.proofs.WordLaws.{no-other, declare-read}
use Rattle.psg_deflines.proofs.entries.declare_form.Goals as goal

pub returns-in-Some : goal.returns-in-Some
returns-in-Some c =
    let w = c.args.keyword.now in
    let h = MatchOption-at_some ((n : Name) → IsSpaceName n → w ≡ codes "declare" ++ tag n → ⊥) (λ (n : Name). IsSpaceName n × (w ≡ codes "declare" ++ tag n)) c.in-Some.space c.in-Some.is c.in_ok-space.ensures in
    IfOk-weaker c.line_declare.result _ (λ read. IsNoPlainWord w → IsNoTermWord w → IsFormRead (w ∷ texts c.args.behind.now) read)
    (λ read r plain term. declare-read w (texts c.args.behind.now) c.in-Some.space read h r) c.line_declare.ensures

pub returns-in-None : goal.returns-in-None
returns-in-None c = λ plain term.
    let w = c.args.keyword.now in
    no-other w (texts c.args.behind.now) plain term
    (MatchOption-at_none ((n : Name) → IsSpaceName n → w ≡ codes "declare" ++ tag n → ⊥) (λ (n : Name). IsSpaceName n × (w ≡ codes "declare" ++ tag n)) c.in-None.is c.in_ok-space.ensures)
