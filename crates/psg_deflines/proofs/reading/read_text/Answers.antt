use Rattle.std.proofs.Common.{◌≡◌, ℕ, List, ◌∙◌, sym, ap, arith, length}
use Rattle.std.proofs.lemmas.List.{nil_from_length}
use Rattle.std.proofs.lemmas.Option.{MatchOption-at_some, MatchOption-at_none}
use Rattle.std.specs.Prelude.{map}
use Rattle.std.specs.Str.Lines.{lines}
use Rattle.psg_deflines.proofs.PartReads.{Slices}
use Rattle.psg_deflines.specs.Parts.{texts}
use Rattle.psg_deflines.proofs.TermFound.{texts-length}
use Rattle.psg_deflines.proofs.CountLaws.{lines-few}
use Rattle.psg_deflines.proofs.ReadLaws.{map-texts}
use Rattle.psg_deflines.proofs.FileLaws.{none-head, other-head, text-read, text-fault, err-passed}
use Rattle.psg_deflines.proofs.HeadLaws.{IsNoLineHead, IsLineHead}
use Rattle.psg_deflines.proofs.reading.read_text.Goals as goal

-- the lines of the text as slices
shown : (ls : List (List ℕ)) (ts ss : Slices) → map (λ t. t.now) ts ≡ ls → ss ≡ ts → ls ≡ texts ss
shown ls ts ss e f = sym e ∙ map-texts ts ∙ ap texts (sym f)

pub returns-in_default-clause-err : goal.returns-in_default-clause-err
returns-in_default-clause-err c =
    none-head (lines c.args.text.now) c.no_version.result
    (shown (lines c.args.text.now) c.in_ok-written.written.items c.deref.result.now c.in_ok-written.ensures c.deref.ensures.value ∙ ap texts (nil_from_length c.deref.result.now c.in_default.ensures.cases)) c.no_version.ensures

pub returns-in_default-2-clause-err : goal.returns-in_default-2-clause-err
returns-in_default-2-clause-err c =
    other-head (lines c.args.text.now) (texts c.in-Some.rest.now) c.in-Some.head.now.now c.no_version-in_default-2.result
    (shown (lines c.args.text.now) c.in_ok-written.written.items c.deref.result.now c.in_ok-written.ensures c.deref.ensures.value ∙ ap texts c.in-Some.ensures.cases.0)
    (MatchOption-at_none (IsNoLineHead c.in-Some.head.now.now) (IsLineHead c.in-Some.head.now.now) c.in_default-2.is c.in_ok-version.ensures) c.no_version-in_default-2.ensures

pub entries-requires : goal.entries-requires
entries-requires c =
    let all = shown (lines c.args.text.now) c.in_ok-written.written.items c.deref.result.now c.in_ok-written.ensures c.deref.ensures.value ∙ ap texts c.in-Some.ensures.cases.0 in
    omega (arith, lines-few c.args.text.now, ap length all, texts-length c.in-Some.rest.now, c.requires)

pub returns-clause-ok : goal.returns-clause-ok
returns-clause-ok c =
    let all = shown (lines c.args.text.now) c.in_ok-written.written.items c.deref.result.now c.in_ok-written.ensures c.deref.ensures.value ∙ ap texts c.in-Some.ensures.cases.0 in
    let head = MatchOption-at_some (IsNoLineHead c.in-Some.head.now.now) (IsLineHead c.in-Some.head.now.now) c.in-Some-2.version c.in-Some-2.is c.in_ok-version.ensures in
    text-read c.in-Some-2.version (lines c.args.text.now) (texts c.in-Some.rest.now) c.in-Some.head.now.now c.in_ok-entries.entries.items all head c.in_ok-entries.ensures.ok

pub returns-in_err-entries-clause-err : goal.returns-in_err-entries-clause-err
returns-in_err-entries-clause-err c =
    let all = shown (lines c.args.text.now) c.in_ok-written.written.items c.deref.result.now c.in_ok-written.ensures c.deref.ensures.value ∙ ap texts c.in-Some.ensures.cases.0 in
    let head = MatchOption-at_some (IsNoLineHead c.in-Some.head.now.now) (IsLineHead c.in-Some.head.now.now) c.in-Some-2.version c.in-Some-2.is c.in_ok-version.ensures in
    err-passed (lines c.args.text.now) _ c.in_err-entries.field-0.0 c.from_residual-in_err-entries.ensures.1
    (text-fault c.in-Some-2.version (lines c.args.text.now) (texts c.in-Some.rest.now) c.in-Some.head.now.now c.in_err-entries.field-0.0 all head c.in_err-entries.ensures.err)
