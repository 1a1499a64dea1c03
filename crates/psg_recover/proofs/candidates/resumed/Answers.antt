use Rattle.std.proofs.Common.{◌≡◌, ◌≤◌, ◌<◌, List, length, arith, refl, subst, sym}
use Rattle.std.proofs.lemmas.List.{length-map}
use Rattle.psg_lexis.specs.declared.token.Spanned.{Spanned}
use Rattle.psg_class.specs.Texts.{tokens_of}
use Rattle.psg_recover.specs.declared.candidates.Candidate.{Candidate}
use Rattle.psg_recover.specs.Candidates.{AreCandidates}
use Rattle.psg_recover.proofs.CandidateLaws.{has_none, none_before, none_up_to}
use Rattle.psg_recover.proofs.ReaderLaws.{at_none, at_some, none_for, resumed_best}
use Rattle.psg_recover.proofs.candidates.resumed.Goals as goal

pub resumed_at-requires : goal.resumed_at-requires
resumed_at-requires c = record {
  reader = c.requires.reader;
  to = omega arith;
  candidates = (
    c.args.stop,
    omega arith,
    subst (λ (xs : List Candidate). AreCandidates c.args.reader.known.definition.now c.args.reader.kind (tokens_of c.args.tokens.now) c.args.stop xs) (sym c.as_slice.ensures.value) c.in_ok-all.ensures,
  );
}

pub loop-to-init : goal.loop-to-init
loop-to-init c =
    none_before c.args.reader.known.definition.now c.args.reader.kind (tokens_of c.args.tokens.now) c.args.stop c.in_ok-all.all.items

pub returns-in-Some : goal.returns-in-Some
returns-in-Some c =
    let ts = tokens_of c.args.tokens.now in
    let many : length ts ≡ length c.args.tokens.now = length-map c.args.tokens.now (λ (s : Spanned). s.token) in
    resumed_best c.args.reader ts c.args.stop c.loop-to.to c.in_ok-all.all.items c.in_ok-all.ensures c.as_slice.result.now
    c.as_slice.ensures.value c.in-Some.at (omega arith) (omega (arith, many)) c.loop-to.invariant
    (at_some c.args.reader ts c.loop-to.to c.as_slice.result.now c.in_ok-found.found c.in-Some.at c.in-Some.is c.in_ok-found.ensures)

pub loop-to-preserved : goal.loop-to-preserved
loop-to-preserved c =
    none_up_to c.args.reader.known.definition.now c.args.reader.kind (tokens_of c.args.tokens.now) c.args.stop c.in_ok-all.all.items
    c.in_ok-all.ensures c.loop-to.to c.loop-to.invariant
    (none_for c.args.reader c.args.tokens.now c.loop-to.to c.in_ok-all.all.items c.as_slice.result.now c.as_slice.ensures.value
    (at_none c.args.reader (tokens_of c.args.tokens.now) c.loop-to.to c.as_slice.result.now c.in_ok-found.found c.in-None.is c.in_ok-found.ensures))

pub returns : goal.returns
returns c =
    let ts = tokens_of c.args.tokens.now in
    let many : length ts ≡ length c.args.tokens.now = length-map c.args.tokens.now (λ (s : Spanned). s.token) in
    has_none c.args.reader.known.definition.now c.args.reader.kind ts c.args.stop c.in_ok-all.all.items c.in_ok-all.ensures
    c.loop-to.to (omega (arith, many)) c.loop-to.invariant
