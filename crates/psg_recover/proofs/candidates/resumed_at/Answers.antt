use Rattle.std.proofs.Common.{◌<◌, ◌≤◌, length, refl, sym, true≢false, ◌∙◌, arith}
use Rattle.std.proofs.lemmas.Option.{get_or_from_slice_get, slice_get_within}
use Rattle.psg_terms.proofs.Lists.{each_at}
use Rattle.psg_class.specs.Texts.{tokens_of}
use Rattle.psg_recover.specs.Candidates.{GoesOnWith, IsCandidate}
use Rattle.psg_recover.proofs.CandidateLaws.{first_at, none_in, none_of_all}
use Rattle.psg_recover.proofs.candidates.resumed_at.Goals as goal

pub goes_on-requires : goal.goes_on-requires
goes_on-requires c =
    let def = c.args.reader.known.definition.now in
    let ts = tokens_of c.args.tokens.now in
    let own = c.candidate_at-own.result in
    let (stop, behind, are) = c.requires.candidates in
    let fits = each_at (IsCandidate def c.args.reader.kind ts stop) c.args.candidates.now are.each c.loop-place.place own c.candidate_at-own.ensures in
    record {
      reader = c.requires.reader;
      from = (let back = fits.back in let to = c.requires.to in omega (arith, back, behind, to));
      to = c.requires.to;
      phylum = slice_get_within def.phyla own.phylum fits.phylum fits.there;
    }

pub loop-place-init : goal.loop-place-init
loop-place-init c = λ x among. elim among [ ]

pub returns-then-goes : goal.returns-then-goes
returns-then-goes c =
    let own = c.candidate_at-own.result in (
      refl,
      first_at (GoesOnWith c.args.reader.known.definition.now c.args.reader.kind (tokens_of c.args.tokens.now) c.args.to) c.args.candidates.now
          c.loop-place.place own c.loop-place-test.true
          (sym (get_or_from_slice_get c.args.candidates.now c.loop-place.place own own c.candidate_at-own.ensures))
          (c.in_ok-goes.ensures.0 c.if-goes.true) c.loop-place.invariant,
    )

pub loop-place-preserved : goal.loop-place-preserved
loop-place-preserved c =
    let own = c.candidate_at-own.result in
    none_in (GoesOnWith c.args.reader.known.definition.now c.args.reader.kind (tokens_of c.args.tokens.now) c.args.to) c.args.candidates.now
    c.loop-place.place own c.loop-place-test.true
    (sym (get_or_from_slice_get c.args.candidates.now c.loop-place.place own own c.candidate_at-own.ensures)) c.loop-place.invariant
    (λ holds. true≢false (sym (c.in_ok-goes.ensures.1 holds) ∙ c.if-goes.false))

pub returns : goal.returns
returns c =
    none_of_all (GoesOnWith c.args.reader.known.definition.now c.args.reader.kind (tokens_of c.args.tokens.now) c.args.to) c.args.candidates.now
    c.loop-place.place c.loop-place-test.false c.loop-place.invariant
