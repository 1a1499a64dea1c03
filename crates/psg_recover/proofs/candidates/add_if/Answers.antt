use Rattle.std.proofs.Common.{◌∙◌, refl, sym, true≢false}
use Rattle.psg_class.specs.Texts.{tokens_of}
use Rattle.psg_recover.proofs.CandidateLaws.{candidates_less, candidates_more}
use Rattle.psg_recover.proofs.ReaderLaws.{stands_not}
use Rattle.psg_recover.proofs.candidates.add_if.Goals as goal

pub is_candidate-requires : goal.is_candidate-requires
is_candidate-requires c = record {
  reader = c.requires.reader;
  stop = c.requires.stop;
  from = c.requires.from;
  phylum = c.requires.phylum;
  stands = sym c.may_stand.ensures ∙ c.if-not-may_stand.false;
}

pub returns-then-not-may_stand : goal.returns-then-not-may_stand
returns-then-not-may_stand c =
    let def = c.args.reader.known.definition.now in
    candidates_less def c.args.reader.kind (tokens_of c.args.tokens.now) c.args.stop c.args.candidate.from
    c.args.candidate.phylum c.args.found.now.items c.requires.found c.args.candidate refl refl
    (stands_not def c.args.reader.kind (tokens_of c.args.tokens.now) c.args.stop c.args.candidate
    (sym c.may_stand.ensures ∙ c.if-not-may_stand.true))

pub returns-then-not-fits : goal.returns-then-not-fits
returns-then-not-fits c =
    candidates_less c.args.reader.known.definition.now c.args.reader.kind (tokens_of c.args.tokens.now) c.args.stop
    c.args.candidate.from c.args.candidate.phylum c.args.found.now.items c.requires.found c.args.candidate refl refl
    (λ fits. true≢false (sym (c.in_ok-fits.ensures.1 fits) ∙ c.if-not-fits.true))

pub returns : goal.returns
returns c =
    candidates_more c.args.reader.known.definition.now c.args.reader.kind (tokens_of c.args.tokens.now) c.args.stop
    c.args.candidate.from c.args.candidate.phylum c.args.found.now.items c.requires.found c.args.candidate
    c.push.new.self.items c.in_ok-push.ensures.items refl refl (c.in_ok-fits.ensures.0 c.if-not-fits.false)
