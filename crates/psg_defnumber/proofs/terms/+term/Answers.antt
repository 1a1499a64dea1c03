use Rattle.std.proofs.Common.{ap, arith, subst, sym, refl, ◌∙◌, ◌<◌, take}
use Rattle.std.proofs.lemmas.List.{take_all}
use Rattle.psg_terms.specs.Kept.{numbers_of}
use Rattle.psg_deflines.specs.WrittenTerms.{variable, named, applied}
use Rattle.psg_deflines.specs.Shapes.{term_of}
use Rattle.psg_defcheck.specs.Meanings.{KnowsTerm}
use Rattle.psg_defcheck.proofs.TermLaws.{arguments_below, term_below}
use Rattle.psg_defcheck.proofs.KnownLaws.{knows-applied}
use Rattle.psg_defcheck.proofs.SortLaws.{all-at}
use Rattle.psg_defnumber.specs.Naming.{AreMadeTerms}
use Rattle.psg_defnumber.specs.Sorts.{TermsStand}
use Rattle.psg_defnumber.proofs.MeetLaws.{made-applied, made-next}
use Rattle.psg_defnumber.proofs.StandLaws.{constructor-stands, variable-one, variable-agrees, terms-count, term-at}
use Rattle.psg_defnumber.proofs.terms.+term.Goals as goal

pub term-constructor_named-requires-clause-there : goal.term-constructor_named-requires-clause-there
term-constructor_named-requires-clause-there t c =
    ((knows-applied c.args.checked.now (named c.in-Named.name) c.in-Named.args).0 (subst (KnowsTerm c.args.checked.now) (sym (sym (ap term_of c.in-Named.is) ∙ c.written.view_is)) c.requires.declared)).0

pub term-variable-requires : goal.term-variable-requires
term-variable-requires t c =
    variable-one c.args.checked.now c.requires.constructors.once c.args.known.now.entries c.args.sort.0 c.args.written.now c.as_str.result.now (ap variable c.as_str.ensures ∙ sym (ap term_of c.in-Variable.is) ∙ c.written.view_is) c.requires.fits

pub term-terms-requires : goal.term-terms-requires
term-terms-requires t c =
    let file = c.args.checked.now in
    let args = c.as_slice-in-Named.result.now in
    let e = ap (applied (named c.in-Named.name)) c.as_slice-in-Named.ensures ∙ sym (ap term_of c.in-Named.is) ∙ c.written.view_is in
    let lt = arguments_below c.args.written.now c.in-Named.name args args e refl in
    let known = (knows-applied file (named c.in-Named.name) args).0 (subst (KnowsTerm file) (sym e) c.requires.declared) in
    let con = c.constructor_named.ensures in
    let fits = c.requires.fits in
    let stands = constructor-stands file c.args.sig.now c.requires.constructors fits.0 c.args.sort.0 c.args.written.now c.in-Named.name args e known.0 c.constructor_named.result.0.0 con.0 con.1 con.2 fits.2 in
    (omega arith, (known.1, (c.requires.constructors, (fits.0, fits.1, subst (λ l. TermsStand file fits.0 l args) (con.3 ∙ ap numbers_of (sym c.as_slice.ensures)) stands.1))))

pub terms-bounds-sorts-i : goal.terms-bounds-sorts-i
terms-bounds-sorts-i t c = subst (λ n. c.loop-i.i < n) (sym (terms-count c.args.checked.now c.requires.fits.0 c.args.sorts.now c.args.written.now c.requires.fits.2)) c.loop-i-test.true

pub terms-term-requires : goal.terms-term-requires
terms-term-requires t c =
    let lt = term_below c.args.written.now c.loop-i.i c.index-written-i.result c.loop-i-test.true c.index-written-i.is in
    let fits = c.requires.fits in (
      omega arith,
      (
        all-at _ c.args.written.now c.loop-i.i c.index-written-i.result c.requires.declared c.loop-i-test.true c.index-written-i.is,
        (
          c.requires.constructors,
          (
            fits.0,
            c.loop-i.invariant.1 fits.0 fits.1 fits.2,
            term-at c.args.checked.now fits.0 c.args.sorts.now c.args.written.now c.loop-i.i _ c.index-written-i.result c.loop-i-test.true c.index-written-i.is fits.2,
          ),
        ),
      ),
    )

pub term-returns-in_ok-made-in-None-clause-agrees : goal.term-returns-in_ok-made-in-None-clause-agrees
term-returns-in_ok-made-in-None-clause-agrees t c =
    variable-agrees c.args.checked.now c.args.known.now.entries c.variable.new.known.entries c.args.sort.0 c.args.written.now c.as_str.result.now (ap variable c.as_str.ensures ∙ sym (ap term_of c.in-Variable.is) ∙ c.written.view_is) c.in_ok-number-in-None.ensures.one

pub term-returns-in_ok-made-in-Named-clause-made : goal.term-returns-in_ok-made-in-Named-clause-made
term-returns-in_ok-made-in-Named-clause-made t c =
    let file = c.args.checked.now in
    let args = c.as_slice-in-Named.result.now in
    let e = ap (applied (named c.in-Named.name)) c.as_slice-in-Named.ensures ∙ sym (ap term_of c.in-Named.is) ∙ c.written.view_is in
    let known = (knows-applied file (named c.in-Named.name) args).0 (subst (KnowsTerm file) (sym e) c.requires.declared) in
    let con = c.constructor_named.ensures in
    let fits = c.requires.fits in
    let stands = constructor-stands file c.args.sig.now c.requires.constructors fits.0 c.args.sort.0 c.args.written.now c.in-Named.name args e known.0 c.constructor_named.result.0.0 con.0 con.1 con.2 fits.2 in
    made-applied c.args.sig.now c.args.known.now.entries c.terms.new.known.entries c.args.sort.0 c.args.written.now c.in_ok-made-in-Named.made c.in-Named.name args c.in_ok-args-in-Named.args.items c.constructor_named.result.0.0
    (numbers_of c.as_slice.result.now) e c.in_ok-made-in-Named.ensures (con.0, con.1, con.2, con.3 ∙ ap numbers_of (sym c.as_slice.ensures), stands.0) c.in_ok-args-in-Named.ensures.made

pub term-returns-in_ok-made-in-Named-clause-agrees : goal.term-returns-in_ok-made-in-Named-clause-agrees
term-returns-in_ok-made-in-Named-clause-agrees t c = λ sorts agree h.
    let file = c.args.checked.now in
    let args = c.as_slice-in-Named.result.now in
    let e = ap (applied (named c.in-Named.name)) c.as_slice-in-Named.ensures ∙ sym (ap term_of c.in-Named.is) ∙ c.written.view_is in
    let known = (knows-applied file (named c.in-Named.name) args).0 (subst (KnowsTerm file) (sym e) c.requires.declared) in
    let con = c.constructor_named.ensures in
    let stands = constructor-stands file c.args.sig.now c.requires.constructors sorts c.args.sort.0 c.args.written.now c.in-Named.name args e known.0 c.constructor_named.result.0.0 con.0 con.1 con.2 h in
    c.in_ok-args-in-Named.ensures.agrees sorts agree (subst (λ l. TermsStand file sorts l args) (con.3 ∙ ap numbers_of (sym c.as_slice.ensures)) stands.1)

pub terms-loop-i-preserved : goal.terms-loop-i-preserved
terms-loop-i-preserved t c = (
  made-next c.args.sig.now c.args.known.now.entries c.loop-i.known.entries c.term.new.known.entries c.args.sorts.now c.args.written.now c.loop-i.made.items c.push.new.self.items c.loop-i.i _ c.index-written-i.result c.in_ok-one.one
      (terms-count c.args.checked.now c.requires.fits.0 c.args.sorts.now c.args.written.now c.requires.fits.2) c.loop-i-test.true c.index-written-i.is c.in_ok-push.ensures.items c.loop-i.invariant.0 c.in_ok-one.ensures.made,
  λ sorts agree h.
      c.in_ok-one.ensures.agrees sorts (c.loop-i.invariant.1 sorts agree h)
      (term-at c.args.checked.now sorts c.args.sorts.now c.args.written.now c.loop-i.i _ c.index-written-i.result c.loop-i-test.true c.index-written-i.is h),
)

pub terms-returns-clause-made : goal.terms-returns-clause-made
terms-returns-clause-made t c =
    let old = c.args.known.now.entries in
    let new = c.loop-i.known.entries in
    let all = c.args.sorts.now in
    let ws = c.args.written.now in
    let count = terms-count c.args.checked.now c.requires.fits.0 all ws c.requires.fits.2 in
    subst (λ l. AreMadeTerms c.args.sig.now old new (numbers_of l) ws c.loop-i.made.items) (take_all c.loop-i.i all (omega (arith, c.loop-i-test.false)))
    (subst (λ l. AreMadeTerms c.args.sig.now old new (numbers_of (take c.loop-i.i all)) l c.loop-i.made.items) (take_all c.loop-i.i ws (omega (arith, c.loop-i-test.false))) c.loop-i.invariant.0)

pub terms-returns-clause-agrees : goal.terms-returns-clause-agrees
terms-returns-clause-agrees t c = c.loop-i.invariant.1
