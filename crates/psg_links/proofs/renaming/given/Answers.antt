use Rattle.std.proofs.Common.{List, ℕ, ap, subst, sym, ◌∙◌}
use Rattle.psg_program.specs.Decoding.{unmarked}
use Rattle.psg_links.specs.declared.link.Link.{Link}
use Rattle.psg_links.specs.Renaming.{IsTried, is_new_name, renamed_text}
use Rattle.psg_links.proofs.RenameLaws.{given_refused, text_is}
use Rattle.psg_links.proofs.renaming.given.Goals as goal

pub returns-then-not-named : goal.returns-then-not-named
returns-then-not-named g c = λ f h.
    ap (λ d. is_new_name d c.args.new.now) (sym c.definition-definition.ensures.same) ∙ sym c.in_ok-named.ensures
    ∙ c.if-not-named.true

pub returns-in-Some : goal.returns-in-Some
returns-in-Some g c = λ f h.
    let def = c.args.language.now in
    let bytes = unmarked c.args.bytes.now in
    let tokens = c.args.page.now.tokens.items in
    let links = c.args.page.now.links.items in
    let text = text_is def c.args.kind bytes tokens f links c.args.link.now c.args.new.now c.unmarked-own.result.now
    c.as_bytes-word.result.now c.in_ok-wanted.wanted.items c.as_slice-text.result.now c.as_slice-places.result.now
    c.unmarked-own.ensures c.as_bytes-word.ensures.value (c.as_slice-places.ensures.value ∙ c.in_ok-spots.ensures f h)
    c.in_ok-wanted.ensures c.as_slice-text.ensures.value in
    given_refused def c.args.kind bytes tokens f links c.args.link.now c.args.new.now c.in-Some.refusal
    (ap (λ d. is_new_name d c.args.new.now) (sym c.definition-definition.ensures.same) ∙ sym c.in_ok-named.ensures
    ∙ c.if-not-named.false)
    (subst (λ o. IsTried def c.args.kind (renamed_text def c.args.kind bytes tokens f links c.args.new.now c.args.link.now) c.args.link.now c.args.new.now links o) c.in-Some.is
    (subst (λ (t : List ℕ). IsTried def c.args.kind t c.args.link.now c.args.new.now links c.in_ok-why.why) text
    (subst (λ (ls : List Link). IsTried def c.args.kind c.as_slice-text.result.now c.args.link.now c.args.new.now ls c.in_ok-why.why)
    c.as_slice-links.ensures.value c.in_ok-why.ensures)))

pub returns-in-None : goal.returns-in-None
returns-in-None g c = λ f h.
    let def = c.args.language.now in
    let bytes = unmarked c.args.bytes.now in
    let tokens = c.args.page.now.tokens.items in
    let links = c.args.page.now.links.items in
    let text = text_is def c.args.kind bytes tokens f links c.args.link.now c.args.new.now c.unmarked-own.result.now
    c.as_bytes-word.result.now c.in_ok-wanted.wanted.items c.as_slice-text.result.now c.as_slice-places.result.now
    c.unmarked-own.ensures c.as_bytes-word.ensures.value (c.as_slice-places.ensures.value ∙ c.in_ok-spots.ensures f h)
    c.in_ok-wanted.ensures c.as_slice-text.ensures.value in (
      ap (λ d. is_new_name d c.args.new.now) (sym c.definition-definition.ensures.same) ∙ sym c.in_ok-named.ensures
          ∙ c.if-not-named.false,
      subst (λ o. IsTried def c.args.kind (renamed_text def c.args.kind bytes tokens f links c.args.new.now c.args.link.now) c.args.link.now c.args.new.now links o) c.in-None.is
          (subst (λ (t : List ℕ). IsTried def c.args.kind t c.args.link.now c.args.new.now links c.in_ok-why.why) text
          (subst (λ (ls : List Link). IsTried def c.args.kind c.as_slice-text.result.now c.args.link.now c.args.new.now ls c.in_ok-why.why)
          c.as_slice-links.ensures.value c.in_ok-why.ensures)),
      c.in_ok-spots.ensures f h,
    )
