use Rattle.std.proofs.Common.{◌≡◌, ap, ◌∙◌, sym, subst, Some, is_some, slice_get, length, ◌<◌}
use Rattle.psg_terms.specs.Signature.{Symbol}
use Rattle.psg_defcheck.specs.Scopes.{constructor_declared, constructor_names}
use Rattle.psg_defnumber.proofs.NamedLaws.{named-below, symbol-is}
use Rattle.psg_defnumber.proofs.lookups.constructor_named.Goals as goal

pub constructor-place-requires : goal.constructor-place-requires
constructor-place-requires c = ap (λ n. is_some (constructor_declared c.args.checked.now n)) c.as_str.ensures ∙ c.requires.there

pub constructor_at-con-requires : goal.constructor_at-con-requires
constructor_at-con-requires c =
    named-below (λ (s : Symbol). s.name) c.args.sig.now.symbols (constructor_names c.args.checked.now) c.constructor-place.result c.as_str.result.now c.requires.constructors.names c.constructor-place.ensures

pub constructor-own-requires : goal.constructor-own-requires
constructor-own-requires c =
    subst (λ p. p < length c.args.sig.now.symbols) (sym c.constructor_at-con.ensures)
    (named-below (λ (s : Symbol). s.name) c.args.sig.now.symbols (constructor_names c.args.checked.now) c.constructor-place.result c.as_str.result.now c.requires.constructors.names c.constructor-place.ensures)

pub returns : goal.returns
returns c =
    symbol-is c.args.sig.now (constructor_names c.args.checked.now) c.constructor_at-con.result.0 c.as_str.result.now c.args.name.now _ _ _ c.requires.constructors.names
    (subst (λ p. slice_get (constructor_names c.args.checked.now) p ≡ Some c.as_str.result.now) (sym c.constructor_at-con.ensures) c.constructor-place.ensures) c.as_str.ensures c.constructor-own.ensures.1
