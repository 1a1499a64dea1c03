use Rattle.std.proofs.Common.{[], ◌∷◌, append-nil, ap, map, sym, ◌∙◌}
use Rattle.std.proofs.lemmas.List.{map-append}
use Rattle.serde_json.specs.View.{view}
use Rattle.psg_server.specs.Linking.{way_of}
use Rattle.psg_server.proofs.LinkingLaws.{adds_none, adds_one}
use Rattle.psg_server.proofs.linking.push_shown.Goals as goal

pub returns-then-not-wanted : goal.returns-then-not-wanted
returns-then-not-wanted c = (
  [],
  sym (append-nil (map view c.args.values.now.items)),
  adds_none c.args.sheet.now.encoding c.args.sheet.now.text.now (way_of c.args.how) c.args.all c.args.spot.now
      (sym c.is_wanted-wanted.ensures ∙ c.if-not-wanted.true),
)

pub returns : goal.returns
returns c = (
  view c.in_ok-value.value ∷ [],
  ap (map view) c.in_ok-push.ensures.items ∙ map-append view c.args.values.now.items (c.in_ok-value.value ∷ []),
  adds_one c.args.sheet.now.encoding c.args.sheet.now.text.now (way_of c.args.how) c.args.all c.args.spot.now
      (view c.in_ok-value.value) (sym c.is_wanted-wanted.ensures ∙ c.if-not-wanted.false) c.in_ok-value.ensures,
)
