use Rattle.std.proofs.Common.{◌≡◌, subst}
use Rattle.std.specs.Option.{option_map}
use Rattle.std.specs.FinMap as map
use Rattle.psg_commented.proofs.Keep.{some_at}
use Rattle.psg_keeping.proofs.files.KeepingFiles.replace.Goals as goal

pub returns-in_ok-replace-in-Some-clause-written : goal.returns-in_ok-replace-in-Some-clause-written
returns-in_ok-replace-in-Some-clause-written g c = (
  c.in-Some.known.text,
  some_at _ c.in_ok-found.found c.in-Some.known c.in-Some.is c.in_ok-found.ensures.some,
  subst (λ t. g.F.Files.holds c.replace.new.self
      ≡ option_map (λ held. map.insert held c.args.name.now t) (g.F.Files.holds c.args.self.now.files)) c.as_slice.ensures
      c.in_ok-replace-in-Some.ensures.replaces,
)
