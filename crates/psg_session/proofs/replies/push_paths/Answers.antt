use Rattle.std.proofs.Common.{List, ◌++◌, ◌∷◌, take, get_or, sym, ap, ◌∙◌}
use Rattle.std.specs.Prelude.{string_bytes}
use Rattle.std.proofs.lemmas.List.{take_more}
use Rattle.psg_grammar.specs.Paths.{Path}
use Rattle.psg_session.specs.Marked.{path_text, paths_text}
use Rattle.psg_session.proofs.Cutting.{paths_text-push, pushed}
use Rattle.psg_session.proofs.replies.push_paths.Goals as goal

pub loop-path-preserved : goal.loop-path-preserved
loop-path-preserved c =
    let done : List Path = take c.loop-path.path-index c.args.paths.now in
    let next : Path = get_or c.args.paths.now c.loop-path.path-index c.path-item.result in
    pushed (string_bytes c.args.text.now) (paths_text done) (path_text c.path-item.result)
    (string_bytes c.loop-path.text) (string_bytes c.push_str.new.self)
    (string_bytes c.push_path.new.text) 32 c.loop-path.invariant c.in_ok-push_str.ensures.bytes
    c.in_ok-push_path.ensures
    ∙ ap (λ p. string_bytes c.args.text.now ++ (paths_text done ++ 32 ∷ path_text p)) c.path-item.is
    ∙ ap (λ l. string_bytes c.args.text.now ++ l)
    (sym (ap paths_text (take_more c.args.paths.now c.loop-path.path-index c.path-item.result c.loop-path-test.true)
    ∙ paths_text-push done next))
