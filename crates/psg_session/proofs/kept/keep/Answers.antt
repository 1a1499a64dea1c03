use Rattle.std.proofs.Common.{◌≡◌, ◌<◌, ◌≤◌, [], ◌∷◌, ◌++◌, List, ℕ, length, Some, Err, refl, option_map, sym, ap, ap₂, ◌∙◌, subst}
use Rattle.std.specs.Prelude.{codes, option_copied, OnErr}
use Rattle.std.specs.FinMap as map
use Rattle.psg_terms.specs.Names.{Name}
use Rattle.psg_world.specs.Files.{Held, entries_after_write, writing}
use Rattle.psg_library.specs.declared.fragment.SavedFragment.{SavedFragment as Saved}
use Rattle.psg_library.specs.Keeping.{bytes_of}
use Rattle.psg_library.proofs.Written.{kind_there}
use Rattle.psg_session.specs.declared.kept.TheConstants.{MOST_KEPT_BYTES}
use Rattle.psg_session.specs.Replies.{answered}
use Rattle.psg_session.specs.Shelf.{saved_at}
use Rattle.psg_session.proofs.KeptLaws.{keep_long, keep_lost, keep_missing, keep_stopped, keep_stored, same_outside}
use Rattle.psg_session.proofs.Options.{only_none}
use Rattle.psg_session.proofs.Shelving.{kept_at}
use Rattle.psg_session.proofs.kept.keep.Goals as goal

pub returns-in_default-clause-reached : goal.returns-in_default-clause-reached
returns-in_default-clause-reached g c = λ count.
    keep_missing c.args.language.now.definition c.args.editor.now c.args.name.now c.args.file.now _ _ count
    (ap (λ (xs : List Saved). saved_at xs c.args.name.now) (sym c.as_slice.ensures) ∙ sym c.saved_named.ensures
    ∙ ap option_copied (only_none c.saved_named.result c.in_default.not-Some)) refl

pub fragment_bytes-requires-clause-kind : goal.fragment_bytes-requires-clause-kind
fragment_bytes-requires-clause-kind g c =
    let x : Saved = c.in-Some.saved.now in
    let there : saved_at c.args.editor.now.saved c.args.name.now ≡ Some x =
    ap (λ (xs : List Saved). saved_at xs c.args.name.now) (sym c.as_slice.ensures) ∙ sym c.saved_named.ensures
    ∙ ap option_copied c.in-Some.is in
    kind_there c.args.language.now.definition c.requires.language.sound x.tree [] x.kind
    (kept_at c.args.language.now.definition c.args.editor.now.saved c.args.name.now x there c.requires.editor.saved).0

pub returns-then-shown-gt-MOST_KEPT_BYTES-clause-reached : goal.returns-then-shown-gt-MOST_KEPT_BYTES-clause-reached
returns-then-shown-gt-MOST_KEPT_BYTES-clause-reached g c = λ count.
    let def = c.args.language.now.definition in
    let x : Saved = c.in-Some.saved.now in
    let there : saved_at c.args.editor.now.saved c.args.name.now ≡ Some x =
    ap (λ (xs : List Saved). saved_at xs c.args.name.now) (sym c.as_slice.ensures) ∙ sym c.saved_named.ensures
    ∙ ap option_copied c.in-Some.is in
    let are : c.as_slice-shown.result.now ≡ bytes_of def x =
    c.as_slice-shown.ensures.value ∙ c.in_ok-bytes.ensures
    ∙ ap (λ (n : Name). bytes_of def (record { name = n; kind = x.kind; tree = x.tree })) c.as_str-own_name.ensures in
    keep_long def c.args.editor.now c.args.name.now c.args.file.now _ _ count x there
    (subst (λ l. MOST_KEPT_BYTES < length l) are c.if-shown-gt-MOST_KEPT_BYTES.true) refl

pub returns-in-Ok-clause-reached : goal.returns-in-Ok-clause-reached
returns-in-Ok-clause-reached g c = λ count.
    let def = c.args.language.now.definition in
    let x : Saved = c.in-Some.saved.now in
    let there : saved_at c.args.editor.now.saved c.args.name.now ≡ Some x =
    ap (λ (xs : List Saved). saved_at xs c.args.name.now) (sym c.as_slice.ensures) ∙ sym c.saved_named.ensures
    ∙ ap option_copied c.in-Some.is in
    let are : c.as_slice-shown.result.now ≡ bytes_of def x =
    c.as_slice-shown.ensures.value ∙ c.in_ok-bytes.ensures
    ∙ ap (λ (n : Name). bytes_of def (record { name = n; kind = x.kind; tree = x.tree })) c.as_str-own_name.ensures in
    keep_stored def c.args.editor.now c.args.name.now c.args.file.now _ _ count x there
    (subst (λ l. length l ≤ MOST_KEPT_BYTES) are c.if-shown-gt-MOST_KEPT_BYTES.false)
    (c.in-Ok.ensures.replaces
    ∙ ap₂ (λ (n : Name) (b : List ℕ). option_map (λ (held : Held). map.insert held n b)
    (g.F.Files.holds c.args.files.now)) c.as_str-to.ensures are)
    c.in-Ok.ensures.entries _
    (ap answered (c.in_ok-lines.ensures ∙ ap (λ (n : Name). (codes "kept " ++ n) ∷ []) c.as_str-word.ensures))

pub returns-in-Err-Failed-clause-reached : goal.returns-in-Err-Failed-clause-reached
returns-in-Err-Failed-clause-reached g c = λ count.
    let def = c.args.language.now.definition in
    let x : Saved = c.in-Some.saved.now in
    let there : saved_at c.args.editor.now.saved c.args.name.now ≡ Some x =
    ap (λ (xs : List Saved). saved_at xs c.args.name.now) (sym c.as_slice.ensures) ∙ sym c.saved_named.ensures
    ∙ ap option_copied c.in-Some.is in
    let are : c.as_slice-shown.result.now ≡ bytes_of def x =
    c.as_slice-shown.ensures.value ∙ c.in_ok-bytes.ensures
    ∙ ap (λ (n : Name). bytes_of def (record { name = n; kind = x.kind; tree = x.tree })) c.as_str-own_name.ensures in
    keep_lost def c.args.editor.now c.args.name.now c.args.file.now _ _ count x there
    (subst (λ l. length l ≤ MOST_KEPT_BYTES) are c.if-shown-gt-MOST_KEPT_BYTES.false)
    (subst (λ r. OnErr r (g.F.Files.holds c.replace.new.self ≡ g.F.Files.holds c.args.files.now))
    (c.in-Err-Failed.is ∙ ap Err c.in-Err-Failed.field-0-is) c.replace.ensures.keeps)
    (c.replace.ensures.entries
    ∙ ap (entries_after_write (g.F.Files.faults c.args.files.now) c.as_str-to.result.now)
    (c.in-Err-Failed.is ∙ ap Err c.in-Err-Failed.field-0-is)
    ∙ ap (λ (n : Name). g.F.Files.faults c.args.files.now ++ writing n ∷ []) c.as_str-to.ensures)

pub returns-clause-stopped : goal.returns-clause-stopped
returns-clause-stopped g c = λ count.
    let def = c.args.language.now.definition in
    let x : Saved = c.in-Some.saved.now in
    let there : saved_at c.args.editor.now.saved c.args.name.now ≡ Some x =
    ap (λ (xs : List Saved). saved_at xs c.args.name.now) (sym c.as_slice.ensures) ∙ sym c.saved_named.ensures
    ∙ ap option_copied c.in-Some.is in
    let are : c.as_slice-shown.result.now ≡ bytes_of def x =
    c.as_slice-shown.ensures.value ∙ c.in_ok-bytes.ensures
    ∙ ap (λ (n : Name). bytes_of def (record { name = n; kind = x.kind; tree = x.tree })) c.as_str-own_name.ensures in
    keep_stopped def c.args.editor.now c.args.name.now c.args.file.now _ _ count x there
    (subst (λ l. length l ≤ MOST_KEPT_BYTES) are c.if-shown-gt-MOST_KEPT_BYTES.false)
    (same_outside
    (subst (λ r. OnErr r (g.F.Files.holds c.replace.new.self ≡ g.F.Files.holds c.args.files.now))
    (c.in-Err-Memory.is ∙ ap Err c.in-Err-Memory.field-0-is) c.replace.ensures.keeps)
    (c.replace.ensures.entries
    ∙ ap (entries_after_write (g.F.Files.faults c.args.files.now) c.as_str-to.result.now)
    (c.in-Err-Memory.is ∙ ap Err c.in-Err-Memory.field-0-is)))
