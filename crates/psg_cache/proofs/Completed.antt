-- Notes by completions.
use Rattle.std.proofs.Common.{refl}
use Rattle.psg_grammar.specs.declared.types.Definition.{Definition}
use Rattle.psg_grammar.specs.Fragments.{Fragment}
use Rattle.psg_grammar.specs.Sound.{IsSound}
use Rattle.psg_completions.proofs.Law.{open_or_completable}
use Rattle.psg_completions.proofs.MarkLaws.{marked_by_completions}
use Rattle.psg_cache.specs.Annotated.{Annotated}
use Rattle.psg_cache.specs.Blames.{culprits_in}
use Rattle.psg_cache.specs.Completed.{TellsCompletable}
use Rattle.psg_cache.specs.Notes.{IsNoteOf, mark_by}
use Rattle.psg_cache.proofs.MarkLaws.{marked}
use Rattle.psg_cache.proofs.NoteOpen.{noted_open}

pub noted_completable : (def : Definition) → IsSound def → (f : Fragment) (n : Annotated) → IsNoteOf def f n → TellsCompletable def f n
noted_completable def sound f n note rows =
    let (kind, formed) = note.formed in
    let open_is = noted_open def f n note in
    let same = open_or_completable def sound rows f kind formed in
    record {
      relation = (λ c. open_is.0 (same.1 c), λ h. same.0 (open_is.1 h));
      culprits = (marked_by_completions def sound rows f kind formed (mark_by (culprits_in n))).0 (marked n (culprits_in n) refl def f note);
    }
