use Rattle.psg_cache.specs.Annotated.{tree_in}
use Rattle.psg_session.specs.Views.{reply_of}
use Rattle.psg_asking.proofs.ProgramLaws.{same_files}
use Rattle.psg_asking.proofs.PutLaws.{applied_put, put_files, put_here, put_told}
use Rattle.psg_asking.proofs.putting.put_text.Goals as goal

pub grown_text-requires : goal.grown_text-requires
grown_text-requires g c =
    let p = c.args.program in
    put_here p.language.now p.kind (tree_in p.note.now) c.args.spot.now c.args.op.now c.args.args c.in_ok-made.made.editor
    _ _ c.args.steps.now c.tried-made.new.steps (reply_of c.in_ok-made.made.reply)
    (applied_put p.language.now p.kind (tree_in p.note.now) c.args.spot.now c.args.op.now c.args.args
    c.in_ok-made.made.editor _ _ c.args.steps.now c.tried-made.new.steps (reply_of c.in_ok-made.made.reply) c.in_ok-put.put
    c.in_ok-put.ensures c.in_ok-made.ensures.applied) c.in_ok-made.ensures.session

pub returns-clause-text : goal.returns-clause-text
returns-clause-text g c =
    let p = c.args.program in
    put_told p.language.now p.kind (tree_in p.note.now) c.args.spot.now c.args.op.now c.args.args c.in_ok-made.made.editor
    _ _ c.args.steps.now c.tried-made.new.steps (reply_of c.in_ok-made.made.reply)
    (applied_put p.language.now p.kind (tree_in p.note.now) c.args.spot.now c.args.op.now c.args.args
    c.in_ok-made.made.editor _ _ c.args.steps.now c.tried-made.new.steps (reply_of c.in_ok-made.made.reply) c.in_ok-put.put
    c.in_ok-put.ensures c.in_ok-made.ensures.applied) c.in_ok-text.text c.in_ok-text.ensures

pub returns-clause-files : goal.returns-clause-files
returns-clause-files g c =
    let p = c.args.program in
    same_files _ _ _ _
    (put_files p.language.now p.kind (tree_in p.note.now) c.args.spot.now c.args.op.now c.args.args
    c.in_ok-made.made.editor _ _ c.args.steps.now c.tried-made.new.steps (reply_of c.in_ok-made.made.reply)
    (applied_put p.language.now p.kind (tree_in p.note.now) c.args.spot.now c.args.op.now c.args.args
    c.in_ok-made.made.editor _ _ c.args.steps.now c.tried-made.new.steps (reply_of c.in_ok-made.made.reply) c.in_ok-put.put
    c.in_ok-put.ensures c.in_ok-made.ensures.applied))

pub returns-in_err-text-clause-files : goal.returns-in_err-text-clause-files
returns-in_err-text-clause-files g c =
    let p = c.args.program in
    same_files _ _ _ _
    (put_files p.language.now p.kind (tree_in p.note.now) c.args.spot.now c.args.op.now c.args.args
    c.in_ok-made.made.editor _ _ c.args.steps.now c.tried-made.new.steps (reply_of c.in_ok-made.made.reply)
    (applied_put p.language.now p.kind (tree_in p.note.now) c.args.spot.now c.args.op.now c.args.args
    c.in_ok-made.made.editor _ _ c.args.steps.now c.tried-made.new.steps (reply_of c.in_ok-made.made.reply) c.in_ok-put.put
    c.in_ok-put.ensures c.in_ok-made.ensures.applied))
