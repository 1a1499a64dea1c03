use Rattle.psg_wanted.proofs.ListedLaws.{told_good, told_wide}
use Rattle.psg_wanted.proofs.menus.is_listed.Goals as goal

pub returns-in-Ok : goal.returns-in-Ok
returns-in-Ok g c =
    told_good c.args.definition.now c.args.frames.now c.args.used.now c.args.op c.fits.result c.in-Ok.good c.in-Ok.is c.fits.ensures.offered

pub returns-in_ok-listed-in-Err : goal.returns-in_ok-listed-in-Err
returns-in_ok-listed-in-Err g c =
    told_wide c.args.definition.now c.args.frames.now c.args.used.now c.args.op c.fits.result c.in-Err.fault c.in_ok-listed-in-Err.listed
    c.in-Err.is c.in_ok-listed-in-Err.ensures.wide c.in_ok-listed-in-Err.ensures.listed c.fits.ensures.offered
