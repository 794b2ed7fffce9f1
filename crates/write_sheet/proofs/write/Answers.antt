-- All steps and all link records of the arrays are there, and their types say that their numbers fit.
use native.Mathlib.Omega.{arith}
use lib.Seq.{take_all}
use Rattle.write_sheet.proofs.Fits.{parts_fit}
use Rattle.write_sheet.proofs.write.Goals as goal

pub returns : goal.returns
returns c =
    let all_steps = take_all 64 c.args.steps (omega arith) in
    let all_links = take_all 512 c.args.links (omega arith) in
    record {
      returned = rw (all_steps, all_links) at c.write_given.ensures;
      numbers = parts_fit c.args.n c.args.r 64 512 c.args.steps c.args.links _ _ c.well_formed.1.0 c.well_formed.1.1.1.0;
    }
