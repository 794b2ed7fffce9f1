-- 14, or the sheet at the front of the buffer.
use native.Mathlib.Omega.{arith}
use Rattle.write_sheet.proofs.Verdicts.{leaves_refused, leaves_given, room_short}
use Rattle.write_sheet.proofs.write_whole.Goals as goal

pub returns-then-out-size : goal.returns-then-out-size
returns-then-out-size c = leaves_refused (room_short _ _ (omega (arith, c.if-out-size.true, c.requires.long)))

pub returns : goal.returns
returns c = leaves_given c.requires.long (omega (arith, c.if-out-size.false, c.requires.long)) c.put_sheet.ensures
