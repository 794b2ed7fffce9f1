-- The entries are the printed table, and what is quoted by them is returned.
use Rattle.price_sheet.proofs.Plans.{price_quoted, price_refused}
use Rattle.price_sheet.proofs.price.Goals as goal

pub returns-in-Ok : goal.returns-in-Ok
returns-in-Ok c = price_quoted c.printed-entries.ensures c.in-Ok.ensures

pub returns-in-Err : goal.returns-in-Err
returns-in-Err c = price_refused c.printed-entries.ensures c.in-Err.ensures
