-- A report on bytes that are read whole: the records of a sheet, within their limits.
use mathlib.Core.List.{List}
use Prim.Native.Nat.{ℕ, ◌<◌}
use native.Mathlib.Omega.{arith}
use lib.ListN.{get_or}
use Rattle.definitions.specs.Bytes.{read}
use Rattle.laws.proofs.Lists.{mem_place}
use Rattle.demands.specs.Demands.{Bytes, IsSheet}
use Rattle.demands.proofs.Reading.{Fits, fits_of}
use Rattle.read_sheet.specs.Answers.{Found}
use Rattle.read_sheet.specs.declared.Report.{Report}

-- The elements of a list of bytes are below 256, from each place.
pub bytes_by : (s : List ℕ) → ((i : ℕ) → get_or s i 0 < 256) → Bytes s
bytes_by s small b m = let p = mem_place s 0 m in omega (arith, p.here, small p.index)

pub record Whole (s words leasts : List ℕ) (report : Report) : Type 0 where
  pub found : Found (read s) words leasts report
  pub sheet : IsSheet s found.whole
  pub fits : Fits found.whole

pub whole : (s words leasts : List ℕ) (report : Report) → ((i : ℕ) → get_or s i 0 < 256) → Found (read s) words leasts report → Whole s words leasts report
whole s words leasts report small h =
    let is : IsSheet s h.whole = record { bytes = bytes_by s small; reads = h.is_given } in
    record { found = h; sheet = is; fits = fits_of is }
