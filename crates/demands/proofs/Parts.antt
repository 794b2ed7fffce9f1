-- Parts of a sheet's records, named by their numbers: a part holds what every record holds, so it fits where the sheet does. The parts of request L14 have the numbers below one still to be tried, and those that
-- stay.
use mathlib.Core.Path.{◌≡◌, refl, ap, subst, ◌∙◌}
use mathlib.Core.Logic.{◌⊎◌, inl, inr}
use mathlib.Core.List.Memᴰ
use mathlib.Core.List.{List, ◌++◌, map, Memᴰ}
use Prim.Native.Nat.{ℕ, ◌≤◌, ◌<◌}
use native.Mathlib.Omega.{arith}
use lib.ListN.{length, get_or}
use Rattle.definitions.specs.Bytes.{Records}
use Rattle.definitions.specs.Clashes.{blank_link, numbers_below, part_of}
use Rattle.definitions.specs.declared.Operation.{Operation}
use Rattle.definitions.specs.declared.Link.{Link}
use Rattle.laws.proofs.Fronts.{tabulate_list}
use Rattle.laws.proofs.Lists.{mem_at}
use Rattle.laws.proofs.Tests.{map_tabulate, mem_tabulate}
use Rattle.demands.specs.Parts.{Within}
use Rattle.demands.proofs.Reading.{Fits}

-- A sheet with the same steps and some of the records fits.
pub fewer_fits : {os : List Operation} {ps qs : List Link} → ((l : Link) → Memᴰ l ps → Memᴰ l qs) → Fits (record { steps = os; pairs = qs }) → Fits (record { steps = os; pairs = ps })
fewer_fits part fits = record { some = fits.some; few = fits.few; source = fits.source; ticks = fits.ticks; leasts = fits.leasts; links = λ l m. fits.links l (part l m) }

-- The record with a number.
abbrev numbered : Records → ℕ → Link
numbered q k = get_or q.pairs k blank_link

-- Each record of a part is one of the sheet's records; and of a larger part.
pub part_mem : (q : Records) (ks : List ℕ) → Within (length q.pairs) ks → (l : Link) → Memᴰ l (part_of q ks).pairs → Memᴰ l q.pairs
unfolding part_of
part_mem q ks inside l m =
    let r = Memᴰ.of_map (numbered q) ks m in
    subst (λ (x : Link). Memᴰ x q.pairs) r.2 (mem_at q.pairs r.0 blank_link (inside r.0 r.1))

pub part_larger : (q : Records) (ks js : List ℕ) → ((k : ℕ) → Memᴰ k ks → Memᴰ k js) → (l : Link) → Memᴰ l (part_of q ks).pairs → Memᴰ l (part_of q js).pairs
unfolding part_of
part_larger q ks js more l m =
    let r = Memᴰ.of_map (numbered q) ks m in
    subst (λ (x : Link). Memᴰ x (map (numbered q) js)) r.2 (Memᴰ.map (numbered q) (more r.0 r.1))

-- All numbers name the whole sheet.
pub part_whole : (q : Records) → part_of q (numbers_below (length q.pairs)) ≡ q
unfolding part_of
part_whole q = ap (λ (ls : List Link). record { steps = q.steps; pairs = ls }) (map_tabulate (numbered q) (λ k. k) (length q.pairs) ∙ tabulate_list q.pairs (numbered q) (length q.pairs) blank_link refl (λ i b. refl))

pub part_fits : {q : Records} → Fits q → (ks : List ℕ) → Within (length q.pairs) ks → Fits (part_of q ks)
unfolding part_of
part_fits {q} fits ks inside = fewer_fits (part_mem q ks inside) fits

-- The records below k, and those that stay.
pub tried_within : (k r : ℕ) (stay : List ℕ) → k ≤ r → Within r stay → Within r (numbers_below k ++ stay)
tried_within k r stay h inside i m = go (Memᴰ.append_cases (numbers_below k) m)
  where
    go : Memᴰ i (numbers_below k) ⊎ Memᴰ i stay → i < r
    go (inl b) = let s = mem_tabulate (λ j. j) k b in omega (arith, s.1, s.2)
    go (inr b) = inside i b
