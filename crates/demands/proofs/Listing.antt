-- The waits that are listed are those of document 01, and the maps and the count say the same as the list.
use mathlib.Core.Path.{◌≡◌, refl, sym, ap, ap₂, ◌∙◌}
use mathlib.Core.Bool.{Bool, true}
use mathlib.Core.Logic.{◌↔◌}
use mathlib.Core.List.Memᴰ
use mathlib.Core.List.{List, Memᴰ}
use Prim.Native.Nat.{ℕ, ◌^◌, ◌<◌}
use native.Mathlib.Omega.{arith}
use native.Mathlib.Decide.{dec_lt}
use lib.Pow.{pow_mono}
use Rattle.definitions.specs.Limits.{most_steps}
use Rattle.definitions.specs.Basics.{test_bit, given}
use Rattle.definitions.specs.Bytes.{Records}
use Rattle.definitions.specs.Links.{Edge, members}
use Rattle.definitions.specs.Rounds.{cell}
use Rattle.definitions.specs.Waits.{Wait, waits_for, waits_of, wait_list, wait_map, wait_maps, wait_count, wait_pair}
use Rattle.definitions.specs.Plan.{offset, decides}
use Rattle.definitions.specs.Answers.{count_of, edges_of, judge_records, judged, leasts_of}
use Rattle.definitions.specs.Output.{StartLine, lines_of, start_lines, list_records, listed}
use Rattle.laws.proofs.Outcomes.{when_given_by}
use Rattle.theory.proofs.Walks.{member_below}
use Rattle.theory.proofs.DecidingSets.{decides_member}
use Rattle.theory.proofs.Reachability.{in_anchor_set_iff}
use Rattle.demands.proofs.Meaning.{waits_shape, wait_of}
use Rattle.laws.proofs.Tests.{tabulate_length}
use Rattle.theory.specs.Graphs.{Shape}
use Rattle.theory.proofs.WaitLists.{wait_listed, listed_wait, wait_map_small, wait_maps_at, wait_maps_iff, wait_maps_past}
use Rattle.theory.proofs.WaitCounts.{wait_count_bits}
use Rattle.demands.specs.Demands.{Rising, WaitBefore, ListedFor, LinesFor, Accepted, LineBefore, sheet_lines, sheet_waits}
use Rattle.demands.proofs.Reading.{Fits}
use Rattle.demands.proofs.Edges.{sheet_shape}
use Rattle.demands.proofs.Orders.{pairs_rising, pairs_has, pairs_only}

-- They are the pairs that wait, in rising order.
waits_rising : (n : ℕ) (es : List Edge) → Rising WaitBefore (wait_list n es)
unfolding wait_list waits_of
waits_rising n es = pairs_rising wait_pair (waits_for n es) n WaitBefore (λ i j k l h. h)

-- The waits of a sheet.
module _ {q : Records} (fits : Fits q) where
  abbrev n : ℕ
  n = count_of q

  abbrev es : List Edge
  es = edges_of q

  pub listed_iff : (a i : ℕ) → Memᴰ (wait_pair a i) (sheet_waits q) ↔ Wait (members (edges_of q)) a i
  listed_iff a i = (λ m. listed_wait (sheet_shape fits) m, λ w. wait_listed (sheet_shape fits) w)

  maps_bits : (a i : ℕ) → (test_bit (cell (wait_maps n es) i) a ≡ true) ↔ Memᴰ (wait_pair a i) (sheet_waits q)
  maps_bits a i =
      let r = wait_maps_iff fits.few (sheet_shape fits) i a in
      let l = listed_iff a i in
      (λ h. l.1 (r.0 h), λ m. r.1 (l.0 m))

  maps_small : (i : ℕ) → Dec (i < most_steps) → cell (wait_maps n es) i < 2 ^ 64
  maps_small i (yes c) = omega (arith, wait_maps_at n es i c, wait_map_small n es i, pow_mono fits.few)
  maps_small i (no c) = omega (arith, wait_maps_past n es i (omega arith))

  pub listed_for : ListedFor q
  unfolding wait_maps wait_count
  listed_for = record {
    listed = listed_iff;
    each = wait_of fits;
    order = waits_rising n es;
    maps_size = tabulate_length (wait_map n es) most_steps;
    maps_small = λ i. maps_small i (dec_lt i most_steps);
    maps_bits = maps_bits;
    count_list = refl;
    count_maps = wait_count_bits n es fits.few;
  }

-- Start lines are the pairs of a step and one that decides it, in rising order. One that decides is a member of a start set, and so a step.
line_of : (n : ℕ) (least : ℕ → ℕ) (es : List Edge) (i a : ℕ) → StartLine
line_of n least es i a = record { step = i; decider = a; ticks = offset n least es a i }

module _ (least : ℕ → ℕ) {n : ℕ} {es : List Edge} (shape : Shape n (members es)) where
  lines_iff : (i a ticks : ℕ) → Memᴰ (record { step = i; decider = a; ticks = ticks }) (start_lines n least es) ↔ ((i < n) × (decides n least es a i ≡ true) × (ticks ≡ offset n least es a i))
  unfolding start_lines lines_of line_of
  lines_iff i a ticks = (only, λ r. has r.0 r.1 r.2)
    where
      only : Memᴰ (record { step = i; decider = a; ticks = ticks }) (start_lines n least es) → (i < n) × (decides n least es a i ≡ true) × (ticks ≡ offset n least es a i)
      only m =
          let r = pairs_only (line_of n least es) (λ j b. decides n least es b j) n m in
          let si : r.0 ≡ i = ap (λ (l : StartLine). l.step) r.4 in
          let sa : r.1 ≡ a = ap (λ (l : StartLine). l.decider) r.4 in
          (omega (arith, r.2), sym (ap₂ (λ (b j : ℕ). decides n least es b j) sa si) ∙ r.3, sym (ap (λ (l : StartLine). l.ticks) r.4) ∙ ap₂ (λ (b j : ℕ). offset n least es b j) sa si)

      has : i < n → decides n least es a i ≡ true → ticks ≡ offset n least es a i → Memᴰ (record { step = i; decider = a; ticks = ticks }) (start_lines n least es)
      has b h e =
          let inside : a < n = member_below shape b ((in_anchor_set_iff shape a i).0 (decides_member n least es a i h)) in
          Memᴰ.cast (ap (λ (t : ℕ). record { step = i; decider = a; ticks = t }) e) (pairs_has (line_of n least es) (λ j b. decides n least es b j) n i a b inside h)

  lines_rising : Rising LineBefore (start_lines n least es)
  unfolding start_lines lines_of line_of
  lines_rising = pairs_rising (line_of n least es) (λ j b. decides n least es b j) n LineBefore (λ i j k l h. h)

pub lines_for : {s : List ℕ} {allow : Bool} {q : Records} {v : ℕ} → Fits q → Accepted s allow q v → LinesFor s allow q v
unfolding listed list_records judged
lines_for {s} {allow} {q} {v} fits accepted =
    let shape = waits_shape fits in
    let judges = sym (when_given_by (λ q. judge_records q allow) accepted.sheet.reads) ∙ accepted.accepts in
    record {
      listing = when_given_by (λ q. list_records q allow) accepted.sheet.reads ∙ when_given_by (λ v. given (record { verdict = v; waits = sheet_waits q; starts = sheet_lines q })) judges;
      lines = lines_iff (leasts_of q) shape;
      order = lines_rising (leasts_of q) shape;
    }
