-- Request L1 moves nothing on sheets without a gap: what the parser before it answers, but for 4, the parser of now answers, and the edges weigh the same.
use mathlib.Core.Path.{◌≡◌, refl, sym, ap₂, subst, ◌∙◌}
use Rattle.std.specs.Prelude.{None, Option, Some}
use Rattle.definitions.specs.Bytes.{Previous, give, demand, byte, two_bytes, ticks_if, link_map, sequenced, endpoints, rises, bound_from, link, operations, pair_of, links, at_end, Records, sheet, read}
use mathlib.Core.Bool.{Bool, true, false, cond, not, ◌&&◌, ◌||◌}
use mathlib.Core.Logic.{◌⊎◌, inl, inr, ◌≢◌}
use mathlib.Core.List.Memᴰ
use mathlib.Core.List.{List, [], ◌∷◌, ◌++◌, map, flat_map, Memᴰ, map-append}
use Prim.Native.Nat.{ℕ, ◌+◌, ◌-◌, ◌≤◌, ◌<◌}
use native.Mathlib.Omega.{arith}
use native.Mathlib.Nat.{mul-le-mul_right}
use lib.Dec.{leb}
use borrow.Author.Tests.{leb-true, not-true}
use Rattle.definitions.specs.Limits.{most_steps, most_records, most_ticks}
use Rattle.definitions.specs.Basics.{all_below, test_bit, Outcome, given, refused, when_given}
use Rattle.definitions.specs.Links.{Constraint, sequencing, minimum, maximum, finish_maximum, sequencing_of, minimum_of, maximum_of, finish_maximum_of, ticks_said, link_constraints, constraints, delay_at, least_at, source_link, loose_steps, completed, links_of, Edge, sequencing_edge, finish_edge, edge_of, edges, members}
use Rattle.definitions.specs.Answers.{count_of, edges_of}
use Rattle.definitions.specs.declared.Delay.{Delay}
use Rattle.definitions.specs.declared.Delay.TheVariants.{Open, Fixed}
use Rattle.definitions.specs.declared.Operation.{Operation}
use Rattle.definitions.specs.declared.Link.{Link}
use Rattle.laws.proofs.Bools.{and_split, or_split, same_truth}
use Rattle.laws.proofs.Outcomes.{given_not_refused, given_same, refused_same, when_given_has}
use Rattle.laws.proofs.Tests.{all_below_each}
use Rattle.theory.specs.Graphs.{Gains}
use Rattle.demands.specs.Gapless.{gapless_map, gapless_link, gapless_links, gapless_sheet, gapless_read, gapless_sequencing, gapless_edge, gapless_edges_of}
use Rattle.demands.specs.Demands.{AsBefore, Bytes, IsSheet, PlansAsBefore}
use Rattle.demands.proofs.Reading.{Takes, fits_of, row_each, takes_bind, takes_byte, takes_demand, takes_end, takes_give, takes_operations, takes_records, takes_ticks, takes_two_bytes}
use Rattle.demands.proofs.Agreeing.{Agree, Agrees, agree_same, agree_then, agrees_bind, agrees_demand, agrees_records, agrees_self}
use Rattle.demands.proofs.Edges.{TicksWithin, sheet_link}
use Rattle.demands.proofs.Planning.{offset_by_gains}

-- ## Reading

-- A map without bit 3 is allowed as before: a test computed for each below 24.
abbrev same_map : ℕ → Bool
same_map m = not (gapless_map m) || link_map m && not (test_bit m 3)

map_below : (m : ℕ) → gapless_map m ≡ true → m < 24
unfolding gapless_map
map_below m h = go (or_split (leb 1 m && leb m 7) (leb 16 m && leb m 23) h)
  where
    go : (leb 1 m && leb m 7 ≡ true) ⊎ (leb 16 m && leb m 23 ≡ true) → m < 24
    go (inl e) = let to : m ≤ 7 = leb-true m 7 (and_split (leb 1 m) (leb m 7) e).1 in omega arith
    go (inr e) = let to : m ≤ 23 = leb-true m 23 (and_split (leb 16 m) (leb m 23) e).1 in omega arith

map_known : (m : ℕ) → gapless_map m ≡ true → link_map m && not (test_bit m 3) ≡ true
unfolding all_below gapless_map link_map test_bit
map_known m h = rw h at (all_below_each same_map 24 refl m (map_below m (unfold gapless_map in h)))

-- Behind the map nothing differs where bit 3 does not stand: no gap is read, and none is said.
agrees_link : (n : ℕ) (previous : Previous) → Agrees (gapless_link n previous) (link n previous)
unfolding gapless_link link bound_from ticks_if when_given
agrees_link n previous =
    agrees_bind (agrees_self byte)
    (λ m. agrees_demand (gapless_map m) (link_map m) (λ h. (and_split (link_map m) (not (test_bit m 3)) (map_known m h)).0)
    (λ h s.
    let none : test_bit m 3 ≡ false = not-true (test_bit m 3) (and_split (link_map m) (not (test_bit m 3)) (map_known m h)).1 in
    rw none (inr refl)))

agrees_sheet : Agrees gapless_sheet sheet
unfolding gapless_sheet sheet gapless_links links
agrees_sheet =
    agrees_bind (agrees_self byte)
    (λ n. agrees_bind (agrees_self (demand (leb 1 n && leb n most_steps) 2))
    (λ u2. agrees_bind (agrees_self two_bytes)
    (λ r. agrees_bind (agrees_self (demand (leb r most_records) 3))
    (λ u3. agrees_bind (agrees_self (operations n))
    (λ os. agrees_bind (agrees_records (gapless_link n) (link n) pair_of (agrees_link n) r None)
    (λ ls. agrees_bind (agrees_self at_end)
    (λ u7. agrees_self (give (record { steps = os; pairs = ls })))))))))

agrees_read : (s : List ℕ) → Agree (gapless_read s) (read s)
unfolding gapless_read read
agrees_read s = agree_then (agrees_sheet s) (λ t. inr refl)

read_same : (s : List ℕ) {o : Outcome Records} → gapless_read s ≡ o → o ≢ refused 4 → read s ≡ o
read_same s = agree_same (agrees_read s)

-- ## Edges

-- What was read before says no gap.
abbrev NoGap : Link → Type 0
NoGap l = l.gap ≡ None

abbrev NoGaps : Records → Type 0
NoGaps q = (l : Link) → Memᴰ l q.pairs → NoGap l

takes_gapless : (n : ℕ) (previous : Previous) → Takes (gapless_link n previous) NoGap
unfolding gapless_link
takes_gapless n previous =
    takes_bind takes_byte
    (λ m bm. takes_bind (takes_demand (gapless_map m) 4 (inl (omega arith)))
    (λ u4 allowed. takes_bind (takes_demand (sequenced m) 26 (inr refl))
    (λ u26 paired. takes_bind takes_byte
    (λ i bi. takes_bind takes_byte
    (λ j bj. takes_bind (takes_demand (endpoints n i j) 5 (inl (omega arith)))
    (λ u5 ends. takes_bind (takes_demand (rises previous i j) 6 (inl (omega arith)))
    (λ u6 up. takes_bind (takes_ticks (test_bit m 1))
    (λ least few-least. takes_bind (takes_ticks (test_bit m 2))
    (λ most few-most. takes_bind (takes_ticks (test_bit m 4))
    (λ latest few-latest. takes_give _ refl))))))))))

takes_gapless_sheet : Takes gapless_sheet NoGaps
unfolding gapless_sheet gapless_links
takes_gapless_sheet =
    takes_bind takes_byte
    (λ n bn. takes_bind (takes_demand (leb 1 n && leb n most_steps) 2 (inl (omega arith)))
    (λ u2 hn. takes_bind takes_two_bytes
    (λ r br. takes_bind (takes_demand (leb r most_records) 3 (inl (omega arith)))
    (λ u3 hr. takes_bind (takes_operations n)
    (λ os O. takes_bind (takes_records (λ previous. NoGap) pair_of (gapless_link n) (takes_gapless n) r None)
    (λ ls L. takes_bind takes_end
    (λ u7 e7. takes_give (record { steps = os; pairs = ls }) (λ l m. row_each (λ previous. NoGap) pair_of NoGap (λ state x h. h) None ls L.1 l m))))))))

no_gaps : (s : List ℕ) (q : Records) → Bytes s → gapless_read s ≡ given q → NoGaps q
unfolding gapless_read
no_gaps s q b e =
    let r = when_given_has (gapless_sheet s) (λ t. given t.value) e in
    let same : r.0.value ≡ q = given_same r.2 in
    rw same at (takes_gapless_sheet.each s b r.0 r.1).0

-- An after link with the gap 0 weighs the duration; so the links of a record without a gap weigh what they weighed, kind by kind, and those of all records.
module _ (os : List Operation) where
  record Same (cs : List Constraint) : Type 0 where
    same : map (edge_of os) cs ≡ map (gapless_edge os) cs

  sequencing_same : (i j l : ℕ) (x : Delay) → sequencing_edge x l i j 0 ≡ gapless_sequencing x l i j
  unfolding sequencing_edge gapless_sequencing
  sequencing_same i j l Open = let same : l + 0 ≡ l = omega arith in rw same
  sequencing_same i j l (Fixed x) = let same : x + 0 ≡ x = omega arith in rw same

  after_same : (i j : ℕ) (there : Bool) (gap : Option ℕ) → gap ≡ None → Same (sequencing_of i j there (ticks_said gap))
  unfolding sequencing_of ticks_said edge_of gapless_edge
  after_same i j true gap e = record { same = rw (e, sequencing_same i j (least_at os i) (delay_at os i)) }
  after_same i j false gap e = record { same = refl }

  least_same : (i j : ℕ) (x : Option ℕ) → Same (minimum_of i j x)
  unfolding minimum_of gapless_edge
  least_same i j (Some m) = record { same = refl }
  least_same i j None = record { same = refl }

  most_same : (i j : ℕ) (x : Option ℕ) → Same (maximum_of i j x)
  unfolding maximum_of gapless_edge
  most_same i j (Some u) = record { same = refl }
  most_same i j None = record { same = refl }

  latest_same : (i j : ℕ) (x : Option ℕ) → Same (finish_maximum_of i j x)
  unfolding finish_maximum_of gapless_edge
  latest_same i j (Some u) = record { same = refl }
  latest_same i j None = record { same = refl }

  both_same : {cs ds : List Constraint} → Same cs → Same ds → Same (cs ++ ds)
  both_same {cs} {ds} c d = record { same = map-append (edge_of os) cs ds ∙ ap₂ (λ (x y : List Edge). x ++ y) c.same d.same ∙ sym (map-append (gapless_edge os) cs ds) }

  record_same : (l : Link) → NoGap l → Same (link_constraints l)
  unfolding link_constraints
  record_same l none =
      let after = after_same l.from l.to l.sequencing l.gap none in
      let least = least_same l.from l.to l.minimum in
      let most = most_same l.from l.to l.maximum in
      both_same (both_same (both_same after least) most) (latest_same l.from l.to l.latest)

  records_same : (ls : List Link) → ((l : Link) → Memᴰ l ls → NoGap l) → Same (constraints ls)
  unfolding constraints flat_map
  records_same [] none = record { same = refl }
  records_same (l ∷ ls) none = both_same (record_same l (none l (Memᴰ.head refl))) (records_same ls (λ x m. none x (Memᴰ.tail m)))

  -- An added link has no gap.
  added_same : (vs : List ℕ) → Same (map source_link vs)
  unfolding edge_of gapless_edge
  added_same [] = record { same = refl }
  added_same (v ∷ vs) = let rest = (added_same vs).same in record { same = rw (sequencing_same 0 v (least_at os 0) (delay_at os 0), rest) }

  completed_same : (n : ℕ) (ls : List Link) → ((l : Link) → Memᴰ l ls → NoGap l) → Same (completed n (constraints ls))
  unfolding completed
  completed_same n ls none = both_same (records_same ls none) (added_same (loose_steps n (constraints ls)))

  -- Each gains a number of two bytes at most.
  sequencing_few : (i j l : ℕ) (x : Delay) → ((ticks : ℕ) → x ≡ Fixed ticks → ticks ≤ most_ticks) → l ≤ most_ticks → (gapless_sequencing x l i j).gain ≤ most_ticks
  unfolding gapless_sequencing
  sequencing_few i j l Open h few = few
  sequencing_few i j l (Fixed x) h few = h x refl

  finish_few : (i j u l : ℕ) (x : Delay) → (finish_edge x l i j u).gain ≤ most_ticks
  unfolding finish_edge
  finish_few i j u l Open = omega arith
  finish_few i j u l (Fixed x) = omega arith

  link_few : ((i x : ℕ) → delay_at os i ≡ Fixed x → x ≤ most_ticks) → ((i : ℕ) → least_at os i ≤ most_ticks) → (c : Constraint) → TicksWithin most_ticks c → (gapless_edge os c).gain ≤ most_ticks
  unfolding gapless_edge edge_of
  link_few h few (sequencing i j g) w = sequencing_few i j (least_at os i) (delay_at os i) (h i) (few i)
  link_few h few (minimum i j m) w = w
  link_few h few (maximum i j u) w = omega arith
  link_few h few (finish_maximum i j u) w = finish_few i j u (least_at os i) (delay_at os i)

-- ## Maps

-- A test computed for each byte.
abbrev as_allowed : ℕ → Bool
as_allowed m = test_bit m 3 || cond (link_map m) (gapless_map m) (not (gapless_map m))

each_allowed : all_below as_allowed 256 ≡ true
unfolding all_below link_map gapless_map test_bit
each_allowed = refl

maps_same : (m : ℕ) → m < 256 → test_bit m 3 ≡ false → link_map m ≡ gapless_map m
maps_same m b none = same_truth (link_map m) (gapless_map m) (rw none at (all_below_each as_allowed 256 each_allowed m b))

-- ## The statement

module _ (s : List ℕ) (q : Records) (bytes : Bytes s) (before : gapless_read s ≡ given q) where
  reads : read s ≡ given q
  reads = read_same s before (λ e. given_not_refused e)

  sheet_is : IsSheet s q
  sheet_is = record { bytes = bytes; reads = reads }

  edges_same : edges_of q ≡ gapless_edges_of q
  unfolding edges_of edges gapless_edges_of links_of
  edges_same = (completed_same q.steps (count_of q) q.pairs (no_gaps s q bytes before)).same

  gains : Gains (members (edges_of q)) most_ticks
  unfolding gapless_edges_of
  gains e m =
      let r = Memᴰ.of_map (gapless_edge q.steps) (links_of q) (subst (λ (es : List Edge). members es e) edges_same m) in
      subst (λ (x : Edge). x.gain ≤ most_ticks) r.2 (link_few q.steps (fits_of sheet_is).ticks (fits_of sheet_is).leasts r.0 (sheet_link (fits_of sheet_is) r.0 r.1).within)

  pub as_before : AsBefore s q
  as_before = record {
    reads = reads;
    edges = edges_same;
    small = λ allow v accepts a i b h.
        let few : count_of q - 2 ≤ most_steps - 2 = omega (arith, (fits_of sheet_is).few) in
        omega (arith, offset_by_gains (record { sheet = sheet_is; accepts = accepts }) gains a i b h, mul-le-mul_right most_ticks few);
  }

pub as_before_all : PlansAsBefore
as_before_all = record { sheets = as_before; refusals = λ s k other e. read_same s e (λ f. other (refused_same f)); maps = maps_same }
