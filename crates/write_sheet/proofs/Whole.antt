-- The sheet as it is put is the definition's: as many parts are there as the counts say, and the order of the records is the rising one.
use mathlib.Core.Path.{◌≡◌, refl, sym, ap, ap₂, subst, ◌∙◌}
use Rattle.std.specs.Prelude.{Ok}
use Rattle.definitions.specs.Numbers.{Tally}
use mathlib.Core.Bool.{Bool, true, false}
use mathlib.Core.List.{List, ◌∷◌, ◌++◌, flat_map, Permᴰ}
use Prim.Native.Nat.{ℕ, ◌+◌, ◌*◌, ◌≤◌, ◌<◌}
use native.Mathlib.Omega.{arith}
use lib.ListN.{length, get_or, take, drop, length-append, length-map, length-take, get_or-append}
use lib.Seq.{get_or-take, length-take-le, take_at}
use Rattle.definitions.specs.Basics.{refused}
use Rattle.definitions.specs.Bytes.{Records}
use Rattle.definitions.specs.Clashes.{blank_link}
use Rattle.definitions.specs.Limits.{longest_record, most_records, most_steps}
use Rattle.definitions.specs.Writer.{bad_ends, comes_twice, link_bytes, operation_bytes, rising, sheet_bytes, two_bytes_of}
use Rattle.definitions.specs.declared.Link.{Link}
use Rattle.definitions.specs.declared.Operation.{Operation}
use Rattle.laws.proofs.Lists.{map_same, mem_at}
use Rattle.demands.proofs.WritingBytes.{sheet_length}
use Rattle.demands.proofs.WritingOrder.{rising_perm}
use Rattle.write_fields.specs.Sizes.{largest_step}
use Rattle.write_order.specs.Cells.{OrderReady, Orders, in_order, repeats}
use Rattle.write_bytes.specs.Sheets.{OrderFits, numbered, sheet_text}
use Rattle.write_parts.specs.Parts.{LinksScanned, LinksShown, StepsScanned, cell_of}
use Rattle.write_parts.specs.declared.LinksFound.{LinksFound}
use Rattle.write_parts.specs.declared.StepsFound.{StepsFound}
use Rattle.write_sheet.specs.Written.{Counts, Faults, Leaves, WholeReady, order_verdict, parts_there, parts_verdict, room_verdict}
use Rattle.write_sheet.proofs.Verdicts.{ends_passed, leaves_as, order_fewer_links, order_fewer_steps, order_twice, order_whole, parts_passed}
use Rattle.write_sheet.proofs.Rising.{cells_fit, cells_of, order_inside, order_long, order_rising, twice_cells}

-- Texts rearranged are as long. Along the way in which they are rearranged.
perm_texts : {A : Type 0} (f : A → List ℕ) {l m : List A} → Permᴰ l m → length (flat_map f l) ≡ length (flat_map f m)
unfolding flat_map
perm_texts f Permᴰ.nil = refl
perm_texts f (Permᴰ.cons {a} {b} {l₁} {l₂} e d) = omega (arith, length-append (f a) (flat_map f l₁), length-append (f b) (flat_map f l₂), ap (λ x. length (f x)) e, perm_texts f d)
perm_texts f (Permᴰ.swap {a} {b} {a' = c} {b' = d} {l} e g) =
    omega (arith, length-append (f a) (f b ++ flat_map f l), length-append (f b) (flat_map f l), length-append (f c) (f d ++ flat_map f l), length-append (f d) (flat_map f l), ap (λ x. length (f x)) e, ap (λ x. length (f x)) g)
perm_texts f (Permᴰ.trans d e) = perm_texts f d ∙ perm_texts f e

-- How many bytes there are: the sizes that were found, and three.
pub whole_size : (q : Records) {n : ℕ} {found : StepsFound} {seen : LinksFound} → StepsScanned q.steps found → LinksShown n q.pairs seen → 3 + found.size + seen.size ≡ length (sheet_bytes q)
whole_size q F S = omega (arith, sheet_length q, F.size, S.size, perm_texts link_bytes (rising_perm q.pairs))

-- The cells that were stored are those of the first b records.
pub cells_there : {n : ℕ} (b : ℕ) (links : List Link) {old cells : List ℕ} {seen : LinksFound} → b ≤ length links → LinksScanned n (take b links) old seen cells → take b cells ≡ cells_of (take b links)
cells_there b links {old} h S =
    ap (take b) S.cells ∙ take_at (cells_of (take b links)) (drop (length (take b links)) old) b (length-map (take b links) cell_of ∙ length-take-le b links h)

-- Records whose ends are steps, in the order of their cells.
pub record Placed (n : ℕ) (ls : List Link) : Type 0 where
  pub few : n ≤ most_steps
  pub short : length ls ≤ most_records
  pub ends : bad_ends n ls ≡ false

module _ {n : ℕ} {ls : List Link} (P : Placed n ls) where
  pub order_ready : {cells order : List ℕ} → cells ≡ cells_of ls → length order ≡ most_records → OrderReady cells order
  order_ready e size = rw e (record { fit = cells_fit n ls P.few P.ends P.short; room = omega (arith, length-map ls cell_of, P.short) })

  module _ {cells old new : List ℕ} {t : Bool} (e : cells ≡ cells_of ls) (O : Orders cells old t new) where
    -- 6.
    pub twice_found : t ≡ comes_twice ls
    twice_found = O.twice ∙ ap repeats e ∙ twice_cells n ls P.few P.ends

    module _ (once : t ≡ false) where
      no_twice : comes_twice ls ≡ false
      no_twice = sym twice_found ∙ once

      laid : new ≡ in_order (cells_of ls) ++ drop (length ls) old
      laid = O.laid once ∙ ap (λ (c : List ℕ). in_order c ++ drop (length (in_order c)) old) e ∙ ap (λ (k : ℕ). in_order (cells_of ls) ++ drop k old) (order_long n ls P.few P.ends P.short no_twice)

      front : take (length ls) new ≡ in_order (cells_of ls)
      front = ap (take (length ls)) laid ∙ take_at (in_order (cells_of ls)) (drop (length ls) old) (length ls) (order_long n ls P.few P.ends P.short no_twice)

      pub order_fits : length old ≡ most_records → OrderFits new (length ls)
      order_fits size = record {
        long = omega (arith, ap length laid, length-append (in_order (cells_of ls)) (drop (length ls) old), order_long n ls P.few P.ends P.short no_twice);
        inside = λ i b.
            let c : i < length (in_order (cells_of ls)) = omega (arith, order_long n ls P.few P.ends P.short no_twice) in
            let here : get_or new i 0 ≡ get_or (in_order (cells_of ls)) i 0 = ap (λ (l : List ℕ). get_or l i 0) laid ∙ get_or-append (in_order (cells_of ls)) (drop (length ls) old) 0 i c in
            omega (arith, order_inside n ls P.few P.ends P.short no_twice (get_or (in_order (cells_of ls)) i 0) (mem_at (in_order (cells_of ls)) i 0 c));
      }

      -- The records with these numbers, of a list that begins with ls.
      pub order_right : (links : List Link) → ls ≡ take (length ls) links → numbered links (take (length ls) new) ≡ rising ls
      order_right links begins =
          ap (numbered links) front
          ∙ map_same (λ k. get_or links k blank_link) (λ k. get_or ls k blank_link) (in_order (cells_of ls)) (λ k m. same k (order_inside n ls P.few P.ends P.short no_twice k m))
          ∙ order_rising n ls P.few P.ends P.short no_twice
        where
          same : (k : ℕ) → k < length ls → get_or links k blank_link ≡ get_or ls k blank_link
          same k b = sym (ap (λ (l : List Link). get_or l k blank_link) begins ∙ get_or-take (length ls) links k blank_link b)

-- The sheet as it is put.
pub text_right : (n r : ℕ) (steps : List Operation) (links : List Link) (order : List ℕ) → n ≤ length steps → r ≤ length links → numbered links (take r order) ≡ rising (take r links) → sheet_text n steps r links order ≡ sheet_bytes (parts_there steps n links r)
unfolding sheet_text sheet_bytes
text_right n r steps links order a b e =
    ap (λ (ls : List Link). n ∷ two_bytes_of r ++ flat_map operation_bytes (take n steps) ++ flat_map link_bytes ls) e
    ∙ ap₂ (λ (x y : ℕ). x ∷ two_bytes_of y ++ flat_map operation_bytes (take n steps) ++ flat_map link_bytes (rising (take r links))) (sym (length-take-le n steps a)) (sym (length-take-le r links b))

-- ---- all that is known once the parts have no fault before 6

pub record Faultless (n a r b : ℕ) (steps : List Operation) (links : List Link) (cells : List ℕ) (found : StepsFound) (seen : LinksFound) : Type 0 where
  pub counts : Counts n a r b
  pub all_steps : length steps ≡ most_steps
  pub all_links : length links ≡ most_records
  pub blank : List ℕ
  pub steps_seen : StepsScanned (take a steps) found
  pub links_seen : LinksScanned n (take b links) blank seen cells
  pub none : Faults found seen (Ok tt)

module _ {n a r b : ℕ} {steps : List Operation} {links : List Link} {cells : List ℕ} {found : StepsFound} {seen : LinksFound} (K : Faultless n a r b steps links cells found seen) where
  counted_links : length (take b links) ≡ b
  counted_links = length-take-le b links (omega (arith, K.all_links, K.counts.records, K.counts.links_there))

  placed : Placed n (take b links)
  placed = record { few = K.counts.few; short = omega (arith, counted_links, K.counts.records, K.counts.links_there); ends = ends_passed K.links_seen.shown K.none }

  entered : take b cells ≡ cells_of (take b links)
  entered = cells_there b links (omega (arith, K.all_links, K.counts.records, K.counts.links_there)) K.links_seen

  pub cells_counted : b ≡ length (take b cells)
  cells_counted = sym (ap length entered ∙ length-map (take b links) cell_of ∙ counted_links)

  pub ready : {order : List ℕ} → length order ≡ most_records → OrderReady (take b cells) order
  ready size = order_ready placed entered size

  -- Sizes that fit a number of 64 bits by far.
  pub sizes_small : found.size + seen.size ≤ largest_step * most_steps + longest_record * most_records
  sizes_small = omega (arith, K.steps_seen.small, length-take a steps, K.links_seen.shown.small, counted_links, K.counts.few, K.counts.records, K.counts.steps_there, K.counts.links_there)

  passed : (buffer : List ℕ) → parts_verdict n r (parts_there steps a links b) buffer ≡ order_verdict n r (parts_there steps a links b) buffer
  passed buffer = parts_passed r (parts_there steps a links b) buffer K.steps_seen K.links_seen.shown K.none

  module _ {old order : List ℕ} {t : Bool} (O : Orders (take b cells) old t order) where
    pub verdict_twice : (buffer : List ℕ) → t ≡ true → parts_verdict n r (parts_there steps a links b) buffer ≡ refused 6
    verdict_twice buffer h = passed buffer ∙ order_twice n r (parts_there steps a links b) buffer (sym (twice_found placed entered O) ∙ h)

    module _ (once : t ≡ false) where
      no_pair_twice : comes_twice (take b links) ≡ false
      no_pair_twice = sym (twice_found placed entered O) ∙ once

      pub verdict_fewer_steps : (buffer : List ℕ) → a < n → parts_verdict n r (parts_there steps a links b) buffer ≡ refused 14
      verdict_fewer_steps buffer h = passed buffer ∙ order_fewer_steps n r (parts_there steps a links b) buffer no_pair_twice (omega (arith, length-take a steps))

      pub verdict_fewer_links : (buffer : List ℕ) → b < r → parts_verdict n r (parts_there steps a links b) buffer ≡ refused 14
      verdict_fewer_links buffer h = passed buffer ∙ order_fewer_links n r (parts_there steps a links b) buffer no_pair_twice (omega (arith, counted_links))

      -- As many are there as the counts say.
      module _ (steps_whole : n ≤ a) (links_whole : r ≤ b) where
        is_n : a ≡ n
        is_n = omega (arith, K.counts.steps_there)

        is_r : b ≡ r
        is_r = omega (arith, K.counts.links_there)

        in_order_put : numbered links (take r order) ≡ rising (take r links)
        in_order_put =
            let e : length (take b links) ≡ r = omega (arith, counted_links, is_r) in
            subst (λ (k : ℕ). numbered links (take k order) ≡ rising (take r links)) e (order_right placed entered O once links (ap (λ (k : ℕ). take k links) (sym counted_links)) ∙ ap (λ (k : ℕ). rising (take k links)) is_r)

        text_whole : sheet_text n steps r links order ≡ sheet_bytes (parts_there steps a links b)
        text_whole =
            text_right n r steps links order (omega (arith, K.all_steps, K.counts.few)) (omega (arith, K.all_links, K.counts.records)) in_order_put
            ∙ ap₂ (λ (i j : ℕ). sheet_bytes (parts_there steps i links j)) (sym is_n) (sym is_r)

        pub whole_ready : length old ≡ most_records → WholeReady n steps r links order (3 + found.size + seen.size)
        whole_ready size =
            let e : length (take b links) ≡ r = omega (arith, counted_links, is_r) in
            record {
              few_steps = K.counts.few;
              few_links = K.counts.records;
              ordered = subst (OrderFits order) e (order_fits placed entered O once size);
              long = whole_size (parts_there steps a links b) K.steps_seen K.links_seen.shown ∙ ap length (sym text_whole);
            }

        pub whole_left : {buffer after : List ℕ} {tally : Tally} → Leaves (room_verdict (sheet_text n steps r links order) buffer) (sheet_text n steps r links order) buffer tally after → Leaves (parts_verdict n r (parts_there steps a links b) buffer) (sheet_bytes (parts_there steps a links b)) buffer tally after
        whole_left {buffer} L =
            leaves_as
            (ap (λ (x : List ℕ). room_verdict x buffer) text_whole
            ∙ sym (passed buffer ∙ order_whole n r (parts_there steps a links b) buffer no_pair_twice (omega (arith, length-take a steps, K.all_steps, K.counts.few)) (omega (arith, counted_links))))
            text_whole
            L
