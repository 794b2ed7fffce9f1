-- Sweeps below a column that is sought are those of the theory, and from the seeds they end at the offsets.
use mathlib.Core.Path.{◌≡◌, refl, sym, ap, subst, ◌∙◌}
use mathlib.Core.Bool.{true, ◌&&◌}
use mathlib.Core.Logic.{◌⊎◌, inl, inr}
use mathlib.Core.List.Memᴰ
use mathlib.Core.List.{List, Memᴰ, ◌++◌}
use Prim.Native.Nat.{ℕ, zero, suc, ◌+◌, ◌-◌, ◌%◌, ◌≤◌, ◌<◌}
use native.Mathlib.Omega.{arith}
use native.Mathlib.Decide.{dec_lt}
use lib.Dec.{ltb}
use lib.IntN.{ℤ}
use lib.ListN.{length, get_or, get_or-eq_default}
use borrow.Author.Tests.{ltb-true, lt-ltb}
use Rattle.definitions.specs.Anchors.{InAnchorSet, WellPosed, chain, is_source}
use Rattle.definitions.specs.Basics.{test_bit}
use Rattle.definitions.specs.Limits.{most_gain, most_steps}
use Rattle.definitions.specs.Links.{Edge, Graph, LateInto, ◌⊑◌, members, usable}
use Rattle.definitions.specs.Plan.{first_row, offset, offset_row}
use Rattle.definitions.specs.Rounds.{after_row, cell, entry, source_row}
use Rattle.definitions.specs.Waits.{wait_edge}
use Rattle.data_edges.specs.Serial.{Within, wait_edges}
use Rattle.data_edges.specs.Words.{graph}
use Rattle.data_edges.proofs.Waiting.{wait_edges_has, wait_edges_only}
use Rattle.laws.proofs.Bools.{and_join, and_split, both_ways}
use Rattle.laws.proofs.Maps.{test_zero}
use Rattle.data_relations.specs.Rows.{row_bit}
use Rattle.walk_cells.specs.Tables.{Square, read_by}
use Rattle.walk_edge.specs.Columns.{Sought, WaitsFor, column}
use Rattle.walk_cells.proofs.Tables.{read_by_at, square_then}
use Rattle.walk_seed.specs.Seeds.{Prepared}
use Rattle.walk_sweep.specs.Graphs.{Both, SweptBy}
use Rattle.theory.specs.Graphs.{Gains, Leasts, SheetLeasts, Well}
use Rattle.theory.specs.Sweeps.{Leads, Seeds, Sweeps, more, none}
use Rattle.theory.proofs.FirstRows.{seeds_length, zeros_length}
use Rattle.theory.proofs.Offsets.{offset_found, offset_row_iff}
use Rattle.theory.proofs.RelativeSchedules.{chain_offset}
use Rattle.theory.proofs.Relaxation.{raise_length, rounds_length}
use Rattle.theory.proofs.Sweeping.{offsets_seeded, offsets_settle, offsets_swept, sweeps_rest}
use Rattle.theory.proofs.Usables.{forward_usable, members_usable, usable_members}
use Rattle.theory.proofs.Walks.{counted_forward}
use Rattle.walk_heaviest.specs.Settling.{Opened, Settled, SettledBy, SettlingBy, Supported}

-- A row of offsets has no cell at n or above.
first_length : (n : ℕ) (es : List Edge) (a : ℕ) → length (first_row n es a) ≡ n
unfolding first_row source_row after_row
first_length n es zero = raise_length _ 0 1 ∙ zeros_length n
first_length n es (suc a) = seeds_length (suc a) es _ ∙ zeros_length n

offsets_past : (n : ℕ) (es : List Edge) (a v : ℕ) → n ≤ v → cell (offset_row n es a) v ≡ 0
unfolding offset_row
offsets_past n es a v b =
    let short : length (offset_row n es a) ≤ v = omega (arith, rounds_length (usable es a) n (first_row n (usable es a) a), first_length n (usable es a) a) in
    get_or-eq_default (offset_row n es a) 0 short

-- The loop over the sweeps.
module _ (es : List ℕ) (least : ℕ → ℕ) (waiting number : List ℕ) (width n : ℕ) (d₀ : List (List ℤ)) where
  -- Every step that has edges has a mark.
  pub settling_start : (m : ℕ) → Square (length d₀) d₀ → ((v : ℕ) → test_bit m v ≡ ltb v n) → SettlingBy es least waiting number width n 0 d₀ d₀ m
  settling_start m S all =
      record { square = S; each = λ anchor N c b. record { under = λ t U. U; covers = λ t U i e x q. absurd (both_ways (all e.from ∙ lt-ltb e.from n (i e x)) q); sweeps = λ t U i. none {s = column d₀ c} refl (λ v. omega arith) } }

  pub settling_more : {k c : ℕ} {d d' : List (List ℤ)} {m m' : ℕ} → SettlingBy es least waiting number width n k d₀ d m → SweptBy es least waiting number width (λ v. v < n) c d d' m m' → SettlingBy es least waiting number width n (k + 1) d₀ d' m'
  settling_more {k} {d} {d'} P Q =
      record {
        square = square_then P.square Q.square;
        each = λ anchor N c b. let p = P.each anchor N c b in let q = Q.each anchor N c b in record {
          under = λ t U. q.under t (p.under t U);
          covers = λ t U i. q.covers t (p.under t U) (p.covers t U i);
          sweeps = λ t U i. more {k = k + 1} {j = k} (p.sweeps t U i) (record { up = q.up t (p.under t U); hands = λ e x. q.hands t (p.under t U) (p.covers t U i) e x (i e x) }) (omega arith);
        };
      }

  pub settling_opened : {d : List (List ℤ)} {m : ℕ} → Square (length d₀) d₀ → Opened es least waiting number width n d₀ d m → SettlingBy es least waiting number width n 1 d₀ d m
  settling_opened S O = settling_more (settling_start O.marks S O.all) O.swept

  -- Without marks every edge has handed on, and further sweeps would change nothing.
  pub settling_rest : {k m : ℕ} {d : List (List ℤ)} → k ≤ n → m ≡ 0 → SettlingBy es least waiting number width n k d₀ d m → SettledBy es least waiting number width n d₀ d
  settling_rest {k} {m} {d} few still P =
      record {
        square = P.square;
        each = λ anchor N c b. let p = P.each anchor N c b in record {
          under = p.under;
          sweeps = λ t U i.
              subst (λ (j : ℕ). Sweeps (Both es least waiting (anchor c)) (column d₀ c) j (column d c)) padded
              (sweeps_rest (λ e x. p.covers t U i e x (ap (λ (y : ℕ). test_bit y e.from) still ∙ test_zero e.from)) (n - k) k (p.sweeps t U i));
        };
      }
    where
      padded : n - k + k ≡ n
      padded = omega arith

  pub settling_end : {k m : ℕ} {d : List (List ℤ)} → k ≤ n → n ≤ k → SettlingBy es least waiting number width n k d₀ d m → SettledBy es least waiting number width n d₀ d
  settling_end {k} {m} {d} b h P =
      let e : k ≡ n = omega arith in
      record { square = P.square; each = λ anchor N c l. let p = P.each anchor N c l in record { under = p.under; sweeps = λ t U i. subst (λ (j : ℕ). Sweeps (Both es least waiting (anchor c)) (column d₀ c) j (column d c)) e (p.sweeps t U i) } }

-- What waits stands below n, where the maps that say so are turned round.
pub turned_within : (maps waiting : List ℕ) (n : ℕ) → ((v k : ℕ) → row_bit waiting k v ≡ (ltb v n && row_bit maps v k)) → Within n waiting
turned_within maps waiting n turned k v h = ltb-true v n (and_split (ltb v n) (row_bit maps v k) (sym (turned v k) ∙ h)).0

-- The edges of the words and of the waits, as one list and as the sweeps go over them: for each anchor those that it may use.
module _ (es : List ℕ) (least : ℕ → ℕ) (maps waiting : List ℕ) (n : ℕ) (within : Within n maps) (turned : (v k : ℕ) → row_bit waiting k v ≡ (ltb v n && row_bit maps v k)) where
  both_waits : (e : Edge) → WaitsFor (least e.from) e.from (get_or waiting e.from 0) e → Memᴰ e (wait_edges n least maps)
  both_waits e w =
      let t = and_split (ltb w.target n) (row_bit maps w.target e.from) (sym (turned w.target e.from) ∙ w.waits) in
      wait_edges_has n least maps e (record { anchor = e.from; target = w.target; anchor_below = within w.target e.from t.1; target_below = ltb-true w.target n t.0; stands = t.1; same = w.same })

  both_list : (a : ℕ) → Both es least waiting a ⊑ members (usable (graph es ++ wait_edges n least maps) a)
  both_list a e (inl m) = usable_members (graph es ++ wait_edges n least maps) a e (Memᴰ.append_left (wait_edges n least maps) m.0, m.1)
  both_list a e (inr w) =
      usable_members (graph es ++ wait_edges n least maps) a e (Memᴰ.append_right (graph es) (both_waits e w), λ l. both_ways l.0 (ap (λ (x : Edge). x.late) w.same))

  list_waits : (e : Edge) → Memᴰ e (wait_edges n least maps) → WaitsFor (least e.from) e.from (get_or waiting e.from 0) e
  list_waits e m =
      let w = wait_edges_only n least maps e m in
      let o : e.from ≡ w.anchor = ap (λ (x : Edge). x.from) w.same in
      record { target = w.target; waits = ap (λ (x : ℕ). row_bit waiting x w.target) o ∙ turned w.target w.anchor ∙ and_join (lt-ltb w.target n w.target_below) w.stands; same = w.same ∙ ap (λ (x : ℕ). wait_edge least (record { anchor = x; target = w.target })) (sym o) }

  list_by : (a : ℕ) (e : Edge) → ¬ LateInto e a → Memᴰ e (graph es) ⊎ Memᴰ e (wait_edges n least maps) → Both es least waiting a e
  list_by a e u (inl m) = inl (m, u)
  list_by a e u (inr m) = inr (list_waits e m)

  list_both : (a : ℕ) → members (usable (graph es ++ wait_edges n least maps) a) ⊑ Both es least waiting a
  list_both a e m =
      let r = members_usable (graph es ++ wait_edges n least maps) a e m in
      list_by a e r.1 (Memᴰ.append_cases (graph es) r.0)

-- From what the columns begin with, n sweeps end at the offsets: for an anchor whose members in sets are the steps that have offsets.
module _
    (es : List ℕ) (least : ℕ → ℕ) (maps waiting sets : List ℕ) (n : ℕ) (few : n ≤ most_steps) (within : Within n maps)
    (turned : (v k : ℕ) → row_bit waiting k v ≡ (ltb v n && row_bit maps v k)) (well : Well n (members (graph es ++ wait_edges n least maps)))
    (posed : WellPosed (members (graph es ++ wait_edges n least maps))) (gains : Gains (members (graph es ++ wait_edges n least maps)) most_gain) (leasts : SheetLeasts least (members (graph es))) where
  abbrev g : List Edge
  g = graph es ++ wait_edges n least maps

  module _
      {number : List ℕ} {width rows : ℕ} {d d' : List (List ℤ)} (begun : Prepared least (members (graph es)) sets n width number rows d)
      (settled : SettledBy es least waiting number width n d d') (a : ℕ) (inside : a < n) (support : Supported n (graph es ++ wait_edges n least maps) sets a)
      (v₀ : ℕ) (b₀ : v₀ < n) (member : row_bit sets v₀ a ≡ true) where
    abbrev t : ℕ → ℕ
    t = cell (offset_row n g a)

    abbrev k : ℕ
    k = get_or number a 0

    there : k < width
    there = begun.listed v₀ a b₀ member

    own : begun.anchor k ≡ a
    own = begun.numbers.back a (omega arith) there

    seeds : Seeds (members (usable g a)) a t
    seeds = offsets_seeded well posed a inside

    -- A member has an offset, and a step that has one is a member.
    has : (v : ℕ) → v < n → row_bit sets v a ≡ true → 1 ≤ t v
    has v b h = ltb-true 0 (t v) (sym (support v b) ∙ h)

    is_member : (v : ℕ) → 1 ≤ t v → (v < n) × (row_bit sets v a ≡ true)
    is_member v h = by (dec_lt v n)
      where
        by : Dec (v < n) → (v < n) × (row_bit sets v a ≡ true)
        by (yes b) = (b, support v b ∙ lt-ltb 0 (t v) h)
        by (no b) = absurd (omega (arith, offsets_past n g a v (omega arith)))

    abbrev r : ℕ → ℕ
    r = column d k

    -- An offset is no less than the least of its anchor: the edges and the waits gain it, and step 0 has none.
    waited_leasts : Leasts least (members g)
    waited_leasts e m c = by (Memᴰ.append_cases (graph es) m)
      where
        by : Memᴰ e (graph es) ⊎ Memᴰ e (wait_edges n least maps) → least e.from ≤ e.gain
        by (inl m) = leasts.leasts e m c
        by (inr m) = let w = (wait_edges_only n least maps e m).same in omega (arith, ap (λ (x : Edge). x.gain) w, ap (λ (x : Edge). least x.from) w)

    heavy : (v : ℕ) → v < n → 1 ≤ t v → suc (least a) ≤ t v
    unfolding offset
    heavy v b h = by ((offset_row_iff well posed a v b).0 h)
      where
        by : InAnchorSet (members g) a v → suc (least a) ≤ t v
        by (is_source z) = omega (arith, ap least z, leasts.source)
        by (chain c) = omega (arith, chain_offset least well.shape waited_leasts c (offset_found well posed a v b (chain c)))

    -- A counted edge is no return, and so is never late.
    leading : (e : Edge) → Memᴰ e g → Leads a e → Memᴰ e (usable g a)
    leading e m l = usable_members g a e (m, forward_usable well.shape a e m (counted_forward well.shape e m l.counts))

    low : (e : Edge) → Both es least waiting a e → e.from < n
    low e m = well.shape.from_below e (members_usable g a e (both_list es least maps waiting n within turned a e m)).0

    begun_live : (v : ℕ) → 1 ≤ t v → suc (least a) ≤ r v
    begun_live v h =
        let m = is_member v h in
        subst (λ (x : ℕ). suc (least x) ≤ r v) own ((begun.columns k there).live v m.0 (subst (λ (x : ℕ). row_bit sets v x ≡ true) (sym own) m.1))

    leads : (e : Edge) → Leads (begun.anchor k) e → Leads a e
    leads e l = subst (λ (x : ℕ). Leads x e) own l

    below : (v : ℕ) → r v ≤ t v
    below =
        (begun.columns k there).sound t (λ e m l. seeds.after e (leading e (Memᴰ.append_left (wait_edges n least maps) m) (leads e l)) (leads e l))
        (λ v b h. subst (λ (x : ℕ). suc (least x) ≤ t v) (sym own) (heavy v b (has v b (subst (λ (x : ℕ). row_bit sets v x ≡ true) own h))))

    sought : Sought (Both es least waiting a) t r
    sought =
        record { settles = λ e m. offsets_settle well posed a inside e (both_list es least maps waiting n within turned a e m); under = record { below = below; live = λ v h. omega (arith, begun_live v h) } }

    -- The seeds: a wait for a gains the least of a, and so it begins a walk of that weight.
    after_by : (e : Edge) → Leads a e → 1 ≤ t e.to → Memᴰ e (graph es) ⊎ Memᴰ e (wait_edges n least maps) → suc (e.gain - e.loss) ≤ r e.to
    after_by e l h (inl m) =
        let p = is_member e.to h in
        (begun.columns k there).begun e m (subst (λ (x : ℕ). Leads x e) (sym own) l) p.0 (subst (λ (x : ℕ). row_bit sets e.to x ≡ true) (sym own) p.1)
    after_by e l h (inr m) =
        let w = (wait_edges_only n least maps e m).same in
        omega (arith, begun_live e.to h, ap (λ (x : Edge). x.gain) w, ap least (sym (ap (λ (x : Edge). x.from) w) ∙ l.leaves))

    after : (e : Edge) → members (usable g a) e → Leads a e → suc (e.gain - e.loss) ≤ r e.to
    after e m l = after_by e l (omega (arith, seeds.after e m l)) (Memᴰ.append_cases (graph es) (members_usable g a e m).0)

    sown : Seeds (members (usable g a)) a r
    sown = record { source = λ h. omega (arith, begun_live 0 (seeds.source h)); after = after }

    done : Settled (Both es least waiting a) n r (column d' k)
    done = subst (λ (x : ℕ). Settled (Both es least waiting x) n r (column d' k)) own (settled.each begun.anchor begun.numbers k there)

    swept : Sweeps (members (usable g a)) r n (column d' k)
    swept = sweeps_as (list_both es least maps waiting n within turned a) (done.sweeps t sought low)
      where
        sweeps_as : {E F : Graph} {r s : ℕ → ℕ} {k : ℕ} → F ⊑ E → Sweeps E r k s → Sweeps F r k s
        sweeps_as i (none h up) = none h up
        sweeps_as i (more m w h) = more (sweeps_as i m) (record { up = w.up; hands = λ e x. w.hands e (i e x) }) h

    found : (v : ℕ) → column d' k v ≡ t v
    found v = offsets_swept well posed a inside sown swept (done.under t sought).under.below v

    -- So what is read in the anchor's column is the offset.
    pub walks_found : entry (read_by number d') v₀ a ≡ cell (offset_row n (graph es ++ wait_edges n least maps) a) v₀
    walks_found =
        let e : get_or number a 0 % 64 ≡ k = omega (arith, there, begun.few) in
        read_by_at number d' v₀ a (omega arith) ∙ ap (λ (x : ℕ). column d' x v₀) e ∙ found v₀
