-- Judging in two parts, as the code goes: each answer from the tests behind it, and the whole from the parts.
use mathlib.Core.Path.{◌≡◌, refl, sym, ap, ◌∙◌}
use Rattle.definitions.specs.Numbers.{Verdict, verdict_of}
use mathlib.Core.Bool.{Bool, true, false, cond, not, ◌&&◌}
use mathlib.Core.List.{List}
use mathlib.Core.Logic.{◌≢◌}
use Prim.Native.Nat.{ℕ, ◌<◌, ◌≤◌}
use lib.Dec.{eqb, ltb}
use lib.ListN.{replicate}
use borrow.Author.Tests.{lt-ltb}
use Rattle.data_relations.specs.Sets.{AnchorSets}
use Rattle.definitions.specs.Answers.{closes_circle, infeasible, inconsistent, unserializable, judge_edges}
use Rattle.definitions.specs.Basics.{Outcome, given, refused, refuse_if, when_given}
use Rattle.definitions.specs.Links.{Edge, members}
use Rattle.definitions.specs.Rounds.{rounds, stable, source_row}
use Rattle.definitions.specs.Waits.{needs_waits, wait_count, wait_maps}
use Rattle.demands.proofs.Sheets.{acyclic_rooted, not_8, not_10_11, unneeded_serializable}
use Rattle.order_forward.specs.Sorting.{Sorting}
use Rattle.laws.proofs.Bools.{and_split, both_ways}
use Rattle.laws.proofs.Outcomes.{given_not_refused}
use Rattle.order_reach.specs.Pushes.{Reached, Stripped, column}
use Rattle.theory.specs.Graphs.{Entered, ForwardAcyclic, Rooted, Shape, Well}
use Rattle.judge_waits.specs.Reaching.{Known, Reaches}
use Rattle.judge_waits.proofs.Posed.{unwaited_consistent, unwaited_count, unwaited_maps}
use Rattle.judge_edges.specs.Analysis.{judge_order, judge_first, judge_waits, judge_serial, judge_rest, Listed, Unweighed, Presumed}

-- Refusals in a row are the first of them, and then the rest.
pub split : {A : Type 0} (a b : Bool) (i j : ℕ) (rest : Outcome A) → refuse_if a i (refuse_if b j rest) ≡ when_given {A = Unit {0}} (refuse_if a i (refuse_if b j (given tt))) (λ u. rest)
unfolding refuse_if when_given
split true b i j rest = refl
split false true i j rest = refl
split false false i j rest = refl

-- What reaches what, as the kernel gives it.
pub reached_reaches : {n : ℕ} {g : List Edge} {rows : List ℕ} → Shape n (members g) → Reached n g rows → Reaches n g rows
reached_reaches shape reached = record { bits = λ a v below. reached.reaches shape a v }

all_known : {n : ℕ} {g : List Edge} {sets rows : List ℕ} → Shape n (members g) → Reached n g rows → AnchorSets n g sets → Known n g rows sets
all_known shape reached anchors = record { shape = shape; reaches = reached_reaches shape reached; anchors = anchors }

-- Rows that are the anchor sets without step 0 hold nothing else.
stripped_within : {n : ℕ} {sets rows : List ℕ} → Stripped sets n rows → (a v : ℕ) → column rows a v ≡ true → column sets a v ≡ true
stripped_within {n} {sets} S a v t =
    let p = and_split (ltb v n) (column sets a v && not (eqb a 0)) (sym (S.bits a v) ∙ t) in
    (and_split (column sets a v) (not (eqb a 0)) p.1).0

module _ (n : ℕ) (g : List Edge) where
  pub judge_split : (least : ℕ → ℕ) (allow : Bool) → judge_edges n least g allow ≡ when_given (judge_first n g) (λ u. judge_rest n least g allow)
  unfolding judge_edges judge_first judge_rest judge_serial judge_waits
  judge_split least allow = split (closes_circle n g) (infeasible n g) 8 10 (judge_rest n least g allow)

  -- 8, by what sorting found.
  by_test : (a : Bool) → cond (not a) (given tt) (refused 8) ≡ refuse_if {A = Unit {0}} a 8 (given tt)
  unfolding refuse_if
  by_test true = refl
  by_test false = refl

  pub sorting_order : {sets : List ℕ} {s : Bool} → Sorting n g sets s → {passes : Bool} → s ≡ passes → judge_order n g ≡ cond passes (given tt) (refused 8)
  unfolding judge_order
  sorting_order sorting e = sym (by_test (closes_circle n g)) ∙ ap (λ (b : Bool). cond b (given tt) (refused 8)) (sym sorting.passes ∙ e)

  order_by : (a : Bool) → refuse_if {A = Unit {0}} a 8 (given tt) ≡ given tt → a ≡ false
  unfolding refuse_if
  order_by true h = absurd (given_not_refused (sym h))
  order_by false h = refl

  order_passed : judge_order n g ≡ given tt → closes_circle n g ≡ false
  unfolding judge_order
  order_passed h = order_by (closes_circle n g) h

  -- What refuses 8 refuses the first part.
  refused_on : (a b : Bool) (k : ℕ) → refuse_if {A = Unit {0}} a 8 (given tt) ≡ refused k → refuse_if {A = Unit {0}} a 8 (refuse_if b 10 (given tt)) ≡ refused k
  unfolding refuse_if
  refused_on true b k h = h
  refused_on false b k h = absurd (given_not_refused h)

  pub first_refused : (k : ℕ) → judge_order n g ≡ refused k → judge_first n g ≡ refused k
  unfolding judge_order judge_first
  first_refused k h = refused_on (closes_circle n g) (infeasible n g) k h

  -- 10, where it is not 8.
  first_10_by : closes_circle n g ≡ false → stable g (rounds g n (source_row n 0)) ≡ false → judge_first n g ≡ refused 10
  unfolding judge_first refuse_if infeasible
  first_10_by h l = rw (h, l)

  first_done_by : closes_circle n g ≡ false → stable g (rounds g n (source_row n 0)) ≡ true → judge_first n g ≡ given tt
  unfolding judge_first refuse_if infeasible
  first_done_by h l = rw (h, l)

  infeasible_by : (least : ℕ → ℕ) → closes_circle n g ≡ false → infeasible n g ≡ true → (allow : Bool) → judge_edges n least g allow ≡ refused 10
  unfolding judge_edges refuse_if
  infeasible_by least h l allow = rw (h, l)

  module _ (passed : judge_order n g ≡ given tt) where
    pub all_rooted : 1 ≤ n → Shape n (members g) → Entered n (members g) → Rooted n (members g)
    all_rooted some shape entered = acyclic_rooted some shape entered (order_passed passed)

    pub first_10 : stable g (rounds g n (source_row n 0)) ≡ false → judge_first n g ≡ refused 10
    first_10 l = first_10_by (order_passed passed) l

    pub first_done : stable g (rounds g n (source_row n 0)) ≡ true → judge_first n g ≡ given tt
    first_done l = first_done_by (order_passed passed) l

    -- 10 by its test, for who finds out about it after the rest.
    pub order_infeasible : (least : ℕ → ℕ) → infeasible n g ≡ true → (allow : Bool) → judge_edges n least g allow ≡ refused 10
    order_infeasible least l allow = infeasible_by least (order_passed passed) l allow

    pub order_acyclic : 1 ≤ n → Shape n (members g) → ForwardAcyclic (members g)
    order_acyclic some shape = not_8 some shape (order_passed passed)

    -- No step waits for its own end where nothing reaches further than the anchor sets say.
    pub stripped_consistent : {sets rows : List ℕ} → 1 ≤ n → Shape n (members g) → Reached n g rows → AnchorSets n g sets → Stripped sets n rows → inconsistent n g ≡ false
    stripped_consistent some shape reached anchors stripped = unwaited_consistent (all_known shape reached anchors) (stripped_within stripped) (order_acyclic some shape)

  -- 12 and the verdicts, by the count of waits.
  pub waits_none : wait_count n g ≡ 0 → (allow : Bool) → judge_waits n g allow ≡ given 0
  unfolding judge_waits needs_waits refuse_if
  waits_none h allow = rw (h)

  pub waits_allowed : 0 < wait_count n g → judge_waits n g true ≡ given 1
  unfolding judge_waits needs_waits refuse_if
  waits_allowed h = rw (lt-ltb 0 (wait_count n g) h)

  pub waits_refused : 0 < wait_count n g → judge_waits n g false ≡ refused 12
  unfolding judge_waits needs_waits refuse_if
  waits_refused h = rw (lt-ltb 0 (wait_count n g) h)

  -- What passes 8, 10 and 11 can be scheduled.
  passed_by : (a b : Bool) → refuse_if {A = Unit {0}} a 8 (refuse_if b 10 (given tt)) ≡ given tt → (a ≡ false) × (b ≡ false)
  unfolding refuse_if
  passed_by true b h = absurd (given_not_refused (sym h))
  passed_by false true h = absurd (given_not_refused (sym h))
  passed_by false false h = (refl, refl)

  first_passed : judge_first n g ≡ given tt → (closes_circle n g ≡ false) × (infeasible n g ≡ false)
  unfolding judge_first
  first_passed h = passed_by (closes_circle n g) (infeasible n g) h

  pub passed_well : 1 ≤ n → Shape n (members g) → Entered n (members g) → judge_first n g ≡ given tt → inconsistent n g ≡ false → Well n (members g)
  passed_well some shape entered h k = let r = first_passed h in not_10_11 some shape (acyclic_rooted some shape entered r.0) r.1 k

  module _ (least : ℕ → ℕ) where
    -- From 11 on.
    rest_11 : inconsistent n g ≡ true → (allow : Bool) → judge_rest n least g allow ≡ refused 11
    unfolding judge_rest refuse_if
    rest_11 h allow = rw h

    rest_serial : inconsistent n g ≡ false → (allow : Bool) → judge_rest n least g allow ≡ judge_serial n least g allow
    unfolding judge_rest refuse_if
    rest_serial h allow = rw h

    serial_28 : unserializable n least g ≡ true → (allow : Bool) → judge_serial n least g allow ≡ refused 28
    unfolding judge_serial refuse_if
    serial_28 h allow = rw h

    serial_waits : unserializable n least g ≡ false → (allow : Bool) → judge_serial n least g allow ≡ judge_waits n g allow
    unfolding judge_serial refuse_if
    serial_waits h allow = rw h

    -- Where waits are allowed, 12 is not given.
    allowed : (k : ℕ) → judge_waits n g true ≢ refused k
    unfolding judge_waits refuse_if
    allowed k = go (needs_waits n g)
      where
        go : (need : Bool) → refuse_if {A = ℕ} (need && not true) 12 (given (cond need 1 0)) ≢ refused k
        go true h = absurd (given_not_refused h)
        go false h = absurd (given_not_refused h)

    -- What refuses 8 or 10 refuses the whole; what passes them goes on with the rest.
    edges_refused : (k : ℕ) → judge_first n g ≡ refused k → (allow : Bool) → judge_edges n least g allow ≡ refused k
    unfolding when_given
    edges_refused k e allow = judge_split least allow ∙ ap (λ (o : Outcome (Unit {0})). when_given o (λ u. judge_rest n least g allow)) e

    edges_rest : judge_first n g ≡ given tt → (allow : Bool) → judge_edges n least g allow ≡ judge_rest n least g allow
    unfolding when_given
    edges_rest e allow = judge_split least allow ∙ ap (λ (o : Outcome (Unit {0})). when_given o (λ u. judge_rest n least g allow)) e

    module _ (allow : Bool) (verdict : Verdict) (maps : List ℕ) (count : ℕ) where
      -- A way of judging that refuses in any case lists nothing; two that agree list the same.
      refused_lists : (judge : Bool → Outcome ℕ) (k : ℕ) → ((b : Bool) → judge b ≡ refused k) → verdict_of verdict ≡ refused k → maps ≡ replicate 64 0 → count ≡ 0 → Listed n g judge allow verdict maps count
      refused_lists judge k h e m c =
          record { judges = e ∙ sym (h allow); found = λ v f. absurd (given_not_refused (sym f ∙ h true)); blank = λ l f. (m, c) }

      same_lists : (judge other : Bool → Outcome ℕ) → ((b : Bool) → judge b ≡ other b) → Listed n g other allow verdict maps count → Listed n g judge allow verdict maps count
      same_lists judge other h l =
          record { judges = l.judges ∙ sym (h allow); found = λ v f. l.found v (sym (h true) ∙ f); blank = λ k f. l.blank k (sym (h true) ∙ f) }

      -- The analysis from 28 on.
      pub serial_refused : unserializable n least g ≡ true → verdict_of verdict ≡ refused 28 → maps ≡ replicate 64 0 → count ≡ 0 → Listed n g (judge_serial n least g) allow verdict maps count
      serial_refused h = refused_lists (judge_serial n least g) 28 (serial_28 h)

      pub serial_found : unserializable n least g ≡ false → verdict_of verdict ≡ judge_waits n g allow → maps ≡ wait_maps n g → count ≡ wait_count n g → Listed n g (judge_serial n least g) allow verdict maps count
      serial_found h e m c =
          same_lists (judge_serial n least g) (judge_waits n g) (serial_waits h)
          (record { judges = e; found = λ v f. (m, c); blank = λ k f. absurd (allowed k f) })

      -- The whole.
      pub edges_refuse : (k : ℕ) → judge_first n g ≡ refused k → verdict_of verdict ≡ refused k → maps ≡ replicate 64 0 → count ≡ 0 → Listed n g (judge_edges n least g) allow verdict maps count
      edges_refuse k h = refused_lists (judge_edges n least g) k (edges_refused k h)

      pub edges_go_on : judge_first n g ≡ given tt → Listed n g (judge_rest n least g) allow verdict maps count → Listed n g (judge_edges n least g) allow verdict maps count
      edges_go_on h = same_lists (judge_edges n least g) (judge_rest n least g) (edges_rest h)

      -- The analysis from 11 on, of edges that pass 8.
      module _ {reach : List ℕ} (shape : Shape n (members g)) (reached : Reached n g reach) where
        pub unweighed_11 : inconsistent n g ≡ true → verdict_of verdict ≡ refused 11 → maps ≡ replicate 64 0 → count ≡ 0 → Unweighed n least g allow verdict reach maps count
        unweighed_11 h e m c =
            record { long = reached.long; reaches = reached_reaches shape reached; serialized = λ first. refused_lists (judge_rest n least g) 11 (rest_11 h) e m c }

        pub unweighed_rest : inconsistent n g ≡ false → (judge_first n g ≡ given tt → Listed n g (judge_serial n least g) allow verdict maps count) → Unweighed n least g allow verdict reach maps count
        unweighed_rest h l =
            record { long = reached.long; reaches = reached_reaches shape reached; serialized = λ first. same_lists (judge_rest n least g) (judge_serial n least g) (rest_serial h) (l first) }

        -- Nothing reaches further than the anchor sets say.
        pub unweighed_posed : {sets : List ℕ} → 1 ≤ n → n ≤ 64 → Entered n (members g) → AnchorSets n g sets → judge_order n g ≡ given tt → Stripped sets n reach → maps ≡ replicate 64 0 → count ≡ 0 → (count ≡ wait_count n g → verdict_of verdict ≡ judge_waits n g allow) → Unweighed n least g allow verdict reach maps count
        unfolding needs_waits
        unweighed_posed {sets} some few entered anchors passed stripped m c judges =
            let known = all_known shape reached anchors in
            let within = stripped_within stripped in
            let once = order_acyclic passed some shape in
            let consistent = stripped_consistent passed some shape reached anchors stripped in
            let none = unwaited_count known within in
            let counted = c ∙ sym none in
            unweighed_rest consistent
            (λ first. serial_found (unneeded_serializable least (passed_well some shape entered first consistent) once (ap (ltb 0) none)) (judges counted) (m ∙ sym (unwaited_maps known within few)) counted)

    -- What refuses 8 refuses the whole.
    pub order_refused : (k : ℕ) → judge_order n g ≡ refused k → (allow : Bool) → judge_edges n least g allow ≡ refused k
    order_refused k h = edges_refused k (first_refused k h)

    -- The analysis with 10 left out is refused by 8, or goes on with the rest.
    module _ (allow sorted : Bool) (verdict : Verdict) (reach maps : List ℕ) (count : ℕ) where
      pub presumed_refused : (k : ℕ) → judge_order n g ≡ refused k → sorted ≡ false → verdict_of verdict ≡ refused k → maps ≡ replicate 64 0 → count ≡ 0 → Presumed n least g allow sorted verdict reach maps count
      presumed_refused k h s e m c =
          record {
            sorts = (λ t. absurd (both_ways t s), λ o. absurd (given_not_refused (sym o ∙ h)));
            long = λ t. absurd (both_ways t s);
            reaches = λ t. absurd (both_ways t s);
            unsorted = λ f. edges_refuse allow verdict maps count k (first_refused k h) e m c;
            feasible = λ f. absurd (given_not_refused (sym f ∙ first_refused k h));
          }

      pub presumed_rest : judge_order n g ≡ given tt → sorted ≡ true → Unweighed n least g allow verdict reach maps count → Presumed n least g allow sorted verdict reach maps count
      presumed_rest o s u =
          record {
            sorts = (λ t. o, λ p. s);
            long = λ t. u.long;
            reaches = λ t. u.reaches;
            unsorted = λ f. absurd (both_ways s f);
            feasible = λ f. edges_go_on allow verdict maps count f (u.serialized f);
          }
