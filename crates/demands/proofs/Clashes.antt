-- Request L14. A part of the records of a well-formed sheet, completed afresh, closes no circle of forward links, and is impossible only where every larger part is. So the records that stay when from the last to
-- the first each one is dropped that is not needed are impossible together, and none of them can be left out.
use mathlib.Core.Path.{◌≡◌, refl, sym, ap, subst, ◌∙◌}
use mathlib.Core.Bool.{Bool, true, false, cond, not, ◌||◌, false≢true}
use mathlib.Core.Logic.{◌⊎◌, inl, inr, ◌≢◌, ◌↔◌}
use mathlib.Core.List.Memᴰ
use mathlib.Core.List.{List, [], ◌∷◌, ◌++◌, map, flat_map, append_assoc, append-nil, Memᴰ}
use Prim.Native.Nat.{ℕ, zero, suc, ◌+◌, ◌≤◌, ◌<◌}
use native.Mathlib.Omega.{arith}
use lib.Dec.{eqb}
use lib.ListN.{length}
use borrow.Author.Tests.{eqb-false, eqb-true, eq-eqb, not-true}
use Rattle.definitions.specs.Basics.{any, tabulate, Outcome, given, refused}
use Rattle.definitions.specs.Bytes.{Records}
use Rattle.definitions.specs.Links.{Constraint, link_constraints, constraints, leads_into, follows_nothing, source_link, completed, loose_steps, links_of, least_at, delay_at, Edge, sequencing_edge, edge_of, members, Forward}
use Rattle.definitions.specs.Plan.{delays}
use Rattle.definitions.specs.Answers.{infeasible, inconsistent, count_of, leasts_of, edges_of, judge_records}
use Rattle.definitions.specs.Clashes.{is_impossible, impossible, numbers_below, part_of, drop_records, few}
use Rattle.definitions.specs.declared.Delay.{Delay}
use Rattle.definitions.specs.declared.Delay.TheVariants.{Open, Fixed}
use Rattle.definitions.specs.declared.Operation.{Operation}
use Rattle.definitions.specs.declared.Link.{Link}
use Rattle.laws.proofs.Bools.{and_split, bool_cases, both_ways, cond_false, cond_true, mark_back, or_left, or_right, or_split}
use Rattle.laws.proofs.Negations.{fails_unless}
use Rattle.laws.proofs.Outcomes.{given_not_refused, refused_same}
use Rattle.laws.proofs.Tests.{flatMap_has, flatMap_only, select_below_only}
use Rattle.theory.proofs.Entering.{Chain, edge_chain, joined_chain, chained_acyclic}
use Rattle.demands.specs.Demands.{KeepsLinks, Rising, SomeListLeavesNone}
use Rattle.demands.specs.Parts.{Within}
use Rattle.demands.specs.Clashes.{Possible, PartJudged, PartsJudged, FewClash, remove_at}
use Rattle.demands.proofs.Reading.{Fits}
use Rattle.demands.proofs.Parts.{fewer_fits, part_larger, part_mem, part_whole, tried_within}
use Rattle.demands.proofs.Edges.{edge_link, link_edge, sheet_shape}
use Rattle.demands.proofs.Judging.{TenOrEleven, judge_8, judge_impossible}
use Rattle.demands.proofs.Sheets.{circle_free}
use Rattle.demands.proofs.Formed.{Regular, formed_regular, regular_acyclic, regular_rooted}
use Rattle.demands.proofs.Completion.{completed_kept, sent_kept}
use Rattle.demands.proofs.Impossibility.{tested_list, untested_starts}

-- ## A smaller sheet

-- Two sheets with the same steps, of which one has some of the records of the other.
module _ (os : List Operation) (ps qs : List Link) (part : (l : Link) → Memᴰ l ps → Memᴰ l qs) where
  abbrev smaller : Records
  smaller = record { steps = os; pairs = ps }

  abbrev larger : Records
  larger = record { steps = os; pairs = qs }

  link_kept : (c : Constraint) → Memᴰ c (constraints ps) → Memᴰ c (constraints qs)
  unfolding constraints
  link_kept c m = let r = flatMap_only link_constraints ps m in flatMap_has link_constraints qs (part r.0 r.1) r.2

  -- Start times that keep the larger keep the smaller: an added link asks nothing of them. So where a list leaves none for the smaller it leaves none for the larger.
  starts_kept : Fits larger → (d t : ℕ → ℕ) → KeepsLinks larger d t → KeepsLinks smaller d t
  starts_kept fits d t K =
      let sent = sent_kept fits d t K in
      completed_kept (fewer_fits part fits) d t (record { starts = sent.starts; keeps = λ c m. sent.keeps c (link_kept c m) })

  list_kept : Fits larger → SomeListLeavesNone smaller → SomeListLeavesNone larger
  list_kept fits L = record { list = L.list; allowed = record { size = L.allowed.size; within = L.allowed.within }; none = λ t K. L.none t (starts_kept fits (delays L.list) t K) }

  -- A forward edge of the smaller is one of the larger; or it was added, from step 0 to another step, and the larger has a chain there.
  module _ (whole : Regular larger) where
    abbrev Whole : ℕ → ℕ → Type 0
    Whole = Chain (members (edges_of larger))

    added_chain : (v : ℕ) → v < length os → v ≢ 0 → (x : Delay) → Whole (sequencing_edge x (least_at os 0) 0 v 0).from (sequencing_edge x (least_at os 0) 0 v 0).to
    unfolding sequencing_edge
    added_chain v b z (Fixed ticks) = joined_chain (regular_rooted whole v b) (λ e. z (sym e))
    added_chain v b z Open = joined_chain (regular_rooted whole v b) (λ e. z (sym e))

    link_chain : (c : Constraint) → Memᴰ c (links_of smaller) → (edge_of os c).back ≡ false → Whole (edge_of os c).from (edge_of os c).to
    unfolding links_of completed loose_steps edges_of follows_nothing edge_of
    link_chain c m forward = go (Memᴰ.append_cases (constraints ps) m)
      where
        go : Memᴰ c (constraints ps) ⊎ Memᴰ c (map source_link (loose_steps (length os) (constraints ps))) → Whole (edge_of os c).from (edge_of os c).to
        go (inl i) = edge_chain (edge_of os c) (link_edge os (links_of larger) c (Memᴰ.append_left _ (link_kept c i)), forward)
        go (inr i) =
            let r = Memᴰ.of_map source_link (loose_steps (length os) (constraints ps)) i in
            let s = select_below_only (follows_nothing (constraints ps)) (length os) r.1 in
            let other = (and_split (not (eqb r.0 0)) (not (any (leads_into r.0) (constraints ps))) s.1).0 in
            subst (λ (c : Constraint). Whole (edge_of os c).from (edge_of os c).to) r.2 (added_chain r.0 s.0 (eqb-false r.0 0 (not-true (eqb r.0 0) other)) (delay_at os 0))

    edge_chained : (e : Edge) → Forward (members (edges_of smaller)) e → Whole e.from e.to
    unfolding edges_of
    edge_chained e m =
        let r = edge_link os (links_of smaller) e m.0 in
        subst (λ (e : Edge). Whole e.from e.to) r.2 (link_chain r.0 r.1 (ap (λ (e : Edge). e.back) r.2 ∙ m.1))

    -- So the smaller closes no circle where the larger closes none.
    pub fewer_regular : Regular smaller
    fewer_regular =
        let fits = fewer_fits part whole.fits in
        record { fits = fits; no_circle = (circle_free fits.some (sheet_shape fits)).1 (chained_acyclic edge_chained (regular_acyclic whole)) }

-- ## What is said of a part

-- The test of an answer says which one it is.
refusals_10_11 : (o : Outcome ℕ) → (is_impossible o ≡ true) ↔ TenOrEleven o
unfolding is_impossible
refusals_10_11 (given v) = (λ h. absurd (false≢true h), none)
  where
    none : TenOrEleven (given v) → false ≡ true
    none (inl e) = absurd (given_not_refused e)
    none (inr e) = absurd (given_not_refused e)
refusals_10_11 (refused k) = (λ h. found (or_split (eqb k 10) (eqb k 11) h), test)
  where
    found : (eqb k 10 ≡ true) ⊎ (eqb k 11 ≡ true) → TenOrEleven (refused k)
    found (inl h) = inl (ap refused (eqb-true k 10 h))
    found (inr h) = inr (ap refused (eqb-true k 11 h))

    test : TenOrEleven (refused k) → (eqb k 10 || eqb k 11) ≡ true
    test (inl e) = or_left (eqb k 11) (eq-eqb k 10 (refused_same e))
    test (inr e) = or_right (eqb k 10) (eq-eqb k 11 (refused_same e))

-- Of a sheet that closes no circle the tests for 10 and 11 alone are tried, whether or not waits are allowed; they say that some list leaves none.
module _ {p : Records} (regular : Regular p) where
  abbrev tests : Bool
  tests = infeasible (count_of p) (edges_of p) || inconsistent (count_of p) (edges_of p)

  refused_tests : (allow : Bool) → TenOrEleven (judge_records p allow) ↔ (tests ≡ true)
  unfolding judge_records
  refused_tests allow = judge_impossible (count_of p) (leasts_of p) (edges_of p) allow regular.no_circle

  impossible_tests : (impossible p ≡ true) ↔ (tests ≡ true)
  unfolding impossible
  impossible_tests =
      let r = refusals_10_11 (judge_records p true) in
      (λ h. (refused_tests true).0 (r.0 h), λ h. r.1 ((refused_tests true).1 h))

  pub impossible_lists : (impossible p ≡ true) ↔ SomeListLeavesNone p
  impossible_lists = (λ h. (tested_list regular).0 (impossible_tests.0 h), λ L. impossible_tests.1 ((tested_list regular).1 L))

  pub is_possible : impossible p ≡ false → Possible p
  is_possible h = record { test = h; no_list = (fails_unless (impossible p) impossible_lists).0 h; starts = untested_starts regular (mark_back impossible_tests.1 h) }

  pub part_judged : PartJudged p
  unfolding judge_records
  part_judged = record {
    no_circle = regular.no_circle;
    never_8 = λ allow h. both_ways ((judge_8 (count_of p) (leasts_of p) (edges_of p) allow).0 h) regular.no_circle;
    refusals = λ allow. (λ h. (refused_tests allow).1 (impossible_tests.0 h), λ h. impossible_tests.1 ((refused_tests allow).0 h));
    lists = impossible_lists;
    otherwise = is_possible;
  }

-- ## Parts by their numbers

module _ {q : Records} (whole : Regular q) where
  pub part_regular : (ks : List ℕ) → Within (length q.pairs) ks → Regular (part_of q ks)
  unfolding part_of
  part_regular ks inside = fewer_regular q.steps (part_of q ks).pairs q.pairs (part_mem q ks inside) whole

  -- Where a part is impossible every larger part is.
  larger_impossible : (ks js : List ℕ) → Within (length q.pairs) js → ((k : ℕ) → Memᴰ k ks → Memᴰ k js) → impossible (part_of q ks) ≡ true → impossible (part_of q js) ≡ true
  unfolding part_of
  larger_impossible ks js inside more h =
      let R = part_regular js inside in
      let S = part_regular ks (λ k m. inside k (more k m)) in
      (impossible_lists R).1 (list_kept q.steps (part_of q ks).pairs (part_of q js).pairs (part_larger q ks js more) R.fits ((impossible_lists S).0 h))

-- ## Dropping records

-- One number more below k + 1 than below k: it stands in front of what stays.
numbers_suc : (k : ℕ) (xs : List ℕ) → numbers_below (suc k) ++ xs ≡ numbers_below k ++ k ∷ xs
unfolding tabulate
numbers_suc k xs = append_assoc (numbers_below k) (k ∷ []) xs

removed_mem : {j : ℕ} (xs : List ℕ) (i : ℕ) → Memᴰ j (remove_at xs i) → Memᴰ j xs
unfolding remove_at
removed_mem [] i m = m
removed_mem (x ∷ xs) zero m = Memᴰ.tail m
removed_mem {j} (x ∷ xs) (suc i) m = go (Memᴰ.cases_cons m) (removed_mem xs i)
  where
    go : (j ≡ x) ⊎ Memᴰ j (remove_at xs i) → (Memᴰ j (remove_at xs i) → Memᴰ j xs) → Memᴰ j (x ∷ xs)
    go (inl e) rest = Memᴰ.head e
    go (inr l) rest = Memᴰ.tail (rest l)

-- The records below k are still to be tried, and of the others those of `stay` stay: rising, from k on. Together they are impossible, and without any one of those that stay they are not.
record Tried (q : Records) (k : ℕ) (stay : List ℕ) : Type 0 where
  inside : Within (length q.pairs) stay
  rising : Rising (λ i j. i < j) stay
  past : (j : ℕ) → Memᴰ j stay → k ≤ j
  clash : impossible (part_of q (numbers_below k ++ stay)) ≡ true
  needed : (i : ℕ) → i < length stay → impossible (part_of q (numbers_below k ++ remove_at stay i)) ≡ false

module _ {q : Records} (whole : Regular q) where
  -- A part that is possible is so without record k.
  one_less : (k : ℕ) (xs : List ℕ) → suc k ≤ length q.pairs → Within (length q.pairs) xs → impossible (part_of q (numbers_below (suc k) ++ xs)) ≡ false → impossible (part_of q (numbers_below k ++ xs)) ≡ false
  one_less k xs b inside =
      mark_back (larger_impossible whole (numbers_below k ++ xs) (numbers_below (suc k) ++ xs) (tried_within (suc k) (length q.pairs) xs b inside) (λ j m. more j (Memᴰ.append_cases (numbers_below k) m)))
    where
      more : (j : ℕ) → Memᴰ j (numbers_below k) ⊎ Memᴰ j xs → Memᴰ j (numbers_below (suc k) ++ xs)
      more j (inl m) = subst (Memᴰ j) (sym (numbers_suc k xs)) (Memᴰ.append_left (k ∷ xs) m)
      more j (inr m) = subst (Memᴰ j) (sym (numbers_suc k xs)) (Memᴰ.append_right (numbers_below k) (Memᴰ.tail m))

  -- Record k is not needed: what was needed before it is needed still.
  dropped : (k : ℕ) (stay : List ℕ) → suc k ≤ length q.pairs → Tried q (suc k) stay → impossible (part_of q (numbers_below k ++ stay)) ≡ true → Tried q k stay
  dropped k stay b T h = record {
    inside = T.inside;
    rising = T.rising;
    past = λ j m. omega (arith, T.past j m);
    clash = h;
    needed = λ i c. one_less k (remove_at stay i) b (λ j m. T.inside j (removed_mem stay i m)) (T.needed i c);
  }

  -- It is needed: the part is the same, and k stands in front of what stays.
  kept : (k : ℕ) (stay : List ℕ) → suc k ≤ length q.pairs → Tried q (suc k) stay → impossible (part_of q (numbers_below k ++ stay)) ≡ false → Tried q k (k ∷ stay)
  unfolding remove_at
  kept k stay b T h = record {
    inside = λ j m. below j (Memᴰ.cases_cons m);
    rising = (λ j m. T.past j m, T.rising);
    past = λ j m. from j (Memᴰ.cases_cons m);
    clash = subst (λ (l : List ℕ). impossible (part_of q l) ≡ true) (numbers_suc k stay) T.clash;
    needed = still;
  }
    where
      below : (j : ℕ) → (j ≡ k) ⊎ Memᴰ j stay → j < length q.pairs
      below j (inl e) = omega arith
      below j (inr m) = T.inside j m

      from : (j : ℕ) → (j ≡ k) ⊎ Memᴰ j stay → k ≤ j
      from j (inl e) = omega arith
      from j (inr m) = omega (arith, T.past j m)

      still : (i : ℕ) → i < length (k ∷ stay) → impossible (part_of q (numbers_below k ++ remove_at (k ∷ stay) i)) ≡ false
      still zero c = h
      still (suc i) c = subst (λ (l : List ℕ). impossible (part_of q l) ≡ false) (numbers_suc k (remove_at stay i)) (T.needed i (omega arith))

  -- From the last record to the first.
  all_tried : (k : ℕ) (stay : List ℕ) → k ≤ length q.pairs → Tried q k stay → Tried q 0 (drop_records q k stay)
  unfolding drop_records
  all_tried zero stay b T = T
  all_tried (suc k) stay b T = all_tried k _ (omega arith) (go (bool_cases (impossible (part_of q (numbers_below k ++ stay)))))
    where
      go : (impossible (part_of q (numbers_below k ++ stay)) ≡ true) ⊎ (impossible (part_of q (numbers_below k ++ stay)) ≡ false) → Tried q k (cond (impossible (part_of q (numbers_below k ++ stay))) stay (k ∷ stay))
      go (inl h) = subst (Tried q k) (sym (cond_true stay (k ∷ stay) h)) (dropped k stay b T h)
      go (inr h) = subst (Tried q k) (sym (cond_false stay (k ∷ stay) h)) (kept k stay b T h)

  few_tried : impossible q ≡ true → Tried q 0 (few q)
  unfolding few
  few_tried h = all_tried (length q.pairs) [] (omega arith) (record {
    inside = λ j m. absurd (Memᴰ.not-nil m);
    rising = tt;
    past = λ j m. absurd (Memᴰ.not-nil m);
    clash = rw (append-nil (numbers_below (length q.pairs)), part_whole q) h;
    needed = λ i c. absurd (omega arith);
  })

  -- Steps alone are not impossible: all of them may start at tick 0.
  none_possible : impossible (part_of q []) ≡ false
  unfolding part_of constraints flat_map
  none_possible =
      let R = part_regular whole [] (λ k m. absurd (Memᴰ.not-nil m)) in
      (fails_unless (impossible (part_of q [])) (impossible_lists R)).1 (λ L. L.none (λ v. 0) (completed_kept R.fits (delays L.list) (λ v. 0) (record { starts = refl; keeps = λ c m. absurd (Memᴰ.not-nil m) })))

  some_clash : (ks : List ℕ) → impossible (part_of q ks) ≡ true → 1 ≤ length ks
  some_clash [] h = absurd (both_ways h none_possible)
  some_clash (k ∷ ks) h = omega arith

-- No more stay than were tried, whatever the sheet.
no_more_stay : (q : Records) (k : ℕ) (stay : List ℕ) → length (drop_records q k stay) ≤ k + length stay
unfolding drop_records
no_more_stay q zero stay = omega arith
no_more_stay q (suc k) stay = go (impossible (part_of q (numbers_below k ++ stay))) (no_more_stay q k)
  where
    go : (b : Bool) → ((left : List ℕ) → length (drop_records q k left) ≤ k + length left) → length (drop_records q k (cond b stay (k ∷ stay))) ≤ suc k + length stay
    go true rest = omega (arith, rest stay)
    go false rest = omega (arith, rest (k ∷ stay))

pub few_count : (q : Records) → length (few q) ≤ length q.pairs
unfolding few
few_count q = omega (arith, no_more_stay q (length q.pairs) [])

-- ## The theorems of this file

pub judged_parts : PartsJudged
judged_parts s q formed ks inside = part_judged (part_regular (formed_regular formed) ks inside)

pub few_for : FewClash
unfolding tabulate
few_for s q formed L =
    let whole = formed_regular formed in
    let T = few_tried whole ((impossible_lists whole).1 L) in
    record {
      numbers = T.inside;
      rising = T.rising;
      some = some_clash whole (few q) T.clash;
      no_more = few_count q;
      together = record { test = T.clash; some_list = (impossible_lists (part_regular whole (few q) T.inside)).0 T.clash };
      without_one = λ i b. is_possible (part_regular whole (remove_at (few q) i) (λ j m. T.inside j (removed_mem (few q) i m))) (T.needed i b);
    }
