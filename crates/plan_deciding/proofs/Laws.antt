-- Deciding sets read off the working tables: the turns of the loops that find them, and that on the tables of an edge list they are the definition's. Assumes nothing.
use mathlib.Core.Path.{◌≡◌, refl, sym, ap, ap₂, ◌∙◌}
use mathlib.Core.Bool.{Bool, true, false, not, ◌&&◌, ◌||◌, and-true, and-false}
use mathlib.Core.Logic.{◌⊎◌, inl, inr}
use mathlib.Core.List.{List}
use Prim.Native.Nat.{ℕ, zero, suc, ◌+◌, ◌-◌, ◌<◌, ◌≤◌}
use native.Mathlib.Omega.{arith}
use lib.Bits.{bit_and, and_le_l}
use lib.Dec.{eqb, leb, ltb}
use lib.ListN.{get_or}
use borrow.Author.Tests.{lt-ltb, ltb-true, leb-true, le-leb, eqb-true, eq-eqb, eqb-false, ne_eqb}
use Rattle.definitions.specs.Anchors.{in_anchor_set}
use Rattle.definitions.specs.Basics.{any_below, test_bit}
use Rattle.definitions.specs.Links.{Edge, no_leasts}
use Rattle.definitions.specs.Plan.{offset, overrides, decides}
use Rattle.laws.proofs.Bools.{and_join, and_split, bool_cases, both_ways, same_test}
use Rattle.laws.proofs.Maps.{removed_lt, same_map, test_above, test_and, test_zero}
use Rattle.laws.proofs.Members.{any_member_less}
use Rattle.laws.proofs.Tests.{any_below_has, any_below_by, none_any_below}
use Rattle.definitions.specs.Rounds.{entry}
use Rattle.data_edges.specs.Serial.{leasts_in}
use Rattle.plan_deciding.specs.Working.{Full, Holds, Orderly, weight, offset_in, member, reaching, covering, deciding}

-- ---- the members given, compared one at a time

module _ (d : List (List ℕ)) (v b : ℕ) where
  -- What is kept so far, less those of the ones left from which the way over b reaches.
  abbrev pub kept_of : ℕ → ℕ → ℕ → Bool
  kept_of kept left a = test_bit kept a && not (test_bit left a && reaching d v a b)

  -- A member is compared: it is taken from what is kept, or it stays. At another member nothing changes.
  pub one_compared : (kept left next rest x : ℕ) (out : Bool) → test_bit left x ≡ true → out ≡ reaching d v x b
      → ((j : ℕ) → test_bit next j ≡ (test_bit kept j && not (eqb j x && out))) → ((j : ℕ) → test_bit rest j ≡ (test_bit left j && not (eqb j x)))
      → (a : ℕ) → kept_of next rest a ≡ kept_of kept left a
  one_compared kept left next rest x out stood tested next_is rest_is a = ap₂ (λ (s t : Bool). s && not (t && reaching d v a b)) (next_is a) (rest_is a) ∙ go (eqb a x) refl
    where
      go : (t : Bool) → eqb a x ≡ t → (test_bit kept a && not (t && out) && not (test_bit left a && not t && reaching d v a b)) ≡ kept_of kept left a
      go true e =
          let q : a ≡ x = eqb-true a x e in
          let l : test_bit left a ≡ true = ap (test_bit left) q ∙ stood in
          let o : out ≡ reaching d v a b = tested ∙ ap (λ (y : ℕ). reaching d v y b) (sym q) in
          rw (l, o) (and-true (test_bit kept a && not (reaching d v a b)))
      go false e = ap₂ (λ (s t : Bool). s && not (t && reaching d v a b)) (and-true (test_bit kept a)) (and-true (test_bit left a))

  -- None is left.
  pub all_compared : (kept left a : ℕ) → left ≡ 0 → kept_of kept left a ≡ test_bit kept a
  all_compared kept left a e = rw (e, test_zero a) (and-true (test_bit kept a))

-- Only those of the map are compared; the rest of the test is that b leaves them out.
pub covered : (d : List (List ℕ)) (sets : List ℕ) (v a b map behind given next : ℕ)
    → test_bit behind a ≡ (member sets b a && not (eqb a b)) → test_bit given a ≡ (test_bit map a && test_bit behind a)
    → test_bit next a ≡ (test_bit map a && not (test_bit given a && reaching d v a b)) → test_bit next a ≡ (test_bit map a && not (covering d sets v a b))
unfolding covering
covered d sets v a b map behind given next behind-is given_is next_is =
    next_is ∙ ap (λ (t : Bool). test_bit map a && not (t && reaching d v a b)) (given_is ∙ ap (λ (t : Bool). test_bit map a && t) (behind-is ∙ ap (λ (t : Bool). member sets b a && not t) (turned (eqb a b) refl)))
    ∙ go (test_bit map a) (member sets b a) (eqb b a)
  where
    turned : (t : Bool) → eqb a b ≡ t → t ≡ eqb b a
    turned true e = sym (eq-eqb b a (sym (eqb-true a b e)))
    turned false e = sym (ne_eqb b a (λ q. eqb-false a b e (sym q)))

    go : (m s t : Bool) → (m && not (m && (s && not t) && reaching d v a b)) ≡ (m && not (not t && s && reaching d v a b))
    go false s t = refl
    go true true t = ap (λ (u : Bool). not (u && reaching d v a b)) (sym (and-true (not t)))
    go true false t = ap (λ (u : Bool). not (u && reaching d v a b)) (sym (and-false (not t)))

-- ---- parts of maps

pub left_of : (left rest x a : ℕ) → test_bit rest a ≡ (test_bit left a && not (eqb a x)) → test_bit rest a ≡ true → test_bit left a ≡ true
left_of left rest x a e h = (and_split (test_bit left a) (not (eqb a x)) (sym e ∙ h)).0

pub given_of : (map behind given a : ℕ) → test_bit given a ≡ (test_bit map a && test_bit behind a) → test_bit given a ≡ true → (test_bit map a ≡ true) × (test_bit behind a ≡ true)
given_of map behind given a e h = and_split (test_bit map a) (test_bit behind a) (sym e ∙ h)

-- A part of what is left without x is a part of what is left, and smaller.
pub part_of : (left next less rest x a : ℕ) → test_bit less a ≡ (test_bit left a && not (eqb a x)) → test_bit rest a ≡ (test_bit less a && test_bit next a) → test_bit rest a ≡ true → test_bit left a ≡ true
part_of left next less rest x a less_is rest_is h = left_of left less x a less_is (given_of less next rest a rest_is h).0

pub sieving_less : (left next less rest x : ℕ) → test_bit left x ≡ true → ((j : ℕ) → test_bit less j ≡ (test_bit left j && not (eqb j x))) → ((j : ℕ) → test_bit rest j ≡ (test_bit less j && test_bit next j)) → rest < left
sieving_less left next less rest x stood less_is rest_is =
    let e : rest ≡ bit_and less next = same_map rest (bit_and less next) (λ j. rest_is j ∙ sym (test_and less next j)) in
    omega (arith, removed_lt left less x stood less_is, and_le_l less next)

-- ---- the members of an anchor set, each leaving others out

module _ (d : List (List ℕ)) (sets : List ℕ) (v : ℕ) where
  -- What is kept so far, less those that one of the members left leaves out.
  abbrev pub deciding_of : ℕ → ℕ → ℕ → Bool
  deciding_of kept left a = test_bit kept a && not (any_below (λ b. test_bit left b && covering d sets v a b) 64)

  -- The anchor set, with all its members left, is where the loop starts.
  none_left_out : (a : ℕ) → deciding_of (get_or sets v 0) (get_or sets v 0) a ≡ deciding d sets v a
  unfolding deciding
  none_left_out a = refl

  -- A member x leaves out what it does.
  one_left_out : (kept left next rest x : ℕ) → x < 64 → test_bit left x ≡ true
      → ((a : ℕ) → test_bit next a ≡ (test_bit kept a && not (covering d sets v a x))) → ((j : ℕ) → test_bit rest j ≡ (test_bit left j && not (eqb j x)))
      → (a : ℕ) → deciding_of next rest a ≡ deciding_of kept left a
  one_left_out kept left next rest x b stood next_is rest_is a =
      ap (λ (t : Bool). t && not (any_below (λ b. test_bit rest b && covering d sets v a b) 64)) (next_is a)
      ∙ go (covering d sets v a x) (any_below (λ b. test_bit rest b && covering d sets v a b) 64)
      ∙ ap (λ (t : Bool). test_bit kept a && not t) (sym (any_member_less left rest x stood rest_is (covering d sets v a) 64 b))
    where
      go : (s t : Bool) → (test_bit kept a && not s && not t) ≡ (test_bit kept a && not (s || t))
      go true t = ap (λ (u : Bool). u && not t) (and-false (test_bit kept a)) ∙ sym (and-false (test_bit kept a))
      go false t = ap (λ (u : Bool). u && not t) (and-true (test_bit kept a))

  -- Members that are out need not be compared: whoever left one out leaves out what it does. Those left are kept so far, and those kept are members.
  pub record Sieving (kept left : ℕ) : Type 0 where
    pub inside : (a : ℕ) → test_bit kept a ≡ true → member sets v a ≡ true
    pub part : (a : ℕ) → test_bit left a ≡ true → test_bit kept a ≡ true
    pub same : (a : ℕ) → deciding_of kept left a ≡ deciding d sets v a

  pub sieving_start : Sieving (get_or sets v 0) (get_or sets v 0)
  sieving_start = record { inside = λ a h. h; part = λ a h. h; same = none_left_out }

  module _
      (kept left next less rest x : ℕ) (b : x < 64) (stood : test_bit left x ≡ true)
      (less_is : (j : ℕ) → test_bit less j ≡ (test_bit left j && not (eqb j x)))
      (rest_is : (j : ℕ) → test_bit rest j ≡ (test_bit less j && test_bit next j))
      (next-if : 1 ≤ entry d v x → Full d v kept → Full d x (get_or sets x 0) → (a : ℕ) → test_bit next a ≡ (test_bit kept a && not (covering d sets v a x)))
      (T : Orderly d sets v) (S : Sieving kept left) where
    among : member sets v x ≡ true
    among = S.inside x (S.part x stood)

    next_is : (a : ℕ) → test_bit next a ≡ (test_bit kept a && not (covering d sets v a x))
    next_is = next-if (T.full x among) (λ a h. T.full a (S.inside a h)) (T.behind x among)

    was_kept : (a : ℕ) → test_bit next a ≡ true → test_bit kept a ≡ true
    was_kept a h = (and_split (test_bit kept a) (not (covering d sets v a x)) (sym (next_is a) ∙ h)).0

    -- A member that x leaves out: what it leaves out, x does.
    left_still : (a c : ℕ) → test_bit next a ≡ true → test_bit less c ≡ true → covering d sets v a c ≡ true → test_bit next c ≡ true
    left_still a c kept-a l h = by (test_bit next c) refl
      where
        stays : test_bit kept c ≡ true
        stays = S.part c (left_of left less x c (less_is c) l)

        out : (t u : Bool) → (t && not u) ≡ false → t ≡ true → u ≡ true
        out t true q r = refl
        out t false q r = absurd (both_ways (ap (λ (y : Bool). y && true) r) q)

        by : (t : Bool) → test_bit next c ≡ t → test_bit next c ≡ true
        by true q = q
        by false q =
            let gone = out (test_bit kept c) (covering d sets v c x) (sym (next_is c) ∙ q) stays in
            let far = T.transitive a c x (S.inside a (was_kept a kept-a)) (S.inside c stays) among h gone in
            absurd (both_ways (and_split (test_bit kept a) (not (covering d sets v a x)) (sym (next_is a) ∙ kept-a)).1 (ap not far))

    same_rest : (a : ℕ) → deciding_of next rest a ≡ deciding_of next less a
    same_rest a = by (test_bit next a) refl
      where
        found : test_bit next a ≡ true → any_below (λ c. test_bit rest c && covering d sets v a c) 64 ≡ any_below (λ c. test_bit less c && covering d sets v a c) 64
        found q =
            same_test (any_below (λ c. test_bit rest c && covering d sets v a c) 64) (any_below (λ c. test_bit less c && covering d sets v a c) 64)
            (λ t. let w = any_below_has (λ c. test_bit rest c && covering d sets v a c) 64 t in
            let r = and_split (test_bit rest w.0) (covering d sets v a w.0) w.2 in
            any_below_by (λ c. test_bit less c && covering d sets v a c) 64 w.1 (and_join (given_of less next rest w.0 (rest_is w.0) r.0).0 r.1))
            (λ t. let w = any_below_has (λ c. test_bit less c && covering d sets v a c) 64 t in
            let r = and_split (test_bit less w.0) (covering d sets v a w.0) w.2 in
            any_below_by (λ c. test_bit rest c && covering d sets v a c) 64 w.1 (and_join (rest_is w.0 ∙ and_join r.0 (left_still a w.0 q r.0 r.1)) r.1))

        by : (t : Bool) → test_bit next a ≡ t → deciding_of next rest a ≡ deciding_of next less a
        by true q = ap (λ (t : Bool). test_bit next a && not t) (found q)
        by false q = rw q

    pub sieving_turn : Sieving next rest
    sieving_turn =
        record { inside = λ a h. S.inside a (was_kept a h); part = λ a h. (given_of less next rest a (rest_is a) h).1; same = λ a. same_rest a ∙ one_left_out kept left next less x b stood next_is less_is a ∙ S.same a }

  -- Nobody but step 0 is in its anchor set, so it leaves nobody out.
  module _ (T : Orderly d sets v) where
    source_leaves : (a : ℕ) → covering d sets v a 0 ≡ false
    unfolding covering
    source_leaves a = by (bool_cases (covering d sets v a 0))
      where
        by : (covering d sets v a 0 ≡ true) ⊎ (covering d sets v a 0 ≡ false) → covering d sets v a 0 ≡ false
        by (inl t) =
            let x = and_split (not (eqb 0 a)) (member sets 0 a) (and_split (not (eqb 0 a) && member sets 0 a) (reaching d v a 0) t).0 in
            absurd (both_ways x.0 (ap not (eq-eqb 0 a (sym (T.source a x.1)))))
        by (inr t) = t

    -- No member is left, or step 0 alone.
    pub all_left_out : (kept left a : ℕ) → left ≤ 1 → deciding_of kept left a ≡ test_bit kept a
    all_left_out kept left a h =
        ap (λ (t : Bool). test_bit kept a && not t) (none_any_below (λ b. test_bit left b && covering d sets v a b) 64 (λ b _. by b)) ∙ and-true (test_bit kept a)
      where
        by : (b : ℕ) → (test_bit left b && covering d sets v a b) ≡ false
        by zero = ap (λ (t : Bool). test_bit left 0 && t) (source_leaves a) ∙ and-false (test_bit left 0)
        by (suc b) = ap (λ (t : Bool). t && covering d sets v a (suc b)) (test_above left 1 (suc b) (omega arith) (omega arith))

-- ---- on the tables of an edge list

module _ {n : ℕ} {es : List Edge} {d : List (List ℕ)} {sets : List ℕ} (h : Holds n es d sets) where
  pub member_anchor : (a v : ℕ) → a < n → v < n → member sets v a ≡ in_anchor_set n es a v
  member_anchor a v p q = h.members a v q ∙ ap (λ (t : Bool). t && in_anchor_set n es a v) (lt-ltb a n p)

  pub member_below : (a v : ℕ) → v < n → member sets v a ≡ true → a < n
  member_below a v q t = ltb-true a n (and_split _ (in_anchor_set n es a v) (sym (h.members a v q) ∙ t)).0

  pub weight_offset : (a v : ℕ) → a < n → v < n → member sets v a ≡ true → weight d v a ≡ offset n no_leasts es a v
  unfolding offset
  weight_offset a v p q m = ap (λ (x : ℕ). x - 1) (h.cells a v p q m)

  -- The least of a is taken away, where the array has it.
  pub offset_read : (least : ℕ → ℕ) (leasts : List ℕ) (a v : ℕ) → a < n → v < n → leasts_in leasts a ≡ least a → member sets v a ≡ true → offset_in d leasts v a ≡ offset n least es a v
  unfolding offset
  offset_read least leasts a v p q e m = omega (arith, h.cells a v p q m, e)

  -- The same tests in another order: where the members are, the walks are. Walks are counted from the start of their anchor, as where no step has a least.
  pub overriding_same : (a v b : ℕ) → a < n → v < n → b < n → member sets v a ≡ true → (member sets v b && covering d sets v a b) ≡ overrides n no_leasts es a v b
  unfolding reaching covering overrides
  overriding_same a v b p q r m = same_test (member sets v b && covering d sets v a b) (overrides n no_leasts es a v b) forth back
    where
      same : member sets v b ≡ true → member sets b a ≡ true → reaching d v a b ≡ leb (offset n no_leasts es a v) (offset n no_leasts es a b + 0 + offset n no_leasts es b v)
      same s t = ap₂ leb (weight_offset a v p q m) (omega (arith, weight_offset a b p r t, weight_offset b v r q s))

      forth : (member sets v b && covering d sets v a b) ≡ true → overrides n no_leasts es a v b ≡ true
      forth t =
          let x = and_split (member sets v b) (covering d sets v a b) t in
          let y = and_split (not (eqb b a) && member sets b a) (reaching d v a b) x.1 in
          let z = and_split (not (eqb b a)) (member sets b a) y.0 in
          and_join (and_join (and_join z.0 (sym (member_anchor b v r q) ∙ x.0)) (sym (member_anchor a b p r) ∙ z.1)) (sym (same x.0 z.1) ∙ y.1)

      back : overrides n no_leasts es a v b ≡ true → (member sets v b && covering d sets v a b) ≡ true
      back t =
          let x = and_split (not (eqb b a) && in_anchor_set n es b v && in_anchor_set n es a b) (leb (offset n no_leasts es a v) (offset n no_leasts es a b + 0 + offset n no_leasts es b v)) t in
          let y = and_split (not (eqb b a) && in_anchor_set n es b v) (in_anchor_set n es a b) x.0 in
          let z = and_split (not (eqb b a)) (in_anchor_set n es b v) y.0 in
          let s = member_anchor b v r q ∙ z.1 in
          let u = member_anchor a b p r ∙ y.1 in
          and_join s (and_join (and_join z.0 u) (same s u ∙ x.1))

  -- From n on there are no members.
  overridden_same : (a v : ℕ) → n ≤ 64 → a < n → v < n → member sets v a ≡ true → any_below (λ b. member sets v b && covering d sets v a b) 64 ≡ any_below (overrides n no_leasts es a v) n
  overridden_same a v few p q m =
      same_test (any_below by_member 64) (any_below (overrides n no_leasts es a v) n)
      (λ t. let w = any_below_has by_member 64 t in
      let b = member_below w.0 v q (and_split (member sets v w.0) (covering d sets v a w.0) w.2).0 in
      any_below_by (overrides n no_leasts es a v) n b (sym (overriding_same a v w.0 p q b m) ∙ w.2))
      (λ t. let w = any_below_has (overrides n no_leasts es a v) n t in any_below_by by_member 64 (omega (arith, w.1)) (overriding_same a v w.0 p q w.1 m ∙ w.2))
    where
      by_member : ℕ → Bool
      by_member b = member sets v b && covering d sets v a b

  pub deciding_same : (a v : ℕ) → n ≤ 64 → a < n → v < n → deciding d sets v a ≡ decides n no_leasts es a v
  unfolding deciding decides
  deciding_same a v few p q = go (bool_cases (member sets v a))
    where
      -- What is no member does not decide.
      go : (member sets v a ≡ true) ⊎ (member sets v a ≡ false) → (member sets v a && not (any_below (λ b. member sets v b && covering d sets v a b) 64)) ≡ (in_anchor_set n es a v && not (any_below (overrides n no_leasts es a v) n))
      go (inl m) = ap₂ (λ (s t : Bool). s && not t) (member_anchor a v p q) (overridden_same a v few p q m)
      go (inr m) =
          ap (λ (s : Bool). s && not (any_below (λ b. member sets v b && covering d sets v a b) 64)) m
          ∙ sym (ap (λ (s : Bool). s && not (any_below (overrides n no_leasts es a v) n)) (sym (member_anchor a v p q) ∙ m))

-- What decides is a member.
pub deciding_member : (d : List (List ℕ)) (sets : List ℕ) (v a : ℕ) → deciding d sets v a ≡ true → member sets v a ≡ true
unfolding deciding
deciding_member d sets v a h = (and_split (member sets v a) (not (any_below (λ b. member sets v b && covering d sets v a b) 64)) h).0
