-- Request L4: the records as they are written. Each is put in before the first one that it is below, so the list stays what it was, but in rising order.
use mathlib.Core.Path.{◌≡◌, refl, sym, ap, ap₂, ◌∙◌}
use mathlib.Core.Bool.{Bool, true, false, cond, ◌&&◌, ◌||◌}
use mathlib.Core.Logic.{◌⊎◌, inl, inr, ◌≢◌, ◌↔◌}
use mathlib.Core.List.Memᴰ
use mathlib.Core.List.Permᴰ
use mathlib.Core.List.{List, [], ◌∷◌, Memᴰ, Permᴰ}
use Prim.Native.Nat.{ℕ, zero, suc, ◌<◌}
use native.Mathlib.Omega.{arith}
use native.Mathlib.Decide.{dec_lt}
use lib.Dec.{eqb, ltb}
use lib.ListN.{length, get_or}
use borrow.Author.Tests.{ltb-true, lt-ltb, eqb-true, eq-eqb}
use Rattle.definitions.specs.Basics.{any}
use Rattle.definitions.specs.Bytes.{rises, pair_of}
use Rattle.definitions.specs.Clashes.{blank_link}
use Rattle.definitions.specs.Writer.{put_in, rising, same_pair, comes_twice}
use Rattle.definitions.specs.declared.Link.{Link}
use Rattle.laws.proofs.Bools.{same_or_not, both_ways, and_split, and_join, or_split, or_left, or_right, or_neither, neither, not_passing, cond_true}
use Rattle.laws.proofs.Lists.{mem_at, mem_place, perm_mem, perm_length}
use Rattle.laws.proofs.Negations.{fails_unless}
use Rattle.laws.proofs.Tests.{any_has, any_by, any_none, none_any}
use Rattle.demands.specs.Demands.{Rising}
use Rattle.demands.specs.Writing.{PairBefore, PairTwice, RisingFor}

-- ---- the test of the order says that a pair stands before another

pub before_iff : (l m : Link) → (rises (pair_of l) m.from m.to ≡ true) ↔ PairBefore l m
unfolding rises pair_of
before_iff l m = (λ h. there (or_split (ltb l.from m.from) (eqb l.from m.from && ltb l.to m.to) h), back)
  where
    there : (ltb l.from m.from ≡ true) ⊎ ((eqb l.from m.from && ltb l.to m.to) ≡ true) → PairBefore l m
    there (inl h) = inl (ltb-true l.from m.from h)
    there (inr h) =
        let r = and_split (eqb l.from m.from) (ltb l.to m.to) h in
        inr (eqb-true l.from m.from r.0, ltb-true l.to m.to r.1)

    back : PairBefore l m → (ltb l.from m.from || eqb l.from m.from && ltb l.to m.to) ≡ true
    back (inl h) = or_left (eqb l.from m.from && ltb l.to m.to) (lt-ltb l.from m.from h)
    back (inr h) = or_right (ltb l.from m.from) (and_join (eq-eqb l.from m.from h.0) (lt-ltb l.to m.to h.1))

same_iff : (l m : Link) → (same_pair l m ≡ true) ↔ ((l.from ≡ m.from) × (l.to ≡ m.to))
unfolding same_pair
same_iff l m = (
  λ h. let r = and_split (eqb l.from m.from) (eqb l.to m.to) h in (eqb-true l.from m.from r.0, eqb-true l.to m.to r.1),
  λ r. and_join (eq-eqb l.from m.from r.0) (eq-eqb l.to m.to r.1),
)

-- Pairs are ordered: what stands before what stands before; nothing before itself; and of two that differ one before the other.
pub before_trans : (l m o : Link) → PairBefore l m → PairBefore m o → PairBefore l o
before_trans l m o (inl h) (inl k) = inl (omega arith)
before_trans l m o (inl h) (inr k) = inl (omega (arith, k.0))
before_trans l m o (inr h) (inl k) = inl (omega (arith, h.0))
before_trans l m o (inr h) (inr k) = inr (omega (arith, h.0, k.0), omega (arith, h.1, k.1))

before_apart : (l m : Link) → PairBefore l m → same_pair l m ≡ false
before_apart l m h = not_passing (same_pair l m) (λ t. let r = (same_iff l m).0 t in go h r)
  where
    go : PairBefore l m → (l.from ≡ m.from) × (l.to ≡ m.to) → ⊥
    go (inl b) r = omega (arith, r.0)
    go (inr b) r = omega (arith, b.1, r.1)

otherwise_before : (l m : Link) → rises (pair_of l) m.from m.to ≡ false → same_pair l m ≡ false → PairBefore m l
otherwise_before l m h s = go (dec_lt m.from l.from) (same_or_not m.from l.from) (dec_lt m.to l.to) (same_or_not m.to l.to)
  where
    not_before : ¬ PairBefore l m
    not_before = (fails_unless (rises (pair_of l) m.from m.to) (before_iff l m)).0 h

    not_same : ¬ ((l.from ≡ m.from) × (l.to ≡ m.to))
    not_same = (fails_unless (same_pair l m) (same_iff l m)).0 s

    go : Dec (m.from < l.from) → (m.from ≡ l.from) ⊎ (m.from ≢ l.from) → Dec (m.to < l.to) → (m.to ≡ l.to) ⊎ (m.to ≢ l.to) → PairBefore m l
    go (yes f) e t d = inl f
    go (no f) (inr e) t d = absurd (not_before (inl (omega arith)))
    go (no f) (inl e) (yes t) d = inr (e, t)
    go (no f) (inl e) (no t) (inl d) = absurd (not_same (sym e, sym d))
    go (no f) (inl e) (no t) (inr d) = absurd (not_before (inr (sym e, omega arith)))

-- ---- a record put in

-- It stands among the others, rearranged with them: it is passed over those before it. Induction on the list.
put_in_perm : (l : Link) (ms : List Link) → Permᴰ (put_in l ms) (l ∷ ms)
unfolding put_in
put_in_perm l [] = Permᴰ.refl (l ∷ [])
put_in_perm l (m ∷ ms) = go (rises (pair_of l) m.from m.to) (put_in_perm l ms)
  where
    go : (b : Bool) → Permᴰ (put_in l ms) (l ∷ ms) → Permᴰ (cond b (l ∷ m ∷ ms) (m ∷ put_in l ms)) (l ∷ m ∷ ms)
    go true d = Permᴰ.refl (l ∷ m ∷ ms)
    go false d = Permᴰ.trans (Permᴰ.cons refl d) (Permᴰ.swap refl refl)

pub rising_perm : (ls : List Link) → Permᴰ (rising ls) ls
unfolding rising
rising_perm [] = Permᴰ.nil
rising_perm (l ∷ ls) = Permᴰ.trans (put_in_perm l (rising ls)) (Permᴰ.cons refl (rising_perm ls))

pub rising_mem : (ls : List Link) {l : Link} → Memᴰ l (rising ls) → Memᴰ l ls
rising_mem ls = perm_mem (rising_perm ls)

pub mem_rising : (ls : List Link) {l : Link} → Memᴰ l ls → Memᴰ l (rising ls)
mem_rising ls = perm_mem (Permᴰ.symm (rising_perm ls))

pub rising_length : (ls : List Link) → length (rising ls) ≡ length ls
rising_length ls = perm_length (rising_perm ls)

-- A record whose pair is not there is put into a rising list: it stands before all from some place on, and after all before it.
put_in_rising : (l : Link) (ms : List Link) → Rising PairBefore ms → ((m : Link) → Memᴰ m ms → same_pair l m ≡ false) → Rising PairBefore (put_in l ms)
unfolding put_in
put_in_rising l [] up new = ((λ y i. absurd (Memᴰ.not-nil i)), tt)
put_in_rising l (m ∷ ms) up new = go (rises (pair_of l) m.from m.to) refl (put_in_rising l ms up.1 (λ o i. new o (Memᴰ.tail i)))
  where
    all_after : PairBefore l m → (y : Link) → (y ≡ m) ⊎ Memᴰ y ms → PairBefore l y
    all_after h y (inl e) = rw e h
    all_after h y (inr i) = before_trans l m y h (up.0 y i)

    all_before : PairBefore m l → (y : Link) → (y ≡ l) ⊎ Memᴰ y ms → PairBefore m y
    all_before h y (inl e) = rw e h
    all_before h y (inr i) = up.0 y i

    go : (b : Bool) → rises (pair_of l) m.from m.to ≡ b → Rising PairBefore (put_in l ms) → Rising PairBefore (cond b (l ∷ m ∷ ms) (m ∷ put_in l ms))
    go true e below = ((λ y i. all_after ((before_iff l m).0 e) y (Memᴰ.cases_cons i)), up)
    go false e below = ((λ y i. all_before (otherwise_before l m e (new m (Memᴰ.head refl))) y (Memᴰ.cases_cons (perm_mem (put_in_perm l ms) i))), below)

pub rising_up : (ls : List Link) → comes_twice ls ≡ false → Rising PairBefore (rising ls)
unfolding rising comes_twice
rising_up [] h = tt
rising_up (l ∷ ls) h =
    let r = (or_neither (any (same_pair l) ls) (comes_twice ls)).0 h in
    put_in_rising l (rising ls) (rising_up ls r.1) (λ m i. any_none (same_pair l) ls r.0 m (rising_mem ls i))

-- What rises stays as it is, and has no pair twice.
put_in_front : (l : Link) (ms : List Link) → Rising PairBefore (l ∷ ms) → put_in l ms ≡ l ∷ ms
unfolding put_in
put_in_front l [] up = refl
put_in_front l (m ∷ ms) up = cond_true (l ∷ m ∷ ms) (m ∷ put_in l ms) ((before_iff l m).1 (up.0 m (Memᴰ.head refl)))

pub rising_stays : (ls : List Link) → Rising PairBefore ls → rising ls ≡ ls
unfolding rising
rising_stays [] up = refl
rising_stays (l ∷ ls) up = ap (put_in l) (rising_stays ls up.1) ∙ put_in_front l ls up

pub rising_once : (ls : List Link) → Rising PairBefore ls → comes_twice ls ≡ false
unfolding comes_twice
rising_once [] up = refl
rising_once (l ∷ ls) up = neither (none_any (same_pair l) ls (λ m i. before_apart l m (up.0 m i))) (rising_once ls up.1)

-- Two rising lists with the same members are one: the first of each is before all others of it. Induction on both.
before_itself : (l : Link) → ¬ PairBefore l l
before_itself l h = both_ways ((same_iff l l).1 (refl, refl)) (before_apart l l h)

firsts_same : (l m : Link) (ls ms : List Link) → Rising PairBefore (l ∷ ls) → Rising PairBefore (m ∷ ms) → (l ≡ m) ⊎ Memᴰ l ms → (m ≡ l) ⊎ Memᴰ m ls → l ≡ m
firsts_same l m ls ms up down (inl e) j = e
firsts_same l m ls ms up down (inr i) (inl e) = sym e
firsts_same l m ls ms up down (inr i) (inr j) = absurd (before_itself l (before_trans l m l (up.0 m j) (down.0 l i)))

-- What comes after the first of a rising list is not the first.
among_rest : (l x : Link) (ls ms : List Link) → Rising PairBefore (l ∷ ls) → Memᴰ x ls → (x ≡ l) ⊎ Memᴰ x ms → Memᴰ x ms
among_rest l x ls ms up i (inl e) = absurd (before_itself l (rw e at (up.0 x i)))
among_rest l x ls ms up i (inr j) = j

pub rising_same : (ls ms : List Link) → Rising PairBefore ls → Rising PairBefore ms → ((x : Link) → Memᴰ x ls ↔ Memᴰ x ms) → ls ≡ ms
rising_same [] [] up down same = refl
rising_same [] (m ∷ ms) up down same = absurd (Memᴰ.not-nil ((same m).1 (Memᴰ.head refl)))
rising_same (l ∷ ls) [] up down same = absurd (Memᴰ.not-nil ((same l).0 (Memᴰ.head refl)))
rising_same (l ∷ ls) (m ∷ ms) up down same =
    let e : l ≡ m = firsts_same l m ls ms up down (Memᴰ.cases_cons ((same l).0 (Memᴰ.head refl))) (Memᴰ.cases_cons ((same m).1 (Memᴰ.head refl))) in
    let there : (x : Link) → Memᴰ x ls → Memᴰ x ms = λ x i. among_rest l x ls ms up i (rw (← e) at (Memᴰ.cases_cons ((same x).0 (Memᴰ.tail i)))) in
    let back : (x : Link) → Memᴰ x ms → Memᴰ x ls = λ x i. among_rest m x ms ls down i (rw e at (Memᴰ.cases_cons ((same x).1 (Memᴰ.tail i)))) in
    ap₂ (λ (x : Link) (xs : List Link). x ∷ xs) e (rising_same ls ms up.1 down.1 (λ x. (there x, back x)))

-- ---- the test for a pair that comes twice finds two places

twice_found : (ls : List Link) → comes_twice ls ≡ true → PairTwice ls
unfolding comes_twice
twice_found [] h = absurd (both_ways h refl)
twice_found (l ∷ ls) h = go (or_split (any (same_pair l) ls) (comes_twice ls) h) (twice_found ls)
  where
    go : (any (same_pair l) ls ≡ true) ⊎ (comes_twice ls ≡ true) → (comes_twice ls ≡ true → PairTwice ls) → PairTwice (l ∷ ls)
    go (inl t) below =
        let r = any_has (same_pair l) ls t in
        let p = mem_place ls blank_link r.1 in
        let s = (same_iff l r.0).0 r.2 in
        record { first = 0; second = suc p.index; apart = omega arith; inside = omega (arith, p.inside); same_from = s.0 ∙ sym (ap (λ (m : Link). m.from) p.here); same_to = s.1 ∙ sym (ap (λ (m : Link). m.to) p.here) }
    go (inr t) below =
        let r = below t in
        record { first = suc r.first; second = suc r.second; apart = omega (arith, r.apart); inside = omega (arith, r.inside); same_from = r.same_from; same_to = r.same_to }

twice_test : (ls : List Link) (i j : ℕ) → i < j → j < length ls → (get_or ls i blank_link).from ≡ (get_or ls j blank_link).from → (get_or ls i blank_link).to ≡ (get_or ls j blank_link).to → comes_twice ls ≡ true
unfolding comes_twice
twice_test [] i j a b e f = absurd (omega arith)
twice_test (l ∷ ls) i zero a b e f = absurd (omega arith)
twice_test (l ∷ ls) zero (suc j) a b e f = or_left (comes_twice ls) (any_by (same_pair l) ls (mem_at ls j blank_link (omega arith)) ((same_iff l (get_or ls j blank_link)).1 (e, f)))
twice_test (l ∷ ls) (suc i) (suc j) a b e f = or_right (any (same_pair l) ls) (twice_test ls i j (omega arith) (omega arith) e f)

pub twice_iff : (ls : List Link) → (comes_twice ls ≡ true) ↔ PairTwice ls
twice_iff ls = (twice_found ls, λ t. twice_test ls t.first t.second t.apart t.inside t.same_from t.same_to)

-- ---- the theorem of this file

pub rising_for : (ls : List Link) → RisingFor ls
rising_for ls = record {
  same_records = rising_perm ls;
  same_members = λ l. (rising_mem ls, mem_rising ls);
  same_count = rising_length ls;
  in_order = λ once. rising_up ls ((fails_unless (comes_twice ls) (twice_iff ls)).1 once);
  only = λ once ms up same. rising_same ms (rising ls) up (rising_up ls ((fails_unless (comes_twice ls) (twice_iff ls)).1 once)) (λ l. ((λ i. mem_rising ls ((same l).0 i)), λ i. (same l).1 (rising_mem ls i)));
  stays = rising_stays ls;
}
