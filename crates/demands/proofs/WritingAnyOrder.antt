-- Request L4: the answer is the same for the same records in another order.
use mathlib.Core.Path.{◌≡◌, refl, sym, ap, ap₂, ◌∙◌}
use mathlib.Core.Bool.{Bool, true, false, not, ◌||◌}
use mathlib.Core.Logic.{◌⊎◌, inl, inr}
use mathlib.Core.List.Permᴰ
use mathlib.Core.List.{List, ◌∷◌, ◌++◌, Permᴰ}
use Prim.Native.Nat.{ℕ}
use lib.ListN.{length, take, drop}
use Rattle.definitions.specs.Basics.{any, Outcome, given, refused, refuse_if}
use Rattle.definitions.specs.Bytes.{Records, link_map, sequenced, endpoints}
use Rattle.definitions.specs.Answers.{written}
use Rattle.definitions.specs.Writer.{link_map_of, rising, sheet_bytes, bad_maps, unsequenced, bad_ends, same_pair, comes_twice, parts, parts_short, write_verdict, write_answer}
use Rattle.definitions.specs.declared.Operation.{Operation}
use Rattle.definitions.specs.declared.Link.{Link}
use Rattle.laws.proofs.Bools.{bool_cases, eqb_turned, same_test}
use Rattle.laws.proofs.Lists.{perm_mem, perm_length}
use Rattle.laws.proofs.Negations.{fails_unless}
use Rattle.laws.proofs.Tests.{any_has, any_by}
use Rattle.demands.proofs.WritingOrder.{rising_mem, mem_rising, rising_up, rising_same, twice_iff}
use Rattle.demands.proofs.WritingRefusals.{write_for}

-- ---- a test of some member, and of a pair that comes twice

any_across : {A : Type 0} (f : A → Bool) {l m : List A} → Permᴰ l m → any f l ≡ true → any f m ≡ true
any_across f {l} {m} p h = let r = any_has f l h in any_by f m (perm_mem p r.1) r.2

any_perm : {A : Type 0} (f : A → Bool) {l m : List A} → Permᴰ l m → any f l ≡ any f m
any_perm f {l} {m} p = same_test (any f l) (any f m) (any_across f p) (any_across f (Permᴰ.symm p))

pair_turned : (l m : Link) → same_pair l m ≡ same_pair m l
unfolding same_pair
pair_turned l m = rw (eqb_turned l.from m.from, eqb_turned l.to m.to)

exchanged : (s a b t : Bool) → ((s || a) || (b || t)) ≡ ((s || b) || (a || t))
exchanged true a b t = refl
exchanged false true true t = refl
exchanged false true false t = refl
exchanged false false b t = refl

-- Two neighbours that change places are compared with each other and with the same others. Induction on how the order is changed.
twice_perm : {ls ms : List Link} → Permᴰ ls ms → comes_twice ls ≡ comes_twice ms
unfolding comes_twice any
twice_perm Permᴰ.nil = refl
twice_perm (Permᴰ.cons {b = b} e p) = rw (e, any_perm (same_pair b) p, twice_perm p)
twice_perm (Permᴰ.swap {a = k} {b = n} {a' = l} {b' = m} {l = ls} e f) =
    ap (λ (x : Link). comes_twice (x ∷ n ∷ ls)) e ∙
    ap (λ (x : Link). comes_twice (m ∷ x ∷ ls)) f ∙
    rw (pair_turned m l) (exchanged (same_pair l m) (any (same_pair m) ls) (any (same_pair l) ls) (comes_twice ls))
twice_perm (Permᴰ.trans p o) = twice_perm p ∙ twice_perm o

-- ---- the records as they are written

-- Where no pair comes twice both rise and have the same members, so they are one list.
rising_perm_same : {ls ms : List Link} → Permᴰ ls ms → comes_twice ls ≡ false → rising ls ≡ rising ms
rising_perm_same {ls} {ms} p once =
    rising_same (rising ls) (rising ms) (rising_up ls once) (rising_up ms (sym (twice_perm p) ∙ once)) (λ x. ((λ i. mem_rising ms (perm_mem p (rising_mem ls i))), λ i. mem_rising ls (perm_mem (Permᴰ.symm p) (rising_mem ms i))))

sheet_perm : (os : List Operation) {ls ms : List Link} → Permᴰ ls ms → comes_twice ls ≡ false → sheet_bytes (record { steps = os; pairs = ls }) ≡ sheet_bytes (record { steps = os; pairs = ms })
unfolding sheet_bytes
sheet_perm os p once = rw (perm_length p, rising_perm_same p once)

-- ---- the answer

-- Bytes count only where they are written.
written_same : (v : Outcome ℕ) (new new' lent : List ℕ) → ((k : ℕ) → v ≡ given k → new ≡ new') → written v new lent ≡ written v new' lent
unfolding written
written_same (given k) new new' lent h = ap (λ (w : List ℕ). w ++ drop (length w) lent) (h k refl)
written_same (refused k) new new' lent h = refl

module _ (n r : ℕ) (steps : List Operation) (links links' : List Link) (buffer : List ℕ) (p : Permᴰ (take r links) (take r links')) where
  abbrev q : Records
  q = parts n r steps links

  abbrev q' : Records
  q' = parts n r steps links'

  -- Each test of the records looks for one of them.
  maps_same : bad_maps q.steps q.pairs ≡ bad_maps q'.steps q'.pairs
  unfolding bad_maps
  maps_same = rw (any_perm (λ l. not (link_map (link_map_of l))) p)

  limits_same : unsequenced q.pairs ≡ unsequenced q'.pairs
  unfolding unsequenced
  limits_same = any_perm (λ l. not (sequenced (link_map_of l))) p

  ends_same : bad_ends n q.pairs ≡ bad_ends n q'.pairs
  unfolding bad_ends
  ends_same = any_perm (λ l. not (endpoints n l.from l.to)) p

  short_same : parts_short n r q ≡ parts_short n r q'
  unfolding parts_short
  short_same = rw (perm_length p)

  -- Where a pair comes twice no test behind that for 6 is asked; where none does the sheet is the same.
  verdict_same : write_verdict n r q buffer ≡ write_verdict n r q' buffer
  unfolding write_verdict refuse_if
  verdict_same = go (bool_cases (comes_twice q.pairs))
    where
      go : (comes_twice q.pairs ≡ true) ⊎ (comes_twice q.pairs ≡ false) → write_verdict n r q buffer ≡ write_verdict n r q' buffer
      go (inl t) = rw (maps_same, limits_same, ends_same, t, sym (twice_perm p) ∙ t)
      go (inr f) = rw (maps_same, limits_same, ends_same, twice_perm p, short_same, sheet_perm q.steps p f)

  -- What is written has no pair twice.
  bytes_same : (k : ℕ) → write_verdict n r q buffer ≡ given k → sheet_bytes q ≡ sheet_bytes q'
  unfolding write_answer
  bytes_same k h = sheet_perm q.steps p ((fails_unless (comes_twice q.pairs) (twice_iff q.pairs)).1 (((write_for n r steps links buffer).accepted k).0 h).0.once)

  -- The theorem of this file: the verdicts are the same by the tests, and so are the bytes that are written.
  pub any_order_for : write_answer n r steps links buffer ≡ write_answer n r steps links' buffer
  unfolding write_answer
  any_order_for =
      let numbers = written_same (write_verdict n r q buffer) (sheet_bytes q) (sheet_bytes q') buffer bytes_same in
      ap₂ (λ (v : Outcome ℕ) (w : List ℕ). record { verdict = v; numbers = w }) verdict_same (numbers ∙ ap (λ (v : Outcome ℕ). written v (sheet_bytes q') buffer) verdict_same)
