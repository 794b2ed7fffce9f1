-- Request L5, the counts: the printed table's rule; where a step stands in a plan it decides, at its offset; the largest of these, their number and the sums.
use mathlib.Core.Path.{◌≡◌, refl, sym, ap, subst, ◌∙◌}
use mathlib.Core.Bool.{Bool, true, false, cond, not}
use mathlib.Core.Logic.{◌⊎◌, inl, inr}
use mathlib.Core.List.{List}
use Prim.Native.Nat.{ℕ, zero, suc, ◌+◌, ◌^◌, ◌≤◌, ◌<◌}
use native.Mathlib.Omega.{arith}
use lib.Dec.{eqb, leb}
use lib.ListN.{length, get_or}
use borrow.Author.Tests.{eq-eqb, ne_eqb, leb-true, leb-false}
use Rattle.definitions.specs.Limits.{register_entries}
use Rattle.definitions.specs.Basics.{any_below, largest, select_below, tabulate}
use Rattle.definitions.specs.Bytes.{Records}
use Rattle.definitions.specs.Links.{is_open}
use Rattle.definitions.specs.Plan.{plan_entry, undecided}
use Rattle.definitions.specs.Answers.{count_of, leasts_of, serialized_of}
use Rattle.definitions.specs.Price.{comparisons_of, entry_at, largest_offset, open_at, plan_of, power_from, price_of, price_records, printed_entry, printed_table, registers_of, stands_at}
use Rattle.laws.proofs.Bools.{cond_false, cond_true}
use Rattle.laws.proofs.Counts.{select_length, sum_below_same}
use Rattle.laws.proofs.Tests.{any_below_has, any_below_none, largest_above, largest_attained, last_or_below, tabulate_at, tabulate_length}
use Rattle.theory.proofs.PlanTables.{plan_table_at}
use Rattle.demands.specs.Demands.{Accepted, sheet_decides, sheet_offset}
use Rattle.demands.specs.Pricing.{LargestOffset, PriceFor, PrintedRule, SmallestPower}
use Rattle.demands.proofs.Formed.{accepted_fits}
use Rattle.demands.proofs.Planning.{plan_for}

-- ## The printed table

-- The search from b on finds the smallest, where none below b is enough and the last try is. Induction on the tries.
smallest_from : (tries b n : ℕ) → ((c : ℕ) → c < b → 2 ^ c < n) → n ≤ 2 ^ (b + tries) → SmallestPower n (power_from tries b n)
unfolding power_from
smallest_from zero b n below last =
    let e : b + 0 ≡ b = omega arith in
    record { enough = subst (λ (k : ℕ). n ≤ 2 ^ k) e last; smallest = below }
smallest_from (suc tries) b n below last = go (leb n (2 ^ b)) refl (smallest_from tries (suc b) n)
  where
    more : leb n (2 ^ b) ≡ false → (c : ℕ) → c < suc b → 2 ^ c < n
    more h c i = pick (last_or_below b c i)
      where
        pick : (c ≡ b) ⊎ (c < b) → 2 ^ c < n
        pick (inl e) = subst (λ (k : ℕ). 2 ^ k < n) (sym e) (leb-false n (2 ^ b) h)
        pick (inr l) = below c l

    go : (t : Bool) → leb n (2 ^ b) ≡ t → (((c : ℕ) → c < suc b → 2 ^ c < n) → n ≤ 2 ^ (suc b + tries) → SmallestPower n (power_from tries (suc b) n)) → SmallestPower n (cond t b (power_from tries (suc b) n))
    go true h rest = record { enough = leb-true n (2 ^ b) h; smallest = below }
    go false h rest =
        let e : b + suc tries ≡ suc b + tries = omega arith in
        rest (more h) (subst (λ (k : ℕ). n ≤ 2 ^ k) e last)

printed_at : (n : ℕ) → n < register_entries → get_or printed_table n 0 ≡ printed_entry n
unfolding printed_table
printed_at n b = tabulate_at printed_entry register_entries n 0 b

pub printed_for : PrintedRule
unfolding printed_table printed_entry
printed_for = record {
  size = tabulate_length printed_entry register_entries;
  rule = λ n b. subst (SmallestPower n) (sym (printed_at n b)) (smallest_from 10 0 n (λ c i. absurd (omega arith)) (omega arith));
  at_0 = printed_at 0 (omega arith) ∙ first;
}
  where
    first : power_from 10 0 0 ≡ 0
    first = unfold power_from in refl

-- ## The plan's own entries

module _ {s : List ℕ} {allow : Bool} {q : Records} {verdict : ℕ} (accepted : Accepted s allow q verdict) where
  abbrev n : ℕ
  n = count_of q

  entry_is : (a v : ℕ) → a < n → v < n → entry_at n (plan_of q) a v ≡ cond (sheet_decides q a v) (sheet_offset q a v) undecided
  unfolding entry_at plan_of plan_entry
  entry_is a v i j = plan_table_at n (leasts_of q) (serialized_of q) v a undecided j i

  -- An entry is an offset exactly if a decides v: offsets are far below what stands for none.
  stands : (a v : ℕ) → a < n → v < n → stands_at n (plan_of q) a v ≡ sheet_decides q a v
  unfolding stands_at
  stands a v i j = go (sheet_decides q a v) refl
    where
      go : (t : Bool) → sheet_decides q a v ≡ t → not (eqb (entry_at n (plan_of q) a v) undecided) ≡ sheet_decides q a v
      go true h =
          let e = entry_is a v i j ∙ cond_true (sheet_offset q a v) undecided h in
          ap not (ne_eqb (entry_at n (plan_of q) a v) undecided (λ z. omega (arith, (plan_for accepted).apart v a j h, sym e ∙ z))) ∙ sym h
      go false h =
          let e = entry_is a v i j ∙ cond_false (sheet_offset q a v) undecided h in
          ap not (eq-eqb (entry_at n (plan_of q) a v) undecided e) ∙ sym h

  stood : (a v : ℕ) → a < n → v < n → sheet_decides q a v ≡ true → entry_at n (plan_of q) a v ≡ sheet_offset q a v
  stood a v i j h = entry_is a v i j ∙ cond_true (sheet_offset q a v) undecided h

  -- The largest entry is the largest offset. Where it is 0 some step that a decides has it, or a decides none.
  pub largest_for : (a : ℕ) → a < n → LargestOffset q a (largest_offset n (plan_of q) a)
  unfolding largest_offset
  largest_for a i = record { bound = bound; attained = attained (largest_attained (stands_at n (plan_of q) a) (entry_at n (plan_of q) a) n) }
    where
      top : ℕ
      top = largest (stands_at n (plan_of q) a) (entry_at n (plan_of q) a) n

      bound : (v : ℕ) → v < n → sheet_decides q a v ≡ true → sheet_offset q a v ≤ top
      bound v j h = omega (arith, stood a v i j h, largest_above (stands_at n (plan_of q) a) (entry_at n (plan_of q) a) n v j (stands a v i j ∙ h))

      none : top ≡ 0 → (t : Bool) → any_below (sheet_decides q a) n ≡ t → ((v : ℕ) × (v < n) × (sheet_decides q a v ≡ true) × (sheet_offset q a v ≡ top)) ⊎ (((v : ℕ) → v < n → sheet_decides q a v ≡ false) × (top ≡ 0))
      none z true h =
          let r = any_below_has (sheet_decides q a) n h in
          inl (r.0, r.1, r.2, omega (arith, z, bound r.0 r.1 r.2))
      none z false h = inr (any_below_none (sheet_decides q a) n h, z)

      attained : (top ≡ 0) ⊎ ((v : ℕ) × (v < n) × (stands_at n (plan_of q) a v ≡ true) × (top ≡ entry_at n (plan_of q) a v)) → ((v : ℕ) × (v < n) × (sheet_decides q a v ≡ true) × (sheet_offset q a v ≡ top)) ⊎ (((v : ℕ) → v < n → sheet_decides q a v ≡ false) × (top ≡ 0))
      attained (inl z) = none z (any_below (sheet_decides q a) n) refl
      attained (inr r) =
          let h = sym (stands a r.0 i r.1) ∙ r.2 in
          inl (r.0, r.1, h, sym (stood a r.0 i r.1 h) ∙ sym r.3)

  comparisons_for : (v : ℕ) → v < n → comparisons_of n (plan_of q) v ≡ length (select_below (λ a. sheet_decides q a v) n)
  unfolding comparisons_of
  comparisons_for v j =
      sum_below_same (λ a. cond (stands_at n (plan_of q) a v) 1 0) (λ a. cond (sheet_decides q a v) 1 0) n (λ a i. ap (λ (t : Bool). cond t 1 0) (stands a v i j))
      ∙ sym (select_length (λ a. sheet_decides q a v) n)

  -- The lists are tables of the counts, and the totals are the sums over them.
  pub price_for : (entries : List ℕ) → PriceFor entries q (price_records entries q)
  unfolding price_records price_of registers_of is_open
  price_for entries = record {
    start_open = ap is_open (accepted_fits accepted).source;
    register_counts = tabulate_length registers n;
    comparison_counts = tabulate_length (comparisons_of n (plan_of q)) n;
    open_step = λ a i h. (largest_offset n (plan_of q) a, largest_for a i, tabulate_at registers n a 0 i ∙ cond_true (get_or entries (largest_offset n (plan_of q) a) 0) 0 h);
    fixed_step = λ a i h. tabulate_at registers n a 0 i ∙ cond_false (get_or entries (largest_offset n (plan_of q) a) 0) 0 h;
    members = λ v j. tabulate_at (comparisons_of n (plan_of q)) n v 0 j ∙ comparisons_for v j;
    register_sum = sum_below_same registers (λ a. get_or (tabulate registers n) a 0) n (λ a i. sym (tabulate_at registers n a 0 i));
    comparison_sum = sum_below_same (comparisons_of n (plan_of q)) (λ v. get_or (tabulate (comparisons_of n (plan_of q)) n) v 0) n (λ v j. sym (tabulate_at (comparisons_of n (plan_of q)) n v 0 j));
  }
    where
      registers : ℕ → ℕ
      registers = registers_of (open_at q) entries n (plan_of q)
