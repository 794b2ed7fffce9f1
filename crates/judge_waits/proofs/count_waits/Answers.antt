use mathlib.Core.Path.{◌≡◌, sym, ap, ◌∙◌}
use mathlib.Core.List.{List}
use Prim.Native.Nat.{ℕ, ◌*◌, ◌≤◌}
use lib.ListN.{length, get_or}
use native.Mathlib.Omega.{arith}
use Rattle.definitions.specs.Basics.{select_below, sum_below, test_bit}
use Rattle.laws.proofs.Counts.{flatMap_length, sum_below_none, sum_below_more, sum_below_bound, select_length_bound}
use Rattle.judge_waits.proofs.Waiting.{count_by}
use Rattle.judge_waits.proofs.count_waits.Goals as goal

-- The number of members of map k.
abbrev members_of : List ℕ → ℕ → ℕ
members_of maps k = length (select_below (test_bit (get_or maps k 0)) 64)

sum_small : (maps : List ℕ) (i : ℕ) → sum_below (members_of maps) i ≤ 64 * i
sum_small maps i = sum_below_bound (members_of maps) 64 i (λ k. select_length_bound (test_bit (get_or maps k 0)) 64)

pub loop-i-init : goal.loop-i-init
loop-i-init c = sym (sum_below_none (members_of c.args.maps.now))

pub overflow_add-total : goal.overflow_add-total
overflow_add-total c =
    let maps = c.args.maps.now in
    omega (arith, c.loop-i.invariant, sum_small maps c.loop-i.i, c.count-total.ensures, select_length_bound (test_bit (get_or maps c.loop-i.i 0)) 64)

pub loop-i-preserved : goal.loop-i-preserved
loop-i-preserved c =
    omega (arith, c.loop-i.invariant, c.count-total.ensures, sum_below_more (members_of c.args.maps.now) c.loop-i.i)

pub returns : goal.returns
returns c =
    let n = c.args.n in
    let maps = c.args.maps.now in
    let ended : c.loop-i.i ≡ n = omega arith in
    let total = c.loop-i.invariant ∙ ap (sum_below (members_of maps)) ended in
    record {
      members = total ∙ sym (flatMap_length (λ i. select_below (test_bit (get_or maps i 0)) 64) n);
      waits = λ g h. total ∙ count_by n g maps c.requires h;
    }
