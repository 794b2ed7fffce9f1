use native.Mathlib.Omega.{arith}
use mathlib.Core.Path.{◌∙◌, ap, refl}
use Prim.Native.Nat.{ℕ, ◌+◌, ◌≤◌}
use lib.ListN.{length, length-set}
use Rattle.data_lists.proofs.Linking.{first_length}
use Rattle.data_lists.proofs.Appending.{before_few, listing_all, listing_more, listing_none, listing_room}
use Rattle.data_lists.proofs.list.Goals as goal

pub overflow_add-at : goal.overflow_add-at
overflow_add-at c = omega (arith, c.requires.few)

pub loop-k-init : goal.loop-k-init
loop-k-init c = (refl, listing_none c.requires)

pub link-requires : goal.link-requires
link-requires c = (omega (arith, c.requires.few), omega (arith, c.loop-k.invariant.1.linked.long))

pub append-at-requires : goal.append-at-requires
append-at-requires c =
    let few : c.loop-k.k ≤ length c.args.es.now = omega arith in
    let kept = ap length c.link.ensures ∙ first_length _ _ c.loop-k.k in
    (omega (arith, c.requires.few), omega (arith, listing_room few c.loop-k.invariant.1, kept))

pub loop-k-preserved : goal.loop-k-preserved
loop-k-preserved c =
    let put = c.append-at.ensures.put in
    let kept = ap length c.link.ensures ∙ first_length _ _ c.loop-k.k in (
      ap length put ∙ length-set {A = ℕ} c.link.new.lists c.loop-k.at (c.loop-k.k + 1) ∙ kept ∙ c.loop-k.invariant.0,
      listing_more _ c.loop-k.lists _ c.loop-k.k _ c.loop-k.at _ (omega arith) refl c.loop-k.invariant.1 (rw c.link.ensures at c.append-at.ensures),
    )

pub offset_bounds-lists-at : goal.offset_bounds-lists-at
offset_bounds-lists-at c =
    omega (arith, c.loop-k.invariant.1.next, before_few c.args.es.now c.loop-k.k, c.requires.few)

pub bounds-lists-at : goal.bounds-lists-at
bounds-lists-at c = listing_room (omega arith) c.loop-k.invariant.1

pub shape_of-lists : goal.shape_of-lists
shape_of-lists c = length-set {A = ℕ} c.loop-k.lists c.loop-k.at 0 ∙ c.loop-k.invariant.0

pub returns : goal.returns
returns c = listing_all _ _ c.loop-k.k _ c.requires.few c.requires.light (omega arith) c.loop-k.invariant.1
