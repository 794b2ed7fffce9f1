-- Both bytes are there, then 5, then 6, by the numbers of the pairs; `pair_there` is the definition from the fields on.
use mathlib.Core.Path.{◌≡◌, sym, ◌∙◌}
use mathlib.Core.Bool.{true, false}
use Prim.Native.Nat.{◌+◌}
use native.Mathlib.Omega.{arith}
use lib.ListN.{get_or}
use Rattle.definitions.specs.Bytes.{endpoints, rises}
use Rattle.read_pair.proofs.Parts.{pair_none, pair_endpoint, pair_order, pair_there, rank_above, rank_below, endpoints_below, endpoints_apart}
use Rattle.read_pair.proofs.read_pair.Goals as goal

pub returns-then-s-second : goal.returns-then-s-second
returns-then-s-second c previous ranked = record { same = sym (pair_none _ _ _ _ _ c.if-s-second.true); inside = tt }

pub returns-then-not-endpoints_allowed : goal.returns-then-not-endpoints_allowed
returns-then-not-endpoints_allowed c previous ranked =
    record { same = sym (pair_endpoint _ _ c.args.s.now _ _ (omega arith) (sym c.endpoints_allowed.ensures ∙ c.if-not-endpoints_allowed.true)); inside = tt }

pub returns-then-rank-last : goal.returns-then-rank-last
returns-then-rank-last c previous ranked =
    let a = c.args in
    let good : endpoints a.n (get_or a.s.now a.at 0) (get_or a.s.now (a.at + 1) 0) ≡ true = sym c.endpoints_allowed.ensures ∙ c.if-not-endpoints_allowed.false in
    let falls : rises previous (get_or a.s.now a.at 0) (get_or a.s.now (a.at + 1) 0) ≡ false = rank_below previous _ _ _ _ ranked c.rank.ensures c.if-rank-last.true (endpoints_apart _ _ _ good) in
    record { same = sym (pair_order _ _ a.s.now _ _ (omega arith) good falls); inside = tt }

pub returns : goal.returns
returns c previous ranked =
    let a = c.args in
    let good : endpoints a.n (get_or a.s.now a.at 0) (get_or a.s.now (a.at + 1) 0) ≡ true = sym c.endpoints_allowed.ensures ∙ c.if-not-endpoints_allowed.false in
    let above : rises previous (get_or a.s.now a.at 0) (get_or a.s.now (a.at + 1) 0) ≡ true = rank_above previous _ _ _ _ ranked c.rank.ensures c.if-rank-last.false in
    let below = endpoints_below _ _ _ good in
    record { same = sym (pair_there _ _ a.s.now _ _ (omega arith) good above); inside = record { begins = omega arith; from = below.0; to = below.1 } }
