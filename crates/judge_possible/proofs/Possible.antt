-- Refusals 8, 10 and 11 alone, by the tests behind them; and that a sheet is impossible by these alone: what comes after them is neither 10 nor 11.
use mathlib.Core.Path.{◌≡◌, refl, sym, ap, ◌∙◌}
use Rattle.std.specs.Prelude.{Err, Ok}
use Rattle.definitions.specs.Numbers.{Status, status_of}
use mathlib.Core.Bool.{Bool, true, false, cond, not, ◌&&◌}
use mathlib.Core.List.{List}
use Prim.Native.Nat.{ℕ}
use Rattle.definitions.specs.Answers.{closes_circle, infeasible, inconsistent, unserializable, judge_edges}
use Rattle.definitions.specs.Basics.{Outcome, given, refused, refuse_if, when_given}
use Rattle.definitions.specs.Clashes.{is_impossible}
use Rattle.definitions.specs.Links.{Edge}
use Rattle.definitions.specs.Waits.{needs_waits}
use Rattle.laws.proofs.Parsers.{when_given_twice}
use Rattle.judge_edges.specs.Analysis.{judge_first, judge_rest, judge_serial, judge_waits}
use Rattle.judge_edges.proofs.Judging.{judge_split, split}
use Rattle.judge_possible.specs.Possible.{judge_possible}

module _ (n : ℕ) (g : List Edge) where
  -- 11 alone.
  abbrev own_end : Outcome (Unit {0})
  own_end = refuse_if (inconsistent n g) 11 (given tt)

  possible_split : judge_possible n g ≡ when_given (judge_first n g) (λ u. own_end)
  unfolding judge_possible judge_first
  possible_split = split (closes_circle n g) (infeasible n g) 8 10 own_end

  -- What refuses 8 or 10 refuses these three; what passes both is judged by 11.
  pub possible_refused : (k : ℕ) → judge_first n g ≡ refused k → judge_possible n g ≡ refused k
  unfolding when_given
  possible_refused k e = possible_split ∙ ap (λ (o : Outcome (Unit {0})). when_given o (λ u. own_end)) e

  possible_by : judge_first n g ≡ given tt → {own : Bool} → inconsistent n g ≡ own → judge_possible n g ≡ refuse_if own 11 (given tt)
  unfolding when_given
  possible_by e h =
      possible_split
      ∙ ap (λ (o : Outcome (Unit {0})). when_given o (λ u. own_end)) e
      ∙ ap (λ (own : Bool). refuse_if own 11 (given tt)) h

  pub possible_11 : judge_first n g ≡ given tt → inconsistent n g ≡ true → judge_possible n g ≡ refused 11
  unfolding refuse_if
  possible_11 e h = possible_by e h

  pub possible_done : judge_first n g ≡ given tt → inconsistent n g ≡ false → judge_possible n g ≡ given tt
  unfolding refuse_if
  possible_done e h = possible_by e h

  -- A whole judgment is these three, and then the rest.
  rest_by : {A : Type 0} (own : Bool) (rest : Outcome A) → refuse_if own 11 rest ≡ when_given {A = Unit {0}} (refuse_if own 11 (given tt)) (λ u. rest)
  unfolding refuse_if when_given
  rest_by true rest = refl
  rest_by false rest = refl

  module _ (least : ℕ → ℕ) where
    edges_by_possible : (allow : Bool) → judge_edges n least g allow ≡ when_given (judge_possible n g) (λ u. judge_serial n least g allow)
    unfolding judge_rest
    edges_by_possible allow =
        judge_split n g least allow
        ∙ ap (λ (o : Outcome ℕ). when_given (judge_first n g) (λ u. o)) (rest_by (inconsistent n g) (judge_serial n least g allow))
        ∙ sym (when_given_twice (judge_first n g) (λ u. own_end) (λ u. judge_serial n least g allow))
        ∙ sym (ap (λ (o : Outcome (Unit {0})). when_given o (λ u. judge_serial n least g allow)) possible_split)

    -- Nothing of the rest is 10 or 11.
    rest_possible : is_impossible (judge_serial n least g true) ≡ false
    unfolding judge_serial judge_waits refuse_if is_impossible
    rest_possible = go (unserializable n least g) (needs_waits n g)
      where
        go : (clash need : Bool) → is_impossible (refuse_if clash 28 (refuse_if (need && not true) 12 (given (cond need 1 0)))) ≡ false
        go true need = refl
        go false true = refl
        go false false = refl

    -- So a sheet is refused as 10 or 11 where one of the three refuses it so.
    pub impossible_by : (st : Status) → status_of st tt ≡ judge_possible n g → is_impossible (status_of st 0) ≡ is_impossible (judge_edges n least g true)
    unfolding when_given is_impossible
    impossible_by st e = go st ∙ sym (ap is_impossible (edges_by_possible true ∙ ap (λ (o : Outcome (Unit {0})). when_given o (λ u. judge_serial n least g true)) (sym e)))
      where
        go : (st : Status) → is_impossible (status_of st 0) ≡ is_impossible (when_given (status_of {A = Unit {0}} st tt) (λ u. judge_serial n least g true))
        go (Ok tt) = sym rest_possible
        go (Err k) = refl
