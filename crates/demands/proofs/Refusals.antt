-- Reading refuses with 1 to 7 and 26, and judging a sheet that has been read with none of these. So a sheet is well-formed exactly if no refusal from 1 to 9 and not 26 is given.
use mathlib.Core.Path.{◌≡◌, refl, sym, ap, ◌∙◌}
use mathlib.Core.Logic.{◌⊎◌, inl, inr, ◌≢◌}
use mathlib.Core.Bool.{Bool}
use mathlib.Core.List.{List}
use Prim.Native.Nat.{ℕ, ◌≤◌, ◌<◌}
use native.Mathlib.Omega.{arith}
use native.Mathlib.Decide.{dec_lt}
use Rattle.definitions.specs.Basics.{Outcome, given, refused, when_given}
use Rattle.definitions.specs.Bytes.{Records, read}
use Rattle.definitions.specs.Links.{Edge}
use Rattle.definitions.specs.Answers.{closes_circle, count_of, edges_of, judge_edges, judge_records, judged, leasts_of}
use Rattle.laws.proofs.Bools.{not_passing, both_ways, same_or_not}
use Rattle.laws.proofs.Outcomes.{refused_same}
use Rattle.demands.specs.Demands.{FromReading, FromForm, WellFormed, ReadExactly, WellFormedExactly}
use Rattle.demands.proofs.Reading.{read_most}
use Rattle.demands.proofs.Judging.{judge_8, judge_never, judge_never_9, judge_never_past, judged_edges}

not_reading : (n : ℕ) (least : ℕ → ℕ) (es : List Edge) (allow : Bool) {k : ℕ} → FromReading k → judge_edges n least es allow ≢ refused k
not_reading n least es allow (inl h) = judge_never n least es allow (omega arith)
not_reading n least es allow (inr h) = judge_never_past n least es allow (omega arith) (λ e. omega arith)

-- Judging refuses as reading does, and what has been read never with so small a number.
pub read_exactly : ReadExactly
unfolding judged when_given
read_exactly s bytes allow k = (λ h. (ap (λ (o : Outcome Records). when_given o (λ q. judge_records q allow)) h, read_most s k bytes h), λ r. go (read s) refl r.0 r.1)
  where
    go : (o : Outcome Records) → read s ≡ o → judged s allow ≡ refused k → FromReading k → read s ≡ refused k
    go (refused l) e h b =
        let same : l ≡ k = refused_same (sym (ap (λ (o : Outcome Records). when_given o (λ q. judge_records q allow)) e) ∙ h) in
        e ∙ ap refused same
    go (given q) e h b = absurd (not_reading (count_of q) (leasts_of q) (edges_of q) allow b (sym (judged_edges s e allow) ∙ h))

pub well_formed_exactly : WellFormedExactly
well_formed_exactly s bytes allow = (λ r. passed r.0 r.1, λ h. formed h (read s) refl)
  where
    passed : (q : Records) → WellFormed s q → (k : ℕ) → FromForm k → judged s allow ≢ refused k
    passed q f k b h = by b
      where
        j : judge_edges (count_of q) (leasts_of q) (edges_of q) allow ≡ refused k
        j = sym (judged_edges s f.sheet.reads allow) ∙ h

        go : k ≤ 9 → Dec (k < 8) → (k ≡ 8) ⊎ (k ≢ 8) → ⊥
        go b (yes c) z = judge_never (count_of q) (leasts_of q) (edges_of q) allow c j
        go b (no c) (inl e) = both_ways ((judge_8 (count_of q) (leasts_of q) (edges_of q) allow).0 (j ∙ ap refused e)) f.no_circle
        go b (no c) (inr e) = judge_never_9 (count_of q) (leasts_of q) (edges_of q) allow (j ∙ ap refused (let nine : k ≡ 9 = omega arith in nine))

        by : FromForm k → ⊥
        by (inl b) = go b (dec_lt k 8) (same_or_not k 8)
        by (inr b) = not_reading (count_of q) (leasts_of q) (edges_of q) allow (inr b) j

    early : {k : ℕ} → FromReading k → FromForm k
    early (inl b) = inl (omega arith)
    early (inr b) = inr b

    formed : ((k : ℕ) → FromForm k → judged s allow ≢ refused k) → (o : Outcome Records) → read s ≡ o → (q : Records) × WellFormed s q
    formed h (refused k) e = let r = (read_exactly s bytes allow k).0 e in absurd (h k (early r.1) r.0)
    formed h (given q) e =
        let as_judged = judged_edges s e allow in
        let c = not_passing (closes_circle (count_of q) (edges_of q)) (λ t. h 8 (inl (omega arith)) (as_judged ∙ (judge_8 (count_of q) (leasts_of q) (edges_of q) allow).1 t)) in
        (q, record { sheet = record { bytes = bytes; reads = e }; no_circle = c })
