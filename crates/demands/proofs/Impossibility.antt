-- Refusals 10 and 11 of a well-formed sheet, and of a part of its records. 10 is no schedule with each step at its least. For 11, an open step that waits for its own end is given a long time: around its closed walk nothing can
-- lose that much. Where neither applies there are start times for all durations, so that no list leaves none.
use mathlib.Core.Path.{◌≡◌, refl, sym, subst, ◌∙◌}
use mathlib.Core.Bool.{Bool, true, false, ◌||◌}
use mathlib.Core.Logic.{◌⊎◌, inl, inr, ◌≢◌, ◌↔◌}
use mathlib.Core.List.{List}
use Prim.Native.Nat.{ℕ, ◌<◌}
use native.Mathlib.Omega.{arith}
use Rattle.definitions.specs.Limits.{most_extra}
use Rattle.definitions.specs.Basics.{refused, when_given}
use Rattle.definitions.specs.Bytes.{Records}
use Rattle.definitions.specs.Links.{Edge, members, links_of, Respects, After, UsableFrom}
use Rattle.definitions.specs.Plan.{delays}
use Rattle.definitions.specs.Answers.{infeasible, inconsistent, judged, judge_records, count_of, leasts_of, edges_of}
use Rattle.laws.proofs.Bools.{bool_cases, not_passing, or_neither, or_split}
use Rattle.laws.proofs.Outcomes.{refused_same}
use Rattle.theory.specs.Graphs.{Schedule, Well, sole_delay}
use Rattle.theory.proofs.Walks.{after_mono, after_start_below, some_after}
use Rattle.theory.proofs.Usables.{usable_shape, usable_sub}
use Rattle.theory.proofs.Feasibility.{closed_after_limit}
use Rattle.theory.proofs.Possibility.{possible}
use Rattle.demands.specs.Demands.{WellFormed, Durations, extras, KeepsLinks, NoStarts, SomeListLeavesNone, ImpossibleFor}
use Rattle.demands.proofs.Reading.{Fits}
use Rattle.demands.proofs.Edges.{keeps_schedule, schedule_keeps, sheet_losses}
use Rattle.demands.proofs.Meaning.{after_open}
use Rattle.demands.proofs.DelayLists.{sole_list, sole_extras, sole_respects, sole_allowed, least_durations, least_extras, least_list, list_durations}
use Rattle.demands.proofs.Sheets.{is_10, is_11}
use Rattle.demands.proofs.Judging.{TenOrEleven, judge_impossible}
use Rattle.demands.proofs.Formed.{Regular, formed_regular, judged_10, regular_rooted, regular_shape, regular_well}

-- Start times keep the links of a sheet exactly if they are a schedule of its edges under what the durations are past the leasts.
pub keeps_sheet : (q : Records) (d t : ℕ → ℕ) → Respects q.steps d → KeepsLinks q d t ↔ Schedule (members (edges_of q)) (extras q d) t
unfolding edges_of
keeps_sheet q d t respects = (keeps_schedule q.steps d t respects (links_of q), schedule_keeps q.steps d t respects (links_of q))

-- What step 0 lasts past its least is 0.
pub extras_source : (q : Records) (d : ℕ → ℕ) → Durations q d → extras q d 0 ≡ 0
extras_source q d D = omega (arith, D.source)

-- A sheet that can be scheduled has start times for all durations.
starts_exist : (q : Records) → Well (count_of q) (members (edges_of q)) → (d : ℕ → ℕ) → Durations q d → (t : ℕ → ℕ) × KeepsLinks q d t
starts_exist q well d D = let r = possible well (extras q d) (extras_source q d D) in (r.0, (keeps_sheet q d r.0 D.respects).1 r.1)

-- Records that fit and close no circle: a well-formed sheet's, or a part of them (request L14).
module _ {q : Records} (regular : Regular q) where
  abbrev n : ℕ
  n = count_of q

  abbrev es : List Edge
  es = edges_of q

  fits : Fits q
  fits = regular.fits

  least_none : (infeasible n es ≡ true) ↔ NoStarts q (leasts_of q)
  least_none =
      let r = is_10 fits.some (regular_shape regular) (regular_rooted regular) in
      (λ h t k. r.0 h t ((at_least t).0 k), λ f. r.1 (λ t k. f t ((at_least t).1 k)))
    where
      -- With each step at its least nothing is past it.
      at_least : (t : ℕ → ℕ) → KeepsLinks q (leasts_of q) t ↔ Schedule (members es) (λ a. 0) t
      at_least t = subst (λ (x : ℕ → ℕ). KeepsLinks q (leasts_of q) t ↔ Schedule (members es) x t) (least_extras q) (keeps_sheet q (leasts_of q) t (least_durations q).respects)

  -- The list that shows 11.
  own_end : (a : ℕ) → After (UsableFrom (members es) a) a a → SomeListLeavesNone q
  own_end a w = record {
    list = sole_list q a;
    allowed = sole_allowed q a inside fits.leasts (inr (after_open fits (some_after (after_mono (usable_sub (members es) a) w.walk))));
    none = λ t k. closed_after_limit (regular_shape regular) fits.few (sheet_losses fits) w (scheduled t k);
  }
    where
      inside : a < n
      inside = after_start_below (usable_shape (regular_shape regular) a) w

      scheduled : (t : ℕ → ℕ) → KeepsLinks q (delays (sole_list q a)) t → Schedule (members es) (sole_delay most_extra a) t
      scheduled t k = subst (λ (x : ℕ → ℕ). Schedule (members es) x t) (sole_extras q a inside) ((keeps_sheet q (delays (sole_list q a)) t (sole_respects q a inside)).0 k)

  no_time : NoStarts q (leasts_of q) → SomeListLeavesNone q
  no_time f = record { list = sole_list q 0; allowed = sole_allowed q 0 fits.some fits.leasts (inl refl); none = subst (NoStarts q) (sym (least_list q fits.some)) f }

  -- 10 or 11 exactly if some list leaves none; and where neither applies all durations leave start times.
  abbrev tested : Bool
  tested = infeasible n es || inconsistent n es

  pub untested_starts : tested ≡ false → (d : ℕ → ℕ) → Durations q d → (t : ℕ → ℕ) × KeepsLinks q d t
  untested_starts h = let r = (or_neither (infeasible n es) (inconsistent n es)).0 h in starts_exist q (regular_well regular r.0 r.1)

  pub tested_list : (tested ≡ true) ↔ SomeListLeavesNone q
  tested_list = (λ h. found (or_split (infeasible n es) (inconsistent n es) h), test)
    where
      found : (infeasible n es ≡ true) ⊎ (inconsistent n es ≡ true) → SomeListLeavesNone q
      found (inl h) = no_time (least_none.0 h)
      found (inr h) = let r = is_11 fits.some (regular_shape regular) (regular_rooted regular) h in own_end r.0 r.1

      test : SomeListLeavesNone q → tested ≡ true
      test L = go (bool_cases tested)
        where
          go : (tested ≡ true) ⊎ (tested ≡ false) → tested ≡ true
          go (inl t) = t
          go (inr f) = let r = untested_starts f (delays L.list) (list_durations q fits.some L.list L.allowed) in absurd (L.none r.0 r.1)

-- A well-formed sheet, by its bytes.
module _ (s : List ℕ) (allow : Bool) (q : Records) (formed : WellFormed s q) where
  by_tests : TenOrEleven (judged s allow) ↔ (tested (formed_regular formed) ≡ true)
  unfolding judged judge_records when_given
  by_tests = rw formed.sheet.reads (judge_impossible (count_of q) (leasts_of q) (edges_of q) allow formed.no_circle)

  by_lists : TenOrEleven (judged s allow) ↔ SomeListLeavesNone q
  by_lists = let r = tested_list (formed_regular formed) in (λ h. r.0 (by_tests.0 h), λ L. by_tests.1 (r.1 L))

  not_the_first : judged s allow ≢ refused 10 → TenOrEleven (judged s allow) → judged s allow ≡ refused 11
  not_the_first h (inl k) = absurd (h k)
  not_the_first h (inr k) = k

  neither_refused : judged s allow ≢ refused 10 → judged s allow ≢ refused 11 → tested (formed_regular formed) ≡ false
  neither_refused h k = not_passing (tested (formed_regular formed)) (λ t. k (not_the_first h (by_tests.1 t)))

  pub impossible_for : ImpossibleFor s allow q
  impossible_for =
      let ten = judged_10 formed allow in
      let least = least_none (formed_regular formed) in
      record {
        refused_10 = (λ h. least.0 (ten.0 h), λ f. ten.1 (least.1 f));
        refused_11 = (λ h. (λ k. let z : ◌≡◌ {A = ℕ} 11 10 = refused_same (sym h ∙ k) in omega arith, by_lists.0 (inr h)), λ r. not_the_first r.0 (by_lists.1 r.1));
        impossible = by_lists;
        otherwise = λ h k. untested_starts (formed_regular formed) (neither_refused h k);
      }
