-- What the writers put is what the definitions list: of maps that hold the waits, and of a table that holds the plan.
use mathlib.Core.Path.{◌≡◌, refl, sym, ap, ap₂, ◌∙◌}
use mathlib.Core.Bool.{Bool, true, false, cond, ◌&&◌, not}
use mathlib.Core.Logic.{◌⊎◌, inl, inr}
use mathlib.Core.List.{List, [], ◌++◌, map, flat_map, append_assoc}
use Prim.Native.Nat.{ℕ, ◌+◌, ◌*◌, ◌≤◌, ◌<◌}
use native.Mathlib.Omega.{arith}
use lib.Dec.{eqb}
use lib.ListN.{length, get_or, take}
use lib.Seq.{get_or-take, take_at}
use borrow.Author.Tests.{lt-ltb, eq-eqb, ne_eqb}
use Rattle.definitions.specs.Basics.{tabulate, select_below, any_below, test_bit, Outcome, given, refused, when_given}
use Rattle.definitions.specs.Limits.{most_offset, most_steps}
use Rattle.definitions.specs.Bytes.{Records, read}
use Rattle.definitions.specs.Links.{Edge}
use Rattle.definitions.specs.Anchors.{in_anchor_set}
use Rattle.definitions.specs.Waits.{waits_for, waits_of, wait_list, wait_maps, wait_count}
use Rattle.definitions.specs.Plan.{offset, overrides, decides, undecided, plan_entry, plan_table}
use Rattle.definitions.specs.Answers.{count_of, leasts_of, edges_of, serialized_of, judge_records, judged}
use Rattle.definitions.specs.Output.{lines_of, start_lines, Listing, list_records, listed, field, newline, word_verdict, word_waits, wait_text, start_text, listing_text, standplan}
use Rattle.laws.proofs.Bools.{bool_cases, and_split, cond_true, cond_false}
use Rattle.laws.proofs.Lists.{flatMap_map, flatMap_flatMap}
use Rattle.theory.proofs.PlanTables.{plan_table_length, plan_table_at}
use Rattle.theory.proofs.WaitLists.{wait_map_bit, wait_maps_at}
use Rattle.data_buffers.specs.Texts.{texts}
use Rattle.data_buffers.proofs.Listing.{texts_same, texts_all, texts_select}
use Rattle.print_line.specs.Texts.{heading, refusal_text}
use Rattle.print_plan.specs.Texts.{wait_line, start_line, wait_cell, maps_text, cell_at, start_cell, table_text, plan_text}
use Rattle.print_plan.proofs.Cells.{cell_below}

-- A list of lines by two numbers: those of row a that pass are run together, row after row.
rows_listed : {A : Type 0} (text : A → List ℕ) (line : ℕ → ℕ → A) (test : ℕ → ℕ → Bool) (n : ℕ) → texts (λ a. texts (λ i. cond (test a i) (text (line a i)) []) n) n ≡ flat_map text (flat_map (λ a. map (line a) (select_below (test a) n)) (tabulate (λ a. a) n))
rows_listed text line test n =
    texts_same _ _ n (λ a b. texts_select (test a) (λ i. text (line a i)) n ∙ sym (flatMap_map text (line a) (select_below (test a) n)))
    ∙ texts_all (λ a. flat_map text (map (line a) (select_below (test a) n))) n
    ∙ sym (flatMap_flatMap text (λ a. map (line a) (select_below (test a) n)) (tabulate (λ a. a) n))

-- Maps whose bits are the waits, and their lines.
abbrev pub HoldWaits : ℕ → List Edge → List ℕ → Type 0
HoldWaits n es maps = (a i : ℕ) → a < n → i < n → test_bit (get_or maps i 0) a ≡ waits_for n es a i

pub waits_listed : (n : ℕ) (es : List Edge) (maps : List ℕ) → HoldWaits n es maps → maps_text n maps ≡ flat_map wait_text (wait_list n es)
unfolding wait_cell wait_list waits_of
waits_listed n es maps bits =
    texts_same _ _ n (λ a b. texts_same _ _ n (λ i c. ap (λ (t : Bool). cond t (wait_line a i) []) (bits a i b c)))
    ∙ rows_listed wait_text (λ a i. record { anchor = a; target = i }) (waits_for n es) n

pub wait_maps_bits : (n : ℕ) (es : List Edge) → n ≤ most_steps → HoldWaits n es (wait_maps n es)
wait_maps_bits n es small a i b c =
    ap (λ (m : ℕ). test_bit m a) (wait_maps_at n es i (omega arith)) ∙ wait_map_bit n es i a ∙ ap₂ (λ (s t : Bool). s && (t && waits_for n es a i)) (lt-ltb a n b) (lt-ltb i n c)

-- A table that begins with the plan; and offsets that stay below the number that stands for none.
abbrev pub BeginsWithPlan : ℕ → (ℕ → ℕ) → List Edge → List ℕ → Type 0
BeginsWithPlan n least es table = take (n * n) table ≡ plan_table n least es

abbrev pub SmallOffsets : ℕ → (ℕ → ℕ) → List Edge → Type 0
SmallOffsets n least es = (a v : ℕ) → v < n → in_anchor_set n es a v ≡ true → offset n least es a v ≤ most_offset

-- The start lines, of such a table.
module _ (n : ℕ) (least : ℕ → ℕ) (es : List Edge) (table : List ℕ) (planned : BeginsWithPlan n least es table) (limit : SmallOffsets n least es) where
  entry_at : (v a : ℕ) → v < n → a < n → cell_at n table v a ≡ plan_entry n least es v a
  entry_at v a b c =
      sym (get_or-take (n * n) table (v * n + a) 0 (cell_below n v a b c)) ∙ ap (λ (l : List ℕ). get_or l (v * n + a) 0) planned ∙ plan_table_at n least es v a 0 b c

  decider_inside : (a v : ℕ) → decides n least es a v ≡ true → in_anchor_set n es a v ≡ true
  unfolding decides
  decider_inside a v h = (and_split (in_anchor_set n es a v) (not (any_below (overrides n least es a v) n)) h).0

  cell_listed : (v a : ℕ) → v < n → a < n → start_cell n table v a ≡ cond (decides n least es a v) (start_line v a (offset n least es a v)) []
  unfolding start_cell plan_entry
  cell_listed v a b c = go (bool_cases (decides n least es a v))
    where
      go : (decides n least es a v ≡ true) ⊎ (decides n least es a v ≡ false) → cond (eqb (cell_at n table v a) undecided) [] (start_line v a (cell_at n table v a)) ≡ cond (decides n least es a v) (start_line v a (offset n least es a v)) []
      go (inl t) =
          let e : cell_at n table v a ≡ offset n least es a v = entry_at v a b c ∙ cond_true (offset n least es a v) undecided t in
          let small : offset n least es a v ≤ most_offset = limit a v b (decider_inside a v t) in
          cond_false [] (start_line v a (cell_at n table v a)) (ne_eqb (cell_at n table v a) undecided (λ h. omega arith))
          ∙ ap (start_line v a) e
          ∙ sym (cond_true (start_line v a (offset n least es a v)) [] t)
      go (inr t) =
          let e : cell_at n table v a ≡ undecided = entry_at v a b c ∙ cond_false (offset n least es a v) undecided t in
          cond_true [] (start_line v a (cell_at n table v a)) (eq-eqb (cell_at n table v a) undecided e) ∙ sym (cond_false (start_line v a (offset n least es a v)) [] t)

  pub starts_listed : table_text n table ≡ flat_map start_text (start_lines n least es)
  unfolding start_lines lines_of
  starts_listed =
      texts_same _ _ n (λ v b. texts_same _ _ n (λ a c. cell_listed v a b c))
      ∙ rows_listed start_text (λ v a. record { step = v; decider = a; ticks = offset n least es a v }) (λ v a. decides n least es a v) n

-- The planner writes the plan at the front of the lent table.
pub written_plan : (n : ℕ) (least : ℕ → ℕ) (es : List Edge) (rest : List ℕ) → take (n * n) (plan_table n least es ++ rest) ≡ plan_table n least es
written_plan n least es rest = take_at (plan_table n least es) rest (n * n) (plan_table_length n least es)

-- The whole of an accepted sheet: es are its edges as sent, fs those with its waits in.
module _ (n : ℕ) (least : ℕ → ℕ) (es fs : List Edge) (verdict count : ℕ) (maps table : List ℕ) (counted : count ≡ wait_count n es) (bits : HoldWaits n es maps) (planned : BeginsWithPlan n least fs table) (limit : SmallOffsets n least fs) where
  headings_joined : heading word_verdict verdict ++ heading word_waits count ≡ word_verdict ++ field verdict ++ newline ++ word_waits ++ field (length (wait_list n es)) ++ newline
  unfolding heading wait_count
  headings_joined =
      sym (append_assoc (word_verdict ++ field verdict ++ newline) (word_waits ++ field count) newline)
      ∙ ap (λ (l : List ℕ). l ++ newline) (sym (append_assoc (word_verdict ++ field verdict ++ newline) word_waits (field count)))
      ∙ ap (λ (k : ℕ). word_verdict ++ field verdict ++ newline ++ word_waits ++ field k ++ newline) counted

  pub plan_listed : plan_text verdict count maps table n ≡ listing_text (given (record { verdict = verdict; waits = wait_list n es; starts = start_lines n least fs }))
  unfolding plan_text listing_text
  plan_listed = ap₂ (λ (x y : List ℕ). x ++ y) (ap₂ (λ (x y : List ℕ). x ++ y) headings_joined (waits_listed n es maps bits)) (starts_listed n least fs table planned limit)

-- A refusal.
pub refusal_listed : (k : ℕ) → refusal_text k ≡ listing_text (refused k)
unfolding refusal_text heading listing_text
refusal_listed k = refl

-- What `standplan` prints of a sheet: the plan where the sheet is accepted with waits allowed, the refusal where it is not.
module _ (s : List ℕ) (q : Records) (verdict : ℕ) (maps table : List ℕ) where
  abbrev n : ℕ
  n = count_of q

  abbrev least : ℕ → ℕ
  least = leasts_of q

  abbrev es : List Edge
  es = edges_of q

  abbrev fs : List Edge
  fs = serialized_of q

  pub standplan_plan : read s ≡ given q → judge_records q true ≡ given verdict → HoldWaits n es maps → BeginsWithPlan n least fs table → SmallOffsets n least fs → plan_text verdict (wait_count n es) maps table n ≡ standplan s
  unfolding standplan listed list_records when_given
  standplan_plan reads judges bits planned limit =
      plan_listed n least es fs verdict (wait_count n es) maps table refl bits planned limit
      ∙ sym
      (ap (λ (o : Outcome Records). listing_text (when_given o (λ r. list_records r true))) reads
      ∙ ap (λ (o : Outcome ℕ). listing_text (when_given o (λ v. given (record { verdict = v; waits = wait_list n es; starts = start_lines n least fs })))) judges)

-- Where judging refuses, so does listing: both read first, and judge next.
refused_listed : (k : ℕ) (o : Outcome Records) → when_given o (λ q. judge_records q true) ≡ refused k → when_given o (λ q. list_records q true) ≡ refused k
unfolding when_given list_records
refused_listed k (refused j) h = refused_as j k h
  where
    refused_as : (j k : ℕ) → ◌≡◌ {A = Outcome ℕ} (refused j) (refused k) → ◌≡◌ {A = Outcome Listing} (refused j) (refused k)
    refused_as j k h = let e : j ≡ k = cc in ap {B = Outcome Listing} refused e
refused_listed k (given q) h = ap (λ (o : Outcome ℕ). when_given o (λ v. given (record { verdict = v; waits = wait_list (count_of q) (edges_of q); starts = start_lines (count_of q) (leasts_of q) (serialized_of q) }))) h

pub standplan_refusal : (s : List ℕ) (k : ℕ) → judged s true ≡ refused k → refusal_text k ≡ standplan s
unfolding standplan listed judged
standplan_refusal s k h = refusal_listed k ∙ ap listing_text (sym (refused_listed k (read s) h))
