-- The filter's loop with what it works on: the invariant holds of every sheet whose records the words are; that there is one shows that nothing is out of range.
use mathlib.Core.Path.{◌≡◌, sym, ap, ◌∙◌}
use mathlib.Core.Bool.{Bool, true, false}
use mathlib.Core.List.{List}
use Prim.Native.Nat.{ℕ, suc, ◌+◌, ◌-◌, ◌*◌, ◌≤◌, ◌<◌}
use native.Mathlib.Omega.{arith}
use lib.ListN.{length, take, drop, set, length-drop, length-set}
use lib.Seq.{take-length, length-take-le, paste, take-paste, length-paste}
use Rattle.definitions.specs.Bytes.{Records}
use Rattle.definitions.specs.Clashes.{impossible}
use Rattle.definitions.specs.Limits.{most_records, links_of_record, most_edges}
use Rattle.clash_parts.specs.Words.{Begins, Ends, Room}
use Rattle.clash_filter.specs.Sheets.{part_edges, Sent, Triable, Tried, Recorded, Filterable, Workable, Reported}
use Rattle.clash_filter.proofs.Starts.{between}
use Rattle.clash_filter.proofs.Filtering.{Filtering, filtering_all, one_left, filtering_ends, tried, filtering_part, filtering_dropped, filtering_kept, filtering_done}

pub record Working (n records : ℕ) (es part kept lists numbers : List ℕ) (front back at k : ℕ) : Type 0 where
  pub part_long : length part ≡ most_edges
  pub kept_long : length kept ≡ links_of_record * most_records
  pub lists_long : length lists ≡ 64 + most_edges + most_edges + 1
  pub long : length numbers ≡ most_records
  pub each : (q : Records) → Recorded q n records es → Filtering q es part kept numbers front back at k

pub working_begins : (n records : ℕ) (es part kept lists numbers : List ℕ) → Filterable n records es numbers → Workable es part kept lists → Working n records es part kept lists numbers (length es) (links_of_record * most_records) most_records records
working_begins n records es part kept lists numbers F W = record {
  part_long = W.part_long;
  kept_long = W.kept_long;
  lists_long = W.lists_long;
  long = F.long;
  each = λ q R. filtering_all q n records es part kept lists numbers R F W;
}

module _ (n records : ℕ) (es numbers₀ : List ℕ) (F : Filterable n records es numbers₀) (part kept lists numbers : List ℕ) (front back at k : ℕ) (W : Working n records es part kept lists numbers front back at k) (some : 0 < k) where
  -- The turn, of any sheet and of the one that there is.
  abbrev turn : (q : Records) → Recorded q n records es → Filtering q es part kept numbers front back at (suc (k - 1))
  turn q R = one_left q es part kept numbers front back at k some (W.each q R)

  abbrev pub own : Filtering F.sheet es part kept numbers front back at (suc (k - 1))
  own = turn F.sheet F.holds

  pub working_ends : Ends es front
  working_ends = filtering_ends F.sheet F.holds.ordered es part kept numbers front back at (k - 1) own

  module _ (first : ℕ) (begins : Begins es front first) where
    part_sent : (q : Records) (R : Recorded q n records es) → Sent (tried q R.ordered es part kept numbers front back at (k - 1) (turn q R) first begins) n (part_edges part first (drop back kept))
    part_sent q R = filtering_part q R.ordered es part kept numbers front back at (k - 1) (turn q R) first begins n R.sent

    -- There is room for its words before those kept.
    abbrev back' : ℕ
    back' = back - (front - first)

    size : length (between first front es) ≡ front - first
    size = length-take-le (front - first) (drop first es) (omega (arith, own.within, length-drop first es))

    pub working_room : Room kept back' (between first front es)
    working_room = record { room = omega (arith, size, own.room, own.kept_within, begins.below) }

    -- The others are the words kept.
    module _ (others : List ℕ) (rest : others ≡ drop back kept) where
      pub working_triable : Triable n part first others lists
      working_triable = rw rest (record {
        sheet = tried F.sheet F.holds.ordered es part kept numbers front back at (k - 1) own first begins;
        holds = part_sent F.sheet F.holds;
        within = omega (arith, own.room, own.kept_within, begins.below, W.part_long, W.kept_long, length-drop back kept);
        few = omega (arith, W.part_long);
        long = omega (arith, W.part_long, W.lists_long);
      })

      module _ (part' lists' : List ℕ) (r : Bool) (T : Tried n part part' first others r) (Part-same : length part' ≡ length part) (lists-same : length lists' ≡ length lists) where
        -- What was found of the part, of any sheet.
        judged : (q : Records) (R : Recorded q n records es) → impossible (tried q R.ordered es part kept numbers front back at (k - 1) (turn q R) first begins) ≡ r
        judged q R = sym (T.judges _ (rw rest (part_sent q R)))

        pub working_dropped : r ≡ true → Working n records es part' kept lists' numbers first back at (k - 1)
        working_dropped still = record {
          part_long = Part-same ∙ W.part_long;
          kept_long = W.kept_long;
          lists_long = lists-same ∙ W.lists_long;
          long = W.long;
          each = λ q R. filtering_dropped q R.ordered es part kept numbers front back at (k - 1) (turn q R) first begins part' T.stays (judged q R ∙ still);
        }

        pub working_kept : (kept' : List ℕ) → kept' ≡ paste kept back' (between first front es) (length (between first front es)) → r ≡ false → Working n records es part' kept' lists' (set numbers (at - 1) (k - 1)) first back' (at - 1) (k - 1)
        working_kept kept' put needed = rw put (record {
          part_long = Part-same ∙ W.part_long;
          kept_long = length-paste kept back' (between first front es) (length (between first front es)) working_room.room (omega arith) ∙ W.kept_long;
          lists_long = lists-same ∙ W.lists_long;
          long = length-set numbers (at - 1) (k - 1) ∙ W.long;
          each = λ q R. filtering_kept q R.ordered es part kept numbers front back at (k - 1) (turn q R) first begins part' T.stays (judged q R ∙ needed);
        })

pub working_done : (n records : ℕ) (es part kept lists numbers : List ℕ) (front back at k : ℕ) → k ≡ 0 → Working n records es part kept lists numbers front back at k → (q : Records) → Recorded q n records es → Reported q numbers at
working_done n records es part kept lists numbers front back at k none W q R = filtering_done q es part kept numbers front back at k none W.long (W.each q R)

-- What it is to work on, once the words are put to its front.
pub workable : (es blank part kept lists : List ℕ) → part ≡ paste blank 0 es (length es) → length es ≤ links_of_record * most_records → length blank ≡ most_edges → length kept ≡ links_of_record * most_records
    → length lists ≡ 64 + most_edges + most_edges + 1 → Workable es part kept lists
workable es blank part kept lists put few long kept_long lists_long = record {
  front = rw put (let from : 0 + length es ≡ length es = omega arith in ap (λ (c : ℕ). take c (paste blank 0 es (length es))) (sym from) ∙ take-paste blank 0 es (length es) (omega arith) (omega arith) ∙ take-length es);
  part_long = rw put (length-paste blank 0 es (length es) (omega arith) (omega arith) ∙ long);
  kept_long = kept_long;
  lists_long = lists_long;
}
