-- The filter's loop: from the last record to the first, the words of the records that are left stand in front, the words of those that stay are kept apart.
use mathlib.Core.Path.{◌≡◌, refl, sym, ap, ◌∙◌}
use mathlib.Core.Bool.{true, false}
use mathlib.Core.Logic.{◌⊎◌, inl, inr}
use mathlib.Core.List.Memᴰ
use mathlib.Core.List.{List, [], ◌∷◌, ◌++◌, append_assoc, map, map-append, flat_map, Memᴰ}
use Prim.Native.Nat.{ℕ, zero, suc, ◌+◌, ◌-◌, ◌*◌, ◌≤◌, ◌<◌}
use native.Mathlib.Omega.{arith}
use lib.ListN.{length, take, drop, get_or, set, length-append, length-drop, length-set, drop_of_length-le}
use lib.Seq.{take-suc, take_all, take-length, take-take, length-take-le, drop_at, drop-cons, drop-set-lt, get_or-set_same, paste, length-paste}
use Rattle.definitions.specs.Basics.{tabulate}
use Rattle.definitions.specs.Bytes.{Records}
use Rattle.definitions.specs.Clashes.{blank_link, numbers_below, part_of, impossible, drop_records, few}
use Rattle.definitions.specs.Limits.{most_records, links_of_record}
use Rattle.definitions.specs.Links.{Edge, constraints, edges}
use Rattle.definitions.specs.declared.Link.{Link}
use Rattle.data_edges.specs.Words.{graph}
use Rattle.laws.proofs.Bools.{cond_true, cond_false}
use Rattle.demands.specs.Parts.{Ordered, rank, Within}
use Rattle.demands.proofs.Parts.{part_fits, tried_within}
use Rattle.clash_parts.specs.Words.{Begins, Ends}
use Rattle.clash_filter.specs.Sheets.{Sent, Recorded, Filterable, Workable, Reported, part_edges}
use Rattle.clash_filter.proofs.Rows.{row, rows, rows_append, rows_cons, rows_more, row_rank, rows_apart, row_some}
use Rattle.clash_filter.proofs.Starts.{graph_length, graph_append, between, graph_before, graph_this}

-- ---- parts of the records

-- The records with these numbers: those of the part.
abbrev named : List Link → List ℕ → List Link
named ls ks = map (λ k. get_or ls k blank_link) ks

named_below : (ls : List Link) (k : ℕ) → k ≤ length ls → named ls (numbers_below k) ≡ take k ls
unfolding tabulate
named_below ls zero h = refl
named_below ls (suc k) h =
    map-append (λ k. get_or ls k blank_link) (numbers_below k) (k ∷ [])
    ∙ ap (λ (ms : List Link). ms ++ get_or ls k blank_link ∷ []) (named_below ls k (omega arith))
    ∙ sym (take-suc ls k blank_link (omega arith))

-- The edges of a part: of the records below k, and behind them of those that stay.
part_rows : (q : Records) (k : ℕ) (stay : List ℕ) → k ≤ length q.pairs → rows q.steps (part_of q (numbers_below k ++ stay)).pairs ≡ rows q.steps (take k q.pairs) ++ rows q.steps (named q.pairs stay)
unfolding part_of
part_rows q k stay h =
    let ls = q.pairs in
    ap (rows q.steps) (map-append (λ k. get_or ls k blank_link) (numbers_below k) stay ∙ ap (λ (ms : List Link). ms ++ named ls stay) (named_below ls k h))
    ∙ rows_append q.steps (take k ls) (named ls stay)

-- ---- the loop

-- Its invariant: the records below k are left to be tried, and `stay` are the numbers of those tried that stay, noted from `at` on. The first `front` words are those of the records left, in the part that is worked on too;
-- the words kept from `back` on are those of the records that stay, with room for all that are left before them.
pub record Filtering (q : Records) (es part kept numbers : List ℕ) (front back at k : ℕ) : Type 0 where
  pub stay : List ℕ
  pub left : few q ≡ drop_records q k stay
  pub below : k ≤ length q.pairs
  pub inside : Within (length q.pairs) stay
  pub within : front ≤ length es
  pub words : graph (take front es) ≡ rows q.steps (take k q.pairs)
  pub untouched : take front part ≡ take front es
  pub room : front ≤ back
  pub kept_within : back ≤ length kept
  pub kept_words : graph (drop back kept) ≡ rows q.steps (named q.pairs stay)
  pub places : k ≤ at
  pub at_within : at ≤ length numbers
  pub noted : drop at numbers ≡ stay

-- It begins with all records left and none kept.
module _ (q : Records) (n records : ℕ) (es part kept lists numbers : List ℕ) (R : Recorded q n records es) (F : Filterable n records es numbers) (W : Workable es part kept lists) where
  pub filtering_all : Filtering q es part kept numbers (length es) (links_of_record * most_records) most_records records
  unfolding few graph edges constraints flat_map
  filtering_all =
      let ls = q.pairs in
      record {
        stay = [];
        left = ap (λ (k : ℕ). drop_records q k []) (sym R.counts);
        below = omega (arith, R.counts);
        inside = λ i m. absurd (Memᴰ.not-nil m);
        within = omega arith;
        words = ap graph (take_all (length es) es (omega arith)) ∙ R.sent.same ∙ ap (rows q.steps) (sym (take_all records ls (omega (arith, R.counts))));
        untouched = W.front ∙ sym (take_all (length es) es (omega arith));
        room = omega (arith, F.few);
        kept_within = omega (arith, W.kept_long);
        kept_words = ap graph (drop_of_length-le kept {i = links_of_record * most_records} (omega (arith, W.kept_long)));
        places = omega (arith, F.few_records);
        at_within = omega (arith, F.long);
        noted = drop_of_length-le numbers {i = most_records} (omega (arith, F.long));
      }

-- One is left at least: record k is the next to be tried.
pub one_left : (q : Records) (es part kept numbers : List ℕ) (front back at k : ℕ) → 0 < k → Filtering q es part kept numbers front back at k → Filtering q es part kept numbers front back at (suc (k - 1))
one_left q es part kept numbers front back at k some so = let e : suc (k - 1) ≡ k = omega arith in rw e so

module _ (q : Records) (ordered : Ordered q.pairs) (es part kept numbers : List ℕ) (front back at k : ℕ) (so : Filtering q es part kept numbers front back at (suc k)) where
  abbrev this : List Edge
  this = row q.steps (get_or q.pairs k blank_link)

  abbrev earlier : List Edge
  earlier = rows q.steps (take k q.pairs)

  -- The words of the records left are those of the records before it, and its own.
  words_split : graph (take front es) ≡ earlier ++ this
  words_split = so.words ∙ rows_more q.steps q.pairs k so.below

  pub filtering_ends : Ends es front
  filtering_ends = record {
    some = omega (arith, length-take-le front es so.within, graph_length (take front es), ap length words_split, length-append earlier this, row_some q.pairs ordered q.steps k so.below);
    within = so.within;
  }

  -- Its words begin at `first`.
  module _ (first : ℕ) (begins : Begins es front first) where
    words_before : graph (take first es) ≡ earlier
    words_before =
        graph_before es front earlier this (rank (get_or q.pairs k blank_link)) so.within words_split
        (rows_apart q.pairs ordered q.steps k so.below)
        (row_rank q.steps (get_or q.pairs k blank_link))
        (row_some q.pairs ordered q.steps k so.below)
        first begins

    words_this : graph (between first front es) ≡ this
    words_this =
        graph_this es front earlier this (rank (get_or q.pairs k blank_link)) so.within words_split
        (rows_apart q.pairs ordered q.steps k so.below)
        (row_rank q.steps (get_or q.pairs k blank_link))
        (row_some q.pairs ordered q.steps k so.below)
        first begins

    -- The part to be judged has the records before it, and those that stay.
    abbrev pub tried : Records
    tried = part_of q (numbers_below k ++ so.stay)

    untouched_before : take first part ≡ take first es
    untouched_before =
        let shorter : first ≤ front = omega (arith, begins.below) in
        sym (take-take first front part shorter) ∙ ap (take first) so.untouched ∙ take-take first front es shorter

    pub filtering_part : (n : ℕ) → Sent q n (graph es) → Sent tried n (part_edges part first (drop back kept))
    unfolding part_of
    filtering_part n S = record {
      fits = part_fits S.fits (numbers_below k ++ so.stay) (tried_within k (length q.pairs) so.stay (omega (arith, so.below)) so.inside);
      steps = S.steps;
      same =
          ap (λ (l : List ℕ). graph l ++ graph (drop back kept)) untouched_before
          ∙ ap (λ (l : List Edge). l ++ graph (drop back kept)) words_before
          ∙ ap (λ (l : List Edge). earlier ++ l) so.kept_words
          ∙ sym (part_rows q k so.stay (omega (arith, so.below)));
    }

    -- Judging leaves the words of the records before it.
    module _ (part' : List ℕ) (stays : take first part' ≡ take first part) where
      -- Without it the part is impossible still: it is dropped.
      pub filtering_dropped : impossible tried ≡ true → Filtering q es part' kept numbers first back at k
      unfolding drop_records
      filtering_dropped still = record {
        stay = so.stay;
        left = so.left ∙ ap (drop_records q k) (cond_true so.stay (k ∷ so.stay) still);
        below = omega (arith, so.below);
        inside = so.inside;
        within = omega (arith, begins.below, so.within);
        words = words_before;
        untouched = stays ∙ untouched_before;
        room = omega (arith, begins.below, so.room);
        kept_within = so.kept_within;
        kept_words = so.kept_words;
        places = omega (arith, so.places);
        at_within = so.at_within;
        noted = so.noted;
      }

      -- It is needed: its words are put before those kept, and its number is noted before theirs.
      abbrev back' : ℕ
      back' = back - (front - first)

      abbrev kept' : List ℕ
      kept' = paste kept back' (between first front es) (length (between first front es))

      size : length (between first front es) ≡ front - first
      size = length-take-le (front - first) (drop first es) (omega (arith, so.within, length-drop first es))

      kept_more : drop back' kept' ≡ between first front es ++ drop back kept
      kept_more =
          let here : back' + length (between first front es) ≡ back = omega (arith, size, so.room, begins.below) in
          let front_long : length (take back' kept) ≡ back' = length-take-le back' kept (omega (arith, so.kept_within)) in
          ap (drop back') (append_assoc (take back' kept) (take (length (between first front es)) (between first front es)) (drop (back' + length (between first front es)) kept))
          ∙ drop_at (take back' kept) (take (length (between first front es)) (between first front es) ++ drop (back' + length (between first front es)) kept) back' front_long
          ∙ ap (λ (l : List ℕ). l ++ drop (back' + length (between first front es)) kept) (take-length (between first front es))
          ∙ ap (λ (b : ℕ). between first front es ++ drop b kept) here

      noted_more : drop (at - 1) (set numbers (at - 1) k) ≡ k ∷ so.stay
      noted_more =
          let some : at - 1 < length numbers = omega (arith, so.places, so.at_within) in
          let next : suc (at - 1) ≡ at = omega (arith, so.places) in
          drop-cons (set numbers (at - 1) k) (at - 1) 0 (omega (arith, length-set numbers (at - 1) k))
          ∙ ap (λ (x : ℕ). x ∷ drop (suc (at - 1)) (set numbers (at - 1) k)) (get_or-set_same numbers (at - 1) k 0 some)
          ∙ ap (λ (l : List ℕ). k ∷ l) (drop-set-lt (suc (at - 1)) numbers (at - 1) k (omega arith) ∙ ap (λ (a : ℕ). drop a numbers) next ∙ so.noted)

      one_inside : Within (length q.pairs) (k ∷ so.stay)
      one_inside i m = go (Memᴰ.cases_cons m)
        where
          go : (i ≡ k) ⊎ Memᴰ i so.stay → i < length q.pairs
          go (inl e) = omega (arith, so.below)
          go (inr m) = so.inside i m

      pub filtering_kept : impossible tried ≡ false → Filtering q es part' kept' (set numbers (at - 1) k) first back' (at - 1) k
      unfolding drop_records
      filtering_kept needed = record {
        stay = k ∷ so.stay;
        left = so.left ∙ ap (drop_records q k) (cond_false so.stay (k ∷ so.stay) needed);
        below = omega (arith, so.below);
        inside = one_inside;
        within = omega (arith, begins.below, so.within);
        words = words_before;
        untouched = stays ∙ untouched_before;
        room = omega (arith, begins.below, so.room);
        kept_within = omega (arith, so.kept_within, length-paste kept back' (between first front es) (length (between first front es)) (omega (arith, size, so.room, begins.below, so.kept_within)) (omega arith));
        kept_words =
            ap graph kept_more
            ∙ graph_append (between first front es) (drop back kept)
            ∙ ap (λ (l : List Edge). l ++ graph (drop back kept)) words_this
            ∙ ap (λ (l : List Edge). this ++ l) so.kept_words
            ∙ sym (rows_cons q.steps (get_or q.pairs k blank_link) (named q.pairs so.stay));
        places = omega (arith, so.places);
        at_within = omega (arith, so.at_within, length-set numbers (at - 1) k);
        noted = noted_more;
      }

-- None is left: what stays is the report.
pub filtering_done : (q : Records) (es part kept numbers : List ℕ) (front back at k : ℕ) → k ≡ 0 → length numbers ≡ most_records → Filtering q es part kept numbers front back at k → Reported q numbers at
unfolding drop_records
filtering_done q es part kept numbers front back at k none long so = record { long = long; within = omega (arith, so.at_within); same = so.noted ∙ sym (so.left ∙ rw none) }
