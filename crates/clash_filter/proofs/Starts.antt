-- Where the last row begins. Words that stand for rows, and behind them for one whose pair none of the others has: the pair changes where that one begins.
use mathlib.Core.Path.{◌≡◌, refl, sym, ap, ◌∙◌}
use mathlib.Core.Logic.{◌≢◌}
use mathlib.Core.List.{List, ◌++◌, map-append, Memᴰ}
use Prim.Native.Nat.{ℕ, ◌+◌, ◌-◌, ◌≤◌, ◌<◌}
use native.Mathlib.Omega.{arith}
use native.Mathlib.Decide.{dec_lt}
use lib.ListN.{length, take, drop, get_or, length-append, length-map, get_or-append, get_or-map}
use lib.Seq.{get_or-take, get_or-append-add, take_at, drop_at, take-add, length-take-le}
use Rattle.definitions.specs.Links.{Edge}
use Rattle.data_edges.specs.Words.{unpack, graph}
use Rattle.laws.proofs.Lists.{mem_at}
use Rattle.clash_parts.specs.Words.{pair_rank, rank_at, Begins}

-- Words and the edges that they stand for: as many, one for one, and behind each other.
pub graph_length : (words : List ℕ) → length (graph words) ≡ length words
unfolding graph
graph_length words = length-map words unpack

pub graph_append : (words more : List ℕ) → graph (words ++ more) ≡ graph words ++ graph more
unfolding graph
graph_append words more = map-append unpack words more

edge_of_word : (words : List ℕ) (i : ℕ) → get_or (graph words) i (unpack 0) ≡ unpack (get_or words i 0)
unfolding graph
edge_of_word words i = get_or-map unpack words i 0

-- Words in two parts stand for edges in two parts, where the first parts are as long.
module _ (words more : List ℕ) (before this : List Edge) (same : graph (words ++ more) ≡ before ++ this) (place : length words ≡ length before) where
  long : length (graph words) ≡ length before
  long = graph_length words ∙ place

  cut : graph words ++ graph more ≡ before ++ this
  cut = sym (graph_append words more) ∙ same

  cut_before : graph words ≡ before
  cut_before = sym (take_at (graph words) (graph more) (length before) long) ∙ ap (take (length before)) cut ∙ take_at before this (length before) refl

  cut_this : graph more ≡ this
  cut_this = sym (drop_at (graph words) (graph more) (length before) long) ∙ ap (drop (length before)) cut ∙ drop_at before this (length before) refl

-- The words from a place to another.
abbrev pub between : ℕ → ℕ → List ℕ → List ℕ
between first end words = take (end - first) (drop first words)

module _ (es : List ℕ) (front : ℕ) (before this : List Edge) (x : ℕ) (within : front ≤ length es) (same : graph (take front es) ≡ before ++ this) where
  count : front ≡ length before + length this
  count = omega (arith, length-take-le front es within, graph_length (take front es), ap length same, length-append before this)

  edge_at : (i : ℕ) → i < front → unpack (get_or es i 0) ≡ get_or (before ++ this) i (unpack 0)
  edge_at i b = ap unpack (sym (get_or-take front es i 0 b)) ∙ sym (edge_of_word (take front es) i) ∙ ap (λ (l : List Edge). get_or l i (unpack 0)) same

  module _ (others : (e : Edge) → Memᴰ e before → pair_rank e ≢ x) (these : (e : Edge) → Memᴰ e this → pair_rank e ≡ x) (some : 1 ≤ length this) where
    rank_before : (i : ℕ) → i < length before → rank_at es i ≢ x
    rank_before i b e =
        let at : unpack (get_or es i 0) ≡ get_or before i (unpack 0) = edge_at i (omega (arith, count)) ∙ get_or-append before this (unpack 0) i b in
        others (get_or before i (unpack 0)) (mem_at before i (unpack 0) b) (ap pair_rank (sym at) ∙ e)

    rank_this : (i : ℕ) → length before ≤ i → i < front → rank_at es i ≡ x
    rank_this i h b =
        let j : ℕ = i - length before in
        let place : i ≡ length before + j = omega arith in
        let at : unpack (get_or es i 0) ≡ get_or this j (unpack 0) = edge_at i b ∙ ap (λ (k : ℕ). get_or (before ++ this) k (unpack 0)) place ∙ get_or-append-add before this j (unpack 0) in
        ap pair_rank at ∙ these (get_or this j (unpack 0)) (mem_at this j (unpack 0) (omega (arith, count)))

    module _ (first : ℕ) (begins : Begins es front first) where
      last : rank_at es (front - 1) ≡ x
      last = rank_this (front - 1) (omega (arith, count)) (omega (arith, count))

      -- It begins no sooner, since the last of the others has another pair, and no later, since the row's own words have its pair.
      not_sooner : first < length before → ⊥
      not_sooner h = rank_before (length before - 1) (omega arith) (begins.same (length before - 1) (omega arith) (omega (arith, count)) ∙ last)

      not_later : length before < first → ⊥
      not_later h = begins.apart (first - 1) (omega arith) (rank_this (first - 1) (omega arith) (omega (arith, begins.below)) ∙ sym last)

      start_is : first ≡ length before
      start_is = go (dec_lt first (length before)) (dec_lt (length before) first)
        where
          go : Dec (first < length before) → Dec (length before < first) → first ≡ length before
          go (yes h) d = absurd (not_sooner h)
          go (no h) (yes d) = absurd (not_later d)
          go (no h) (no d) = omega arith

      parted : graph (take first es ++ between first front es) ≡ before ++ this
      parted =
          let there : first + (front - first) ≡ front = omega (arith, begins.below) in
          ap graph (sym (take-add first (front - first) es) ∙ ap (λ (c : ℕ). take c es) there) ∙ same

      place : length (take first es) ≡ length before
      place = length-take-le first es (omega (arith, begins.below, within)) ∙ start_is

      pub graph_before : graph (take first es) ≡ before
      graph_before = cut_before (take first es) (between first front es) before this parted place

      pub graph_this : graph (between first front es) ≡ this
      graph_this = cut_this (take first es) (between first front es) before this parted place
