-- "From the input" from 8 on, with 28 of request L11: what each call answers, with every refusal in its order.
use Rattle.std.specs.Prelude.{Bool, true, cond, not, ◌&&◌, ◌||◌, List, ◌++◌, ℕ, ◌*◌, ltb, leb, length, drop, replicate}
use Rattle.definitions.specs.Limits.{most_steps}
use Rattle.definitions.specs.Basics.{any, any_below, tabulate, bits_below, Outcome, given, refused, refuse_if, when_given}
use Rattle.definitions.specs.Bytes.{Records, read}
use Rattle.definitions.specs.Links.{Edge, is_open, delay_at, least_at, links_of, edges, forwards, usable}
use Rattle.definitions.specs.Rounds.{rounds, stable, source_row, reaches, after_reaches}
use Rattle.definitions.specs.Waits.{wait_maps, wait_count, needs_waits, serialized}
use Rattle.definitions.specs.declared.Operation.{Operation}
use Rattle.definitions.specs.Plan.{start_times, plan_table, row_part, delays_wrong, delays}

-- 8: forward links close a circle. 9 never occurs any more (request L3): where they close none, every step of a completed sheet has a forward chain from step 0.
unfoldable pub closes_circle : ℕ → List Edge → Bool
closes_circle n es = any (λ e. reaches n (forwards es) e.to e.from) (forwards es)

-- 10: with each open step at its least, no start times keep every link. The rounds from step 0 then never come to rest.
unfoldable pub infeasible : ℕ → List Edge → Bool
infeasible n es = not (stable es (rounds es n (source_row n 0)))

-- 11: not 10, yet some list of durations leaves none. An open step then waits for its own end.
unfoldable pub inconsistent : ℕ → List Edge → Bool
inconsistent n es = any_below (λ a. after_reaches n (usable es a) a a) n

-- 28: the waits close a circle of forward links, or leave no start times with each open step at its least.
unfoldable pub unserializable : ℕ → (ℕ → ℕ) → List Edge → Bool
unserializable n least es = closes_circle n (serialized n least es) || infeasible n (serialized n least es)

-- 8, 10, 11, 28, 12: verdict 0 is sound, 1 sound with waits.
unfoldable pub judge_edges : ℕ → (ℕ → ℕ) → List Edge → Bool → Outcome ℕ
judge_edges n least es allow =
    refuse_if (closes_circle n es) 8
    (refuse_if (infeasible n es) 10
    (refuse_if (inconsistent n es) 11
    (refuse_if (unserializable n least es) 28
    (refuse_if (needs_waits n es && not allow) 12
    (given (cond (needs_waits n es) 1 0))))))

-- A sheet's step count, leasts and edges, completed and then with its waits in.
abbrev pub count_of : Records → ℕ
count_of q = length q.steps

abbrev pub leasts_of : Records → ℕ → ℕ
leasts_of q = least_at q.steps

unfoldable pub edges_of : Records → List Edge
edges_of q = edges q.steps (links_of q)

unfoldable pub serialized_of : Records → List Edge
serialized_of q = serialized (count_of q) (leasts_of q) (edges_of q)

unfoldable pub judge_records : Records → Bool → Outcome ℕ
judge_records q allow = judge_edges (count_of q) (leasts_of q) (edges_of q) allow

-- Judging.
unfoldable pub judged : List ℕ → Bool → Outcome ℕ
judged s allow = when_given (read s) (λ q. judge_records q allow)

-- Listing waits: whoever asks for them allows them. On a refusal maps of 0 and count 0.
pub record Waits : Type 0 where
  pub verdict : Outcome ℕ
  pub maps : List ℕ
  pub count : ℕ

unfoldable pub no_waits : ℕ → Waits
no_waits k = record { verdict = refused k; maps = replicate most_steps 0; count = 0 }

unfoldable pub waits_when : Records → Outcome ℕ → Waits
waits_when q (given v) = record { verdict = given v; maps = wait_maps (count_of q) (edges_of q); count = wait_count (count_of q) (edges_of q) }
waits_when q (refused k) = no_waits k

unfoldable pub waits_read : Outcome Records → Waits
waits_read (given q) = waits_when q (judge_records q true)
waits_read (refused k) = no_waits k

unfoldable pub waits_answer : List ℕ → Waits
waits_answer s = waits_read (read s)

-- On acceptance the answer stands at the front of the lent numbers, and those past it stay as lent; on a refusal all stay.
unfoldable pub written : Outcome ℕ → List ℕ → List ℕ → List ℕ
written (given v) new lent = new ++ drop (length new) lent
written (refused k) new lent = lent

-- What a call that writes answers: its verdict, and the lent numbers after it.
pub record Written : Type 0 where
  pub verdict : Outcome ℕ
  pub numbers : List ℕ

-- 14: a lent table or list is too short.
unfoldable pub too_short : List ℕ → ℕ → Bool
too_short lent size = ltb (length lent) size

-- Planning: the refusals of judging, then 14.
unfoldable pub plan_verdict : Records → Bool → List ℕ → Outcome ℕ
plan_verdict q allow table = when_given (judge_records q allow) (λ v. refuse_if (too_short table (count_of q * count_of q)) 14 (given v))

unfoldable pub plan_read : Outcome Records → Bool → List ℕ → Written
plan_read (given q) allow table = record { verdict = plan_verdict q allow table; numbers = written (plan_verdict q allow table) (plan_table (count_of q) (leasts_of q) (serialized_of q)) table }
plan_read (refused k) allow table = record { verdict = refused k; numbers = table }

unfoldable pub planned : List ℕ → Bool → List ℕ → Written
planned s allow table = plan_read (read s) allow table

-- Working out starts: the refusals of judging, then 13, then 14. Our starts are these N numbers.
unfoldable pub starts_verdict : Records → Bool → List ℕ → List ℕ → Outcome ℕ
starts_verdict q allow list out =
    when_given (judge_records q allow)
    (λ v. refuse_if (delays_wrong q.steps list) 13 (refuse_if (too_short list (count_of q) || too_short out (count_of q)) 14 (given v)))

unfoldable pub starts_read : Outcome Records → Bool → List ℕ → List ℕ → Written
starts_read (given q) allow list out = record { verdict = starts_verdict q allow list out; numbers = written (starts_verdict q allow list out) (start_times (count_of q) (leasts_of q) (serialized_of q) (delays list)) out }
starts_read (refused k) allow list out = record { verdict = refused k; numbers = out }

unfoldable pub starts_answer : List ℕ → Bool → List ℕ → List ℕ → Written
starts_answer s allow list out = starts_read (read s) allow list out

-- What a run of a sheet is begun with (request L6): N, the map of its open steps, step 0 among them, and the leasts of its steps, at the front of the numbers that are lent for them.
pub record Beginning : Type 0 where
  pub n : ℕ
  pub unbounded : ℕ
  pub leasts : List ℕ

unfoldable pub open_map : List Operation → ℕ
open_map os = bits_below (λ i. is_open (delay_at os i)) (length os)

unfoldable pub beginning : Records → List ℕ → Beginning
beginning q lent = record { n = count_of q; unbounded = open_map q.steps; leasts = tabulate (leasts_of q) (count_of q) ++ drop (count_of q) lent }

-- Asked for: the refusals of reading, then 14.
unfoldable pub steps_read : Records → List ℕ → Outcome Beginning
steps_read q lent = refuse_if (too_short lent (count_of q)) 14 (given (beginning q lent))

unfoldable pub steps_answer : List ℕ → List ℕ → Outcome Beginning
steps_answer s lent = when_given (read s) (λ q. steps_read q lent)

-- Row asked for: 2, 5, 14.
unfoldable pub bad_count : ℕ → Bool
bad_count n = not (leb 1 n && leb n most_steps)

unfoldable pub row_answer : List ℕ → ℕ → ℕ → Outcome (List ℕ)
row_answer table n v = refuse_if (bad_count n) 2 (refuse_if (leb n v) 5 (refuse_if (too_short table (n * n)) 14 (given (row_part table n v))))
