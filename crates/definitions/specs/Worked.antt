-- "Marked and unmarked sheets": the sheets marked ★ in document 01, and sheets of ours for readings that those do not tell apart and for requests L11, L1, L3, L6 and L14. One table, proved against the definitions in one go; one more for the calls of L14.
-- And one of parts for the writer of request L4, and one of prices for request L5.
use Rattle.std.specs.Prelude.{◌≡◌, refl, Bool, true, false, ℕ, ◌+◌, length, replicate, None, Option, Some}
use mathlib.Core.List.{List, [], ◌∷◌, ◌++◌, map, flat_map}
use Rattle.definitions.specs.Limits.{most_steps}
use Rattle.definitions.specs.Basics.{any, all, without, any_below, all_below, tabulate, select_below, largest, sum_below, test_bit, bits_below, Outcome, given, refused, refuse_if, when_given}
use Rattle.definitions.specs.Bytes.{Records, demand, byte, two_bytes, ticks_if, operation_map, delay_from, operation, link_map, sequenced, endpoints, rises, bound_from, link, records, operations, pair_of, links, at_end, sheet, read}
use Rattle.definitions.specs.Links.{sequencing_of, minimum_of, maximum_of, finish_maximum_of, ticks_said, least_with, least_at, link_constraints, constraints, leads_into, follows_nothing, loose_steps, completed, links_of, delay_at, is_open, sequencing_edge, finish_edge, edge_of, edges, forwards, late_into, usable}
use Rattle.definitions.specs.Rounds.{extend, raise, round, rounds, stable, source_row, seed, seeds, after_row, bares, reaches, after_reaches}
use Rattle.definitions.specs.Anchors.{in_anchor_set}
use Rattle.definitions.specs.Waits.{WaitPair, waits_for, waits_of, wait_list, wait_count, needs_waits, serialized, wait_pair}
use Rattle.definitions.specs.Plan.{first_row, offset_row, offset, start_from, start_turns, start_times, overrides, decides, plan_entry, plan_row, plan_rows, plan_table, delay_limit, delay_wrong, delays_wrong, undecided}
use Rattle.definitions.specs.Answers.{closes_circle, infeasible, inconsistent, unserializable, judge_edges, edges_of, serialized_of, judge_records, Written, written, too_short, starts_verdict, starts_read, starts_answer, plan_verdict, plan_read, planned, open_map, beginning, steps_read, steps_answer, bad_count}
use Rattle.definitions.specs.Clashes.{is_impossible, impossible, part_of, drop_records, few, few_verdict, few_read, few_answer}
use Rattle.definitions.specs.Writer.{two_bytes_of, field_of, bit_of, duration_of, open_bit, operation_map_of, operation_bytes, link_map_of, link_bytes, put_in, rising, sheet_bytes, steps_mapped, bad_maps, unsequenced, bad_ends, same_pair, comes_twice, parts_short, write_verdict, write_answer}
use Rattle.definitions.specs.Price.{power_from, printed_entry, printed_table, entry_at, stands_at, largest_offset, registers_of, comparisons_of, too_large, price_of, plan_of, price_records, price_judged, price_verdict, Priced, price_when, price_read, price_answer, registers_text, comparisons_text, price_text, report_when, report_read, price_report}
use Rattle.definitions.specs.Dispatcher.{entry, names, due, ready, starting, start_ticks, Progress, sweep, begun, not_running, kept_leasts, fresh, with_source, begin, ticked, tick, cannot_finish, too_early, ended, finish, state_after, called}
use Rattle.definitions.specs.declared.Delay.TheVariants.{Open, Fixed}
use Rattle.definitions.specs.declared.Operation.{Operation}
use Rattle.definitions.specs.declared.Link.{Link}
use Rattle.definitions.specs.declared.Call.{Call}
use Rattle.definitions.specs.declared.Call.TheVariants.{Begin, Tick, Finish}
use Rattle.definitions.specs.declared.State.{State}
use Rattle.definitions.specs.Output.{StartLine, Listing, lines_of, start_lines, list_records, listed, digits, decimal, field, wait_text, start_text, listing_text, standplan}

-- To unfold these is to unfold the executable definitions of a part, and the last those of all parts, so that a sheet is worked out by computing.
unfoldable every_basics : Unit {0}
unfolding any all without any_below all_below tabulate select_below largest sum_below test_bit bits_below refuse_if when_given flat_map
every_basics = tt

unfoldable every_reading : Unit {0}
unfolding demand byte two_bytes ticks_if operation_map delay_from operation link_map sequenced endpoints rises bound_from link records operations pair_of links at_end sheet read
every_reading = tt

unfoldable every_links : Unit {0}
unfolding sequencing_of minimum_of maximum_of finish_maximum_of ticks_said least_with least_at link_constraints constraints leads_into follows_nothing loose_steps completed links_of delay_at is_open sequencing_edge finish_edge edge_of edges forwards late_into usable extend raise round rounds stable source_row seed seeds after_row bares reaches after_reaches
every_links = tt

unfoldable every_plan : Unit {0}
unfolding in_anchor_set waits_for waits_of wait_list wait_count needs_waits serialized first_row offset_row offset start_from start_turns start_times overrides decides plan_entry plan_row plan_rows plan_table delay_limit delay_wrong delays_wrong
every_plan = tt

unfoldable every_answers : Unit {0}
unfolding closes_circle infeasible inconsistent unserializable judge_edges edges_of serialized_of judge_records written too_short starts_verdict starts_read starts_answer plan_verdict plan_read planned open_map beginning steps_read steps_answer bad_count
every_answers = tt

unfoldable every_clashes : Unit {0}
unfolding is_impossible impossible part_of drop_records few few_verdict few_read few_answer
every_clashes = tt

unfoldable every_text : Unit {0}
unfolding lines_of start_lines list_records listed digits decimal field wait_text start_text listing_text standplan
every_text = tt

unfoldable every_runner : Unit {0}
unfolding entry names due ready starting start_ticks sweep begun not_running kept_leasts fresh with_source begin ticked tick cannot_finish too_early ended finish state_after
every_runner = tt

unfoldable every_writing : Unit {0}
unfolding two_bytes_of field_of bit_of duration_of open_bit operation_map_of operation_bytes link_map_of link_bytes put_in rising sheet_bytes steps_mapped bad_maps unsequenced bad_ends same_pair comes_twice parts_short write_verdict write_answer
every_writing = tt

unfoldable every_price : Unit {0}
unfolding power_from printed_entry printed_table entry_at stands_at largest_offset registers_of comparisons_of too_large price_of plan_of price_records price_judged price_verdict price_when price_read price_answer registers_text comparisons_text price_text report_when report_read price_report
every_price = tt

unfoldable pub every_definition : Unit {0}
unfolding every_basics every_reading every_links every_plan every_answers every_clashes every_text every_runner
every_definition = tt

-- What is asked of a sheet: its listing, waits allowed or not, or its starts for a list of durations.
pub data Question : Type 0 where
  listing : Bool → Question
  times_for : List ℕ → Question

pub data Answer : Type 0 where
  lists : Outcome Listing → Answer
  starts : Written → Answer

pub record Worked : Type 0 where
  pub bytes : List ℕ
  pub question : Question
  pub expected : Answer

-- What the definitions answer; starts are written over as many numbers as the list has.
unfoldable pub ask : List ℕ → Question → Answer
ask s (listing allow) = lists (listed s allow)
ask s (times_for list) = starts (starts_answer s false list list)

unfoldable pub answered : Worked → Answer
answered w = ask w.bytes w.question

abbrev line : ℕ → ℕ → ℕ → StartLine
line v a ticks = record { step = v; decider = a; ticks = ticks }

abbrev accepted : ℕ → List WaitPair → List StartLine → Answer
accepted verdict waits lines = lists (given (record { verdict = verdict; waits = waits; starts = lines }))

abbrev refuses : ℕ → Answer
refuses k = lists (refused k)

-- A sheet and the refusal that it meets.
abbrev faulty : List ℕ → ℕ → Worked
faulty bytes k = record { bytes = bytes; question = listing true; expected = refuses k }

abbrev started : List ℕ → Answer
started times = starts (record { verdict = given 0; numbers = times })

-- `01 00 00 01`.
abbrev pub smallest : List ℕ
smallest = 0x01 ∷ 0x00 ∷ 0x00 ∷ 0x01 ∷ []

-- The stand sheet with a limit on (3, 4).
abbrev pub stand : ℕ → List ℕ
stand limit = 0x05 ∷ 0x05 ∷ 0x00 ∷ 0x01 ∷ 0x02 ∷ 0x03 ∷ 0x00 ∷ 0x01 ∷ 0x02 ∷ 0x02 ∷ 0x00 ∷ 0x02 ∷ 0x01 ∷ 0x00 ∷ 0x01 ∷ 0x00 ∷ 0x01 ∷ 0x01 ∷ 0x00 ∷ 0x02 ∷ 0x01 ∷ 0x01 ∷ 0x04 ∷ 0x01 ∷ 0x02 ∷ 0x03 ∷ 0x05 ∷ 0x03 ∷ 0x04 ∷ limit ∷ 0x00 ∷ []

-- Two hands: 1 and 2 open, each after 0; 3 after 1, 4 after 2; at most 5 on (3, 4).
abbrev pub two_hands : List ℕ
two_hands = 0x05 ∷ 0x05 ∷ 0x00 ∷ 0x01 ∷ 0x01 ∷ 0x01 ∷ 0x00 ∷ 0x00 ∷ 0x01 ∷ 0x00 ∷ 0x01 ∷ 0x01 ∷ 0x00 ∷ 0x02 ∷ 0x01 ∷ 0x01 ∷ 0x03 ∷ 0x01 ∷ 0x02 ∷ 0x04 ∷ 0x04 ∷ 0x03 ∷ 0x04 ∷ 0x05 ∷ 0x00 ∷ []

-- Open 1 after 0, 2 after 1, at most 9 on (1, 2).
abbrev pub own_end : List ℕ
own_end = 0x03 ∷ 0x02 ∷ 0x00 ∷ 0x01 ∷ 0x01 ∷ 0x00 ∷ 0x01 ∷ 0x00 ∷ 0x01 ∷ 0x05 ∷ 0x01 ∷ 0x02 ∷ 0x09 ∷ 0x00 ∷ []

-- Open 1 after 0; 2 after 1 and at least 10 on (1, 2).
abbrev pub from_start : List ℕ
from_start = 0x03 ∷ 0x02 ∷ 0x00 ∷ 0x01 ∷ 0x01 ∷ 0x00 ∷ 0x01 ∷ 0x00 ∷ 0x01 ∷ 0x03 ∷ 0x01 ∷ 0x02 ∷ 0x0a ∷ 0x00 ∷ []

-- Fixed 1 after 0, at most 0 on (0, 1).
abbrev pub at_once : List ℕ
at_once = 0x02 ∷ 0x01 ∷ 0x00 ∷ 0x01 ∷ 0x00 ∷ 0x05 ∷ 0x00 ∷ 0x01 ∷ 0x00 ∷ 0x00 ∷ []

-- 1 after 0, at least 0 on (1, 2) and on (2, 1).
abbrev pub circle : List ℕ
circle = 0x03 ∷ 0x03 ∷ 0x00 ∷ 0x01 ∷ 0x00 ∷ 0x00 ∷ 0x01 ∷ 0x00 ∷ 0x01 ∷ 0x02 ∷ 0x01 ∷ 0x02 ∷ 0x00 ∷ 0x00 ∷ 0x02 ∷ 0x02 ∷ 0x01 ∷ 0x00 ∷ 0x00 ∷ []

-- Ours. Open 1 after 0, 2 after 1; 3 and 4 after 0; at most 5 on (3, 2) and on (4, 3): step 4 waits too, through two returns.
abbrev pub two_returns : List ℕ
two_returns = 0x05 ∷ 0x06 ∷ 0x00 ∷ 0x01 ∷ 0x01 ∷ 0x00 ∷ 0x00 ∷ 0x00 ∷ 0x01 ∷ 0x00 ∷ 0x01 ∷ 0x01 ∷ 0x00 ∷ 0x03 ∷ 0x01 ∷ 0x00 ∷ 0x04 ∷ 0x01 ∷ 0x01 ∷ 0x02 ∷ 0x04 ∷ 0x03 ∷ 0x02 ∷ 0x05 ∷ 0x00 ∷ 0x04 ∷ 0x04 ∷ 0x03 ∷ 0x05 ∷ 0x00 ∷ []

-- Request L11. Exposure at most five ticks after the hand: open 1 after 0; 2 of 3 ticks after 1, at most 5 from the finish of 1. The hand does not wait for itself.
abbrev pub exposure : List ℕ
exposure = 0x03 ∷ 0x02 ∷ 0x00 ∷ 0x01 ∷ 0x01 ∷ 0x02 ∷ 0x03 ∷ 0x00 ∷ 0x01 ∷ 0x00 ∷ 0x01 ∷ 0x11 ∷ 0x01 ∷ 0x02 ∷ 0x05 ∷ 0x00 ∷ []

-- 1 and 2 open, each after 0; 3 after both, at most 4 from the finish of 1: so 1 waits for 2. A rival that knows the durations would start 1 earlier.
abbrev pub hand_over : List ℕ
hand_over = 0x04 ∷ 0x04 ∷ 0x00 ∷ 0x01 ∷ 0x01 ∷ 0x01 ∷ 0x00 ∷ 0x01 ∷ 0x00 ∷ 0x01 ∷ 0x01 ∷ 0x00 ∷ 0x02 ∷ 0x11 ∷ 0x01 ∷ 0x03 ∷ 0x04 ∷ 0x00 ∷ 0x01 ∷ 0x02 ∷ 0x03 ∷ []

-- The same, and at most 4 from the finish of 2: each waits for the other.
abbrev pub both_finish : List ℕ
both_finish = 0x04 ∷ 0x04 ∷ 0x00 ∷ 0x01 ∷ 0x01 ∷ 0x01 ∷ 0x00 ∷ 0x01 ∷ 0x00 ∷ 0x01 ∷ 0x01 ∷ 0x00 ∷ 0x02 ∷ 0x11 ∷ 0x01 ∷ 0x03 ∷ 0x04 ∷ 0x00 ∷ 0x11 ∷ 0x02 ∷ 0x03 ∷ 0x04 ∷ 0x00 ∷ []

-- Open 1 after 0, 2 after 0; 3 after 1, at most 5 from the finish of 1, and at least 10 on (2, 3); 4 after 1, at most 7 on (2, 4). So 2 waits for 1, and 3 comes too late: no circle.
abbrev pub too_late : List ℕ
too_late = 0x05 ∷ 0x06 ∷ 0x00 ∷ 0x01 ∷ 0x01 ∷ 0x00 ∷ 0x00 ∷ 0x00 ∷ 0x01 ∷ 0x00 ∷ 0x01 ∷ 0x01 ∷ 0x00 ∷ 0x02 ∷ 0x11 ∷ 0x01 ∷ 0x03 ∷ 0x05 ∷ 0x00 ∷ 0x01 ∷ 0x01 ∷ 0x04 ∷ 0x02 ∷ 0x02 ∷ 0x03 ∷ 0x0a ∷ 0x00 ∷ 0x04 ∷ 0x02 ∷ 0x04 ∷ 0x07 ∷ 0x00 ∷ []

-- Open 1 after 0; at least 10 on (0, 2); 2 after 1, at most 4 from the finish of 1. The hand may take no time, so it is held back until 6; no waits. A rival that knows the durations would start it earlier.
abbrev pub held_back : List ℕ
held_back = 0x03 ∷ 0x03 ∷ 0x00 ∷ 0x01 ∷ 0x01 ∷ 0x00 ∷ 0x01 ∷ 0x00 ∷ 0x01 ∷ 0x02 ∷ 0x00 ∷ 0x02 ∷ 0x0a ∷ 0x00 ∷ 0x11 ∷ 0x01 ∷ 0x02 ∷ 0x04 ∷ 0x00 ∷ []

-- Open 1 after 0; open 2 and 4 of 10 ticks after 1; 3 after 2 and after 4, at most 3 from the finish of 2. From the end of 1 the walk over 4 and 3 comes back to 2 by the late return.
abbrev pub second_hand : List ℕ
second_hand = 0x05 ∷ 0x05 ∷ 0x00 ∷ 0x01 ∷ 0x01 ∷ 0x01 ∷ 0x00 ∷ 0x02 ∷ 0x0a ∷ 0x00 ∷ 0x01 ∷ 0x00 ∷ 0x01 ∷ 0x01 ∷ 0x01 ∷ 0x02 ∷ 0x01 ∷ 0x01 ∷ 0x04 ∷ 0x11 ∷ 0x02 ∷ 0x03 ∷ 0x03 ∷ 0x00 ∷ 0x01 ∷ 0x04 ∷ 0x03 ∷ []

-- 1 of 3 ticks after 0; 2 after 1, at least m on (1, 2), at most 2 from the finish of 1: m may be 5 and no more.
abbrev pub fixed_finish : ℕ → List ℕ
fixed_finish m = 0x03 ∷ 0x02 ∷ 0x00 ∷ 0x01 ∷ 0x02 ∷ 0x03 ∷ 0x00 ∷ 0x00 ∷ 0x01 ∷ 0x00 ∷ 0x01 ∷ 0x13 ∷ 0x01 ∷ 0x02 ∷ m ∷ 0x00 ∷ 0x02 ∷ 0x00 ∷ []

-- 1 after 0, at least m on (0, 1), at most 5 from the finish of 0, which is tick 0.
abbrev pub source_finish : ℕ → List ℕ
source_finish m = 0x02 ∷ 0x01 ∷ 0x00 ∷ 0x01 ∷ 0x00 ∷ 0x13 ∷ 0x00 ∷ 0x01 ∷ m ∷ 0x00 ∷ 0x05 ∷ 0x00 ∷ []

-- Request L1. The suction lip needs six ticks to let go after the hand is done: open 1 after 0; 2 after 1 with the gap 6.
abbrev pub lip : List ℕ
lip = 0x03 ∷ 0x02 ∷ 0x00 ∷ 0x01 ∷ 0x01 ∷ 0x00 ∷ 0x01 ∷ 0x00 ∷ 0x01 ∷ 0x09 ∷ 0x01 ∷ 0x02 ∷ 0x06 ∷ 0x00 ∷ []

-- The same, at most u from the finish of 1: u may be 6 and no less.
abbrev pub lip_limited : ℕ → List ℕ
lip_limited u = 0x03 ∷ 0x02 ∷ 0x00 ∷ 0x01 ∷ 0x01 ∷ 0x00 ∷ 0x01 ∷ 0x00 ∷ 0x01 ∷ 0x19 ∷ 0x01 ∷ 0x02 ∷ 0x06 ∷ 0x00 ∷ u ∷ 0x00 ∷ []

-- 1 after 0 with the gap 7; 2 after 1, which is open, with the gap 2: a gap out of step 0, and one on the way.
abbrev pub gap_of_source : List ℕ
gap_of_source = 0x03 ∷ 0x02 ∷ 0x00 ∷ 0x01 ∷ 0x01 ∷ 0x00 ∷ 0x09 ∷ 0x00 ∷ 0x01 ∷ 0x07 ∷ 0x00 ∷ 0x09 ∷ 0x01 ∷ 0x02 ∷ 0x02 ∷ 0x00 ∷ []

-- 1 of 3 ticks after 0; on (1, 2) at least 8, at most 9, after with the gap 4, at most 6 from the finish: every field in one record.
abbrev pub every_field : List ℕ
every_field = 0x03 ∷ 0x02 ∷ 0x00 ∷ 0x01 ∷ 0x02 ∷ 0x03 ∷ 0x00 ∷ 0x00 ∷ 0x01 ∷ 0x00 ∷ 0x01 ∷ 0x1f ∷ 0x01 ∷ 0x02 ∷ 0x08 ∷ 0x00 ∷ 0x09 ∷ 0x00 ∷ 0x04 ∷ 0x00 ∷ 0x06 ∷ 0x00 ∷ []

-- 1 of 3 ticks after 0; 2 after 1 with the gap 4.
abbrev pub gap_of_fixed : List ℕ
gap_of_fixed = 0x03 ∷ 0x02 ∷ 0x00 ∷ 0x01 ∷ 0x02 ∷ 0x03 ∷ 0x00 ∷ 0x00 ∷ 0x01 ∷ 0x00 ∷ 0x01 ∷ 0x09 ∷ 0x01 ∷ 0x02 ∷ 0x04 ∷ 0x00 ∷ []

-- Two hands, where 3 is after 1 with the gap 6: the wait of 3 for 2 has none.
abbrev pub gap_and_wait : List ℕ
gap_and_wait = 0x05 ∷ 0x05 ∷ 0x00 ∷ 0x01 ∷ 0x01 ∷ 0x01 ∷ 0x00 ∷ 0x00 ∷ 0x01 ∷ 0x00 ∷ 0x01 ∷ 0x01 ∷ 0x00 ∷ 0x02 ∷ 0x09 ∷ 0x01 ∷ 0x03 ∷ 0x06 ∷ 0x00 ∷ 0x01 ∷ 0x02 ∷ 0x04 ∷ 0x04 ∷ 0x03 ∷ 0x04 ∷ 0x05 ∷ 0x00 ∷ []

-- Request L3. The stand sheet without its links from step 0: the lamps and the hand follow nothing.
abbrev pub half_loose : List ℕ
half_loose = 0x05 ∷ 0x03 ∷ 0x00 ∷ 0x01 ∷ 0x02 ∷ 0x03 ∷ 0x00 ∷ 0x01 ∷ 0x02 ∷ 0x02 ∷ 0x00 ∷ 0x02 ∷ 0x01 ∷ 0x00 ∷ 0x01 ∷ 0x01 ∷ 0x04 ∷ 0x01 ∷ 0x02 ∷ 0x03 ∷ 0x05 ∷ 0x03 ∷ 0x04 ∷ 0x02 ∷ 0x00 ∷ []

-- Open 1 and 2 of 5 ticks, and no link at all.
abbrev pub all_loose : List ℕ
all_loose = 0x03 ∷ 0x00 ∷ 0x00 ∷ 0x01 ∷ 0x01 ∷ 0x02 ∷ 0x05 ∷ 0x00 ∷ []

-- 0 after 1, and nothing leads into 1: a circle through step 0.
abbrev pub back_to_source : List ℕ
back_to_source = 0x02 ∷ 0x01 ∷ 0x00 ∷ 0x01 ∷ 0x00 ∷ 0x01 ∷ 0x01 ∷ 0x00 ∷ []

-- At least 10 on (0, 2), at most 5 on (1, 2): a return alone leads into 1.
abbrev pub return_alone : List ℕ
return_alone = 0x03 ∷ 0x02 ∷ 0x00 ∷ 0x01 ∷ 0x00 ∷ 0x00 ∷ 0x02 ∷ 0x00 ∷ 0x02 ∷ 0x0a ∷ 0x00 ∷ 0x04 ∷ 0x01 ∷ 0x02 ∷ 0x05 ∷ 0x00 ∷ []

-- Open 1; 2 of 3 ticks after 1, at most 5 from the finish of 1: a late return alone leads into 1.
abbrev pub late_return_alone : List ℕ
late_return_alone = 0x03 ∷ 0x01 ∷ 0x00 ∷ 0x01 ∷ 0x01 ∷ 0x02 ∷ 0x03 ∷ 0x00 ∷ 0x11 ∷ 0x01 ∷ 0x02 ∷ 0x05 ∷ 0x00 ∷ []

-- At least 3 on (1, 2), which leads into 2; nothing leads into 1, which is open.
abbrev pub minimum_alone : List ℕ
minimum_alone = 0x03 ∷ 0x01 ∷ 0x00 ∷ 0x01 ∷ 0x01 ∷ 0x00 ∷ 0x02 ∷ 0x01 ∷ 0x02 ∷ 0x03 ∷ 0x00 ∷ []

-- Request L6. No hand places a folio in under l ticks: open 1 with the least l after 0; 2 after 1.
abbrev pub slow_hand : ℕ → List ℕ
slow_hand l = 0x03 ∷ 0x02 ∷ 0x00 ∷ 0x01 ∷ 0x05 ∷ l ∷ 0x00 ∷ 0x00 ∷ 0x01 ∷ 0x00 ∷ 0x01 ∷ 0x01 ∷ 0x01 ∷ 0x02 ∷ []

-- Two slow hands, one after the other: open 1 with the least 8 after 0, open 2 with the least 258 after 1, 3 after 2 with the gap 4, and at least 256 + m on (1, 3):
-- step 0 decides 3 where that is above the sum of both leasts and the gap.
abbrev pub slow_hands : ℕ → List ℕ
slow_hands m = 0x04 ∷ 0x04 ∷ 0x00 ∷ 0x01 ∷ 0x05 ∷ 0x08 ∷ 0x00 ∷ 0x05 ∷ 0x02 ∷ 0x01 ∷ 0x00 ∷ 0x01 ∷ 0x00 ∷ 0x01 ∷ 0x01 ∷ 0x01 ∷ 0x02 ∷ 0x02 ∷ 0x01 ∷ 0x03 ∷ m ∷ 0x01 ∷ 0x09 ∷ 0x02 ∷ 0x03 ∷ 0x04 ∷ 0x00 ∷ []

-- Open 1 with the least l after 0; 2 after 1 and at least 10 on (1, 2): from the least 10 on step 0 no longer decides 2.
abbrev pub from_start_slow : ℕ → List ℕ
from_start_slow l = 0x03 ∷ 0x02 ∷ 0x00 ∷ 0x01 ∷ 0x05 ∷ l ∷ 0x00 ∷ 0x00 ∷ 0x01 ∷ 0x00 ∷ 0x01 ∷ 0x03 ∷ 0x01 ∷ 0x02 ∷ 0x0a ∷ 0x00 ∷ []

-- Open 1 with the least l after 0, 2 after 1, at most 9 on (1, 2): 11 while the least is within the limit, 10 above it.
abbrev pub own_end_slow : ℕ → List ℕ
own_end_slow l = 0x03 ∷ 0x02 ∷ 0x00 ∷ 0x01 ∷ 0x05 ∷ l ∷ 0x00 ∷ 0x00 ∷ 0x01 ∷ 0x00 ∷ 0x01 ∷ 0x05 ∷ 0x01 ∷ 0x02 ∷ 0x09 ∷ 0x00 ∷ []

-- Open 1 with the least l after 0; at least 10 on (0, 2); 2 after 1, at most 4 from the finish of 1: the hand is held back until 10 less 4 less its least.
abbrev pub held_back_slow : ℕ → List ℕ
held_back_slow l = 0x03 ∷ 0x03 ∷ 0x00 ∷ 0x01 ∷ 0x05 ∷ l ∷ 0x00 ∷ 0x00 ∷ 0x01 ∷ 0x00 ∷ 0x01 ∷ 0x02 ∷ 0x00 ∷ 0x02 ∷ 0x0a ∷ 0x00 ∷ 0x11 ∷ 0x01 ∷ 0x02 ∷ 0x04 ∷ 0x00 ∷ []

-- The sheet that is too late, where 1 has the least l: the wait of 2 for 1 weighs it, and so does the late return into 1, so that it is 28 whatever the least.
abbrev pub too_late_slow : ℕ → List ℕ
too_late_slow l = 0x05 ∷ 0x06 ∷ 0x00 ∷ 0x01 ∷ 0x05 ∷ l ∷ 0x00 ∷ 0x00 ∷ 0x00 ∷ 0x00 ∷ 0x01 ∷ 0x00 ∷ 0x01 ∷ 0x01 ∷ 0x00 ∷ 0x02 ∷ 0x11 ∷ 0x01 ∷ 0x03 ∷ 0x05 ∷ 0x00 ∷ 0x01 ∷ 0x01 ∷ 0x04 ∷ 0x02 ∷ 0x02 ∷ 0x03 ∷ 0x0a ∷ 0x00 ∷ 0x04 ∷ 0x02 ∷ 0x04 ∷ 0x07 ∷ 0x00 ∷ []

-- Open 1 and open 6 with the least l; 3 after 1, at most 5 from the finish of 1; 4 after 1, at most 7 on (2, 4), so that 2 waits for 1; at least 10 on (2, 5);
-- at least 3 on (6, 3); 5 after 6, at most 2 from the finish of 6. With the wait in, 3 starts at least 11 less l ticks after the end of 1: 28 below the least 6.
abbrev pub late_by_least : ℕ → List ℕ
late_by_least l =
    0x07 ∷ 0x06 ∷ 0x00 ∷ 0x01 ∷ 0x01 ∷ 0x00 ∷ 0x00 ∷ 0x00 ∷ 0x00 ∷ 0x05 ∷ l ∷ 0x00 ∷
    0x11 ∷ 0x01 ∷ 0x03 ∷ 0x05 ∷ 0x00 ∷ 0x01 ∷ 0x01 ∷ 0x04 ∷ 0x04 ∷ 0x02 ∷ 0x04 ∷ 0x07 ∷ 0x00 ∷ 0x02 ∷ 0x02 ∷ 0x05 ∷ 0x0a ∷ 0x00 ∷
    0x02 ∷ 0x06 ∷ 0x03 ∷ 0x03 ∷ 0x00 ∷ 0x11 ∷ 0x06 ∷ 0x05 ∷ 0x02 ∷ 0x00 ∷ []

-- The marked sheets, in document 01's order; then ours: a chain of returns, and the first fault met in sheets that have more than one, or that are cut; then those of request L11, of L1, of L3 and of L6.
unfoldable pub worked_sheets : List Worked
worked_sheets =
    record { bytes = smallest; question = listing true; expected = accepted 0 [] (line 0 0 0 ∷ []) } ∷
    record { bytes = stand 2; question = listing true; expected = accepted 0 [] (line 0 0 0 ∷ line 1 0 0 ∷ line 2 0 0 ∷ line 3 0 1 ∷ line 3 2 0 ∷ line 4 0 3 ∷ line 4 2 2 ∷ []) } ∷
    record { bytes = stand 1; question = listing true; expected = refuses 10 } ∷
    record { bytes = two_hands; question = listing true; expected = accepted 1 (wait_pair 2 3 ∷ []) (line 0 0 0 ∷ line 1 0 0 ∷ line 2 0 0 ∷ line 3 1 0 ∷ line 3 2 0 ∷ line 4 2 0 ∷ []) } ∷
    record { bytes = two_hands; question = listing false; expected = refuses 12 } ∷
    record { bytes = own_end; question = listing true; expected = refuses 11 } ∷
    record { bytes = from_start; question = listing true; expected = accepted 0 [] (line 0 0 0 ∷ line 1 0 0 ∷ line 2 0 10 ∷ line 2 1 0 ∷ []) } ∷
    record { bytes = at_once; question = listing true; expected = accepted 0 [] (line 0 0 0 ∷ line 1 0 0 ∷ []) } ∷
    record { bytes = circle; question = listing true; expected = refuses 8 } ∷
    record { bytes = stand 2; question = times_for (0 ∷ 0 ∷ 10 ∷ 0 ∷ 0 ∷ []); expected = started (0 ∷ 0 ∷ 0 ∷ 10 ∷ 12 ∷ []) } ∷
    record { bytes = stand 2; question = times_for (0 ∷ 0 ∷ 0 ∷ 0 ∷ 0 ∷ []); expected = started (0 ∷ 0 ∷ 0 ∷ 1 ∷ 3 ∷ []) } ∷
    record { bytes = two_returns; question = listing true; expected = accepted 1 (wait_pair 1 3 ∷ wait_pair 1 4 ∷ []) (line 0 0 0 ∷ line 1 0 0 ∷ line 2 1 0 ∷ line 3 1 0 ∷ line 4 1 0 ∷ []) } ∷
    faulty (0x00 ∷ []) 2 ∷
    faulty (0x41 ∷ []) 2 ∷
    faulty (0x00 ∷ 0x01 ∷ 0x02 ∷ []) 2 ∷
    faulty (0x01 ∷ 0x01 ∷ 0x02 ∷ []) 3 ∷
    faulty (0x05 ∷ 0x01 ∷ []) 1 ∷
    faulty (0x01 ∷ 0x00 ∷ 0x00 ∷ []) 1 ∷
    faulty (0x01 ∷ 0x00 ∷ 0x00 ∷ 0x02 ∷ []) 4 ∷
    faulty (0x02 ∷ 0x01 ∷ 0x00 ∷ 0x01 ∷ 0x03 ∷ []) 4 ∷
    faulty (0x02 ∷ 0x01 ∷ 0x00 ∷ 0x01 ∷ 0x00 ∷ 0x08 ∷ []) 4 ∷
    faulty (0x02 ∷ 0x01 ∷ 0x00 ∷ 0x01 ∷ 0x00 ∷ 0x00 ∷ []) 4 ∷
    faulty (0x02 ∷ 0x01 ∷ 0x00 ∷ 0x01 ∷ 0x00 ∷ 0x01 ∷ 0x05 ∷ []) 1 ∷
    faulty (0x02 ∷ 0x01 ∷ 0x00 ∷ 0x01 ∷ 0x00 ∷ 0x01 ∷ 0x05 ∷ 0x00 ∷ []) 5 ∷
    faulty (0x02 ∷ 0x01 ∷ 0x00 ∷ 0x01 ∷ 0x00 ∷ 0x01 ∷ 0x01 ∷ 0x01 ∷ []) 5 ∷
    faulty (0x02 ∷ 0x02 ∷ 0x00 ∷ 0x01 ∷ 0x00 ∷ 0x01 ∷ 0x00 ∷ 0x01 ∷ 0x02 ∷ 0x00 ∷ 0x01 ∷ []) 6 ∷
    faulty (0x02 ∷ 0x02 ∷ 0x00 ∷ 0x01 ∷ 0x00 ∷ 0x01 ∷ 0x00 ∷ 0x01 ∷ 0x01 ∷ 0x01 ∷ 0x01 ∷ []) 5 ∷
    faulty (0x02 ∷ 0x01 ∷ 0x00 ∷ 0x01 ∷ 0x00 ∷ 0x02 ∷ 0x00 ∷ 0x01 ∷ 0x01 ∷ []) 1 ∷
    faulty (0x01 ∷ 0x00 ∷ 0x00 ∷ 0x01 ∷ 0x00 ∷ []) 7 ∷
    faulty back_to_source 8 ∷
    faulty (0x03 ∷ 0x02 ∷ 0x00 ∷ 0x01 ∷ 0x00 ∷ 0x00 ∷ 0x02 ∷ 0x01 ∷ 0x02 ∷ 0x00 ∷ 0x00 ∷ 0x02 ∷ 0x02 ∷ 0x01 ∷ 0x00 ∷ 0x00 ∷ []) 8 ∷
    record { bytes = exposure; question = listing false; expected = accepted 0 [] (line 0 0 0 ∷ line 1 0 0 ∷ line 2 1 0 ∷ []) } ∷
    record { bytes = exposure; question = times_for (0 ∷ 9 ∷ 0 ∷ []); expected = started (0 ∷ 0 ∷ 9 ∷ []) } ∷
    record { bytes = hand_over; question = listing true; expected = accepted 1 (wait_pair 2 1 ∷ []) (line 0 0 0 ∷ line 1 2 0 ∷ line 2 0 0 ∷ line 3 1 0 ∷ []) } ∷
    record { bytes = hand_over; question = listing false; expected = refuses 12 } ∷
    record { bytes = both_finish; question = listing true; expected = refuses 28 } ∷
    record { bytes = both_finish; question = listing false; expected = refuses 28 } ∷
    record { bytes = too_late; question = listing true; expected = refuses 28 } ∷
    record { bytes = too_late; question = listing false; expected = refuses 28 } ∷
    record { bytes = fixed_finish 5; question = listing false; expected = accepted 0 [] (line 0 0 0 ∷ line 1 0 0 ∷ line 2 0 5 ∷ []) } ∷
    record { bytes = fixed_finish 6; question = listing true; expected = refuses 10 } ∷
    record { bytes = source_finish 5; question = listing false; expected = accepted 0 [] (line 0 0 0 ∷ line 1 0 5 ∷ []) } ∷
    record { bytes = source_finish 6; question = listing true; expected = refuses 10 } ∷
    record { bytes = held_back; question = listing false; expected = accepted 0 [] (line 0 0 0 ∷ line 1 0 6 ∷ line 2 0 10 ∷ line 2 1 0 ∷ []) } ∷
    record { bytes = held_back; question = times_for (0 ∷ 9 ∷ 0 ∷ []); expected = started (0 ∷ 6 ∷ 15 ∷ []) } ∷
    record { bytes = second_hand; question = listing false; expected = accepted 0 [] (line 0 0 0 ∷ line 1 0 0 ∷ line 2 1 7 ∷ line 3 1 10 ∷ line 3 2 0 ∷ line 4 1 0 ∷ []) } ∷
    record { bytes = second_hand; question = times_for (0 ∷ 5 ∷ 2 ∷ 0 ∷ 0 ∷ []); expected = started (0 ∷ 0 ∷ 12 ∷ 15 ∷ 5 ∷ []) } ∷
    faulty (0x02 ∷ 0x01 ∷ 0x00 ∷ 0x01 ∷ 0x00 ∷ 0x10 ∷ []) 26 ∷
    faulty (0x02 ∷ 0x01 ∷ 0x00 ∷ 0x01 ∷ 0x00 ∷ 0x16 ∷ 0x05 ∷ 0x05 ∷ []) 26 ∷
    faulty (0x02 ∷ 0x01 ∷ 0x00 ∷ 0x01 ∷ 0x00 ∷ 0x30 ∷ []) 4 ∷
    faulty (0x02 ∷ 0x01 ∷ 0x00 ∷ 0x01 ∷ 0x00 ∷ 0x18 ∷ []) 4 ∷
    faulty (0x02 ∷ 0x01 ∷ 0x00 ∷ 0x01 ∷ 0x00 ∷ 0x15 ∷ 0x00 ∷ 0x01 ∷ 0x09 ∷ 0x00 ∷ 0x05 ∷ []) 1 ∷
    record { bytes = lip; question = listing false; expected = accepted 0 [] (line 0 0 0 ∷ line 1 0 0 ∷ line 2 1 6 ∷ []) } ∷
    record { bytes = lip; question = times_for (0 ∷ 9 ∷ 0 ∷ []); expected = started (0 ∷ 0 ∷ 15 ∷ []) } ∷
    record { bytes = lip_limited 6; question = listing false; expected = accepted 0 [] (line 0 0 0 ∷ line 1 0 0 ∷ line 2 1 6 ∷ []) } ∷
    record { bytes = lip_limited 5; question = listing true; expected = refuses 10 } ∷
    record { bytes = gap_of_source; question = listing false; expected = accepted 0 [] (line 0 0 0 ∷ line 1 0 7 ∷ line 2 1 2 ∷ []) } ∷
    record { bytes = gap_of_fixed; question = listing false; expected = accepted 0 [] (line 0 0 0 ∷ line 1 0 0 ∷ line 2 0 7 ∷ []) } ∷
    record { bytes = every_field; question = listing false; expected = accepted 0 [] (line 0 0 0 ∷ line 1 0 0 ∷ line 2 0 8 ∷ []) } ∷
    record { bytes = gap_and_wait; question = listing true; expected = accepted 1 (wait_pair 2 3 ∷ []) (line 0 0 0 ∷ line 1 0 0 ∷ line 2 0 0 ∷ line 3 1 6 ∷ line 3 2 0 ∷ line 4 2 0 ∷ []) } ∷
    faulty (0x02 ∷ 0x01 ∷ 0x00 ∷ 0x01 ∷ 0x00 ∷ 0x0e ∷ []) 4 ∷
    faulty (0x02 ∷ 0x01 ∷ 0x00 ∷ 0x01 ∷ 0x00 ∷ 0x1e ∷ []) 4 ∷
    faulty (0x02 ∷ 0x01 ∷ 0x00 ∷ 0x01 ∷ 0x00 ∷ 0x21 ∷ []) 4 ∷
    faulty (0x02 ∷ 0x01 ∷ 0x00 ∷ 0x01 ∷ 0x00 ∷ 0x09 ∷ 0x00 ∷ 0x01 ∷ 0x07 ∷ []) 1 ∷
    record { bytes = half_loose; question = listing true; expected = accepted 0 [] (line 0 0 0 ∷ line 1 0 0 ∷ line 2 0 0 ∷ line 3 0 1 ∷ line 3 2 0 ∷ line 4 0 3 ∷ line 4 2 2 ∷ []) } ∷
    record { bytes = all_loose; question = listing false; expected = accepted 0 [] (line 0 0 0 ∷ line 1 0 0 ∷ line 2 0 0 ∷ []) } ∷
    record { bytes = return_alone; question = listing false; expected = accepted 0 [] (line 0 0 0 ∷ line 1 0 5 ∷ line 2 0 10 ∷ []) } ∷
    record { bytes = late_return_alone; question = listing false; expected = accepted 0 [] (line 0 0 0 ∷ line 1 0 0 ∷ line 2 1 0 ∷ []) } ∷
    record { bytes = minimum_alone; question = listing false; expected = accepted 0 [] (line 0 0 0 ∷ line 1 0 0 ∷ line 2 0 3 ∷ []) } ∷
    record { bytes = slow_hand 8; question = listing false; expected = accepted 0 [] (line 0 0 0 ∷ line 1 0 0 ∷ line 2 1 0 ∷ []) } ∷
    record { bytes = slow_hand 8; question = times_for (0 ∷ 8 ∷ 0 ∷ []); expected = started (0 ∷ 0 ∷ 8 ∷ []) } ∷
    record { bytes = slow_hand 8; question = times_for (0 ∷ 7 ∷ 0 ∷ []); expected = starts (record { verdict = refused 13; numbers = 0 ∷ 7 ∷ 0 ∷ [] }) } ∷
    record { bytes = slow_hand 0; question = times_for (0 ∷ 0 ∷ 0 ∷ []); expected = started (0 ∷ 0 ∷ 0 ∷ []) } ∷
    record { bytes = slow_hands 14; question = listing false; expected = accepted 0 [] (line 0 0 0 ∷ line 1 0 0 ∷ line 2 1 0 ∷ line 3 2 4 ∷ []) } ∷
    record { bytes = slow_hands 15; question = listing false; expected = accepted 0 [] (line 0 0 0 ∷ line 1 0 0 ∷ line 2 1 0 ∷ line 3 0 271 ∷ line 3 2 4 ∷ []) } ∷
    record { bytes = from_start_slow 9; question = listing false; expected = accepted 0 [] (line 0 0 0 ∷ line 1 0 0 ∷ line 2 0 10 ∷ line 2 1 0 ∷ []) } ∷
    record { bytes = from_start_slow 10; question = listing false; expected = accepted 0 [] (line 0 0 0 ∷ line 1 0 0 ∷ line 2 1 0 ∷ []) } ∷
    record { bytes = own_end_slow 9; question = listing true; expected = refuses 11 } ∷
    record { bytes = own_end_slow 10; question = listing true; expected = refuses 10 } ∷
    record { bytes = held_back_slow 5; question = listing false; expected = accepted 0 [] (line 0 0 0 ∷ line 1 0 1 ∷ line 2 0 10 ∷ line 2 1 0 ∷ []) } ∷
    record { bytes = held_back_slow 5; question = times_for (0 ∷ 11 ∷ 0 ∷ []); expected = started (0 ∷ 1 ∷ 12 ∷ []) } ∷
    record { bytes = too_late_slow 6; question = listing true; expected = refuses 28 } ∷
    record { bytes = late_by_least 5; question = listing true; expected = refuses 28 } ∷
    record { bytes = late_by_least 6; question = listing true; expected = accepted 1 (wait_pair 1 2 ∷ wait_pair 1 6 ∷ []) (line 0 0 0 ∷ line 1 0 0 ∷ line 2 1 0 ∷ line 3 1 5 ∷ line 4 1 0 ∷ line 5 1 10 ∷ line 5 6 0 ∷ line 6 1 2 ∷ []) } ∷
    faulty (0x01 ∷ 0x00 ∷ 0x00 ∷ 0x05 ∷ 0x01 ∷ 0x00 ∷ []) 4 ∷
    faulty (0x01 ∷ 0x00 ∷ 0x00 ∷ 0x07 ∷ 0x01 ∷ 0x00 ∷ []) 4 ∷
    faulty (0x02 ∷ 0x00 ∷ 0x00 ∷ 0x01 ∷ 0x04 ∷ 0x01 ∷ 0x00 ∷ []) 4 ∷
    faulty (0x02 ∷ 0x00 ∷ 0x00 ∷ 0x01 ∷ 0x06 ∷ 0x01 ∷ 0x00 ∷ 0x01 ∷ 0x00 ∷ []) 4 ∷
    faulty (0x02 ∷ 0x00 ∷ 0x00 ∷ 0x01 ∷ 0x07 ∷ 0x01 ∷ 0x00 ∷ []) 4 ∷
    faulty (0x02 ∷ 0x00 ∷ 0x00 ∷ 0x01 ∷ 0x0d ∷ []) 4 ∷
    faulty (0x02 ∷ 0x00 ∷ 0x00 ∷ 0x01 ∷ 0x05 ∷ 0x01 ∷ []) 1 ∷
    []

-- Request L3: the steps of these sheets that follow nothing.
unfoldable pub loose_of : Outcome Records → List ℕ
loose_of (given q) = loose_steps (length q.steps) (constraints q.pairs)
loose_of (refused k) = []

pub loose_worked : map (λ s. loose_of (read s)) (stand 2 ∷ half_loose ∷ all_loose ∷ back_to_source ∷ return_alone ∷ late_return_alone ∷ minimum_alone ∷ []) ≡ [] ∷ (1 ∷ 2 ∷ []) ∷ (1 ∷ 2 ∷ []) ∷ (1 ∷ []) ∷ (1 ∷ []) ∷ (1 ∷ []) ∷ (1 ∷ []) ∷ []
unfolding every_definition loose_of
loose_worked = refl

-- What `standplan` prints of the stand sheet, byte by byte, a line of it to a row.
abbrev stand_text : List ℕ
stand_text =
    118 ∷ 101 ∷ 114 ∷ 100 ∷ 105 ∷ 99 ∷ 116 ∷ 32 ∷ 48 ∷ 10 ∷
    119 ∷ 97 ∷ 105 ∷ 116 ∷ 115 ∷ 32 ∷ 48 ∷ 10 ∷
    115 ∷ 116 ∷ 97 ∷ 114 ∷ 116 ∷ 32 ∷ 48 ∷ 32 ∷ 48 ∷ 32 ∷ 48 ∷ 10 ∷
    115 ∷ 116 ∷ 97 ∷ 114 ∷ 116 ∷ 32 ∷ 49 ∷ 32 ∷ 48 ∷ 32 ∷ 48 ∷ 10 ∷
    115 ∷ 116 ∷ 97 ∷ 114 ∷ 116 ∷ 32 ∷ 50 ∷ 32 ∷ 48 ∷ 32 ∷ 48 ∷ 10 ∷
    115 ∷ 116 ∷ 97 ∷ 114 ∷ 116 ∷ 32 ∷ 51 ∷ 32 ∷ 48 ∷ 32 ∷ 49 ∷ 10 ∷
    115 ∷ 116 ∷ 97 ∷ 114 ∷ 116 ∷ 32 ∷ 51 ∷ 32 ∷ 50 ∷ 32 ∷ 48 ∷ 10 ∷
    115 ∷ 116 ∷ 97 ∷ 114 ∷ 116 ∷ 32 ∷ 52 ∷ 32 ∷ 48 ∷ 32 ∷ 51 ∷ 10 ∷
    115 ∷ 116 ∷ 97 ∷ 114 ∷ 116 ∷ 32 ∷ 52 ∷ 32 ∷ 50 ∷ 32 ∷ 50 ∷ 10 ∷
    []

pub stand_printed : standplan (stand 2) ≡ stand_text
unfolding every_definition
stand_printed = refl

-- What the calls of a run answer, one after the other, each lent the same table and least durations: the map, or the refusal.
unfoldable pub map_or_refusal : Outcome Progress → Outcome ℕ
map_or_refusal o = when_given o (λ g. given g.map)

unfoldable pub run : State → List ℕ → List ℕ → List Call → List (Outcome ℕ)
run st table leasts [] = []
run st table leasts (c ∷ cs) = map_or_refusal (called st table leasts c) ∷ run (state_after st (called st table leasts c)) table leasts cs

abbrev pub idle : State
idle = record { n = 0; unbounded = 0; tick = 0; started = 0; finished = 0; start = replicate most_steps 0; finish = replicate most_steps 0; least = replicate most_steps 0 }

-- The run of the stand sheet: Begin gives 7; Finish 2 gives 0; ticks give 8, 0, 16. A second Finish 2 is refused 17. No step has a least duration.
unfoldable pub stand_table : List ℕ
stand_table = (planned (stand 2) true (replicate 25 0)).numbers

pub stand_run : run idle stand_table (replicate 5 0) (Begin 5 4 ∷ Finish 2 ∷ Tick ∷ Tick ∷ Tick ∷ Finish 2 ∷ []) ≡ given 7 ∷ given 0 ∷ given 8 ∷ given 0 ∷ given 16 ∷ refused 17 ∷ []
unfolding every_definition called map_or_refusal run stand_table
stand_run = refl

-- Request L6. "No hand places a folio in under eight ticks": the plan of open 1 after 0 and open 2 after 1, with the least durations 8 and 3.
abbrev pub folio_table : List ℕ
folio_table = 0 ∷ undecided ∷ undecided ∷ 0 ∷ undecided ∷ undecided ∷ undecided ∷ 0 ∷ undecided ∷ []

abbrev pub folio_leasts : List ℕ
folio_leasts = 0 ∷ 8 ∷ 3 ∷ []

-- Hand 2 has not started at tick 0, which is 17 and not 20. Hand 1 is too early at tick 7, 20, and done at tick 8; a second time that is 17. Hand 2 starts at tick 8, so it is too early at tick
-- 10 and done at tick 11.
pub folio_run : run idle folio_table folio_leasts (Begin 3 6 ∷ Finish 2 ∷ Tick ∷ Tick ∷ Tick ∷ Tick ∷ Tick ∷ Tick ∷ Tick ∷ Finish 1 ∷ Tick ∷ Finish 1 ∷ Finish 1 ∷ Tick ∷ Tick ∷ Finish 2 ∷ Tick ∷ Finish 2 ∷ [])
    ≡ given 3 ∷ refused 17 ∷ given 0 ∷ given 0 ∷ given 0 ∷ given 0 ∷ given 0 ∷ given 0 ∷ given 0 ∷ refused 20 ∷ given 0 ∷ given 4 ∷ refused 17 ∷ given 0 ∷ given 0 ∷ refused 20 ∷ given 0 ∷ given 0 ∷ []
unfolding every_definition called map_or_refusal run
folio_run = refl

-- With no least duration both hands are done at once; a list of two numbers is too short for three steps, 14, and so is a table of eight.
pub folio_at_once : run idle folio_table (0 ∷ 0 ∷ 0 ∷ []) (Begin 3 6 ∷ Finish 1 ∷ Finish 2 ∷ []) ≡ given 3 ∷ given 4 ∷ given 0 ∷ []
unfolding every_definition called map_or_refusal run
folio_at_once = refl

pub short_leasts : begin idle 3 6 (0 ∷ 8 ∷ []) folio_table ≡ refused 14
unfolding every_definition
short_leasts = refl

pub short_table : begin idle 3 6 folio_leasts (replicate 8 0) ≡ refused 14
unfolding every_definition
short_table = refl

-- What a run of the slow hand's sheet is begun with, where a number more than needed is lent; 14 where two are; and the stand sheet with the limit 1, which judging refuses 10, is answered too.
pub slow_hand_steps : steps_answer (slow_hand 8) (9 ∷ 9 ∷ 9 ∷ 9 ∷ []) ≡ given (record { n = 3; unbounded = 3; leasts = 0 ∷ 8 ∷ 0 ∷ 9 ∷ [] })
unfolding every_definition
slow_hand_steps = refl

pub slow_hand_short : steps_answer (slow_hand 8) (9 ∷ 9 ∷ []) ≡ refused 14
unfolding every_definition
slow_hand_short = refl

pub refused_stand_steps : steps_answer (stand 1) (replicate 5 9) ≡ given (record { n = 5; unbounded = 5; leasts = replicate 5 0 })
unfolding every_definition
refused_stand_steps = refl

-- Request L14. At most 3 on (0, 2) and on (0, 4), at least 5 on (1, 2) and on (3, 4): two clashes, 0 with 2 and 1 with 3. From the last record to the first the earlier one stays.
abbrev pub two_clashes : List ℕ
two_clashes = 0x05 ∷ 0x04 ∷ 0x00 ∷ 0x01 ∷ 0x00 ∷ 0x00 ∷ 0x00 ∷ 0x00 ∷ 0x04 ∷ 0x00 ∷ 0x02 ∷ 0x03 ∷ 0x00 ∷ 0x04 ∷ 0x00 ∷ 0x04 ∷ 0x03 ∷ 0x00 ∷ 0x02 ∷ 0x01 ∷ 0x02 ∷ 0x05 ∷ 0x00 ∷ 0x02 ∷ 0x03 ∷ 0x04 ∷ 0x05 ∷ 0x00 ∷ []

-- 1 after 0, at most 3 on (0, 2), at least 5 on (1, 2). Without its link step 1 hangs from step 0 by a link of request L3, and the other two clash still.
abbrev pub left_hanging : List ℕ
left_hanging = 0x03 ∷ 0x03 ∷ 0x00 ∷ 0x01 ∷ 0x00 ∷ 0x00 ∷ 0x01 ∷ 0x00 ∷ 0x01 ∷ 0x04 ∷ 0x00 ∷ 0x02 ∷ 0x03 ∷ 0x00 ∷ 0x02 ∷ 0x01 ∷ 0x02 ∷ 0x05 ∷ 0x00 ∷ []

-- Open 1 after 0; 2 after 1, 3 after 2, at most 9 on (1, 3): 11 by three records.
abbrev pub own_end_on_the_way : List ℕ
own_end_on_the_way = 0x04 ∷ 0x04 ∷ 0x00 ∷ 0x01 ∷ 0x01 ∷ 0x00 ∷ 0x00 ∷ 0x01 ∷ 0x00 ∷ 0x01 ∷ 0x01 ∷ 0x01 ∷ 0x02 ∷ 0x04 ∷ 0x01 ∷ 0x03 ∷ 0x09 ∷ 0x00 ∷ 0x01 ∷ 0x02 ∷ 0x03 ∷ []

-- Open 1; 2 after 1, at most 9 on (1, 2), which is 11; at least 5 and at most 3 on (3, 4), which is 10. The sheet is 10; without the last record it is 11.
abbrev pub eleven_and_ten : List ℕ
eleven_and_ten = 0x05 ∷ 0x02 ∷ 0x00 ∷ 0x01 ∷ 0x01 ∷ 0x00 ∷ 0x00 ∷ 0x00 ∷ 0x05 ∷ 0x01 ∷ 0x02 ∷ 0x09 ∷ 0x00 ∷ 0x06 ∷ 0x03 ∷ 0x04 ∷ 0x05 ∷ 0x00 ∷ 0x03 ∷ 0x00 ∷ []

-- Open 1; 2 of 5 ticks after 1, 3 after 2 and after 1, at most 2 from the finish of 1.
abbrev pub past_the_finish : List ℕ
past_the_finish = 0x04 ∷ 0x03 ∷ 0x00 ∷ 0x01 ∷ 0x01 ∷ 0x02 ∷ 0x05 ∷ 0x00 ∷ 0x00 ∷ 0x01 ∷ 0x01 ∷ 0x02 ∷ 0x11 ∷ 0x01 ∷ 0x03 ∷ 0x02 ∷ 0x00 ∷ 0x01 ∷ 0x02 ∷ 0x03 ∷ []

-- Open 1 with the least l; 2 after 1, at least 10 on (1, 2), at most 4 from the finish of 1: impossible below the least 6.
abbrev pub short_of_least : ℕ → List ℕ
short_of_least l = 0x03 ∷ 0x01 ∷ 0x00 ∷ 0x01 ∷ 0x05 ∷ l ∷ 0x00 ∷ 0x00 ∷ 0x13 ∷ 0x01 ∷ 0x02 ∷ 0x0a ∷ 0x00 ∷ 0x04 ∷ 0x00 ∷ []

-- A sheet, the list that is lent for the report, and what is answered: the record numbers stand at its front. A refusal leaves it as it was.
pub record Clash : Type 0 where
  pub bytes : List ℕ
  pub lent : List ℕ
  pub expected : Written

abbrev turned_away : List ℕ → List ℕ → ℕ → Clash
turned_away bytes lent k = record { bytes = bytes; lent = lent; expected = record { verdict = refused k; numbers = lent } }

abbrev reports : List ℕ → List ℕ → ℕ → List ℕ → Clash
reports bytes lent count numbers = record { bytes = bytes; lent = lent; expected = record { verdict = given count; numbers = numbers } }

-- The refusals in their order, an empty list among those that come before 14; then the reports: 10 and 11, which of two clashes stays, the links of request L3 afresh, several links in one record, a limit from the
-- finish, and a least.
unfoldable pub worked_clashes : List Clash
worked_clashes =
    turned_away (0x05 ∷ 0x01 ∷ []) [] 1 ∷
    turned_away (0x00 ∷ []) (9 ∷ []) 2 ∷
    turned_away (0x01 ∷ 0x01 ∷ 0x02 ∷ []) (9 ∷ []) 3 ∷
    turned_away (0x01 ∷ 0x00 ∷ 0x00 ∷ 0x02 ∷ []) (9 ∷ []) 4 ∷
    turned_away (0x02 ∷ 0x01 ∷ 0x00 ∷ 0x01 ∷ 0x00 ∷ 0x10 ∷ []) (9 ∷ []) 26 ∷
    turned_away (0x02 ∷ 0x01 ∷ 0x00 ∷ 0x01 ∷ 0x00 ∷ 0x01 ∷ 0x05 ∷ 0x00 ∷ []) (9 ∷ []) 5 ∷
    turned_away (0x02 ∷ 0x02 ∷ 0x00 ∷ 0x01 ∷ 0x00 ∷ 0x01 ∷ 0x00 ∷ 0x01 ∷ 0x02 ∷ 0x00 ∷ 0x01 ∷ []) (9 ∷ []) 6 ∷
    turned_away (0x01 ∷ 0x00 ∷ 0x00 ∷ 0x01 ∷ 0x00 ∷ []) (9 ∷ []) 7 ∷
    turned_away circle [] 8 ∷
    turned_away (stand 2) [] 31 ∷
    turned_away two_hands (9 ∷ 9 ∷ []) 31 ∷
    turned_away both_finish (9 ∷ 9 ∷ []) 31 ∷
    turned_away all_loose [] 31 ∷
    turned_away (short_of_least 6) (9 ∷ 9 ∷ []) 31 ∷
    turned_away (stand 1) [] 14 ∷
    turned_away two_clashes (9 ∷ []) 14 ∷
    reports (stand 1) (9 ∷ 9 ∷ []) 1 (4 ∷ 9 ∷ []) ∷
    reports own_end (9 ∷ []) 1 (1 ∷ []) ∷
    reports own_end_on_the_way (9 ∷ 9 ∷ 9 ∷ []) 3 (1 ∷ 2 ∷ 3 ∷ []) ∷
    reports eleven_and_ten (9 ∷ 9 ∷ []) 1 (0 ∷ 9 ∷ []) ∷
    reports two_clashes (9 ∷ 9 ∷ []) 2 (0 ∷ 2 ∷ []) ∷
    reports left_hanging (9 ∷ 9 ∷ 9 ∷ []) 2 (1 ∷ 2 ∷ 9 ∷ []) ∷
    reports (fixed_finish 6) (9 ∷ 9 ∷ []) 1 (1 ∷ 9 ∷ []) ∷
    reports past_the_finish (9 ∷ 9 ∷ 9 ∷ 9 ∷ []) 3 (0 ∷ 1 ∷ 2 ∷ 9 ∷ []) ∷
    reports (lip_limited 5) (9 ∷ []) 1 (1 ∷ []) ∷
    reports (short_of_least 5) (9 ∷ []) 1 (0 ∷ []) ∷
    []

-- The computed test, in one go.
pub few_worked : map (λ w. few_answer w.bytes w.lent) worked_clashes ≡ map (λ w. w.expected) worked_clashes
unfolding every_definition worked_clashes
few_worked = refl

-- Request L4. Parts, with the numbers of steps and records that are to be written, and so many bytes lent, each 9; and what is answered.
pub record WorkedWriting : Type 0 where
  pub n : ℕ
  pub r : ℕ
  pub steps : List Operation
  pub links : List Link
  pub room : ℕ
  pub expected : Written

unfoldable pub writes : WorkedWriting → Written
writes w = write_answer w.n w.r w.steps w.links (replicate w.room 9)

-- So many of the parts as the counts say are to be written, and these bytes are; `spare` more are lent. Or they are turned away, and the bytes stay.
abbrev counts_written : ℕ → ℕ → List Operation → List Link → List ℕ → ℕ → WorkedWriting
counts_written n r steps links bytes spare =
    record { n = n; r = r; steps = steps; links = links; room = length bytes + spare; expected = record { verdict = given (length bytes); numbers = bytes ++ replicate spare 9 } }

abbrev counts_refused : ℕ → ℕ → List Operation → List Link → ℕ → ℕ → WorkedWriting
counts_refused n r steps links room k = record { n = n; r = r; steps = steps; links = links; room = room; expected = record { verdict = refused k; numbers = replicate room 9 } }

-- All of the parts.
abbrev written_as : List Operation → List Link → List ℕ → ℕ → WorkedWriting
written_as steps links bytes spare = counts_written (length steps) (length links) steps links bytes spare

abbrev parts_refused : List Operation → List Link → ℕ → ℕ → WorkedWriting
parts_refused steps links room k = counts_refused (length steps) (length links) steps links room k

abbrev open_step : Operation
open_step = record { delay = Open; least = None }

abbrev slow_step : ℕ → Operation
slow_step l = record { delay = Open; least = Some l }

abbrev fixed_step : ℕ → Operation
fixed_step x = record { delay = Fixed x; least = None }

-- A record: whether it has an after link, at least, at most, the gap, at most from the finish.
abbrev record_of : ℕ → ℕ → Bool → Option ℕ → Option ℕ → Option ℕ → Option ℕ → Link
record_of i j after least most gap latest = record { from = i; to = j; sequencing = after; minimum = least; maximum = most; gap = gap; latest = latest }

abbrev after : ℕ → ℕ → Link
after i j = record_of i j true None None None None

-- The stand sheet's parts, its records from the last to the first.
abbrev stand_steps : List Operation
stand_steps = open_step ∷ fixed_step 3 ∷ open_step ∷ fixed_step 2 ∷ fixed_step 1 ∷ []

abbrev stand_links : List Link
stand_links = record_of 3 4 true None (Some 2) None None ∷ after 2 3 ∷ after 1 4 ∷ after 0 2 ∷ after 0 1 ∷ []

-- Three steps, to which the records with a fault belong.
abbrev three : List Operation
three = open_step ∷ open_step ∷ fixed_step 0 ∷ []

abbrev empty : ℕ → ℕ → Link
empty i j = record_of i j false None None None None

abbrev limit_alone : ℕ → ℕ → Link
limit_alone i j = record_of i j false None None None (Some 5)

-- The stand sheet, with room for it just so and with two bytes more; the smallest sheet; zeros, of which only the fixed duration is left out; numbers with two bytes that differ, in records out of order; faults past the counts, which are
-- not looked at; then each refusal, and parts with more than one fault. The ends of a record are judged against N, however many steps there are.
unfoldable pub worked_parts : List WorkedWriting
worked_parts =
    written_as stand_steps stand_links (stand 2) 0 ∷
    written_as stand_steps stand_links (stand 2) 2 ∷
    written_as (open_step ∷ []) [] smallest 0 ∷
    written_as (open_step ∷ fixed_step 0 ∷ slow_step 0 ∷ [])
    (record_of 0 2 true None (Some 0) None (Some 0) ∷ record_of 0 1 true (Some 0) None (Some 0) None ∷ [])
    (0x03 ∷ 0x02 ∷ 0x00 ∷ 0x01 ∷ 0x00 ∷ 0x05 ∷ 0x00 ∷ 0x00 ∷ 0x0b ∷ 0x00 ∷ 0x01 ∷ 0x00 ∷ 0x00 ∷ 0x00 ∷ 0x00 ∷ 0x15 ∷ 0x00 ∷ 0x02 ∷ 0x00 ∷ 0x00 ∷ 0x00 ∷ 0x00 ∷ [])
    1 ∷
    written_as (open_step ∷ fixed_step 0x0102 ∷ slow_step 0x0304 ∷ [])
    (record_of 2 0 false (Some 0x1112) None None None ∷ record_of 1 2 true (Some 0x2122) (Some 0x2324) (Some 0x2526) (Some 0x2728) ∷ record_of 1 0 false None (Some 0x3132) None None ∷ [])
    (0x03 ∷ 0x03 ∷ 0x00 ∷ 0x01 ∷ 0x02 ∷ 0x02 ∷ 0x01 ∷ 0x05 ∷ 0x04 ∷ 0x03 ∷
    0x04 ∷ 0x01 ∷ 0x00 ∷ 0x32 ∷ 0x31 ∷
    0x1f ∷ 0x01 ∷ 0x02 ∷ 0x22 ∷ 0x21 ∷ 0x24 ∷ 0x23 ∷ 0x26 ∷ 0x25 ∷ 0x28 ∷ 0x27 ∷
    0x02 ∷ 0x02 ∷ 0x00 ∷ 0x12 ∷ 0x11 ∷ [])
    0 ∷
    counts_written 2 1 (open_step ∷ fixed_step 0 ∷ record { delay = Fixed 1; least = Some 1 } ∷ []) (after 0 1 ∷ empty 0 0 ∷ limit_alone 5 1 ∷ after 0 1 ∷ []) (0x02 ∷ 0x01 ∷ 0x00 ∷ 0x01 ∷ 0x00 ∷ 0x01 ∷ 0x00 ∷ 0x01 ∷ []) 1 ∷
    parts_refused [] [] 4 2 ∷
    counts_refused 65 0 (open_step ∷ []) [] 4 2 ∷
    counts_refused 0 513 [] [] 4 2 ∷
    counts_refused 1 513 (fixed_step 1 ∷ []) [] 4 3 ∷
    parts_refused (fixed_step 0 ∷ []) [] 4 4 ∷
    parts_refused (slow_step 0 ∷ []) [] 6 4 ∷
    parts_refused (open_step ∷ record { delay = Fixed 0; least = Some 0 } ∷ []) [] 9 4 ∷
    parts_refused (open_step ∷ record { delay = Fixed 1; least = Some 1 } ∷ []) [] 9 4 ∷
    parts_refused three (after 0 1 ∷ empty 0 2 ∷ []) 99 4 ∷
    parts_refused three (record_of 0 1 false (Some 1) None (Some 1) None ∷ []) 99 4 ∷
    parts_refused three (record_of 0 1 false None None (Some 1) (Some 1) ∷ []) 99 4 ∷
    parts_refused three (limit_alone 0 1 ∷ []) 99 26 ∷
    parts_refused three (after 0 1 ∷ record_of 1 2 false (Some 1) None None (Some 0) ∷ []) 99 26 ∷
    parts_refused three (after 3 1 ∷ []) 99 5 ∷
    parts_refused three (after 1 3 ∷ []) 99 5 ∷
    parts_refused three (after 0 2 ∷ after 1 1 ∷ []) 99 5 ∷
    parts_refused three (after 0 2 ∷ after 0 1 ∷ record_of 0 2 false (Some 1) None None None ∷ []) 99 6 ∷
    parts_refused stand_steps stand_links 30 14 ∷
    counts_refused 4 0 three [] 99 14 ∷
    counts_refused 3 2 three (after 0 1 ∷ []) 99 14 ∷
    counts_refused 4 1 three (after 3 1 ∷ []) 99 14 ∷
    counts_refused 4 1 three (after 4 1 ∷ []) 99 5 ∷
    parts_refused three (after 3 1 ∷ limit_alone 0 1 ∷ empty 0 2 ∷ []) 99 4 ∷
    parts_refused three (after 3 1 ∷ limit_alone 0 1 ∷ []) 99 26 ∷
    parts_refused three (after 0 1 ∷ after 0 1 ∷ after 2 2 ∷ []) 99 5 ∷
    parts_refused three (after 0 1 ∷ after 0 1 ∷ []) 4 6 ∷
    counts_refused 4 2 three (empty 0 1 ∷ []) 0 4 ∷
    []

pub write_worked : map writes worked_parts ≡ map (λ w. w.expected) worked_parts
unfolding every_definition every_writing writes worked_parts
write_worked = refl

-- Request L5. 1 at least so many ticks after step 0, the low byte first; and 2 after the open step 1, with such a gap.
abbrev pub far : ℕ → ℕ → List ℕ
far low high = 0x02 ∷ 0x01 ∷ 0x00 ∷ 0x01 ∷ 0x00 ∷ 0x02 ∷ 0x00 ∷ 0x01 ∷ low ∷ high ∷ []

abbrev pub far_from_open : ℕ → ℕ → List ℕ
far_from_open low high = 0x03 ∷ 0x02 ∷ 0x00 ∷ 0x01 ∷ 0x01 ∷ 0x00 ∷ 0x01 ∷ 0x00 ∷ 0x01 ∷ 0x09 ∷ 0x01 ∷ 0x02 ∷ low ∷ high ∷ []

-- The slow hand with a least of 1,024: the offset of 2 for step 0 is 1,024, and step 0 does not decide 2.
abbrev pub far_undecided : List ℕ
far_undecided = 0x03 ∷ 0x02 ∷ 0x00 ∷ 0x01 ∷ 0x05 ∷ 0x00 ∷ 0x04 ∷ 0x00 ∷ 0x01 ∷ 0x00 ∷ 0x01 ∷ 0x01 ∷ 0x01 ∷ 0x02 ∷ []

-- Two hands, and 3 at least 1,024 ticks after step 0: 12 where waits are not allowed, and 19 where they are.
abbrev pub far_hands : List ℕ
far_hands = 0x05 ∷ 0x06 ∷ 0x00 ∷ 0x01 ∷ 0x01 ∷ 0x01 ∷ 0x00 ∷ 0x00 ∷ 0x01 ∷ 0x00 ∷ 0x01 ∷ 0x01 ∷ 0x00 ∷ 0x02 ∷ 0x02 ∷ 0x00 ∷ 0x03 ∷ 0x00 ∷ 0x04 ∷ 0x01 ∷ 0x01 ∷ 0x03 ∷ 0x01 ∷ 0x02 ∷ 0x04 ∷ 0x04 ∷ 0x03 ∷ 0x04 ∷ 0x05 ∷ 0x00 ∷ []

-- A sheet, whether waits are allowed, the numbers that are lent for registers and for comparisons, and what is answered.
pub record WorkedPrice : Type 0 where
  pub bytes : List ℕ
  pub allow : Bool
  pub registers : List ℕ
  pub comparisons : List ℕ
  pub expected : Priced

-- Priced, with just so many numbers lent, and the totals; or turned away, and the lent numbers stay.
abbrev costs : List ℕ → ℕ → List ℕ → List ℕ → ℕ → ℕ → WorkedPrice
costs bytes verdict registers comparisons registers-total comparisons-total =
    record {
      bytes = bytes;
      allow = true;
      registers = replicate (length registers) 9;
      comparisons = replicate (length comparisons) 9;
      expected = record { verdict = given verdict; price = record { registers = registers; comparisons = comparisons; register_total = registers-total; comparison_total = comparisons-total } };
    }

abbrev not_priced : List ℕ → Bool → List ℕ → List ℕ → ℕ → WorkedPrice
not_priced bytes allow registers comparisons k =
    record {
      bytes = bytes;
      allow = allow;
      registers = registers;
      comparisons = comparisons;
      expected = record { verdict = refused k; price = record { registers = registers; comparisons = comparisons; register_total = 0; comparison_total = 0 } };
    }

-- The smallest sheet; the stand sheet, whose steps 3 and 4 have two deciders; one with waits; an open step that stands nowhere; an offset that counts only where its step decides; the largest offset that is priced, of step 0 and
-- of an open step; numbers past N. Then the refusals in their order: what reading and judging refuse, 19 before 14, 14 for each list.
unfoldable pub worked_prices : List WorkedPrice
worked_prices =
    costs smallest 0 (0 ∷ []) (1 ∷ []) 0 1 ∷
    costs (stand 2) 0 (2 ∷ 0 ∷ 1 ∷ 0 ∷ 0 ∷ []) (1 ∷ 1 ∷ 1 ∷ 2 ∷ 2 ∷ []) 3 7 ∷
    costs two_hands 1 (0 ∷ 0 ∷ 0 ∷ 0 ∷ 0 ∷ []) (1 ∷ 1 ∷ 1 ∷ 2 ∷ 1 ∷ []) 0 6 ∷
    costs second_hand 0 (0 ∷ 4 ∷ 0 ∷ 0 ∷ 0 ∷ []) (1 ∷ 1 ∷ 1 ∷ 2 ∷ 1 ∷ []) 4 6 ∷
    costs all_loose 0 (0 ∷ 0 ∷ 0 ∷ []) (1 ∷ 1 ∷ 1 ∷ []) 0 3 ∷
    costs (from_start_slow 9) 0 (4 ∷ 0 ∷ 0 ∷ []) (1 ∷ 1 ∷ 2 ∷ []) 4 4 ∷
    costs (from_start_slow 10) 0 (0 ∷ 0 ∷ 0 ∷ []) (1 ∷ 1 ∷ 1 ∷ []) 0 3 ∷
    costs far_undecided 0 (0 ∷ 0 ∷ 0 ∷ []) (1 ∷ 1 ∷ 1 ∷ []) 0 3 ∷
    costs (far 0x00 0x02) 0 (9 ∷ 0 ∷ []) (1 ∷ 1 ∷ []) 9 2 ∷
    costs (far 0x01 0x02) 0 (10 ∷ 0 ∷ []) (1 ∷ 1 ∷ []) 10 2 ∷
    costs (far 0xff 0x03) 0 (10 ∷ 0 ∷ []) (1 ∷ 1 ∷ []) 10 2 ∷
    costs (far_from_open 0xff 0x03) 0 (0 ∷ 10 ∷ 0 ∷ []) (1 ∷ 1 ∷ 1 ∷ []) 10 3 ∷
    record {
      bytes = lip;
      allow = false;
      registers = 9 ∷ 9 ∷ 9 ∷ 9 ∷ [];
      comparisons = 8 ∷ 8 ∷ 8 ∷ 8 ∷ 8 ∷ [];
      expected = record { verdict = given 0; price = record { registers = 0 ∷ 3 ∷ 0 ∷ 9 ∷ []; comparisons = 1 ∷ 1 ∷ 1 ∷ 8 ∷ 8 ∷ []; register_total = 3; comparison_total = 3 } };
    } ∷
    not_priced (0x00 ∷ []) true [] [] 2 ∷
    not_priced (0x02 ∷ 0x01 ∷ 0x00 ∷ 0x01 ∷ 0x00 ∷ 0x10 ∷ []) true (9 ∷ []) (9 ∷ []) 26 ∷
    not_priced circle true [] [] 8 ∷
    not_priced (stand 1) true [] [] 10 ∷
    not_priced own_end true [] [] 11 ∷
    not_priced both_finish true [] [] 28 ∷
    not_priced far_hands false [] [] 12 ∷
    not_priced far_hands true [] [] 19 ∷
    not_priced (far 0x00 0x04) true (9 ∷ 9 ∷ []) (9 ∷ 9 ∷ []) 19 ∷
    not_priced (far_from_open 0x00 0x04) true (9 ∷ []) [] 19 ∷
    not_priced (far 0xff 0x03) true (9 ∷ []) (9 ∷ 9 ∷ []) 14 ∷
    not_priced (far 0xff 0x03) true (9 ∷ 9 ∷ []) (9 ∷ []) 14 ∷
    []

-- The computed test, in one go.
pub all_priced : map (λ w. price_answer printed_table w.bytes w.allow w.registers w.comparisons) worked_prices ≡ map (λ w. w.expected) worked_prices
unfolding every_definition every_price worked_prices
all_priced = refl

-- With other entries, of which the first is 5 and the second 7 (request L7): an open step that stands nowhere has the entry at 0.
pub other_entries : (price_answer (5 ∷ 7 ∷ []) all_loose false (9 ∷ 9 ∷ 9 ∷ []) (9 ∷ 9 ∷ 9 ∷ [])).price.registers ≡ 5 ∷ 5 ∷ 0 ∷ []
unfolding every_definition every_price
other_entries = refl

-- What the price program prints of the sheet of two hands that are far apart, and of the lip: registers of steps 0 and 1, comparisons of each step, the totals.
pub far_printed : price_report far_hands ≡ 114 ∷ 101 ∷ 102 ∷ 117 ∷ 115 ∷ 101 ∷ 100 ∷ 32 ∷ 49 ∷ 57 ∷ 10 ∷ []
unfolding every_definition every_price
far_printed = refl

pub lip_printed : price_report lip ≡
    114 ∷ 101 ∷ 103 ∷ 105 ∷ 115 ∷ 116 ∷ 101 ∷ 114 ∷ 115 ∷ 32 ∷ 48 ∷ 32 ∷ 48 ∷ 10 ∷
    114 ∷ 101 ∷ 103 ∷ 105 ∷ 115 ∷ 116 ∷ 101 ∷ 114 ∷ 115 ∷ 32 ∷ 49 ∷ 32 ∷ 51 ∷ 10 ∷
    99 ∷ 111 ∷ 109 ∷ 112 ∷ 97 ∷ 114 ∷ 105 ∷ 115 ∷ 111 ∷ 110 ∷ 115 ∷ 32 ∷ 48 ∷ 32 ∷ 49 ∷ 10 ∷
    99 ∷ 111 ∷ 109 ∷ 112 ∷ 97 ∷ 114 ∷ 105 ∷ 115 ∷ 111 ∷ 110 ∷ 115 ∷ 32 ∷ 49 ∷ 32 ∷ 49 ∷ 10 ∷
    99 ∷ 111 ∷ 109 ∷ 112 ∷ 97 ∷ 114 ∷ 105 ∷ 115 ∷ 111 ∷ 110 ∷ 115 ∷ 32 ∷ 50 ∷ 32 ∷ 49 ∷ 10 ∷
    116 ∷ 111 ∷ 116 ∷ 97 ∷ 108 ∷ 32 ∷ 51 ∷ 32 ∷ 51 ∷ 10 ∷
    []
unfolding every_definition every_price
lip_printed = refl
