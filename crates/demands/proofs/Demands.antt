-- The theorems: one for each statement of specs/Demands.antt, in its order, with those of specs/Clashes.antt, specs/Writing.antt and specs/Pricing.antt after request L6's.
use mathlib.Core.Path.{refl}
use Rattle.demands.specs.Demands.{EdgesMeant, ListsMeant, ImpossibleExactly, ReadExactly, WellFormedExactly, JudgedExactly, EachCallRefuses, StartsReturned, CallsExactly, StepsExactly, StartsKept, NobodyEarlier, NobodyEarlierWithWaits, OursAmongRivals, NobodyEarlierWithoutForesight, OursWithoutForesight, Refused28Exactly, NothingNew, PlansAsBefore, AddedLinksFree, IntoSourceCircle, EnteredAsBefore, LeastlessAsBefore, TestsMeant, WaitsListed, WaitsSound, OffsetsRight, StartRule, DecidingSets, PlanTable, LinesListed, FrontDecides, HypothesesMet}
use Rattle.demands.specs.Clashes.{PartsJudged, FewClash, FewExactly, FewMet}
use Rattle.demands.specs.Writing.{RecordsRising, AnyOrder, WrittenRead, ReadWritten, WriteExactly}
use Rattle.demands.specs.Pricing.{PriceExactly, PriceMet, PricesRight, PrintedRule, StartSetsUncounted}
use Rattle.demands.proofs.Reading.{fits_of}
use Rattle.demands.proofs.FirstBytes.{front_for}
use Rattle.demands.proofs.Meaning.{meant_for}
use Rattle.demands.proofs.Listing.{listed_for, lines_for}
use Rattle.demands.proofs.Calls.{same_refusal}
use Rattle.demands.proofs.Impossibility.{keeps_sheet, impossible_for}
use Rattle.demands.proofs.DelayLists.{limits_meant}
use Rattle.demands.proofs.Refusals as Refusals
use Rattle.demands.proofs.Answering.{calls_for, returned, steps_by}
use Rattle.demands.proofs.Verdicts.{judged_for}
use Rattle.demands.proofs.Foresight.{earliest_of_strategies, nothing_new_for, ours_dynamic, rivals_28}
use Rattle.demands.proofs.OurStarts.{kept_for, ours_among, earliest, earliest_of_rivals}
use Rattle.demands.proofs.Planning.{waits_for_sheet, offset_for, start_rule_for, deciding_for, plan_for}
use Rattle.demands.proofs.Gapless.{as_before_all}
use Rattle.demands.proofs.Leastless.{leastless_all}
use Rattle.demands.proofs.Completion.{added_free, as_entered, into_source}
use Rattle.demands.proofs.Clashes.{judged_parts, few_for}
use Rattle.demands.proofs.Reports.{few_calls}
use Rattle.demands.proofs.Pricing.{price_for, printed_for}
use Rattle.demands.proofs.PricingCalls.{price_calls}
use Rattle.demands.proofs.WritingOrder.{rising_for}
use Rattle.demands.proofs.WritingRefusals.{write_for}
use Rattle.demands.proofs.WritingAnyOrder.{any_order_for}
use Rattle.demands.proofs.Writing.{written_all}
use Rattle.demands.proofs.WritingAgain.{written_again}
use Rattle.demands.proofs.Examples.{clash_met, examples, far_uncounted, prices_met}

-- ## The words

-- By the kind of link: the edge is counted, or late, just where the duration is the delay.
pub edges_meant : EdgesMeant
edges_meant = keeps_sheet

-- By each entry's limit.
pub lists_meant : ListsMeant
lists_meant s q sheet = limits_meant q (fits_of sheet).some

-- ## Demand 3

-- 10: the rounds from step 0 come to rest exactly if there is a schedule with delays 0. 11: a walk from the end of an open step to that step loses less than the longest duration of a list. Else the delays are raised one
-- at a time, and what the end of that step reaches moves with it.
pub impossible_exactly : ImpossibleExactly
impossible_exactly = impossible_for

-- Reading refuses with at most 7 or with 26, judging with 8 to 12 or with 28.
pub read_exactly : ReadExactly
read_exactly = Refusals.read_exactly

-- From the row of refusals in judging.
pub well_formed_exactly : WellFormedExactly
well_formed_exactly = Refusals.well_formed_exactly

-- The refusals stand in a row, and the tests are the relations.
pub judged_exactly : JudgedExactly
judged_exactly = judged_for

-- Each call judges first, and refuses with later numbers after that.
pub each_call_refuses : EachCallRefuses
each_call_refuses = same_refusal

-- From what the call returns on acceptance.
pub starts_returned : StartsReturned
starts_returned = returned

-- From the row of refusals in each call.
pub calls_exactly : CallsExactly
calls_exactly = calls_for

pub steps_exactly : StepsExactly
steps_exactly = steps_by

-- Offsets along an edge differ by at least its weight, and a sound graph carries each anchor along it, but for a late return into the anchor itself: it closes a walk, which is not above 0.
pub starts_kept : StartsKept
starts_kept s allow q v accepted = kept_for accepted

-- Where no return is late, a walk that has the offset bounds any schedule from below; by induction along anchors.
pub nobody_earlier : NobodyEarlier
nobody_earlier s allow q accepted none = earliest accepted none refl

-- A sound sheet with these links has a forward chain wherever a wait stands, so it keeps the waits; then as before.
pub nobody_earlier_with_waits : NobodyEarlierWithWaits
nobody_earlier_with_waits s allow q v accepted = earliest_of_rivals accepted

-- The edge of a wait is that of an after link out of an open step.
pub ours_among_rivals : OursAmongRivals
ours_among_rivals s allow q v accepted = ours_among accepted

-- ## Request L11

-- Along the walk of an offset, for all lists at once: over a late return take its step to last nothing, which the rival cannot tell until that step has ended.
pub nobody_earlier_without_foresight : NobodyEarlierWithoutForesight
nobody_earlier_without_foresight s allow q v accepted = earliest_of_strategies accepted

-- A start turns on the delays of its anchors alone, and these have ended by then.
pub ours_without_foresight : OursWithoutForesight
ours_without_foresight s allow q v accepted = ours_dynamic accepted

-- A rival cannot know that a step will not take long, so it keeps the waits: they close no circle, and leave start times.
pub refused_28_exactly : Refused28Exactly
refused_28_exactly = rivals_28

-- No edge is late then. A wait stands for a walk, so that a circle through one would be an open step that waits for its own end.
pub nothing_new : NothingNew
nothing_new = nothing_new_for

-- ## Request L1

-- The parser before answers 4, or as the parser of now does, part by part; and a gap of 0 adds nothing to a link's weight.
pub plans_as_before : PlansAsBefore
plans_as_before = as_before_all

-- ## Request L3

-- Step 0 starts and ends at tick 0, and no start is before that.
pub added_links_free : AddedLinksFree
added_links_free = added_free

-- A chain leads from step 0 to where the link comes from.
pub into_source_circle : IntoSourceCircle
into_source_circle = into_source

-- No step passes the test for the link that is added; and where forward edges lead into every step and close no circle, each has a chain from step 0.
pub entered_as_before : EnteredAsBefore
entered_as_before = as_entered

-- ## Request L6

-- The parser before answers 4, or as the parser of now does, part by part; what it reads says no least, and a least of 0 adds nothing.
pub leastless_as_before : LeastlessAsBefore
leastless_as_before = leastless_all

-- ## Request L14

-- An edge of a part is one of the sheet, or leads from step 0 to a step that the sheet has a chain to: so a circle of the part would be one of the sheet. What 10 and 11 say of a sheet uses no more of it.
pub parts_judged : PartsJudged
parts_judged = judged_parts

-- Start times that keep a part keep every smaller one, since an added link asks nothing of them. So a record that was needed when it was tried is needed in all that is left later.
pub few_clash : FewClash
few_clash = few_for

-- The refusals stand in a row behind those of reading.
pub few_exactly : FewExactly
few_exactly = few_calls

-- ## Request L4

-- Each record is put in before the first one that it is below.
pub records_rising : RecordsRising
records_rising = rising_for

-- No test of the records depends on their order; and without a pair twice only one list of these records rises.
pub any_order : AnyOrder
any_order = any_order_for

-- Each parser gives back the part whose bytes it is lent, and leaves what is behind them.
pub written_read : WrittenRead
written_read = written_all

-- The bytes that each parser takes are those written of what it gives, but for fixed durations of 0 with a field.
pub read_written : ReadWritten
read_written = written_again

-- The tests say what the faults are in words, and stand in a row.
pub write_exactly : WriteExactly
write_exactly = write_for

-- ## Request L5

-- The search for the smallest power passes those that are too small, and ten tries are enough.
pub printed_rule : PrintedRule
printed_rule = printed_for

-- An entry of the plan is an offset exactly where a step decides; the largest, the number and the sums are those of the definitions.
pub prices_right : PricesRight
prices_right entries s allow q v accepted = price_for accepted entries

-- 19 and 14 stand in a row behind what judging refuses, which is neither.
pub price_exactly : PriceExactly
price_exactly = price_calls

-- ## Demand 2

-- Rounds over the edges reach what a walk reaches: a walk can be cut to fewer edges than there are steps.
pub tests_meant : TestsMeant
tests_meant s q sheet = meant_for (fits_of sheet)

-- The list is a selection of pairs by the test; the maps are the same pairs.
pub waits_listed : WaitsListed
waits_listed s q sheet = listed_for (fits_of sheet)

-- The waits carry each anchor over the returns that it may use; that they close no circle and leave start times is what 28 tests.
pub waits_sound : WaitsSound
waits_sound s allow q v accepted = waits_for_sheet accepted

-- With no closed walk above 0 the rounds come to rest at the heaviest walks.
pub offsets_right : OffsetsRight
offsets_right s allow q v accepted = offset_for accepted

-- Each turn settles the steps whose anchors are settled.
pub start_rule : StartRule
start_rule s allow q v accepted = start_rule_for accepted

-- Who is left out is outdone by one that stays; who stays is alone the largest where its step takes the longest time and the others none.
pub deciding_sets : DecidingSets
deciding_sets s allow q v accepted = deciding_for accepted

-- Row by row.
pub plan_table : PlanTable
plan_table s allow q v accepted = plan_for accepted

-- The lines are a selection of pairs by the test.
pub lines_listed : LinesListed
lines_listed s allow q v accepted = lines_for (fits_of accepted.sheet) accepted

-- ## How much of an input decides

-- A parser looks at no more bytes than its parts do together; cut behind these, the bytes give the same.
pub front_decides : FrontDecides
front_decides = front_for

-- ## The theorems speak of something

-- Computed, on sheets of the worked table.
pub hypotheses_met : HypothesesMet
hypotheses_met = examples

pub few_met : FewMet
few_met = clash_met

pub price_met : PriceMet
price_met = prices_met

pub start_sets_uncounted : StartSetsUncounted
start_sets_uncounted = far_uncounted
