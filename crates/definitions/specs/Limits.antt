-- The limits of a sheet and of a list of durations, and what follows from them. Each stands here and nowhere else; the code has those that it needs as constants of the same names (src/lib.rt).
use Rattle.std.specs.Prelude.{◌≡◌, refl, ℕ, ◌+◌, ◌-◌, ◌*◌}

-- "N, the number of steps, 1 to 64": a map of 64 bits has one for each.
abbrev pub most_steps : ℕ
most_steps = 64

-- "R, the number of link records, 0 to 512."
abbrev pub most_records : ℕ
most_records = 512

-- The largest number of two bytes: a fixed duration, a least duration, and each field of a link record.
abbrev pub most_ticks : ℕ
most_ticks = 65535

-- "Each at most 16,777,215": an entry of a list of durations.
abbrev pub most_duration : ℕ
most_duration = 16777215

-- What a list of durations can give an open step past its least (request L6), whatever the least is.
abbrev pub most_extra : ℕ
most_extra = most_duration - most_ticks

-- A link record holds at most four links, and each is one edge; and at most one link is added for each step other than 0 (request L3).
abbrev pub links_of_record : ℕ
links_of_record = 4

abbrev pub most_added : ℕ
most_added = most_steps - 1

abbrev pub most_edges : ℕ
most_edges = links_of_record * most_records + most_added

-- What one edge gains: a duration, fixed or the least of an open step, and the gap after it; or the ticks of an at-least link.
abbrev pub most_gain : ℕ
most_gain = most_ticks + most_ticks

-- What an edge gains that leaves step 0, or that counts from the end of an open step: the ticks of an at-least link, or a gap.
abbrev pub most_first_gain : ℕ
most_first_gain = most_ticks

-- What one edge loses: the ticks of an at-most link; from the finish of a step its duration besides, that of an open step taken as its least.
abbrev pub most_loss : ℕ
most_loss = most_ticks + most_ticks

-- What a heaviest walk gains: it comes to each step once, so it has an edge less than there are steps.
abbrev pub most_walk : ℕ
most_walk = (most_steps - 1) * most_gain

-- "Offsets may now reach 8,191,875" (request L1): the walk of an offset begins at step 0, or at the end of an open step.
abbrev pub most_offset : ℕ
most_offset = most_first_gain + (most_steps - 2) * most_gain

-- "Offsets never exceed 4,128,705": document 01's limit, which holds where no after link has a gap (request L1).
abbrev pub most_gapless_offset : ℕ
most_gapless_offset = (most_steps - 1) * most_ticks

-- "At most 64 by 64": the numbers of a plan's table.
abbrev pub longest_table : ℕ
longest_table = most_steps * most_steps

-- A start for a list: each step on the way to it adds a duration and an offset at most.
abbrev pub most_start : ℕ
most_start = most_steps * (most_duration + most_offset)

-- The longest step record: a map and a duration, fixed or least; that of step 0 is its map. The longest link record: a map, a pair and four fields.
abbrev pub longest_step : ℕ
longest_step = 1 + 2

abbrev pub longest_record : ℕ
longest_record = 1 + 2 + 4 * 2

-- The longest sheet: N and R, the map of step 0, the other steps and the link records.
abbrev pub longest_sheet : ℕ
longest_sheet = 3 + 1 + (most_steps - 1) * longest_step + most_records * longest_record

-- "A printed table of 1,024 entries" (request L5): the register counts of largest offsets below it.
abbrev pub register_entries : ℕ
register_entries = 1024

-- "Tick when the tick is 4,294,967,295": the runner's clock ends at the largest number of 32 bits.
abbrev pub last_tick : ℕ
last_tick = 4294967295

-- The numbers that the documents give for what is computed above.
pub most_offset_said : most_offset ≡ 8191875
most_offset_said = refl

pub most_gapless_offset_said : most_gapless_offset ≡ 4128705
most_gapless_offset_said = refl

pub most_start_said : most_start ≡ 1598021760
most_start_said = refl

pub longest_sheet_said : longest_sheet ≡ 5825
longest_sheet_said = refl
