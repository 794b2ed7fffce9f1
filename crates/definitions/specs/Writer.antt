-- Request L4, "A sheet writer": the bytes of a sheet from its steps and link records, which may come in any order. What is written is read by Bytes.antt; the faults of the parts are its tests.
use Rattle.std.specs.Prelude.{Bool, true, false, cond, not, ◌&&◌, ◌||◌, ℕ, zero, suc, ◌+◌, ◌/◌, ◌%◌, eqb, leb, ltb, length, take, None, Option, Some}
use mathlib.Core.List.{List, [], ◌∷◌, ◌++◌, flat_map}
use Rattle.definitions.specs.Limits.{most_steps, most_records}
use Rattle.definitions.specs.Basics.{any, Outcome, given, refuse_if}
use Rattle.definitions.specs.Bytes.{Records, operation_map, link_map, sequenced, endpoints, rises, pair_of}
use Rattle.definitions.specs.Answers.{Written, written, too_short}
use Rattle.definitions.specs.declared.Delay.{Delay}
use Rattle.definitions.specs.declared.Delay.TheVariants.{Open, Fixed}
use Rattle.definitions.specs.declared.Operation.{Operation}
use Rattle.definitions.specs.declared.Link.{Link}

-- "Numbers of two bytes have the low byte first."
unfoldable pub two_bytes_of : ℕ → List ℕ
two_bytes_of x = x % 256 ∷ x / 256 ∷ []

-- A field that is there is written, 0 or not, and its bit stands: "any other field is kept, 0 or not".
unfoldable pub field_of : Option ℕ → List ℕ
field_of None = []
field_of (Some x) = two_bytes_of x

unfoldable pub bit_of : Option ℕ → ℕ → ℕ
bit_of None b = 0
bit_of (Some x) b = b

-- "A fixed duration of 0 is always left out": the field of a fixed duration, and the bits of an open and of a fixed one.
unfoldable pub duration_of : Delay → Option ℕ
duration_of Open = None
duration_of (Fixed zero) = None
duration_of (Fixed (suc x)) = Some (suc x)

unfoldable pub open_bit : Delay → ℕ
open_bit Open = 1
open_bit (Fixed x) = 0

-- A step record: its map, then its fields.
unfoldable pub operation_map_of : Operation → ℕ
operation_map_of o = open_bit o.delay + bit_of (duration_of o.delay) 2 + bit_of o.least 4

unfoldable pub operation_bytes : Operation → List ℕ
operation_bytes o = operation_map_of o ∷ field_of (duration_of o.delay) ++ field_of o.least

-- A link record: its map, its pair, then its fields, lowest bit first.
unfoldable pub link_map_of : Link → ℕ
link_map_of l = cond l.sequencing 1 0 + bit_of l.minimum 2 + bit_of l.maximum 4 + bit_of l.gap 8 + bit_of l.latest 16

unfoldable pub link_bytes : Link → List ℕ
link_bytes l = link_map_of l ∷ l.from ∷ l.to ∷ field_of l.minimum ++ field_of l.maximum ++ field_of l.gap ++ field_of l.latest

-- "Records may come in any order and are written rising", by i, then by j.
unfoldable pub put_in : Link → List Link → List Link
put_in l [] = l ∷ []
put_in l (m ∷ ms) = cond (rises (pair_of l) m.from m.to) (l ∷ m ∷ ms) (m ∷ put_in l ms)

unfoldable pub rising : List Link → List Link
rising [] = []
rising (l ∷ ls) = put_in l (rising ls)

-- The sheet: N and R, the steps, the records.
unfoldable pub sheet_bytes : Records → List ℕ
sheet_bytes q = length q.steps ∷ two_bytes_of (length q.pairs) ++ flat_map operation_bytes q.steps ++ flat_map link_bytes (rising q.pairs)

-- 4: a map that is not allowed. Of the steps: step 0 is not plainly open, or a fixed step has a least. Of the records: no link at all, or a gap without after.
unfoldable pub steps_mapped : Bool → List Operation → Bool
steps_mapped first [] = true
steps_mapped first (o ∷ os) = operation_map first (operation_map_of o) && steps_mapped false os

unfoldable pub bad_maps : List Operation → List Link → Bool
bad_maps os ls = not (steps_mapped true os) || any (λ l. not (link_map (link_map_of l))) ls

-- 26: at most from the finish without after. 5: an end that is no step, or both ends are one.
unfoldable pub unsequenced : List Link → Bool
unsequenced ls = any (λ l. not (sequenced (link_map_of l))) ls

unfoldable pub bad_ends : ℕ → List Link → Bool
bad_ends n ls = any (λ l. not (endpoints n l.from l.to)) ls

-- "6 now means that a pair comes twice".
unfoldable pub same_pair : Link → Link → Bool
same_pair l m = eqb l.from m.from && eqb l.to m.to

unfoldable pub comes_twice : List Link → Bool
comes_twice [] = false
comes_twice (l ∷ ls) = any (same_pair l) ls || comes_twice ls

-- "The parts' faults are 2 to 6, in that order", each over the whole of the parts, 26 right after 4; "a short buffer is 14". The counts n and r are given apart from the lists: a list shorter than its count
-- is 14 too, and the faults are judged of what is there.
abbrev pub parts : ℕ → ℕ → List Operation → List Link → Records
parts n r steps links = record { steps = take n steps; pairs = take r links }

unfoldable pub parts_short : ℕ → ℕ → Records → Bool
parts_short n r q = ltb (length q.steps) n || ltb (length q.pairs) r

unfoldable pub write_verdict : ℕ → ℕ → Records → List ℕ → Outcome ℕ
write_verdict n r q buffer =
    refuse_if (not (leb 1 n && leb n most_steps)) 2
    (refuse_if (ltb most_records r) 3
    (refuse_if (bad_maps q.steps q.pairs) 4
    (refuse_if (unsequenced q.pairs) 26
    (refuse_if (bad_ends n q.pairs) 5
    (refuse_if (comes_twice q.pairs) 6
    (refuse_if (parts_short n r q || too_short buffer (length (sheet_bytes q))) 14
    (given (length (sheet_bytes q)))))))))

-- On acceptance the sheet stands at the front of the lent buffer and its length is given; on a refusal the buffer is as lent.
unfoldable pub write_answer : ℕ → ℕ → List Operation → List Link → List ℕ → Written
write_answer n r steps links buffer =
    record { verdict = write_verdict n r (parts n r steps links) buffer; numbers = written (write_verdict n r (parts n r steps links) buffer) (sheet_bytes (parts n r steps links)) buffer }
