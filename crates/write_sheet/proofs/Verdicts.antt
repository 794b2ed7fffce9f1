-- The refusals of the writer in their order, as the code meets them: each stop is the verdict's, and what is passed leaves the rest of it.
use mathlib.Core.Path.{◌≡◌, refl, sym, ap, ap₂, ◌∙◌}
use Rattle.std.specs.Prelude.{Err, Ok}
use Rattle.definitions.specs.Numbers.{Tally, number}
use mathlib.Core.Bool.{Bool, true, false, not, ◌&&◌, ◌||◌}
use mathlib.Core.List.{List}
use Prim.Native.Nat.{ℕ, ◌≤◌, ◌<◌, min}
use native.Mathlib.Decide.{dec_lt}
use native.Mathlib.Omega.{arith}
use lib.Dec.{leb, ltb}
use lib.ListN.{length, take, length-take}
use lib.Seq.{take_all, take-take}
use borrow.Author.Tests.{lt-ltb, le-ltb, le-leb, lt-leb}
use Rattle.definitions.specs.Answers.{too_short, written}
use Rattle.definitions.specs.Basics.{Outcome, given, refused, refuse_if, when_given}
use Rattle.definitions.specs.Bytes.{Records}
use Rattle.definitions.specs.Limits.{most_records, most_steps}
use Rattle.definitions.specs.Writer.{bad_ends, bad_maps, comes_twice, parts, parts_short, sheet_bytes, unsequenced, write_answer, write_verdict}
use Rattle.definitions.specs.declared.Link.{Link}
use Rattle.definitions.specs.declared.Operation.{Operation}
use Rattle.definitions.specs.declared.Refusal.{Refusal}
use Rattle.definitions.specs.declared.Refusal.TheVariants.{BadEndpoint, BadMap, LinkCount, OperationCount, Unsequenced}
use Rattle.laws.proofs.Bools.{neither, or_left, or_right}
use Rattle.laws.proofs.Outcomes.{passes_by, stops_at, three_pass}
use Rattle.data_buffers.specs.Texts.{Put}
use Rattle.data_buffers.proofs.Writing.{put_front}
use Rattle.write_parts.specs.Parts.{LinksShown, StepsScanned, link_maps_bad}
use Rattle.write_parts.specs.declared.LinksFound.{LinksFound}
use Rattle.write_parts.specs.declared.StepsFound.{StepsFound}
use Rattle.write_sheet.specs.Written.{Faults, Leaves, WriteReturned, fault_verdict, order_verdict, parts_there, parts_verdict, room_verdict}

-- A refusal leaves the buffer as lent; and a verdict under another name.
pub leaves_refused : {v : Outcome ℕ} {bytes buffer : List ℕ} {k : Refusal} → v ≡ refused (number k) → Leaves v bytes buffer (Err k) buffer
unfolding written
leaves_refused {bytes = bytes} {buffer} e = record { said = sym e; left = sym (ap (λ (o : Outcome ℕ). written o bytes buffer) e) }

pub leaves_as : {v w : Outcome ℕ} {x y buffer after : List ℕ} {t : Tally} → v ≡ w → x ≡ y → Leaves v x buffer t after → Leaves w y buffer t after
leaves_as {v} {w} {x} {y} {buffer} e f L = record { said = L.said ∙ e; left = L.left ∙ ap₂ (λ (o : Outcome ℕ) (b : List ℕ). written o b buffer) e f }

-- ---- 4, 26 and 5, from what was found

module _ (found : StepsFound) (seen : LinksFound) {wrong : Bool} (e : wrong ≡ (not found.mapped || seen.unmapped)) where
  pub fault_maps : wrong ≡ true → Faults found seen (Err BadMap)
  unfolding fault_verdict
  fault_maps h = record { verdict = λ x. sym (stops_at 4 (refuse_if seen.unsequenced 26 (refuse_if seen.misplaced 5 (given x))) (sym e ∙ h)) }

  -- No map is wrong.
  past_maps : wrong ≡ false → (x : ℕ) → refuse_if seen.unsequenced 26 (refuse_if seen.misplaced 5 (given x)) ≡ fault_verdict found seen x
  unfolding fault_verdict
  past_maps m x = sym (passes_by 4 (refuse_if seen.unsequenced 26 (refuse_if seen.misplaced 5 (given x))) (sym e ∙ m))

  pub fault_limits : wrong ≡ false → seen.unsequenced ≡ true → Faults found seen (Err Unsequenced)
  fault_limits m h = record { verdict = λ x. sym (stops_at 26 (refuse_if seen.misplaced 5 (given x)) h) ∙ past_maps m x }

  pub fault_ends : wrong ≡ false → seen.unsequenced ≡ false → seen.misplaced ≡ true → Faults found seen (Err BadEndpoint)
  fault_ends m p h = record { verdict = λ x. sym (passes_by 26 (refuse_if seen.misplaced 5 (given x)) p ∙ stops_at 5 (given x) h) ∙ past_maps m x }

  pub fault_none : wrong ≡ false → seen.unsequenced ≡ false → seen.misplaced ≡ false → Faults found seen (Ok tt)
  fault_none m p h = record { verdict = λ x. sym (passes_by 26 (refuse_if seen.misplaced 5 (given x)) p ∙ passes_by 5 (given x) h) ∙ past_maps m x }

-- A refusal in front of what comes after an answer.
refuse_before : (b : Bool) (k : ℕ) (o : Outcome ℕ) (rest : Outcome ℕ) → refuse_if b k (when_given o (λ x. rest)) ≡ when_given (refuse_if b k o) (λ x. rest)
unfolding refuse_if when_given
refuse_before true k o rest = refl
refuse_before false k o rest = refl

module _ {n : ℕ} (r : ℕ) (q : Records) (buffer : List ℕ) {found : StepsFound} {seen : LinksFound} (F : StepsScanned q.steps found) (S : LinksShown n q.pairs seen) where
  -- The verdict is that of what was found, and then 6 and 14.
  found_verdict : parts_verdict n r q buffer ≡ when_given (fault_verdict found seen 0) (λ x. order_verdict n r q buffer)
  unfolding parts_verdict fault_verdict bad_maps link_maps_bad when_given
  found_verdict =
      let rest = order_verdict n r q buffer in
      ap₂ (λ (a b : Bool). refuse_if (not a || b) 4 (refuse_if (unsequenced q.pairs) 26 (refuse_if (bad_ends n q.pairs) 5 rest))) (sym F.mapped) (sym S.maps)
      ∙ ap₂ (λ (a b : Bool). refuse_if (not found.mapped || seen.unmapped) 4 (refuse_if a 26 (refuse_if b 5 rest))) (sym S.limits) (sym S.ends)
      ∙ ap (λ (o : Outcome ℕ). refuse_if (not found.mapped || seen.unmapped) 4 (refuse_if seen.unsequenced 26 o)) (refuse_before seen.misplaced 5 (given 0) rest)
      ∙ ap (λ (o : Outcome ℕ). refuse_if (not found.mapped || seen.unmapped) 4 o) (refuse_before seen.unsequenced 26 (refuse_if seen.misplaced 5 (given 0)) rest)
      ∙ refuse_before (not found.mapped || seen.unmapped) 4 (refuse_if seen.unsequenced 26 (refuse_if seen.misplaced 5 (given 0))) rest

  pub parts_refused : {k : Refusal} → Faults found seen (Err k) → parts_verdict n r q buffer ≡ refused (number k)
  unfolding when_given
  parts_refused faults = found_verdict ∙ ap (λ (o : Outcome ℕ). when_given o (λ x. order_verdict n r q buffer)) (sym (faults.verdict 0))

  pub parts_passed : Faults found seen (Ok tt) → parts_verdict n r q buffer ≡ order_verdict n r q buffer
  unfolding when_given
  parts_passed faults = found_verdict ∙ ap (λ (o : Outcome ℕ). when_given o (λ x. order_verdict n r q buffer)) (sym (faults.verdict 0))

pub ends_passed : {n : ℕ} {ls : List Link} {found : StepsFound} {seen : LinksFound} → LinksShown n ls seen → Faults found seen (Ok tt) → bad_ends n ls ≡ false
unfolding fault_verdict
ends_passed {found = found} {seen} S faults = sym S.ends ∙ (three_pass (not found.mapped || seen.unmapped) seen.unsequenced seen.misplaced 4 26 5 0 0 (sym (faults.verdict 0))).1

-- ---- 6 and 14

module _ (n r : ℕ) (q : Records) (buffer : List ℕ) where
  pub order_twice : comes_twice q.pairs ≡ true → order_verdict n r q buffer ≡ refused 6
  unfolding order_verdict
  order_twice h = stops_at 6 (refuse_if (parts_short n r q || too_short buffer (length (sheet_bytes q))) 14 (given (length (sheet_bytes q)))) h

  -- No pair comes twice; fewer steps or records are there than their counts say, or as many.
  module _ (once : comes_twice q.pairs ≡ false) where
    past_order : order_verdict n r q buffer ≡ refuse_if (parts_short n r q || too_short buffer (length (sheet_bytes q))) 14 (given (length (sheet_bytes q)))
    unfolding order_verdict
    past_order = passes_by 6 (refuse_if (parts_short n r q || too_short buffer (length (sheet_bytes q))) 14 (given (length (sheet_bytes q)))) once

    pub order_fewer_steps : length q.steps < n → order_verdict n r q buffer ≡ refused 14
    unfolding parts_short
    order_fewer_steps h = past_order ∙ stops_at 14 (given (length (sheet_bytes q))) (or_left (too_short buffer (length (sheet_bytes q))) (or_left (ltb (length q.pairs) r) (lt-ltb (length q.steps) n h)))

    pub order_fewer_links : length q.pairs < r → order_verdict n r q buffer ≡ refused 14
    unfolding parts_short
    order_fewer_links h = past_order ∙ stops_at 14 (given (length (sheet_bytes q))) (or_left (too_short buffer (length (sheet_bytes q))) (or_right (ltb (length q.steps) n) (lt-ltb (length q.pairs) r h)))

    pub order_whole : n ≤ length q.steps → r ≤ length q.pairs → order_verdict n r q buffer ≡ room_verdict (sheet_bytes q) buffer
    unfolding parts_short room_verdict
    order_whole h k = past_order ∙ ap (λ (b : Bool). refuse_if (b || too_short buffer (length (sheet_bytes q))) 14 (given (length (sheet_bytes q)))) (neither (le-ltb (length q.steps) n h) (le-ltb (length q.pairs) r k))

module _ (bytes buffer : List ℕ) where
  pub room_short : length buffer < length bytes → room_verdict bytes buffer ≡ refused 14
  unfolding room_verdict too_short
  room_short h = stops_at 14 (given (length bytes)) (lt-ltb (length buffer) (length bytes) h)

  pub room_enough : length bytes ≤ length buffer → room_verdict bytes buffer ≡ given (length bytes)
  unfolding room_verdict too_short
  room_enough h = passes_by 14 (given (length bytes)) (le-ltb (length buffer) (length bytes) h)

-- The bytes at the front of the buffer, and their number.
pub leaves_given : {bytes buffer after : List ℕ} {size p : ℕ} → size ≡ length bytes → length bytes ≤ length buffer → Put bytes 0 p buffer after → Leaves (room_verdict bytes buffer) bytes buffer (Ok size) after
unfolding written
leaves_given {bytes} {buffer} long room put =
    let e = room_enough bytes buffer room in
    record { said = ap given long ∙ sym e; left = put_front put ∙ sym (ap (λ (o : Outcome ℕ). written o bytes buffer) e) }

-- ---- 2 and 3, and the whole

module _ (n r : ℕ) (steps : List Operation) (links : List Link) (buffer : List ℕ) where
  -- The rest of the verdict, behind 2 and 3.
  abbrev rest : Outcome ℕ
  rest = parts_verdict n r (parts n r steps links) buffer

  verdict_is : (write_answer n r steps links buffer).verdict ≡ refuse_if (not (leb 1 n && leb n most_steps)) 2 (refuse_if (ltb most_records r) 3 rest)
  unfolding write_answer write_verdict parts_verdict order_verdict
  verdict_is = refl

  -- What is left by a verdict is what the call leaves.
  pub returned : {t : Tally} {after : List ℕ} → Leaves (write_answer n r steps links buffer).verdict (sheet_bytes (parts n r steps links)) buffer t after → WriteReturned n r steps links buffer t after
  unfolding write_answer
  returned L = record { verdict = L.said; numbers = L.left }

  pub returned_none : n < 1 → WriteReturned n r steps links buffer (Err OperationCount) buffer
  returned_none h = returned (leaves_refused (verdict_is ∙ stops_at 2 (refuse_if (ltb most_records r) 3 rest) (ap (λ (b : Bool). not (b && leb n most_steps)) (lt-leb 1 n h))))

  pub returned_many : 1 ≤ n → most_steps < n → WriteReturned n r steps links buffer (Err OperationCount) buffer
  returned_many p h = returned (leaves_refused (verdict_is ∙ stops_at 2 (refuse_if (ltb most_records r) 3 rest) (ap₂ (λ (a b : Bool). not (a && b)) (le-leb 1 n p) (lt-leb n most_steps h))))

  module _ (p : 1 ≤ n) (h : n ≤ most_steps) where
    past_count : (write_answer n r steps links buffer).verdict ≡ refuse_if (ltb most_records r) 3 rest
    past_count = verdict_is ∙ passes_by 2 (refuse_if (ltb most_records r) 3 rest) (ap₂ (λ (a b : Bool). not (a && b)) (le-leb 1 n p) (le-leb n most_steps h))

    pub returned_records : most_records < r → WriteReturned n r steps links buffer (Err LinkCount) buffer
    returned_records k = returned (leaves_refused (past_count ∙ stops_at 3 rest (lt-ltb most_records r k)))

    pub returned_parts : {t : Tally} {after : List ℕ} → r ≤ most_records → Leaves rest (sheet_bytes (parts n r steps links)) buffer t after → WriteReturned n r steps links buffer t after
    returned_parts k L = returned (leaves_as (sym (past_count ∙ passes_by 3 rest (le-ltb most_records r k))) refl L)

-- The first ones of the first ones.
take_min : {A : Type 0} (m k : ℕ) (l : List A) → take m (take k l) ≡ take (min m k) l
take_min m k l = go (dec_lt k m)
  where
    go : Dec (k < m) → take m (take k l) ≡ take (min m k) l
    go (yes c) =
        let e : min m k ≡ k = omega arith in
        take_all m (take k l) (omega (arith, length-take k l)) ∙ ap (λ (i : ℕ). take i l) (sym e)
    go (no c) =
        let e : min m k ≡ m = omega arith in
        take-take m k l (omega arith) ∙ ap (λ (i : ℕ). take i l) (sym e)

pub there_parts : (n r g p : ℕ) (steps : List Operation) (links : List Link) {a b : ℕ} → a ≡ min n g → b ≡ min r p → parts_there steps a links b ≡ parts n r (take g steps) (take p links)
there_parts n r g p steps links e f =
    ap₂ (λ (os : List Operation) (ls : List Link). record { steps = os; pairs = ls }) (ap (λ (i : ℕ). take i steps) e ∙ sym (take_min n g steps)) (ap (λ (i : ℕ). take i links) f ∙ sym (take_min r p links))
