-- The parts of a record, case by case, and joined: each law is the definition's text.
use mathlib.Core.Path.{◌≡◌, refl, sym, ap, ◌∙◌}
use Rattle.std.specs.Prelude.{None, Option, Some}
use mathlib.Core.Bool.{Bool, true, false, cond}
use mir.Val.{bool_byte}
use mathlib.Core.List.{[], ◌∷◌, ◌++◌}
use Prim.Native.Nat.{ℕ, zero, suc, ◌+◌, ◌≤◌}
use native.Mathlib.Omega.{arith}
use lib.ListN.{length, length-append}
use Rattle.definitions.specs.Writer.{bit_of, duration_of, field_of, link_bytes, link_map_of, open_bit, operation_bytes, operation_map_of, two_bytes_of}
use Rattle.definitions.specs.declared.Delay.{Delay}
use Rattle.definitions.specs.declared.Delay.TheVariants.{Open, Fixed}
use Rattle.definitions.specs.declared.Link.{Link}
use Rattle.definitions.specs.declared.Operation.{Operation}
use Rattle.definitions.specs.Limits.{longest_record}
use Rattle.data_buffers.proofs.Writing.{left_room}
use Rattle.write_fields.specs.Sizes.{BitFor, Sized, largest_step, link_front}

-- ---- a field that is there or not, and the bits of a map

pub bit_absent : {b : (Option ℕ)} {k : ℕ} → b ≡ None → BitFor k (bit_of b k) 0
unfolding bit_of
bit_absent {b} {k} e = record { same = sym (ap (λ (x : Option ℕ). bit_of x k) e); small = omega arith }

pub bit_there : {b : (Option ℕ)} {k x : ℕ} → b ≡ Some x → BitFor k (bit_of b k) k
unfolding bit_of
bit_there {b} {k} e = record { same = sym (ap (λ (x : Option ℕ). bit_of x k) e); small = omega arith }

pub open_there : {d : Delay} {b : Bool} → d ≡ Open → b ≡ true → BitFor 1 (open_bit d) (bool_byte b)
unfolding open_bit
open_there e b = record { same = ap bool_byte b ∙ sym (ap open_bit e); small = omega (arith, ap bool_byte b) }

pub open_absent : {d : Delay} {x : ℕ} {b : Bool} → d ≡ Fixed x → b ≡ false → BitFor 1 (open_bit d) (bool_byte b)
unfolding open_bit
open_absent e b = record { same = ap bool_byte b ∙ sym (ap open_bit e); small = omega (arith, ap bool_byte b) }

-- A test as a bit.
pub byte_bit : (there : Bool) → bool_byte there ≡ cond there 1 0
byte_bit true = refl
byte_bit false = refl

pub field_absent : {b : (Option ℕ)} → b ≡ None → [] ≡ field_of b
unfolding field_of
field_absent e = sym (ap field_of e)

pub field_there : {b : (Option ℕ)} {x : ℕ} → b ≡ Some x → two_bytes_of x ≡ field_of b
unfolding field_of
field_there e = sym (ap field_of e)

pub two_bytes_size : (x : ℕ) → length (two_bytes_of x) ≡ 2
unfolding two_bytes_of
two_bytes_size x = refl

pub size_absent : {b : (Option ℕ)} → b ≡ None → Sized 2 (field_of b) 0
size_absent e = record { same = ap length (field_absent e); small = omega arith }

pub size_there : {b : (Option ℕ)} {x : ℕ} → b ≡ Some x → Sized 2 (field_of b) 2
size_there {b} {x} e = record { same = sym (two_bytes_size x) ∙ ap length (field_there e); small = omega arith }

-- ---- a duration: none of an open step, and none where it is 0

pub duration_open : {d : Delay} → d ≡ Open → None ≡ duration_of d
unfolding duration_of
duration_open e = sym (ap duration_of e)

pub duration_none : {d : Delay} {x : ℕ} → d ≡ Fixed x → x ≡ 0 → None ≡ duration_of d
unfolding duration_of
duration_none e z = sym (ap duration_of (e ∙ ap Fixed z))

pub duration_there : {d : Delay} {x : ℕ} → d ≡ Fixed x → (x ≡ 0 → ⊥) → Some x ≡ duration_of d
unfolding duration_of
duration_there {d} {x} e some = go x some ∙ sym (ap duration_of e)
  where
    go : (x : ℕ) → (x ≡ 0 → ⊥) → Some x ≡ duration_of (Fixed x)
    go zero none = absurd (none refl)
    go (suc x) none = refl

-- ---- whole records

pub step_parts : (o : Operation) → (operation_map_of o ∷ []) ++ field_of (duration_of o.delay) ++ field_of o.least ≡ operation_bytes o
unfolding operation_bytes
step_parts o = refl

pub front_parts : (l : Link) → (link_map_of l ∷ []) ++ (l.from ∷ l.to ∷ []) ≡ link_front l
unfolding link_front
front_parts l = refl

pub link_parts : (l : Link) → link_front l ++ field_of l.minimum ++ field_of l.maximum ++ field_of l.gap ++ field_of l.latest ≡ link_bytes l
unfolding link_front link_bytes
link_parts l = refl

pub front_size : (l : Link) → length (link_front l) ≡ 3
unfolding link_front
front_size l = refl

-- Where there is room for a record, there is room for what it begins with.
module _ (at m : ℕ) where
  pub record StepRooms (o : Operation) : Type 0 where
    pub map : at + 1 ≤ m
    pub duration : at + length ((operation_map_of o ∷ []) ++ field_of (duration_of o.delay)) ≤ m
    pub least : at + length ((operation_map_of o ∷ []) ++ field_of (duration_of o.delay) ++ field_of o.least) ≤ m

  pub step_rooms : (o : Operation) → at + length (operation_bytes o) ≤ m → StepRooms o
  step_rooms o room =
      let all : at + length ((operation_map_of o ∷ []) ++ field_of (duration_of o.delay) ++ field_of o.least) ≤ m = omega (arith, ap length (step_parts o)) in
      let two = left_room at ((operation_map_of o ∷ []) ++ field_of (duration_of o.delay)) (field_of o.least) m all in
      record { map = left_room at (operation_map_of o ∷ []) (field_of (duration_of o.delay)) m two; duration = two; least = all }

  pub record LinkRooms (l : Link) : Type 0 where
    pub front : at + 3 ≤ m
    pub minimum : at + length (link_front l ++ field_of l.minimum) ≤ m
    pub maximum : at + length (link_front l ++ field_of l.minimum ++ field_of l.maximum) ≤ m
    pub gap : at + length (link_front l ++ field_of l.minimum ++ field_of l.maximum ++ field_of l.gap) ≤ m
    pub latest : at + length (link_front l ++ field_of l.minimum ++ field_of l.maximum ++ field_of l.gap ++ field_of l.latest) ≤ m

  pub link_rooms : (l : Link) → at + length (link_bytes l) ≤ m → LinkRooms l
  link_rooms l room =
      let one = link_front l ++ field_of l.minimum in
      let two = one ++ field_of l.maximum in
      let three = two ++ field_of l.gap in
      let all : at + length (three ++ field_of l.latest) ≤ m = omega (arith, ap length (link_parts l)) in
      let to_gap = left_room at three (field_of l.latest) m all in
      let to_maximum = left_room at two (field_of l.gap) m to_gap in
      let to_minimum = left_room at one (field_of l.maximum) m to_maximum in
      let to_front = left_room at (link_front l) (field_of l.minimum) m to_minimum in
      record { front = omega (arith, front_size l); minimum = to_minimum; maximum = to_maximum; gap = to_gap; latest = all }

-- The sizes of whole records.
pub step_sized : (o : Operation) {d e : ℕ} → Sized 2 (field_of (duration_of o.delay)) d → Sized 2 (field_of o.least) e → Sized largest_step (operation_bytes o) (1 + d + e)
step_sized o D E = record {
  same = omega (arith, D.same, E.same, ap length (step_parts o), length-append ((operation_map_of o ∷ []) ++ field_of (duration_of o.delay)) (field_of o.least), length-append (operation_map_of o ∷ []) (field_of (duration_of o.delay)));
  small = omega (arith, D.small, E.small);
}

pub link_sized : (l : Link) {a b c d : ℕ} → Sized 2 (field_of l.minimum) a → Sized 2 (field_of l.maximum) b → Sized 2 (field_of l.gap) c → Sized 2 (field_of l.latest) d → Sized longest_record (link_bytes l) (3 + a + b + c + d)
link_sized l A B C D =
    let one = link_front l ++ field_of l.minimum in
    let two = one ++ field_of l.maximum in
    let three = two ++ field_of l.gap in
    let whole : length (link_bytes l) ≡ 3 + length (field_of l.minimum) + length (field_of l.maximum) + length (field_of l.gap) + length (field_of l.latest) = omega (arith, ap length (link_parts l), front_size l, length-append three (field_of l.latest), length-append two (field_of l.gap), length-append one (field_of l.maximum), length-append (link_front l) (field_of l.minimum)) in
    record { same = omega (arith, whole, A.same, B.same, C.same, D.same); small = omega (arith, A.small, B.small, C.small, D.small) }

-- The sums of the bits.
pub step_mapped : (o : Operation) {a b c : ℕ} → a ≡ open_bit o.delay → b ≡ bit_of (duration_of o.delay) 2 → c ≡ bit_of o.least 4 → a + b + c ≡ operation_map_of o
unfolding operation_map_of
step_mapped o a b c = omega arith

pub link_mapped : (l : Link) {a b c d e : ℕ} → a ≡ cond l.sequencing 1 0 → b ≡ bit_of l.minimum 2 → c ≡ bit_of l.maximum 4 → d ≡ bit_of l.gap 8 → e ≡ bit_of l.latest 16 → a + b + c + d + e ≡ link_map_of l
unfolding link_map_of
link_mapped l a b c d e = omega arith
