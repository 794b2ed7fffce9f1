-- The bytes of the steps and of the link records, as the loops put them: a text for each, one after the other.
use mathlib.Core.Path.{◌≡◌, refl, sym, ap, ◌∙◌}
use mathlib.Core.List.{List, [], ◌∷◌, ◌++◌}
use Prim.Native.Nat.{ℕ, ◌+◌, ◌≤◌, ◌<◌}
use native.Mathlib.Omega.{arith}
use lib.ListN.{length, length-take, get_or, take}
use Rattle.definitions.specs.Bytes.{blank_operation}
use Rattle.definitions.specs.Clashes.{blank_link}
use Rattle.definitions.specs.Writer.{link_bytes, operation_bytes, two_bytes_of}
use Rattle.definitions.specs.declared.Link.{Link}
use Rattle.definitions.specs.declared.Operation.{Operation}
use lib.Seq.{get_or-take}
use Rattle.laws.proofs.Lists.{flatMap_map, inside_same}
use Rattle.data_buffers.specs.Texts.{texts}
use Rattle.data_buffers.proofs.Writing.{left_room, texts_list}
use Rattle.write_bytes.specs.Sheets.{StepsFit, LinksFit, steps_text, links_text, sheet_text}

-- The text of step i, and of the record that stands at place i of the order.
abbrev pub step_text : List Operation → ℕ → List ℕ
step_text steps i = operation_bytes (get_or steps i blank_operation)

abbrev pub link_text : List Link → List ℕ → ℕ → List ℕ
link_text links order i = link_bytes (get_or links (get_or order i 0) blank_link)

-- One of the first n steps, under another element for what stands outside.
pub step_here : (steps : List Operation) (n i : ℕ) (z : Operation) → i < length (take n steps) → get_or (take n steps) i z ≡ get_or steps i blank_operation
step_here steps n i z b = inside_same (take n steps) i z blank_operation b ∙ get_or-take n steps i blank_operation (omega (arith, length-take n steps))

pub steps_listed : (steps : List Operation) (n : ℕ) → n ≤ length steps → texts (step_text steps) n ≡ steps_text steps n
steps_listed steps n b = texts_list operation_bytes steps blank_operation n b

pub links_listed : (links : List Link) (order : List ℕ) (r : ℕ) → r ≤ length order → texts (link_text links order) r ≡ links_text links order r
links_listed links order r b = texts_list (λ k. link_bytes (get_or links k blank_link)) order 0 r b ∙ sym (flatMap_map link_bytes (λ k. get_or links k blank_link) (take r order))

-- There is room for the texts, where there is room for what is to be put.
pub steps_room : {steps : List Operation} {n at : ℕ} {out : List ℕ} → StepsFit steps n out at → n ≤ length steps → at + length (texts (step_text steps) n) ≤ length out
steps_room {steps} {n} fit b = omega (arith, ap length (steps_listed steps n b), fit.room)

pub links_room : {links : List Link} {order : List ℕ} {r at : ℕ} {out : List ℕ} → LinksFit links order r out at → at + length (texts (link_text links order) r) ≤ length out
links_room {links} {order} {r} fit = omega (arith, ap length (links_listed links order r fit.ordered.long), fit.room)

-- The sheet, part by part, and room for what it begins with.
module _ (n : ℕ) (steps : List Operation) (r : ℕ) (links : List Link) (order : List ℕ) where
  pub sheet_parts : (n ∷ []) ++ two_bytes_of r ++ steps_text steps n ++ links_text links order r ≡ sheet_text n steps r links order
  unfolding sheet_text
  sheet_parts = refl

  pub record SheetRooms (m : ℕ) : Type 0 where
    pub count : 1 ≤ m
    pub head : 0 + length ((n ∷ []) ++ two_bytes_of r) ≤ m
    pub steps_room : 0 + length ((n ∷ []) ++ two_bytes_of r ++ steps_text steps n) ≤ m
    pub whole : 0 + length ((n ∷ []) ++ two_bytes_of r ++ steps_text steps n ++ links_text links order r) ≤ m

  pub sheet_rooms : (m : ℕ) → length (sheet_text n steps r links order) ≤ m → SheetRooms m
  sheet_rooms m room =
      let two = (n ∷ []) ++ two_bytes_of r in
      let whole : 0 + length (two ++ steps_text steps n ++ links_text links order r) ≤ m = omega (arith, ap length sheet_parts) in
      let three = left_room 0 (two ++ steps_text steps n) (links_text links order r) m whole in
      let head = left_room 0 two (steps_text steps n) m three in
      record { count = omega (arith, left_room 0 (n ∷ []) (two_bytes_of r) m head); head = head; steps_room = three; whole = whole }
