-- What the answers of functions that read at a place say: an item and the place after it, or a refusal by its number.
use Rattle.std.specs.Prelude.{◌≡◌, Bool, cond, List, ℕ, ◌+◌, ◌*◌, ◌≤◌, length, drop, get_or, Result, Ok, Err}
use Rattle.definitions.specs.Basics.{Outcome, given, refused}
use Rattle.definitions.specs.Numbers.{number}
use Rattle.definitions.specs.Bytes.{Taken, Parser, two_bytes}
use Rattle.definitions.specs.declared.Refusal.{Refusal}
use Rattle.read_fields.specs.declared.Item.{Item}

-- The number of two bytes at a place of the bytes s, the low one first.
unfoldable pub number_at : List ℕ → ℕ → ℕ
number_at s at = get_or s at 0 + 256 * get_or s (at + 1) 0

-- A field that is there or not, from a place on: where it ends, and its number.
abbrev pub field_end : ℕ → Bool → ℕ
field_end at there = cond there (at + 2) at

abbrev pub field_at : List ℕ → ℕ → Bool → ℕ
field_at s at there = cond there (number_at s at) 0

-- Where it ends is r: not before it begins, and two bytes behind that at most.
pub record FieldEnds (at : ℕ) (there : Bool) (r : ℕ) : Type 0 where
  pub same : r ≡ field_end at there
  pub forth : at ≤ r
  pub near : r ≤ at + 2

-- An item of the bytes s, which ends before the place `next`.
abbrev pub item_at : {A : Type 0} → List ℕ → A → ℕ → Outcome (Taken A)
item_at s x next = given (record { value = x; rest = drop next s })

-- An answer about the bytes s: an item, or a refusal by its number.
abbrev pub item_read : {A : Type 0} → List ℕ → Result (Item A) Refusal → Outcome (Taken A)
item_read s (Ok x) = item_at s x.value x.next
item_read s (Err k) = refused (number k)

-- The place after the item; 0 beside a refusal.
abbrev pub item_end : {A : Type 0} → Result (Item A) Refusal → ℕ
item_end (Ok x) = x.next
item_end (Err k) = 0

-- The answer is what the parser p finds at a place of the bytes s, and what it takes ends within s.
pub record Reads {A : Type 0} (s : List ℕ) (at : ℕ) (p : Parser A) (r : Result (Item A) Refusal) : Type 0 where
  pub same : item_read s r ≡ p (drop at s)
  pub inside : item_end r ≤ length s

abbrev pub NumberReads : List ℕ → ℕ → Result (Item ℕ) Refusal → Type 0
NumberReads s at r = Reads s at two_bytes r
