-- What the parts of a sheet show when each is seen once.
use Rattle.std.specs.Prelude.{◌≡◌, Bool, true, not, ◌&&◌, ◌||◌, ℕ, ◌+◌, ◌*◌, ◌≤◌, length, drop}
use mathlib.Core.List.{List, ◌++◌, flat_map, map}
use Rattle.definitions.specs.Basics.{any}
use Rattle.definitions.specs.Bytes.{endpoints, link_map, operation_map, sequenced}
use Rattle.definitions.specs.Limits.{longest_record, most_records, most_steps}
use Rattle.definitions.specs.Writer.{bad_ends, link_bytes, link_map_of, operation_bytes, operation_map_of, steps_mapped, unsequenced}
use Rattle.definitions.specs.declared.Link.{Link}
use Rattle.definitions.specs.declared.Operation.{Operation}
use Rattle.write_fields.specs.Sizes.{largest_step}
use Rattle.write_parts.specs.declared.LinksFound.{LinksFound}
use Rattle.write_parts.specs.declared.StepsFound.{StepsFound}

-- The cell of a pair of steps: a row of 64 cells for each i. Pairs rise as their cells do, where both ends are steps.
unfoldable pub cell_of : Link → ℕ
cell_of l = l.from * 64 + l.to

-- The test for 4, of the link records alone.
unfoldable pub link_maps_bad : List Link → Bool
link_maps_bad ls = any (λ l. not (link_map (link_map_of l))) ls

-- ## Of the steps

pub record StepsScanned (os : List Operation) (found : StepsFound) : Type 0 where
  pub mapped : found.mapped ≡ steps_mapped true os
  pub size : found.size ≡ length (flat_map operation_bytes os)
  pub small : found.size ≤ largest_step * length os

-- Sizes that another record can be added to.
pub record StepsSmall (seen : StepsFound) : Type 0 where
  pub small : seen.size ≤ largest_step * most_steps

-- One more, after those that have been seen.
pub record StepSeen (first : Bool) (o : Operation) (seen found : StepsFound) : Type 0 where
  pub mapped : found.mapped ≡ (seen.mapped && operation_map first (operation_map_of o))
  pub size : found.size ≡ seen.size + length (operation_bytes o)
  pub small : found.size ≤ seen.size + largest_step

-- ## Of the link records

pub record LinksShown (n : ℕ) (ls : List Link) (found : LinksFound) : Type 0 where
  pub maps : found.unmapped ≡ link_maps_bad ls
  pub limits : found.unsequenced ≡ unsequenced ls
  pub ends : found.misplaced ≡ bad_ends n ls
  pub size : found.size ≡ length (flat_map link_bytes ls)
  pub small : found.size ≤ longest_record * length ls

pub record LinksSmall (seen : LinksFound) : Type 0 where
  pub small : seen.size ≤ longest_record * most_records

pub record LinkSeen (n : ℕ) (l : Link) (seen found : LinksFound) : Type 0 where
  pub maps : found.unmapped ≡ (seen.unmapped || not (link_map (link_map_of l)))
  pub limits : found.unsequenced ≡ (seen.unsequenced || not (sequenced (link_map_of l)))
  pub ends : found.misplaced ≡ (seen.misplaced || not (endpoints n l.from l.to))
  pub size : found.size ≡ seen.size + length (link_bytes l)
  pub small : found.size ≤ seen.size + longest_record

-- Room for their cells.
pub record LinksReady (r : ℕ) (cells : List ℕ) : Type 0 where
  pub few : r ≤ most_records
  pub room : r ≤ length cells

pub record LinksScanned (n : ℕ) (ls : List Link) (old : List ℕ) (found : LinksFound) (new : List ℕ) : Type 0 where
  pub shown : LinksShown n ls found
  pub cells : new ≡ map cell_of ls ++ drop (length ls) old
