-- What the records of a sheet that has been read are besides what document 01 says of each of them: they stand in order, and none is empty. And numbers of records, that name a part of them.
use Rattle.std.specs.Prelude.{ℕ, suc, ◌+◌, ◌*◌, ◌≤◌, ◌<◌, length, get_or}
use mathlib.Core.List.{List, Memᴰ}
use Rattle.definitions.specs.Limits.{most_steps}
use Rattle.definitions.specs.Links.{link_constraints}
use Rattle.definitions.specs.Clashes.{blank_link}
use Rattle.definitions.specs.declared.Link.{Link}

-- The place of a record's pair among all pairs of steps: by i, then by j.
abbrev pub rank : Link → ℕ
rank l = l.from * most_steps + l.to

-- "Pairs rise strictly, by i, then by j" (refusal 6), and an empty map is not allowed (refusal 4), nor one with bit 3 or 4 alone: every record has a link.
pub record Ordered (ls : List Link) : Type 0 where
  pub rises : (k : ℕ) → suc k < length ls → rank (get_or ls k blank_link) < rank (get_or ls (suc k) blank_link)
  pub some : (k : ℕ) → k < length ls → 1 ≤ length (link_constraints (get_or ls k blank_link))

-- Numbers of records, counted from 0, of a sheet that has r of them.
abbrev pub Within : ℕ → List ℕ → Type 0
Within r ks = (k : ℕ) → Memᴰ k ks → k < r
