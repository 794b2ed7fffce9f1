-- The link records up to the end of the bytes: refused, or with bytes behind them, or whole.
use mathlib.Core.Path.{◌≡◌}
use mathlib.Core.List.{List}
use Prim.Native.Nat.{ℕ, ◌≤◌, ◌<◌}
use lib.ListN.{length}
use Rattle.definitions.specs.Basics.{given, refused, when_given}
use Rattle.definitions.specs.Bytes.{at_end, links}
use Rattle.definitions.specs.declared.Link.{Link}
use Rattle.laws.proofs.Parsers.{drop_byte, drop_end}
use Rattle.read_fields.specs.Parts.{outcome}
use Rattle.read_fields.specs.Answers.{item_at}
use Rattle.read_records.specs.Parts.{last_links}

module _ (n r : ℕ) (s : List ℕ) where
  pub links_refused : {k : ℕ} → links n r s ≡ refused k → outcome (last_links n r) s ≡ refused k
  unfolding outcome last_links when_given
  links_refused e = rw e

  module _ {ls : List Link} (next : ℕ) (there : links n r s ≡ item_at s ls next) where
    pub links_trailing : next < length s → outcome (last_links n r) s ≡ refused 7
    unfolding outcome last_links when_given at_end
    links_trailing h = rw (there, drop_byte s next h)

    pub links_whole : length s ≤ next → outcome (last_links n r) s ≡ given ls
    unfolding outcome last_links when_given at_end
    links_whole h = rw (there, drop_end s next h)
