-- The loop over the link records: those read, put in front of those that are left, give the same answer as the whole, the first words stand for the edges of those read, and a map has the steps that these lead into.
use mathlib.Core.Path.{◌≡◌, refl, sym, ap, ◌∙◌}
use Rattle.std.specs.Prelude.{None}
use Rattle.definitions.specs.Bytes.{Previous, link, links, pair_of}
use mathlib.Core.List.{List, [], ◌∷◌, ◌++◌, flat_map, map, map-append}
use Prim.Native.Nat.{ℕ, suc, ◌+◌, ◌-◌, ◌*◌, ◌≤◌, ◌<◌}
use native.Mathlib.Omega.{arith}
use lib.ListN.{length, take, drop, get_or, length-append}
use Rattle.definitions.specs.Basics.{given, refused}
use Rattle.definitions.specs.Limits.{links_of_record}
use Rattle.definitions.specs.Links.{Edge, link_constraints, constraints, source_link, loose_steps, completed, edge_of, edges}
use Rattle.definitions.specs.declared.Link.{Link}
use Rattle.definitions.specs.declared.Operation.{Operation}
use Rattle.data_edges.specs.Words.{graph}
use Rattle.read_fields.specs.Parts.{outcome}
use Rattle.laws.proofs.Parsers.{Unread, unread_start, unread_one, unread_refused, unread_none}
use Rattle.read_pair.specs.Answers.{Ranks, Ranked}
use Rattle.read_pair.specs.Parts.{link_fields, link_from}
use Rattle.read_steps.specs.Leaving.{Leaves}
use Rattle.read_links.specs.Pushes.{Took}
use Rattle.read_links.specs.Completes.{Entered, EnteredMore, Completes}
use Rattle.read_links.proofs.Completing.{entered_none, entered_more}
use Rattle.read_links.proofs.Records.{link_few, edges_more}
use Rattle.read_records.specs.Answers.{LinksFound}
use Rattle.read_records.specs.Parts.{last_links}

-- The loop's invariant: i of r records are read, `last` is the number of the last pair, the words are right for all steps that add these digits, and `entered` is the map of the steps that forward links lead into.
pub record Edged (digits : List ℕ) (n r : ℕ) (bytes : List ℕ) (i last : ℕ) (rest words : List ℕ) (count entered : ℕ) : Type 0 where
  pub done : List Link
  pub previous : Previous
  pub ranked : Ranked previous last
  pub within : i ≤ r
  pub taken : length done ≡ i
  pub unread : Unread (link n) pair_of r None bytes done (r - i) previous rest
  pub few : count ≤ links_of_record * i
  pub same : (os : List Operation) → Leaves os n digits → graph (take count words) ≡ edges os (constraints done)
  pub enters : Entered (constraints done) entered

module _ (digits : List ℕ) (n r : ℕ) (bytes : List ℕ) where
  -- None is read.
  pub edged_none : (words : List ℕ) → Edged digits n r bytes 0 0 bytes words 0 0
  unfolding graph edges constraints flat_map
  edged_none words =
      let e : r - 0 ≡ r = omega arith in
      record { done = []; previous = None; ranked = refl; within = omega arith; taken = refl; unread = rw e (unread_start (link n) pair_of r None bytes); few = omega arith; same = λ os h. refl; enters = entered_none }

  module _ (i last : ℕ) (rest words : List ℕ) (count entered : ℕ) (so : Edged digits n r bytes i last rest words count entered) where
    one_left : i < r → Unread (link n) pair_of r None bytes so.done (suc (r - (i + 1))) so.previous rest
    one_left h = let e : suc (r - (i + 1)) ≡ r - i = omega arith in rw e so.unread

    -- One more is read from its fields on, and its edges are pushed, those of all steps of which its first adds what stands at `source`.
    module _ (m from to at source : ℕ) (pair : link_fields m from to (drop at bytes) ≡ link n so.previous rest) (words' : List ℕ) (next count' : ℕ) (T : Took m from to (get_or digits source 0) bytes at words words' count next count') where
      abbrev more : Link
      more = link_from m from to T.fields

      edges_same : (os : List Operation) → Leaves os n digits → source ≡ from → from < n → graph (take count' words') ≡ edges os (constraints (so.done ++ more ∷ []))
      unfolding link_from
      edges_same os h e below =
          T.pushed.same os (ap (λ (k : ℕ). get_or digits k 0) e ∙ h.each from below)
          ∙ ap (λ (x : List Edge). x ++ edges os (link_constraints more)) (so.same os h)
          ∙ sym (edges_more os so.done more)

      pub edged_more : i < r → source ≡ from → from < n → (last' : ℕ) → Ranks from to last' → (entered' : ℕ) → EnteredMore m to entered entered' → Edged digits n r bytes (i + 1) last' (drop next bytes) words' count' entered'
      unfolding pair_of link_from
      edged_more h e below last' number entered' enters = record {
        done = so.done ++ more ∷ [];
        previous = pair_of more;
        ranked = number;
        within = omega arith;
        taken = length-append so.done (more ∷ []) ∙ ap (λ (k : ℕ). k + 1) so.taken;
        unread = unread_one (link n) pair_of r None bytes so.done (r - (i + 1)) so.previous rest (drop next bytes) more (sym pair ∙ T.same) (one_left h);
        few = omega (arith, so.few, T.pushed.counts, link_few m from to T.fields);
        same = λ os h. edges_same os h e below;
        enters = entered_more so.done m from to T.fields entered entered' enters so.enters;
      }

    -- The next one is refused: so is the whole.
    pub edged_refused : i < r → (q : ℕ) → link n so.previous rest ≡ refused q → links n r bytes ≡ refused q
    unfolding links
    edged_refused h q e = unread_refused (link n) pair_of r None bytes so.done (r - (i + 1)) so.previous rest q e (one_left h)

    -- All are read.
    pub edged_all : r ≤ i → links n r bytes ≡ given (record { value = so.done; rest = rest })
    unfolding links
    edged_all h =
        let none : r - i ≡ 0 = omega arith in
        unread_none (link n) pair_of r None bytes so.done so.previous rest (rw none at so.unread)

    -- What is answered once the added links are pushed too: the edges of the completed links of all records, those of the records first.
    module _ (words' : List ℕ) (count' : ℕ) (added : Completes n entered (get_or digits 0 0) words words' count count') where
      edges_completed : (os : List Operation) → Leaves os n digits → graph (take count' words') ≡ edges os (completed n (constraints so.done))
      unfolding edges completed
      edges_completed os h =
          let cs = constraints so.done in
          added.same os (h.each 0) cs so.enters
          ∙ ap (λ (es : List Edge). es ++ edges os (map source_link (loose_steps n cs))) (so.same os h)
          ∙ sym (map-append (edge_of os) cs (map source_link (loose_steps n cs)))

      edges_sent : (os : List Operation) → Leaves os n digits → graph (take count words') ≡ edges os (constraints so.done)
      edges_sent os h = ap graph added.kept ∙ so.same os h

      pub links_found : r ≤ i → outcome (last_links n r) bytes ≡ given so.done → LinksFound bytes n r digits words' (record { count = count'; linked = count })
      links_found all e = record {
        links = so.done;
        are_given = e;
        records = omega (arith, so.taken, so.within);
        few = omega (arith, so.few, so.within, added.few);
        same = edges_completed;
        linked = omega (arith, so.few, so.within);
        sent = edges_sent;
      }
