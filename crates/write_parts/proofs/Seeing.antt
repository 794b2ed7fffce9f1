-- What the parts show, one more at a time: the tests for their faults, and their sizes.
use mathlib.Core.Path.{◌≡◌, refl, sym, ap, ap₂, ◌∙◌}
use mathlib.Core.Bool.{Bool, true, false, not, ◌&&◌, ◌||◌, and_assoc, and-true}
use mathlib.Core.List.{List, [], ◌∷◌, ◌++◌, flat_map, map}
use Prim.Native.Nat.{ℕ, suc, ◌+◌, ◌≤◌, ◌<◌}
use native.Mathlib.Omega.{arith}
use native.Mathlib.Numerals.{add-one}
use lib.Dec.{eqb, leb}
use lib.ListN.{length, get_or, take, drop, set, length-append, length-drop, length-map}
use lib.Seq.{take-suc, drop-cons, set_at, append_snoc, length-take-le}
use borrow.Author.Tests.{le-leb, lt-leb, ne_eqb}
use Rattle.definitions.specs.Basics.{any, test_bit}
use Rattle.definitions.specs.Bytes.{endpoints, link_map, operation_map, sequenced}
use Rattle.definitions.specs.Writer.{bad_ends, link_bytes, link_map_of, operation_bytes, operation_map_of, steps_mapped, unsequenced}
use Rattle.definitions.specs.declared.Link.{Link}
use Rattle.definitions.specs.declared.Operation.{Operation}
use Rattle.laws.proofs.Lists.{flatMap_snoc}
use Rattle.laws.proofs.Searches.{any_snoc, map_take_more}
use Rattle.write_parts.specs.declared.LinksFound.{LinksFound}
use Rattle.write_parts.specs.declared.StepsFound.{StepsFound}
use Rattle.write_parts.specs.Parts.{cell_of, link_maps_bad, StepsScanned, StepSeen, LinksShown, LinkSeen, LinksScanned}

-- ---- the steps

-- One step more, at the end: it is the first where there was none.
mapped_more : (first : Bool) (os : List Operation) (o : Operation) → steps_mapped first (os ++ o ∷ []) ≡ (steps_mapped first os && operation_map (first && eqb (length os) 0) (operation_map_of o))
unfolding steps_mapped
mapped_more first [] o = and-true (operation_map first (operation_map_of o)) ∙ ap (λ (b : Bool). operation_map b (operation_map_of o)) (sym (and-true first))
mapped_more first (p ∷ os) o =
    ap (λ (b : Bool). operation_map first (operation_map_of p) && b) (mapped_more false os o ∙ ap (λ (b : Bool). steps_mapped false os && operation_map b (operation_map_of o)) (sym (none first)))
    ∙ sym (and_assoc (operation_map first (operation_map_of p)) (steps_mapped false os) (operation_map (first && eqb (suc (length os)) 0) (operation_map_of o)))
  where
    none : (b : Bool) → (b && eqb (suc (length os)) 0) ≡ false
    none true = ne_eqb (suc (length os)) 0 (λ e. omega arith)
    none false = refl

pub steps_none : StepsScanned [] (record { mapped = true; size = 0 })
unfolding steps_mapped flat_map
steps_none = record { mapped = refl; size = refl; small = omega arith }

module _ (steps : List Operation) (z : Operation) (i : ℕ) (b : i < length steps) {seen found : StepsFound} (S : StepsScanned (take i steps) seen) (one : StepSeen (eqb i 0) (get_or steps i z) seen found) where
  pub steps_more : StepsScanned (take (i + 1) steps) found
  steps_more =
      let os = take i steps in
      let o = get_or steps i z in
      let e : take (i + 1) steps ≡ os ++ o ∷ [] = ap (λ (j : ℕ). take j steps) (add-one i) ∙ take-suc steps i z b in
      let long : length os ≡ i = length-take-le i steps (omega arith) in
      record {
        mapped = one.mapped ∙ ap₂ (λ (x y : Bool). x && operation_map y (operation_map_of o)) S.mapped (ap (λ (k : ℕ). eqb k 0) (sym long)) ∙ sym (ap (steps_mapped true) e ∙ mapped_more true os o);
        size = omega (arith, one.size, S.size, ap (λ (l : List Operation). length (flat_map operation_bytes l)) e, ap length (flatMap_snoc operation_bytes os o), length-append (flat_map operation_bytes os) (operation_bytes o));
        small = omega (arith, one.small, S.small, ap length e, length-append os (o ∷ []));
      }

-- ---- the link records

pub links_none : (n : ℕ) (cells : List ℕ) → LinksScanned n [] cells (record { unmapped = false; unsequenced = false; misplaced = false; size = 0 }) cells
unfolding link_maps_bad unsequenced bad_ends any flat_map
links_none n cells = record { shown = record { maps = refl; limits = refl; ends = refl; size = refl; small = omega arith }; cells = refl }

module _ (links : List Link) (z : Link) (n i : ℕ) (b : i < length links) {seen found : LinksFound} {old cells : List ℕ} (S : LinksScanned n (take i links) old seen cells) (one : LinkSeen n (get_or links i z) seen found) where
  more : take (i + 1) links ≡ take i links ++ get_or links i z ∷ []
  more = ap (λ (j : ℕ). take j links) (add-one i) ∙ take-suc links i z b

  -- A test of some record: of those before it, or of this one.
  some : (test : Link → Bool) → (any test (take i links) || test (get_or links i z)) ≡ any test (take (i + 1) links)
  some test = sym (ap (any test) more ∙ any_snoc test (take i links) (get_or links i z))

  links_shown : LinksShown n (take (i + 1) links) found
  unfolding link_maps_bad unsequenced bad_ends
  links_shown =
      let P = S.shown in
      record {
        maps = one.maps ∙ ap (λ (x : Bool). x || not (link_map (link_map_of (get_or links i z)))) P.maps ∙ some (λ l. not (link_map (link_map_of l)));
        limits = one.limits ∙ ap (λ (x : Bool). x || not (sequenced (link_map_of (get_or links i z)))) P.limits ∙ some (λ l. not (sequenced (link_map_of l)));
        ends = one.ends ∙ ap (λ (x : Bool). x || not (endpoints n (get_or links i z).from (get_or links i z).to)) P.ends ∙ some (λ l. not (endpoints n l.from l.to));
        size = omega (arith, one.size, P.size, ap (λ (l : List Link). length (flat_map link_bytes l)) more, ap length (flatMap_snoc link_bytes (take i links) (get_or links i z)), length-append (flat_map link_bytes (take i links)) (link_bytes (get_or links i z)));
        small = omega (arith, one.small, P.small, ap length more, length-append (take i links) (get_or links i z ∷ []));
      }

  -- The cell that is stored comes behind those that stand.
  pub links_more : (c : ℕ) → c ≡ cell_of (get_or links i z) → i < length old → LinksScanned n (take (i + 1) links) old found (set cells i c)
  links_more c e room = record { shown = links_shown; cells = cells_more }
    where
      long : length (take i links) ≡ i
      long = length-take-le i links (omega arith)

      front : length (map cell_of (take i links)) ≡ i
      front = length-map (take i links) cell_of ∙ long

      cells_more : set cells i c ≡ map cell_of (take (i + 1) links) ++ drop (length (take (i + 1) links)) old
      cells_more =
          let next : length (take (i + 1) links) ≡ suc i = omega (arith, ap length more, length-append (take i links) (get_or links i z ∷ []), long) in
          ap (λ (m : List ℕ). set m i c) S.cells
          ∙ ap (λ (m : List ℕ). set (map cell_of (take i links) ++ m) i c) (ap (λ (k : ℕ). drop k old) long ∙ drop-cons old i 0 room)
          ∙ set_at (map cell_of (take i links)) (get_or old i 0) (drop (suc i) old) c i front
          ∙ sym (append_snoc (map cell_of (take i links)) c (drop (suc i) old))
          ∙ ap₂ (λ (m : List ℕ) (k : ℕ). m ++ drop k old) (ap (λ (d : ℕ). map cell_of (take i links) ++ d ∷ []) e ∙ sym (map_take_more cell_of links i z b)) (sym next)
