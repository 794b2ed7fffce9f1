-- The words of a part's links, completed: the steps that forward edges lead into are those that the links lead into, so the links that are added are those of the definition.
use mathlib.Core.Path.{◌≡◌, refl, sym, ap, ◌∙◌}
use mathlib.Core.List.{List, [], ◌∷◌, ◌++◌, map, map-append}
use Prim.Native.Nat.{ℕ}
use lib.ListN.{take}
use Rattle.definitions.specs.Basics.{any, test_bit}
use Rattle.definitions.specs.Links.{Constraint, Edge, sequencing, minimum, maximum, finish_maximum, leads_into, source_link, loose_steps, completed, delay_at, least_at, least_with, edge_of, edges, sequencing_edge, finish_edge}
use Rattle.definitions.specs.declared.Delay.{Delay}
use Rattle.definitions.specs.declared.Delay.TheVariants.{Open, Fixed}
use Rattle.definitions.specs.declared.Operation.{Operation}
use Rattle.data_edges.specs.Words.{graph}
use Rattle.read_steps.specs.Leaving.{leaving}
use Rattle.read_links.specs.Completes.{Entered, Completes}
use Rattle.clash_parts.specs.Words.{enters}
use Rattle.clash_parts.specs.Completed.{PartCompletes}

-- A link leads into a step where its edge does: a return is an edge that runs back.
link_enters : (os : List Operation) (v : ℕ) (c : Constraint) → enters v (edge_of os c) ≡ leads_into v c
unfolding enters edge_of leads_into sequencing_edge finish_edge
link_enters os v (sequencing i j g) = go (delay_at os i)
  where
    go : (d : Delay) → enters v (sequencing_edge d (least_at os i) i j g) ≡ leads_into v (sequencing i j g)
    go (Fixed x) = refl
    go Open = refl
link_enters os v (minimum i j m) = refl
link_enters os v (maximum i j u) = refl
link_enters os v (finish_maximum i j u) = go (delay_at os i)
  where
    go : (d : Delay) → enters v (finish_edge d (least_at os i) i j u) ≡ leads_into v (finish_maximum i j u)
    go (Fixed x) = refl
    go Open = refl

links_enter : (os : List Operation) (v : ℕ) (cs : List Constraint) → any (enters v) (edges os cs) ≡ any (leads_into v) cs
unfolding any edges
links_enter os v [] = refl
links_enter os v (c ∷ cs) = rw (link_enters os v c, links_enter os v cs)

-- Step 0 is open and has no least: it adds nothing to the words of its links.
source_adds : (os : List Operation) → delay_at os 0 ≡ Open → 0 ≡ leaving (delay_at os 0) (least_at os 0) 0
unfolding leaving least_at least_with
source_adds os e = rw e

module _ (n entered : ℕ) (words words' : List ℕ) (c c' : ℕ) (map_of : (v : ℕ) → test_bit entered v ≡ any (enters v) (graph (take c words))) (added : Completes n entered 0 words words' c c') where
  module _ (os : List Operation) (source : delay_at os 0 ≡ Open) (cs : List Constraint) (same : graph (take c words) ≡ edges os cs) where
    enters_map : Entered cs entered
    enters_map = record { each = λ v. map_of v ∙ ap (any (enters v)) same ∙ links_enter os v cs }

    links_complete : graph (take c' words') ≡ edges os (completed n cs)
    unfolding edges completed
    links_complete =
        added.same os (λ h. source_adds os source) cs enters_map
        ∙ ap (λ (es : List Edge). es ++ edges os (map source_link (loose_steps n cs))) same
        ∙ sym (map-append (edge_of os) cs (map source_link (loose_steps n cs)))

  pub part_completes : PartCompletes n words words' c c'
  part_completes = record { few = added.few; kept = added.kept; same = links_complete }
