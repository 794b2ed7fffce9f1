-- The edges of link records: of one, by the bits of its map; and of a list with one more behind it.
use mathlib.Core.Path.{◌≡◌, refl, sym, ap, ◌∙◌}
use Rattle.std.specs.Prelude.{Result, Ok, Err}
use mathlib.Core.Bool.{Bool, true, false}
use mathlib.Core.List.{List, [], ◌∷◌, ◌++◌, map, map-append}
use Prim.Native.Nat.{ℕ, ◌+◌, ◌*◌, ◌≤◌, ◌<◌}
use native.Mathlib.Omega.{arith}
use lib.ListN.{length, take, length-append, length-map}
use Rattle.definitions.specs.Basics.{test_bit, when_given}
use Rattle.definitions.specs.Bytes.{ticks_if, bound_from}
use Rattle.definitions.specs.Limits.{links_of_record}
use Rattle.definitions.specs.Links.{sequencing, minimum, maximum, finish_maximum, sequencing_of, minimum_of, maximum_of, finish_maximum_of, ticks_said, Edge, link_constraints, constraints, delay_at, least_at, sequencing_edge, finish_edge, edge_of, edges}
use Rattle.definitions.specs.declared.Link.{Link}
use Rattle.definitions.specs.declared.Operation.{Operation}
use Rattle.definitions.specs.declared.Refusal.{Refusal}
use Rattle.definitions.specs.declared.Delay.{Delay}
use Rattle.data_edges.specs.Words.{edge, graph, unpack, Fit, to_place, loss_place}
use Rattle.read_pair.specs.Parts.{link_from, link_ticks}
use Rattle.read_pair.proofs.Parts.{no_fields, fields_there, fields_refused}
use Rattle.read_pair.specs.declared.Fields.{Fields}
use Rattle.read_steps.specs.Leaving.{leaving}
use Rattle.laws.proofs.Lists.{flatMap_snoc}
use Rattle.read_links.specs.Pushes.{if_there, Pushed, PushedIf, GapThere, LinkPushed, BoundReads, LinkReads}
use Rattle.read_links.specs.declared.LinkRead.{LinkRead}
use Rattle.read_links.proofs.Pushing.{if_few, push_both}
use Rattle.read_links.proofs.Words.{sequencing_unpacked, finish_unpacked, finish_same}

-- Four lists of one or none, one behind the other: those of the four bits.
abbrev four : {A : Type 0} → ℕ → A → A → A → A → List A
four m x y z u = ((if_there (test_bit m 0) x ++ if_there (test_bit m 1) y) ++ if_there (test_bit m 2) z) ++ if_there (test_bit m 4) u

if_map : {A B : Type 0} (f : A → B) (there : Bool) (x : A) → map f (if_there there x) ≡ if_there there (f x)
if_map f true x = refl
if_map f false x = refl

four_map : {A B : Type 0} (f : A → B) (m : ℕ) (x y z u : A) → map f (four m x y z u) ≡ four m (f x) (f y) (f z) (f u)
four_map f m x y z u = simp (map-append, if_map)

-- There are as many of them whatever they are, and four at most.
four_length : {A B : Type 0} (m : ℕ) (x y z u : A) (x' y' z' u' : B) → length (four m x y z u) ≡ length (four m x' y' z' u')
four_length m x y z u x' y' z' u' = sym (length-map (four m x y z u) unit) ∙ ap length (four_map unit m x y z u ∙ sym (four_map unit m x' y' z' u')) ∙ length-map (four m x' y' z' u') unit
  where
    unit : {A : Type 0} → A → Unit {0}
    unit a = tt

four_few : {A : Type 0} (m : ℕ) (x y z u : A) → length (four m x y z u) ≤ links_of_record
four_few m x y z u = simp length-append (omega (arith, if_few (test_bit m 0) x, if_few (test_bit m 1) y, if_few (test_bit m 2) z, if_few (test_bit m 4) u))

-- The gap of a record, where 0 stands for one that is not there.
gap_there : (there : Bool) (g : ℕ) → (there ≡ false → g ≡ 0) → ticks_said (bound_from there g) ≡ g
unfolding ticks_said bound_from
gap_there true g h = refl
gap_there false g h = sym (h refl)

-- The links of a record: one for each bit of its map but the gap's.
module _ (i j : ℕ) where
  after_there : (there : Bool) (g : ℕ) → sequencing_of i j there g ≡ if_there there (sequencing i j g)
  unfolding sequencing_of
  after_there true g = refl
  after_there false g = refl

  module _ (ticks : ℕ) where
    least_there : (there : Bool) → minimum_of i j (bound_from there ticks) ≡ if_there there (minimum i j ticks)
    unfolding minimum_of bound_from
    least_there true = refl
    least_there false = refl

    most_there : (there : Bool) → maximum_of i j (bound_from there ticks) ≡ if_there there (maximum i j ticks)
    unfolding maximum_of bound_from
    most_there true = refl
    most_there false = refl

    latest_there : (there : Bool) → finish_maximum_of i j (bound_from there ticks) ≡ if_there there (finish_maximum i j ticks)
    unfolding finish_maximum_of bound_from
    latest_there true = refl
    latest_there false = refl

-- What the four edges of a record for (i, j) with these fields are, where i adds these digits.
pub record Meant (i j digits : ℕ) (t : Fields) (e₀ e₁ e₂ e₄ : Edge) : Type 0 where
  pub after : (d : Delay) (least : ℕ) → digits ≡ leaving d least i → e₀ ≡ sequencing_edge d least i j t.gap
  pub least : e₁ ≡ edge i j t.least 0 false false false
  pub most : e₂ ≡ edge j i 0 t.most false true false
  pub latest : (d : Delay) (least : ℕ) → digits ≡ leaving d least i → e₄ ≡ finish_edge d least i j t.latest

-- An edge is pushed where bit k of the map stands.
abbrev PushedBit : ℕ → ℕ → Edge → List ℕ → List ℕ → ℕ → ℕ → Type 0
PushedBit m k = PushedIf (test_bit m k)

pub by_bit : (m k : ℕ) {there : Bool} {e : Edge} {s t : List ℕ} {c d : ℕ} → there ≡ test_bit m k → PushedIf there e s t c d → PushedBit m k e s t c d
by_bit m k h P = rw h at P

module _ (m i j : ℕ) (t : Fields) where
  abbrev gap : ℕ
  gap = ticks_said (bound_from (test_bit m 3) t.gap)

  pub links_there : link_constraints (link_from m i j t) ≡ four m (sequencing i j gap) (minimum i j t.least) (maximum i j t.most) (finish_maximum i j t.latest)
  unfolding link_constraints link_from
  links_there = simp (after_there, least_there, most_there, latest_there)

  pub link_few : length (link_constraints (link_from m i j t)) ≤ links_of_record
  link_few = rw links_there (four_few m (sequencing i j gap) (minimum i j t.least) (maximum i j t.most) (finish_maximum i j t.latest))

  -- These edges, pushed one for each bit, are the record's.
  module _ (digits : ℕ) (e₀ e₁ e₂ e₄ : Edge) (said : GapThere m t) (meant : Meant i j digits t e₀ e₁ e₂ e₄) where
    edges_there : (os : List Operation) → digits ≡ leaving (delay_at os i) (least_at os i) i → four m e₀ e₁ e₂ e₄ ≡ edges os (link_constraints (link_from m i j t))
    unfolding edges edge_of
    edges_there os e = rw (links_there, four_map, gap_there (test_bit m 3) t.gap said, meant.after (delay_at os i) (least_at os i) e, meant.least, meant.most, meant.latest (delay_at os i) (least_at os i) e)

    all_pushed : {words words' : List ℕ} {c c' : ℕ} → Pushed (four m e₀ e₁ e₂ e₄) words words' c c' → LinkPushed (link_from m i j t) digits words words' c c'
    unfolding link_from
    all_pushed {words} {words'} {c} P = record {
      long = P.long;
      counts = P.counts ∙ ap (λ (k : ℕ). c + k) (four_length m _ _ _ _ _ _ _ _ ∙ sym (ap length links_there));
      same = λ os e. P.same ∙ ap (λ (es : List Edge). graph (take c words) ++ es) (edges_there os e);
    }

    -- One push after another.
    module _ {s₀ s₁ s₂ s₃ s₄ : List ℕ} {c₀ c₁ c₂ c₃ c₄ : ℕ} where
      pub link_pushed : PushedBit m 0 e₀ s₀ s₁ c₀ c₁ → PushedBit m 1 e₁ s₁ s₂ c₁ c₂ → PushedBit m 2 e₂ s₂ s₃ c₂ c₃ → PushedBit m 4 e₄ s₃ s₄ c₃ c₄ → LinkPushed (link_from m i j t) digits s₀ s₄ c₀ c₄
      link_pushed P Q R S = all_pushed (push_both (push_both (push_both P.pushed Q.pushed) R.pushed) S.pushed)

-- A word of an after link, and nothing else.
module _ (m i j digits w : ℕ) (alone : m ≡ 1) (after : (d : Delay) (least : ℕ) → digits ≡ leaving d least i → unpack w ≡ sequencing_edge d least i j 0) where
  alone_meant : Meant i j digits no_fields (unpack w) (edge i j 0 0 false false false) (edge j i 0 0 false true false) (finish_unpacked i j 0 digits)
  alone_meant = record { after = after; least = refl; most = refl; latest = λ d l. finish_same d l i j 0 digits }

  pub link_alone : {words words' : List ℕ} {c c' : ℕ} → PushedIf true (unpack w) words words' c c' → LinkPushed (link_from m i j no_fields) digits words words' c c'
  unfolding test_bit
  link_alone P = all_pushed m i j no_fields digits _ _ _ _ (λ h. refl) alone_meant (rw alone P.pushed)

-- An at-least link and nothing else, or an at-most link: the map has one bit. What the other edges would be is read off the digits.
module _ (i j digits : ℕ) (fit : Fit i j) (small : digits < loss_place) where
  abbrev bounds : ℕ → ℕ → Fields
  bounds least most = record { least = least; most = most; gap = 0; latest = 0 }

  meant_by : (least most : ℕ) → Meant i j digits (bounds least most) (unpack (i + j * to_place + digits)) (edge i j least 0 false false false) (edge j i 0 most false true false) (finish_unpacked i j 0 digits)
  meant_by least most = record { after = λ d l e. sequencing_unpacked d l i j 0 digits _ fit (omega arith) e (omega arith); least = refl; most = refl; latest = λ d l. finish_same d l i j 0 digits }

  module _ (s : List ℕ) (at : ℕ) (words words' : List ℕ) (c m : ℕ) where
    pub least_read : m ≡ 2 → (r : Result LinkRead Refusal) → BoundReads false i j s at words words' c r → LinkReads m i j digits s at words words' c r
    unfolding link_ticks ticks_if test_bit when_given
    least_read e (Ok r) T =
        let t = bounds T.ticks 0 in
        record { fields = t; same = fields_there m i j _ (rw (e, T.same)); inside = T.inside; pushed = all_pushed m i j t digits _ _ _ _ (λ h. refl) (meant_by T.ticks 0) (rw e T.pushed) }
    least_read e (Err k) f = fields_refused m i j _ (rw (e, f))

    pub most_read : m ≡ 4 → (r : Result LinkRead Refusal) → BoundReads true i j s at words words' c r → LinkReads m i j digits s at words words' c r
    unfolding link_ticks ticks_if test_bit when_given
    most_read e (Ok r) T =
        let t = bounds 0 T.ticks in
        record { fields = t; same = fields_there m i j _ (rw (e, T.same)); inside = T.inside; pushed = all_pushed m i j t digits _ _ _ _ (λ h. refl) (meant_by 0 T.ticks) (rw e T.pushed) }
    most_read e (Err k) f = fields_refused m i j _ (rw (e, f))

-- One record more.
pub edges_more : (os : List Operation) (s : List Link) (l : Link) → edges os (constraints (s ++ l ∷ [])) ≡ edges os (constraints s) ++ edges os (link_constraints l)
unfolding edges constraints
edges_more os s l = ap (edges os) (flatMap_snoc link_constraints s l) ∙ map-append (edge_of os) (constraints s) (link_constraints l)
