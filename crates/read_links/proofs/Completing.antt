-- Request L3: the map of the steps that forward links lead into, and the edges of the links that are added.
use mathlib.Core.Path.{◌≡◌, refl, sym, ap, ◌∙◌}
use mathlib.Core.Bool.{Bool, true, false, not, ◌&&◌, ◌||◌, and-false, or-false, and-or_distrib_right}
use mathlib.Core.Logic.{◌⊎◌, inl, inr, ◌≢◌}
use mathlib.Core.List.{List, [], ◌∷◌, ◌++◌, append_assoc, append-nil, map, map-append}
use Prim.Native.Nat.{ℕ, ◌+◌, ◌/◌, ◌%◌, ◌^◌, ◌≤◌, ◌<◌}
use native.Mathlib.Omega.{arith}
use lib.Dec.{eqb, ltb}
use lib.ListN.{length, take, length-append}
use lib.Seq.{take-take}
use borrow.Author.Tests.{eq-eqb, ne_eqb, lt-ltb, ltb-true}
use Rattle.definitions.specs.Basics.{any, select_below, test_bit}
use Rattle.definitions.specs.Limits.{most_steps, most_added}
use Rattle.definitions.specs.Links.{Constraint, leads_into, follows_nothing, loose_steps, source_link, link_constraints, constraints, sequencing_edge, delay_at, least_at, edge_of, edges}
use Rattle.definitions.specs.declared.Delay.{Delay}
use Rattle.definitions.specs.declared.Link.{Link}
use Rattle.definitions.specs.declared.Operation.{Operation}
use Rattle.data_bits.specs.Members.{Lowest}
use Rattle.data_edges.specs.Words.{graph, unpack}
use Rattle.laws.proofs.Bools.{same_or_not, and_split, or_left, or_right, neither, eqb_turned}
use Rattle.laws.proofs.Counts.{select_length_positive}
use Rattle.laws.proofs.Lists.{flatMap_snoc, mem_place}
use Rattle.laws.proofs.Maps.{test_zero}
use Rattle.laws.proofs.Members.{select_member_first}
use Rattle.laws.proofs.Searches.{any_append}
use Rattle.laws.proofs.Tests.{select_below_has, select_below_none, select_below_same}
use Rattle.read_pair.specs.Parts.{link_from}
use Rattle.read_pair.specs.declared.Fields.{Fields}
use Rattle.read_steps.specs.Leaving.{leaving}
use Rattle.read_links.specs.Pushes.{if_there, PushedIf}
use Rattle.read_links.specs.Completes.{Entered, EnteredMore, Loose, Completable, SourceAdds, Completes}
use Rattle.read_links.proofs.Records.{links_there}

-- ---- the steps that forward links lead into

any_there : {A : Type 0} (test : A → Bool) (there : Bool) (x : A) → any test (if_there there x) ≡ (there && test x)
unfolding any
any_there test true x = or-false (test x)
any_there test false x = refl

-- Of the four links of a record the first two are forward, and lead into the same step.
two_forward : (a b c d e : Bool) → (((a && e || b && e) || c && false) || d && false) ≡ ((a || b) && e)
two_forward a b c d e = simp (and-false, or-false) (sym (and-or_distrib_right a b e))

-- So a record leads into its second step, where bit 0 or bit 1 of its map stands.
links_enter : (m i j : ℕ) (t : Fields) (v : ℕ) → any (leads_into v) (link_constraints (link_from m i j t)) ≡ ((test_bit m 0 || test_bit m 1) && eqb j v)
unfolding leads_into
links_enter m i j t v = rw links_there (simp (any_append, any_there) (two_forward (test_bit m 0) (test_bit m 1) (test_bit m 2) (test_bit m 4) (eqb j v)))

-- Whether one of these two bits stands, by the remainder.
low_bits : (m : ℕ) → not (eqb (m % 4) 0) ≡ (test_bit m 0 || test_bit m 1)
unfolding test_bit
low_bits m = go (same_or_not (m % 4) 0) (same_or_not (m % 2) 1)
  where
    go : (m % 4 ≡ 0) ⊎ (m % 4 ≢ 0) → (m % 2 ≡ 1) ⊎ (m % 2 ≢ 1) → not (eqb (m % 4) 0) ≡ (eqb (m / 2 ^ 0 % 2) 1 || eqb (m / 2 ^ 1 % 2) 1)
    go (inl e) odd = ap not (eq-eqb (m % 4) 0 e) ∙ sym (neither (ne_eqb (m / 2 ^ 0 % 2) 1 (λ h. omega arith)) (ne_eqb (m / 2 ^ 1 % 2) 1 (λ h. omega arith)))
    go (inr p) (inl e) = ap not (ne_eqb (m % 4) 0 p) ∙ sym (or_left (eqb (m / 2 ^ 1 % 2) 1) (eq-eqb (m / 2 ^ 0 % 2) 1 (omega arith)))
    go (inr p) (inr q) = ap not (ne_eqb (m % 4) 0 p) ∙ sym (or_right (eqb (m / 2 ^ 0 % 2) 1) (eq-eqb (m / 2 ^ 1 % 2) 1 (omega arith)))

-- What one record more puts into the map, as the code asks for it.
pub enters_by : (m i j k : ℕ) (t : Fields) (v : ℕ) → k ≡ j → (not (eqb (m % 4) 0) && eqb v k) ≡ any (leads_into v) (link_constraints (link_from m i j t))
enters_by m i j k t v e = rw (low_bits, e, eqb_turned v j) (sym (links_enter m i j t v))

-- The map of no records, and with one record more.
pub entered_none : Entered [] 0
unfolding any
entered_none = record { each = test_zero }

module _ (ls : List Link) (m i j : ℕ) (t : Fields) (entered r : ℕ) (with_it : EnteredMore m j entered r) (so : Entered (constraints ls) entered) where
  abbrev more : Link
  more = link_from m i j t

  pub entered_more : Entered (constraints (ls ++ more ∷ [])) r
  unfolding constraints
  entered_more = record {
    each = λ v.
        with_it.each i t v
        ∙ ap (λ (b : Bool). b || any (leads_into v) (link_constraints more)) (so.each v)
        ∙ sym (ap (any (leads_into v)) (flatMap_snoc link_constraints ls more) ∙ any_append (leads_into v) (constraints ls) (link_constraints more));
  }

-- ---- the steps that follow nothing

module _ (n entered loose : ℕ) (are : Loose n entered loose) where
  loose_inside : (v : ℕ) → test_bit loose v ≡ true → v < n
  loose_inside v t =
      let all = and_split (ltb v n && not (eqb v 0)) (not (test_bit entered v)) (sym (are.each v) ∙ t) in
      ltb-true v n (and_split (ltb v n) (not (eqb v 0)) all.0).0

  -- They are fewer than the steps: 0 is none of them.
  loose_few : n ≤ most_steps → length (select_below (test_bit loose) n) ≤ most_added
  loose_few b = select_length_positive (test_bit loose) (are.each 0 ∙ rw (and-false (ltb 0 n))) n most_added (omega arith)

  -- They are those of the definition, for links that lead into the steps that are entered.
  loose_same : (cs : List Constraint) → Entered cs entered → select_below (test_bit loose) n ≡ loose_steps n cs
  unfolding loose_steps follows_nothing
  loose_same cs so =
      select_below_same (test_bit loose) (follows_nothing cs) n
      (λ v b. are.each v ∙ rw (lt-ltb v n b, so.each v))

-- ---- their links, one after another

-- The loop's invariant: `done` are the loose steps whose edges are pushed, and those in the map `left` come after them. The words before those pushed stay.
pub record Completing (n loose d : ℕ) (words₀ : List ℕ) (c₀ : ℕ) (words : List ℕ) (c left : ℕ) : Type 0 where
  pub done : List ℕ
  pub inside : (v : ℕ) → test_bit left v ≡ true → v < n
  pub members : select_below (test_bit loose) n ≡ done ++ select_below (test_bit left) n
  pub long : length words ≡ length words₀
  pub counts : c ≡ c₀ + length done
  pub kept : take c₀ words ≡ take c₀ words₀
  pub same : (os : List Operation) → SourceAdds os n d → graph (take c words) ≡ graph (take c₀ words₀) ++ edges os (map source_link done)

module _ (n entered loose : ℕ) (are : Loose n entered loose) (d : ℕ) (words₀ : List ℕ) (c₀ : ℕ) where
  -- None is pushed.
  pub completing_none : Completing n loose d words₀ c₀ words₀ c₀ loose
  unfolding edges
  completing_none = record {
    done = [];
    inside = loose_inside n entered loose are;
    members = refl;
    long = refl;
    counts = omega arith;
    kept = refl;
    same = λ os h. sym (append-nil (graph (take c₀ words₀)));
  }

  module _ (words : List ℕ) (c left : ℕ) (so : Completing n loose d words₀ c₀ words c left) where
    -- The smallest that is left is the next.
    module _ (v left' : ℕ) (low : Lowest left v) (without : (j : ℕ) → test_bit left' j ≡ (test_bit left j && not (eqb j v))) where
      next_member : select_below (test_bit left) n ≡ v ∷ select_below (test_bit left') n
      next_member = select_member_first left left' v low.member without low.least n (so.inside v low.member)

      split : select_below (test_bit loose) n ≡ (so.done ++ v ∷ []) ++ select_below (test_bit left') n
      split = so.members ∙ ap (λ (l : List ℕ). so.done ++ l) next_member ∙ sym (append_assoc so.done (v ∷ []) (select_below (test_bit left') n))

      module _ (w : ℕ) (words' : List ℕ) (c' : ℕ) (after : (delay : Delay) (least : ℕ) → d ≡ leaving delay least 0 → unpack w ≡ sequencing_edge delay least 0 v 0) (P : PushedIf true (unpack w) words words' c c') where
        edges_same : (os : List Operation) → SourceAdds os n d → graph (take c' words') ≡ graph (take c₀ words₀) ++ edges os (map source_link (so.done ++ v ∷ []))
        unfolding edges edge_of
        edges_same os h =
            let first = h (omega (arith, so.inside v low.member)) in
            rw (map-append, map-append, ← after (delay_at os 0) (least_at os 0) first, ← append_assoc, ← so.same os h) P.pushed.same

        words_kept : take c₀ words' ≡ take c₀ words₀
        words_kept =
            let behind : c₀ ≤ c = omega (arith, so.counts) in
            sym (take-take c₀ c words' behind) ∙ ap (take c₀) P.kept ∙ take-take c₀ c words behind ∙ so.kept

        pub completing_more : Completing n loose d words₀ c₀ words' c' left'
        completing_more = record {
          done = so.done ++ v ∷ [];
          inside = λ u t. so.inside u (and_split (test_bit left u) (not (eqb u v)) (sym (without u) ∙ t)).0;
          members = split;
          long = P.pushed.long ∙ so.long;
          counts = omega (arith, P.pushed.counts, so.counts, length-append so.done (v ∷ []));
          kept = words_kept;
          same = edges_same;
        }

    -- There is room for one more.
    pub completing_room : (v : ℕ) → Lowest left v → Completable n words₀ c₀ → c < length words
    completing_room v low fits =
        let place = mem_place (select_below (test_bit left) n) 0 (select_below_has (test_bit left) n (so.inside v low.member) low.member) in
        omega (arith, place.inside, so.long, so.counts, fits.room, ap length so.members, length-append so.done (select_below (test_bit left) n), loose_few n entered loose are fits.steps)

    -- All are pushed.
    pub completing_all : left ≡ 0 → Completable n words₀ c₀ → Completes n entered d words₀ words c₀ c
    completing_all none fits = record { few = few; kept = so.kept; same = λ os h cs e. so.same os h ∙ ap (λ (l : List ℕ). graph (take c₀ words₀) ++ edges os (map source_link l)) (pushed ∙ loose_same n entered loose are cs e) }
      where
        pushed : so.done ≡ select_below (test_bit loose) n
        pushed = sym (so.members ∙ rw (none, select_below_none (test_bit 0) n (λ k b. test_zero k)) (append-nil so.done))

        few : c ≤ c₀ + most_added
        few = omega (arith, so.counts, ap length pushed, loose_few n entered loose are fits.steps)
