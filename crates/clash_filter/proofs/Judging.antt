-- A part is judged as the sheet that it is: its words are put behind each other and completed, and the edges that they then stand for are those of a sheet.
use mathlib.Core.Path.{◌≡◌, sym, ap, subst, ◌∙◌}
use mathlib.Core.Bool.{Bool, true}
use mathlib.Core.List.{List, ◌++◌}
use Prim.Native.Nat.{ℕ, ◌+◌, ◌≤◌}
use native.Mathlib.Omega.{arith}
use lib.ListN.{length, take, get_or}
use lib.Seq.{paste, take-paste, take-length, take-take, length-take-le, take-append-le}
use Rattle.definitions.specs.Answers.{edges_of, judge_edges, judge_records, leasts_of}
use Rattle.definitions.specs.Bytes.{Records}
use Rattle.definitions.specs.Clashes.{impossible, is_impossible}
use Rattle.definitions.specs.Limits.{most_steps}
use Rattle.definitions.specs.Links.{Edge, constraints, links_of, members}
use Rattle.data_edges.specs.Words.{unpack, graph, Light}
use Rattle.data_edges.proofs.Places.{graph_at}
use Rattle.data_lists.specs.Lists.{Empty, Unlisted}
use Rattle.theory.specs.Graphs.{Shape, Entered}
use Rattle.demands.proofs.Edges.{sheet_shape, sheet_entered, sheet_gains}
use Rattle.clash_parts.specs.Completed.{PartCompletes}
use Rattle.clash_filter.specs.Sheets.{Completed, Sent, Judgeable, Triable, Tried, part_edges}
use Rattle.clash_filter.proofs.Starts.{graph_append}

-- ---- the words of a completed sheet

module _ (q : Records) (n : ℕ) (es : List ℕ) (C : Completed q n (graph es)) where
  sheet_light : Light es
  sheet_light k b = let e = unpack (get_or es k 0) in sheet_gains C.fits e (subst (λ (g : List Edge). members g e) C.same (graph_at es k b))

  pub words_shape : Shape n (members (graph es))
  words_shape = rw (C.steps, C.same) (sheet_shape C.fits)

  pub words_entered : Entered n (members (graph es))
  words_entered = rw (C.steps, C.same) (sheet_entered C.fits)

  -- Whether they are impossible is whether the sheet is.
  pub sheet_judged : (r : Bool) → (Shape n (members (graph es)) → Entered n (members (graph es)) → (least : ℕ → ℕ) → r ≡ is_impossible (judge_edges n least (graph es) true)) → r ≡ impossible q
  unfolding impossible judge_records
  sheet_judged r said = said words_shape words_entered (leasts_of q) ∙ rw (C.steps, C.same)

module _ (n : ℕ) (es lists : List ℕ) (J : Judgeable n es lists) where
  pub sheet_unlisted : (lists' : List ℕ) → length lists' ≡ length lists → Empty lists' → Unlisted es lists'
  sheet_unlisted lists' long empty = record { few = J.few; light = sheet_light J.sheet n es J.holds; long = omega (arith, J.long); empty = empty }

  pub sheet_some : 1 ≤ n
  sheet_some = omega (arith, J.holds.fits.some, J.holds.steps)

  pub sheet_few : n ≤ most_steps
  sheet_few = omega (arith, J.holds.fits.few, J.holds.steps)

-- ---- the words of a part's records

module _ (n : ℕ) (words : List ℕ) (c : ℕ) (others lists : List ℕ) (T : Triable n words c others lists) (joined : List ℕ) (put : joined ≡ paste words c others (length others)) where
  -- Those put together are the first ones and the others.
  all_words : take (c + length others) joined ≡ take c words ++ others
  all_words =
      ap (take (c + length others)) put
      ∙ take-paste words c others (length others) (omega (arith, T.within)) (omega arith)
      ∙ ap (λ (l : List ℕ). take c words ++ l) (take-length others)

  module _ (words' : List ℕ) (all : ℕ) (P : PartCompletes n joined words' (c + length others) all) where
    -- So with the links that are added they stand for the edges of the sheet whose records the part has.
    part_completed : (q : Records) → Sent q n (part_edges words c others) → Completed q n (graph (take all words'))
    unfolding edges_of links_of
    part_completed q S = record {
      fits = S.fits;
      steps = S.steps;
      same =
          P.same q.steps S.fits.source (constraints q.pairs) (ap graph all_words ∙ graph_append (take c words) others ∙ S.same)
          ∙ rw S.steps;
    }

    pub part_judgeable : length words' ≡ length words → Judgeable n (take all words') lists
    part_judgeable long =
        let size : length (take all words') ≡ all = length-take-le all words' (omega (arith, P.few, T.within)) in
        record {
          sheet = T.sheet;
          holds = part_completed T.sheet T.holds;
          few = omega (arith, size, P.few, T.within, T.few);
          long = omega (arith, size, P.few, T.within, T.long);
        }

    first_stay : take c words' ≡ take c words
    first_stay =
        let short : c ≤ length (take c words) = omega (arith, length-take-le c words (omega (arith, T.within))) in
        sym (take-take c (c + length others) words' (omega arith))
        ∙ ap (take c) (P.kept ∙ all_words)
        ∙ take-append-le c (take c words) others short
        ∙ take-take c c words (omega arith)

    pub part_tried : (r : Bool) → ((q : Records) → Completed q n (graph (take all words')) → r ≡ impossible q) → Tried n words words' c others r
    part_tried r said = record { stays = first_stay; judges = λ q S. said q (part_completed q S) }
