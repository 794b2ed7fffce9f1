-- Writing into a buffer: a text, then another behind it, is the two texts joined; and texts one after the other.
use mathlib.Core.Path.{◌≡◌, refl, sym, ap, ap₂, subst, ◌∙◌}
use mathlib.Core.Logic.{◌⊎◌, inl, inr}
use mathlib.Core.List.{List, [], ◌∷◌, ◌++◌, append_assoc, append-nil, flat_map}
use Prim.Native.Nat.{ℕ, zero, suc, ◌+◌, ◌≤◌, ◌<◌}
use native.Mathlib.Omega.{arith}
use native.Mathlib.Decide.{dec_lt}
use native.Mathlib.Numerals.{add-one}
use lib.ListN.{length, get_or, take, drop, set, length-append, length-take, length-drop, take-append-drop}
use lib.Seq.{take-suc, take-length, take_at, drop-append-add, drop-drop, set_split, length-take-le, append_snoc}
use Rattle.laws.proofs.Lists.{flatMap_snoc}
use Rattle.laws.proofs.Tests.{last_or_below}
use Rattle.data_buffers.specs.Texts.{overlay, Put, texts}

module _ {A : Type 0} (old : List A) (at : ℕ) where
  -- Nothing written changes nothing.
  pub overlay_none : old ≡ overlay old at []
  unfolding overlay
  overlay_none =
      let e : at + 0 ≡ at = omega arith in
      sym (ap (λ (r : List A). r ++ drop (at + 0) old) (append-nil (take at old)) ∙ ap (λ (k : ℕ). take at old ++ drop k old) e ∙ take-append-drop at old)

  pub length_overlay : (s : List A) → at + length s ≤ length old → length (overlay old at s) ≡ length old
  unfolding overlay
  length_overlay s h = simp (length-append, length-take, length-drop) (omega arith)

  -- Both parts of what is left are cut where the first text ends.
  pub overlay_then : (s t : List A) → at ≤ length old → overlay (overlay old at s) (at + length s) t ≡ overlay old at (s ++ t)
  unfolding overlay
  overlay_then s t h =
      let size : length (take at old ++ s) ≡ at + length s = length-append (take at old) s ∙ ap (λ (k : ℕ). k + length s) (length-take-le at old h) in
      let e : at + length s + length t ≡ at + length (s ++ t) = omega (arith, length-append s t) in
      ap₂
      (λ (x y : List A). x ++ t ++ y)
      (take_at (take at old ++ s) (drop (at + length s) old) (at + length s) size)
      (ap (λ (k : ℕ). drop (k + length t) (take at old ++ s ++ drop (at + length s) old)) (sym size)
      ∙ drop-append-add (take at old ++ s) (drop (at + length s) old) (length t)
      ∙ drop-drop (length t) (at + length s) old)
      ∙ ap₂ (λ (x : List A) (k : ℕ). x ++ drop k old) (append_assoc (take at old) s t) e

  pub overlay_set : (b : A) → at < length old → set old at b ≡ overlay old at (b ∷ [])
  unfolding overlay
  overlay_set b h =
      let e : suc at ≡ at + 1 = omega arith in
      set_split old at b h ∙ sym (append_snoc (take at old) b (drop (suc at) old)) ∙ ap (λ (k : ℕ). take at old ++ b ∷ [] ++ drop k old) e

-- The same of a writer's promise.
pub put_none : (at : ℕ) (old : List ℕ) → Put [] at at old old
put_none at old = record { behind = omega arith; bytes = overlay_none old at }

-- A store is a text of one number.
pub put_one : (old : List ℕ) (at b : ℕ) → at < length old → Put (b ∷ []) at (at + 1) old (set old at b)
put_one old at b h = record { behind = omega arith; bytes = overlay_set old at b h }

pub put_then : {s t : List ℕ} {at p r : ℕ} {old mid new : List ℕ} → Put s at p old mid → Put t p r mid new → at ≤ length old → Put (s ++ t) at r old new
put_then {s} {t} {at} {p} {r} {old} {mid} {new} f g h =
    record { behind = omega (arith, f.behind, g.behind, length-append s t); bytes = g.bytes ∙ ap₂ (λ (l : List ℕ) (k : ℕ). overlay l k t) f.bytes f.behind ∙ overlay_then old at s t h }

-- A text under another name.
pub put_as : {s t : List ℕ} {at r : ℕ} {old new : List ℕ} → s ≡ t → Put s at r old new → Put t at r old new
put_as {at = at} {r} {old} {new} e f = subst (λ (l : List ℕ). Put l at r old new) e f

pub put_length : {s : List ℕ} {at r : ℕ} {old new : List ℕ} → Put s at r old new → at + length s ≤ length old → length new ≡ length old
put_length {s} {at} {r} {old} {new} f room = ap length f.bytes ∙ length_overlay old at s room

pub put_room : {s : List ℕ} {at p : ℕ} {old mid : List ℕ} → Put s at p old mid → (t : List ℕ) → at + length (s ++ t) ≤ length old → p + length t ≤ length mid
put_room {s} f t room = omega (arith, f.behind, length-append s t, put_length f (omega (arith, length-append s t)))

-- A text at the front.
pub put_front : {s : List ℕ} {r : ℕ} {old new : List ℕ} → Put s 0 r old new → new ≡ s ++ drop (length s) old
unfolding overlay
put_front {s} {r} {old} f =
    let e : 0 + length s ≡ length s = omega arith in
    f.bytes ∙ ap (λ (k : ℕ). s ++ drop k old) e

-- Where there is room for two texts, there is room for the first.
pub left_room : (at : ℕ) (s t : List ℕ) (m : ℕ) → at + length (s ++ t) ≤ m → at + length s ≤ m
left_room at s t m h = omega (arith, length-append s t)

-- The first texts and the next one are no longer than all of them.
pub texts_room : (f : ℕ → List ℕ) (n k : ℕ) → k < n → length (texts f k ++ f k) ≤ length (texts f n)
unfolding texts
texts_room f zero k b = absurd (omega arith)
texts_room f (suc n) k b = go (last_or_below n k b) (texts_room f n k)
  where
    go : (k ≡ n) ⊎ (k < n) → (k < n → length (texts f k ++ f k) ≤ length (texts f n)) → length (texts f k ++ f k) ≤ length (texts f n ++ f n)
    go (inl e) below = omega (arith, ap (λ (j : ℕ). length (texts f j ++ f j)) e)
    go (inr c) below = omega (arith, below c, length-append (texts f n) (f n))

pub texts_grow : (f : ℕ → List ℕ) (n k : ℕ) → k ≤ n → length (texts f k) ≤ length (texts f n)
texts_grow f n k b = go (dec_lt k n)
  where
    go : Dec (k < n) → length (texts f k) ≤ length (texts f n)
    go (yes c) = omega (arith, texts_room f n k c, length-append (texts f k) (f k))
    go (no c) =
        let e : k ≡ n = omega arith in
        omega (arith, ap (λ (j : ℕ). length (texts f j)) e)

-- A loop that writes texts one after the other: there is room for the next one, and behind it stands one text more.
module _ (f : ℕ → List ℕ) (n k : ℕ) {at p : ℕ} {old mid : List ℕ} (before : Put (texts f k) at p old mid) (b : k < n) (room : at + length (texts f n) ≤ length old) where
  fits : at + length (texts f k ++ f k) ≤ length old
  fits = omega (arith, texts_room f n k b)

  pub next_room : p + length (f k) ≤ length mid
  next_room = put_room before (f k) fits

  pub next_text : {r : ℕ} {new : List ℕ} → Put (f k) p r mid new → Put (texts f (k + 1)) at r old new
  unfolding texts
  next_text g = rw (add-one k) (put_then before g (omega arith))

-- Whatever of the texts is written, the buffer keeps its length.
pub texts_length : (f : ℕ → List ℕ) (n k : ℕ) {at p : ℕ} {old new : List ℕ} → Put (texts f k) at p old new → k ≤ n → at + length (texts f n) ≤ length old → length new ≡ length old
texts_length f n k h b room = put_length h (omega (arith, texts_grow f n k b))

-- The texts of a list's first elements, one after the other. Induction on their number.
pub texts_list : {A : Type 0} (g : A → List ℕ) (l : List A) (z : A) (k : ℕ) → k ≤ length l → texts (λ i. g (get_or l i z)) k ≡ flat_map g (take k l)
unfolding texts flat_map
texts_list g l z zero b = refl
texts_list g l z (suc k) b = ap (λ (t : List ℕ). t ++ g (get_or l k z)) (texts_list g l z k (omega arith)) ∙ sym (ap (flat_map g) (take-suc l k z (omega arith)) ∙ flatMap_snoc g (take k l) (get_or l k z))

-- A word is its bytes, one after the other.
abbrev pub byte_text : List ℕ → ℕ → List ℕ
byte_text word i = get_or word i 0 ∷ []

texts_take : (word : List ℕ) (i : ℕ) → i ≤ length word → texts (byte_text word) i ≡ take i word
unfolding texts
texts_take word zero b = refl
texts_take word (suc i) b = ap (λ (l : List ℕ). l ++ byte_text word i) (texts_take word i (omega arith)) ∙ sym (take-suc word i 0 (omega arith))

pub texts_word : (word : List ℕ) → texts (byte_text word) (length word) ≡ word
texts_word word = texts_take word (length word) (omega arith) ∙ take-length word
