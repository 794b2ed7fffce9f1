use mathlib.Core.Path.{◌≡◌, ap, subst, ◌∙◌}
use mathlib.Core.List.{List}
use Prim.Native.Nat.{ℕ}
use native.Mathlib.Omega.{arith}
use lib.ListN.{length}
use Rattle.data_buffers.specs.Texts.{Put, texts}
use Rattle.data_buffers.proofs.Writing.{put_none, byte_text, texts_word, texts_length, next_room, next_text}
use Rattle.print_line.proofs.put_word.Goals as goal

pub loop-b-init : goal.loop-b-init
loop-b-init c = unfold texts in put_none _ _

pub put_byte-p-requires : goal.put_byte-p-requires
put_byte-p-requires c =
    let word = c.args.word.now in
    omega (arith, next_room (byte_text word) (length word) c.loop-b.b-index c.loop-b.invariant (omega arith) (omega (arith, ap length (texts_word word))))

pub loop-b-preserved : goal.loop-b-preserved
loop-b-preserved c =
    let word = c.args.word.now in
    next_text (byte_text word) (length word) c.loop-b.b-index c.loop-b.invariant (omega arith) (omega (arith, ap length (texts_word word))) c.put_byte-p.ensures

pub shape_of-out : goal.shape_of-out
shape_of-out c =
    let word = c.args.word.now in
    texts_length (byte_text word) (length word) c.loop-b.b-index c.loop-b.invariant (omega arith) (omega (arith, ap length (texts_word word)))

pub returns : goal.returns
returns c =
    let word = c.args.word.now in
    let e : c.loop-b.b-index ≡ length word = omega arith in
    subst (λ (s : List ℕ). Put s c.args.at c.loop-b.p c.args.out.now c.loop-b.out) (ap (texts (byte_text word)) e ∙ texts_word word) c.loop-b.invariant
