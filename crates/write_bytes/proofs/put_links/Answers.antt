use mathlib.Core.Path.{◌≡◌, sym, ap, subst, ◌∙◌}
use Prim.Native.Nat.{ℕ, ◌+◌, ◌≤◌}
use native.Mathlib.Omega.{arith}
use lib.ListN.{length, get_or}
use Rattle.definitions.specs.Clashes.{blank_link}
use Rattle.definitions.specs.Writer.{link_bytes}
use Rattle.definitions.specs.declared.Link.{Link}
use Rattle.laws.proofs.Lists.{inside_same}
use Rattle.data_buffers.specs.Texts.{texts}
use Rattle.data_buffers.proofs.Writing.{put_as, put_none, next_room, next_text}
use Rattle.write_bytes.proofs.Texts.{link_text, links_listed, links_room}
use Rattle.write_bytes.proofs.put_links.Goals as goal

pub loop-i-init : goal.loop-i-init
loop-i-init c = unfold texts in put_none _ _

pub bounds-links-k : goal.bounds-links-k
bounds-links-k c = omega (arith, c.requires.ordered.inside c.loop-i.i c.loop-i-test.true)

pub put_link-p-requires : goal.put_link-p-requires
put_link-p-requires c =
    let t = c.args.links in
    subst
    (λ (r : Link). c.loop-i.p + length (link_bytes r) ≤ length c.loop-i.out)
    (ap (λ (x : ℕ). get_or t x blank_link) (sym c.from-k.ensures) ∙ inside_same t c.from-k.result blank_link _ (omega (arith, c.requires.ordered.inside c.loop-i.i c.loop-i-test.true)))
    (next_room (link_text t c.args.order.now) c.args.r c.loop-i.i c.loop-i.invariant (omega arith) (links_room c.requires))

pub loop-i-preserved : goal.loop-i-preserved
loop-i-preserved c =
    let t = c.args.links in
    let here = inside_same t c.from-k.result _ blank_link (omega (arith, c.requires.ordered.inside c.loop-i.i c.loop-i-test.true)) ∙ ap (λ (x : ℕ). get_or t x blank_link) c.from-k.ensures in
    next_text (link_text t c.args.order.now) c.args.r c.loop-i.i c.loop-i.invariant (omega arith) (links_room c.requires) (put_as (ap link_bytes here) c.put_link-p.ensures)

pub returns : goal.returns
returns c =
    let e : c.loop-i.i ≡ c.args.r = omega arith in
    put_as (ap (texts (link_text c.args.links c.args.order.now)) e ∙ links_listed c.args.links c.args.order.now c.args.r c.requires.ordered.long) c.loop-i.invariant
