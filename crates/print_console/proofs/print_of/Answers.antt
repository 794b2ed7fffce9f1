-- What is read decides the text of the whole input, and what is written is that text.
use Rattle.std.proofs.Common.{arith, subst, List, ℕ}
use Rattle.std.specs.Prelude.{OnOk}
use Rattle.std.specs.Io.KnownBytes.{Appends}
use Rattle.print_console.proofs.Fronts.{on_ok, front_known}
use Rattle.print_console.proofs.print_of.Goals as goal

pub whole_as_slice-text : goal.whole_as_slice-text
whole_as_slice-text g c = omega (arith, c.requires.small)

pub shared_whole_as_front-write : goal.shared_whole_as_front-write
shared_whole_as_front-write g c = omega (arith, c.requires.small, c.requires.fits.within _ _ _ _ (search arith) c.text-size.ensures, c.text-size.auto.arg3)

pub returns : goal.returns
returns g c form fronts formats =
    let e = c.in_ok-n.ensures in
    let P = λ (t : List ℕ). Appends (g.W.Write.contents c.args.out.now) (g.W.Write.contents c.write.new.out) t in
    let same = formats.gives _ _ _ _ (search arith) c.text-size.ensures in
    on_ok c.write.result (front_known form 8192 fronts c.read_full.new.buffer (omega (arith, c.read_full.auto.buffer)) c.in_ok-n.n e.within P _ _ e.bytes e.end) (subst (λ (b : List ℕ). OnOk c.write.result (P b)) same c.write.ensures)
