use Rattle.std.proofs.Common.{◌*◌, ◌+◌, List, take, arith, refl, sym, subst}
use Rattle.std.proofs.lemmas.List.{length-take}
use Rattle.std.proofs.lemmas.Slice.Zip.{AllZip-long}
use Rattle.book_units.specs.Units.{RoomView, IsNew}
use Rattle.book_units.proofs.Rooms.{AreNew, new_more, new_all}
use Rattle.book_units.proofs.units.Units.new.Goals as goal

pub loop-first-preserved : goal.loop-first-preserved
loop-first-preserved c =
    let P : List RoomView → Type 0 = λ l. AreNew (take (2 * c.from.result) c.args.firsts) (c.loop-first.first-index + 1) l in
    subst P (sym c.in_ok-push.ensures.items) (new_more _ _ _ _ c.in_ok-new.field-0 c.loop-first.invariant c.loop-first-test.true refl c.in_ok-new.ensures.new c.in_ok-new.ensures.kept)

pub returns-clause-count : goal.returns-clause-count
returns-clause-count c =
    let low = c.requires.devices in
    let two = c.from.ensures in
    let all = new_all _ _ _ c.loop-first.invariant c.loop-first-test.false in
    let zip_long = AllZip-long IsNew _ _ all in
    let long = length-take (2 * c.from.result) c.args.firsts in
    let well = c.well_formed in
    omega (arith, zip_long, long, well)
