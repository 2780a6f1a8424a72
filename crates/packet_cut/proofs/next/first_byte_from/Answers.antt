use Rattle.std.proofs.Common.{subst, Some, None}
use Rattle.std.proofs.lemmas.List.{take_rest}
use Rattle.memchr.specs.Find.{IsFirstByte, is_byte2}
use Rattle.packet_cut.proofs.HeadLaws.{first_byte_found, no_first_byte}
use Rattle.packet_cut.proofs.next.first_byte_from.Goals as goal

pub returns-in-Some : goal.returns-in-Some
returns-in-Some c =
    first_byte_found c.args.bytes.now c.args.place c.in-Some.behind c.requires
    (subst (λ t. IsFirstByte (is_byte2 36 0xb5) t (Some c.in-Some.behind)) (take_rest c.args.bytes.now c.args.place) c.in-Some.ensures)

pub returns-in-None : goal.returns-in-None
returns-in-None c =
    no_first_byte c.args.bytes.now c.args.place c.requires
    (subst (λ t. IsFirstByte (is_byte2 36 0xb5) t None) (take_rest c.args.bytes.now c.args.place) c.in-None.ensures)
