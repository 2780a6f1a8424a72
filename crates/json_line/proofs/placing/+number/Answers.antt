use Rattle.std.proofs.Common.{arith, append_assoc}
use Rattle.json_line.proofs.Numbers.{in_thousands, three_more, at_most_ten, thousands_at_most_seven}
use Rattle.json_line.proofs.placing.+number.Goals as goal

pub place_long-place_text-requires : goal.place_long-place_text-requires
place_long-place_text-requires t c =
    omega (arith, c.requires.room, c.place_number-behind.ensures.room, c.place_number-behind.ensures.end, thousands_at_most_seven c.args.n (omega (arith, c.ranges.n.fits)))

pub place_long-returns-clause-bytes : goal.place_long-returns-clause-bytes
place_long-returns-clause-bytes t c =
    rw (
      c.place_text.ensures.bytes,
      c.place_number-behind.ensures.bytes,
      c.digit.ensures,
      c.digit-2.ensures,
      c.digit-3.ensures,
      in_thousands c.args.n c.requires.long (omega (arith, c.ranges.n.fits)),
      append_assoc,
    )

pub place_long-returns-clause-end : goal.place_long-returns-clause-end
place_long-returns-clause-end t c =
    omega (arith, c.place_text.ensures.end, c.place_number-behind.ensures.end, three_more c.args.n c.requires.long (omega (arith, c.ranges.n.fits)))

pub place_long-returns-clause-most : goal.place_long-returns-clause-most
place_long-returns-clause-most t c =
    omega (arith, c.place_text.ensures.end, c.place_number-behind.ensures.end, three_more c.args.n c.requires.long (omega (arith, c.ranges.n.fits)), at_most_ten c.args.n (omega (arith, c.ranges.n.fits)))
