-- The ways out are laws of `Writing`.
use native.Mathlib.Omega.{arith}
use Rattle.page.proofs.WritingLaws.{live_lines, live_most, too_short, page_laid}
use Rattle.page.proofs.lines.page_unchecked.Goals as goal

pub overflow_mul-length : goal.overflow_mul-length
overflow_mul-length c =
    record { fits = omega (arith, live_most c.args.table_length c.args.live c.args.reference_count.now c.args.location.now c.requires) }

pub returns-then-text-length : goal.returns-then-text-length
returns-then-text-length c =
    too_short c.args.table_length c.args.live c.args.reference_count.now c.args.location.now c.requires c.args.text.now c.if-text-length.true

pub write_lines-requires : goal.write_lines-requires
write_lines-requires c =
    ((c.requires.counts_lent, c.requires.places_lent), omega (arith, live_lines c.args.table_length c.args.live c.args.reference_count.now c.args.location.now c.requires, c.if-text-length.false))

pub returns : goal.returns
returns c =
    page_laid c.args.table_length c.args.live c.args.reference_count.now c.args.location.now c.requires c.args.text.now _ c.if-text-length.false c.write_lines.ensures
