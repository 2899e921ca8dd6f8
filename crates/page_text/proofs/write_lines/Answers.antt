-- The lines are as long as the page: twelve of 64 bytes, which the output has room for.
use Rattle.std.proofs.Common.{ap, arith, length}
use Rattle.std.proofs.lemmas.List.{length-take-le}
use Rattle.page_text.specs.Page.{page_size}
use Rattle.page_text.proofs.write_lines.Goals as goal

pub copy_from_slice-requires : goal.copy_from_slice-requires
copy_from_slice-requires c =
    omega (arith, length-take-le page_size c.args.out.now (omega arith), c.as_flattened.ensures.len, ap length c.page_lines-lines.ensures)
