-- The figures are 27, and there is room for them.
use Rattle.std.proofs.Common.{arith, length, rules, ◌≡◌, length-take}
use Rattle.quoting_unit.proofs.figures.write_figures.Goals as goal

pub copy_from_slice-requires : goal.copy_from_slice-requires
copy_from_slice-requires c =
    let long : length c.figure_places-places.result ≡ 27 = search rules in simp length-take (omega arith)
