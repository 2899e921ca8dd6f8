-- Document 01, 'The slip', with document 02's three lines: all eleven, from the bytes of its book and request on.
use Rattle.std.specs.Prelude.{◌≡◌}
use Rattle.charge.specs.Price.{price_of}
use Rattle.charge.specs.Cases.MarkedFigures.{slip_book, slip_request}
use Rattle.slip_text.specs.Slip.{slip_of}
use Rattle.slip_text.specs.SlipReading.{ascii}

abbrev pub SlipOfDocument01 : Type 0
SlipOfDocument01 =
    slip_of (price_of slip_book slip_request) ≡ ascii "CC 1147630\nIC 1706500\nIR 859800\nNIC 846700\nNC 300930\nRELIANCE 67\nUPFRONT 57\nNCRATIO 15\nRELIANCE-R 67 427500\nUPFRONT-R 57 339490\nNCRATIO-R 14 1988980\n"
