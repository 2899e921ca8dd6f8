-- The cases of specs/Cases/BytesKept.antt hold.
use Rattle.std.specs.Prelude.{refl}
use Rattle.stored_history.specs.Cases.BytesKept.{BytesKept}

pub bytes_kept_cases : BytesKept
bytes_kept_cases = record { ledger_refused = refl; call_refused = refl; call_accepted = λ acceptance. refl; call_done = refl }
