-- Entries that are accepted fit the table, so that what is read into the records is the definition's reading (reads).
use Rattle.stored_calls.proofs.Ends.{reads}
use Rattle.stored_calls.proofs.read_stored.Goals as goal

pub returns : goal.returns
returns c = reads c.args.file.now c.args.room c.requires.0 c.records_of.ensures _ _ _ c.read.ensures
