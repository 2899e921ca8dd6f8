-- A reading that stands has room for its entries, and stores them into the first records (standing_reads); one that is refused leaves both (refused_end).
use Rattle.std.proofs.Common.{sym, ap, ◌∙◌, rules}
use Rattle.stored.specs.Reading.{ReadEnd}
use Rattle.stored.proofs.Theorems.Promises.{read_promise}
use Rattle.pioneer.proofs.Readings.{refused_end, Reads, standing_reads}
use Rattle.pioneer.proofs.read.Goals as goal
use Rattle.pioneer.proofs.read.Goals.{In_ok-read}

reads : (c : In_ok-read) → Reads c.args.ledger.now c.args.table.now c.args.file.now c.read.new.ledger c.read.new.parties
reads c = standing_reads c.args.ledger.now c.args.table.now c.args.file.now c.read.new.ledger c.read.new.parties c.in_ok-read.ensures

pub slice_bounds-parties-end : goal.slice_bounds-parties-end
slice_bounds-parties-end c = (reads (goal.at.slice_bounds-parties-end c).In_ok-read).limit

pub slice_bounds-store_each-end : goal.slice_bounds-store_each-end
slice_bounds-store_each-end c = (reads (goal.at.slice_bounds-store_each-end c).In_ok-read).many

pub store_each-requires : goal.store_each-requires
store_each-requires c = (reads (goal.at.store_each-requires c).In_ok-read).room

pub returns : goal.returns
returns c =
    let end = sym (reads (goal.at.returns c).In_ok-read).ends in
    read_promise _ _ _ (ap (λ (e : ReadEnd). e.answer) end) (ap (λ (e : ReadEnd). e.ledger) end) (c.store_each.ensures ∙ ap (λ (e : ReadEnd). e.table) end)

pub returns-in_err-read : goal.returns-in_err-read
returns-in_err-read c = read_promise _ _ _ (search (rules, refused_end)) (search (rules, refused_end)) (search (rules, refused_end))
