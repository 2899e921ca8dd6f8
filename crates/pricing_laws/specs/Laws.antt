-- The laws that the functions of src/ are there for, one statement each; the proofs stand beside the definitions that they are of.
use Rattle.std.specs.Prelude.{ℕ, suc, ◌+◌, ◌-◌, ◌*◌, ◌/◌, ◌%◌, ◌^◌, ◌<◌, ◌≤◌, ◌≡◌, ◌⊎◌, true, length, set, ℤ, pos, nat_abs, ◌-ℤ◌, ◌≤ℤ◌, Err, None, Ok, is_ok, slice_index, slice_index_or}
use mathlib.Core.List.{List, [], ◌++◌}
use Rattle.numbers.specs.BigEndian.{Bytes, number_at}
use Rattle.tagged.specs.Refusals.{file_does_not_walk, check_differs}
use Rattle.tagged.specs.File.{answer_of, fields_part, refusal, file_answer}
use Rattle.tagged.specs.Find.{first_place, field_value}
use Rattle.tagged.specs.declared.file.Refusal.{Refusal}
use Rattle.tagged.specs.FileEnding.{file_ending}
use Rattle.tagged.specs.EndingTests.{number_is_0}
use Rattle.tagged.specs.AnswerPromised.{AnswerPromised}
use Rattle.field_values.specs.Limits.{highest_share}
use Rattle.book_zones.specs.BookRows.{book_rows}
use Rattle.book_zones.specs.Zones.{zone_tag}
use Rattle.rate_book.specs.Book.{book_of}
use Rattle.request.specs.RequestRows.{request_rows}
use Rattle.request.specs.Fields.{zone_in}
use Rattle.request.specs.Request.{request_of}
use Rattle.discount.specs.Discount.{discount}
use Rattle.discount.specs.DiscountYears.{last_year}
use Rattle.discount_table.specs.DiscountTable.{lowest_table_rate, table_rate_step, table_follows}
use Rattle.reconciliation.specs.Reconciliation.{entered_of, nic_of, cc_of, borne_of, nc_of}
use Rattle.reconciliation.specs.ExactPercent.{ExactPercentages}
use Rattle.reconciliation.specs.declared.Costs.{Costs}
use Rattle.reconciliation.specs.declared.Reconciliation.{Reconciliation}
use Rattle.charge.specs.Price.{price_of, Pricing}
use Rattle.charge.specs.PriceEnding.{pricing_ending}
use Rattle.charge.specs.PriceRefusals.{PricingRefusal}
use Rattle.charge.specs.BillLimits.{BillWithin}
use Rattle.charge.specs.declared.Bill.{Bill}
use Rattle.price_band.specs.BandEnding.{band_ending, BandRefusal}
use Rattle.price_band.specs.BandLimits.{BandFits}
use Rattle.price_band.specs.BandPromises.{Inside, ReadsWith, PricedBetween, EndsReached}
use Rattle.price_band.specs.PriceBand.{band_of, BandPricing}
use Rattle.price_band.specs.declared.Band.{Band}
use Rattle.price_band.specs.declared.Bands.{Bands}
use Rattle.slip_text.specs.ExactLines.{UnsignedNumber, SignedNumber, SlipExact}
use Rattle.slip_text.specs.Slip.{decimal, signed_decimal, slip_of, slip_written, slip_buffer, SlipWritten}
use Rattle.slip_text.specs.SlipEnding.{slip_ending}
use Rattle.slip_text.specs.SlipReading.{ascii}
use Rattle.slip_text.specs.SlipRoom.{room, longest_slip}
use Rattle.page_text.specs.AmountGrammar.{AmountColumns, OnlyAmount}
use Rattle.page_text.specs.Page.{amount_text, label_text, right_aligned, page_of, page_size, page_written, page_output, PageWritten}
use Rattle.page_text.specs.PageColumns.{names, amounts_of, line_of, label_columns, amount_columns, AmountsFit}
use Rattle.page_text.specs.PageEnding.{page_ending}
use Rattle.pricing_laws.specs.EarlierPricing.{earlier_price_of, AsBefore}
use Rattle.pricing_laws.specs.EarlierRows.{earlier_book_rows, earlier_request_rows}
use Rattle.pricing_laws.specs.SameValues.{SameBooks, SameRequests, InTwoBytes}

-- ---- discount factors

-- never above the exact value, and from year 1 on less than n hundred-millionths below it
abbrev pub DiscountBounds : Type 0
DiscountBounds =
    (b n : ℕ) → (discount b n * (10000 + b) ^ n ≤ 100000000 * 10000 ^ n) × (1 ≤ n → 100000000 * 10000 ^ n < (discount b n + n) * (10000 + b) ^ n)

-- document 01's recurrence at each entry of a table that passes the test over the whole of it
abbrev pub RecurrenceAtEachEntry : Type 0
RecurrenceAtEachEntry =
    (table : List (List ℕ)) → table_follows lowest_table_rate table ≡ true → (k : ℕ) → k < length table →
    let row = slice_index_or table k [] in
    (slice_index row 0 ≡ 100000000)
    × ((n : ℕ) → n < last_year → slice_index row (suc n) ≡ slice_index row n * 10000 / (10000 + (lowest_table_rate + table_rate_step * k)))

-- ---- the charge

-- CC + borne = cost entered, CC − NC = NIC
abbrev pub Reconciles : Type 0
Reconciles =
    (costs : Costs) (ir a share : ℕ) → a ≤ 1 →
    (cc_of costs ir a share + borne_of costs ir a share ≡ entered_of costs) × (pos (cc_of costs ir a share) -ℤ nc_of costs ir a share ≡ nic_of costs ir)

abbrev pub PricedReconciles : Type 0
PricedReconciles =
    (book request : List ℕ) (bill : Bill) → Bytes book → Bytes request → price_of book request ≡ Ok bill →
    let r = bill.reconciliation in
    (r.cc + r.borne ≡ r.entered) × (pos r.cc -ℤ r.nc ≡ r.nic)

abbrev pub PricedPercentagesExact : Type 0
PricedPercentagesExact = (book request : List ℕ) (bill : Bill) → price_of book request ≡ Ok bill → ExactPercentages bill.reconciliation

-- every bill lies within the limits that the ledger needs
abbrev pub PricedWithin : Type 0
PricedWithin = (book request : List ℕ) (bill : Bill) → Bytes book → Bytes request → price_of book request ≡ Ok bill → BillWithin bill

-- ---- how pricing ends

abbrev pub PricingRefusals : Type 0
PricingRefusals = (book request : List ℕ) (r : Refusal) → price_of book request ≡ Err r → PricingRefusal r

-- the number is 0 exactly where a book or a request is read, and where it is priced
abbrev pub BookByNumber : Type 0
BookByNumber = (number : ℕ) (file : List ℕ) → number_is_0 (file_ending (answer_of (book_of number file))) ≡ is_ok (answer_of (book_of number file))

abbrev pub RequestByNumber : Type 0
RequestByNumber = (number : ℕ) (file : List ℕ) → number_is_0 (file_ending (answer_of (request_of number file))) ≡ is_ok (answer_of (request_of number file))

abbrev pub PricingByNumber : Type 0
PricingByNumber = (book request : List ℕ) → number_is_0 (pricing_ending (price_of book request)) ≡ is_ok (price_of book request)

-- two different answers never end alike
abbrev pub PricingByEnding : Type 0
PricingByEnding =
    (book request book' request' : List ℕ) → pricing_ending (price_of book request) ≡ pricing_ending (price_of book' request') →
    price_of book request ≡ price_of book' request'

-- so the ending that pricing promises tells its answer
abbrev pub PromisedPrice : Type 0
PromisedPrice = (book request : List ℕ) (pricing : Pricing) → AnswerPromised pricing_ending (price_of book request) pricing → pricing ≡ price_of book request

-- ---- one byte of a file that was priced is another byte

abbrev pub AlteredBookNotPriced : Type 0
AlteredBookNotPriced =
    (book request : List ℕ) (bill : Bill) → price_of book request ≡ Ok bill → (i b : ℕ) → b < 256 → Bytes book → i < length book → (slice_index book i ≡ b → ⊥) →
    (price_of (set book i b) request ≡ Err (refusal file_does_not_walk 1 0)) ⊎ (price_of (set book i b) request ≡ Err (refusal check_differs 1 (length book - 2)))

abbrev pub AlteredRequestNotPriced : Type 0
AlteredRequestNotPriced =
    (book request : List ℕ) (bill : Bill) → price_of book request ≡ Ok bill → (i b : ℕ) → b < 256 → Bytes request → i < length request → (slice_index request i ≡ b → ⊥) →
    (price_of book (set request i b) ≡ Err (refusal file_does_not_walk 2 0)) ⊎ (price_of book (set request i b) ≡ Err (refusal check_differs 2 (length request - 2)))

-- its slip is then this one line
abbrev pub AlteredBookSlip : Type 0
AlteredBookSlip =
    (book request : List ℕ) (bill : Bill) → price_of book request ≡ Ok bill → (i b : ℕ) → b < 256 → Bytes book → i < length book → (slice_index book i ≡ b → ⊥) →
    (slip_of (price_of (set book i b) request) ≡ ascii "REFUSED 1 1 0\n")
    ⊎ (slip_of (price_of (set book i b) request) ≡ ascii "REFUSED 2 1 " ++ (decimal (length book - 2) ++ ascii "\n"))

abbrev pub AlteredRequestSlip : Type 0
AlteredRequestSlip =
    (book request : List ℕ) (bill : Bill) → price_of book request ≡ Ok bill → (i b : ℕ) → b < 256 → Bytes request → i < length request → (slice_index request i ≡ b → ⊥) →
    (slip_of (price_of book (set request i b)) ≡ ascii "REFUSED 1 2 0\n")
    ⊎ (slip_of (price_of book (set request i b)) ≡ ascii "REFUSED 2 2 " ++ (decimal (length request - 2) ++ ascii "\n"))

-- ---- zone numbers of one byte and of two

-- of two files without 09 and 0D
abbrev pub OlderPriced : Type 0
OlderPriced =
    (book request : List ℕ) → first_place 9 (fields_part book) ≡ None → first_place 13 (fields_part request) ≡ None →
    AsBefore 2 (earlier_price_of book request) (price_of book request)

-- of one such file alone, whatever its number
abbrev pub OlderBookSame : Type 0
OlderBookSame = (number : ℕ) (file : List ℕ) → first_place 9 (fields_part file) ≡ None → file_answer book_rows number file ≡ file_answer earlier_book_rows number file

abbrev pub OlderRequestSame : Type 0
OlderRequestSame =
    (number : ℕ) (file : List ℕ) → first_place 13 (fields_part file) ≡ None →
    AsBefore number (file_answer earlier_request_rows number file) (file_answer request_rows number file)

-- their zones are the fields 08, and the zone is that of field 04
abbrev pub OlderZones : Type 0
OlderZones = (s : List ℕ) → first_place 9 s ≡ None → zone_tag s ≡ 8

abbrev pub OlderZone : Type 0
OlderZone = (s : List ℕ) → first_place 13 s ≡ None → zone_in s ≡ number_at (field_value 4 s) 0 1

abbrev pub EitherFormAccepted : Type 0
EitherFormAccepted =
    (book book' request request' : List ℕ) →
    answer_of (book_of 1 book) ≡ Ok tt → file_answer book_rows 1 book' ≡ Ok tt → answer_of (request_of 2 request) ≡ Ok tt → file_answer request_rows 2 request' ≡ Ok tt →
    SameBooks (fields_part book) (fields_part book') → SameRequests (fields_part request) (fields_part request') →
    (answer_of (book_of 1 book') ≡ Ok tt) × (answer_of (request_of 2 request') ≡ Ok tt)

abbrev pub EitherFormPricesAlike : Type 0
EitherFormPricesAlike =
    (book book' request request' : List ℕ) →
    answer_of (book_of 1 book) ≡ Ok tt → file_answer book_rows 1 book' ≡ Ok tt → answer_of (request_of 2 request) ≡ Ok tt → file_answer request_rows 2 request' ≡ Ok tt →
    SameBooks (fields_part book) (fields_part book') → SameRequests (fields_part request) (fields_part request') →
    price_of book request ≡ price_of book' request'

-- what is accepted in one form is so in the other, with the same values
abbrev pub BookInTwoBytes : Type 0
BookInTwoBytes =
    (book : List ℕ) → Bytes book → answer_of (book_of 1 book) ≡ Ok tt → first_place 9 (fields_part book) ≡ None → InTwoBytes book_rows 1 9 SameBooks book

abbrev pub RequestInTwoBytes : Type 0
RequestInTwoBytes =
    (request : List ℕ) → Bytes request → answer_of (request_of 2 request) ≡ Ok tt → first_place 13 (fields_part request) ≡ None →
    InTwoBytes request_rows 2 13 SameRequests request

-- ---- the band

abbrev pub BandHolds : Type 0
BandHolds =
    (book request : List ℕ) (bands : Bands) (band : Band) → Bytes book → band_of book request bands ≡ Ok band →
    (other : List ℕ) (distribution transmission : ℕ) → ReadsWith distribution transmission request other → Inside bands distribution transmission →
    PricedBetween book other band

abbrev pub BandReached : Type 0
BandReached = (book request : List ℕ) (bands : Bands) (band : Band) → Bytes request → band_of book request bands ≡ Ok band → EndsReached book request bands band

-- its figures fit 64 bits with a sign
abbrev pub EveryBandFits : Type 0
EveryBandFits = (book request : List ℕ) (bands : Bands) (band : Band) → Bytes book → Bytes request → band_of book request bands ≡ Ok band → BandFits band

-- with IR CC never rises and NC never falls
abbrev pub CCNeverRises : Type 0
CCNeverRises = (costs : Costs) (ir ir' a share : ℕ) → ir ≤ ir' → cc_of costs ir' a share ≤ cc_of costs ir a share

abbrev pub NCNeverFalls : Type 0
NCNeverFalls = (costs : Costs) (ir ir' a share : ℕ) → ir ≤ ir' → share ≤ highest_share → nc_of costs ir a share ≤ℤ nc_of costs ir' a share

abbrev pub BandRefusals : Type 0
BandRefusals = (book request : List ℕ) (bands : Bands) (r : Refusal) → band_of book request bands ≡ Err r → BandRefusal r

abbrev pub BandByNumber : Type 0
BandByNumber = (book request : List ℕ) (bands : Bands) → number_is_0 (band_ending (band_of book request bands)) ≡ is_ok (band_of book request bands)

abbrev pub BandByEnding : Type 0
BandByEnding =
    (book request book' request' : List ℕ) (bands bands' : Bands) → band_ending (band_of book request bands) ≡ band_ending (band_of book' request' bands') →
    band_of book request bands ≡ band_of book' request' bands'

-- so the ending that is promised tells the band
abbrev pub PromisedBand : Type 0
PromisedBand = (book request : List ℕ) (bands : Bands) (pricing : BandPricing) → AnswerPromised band_ending (band_of book request bands) pricing → pricing ≡ band_of book request bands

-- ---- the slip

-- the lines of quotient and remainder
abbrev pub SlipSaysExact : Type 0
SlipSaysExact =
    (book request : List ℕ) (bill : Bill) → Bytes book → Bytes request → price_of book request ≡ Ok bill → SlipExact (slip_of (price_of book request)) bill.reconciliation

-- a printed figure can be read in one way only
abbrev pub DecimalOneWay : Type 0
DecimalOneWay = (n : ℕ) → n < 10 ^ 20 → UnsignedNumber (decimal n) n × ((other : ℕ) → UnsignedNumber (decimal n) other → other ≡ n)

abbrev pub SignedOneWay : Type 0
SignedOneWay = (z : ℤ) → nat_abs z < 10 ^ 20 → SignedNumber (signed_decimal z) z × ((other : ℤ) → SignedNumber (signed_decimal z) other → other ≡ z)

-- how long it is, of two files and of any figures
abbrev pub LongestSlip : Type 0
LongestSlip = (book request : List ℕ) → Bytes book → Bytes request → length (slip_of (price_of book request)) ≤ longest_slip

abbrev pub SlipFits : Type 0
SlipFits = (pricing : Pricing) → length (slip_of pricing) ≤ room

abbrev pub RefusedSlipChangesNothing : Type 0
RefusedSlipChangesNothing = (pricing : Pricing) (out : List ℕ) (r : Refusal) → slip_written pricing out ≡ Err r → slip_buffer pricing out ≡ out

abbrev pub SlipByNumber : Type 0
SlipByNumber = (pricing : Pricing) (out : List ℕ) → number_is_0 (slip_ending (slip_written pricing out)) ≡ is_ok (slip_written pricing out)

abbrev pub SlipByEnding : Type 0
SlipByEnding =
    (pricing pricing' : Pricing) (out out' : List ℕ) → slip_ending (slip_written pricing out) ≡ slip_ending (slip_written pricing' out') →
    slip_written pricing out ≡ slip_written pricing' out'

abbrev pub PromisedSlip : Type 0
PromisedSlip = (pricing : Pricing) (out : List ℕ) (written : SlipWritten) → AnswerPromised slip_ending (slip_written pricing out) written → written ≡ slip_written pricing out

-- ---- the page

-- each line's amount can be read in one way only, as the charge's
abbrev pub PageOneWay : Type 0
PageOneWay =
    (book request out : List ℕ) (bill : Bill) → Bytes book → Bytes request → price_of book request ≡ Ok bill → page_size ≤ length out → (i : ℕ) → i < 12 →
    OnlyAmount (amount_columns (line_of i (page_output (price_of book request) out))) (slice_index_or (amounts_of bill.reconciliation) i (pos 0))

-- and of any reconciliation, as any amount of 64 bits
abbrev pub AmountReadBack : Type 0
AmountReadBack =
    (r : Reconciliation) (i : ℕ) → i < 12 → nat_abs (slice_index_or (amounts_of r) i (pos 0)) < 2 ^ 64 →
    OnlyAmount (amount_columns (line_of i (page_of r))) (slice_index_or (amounts_of r) i (pos 0))

-- columns have one amount at most, and two amounts never have the same 31 bytes
abbrev pub OneValue : Type 0
OneValue = (a b : ℤ) (columns : List ℕ) → AmountColumns columns a → AmountColumns columns b → a ≡ b

abbrev pub OneAmount : Type 0
OneAmount = (a b : ℤ) → nat_abs a < 2 ^ 64 → nat_abs b < 2 ^ 64 → right_aligned (amount_text a) ≡ right_aligned (amount_text b) → a ≡ b

-- 768 bytes, the listed labels, byte 0A at the end of each line and nowhere else
abbrev pub PageSize : Type 0
PageSize = (r : Reconciliation) → length (page_of r) ≡ page_size

abbrev pub LabelsListed : Type 0
LabelsListed = (r : Reconciliation) (i : ℕ) → i < 12 → label_columns (line_of i (page_of r)) ≡ label_text (slice_index_or names i [])

abbrev pub LineEnds : Type 0
LineEnds = (r : Reconciliation) (i : ℕ) → i < 12 → slice_index (line_of i (page_of r)) 63 ≡ 10

abbrev pub NoOtherEnd : Type 0
NoOtherEnd = (r : Reconciliation) → AmountsFit r → (k : ℕ) → k < page_size → slice_index (page_of r) k ≡ 10 → k % 64 ≡ 63

abbrev pub RefusedPageChangesNothing : Type 0
RefusedPageChangesNothing = (pricing : Pricing) (out : List ℕ) (r : Refusal) → page_written pricing out ≡ Err r → page_output pricing out ≡ out

abbrev pub PageByNumber : Type 0
PageByNumber = (book request out : List ℕ) → number_is_0 (page_ending (page_written (price_of book request) out)) ≡ is_ok (page_written (price_of book request) out)

abbrev pub PageByEnding : Type 0
PageByEnding =
    (book request book' request' out out' : List ℕ) →
    page_ending (page_written (price_of book request) out) ≡ page_ending (page_written (price_of book' request') out') →
    page_written (price_of book request) out ≡ page_written (price_of book' request') out'

abbrev pub PromisedPage : Type 0
PromisedPage = (book request out : List ℕ) (written : PageWritten) → AnswerPromised page_ending (page_written (price_of book request) out) written → written ≡ page_written (price_of book request) out
