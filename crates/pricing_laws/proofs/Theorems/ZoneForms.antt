-- Document 02, E6: "a two-byte number up to 255 means the same zone as the one-byte number". What a book and a request say depends on their zone numbers, not on
-- how many bytes those take: one theorem for all four pairs of a book's and a request's forms.
use Rattle.std.specs.Prelude.{ℕ, zero, suc, ◌+◌, ◌-◌, ◌≤◌, ◌≡◌, Bool, true, false, cond, take, drop, replicate, ltb, leb, Err, Ok, None, Some, Option}
use Rattle.std.proofs.Math.Path.{refl, sym, ap}
use Rattle.std.proofs.Common.{ap₂, subst, ◌∙◌, arith, take-take, drop-drop}
use mathlib.Core.List.{List, [], ◌∷◌, map}
use Rattle.std.proofs.Math.ListN.{length, get_or}
use Rattle.std.proofs.lemmas.List.{length-map}
use Rattle.numbers.specs.BigEndian.{number, number_at}
use Rattle.tagged.specs.Find.{first_place, field_start, field_value}
use Rattle.tagged.specs.File.{answer_of, file_answer, fields_part}
use Rattle.tagged.proofs.Theorems.Impossible.{impossible}
use Rattle.tagged.specs.declared.find.Place.{Place}
use Rattle.field_values.specs.Limits.{tier_count, highest_rate, highest_threshold, highest_minimum, lowest_term}
use Rattle.field_values.specs.Judged.{judge, in_order, width_of, within, judge_numbers, judge_field, same_bytes, Judged}
use Rattle.field_values.specs.Factors.{factor_limits, factors_in}
use Rattle.field_values.proofs.Theorems.Judged.{judge_passes, first_failure_passes}
use Rattle.book_zones.specs.BookRows.{book_rows}
use Rattle.book_zones.specs.Zones.{tag_by, number_width, zone_starts, zone_array, zone_number, zone_numbers, rates_from, rate_row, zone_rates, row_judgements, judge_row, judge_zones_from}
use Rattle.rate_book.specs.Fields.{rate_limits, sum_from, sum_judgements, term_judgements, charged_limits}
use Rattle.rate_book.specs.Book.{book_letters, book_judgements, judge_book, book_values, book_of}
use Rattle.rate_book.proofs.Theorems.Book.{book_judged, accepted_passes, accepted_values}
use Rattle.request.specs.RequestRows.{request_rows}
use Rattle.request.specs.Fields.{class_limits, class_in, zone_by, zone_in, amount_limits, five_tier_limits, modes_in, five_from, added_limits, revenue_limits, connection_limits}
use Rattle.request.specs.Request.{request_letters, charge_judgements, request_judgements, judge_request, request_values, request_of}
use Rattle.request.proofs.Theorems.Request.{request_judged, request_accepted}
use Rattle.charge.specs.Price.{values_priced, price_of}
use Rattle.charge.proofs.Theorems.Price.{book_accepted, request_priced_lem}
use Rattle.pricing_laws.specs.SameValues.{in_two_bytes, zone_in_two_bytes_at, zones_in_two_bytes, zone_bytes_by, SameBooks, SameRequests}

-- two judgements that pass, one after the other
both : {first second : Judged} → first ≡ Ok tt → second ≡ Ok tt → in_order first second ≡ Ok tt
both p q = ap₂ in_order p q

-- ---- parts of parts
part_of_part : (l : List ℕ) (m k n : ℕ) → m + k ≤ n → take k (drop m (take n l)) ≡ take k (drop m l)
part_of_part l zero k n h = take-take k n l (omega arith)
part_of_part l (suc m) k zero h = absurd (omega arith)
part_of_part [] (suc m) k (suc n) h = refl
part_of_part (x ∷ l) (suc m) k (suc n) h = part_of_part l m k n (omega arith)

map_through : {A B C : Type 0} (f : A → C) (g : A → B) (h : B → C) → ((x : A) → f x ≡ h (g x)) → (l : List A) → map f l ≡ map h (map g l)
map_through f g h same [] = refl
map_through f g h same (x ∷ l) = ap₂ ◌∷◌ (same x) (map_through f g h same l)

module _ (s : List ℕ) (at : ℕ) where
  -- a number of four bytes, in the value that starts at `at`
  in_value : (j n place : ℕ) → j + 4 ≤ n → place ≡ at + j → number_at s place 4 ≡ number_at (take n (drop at s)) j 4
  in_value j n place h is =
      ap (λ k. number_at s k 4) is ∙ ap (λ l. number (take 4 l)) (sym (drop-drop j at s)) ∙ ap number (sym (part_of_part (drop at s) j 4 n h))

  -- the number and the rates of a zone, from its value with the number in two bytes
  number_of : (place : Option Place) → number_at s at (tag_by place - 7) ≡ number_at (in_two_bytes (tag_by place - 7) (take (tag_by place - 7 + 20) (drop at s))) 0 2
  unfolding number
  number_of None = ap number (sym (take-take 1 21 (drop at s) (omega arith)))
  number_of (Some place) = ap number (sym (take-take 2 22 (drop at s) (omega arith)))

  rates_of : (place : Option Place) → rates_from s (at + (tag_by place - 7)) ≡ rates_from (in_two_bytes (tag_by place - 7) (take (tag_by place - 7 + 20) (drop at s))) 2
  rates_of None =
      λ i.
      in_value 1 21 (at + 1) (omega arith) refl i ∷
      in_value 5 21 (at + 1 + 4) (omega arith) (omega arith) i ∷
      in_value 9 21 (at + 1 + 8) (omega arith) (omega arith) i ∷
      in_value 13 21 (at + 1 + 12) (omega arith) (omega arith) i ∷
      in_value 17 21 (at + 1 + 16) (omega arith) (omega arith) i ∷
      []
  rates_of (Some place) =
      λ i.
      in_value 2 22 (at + 2) (omega arith) refl i ∷
      in_value 6 22 (at + 2 + 4) (omega arith) (omega arith) i ∷
      in_value 10 22 (at + 2 + 8) (omega arith) (omega arith) i ∷
      in_value 14 22 (at + 2 + 12) (omega arith) (omega arith) i ∷
      in_value 18 22 (at + 2 + 16) (omega arith) (omega arith) i ∷
      []

numbers_in_two : (s : List ℕ) → zone_numbers s ≡ zone_array 0 (map (λ zone. number_at zone 0 2) (zones_in_two_bytes s))
numbers_in_two s = ap (zone_array 0) (map_through (zone_number s) _ (λ zone. number_at zone 0 2) (λ at. number_of s at (first_place 9 s)) (zone_starts s))

rates_in_two : (s : List ℕ) → zone_rates s ≡ zone_array (replicate tier_count 0) (map (λ zone. rates_from zone 2) (zones_in_two_bytes s))
rates_in_two s =
    ap (zone_array (replicate tier_count 0)) (map_through (rate_row s) _ (λ zone. rates_from zone 2) (λ at. rates_of s at (first_place 9 s)) (zone_starts s))

count_in_two : (s : List ℕ) → length (zone_starts s) ≡ length (zones_in_two_bytes s)
count_in_two s = sym (length-map (zone_starts s) _)

zone_in_two : (s : List ℕ) (place : Option Place) → zone_by place s ≡ number_at (zone_bytes_by place s) 0 2
unfolding number
zone_in_two s None = ap number (sym (take-take 1 1 (field_value 4 s) (omega arith)))
zone_in_two s (Some place) = ap number (sym (take-take 2 2 (field_value 13 s) (omega arith)))

-- ---- what the files say
module _ (s s' : List ℕ) (same : SameBooks s s') where
  same_rates : zone_rates s ≡ zone_rates s'
  same_rates = rates_in_two s ∙ ap (λ zones. zone_array (replicate tier_count 0) (map (λ zone. rates_from zone 2) zones)) same.zones ∙ sym (rates_in_two s')

  same_numbers : zone_numbers s ≡ zone_numbers s'
  same_numbers = numbers_in_two s ∙ ap (λ zones. zone_array 0 (map (λ zone. number_at zone 0 2) zones)) same.zones ∙ sym (numbers_in_two s')

  same_count : length (zone_starts s) ≡ length (zone_starts s')
  same_count = count_in_two s ∙ ap length same.zones ∙ sym (count_in_two s')

  same_book_values : book_values s ≡ book_values s'
  same_book_values =
      λ i.
      record {
        rate = number_at (same.rate i) 0 2;
        opex = sum_from (same.figures i) 0;
        revenue = sum_from (same.figures i) 4;
        distribution = factors_in (same.distribution i);
        transmission = factors_in (same.transmission i);
        threshold = number_at (same.terms i) 0 4;
        fee = number_at (same.terms i) 4 4;
        minimum = number_at (same.terms i) 8 4;
        term = number_at (same.terms i) 12 2;
        charged = number_at (same.charging i) 0 1;
        share = number_at (same.charging i) 1 2;
        zones = same_count i;
        zone_numbers = same_numbers i;
      }

module _ (s s' : List ℕ) (same : SameRequests s s') where
  same_zone : zone_in s ≡ zone_in s'
  same_zone = zone_in_two s (first_place 13 s) ∙ ap (λ zone. number_at zone 0 2) same.zone ∙ sym (zone_in_two s' (first_place 13 s'))

  same_request_values : request_values s ≡ request_values s'
  same_request_values =
      λ i.
      record {
        person = number_at (same.person i) 0 4;
        class = number_at (same.class i) 0 1;
        zone = same_zone i;
        me = number_at (same.amounts i) 0 4;
        ce = number_at (same.amounts i) 4 4;
        de = number_at (same.amounts i) 8 4;
        tw = number_at (same.amounts i) 12 4;
        hr = number_at (same.amounts i) 16 4;
        ol = number_at (same.amounts i) 20 4;
        modes = modes_in (same.tiers i);
        demands = five_from (same.tiers i) 1 9;
        bespoke_rates = five_from (same.tiers i) 5 9;
        added_demands = five_from (same.added i) 0 4;
        distribution_revenue = number_at (same.revenues i) 0 4;
        transmission_revenue = number_at (same.revenues i) 4 4;
        part_year = factors_in (same.part_year i);
        distribution_tariff = factors_in (same.distribution i);
        transmission_tariff = factors_in (same.transmission i);
        month = number_at (same.connection i) 0 2;
        capacity = number_at (same.connection i) 2 4;
        scheme = number_at (same.connection i) 6 2;
        mark = number_at (same.connection i) 8 1;
      }

-- ---- values that pass in one file pass in the other, wherever they stand there
judge_anywhere : (listed : Bool) (at at' : ℕ) → judge listed at ≡ Ok tt → judge listed at' ≡ Ok tt
judge_anywhere listed at at' e = ap (λ b. judge b at') (judge_passes listed at e)

numbers_anywhere : (limits : List (List ℕ)) (at at' : ℕ) (value : List ℕ) → judge_numbers limits at value ≡ Ok tt → judge_numbers limits at' value ≡ Ok tt
unfolding judge_numbers
numbers_anywhere [] at at' value e = refl
numbers_anywhere (limit ∷ limits) at at' value e =
    by (ltb (length value) (width_of limit)) (within limit (number (take (width_of limit) value))) _ _
    (numbers_anywhere limits (at + width_of limit) (at' + width_of limit) (drop (width_of limit) value)) e
  where
    by : (short listed : Bool) (later later' : Judged) → (later ≡ Ok tt → later' ≡ Ok tt) → cond short (Ok tt) (cond listed later (Err at)) ≡ Ok tt →
        cond short (Ok tt) (cond listed later' (Err at')) ≡ Ok tt
    by true listed later later' on e = refl
    by false true later later' on e = on e
    by false false later later' on e = impossible cc

row_anywhere : (rates rates' : ℕ) (row : List ℕ) → judge_row rates row ≡ Ok tt → judge_row rates' row ≡ Ok tt
row_anywhere rates rates' row e =
    let judged = first_failure_passes (row_judgements rates row) e in
    let tier : (k at at' : ℕ) → judge (leb (get_or row k 0) highest_rate) at ≡ Ok tt → judge (leb (get_or row k 0) highest_rate) at' ≡ (Ok tt) =
    λ k. judge_anywhere (leb (get_or row k 0) highest_rate) in
    both (tier 0 rates rates' (judged 0))
    (both (tier 1 (rates + 4) (rates' + 4) (judged 1))
    (both (tier 2 (rates + 8) (rates' + 8) (judged 2))
    (both (tier 3 (rates + 12) (rates' + 12) (judged 3)) (both (tier 4 (rates + 16) (rates' + 16) (judged 4)) refl))))

module _ (s s' : List ℕ) where
  -- a test of a value
  test_passes : (test : List ℕ → Bool) (tag at at' : ℕ) → field_value tag s ≡ field_value tag s' → judge (test (field_value tag s)) at ≡ Ok tt →
      judge (test (field_value tag s')) at' ≡ Ok tt
  test_passes test tag at at' same e = subst (λ value. judge (test value) at' ≡ Ok tt) same (judge_anywhere (test (field_value tag s)) at at' e)

  field_passes : (limits : List (List ℕ)) (tag : ℕ) → field_value tag s ≡ field_value tag s' → judge_field limits tag s ≡ Ok tt → judge_field limits tag s' ≡ Ok tt
  field_passes limits tag same e =
      subst (λ value. judge_numbers limits (field_start tag s') value ≡ Ok tt) same
      (numbers_anywhere limits (field_start tag s) (field_start tag s') (field_value tag s) e)

  zones_pass : (starts starts' : List ℕ) (least : ℕ) → map (zone_in_two_bytes_at s) starts ≡ map (zone_in_two_bytes_at s') starts' →
      judge_zones_from least s starts ≡ Ok tt → judge_zones_from least s' starts' ≡ Ok tt
  unfolding judge_zones_from
  zones_pass [] [] least same e = refl
  zones_pass [] (at' ∷ starts') least same e = absurd (omega (arith, ap length same))
  zones_pass (at ∷ starts) [] least same e = absurd (omega (arith, ap length same))
  zones_pass (at ∷ starts) (at' ∷ starts') least same e =
      let judged =
      first_failure_passes (judge (leb least (zone_number s at)) at ∷ judge_row (at + number_width s) (rate_row s at) ∷ judge_zones_from (zone_number s at + 1) s starts ∷ []) e in
      let zone : zone_in_two_bytes_at s at ≡ zone_in_two_bytes_at s' at' = ap (λ l. get_or l 0 []) same in
      let number_same : zone_number s at ≡ zone_number s' at' =
      number_of s at (first_place 9 s) ∙ ap (λ bytes. number_at bytes 0 2) zone ∙ sym (number_of s' at' (first_place 9 s')) in
      let row : rate_row s at ≡ rate_row s' at' =
      rates_of s at (first_place 9 s) ∙ ap (λ bytes. rates_from bytes 2) zone ∙ sym (rates_of s' at' (first_place 9 s')) in
      both (subst (λ n. judge (leb least n) at' ≡ Ok tt) number_same (judge_anywhere (leb least (zone_number s at)) at at' (judged 0)))
      (both (subst (λ rates. judge_row (at' + number_width s') rates ≡ Ok tt) row (row_anywhere (at + number_width s) _ (rate_row s at) (judged 1)))
      (both (zones_pass starts starts' (zone_number s' at' + 1) (ap (drop 1) same)
      (subst (λ n. judge_zones_from (n + 1) s starts ≡ Ok tt) number_same (judged 2))) refl))

  book_passes : SameBooks s s' → judge_book s ≡ Ok tt → judge_book s' ≡ Ok tt
  book_passes same e =
      let judged = first_failure_passes (book_judgements s) e in
      let sums = first_failure_passes (sum_judgements s) (judged 2) in
      let terms = first_failure_passes (term_judgements s) (judged 5) in
      both (test_passes (λ value. same_bytes value book_letters) 1 _ _ same.letters (judged 0))
      (both (field_passes rate_limits 2 same.rate (judged 1))
      (both
      (both (test_passes (λ value. leb (sum_from value 0) (sum_from value 4)) 3 _ _ same.figures (sums 0))
      (both (test_passes (λ value. ltb 0 (sum_from value 4)) 3 _ _ same.figures (sums 1)) refl))
      (both (field_passes factor_limits 4 same.distribution (judged 3))
      (both (field_passes factor_limits 5 same.transmission (judged 4))
      (both
      (both (test_passes (λ value. leb (number_at value 0 4) highest_threshold) 6 _ _ same.terms (terms 0))
      (both (test_passes (λ value. leb (number_at value 4 4) (number_at value 8 4)) 6 _ _ same.terms (terms 1))
      (both (test_passes (λ value. leb (number_at value 8 4) highest_minimum) 6 _ _ same.terms (terms 2))
      (both (test_passes (λ value. leb lowest_term (number_at value 12 2)) 6 _ _ same.terms (terms 3)) refl))))
      (both (field_passes charged_limits 7 same.charging (judged 6))
      (both (zones_pass (zone_starts s) (zone_starts s') 0 same.zones (judged 7)) refl)))))))

  request_passes : SameRequests s s' → judge_request s ≡ Ok tt → judge_request s' ≡ Ok tt
  request_passes same e =
      let judged = first_failure_passes (request_judgements s) e in
      let charges = first_failure_passes (charge_judgements s) (judged 1) in
      let amounts = subst (λ value. judge_field (amount_limits (number_at value 0 1)) 5 s' ≡ Ok tt) same.class (field_passes (amount_limits (class_in s)) 5 same.amounts (charges 1)) in
      both (test_passes (λ value. same_bytes value request_letters) 1 _ _ same.letters (judged 0))
      (both (both (field_passes class_limits 3 same.class (charges 0)) (both amounts refl))
      (both (field_passes five_tier_limits 6 same.tiers (judged 2))
      (both (field_passes added_limits 7 same.added (judged 3))
      (both (field_passes revenue_limits 8 same.revenues (judged 4))
      (both (field_passes factor_limits 9 same.part_year (judged 5))
      (both (field_passes factor_limits 10 same.distribution (judged 6))
      (both (field_passes factor_limits 11 same.transmission (judged 7))
      (both (field_passes connection_limits 12 same.connection (judged 8)) refl))))))))

-- Zone numbers written either way price alike: an accepted book and request, and files that stand by their tags, lengths and checks and say the same but
-- for the form. Those are accepted then too.
pub either_form_accepted : (book book' request request' : List ℕ) →
    answer_of (book_of 1 book) ≡ Ok tt → file_answer book_rows 1 book' ≡ Ok tt → answer_of (request_of 2 request) ≡ Ok tt → file_answer request_rows 2 request' ≡ Ok tt →
    SameBooks (fields_part book) (fields_part book') → SameRequests (fields_part request) (fields_part request') →
    (answer_of (book_of 1 book') ≡ Ok tt) × (answer_of (request_of 2 request') ≡ Ok tt)
either_form_accepted book book' request request' b b' r r' books requests = (
  rw (book_judged 1 book' b', book_passes (fields_part book) (fields_part book') books (accepted_passes 1 book b)),
  ap answer_of (request_judged 2 request' (Ok tt) r' (request_passes (fields_part request) (fields_part request') requests (request_accepted 2 request r).passes)),
)

pub either_form_prices_alike : (book book' request request' : List ℕ) →
    answer_of (book_of 1 book) ≡ Ok tt → file_answer book_rows 1 book' ≡ Ok tt → answer_of (request_of 2 request) ≡ Ok tt → file_answer request_rows 2 request' ≡ Ok tt →
    SameBooks (fields_part book) (fields_part book') → SameRequests (fields_part request) (fields_part request') →
    price_of book request ≡ price_of book' request'
either_form_prices_alike book book' request request' b stands r stands' books requests =
    let accepted = either_form_accepted book book' request request' b stands r stands' books requests in
    alike accepted.0 accepted.1
  where
    by_values : (book request : List ℕ) → answer_of (book_of 1 book) ≡ Ok tt → answer_of (request_of 2 request) ≡ Ok tt →
        let read = request_values (fields_part request) in
        price_of book request
        ≡ values_priced (book_values (fields_part book)) (zone_rates (fields_part book)) read read.distribution_revenue read.transmission_revenue
    by_values book request b r =
        book_accepted book request (accepted_values 1 book b)
        ∙ request_priced_lem (book_values (fields_part book)) (zone_rates (fields_part book)) request (request_accepted 2 request r).values

    alike : answer_of (book_of 1 book') ≡ Ok tt → answer_of (request_of 2 request') ≡ Ok tt → price_of book request ≡ price_of book' request'
    alike b' r' =
        let values = same_book_values (fields_part book) (fields_part book') books in
        let read = same_request_values (fields_part request) (fields_part request') requests in
        by_values book request b r
        ∙ (λ i. values_priced (values i) (same_rates (fields_part book) (fields_part book') books i) (read i) (read i).distribution_revenue (read i).transmission_revenue)
        ∙ sym (by_values book' request' b' r')
