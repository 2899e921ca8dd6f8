-- The tables show the parties as the histories have them.
use Rattle.std.specs.Prelude.{ℕ, ◌≡◌, refl, List, [], ◌∷◌, ◌++◌, map, take, eqb, filter}
use Rattle.std.proofs.Common.{ap, ◌∙◌, eqb-true}
use Rattle.std.proofs.lemmas.List.{map-append}
use Rattle.ledger.specs.Lists.{oldest_first}
use Rattle.ledger.specs.declared.records.Party.{Party}
use Rattle.ledger.specs.declared.records.Ledger.{Ledger}
use Rattle.calls.specs.Decision.{Call, CallAnswer}
use Rattle.calls.specs.Carried.{State}
use Rattle.calls.proofs.Theorems.Lists.{filter_rows, map_same, all_in_order, all_kept}
use Rattle.history.specs.History.{Entering, History, account_of, enterings_of, party_in, parties_in}
use Rattle.history.specs.DemandThree.{HoldsAfter}
use Rattle.order_of_joiners.specs.Distance.{Part, part_of, parts_of, part_shown, parts_on}

map_in_order : {A B : Type 0} (f : A → B) (xs : List A) → map f (oldest_first xs) ≡ oldest_first (map f xs)
map_in_order f [] = refl
map_in_order f (x ∷ xs) = map-append f (oldest_first xs) (x ∷ []) ∙ ap (λ ys. ys ++ (f x ∷ [])) (map_in_order f xs)

pub map_map : {A B C : Type 0} (f : A → B) (g : B → C) (xs : List A) → map g (map f xs) ≡ map (λ x. g (f x)) xs
map_map f g [] = refl
map_map f g (x ∷ xs) = ap (λ ys. g (f x) ∷ ys) (map_map f g xs)

abbrev shown_parts : ℕ → List Party → List Part
shown_parts s parties = map part_shown (filter (λ party. eqb party.scheme s) parties)

parties_shown : (s : ℕ) (h : History) → shown_parts s (parties_in h) ≡ oldest_first (parts_of (account_of s h))
parties_shown s h =
    ap (map part_shown) (filter_rows (λ (party : Party). eqb party.scheme s) (party_in h) h.entered)
    ∙ map_map (party_in h) part_shown (oldest_first (enterings_of s h.entered))
    ∙ map_same (λ (e : Entering). part_shown (party_in h e)) (part_of (account_of s h))
    (all_in_order
    (all_kept (λ (e : Entering). eqb e.scheme s) h.entered
    (λ (e : Entering) here. ap (λ (n : ℕ). part_of (account_of n h) e) (eqb-true e.scheme s here))))
    ∙ map_in_order (part_of (account_of s h)) (enterings_of s h.entered)

pub parts_shown : (s : ℕ) {room : ℕ} {h : History} {calls : List Call} {answers : List CallAnswer} {after : State} →
    HoldsAfter room h calls answers after → parts_on s after ≡ oldest_first (parts_of (account_of s h))
parts_shown s {h} {after} holds =
    ap (λ (ledger : Ledger). shown_parts s (take ledger.entries after.table)) holds.ledger_shows
    ∙ ap (shown_parts s) holds.entries_show ∙ parties_shown s h
