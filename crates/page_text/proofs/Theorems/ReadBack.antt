-- An amount is read off its columns in one way: what is written for it is in the grammar, and whatever is in the grammar has the value that the reader finds.
use Rattle.std.specs.Prelude.{ℕ, zero, suc, ◌+◌, ◌*◌, ◌-◌, ◌/◌, ◌%◌, ◌^◌, ◌<◌, ◌≤◌, ◌≡◌, refl, List, [], ◌∷◌, ◌++◌, map, Bool, true, false, cond, ◌&&◌, ltb, leb, eqb, ℤ, pos, negsuc, nat_abs, length, get_or, drop, replicate}
use Rattle.std.proofs.Common.{ap, ap₂, sym, subst, ◌∙◌, ⊎_elim, pow-suc, arith, lt-ltb, le-leb, ne_eqb, ltb-true, ltb-false}
use Rattle.std.proofs.Math.Option.{Option, none, some}
use mathlib.Core.List.Memᴰ
use mathlib.Core.List.{Memᴰ}
use Rattle.tagged.proofs.Theorems.Impossible.{impossible}
use Rattle.page_text.specs.AmountGrammar.{GroupsAfter, point, comma, UnsignedAmount, lone_zero, one_digit, two_digits, three_digits, AmountColumns, not_negative, negative, blank, OnlyAmount}
use Rattle.page_text.specs.Page.{digit, three_digits_of, first_group, dollars_text, cents_text, amount_text, right_aligned}
use Rattle.page_text.proofs.Theorems.Page.{dollars_end, dollars_more}

-- ---- the reader, which finds whatever is in the grammar
abbrev pub is_digit : ℕ → Bool
is_digit byte = leb 48 byte && ltb byte 58

-- a point and two digits
abbrev pub cents_read : ℕ → ℕ → ℕ → ℕ → Option ℕ
cents_read dollars p a b =
    cond (eqb p 46 && (is_digit a && is_digit b)) (some (dollars * 100 + ((a - 48) * 10 + (b - 48)))) none

unfoldable pub groups_read : ℕ → List ℕ → Option ℕ
groups_read dollars [] = none
groups_read dollars (p ∷ []) = none
groups_read dollars (p ∷ a ∷ []) = none
groups_read dollars (p ∷ a ∷ b ∷ []) = cents_read dollars p a b
groups_read dollars (p ∷ a ∷ b ∷ c ∷ rest) =
    cond (eqb p 44 && (is_digit a && (is_digit b && is_digit c)))
    (groups_read (dollars * 1000 + ((a - 48) * 100 + (b - 48) * 10 + (c - 48))) rest)
    none

-- what may follow a lone 0
abbrev pub only_cents_read : List ℕ → Option ℕ
only_cents_read [] = none
only_cents_read (p ∷ []) = none
only_cents_read (p ∷ a ∷ []) = none
only_cents_read (p ∷ a ∷ b ∷ []) = cents_read 0 p a b
only_cents_read (p ∷ a ∷ b ∷ c ∷ rest) = none

-- the first group's other digits, at most this many, and all behind them
unfoldable pub first_group_read : ℕ → ℕ → List ℕ → Option ℕ
first_group_read zero dollars rest = groups_read dollars rest
first_group_read (suc digits) dollars [] = none
first_group_read (suc digits) dollars (byte ∷ rest) =
    cond (is_digit byte) (first_group_read digits (dollars * 10 + (byte - 48)) rest) (groups_read dollars (byte ∷ rest))

unfoldable pub unsigned_read : List ℕ → Option ℕ
unsigned_read [] = none
unsigned_read (byte ∷ rest) =
    cond (eqb byte 48) (only_cents_read rest) (cond (is_digit byte) (first_group_read 2 (byte - 48) rest) none)

abbrev pub positive : Option ℕ → Option ℤ
positive none = none
positive (some cents) = some (pos cents)

-- a minus stands before no 0
abbrev pub below_zero : Option ℕ → Option ℤ
below_zero none = none
below_zero (some zero) = none
below_zero (some (suc cents)) = some (negsuc cents)

unfoldable pub amount_read : List ℕ → Option ℤ
amount_read [] = none
amount_read (byte ∷ columns) =
    cond (eqb byte 32) (amount_read columns)
    (cond (eqb byte 45) (below_zero (unsigned_read columns)) (positive (unsigned_read (byte ∷ columns))))

-- ---- what is written is in the grammar
first_group_written : (dollars cents : ℕ) (behind : List ℕ) → 0 < dollars → dollars < 1000 → GroupsAfter dollars behind cents
    → UnsignedAmount (first_group dollars behind) cents
first_group_written dollars cents behind some_dollars below groups = by (ltb dollars 10) refl (ltb dollars 100) refl
  where
    after : (value : ℕ) → dollars ≡ value → GroupsAfter value behind cents
    after value e = subst (λ (n : ℕ). GroupsAfter n behind cents) e groups

    by : (one : Bool) → ltb dollars 10 ≡ one → (two : Bool) → ltb dollars 100 ≡ two →
        UnsignedAmount (cond one (digit dollars ∷ behind) (cond two (digit (dollars / 10) ∷ digit dollars ∷ behind) (three_digits_of dollars behind))) cents
    by true e two f =
        let few : dollars < 10 = ltb-true dollars 10 e in
        one_digit (dollars % 10) cents behind (omega arith) (omega arith) (after (dollars % 10) (omega arith))
    by false e true f =
        let many : 10 ≤ dollars = ltb-false dollars 10 e in
        let few : dollars < 100 = ltb-true dollars 100 f in
        two_digits (dollars / 10 % 10) (dollars % 10) cents behind (omega arith) (omega arith) (omega arith) (after _ (omega arith))
    by false e false f =
        let many : 100 ≤ dollars = ltb-false dollars 100 f in
        three_digits (dollars / 100 % 10) (dollars / 10 % 10) (dollars % 10) cents behind (omega arith) (omega arith) (omega arith) (omega arith) (after _ (omega arith))

-- a group of three, and the comma before it
group_written : (dollars cents : ℕ) (behind : List ℕ) → GroupsAfter dollars behind cents → GroupsAfter (dollars / 1000) (44 ∷ three_digits_of dollars behind) cents
group_written dollars cents behind groups =
    comma (dollars / 1000) (dollars / 100 % 10) (dollars / 10 % 10) (dollars % 10) cents behind (omega arith) (omega arith) (omega arith)
    (subst (λ (n : ℕ). GroupsAfter n behind cents) (omega arith) groups)

dollars_written : (commas dollars cents : ℕ) (behind : List ℕ) → 0 < dollars → dollars < 1000 ^ suc commas → GroupsAfter dollars behind cents
    → UnsignedAmount (dollars_text commas dollars behind) cents
dollars_written zero dollars cents behind some_dollars below groups =
    rw (dollars_end zero dollars behind (omega arith)) (first_group_written dollars cents behind some_dollars (omega arith) groups)
dollars_written (suc commas) dollars cents behind some_dollars below groups =
    by (λ p q. dollars_written commas (dollars / 1000) cents (44 ∷ three_digits_of dollars behind) p q (group_written dollars cents behind groups)) (ltb dollars 1000) refl
  where
    by : (0 < dollars / 1000 → dollars / 1000 < 1000 ^ suc commas → UnsignedAmount (dollars_text commas (dollars / 1000) (44 ∷ three_digits_of dollars behind)) cents)
        → (few : Bool) → ltb dollars 1000 ≡ few → UnsignedAmount (dollars_text (suc commas) dollars behind) cents
    by more true e =
        rw (dollars_end (suc commas) dollars behind (ltb-true dollars 1000 e))
        (first_group_written dollars cents behind some_dollars (ltb-true dollars 1000 e) groups)
    by more false e =
        let many : 1000 ≤ dollars = ltb-false dollars 1000 e in
        rw (dollars_more commas dollars behind many) (more (omega arith) (omega (arith, pow-suc 1000 (suc commas))))

cents_written : (cents : ℕ) → cents < 2 ^ 64 → UnsignedAmount (cents_text cents) cents
unfolding dollars_text
cents_written cents below = by (cents / 100) refl
  where
    by : (dollars : ℕ) → cents / 100 ≡ dollars → UnsignedAmount (dollars_text 5 dollars (46 ∷ (48 + cents / 10 % 10) ∷ (48 + cents % 10) ∷ [])) cents
    by zero e =
        subst (UnsignedAmount (48 ∷ 46 ∷ (48 + cents / 10 % 10) ∷ (48 + cents % 10) ∷ [])) (omega arith)
        (lone_zero (cents / 10 % 10) (cents % 10) (omega arith) (omega arith))
    by (suc dollars) e =
        dollars_written 5 (suc dollars) cents _ (omega arith) (omega arith)
        (subst (GroupsAfter (suc dollars) (46 ∷ (48 + cents / 10 % 10) ∷ (48 + cents % 10) ∷ [])) (omega arith)
        (point (suc dollars) (cents / 10 % 10) (cents % 10) (omega arith) (omega arith)))

amount_written : (amount : ℤ) → nat_abs amount < 2 ^ 64 → AmountColumns (amount_text amount) amount
amount_written (pos cents) below = not_negative cents _ (cents_written cents below)
amount_written (negsuc cents) below = negative cents _ (cents_written (suc cents) below)

blanks_written : (blanks : ℕ) {amount : ℤ} {columns : List ℕ} → AmountColumns columns amount → AmountColumns (replicate blanks 32 ++ columns) amount
blanks_written zero written = written
blanks_written (suc blanks) written = blank _ _ (blanks_written blanks written)

-- every amount of 64 bits, in its columns
pub columns_written : (amount : ℤ) → nat_abs amount < 2 ^ 64 → AmountColumns (right_aligned (amount_text amount)) amount
columns_written amount below = blanks_written (31 - length (amount_text amount)) (amount_written amount below)

-- ---- what is in the grammar is read
digit_is : (d : ℕ) → d < 10 → is_digit (48 + d) ≡ true
digit_is d h = ap₂ (λ (s t : Bool). s && t) (le-leb 48 (48 + d) (omega arith)) (lt-ltb (48 + d) 58 (omega arith))

both : {s t : Bool} → s ≡ true → t ≡ true → (s && t) ≡ true
both p q = ap₂ (λ (s t : Bool). s && t) p q

taken : {A : Type 0} {test : Bool} (then else : A) → test ≡ true → cond test then else ≡ then
taken then else e = ap (λ (t : Bool). cond t then else) e

left : {A : Type 0} {test : Bool} (then else : A) → test ≡ false → cond test then else ≡ else
left then else e = ap (λ (t : Bool). cond t then else) e

groups_read_lem : {dollars cents : ℕ} {rest : List ℕ} → GroupsAfter dollars rest cents → groups_read dollars rest ≡ some cents
unfolding groups_read
groups_read_lem (point dollars a b p q) = taken _ _ (both (digit_is a p) (digit_is b q)) ∙ ap some (omega arith)
groups_read_lem (comma dollars a b c cents rest p q r groups) =
    taken _ _ (both (digit_is a p) (both (digit_is b q) (digit_is c r))) ∙ ap (λ (n : ℕ). groups_read n rest) (omega arith) ∙ groups_read_lem groups

-- neither comma nor point is a digit
group_ends : (digits : ℕ) {dollars cents : ℕ} {rest : List ℕ} → GroupsAfter dollars rest cents → first_group_read digits dollars rest ≡ some cents
unfolding first_group_read
group_ends zero groups = groups_read_lem groups
group_ends (suc digits) (point dollars a b p q) = groups_read_lem (point dollars a b p q)
group_ends (suc digits) (comma dollars a b c cents rest p q r groups) = groups_read_lem (comma dollars a b c cents rest p q r groups)

group_goes_on : (digits dollars d : ℕ) (rest : List ℕ) → d < 10 → first_group_read (suc digits) dollars ((48 + d) ∷ rest) ≡ first_group_read digits (dollars * 10 + d) rest
unfolding first_group_read
group_goes_on digits dollars d rest h =
    taken _ _ (digit_is d h) ∙ ap (λ (n : ℕ). first_group_read digits n rest) (omega arith)

group_begins : (d : ℕ) (rest : List ℕ) → 0 < d → d < 10 → unsigned_read ((48 + d) ∷ rest) ≡ first_group_read 2 d rest
unfolding unsigned_read
group_begins d rest some_digit h =
    left _ _ (ne_eqb (48 + d) 48 (λ e. omega arith)) ∙ taken _ _ (digit_is d h) ∙ ap (λ (n : ℕ). first_group_read 2 n rest) (omega arith)

unsigned_read_lem : {cents : ℕ} {columns : List ℕ} → UnsignedAmount columns cents → unsigned_read columns ≡ some cents
unfolding unsigned_read
unsigned_read_lem (lone_zero a b p q) = taken _ _ (both (digit_is a p) (digit_is b q)) ∙ ap some (omega arith)
unsigned_read_lem (one_digit a cents rest s p groups) = group_begins a rest s p ∙ group_ends 2 groups
unsigned_read_lem (two_digits a b cents rest s p q groups) = group_begins a _ s p ∙ group_goes_on 1 a b rest q ∙ group_ends 1 groups
unsigned_read_lem (three_digits a b c cents rest s p q r groups) =
    group_begins a _ s p ∙ group_goes_on 1 a b _ q ∙ group_goes_on 0 (a * 10 + b) c rest r ∙ group_ends 0 groups

-- a digit is neither a blank nor a minus
digit_first : (d : ℕ) (rest : List ℕ) → amount_read ((48 + d) ∷ rest) ≡ positive (unsigned_read ((48 + d) ∷ rest))
unfolding amount_read
digit_first d rest = left _ _ (ne_eqb (48 + d) 32 (λ e. omega arith)) ∙ left _ _ (ne_eqb (48 + d) 45 (λ e. omega arith))

unsigned_first : {cents : ℕ} {columns : List ℕ} → UnsignedAmount columns cents → amount_read columns ≡ positive (unsigned_read columns)
unsigned_first (lone_zero a b p q) = digit_first 0 (46 ∷ (48 + a) ∷ (48 + b) ∷ [])
unsigned_first (one_digit a cents rest s p groups) = digit_first a rest
unsigned_first (two_digits a b cents rest s p q groups) = digit_first a ((48 + b) ∷ rest)
unsigned_first (three_digits a b c cents rest s p q r groups) = digit_first a ((48 + b) ∷ (48 + c) ∷ rest)

pub grammar_read : {amount : ℤ} {columns : List ℕ} → AmountColumns columns amount → amount_read columns ≡ some amount
unfolding amount_read
grammar_read (blank amount columns inner) = grammar_read inner
grammar_read (negative cents columns unsigned) = ap below_zero (unsigned_read_lem unsigned)
grammar_read (not_negative cents columns unsigned) = unsigned_first unsigned ∙ ap positive (unsigned_read_lem unsigned)

-- "in one way only": columns in the grammar have one value
pub one_value : (a b : ℤ) (columns : List ℕ) → AmountColumns columns a → AmountColumns columns b → a ≡ b
one_value a b columns p q = let r = grammar_read p in let s = grammar_read q in cc

-- two different amounts never have the same 31 bytes
pub one_amount : (a b : ℤ) → nat_abs a < 2 ^ 64 → nat_abs b < 2 ^ 64 → right_aligned (amount_text a) ≡ right_aligned (amount_text b) → a ≡ b
one_amount a b p q same =
    one_value a b (right_aligned (amount_text b)) (subst (λ (columns : List ℕ). AmountColumns columns a) same (columns_written a p)) (columns_written b q)

pub only_amount : {amount : ℤ} {columns : List ℕ} → AmountColumns columns amount → OnlyAmount columns amount
only_amount stands = (stands, λ other p. one_value other _ _ p stands)

-- where the reader finds nothing no amount is in the grammar
pub none_found : (texts : List (List ℕ)) → map amount_read texts ≡ replicate (length texts) none →
    (columns : List ℕ) → Memᴰ columns texts → (amount : ℤ) → AmountColumns columns amount → ⊥
none_found [] e columns among = absurd (Memᴰ.not-nil among)
none_found (text ∷ texts) e columns among =
    ⊎_elim
    (λ same amount stands. nothing (sym (grammar_read stands) ∙ ap amount_read same ∙ ap first e))
    (none_found texts (ap rest e) columns)
    (Memᴰ.cases_cons among)
  where
    first : List (Option ℤ) → Option ℤ
    first found = get_or found 0 none

    rest : List (Option ℤ) → List (Option ℤ)
    rest found = drop 1 found

    nothing : {amount : ℤ} → some amount ≡ none → ⊥
    nothing e = impossible cc

-- ---- no byte of an amount ends a line
groups_no_end : {dollars cents : ℕ} {rest : List ℕ} → GroupsAfter dollars rest cents → (k : ℕ) → get_or rest k 0 ≡ 10 → ⊥
groups_no_end (point dollars a b p q) zero e = omega arith
groups_no_end (point dollars a b p q) (suc zero) e = omega arith
groups_no_end (point dollars a b p q) (suc (suc zero)) e = omega arith
groups_no_end (point dollars a b p q) (suc (suc (suc k))) e = omega arith
groups_no_end (comma dollars a b c cents rest p q r groups) zero e = omega arith
groups_no_end (comma dollars a b c cents rest p q r groups) (suc zero) e = omega arith
groups_no_end (comma dollars a b c cents rest p q r groups) (suc (suc zero)) e = omega arith
groups_no_end (comma dollars a b c cents rest p q r groups) (suc (suc (suc zero))) e = omega arith
groups_no_end (comma dollars a b c cents rest p q r groups) (suc (suc (suc (suc k)))) e = groups_no_end groups k e

unsigned_no_end : {cents : ℕ} {columns : List ℕ} → UnsignedAmount columns cents → (k : ℕ) → get_or columns k 0 ≡ 10 → ⊥
unsigned_no_end (lone_zero a b p q) zero e = omega arith
unsigned_no_end (lone_zero a b p q) (suc k) e = groups_no_end (point 0 a b p q) k e
unsigned_no_end (one_digit a cents rest s p groups) zero e = omega arith
unsigned_no_end (one_digit a cents rest s p groups) (suc k) e = groups_no_end groups k e
unsigned_no_end (two_digits a b cents rest s p q groups) zero e = omega arith
unsigned_no_end (two_digits a b cents rest s p q groups) (suc zero) e = omega arith
unsigned_no_end (two_digits a b cents rest s p q groups) (suc (suc k)) e = groups_no_end groups k e
unsigned_no_end (three_digits a b c cents rest s p q r groups) zero e = omega arith
unsigned_no_end (three_digits a b c cents rest s p q r groups) (suc zero) e = omega arith
unsigned_no_end (three_digits a b c cents rest s p q r groups) (suc (suc zero)) e = omega arith
unsigned_no_end (three_digits a b c cents rest s p q r groups) (suc (suc (suc k))) e = groups_no_end groups k e

pub amount_no_end : {amount : ℤ} {columns : List ℕ} → AmountColumns columns amount → (k : ℕ) → get_or columns k 0 ≡ 10 → ⊥
amount_no_end (not_negative cents columns unsigned) k e = unsigned_no_end unsigned k e
amount_no_end (negative cents columns unsigned) zero e = omega arith
amount_no_end (negative cents columns unsigned) (suc k) e = unsigned_no_end unsigned k e
amount_no_end (blank amount columns inner) zero e = omega arith
amount_no_end (blank amount columns inner) (suc k) e = amount_no_end inner k e
