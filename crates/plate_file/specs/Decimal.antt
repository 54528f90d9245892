-- What decimal digits write.
use Rattle.std.specs.Prelude.{◌≡◌, ℕ, ◌+◌, ◌-◌, ◌*◌, ◌^◌, ◌<◌, ◌≤◌, Bool, cond, not, ◌&&◌, List, length, drop, ℤ, pos, neg_ℤ, Ok, Err, MatchBool, fold, Result, ◌==◌, nat_le, slice_index}
use Rattle.std.specs.List.{prefix_len}
use Rattle.plate_file.specs.declared.numbers.NumberFault.{NumberFault}
use Rattle.plate_file.specs.declared.numbers.NumberFault.TheVariants.{NotANumber, OutOfRange}
use Rattle.plate_file.specs.declared.reader.Run.TheVariants.{Digits}
use Rattle.plate_file.specs.Reading.{in_run}

-- one digit or more, and nothing else
abbrev pub Numeral : List ℕ → Type 0
Numeral bs = (0 < length bs) × ((k : ℕ) → k < length bs → (48 ≤ slice_index bs k) × (slice_index bs k ≤ 57))

-- the number that digits write: each is worth ten times the next
abbrev pub value : List ℕ → ℕ
value bs = fold (λ sum byte. sum * 10 + (byte - 48)) 0 bs

-- what reading digits gives: the number that `worth` makes of their value, which is at most `most`
abbrev pub Reads : {N : Type 0} → (ℕ → N) → ℕ → List ℕ → Result N NumberFault → Type 0
Reads worth most bs (Ok n) = Numeral bs × (value bs ≤ most) × (n ≡ worth (value bs))
Reads worth most bs (Err NotANumber) = Numeral bs → ⊥
Reads worth most bs (Err OutOfRange) = Numeral bs × (most < value bs)

-- 64 bits
abbrev pub Unsigned : List ℕ → Result ℕ NumberFault → Type 0
Unsigned bs r = Reads (λ n. n) (2 ^ 64 - 1) bs r

-- 32 bits, without a minus sign
abbrev pub Positive : List ℕ → Result ℤ NumberFault → Type 0
Positive bs r = Reads pos (2 ^ 31 - 1) bs r

-- 32 bits, what follows a minus sign
abbrev pub Negative : List ℕ → Result ℤ NumberFault → Type 0
Negative bs r = Reads (λ n. neg_ℤ (pos n)) (2 ^ 31) bs r

-- 32 bits, with a minus sign (byte 45) in front of the digits where the number is below 0
abbrev pub Signed : List ℕ → Result ℤ NumberFault → Type 0
Signed bs r = MatchBool (slice_index bs 0 == 45) (Negative (drop 1 bs) r) (Positive bs r)

-- the same as a test
abbrev pub is_numeral : List ℕ → Bool
is_numeral bs = not (length bs == 0) && prefix_len (in_run Digits) bs == length bs

-- the only answer of which `Reads` holds
abbrev pub number_in : {N : Type 0} → (ℕ → N) → ℕ → List ℕ → Result N NumberFault
number_in worth most bs = cond (is_numeral bs) (cond (nat_le (value bs) most) (Ok (worth (value bs))) (Err OutOfRange)) (Err NotANumber)

-- of which `Unsigned` holds
abbrev pub unsigned_in : List ℕ → Result ℕ NumberFault
unsigned_in bs = number_in (λ n. n) 0xffff_ffff_ffff_ffff bs

-- of which `Positive` holds
abbrev pub positive_in : List ℕ → Result ℤ NumberFault
positive_in bs = number_in pos 0x7fff_ffff bs

-- of which `Negative` holds
abbrev pub negative_in : List ℕ → Result ℤ NumberFault
negative_in bs = number_in (λ n. neg_ℤ (pos n)) 0x8000_0000 bs

-- of which `Signed` holds
abbrev pub signed_in : List ℕ → Result ℤ NumberFault
signed_in bs = cond (slice_index bs 0 == 45) (negative_in (drop 1 bs)) (positive_in bs)
