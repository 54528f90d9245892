-- What digits write: one digit more, and numbers of fewer bits.
use Rattle.std.proofs.Common.{◌≡◌, ℕ, zero, suc, ◌+◌, ◌-◌, ◌*◌, ◌<◌, ◌≤◌, Bool, true, false, cond, not, ◌&&◌, eqb, leb, List, [], ◌∷◌, length, get_or, take, Ok, Err, fold, Result, sym, refl, ap, ◌∙◌, subst, arith, Decides}
use Rattle.std.specs.List.{prefix_len}
use Rattle.std.proofs.lemmas.List.Sums.{fold_more, prefix_len_is, prefix_len_passes}
use Rattle.std.proofs.lemmas.Bool.{and_parts, eqb-true, eq-eqb, ne_eqb, leb-true, leb-false, le-leb, lt-leb}
use Rattle.plate_file.specs.declared.reader.Run.TheVariants.{Digits}
use Rattle.plate_file.specs.declared.numbers.NumberFault.{NumberFault}
use Rattle.plate_file.specs.declared.numbers.NumberFault.TheVariants.{NotANumber, OutOfRange}
use Rattle.plate_file.specs.Reading.{in_run}
use Rattle.plate_file.specs.Decimal.{Numeral, Reads, is_numeral, value, number_in}

abbrev after : ℕ → List ℕ → ℕ
after n bs = fold (λ sum byte. sum * 10 + (byte - 48)) n bs

after-ge : (n : ℕ) (bs : List ℕ) → n ≤ after n bs
after-ge n [] = omega arith
after-ge n (b ∷ bs) = omega (arith, after-ge (n * 10 + (b - 48)) bs)

after-take : (n : ℕ) (bs : List ℕ) (k : ℕ) → after n (take k bs) ≤ after n bs
after-take n bs zero = after-ge n bs
after-take n [] (suc k) = omega arith
after-take n (b ∷ bs) (suc k) = after-take (n * 10 + (b - 48)) bs k

pub value-take : (bs : List ℕ) (k : ℕ) → value (take k bs) ≤ value bs
value-take bs k = after-take 0 bs k

pub value-more : (bs : List ℕ) (i : ℕ) → i < length bs → value (take (i + 1) bs) ≡ value (take i bs) * 10 + (get_or bs i 0 - 48)
value-more bs i h = fold_more (λ sum byte. sum * 10 + (byte - 48)) 0 bs i 0 h

digit : (bs : List ℕ) (k : ℕ) → prefix_len (in_run Digits) bs ≡ length bs → k < length bs → in_run Digits (get_or bs k 0) ≡ true
digit bs k whole h = prefix_len_passes (in_run Digits) bs k 0 (omega arith)

digits : (bs : List ℕ) → is_numeral bs ≡ true → Numeral bs
digits bs e =
    let whole = eqb-true _ _ (and_parts _ _ e).1 in (
      some bs (and_parts _ _ e).0,
      λ k h. let both = and_parts _ _ (digit bs k whole h) in (leb-true 48 _ both.0, leb-true _ 57 both.1),
    )
  where
    some : (bs : List ℕ) → not (eqb (length bs) 0) ≡ true → 0 < length bs
    some [] e = cc
    some (b ∷ bs) e = omega arith

tested : (bs : List ℕ) → Numeral bs → is_numeral bs ≡ true
tested bs n =
    let some : eqb (length bs) 0 ≡ false = ne_eqb (length bs) 0 (λ e. omega (arith, n.0)) in
    let whole : prefix_len (in_run Digits) bs ≡ length bs =
    prefix_len_is (in_run Digits) bs (length bs) 0 (omega arith)
    (λ k h. (λ i. le-leb 48 (get_or bs k 0) (n.1 k h).0 i && le-leb (get_or bs k 0) 57 (n.1 k h).1 i))
    (λ h. absurd (omega arith))
    in
    λ i. not (some i) && eq-eqb (prefix_len (in_run Digits) bs) (length bs) whole i

-- the test is the one of the definition
pub Decides-is_numeral : (bs : List ℕ) → Decides (is_numeral bs) (Numeral bs)
Decides-is_numeral bs = (digits bs, tested bs)

-- what is computed is what `Reads` says
pub number_reads : {N : Type 0} (worth : ℕ → N) (most : ℕ) (bs : List ℕ) → Reads worth most bs (number_in worth most bs)
number_reads worth most bs = at (is_numeral bs) refl (leb (value bs) most) refl
  where
    at : (t : Bool) → is_numeral bs ≡ t → (u : Bool) → leb (value bs) most ≡ u → Reads worth most bs (cond t (cond u (Ok (worth (value bs))) (Err OutOfRange)) (Err NotANumber))
    at true e true h = (digits bs e, leb-true _ _ h, refl)
    at true e false h = (digits bs e, leb-false _ _ h)
    at false e u h = λ n. cc (sym e ∙ tested bs n)

pub reads_from : {N : Type 0} (worth : ℕ → N) (most : ℕ) (bs : List ℕ) (r : Result N NumberFault) → r ≡ number_in worth most bs → Reads worth most bs r
reads_from worth most bs r e = subst (Reads worth most bs) (sym e) (number_reads worth most bs)

module _ {N : Type 0} (worth : ℕ → N) (most : ℕ) where
  abbrev reading : Bool → ℕ → Result N NumberFault
  reading t v = cond t (cond (leb v most) (Ok (worth v)) (Err OutOfRange)) (Err NotANumber)

  pub too_large : (bs : List ℕ) → is_numeral bs ≡ true → most < value bs → Err OutOfRange ≡ number_in worth most bs
  too_large bs e h = sym (ap (λ t. reading t (value bs)) e ∙ ap (λ t. cond t (Ok (worth (value bs))) (Err OutOfRange)) (lt-leb (value bs) most h))
