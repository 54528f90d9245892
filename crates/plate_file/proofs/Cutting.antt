-- A line is its first field and the others.
use Rattle.std.proofs.Common.{◌≡◌, ℕ, ◌+◌, ◌<◌, Bool, true, false, cond, not, ◌&&◌, ◌||◌, eqb, List, [], ◌∷◌, length, take, drop, sym, refl, ap, ◌∙◌, one-add, arith}
use Rattle.std.specs.List.{prefix_len}
use Rattle.plate_file.specs.declared.reader.Run.{Run}
use Rattle.plate_file.specs.declared.reader.Run.TheVariants.{Blanks, Field}
use Rattle.plate_file.specs.Reading.{in_run, front, past, field_in, after_field}
use Rattle.plate_file.specs.Fields.{goes_on, fields_of, on_first}

-- a byte of the sort stands first
front-more : (run : Run) (b : ℕ) (bs : List ℕ) → in_run run b ≡ true → front run (b ∷ bs) ≡ b ∷ front run bs
front-more run b bs e = ap (λ t. take (cond t (1 + prefix_len (in_run run) bs) 0) (b ∷ bs)) e ∙ ap (λ n. take n (b ∷ bs)) (one-add (prefix_len (in_run run) bs))

past_more : (run : Run) (b : ℕ) (bs : List ℕ) → in_run run b ≡ true → past run (b ∷ bs) ≡ past run bs
past_more run b bs e = ap (λ t. drop (cond t (1 + prefix_len (in_run run) bs) 0) (b ∷ bs)) e ∙ ap (λ n. drop n (b ∷ bs)) (one-add (prefix_len (in_run run) bs))

-- another byte stands first
front-none : (run : Run) (b : ℕ) (bs : List ℕ) → in_run run b ≡ false → front run (b ∷ bs) ≡ []
front-none run b bs e = ap (λ t. take (cond t (1 + prefix_len (in_run run) bs) 0) (b ∷ bs)) e

past-none : (run : Run) (b : ℕ) (bs : List ℕ) → in_run run b ≡ false → past run (b ∷ bs) ≡ b ∷ bs
past-none run b bs e = ap (λ t. drop (cond t (1 + prefix_len (in_run run) bs) 0) (b ∷ bs)) e

-- a field, and the fields behind it
abbrev with_field : List ℕ → List ℕ → List (List ℕ)
with_field [] rest = []
with_field (b ∷ field) rest = (b ∷ field) ∷ fields_of rest

-- what a field goes on with is no blank
no_blank : (b : ℕ) → in_run Field b ≡ true → in_run Blanks b ≡ false
no_blank b e = at (eqb b 32) (eqb b 9) (eqb b 10) e
  where
    at : (x y z : Bool) → (not x && not y && not z) ≡ true → (x || y) ≡ false
    at false false z e = refl
    at false true z e = cc
    at true y z e = cc

-- the fields of a line by its first byte
abbrev by_first : ℕ → List ℕ → Bool → Bool → List (List ℕ)
by_first b bs blank field = cond blank (fields_of bs) (cond field (cond (goes_on bs) (on_first b (fields_of bs)) ((b ∷ []) ∷ fields_of bs)) [])

fields_step : (bs : List ℕ) → fields_of bs ≡ with_field (field_in bs) (after_field bs)
fields_step [] = refl
fields_step (b ∷ bs) = at (in_run Blanks b) refl (in_run Field b) refl (fields_step bs)
  where
    within : (bs : List ℕ) → fields_of bs ≡ with_field (field_in bs) (after_field bs) → cond (goes_on bs) (on_first b (fields_of bs)) ((b ∷ []) ∷ fields_of bs) ≡ (b ∷ front Field bs) ∷ fields_of (past Field bs)
    within [] more = refl
    within (x ∷ bs) more = by (in_run Field x) refl
      where
        by : (t : Bool) → in_run Field x ≡ t → cond (in_run Field x) (on_first b (fields_of (x ∷ bs))) ((b ∷ []) ∷ fields_of (x ∷ bs)) ≡ (b ∷ front Field (x ∷ bs)) ∷ fields_of (past Field (x ∷ bs))
        by false e =
            ap (λ t. cond t (on_first b (fields_of (x ∷ bs))) ((b ∷ []) ∷ fields_of (x ∷ bs))) e
            ∙ (λ i. (b ∷ sym (front-none Field x bs e) i) ∷ fields_of (sym (past-none Field x bs e) i))
        by true e =
            let none = past-none Blanks x bs (no_blank x e) in
            ap (λ t. cond t (on_first b (fields_of (x ∷ bs))) ((b ∷ []) ∷ fields_of (x ∷ bs))) e
            ∙ ap (on_first b) (more ∙ (λ i. with_field (front Field (none i)) (past Field (none i))) ∙ ap (λ f. with_field f (past Field (x ∷ bs))) (front-more Field x bs e))
            ∙ (λ i. (b ∷ sym (front-more Field x bs e) i) ∷ fields_of (past Field (x ∷ bs)))

    at : (t : Bool) → in_run Blanks b ≡ t → (u : Bool) → in_run Field b ≡ u → fields_of bs ≡ with_field (field_in bs) (after_field bs) → fields_of (b ∷ bs) ≡ with_field (field_in (b ∷ bs)) (after_field (b ∷ bs))
    at true e u f more =
        ap (λ t. by_first b bs t (in_run Field b)) e ∙ more
        ∙ (λ i. with_field (front Field (sym (past_more Blanks b bs e) i)) (past Field (sym (past_more Blanks b bs e) i)))
    at false e true f more =
        (λ i. by_first b bs (e i) (f i)) ∙ within bs more
        ∙ (λ i. with_field (sym (front-more Field b bs f) i) (sym (past_more Field b bs f) i))
        ∙ (λ i. with_field (front Field (sym (past-none Blanks b bs e) i)) (past Field (sym (past-none Blanks b bs e) i)))
    at false e false f more =
        (λ i. by_first b bs (e i) (f i))
        ∙ (λ i. with_field (sym (front-none Field b bs f) i) (past Field (b ∷ bs)))
        ∙ (λ i. with_field (front Field (sym (past-none Blanks b bs e) i)) (past Field (sym (past-none Blanks b bs e) i)))

pub no_fields : (bs : List ℕ) → length (field_in bs) ≡ 0 → fields_of bs ≡ []
no_fields bs e = fields_step bs ∙ at (field_in bs) e
  where
    at : (field : List ℕ) → length field ≡ 0 → with_field field (after_field bs) ≡ []
    at [] e = refl
    at (b ∷ field) e = absurd (omega arith)

pub first_field : (bs : List ℕ) → 0 < length (field_in bs) → fields_of bs ≡ field_in bs ∷ fields_of (after_field bs)
first_field bs h = fields_step bs ∙ at (field_in bs) h
  where
    at : (field : List ℕ) → 0 < length field → with_field field (after_field bs) ≡ field ∷ fields_of (after_field bs)
    at [] h = absurd (omega arith)
    at (b ∷ field) h = refl
