-- The words of terms, one term after another.
use Rattle.std.proofs.Common.{◌≡◌, ℕ, ◌+◌, ◌<◌, ◌≤◌, ◌^◌, List, [], ◌∷◌, ◌++◌, length, get_or, refl, sym, ◌∙◌, ap, arith, append_assoc}
use Rattle.std.specs.List.{All}
use Rattle.std.proofs.lemmas.Grind.{flat_map-append}
use Rattle.std.proofs.lemmas.List.Elements.{All-head, All-tail, All-nil, All-cons}
use Rattle.bt_frac.specs.Columns.{AreColumnsFrom}
use Rattle.bt_frac.specs.Rows.{columns_of}
use Rattle.bt_extend.specs.Forms.{FormParts, IsForm}
use Rattle.bt_frac.specs.Ratio.{Ratio}
use Rattle.bt_extend.specs.declared.item.Nonzero.{Nonzero}
use Rattle.bt_extend.specs.inner.Told.{TellNoTerms, number_of, words_of}

abbrev pub IsPlaced : ℕ × Ratio → Type 0
IsPlaced t = t.0 < 2 ^ 64

-- one term more
pub words_push : (words rest after : List Nonzero) (terms : List (ℕ × Ratio)) (coefficient number : Nonzero) (column : ℕ) → words ≡ words_of terms ++ rest
    → rest ≡ coefficient ∷ number ∷ after → number.fraction ≡ number_of column → words ≡ words_of (terms ++ (column, coefficient.fraction) ∷ []) ++ after
words_push words rest after terms coefficient number column is front placed =
    let mk : Ratio → Nonzero = λ r. record { fraction = r } in
    let named : number ≡ mk (number_of column) = ap mk placed in
    let pushed : words_of (terms ++ (column, coefficient.fraction) ∷ []) ≡ words_of terms ++ coefficient ∷ mk (number_of column) ∷ [] =
    flat_map-append (λ t. mk t.1 ∷ mk (number_of t.0) ∷ []) terms ((column, coefficient.fraction) ∷ []) in
    is ∙ ap (λ r. words_of terms ++ r) (front ∙ ap (λ n. coefficient ∷ n ∷ after) named)
    ∙ sym (append_assoc (words_of terms) (coefficient ∷ mk (number_of column) ∷ []) after) ∙ ap (λ w. w ++ after) (sym pushed)

after_terms : (terms us : List (ℕ × Ratio)) (rest : List Nonzero) → All IsPlaced us → words_of terms ++ rest ≡ words_of us
    → (vs : List (ℕ × Ratio)) × All IsPlaced vs × (rest ≡ words_of vs)
after_terms [] us rest all e = (us, all, e)
after_terms (t ∷ terms) [] rest all e = absurd cc
after_terms (t ∷ terms) (u ∷ us) rest all e =
    let tails : words_of terms ++ rest ≡ words_of us = cc in after_terms terms us rest (All-tail IsPlaced u us all) tails

no_number_of : (coefficient number : Nonzero) (after : List Nonzero) (vs : List (ℕ × Ratio)) → All IsPlaced vs → coefficient ∷ number ∷ after ≡ words_of vs
    → ((place : ℕ) → place < 2 ^ 64 → number.fraction ≡ number_of place → ⊥) → ⊥
no_number_of coefficient number after [] all e none = absurd cc
no_number_of coefficient number after (v ∷ vs) all e none =
    let mk : Ratio → Nonzero = λ r. record { fraction = r } in
    let second : number ≡ mk (number_of v.0) = cc in
    none v.0 (All-head IsPlaced v vs all) (ap (λ (n : Nonzero). n.fraction) second)

-- a word that is no number of a column
pub no_number : (words rest after : List Nonzero) (terms : List (ℕ × Ratio)) (coefficient number : Nonzero) → words ≡ words_of terms ++ rest
    → rest ≡ coefficient ∷ number ∷ after → ((place : ℕ) → place < 2 ^ 64 → number.fraction ≡ number_of place → ⊥) → TellNoTerms words
no_number words rest after terms coefficient number is front none us all e =
    let found = after_terms terms us rest all (sym is ∙ e) in no_number_of coefficient number after found.0 found.1 (sym front ∙ found.2) none

-- the same of the second of the words that are left
pub no_number_at : (words rest : List Nonzero) (terms : List (ℕ × Ratio)) (number d : Nonzero) → words ≡ words_of terms ++ rest → 2 ≤ length rest → number ≡ get_or rest 1 d
    → ((place : ℕ) → place < 2 ^ 64 → number.fraction ≡ number_of place → ⊥) → TellNoTerms words
no_number_at words [] terms number d is long at none = absurd (omega (arith, long))
no_number_at words (w ∷ []) terms number d is long at none = absurd (omega (arith, long))
no_number_at words (w ∷ n ∷ after) terms number d is long at none =
    no_number words (w ∷ number ∷ after) after terms w number (is ∙ ap (λ x. words_of terms ++ w ∷ x ∷ after) (sym at)) refl none

odd_word : (rest : List Nonzero) (vs : List (ℕ × Ratio)) → length rest < 2 → (length rest ≡ 0 → ⊥) → rest ≡ words_of vs → ⊥
odd_word rest [] few some e = some (ap length e)
odd_word rest (v ∷ vs) few some e = let long : length rest ≡ length (words_of (v ∷ vs)) = ap length e in omega (arith, long, few)

-- a word too many
pub no_pair : (words rest : List Nonzero) (terms : List (ℕ × Ratio)) → words ≡ words_of terms ++ rest → length rest < 2 → (length rest ≡ 0 → ⊥) → TellNoTerms words
no_pair words rest terms is few some us all e =
    let found = after_terms terms us rest all (sym is ∙ e) in odd_word rest found.0 few some found.2

placed_from : (least : ℕ) (terms : List (ℕ × Ratio)) → AreColumnsFrom least (columns_of terms) → All IsPlaced terms
placed_from least [] are = All-nil IsPlaced
placed_from least (t ∷ terms) are = All-cons IsPlaced t terms (let b = are.1 in omega (arith, b)) (placed_from (t.0 + 1) terms are.2)

-- the columns of a form have places
pub columns_placed : (form : FormParts) → IsForm form → All IsPlaced form.terms
columns_placed form is = placed_from 0 form.terms is.columns
