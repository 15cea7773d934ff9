-- The text of a form: what is read of it, and that it is of one form.
use Rattle.std.proofs.Common.{◌≡◌, ◌≢◌, ℕ, ◌+◌, ◌<◌, ◌^◌, ℤ, pos, of_z, to_z, List, [], ◌∷◌, ◌++◌, Option, Some, None, refl, sym, ◌∙◌, ap, subst, arith, append_assoc}
use Rattle.std.specs.Fmt.{decimal}
use Rattle.std.specs.List.{All}
use Rattle.std.proofs.lemmas.Int.{ints}
use Rattle.std.proofs.lemmas.Fmt.{decimal_digit}
use Rattle.std.proofs.lemmas.List.Elements.{All-nil, All-cons, All-head, All-tail}
use Rattle.bt_text.specs.Pieces.{BeginsWith}
use Rattle.bt_text.proofs.Pieces.{piece_is}
use Rattle.bt_frac.specs.Columns.{AreColumnsFrom}
use Rattle.bt_frac.specs.Ratio.{Ratio, IsLowest}
use Rattle.bt_frac.specs.Rows.{columns_of}
use Rattle.bt_frac.specs.Texts.{frac_text}
use Rattle.std.specs.Int.{w128}
use Rattle.bt_frac.proofs.Gcds.{whole_lowest}
use Rattle.bt_frac.proofs.Passing.{passed}
use Rattle.bt_frac.proofs.Words.{frac_text_same}
use Rattle.bt_log.specs.LogText.{words}
use Rattle.bt_extend.specs.Forms.{FormParts, IsForm, IsFormOf}
use Rattle.bt_extend.specs.Items.{LeadsToItem, LeadsToNone, HaveNoSpace, StopsAfter}
use Rattle.bt_extend.specs.Texts.{term_text, form_text}
use Rattle.bt_extend.specs.declared.item.Nonzero.{Nonzero}
use Rattle.bt_extend.specs.inner.Told.{IsNonzero, nonzero_text, number_of, words_of, TellForm, BeginsWithForm, BeginsWithNoForm}
use Rattle.bt_extend.proofs.ItemLists.{words_begin, words_same, map_same, stops_at}
use Rattle.bt_extend.proofs.NoItems.{fracs_have_no_space, zero_begins, zero_is_none}

-- ---- words of terms

nonzero : Ratio → Nonzero
nonzero r = record { fraction = r }

terms_text : (terms : List (ℕ × Ratio)) → words term_text terms ≡ words nonzero_text (words_of terms)
terms_text [] = refl
terms_text (t ∷ terms) =
    ap (λ rest. (32 ∷ term_text t) ++ rest) (terms_text terms)
    ∙ append_assoc (32 ∷ frac_text t.1) (32 ∷ decimal (t.0 + 1)) (words nonzero_text (words_of terms))

-- a form, as the words that are read of it
pub form_words : (form : FormParts) (rest : List ℕ)
    → form_text form ++ rest ≡ 32 ∷ (frac_text form.constant ++ (words nonzero_text (words_of form.terms) ++ 32 ∷ 48 ∷ rest))
form_words form rest =
    let terms = words term_text form.terms in
    ap (λ t. 32 ∷ t) (append_assoc (frac_text form.constant) (terms ++ 32 ∷ 48 ∷ []) rest
    ∙ ap (λ t. frac_text form.constant ++ t) (append_assoc terms (32 ∷ 48 ∷ []) rest ∙ ap (λ w. w ++ 32 ∷ 48 ∷ rest) (terms_text form.terms)))

number_lowest : (place : ℕ) → place < 2 ^ 64 → IsLowest (number_of place)
number_lowest place l = whole_lowest (pos (place + 1)) (omega (arith, ints, l))

number_nonzero : (place : ℕ) → pos (place + 1) ≡ pos 0 → ⊥
number_nonzero place e = omega (arith, ints, e)

-- the words of a form's terms may stand in a list
words_stand : (least : ℕ) (terms : List (ℕ × Ratio)) → AreColumnsFrom least (columns_of terms) → All (λ t. t.1.over ≡ pos 0 → ⊥) terms → All (λ t. IsLowest t.1) terms
    → All IsNonzero (words_of terms)
words_stand least [] are some low = All-nil IsNonzero
words_stand least (t ∷ terms) are some low =
    All-cons IsNonzero (record { fraction = t.1 }) (record { fraction = number_of t.0 } ∷ words_of terms)
    (All-head (λ u. IsLowest u.1) t terms low, All-head (λ u. u.1.over ≡ pos 0 → ⊥) t terms some)
    (All-cons IsNonzero (record { fraction = number_of t.0 }) (words_of terms)
    (number_lowest t.0 (let b = are.1 in omega (arith, b)), number_nonzero t.0)
    (words_stand (t.0 + 1) terms are.2 (All-tail (λ u. u.1.over ≡ pos 0 → ⊥) t terms some) (All-tail (λ u. IsLowest u.1) t terms low)))

pub form_stands : (form : FormParts) → IsForm form → All IsNonzero (words_of form.terms)
form_stands form is = words_stand 0 form.terms is.columns is.nonzero is.coefficients

nonzero_no_space : HaveNoSpace IsNonzero nonzero_text
nonzero_no_space n stands = fracs_have_no_space n.fraction stands.0

nonzero_same : (a b : Nonzero) → IsNonzero a → IsNonzero b → nonzero_text a ≡ nonzero_text b → a ≡ b
nonzero_same a b p q e = ap (λ r. record { fraction = r }) (frac_text_same a.fraction b.fraction p.0 q.0 e)

zero_lowest : IsLowest (record { over = pos 0; under = 1 })
zero_lowest = whole_lowest (pos 0) (omega (arith, ints))

not_zero_word : (n : Nonzero) → IsNonzero n → nonzero_text n ≡ 48 ∷ [] → ⊥
not_zero_word n stands e =
    let zero : Ratio = record { over = pos 0; under = 1 } in
    let zero_word : frac_text zero ≡ 48 ∷ [] = decimal_digit 0 (omega arith) in
    stands.1 (ap (λ (r : Ratio). r.over) (frac_text_same n.fraction zero stands.0 zero_lowest (e ∙ sym zero_word)))

-- a text that spells no fraction, or 0, spells none but 0
pub no_nonzero : (bytes : List ℕ) → ((r : Ratio) → IsLowest r → bytes ≢ frac_text r) → (n : Nonzero) → IsNonzero n → bytes ≡ nonzero_text n → ⊥
no_nonzero bytes none n stands e = none n.fraction stands.0 e

pub zero_read : (bytes : List ℕ) (r : Ratio) (over : ℤ) → IsLowest r → bytes ≡ frac_text r → over ≡ r.over → of_z w128 over ≡ 0 → (n : Nonzero) → IsNonzero n
    → bytes ≡ nonzero_text n → ⊥
zero_read bytes r over low is value none n stands e =
    let zero : r.over ≡ pos 0 = sym (passed r.over low.over_fits) ∙ ap (λ z. to_z w128 (of_z w128 z)) (sym value) ∙ ap (to_z w128) none in
    let same : r ≡ n.fraction = frac_text_same r n.fraction low stands.0 (sym is ∙ e) in
    stands.1 (ap (λ (q : Ratio). q.over) (sym same) ∙ zero)

none_at_zero : (rest : List ℕ) → BeginsWith 32 rest → LeadsToNone IsNonzero nonzero_text (32 ∷ 48 ∷ rest)
none_at_zero rest begins = zero_is_none IsNonzero nonzero_text not_zero_word rest begins

-- terms are told by their words
words_tell : (xs ys : List (ℕ × Ratio)) → words_of xs ≡ words_of ys → xs ≡ ys
words_tell [] [] e = refl
words_tell [] (y ∷ ys) e = cc
words_tell (x ∷ xs) [] e = cc
words_tell (x ∷ xs) (y ∷ ys) e =
    let first : nonzero_of x.1 ≡ nonzero_of y.1 = cc in
    let second : nonzero_of (number_of x.0) ≡ nonzero_of (number_of y.0) = cc in
    let rest : words_of xs ≡ words_of ys = cc in
    let coefficient : x.1 ≡ y.1 = ap (λ (n : Nonzero). n.fraction) first in
    let number : pos (x.0 + 1) ≡ pos (y.0 + 1) = ap (λ (n : Nonzero). n.fraction.over) second in
    let column : x.0 ≡ y.0 = omega (arith, ints, number) in
    ap (λ c. (c, x.1) ∷ xs) column ∙ ap (λ r. (y.0, r) ∷ xs) coefficient ∙ ap (λ ts. y ∷ ts) (words_tell xs ys rest)
  where
    nonzero_of : Ratio → Nonzero
    nonzero_of r = record { fraction = r }

-- ---- what is read of a text that begins with a form

module _ (text rest : List ℕ) (form : FormParts) (spelled : BeginsWithForm text form rest) where
  abbrev pub after_number : List ℕ
  after_number = words nonzero_text (words_of form.terms) ++ 32 ∷ 48 ∷ rest

  -- the number comes next
  pub leads_to_number : LeadsToItem IsLowest frac_text text form.constant after_number
  leads_to_number = (
    spelled.is_form.constant,
    record {
      lacks = fracs_have_no_space form.constant spelled.is_form.constant;
      text_is = spelled.text_is ∙ form_words form rest;
      begins = words_begin nonzero_text (words_of form.terms) (32 ∷ 48 ∷ rest) (zero_begins rest);
    },
  )

  module _ (number : Ratio) (behind : List ℕ) (leads : LeadsToItem IsLowest frac_text text number behind) where
    pieces : (frac_text number ≡ frac_text form.constant) × (behind ≡ after_number)
    pieces =
        let ours = leads.1.text_is in
        let theirs = leads_to_number.1.text_is in
        let same : frac_text number ++ behind ≡ frac_text form.constant ++ after_number = cc in
        piece_is 32 (frac_text number) behind (frac_text form.constant) after_number leads.1.lacks leads_to_number.1.lacks leads.1.begins leads_to_number.1.begins same

    pub same_number : form.constant ≡ number
    same_number = sym (frac_text_same number form.constant leads.0 spelled.is_form.constant pieces.0)

    module _ (told : List Nonzero) (after : List ℕ) (stand : All IsNonzero told) (stops : StopsAfter IsNonzero nonzero_text behind told after) where
      behind_is : behind ≡ words nonzero_text (words_of form.terms) ++ 32 ∷ 48 ∷ rest
      behind_is = pieces.1

      -- then 0 and the rest follow its terms
      pub same_after : after ≡ 32 ∷ 48 ∷ rest
      same_after =
          stops_at IsNonzero nonzero_text nonzero_no_space behind told (words_of form.terms) after (32 ∷ 48 ∷ rest) stand stops (form_stands form spelled.is_form) (zero_begins rest)
          (none_at_zero rest spelled.begins) behind_is

      pub same_words : told ≡ words_of form.terms
      same_words =
          let begins : BeginsWith 32 after = subst (BeginsWith 32) (sym same_after) (zero_begins rest) in
          let both = words_same IsNonzero nonzero_text nonzero_no_space told (words_of form.terms) after (32 ∷ 48 ∷ rest) stand (form_stands form spelled.is_form) begins (zero_begins rest) stops.no_more
          (none_at_zero rest spelled.begins) (sym stops.text_is ∙ behind_is) in
          map_same IsNonzero nonzero_text nonzero_same told (words_of form.terms) stand (form_stands form spelled.is_form) both.0

-- a text that is read as a number, terms, 0 and a rest begins with their form
pub form_read : (text behind after rest : List ℕ) (number : Ratio) (told : List Nonzero) (form : FormParts) → LeadsToItem IsLowest frac_text text number behind
    → StopsAfter IsNonzero nonzero_text behind told after → after ≡ 32 ∷ 48 ∷ rest → BeginsWith 32 rest → TellForm number told (Some form) → BeginsWithForm text form rest
form_read text behind after rest number told form leads stops zero begins tells = record {
  is_form = tells.0;
  text_is =
      leads.1.text_is ∙ ap (λ n. 32 ∷ (frac_text n ++ behind)) (sym tells.1)
      ∙ ap (λ t. 32 ∷ (frac_text form.constant ++ t)) (stops.text_is ∙ ap (λ ws. words nonzero_text ws ++ after) tells.2
      ∙ ap (λ a. words nonzero_text (words_of form.terms) ++ a) zero)
      ∙ sym (form_words form rest);
  begins = begins;
}

-- a text that leads to no number begins with no form
pub no_number_first : (text : List ℕ) → LeadsToNone IsLowest frac_text text → BeginsWithNoForm text
no_number_first text none form rest h = none form.constant (after_number text rest form h) (leads_to_number text rest form h)

-- nor does one in which no 0 follows what is read as terms
pub no_zero_behind : (text behind after : List ℕ) (number : Ratio) (told : List Nonzero) → LeadsToItem IsLowest frac_text text number behind → All IsNonzero told
    → StopsAfter IsNonzero nonzero_text behind told after → ((rest : List ℕ) → BeginsWith 32 rest → after ≡ 32 ∷ 48 ∷ rest → ⊥) → BeginsWithNoForm text
no_zero_behind text behind after number told leads stand stops none form rest h =
    none rest h.begins (same_after text rest form h number behind leads told after stand stops)

-- or in which what is read tells no form
pub no_form_told : (text behind after : List ℕ) (number : Ratio) (told : List Nonzero) → LeadsToItem IsLowest frac_text text number behind → All IsNonzero told
    → StopsAfter IsNonzero nonzero_text behind told after → TellForm number told None → BeginsWithNoForm text
no_form_told text behind after number told leads stand stops none form rest h =
    none form h.is_form (same_number text rest form h number behind leads) (same_words text rest form h number behind leads told after stand stops)

-- what terms tell, where their words are read
pub form_told : (number : Ratio) (told : List Nonzero) (terms : List (ℕ × Ratio)) (o : Option FormParts) → told ≡ words_of terms
    → IsFormOf (record { constant = number; terms = terms }) o → TellForm number told o
form_told number told terms (Some form) is h =
    (h.0, ap (λ (f : FormParts). f.constant) h.1, is ∙ ap (λ (f : FormParts). words_of f.terms) (sym h.1))
form_told number told terms None is h = λ form ok same e.
    h (subst IsForm (ap (λ c. record { constant = c; terms = form.terms }) same ∙ ap (λ ts. record { constant = number; terms = ts }) (sym (words_tell terms form.terms (sym is ∙ e)))) ok)

-- a text begins with one form
pub one_form : (text r s : List ℕ) (a b : FormParts) → BeginsWithForm text a r → BeginsWithForm text b s → (a ≡ b) × (r ≡ s)
one_form text r s a b h k =
    let leads = leads_to_number text r a h in
    let behind = words nonzero_text (words_of a.terms) ++ 32 ∷ 48 ∷ r in
    let stops : StopsAfter IsNonzero nonzero_text behind (words_of a.terms) (32 ∷ 48 ∷ r) =
    record { text_is = refl; begins = λ e. zero_begins r; no_more = none_at_zero r h.begins } in
    let number = same_number text s b k a.constant behind leads in
    let after : 32 ∷ 48 ∷ r ≡ 32 ∷ 48 ∷ s = same_after text s b k a.constant behind leads (words_of a.terms) (32 ∷ 48 ∷ r) (form_stands a h.is_form) stops in
    let terms = words_tell a.terms b.terms (same_words text s b k a.constant behind leads (words_of a.terms) (32 ∷ 48 ∷ r) (form_stands a h.is_form) stops) in
    let tails : r ≡ s = cc in
    (same_form a b (sym number) terms, tails)
  where
    same_form : (a b : FormParts) → a.constant ≡ b.constant → a.terms ≡ b.terms → a ≡ b
    same_form a b e f = ap (λ c. record { constant = c; terms = a.terms }) e ∙ ap (λ ts. record { constant = b.constant; terms = ts }) f
