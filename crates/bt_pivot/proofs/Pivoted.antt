-- A pivot keeps the solved form.
use Rattle.std.proofs.Common.{◌≡◌, ◌≢◌, ◌+◌, ◌<◌, arith, true, false, if◌then◌else◌, ◌==◌, suc, sum_by, set, get_or, length-set, List, ◌∷◌, length, Option, Some, None, ap, sym, ◌∙◌, refl, subst, ◌⊎◌, inl, inr, ℕ, []}
use Rattle.std.specs.List.{All}
use Rattle.std.proofs.lemmas.Bool.{cases_lt}
use Rattle.std.proofs.lemmas.Bool.Decides.{nat_tests}
use Rattle.std.proofs.lemmas.List.{get_or_past, get_or-set_same, get_or-set_other}
use Rattle.std.proofs.lemmas.List.Sums.{sum_by-set, sum_by-cons}
use Rattle.std.proofs.lemmas.List.Elements.{All-cons, All-nil}
use Rattle.bt_frac.specs.Ratio.{Ratio, SameRatio, IsLowest, negated}
use Rattle.bt_frac.specs.Rows.{RowParts, IsRow}
use Rattle.bt_frac.specs.Values.{AreValues, nothing, plus, times}
use Rattle.bt_farkas.specs.WeightedRows.{coefficient_at}
use Rattle.bt_linear_forms.specs.Lines.{one, Terms, HasNumber, IsLine, IsCombination, total}
use Rattle.bt_pivot.specs.SolvedForms.{Slots, slot_at, basis_from, basis_of, at_position, IsOutside, IsSolvedForm}
use Rattle.bt_linear_forms.specs.Substituting.{IsSubstituted}
use Rattle.bt_pivot.specs.PivotedSlots.{IsPivoted}
use Rattle.bt_linear_forms.proofs.Numbers.{Positive, zero_alike, Alike, alike, itself, back, next, both_plus, both_times, times_positive, differ_none, adds_none}
use Rattle.bt_pivot.proofs.Denominators.{stands_some}
use Rattle.bt_linear_forms.proofs.Totals.{total_positive}
use Rattle.bt_linear_forms.proofs.Indicators.{LacksPosition, decide, indicator, indicator_some, having_total, total_at, none_lacks, zero_lacks, over_zero_of, combination_lacks, number_has}
use Rattle.bt_linear_forms.proofs.Zeros as zeros
use Rattle.bt_linear_forms.proofs.Zeros.{one_some, one_term, combined_alike, plus_none, one_times, one_lowest, one_number, minus_one, named_has, named_or_lacks, all_from, total_along}

-- what a changed slot was before
changed_from : (enters : ℕ) (zero : Terms) (old new : Option Terms) (terms' : Terms) → IsSubstituted enters zero old new → new ≡ Some terms'
    → (terms : Terms) × (old ≡ Some terms)
    × (((coefficient_at enters terms ≡ None) × (terms' ≡ terms)) ⊎ ((number : Ratio) × (coefficient_at enters terms ≡ Some number) × IsLine terms' × IsCombination terms number zero terms'))
changed_from enters zero None new terms' is e = absurd cc
changed_from enters zero (Some terms) new terms' (inl h) e = let same : Some terms' ≡ Some terms = sym e ∙ h.1 in (terms, refl, inl (h.0, cc))
changed_from enters zero (Some terms) new terms' (inr h) e =
    let same : Some h.2.0 ≡ Some terms' = sym h.2.1 ∙ e in
    let terms_is : h.2.0 ≡ terms' = cc in (
      terms,
      refl,
      inr (h.0, h.1, subst (λ l. IsLine l) terms_is h.2.2, subst (λ l. IsCombination terms h.0 zero l) terms_is h.2.3),
    )

module _ (slots : Slots) (leaves enters : ℕ) (slots' : Slots) (pivot : IsPivoted slots leaves enters slots') (apart : leaves ≢ enters)
    (line : IsLine pivot.terms) (outside : All (λ t. IsOutside slots t.0) pivot.terms) where
  number_some : HasNumber (enters, pivot.number)
  number_some = zeros.number_some leaves enters pivot.terms pivot.number pivot.zero pivot.is_zero apart line pivot.is_number

  alone : All HasNumber ((leaves, pivot.is_zero.share) ∷ [])
  alone = zeros.alone leaves enters pivot.terms pivot.number pivot.zero pivot.is_zero apart line pivot.is_number

  -- the line is 0 where the leaving one holds
  zero_none : (at : ℕ → Ratio) → AreValues at → SameRatio (at leaves) (total at pivot.terms) → Alike (total at pivot.zero) nothing
  zero_none = zeros.zero_none leaves enters pivot.terms pivot.number pivot.zero pivot.is_zero apart line pivot.is_number

  -- and only there
  leaving_holds : (at : ℕ → Ratio) → AreValues at → Alike (total at pivot.zero) nothing → Alike (at leaves) (total at pivot.terms)
  leaving_holds = zeros.leaving_holds leaves enters pivot.terms pivot.number pivot.zero pivot.is_zero apart line pivot.is_number

  -- the line has its number -1 at the entering position
  zero_at : Alike (total (indicator enters) pivot.zero) (negated one)
  zero_at = zeros.zero_at leaves enters pivot.terms pivot.number pivot.zero pivot.is_zero apart line pivot.is_number

  -- what has a number times the line added to it lacks the entering position
  cancelled : (left : Terms) (number : Ratio) (terms' : Terms) → IsLowest number → All HasNumber left → IsLine terms' → IsCombination left number pivot.zero terms'
      → Alike (total (indicator enters) left) number → LacksPosition enters terms'
  cancelled left number terms' low all line' is has =
      let some = low.positive in
      let product : Alike (times number (total (indicator enters) pivot.zero)) (negated number) = next (both_times (itself number some) zero_at) (minus_one number some) in
      zero_lacks enters 0 terms' line'
      (over_zero_of (total (indicator enters) terms') (plus number (negated number))
      (next (combined_alike (indicator enters) (indicator_some enters) left number pivot.zero terms' some all pivot.is_zero.line.numbers line' is) (both_plus has product))
      (differ_none number number refl))

  entering_alone : All HasNumber ((enters, one) ∷ [])
  entering_alone = All-cons HasNumber (enters, one) [] (one_number enters) (All-nil HasNumber)

  entering_lacks : LacksPosition enters pivot.entering
  entering_lacks =
      cancelled ((enters, one) ∷ []) one pivot.entering one_lowest entering_alone pivot.is_entering.line pivot.is_entering.combination
      (having_total (enters, one) [] (one_number enters) (record { ascends = tt; numbers = All-nil HasNumber }))

  pub leaves_within : leaves < length slots
  leaves_within = elim (cases_lt leaves (length slots)) [
    | inl within ↦ within
    | inr past ↦ let none = get_or_past slots leaves None past in let some = pivot.leaving in absurd cc
  ]

  -- the positions outside the new basis
  outside_after : (q : ℕ) → q ≢ enters → (q ≡ leaves) ⊎ IsOutside slots q → IsOutside slots' q
  outside_after q other (inl same) = record {
    within = subst (λ n. n < length slots') (sym same) (subst (λ n. leaves < n) (sym pivot.same_length) leaves_within);
    outside = ap (λ n. slot_at slots' n) same ∙ pivot.left;
  }
  outside_after q other (inr was) =
      let left : q ≢ leaves = λ same. let none = was.outside in let some = ap (λ n. slot_at slots n) same ∙ pivot.leaving in absurd cc in
      record {
        within = subst (λ n. q < n) (sym pivot.same_length) was.within;
        outside = subst (λ slot. IsSubstituted enters pivot.zero slot (slot_at slots' q)) was.outside (pivot.others q left other);
      }

  zero_named : All (λ t. (t.0 ≡ leaves) ⊎ IsOutside slots t.0) pivot.zero
  zero_named =
      all_from (λ q. (q ≡ leaves) ⊎ IsOutside slots q) pivot.zero
      (λ q. elim (decide leaves q) [
        | inl same ↦ inl (inl (sym same))
        | inr other ↦ elim (named_or_lacks (λ n. IsOutside slots n) q pivot.terms outside) [
          | inl was ↦ inl (inr was)
          | inr lacks ↦
              inr (combination_lacks q ((leaves, pivot.is_zero.share) ∷ []) (negated pivot.is_zero.share) pivot.terms pivot.zero pivot.is_zero.share_lowest.positive alone line.numbers pivot.is_zero.line
              pivot.is_zero.combination (All-cons (λ u. u.0 ≢ q) (leaves, pivot.is_zero.share) [] other (All-nil (λ u. u.0 ≢ q))) lacks)
        ]
      ])

  -- a combination with the line names only positions outside the new basis
  named_after : (left : Terms) (number : Ratio) (terms' : Terms) → Positive number → All HasNumber left → IsLine terms' → IsCombination left number pivot.zero terms' → LacksPosition enters terms'
      → All (λ t. (t.0 ≡ enters) ⊎ IsOutside slots t.0) left → All (λ t. IsOutside slots' t.0) terms'
  named_after left number terms' some all line' is lacks named =
      all_from (λ q. IsOutside slots' q) terms'
      (λ q. elim (decide q enters) [
        | inl same ↦ inr (subst (λ n. LacksPosition n terms') (sym same) lacks)
        | inr other ↦ elim (named_or_lacks (λ n. (n ≡ enters) ⊎ IsOutside slots n) q left named) [
          | inl has ↦ elim has [ inl same ↦ absurd (other same) | inr was ↦ inl (outside_after q other (inr was)) ]
          | inr lacks_left ↦ elim (named_or_lacks (λ n. (n ≡ leaves) ⊎ IsOutside slots n) q pivot.zero zero_named) [
            | inl has ↦ inl (outside_after q other has)
            | inr lacks_zero ↦ inr (combination_lacks q left number pivot.zero terms' some all pivot.is_zero.line.numbers line' is lacks_left lacks_zero)
          ]
        ]
      ])

  -- a line that stays lacks the entering position
  stayed_after : (terms : Terms) → coefficient_at enters terms ≡ None → All (λ t. IsOutside slots t.0) terms → All (λ t. IsOutside slots' t.0) terms
  stayed_after terms none named =
      all_from (λ q. IsOutside slots' q) terms
      (λ q. elim (decide q enters) [
        | inl same ↦ inr (subst (λ n. LacksPosition n terms) (sym same) (none_lacks enters terms none))
        | inr other ↦ elim (named_or_lacks (λ n. IsOutside slots n) q terms named) [ inl was ↦ inl (outside_after q other (inr was)) | inr lacks ↦ inr lacks ]
      ])

  entering_named : All (λ t. IsOutside slots' t.0) pivot.entering
  entering_named =
      named_after ((enters, one) ∷ []) one pivot.entering one_some entering_alone pivot.is_entering.line pivot.is_entering.combination entering_lacks
      (All-cons (λ t. (t.0 ≡ enters) ⊎ IsOutside slots t.0) (enters, one) [] (inl refl) (All-nil (λ t. (t.0 ≡ enters) ⊎ IsOutside slots t.0)))

  entering_is : (terms : Terms) → slot_at slots' enters ≡ Some terms → pivot.entering ≡ terms
  entering_is terms e = let same : Some pivot.entering ≡ Some terms = sym pivot.entered ∙ e in cc

  pub not_leaving : (p : ℕ) (terms : Terms) → slot_at slots' p ≡ Some terms → p ≢ leaves
  not_leaving p terms e same = let none = ap (λ n. slot_at slots' n) same ∙ pivot.left in absurd cc

  -- the line of a position that isn't the entering one, as it was
  pub was : (p : ℕ) (terms' : Terms) → p ≢ enters → slot_at slots' p ≡ Some terms' → (terms : Terms) × (slot_at slots p ≡ Some terms)
      × (((coefficient_at enters terms ≡ None) × (terms' ≡ terms)) ⊎ ((number : Ratio) × (coefficient_at enters terms ≡ Some number) × IsLine terms' × IsCombination terms number pivot.zero terms'))
  was p terms' other e = changed_from enters pivot.zero (slot_at slots p) (slot_at slots' p) terms' (pivot.others p (not_leaving p terms' e) other) e

  lines_after : ((p : ℕ) (terms : Terms) → slot_at slots p ≡ Some terms → IsLine terms × All (λ t. IsOutside slots t.0) terms)
      → (p : ℕ) (terms : Terms) → slot_at slots' p ≡ Some terms → IsLine terms × All (λ t. IsOutside slots' t.0) terms
  lines_after lines p terms' e = elim (decide p enters) [
    | inl same ↦
        let is = entering_is terms' (sym (ap (λ n. slot_at slots' n) same) ∙ e) in
        (subst (λ l. IsLine l) is pivot.is_entering.line, subst (λ l. All (λ t. IsOutside slots' t.0) l) is entering_named)
    | inr other ↦
        let old = was p terms' other e in
        let before = lines p old.0 old.1 in
        elim old.2 [
          | inl stays ↦
              (subst (λ l. IsLine l) (sym stays.1) before.0, subst (λ l. All (λ t. IsOutside slots' t.0) l) (sym stays.1) (stayed_after old.0 stays.0 before.1))
          | inr changed ↦
              let number = number_has enters old.0 (Some changed.0) before.0.numbers (sym changed.1) in (
                changed.2,
                named_after old.0 changed.0 terms' number.0.positive before.0.numbers changed.2 changed.3
                    (cancelled old.0 changed.0 terms' number.0 before.0.numbers changed.2 changed.3 (total_at enters 0 old.0 changed.0 before.0 changed.1))
                    (all_from (λ q. (q ≡ enters) ⊎ IsOutside slots q) old.0 (λ q. elim (named_or_lacks (λ n. IsOutside slots n) q old.0 before.1) [ inl o ↦ inl (inr o) | inr lacks ↦ inr lacks ])),
              )
        ]
  ]

  -- the entering line holds where the leaving one does
  entering_holds : (at : ℕ → Ratio) → AreValues at → SameRatio (at leaves) (total at pivot.terms) → Alike (at enters) (total at pivot.entering)
  entering_holds at values same =
      back (next (plus_none at values ((enters, one) ∷ []) one pivot.zero pivot.entering one_some entering_alone pivot.is_zero.line.numbers pivot.is_entering.line pivot.is_entering.combination
      (zero_none at values same)) (next (one_term at values enters one one_some) (one_times (at enters) (values enters))))

  holds_after : (at : ℕ → Ratio) → AreValues at → ((p : ℕ) (terms : Terms) → slot_at slots p ≡ Some terms → IsLine terms × All (λ t. IsOutside slots t.0) terms)
      → ((p : ℕ) (terms : Terms) → slot_at slots p ≡ Some terms → SameRatio (at p) (total at terms))
      → (p : ℕ) (terms : Terms) → slot_at slots' p ≡ Some terms → SameRatio (at p) (total at terms)
  holds_after at values lines holds p terms' e = elim (decide p enters) [
    | inl same ↦
        let is = entering_is terms' (sym (ap (λ n. slot_at slots' n) same) ∙ e) in
        subst (λ n. SameRatio (at n) (total at terms')) (sym same)
        (subst (λ l. SameRatio (at enters) (total at l)) is (entering_holds at values (holds leaves pivot.terms pivot.leaving)).same)
    | inr other ↦
        let old = was p terms' other e in
        let before = lines p old.0 old.1 in
        let held = holds p old.0 old.1 in
        elim old.2 [
          | inl stays ↦ subst (λ l. SameRatio (at p) (total at l)) (sym stays.1) held
          | inr changed ↦
              let number = number_has enters old.0 (Some changed.0) before.0.numbers (sym changed.1) in
              (next (alike (at p) (total at old.0) (values p) (total_positive at values old.0 before.0.numbers) held)
              (back (plus_none at values old.0 changed.0 pivot.zero terms' number.0.positive before.0.numbers pivot.is_zero.line.numbers changed.2 changed.3
              (zero_none at values (holds leaves pivot.terms pivot.leaving))))).same
        ]
  ]

  -- numbers outside the new basis, with what the entering line makes of them at the position that entered
  along : (ℕ → Ratio) → ℕ → Ratio
  along numbers q = if q == enters then total numbers pivot.entering else numbers q

  along_entering : (numbers : ℕ → Ratio) → along numbers enters ≡ total numbers pivot.entering
  unfolding along
  along_entering numbers = let test : (enters == enters) ≡ true = grind (arith, nat_tests) in ap (λ b. if b then total numbers pivot.entering else numbers enters) test

  along_other : (numbers : ℕ → Ratio) (q : ℕ) → q ≢ enters → along numbers q ≡ numbers q
  unfolding along
  along_other numbers q other = let test : (q == enters) ≡ false = grind (arith, nat_tests) in ap (λ b. if b then total numbers pivot.entering else numbers q) test

  along_some : (numbers : ℕ → Ratio) → AreValues numbers → AreValues (along numbers)
  along_some numbers values q = elim (decide q enters) [
    | inl same ↦ subst (λ n. Positive (along numbers n)) (sym same) (subst (λ r. Positive r) (sym (along_entering numbers)) (total_positive numbers values pivot.entering pivot.is_entering.line.numbers))
    | inr other ↦ subst (λ r. Positive r) (sym (along_other numbers q other)) (values q)
  ]

  -- they make the line 0
  along_zero : (numbers : ℕ → Ratio) → AreValues numbers → Alike (total (along numbers) pivot.zero) nothing
  along_zero numbers values =
      let at : ℕ → Ratio = along numbers in
      let some = along_some numbers values in
      let t = total_positive at some pivot.zero pivot.is_zero.line.numbers in
      let entered : Alike (total at pivot.entering) (total numbers pivot.entering) =
      total_along at numbers some values pivot.entering pivot.is_entering.line.numbers
      (all_from (λ q. Alike (at q) (numbers q)) pivot.entering
      (λ q. elim (decide q enters) [
        | inl same ↦ inr (subst (λ n. LacksPosition n pivot.entering) (sym same) entering_lacks)
        | inr other ↦ inl (subst (λ r. Alike r (numbers q)) (sym (along_other numbers q other)) (itself (numbers q) (values q)))
      ])) in
      let product = times_positive one (total at pivot.zero) one_some t in
      let sum : Alike (total at pivot.entering) (plus (at enters) (times one (total at pivot.zero))) =
      next (combined_alike at some ((enters, one) ∷ []) one pivot.zero pivot.entering one_some entering_alone pivot.is_zero.line.numbers pivot.is_entering.line pivot.is_entering.combination)
      (both_plus (next (one_term at some enters one one_some) (one_times (at enters) (some enters))) (itself (times one (total at pivot.zero)) product)) in
      let back_to : Alike (total numbers pivot.entering) (at enters) =
      subst (λ r. Alike (total numbers pivot.entering) r) (sym (along_entering numbers)) (itself (total numbers pivot.entering) entered.right) in
      let none = adds_none (at enters) (times one (total at pivot.zero)) (some enters) (next (back sum) (next entered back_to)).same in
      next (back (one_times (total at pivot.zero) t)) (zero_alike (times one (total at pivot.zero)) product none)

  -- any numbers can stand outside the new basis
  free_after : (at : ℕ → Ratio) → AreValues at → (numbers : ℕ → Ratio) → AreValues numbers → SameRatio (at leaves) (total at pivot.terms)
      → ((p : ℕ) → IsOutside slots p → SameRatio (at p) (along numbers p)) → (p : ℕ) → IsOutside slots' p → SameRatio (at p) (numbers p)
  free_after at values numbers some holds stands p out =
      let other : p ≢ enters = λ same. let none = out.outside in let has = ap (λ n. slot_at slots' n) same ∙ pivot.entered in absurd cc in
      elim (decide p leaves) [
        | inl same ↦
            let reach = along_some numbers some in
            let agree = total_along at (along numbers) values reach pivot.terms line.numbers
            (all_from (λ q. Alike (at q) (along numbers q)) pivot.terms
            (λ q. elim (named_or_lacks (λ n. IsOutside slots n) q pivot.terms outside) [
              | inl o ↦ inl (alike (at q) (along numbers q) (values q) (reach q) (stands q o))
              | inr lacks ↦ inr lacks
            ])) in
            let left : Alike (along numbers leaves) (total (along numbers) pivot.terms) = leaving_holds (along numbers) reach (along_zero numbers some) in
            let here = next (alike (at leaves) (total at pivot.terms) (values leaves) agree.left holds) (next agree (back left)) in
            subst (λ n. SameRatio (at n) (numbers n)) (sym same) (subst (λ r. SameRatio (at leaves) r) (along_other numbers leaves apart) here.same)
        | inr stays ↦
            let same : slot_at slots p ≡ None = was_none (slot_at slots p) (slot_at slots' p) (pivot.others p stays other) out.outside in
            subst (λ r. SameRatio (at p) r) (along_other numbers p other) (stands p (record { within = subst (λ n. p < n) pivot.same_length out.within; outside = same }))
      ]
    where
      was_none : (old new : Option Terms) → IsSubstituted enters pivot.zero old new → new ≡ None → old ≡ None
      was_none None new is e = refl
      was_none (Some terms) new (inl h) e = absurd (let f = h.1 in cc)
      was_none (Some terms) new (inr h) e = absurd (let f = h.2.1 in cc)

-- how many positions a slot adds to a basis
unfoldable pub weight : Option Terms → ℕ
weight None = 0
weight (Some terms) = 1

basis_length : (k : ℕ) (slots : Slots) → length (basis_from k slots) ≡ sum_by weight slots
unfolding weight
basis_length k [] = refl
basis_length k (None ∷ slots) =
    let rest = basis_length (k + 1) slots in
    let sum : sum_by weight (None ∷ slots) ≡ 0 + sum_by weight slots = sum_by-cons weight None slots in
    omega arith
basis_length k (Some terms ∷ slots) =
    let rest = basis_length (k + 1) slots in
    let sum : sum_by weight (Some terms ∷ slots) ≡ 1 + sum_by weight slots = sum_by-cons weight (Some terms) slots in
    omega arith

same_weights : (xs ys : Slots) → length xs ≡ length ys → ((p : ℕ) → weight (slot_at xs p) ≡ weight (slot_at ys p)) → sum_by weight xs ≡ sum_by weight ys
same_weights [] [] e h = refl
same_weights [] (y ∷ ys) e h = absurd (omega arith)
same_weights (x ∷ xs) [] e h = absurd (omega arith)
same_weights (x ∷ xs) (y ∷ ys) e h =
    let rest = same_weights xs ys (omega arith) (λ p. h (suc p)) in
    let here : weight x ≡ weight y = h 0 in
    let sum : sum_by weight (x ∷ xs) ≡ weight x + sum_by weight xs = sum_by-cons weight x xs in
    let sum' : sum_by weight (y ∷ ys) ≡ weight y + sum_by weight ys = sum_by-cons weight y ys in
    omega arith

substituted_weight : (enters : ℕ) (zero : Terms) (old new : Option Terms) → IsSubstituted enters zero old new → weight new ≡ weight old
unfolding weight
substituted_weight enters zero None new is = ap weight is
substituted_weight enters zero (Some terms) new (inl h) = ap weight h.1
substituted_weight enters zero (Some terms) new (inr h) = ap weight h.2.1

-- the new basis has as many positions
basis_after : (slots : Slots) (leaves enters : ℕ) (slots' : Slots) (pivot : IsPivoted slots leaves enters slots') → leaves ≢ enters → leaves < length slots → IsOutside slots enters
    → length (basis_of slots') ≡ length (basis_of slots)
unfolding weight
basis_after slots leaves enters slots' pivot apart within out =
    let left : Slots = set slots leaves None in
    let both : Slots = set left enters (Some pivot.entering) in
    let length_left : length left ≡ length slots = length-set slots leaves None in
    let length_both : length both ≡ length slots = length-set left enters (Some pivot.entering) ∙ length_left in
    let inside : enters < length left = let o = out.within in omega arith in
    let first = sum_by-set weight slots leaves None None within in
    let second = sum_by-set weight left enters (Some pivot.entering) None inside in
    let had : weight (get_or slots leaves None) ≡ 1 = ap weight pivot.leaving in
    let lacked : weight (get_or left enters None) ≡ 0 = ap weight (get_or-set_other slots leaves enters None None (λ e. apart (sym e)) ∙ out.outside) in
    let same : sum_by weight slots' ≡ sum_by weight both =
    same_weights slots' both (pivot.same_length ∙ sym length_both)
    (λ p. elim (decide p enters) [
      | inl e ↦
          subst (λ n. weight (slot_at slots' n) ≡ weight (slot_at both n)) (sym e)
          (ap weight pivot.entered ∙ sym (ap weight (get_or-set_same left enters (Some pivot.entering) None inside)))
      | inr other ↦ elim (decide p leaves) [
        | inl e ↦
            subst (λ n. weight (slot_at slots' n) ≡ weight (slot_at both n)) (sym e)
            (ap weight pivot.left ∙ sym (ap weight (get_or-set_other left enters leaves (Some pivot.entering) None apart ∙ get_or-set_same slots leaves None None within)))
        | inr stays ↦
            substituted_weight enters pivot.zero (slot_at slots p) (slot_at slots' p) (pivot.others p stays other)
            ∙ sym (ap weight (get_or-set_other left enters p (Some pivot.entering) None other ∙ get_or-set_other slots leaves p None None stays))
      ]
    ]) in
    let none : weight None ≡ 0 = refl in
    let one_more : weight (Some pivot.entering) ≡ 1 = refl in
    basis_length 0 slots' ∙ same ∙ (let count : sum_by weight both ≡ sum_by weight slots = omega arith in count) ∙ sym (basis_length 0 slots)

-- a pivot keeps the solved form
pub pivot_solves : (rows : List RowParts) (columns : ℕ) (slots : Slots) (leaves enters : ℕ) (slots' : Slots) → leaves ≢ enters → All IsRow rows → IsPivoted slots leaves enters slots'
    → IsSolvedForm rows columns slots → IsSolvedForm rows columns slots'
pivot_solves rows columns slots leaves enters slots' apart are_rows pivot form =
    let leaving = form.lines leaves pivot.terms pivot.leaving in
    let out : IsOutside slots enters = named_has (λ q. IsOutside slots q) enters pivot.terms pivot.number leaving.1 pivot.is_number in
    let within = leaves_within slots leaves enters slots' pivot apart leaving.0 leaving.1 in
    record {
      positions = pivot.same_length ∙ form.positions;
      basis = basis_after slots leaves enters slots' pivot apart within out ∙ form.basis;
      lines = lines_after slots leaves enters slots' pivot apart leaving.0 leaving.1 form.lines;
      holds = λ values some p terms e.
          holds_after slots leaves enters slots' pivot apart leaving.0 leaving.1 (at_position rows columns values) (stands_some rows columns are_rows values some) form.lines (form.holds values some) p terms e;
      free = λ numbers some.
          let reach = along_some slots leaves enters slots' pivot apart leaving.0 leaving.1 numbers some in
          let found = form.free (along slots leaves enters slots' pivot apart leaving.0 leaving.1 numbers) reach in (
            found.0,
            found.1,
            λ p o.
                free_after slots leaves enters slots' pivot apart leaving.0 leaving.1 (at_position rows columns found.0) (stands_some rows columns are_rows found.0 found.1) numbers some
                (form.holds found.0 found.1 leaves pivot.terms pivot.leaving) found.2 p o,
          );
    }
