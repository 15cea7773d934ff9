-- The other ends of the pairs of a layout, one part after another.
use Rattle.std.proofs.Common.{◌≡◌, ◌↔◌, ◌⊎◌, ℕ, ◌+◌, ◌<◌, ◌≤◌, List, [], ◌∷◌, ◌++◌, length, length-append, get_or, Option, Some, None, refl, sym, ◌∙◌, ap, subst, inl, inr, ⊎_elim, arith}
use Rattle.std.proofs.lemmas.Option.{none-some, slice_get_within, slice_get-get_or}
use Rattle.std.proofs.lemmas.List.{get_or_push, get_or_append_left, get_or_past}
use Rattle.std.proofs.lemmas.Bool.{cases_lt}
use Rattle.bt_parts.specs.declared.part.Part.{Part}
use Rattle.bt_parts.specs.Layouts.{HasPart, IsUnderground, ArePaired, IsPieceAt}
use Rattle.bt_parts.proofs.Places.{same_part}
use Rattle.bt_parts.proofs.Pieces.{piece_if_paired}
use Rattle.bt_recover.specs.Pairing.{partner_of, ArePartners, IsFirstUnpaired}
use Rattle.bt_recover.specs.inner.Partners.{HasPartners}

-- one more part
pub more_partners : (parts : List Part) (partners : List (Option ℕ)) (n : ℕ) (partner : Option ℕ) → HasPartners parts partners n
    → ((j : ℕ) → (partner ≡ Some j) ↔ ArePaired parts n j) → (partner ≡ None → IsPieceAt parts n → ⊥)
    → HasPartners parts (partners ++ partner ∷ []) (n + 1)
more_partners parts partners n partner has paired alone =
    let before : (i : ℕ) → i < n → partner_of (partners ++ partner ∷ []) i ≡ partner_of partners i =
    λ i lt. get_or_append_left partners (partner ∷ []) None i (let c = has.count in omega arith) in
    let here : partner_of (partners ++ partner ∷ []) n ≡ partner = get_or_push partners partner None n has.count in
    record {
      count = length-append partners (partner ∷ []) ∙ ap (λ k. k + 1) has.count;
      other_end = λ i j lt. ⊎_elim
          (λ below. subst (λ o. (o ≡ Some j) ↔ ArePaired parts i j) (sym (before i below)) (has.other_end i j below))
          (λ above. let same : i ≡ n = omega arith in
          subst (λ k. (partner_of (partners ++ partner ∷ []) k ≡ Some j) ↔ ArePaired parts k j) (sym same)
          (subst (λ o. (o ≡ Some j) ↔ ArePaired parts n j) (sym here) (paired j)))
          (cases_lt i n);
      none_alone = λ i lt none piece. ⊎_elim
          (λ below. has.none_alone i below (sym (before i below) ∙ none) piece)
          (λ above. let same : i ≡ n = omega arith in
          alone (sym here ∙ subst (λ k. partner_of (partners ++ partner ∷ []) k ≡ None) same none) (subst (λ k. IsPieceAt parts k) same piece))
          (cases_lt i n);
    }

-- there is a number or none
pub option_cases : (o : Option ℕ) → (o ≡ None) ⊎ ((j : ℕ) × (o ≡ Some j))
option_cases None = inl refl
option_cases (Some j) = inr (j, refl)

-- all parts
pub all_partners : (parts : List Part) (partners : List (Option ℕ)) → HasPartners parts partners (length parts) → ArePartners parts partners
all_partners parts partners has =
    let past : (i : ℕ) → length parts ≤ i → partner_of partners i ≡ None =
    λ i le. get_or_past partners i None (let c = has.count in omega arith) in
    let other_end : (i j : ℕ) → (partner_of partners i ≡ Some j) ↔ ArePaired parts i j = λ i j. (
      λ e. ⊎_elim (λ below. (has.other_end i j below).0 e) (λ above. absurd (none-some j (sym (past i above) ∙ e))) (cases_lt i (length parts)),
      λ p. let piece = piece_if_paired parts i j p in (has.other_end i j (slice_get_within parts i piece.0 piece.1)).1 p,
    ) in
    record {
      count = has.count;
      other_end = other_end;
      no_piece = λ i. (
        λ none piece. has.none_alone i (slice_get_within parts i piece.0 piece.1) none piece,
        λ off. ⊎_elim (λ none. none) (λ some. absurd (off (piece_if_paired parts i some.0 ((other_end i some.0).0 some.1))))
            (option_cases (partner_of partners i)),
      );
    }

-- the first part that is an underground piece with no other end
pub first_unpaired : (parts : List Part) (partners : List (Option ℕ)) (n : ℕ) (part : Part) → HasPartners parts partners n
    → HasPart parts n part → IsUnderground part → ((j : ℕ) → (None ≡ Some j) ↔ ArePaired parts n j) → IsFirstUnpaired parts n
first_unpaired parts partners n part has here under paired = record {
  unpaired = record { piece = (part, here, under); alone = λ j p. none-some j ((paired j).1 p) };
  least = λ i lt u. ⊎_elim (λ none. has.none_alone i lt none u.piece) (λ some. u.alone some.0 ((has.other_end i some.0 lt).0 some.1))
      (option_cases (partner_of partners i));
}

-- a part that is read from the list
pub read_part : (parts shown : List Part) (i : ℕ) (d : Part) → shown ≡ parts → i < length shown → HasPart parts i (get_or shown i d)
read_part parts shown i d e lt = subst (λ l. HasPart l i (get_or shown i d)) e (slice_get-get_or shown i d lt)

-- a part with a partner, or one that is no underground piece, isn't alone
pub not_alone : (parts : List Part) (i : ℕ) (part : Part) (partner : Option ℕ) → HasPart parts i part
    → ((partner ≡ None) × IsUnderground part → ⊥) → partner ≡ None → IsPieceAt parts i → ⊥
not_alone parts i part partner here off none piece = off (none, subst IsUnderground (same_part parts i piece.0 part piece.1 here) piece.2)
