-- Two right answers about a layout are equal.
use Rattle.std.proofs.Common.{◌≡◌, ℕ, List, Option, None, sym, ◌∙◌, ap, subst, ⊎_elim}
use Rattle.std.specs.Prelude.{Result, Ok, Err}
use Rattle.std.proofs.lemmas.Bool.{cases_order}
use Rattle.std.proofs.lemmas.List.{ext_get_or}
use Rattle.bt_text.specs.Answers.{UnlessMemory, Answers}
use Rattle.bt_text.proofs.OneAnswer.{answers_of}
use Rattle.bt_parts.specs.declared.part.Part.{Part}
use Rattle.bt_recover.specs.declared.grid.GridFault.{GridFault}
use Rattle.bt_recover.specs.declared.grid.GridFault.TheVariants as grid
use Rattle.bt_recover.specs.declared.pairing.PairFault.{PairFault}
use Rattle.bt_recover.specs.declared.pairing.PairFault.TheVariants as pair
use Rattle.bt_recover.specs.Placing.{IsFirstOverlap, IsPlaced}
use Rattle.bt_recover.specs.Pairing.{partner_of, ArePartners, IsFirstUnpaired, ArePairedAs}
use Rattle.bt_recover.proofs.PartnerLemmas.{option_cases}

-- two first overlaps have the same second part
same_second : (parts : List Part) (i j k l : ℕ) → IsFirstOverlap parts i j → IsFirstOverlap parts k l → j ≡ l
same_second parts i j k l f g =
    ⊎_elim (λ e. e)
    (λ apart. ⊎_elim (λ lt. absurd (g.none_before i j f.earlier lt f.shared)) (λ gt. absurd (f.none_before k l g.earlier gt g.shared)) apart)
    (cases_order j l)

-- and the same first one
same_first : (parts : List Part) (i j k : ℕ) → IsFirstOverlap parts i j → IsFirstOverlap parts k j → i ≡ k
same_first parts i j k f g =
    ⊎_elim (λ e. e)
    (λ apart. ⊎_elim (λ lt. absurd (g.least i lt f.shared)) (λ gt. absurd (f.least k gt g.shared)) apart)
    (cases_order i k)

one_overlap : (parts : List Part) (i j k l : ℕ) → IsFirstOverlap parts i j → IsFirstOverlap parts k l → grid.Overlap i j ≡ grid.Overlap k l
one_overlap parts i j k l f g =
    let second : j ≡ l = same_second parts i j k l f g in
    let first : i ≡ k = same_first parts i l k (subst (λ n. IsFirstOverlap parts i n) second f) g in
    ap (λ n. grid.Overlap i n) second ∙ ap (λ m. grid.Overlap m l) first

-- parts have one right answer where they are placed
pub one_placed : (parts : List Part) (a b : Result (List Part) GridFault) → IsPlaced parts a → IsPlaced parts b → a ≡ b
one_placed parts (Ok one) (Ok other) x y = ap Ok (x.0 ∙ sym y.0)
one_placed parts (Ok one) (Err (grid.Overlap i j)) x y = absurd (x.1 i j y.earlier y.shared)
one_placed parts (Ok one) (Err grid.Memory) x y = absurd y
one_placed parts (Err (grid.Overlap i j)) (Ok other) x y = absurd (y.1 i j x.earlier x.shared)
one_placed parts (Err (grid.Overlap i j)) (Err (grid.Overlap k l)) x y = ap Err (one_overlap parts i j k l x y)
one_placed parts (Err (grid.Overlap i j)) (Err grid.Memory) x y = absurd y
one_placed parts (Err grid.Memory) b x y = absurd x

pub placed_answers : (parts : List Part) (told : Result (List Part) GridFault) → UnlessMemory grid.Memory (IsPlaced parts) told → Answers grid.Memory (IsPlaced parts) told
placed_answers parts told right = answers_of grid.Memory (IsPlaced parts) (one_placed parts) told right

-- two lists of partners have the same for each index
same_partner : (parts : List Part) (a b : List (Option ℕ)) → ArePartners parts a → ArePartners parts b → (i : ℕ) → partner_of a i ≡ partner_of b i
same_partner parts a b x y i =
    ⊎_elim (λ none. none ∙ sym ((y.no_piece i).1 ((x.no_piece i).0 none)))
    (λ some. some.1 ∙ sym ((y.other_end i some.0).1 ((x.other_end i some.0).0 some.1)))
    (option_cases (partner_of a i))

one_list : (parts : List Part) (a b : List (Option ℕ)) → ArePartners parts a → ArePartners parts b → a ≡ b
one_list parts a b x y = ext_get_or None a b (x.count ∙ sym y.count) (λ i lt. same_partner parts a b x y i)

-- an underground piece in no pair has no partner
not_partners : (parts : List Part) (partners : List (Option ℕ)) (i : ℕ) → ArePartners parts partners → IsFirstUnpaired parts i → ⊥
not_partners parts partners i x u =
    ⊎_elim (λ none. (x.no_piece i).0 none u.unpaired.piece)
    (λ some. u.unpaired.alone some.0 ((x.other_end i some.0).0 some.1))
    (option_cases (partner_of partners i))

one_unpaired : (parts : List Part) (i j : ℕ) → IsFirstUnpaired parts i → IsFirstUnpaired parts j → i ≡ j
one_unpaired parts i j f g =
    ⊎_elim (λ e. e)
    (λ apart. ⊎_elim (λ lt. absurd (g.least i lt f.unpaired)) (λ gt. absurd (f.least j gt g.unpaired)) apart)
    (cases_order i j)

-- parts have one right answer where their underground pieces are paired
pub one_paired : (parts : List Part) (a b : Result (List (Option ℕ)) PairFault) → ArePairedAs parts a → ArePairedAs parts b → a ≡ b
one_paired parts (Ok one) (Ok other) x y = ap Ok (one_list parts one other x y)
one_paired parts (Ok one) (Err (pair.Unpaired i)) x y = absurd (not_partners parts one i x y)
one_paired parts (Ok one) (Err pair.Memory) x y = absurd y
one_paired parts (Err (pair.Unpaired i)) (Ok other) x y = absurd (not_partners parts other i y x)
one_paired parts (Err (pair.Unpaired i)) (Err (pair.Unpaired j)) x y = ap (λ n. Err (pair.Unpaired n)) (one_unpaired parts i j x y)
one_paired parts (Err (pair.Unpaired i)) (Err pair.Memory) x y = absurd y
one_paired parts (Err pair.Memory) b x y = absurd x

pub paired_answers : (parts : List Part) (told : Result (List (Option ℕ)) PairFault) → UnlessMemory pair.Memory (ArePairedAs parts) told → Answers pair.Memory (ArePairedAs parts) told
paired_answers parts told right = answers_of pair.Memory (ArePairedAs parts) (one_paired parts) told right
