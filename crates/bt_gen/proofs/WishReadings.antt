-- Reading the names of a wish one by one.
use Rattle.std.proofs.Common.{◌≡◌, ℕ, ◌<◌, true, false, List, [], ◌∷◌, ◌++◌, length, Some, None, refl, sym, ◌∙◌, ap, subst, arith, length-append}
use Rattle.std.specs.Prelude.{MatchOption}
use Rattle.std.specs.declared.option.Option.{Option}
use Rattle.bt_flow.specs.declared.property.Property.{Property}
use Rattle.bt_flow.specs.Names.{property_name}
use Rattle.bt_text.specs.Lines.{Lacks, SplitsAt}
use Rattle.bt_text.proofs.FirstLines.{split_apart, SplitsAt-lacks}
use Rattle.bt_gen.specs.declared.wish.Wish.{Wish}
use Rattle.bt_gen.specs.Wishes.{Becomes, IsWishWord, names_text, nothing_wished, wishes_for, with_property}
use Rattle.bt_gen.specs.inner.WishReading.{Adds, LeadsTo, Reads}
use Rattle.bt_gen.proofs.WishWords.{same_property, name_lacks}

-- at the front the whole word is the rest
pub leads_at_first : (word : List ℕ) → LeadsTo word nothing_wished word
leads_at_first word = record { there = λ w r. r; back = λ w r. r }

-- where a comma stands in what is read, a name stands before it, and names behind it
pub record Parted (v : Wish) (name behind : List ℕ) (w : Wish) : Type 0 where
  pub p : Property
  pub is_name : name ≡ property_name p
  pub is_new : wishes_for v p ≡ false
  pub after : Reads (with_property v p) behind w

pub parted : (v w : Wish) (rest name behind : List ℕ) → SplitsAt 44 rest name behind → Reads v rest w → Parted v name behind w
parted v w rest name behind s (p, [], e, r) = absurd (SplitsAt-lacks s (subst (Lacks 44) (sym e) (name_lacks p)))
parted v w rest name behind s (p, q ∷ more, e, (new, r)) =
    let same = split_apart 44 (property_name p) name (names_text q more) behind (name_lacks p) s.first (sym e ∙ s.text_is) in
    record { p = p; is_name = sym same.0; is_new = new; after = (q, more, sym same.1, r) }

-- one name more was read
pub leads_on : (word rest name behind : List ℕ) (v now : Wish) → LeadsTo word v rest → SplitsAt 44 rest name behind → Adds v name now → LeadsTo word now behind
leads_on word rest name behind v now leads s (p, e, new, is) = record {
  there = λ w h.
      let r = parted v w rest name behind s (leads.there w h) in
      let same = same_property r.p p (sym r.is_name ∙ e) in
      subst (λ x. Reads x behind w) (ap (λ q. with_property v q) same ∙ sym is) r.after;
  back = λ w r.
      leads.back w (p, r.0 ∷ r.1, s.text_is ∙ ap (λ x. x ++ 44 ∷ behind) e ∙ ap (λ x. property_name p ++ 44 ∷ x) r.2, (new, subst (λ x. Becomes x (r.0 ∷ r.1) w) is r.3));
}

-- a name that can't be added is in no word for a wish
pub no_place : (word rest name behind : List ℕ) (v : Wish) → LeadsTo word v rest → SplitsAt 44 rest name behind → ((w : Wish) → Adds v name w → ⊥) → (w : Wish)
    → IsWishWord w word → ⊥
no_place word rest name behind v leads s none w h =
    let r = parted v w rest name behind s (leads.there w h) in none (with_property v r.p) (r.p, r.is_name, r.is_new, refl)

-- without a comma one name is left
pub last_name : (word rest : List ℕ) (v : Wish) (o : Option Wish) → LeadsTo word v rest → Lacks 44 rest
    → MatchOption o ((w : Wish) → Adds v rest w → ⊥) (λ w. Adds v rest w) → MatchOption o ((w : Wish) → IsWishWord w word → ⊥) (λ w. IsWishWord w word)
last_name word rest v (Some w) leads lacking (p, e, new, is) = leads.back w (p, [], e, (new, sym is))
last_name word rest v None leads lacking none = λ w h. one_left w (leads.there w h)
  where
    one_left : (w : Wish) → Reads v rest w → ⊥
    one_left w (p, [], e, (new, is)) = none w (p, e, new, sym is)
    one_left w (p, q ∷ more, e, r) =
        let s : SplitsAt 44 rest (property_name p) (names_text q more) = record { first = name_lacks p; text_is = e } in SplitsAt-lacks s lacking

-- what stands behind a comma is shorter
pub shorter : (rest name behind : List ℕ) → SplitsAt 44 rest name behind → length behind < length rest
shorter rest name behind s = omega (arith, ap (λ x. length x) s.text_is, length-append name (44 ∷ behind))

-- a name that is wished for already can't be added
pub known : (v : Wish) (name : List ℕ) (p : Property) → name ≡ property_name p → wishes_for v p ≡ true → (w : Wish) → Adds v name w → ⊥
known v name p e is w (q, f, new, at) = let same = same_property q p (sym f ∙ e) in let clash : true ≡ false = sym is ∙ sym (ap (λ x. wishes_for v x) same) ∙ new in cc
