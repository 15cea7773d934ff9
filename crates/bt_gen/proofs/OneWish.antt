-- A word is one wish at most, and begins with a letter.
use Rattle.std.proofs.Common.{◌≡◌, ℕ, ◌≤◌, List, [], ◌∷◌, ◌++◌, drop, refl, sym, ◌∙◌, ap, subst, arith}
use Rattle.std.specs.Prelude.{cond}
use Rattle.bt_flow.specs.declared.property.Property.{Property}
use Rattle.bt_flow.specs.declared.property.Property.TheVariants.{Balanced, DrawnEvenly, Unlimited, Full, Fair, DrawnFairly}
use Rattle.bt_flow.specs.Names.{property_name}
use Rattle.bt_text.specs.Lines.{SplitsAt}
use Rattle.bt_text.proofs.FirstLines.{split_apart, SplitsAt-lacks}
use Rattle.bt_gen.specs.declared.wish.Wish.{Wish}
use Rattle.bt_gen.specs.Wishes.{Becomes, IsWishWord, names_text, nothing_wished, only, with_property}
use Rattle.bt_gen.proofs.WishWords.{same_property, name_lacks}

-- a single name is no list of several
single_apart : (p q r : Property) (more : List Property) → names_text p [] ≡ names_text q (r ∷ more) → ⊥
single_apart p q r more e =
    let s : SplitsAt 44 (property_name p) (property_name q) (names_text r more) = record { first = name_lacks q; text_is = e } in SplitsAt-lacks s (name_lacks p)

-- names that are joined are one list
same_names : (p q : Property) (ps qs : List Property) → names_text p ps ≡ names_text q qs → (p ≡ q) × (ps ≡ qs)
same_names p q [] [] e = (same_property p q e, refl)
same_names p q [] (r ∷ qs) e = absurd (single_apart p q r qs e)
same_names p q (r ∷ ps) [] e = absurd (single_apart q p r ps (sym e))
same_names p q (r ∷ ps) (s ∷ qs) e =
    let same = split_apart 44 (property_name p) (property_name q) (names_text r ps) (names_text s qs) (name_lacks p) (name_lacks q) e in
    let rest = same_names r s ps qs same.1 in
    let first = rest.0 in
    let more = rest.1 in
    (same_property p q same.0, cc)

-- a list of properties makes one wish of another
one_becomes : (ps : List Property) (u v w : Wish) → Becomes u ps v → Becomes u ps w → v ≡ w
one_becomes [] u v w h k = sym h ∙ k
one_becomes (p ∷ ps) u v w h k = one_becomes ps (with_property u p) v w h.1 k.1

-- a word is one wish at most
pub same_wish : (v w : Wish) (word : List ℕ) → IsWishWord v word → IsWishWord w word → v ≡ w
same_wish v w word (p, ps, e, h) (q, qs, f, k) =
    let same = same_names p q ps qs (sym e ∙ f) in
    let first = same.0 in
    let more = same.1 in
    let lists : q ∷ qs ≡ p ∷ ps = cc in
    one_becomes (p ∷ ps) nothing_wished v w h (subst (λ x. Becomes nothing_wished x w) lists k)

-- the word begins with a small letter
pub record BeginsWithLetter (word : List ℕ) : Type 0 where
  pub byte : ℕ
  pub rest : List ℕ
  pub is : word ≡ byte ∷ rest
  pub low : 97 ≤ byte
  pub high : byte ≤ 122

name_begins : (p : Property) → BeginsWithLetter (property_name p)
name_begins Balanced = record { byte = 98; rest = drop 1 (property_name Balanced); is = refl; low = omega arith; high = omega arith }
name_begins DrawnEvenly = record { byte = 100; rest = drop 1 (property_name DrawnEvenly); is = refl; low = omega arith; high = omega arith }
name_begins Unlimited = record { byte = 117; rest = drop 1 (property_name Unlimited); is = refl; low = omega arith; high = omega arith }
name_begins Full = record { byte = 102; rest = drop 1 (property_name Full); is = refl; low = omega arith; high = omega arith }
name_begins Fair = record { byte = 102; rest = drop 1 (property_name Fair); is = refl; low = omega arith; high = omega arith }
name_begins DrawnFairly = record { byte = 100; rest = drop 1 (property_name DrawnFairly); is = refl; low = omega arith; high = omega arith }

names_begin : (p : Property) (ps : List Property) → BeginsWithLetter (names_text p ps)
names_begin p [] = name_begins p
names_begin p (q ∷ ps) =
    let b = name_begins p in
    record { byte = b.byte; rest = b.rest ++ 44 ∷ names_text q ps; is = ap (λ x. x ++ 44 ∷ names_text q ps) b.is; low = b.low; high = b.high }

pub begins_with_letter : (w : Wish) (word : List ℕ) → IsWishWord w word → BeginsWithLetter word
begins_with_letter w word (p, ps, e, h) = subst BeginsWithLetter (sym e) (names_begin p ps)

-- the first property of a wish
abbrev first_of : Wish → Property
first_of w = cond w.balanced Balanced (cond w.drawn_evenly DrawnEvenly (cond w.unlimited Unlimited (cond w.full Full (cond w.fair Fair DrawnFairly))))

first_only : (p : Property) → first_of (only p) ≡ p
first_only Balanced = refl
first_only DrawnEvenly = refl
first_only Unlimited = refl
first_only Full = refl
first_only Fair = refl
first_only DrawnFairly = refl

-- wishes for one property alone that are the same are for the same one
pub same_only : (p q : Property) → only p ≡ only q → p ≡ q
same_only p q e = sym (first_only p) ∙ ap first_of e ∙ first_only q
