-- What a byte is, from what it may be.
use Rattle.std.proofs.Common.{◌≡◌, ℕ, ◌≤◌, true, refl, arith}
use Rattle.std.proofs.lemmas.Bool.Decides.{nat_tests}
use Rattle.bt_json.specs.Grammar.{is_blank}
use Rattle.bt_json.specs.inner.Bytes.{kind_of}
use Rattle.bt_json.specs.declared.kind.Kind.TheVariants.{Blank, ListOpens, ListCloses, ObjectOpens, ObjectCloses, Comma, Colon, Quote, Minus, Digit, LetterT, LetterF, LetterN}

pub kind-ListOpens : (b : ℕ) → kind_of b ≡ ListOpens → b ≡ 91
unfolding kind_of
kind-ListOpens b e = grind (arith, nat_tests)

pub kind-Digit : (b : ℕ) → kind_of b ≡ Digit → (48 ≤ b) × (b ≤ 57)
unfolding kind_of
kind-Digit b e = grind (arith, nat_tests)

pub kind-LetterN : (b : ℕ) → kind_of b ≡ LetterN → b ≡ 110
unfolding kind_of
kind-LetterN b e = grind (arith, nat_tests)

pub kind-Blank : (b : ℕ) → kind_of b ≡ Blank → is_blank b ≡ true
unfolding kind_of
kind-Blank b e = grind (arith, nat_tests)

pub blank-kind : (b : ℕ) → is_blank b ≡ true → kind_of b ≡ Blank
unfolding kind_of
blank-kind b e = rw e refl

pub kind-ListCloses : (b : ℕ) → kind_of b ≡ ListCloses → b ≡ 93
unfolding kind_of
kind-ListCloses b e = grind (arith, nat_tests)

pub kind-ObjectOpens : (b : ℕ) → kind_of b ≡ ObjectOpens → b ≡ 123
unfolding kind_of
kind-ObjectOpens b e = grind (arith, nat_tests)

pub kind-ObjectCloses : (b : ℕ) → kind_of b ≡ ObjectCloses → b ≡ 125
unfolding kind_of
kind-ObjectCloses b e = grind (arith, nat_tests)

pub kind-Comma : (b : ℕ) → kind_of b ≡ Comma → b ≡ 44
unfolding kind_of
kind-Comma b e = grind (arith, nat_tests)

pub kind-Colon : (b : ℕ) → kind_of b ≡ Colon → b ≡ 58
unfolding kind_of
kind-Colon b e = grind (arith, nat_tests)

pub kind-Quote : (b : ℕ) → kind_of b ≡ Quote → b ≡ 34
unfolding kind_of
kind-Quote b e = grind (arith, nat_tests)

pub kind-Minus : (b : ℕ) → kind_of b ≡ Minus → b ≡ 45
unfolding kind_of
kind-Minus b e = grind (arith, nat_tests)

pub kind-LetterT : (b : ℕ) → kind_of b ≡ LetterT → b ≡ 116
unfolding kind_of
kind-LetterT b e = grind (arith, nat_tests)

pub kind-LetterF : (b : ℕ) → kind_of b ≡ LetterF → b ≡ 102
unfolding kind_of
kind-LetterF b e = grind (arith, nat_tests)

pub kind_of-list_opens : kind_of 91 ≡ ListOpens
unfolding kind_of
kind_of-list_opens = refl

pub kind_of-list_closes : kind_of 93 ≡ ListCloses
unfolding kind_of
kind_of-list_closes = refl

pub kind_of-object_opens : kind_of 123 ≡ ObjectOpens
unfolding kind_of
kind_of-object_opens = refl

pub kind_of-object_closes : kind_of 125 ≡ ObjectCloses
unfolding kind_of
kind_of-object_closes = refl

pub kind_of-comma : kind_of 44 ≡ Comma
unfolding kind_of
kind_of-comma = refl

pub kind_of-colon : kind_of 58 ≡ Colon
unfolding kind_of
kind_of-colon = refl

pub kind_of-quote : kind_of 34 ≡ Quote
unfolding kind_of
kind_of-quote = refl

pub kind_of-minus : kind_of 45 ≡ Minus
unfolding kind_of
kind_of-minus = refl

pub kind_of-t : kind_of 116 ≡ LetterT
unfolding kind_of
kind_of-t = refl

pub kind_of-f : kind_of 102 ≡ LetterF
unfolding kind_of
kind_of-f = refl

pub kind_of-n : kind_of 110 ≡ LetterN
unfolding kind_of
kind_of-n = refl
