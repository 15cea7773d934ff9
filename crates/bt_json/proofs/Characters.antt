-- The bytes of one character.
use Rattle.std.proofs.Common.{◌≡◌, ℕ, ◌+◌, ◌-◌, ◌*◌, ◌/◌, ◌%◌, ◌<◌, ◌≤◌, List, [], ◌∷◌, Some, refl, ap₂, ◌∙◌, subst, arith, IsUtf8, inl, inr}
use Rattle.std.proofs.lemmas.Bool.Decides.{nat_tests}
use Rattle.std.proofs.lemmas.Bool.{lt-ltb, le-ltb, cases_lt}
use Rattle.std.specs.Char.{IsScalar, encode_utf8}
use Rattle.std.proofs.lemmas.Str.{IsUtf8-encode}
use lib.Utf8.{encode, low_scalar}
use Rattle.bt_json.specs.inner.Reading.{tail, lead_of}

-- a character of several bytes
pub record IsWide (bytes : List ℕ) : Type 0 where
  pub char : ℕ
  pub is_scalar : IsScalar char
  pub wide : 128 ≤ char
  pub spelled : encode_utf8 char ≡ bytes

two_from : (a low top : ℕ) → lead_of a ≡ Some (tail low top 0) → (194 ≤ a) × (a ≤ 223) × (low ≡ 128) × (top ≡ 191)
unfolding lead_of
two_from a low top e = grind (arith, nat_tests)

pub record Three (a b : ℕ) : Type 0 where
  pub lead : 224 ≤ a
  pub lead_top : a ≤ 239
  pub low : 128 ≤ b
  pub top : b ≤ 191
  pub long : a ≡ 224 → 160 ≤ b
  pub no_surrogate : a ≡ 237 → b ≤ 159

three_from : (a b low top : ℕ) → lead_of a ≡ Some (tail low top 1) → low ≤ b → b ≤ top → Three a b
unfolding lead_of
three_from a b low top e l t = record {
  lead = grind (arith, nat_tests);
  lead_top = grind (arith, nat_tests);
  low = grind (arith, nat_tests);
  top = grind (arith, nat_tests);
  long = λ h. grind (arith, nat_tests);
  no_surrogate = λ h. grind (arith, nat_tests);
}

pub record Four (a b : ℕ) : Type 0 where
  pub lead : 240 ≤ a
  pub lead_top : a ≤ 244
  pub low : 128 ≤ b
  pub top : b ≤ 191
  pub long : a ≡ 240 → 144 ≤ b
  pub last : a ≡ 244 → b ≤ 143

four_from : (a b low top : ℕ) → lead_of a ≡ Some (tail low top 2) → low ≤ b → b ≤ top → Four a b
unfolding lead_of
four_from a b low top e l t = record {
  lead = grind (arith, nat_tests);
  lead_top = grind (arith, nat_tests);
  low = grind (arith, nat_tests);
  top = grind (arith, nat_tests);
  long = λ h. grind (arith, nat_tests);
  last = λ h. grind (arith, nat_tests);
}

pub more_than : (a low top more : ℕ) → lead_of a ≡ Some (tail low top more) → more ≤ 2
unfolding lead_of
more_than a low top more e = grind (arith, nat_tests)

pub encode_two : (c : ℕ) → 128 ≤ c → c < 2048 → encode c ≡ (192 + c / 64) ∷ (128 + c % 64) ∷ []
unfolding encode
encode_two c lo hi = rw (le-ltb c 128 lo, lt-ltb c 2048 hi) refl

pub encode_three : (c : ℕ) → 2048 ≤ c → c < 65536 → encode c ≡ (224 + c / 4096) ∷ (128 + c / 64 % 64) ∷ (128 + c % 64) ∷ []
unfolding encode
encode_three c lo hi = let l : 128 ≤ c = omega arith in rw (le-ltb c 128 l, le-ltb c 2048 lo, lt-ltb c 65536 hi) refl

pub encode_four : (c : ℕ) → 65536 ≤ c → encode c ≡ (240 + c / 262144) ∷ (128 + c / 4096 % 64) ∷ (128 + c / 64 % 64) ∷ (128 + c % 64) ∷ []
unfolding encode
encode_four c lo = let l : 128 ≤ c = omega arith in let m : 2048 ≤ c = omega arith in rw (le-ltb c 128 l, le-ltb c 2048 m, le-ltb c 65536 lo) refl

pub scalar_low : (c : ℕ) → c < 55296 → IsScalar c
scalar_low c h = low_scalar c h

scalar_high : (c : ℕ) → 57344 ≤ c → c < 1114112 → IsScalar c
scalar_high c lo hi = grind (arith, nat_tests)

pub two_bytes : (a b low top : ℕ) → lead_of a ≡ Some (tail low top 0) → low ≤ b → b ≤ top → IsWide (a ∷ b ∷ [])
two_bytes a b low top e l t =
    let r = two_from a low top e in
    let c : ℕ = (a - 192) * 64 + (b - 128) in
    let lo : 128 ≤ c = omega arith in
    let hi : c < 2048 = omega arith in
    record {
      char = c;
      is_scalar = scalar_low c (omega arith);
      wide = lo;
      spelled = encode_two c lo hi ∙ ap₂ (λ (x y : ℕ). x ∷ y ∷ []) (omega arith) (omega arith);
    }

pub three_bytes : (a b d low top : ℕ) → lead_of a ≡ Some (tail low top 1) → low ≤ b → b ≤ top → 128 ≤ d → d ≤ 191 → IsWide (a ∷ b ∷ d ∷ [])
three_bytes a b d low top e l t dl dt =
    let r = three_from a b low top e l t in
    let n : ℕ = (a - 224) * 64 + (b - 128) in
    let c : ℕ = n * 64 + (d - 128) in
    let lo : 2048 ≤ c = elim (cases_lt 224 a) [ inl more ↦ let k = r.lead in let k2 = r.low in omega arith | inr no_more ↦ let k = r.lead in let eq : a ≡ 224 = omega arith in let k2 = r.long eq in omega arith ] in
    let hi : c < 65536 = let k = r.lead_top in let k2 = r.top in omega arith in
    let k = r.lead in let k2 = r.low in let k3 = r.top in
    let sc : IsScalar c = elim (cases_lt a 237) [
      | inl less ↦ scalar_low c (omega arith)
      | inr ge ↦ elim (cases_lt 237 a) [
        | inl more ↦ scalar_high c (omega arith) (omega arith)
        | inr no_more ↦ let eq : a ≡ 237 = omega arith in let k4 = r.no_surrogate eq in scalar_low c (omega arith)
      ]
    ] in
    let q1 : c / 64 ≡ n = omega arith in
    let q2 : c / 4096 ≡ a - 224 = omega arith in
    record {
      char = c;
      is_scalar = sc;
      wide = omega arith;
      spelled = encode_three c lo hi ∙ (λ i. (let p : 224 + c / 4096 ≡ a = omega arith in p) i ∷ (let p : 128 + c / 64 % 64 ≡ b = rw q1 (omega arith) in p) i ∷ (let p : 128 + c % 64 ≡ d = omega arith in p) i ∷ []);
    }

pub four_bytes : (a b d f low top : ℕ) → lead_of a ≡ Some (tail low top 2) → low ≤ b → b ≤ top → 128 ≤ d → d ≤ 191 → 128 ≤ f → f ≤ 191 → IsWide (a ∷ b ∷ d ∷ f ∷ [])
four_bytes a b d f low top e l t dl dt fl ft =
    let r = four_from a b low top e l t in
    let m : ℕ = (a - 240) * 64 + (b - 128) in
    let n : ℕ = m * 64 + (d - 128) in
    let c : ℕ = n * 64 + (f - 128) in
    let k = r.lead in let k2 = r.low in let k3 = r.top in let k4 = r.lead_top in
    let lo : 65536 ≤ c = elim (cases_lt 240 a) [ inl more ↦ omega arith | inr no_more ↦ let eq : a ≡ 240 = omega arith in let k5 = r.long eq in omega arith ] in
    let hi : c < 1114112 = elim (cases_lt a 244) [ inl less ↦ omega arith | inr ge ↦ let eq : a ≡ 244 = omega arith in let k5 = r.last eq in omega arith ] in
    let q1 : c / 64 ≡ n = omega arith in
    let q2 : c / 4096 ≡ m = omega arith in
    let q3 : c / 262144 ≡ a - 240 = omega arith in
    record {
      char = c;
      is_scalar = scalar_high c (omega arith) hi;
      wide = omega arith;
      spelled = encode_four c lo ∙ (λ i. (let p : 240 + c / 262144 ≡ a = omega arith in p) i ∷ (let p : 128 + c / 4096 % 64 ≡ b = rw q2 (omega arith) in p) i ∷ (let p : 128 + c / 64 % 64 ≡ d = rw q1 (omega arith) in p) i ∷ (let p : 128 + c % 64 ≡ f = omega arith in p) i ∷ []);
    }

pub wide_utf8 : (bytes : List ℕ) → IsWide bytes → IsUtf8 bytes
wide_utf8 bytes w = subst IsUtf8 w.spelled (IsUtf8-encode w.char w.is_scalar)
