-- Which splitter of a stage has a line.
use Rattle.std.proofs.Common.{◌≡◌, ℕ, ◌+◌, ◌*◌, ◌/◌, ◌%◌, ◌^◌, ◌<◌, ◌⊎◌, sym, inl, inr, ⊎_elim, arith}
use Rattle.std.specs.Prelude.{◌↔◌, ◌-◌}
use Rattle.std.proofs.lemmas.Bool.{cases_lt}
use Rattle.std.proofs.lemmas.Grind.{pow_more}
use Rattle.std.proofs.lemmas.Nat.{div-add-mod', div-mul-add, mod-mul-add, mod_below, pow_pos}
use Rattle.bt_gen.specs.Butterfly.{HasLine, place_with_line}

module _ (w : ℕ) (positive : 0 < w) where
  -- the quotient and the rest of a lesser line
  pub of_lesser : (q r : ℕ) → r < w → ((q * (w + w) + r) / (w + w) ≡ q) × ((q * (w + w) + r) % w ≡ r)
  of_lesser q r small =
      let e : q * (w + w) + r ≡ (q + q) * w + r = omega arith in
      (div-mul-add q (w + w) r (omega arith), rw e (mod-mul-add (q + q) w r small))

  -- those of a greater line
  pub of_greater : (q r : ℕ) → r < w → ((q * (w + w) + r + w) / (w + w) ≡ q) × ((q * (w + w) + r + w) % w ≡ r)
  of_greater q r small =
      let e : q * (w + w) + r + w ≡ (q + q + 1) * w + r = omega arith in
      let f : q * (w + w) + r + w ≡ q * (w + w) + (r + w) = omega arith in
      (rw f (div-mul-add q (w + w) (r + w) (omega arith)), rw e (mod-mul-add (q + q + 1) w r small))

  place_is : (p l : ℕ) → l / (w + w) ≡ p / w → l % w ≡ p % w → p ≡ l / (w + w) * w + l % w
  place_is p l q r = rw (q, r) (sym (div-add-mod' p w))

  -- a splitter that has a line is at the line's place
  pub place_of : (p l : ℕ) → (l ≡ p / w * (w + w) + p % w) ⊎ (l ≡ p / w * (w + w) + p % w + w) → p ≡ l / (w + w) * w + l % w
  place_of p l (inl is) =
      let parts = of_lesser (p / w) (p % w) (mod_below p w positive) in
      place_is p l (rw is parts.0) (rw is parts.1)
  place_of p l (inr is) =
      let parts = of_greater (p / w) (p % w) (mod_below p w positive) in
      place_is p l (rw is parts.0) (rw is parts.1)

  lesser_or_greater : (q rest l : ℕ) → l ≡ q * (w + w) + rest → rest < w + w → (l ≡ q * (w + w) + l % w) ⊎ (l ≡ q * (w + w) + l % w + w)
  lesser_or_greater q rest l is small =
      ⊎_elim
      (λ below. let same : l % w ≡ rest = rw is (of_lesser q rest below).1 in inl (omega (arith, is, same)))
      (λ above.
      let split : l ≡ q * (w + w) + (rest - w) + w = omega (arith, is, above) in
      let same : l % w ≡ rest - w = rw split (of_greater q (rest - w) (omega (arith, small, above))).1 in
      inr (omega (arith, is, same, above)))
      (cases_lt rest w)

  -- the splitter at a line's place has the line
  pub line_of : (p l : ℕ) → p ≡ l / (w + w) * w + l % w → (l ≡ p / w * (w + w) + p % w) ⊎ (l ≡ p / w * (w + w) + p % w + w)
  line_of p l is =
      let quotient : p / w ≡ l / (w + w) = rw is (div-mul-add (l / (w + w)) w (l % w) (mod_below l w positive)) in
      let rest : p % w ≡ l % w = rw is (mod-mul-add (l / (w + w)) w (l % w) (mod_below l w positive)) in
      rw (quotient, rest) (lesser_or_greater (l / (w + w)) (l % (w + w)) l (sym (div-add-mod' l (w + w))) (mod_below l (w + w) (omega arith)))

pub double : (stage : ℕ) → 2 ^ (stage + 1) ≡ 2 ^ stage + 2 ^ stage
double stage = omega (arith, pow_more 2 stage)

-- each line is that of one splitter of a stage
pub one_place : (stage place line : ℕ) → HasLine stage place line ↔ (place ≡ place_with_line stage line)
one_place stage place line = rw (double stage) (place_of (2 ^ stage) (pow_pos stage) place line, line_of (2 ^ stage) (pow_pos stage) place line)
