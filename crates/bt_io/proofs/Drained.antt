-- A source of which bytes are taken and not kept.
use Rattle.std.proofs.Common.{◌≡◌, ℕ, ◌+◌, List, [], ◌++◌, length, Option, None, Some, refl, sym, ◌∙◌, ap, arith, length-append}
use Rattle.std.specs.Io.KnownBytes.{Consumes, Keeps}
use Rattle.std.proofs.KnownBytes.{Consumes-trans}

-- so many bytes were taken
pub record IsDrained (before after : Option (List ℕ)) (taken : ℕ) : Type 0 where
  pub bytes : List ℕ
  pub consumed : Consumes before after bytes
  pub many : length bytes ≡ taken

consumes_none : (left : Option (List ℕ)) → Consumes left left []
consumes_none None = tt
consumes_none (Some xs) = refl

pub drained_more : (before mid after : Option (List ℕ)) (taken n : ℕ) (piece : List ℕ) → IsDrained before mid taken → Consumes mid after piece → length piece ≡ n
    → IsDrained before after (taken + n)
drained_more before mid after taken n piece drained consumed many = record {
  bytes = drained.bytes ++ piece;
  consumed = Consumes-trans before mid after drained.bytes piece drained.consumed consumed;
  many = omega (arith, length-append drained.bytes piece, drained.many, many);
}

keeps_as : (before mid after : Option (List ℕ)) (bytes : List ℕ) → Consumes before mid bytes → Keeps mid after → Consumes before after bytes
keeps_as None mid after bytes p q = tt
keeps_as (Some xs) None after bytes p q = absurd p
keeps_as (Some xs) (Some ys) None bytes p q = absurd q
keeps_as (Some xs) (Some ys) (Some zs) bytes p q = p ∙ ap (λ t. bytes ++ t) (sym q)
